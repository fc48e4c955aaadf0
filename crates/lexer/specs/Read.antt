-- What reading from a place on comes to: where it stands then, the tokens and the errors in the order they arose in;
-- or that nesting is over what is allowed, with the place of the opener.
use Rattle.std.specs.Prelude.{ℕ, ◌-◌, List, [], ◌∷◌, ◌++◌}
use Rattle.lexer.specs.Token.{Token, Tokens, none, one, join, group, Expect, Error, missing}

pub data Read : Type 0 where
  read : ℕ → Tokens → List Error → Read
  deep : ℕ → Read

-- nothing was found on the way to a place
abbrev pub nothing : ℕ → Read
nothing at = read at none []

-- one token ends at a place
abbrev pub found : Token → ℕ → Read
found t at = read at (one t) []

-- at a place something else was expected, and reading goes on there
abbrev pub wrong : Expect → ℕ → Read
wrong x at = read at none (missing x at ∷ [])

-- these come first
unfoldable pub after : Tokens → List Error → Read → Read
after ts es (read at us fs) = read at (join ts us) (es ++ fs)
after ts es (deep p) = deep p

-- and then, from where it stands
unfoldable pub and_then : Read → (ℕ → Read) → Read
and_then (read at ts es) f = after ts es (f at)
and_then (deep p) f = deep p

-- what was read since a place, as the members of one token
unfoldable pub enclose : ℕ → ℕ → Read → Read
enclose tag start (read at ts es) = read at (one (group tag start (at - start) ts)) es
enclose tag start (deep p) = deep p
