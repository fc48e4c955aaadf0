-- "`opt_as_str` gives the token's own text, or the empty end of `code` if there is no token." A token is where it starts in its text, and how many
-- bytes it has; of one that would go past the end of its text, only what stands there is its own.
use Rattle.std.specs.Prelude.{ℕ, Option, Some, None, List, length, take, drop}
use Rattle.lexer.specs.declared.token.Token.{Token}

-- "the token's own text"
abbrev pub as_str : Token → List ℕ → List ℕ
as_str t text = take t.len (drop t.start text)

-- ".. or the empty end of `code` if there is no token"
abbrev pub opt_as_str : Option Token → List ℕ → List ℕ → List ℕ
opt_as_str (Some t) text code = as_str t text
opt_as_str None text code = drop (length code) code
