-- Where tokens stand, and where errors are: the terms in which the theorems speak of them. Assumes nothing.
use mathlib.Core.List.{List, [], ◌∷◌}
use Prim.Native.Nat.{ℕ, ◌+◌, ◌≤◌}
use Rattle.lexer.specs.Read.{Read, read, deep}
use Rattle.lexer.specs.Token.{Token, Tokens, leaf, char, group, none, more, Error}

-- the place behind a token; a character has no place of its own, so what follows it follows what was before
abbrev pub behind : Token → ℕ → ℕ
behind (leaf tag start size) a = start + size
behind (char c) a = a
behind (group tag start size ts) a = start + size

-- a token has at least one byte, all of them from the place a on and before the place b, and what is inside it stands behind its opener, before its end.
-- A row stands so if its first token does, and the others from behind that token on.
unfoldable mutual
  pub Lies : Token → ℕ → ℕ → Type 0
  Lies (leaf tag start size) a b = (a ≤ start) × (1 ≤ size) × (start + size ≤ b)
  Lies (char c) a b = a ≤ b
  Lies (group tag start size ts) a b = (a ≤ start) × (1 ≤ size) × (start + size ≤ b) × Row ts (start + 1) (start + size)

  pub Row : Tokens → ℕ → ℕ → Type 0
  Row none a b = a ≤ b
  Row (more t ts) a b = Lies t a b × Row ts (behind t a) b

-- errors in the order of their places, none before the place a, none past the place b
unfoldable pub Rising : List Error → ℕ → ℕ → Type 0
Rising [] a b = a ≤ b
Rising (e ∷ es) a b = (a ≤ e.place) × Rising es e.place b

-- where reading stands, or where it broke off
abbrev pub stands : Read → ℕ
stands (read b ts es) = b
stands (deep p) = p

-- ---- each of them

-- a token has the start and the length
pub data Placed : Token → ℕ → ℕ → Type 0 where
  is_leaf_tag : {tag start size : ℕ} → Placed (leaf tag start size) start size
  is_group : {tag start size : ℕ} {ts : Tokens} → Placed (group tag start size ts) start size

-- a token is one of the row
pub data Of (t : Token) : Tokens → Type 0 where
  first : {ts : Tokens} → Of t (more t ts)
  later : {u : Token} {ts : Tokens} → Of t ts → Of t (more u ts)

-- a token is one of the row, or inside one of the row, however deep
pub data Among (t : Token) : Tokens → Type 0 where
  here : {ts : Tokens} → Among t (more t ts)
  further : {u : Token} {ts : Tokens} → Among t ts → Among t (more u ts)
  inside : {tag start size : ℕ} {us ts : Tokens} → Among t us → Among t (more (group tag start size us) ts)

-- the one stands before the other in the row, or in a row inside it, however deep
pub data Before (t u : Token) : Tokens → Type 0 where
  here : {ts : Tokens} → Of u ts → Before t u (more t ts)
  further : {v : Token} {ts : Tokens} → Before t u ts → Before t u (more v ts)
  inside : {tag start size : ℕ} {us ts : Tokens} → Before t u us → Before t u (more (group tag start size us) ts)

-- an error is one of them
pub data Reported (e : Error) : List Error → Type 0 where
  here : {es : List Error} → Reported e (e ∷ es)
  further : {f : Error} {es : List Error} → Reported e es → Reported e (f ∷ es)
