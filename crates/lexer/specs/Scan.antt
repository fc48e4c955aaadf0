-- Scanning: the byte at a place, how far a run of bytes goes, and what is said where one was expected.
-- A place is a number of bytes from the start; "the remaining input" at a place is the source without that many.
use Rattle.std.specs.Prelude.{ℕ, suc, ◌+◌, Bool, true, false, cond, List, [], ◌∷◌, get_or, drop, eqb}
use Rattle.lexer.specs.Token.{Expect, Error, missing}

-- the byte at a place; 0 past the end, a byte that no rule asks for
abbrev pub byte : List ℕ → ℕ → ℕ
byte s at = get_or s at 0

-- whether b is among the bytes
abbrev pub one_of : List ℕ → ℕ → Bool
one_of [] b = false
one_of (x ∷ xs) b = cond (eqb b x) true (one_of xs b)

-- how many bytes at the head of the list pass the test
unfoldable pub run : (ℕ → Bool) → List ℕ → ℕ
run p [] = 0
run p (b ∷ bs) = cond (p b) (suc (run p bs)) 0

-- the place behind those bytes
unfoldable pub past : (ℕ → Bool) → List ℕ → ℕ → ℕ
past p s at = at + run p (drop at s)

-- the place behind one optional byte of those given
unfoldable pub optional : List ℕ → List ℕ → ℕ → ℕ
optional ks s at = cond (one_of ks (byte s at)) (at + 1) at

-- where a scan stands at its end, and the errors that arose
pub record Scan : Type 0 where
  pub at : ℕ
  pub errors : List Error

abbrev pub scan : ℕ → Scan
scan at = record { at = at; errors = [] }

-- a scan from one place to another; where it read nothing, what was expected is missing there
unfoldable pub expected : Expect → ℕ → ℕ → Scan
expected x from to = record { at = to; errors = cond (eqb to from) (missing x from ∷ []) [] }
