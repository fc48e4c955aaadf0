-- "Space: Unicode White_Space. Does the comment go on past its newline? Exactly if the line, less one trailing CR, ends in an odd number of
-- backslashes. End of input ends it."
use Rattle.std.specs.Prelude.{ℕ, zero, suc, ◌+◌, ◌-◌, ◌%◌, min, Bool, cond, not, List, length, drop, eqb, ltb}
use Rattle.text.specs.Utf8.{seq_len, scalar}
use Rattle.text.specs.Space.{white_space}
use Rattle.lexer.specs.Scan.{byte, past}

-- how many bytes the White_Space character at a place has; 0 where none is there
unfoldable pub blank : List ℕ → ℕ → ℕ
blank s at = cond (white_space (scalar (drop at s))) (seq_len (drop at s)) 0

unfoldable pub in_line : ℕ → Bool
in_line b = not (eqb b 0x0A)

-- a line is n bytes from a place on: n less one trailing CR
unfoldable pub less_cr : List ℕ → ℕ → ℕ → ℕ
less_cr s at zero = zero
less_cr s at (suc n) = cond (eqb (byte s (at + n)) 0x0D) n (suc n)

-- how many backslashes the line ends in
unfoldable pub slashes : List ℕ → ℕ → ℕ → ℕ
slashes s at zero = zero
slashes s at (suc n) = cond (eqb (byte s (at + n)) 0x5C) (suc (slashes s at n)) zero

unfoldable pub goes_on : List ℕ → ℕ → ℕ → Bool
goes_on s at n = eqb (slashes s at (less_cr s at n) % 2) 1

-- the place behind a line's newline, or the end of input
unfoldable pub next_line : List ℕ → ℕ → ℕ
next_line s at = min (past in_line s at + 1) (length s)

-- the place behind a comment, of which a line starts at the given place. The first number bounds how many lines are read: the source's length is enough
unfoldable pub comment : ℕ → List ℕ → ℕ → ℕ
comment zero s at = at
comment (suc k) s at =
    let next = next_line s at in
    let on = comment k s next in
    cond (goes_on s at (past in_line s at - at)) on next

-- the place behind White_Space and comments, the first number as above
unfoldable pub skip : ℕ → List ℕ → ℕ → ℕ
skip zero s at = at
skip (suc k) s at =
    let behind = skip k s (at + blank s at) in
    let below = skip k s (comment (suc (length s)) s (at + 1)) in
    cond (ltb 0 (blank s at)) behind (cond (eqb (byte s at) 0x23) below at)

unfoldable pub space : List ℕ → ℕ → ℕ
space s at = skip (suc (length s)) s at
