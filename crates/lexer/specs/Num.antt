-- "Num: digits; optional `.` with digits; optional `e`/`E`, one optional sign, digits. Missing digits are Digit at that spot, and scanning goes on."
use Rattle.std.specs.Prelude.{ℕ, ◌+◌, cond, List, [], ◌∷◌, ◌++◌, eqb}
use Rattle.lexer.specs.Token.{Expect}
use Rattle.lexer.specs.Scan.{byte, past, one_of, optional, Scan, scan, expected}
use Rattle.lexer.specs.Word.{digit}

unfoldable pub digits1 : List ℕ → ℕ → Scan
digits1 s at = expected Expect.digit at (past digit s at)

-- optional `.` with digits
unfoldable pub fraction : List ℕ → ℕ → Scan
fraction s at = cond (eqb (byte s at) 0x2E) (digits1 s (at + 1)) (scan at)

-- optional `e`/`E`, one optional sign, digits
unfoldable pub exponent : List ℕ → ℕ → Scan
exponent s at = cond (one_of (0x65 ∷ 0x45 ∷ []) (byte s at)) (digits1 s (optional (0x2B ∷ 0x2D ∷ []) s (at + 1))) (scan at)

-- behind the first digit
unfoldable pub num : List ℕ → ℕ → Scan
num s at =
    let f = fraction s (past digit s at) in
    let e = exponent s f.at in
    record { at = e.at; errors = f.errors ++ e.errors }
