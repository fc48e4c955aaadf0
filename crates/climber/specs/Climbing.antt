-- What a row of operators comes to: a listing of the operands of each, or a refusal.
use Rattle.std.specs.Prelude.{Bool, true, false, List, [], ◌∷◌, ◌++◌, ℕ, zero, suc, length, ltb, leb}
use Rattle.fields.specs.Number.{number}
use Rattle.fields.specs.Field.{field}
use Rattle.fields.specs.Outcome.{Outcome, listing, refusal, pick}
use Rattle.climber.specs.Row.{count, leftmost, rightmost}

-- "an odd length or another side is refusal 3": the bytes come in twos, and each second one is 0 or 1
unfoldable pub formed : List ℕ → Bool
formed [] = true
formed (p ∷ []) = false
formed (p ∷ s ∷ row) = pick (leb s 1) (formed row) false

-- "Output, for each operator in order: field 0B with its leftmost and rightmost operand numbers, two bytes each"
unfoldable pub operator : List ℕ → ℕ → List ℕ
operator row i = field 0x0B (number 2 (leftmost row i) ++ number 2 (rightmost row i))

-- the n operators from i on
unfoldable pub operators : List ℕ → ℕ → ℕ → List ℕ
operators row i zero = []
operators row i (suc n) = operator row i ++ operators row (suc i) n

-- "Listings open with field 00: edition 1"
unfoldable pub opening : List ℕ
opening = field 0x00 (1 ∷ [])

-- "2: input over 32,768 bytes; 3: .. operator row not well formed; 8: over 1,024 operators": the lowest of them, else the listing
unfoldable pub climbing : List ℕ → Outcome
climbing row =
    pick (ltb 32768 (length row)) (refusal 2 0)
    (pick (formed row)
    (pick (ltb 1024 (count row)) (refusal 8 0) (listing 0 (opening ++ operators row 0 (count row))))
    (refusal 3 0))
