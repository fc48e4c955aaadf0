-- Operators: the tag of the record of each byte, and the byte between its sides. Assumes nothing.
use Rattle.std.specs.Prelude.{ℕ, ◌%◌, cond, eqb, ltb}

unfoldable pub op_tag : ℕ → ℕ
op_tag x =
    cond (eqb x 1) 0x5F
    (cond (eqb x 2) 0x67
    (cond (eqb x 3) 0x64
    (cond (eqb x 4) 0x64
    (cond (eqb x 5) 0x60
    (cond (eqb x 6) 0x61
    (cond (eqb x 7) 0x63
    (cond (ltb x 0x10) 0x62
    (cond (ltb x 0x20) 0x65
    (cond (ltb x 0x30) 0x66 0x62)))))))))

-- Logic's bool: `or` 1, `and` 0; else the operator's number
unfoldable pub op_choice : ℕ → ℕ
op_choice x = cond (ltb x 16) (x % 2) (x % 16)
