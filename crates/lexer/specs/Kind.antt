-- Which token a byte starts, and the tokens that need no nesting.
use Rattle.std.specs.Prelude.{ℕ, ◌+◌, cond, ◌||◌, List, [], ◌∷◌, eqb}
use Rattle.lexer.specs.Scan.{one_of, Scan, scan}
use Rattle.lexer.specs.Word.{letter, digit, ident1, mod_then_ident}
use Rattle.lexer.specs.Num.{num}
use Rattle.lexer.specs.Sym.{operator, sym}

-- "Word 01, Var 02, Fmt 03, Num 04, Sym 05, string 06, block 07": the tag of the token that the byte starts; 0 where it starts none
unfoldable pub kind : ℕ → ℕ
kind b =
    cond (letter b) 0x01
    (cond (digit b) 0x04
    (cond (eqb b 0x24) 0x02
    (cond (eqb b 0x40) 0x03
    (cond (operator b || one_of (0x2E ∷ 0x3A ∷ 0x3B ∷ 0x2C ∷ 0x3F ∷ []) b) 0x05
    (cond (eqb b 0x22) 0x06
    (cond (one_of (0x28 ∷ 0x5B ∷ 0x7B ∷ []) b) 0x07 0x00))))))

-- where a Word, Var, Fmt, Num or Sym at a place ends, and its errors
unfoldable pub plain : ℕ → List ℕ → ℕ → Scan
plain tag s at =
    cond (eqb tag 0x01) (mod_then_ident s (at + 1))
    (cond (eqb tag 0x04) (num s (at + 1))
    (cond (eqb tag 0x05) (scan (sym s at)) (ident1 s (at + 1))))
