-- "Sym: one of `|=!<>+-*/%`, then as many of these as follow, without `-`. `..`; `.` with an identifier; lone `.`; each of `: ; , ?`."
use Rattle.std.specs.Prelude.{ℕ, ◌+◌, Bool, cond, not, ◌&&◌, List, [], ◌∷◌, eqb}
use Rattle.lexer.specs.Scan.{byte, past, one_of}
use Rattle.lexer.specs.Word.{letter, ident0}

-- one of `|=!<>+-*/%`
unfoldable pub operator : ℕ → Bool
operator b = one_of (0x7C ∷ 0x3D ∷ 0x21 ∷ 0x3C ∷ 0x3E ∷ 0x2B ∷ 0x2D ∷ 0x2A ∷ 0x2F ∷ 0x25 ∷ []) b

-- these without `-`
unfoldable pub follows : ℕ → Bool
follows b = operator b && not (eqb b 0x2D)

-- from the `.` on: `..`; `.` with an identifier; lone `.`
unfoldable pub dot : List ℕ → ℕ → ℕ
dot s at = cond (eqb (byte s (at + 1)) 0x2E) (at + 2) (cond (letter (byte s (at + 1))) (ident0 s (at + 2)) (at + 1))

-- the place behind the symbol at a place
unfoldable pub sym : List ℕ → ℕ → ℕ
sym s at = cond (operator (byte s at)) (past follows s (at + 1)) (cond (eqb (byte s at) 0x2E) (dot s at) (at + 1))
