-- "Word: `[a-zA-Z_][a-zA-Z0-9_]*`, then optionally `::`, one optional `@` or `$`, and an identifier; a missing one is Ident there.
-- Var and Fmt: `$` or `@`, then an identifier, else Ident."
use Rattle.std.specs.Prelude.{ℕ, ◌+◌, Bool, cond, ◌&&◌, ◌||◌, List, [], ◌∷◌, eqb}
use Rattle.text.specs.Ranges.{◌‥◌, among}
use Rattle.lexer.specs.Token.{ident}
use Rattle.lexer.specs.Scan.{byte, past, optional, Scan, scan, expected}

-- [a-zA-Z_]
unfoldable pub letter : ℕ → Bool
letter b = among (0x61 ‥ 0x7A ∷ 0x41 ‥ 0x5A ∷ 0x5F ‥ 0x5F ∷ []) b

-- [0-9]
unfoldable pub digit : ℕ → Bool
digit b = among (0x30 ‥ 0x39 ∷ []) b

-- [a-zA-Z0-9_]
unfoldable pub word_byte : ℕ → Bool
word_byte b = letter b || digit b

-- the place behind `[a-zA-Z0-9_]*`
abbrev pub ident0 : List ℕ → ℕ → ℕ
ident0 s at = past word_byte s at

-- the place behind `[a-zA-Z_][a-zA-Z0-9_]*`, or where it should have been
unfoldable pub ident_end : List ℕ → ℕ → ℕ
ident_end s at = cond (letter (byte s at)) (ident0 s (at + 1)) at

unfoldable pub ident1 : List ℕ → ℕ → Scan
ident1 s at = expected ident at (ident_end s at)

-- behind the first letter of a word
unfoldable pub mod_then_ident : List ℕ → ℕ → Scan
mod_then_ident s at =
    let a = ident0 s at in
    cond (eqb (byte s a) 0x3A && eqb (byte s (a + 1)) 0x3A) (ident1 s (optional (0x40 ∷ 0x24 ∷ []) s (a + 2))) (scan a)
