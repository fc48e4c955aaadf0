-- "escapes `\\ \/ \" \b \f \n \r \t`, `\u` and four hex digits of either case .. An unknown or missing escape is Escape after the backslash,
-- consuming nothing more. A bad or missing hex digit is Unicode there; a surrogate is Unicode just after `u`; reading goes on from there."
use Rattle.std.specs.Prelude.{ℕ, zero, suc, ◌+◌, ◌-◌, ◌*◌, Bool, cond, List, [], ◌∷◌, ltb, eqb}
use Rattle.text.specs.Ranges.{◌‥◌, among, within}
use Rattle.lexer.specs.Token.{char, Expect}
use Rattle.lexer.specs.Scan.{byte, past}
use Rattle.lexer.specs.Read.{Read, found, wrong}

-- the character that a backslash and the byte stand for; 0 where they stand for none
unfoldable pub named : ℕ → ℕ
named b =
    cond (eqb b 0x5C) 0x5C
    (cond (eqb b 0x2F) 0x2F
    (cond (eqb b 0x22) 0x22
    (cond (eqb b 0x62) 0x08
    (cond (eqb b 0x66) 0x0C
    (cond (eqb b 0x6E) 0x0A
    (cond (eqb b 0x72) 0x0D
    (cond (eqb b 0x74) 0x09 0x00)))))))

unfoldable pub hex_digit : ℕ → Bool
hex_digit b = among (0x30 ‥ 0x39 ∷ 0x41 ‥ 0x46 ∷ 0x61 ‥ 0x66 ∷ []) b

-- the value of a hex digit
unfoldable pub hex : ℕ → ℕ
hex b = cond (ltb b 0x41) (b - 0x30) (cond (ltb b 0x61) (b - 0x37) (b - 0x57))

-- the number that n hex digits from a place on write
unfoldable pub hexes : List ℕ → ℕ → ℕ → ℕ
hexes s at zero = 0
hexes s at (suc n) = 16 * hexes s at n + hex (byte s (at + n))

unfoldable pub surrogate : ℕ → Bool
surrogate c = within (0xD800 ‥ 0xDFFF) c

-- behind the `u`
unfoldable pub unicode : List ℕ → ℕ → Read
unicode s at =
    cond (ltb (past hex_digit s at) (at + 4)) (wrong Expect.unicode (past hex_digit s at))
    (cond (surrogate (hexes s at 4)) (wrong Expect.unicode at) (found (char (hexes s at 4)) (at + 4)))

-- an escape that nests nothing, behind its backslash
unfoldable pub simple : List ℕ → ℕ → Read
simple s at =
    cond (eqb (byte s at) 0x75) (unicode s (at + 1))
    (cond (eqb (named (byte s at)) 0) (wrong Expect.escape at) (found (char (named (byte s at))) (at + 1)))
