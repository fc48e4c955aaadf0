-- UTF-8: the well-formed byte sequences, the character that one stands for, and the bytes of a character.
-- Numbers and names are those of the Unicode Standard, chapter 3.
use Rattle.std.specs.Prelude.{ℕ, zero, suc, ◌+◌, ◌*◌, ◌/◌, ◌%◌, Bool, cond, Option, Some, None, List, [], ◌∷◌, length, get_or, drop, ltb}
use Rattle.text.specs.Ranges.{Range, ◌‥◌, within, among, starts}
use Rattle.text.specs.declared.Char.{Char}

pub record Row : Type 0 where
  pub first : Range
  pub later : List Range

abbrev row : Range → List Range → Row
row f l = record { first = f; later = l }

-- "Table 3-7. Well-Formed UTF-8 Byte Sequences": the first byte, then the second, third and fourth
unfoldable pub table : List Row
table =
    row (0x00 ‥ 0x7F) []
    ∷ row (0xC2 ‥ 0xDF) (0x80 ‥ 0xBF ∷ [])
    ∷ row (0xE0 ‥ 0xE0) (0xA0 ‥ 0xBF ∷ 0x80 ‥ 0xBF ∷ [])
    ∷ row (0xE1 ‥ 0xEC) (0x80 ‥ 0xBF ∷ 0x80 ‥ 0xBF ∷ [])
    ∷ row (0xED ‥ 0xED) (0x80 ‥ 0x9F ∷ 0x80 ‥ 0xBF ∷ [])
    ∷ row (0xEE ‥ 0xEF) (0x80 ‥ 0xBF ∷ 0x80 ‥ 0xBF ∷ [])
    ∷ row (0xF0 ‥ 0xF0) (0x90 ‥ 0xBF ∷ 0x80 ‥ 0xBF ∷ 0x80 ‥ 0xBF ∷ [])
    ∷ row (0xF1 ‥ 0xF3) (0x80 ‥ 0xBF ∷ 0x80 ‥ 0xBF ∷ 0x80 ‥ 0xBF ∷ [])
    ∷ row (0xF4 ‥ 0xF4) (0x80 ‥ 0x8F ∷ 0x80 ‥ 0xBF ∷ 0x80 ‥ 0xBF ∷ [])
    ∷ []

-- how many bytes of b ∷ s make a sequence of the row whose first byte b is; 0 where b is in no row, or s does not go on as the row asks
abbrev pub len_in : List Row → ℕ → List ℕ → ℕ
len_in [] b s = 0
len_in (r ∷ rs) b s = cond (within r.first b) (cond (starts r.later s) (suc (length r.later)) 0) (len_in rs b s)

-- the length of the well-formed sequence at the head of the list, 1 to 4; 0 where none starts there
unfoldable pub seq_len : List ℕ → ℕ
seq_len [] = 0
seq_len (b ∷ s) = len_in table b s

-- a value that comes with a length: none where the length is 0
abbrev pub if_any : {A : Type 0} → ℕ → A → Option A
if_any zero a = None
if_any (suc n) a = Some a

-- that length itself, 1 to 4, or none
abbrev pub some_len : ℕ → Option ℕ
some_len n = if_any n n

-- "Table 3-6. UTF-8 Bit Distribution": 0xxxxxxx; 110yyyyy 10xxxxxx; 1110zzzz 10yyyyyy 10xxxxxx; 11110uuu 10uuzzzz 10yyyyyy 10xxxxxx
unfoldable pub bits : ℕ → List ℕ → ℕ
bits zero s = 0
bits (suc zero) s = get_or s 0 0 % 128
bits (suc (suc zero)) s = get_or s 0 0 % 32 * 64 + get_or s 1 0 % 64
bits (suc (suc (suc zero))) s = get_or s 0 0 % 16 * 4096 + get_or s 1 0 % 64 * 64 + get_or s 2 0 % 64
bits (suc (suc (suc (suc n)))) s = get_or s 0 0 % 8 * 262144 + get_or s 1 0 % 64 * 4096 + get_or s 2 0 % 64 * 64 + get_or s 3 0 % 64

-- the code point of the sequence at the head of the list; 0 where none starts there
unfoldable pub scalar : List ℕ → ℕ
scalar s = bits (seq_len s) s

-- the character at a place: its code point and its length, both 0 where no well-formed sequence starts there
abbrev pub char_at : List ℕ → ℕ → Char
char_at s at = record { code = scalar (drop at s); len = seq_len (drop at s) }

-- that character, or none
abbrev pub found : Char → Option Char
found c = if_any c.len c

-- "D76 Unicode scalar value: Any Unicode code point except high-surrogate and low-surrogate code points.": 0 to D7FF and E000 to 10FFFF
unfoldable pub scalars : List Range
scalars = 0x0000 ‥ 0xD7FF ∷ 0xE000 ‥ 0x10FFFF ∷ []

unfoldable pub is_scalar : ℕ → Bool
is_scalar c = among scalars c

-- Table 3-6 read the other way: the bits of a number, on one to four bytes
abbrev pub one : ℕ → List ℕ
one c = c ∷ []

abbrev pub two : ℕ → List ℕ
two c = (0xC0 + c / 64) ∷ (0x80 + c % 64) ∷ []

abbrev pub three : ℕ → List ℕ
three c = (0xE0 + c / 4096) ∷ (0x80 + c / 64 % 64) ∷ (0x80 + c % 64) ∷ []

abbrev pub four : ℕ → List ℕ
four c = (0xF0 + c / 262144) ∷ (0x80 + c / 4096 % 64) ∷ (0x80 + c / 64 % 64) ∷ (0x80 + c % 64) ∷ []

-- as few of them as hold the number
unfoldable pub encode : ℕ → List ℕ
encode c = cond (ltb c 0x80) (one c) (cond (ltb c 0x800) (two c) (cond (ltb c 0x10000) (three c) (four c)))

-- "D92 UTF-8 encoding form: The Unicode encoding form that assigns each Unicode scalar value to an unsigned byte sequence of one to
-- four bytes in length": no bytes for a number that is no scalar value
unfoldable pub utf8 : ℕ → List ℕ
utf8 c = cond (is_scalar c) (encode c) []
