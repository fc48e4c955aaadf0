-- Tree bytes as the code reads them: fields one after the other, names, and what is taken of a name to compare it. Assumes nothing.
use Rattle.std.specs.Prelude.{ℕ, zero, suc, ◌+◌, ◌-◌, ◌*◌, ◌/◌, ◌%◌, ◌≤◌, ◌≡◌, Bool, cond, ◌&&◌, List, [], ◌∷◌, eqb, leb, ltb, length, get_or}
use Rattle.std.specs.Int.Bits.{bit_and, bit_xor}
use Rattle.tree.specs.Rose.{Roses, rnil, rcons, end_of, text_of, At, Row}
use Rattle.tree.specs.Tree.{Name, Term, Pattern, Def, term_place, pattern_place}
use Rattle.tree.specs.Form.{f_term, f_pattern, f_def}

abbrev pub len_of : List ℕ → ℕ → ℕ
len_of b p = get_or b (p + 1) 0 + get_or b (p + 2) 0 * 256

-- two bytes, the lower first
abbrev pub pair_at : List ℕ → ℕ → ℕ
pair_at b p = get_or b p 0 + get_or b (p + 1) 0 * 256

-- ---- fields one after the other

unfoldable pub many : Roses → ℕ
many rnil = 0
many (rcons r rs) = suc (many rs)

-- where n fields from q on end
unfoldable pub after : List ℕ → ℕ → ℕ → ℕ
after b zero q = q
after b (suc n) q = after b n (end_of b q)

-- n fields from q on lie within the bytes
unfoldable pub Fields : List ℕ → ℕ → ℕ → Type 0
Fields b zero q = Unit {0}
Fields b (suc n) q = (end_of b q ≤ length b) × Fields b n (end_of b q)

-- ---- a term, a pattern, a definition at a place

abbrev pub TermAt : List ℕ → Term → ℕ → Type 0
TermAt b t p = At b (f_term t) × (term_place t ≡ p)

abbrev pub PatternAt : List ℕ → Pattern → ℕ → Type 0
PatternAt b x q = At b (f_pattern x) × (pattern_place x ≡ q)

abbrev pub DefAt : List ℕ → Def → ℕ → Type 0
DefAt b d q = Row b (rcons (f_def d) rnil) q (end_of b q)

-- ---- names

-- the name, parameter or variable whose field is at q
abbrev pub name_at : List ℕ → ℕ → Name
name_at b q = record { place = q; text = text_of b q }

unfoldable pub names_of : List ℕ → ℕ → ℕ → List Name
names_of b zero q = []
names_of b (suc n) q = name_at b q ∷ names_of b n (end_of b q)

-- a field of the tag stands at q, before z
abbrev pub is_tag : List ℕ → ℕ → ℕ → ℕ → Bool
is_tag b q z k = ltb q z && eqb (get_or b q 0) k

-- behind it, if it stands there
abbrev pub past : List ℕ → ℕ → ℕ → ℕ → ℕ
past b q z k = cond (is_tag b q z k) (end_of b q) q

-- the pattern of the member at p of a pattern of the tag
abbrev pub sub_pattern : List ℕ → ℕ → ℕ → ℕ
sub_pattern b tag p = cond (eqb tag 0x99) p (end_of b (p + 3))

abbrev pub four_of : List ℕ → ℕ → ℕ
four_of x p = get_or x p 0 + get_or x (p + 1) 0 * 256 + get_or x (p + 2) 0 * 65536 + get_or x (p + 3) 0 * 16777216

-- first four bytes and last four; of a shorter text first, middle and last
unfoldable pub word_of : List ℕ → ℕ
word_of x =
    cond (leb 4 (length x)) (four_of x 0 + four_of x (length x - 4) * 4294967296)
    (cond (eqb (length x) 0) 0 (get_or x 0 0 + get_or x (length x / 2) 0 * 256 + get_or x (length x - 1) 0 * 65536))

-- the cell of the head for a name of word w and length l, where there are m + 1 heads
unfoldable pub head_of : ℕ → ℕ → ℕ → ℕ
head_of m w l = 8 + bit_and (bit_xor (w % 4294967296 * 2654435761) (w / 4294967296 * 2246822519) / 137438953472 + l) m

-- where the first `::` starts, or the length
unfoldable pub colons_of : List ℕ → ℕ
colons_of [] = 0
colons_of (x ∷ xs) = cond (eqb x 0x3A && eqb (get_or xs 0 0) 0x3A) 0 (suc (colons_of xs))

-- where a `::` that place i is part of starts, or the length
unfoldable pub colons_at : List ℕ → ℕ → ℕ
colons_at x i =
    cond (eqb (get_or x i 0) 0x3A)
    (cond (eqb (get_or x (i - 1) 0) 0x3A) (i - 1) (cond (eqb (get_or x (i + 1) 0) 0x3A) i (length x)))
    (length x)
