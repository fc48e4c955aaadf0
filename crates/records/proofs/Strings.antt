-- The parts of a string, and the summand of a row. Assumes nothing.
use Prim.Native.Nat.{ℕ, ◌+◌, ◌-◌, ◌*◌, ◌^◌, ◌≤◌, ◌<◌}
use native.Mathlib.Omega.{arith}
use mathlib.Core.Path.{◌≡◌, refl, sym, ap, ◌∙◌}
use mathlib.Core.Logic.{inl, inr}
use mathlib.Core.Bool.{Bool, true, false}
use mathlib.Core.List.{List, [], ◌∷◌, ◌++◌}
use lib.Dec.{eqb}
use lib.ListN.{length, get_or, take, drop}
use lib.Seq.{get_or-take, get_or-drop}
use borrow.Author.Tests.{eqb-true}
use Rattle.reads.specs.Texts.{text-slice}
use Rattle.fields.specs.Number.{number, value}
use Rattle.fields.specs.Field.{field, length-field}
use Rattle.fields.specs.Room.{overlay}
use Rattle.text.specs.Utf8.{utf8, is_scalar}
use Rattle.tree.specs.Rose.{rnil, end_of, text_of}
use Rattle.tree.specs.Table.{shapes}
use Rattle.tree.specs.Leaf.{shape, leaf_ok, both}
use Rattle.tree.specs.Tree.{StrPart}
use Rattle.tree.specs.Form.{f_str_part}
use Rattle.rules.specs.Table.{Node}
use Rattle.rules.specs.Listing.{node_bytes, opt_pat_bytes}
use Rattle.reads.specs.Bytes.{four_of}
use Rattle.reads.specs.Shapes.{head-fits, text-length, LeafAt, StrPartAt, on-text-part, on-char-part, on-term-part}
use Rattle.cells.specs.Cells.{number_at, last_at, kind_at}
use Rattle.cells.specs.Notes.{string_node}
use Rattle.records.specs.Steps.{Puts}
use Rattle.records.specs.Sums.{SummandIs}

pub string-fits : (b : List ℕ) (x : StrPart) (q : ℕ) → StrPartAt b x q → end_of b q ≤ length b
string-fits b x q h = (head-fits b (f_str_part x) rnil q (end_of b q) h).0

-- ---- a text

-- what the code hands on
pub text-put : (b : List ℕ) (q z f a o : ℕ) (l d d₁ : List ℕ) → get_or b q 0 ≡ 0xBB → z ≡ end_of b q → l ≡ text_of b q → d₁ ≡ overlay d o (field 0x55 l)
    → (x : StrPart) → StrPartAt b x q → Puts (node_bytes 2 (string_node x f a)) o d d₁ (o + (z - q))
unfolding string_node
text-put b q z f a o l d d₁ e ez el h =
    on-text-part b q (λ (x : StrPart). Puts (node_bytes 2 (string_node x f a)) o d d₁ (o + (z - q))) e
    (λ g. record { room = rw el at h; end = omega (arith, length-field 0x55 (text_of b q), text-length b q g.fits) })

-- how long it is
pub text-size : (b : List ℕ) (q f a : ℕ) (x : StrPart) → StrPartAt b x q → get_or b q 0 ≡ 0xBB → length (node_bytes 2 (string_node x f a)) ≡ end_of b q - q
unfolding string_node
text-size b q f a x h e =
    on-text-part b q (λ (y : StrPart). length (node_bytes 2 (string_node y f a)) ≡ end_of b q - q) e
    (λ g. omega (arith, length-field 0x55 (text_of b q), text-length b q g.fits)) x h

pub text-long : (b : List ℕ) (q z : ℕ) → z ≡ end_of b q → end_of b q ≤ length b → length (take (z - (q + 3)) (drop (q + 3) b)) ≡ end_of b q - (q + 3)
text-long b q z e h = ap length (text-slice b q z e) ∙ text-length b q h

-- ---- a character

four_bytes : (x : List ℕ) → length x ≡ 4 → value x ≡ get_or x 0 0 + get_or x 1 0 * 256 + get_or x 2 0 * 65536 + get_or x 3 0 * 16777216
unfolding value
four_bytes [] h = absurd (omega arith)
four_bytes (a ∷ []) h = absurd (omega arith)
four_bytes (a ∷ b ∷ []) h = absurd (omega arith)
four_bytes (a ∷ b ∷ c ∷ []) h = absurd (omega arith)
four_bytes (a ∷ b ∷ c ∷ d ∷ []) h = omega arith
four_bytes (a ∷ b ∷ c ∷ d ∷ e ∷ l) h = absurd (omega arith)

four-long : (b : List ℕ) (q : ℕ) → LeafAt b 0xBC q → length (text_of b q) ≡ 4
unfolding leaf_ok shape shapes
four-long b q g = eqb-true (length (text_of b q)) 4 (first (eqb (length (text_of b q)) 4) (is_scalar (value (text_of b q))) g.ok)
  where
    first : (x y : Bool) → both x y ≡ true → x ≡ true
    first true y h = refl
    first false y h = h

char_is : (b : List ℕ) (q : ℕ) → LeafAt b 0xBC q → value (text_of b q) ≡ four_of b (q + 3)
char_is b q g = four_bytes (text_of b q) n ∙ simp (at 0 (omega arith), at 1 (omega arith), at 2 (omega arith), at 3 (omega arith)) zeros
  where
    n : length (text_of b q) ≡ 4
    n = four-long b q g

    at : (i : ℕ) → i < 4 → get_or (text_of b q) i 0 ≡ get_or b (q + 3 + i) 0
    at i h = get_or-take (get_or b (q + 1) 0 + get_or b (q + 2) 0 * 256) (drop (q + 3) b) i 0 (omega (arith, n, text-length b q g.fits)) ∙ get_or-drop (q + 3) b i 0

    zeros : get_or b (q + 3 + 0) 0 + get_or b (q + 3 + 1) 0 * 256 + get_or b (q + 3 + 2) 0 * 65536 + get_or b (q + 3 + 3) 0 * 16777216 ≡ four_of b (q + 3)
    zeros = let z : q + 3 + 0 ≡ q + 3 = omega arith in rw z

pub char-fits : (b : List ℕ) (x : StrPart) (q : ℕ) → StrPartAt b x q → get_or b q 0 ≡ 0xBC → q + 7 ≤ length b
char-fits b x q h e = on-char-part b q (λ (y : StrPart). q + 7 ≤ length b) e (λ g. omega (arith, g.fits, four-long b q g, text-length b q g.fits)) x h

pub char-put : (b : List ℕ) (q c f a o n : ℕ) (d d₁ : List ℕ) → get_or b q 0 ≡ 0xBC → c ≡ four_of b (q + 3) → n ≡ length (utf8 c) → d₁ ≡ overlay d o (field 0x55 (utf8 c))
    → (x : StrPart) → StrPartAt b x q → Puts (node_bytes 2 (string_node x f a)) o d d₁ (o + 3 + n)
unfolding string_node
char-put b q c f a o n d d₁ e ec en h =
    on-char-part b q (λ (x : StrPart). Puts (node_bytes 2 (string_node x f a)) o d d₁ (o + 3 + n)) e
    (λ g.
    let k : value (text_of b q) ≡ c = char_is b q g ∙ sym ec in
    record { room = rw k h; end = rw k (omega (arith, en, length-field 0x55 (utf8 c))) })

-- ---- a term, put into the format

pub term-put : (b : List ℕ) (q f a o : ℕ) (d d₁ : List ℕ) → (get_or b q 0 ≡ 0xBB → ⊥) → (get_or b q 0 ≡ 0xBC → ⊥) → d₁ ≡ overlay d o (field 0x5E (number 2 a ++ (0 ∷ number 2 f)))
    → (x : StrPart) → StrPartAt b x q → Puts (node_bytes 2 (string_node x f a)) o d d₁ (o + 8)
unfolding string_node opt_pat_bytes field number
term-put b q f a o d d₁ n m h = on-term-part b q (λ (x : StrPart). Puts (node_bytes 2 (string_node x f a)) o d d₁ (o + 8)) n m (λ t g. record { room = h; end = refl })

-- ---- the summand of row j

pub entry-put : (b s : List ℕ) (f j a c o : ℕ) (d d₁ : List ℕ) → kind_at s j ≡ 6 → a ≡ number_at s j → c ≡ last_at s j → d₁ ≡ overlay d o (field 0x58 (number 2 a ++ number 2 c))
    → (t : Node) → SummandIs b s f j t → Puts (node_bytes 2 t) o d d₁ (o + 7)
unfolding field number
entry-put b s f j a c o d d₁ k ea ec h t (inl e) = rw (e.1, ← ea, ← ec) (record { room = h; end = refl })
entry-put b s f j a c o d d₁ k ea ec h t (inr e) = absurd (omega (arith, k, e.0))

-- it is a part of a string
pub record PieceAt (b s : List ℕ) (f j o : ℕ) : Type 0 where
  pub part : StrPart
  pub at : StrPartAt b part (last_at s j)
  pub room : o + 8 + length (node_bytes 2 (string_node part f (number_at s j))) < 2 ^ 64

pub piece-at : (b s : List ℕ) (f j o : ℕ) (t : Node) → SummandIs b s f j t → (kind_at s j ≡ 6 → ⊥) → o + 8 + length (node_bytes 2 t) < 2 ^ 64 → PieceAt b s f j o
piece-at b s f j o t (inl e) n h = absurd (n e.0)
piece-at b s f j o t (inr e) n h = record { part = e.1.0; at = e.1.1; room = rw e.1.2 at h }

pub piece-put : (b s : List ℕ) (f j o r : ℕ) (d d₁ : List ℕ) → (kind_at s j ≡ 6 → ⊥) → ((x : StrPart) → StrPartAt b x (last_at s j) → Puts (node_bytes 2 (string_node x f (number_at s j))) o d d₁ r)
    → (t : Node) → SummandIs b s f j t → Puts (node_bytes 2 t) o d d₁ r
piece-put b s f j o r d d₁ n h t (inl e) = absurd (n e.0)
piece-put b s f j o r d d₁ n h t (inr e) = rw e.1.2 (h e.1.0 e.1.1)
