-- A well-formed sequence is the bytes of one character: what Table 3-7 takes is what Table 3-6 makes of a scalar value, and nothing else.
-- Assumes nothing.
use mathlib.Core.Path.{◌≡◌, refl, ◌∙◌}
use mathlib.Core.Bool.{Bool, true, false, cond, false≢true}
use mathlib.Core.List.{List, [], ◌∷◌}
use Prim.Native.Nat.{ℕ, zero, suc, ◌+◌, ◌*◌, ◌/◌, ◌%◌, ◌≤◌, ◌<◌}
use native.Mathlib.Omega.{arith}
use lib.ListN.{length, take}
use lib.Dec.{leb}
use borrow.Author.Tests.{leb-true}
use Rattle.text.specs.Ranges.{Range, ◌‥◌, within, starts}
use Rattle.text.specs.Utf8.{Row, table, len_in, seq_len, bits, is_scalar, utf8, two, three, four}
use Rattle.text.proofs.Rows.{and_left, and_right, later_of}
use Rattle.text.proofs.Encoded.{AllIn}
use Rattle.text.proofs.Bytes.{scalar-low, scalar-high, utf8-one, utf8-two, utf8-three, utf8-three-high, utf8-four}

abbrev InRow : List Row → ℕ → ℕ → Type 0
InRow [] k b = ⊥
InRow (r ∷ rs) zero b = (r.first.from ≤ b) × (b ≤ r.first.to)
InRow (r ∷ rs) (suc k) b = InRow rs k b

-- the row that b ∷ s was found in
record Found (rs : List Row) (b : ℕ) (s : List ℕ) (n : ℕ) : Type 0 where
  at : ℕ
  first : InRow rs at b
  later : AllIn (later_of rs at) s
  len : n ≡ length (later_of rs at)

in-range : (r : Range) (b : ℕ) → within r b ≡ true → (r.from ≤ b) × (b ≤ r.to)
in-range r b e = (leb-true _ _ (and_left (leb r.from b) _ e), leb-true _ _ (and_right (leb r.from b) _ e))

all_of : (rs : List Range) (s : List ℕ) → starts rs s ≡ true → AllIn rs s
all_of [] s e = tt
all_of (r ∷ rs) [] e = absurd (false≢true e)
all_of (r ∷ rs) (b ∷ s) e =
    (in-range r b (and_left (within r b) (starts rs s) e), all_of rs s (and_right (within r b) (starts rs s) e))

found-row : (r : Row) (rs : List Row) (b : ℕ) (s : List ℕ) (n : ℕ) (w x : Bool) → within r.first b ≡ w → starts r.later s ≡ x
    → (len_in rs b s ≡ suc n → Found rs b s n) → cond w (cond x (suc (length r.later)) 0) (len_in rs b s) ≡ suc n → Found (r ∷ rs) b s n
found-row r rs b s n true true p q f e = record { at = 0; first = in-range r.first b p; later = all_of r.later s q; len = omega arith }
found-row r rs b s n true false p q f e = absurd (omega arith)
found-row r rs b s n false x p q f e =
    let g : Found rs b s n = f e in
    record { at = suc g.at; first = g.first; later = g.later; len = g.len }

found : (rs : List Row) (b : ℕ) (s : List ℕ) (n : ℕ) → len_in rs b s ≡ suc n → Found rs b s n
found [] b s n e = absurd (omega arith)
found (r ∷ rs) b s n e = found-row r rs b s n _ _ refl refl (found rs b s n) e

-- the first n bytes of s are a scalar value in UTF-8
pub record Whole (s : List ℕ) (n : ℕ) : Type 0 where
  pub value : is_scalar (bits n s) ≡ true
  pub bytes : utf8 (bits n s) ≡ take n s

two_bytes : (b x : ℕ) → 0xC2 ≤ b → b ≤ 0xDF → 0x80 ≤ x → x ≤ 0xBF → two (b % 32 * 64 + x % 64) ≡ b ∷ x ∷ []
two_bytes b x h g i j =
    let e : 0xC0 + (b % 32 * 64 + x % 64) / 64 ≡ b = omega arith in
    let f : 0x80 + (b % 32 * 64 + x % 64) % 64 ≡ x = omega arith in
    cc

two-whole : (b : ℕ) (s : List ℕ) → 0xC2 ≤ b → b ≤ 0xDF → AllIn (0x80 ‥ 0xBF ∷ []) s → Whole (b ∷ s) 2
unfolding bits
two-whole b [] h g a = absurd a
two-whole b (x ∷ t) h g a =
    record { value = scalar-low _ (omega arith); bytes = utf8-two _ (omega arith) (omega arith) ∙ two_bytes b x h g a.0.0 a.0.1 }

three-bytes : (b x y : ℕ) → 0xE0 ≤ b → b ≤ 0xEF → 0x80 ≤ x → x ≤ 0xBF → 0x80 ≤ y → y ≤ 0xBF
    → three (b % 16 * 4096 + x % 64 * 64 + y % 64) ≡ b ∷ x ∷ y ∷ []
three-bytes b x y h g i j k l =
    let v : ℕ = b % 16 * 4096 + x % 64 * 64 + y % 64 in
    let d : 0xE0 + v / 4096 ≡ b = omega arith in
    let e : 0x80 + v / 64 % 64 ≡ x = omega arith in
    let f : 0x80 + v % 64 ≡ y = omega arith in
    cc

four-digits : (p q r w : ℕ) → q < 64 → r < 64 → w < 64 → (v : ℕ) → v ≡ p * 262144 + q * 4096 + r * 64 + w
    → (v / 262144 ≡ p) × (v / 4096 % 64 ≡ q) × (v / 64 % 64 ≡ r) × (v % 64 ≡ w)
four-digits p q r w a b c v e =
    let d : v / 64 ≡ p * 4096 + q * 64 + r = omega arith in
    let f : v / 4096 ≡ p * 64 + q = omega arith in
    (omega arith, omega arith, omega arith, omega arith)

four_bytes : (b x y z : ℕ) → 0xF0 ≤ b → b ≤ 0xF7 → 0x80 ≤ x → x ≤ 0xBF → 0x80 ≤ y → y ≤ 0xBF → 0x80 ≤ z → z ≤ 0xBF
    → four (b % 8 * 262144 + x % 64 * 4096 + y % 64 * 64 + z % 64) ≡ b ∷ x ∷ y ∷ z ∷ []
four_bytes b x y z h g i j k l m n =
    let d = four-digits (b % 8) (x % 64) (y % 64) (z % 64) (omega arith) (omega arith) (omega arith) _ refl in
    rw (d.0, d.1, d.2, d.3)
    (let p : 0xF0 + b % 8 ≡ b = omega arith in
    let q : 0x80 + x % 64 ≡ x = omega arith in
    let r : 0x80 + y % 64 ≡ y = omega arith in
    let w : 0x80 + z % 64 ≡ z = omega arith in
    cc)

-- a number whose three or four bytes are its UTF-8
record Sound (v : ℕ) (l : List ℕ) : Type 0 where
  value : is_scalar v ≡ true
  bytes : utf8 v ≡ l

three-whole : (low high b : ℕ) (s : List ℕ) → 0x80 ≤ low → high ≤ 0xBF → 0xE0 ≤ b → b ≤ 0xEF → AllIn (low ‥ high ∷ 0x80 ‥ 0xBF ∷ []) s
    → ((x y : ℕ) → low ≤ x → x ≤ high → 0x80 ≤ y → y ≤ 0xBF
    → let v : ℕ = b % 16 * 4096 + x % 64 * 64 + y % 64 in Sound v (three v))
    → Whole (b ∷ s) 3
unfolding bits
three-whole low high b [] i j h g a f = absurd a
three-whole low high b (x ∷ []) i j h g a f = absurd a.1
three-whole low high b (x ∷ y ∷ t) i j h g a f =
    let o = f x y a.0.0 a.0.1 a.1.0.0 a.1.0.1 in
    record { value = o.value; bytes = o.bytes ∙ three-bytes b x y h g (omega arith) (omega arith) a.1.0.0 a.1.0.1 }

four-whole : (low high b : ℕ) (s : List ℕ) → 0x80 ≤ low → high ≤ 0xBF → 0xF0 ≤ b → b ≤ 0xF4 → AllIn (low ‥ high ∷ 0x80 ‥ 0xBF ∷ 0x80 ‥ 0xBF ∷ []) s
    → ((x y z : ℕ) → low ≤ x → x ≤ high → 0x80 ≤ y → y ≤ 0xBF → 0x80 ≤ z → z ≤ 0xBF
    → let v : ℕ = b % 8 * 262144 + x % 64 * 4096 + y % 64 * 64 + z % 64 in Sound v (four v))
    → Whole (b ∷ s) 4
unfolding bits
four-whole low high b [] i j h g a f = absurd a
four-whole low high b (x ∷ []) i j h g a f = absurd a.1
four-whole low high b (x ∷ y ∷ []) i j h g a f = absurd a.1.1
four-whole low high b (x ∷ y ∷ z ∷ t) i j h g a f =
    let o = f x y z a.0.0 a.0.1 a.1.0.0 a.1.0.1 a.1.1.0.0 a.1.1.0.1 in
    record {
      value = o.value;
      bytes = o.bytes ∙ four_bytes b x y z h (omega arith) (omega arith) (omega arith) a.1.0.0 a.1.0.1 a.1.1.0.0 a.1.1.0.1;
    }

sound-low : (v : ℕ) → 0x800 ≤ v → v < 0xD800 → Sound v (three v)
sound-low v h g = record { value = scalar-low v g; bytes = utf8-three v h g }

sound-high : (v : ℕ) → 0xE000 ≤ v → v < 0x10000 → Sound v (three v)
sound-high v h g = record { value = scalar-high v h (omega arith); bytes = utf8-three-high v h g }

sound-four : (v : ℕ) → 0x10000 ≤ v → v < 0x110000 → Sound v (four v)
sound-four v h g = record { value = scalar-high v (omega arith) g; bytes = utf8-four v h g }

one-whole : (b : ℕ) (s : List ℕ) → b ≤ 0x7F → Whole (b ∷ s) 1
unfolding bits
one-whole b s h = let e : b % 128 ≡ b = omega arith in
    record { value = rw e (scalar-low b (omega arith)); bytes = rw e (utf8-one b (omega arith)) }

row-whole : (k b : ℕ) (s : List ℕ) → InRow table k b → AllIn (later_of table k) s → Whole (b ∷ s) (suc (length (later_of table k)))
unfolding table
row-whole zero b s h a = one-whole b s h.1
row-whole (suc zero) b s h a = two-whole b s h.0 h.1 a
row-whole (suc (suc zero)) b s h a =
    three-whole _ _ b s (omega arith) (omega arith) (omega arith) (omega arith) a (λ x y i j k l. sound-low _ (omega arith) (omega arith))
row-whole (suc (suc (suc zero))) b s h a =
    three-whole _ _ b s (omega arith) (omega arith) (omega arith) (omega arith) a (λ x y i j k l. sound-low _ (omega arith) (omega arith))
row-whole (suc (suc (suc (suc zero)))) b s h a =
    three-whole _ _ b s (omega arith) (omega arith) (omega arith) (omega arith) a (λ x y i j k l. sound-low _ (omega arith) (omega arith))
row-whole (suc (suc (suc (suc (suc zero))))) b s h a =
    three-whole _ _ b s (omega arith) (omega arith) (omega arith) (omega arith) a (λ x y i j k l. sound-high _ (omega arith) (omega arith))
row-whole (suc (suc (suc (suc (suc (suc zero)))))) b s h a =
    four-whole _ _ b s (omega arith) (omega arith) (omega arith) (omega arith) a (λ x y z i j k l m n. sound-four _ (omega arith) (omega arith))
row-whole (suc (suc (suc (suc (suc (suc (suc zero))))))) b s h a =
    four-whole _ _ b s (omega arith) (omega arith) (omega arith) (omega arith) a (λ x y z i j k l m n. sound-four _ (omega arith) (omega arith))
row-whole (suc (suc (suc (suc (suc (suc (suc (suc zero)))))))) b s h a =
    four-whole _ _ b s (omega arith) (omega arith) (omega arith) (omega arith) a (λ x y z i j k l m n. sound-four _ (omega arith) (omega arith))
row-whole (suc (suc (suc (suc (suc (suc (suc (suc (suc k))))))))) b s h a = absurd h

-- the sequence at the head of a list
pub whole : (s : List ℕ) (n : ℕ) → seq_len s ≡ suc n → Whole s (suc n)
unfolding seq_len
whole [] n e = absurd (omega arith)
whole (b ∷ s) n e =
    let f : Found table b s n = found table b s n e in
    rw f.len (row-whole f.at b s f.first f.later)
