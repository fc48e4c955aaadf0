-- Decoding the bytes of a character gives the character back: a case for each row of Table 3-7.
-- Assumes nothing.
use mathlib.Core.Path.{◌≡◌, refl, ◌∙◌}
use mathlib.Core.Bool.{true}
use mathlib.Core.Logic.{⊎_elim}
use mathlib.Core.List.{List, [], ◌∷◌, ◌++◌}
use Prim.Native.Nat.{ℕ, zero, suc, ◌+◌, ◌*◌, ◌/◌, ◌%◌, ◌≤◌, ◌<◌}
use native.Mathlib.Omega.{arith}
use lib.ListN.{length}
use borrow.Author.Tests.{le-leb}
use Rattle.text.specs.Ranges.{Range, starts}
use Rattle.text.specs.Utf8.{Row, table, len_in, seq_len, bits, scalar, is_scalar, utf8, one, two, three, four}
use Rattle.text.proofs.Rows.{Leads, later_of, here, above}
use Rattle.text.proofs.Bytes.{side, scalar-side, utf8-one, utf8-two, utf8-three, utf8-three-high, utf8-four}

-- each byte in its range
abbrev pub AllIn : List Range → List ℕ → Type 0
AllIn [] s = Unit
AllIn (r ∷ rs) [] = ⊥
AllIn (r ∷ rs) (b ∷ s) = ((r.from ≤ b) × (b ≤ r.to)) × AllIn rs s

all_in : (rs : List Range) (s : List ℕ) → AllIn rs s → starts rs s ≡ true
all_in [] s h = refl
all_in (r ∷ rs) [] h = absurd h
all_in (r ∷ rs) (b ∷ s) h = rw (le-leb _ _ h.0.0, le-leb _ _ h.0.1) (all_in rs s h.1)

hit : (rs : List Row) (k b : ℕ) (s : List ℕ) → Leads rs k b → AllIn (later_of rs k) s → len_in rs b s ≡ suc (length (later_of rs k))
hit [] k b s h a = absurd h
hit (r ∷ rs) zero b s h a = here r rs b s h.0 h.1 ∙ rw (all_in r.later s a)
hit (r ∷ rs) (suc k) b s h a = above r rs b s h.0 ∙ hit rs k b s h.1 a

seq : (k b : ℕ) (s : List ℕ) → Leads table k b → AllIn (later_of table k) s → seq_len (b ∷ s) ≡ suc (length (later_of table k))
unfolding seq_len
seq k b s h a = hit table k b s h a

two_back : (c : ℕ) → c < 0x800 → (0xC0 + c / 64) % 32 * 64 + (0x80 + c % 64) % 64 ≡ c
two_back c h = omega arith

three_back : (c : ℕ) → c < 0x10000 → (0xE0 + c / 4096) % 16 * 4096 + (0x80 + c / 64 % 64) % 64 * 64 + (0x80 + c % 64) % 64 ≡ c
three_back c h = omega arith

four-tops : (q : ℕ) → q < 0x4400 → (0xF0 + q / 4096) % 8 * 4096 + (0x80 + q / 64 % 64) % 64 * 64 + (0x80 + q % 64) % 64 ≡ q
four-tops q h = omega arith

six-more : (x y z w q r c : ℕ) → x * 4096 + y * 64 + z ≡ q → w ≡ r → q * 64 + r ≡ c → x * 262144 + y * 4096 + z * 64 + w ≡ c
six-more x y z w q r c e f g = omega arith

four-back : (c : ℕ) → c < 0x110000
    → (0xF0 + c / 262144) % 8 * 262144 + (0x80 + c / 4096 % 64) % 64 * 4096 + (0x80 + c / 64 % 64) % 64 * 64 + (0x80 + c % 64) % 64 ≡ c
four-back c h =
    let e : c / 262144 ≡ c / 64 / 4096 = omega arith in
    let f : c / 4096 ≡ c / 64 / 64 = omega arith in
    rw (e, f)
    (six-more ((0xF0 + c / 64 / 4096) % 8) ((0x80 + c / 64 / 64 % 64) % 64) ((0x80 + c / 64 % 64) % 64) ((0x80 + c % 64) % 64) (c / 64) (c % 64) c
    (four-tops (c / 64) (omega arith)) (omega arith) (omega arith))

-- l is c in UTF-8: read before anything else it gives its own length, and c
pub record Back (c : ℕ) (l t : List ℕ) : Type 0 where
  pub some : 0 < length l
  pub len : seq_len (l ++ t) ≡ length l
  pub code : scalar (l ++ t) ≡ c

module _ (c : ℕ) (t : List ℕ) where
  back_one : c < 0x80 → Back c (utf8 c) t
  unfolding table scalar bits
  back_one h =
      let e : seq_len (one c ++ t) ≡ 1 = seq 0 _ _ (omega arith) tt in
      rw (utf8-one c h) (record { some = omega arith; len = e; code = rw e (omega arith) })

  back-two : 0x80 ≤ c → c < 0x800 → Back c (utf8 c) t
  unfolding table scalar bits
  back-two h g =
      let e : seq_len (two c ++ t) ≡ 2 = seq 1 _ _ (omega arith) (omega arith) in
      rw (utf8-two c h g) (record { some = omega arith; len = e; code = rw e (two_back c g) })

  three-as : c < 0x10000 → seq_len (three c ++ t) ≡ 3 → Back c (three c) t
  unfolding scalar bits
  three-as g e = record { some = omega arith; len = e; code = rw e (three_back c g) }

  back-E0 : 0x800 ≤ c → c < 0x1000 → Back c (utf8 c) t
  unfolding table
  back-E0 h g = rw (utf8-three c h (omega arith)) (three-as (omega arith) (seq 2 _ _ (omega arith) (omega arith)))

  back-E1 : 0x1000 ≤ c → c < 0xD000 → Back c (utf8 c) t
  unfolding table
  back-E1 h g = rw (utf8-three c (omega arith) (omega arith)) (three-as (omega arith) (seq 3 _ _ (omega arith) (omega arith)))

  back-ED : 0xD000 ≤ c → c < 0xD800 → Back c (utf8 c) t
  unfolding table
  back-ED h g = rw (utf8-three c (omega arith) g) (three-as (omega arith) (seq 4 _ _ (omega arith) (omega arith)))

  back-EE : 0xE000 ≤ c → c < 0x10000 → Back c (utf8 c) t
  unfolding table
  back-EE h g = rw (utf8-three-high c h g) (three-as g (seq 5 _ _ (omega arith) (omega arith)))

  four-as : c < 0x110000 → seq_len (four c ++ t) ≡ 4 → Back c (four c) t
  unfolding scalar bits
  four-as g e = record { some = omega arith; len = e; code = rw e (four-back c g) }

  back-F0 : 0x10000 ≤ c → c < 0x40000 → Back c (utf8 c) t
  unfolding table
  back-F0 h g = rw (utf8-four c h (omega arith)) (four-as (omega arith) (seq 6 _ _ (omega arith) (omega arith)))

  back-F1 : 0x40000 ≤ c → c < 0x100000 → Back c (utf8 c) t
  unfolding table
  back-F1 h g = rw (utf8-four c (omega arith) (omega arith)) (four-as (omega arith) (seq 7 _ _ (omega arith) (omega arith)))

  back-F4 : 0x100000 ≤ c → c < 0x110000 → Back c (utf8 c) t
  unfolding table
  back-F4 h g = rw (utf8-four c (omega arith) g) (four-as g (seq 8 _ _ (omega arith) (omega arith)))

  low : c < 0xD800 → Back c (utf8 c) t
  low h =
      ⊎_elim back_one
      (λ a. ⊎_elim (back-two a)
      (λ b. ⊎_elim (back-E0 b) (λ d. ⊎_elim (back-E1 d) (λ e. back-ED e h) (side c 0xD000)) (side c 0x1000))
      (side c 0x800))
      (side c 0x80)

  high : 0xE000 ≤ c → c < 0x110000 → Back c (utf8 c) t
  high h g =
      ⊎_elim (back-EE h)
      (λ a. ⊎_elim (back-F0 a) (λ b. ⊎_elim (back-F1 b) (λ d. back-F4 d g) (side c 0x100000)) (side c 0x40000))
      (side c 0x10000)

  -- for every scalar value, whatever follows
  pub back : is_scalar c ≡ true → Back c (utf8 c) t
  back e = ⊎_elim low (λ p. high p.0 p.1) (scalar-side c e)
