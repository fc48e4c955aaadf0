-- A text as a decimal number, read digit by digit. Assumes nothing.
use mathlib.Core.Path.{◌≡◌, refl, ap, ◌∙◌}
use mathlib.Core.Bool.{Bool, true, false, ◌&&◌}
use mathlib.Core.List.{List, [], ◌∷◌}
use Prim.Native.Nat.{ℕ, zero, suc, ◌+◌, ◌-◌, ◌*◌, ◌^◌, ◌≤◌, ◌<◌}
use native.Mathlib.Omega.{arith}
use lib.ListN.{length, get_or, drop, drop_of_length-le}
use lib.Seq.{drop-cons}
use lib.Dec.{leb}
use borrow.Author.Tests.{lt-ltb, le-ltb, le-leb, lt-leb}
use Rattle.rules.specs.Outs.{are_digits, decimal}
use Rattle.reads.specs.Widths.{int_of}

no-right : (t : Bool) → (t && false) ≡ false
no-right true = refl
no-right false = refl

-- ---- what is no integer

pub int-none : (x : List ℕ) → length x ≡ 0 → 2 ^ 63 ≡ int_of x
unfolding int_of
int-none x e = rw (lt-leb 1 (length x) (omega arith))

int-other : (x : List ℕ) → are_digits x ≡ false → 2 ^ 63 ≡ int_of x
unfolding int_of
int-other x e = rw (e, no-right (leb 1 (length x)))

int-big : (x : List ℕ) → 2 ^ 63 ≤ decimal 0 x → 2 ^ 63 ≡ int_of x
unfolding int_of
int-big x h = rw (le-ltb (decimal 0 x) (2 ^ 63) h, no-right (leb 1 (length x) && are_digits x))

decimal-ge : (ds : List ℕ) (k : ℕ) → k ≤ decimal k ds
decimal-ge [] k = omega arith
decimal-ge (d ∷ ds) k = omega (arith, decimal-ge ds (10 * k + (d - 0x30)))

-- the first i digits have the value v
pub record Reading (x : List ℕ) (v i : ℕ) : Type 0 where
  pub digits : are_digits x ≡ are_digits (drop i x)
  pub value : decimal 0 x ≡ decimal v (drop i x)
  pub within : i ≤ length x

module _ (x : List ℕ) (v i : ℕ) (g : Reading x v i) (l : i < length x) where
  pub int-below : get_or x i 0 < 48 → 2 ^ 63 ≡ int_of x
  int-below h = int-other x (g.digits ∙ ap are_digits (drop-cons x i 0 l) ∙ rw (lt-leb 0x30 (get_or x i 0) h))

  pub int-above : 57 < get_or x i 0 → 2 ^ 63 ≡ int_of x
  int-above h = int-other x (g.digits ∙ ap are_digits (drop-cons x i 0 l) ∙ rw (lt-leb (get_or x i 0) 0x39 h, no-right (leb 0x30 (get_or x i 0))))

  next-value : decimal 0 x ≡ decimal (10 * v + (get_or x i 0 - 48)) (drop (suc i) x)
  next-value = g.value ∙ ap (decimal v) (drop-cons x i 0 l)

  pub int-over : 2 ^ 63 ≤ 10 * v + (get_or x i 0 - 48) → 2 ^ 63 ≡ int_of x
  int-over h = int-big x (omega (arith, next-value, decimal-ge (drop (suc i) x) (10 * v + (get_or x i 0 - 48))))

pub int-high : (x : List ℕ) (v i : ℕ) → Reading x v i → 2 ^ 63 ≤ v → 2 ^ 63 ≡ int_of x
int-high x v i g h = int-big x (omega (arith, g.value, h, decimal-ge (drop i x) v))

pub int-done : (x : List ℕ) (v i : ℕ) → Reading x v i → length x ≤ i → (length x ≡ 0 → ⊥) → v < 2 ^ 63 → v ≡ int_of x
unfolding int_of
int-done x v i g l n h =
    let e : drop i x ≡ [] = drop_of_length-le x l in
    let d : decimal 0 x ≡ v = g.value ∙ ap (decimal v) e in
    let a : are_digits x ≡ true = g.digits ∙ ap are_digits e in
    let p : 1 ≤ length x = pos (length x) n in
    rw (le-leb 1 (length x) p, a, d, lt-ltb v (2 ^ 63) h)
  where
    pos : (m : ℕ) → (m ≡ 0 → ⊥) → 1 ≤ m
    pos zero n = absurd (n refl)
    pos (suc m) n = omega arith
