-- Case analysis on a test, and tests that are joined. Assumes nothing.
use mathlib.Core.Path.{◌≡◌, refl}
use mathlib.Core.Bool.{Bool, true, false, cond, ◌&&◌, ◌||◌}

module _ {A : Type 0} where
  -- what holds of both arms
  pub either : (P : A → Type 0) (t : Bool) (x y : A) → (t ≡ true → P x) → (t ≡ false → P y) → P (cond t x y)
  either P true x y f g = f refl
  either P false x y f g = g refl

  -- what holds between the arms of two choices by one test
  pub alike : (R : A → A → Type 0) (t : Bool) (x x' y y' : A) → (t ≡ true → R x x') → (t ≡ false → R y y') → R (cond t x y) (cond t x' y')
  alike R true x x' y y' f g = f refl
  alike R false x x' y y' f g = g refl

pub both_right : (a b : Bool) → a && b ≡ true → b ≡ true
both_right true b e = e
both_right false true e = refl
both_right false false e = e

pub or_left : (x : Bool) → x || false ≡ true → x ≡ true
or_left true e = refl
or_left false e = e
