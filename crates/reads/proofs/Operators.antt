-- The width of an operator's record, by the tests of its byte; what a fold is, by its name. Assumes nothing.
use Prim.Native.Nat.{ℕ, ◌≤◌, ◌<◌}
use native.Mathlib.Omega.{arith}
use native.Mathlib.Decide.{dec_lt}
use mathlib.Core.Path.{◌≡◌, refl, sym, ◌∙◌}
use mathlib.Core.Bool.{Bool, true, false}
use mathlib.Core.List.{[], ◌∷◌}
use lib.Dec.{eqb}
use borrow.Author.Tests.{eq-eqb, ne_eqb, lt-ltb, le-ltb, eqb-true, eqb-false}
use Rattle.rules.specs.Names.{Text, ascii, same}
use Rattle.reads.specs.Widths.{op_width, fold_kind}

module _ (x : ℕ) where
  pub op-low : x < 3 → 7 ≡ op_width x
  unfolding op_width
  op-low h = rw (ne_eqb x 3 (λ e. omega (arith, e)), ne_eqb x 4 (λ e. omega (arith, e)), lt-ltb x 16 (omega arith))

  pub op-logic : 3 ≤ x → x < 5 → 8 ≡ op_width x
  unfolding op_width
  op-logic h k = elim (dec_lt x 4) [ yes l ↦ rw (eq-eqb x 3 (three l)) | no l ↦ rw (ne_eqb x 3 (λ e. l (omega (arith, e))), eq-eqb x 4 (four l)) ]
    where
      three : x < 4 → x ≡ 3
      three l = omega arith

      four : (x < 4 → ⊥) → x ≡ 4
      four l = omega arith

  pub op-middle : 5 ≤ x → x < 16 → 7 ≡ op_width x
  unfolding op_width
  op-middle h k = rw (ne_eqb x 3 (λ e. omega (arith, e)), ne_eqb x 4 (λ e. omega (arith, e)), lt-ltb x 16 k)

  pub op-high : 16 ≤ x → 8 ≡ op_width x
  unfolding op_width
  op-high h = rw (ne_eqb x 3 (λ e. omega (arith, e)), ne_eqb x 4 (λ e. omega (arith, e)), le-ltb x 16 h)

-- ---- folds

eqb-sym : (a b : ℕ) → eqb a b ≡ eqb b a
eqb-sym a b = go (eqb a b) refl
  where
    go : (t : Bool) → eqb a b ≡ t → t ≡ eqb b a
    go true e = sym (eq-eqb b a (sym (eqb-true a b e)))
    go false e = sym (ne_eqb b a (λ h. eqb-false a b e (sym h)))

-- texts are compared the same either way round
same-sym : (x y : Text) → same x y ≡ same y x
same-sym [] [] = refl
same-sym [] (b ∷ y) = refl
same-sym (a ∷ x) [] = refl
same-sym (a ∷ x) (b ∷ y) = rw (eqb-sym a b, same-sym x y)

-- whether a text is the name r: what the code compared, against what the rule says
pub named : (f x : Text) (r t : Bool) → r ≡ same x f → r ≡ t → same f x ≡ t
named f x r t e h = same-sym f x ∙ sym e ∙ h

module _ (f : Text) where
  pub two-reduce : same f (ascii "reduce") ≡ true → 0 ≡ fold_kind f 2
  unfolding fold_kind
  two-reduce e = rw e

  pub two-foreach : same f (ascii "reduce") ≡ false → same f (ascii "foreach") ≡ true → 1 ≡ fold_kind f 2
  unfolding fold_kind
  two-foreach n e = rw (n, e)

  pub two_none : same f (ascii "reduce") ≡ false → same f (ascii "foreach") ≡ false → 3 ≡ fold_kind f 2
  unfolding fold_kind
  two_none n e = rw (n, e)

  pub three-foreach : same f (ascii "foreach") ≡ true → 2 ≡ fold_kind f 3
  unfolding fold_kind
  three-foreach e = rw e

  pub three-none : same f (ascii "foreach") ≡ false → 3 ≡ fold_kind f 3
  unfolding fold_kind
  three-none e = rw e

  pub kind-other : (a : ℕ) → (a ≡ 2 → ⊥) → (a ≡ 3 → ⊥) → 3 ≡ fold_kind f a
  unfolding fold_kind
  kind-other a n m = rw (ne_eqb a 2 n, ne_eqb a 3 m)
