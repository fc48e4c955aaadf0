-- What lent room holds after a run of stores. `overlay d at bs` is the content d with bs written from at on; where d ends, so does the writing,
-- so that "write what there is room for" needs no side condition, and neither do the laws that put two runs together. Assumes nothing.
use Rattle.std.specs.Prelude.{◌≡◌, set, drop}
use Rattle.std.proofs.Math.Path.{refl, ap}
use Rattle.std.proofs.Common.{◌∙◌}
use mathlib.Core.List.{List, [], ◌∷◌, ◌++◌}
use Prim.Native.Nat.{ℕ, suc, ◌+◌, ◌≤◌, ◌<◌}
use Rattle.std.proofs.Math.Nat.{add-zero, zero-add}
use native.Mathlib.Omega.{arith}
use Rattle.std.proofs.Math.ListN.{length}
use Rattle.std.proofs.Math.Seq.{sets, sets-eq, length-sets, set_out}
use Rattle.std.proofs.lemmas.List.{set_comm}

module _ {A : Type 0} where
  unfoldable pub overlay : List A → ℕ → List A → List A
  overlay d at bs = sets d at bs

  -- one store
  pub overlay-one : (d : List A) (at : ℕ) (b : A) → overlay d at (b ∷ []) ≡ set d at b
  unfolding overlay
  overlay-one d at b = refl

  pub overlay-cons : (d : List A) (at : ℕ) (b : A) (bs : List A) → overlay d at (b ∷ bs) ≡ overlay (set d at b) (suc at) bs
  unfolding overlay
  overlay-cons d at b bs = refl

  -- nothing written
  pub overlay-none : (d : List A) (at : ℕ) → overlay d at [] ≡ d
  unfolding overlay
  overlay-none d at = refl

  pub length-overlay : (d : List A) (at : ℕ) (bs : List A) → length (overlay d at bs) ≡ length d
  unfolding overlay
  length-overlay d at bs = length-sets d at bs

  -- a run, and the run that follows it
  pub overlay-append : (d : List A) (at : ℕ) (xs bs : List A) → overlay (overlay d at xs) (at + length xs) bs ≡ overlay d at (xs ++ bs)
  unfolding overlay
  overlay-append d at [] bs = rw add-zero
  overlay-append d at (a ∷ xs) bs =
      let e : at + suc (length xs) ≡ suc at + length xs = omega arith in
      rw e (overlay-append (set d at a) (suc at) xs bs)

  -- a store leaves a run that stands behind it alone
  set-overlay : (d : List A) (at i : ℕ) (a : A) (bs : List A) → i < at → set (overlay d at bs) i a ≡ overlay (set d i a) at bs
  unfolding overlay
  set-overlay d at i a [] h = refl
  set-overlay d at i a (b ∷ bs) h = set-overlay (set d at b) (suc at) i a bs (omega arith) ∙ ap (λ (l : List A). sets l (suc at) bs) (set_comm d at i b a (λ e. omega arith))

  -- a run that is written after the one that follows it
  pub overlay-before : (d : List A) (at : ℕ) (xs bs : List A) → overlay (overlay d (at + length xs) bs) at xs ≡ overlay d at (xs ++ bs)
  unfolding overlay
  overlay-before d at [] bs = rw add-zero
  overlay-before d at (a ∷ xs) bs =
      let e : at + suc (length xs) ≡ suc at + length xs = omega arith in
      rw e (ap (λ (l : List A). sets l (suc at) xs) (set-overlay d (suc at + length xs) at a bs (omega arith)) ∙ overlay-before (set d at a) (suc at) xs bs)

  -- there is no room at all
  pub overlay-out : (d : List A) (at : ℕ) (bs : List A) → length d ≤ at → overlay d at bs ≡ d
  unfolding overlay
  overlay-out d at [] h = refl
  overlay-out d at (b ∷ bs) h = rw (set_out d at b h) (overlay-out d (suc at) bs (omega arith))

  -- a run from the front, where there is room for it
  pub overlay-front : (d bs : List A) → length bs ≤ length d → overlay d 0 bs ≡ bs ++ drop (length bs) d
  unfolding overlay
  overlay-front d bs h = sets-eq bs d 0 (rw zero-add h) ∙ rw zero-add
