-- The width of a pattern, summed up member by member. Assumes nothing.
use Prim.Native.Nat.{ℕ, ◌+◌, ◌*◌, ◌≤◌, ◌<◌}
use native.Mathlib.Omega.{arith}
use mathlib.Core.Path.{◌≡◌, refl, sym, ap, subst}
use mathlib.Core.List.{List, [], ◌∷◌}
use lib.ListN.{get_or}
use Rattle.tree.specs.Rose.{end_of}
use Rattle.tree.specs.Tree.{Pattern}
use Rattle.reads.specs.Bytes.{PatternAt, sub_pattern}
use Rattle.reads.specs.Widths.{pat_width}
use Rattle.reads.specs.Parts.{on-pat-var}
use Rattle.reads.specs.Subs.{subs_of, sum_width, SubAt, Subs, subs-of, subs-some, subs-none, subs-le}

sum-cons : (x : Pattern) (ys : List Pattern) → sum_width (x ∷ ys) ≡ 2 + pat_width x + sum_width ys
unfolding sum_width
sum-cons x ys = refl

sum-nil : sum_width [] ≡ 0
unfolding sum_width
sum-nil = refl

-- w bytes are known when p is reached
pub record Widening (b : List ℕ) (q z p w : ℕ) : Type 0 where
  pub goes : (x : Pattern) → PatternAt b x q → (ys : List Pattern) × Subs b (get_or b q 0) ys p z × (pat_width x ≡ w + sum_width ys)
  pub room : w + 2 * q + 2 ≤ 2 * p

pub width-var : (b : List ℕ) (q : ℕ) → get_or b q 0 ≡ 0x98 → (x : Pattern) → PatternAt b x q → 1 ≡ pat_width x
unfolding pat_width
width-var b q e = on-pat-var b q (λ (x : Pattern). 1 ≡ pat_width x) e (λ x f t k. refl)

module _ (b : List ℕ) (q z : ℕ) where
  pub width-start : z ≡ end_of b q → (get_or b q 0 ≡ 0x98 → ⊥) → Widening b q z (q + 3) 3
  width-start e n = record {
    goes = λ x h.
        let s = subs-of b q n x h in
        (subs_of x, subst (λ (i : ℕ). Subs b (get_or b q 0) (subs_of x) (q + 3) i) (sym e) s.0, s.1);
    room = omega arith;
  }

  -- a member stands at p, for some pattern stands at q
  pub width-sub : (p w : ℕ) → Widening b q z p w → (x : Pattern) → PatternAt b x q → p < z → (s : Pattern) × SubAt b (get_or b q 0) p s × (end_of b p ≤ z)
  width-sub p w g x h l =
      let s = g.goes x h in
      let k = subs-some b (get_or b q 0) s.0 p z s.1 l in
      (k.0, k.3, k.4)

  pub width-more : (p w r u v : ℕ) → Widening b q z p w → p < z → u ≡ end_of b p
      → ((s : Pattern) → PatternAt b s (sub_pattern b (get_or b q 0) p) → r ≡ pat_width s)
      → r + 2 * p + 2 ≤ 2 * end_of b p → v ≡ w + (2 + r) → Widening b q z u v
  width-more p w r u v g l e f k i = record {
    goes = λ x h.
        let s = g.goes x h in
        let m = subs-some b (get_or b q 0) s.0 p z s.1 l in (
          m.1,
          subst (λ (j : ℕ). Subs b (get_or b q 0) m.1 j z) (sym e) m.5,
          omega (arith, s.2, ap sum_width m.2, sum-cons m.0 m.1, f m.0 m.3.at, i),
        );
    room = omega (arith, g.room, k, e, i);
  }

  pub width-done : (p w : ℕ) → Widening b q z p w → z ≤ p → (x : Pattern) → PatternAt b x q → w ≡ pat_width x
  width-done p w g l x h =
      let s = g.goes x h in
      omega (arith, s.2, ap sum_width (subs-none b (get_or b q 0) s.0 p z s.1 l), sum-nil)

  pub width_room : (p w : ℕ) → Widening b q z p w → (x : Pattern) → PatternAt b x q → w + 2 * q + 2 ≤ 2 * z
  width_room p w g x h = let s = g.goes x h in omega (arith, g.room, subs-le b (get_or b q 0) s.0 p z s.1)
