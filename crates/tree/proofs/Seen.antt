-- The pass over all headers: that they are right, and the counts. Assumes nothing.
use Prim.Native.Nat.{ℕ, ◌+◌, ◌-◌, ◌≤◌, ◌<◌}
use native.Mathlib.Nat.{add-zero, zero-add}
use native.Mathlib.Omega.{arith}
use mathlib.Core.Path.{◌≡◌, refl, sym, subst, ◌∙◌}
use mathlib.Core.List.{List, []}
use mathlib.Core.Bool.{Bool, true, false, cond, not}
use lib.Dec.{eqb}
use Rattle.std.specs.Int.{from_bool}
use lib.ListN.{length, get_or}
use Rattle.tree.specs.Leaf.{shape, is_leaf_tag}
use Rattle.tree.specs.Shapes.{IsShape, is_row}
use Rattle.tree.specs.declared.table.Shape.{Shape}
use Rattle.tree.specs.Rose.{end_of}
use Rattle.tree.specs.Scan.{Inner, next_of}
use Rattle.std.specs.Prelude.{Some}
use Rattle.tree.specs.Nest.{counts, mark, Shallow}
use Rattle.tree.specs.Wf.{Wf}
use Rattle.tree.proofs.Wf.{tree_of}
use Rattle.tree.proofs.Verdicts.{walk_of}
use Rattle.tree.specs.Count.{Passed, over, bytes, members}
use Rattle.tree.proofs.Count.{leaf-none, few-fields, few-definitions}
use Rattle.tree.specs.Formed.{Formed, AtMost}
use Rattle.tree.proofs.Headers.{Going, going_on, right, row-leaf}

-- c were counted before p: with those from p on it is all
abbrev Tally : List ℕ → ℕ → ℕ → ℕ → Type 0
Tally b o p c = (m : ℕ) → Passed b o p m → Passed b o 0 (c + m)

tally-start : (b : List ℕ) (o : ℕ) → Tally b o 0 0
tally-start b o m s = subst (Passed b o 0) (sym (zero-add m)) s

tally-step : (b : List ℕ) (o p c r : ℕ) → p < length b → (x : Bool) → is_leaf_tag (get_or b p 0) ≡ x → r ≡ cond x 0 (mark (counts o (get_or b p 0))) → Tally b o p c → Tally b o (next_of x b p) (c + r)
tally-step b o p c r h true l e t m s = subst (λ (j : ℕ). Passed b o 0 (j + m)) (omega arith) (t m (bytes h l s))
tally-step b o p c r h false l e t m s =
    let q : c + (mark (counts o (get_or b p 0)) + m) ≡ (c + r) + m = omega arith in
    subst (Passed b o 0) q (t (mark (counts o (get_or b p 0)) + m) (members h l s))

tally-end : (b : List ℕ) (o p c : ℕ) → length b ≤ p → Tally b o p c → Passed b o 0 c
tally-end b o p c h t = subst (Passed b o 0) (add-zero c) (t 0 (over h))

-- so many fields can be open at once, of those before p, and so many definitions; one field with no members is counted from the start
pub record Seen (b : List ℕ) (p fields definitions : ℕ) : Type 0 where
  pub going : Going b p
  pub some : 0 < fields
  pub few : fields ≤ p + 1
  pub fewer : definitions ≤ p
  pub nodes : Tally b 0 p (fields - 1)
  pub defs : Tally b 0x8C p definitions

pub seen_start : (b : List ℕ) → Going b 0 → Seen b 0 1 0
seen_start b g = record { going = g; some = omega arith; few = omega arith; fewer = omega arith; nodes = tally-start b 0; defs = tally-start b 0x8C }

-- what is added at a header: 1 for a field with members, 1 for a definition, which has members
def-mark : (k : ℕ) (x : Bool) → is_leaf_tag k ≡ x → mark (counts 0x8C k) ≡ cond x 0 (mark (counts 0x8C k))
def-mark k true e = leaf-none k e
def-mark k false e = refl

row-mark : (r x : Bool) → x ≡ not r → from_bool r ≡ cond x 0 1
row-mark true x e = rw e refl
row-mark false x e = rw e refl

mark-from : (x : Bool) → from_bool x ≡ mark x
mark-from true = refl
mark-from false = refl

from-le : (x : Bool) → from_bool x ≤ 1
from-le true = omega arith
from-le false = omega arith

next_more : (b : List ℕ) (p : ℕ) (x : Bool) → p + 3 ≤ next_of x b p
next_more b p true = omega arith
next_more b p false = omega arith

module _ (b : List ℕ) (p n d q : ℕ) (w : Seen b p n d) (h : p < length b) (m : end_of b p ≤ length b)
    (i : Inner (is_leaf_tag (get_or b p 0)) b p × (q ≡ next_of (is_leaf_tag (get_or b p 0)) b p)) where
  pub seen-less : p < q
  seen-less = omega (arith, i.1, next_more b p (is_leaf_tag (get_or b p 0)))

  pub seen_step : (s : Shape) → IsShape s (shape (get_or b p 0)) → Seen b q (n + from_bool (is_row s)) (d + from_bool (eqb (get_or b p 0) 0x8C))
  unfolding counts
  seen_step s k =
      let x = is_leaf_tag (get_or b p 0) in
      let r₁ = from_bool (is_row s) in
      let r₂ = from_bool (eqb (get_or b p 0) 0x8C) in
      let e : r₁ ≡ cond x 0 1 = row-mark (is_row s) x (row-leaf s (get_or b p 0) k (is_row s) refl) in
      let g : r₂ ≡ mark (counts 0x8C (get_or b p 0)) = mark-from (eqb (get_or b p 0) 0x8C) in
      let f : r₁ ≤ 1 = from-le (is_row s) in
      let h₂ : r₂ ≤ 1 = from-le (eqb (get_or b p 0) 0x8C) in
      let y : p + 3 ≤ next_of x b p = next_more b p x in
      let z : (n - 1) + r₁ ≡ (n + r₁) - 1 = omega (arith, w.some) in
      record {
        going = going_on b p q w.going h m i.0 i.1;
        some = omega (arith, w.some);
        few = omega (arith, w.few, i.1);
        fewer = omega (arith, w.fewer, i.1);
        nodes = subst (λ (j : ℕ). Tally b 0 j ((n + r₁) - 1)) (sym i.1) (subst (Tally b 0 (next_of x b p)) z (tally-step b 0 p (n - 1) r₁ h x refl e w.nodes));
        defs = subst (λ (j : ℕ). Tally b 0x8C j (d + r₂)) (sym i.1) (tally-step b 0x8C p d r₂ h x refl (g ∙ def-mark (get_or b p 0) x refl) w.defs);
      }

pub seen_end : (b : List ℕ) (p n d : ℕ) → Seen b p n d → length b ≤ p → Formed b (Some (record { fields = n; definitions = d }))
seen_end b p n d w h = (
  right b p w.going h,
  λ t a. omega (arith, few-fields b (n - 1) t a (tally-end b 0 p (n - 1) h w.nodes), w.some),
  λ t a. few-definitions b d t a (tally-end b 0x8C p d h w.defs),
)

-- ---- few enough

pub few-open : (b : List ℕ) (o m n : ℕ) → Wf b → AtMost b o m → m ≤ n → Shallow b o n [] 0
few-open b o m n w f h = let t = tree_of b w in walk_of b o n t.0 t.1 (omega (arith, f t.0 t.1))
