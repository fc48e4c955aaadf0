-- That a tree and its bytes have as many fields with members, and that no more of them are open at once. Assumes nothing.
use Rattle.std.specs.Prelude.{ℕ, ◌+◌, ◌≤◌, ◌<◌, ◌≡◌, refl, List, Bool, true, false, eqb, length, get_or}
use Rattle.std.proofs.Common.{arith, sym, ap, subst, ◌∙◌, eqb-true}
use Rattle.tree.specs.Table.{shapes}
use Rattle.tree.specs.Leaf.{shape, is_leaf_tag}
use Rattle.tree.specs.Rose.{Rose, Roses, leaf, node, rnil, rcons, end_of, place_of, Row, row-le}
use Rattle.tree.specs.Rose as rose
use Rattle.tree.specs.Grammar.{Obeys, Obey}
use Rattle.tree.proofs.Match.{not-both}
use Rattle.tree.specs.Tree.{Tree}
use Rattle.tree.specs.Form.{At, f_tree}
use Rattle.tree.proofs.Obeyed.{obeys-tree}
use Rattle.tree.specs.Nest.{counts, mark, nest, nests}
use Rattle.tree.specs.Count.{total, totals, Passed, over, bytes, members}

-- n from p on are c before e and m from there
pub record Split (b : List ℕ) (o e c n : ℕ) : Type 0 where
  pub rest : ℕ
  pub passed : Passed b o e rest
  pub sum : n ≡ c + rest

past-leaf : (b : List ℕ) (o p n : ℕ) → p < length b → is_leaf_tag (get_or b p 0) ≡ true → Passed b o p n → Split b o (end_of b p) 0 n
past-leaf b o p n h l (over z) = absurd (omega arith)
past-leaf b o p n h l (bytes z e s) = record { rest = n; passed = s; sum = omega arith }
past-leaf b o p n h l (members z e s) = not-both (is_leaf_tag (get_or b p 0)) l e

past-node : (b : List ℕ) (o p n : ℕ) → p < length b → is_leaf_tag (get_or b p 0) ≡ false → Passed b o p n → Split b o (p + 3) (mark (counts o (get_or b p 0))) n
past-node b o p n h l (over z) = absurd (omega arith)
past-node b o p n h l (bytes z e s) = not-both (is_leaf_tag (get_or b p 0)) e l
past-node b o p k h l (members {n} z e s) = record { rest = n; passed = s; sum = refl }

mutual
  unfolding rose.At Obeys total

  past_row : (b : List ℕ) (o : ℕ) (rs : Roses) (p e n : ℕ) → Row b rs p e → Obey rs → e ≤ length b → Passed b o p n → Split b o e (totals o rs) n
  past_row b o rnil p e n r y k s = record { rest = n; passed = subst (λ (j : ℕ). Passed b o j n) r s; sum = omega arith }
  past_row b o (rcons f rs) p e n r y k s =
      let l : end_of b p ≤ e = row-le b rs (end_of b p) e r.2 in
      let v = past_one b o f p n r.0 r.1 y.0 (omega arith) s in
      let w = past_row b o rs (end_of b p) e v.rest r.2 y.1 k v.passed in
      record { rest = w.rest; passed = w.passed; sum = omega (arith, v.sum, w.sum) }

  past_one : (b : List ℕ) (o : ℕ) (r : Rose) (p n : ℕ) → place_of r ≡ p → rose.At b r → Obeys r → end_of b p ≤ length b → Passed b o p n → Split b o (end_of b p) (total o r) n
  past_one b o (leaf c q x) p n e h y k s =
      let t : get_or b p 0 ≡ c = ap (λ (j : ℕ). get_or b j 0) (sym e) ∙ h.0.tagged in
      past-leaf b o p n (omega arith) (ap is_leaf_tag t ∙ y) s
  past_one b o (node c q rs) p n e h y k s =
      let t : get_or b p 0 ≡ c = ap (λ (j : ℕ). get_or b j 0) (sym e) ∙ h.0.tagged in
      let z : Row b rs (p + 3) (end_of b p) = subst (λ (j : ℕ). Row b rs (j + 3) (end_of b j)) e h.1 in
      let v = past-node b o p n (omega arith) (ap is_leaf_tag t ∙ y.0) s in
      let w = past_row b o rs (p + 3) (end_of b p) v.rest z y.2 k v.passed in
      record { rest = w.rest; passed = w.passed; sum = omega (arith, v.sum, w.sum, ap (λ (j : ℕ). mark (counts o j)) t) }

over_none : (b : List ℕ) (o p n : ℕ) → length b ≤ p → Passed b o p n → n ≡ 0
over_none b o p n h (over z) = refl
over_none b o p n h (bytes z e s) = absurd (omega arith)
over_none b o p n h (members z e s) = absurd (omega arith)

pub in_tree : (b : List ℕ) (o n : ℕ) (t : Tree) → At b t → Passed b o 0 n → n ≡ total o (f_tree t)
unfolding At total
in_tree b o n t h s =
    let w = past_row b o (rcons (f_tree t) rnil) 0 (length b) n h (obeys-tree t).1 (omega arith) s in
    omega (arith, w.sum, over_none b o (length b) w.rest (omega arith) w.passed)

-- ---- no more are open at once

counted : (k : ℕ) → mark (counts 0 k) ≡ 1
unfolding counts
counted k = refl

mutual
  unfolding nest total

  -- each field: a leaf may be the last
  all_one : (r : Rose) → nest 0 r ≤ 1 + total 0 r
  all_one (leaf k p x) = omega (arith, counted k)
  all_one (node k p rs) = omega (arith, counted k, all_row rs)

  all_row : (rs : Roses) → nests 0 rs ≤ 1 + totals 0 rs
  all_row rnil = omega arith
  all_row (rcons r rs) = omega (arith, all_one r, all_row rs)

-- a definition is no leaf
no-leaf : (k : ℕ) → is_leaf_tag k ≡ true → (x : Bool) → eqb k 0x8C ≡ x → mark x ≡ 0
unfolding shape shapes
no-leaf k l true e = not-both (is_leaf_tag k) l (ap is_leaf_tag (eqb-true k 0x8C e))
no-leaf k l false e = refl

pub leaf-none : (k : ℕ) → is_leaf_tag k ≡ true → mark (counts 0x8C k) ≡ 0
unfolding counts
leaf-none k l = no-leaf k l (eqb k 0x8C) refl

mutual
  unfolding nest total Obeys

  defs-one : (r : Rose) → Obeys r → nest 0x8C r ≤ total 0x8C r
  defs-one (leaf k p x) o = omega (arith, leaf-none k o)
  defs-one (node k p rs) o = omega (arith, defs-row rs o.2)

  defs-row : (rs : Roses) → Obey rs → nests 0x8C rs ≤ totals 0x8C rs
  defs-row rnil o = omega arith
  defs-row (rcons r rs) o = omega (arith, defs-one r o.0, defs-row rs o.1)

pub few-fields : (b : List ℕ) (n : ℕ) (t : Tree) → At b t → Passed b 0 0 n → nest 0 (f_tree t) ≤ 1 + n
few-fields b n t h s = omega (arith, in_tree b 0 n t h s, all_one (f_tree t))

pub few-definitions : (b : List ℕ) (n : ℕ) (t : Tree) → At b t → Passed b 0x8C 0 n → nest 0x8C (f_tree t) ≤ n
unfolding Obeys
few-definitions b n t h s = omega (arith, in_tree b 0x8C n t h s, defs-one (f_tree t) (obeys-tree t).1.0)
