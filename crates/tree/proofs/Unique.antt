-- One tree for given bytes: two rows of fields that obey the table and stand at one place are equal, and fields tell the tree. Assumes nothing.
use Rattle.std.specs.Prelude.{ℕ, ◌+◌, ◌≡◌, refl, List, length, get_or}
use Rattle.std.proofs.Common.{arith, sym, ap, ap₂, ◌∙◌}
use Rattle.tree.specs.Rose.{Rose, Roses, leaf, node, rnil, rcons, end_of, place_of, Row, row-le}
use Rattle.tree.specs.Rose as rose
use Rattle.tree.specs.Leaf.{is_leaf_tag}
use Rattle.tree.specs.Grammar.{Obeys, Obey}
use Rattle.tree.proofs.Match.{not-both}
use Rattle.tree.proofs.Obeyed.{obeys-tree}
use Rattle.tree.proofs.Back.{same-tree}
use Rattle.tree.specs.Tree.{Tree}
use Rattle.tree.specs.Form.{At, f_tree}

mutual
  unfolding rose.At Obeys

  one-rose : (b : List ℕ) (r s : Rose) → rose.At b r → rose.At b s → Obeys r → Obeys s → place_of r ≡ place_of s → r ≡ s
  one-rose b (leaf k p x) (leaf k' p' x') h g o u q = cc (h.0.tagged, g.0.tagged, h.1, g.1)
  one-rose b (leaf k p x) (node k' p' rs') h g o u q =
      let e : k ≡ k' = sym h.0.tagged ∙ ap (λ (j : ℕ). get_or b j 0) q ∙ g.0.tagged in
      not-both (is_leaf_tag k) o (ap is_leaf_tag e ∙ u.0)
  one-rose b (node k p rs) (leaf k' p' x') h g o u q =
      let e : k ≡ k' = sym h.0.tagged ∙ ap (λ (j : ℕ). get_or b j 0) q ∙ g.0.tagged in
      not-both (is_leaf_tag k) (ap is_leaf_tag e ∙ u) o.0
  one-rose b (node k p rs) (node k' p' rs') h g o u q =
      let e : k ≡ k' = sym h.0.tagged ∙ ap (λ (j : ℕ). get_or b j 0) q ∙ g.0.tagged in
      let w : rs ≡ rs' = one-row b rs rs' (p + 3) (p' + 3) (end_of b p) (end_of b p') h.1 g.1 o.2 u.2 (ap (λ (j : ℕ). j + 3) q) (ap (end_of b) q) in
      cc

  pub one-row : (b : List ℕ) (rs ss : Roses) (p p' q q' : ℕ) → Row b rs p q → Row b ss p' q' → Obey rs → Obey ss → p ≡ p' → q ≡ q' → rs ≡ ss
  one-row b rnil rnil p p' q q' h g o u x y = refl
  one-row b rnil (rcons s ss) p p' q q' h g o u x y = absurd (omega (arith, row-le b ss (end_of b p') q' g.2))
  one-row b (rcons r rs) rnil p p' q q' h g o u x y = absurd (omega (arith, row-le b rs (end_of b p) q h.2))
  one-row b (rcons r rs) (rcons s ss) p p' q q' h g o u x y =
      ap₂ rcons (one-rose b r s h.1 g.1 o.0 u.0 (h.0 ∙ x ∙ sym g.0)) (one-row b rs ss (end_of b p) (end_of b p') q q' h.2 g.2 o.1 u.1 (ap (end_of b) x) y)

one-fields : (b : List ℕ) (t u : Tree) → At b t → At b u → f_tree t ≡ f_tree u
unfolding At
one-fields b t u h k =
    let o = obeys-tree t in
    let v = obeys-tree u in
    let e : rcons (f_tree t) rnil ≡ rcons (f_tree u) rnil = one-row b (rcons (f_tree t) rnil) (rcons (f_tree u) rnil) 0 0 (length b) (length b) h k o.1 v.1 refl refl in
    cc

-- one tree for given bytes
pub unique : (b : List ℕ) (t u : Tree) → At b t → At b u → t ≡ u
unique b t u h k = same-tree t u (one-fields b t u h k)
