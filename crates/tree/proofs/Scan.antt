-- Where each header is right there is a tree, and where there is a tree each header is right. Assumes nothing.
use Rattle.std.specs.Prelude.{ℕ, ◌+◌, ◌≤◌, ◌<◌, suc, zero, ◌≡◌, refl, List, Bool, true, false, length, get_or}
use Rattle.std.proofs.Common.{arith, sym, ap, ap₂, subst, ◌∙◌}
use Rattle.tree.specs.Rose.{Rose, Roses, leaf, node, rnil, rcons, tag_of, place_of, end_of, text_of, At, Row, tagged, row-le}
use Rattle.tree.specs.Leaf.{class, shape, is_leaf_tag, leaf_ok}
use Rattle.tree.specs.Grammar.{Items, content, after, fit, Obeys, Obey}
use Rattle.tree.specs.Scan.{Local, done, step, Inner, next_of, All, over, here}

-- ---- each header right: then there is a tree

pub record Built (b : List ℕ) (g : Items) (p e : ℕ) : Type 0 where
  pub rows : Roses
  pub at : Row b rows p e
  pub fits : fit g rows ≡ true
  pub obey : Obey rows
  pub rest : All b e

record Grown (b : List ℕ) (p : ℕ) : Type 0 where
  pub rose : Rose
  pub place : place_of rose ≡ p
  pub tag : tag_of rose ≡ get_or b p 0
  pub at : At b rose
  pub obey : Obeys rose
  pub rest : All b (end_of b p)

-- the field at p, if rows of members that start after p can be built
grow : (b : List ℕ) (p : ℕ) → ((g : Items) (e : ℕ) → e ≤ length b → Local b e g (p + 3) → All b (p + 3) → Built b g (p + 3) e)
    → end_of b p ≤ length b → (x : Bool) → is_leaf_tag (get_or b p 0) ≡ x → Inner x b p → All b (next_of x b p) → Grown b p
unfolding At Obeys
grow b p f m true q i a = record {
  rose = leaf (get_or b p 0) p (text_of b p);
  place = refl;
  tag = refl;
  at = (record { tagged = refl; fits = m }, refl, i);
  obey = q;
  rest = a;
}
grow b p f m false q i a =
    let w : Built b (content (get_or b p 0)) (p + 3) (end_of b p) = f (content (get_or b p 0)) (end_of b p) m i a in
    record {
      rose = node (get_or b p 0) p w.rows;
      place = refl;
      tag = refl;
      at = (record { tagged = refl; fits = m }, w.at);
      obey = (q, w.fits, w.obey);
      rest = w.rest;
    }

-- a field before a row
join : (b : List ℕ) (g : Items) (p e : ℕ) (r : Grown b p) → Built b (after g (class (get_or b p 0))) (end_of b p) e → Built b g p e
unfolding At Obeys fit
join b g p e r w = record {
  rows = rcons r.rose w.rows;
  at = (r.place, r.at, w.at);
  fits = subst (λ (k : ℕ). fit (after g (class k)) w.rows ≡ true) (sym r.tag) w.fits;
  obey = (r.obey, w.obey);
  rest = w.rest;
}

pub sound : (b : List ℕ) (n : ℕ) (g : Items) (p e : ℕ) → length b < p + n → e ≤ length b → Local b e g p → All b p → Built b g p e
unfolding At Obeys fit
sound b zero g p e h k (done q v) a = absurd (omega arith)
sound b zero g p e h k (step l m r) a = absurd (omega arith)
sound b (suc n) g p e h k (done q v) a = record { rows = rnil; at = q; fits = v; obey = tt; rest = subst (All b) q a }
sound b (suc n) g p e h k (step l m r) (over q) = absurd (omega arith)
sound b (suc n) g p e h k (step l m r) (here l' m' i a) =
    let w : Grown b p = grow b p (λ g' e'. sound b n g' (p + 3) e' (omega arith)) m' (is_leaf_tag (get_or b p 0)) refl i a in
    join b g p e w (sound b n (after g (class (get_or b p 0))) (end_of b p) e (omega arith) k r w.rest)

-- ---- a tree: then each header is right

leaf-here : (b : List ℕ) (k p : ℕ) → get_or b p 0 ≡ k → p < length b → end_of b p ≤ length b → (x : Bool) → is_leaf_tag k ≡ x → Inner x b p → All b (next_of x b p) → All b p
leaf-here b k p q l m x e i a =
    let w : is_leaf_tag (get_or b p 0) ≡ x = ap is_leaf_tag q ∙ e in
    here l m (subst (λ (y : Bool). Inner y b p) (sym w) i) (subst (λ (y : Bool). All b (next_of y b p)) (sym w) a)

mutual
  unfolding At Obeys fit

  pub complete : (b : List ℕ) (rs : Roses) (g : Items) (p e : ℕ) → Row b rs p e → fit g rs ≡ true → Obey rs → e ≤ length b → All b e → Local b e g p × All b p
  complete b rnil g p e h v o k a = (done h v, subst (All b) (sym h) a)
  complete b (rcons r rs) g p e h v o k a =
      let t : get_or b p 0 ≡ tag_of r = ap (λ (j : ℕ). get_or b j 0) (sym h.0) ∙ tagged b r h.1 in
      let w : Local b e (after g (class (tag_of r))) (end_of b p) × All b (end_of b p) = complete b rs (after g (class (tag_of r))) (end_of b p) e h.2 v o.1 k a in
      let m : end_of b p ≤ e = row-le b rs (end_of b p) e h.2 in
      let l : p < e = omega arith in (
        step l m (subst (λ (j : ℕ). Local b e (after g (class j)) (end_of b p)) (sym t) w.0),
        complete-one b r p h.0 h.1 o.0 w.1,
      )

  complete-one : (b : List ℕ) (r : Rose) (p : ℕ) → place_of r ≡ p → At b r → Obeys r → All b (end_of b p) → All b p
  complete-one b (leaf k p' x) p q h o a =
      let m : end_of b p ≤ length b = subst (λ (j : ℕ). end_of b j ≤ length b) q h.0.fits in
      let t : get_or b p 0 ≡ k = ap (λ (j : ℕ). get_or b j 0) (sym q) ∙ h.0.tagged in
      let x' : text_of b p ≡ x = ap (text_of b) (sym q) ∙ h.1 in
      leaf-here b k p t (omega arith) m true o (ap₂ (λ (j : ℕ) (y : List ℕ). leaf_ok (shape j) y) t x' ∙ h.2) a
  complete-one b (node k p' rs) p q h o a =
      let m : end_of b p ≤ length b = subst (λ (j : ℕ). end_of b j ≤ length b) q h.0.fits in
      let t : get_or b p 0 ≡ k = ap (λ (j : ℕ). get_or b j 0) (sym q) ∙ h.0.tagged in
      let s : Row b rs (p + 3) (end_of b p) = subst (λ (j : ℕ). Row b rs (j + 3) (end_of b j)) q h.1 in
      let w : Local b (end_of b p) (content k) (p + 3) × All b (p + 3) = complete b rs (content k) (p + 3) (end_of b p) s o.1 o.2 m a in
      leaf-here b k p t (omega arith) m false o.0 (subst (λ (j : ℕ). Local b (end_of b p) (content j) (p + 3)) (sym t) w.0) w.1
