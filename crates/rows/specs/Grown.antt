-- What is in view after one more row. Assumes nothing.
use Prim.Native.Nat.{ℕ, suc, ◌+◌, ◌-◌, ◌*◌, ◌≤◌, ◌<◌}
use Rattle.std.proofs.Common.{arith, sym, ◌∙◌, inl, inr, lt-ltb, le-ltb, eqb-true}
use Rattle.std.specs.Prelude.{◌≡◌, refl, Bool, true, false, eqb, ltb, length, get_or}
use Rattle.std.proofs.Math.Path.{ap, ap₂, subst}
use Rattle.std.proofs.Math.Bool.{cond}
use mathlib.Core.List.{List, ◌∷◌, ◌++◌}
use Rattle.std.proofs.lemmas.Bool.{eqb-false}
use Rattle.rules.specs.Rows.{Env, count, level}
use Rattle.rules.specs.Lists.{Member}
use Rattle.cells.specs.Cells.{kind_at, head_at, link_at, View, outer, row_at, rows_of, env_of, bound, in_view, bucket, Chain, Good, Based, Local, Seen}
use Rattle.rows.specs.Same.{Rows, Fixed, order-of, bound-same, based-same, env-same, goods-same, linked-same, local_same}
use Rattle.rows.specs.Kept.{heads-below}

-- a fact of each number below k + 1, from those below k and that of k
pub each_below : (P : ℕ → Type 0) (k j : ℕ) → j < k + 1 → (j < k → P j) → P k → P j
each_below P k j h f p = go (eqb j k) refl
  where
    go : (t : Bool) → eqb j k ≡ t → P j
    go true e = subst P (sym (eqb-true j k e)) p
    go false e = let n = eqb-false j k e in f (omega arith)

-- row k has come, and the rows below it and the cells before them are as they were but for heads and counts
pub record Grown (vw : View) (b s s' : List ℕ) (k : ℕ) : Type 0 where
  pub seen : Seen vw b s k
  pub rows : Rows s s' vw.first k
  pub fixed : Fixed s s'
  pub same : length s' ≡ length s
  pub room : 4 * k + 4 ≤ length s

module _ (vw : View) (b s s' : List ℕ) (k : ℕ) (g : Grown vw b s s' k) where
  pub env-grown : env_of vw b s' (k + 1) ≡ row_at b s' (outer vw) k ++ env_of vw b s k
  unfolding rows_of
  env-grown =
      let o = order-of vw b s k g.seen in
      let n : k + 1 - vw.locals ≡ suc (k - vw.locals) = omega (arith, o.locals) in
      let j : vw.locals + (k - vw.locals) ≡ k = omega (arith, o.locals) in
      ap (λ (x : ℕ). rows_of b s' (outer vw) vw.locals x) n
      ∙ ap₂ (λ (x : ℕ) (y : Env). row_at b s' (outer vw) x ++ y) j (env-same vw b s s' k o g.rows k o.locals (omega arith))

  bound-grown : bound s' vw.own (k + 1 - vw.own) ≡ cond (ltb (kind_at s' k) 6) (k ∷ bound s vw.own (k - vw.own)) (bound s vw.own (k - vw.own))
  unfolding bound
  bound-grown =
      let o = order-of vw b s k g.seen in
      let n : k + 1 - vw.own ≡ suc (k - vw.own) = omega (arith, o.own, o.locals) in
      let j : vw.own + (k - vw.own) ≡ k = omega (arith, o.own, o.locals) in
      ap (λ (x : ℕ). bound s' vw.own x) n
      ∙ ap₂ (λ (x : ℕ) (y : List ℕ). cond (ltb (kind_at s' x) 6) (x ∷ y) y) j
      (bound-same s s' vw.first k g.rows vw.own (k - vw.own) (omega (arith, o.first, o.past)) (omega arith))

  outer-grown : bound s' vw.first (vw.past - vw.first) ≡ bound s vw.first (vw.past - vw.first)
  outer-grown =
      let o = order-of vw b s k g.seen in
      bound-same s s' vw.first k g.rows vw.first (vw.past - vw.first) (omega arith) (omega (arith, o.first, o.past, o.own, o.locals))

  -- innermost first: the new row is, if it is no note
  pub view-row : kind_at s' k < 6 → in_view vw s' (k + 1) ≡ k ∷ in_view vw s k
  view-row h =
      let e : bound s' vw.own (k + 1 - vw.own) ≡ k ∷ bound s vw.own (k - vw.own) = bound-grown ∙ simp (lt-ltb (kind_at s' k) 6 h) in
      ap₂ (λ (x : List ℕ) (y : List ℕ). x ++ y) e outer-grown

  pub view-note : 6 ≤ kind_at s' k → in_view vw s' (k + 1) ≡ in_view vw s k
  view-note h =
      let e : bound s' vw.own (k + 1 - vw.own) ≡ bound s vw.own (k - vw.own) = bound-grown ∙ simp (le-ltb (kind_at s' k) 6 h) in
      ap₂ (λ (x : List ℕ) (y : List ℕ). x ++ y) e outer-grown

  base-grown : Based vw b s'
  base-grown = based-same vw b s s' k (order-of vw b s k g.seen) g.rows g.fixed g.seen.base

  locals-grown : Local vw b s' k → (j : ℕ) → vw.locals ≤ j → j < k + 1 → Local vw b s' j
  locals-grown l j p q =
      each_below (λ (i : ℕ). Local vw b s' i) k j q
      (λ h. local_same vw b s s' k (order-of vw b s k g.seen) g.rows j p h (g.seen.locals j p h)) l

  -- a note: nothing else changed
  pub seen-note : 6 ≤ kind_at s' k → get_or s' 1 0 ≡ get_or s 1 0 → get_or s' 2 0 ≡ get_or s 2 0
      → ((h : ℕ) → 8 ≤ h → h ≤ 8 + vw.mask → get_or s' h 0 ≡ get_or s h 0)
      → env_of vw b s' (k + 1) ≡ env_of vw b s k → Seen vw b s' (k + 1)
  seen-note n c₁ c₂ heads e =
      let o = order-of vw b s k g.seen in
      record {
        base = base-grown;
        order = (o.own, omega (arith, o.locals));
        within = omega (arith, g.room, g.same);
        small = omega (arith, g.seen.small, g.same);
        view = c₁ ∙ g.seen.view ∙ ap (λ x. outer vw + count x) (sym e);
        above = c₂ ∙ g.seen.above ∙ ap (λ x. level x) (sym e);
        good = rw (view-note n) (goods-same vw b s s' k o g.rows g.seen.good);
        locals = locals-grown (record { kinds = λ q. omega arith; counts = λ q. absurd (omega arith); defined = λ q r. absurd (omega arith) });
        linked = λ h p q. rw (view-note n, heads h p q) (linked-same vw b s s' k o g.rows h (get_or s h 0) (g.seen.linked h p q));
      }

  -- a row in view: its bucket's head leads to it, and it to what the head led to
  pub seen-row : kind_at s' k < 6 → Good vw.mask b s' k → Local vw b s' k
      → link_at s' k ≡ get_or s (head_at s' k) 0 → get_or s' (head_at s' k) 0 ≡ k
      → ((h : ℕ) → 8 ≤ h → h ≤ 8 + vw.mask → (h ≡ head_at s' k → ⊥) → get_or s' h 0 ≡ get_or s h 0)
      → get_or s' 1 0 ≡ outer vw + count (env_of vw b s' (k + 1)) → get_or s' 2 0 ≡ level (env_of vw b s' (k + 1)) → Seen vw b s' (k + 1)
  unfolding bucket Chain
  seen-row n gk lk link head heads c₁ c₂ =
      let o = order-of vw b s k g.seen in
      record {
        base = base-grown;
        order = (o.own, omega (arith, o.locals));
        within = omega (arith, g.room, g.same);
        small = omega (arith, g.seen.small, g.same);
        view = c₁;
        above = c₂;
        good = rw (view-row n) goods;
        locals = locals-grown lk;
        linked = λ h p q. rw (view-row n) (chains h p q (eqb (head_at s' k) h) refl);
      }
    where
      goods : (j : ℕ) → Member j (k ∷ in_view vw s k) → Good vw.mask b s' j
      goods j (inl e) = subst (λ (i : ℕ). Good vw.mask b s' i) (sym e) gk
      goods j (inr m) = goods-same vw b s s' k (order-of vw b s k g.seen) g.rows g.seen.good j m

      rest : (h : ℕ) → 8 ≤ h → h ≤ 8 + vw.mask → Chain s' (get_or s h 0) (bucket s' h (in_view vw s k))
      rest h p q = linked-same vw b s s' k (order-of vw b s k g.seen) g.rows h (get_or s h 0) (g.seen.linked h p q)

      chains : (h : ℕ) → 8 ≤ h → h ≤ 8 + vw.mask → (t : Bool) → eqb (head_at s' k) h ≡ t
          → Chain s' (get_or s' h 0) (cond t (k ∷ bucket s' h (in_view vw s k)) (bucket s' h (in_view vw s k)))
      chains h p q true e =
          let x : head_at s' k ≡ h = eqb-true (head_at s' k) h e in
          (ap (λ (y : ℕ). get_or s' y 0) (sym x) ∙ head, omega (arith, heads-below vw b s k g.seen), rw (link, x) (rest h p q))
      chains h p q false e = rw (heads h p q (λ x. eqb-false (head_at s' k) h e (sym x))) (rest h p q)
