-- Rows that keep their cells keep what they stand for: bindings, buckets, chains, and all that is in view. Assumes nothing.
use Prim.Native.Nat.{ℕ, zero, suc, ◌+◌, ◌-◌, ◌*◌, ◌≤◌, ◌<◌}
use native.Mathlib.Omega.{arith}
use Rattle.std.specs.Prelude.{◌≡◌, Bool, true, false, cond, eqb, ltb, length, get_or}
use Rattle.std.proofs.Math.Path.{refl, ap₂}
use Rattle.std.proofs.Common.{sym, ap, subst, ◌∙◌, inl, inr}
use mathlib.Core.List.{List, [], ◌∷◌, ◌++◌}
use Rattle.tree.specs.Tree.{Name, Native}
use Rattle.rules.specs.Rows.{Filter, Env, filters}
use Rattle.rules.specs.Lists.{Every, every_append, every_map, Member}
use Rattle.cells.specs.Cells.{cell, kind_at, head_at, link_at, View, outer, row_at, rows_of, env_of, bound, in_view, bucket, Chain, Good, Vars, Natives, low_of, high_of, Kept, Mine, Based, Local, Seen}

-- the cells of the rows from lo up to hi are the same
abbrev pub Rows : List ℕ → List ℕ → ℕ → ℕ → Type 0
Rows s s' lo hi = (i : ℕ) → 4 * lo ≤ i → i < 4 * hi → get_or s' i 0 ≡ get_or s i 0

-- each of the rows is one from lo up to hi
abbrev pub Between : ℕ → ℕ → List ℕ → Type 0
Between lo hi js = Every (λ (j : ℕ). (lo ≤ j) × (j < hi)) js

pub at-member : (P : ℕ → Type 0) (js : List ℕ) (j : ℕ) → Every P js → Member j js → P j
at-member P [] j h m = absurd m
at-member P (x ∷ xs) j h (inl e) = subst P (sym e) h.0
at-member P (x ∷ xs) j h (inr m) = at-member P xs j h.1 m

pub between-wider : (lo hi lo' hi' : ℕ) (js : List ℕ) → lo' ≤ lo → hi ≤ hi' → Between lo hi js → Between lo' hi' js
between-wider lo hi lo' hi' js p q h =
    every_map (λ (j : ℕ). (lo ≤ j) × (j < hi)) (λ (j : ℕ). (lo' ≤ j) × (j < hi')) js (λ j g. (omega arith, omega arith)) h

-- ---- one row

pub good-row : (m : ℕ) (b s s' : List ℕ) (j : ℕ) → cell s' j 0 ≡ cell s j 0 → cell s' j 1 ≡ cell s j 1 → cell s' j 2 ≡ cell s j 2 → Good m b s j → Good m b s' j
good-row m b s s' j e₀ e₁ e₂ g =
    record {
      name = rw e₂ g.name;
      params = rw (e₁, e₂) g.params;
      word = rw (e₀, e₂) g.word;
      key = rw (e₁, e₂) g.key;
      head = rw (e₂, e₀) g.head;
      plain = rw (e₁, e₂) g.plain;
    }

pub same_row : (b s s' : List ℕ) (m j : ℕ) → cell s' j 1 ≡ cell s j 1 → cell s' j 2 ≡ cell s j 2 → cell s' j 3 ≡ cell s j 3 → row_at b s' m j ≡ row_at b s m j
unfolding row_at
same_row b s s' m j e₁ e₂ e₃ = rw (e₁, e₂, e₃)

-- ---- some rows

module _ (s s' : List ℕ) (lo hi : ℕ) (same : Rows s s' lo hi) where
  pub same-cell : (j c : ℕ) → lo ≤ j → j < hi → c < 4 → cell s' j c ≡ cell s j c
  same-cell j c p q h = same (4 * j + c) (omega arith) (omega arith)

  pub good-same : (m : ℕ) (b : List ℕ) (j : ℕ) → lo ≤ j → j < hi → Good m b s j → Good m b s' j
  good-same m b j p q g = good-row m b s s' j (same-cell j 0 p q (omega arith)) (same-cell j 1 p q (omega arith)) (same-cell j 2 p q (omega arith)) g

  pub rows_same : (b : List ℕ) (m x n : ℕ) → lo ≤ x → x + n ≤ hi → rows_of b s' m x n ≡ rows_of b s m x n
  unfolding rows_of
  rows_same b m x zero p q = refl
  rows_same b m x (suc n) p q =
      let j : x + n < hi = omega arith in
      let l : lo ≤ x + n = omega arith in
      ap₂ (λ (y : Env) (z : Env). y ++ z)
      (same_row b s s' m (x + n) (same-cell (x + n) 1 l j (omega arith)) (same-cell (x + n) 2 l j (omega arith)) (same-cell (x + n) 3 l j (omega arith)))
      (rows_same b m x n p (omega arith))

  pub bound-same : (x n : ℕ) → lo ≤ x → x + n ≤ hi → bound s' x n ≡ bound s x n
  unfolding bound
  bound-same x zero p q = refl
  bound-same x (suc n) p q = rw (same-cell (x + n) 2 (omega arith) (omega arith) (omega arith), bound-same x n p (omega arith))

  pub bucket-same : (h : ℕ) (js : List ℕ) → Between lo hi js → bucket s' h js ≡ bucket s h js
  unfolding bucket
  bucket-same h [] b = refl
  bucket-same h (j ∷ js) b = rw (same-cell j 2 b.0.0 b.0.1 (omega arith), bucket-same h js b.1)

  pub chain_same : (j : ℕ) (js : List ℕ) → Between lo hi js → Chain s j js → Chain s' j js
  unfolding Chain
  chain_same j [] b c = c
  chain_same j (i ∷ is) b c = (c.0, c.1, rw (same-cell i 2 b.0.0 b.0.1 (omega arith)) (chain_same (link_at s i) is b.1 c.2))

  pub vars-same : (b : List ℕ) (x i : ℕ) (xs : List Name) → lo ≤ x → x + length xs ≤ hi → Vars b s x i xs → Vars b s' x i xs
  unfolding Vars
  vars-same b x i [] p q v = v
  vars-same b x i (y ∷ ys) p q v =
      let j : x < hi = omega arith in
      let e₁ = same-cell x 1 p j (omega arith) in
      let e₂ = same-cell x 2 p j (omega arith) in
      (rw e₂ v.0, rw e₂ v.1, rw e₂ v.2, vars-same b (suc x) (suc i) ys (omega arith) (omega arith) v.3)

  pub natives-same : (b : List ℕ) (z n : ℕ) (vs : List Native) → lo + length vs ≤ z → z ≤ hi → Natives b s z n vs → Natives b s' z n vs
  unfolding Natives
  natives-same b z n [] p q v = v
  natives-same b z n (y ∷ ys) p q v =
      let j : z - 1 < hi = omega arith in
      let l : lo ≤ z - 1 = omega arith in
      let e₁ = same-cell (z - 1) 1 l j (omega arith) in
      let e₂ = same-cell (z - 1) 2 l j (omega arith) in
      (rw e₂ v.0, rw e₂ v.1, rw (e₁, e₂) v.2, rw e₁ v.3, natives-same b (z - 1) (suc n) ys (omega arith) (omega arith) v.4)

-- ---- rows in view

pub bound-between : (s : List ℕ) (lo n : ℕ) → Between lo (lo + n) (bound s lo n)
unfolding bound
bound-between s lo zero = tt
bound-between s lo (suc n) = go (ltb (kind_at s (lo + n)) 6) (between-wider lo (lo + n) lo (lo + suc n) (bound s lo n) (omega arith) (omega arith) (bound-between s lo n))
  where
    go : (t : Bool) → Between lo (lo + suc n) (bound s lo n) → Between lo (lo + suc n) (cond t ((lo + n) ∷ bound s lo n) (bound s lo n))
    go true r = ((omega arith, omega arith), r)
    go false r = r

pub bucket-between : (s : List ℕ) (h lo hi : ℕ) (js : List ℕ) → Between lo hi js → Between lo hi (bucket s h js)
unfolding bucket
bucket-between s h lo hi [] b = tt
bucket-between s h lo hi (j ∷ js) b = go (eqb (head_at s j) h) (bucket-between s h lo hi js b.1)
  where
    go : (t : Bool) → Between lo hi (bucket s h js) → Between lo hi (cond t (j ∷ bucket s h js) (bucket s h js))
    go true r = (b.0, r)
    go false r = r

pub view-between : (vw : View) (s : List ℕ) (k : ℕ) → vw.first ≤ vw.past → vw.past ≤ vw.own → vw.own ≤ k → Between vw.first k (in_view vw s k)
view-between vw s k p q r =
    every_append (λ (j : ℕ). (vw.first ≤ j) × (j < k)) (bound s vw.own (k - vw.own)) (bound s vw.first (vw.past - vw.first))
    (between-wider vw.own (vw.own + (k - vw.own)) vw.first k (bound s vw.own (k - vw.own)) (omega arith) (omega arith) (bound-between s vw.own (k - vw.own)))
    (between-wider vw.first (vw.first + (vw.past - vw.first)) vw.first k (bound s vw.first (vw.past - vw.first)) (omega arith) (omega arith) (bound-between s vw.first (vw.past - vw.first)))

-- ---- what stands below the locals

-- the cells that no push changes
pub record Fixed (s s' : List ℕ) : Type 0 where
  pub mask : get_or s' 0 0 ≡ get_or s 0 0
  pub home : get_or s' 3 0 ≡ get_or s 3 0
  pub imports : get_or s' 4 0 ≡ get_or s 4 0
  pub includes : get_or s' 5 0 ≡ get_or s 5 0
  pub modules : get_or s' 6 0 ≡ get_or s 6 0

pub record Order (vw : View) (k : ℕ) : Type 0 where
  pub first : vw.first ≤ vw.past
  pub past : vw.past ≤ vw.own
  pub own : vw.own ≤ vw.locals
  pub locals : vw.locals ≤ k

pub order-of : (vw : View) (b s : List ℕ) (k : ℕ) → Seen vw b s k → Order vw k
order-of vw b s k g =
    record {
      first = omega (arith, g.base.few, g.base.rest);
      past = g.base.order;
      own = g.order.0;
      locals = g.order.1;
    }

module _ (vw : View) (b s s' : List ℕ) (k : ℕ) (o : Order vw k) (same : Rows s s' vw.first k) where
  pub kept_same : (x : ℕ) (ds : List Filter) → Kept vw b s x ds → Kept vw b s' x ds
  kept_same x ds h =
      let p : vw.first ≤ low_of x = omega (arith, h.above, o.first) in
      let q : high_of x ≤ k = omega (arith, h.below, o.own, o.locals) in
      record {
        above = h.above;
        order = h.order;
        below = h.below;
        good = λ j l u.
            let w = h.good j l u in
            let f : vw.first ≤ j = omega arith in
            let g : j < k = omega arith in
            (good-same s s' vw.first k same vw.mask b j f g w.0, rw (same-cell s s' vw.first k same j 2 f g (omega arith)) w.1, rw (same-cell s s' vw.first k same j 2 f g (omega arith)) w.2);
        are = ap filters (rows_same s s' vw.first k same b (outer vw) (low_of x) (high_of x - low_of x) p (omega (arith, h.order))) ∙ h.are;
      }

  pub mine-same : Mine vw b s → Mine vw b s'
  mine-same h =
      record {
        names = h.names;
        before = h.before;
        after = h.after;
        are = h.are;
        others = h.others;
        rows = vars-same s s' vw.first k same b vw.own _ h.names (omega (arith, o.first, o.past)) (omega (arith, h.rest, o.locals)) h.rows;
        rest = h.rest;
      }

  pub based-same : Fixed s s' → Based vw b s → Based vw b s'
  based-same f g =
      record {
        mask = f.mask ∙ g.mask;
        heads = g.heads;
        home = f.home ∙ g.home;
        imports = rw f.imports g.imports;
        includes = rw f.includes g.includes;
        modules = λ i ds h e.
            let p : 4 * vw.first ≤ get_or s 6 0 + i = omega (arith, g.past, o.first) in
            let q : get_or s 6 0 + i < 4 * k = omega (arith, g.cells, o.own, o.locals) in
            let c : get_or s' (get_or s' 6 0 + i) 0 ≡ get_or s (get_or s 6 0 + i) 0 = ap (λ (x : ℕ). get_or s' (x + i) 0) f.modules ∙ same (get_or s 6 0 + i) p q in
            rw c (kept_same (get_or s (get_or s 6 0 + i) 0) ds (g.modules i ds h e));
        cells = rw f.modules g.cells;
        natives = natives-same s s' vw.first k same b vw.globals 0 vw.top.natives (omega (arith, g.few)) (omega (arith, g.rest, o.past, o.own, o.locals)) g.natives;
        few = g.few;
        globals = vars-same s s' vw.first k same b vw.globals 0 vw.top.globals (omega (arith, g.few)) (omega (arith, g.rest, o.past, o.own, o.locals)) g.globals;
        rest = g.rest;
        order = g.order;
        past = rw f.modules g.past;
        light = g.light;
        mine = mine-same g.mine;
        uses = g.uses;
        lone = g.lone;
      }

  -- ---- what is in view

  pub env-same : (j : ℕ) → vw.locals ≤ j → j ≤ k → env_of vw b s' j ≡ env_of vw b s j
  env-same j p q = rows_same s s' vw.first k same b (outer vw) vw.locals (j - vw.locals) (omega (arith, o.first, o.past, o.own)) (omega arith)

  pub view-same : in_view vw s' k ≡ in_view vw s k
  view-same =
      ap₂ (λ (x : List ℕ) (y : List ℕ). x ++ y)
      (bound-same s s' vw.first k same vw.own (k - vw.own) (omega (arith, o.first, o.past)) (omega (arith, o.own, o.locals)))
      (bound-same s s' vw.first k same vw.first (vw.past - vw.first) (omega arith) (omega (arith, o.first, o.past, o.own, o.locals)))

  pub all-between : (t : List ℕ) → Between vw.first k (in_view vw t k)
  all-between t = view-between vw t k o.first o.past (omega (arith, o.own, o.locals))

  pub goods-same : ((j : ℕ) → Member j (in_view vw s k) → Good vw.mask b s j) → (j : ℕ) → Member j (in_view vw s k) → Good vw.mask b s' j
  goods-same f j m =
      let w = at-member (λ (i : ℕ). (vw.first ≤ i) × (i < k)) (in_view vw s k) j (all-between s) m in
      good-same s s' vw.first k same vw.mask b j w.0 w.1 (f j m)

  -- the rows of a bucket, from j on
  pub linked-same : (h j : ℕ) → Chain s j (bucket s h (in_view vw s k)) → Chain s' j (bucket s' h (in_view vw s k))
  linked-same h j c =
      rw (bucket-same s s' vw.first k same h (in_view vw s k) (all-between s))
      (chain_same s s' vw.first k same j (bucket s h (in_view vw s k)) (bucket-between s h vw.first k (in_view vw s k) (all-between s)) c)

  pub local_same : (j : ℕ) → vw.locals ≤ j → j < k → Local vw b s j → Local vw b s' j
  local_same j p q l =
      let f : vw.first ≤ j = omega (arith, o.first, o.past, o.own) in
      let e₁ = same-cell s s' vw.first k same j 1 f q (omega arith) in
      let e₂ = same-cell s s' vw.first k same j 2 f q (omega arith) in
      let e = env-same j p (omega arith) in
      record { kinds = rw e₂ l.kinds; counts = rw (e₂, e) l.counts; defined = rw (e₂, e) l.defined }
