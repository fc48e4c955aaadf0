-- A callee that keeps the cells below row k keeps what is in view there. Assumes nothing.
use Rattle.std.specs.Prelude.{ℕ, ◌+◌, ◌*◌, ◌≤◌, ◌<◌, min, ◌≡◌, List, length, get_or, take}
use Rattle.std.proofs.Common.{arith, sym, ap, ◌∙◌, length-take, get_or-take, ext_get_or, take-take}
use Rattle.rules.specs.Rows.{count, level}
use Rattle.cells.specs.Cells.{View, outer, env_of, Seen}
use Rattle.rows.specs.Same.{Rows, Fixed, Order, order-of, based-same, env-same, view-same, goods-same, linked-same, local_same}

-- ---- cells below a place

pub below_at : (n : ℕ) (s s' : List ℕ) → take n s' ≡ take n s → (i : ℕ) → i < n → get_or s' i 0 ≡ get_or s i 0
below_at n s s' e i h = sym (get_or-take n s' i 0 h) ∙ ap (λ (l : List ℕ). get_or l i 0) e ∙ get_or-take n s i 0 h

pub below-ext : (n : ℕ) (s s' : List ℕ) → length s' ≡ length s → ((i : ℕ) → i < n → i < length s → get_or s' i 0 ≡ get_or s i 0) → take n s' ≡ take n s
below-ext n s s' l f =
    let e : length (take n s') ≡ length (take n s) = length-take n s' ∙ ap (λ (x : ℕ). min n x) l ∙ sym (length-take n s) in
    ext_get_or 0 (take n s') (take n s) e
    (λ i h.
    let p : i < n = omega (arith, length-take n s') in
    let q : i < length s = omega (arith, length-take n s') in
    get_or-take n s' i 0 p ∙ f i p q ∙ sym (get_or-take n s i 0 p))

pub below_less : (m n : ℕ) (s s' : List ℕ) → m ≤ n → take n s' ≡ take n s → take m s' ≡ take m s
below_less m n s s' h e = sym (take-take m n s' h) ∙ ap (λ (l : List ℕ). take m l) e ∙ take-take m n s h

-- ---- what is in view

-- the heads stand below row k
pub heads-below : (vw : View) (b s : List ℕ) (k : ℕ) → Seen vw b s k → 9 + vw.mask ≤ 4 * k
heads-below vw b s k g = let o = order-of vw b s k g in omega (arith, g.base.heads, o.first, o.past, o.own, o.locals)

pub fixed-below : (s s' : List ℕ) (n : ℕ) → 7 ≤ n → ((i : ℕ) → i < n → get_or s' i 0 ≡ get_or s i 0) → Fixed s s'
fixed-below s s' n h f =
    record { mask = f 0 (omega arith); home = f 3 (omega arith); imports = f 4 (omega arith); includes = f 5 (omega arith); modules = f 6 (omega arith) }

pub seen_below : (vw : View) (b s s' : List ℕ) (k : ℕ) → ((i : ℕ) → i < 4 * k → get_or s' i 0 ≡ get_or s i 0) → length s' ≡ length s → Seen vw b s k → Seen vw b s' k × (env_of vw b s' k ≡ env_of vw b s k)
seen_below vw b s s' k f l g =
    let o : Order vw k = order-of vw b s k g in
    let w : Rows s s' vw.first k = λ i p q. f i q in
    let n : 9 + vw.mask ≤ 4 * k = heads-below vw b s k g in
    let e : env_of vw b s' k ≡ env_of vw b s k = env-same vw b s s' k o w k o.locals (omega arith) in (
      record {
        base = based-same vw b s s' k o w (fixed-below s s' (4 * k) (omega arith) f) g.base;
        order = g.order;
        within = omega (arith, g.within);
        small = omega (arith, g.small);
        view = f 1 (omega arith) ∙ g.view ∙ ap (λ x. outer vw + count x) (sym e);
        above = f 2 (omega arith) ∙ g.above ∙ ap (λ x. level x) (sym e);
        good = rw (view-same vw b s s' k o w) (goods-same vw b s s' k o w g.good);
        locals = λ j p q. local_same vw b s s' k o w j p q (g.locals j p q);
        linked = λ h p q. rw (view-same vw b s s' k o w, f h (omega arith)) (linked-same vw b s s' k o w h (get_or s h 0) (g.linked h p q));
      },
      e,
    )

pub seen-kept : (vw : View) (b s s' : List ℕ) (k : ℕ) → take (4 * k) s' ≡ take (4 * k) s → length s' ≡ length s → Seen vw b s k → Seen vw b s' k × (env_of vw b s' k ≡ env_of vw b s k)
seen-kept vw b s s' k e l g = seen_below vw b s s' k (below_at (4 * k) s s' e) l g
