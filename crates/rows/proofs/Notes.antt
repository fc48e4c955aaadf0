-- Notes that become the rows of variables. Assumes nothing.
use Prim.Native.Nat.{ℕ, suc, ◌+◌, ◌-◌, ◌*◌, ◌/◌, ◌%◌, ◌≤◌, ◌<◌}
use native.Mathlib.Omega.{arith}
use mathlib.Core.Path.{◌≡◌, refl, sym, ap, ap₂, subst, ◌∙◌}
use mathlib.Core.Bool.{Bool, true, false, cond}
use mathlib.Core.List.{List, [], ◌∷◌, ◌++◌}
use lib.Dec.{eqb}
use lib.ListN.{length, get_or}
use borrow.Author.Tests.{eqb-true, eqb-false, eq-eqb, ne_eqb}
use Rattle.tree.specs.Rose.{Row, rnil, At, end_of, text_of}
use Rattle.tree.specs.Tree.{Pattern, p_var, p_arr, p_obj, Patterns, ps_nil, ps_cons, PatEntries, pes_nil, pes_cons}
use Rattle.tree.specs.Form.{f_term, f_pattern, f_patterns, f_pat_entries}
use Rattle.rules.specs.Rows.{Env, var, push_vars}
use Rattle.rules.specs.Outs.{vars, vars_all, vars_keyed}
use Rattle.reads.specs.Bytes.{name_at, PatternAt}
use Rattle.reads.specs.Shapes.{pattern-head, row-tail}
use Rattle.cells.specs.Cells.{number_at, kind_at, last_at, bound_as, View, env_of, Seen, Opened, Room}
use Rattle.cells.specs.Notes.{lasts_of, notes_in, pat_at, places_in, places_all, places_keyed}
use Rattle.rows.specs.Same.{order-of}
use Rattle.rows.specs.Kept.{heads-below}
use Rattle.rows.specs.Grown.{each_below}
use Rattle.rows.specs.Pushed.{Beside, beside-bound, seen-bound, seen-stays, room-ready, counts-small}
use Rattle.rows.specs.Opened.{opened-none, opened-then, opened-bound, opened-note}
use Rattle.rows.specs.Noted.{keyed-head, lasts-length, places-length, pat-same}
use Rattle.rows.proofs.Patterns.{push-append}

-- ---- one note

-- the rows after the note of row j was bound
abbrev pub bound_note : List ℕ → List ℕ → ℕ → List ℕ
bound_note b s j = cond (eqb (last_at s j) 0) s (bound_as (text_of b (last_at s j)) s j 0 (last_at s j) (number_at s j))

-- ---- the variables, from their places

-- 0 is no variable's
abbrev push_places : List ℕ → List ℕ → Env → Env
push_places b [] e = e
push_places b (p ∷ ps) e = push_places b ps (cond (eqb p 0) e (var (name_at b p) ∷ e))

places-append : (b ps qs : List ℕ) (e : Env) → push_places b (ps ++ qs) e ≡ push_places b qs (push_places b ps e)
places-append b [] qs e = refl
places-append b (p ∷ ps) qs e = places-append b ps qs (cond (eqb p 0) e (var (name_at b p) ∷ e))

mutual
  unfolding At f_term places_in

  places-vars : (b : List ℕ) (x : Pattern) (q : ℕ) (e : Env) → 0 < q → PatternAt b x q → push_places b (places_in x) e ≡ push_vars (vars x) e
  places-vars b (p_var p y) q e l h =
      let n : (p ≡ 0 → ⊥) = λ z. omega (arith, h.1) in
      ap (λ (t : Bool). cond t e (var (name_at b p) ∷ e)) (ne_eqb p 0 n) ∙ ap (λ (t : List ℕ). var (record { place = p; text = t }) ∷ e) h.0.1
  places-vars b (p_arr p xs) q e l h = places-vars-all b xs (p + 3) (end_of b p) e (omega arith) h.0.1
  places-vars b (p_obj p xs) q e l h = places-vars-keyed b xs (p + 3) (end_of b p) e (omega arith) h.0.1

  places-vars-all : (b : List ℕ) (xs : Patterns) (q z : ℕ) (e : Env) → 0 < q → Row b (f_patterns xs rnil) q z → push_places b (places_all xs) e ≡ push_vars (vars_all xs) e
  places-vars-all b ps_nil q z e l h = refl
  places-vars-all b (ps_cons x xs) q z e l h =
      places-append b (places_in x) (places_all xs) e
      ∙ ap (λ (f : Env). push_places b (places_all xs) f) (places-vars b x q e l (pattern-head b x (f_patterns xs rnil) q z h))
      ∙ places-vars-all b xs (end_of b q) z (push_vars (vars x) e) (omega arith) (row-tail b (f_pattern x) (f_patterns xs rnil) q z h)
      ∙ sym (push-append (vars x) (vars_all xs) e)

  places-vars-keyed : (b : List ℕ) (xs : PatEntries) (q z : ℕ) (e : Env) → 0 < q → Row b (f_pat_entries xs rnil) q z → push_places b (places_keyed xs) e ≡ push_vars (vars_keyed xs) e
  places-vars-keyed b pes_nil q z e l h = refl
  places-vars-keyed b (pes_cons p t x xs) q z e l h =
      let w = keyed-head b q z p t x xs h in
      places-append b (places_in x) (places_keyed xs) e
      ∙ ap (λ (f : Env). push_places b (places_keyed xs) f) (places-vars b x (end_of b (q + 3)) e (omega arith) w.0.pat)
      ∙ places-vars-keyed b xs (end_of b q) z (push_vars (vars x) e) (omega arith) w.1
      ∙ sym (push-append (vars x) (vars_keyed xs) e)

-- ---- the loop

-- what is asked for
pub record Noted (b s : List ℕ) (k i : ℕ) : Type 0 where
  pub small : length b ≤ 32768
  pub view : View
  pub seen : Seen view b s k
  pub order : k ≤ i
  pub room : 4 * i ≤ length s
  pub notes : (j : ℕ) → k ≤ j → j < i → (6 ≤ kind_at s j) × ((last_at s j ≡ 0 → ⊥) → end_of b (last_at s j) ≤ length b)

pub noted_of : (b s : List ℕ) (k i : ℕ)
    → (length b ≤ 32768) × ((vw : View) × Seen vw b s k) × (k ≤ i) × (4 * i ≤ length s) × ((j : ℕ) → k ≤ j → j < i → (6 ≤ kind_at s j) × ((last_at s j ≡ 0 → ⊥) → end_of b (last_at s j) ≤ length b))
    → Noted b s k i
noted_of b s k i p = record { small = p.0; view = p.1.0; seen = p.1.1; order = p.2; room = p.3; notes = p.4 }

-- the notes up to j are bound
pub record Noting (b s₀ : List ℕ) (k i : ℕ) (s : List ℕ) (j : ℕ) : Type 0 where
  pub low : k ≤ j
  pub high : j ≤ i
  pub seen : (vw : View) → Seen vw b s₀ k → Seen vw b s j
  pub env : (vw : View) → Seen vw b s₀ k → push_places b (lasts_of s₀ j (i - j)) (env_of vw b s j) ≡ push_places b (lasts_of s₀ k (i - k)) (env_of vw b s₀ k)
  pub opened : Opened s₀ s k j
  pub above : (x : ℕ) → 4 * j ≤ x → get_or s x 0 ≡ get_or s₀ x 0
  pub numbers : (x : ℕ) → k ≤ x → x < j → number_at s x ≡ number_at s₀ x

pub noting-start : (b s : List ℕ) (k i : ℕ) → k ≤ i → Noting b s k i s k
noting-start b s k i h =
    record { low = omega arith; high = h; seen = λ vw v. v; env = λ vw v. refl; opened = opened-none s k; above = λ x u. refl; numbers = λ x u v. absurd (omega arith) }

pub noting-ready : (b s₀ : List ℕ) (k i : ℕ) (s : List ℕ) (j : ℕ) → Noted b s₀ k i → Noting b s₀ k i s j → j < i
    → (4 * j + 4 ≤ length s) × (length b ≤ 32768) × (get_or s 1 0 < 65536) × Room s j × ((last_at s j ≡ 0 → ⊥) → end_of b (last_at s j) ≤ length b)
noting-ready b s₀ k i s j g w h =
    let r : 4 * j + 4 ≤ length s = omega (arith, g.room, w.opened.same) in
    let v = w.seen g.view g.seen in
    (r, g.small, (counts-small g.view b s j v r).0, room-ready g.view b s j v r, rw (w.above (4 * j + 3) (omega arith)) (g.notes j w.low h).1)

env-step : (b s : List ℕ) (i j : ℕ) (e e' : Env) → j < i → e' ≡ cond (eqb (last_at s j) 0) e (var (name_at b (last_at s j)) ∷ e)
    → push_places b (lasts_of s (j + 1) (i - (j + 1))) e' ≡ push_places b (lasts_of s j (i - j)) e
unfolding lasts_of
env-step b s i j e e' h f =
    let n : i - j ≡ suc (i - (j + 1)) = omega arith in
    let m : j + 1 ≡ suc j = omega arith in
    let d : ℕ = i - (j + 1) in
    ap₂ (λ (x : ℕ) (y : Env). push_places b (lasts_of s x d) y) m f ∙ ap (λ (x : ℕ). push_places b (lasts_of s j x) e) (sym n)

module _ (b s₀ : List ℕ) (k i : ℕ) (s : List ℕ) (j : ℕ) (g : Noted b s₀ k i) (w : Noting b s₀ k i s j) (h : j < i) where
  abbrev place : ℕ
  place = last_at s j

  room_for : 4 * j + 4 ≤ length s
  room_for = omega (arith, g.room, w.opened.same)

  same-last : last_at s j ≡ last_at s₀ j
  same-last = w.above (4 * j + 3) (omega arith)

  same_number : number_at s j ≡ number_at s₀ j
  same_number = rw (w.above (4 * j + 1) (omega arith)) refl

  a-note : 6 ≤ kind_at s j
  a-note = rw (w.above (4 * j + 2) (omega arith)) (g.notes j w.low h).0

  positive : 0 < k
  positive = omega (arith, heads-below g.view b s₀ k g.seen)

  noting-none : last_at s j ≡ 0 → Noting b s₀ k i s (j + 1)
  noting-none z =
      let f : eqb (last_at s₀ j) 0 ≡ true = eq-eqb (last_at s₀ j) 0 (sym same-last ∙ z) in
      record {
        low = omega (arith, w.low);
        high = omega arith;
        seen = λ vw v. (seen-stays vw b s j (w.seen vw v) room_for a-note).0;
        env = λ vw v.
            env-step b s₀ i j (env_of vw b s j) (env_of vw b s (j + 1)) h ((seen-stays vw b s j (w.seen vw v) room_for a-note).1 ∙ sym (ap (λ (t : Bool). cond t (env_of vw b s j) (var (name_at b (last_at s₀ j)) ∷ env_of vw b s j)) f)) ∙ w.env vw v;
        opened = opened-then s₀ s s k j (j + 1) positive w.opened (opened-note s s j refl a-note (λ x u n. refl));
        above = λ x u. w.above x (omega arith);
        numbers = λ x u v. each x u v;
      }
    where
      each : (x : ℕ) → k ≤ x → x < j + 1 → number_at s x ≡ number_at s₀ x
      each x u v = each_below (λ (y : ℕ). number_at s y ≡ number_at s₀ y) j x v (λ l. w.numbers x u l) same_number

  noting-some : (last_at s j ≡ 0 → ⊥) → Noting b s₀ k i (bound_as (text_of b (last_at s j)) s j 0 (last_at s j) (number_at s j)) (j + 1)
  noting-some n =
      let f : eqb (last_at s₀ j) 0 ≡ false = ne_eqb (last_at s₀ j) 0 (λ z. n (same-last ∙ z)) in
      record {
        low = omega (arith, w.low);
        high = omega arith;
        seen = λ vw v. (bd vw v).0;
        env = λ vw v.
            env-step b s₀ i j (env_of vw b s j) (env_of vw b (bound_as (text_of b (last_at s j)) s j 0 (last_at s j) (number_at s j)) (j + 1)) h
            ((bd vw v).1 ∙ ap (λ (p : ℕ). var (name_at b p) ∷ env_of vw b s j) same-last ∙ sym (ap (λ (t : Bool). cond t (env_of vw b s j) (var (name_at b (last_at s₀ j)) ∷ env_of vw b s j)) f)) ∙ w.env vw v;
        opened = opened-then s₀ s (bound_as (text_of b (last_at s j)) s j 0 (last_at s j) (number_at s j)) k j (j + 1) positive w.opened
            (opened-bound g.view b s j 0 (last_at s j) (number_at s j) (w.seen g.view g.seen) g.small room_for fits (omega arith) (omega arith));
        above = λ x u. beside.above x (omega arith) ∙ w.above x (omega arith);
        numbers = λ x u v. each x u v;
      }
    where
      fits : end_of b (last_at s j) ≤ length b
      fits = rw same-last ((g.notes j w.low h).1 (λ z. n (same-last ∙ z)))

      bd : (vw : View) → Seen vw b s₀ k
          → Seen vw b (bound_as (text_of b (last_at s j)) s j 0 (last_at s j) (number_at s j)) (j + 1)
          × (env_of vw b (bound_as (text_of b (last_at s j)) s j 0 (last_at s j) (number_at s j)) (j + 1) ≡ var (name_at b (last_at s j)) ∷ env_of vw b s j)
      bd vw v = seen-bound vw b s j 0 (last_at s j) (number_at s j) (w.seen vw v) g.small room_for fits (omega arith) (omega arith)

      beside : Beside s (bound_as (text_of b (last_at s j)) s j 0 (last_at s j) (number_at s j)) g.view.first j (number_at s j)
      beside = beside-bound g.view b s j 0 (last_at s j) (number_at s j) (w.seen g.view g.seen) g.small room_for fits (omega arith) (omega arith)

      first-low : g.view.first ≤ k
      first-low = let o = order-of g.view b s₀ k g.seen in omega (arith, o.first, o.past, o.own, o.locals)

      each : (x : ℕ) → k ≤ x → x < j + 1 → number_at (bound_as (text_of b (last_at s j)) s j 0 (last_at s j) (number_at s j)) x ≡ number_at s₀ x
      each x u v =
          each_below (λ (y : ℕ). number_at (bound_as (text_of b (last_at s j)) s j 0 (last_at s j) (number_at s j)) y ≡ number_at s₀ y) j x v
          (λ l. ap (λ (c : ℕ). c / 17179869184 % 65536) (beside.below (4 * x + 1) (let o = first-low in omega arith) (omega arith)) ∙ w.numbers x u l)
          (beside.number ∙ same_number)

  pub noting-more : (s' : List ℕ) → s' ≡ bound_note b s j → Noting b s₀ k i s' (j + 1)
  noting-more s' e = subst (λ (t : List ℕ). Noting b s₀ k i t (j + 1)) (sym e) (go (eqb (last_at s j) 0) refl)
    where
      go : (t : Bool) → eqb (last_at s j) 0 ≡ t → Noting b s₀ k i (cond t s (bound_as (text_of b (last_at s j)) s j 0 (last_at s j) (number_at s j))) (j + 1)
      go true f = noting-none (eqb-true (last_at s j) 0 f)
      go false f = noting-some (eqb-false (last_at s j) 0 f)

pub noting-done : (b s₀ : List ℕ) (k i : ℕ) (s : List ℕ) (j : ℕ) → Noting b s₀ k i s j → i ≤ j
    → ((x : Pattern) (q : ℕ) → 0 < q → PatternAt b x q → lasts_of s₀ k (i - k) ≡ places_in x
    → ((vw : View) → Seen vw b s₀ k → Seen vw b s i × (env_of vw b s i ≡ push_vars (vars x) (env_of vw b s₀ k))) × (pat_at s x k ≡ pat_at s₀ x k))
    × Opened s₀ s k i
unfolding lasts_of
noting-done b s₀ k i s j w h =
    let u = w.high in
    let e : j ≡ i = omega arith in
    let z : i - j ≡ 0 = omega arith in (
      λ x q l at f.
          let c : i - k ≡ notes_in x = sym (lasts-length s₀ k (i - k)) ∙ ap (λ (y : List ℕ). length y) f ∙ places-length x in
          let v = w.low in (
            λ vw g. (
              subst (λ (y : ℕ). Seen vw b s y) e (w.seen vw g),
              ap (λ (y : ℕ). env_of vw b s y) (sym e) ∙ ap (λ (y : ℕ). push_places b (lasts_of s₀ j y) (env_of vw b s j)) (sym z) ∙ w.env vw g ∙ ap (λ (y : List ℕ). push_places b y (env_of vw b s₀ k)) f
                  ∙ places-vars b x q (env_of vw b s₀ k) l at,
            ),
            pat-same s₀ s x k (λ y p r. w.numbers y p (omega arith)),
          ),
      subst (λ (y : ℕ). Opened s₀ s k y) e w.opened,
    )
