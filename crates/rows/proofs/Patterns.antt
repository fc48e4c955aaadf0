-- The variables of a pattern, one after the other. Assumes nothing.
use Prim.Native.Nat.{ℕ, ◌+◌, ◌*◌, ◌≤◌, ◌<◌}
use native.Mathlib.Omega.{arith}
use mathlib.Core.Path.{◌≡◌, refl, sym, ap, subst, ◌∙◌}
use mathlib.Core.Bool.{Bool, true, false}
use mathlib.Core.List.{List, [], ◌∷◌, ◌++◌}
use lib.Dec.{eqb}
use lib.ListN.{length, get_or, length-append, length-set}
use borrow.Author.Tests.{eqb-true, eqb-false}
use Rattle.tree.specs.Rose.{Row, rnil, end_of, text_of}
use Rattle.tree.specs.Tree.{Name, Pattern, p_arr, p_obj, Patterns, ps_nil, ps_cons, PatEntries, pes_nil, pes_cons}
use Rattle.tree.specs.Form.{f_term, f_pattern, f_patterns, f_pat_entries}
use Rattle.rules.specs.Rows.{Env, var, push_vars}
use Rattle.rules.specs.Outs.{vars, vars_all, vars_keyed}
use Rattle.reads.specs.Bytes.{PatternAt, sub_pattern}
use Rattle.reads.specs.Shapes.{pattern-fits, pattern-head, row-tail, row-end, head-fits, pattern-tag, on-pvar, on-parr, on-pobj, on-keyed-cons, PEntryAt, PArrAt, PObjAt}
use Rattle.cells.specs.Cells.{pushed, bound_as, View, env_of, Seen, Opened, Room, Pushing}
use Rattle.rows.specs.Kept.{heads-below}
use Rattle.rows.specs.Fields.{length-pushed}
use Rattle.rows.specs.Pushed.{seen-bound, bind-ready}
use Rattle.rows.specs.Opened.{opened-none, opened-then, opened-bound}

-- ---- members of a pattern

-- the variables of several patterns
abbrev pub vars_in : List Pattern → List Name
vars_in [] = []
vars_in (x ∷ xs) = vars x ++ vars_in xs

-- from p up to z members of a pattern of the tag stand, with these patterns
unfoldable pub SubsAt : List ℕ → ℕ → List Pattern → ℕ → ℕ → Type 0
SubsAt b tag [] p z = p ≡ z
SubsAt b tag (x ∷ xs) p z =
    (end_of b p ≤ length b) × (end_of b p ≤ z) × ((tag ≡ 0x99 → ⊥) → end_of b (p + 3) ≤ length b) × PatternAt b x (sub_pattern b tag p)
    × (p ≤ sub_pattern b tag p) × (end_of b (sub_pattern b tag p) ≤ end_of b p) × SubsAt b tag xs (end_of b p) z

abbrev list_of : Patterns → List Pattern
list_of ps_nil = []
list_of (ps_cons x xs) = x ∷ list_of xs

abbrev keyed_of : PatEntries → List Pattern
keyed_of pes_nil = []
keyed_of (pes_cons q t x xs) = x ∷ keyed_of xs

vars-list : (xs : Patterns) → vars_all xs ≡ vars_in (list_of xs)
vars-list ps_nil = refl
vars-list (ps_cons x xs) = ap (λ (l : List Name). vars x ++ l) (vars-list xs)

vars-keyed : (xs : PatEntries) → vars_keyed xs ≡ vars_in (keyed_of xs)
vars-keyed pes_nil = refl
vars-keyed (pes_cons q t x xs) = ap (λ (l : List Name). vars x ++ l) (vars-keyed xs)

list-subs : (b : List ℕ) (xs : Patterns) (p z : ℕ) → Row b (f_patterns xs rnil) p z → SubsAt b 0x99 (list_of xs) p z
unfolding SubsAt f_term
list-subs b ps_nil p z h = row-end b p z h
list-subs b (ps_cons x xs) p z h =
    let w = head-fits b (f_pattern x) (f_patterns xs rnil) p z h in
    (w.0, w.1, λ n. absurd (n refl), pattern-head b x (f_patterns xs rnil) p z h, omega arith, omega arith, list-subs b xs (end_of b p) z (row-tail b (f_pattern x) (f_patterns xs rnil) p z h))

-- the place of a row that is not empty
keyed-subs : (b : List ℕ) (xs : PatEntries) (p z : ℕ) → Row b (f_pat_entries xs rnil) p z → SubsAt b 0x9A (keyed_of xs) p z
unfolding SubsAt f_term
keyed-subs b pes_nil p z h = row-end b p z h
keyed-subs b (pes_cons q t x xs) p z h =
    go (head-fits b _ (f_pat_entries xs rnil) p z h) (keyed-subs b xs (end_of b p) z (row-tail b _ (f_pat_entries xs rnil) p z h))
    (on-keyed-cons b p z (λ (es : PatEntries). Entry es) (omega (arith, (head-fits b _ (f_pat_entries xs rnil) p z h).1)) (λ u y ys e r. e) (pes_cons q t x xs) h)
  where
    Entry : PatEntries → Type 0
    Entry pes_nil = Unit {0}
    Entry (pes_cons q' u y ys) = PEntryAt b p u y

    go : (end_of b p ≤ length b) × (end_of b p ≤ z) → SubsAt b 0x9A (keyed_of xs) (end_of b p) z → PEntryAt b p t x → SubsAt b 0x9A (x ∷ keyed_of xs) p z
    go w r e =
        let f = pattern-fits b x (end_of b (p + 3)) e.pat in
        (w.0, w.1, λ n. omega (arith, f), e.pat, omega arith, omega (arith, e.last), r)

-- the members of a pattern that is no variable
pub subs-of : (b : List ℕ) (q tag : ℕ) (x : Pattern) → tag ≡ get_or b q 0 → (tag ≡ 0x98 → ⊥) → PatternAt b x q → (xs : List Pattern) × SubsAt b tag xs (q + 3) (end_of b q) × (vars x ≡ vars_in xs)
subs-of b q tag x e n h = go (eqb tag 0x99) refl
  where
    Holds : ℕ → Pattern → Type 0
    Holds t y = (xs : List Pattern) × SubsAt b t xs (q + 3) (end_of b q) × (vars y ≡ vars_in xs)

    arr : (xs : Patterns) → PArrAt b q xs → Holds 0x99 (p_arr q xs)
    arr xs w = (list_of xs, list-subs b xs (q + 3) (end_of b q) w.items, vars-list xs)

    obj : (xs : PatEntries) → PObjAt b q xs → Holds 0x9A (p_obj q xs)
    obj xs w = (keyed_of xs, keyed-subs b xs (q + 3) (end_of b q) w.items, vars-keyed xs)

    go : (t : Bool) → eqb tag 0x99 ≡ t → Holds tag x
    go true f = let g : tag ≡ 0x99 = eqb-true tag 0x99 f in subst (λ (t : ℕ). Holds t x) (sym g) (on-parr b q (Holds 0x99) (sym e ∙ g) arr x h)
    go false f =
        let g : get_or b q 0 ≡ 0x9A = pattern-tag b x q h (λ z. n (e ∙ z)) (λ z. eqb-false tag 0x99 f (e ∙ z)) in
        subst (λ (t : ℕ). Holds t x) (sym (e ∙ g)) (on-pobj b q (Holds 0x9A) g obj x h)

pub push-append : (xs ys : List Name) (e : Env) → push_vars (xs ++ ys) e ≡ push_vars ys (push_vars xs e)
push-append [] ys e = refl
push-append (x ∷ xs) ys e = push-append xs ys (var x ∷ e)

-- ---- the variables are in view

-- those of the pattern at q are the rows from k up to r
abbrev pub Bound : List ℕ → ℕ → List ℕ → List ℕ → ℕ → ℕ → Type 0
Bound b q s s' k r =
    ((x : Pattern) → PatternAt b x q
    → (r ≡ k + length (vars x)) × ((vw : View) → Seen vw b s k → Seen vw b s' r × (env_of vw b s' r ≡ push_vars (vars x) (env_of vw b s k))))
    × Opened s s' k r × (3 * r + q ≤ 3 * k + end_of b q)

-- some pattern stands at q
abbrev pub Some : List ℕ → ℕ → Type 0
Some b q = (x : Pattern) × PatternAt b x q

pub some_fits : (b : List ℕ) (q : ℕ) → Some b q → end_of b q ≤ length b
some_fits b q w = pattern-fits b w.0 q w.1

pub var-ready : (b s : List ℕ) (k q : ℕ) → Pushing b s k q → Some b q → Room s k × (end_of b q ≤ length b) × (length b ≤ 32768) × (0 < 3) × (0 < 65536) × (get_or s 1 0 < 65536)
var-ready b s k q g w =
    let f = some_fits b q w in
    bind-ready g.view b s k 0 q 0 g.seen g.small (omega (arith, g.spare)) f (omega arith) (omega arith)

pub var-bound : (b s s' : List ℕ) (k q : ℕ) → Pushing b s k q → Some b q → get_or b q 0 ≡ 0x98 → s' ≡ bound_as (text_of b q) s k 0 q 0 → Bound b q s s' k (k + 1)
var-bound b s s' k q g w e es =
    let f = some_fits b q w in
    let room : 4 * k + 4 ≤ length s = omega (arith, g.spare) in
    rw es (
      on-pvar b q
          (λ (x : Pattern). (k + 1 ≡ k + length (vars x)) × ((vw : View) → Seen vw b s k → Seen vw b (bound_as (text_of b q) s k 0 q 0) (k + 1) × (env_of vw b (bound_as (text_of b q) s k 0 q 0) (k + 1) ≡ push_vars (vars x) (env_of vw b s k))))
          e (λ l. (refl, λ vw v. seen-bound vw b s k 0 q 0 v g.small room f (omega arith) (omega arith))),
      opened-bound g.view b s k 0 q 0 g.seen g.small room f (omega arith) (omega arith),
      omega arith,
    )

pub bound-length : (x s s' : List ℕ) (k kind q n : ℕ) → s' ≡ bound_as x s k kind q n → length s' ≡ length s
unfolding bound_as
bound-length x s s' k kind q n e =
    ap (λ (t : List ℕ). length t) e ∙ length-set (pushed x s k kind q 0 n (get_or s 1 0) 0 0) 1 (get_or s 1 0 + 1) ∙ length-pushed x s k kind q 0 n (get_or s 1 0) 0 0

-- ---- the loop

-- what is left of the pattern x
pub record Rest (b s₀ : List ℕ) (k tag z : ℕ) (x : Pattern) (s : List ℕ) (p i : ℕ) : Type 0 where
  pub subs : List Pattern
  pub at : SubsAt b tag subs p z
  pub counts : i + length (vars_in subs) ≡ k + length (vars x)
  pub env : (vw : View) → Seen vw b s₀ k → push_vars (vars_in subs) (env_of vw b s i) ≡ push_vars (vars x) (env_of vw b s₀ k)

pub record Going (b s₀ : List ℕ) (k q tag z : ℕ) (s : List ℕ) (p i : ℕ) : Type 0 where
  pub some : Some b q
  pub seen : (vw : View) → Seen vw b s₀ k → Seen vw b s i
  pub rest : (x : Pattern) → PatternAt b x q → Rest b s₀ k tag z x s p i
  pub opened : Opened s₀ s k i
  pub paid : 3 * i + q ≤ 3 * k + p
  pub low : q < p
  pub within : p ≤ z
  pub ends : z ≡ end_of b q

pub going_start : (b s : List ℕ) (k q tag z : ℕ) → Some b q → tag ≡ get_or b q 0 → (tag ≡ 0x98 → ⊥) → z ≡ end_of b q → Going b s k q tag z s (q + 3) k
going_start b s k q tag z w e n ez =
    record {
      some = w;
      seen = λ vw v. v;
      rest = λ x h.
          let y = subs-of b q tag x e n h in
          record { subs = y.0; at = subst (λ (u : ℕ). SubsAt b tag y.0 (q + 3) u) (sym ez) y.1; counts = ap (λ (l : List Name). k + length l) (sym y.2); env = λ vw v. ap (λ (l : List Name). push_vars l (env_of vw b s k)) (sym y.2) };
      opened = opened-none s k;
      paid = omega arith;
      low = omega arith;
      within = omega arith;
      ends = ez;
    }

-- the next member
pub record Next (b : List ℕ) (tag p z : ℕ) : Type 0 where
  pub some : Some b (sub_pattern b tag p)
  pub fits : end_of b p ≤ length b
  pub within : end_of b p ≤ z
  pub key : (tag ≡ 0x99 → ⊥) → end_of b (p + 3) ≤ length b
  pub low : p ≤ sub_pattern b tag p
  pub high : end_of b (sub_pattern b tag p) ≤ end_of b p

next_of : (b : List ℕ) (tag p z : ℕ) (xs : List Pattern) → SubsAt b tag xs p z → p < z → Next b tag p z
unfolding SubsAt
next_of b tag p z [] h l = absurd (omega arith)
next_of b tag p z (x ∷ xs) h l = record { some = (x, h.3); fits = h.0; within = h.1; key = h.2; low = h.4; high = h.5 }

pub going_next : (b s₀ : List ℕ) (k q tag z : ℕ) (s : List ℕ) (p i : ℕ) → Going b s₀ k q tag z s p i → p < z → Next b tag p z
going_next b s₀ k q tag z s p i w l = let r = w.rest w.some.0 w.some.1 in next_of b tag p z r.subs r.at l

pub going-ready : (b s₀ : List ℕ) (k q tag z : ℕ) (s : List ℕ) (p i u : ℕ) → Pushing b s₀ k q → Going b s₀ k q tag z s p i → p < z → u ≡ sub_pattern b tag p → Pushing b s i u × Some b u
going-ready b s₀ k q tag z s p i u g w l e =
    let n = going_next b s₀ k q tag z s p i w l in
    rw e (
      record {
        small = g.small;
        view = g.view;
        seen = w.seen g.view g.seen;
        spare = omega (arith, g.spare, w.paid, w.opened.same, n.low, n.fits, w.low);
      },
      n.some,
    )

module _ (b s₀ : List ℕ) (k q tag z : ℕ) (s s' : List ℕ) (p i r : ℕ) (w : Going b s₀ k q tag z s p i) (l : p < z) (d : Bound b (sub_pattern b tag p) s s' i r) where
  rest_more : (x : Pattern) (xs : List Pattern) → SubsAt b tag xs p z → i + length (vars_in xs) ≡ k + length (vars x)
      → ((vw : View) → Seen vw b s₀ k → push_vars (vars_in xs) (env_of vw b s i) ≡ push_vars (vars x) (env_of vw b s₀ k)) → Rest b s₀ k tag z x s' (end_of b p) r
  unfolding SubsAt
  rest_more x [] h c e = absurd (omega arith)
  rest_more x (y ∷ ys) h c e =
      let m = d.0 y h.3 in
      record {
        subs = ys;
        at = h.6;
        counts = omega (arith, m.0, length-append (vars y) (vars_in ys));
        env = λ vw v. ap (λ (f : Env). push_vars (vars_in ys) f) (m.1 vw (w.seen vw v)).1 ∙ sym (push-append (vars y) (vars_in ys) (env_of vw b s i)) ∙ e vw v;
      }

  pub going_more : Pushing b s₀ k q → Going b s₀ k q tag z s' (end_of b p) r
  going_more g =
      let n = going_next b s₀ k q tag z s p i w l in
      record {
        some = w.some;
        seen = λ vw v. ((d.0 n.some.0 n.some.1).1 vw (w.seen vw v)).0;
        rest = λ x h. let t = w.rest x h in rest_more x t.subs t.at t.counts t.env;
        opened = opened-then s₀ s s' k i r (omega (arith, heads-below g.view b s₀ k g.seen)) w.opened d.1;
        paid = omega (arith, w.paid, d.2, n.low, n.high);
        low = omega (arith, w.low);
        within = n.within;
        ends = w.ends;
      }

pub going_on : (b s₀ : List ℕ) (k q tag z : ℕ) (s s' : List ℕ) (p p' i r u : ℕ) → Pushing b s₀ k q → Going b s₀ k q tag z s p i → p < z → u ≡ sub_pattern b tag p → Bound b u s s' i r → p' ≡ end_of b p
    → Going b s₀ k q tag z s' p' r
going_on b s₀ k q tag z s s' p p' i r u g w l e d f =
    subst (λ (y : ℕ). Going b s₀ k q tag z s' y r) (sym f) (going_more b s₀ k q tag z s s' p i r w l (subst (λ (y : ℕ). Bound b y s s' i r) e d) g)

done-env : (b : List ℕ) (tag p z : ℕ) (xs : List Pattern) → SubsAt b tag xs p z → z ≤ p → vars_in xs ≡ []
unfolding SubsAt
done-env b tag p z [] h l = refl
done-env b tag p z (x ∷ xs) h l = absurd (omega arith)

pub going_done : (b s₀ : List ℕ) (k q tag z : ℕ) (s : List ℕ) (p i : ℕ) → Going b s₀ k q tag z s p i → z ≤ p → Bound b q s₀ s k i
going_done b s₀ k q tag z s p i w l = (
  λ x h.
      let t = w.rest x h in
      let e = done-env b tag p z t.subs t.at l in (
        omega (arith, t.counts, ap (λ (y : List Name). length y) e),
        λ vw v. (w.seen vw v, ap (λ (y : List Name). push_vars y (env_of vw b s i)) (sym e) ∙ t.env vw v),
      ),
  w.opened,
  omega (arith, w.paid, w.within, w.ends),
)

-- a member stands further in
pub going_less : (b s₀ : List ℕ) (k q tag z : ℕ) (s : List ℕ) (p i u : ℕ) → Going b s₀ k q tag z s p i → p < z → u ≡ sub_pattern b tag p → (q < u) × (u < length b)
going_less b s₀ k q tag z s p i u w l e =
    let n = going_next b s₀ k q tag z s p i w l in
    let f = some_fits b (sub_pattern b tag p) n.some in
    (omega (arith, w.low, n.low), omega arith)
