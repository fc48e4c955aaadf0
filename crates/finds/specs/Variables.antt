-- Which row a variable or a label means: locals, the module's imported variables, globals. Assumes nothing.
use Prim.Native.Nat.{ℕ, zero, suc, ◌+◌, ◌-◌, ◌≤◌, ◌<◌}
use native.Mathlib.Omega.{arith}
use Rattle.std.proofs.Common.{eq-or-lt_of_le, sym, ◌∙◌, inl, inr, ne_eqb, eq-eqb, length-append}
use Rattle.std.specs.Prelude.{◌≡◌, ◌⊎◌, Bool, cond, ◌&&◌, eqb, get_or}
use Rattle.std.proofs.Math.Path.{refl, ap, subst}
use Rattle.std.proofs.Math.Bool.{true, false}
use Rattle.std.proofs.Math.Option.{Option, none, some, map}
use mathlib.Core.List.{List, [], ◌∷◌, ◌++◌}
use Rattle.std.proofs.Math.ListN.{length}
use Rattle.tree.specs.Tree.{Name, Native}
use Rattle.rules.specs.Names.{Text, same}
use Rattle.rules.specs.Lists.{Every, every-left, every-right, every_append}
use Rattle.rules.specs.Rows.{Env, count, find_var, find_label}
use Rattle.rules.specs.Filters.{Imported, home_of, or_else, last_that, imported_var, global_var, variable}
use Rattle.rules.specs.Modules.{imported_by}
use Rattle.reads.specs.Bytes.{word_of}
use Rattle.cells.specs.Cells.{View, Seen, Vars, Natives, class_of, key_of, kind_at, before_at, env_of, bound, in_view}
use Rattle.finds.specs.Means.{first_of, matches, Readable, HitIs, sought}
use Rattle.finds.specs.Keys.{fits_row, matches-fits}
use Rattle.finds.specs.Firsts.{first-same, first-zero, first-cons, first_rest, first-nil, bound-split, bound-first, in-bound, every-member, member-bound, member-left, member_right}
use Rattle.finds.specs.Bindings.{fits-other, fits-plain, Legible, readable, HitAt, hit-is, hit-none, hit-append, hit_later, locals-var, locals-label, Locals}

-- ---- the last that fits

or_else-none : (o : Option ℕ) → or_else o none ≡ o
or_else-none none = refl
or_else-none (some i) = refl

or_else-assoc : (a b c : Option ℕ) → or_else (or_else a b) c ≡ or_else a (or_else b c)
or_else-assoc none b c = refl
or_else-assoc (some i) b c = refl

last-cases : (o p : Option ℕ) (t : Bool) (k l n : ℕ) → n ≡ k + l
    → or_else (or_else o (map (λ i. k + i) p)) (cond t (some n) none) ≡ or_else o (map (λ i. k + i) (or_else p (cond t (some l) none)))
last-cases (some i) p t k l n e = refl
last-cases none (some i) t k l n e = refl
last-cases none none true k l n e = ap {B = Option ℕ} some e
last-cases none none false k l n e = refl

last-append : {A : Type 0} (f : A → Bool) (xs ys : List A) → last_that f (xs ++ ys) ≡ or_else (last_that f ys) (map (λ i. length ys + i) (last_that f xs))
last-append f [] ys = sym (or_else-none (last_that f ys))
last-append f (a ∷ xs) ys =
    rw (last-append f xs ys)
    (last-cases (last_that f ys) (last_that f xs) (f a) (length ys) (length xs) (length (xs ++ ys)) (omega (arith, length-append xs ys)))

last_none : {A : Type 0} (f : A → Bool) (xs : List A) → Every (λ (a : A). f a ≡ false) xs → last_that f xs ≡ none
last_none f [] h = refl
last_none f (a ∷ xs) h = rw (last_none f xs h.1, h.0)

every-to : {A : Type 0} (P Q : A → Type 0) (xs : List A) → ((a : A) → P a → Q a) → Every P xs → Every Q xs
every-to P Q [] f h = tt
every-to P Q (a ∷ xs) f h = (f a h.0, every-to P Q xs f h.1)

module _ (home : ℕ) (x : Text) where
  abbrev ours : Imported → Bool
  ours v = eqb v.home home && same x v.name.text

  not_ours : (v : Imported) → (v.home ≡ home → ⊥) → ours v ≡ false
  not_ours v h = rw (ne_eqb v.home home h)

  by_length : (xs : List Name) → length (imported_by home xs) ≡ length xs
  by_length [] = refl
  by_length (y ∷ xs) = ap suc (by_length xs)

  by_last : (xs : List Name) → last_that ours (imported_by home xs) ≡ last_that (λ v. same x v.text) xs
  by_last [] = refl
  by_last (y ∷ xs) = rw (by_last xs, by_length xs, eq-eqb home home refl)

  -- "matching only the current module's"
  ours-last : (pre post : List Imported) (xs : List Name) → Every (λ (v : Imported). v.home ≡ home → ⊥) (pre ++ post)
      → last_that ours (pre ++ (imported_by home xs ++ post)) ≡ map (λ i. length post + i) (last_that (λ v. same x v.text) xs)
  ours-last pre post xs h =
      let p : last_that ours pre ≡ none = last_none ours pre (every-to (λ v. v.home ≡ home → ⊥) (λ v. ours v ≡ false) pre not_ours (every-left (λ v. v.home ≡ home → ⊥) pre post h)) in
      let q : last_that ours post ≡ none = last_none ours post (every-to (λ v. v.home ≡ home → ⊥) (λ v. ours v ≡ false) post not_ours (every-right (λ v. v.home ≡ home → ⊥) pre post h)) in
      last-append ours pre (imported_by home xs ++ post)
      ∙ rw p (or_else-none (last_that ours (imported_by home xs ++ post)) ∙ last-append ours (imported_by home xs) post ∙ rw (q, by_last xs))

-- ---- variables one after the other

module _ (m : ℕ) (b s : List ℕ) (x : Text) where
  abbrev positive : List ℕ → Type 0
  positive js = Every (λ (j : ℕ). 0 < j) js

  pub bound-positive : (lo n : ℕ) → 0 < lo → positive (bound s lo n)
  bound-positive lo n h = every-member (λ (j : ℕ). 0 < j) (bound s lo n) (λ j w. omega (arith, (in-bound s lo n j w).0))

  vars-last : (t : Bool) (lo i n : ℕ) → fits_row b s x 0 0 lo ≡ t → 0 < lo → Readable b s lo → before_at s lo ≡ i
      → HitAt (cond t (some n) none) b s (i + suc n) (first_of (fits_row b s x 0 0) (lo ∷ []))
  unfolding HitAt
  vars-last true lo i n e p w u =
      subst (λ (r : ℕ). HitAt (some n) b s (i + suc n) r) (sym (first-cons (fits_row b s x 0 0) lo [] e)) (p, w, omega (arith, u))
  vars-last false lo i n e p w u = first_rest (fits_row b s x 0 0) lo [] e ∙ first-nil (fits_row b s x 0 0)

  pub vars-hit : (xs : List Name) (lo i : ℕ) → Vars b s lo i xs → 0 < lo → ((j : ℕ) → lo ≤ j → j < lo + length xs → kind_at s j < 6 → Legible m b s j)
      → HitAt (last_that (λ v. same x v.text) xs) b s (i + length xs) (first_of (fits_row b s x 0 0) (bound s lo (length xs)))
  unfolding Vars HitAt first_of bound
  vars-hit [] lo i h p g = refl
  vars-hit (y ∷ xs) lo i h p g =
      let k : kind_at s lo < 6 = omega (arith, h.0) in
      let w = g lo (omega arith) (omega arith) k in
      let q : fits_row b s x 0 0 lo ≡ same x y.text =
      fits-plain b s x 0 lo 0 h.0 refl (w.0.plain (omega (arith, h.0))) ∙ ap (λ (v : Name). same x v.text) h.1 in
      let e : i + suc (length xs) ≡ suc i + length xs = omega arith in
      let u = vars-hit xs (suc lo) (suc i) h.3 (omega arith) (λ j c d. g j (omega arith) (omega arith)) in
      subst (λ (js : List ℕ). HitAt (last_that (λ v. same x v.text) (y ∷ xs)) b s (i + suc (length xs)) (first_of (fits_row b s x 0 0) js)) (sym (bound-first s lo (length xs) k))
      (hit-append (last_that (λ v. same x v.text) xs) (cond (same x y.text) (some (length xs)) none) b s (i + suc (length xs)) (fits_row b s x 0 0)
      (bound s (suc lo) (length xs)) (lo ∷ []) (bound-positive (suc lo) (length xs) (omega arith))
      (subst (λ (c : ℕ). HitAt (last_that (λ v. same x v.text) xs) b s c (first_of (fits_row b s x 0 0) (bound s (suc lo) (length xs)))) (sym e) u)
      (vars-last (same x y.text) lo i (length xs) q p (readable m b s lo w) h.2))

-- a kind of each row
pub vars-kind : (b s : List ℕ) (xs : List Name) (lo i j : ℕ) → Vars b s lo i xs → lo ≤ j → j < lo + length xs → kind_at s j ≡ 0
unfolding Vars
vars-kind b s [] lo i j h p q = absurd (omega arith)
vars-kind b s (y ∷ xs) lo i j h p q = go (eq-or-lt_of_le p) (λ w. vars-kind b s xs (suc lo) (suc i) j h.3 w (omega arith))
  where
    go : (lo ≡ j) ⊎ (lo < j) → (lo < j → kind_at s j ≡ 0) → kind_at s j ≡ 0
    go (inl e) f = subst (λ (i : ℕ). kind_at s i ≡ 0) e h.0
    go (inr w) f = f w

pub natives-kind : (b s : List ℕ) (vs : List Native) (lo n j : ℕ) → Natives b s (lo + length vs) n vs → lo ≤ j → j < lo + length vs → kind_at s j ≡ 5
unfolding Natives
natives-kind b s [] lo n j h p q = absurd (omega arith)
natives-kind b s (v ∷ vs) lo n j h p q =
    let e : lo + suc (length vs) - 1 ≡ lo + length vs = omega arith in
    let w : j ≤ lo + length vs = omega arith in
    go e (eq-or-lt_of_le w) (λ u. natives-kind b s vs lo (suc n) j (subst (λ (i : ℕ). Natives b s i (suc n) vs) e h.4) p u)
  where
    go : lo + suc (length vs) - 1 ≡ lo + length vs → (j ≡ lo + length vs) ⊎ (j < lo + length vs) → (j < lo + length vs → kind_at s j ≡ 5) → kind_at s j ≡ 5
    go e (inl u) f = subst (λ (i : ℕ). kind_at s i ≡ 5) (e ∙ sym u) h.0
    go e (inr u) f = f u

-- ---- all that is in view

module _ (vw : View) (b s : List ℕ) (k : ℕ) (seen : Seen vw b s k) where
  pub seen-order : (0 < vw.first) × (vw.first ≤ vw.past) × (vw.past ≤ vw.own) × (vw.own ≤ vw.locals) × (vw.locals ≤ k) × (vw.globals ≤ vw.past)
  seen-order =
      (omega (arith, seen.base.heads), omega (arith, seen.base.few, seen.base.rest), seen.base.order, seen.order.0, seen.order.1, omega (arith, seen.base.rest))

  -- the lists of rows in view, apart
  pub view-apart : in_view vw s k
      ≡ (bound s vw.locals (k - vw.locals) ++ bound s vw.own (length seen.base.mine.names))
      ++ (bound s vw.globals (length vw.top.globals) ++ bound s vw.first (length vw.top.natives))
  view-apart =
      let u : k - vw.own ≡ length seen.base.mine.names + (k - vw.locals) = omega (arith, seen.base.mine.rest, seen.order.0, seen.order.1) in
      let v : vw.past - vw.first ≡ length vw.top.natives + length vw.top.globals = omega (arith, seen.base.few, seen.base.rest) in
      let p : bound s vw.own (k - vw.own) ≡ bound s vw.locals (k - vw.locals) ++ bound s vw.own (length seen.base.mine.names) =
      rw (u, seen.base.mine.rest) (bound-split s vw.own (length seen.base.mine.names) (k - (vw.own + length seen.base.mine.names))) in
      let q : bound s vw.first (vw.past - vw.first) ≡ bound s vw.globals (length vw.top.globals) ++ bound s vw.first (length vw.top.natives) =
      rw (v, seen.base.few) (bound-split s vw.first (length vw.top.natives) (length vw.top.globals)) in
      cc

  pub inner-legible : (j : ℕ) → vw.own ≤ j → j < k → kind_at s j < 6 → Legible vw.mask b s j
  inner-legible j p q h =
      (seen.good j (member-left j (bound s vw.own (k - vw.own)) (bound s vw.first (vw.past - vw.first)) (member-bound s vw.own (k - vw.own) j p (omega arith) h)), omega (arith, seen.within))

  pub outer-legible : (j : ℕ) → vw.first ≤ j → j < vw.past → kind_at s j < 6 → Legible vw.mask b s j
  outer-legible j p q h = (
    seen.good j (member_right j (bound s vw.own (k - vw.own)) (bound s vw.first (vw.past - vw.first)) (member-bound s vw.first (vw.past - vw.first) j p (omega arith) h)),
    omega (arith, seen.within, seen-order),
  )

  pub seen-locals : Locals vw b s (k - vw.locals)
  seen-locals j p q = (seen.locals j p (omega (arith, seen.order.1)), λ h. inner-legible j (omega (arith, seen.order.0)) (omega (arith, seen.order.1)) h)

  module _ (x : Text) where
    abbrev env : Env
    env = env_of vw b s k

    imported-hit : HitAt (map (λ i. count env + i) (imported_var vw.top x)) b s (get_or s 1 0)
        (first_of (fits_row b s x 0 0) (bound s vw.own (length seen.base.mine.names)))
    imported-hit =
        let mine = seen.base.mine in
        let e : imported_var vw.top x ≡ map (λ i. length mine.after + i) (last_that (λ v. same x v.text) mine.names) =
        ap (λ (l : List Imported). last_that (ours (home_of vw.top) x) l) mine.are ∙ ours-last (home_of vw.top) x mine.before mine.after mine.names mine.others in
        let n : length vw.top.imported ≡ length mine.before + (length mine.names + length mine.after) =
        ap length mine.are
        ∙ (length-append mine.before (imported_by (home_of vw.top) mine.names ++ mine.after)
        ∙ rw (length-append (imported_by (home_of vw.top) mine.names) mine.after, by_length (home_of vw.top) x mine.names)) in
        let h = vars-hit vw.mask b s x mine.names vw.own (length vw.top.globals + length mine.before) mine.rows (omega (arith, seen-order))
        (λ j p q. inner-legible j p (omega (arith, mine.rest, seen-order))) in
        let u = hit_later (last_that (λ v. same x v.text) mine.names) b s (length vw.top.globals + length mine.before + length mine.names)
        (length mine.after + (length vw.top.globals + length mine.before + length mine.names)) (length mine.after)
        (first_of (fits_row b s x 0 0) (bound s vw.own (length mine.names))) (λ i. length mine.after + i) (λ i. refl) refl h in
        rw e
        (hit_later (map (λ i. length mine.after + i) (last_that (λ v. same x v.text) mine.names)) b s
        (length mine.after + (length vw.top.globals + length mine.before + length mine.names)) (get_or s 1 0) (count env)
        (first_of (fits_row b s x 0 0) (bound s vw.own (length mine.names))) (λ i. count env + i) (λ i. refl) (omega (arith, seen.view)) u)

    globals-hit : HitAt (map (λ i. count env + (length vw.top.imported + i)) (global_var vw.top x)) b s (get_or s 1 0)
        (first_of (fits_row b s x 0 0) (bound s vw.globals (length vw.top.globals)))
    globals-hit =
        let h = vars-hit vw.mask b s x vw.top.globals vw.globals 0 seen.base.globals (omega (arith, seen.base.few, seen-order))
        (λ j p q. outer-legible j (omega (arith, seen.base.few)) (omega (arith, seen.base.rest))) in
        hit_later (global_var vw.top x) b s (0 + length vw.top.globals) (get_or s 1 0) (count env + length vw.top.imported)
        (first_of (fits_row b s x 0 0) (bound s vw.globals (length vw.top.globals))) (λ i. count env + (length vw.top.imported + i)) (λ i. omega arith) (omega (arith, seen.view)) h

    -- the rows of a kind do not match a class that is not theirs
    unlike : (class a lo n kind : ℕ) → eqb (class_of kind) class ≡ false → ((j : ℕ) → lo ≤ j → j < lo + n → kind_at s j ≡ kind)
        → first_of (fits_row b s x class a) (bound s lo n) ≡ 0
    unlike class a lo n kind e h =
        first-zero (fits_row b s x class a) (bound s lo n)
        (λ j w. let v = in-bound s lo n j w in fits-other b s x class a j kind (h j v.0 v.1) e)

    pub natives-unlike : (class a : ℕ) → eqb 2 class ≡ false → first_of (fits_row b s x class a) (bound s vw.first (length vw.top.natives)) ≡ 0
    natives-unlike class a e =
        unlike class a vw.first (length vw.top.natives) 5 e
        (λ j p q. natives-kind b s vw.top.natives vw.first 0 j (subst (λ (i : ℕ). Natives b s i 0 vw.top.natives) seen.base.few seen.base.natives) p q)

    pub globals-unlike : (class a : ℕ) → eqb 0 class ≡ false → first_of (fits_row b s x class a) (bound s vw.globals (length vw.top.globals)) ≡ 0
    globals-unlike class a e =
        unlike class a vw.globals (length vw.top.globals) 0 e (λ j p q. vars-kind b s vw.top.globals vw.globals 0 j seen.base.globals p q)

    pub imported-unlike : (class a : ℕ) → eqb 0 class ≡ false → first_of (fits_row b s x class a) (bound s vw.own (length seen.base.mine.names)) ≡ 0
    imported-unlike class a e =
        unlike class a vw.own (length seen.base.mine.names) 0 e
        (λ j p q. vars-kind b s seen.base.mine.names vw.own (length vw.top.globals + length seen.base.mine.before) j seen.base.mine.rows p q)

    pub locals-positive : positive vw.mask b s x (bound s vw.locals (k - vw.locals))
    locals-positive = bound-positive vw.mask b s x vw.locals (k - vw.locals) (omega (arith, seen-order))

    pub own-positive : positive vw.mask b s x (bound s vw.own (length seen.base.mine.names))
    own-positive = bound-positive vw.mask b s x vw.own (length seen.base.mine.names) (omega (arith, seen-order))

    pub globals-positive : positive vw.mask b s x (bound s vw.globals (length vw.top.globals))
    globals-positive = bound-positive vw.mask b s x vw.globals (length vw.top.globals) (omega (arith, seen.base.few, seen-order))

    pub inner-positive : positive vw.mask b s x (bound s vw.locals (k - vw.locals) ++ bound s vw.own (length seen.base.mine.names))
    inner-positive = every_append (λ (j : ℕ). 0 < j) (bound s vw.locals (k - vw.locals)) (bound s vw.own (length seen.base.mine.names)) locals-positive own-positive

    -- four lists one after the other
    hit-four : (a c d : Option ℕ) (f : ℕ → Bool)
        → HitAt a b s (get_or s 1 0) (first_of f (bound s vw.locals (k - vw.locals)))
        → HitAt c b s (get_or s 1 0) (first_of f (bound s vw.own (length seen.base.mine.names)))
        → HitAt d b s (get_or s 1 0) (first_of f (bound s vw.globals (length vw.top.globals)))
        → first_of f (bound s vw.first (length vw.top.natives)) ≡ 0
        → HitAt (or_else a (or_else c d)) b s (get_or s 1 0) (first_of f (in_view vw s k))
    hit-four a c d f h i j z =
        let e : or_else a (or_else c d) ≡ or_else (or_else a c) (or_else d none) = sym (or_else-assoc a c d) ∙ ap (or_else (or_else a c)) (sym (or_else-none d)) in
        let u = hit-append a c b s (get_or s 1 0) f (bound s vw.locals (k - vw.locals)) (bound s vw.own (length seen.base.mine.names)) locals-positive h i in
        let v = hit-append d none b s (get_or s 1 0) f (bound s vw.globals (length vw.top.globals)) (bound s vw.first (length vw.top.natives)) globals-positive j
        (hit-none b s (get_or s 1 0) (first_of f (bound s vw.first (length vw.top.natives))) z) in
        subst (λ (o : Option ℕ). HitAt o b s (get_or s 1 0) (first_of f (in_view vw s k))) (sym e)
        (subst (λ (l : List ℕ). HitAt (or_else (or_else a c) (or_else d none)) b s (get_or s 1 0) (first_of f l)) (sym view-apart)
        (hit-append (or_else a c) (or_else d none) b s (get_or s 1 0) f
        (bound s vw.locals (k - vw.locals) ++ bound s vw.own (length seen.base.mine.names))
        (bound s vw.globals (length vw.top.globals) ++ bound s vw.first (length vw.top.natives)) inner-positive u v))

    -- "`$x`: innermost local; else, past all locals, all modules' imported variables ..; else globals, last first"
    pub variable-hit : HitAt (variable vw.top x env) b s (get_or s 1 0) (first_of (fits_row b s x 0 0) (in_view vw s k))
    unfolding variable
    variable-hit =
        hit-four (find_var x env) (map (λ i. count env + i) (imported_var vw.top x)) (map (λ i. count env + (length vw.top.imported + i)) (global_var vw.top x))
        (fits_row b s x 0 0)
        (rw seen.view (locals-var vw b s x (omega (arith, seen-order)) (k - vw.locals) seen-locals)) imported-hit globals-hit (natives-unlike 0 0 refl)

    -- "A break takes the innermost label of its name"
    pub label-hit : HitAt (find_label x env) b s (get_or s 1 0) (first_of (fits_row b s x 1 0) (in_view vw s k))
    label-hit =
        subst (λ (o : Option ℕ). HitAt o b s (get_or s 1 0) (first_of (fits_row b s x 1 0) (in_view vw s k))) (or_else-none (find_label x env))
        (hit-four (find_label x env) none none (fits_row b s x 1 0)
        (rw seen.view (locals-label vw b s x (omega (arith, seen-order)) (k - vw.locals) seen-locals))
        (hit-none b s (get_or s 1 0) (first_of (fits_row b s x 1 0) (bound s vw.own (length seen.base.mine.names))) (imported-unlike 1 0 refl))
        (hit-none b s (get_or s 1 0) (first_of (fits_row b s x 1 0) (bound s vw.globals (length vw.top.globals))) (globals-unlike 1 0 refl))
        (natives-unlike 1 0 refl))

    -- by word and key
    pub by_key : (class a : ℕ) → class < 4 → length x < 65536
        → first_of (matches b s x (word_of x) (key_of class (length x) a)) (in_view vw s k) ≡ first_of (fits_row b s x class a) (in_view vw s k)
    by_key class a c l =
        first-same (matches b s x (word_of x) (key_of class (length x) a)) (fits_row b s x class a) (in_view vw s k)
        (λ j w. matches-fits vw.mask b s j (seen.good j w) x class a c l)

    pub sought-is : (class : ℕ) → class < 2 → length x < 65536 → HitIs (sought vw class x env) b s (first_of (matches b s x (word_of x) (key_of class (length x) 0)) (in_view vw s k))
    unfolding sought
    sought-is zero c l =
        rw (by_key 0 0 (omega arith) l) (hit-is (variable vw.top x env) b s (get_or s 1 0) (first_of (fits_row b s x 0 0) (in_view vw s k)) refl variable-hit)
    sought-is (suc zero) c l =
        rw (by_key 1 0 (omega arith) l) (hit-is (find_label x env) b s (get_or s 1 0) (first_of (fits_row b s x 1 0) (in_view vw s k)) refl label-hit)
    sought-is (suc (suc n)) c l = absurd (omega arith)
