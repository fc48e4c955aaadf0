-- What each return of the functions of under.rt that give a width shows. Assumes nothing.
use Prim.Native.Nat.{ℕ, suc, ◌+◌, ◌-◌, ◌*◌, ◌≤◌, ◌<◌}
use native.Mathlib.Omega.{arith}
use native.Mathlib.Nat.{eq-or-lt_of_le}
use mathlib.Core.Path.{◌≡◌, refl, sym, ap, subst, ◌∙◌}
use mathlib.Core.Logic.{◌⊎◌, inl, inr}
use mathlib.Core.Bool.{Bool, true, false, cond}
use mathlib.Core.Option.{Option, none, some}
use mathlib.Core.List.{List}
use borrow.Author.Tests.{ltb-true, ltb-false}
use lib.Dec.{eqb, ltb}
use lib.ListN.{length, get_or, take, drop, length-take, length-drop}
use Rattle.reads.specs.Texts.{text-slice}
use Rattle.tree.specs.Rose.{Roses, rnil, end_of, text_of, Row}
use Rattle.tree.specs.Tree.{Term, Terms, Entries, text_place, t_num, t_fold, t_obj}
use Rattle.tree.specs.Form.{f_terms, f_entries}
use Rattle.rules.specs.Names.{Text}
use Rattle.rules.specs.Table.{Rec, Err, u_var, u_label}
use Rattle.rules.specs.Rows.{Env, count, find_label}
use Rattle.rules.specs.Filters.{Top, Found, variable, meant, error_at}
use Rattle.rules.specs.Outs.{arity, var_out}
use Rattle.rules.specs.Listing.{rec_bytes}
use Rattle.rules.specs.Rules.{term, args, called}
use Rattle.reads.specs.Bytes.{TermAt, name_at, many}
use Rattle.reads.specs.Widths.{OwnWidth, call_width, num_width, fold_width, fold_kind, pat_width, entries_width}
use Rattle.reads.specs.Lengths.{id-length, one-length, own-id, own-recurse, own-arr, own-neg, own-label, own-ite, own-num, own-try, own-fold, own-obj}
use Rattle.reads.specs.Folds.{FoldOf}
use Rattle.reads.specs.declared.width.Fold.{Fold}
use Rattle.reads.specs.Shapes.{CallAt, on-id, on-recurse, on-arr, on-neg, on-label, on-break, on-ite, on-var, on_call, on-num, on-try, on-fold, on-obj, terms-many}
use Rattle.cells.specs.Cells.{View, Seen, env_of, outer}
use Rattle.finds.specs.Hits as Hit
use Rattle.finds.specs.Means.{Finds, HitIs, FoundIs, Means, sought}
use Rattle.finds.specs.Under.{body_of, defined_by, own_call, Grown, under, grown-variable, grown-own, grown-other, found_width, HasArity, call_length, args-made, found-arity, found-width, missing-kind}
use Rattle.finds.specs.Wide.{WidthIs, WidthAt, WidthUnder, WidthNamed, var_width, Owns}

-- ---- texts as parts of the bytes

pub part-short : (b : List ℕ) (n p : ℕ) → length b ≤ 32768 → length (take n (drop p b)) < 65536
part-short b n p h = omega (arith, length-take n (drop p b), length-drop p b)

-- the name of a call
six : (q : ℕ) → q + 3 + 3 ≡ q + 6
six q = omega arith

pub part-name : (b : List ℕ) (q z : ℕ) → z ≡ end_of b (q + 3) → take (z - (q + 6)) (drop (q + 6) b) ≡ text_of b (q + 3)
part-name b q z e = subst (λ (i : ℕ). take (z - i) (drop i b) ≡ text_of b (q + 3)) (six q) (text-slice b (q + 3) z e)

-- ---- variables and breaks

hit-none : (o : Option ℕ) (b s : List ℕ) (r : ℕ) → HitIs o b s r → r ≡ 0 → 3 ≡ var_width o
unfolding HitIs var_width
hit-none none b s r h e = refl
hit-none (some i) b s r h e = absurd (omega (arith, h.0))

hit-some : (o : Option ℕ) (b s : List ℕ) (r : ℕ) → HitIs o b s r → (r ≡ 0 → ⊥) → 5 ≡ var_width o
unfolding HitIs var_width
hit-some none b s r h e = absurd (e h)
hit-some (some i) b s r h e = refl

module _ (b s : List ℕ) (p class : ℕ) (y : Text) (e : y ≡ text_of b p) (r : ℕ) (f : Finds b s y class r) where
  found_as : (vw : View) (k : ℕ) → Seen vw b s k → HitIs (sought vw class (text_of b p) (env_of vw b s k)) b s r
  found_as vw k seen = subst (λ (x : Text). HitIs (sought vw class x (env_of vw b s k)) b s r) e (f vw k seen)

  pub named_none : r ≡ 0 → WidthNamed b s p class 3
  named_none q vw k seen = hit-none (sought vw class (text_of b p) (env_of vw b s k)) b s r (found_as vw k seen) q

  pub named_some : (r ≡ 0 → ⊥) → WidthNamed b s p class 5
  named_some q vw k seen = hit-some (sought vw class (text_of b p) (env_of vw b s k)) b s r (found_as vw k seen) q

var-length : (p : ℕ) (x : Err) (o : Option ℕ) → length (rec_bytes 2 (var_out p x o).self) ≡ var_width o
unfolding var_out var_width
var-length p x none = id-length
var-length p x (some i) = one-length 0x59 i

-- ---- the term that the definitions are for

module _ (b s : List ℕ) (p q : ℕ) where
  -- one whose record's length does not depend on what is in view
  pub under-own : (r : ℕ) → ((u : Term) → TermAt b u q → OwnWidth u r) → WidthUnder b s p q r
  under-own r f vw k seen t h k' n al =
      let i = under vw.top t (env_of vw b s k) n al in
      f (body_of t) k' vw.top i.env i.num al ∙ ap (λ (x : Rec). length (rec_bytes 2 x)) (sym i.same)

  pub under-var : (r : ℕ) → get_or b q 0 ≡ 0xA7 → WidthNamed b s q 0 r → WidthUnder b s p q r
  unfolding term sought
  under-var r e f vw k seen t h k' n al =
      let c : Top = vw.top in
      let env : Env = env_of vw b s k in
      let i = under c t env n al in
      on-var b q (λ (u : Term). r ≡ length (rec_bytes 2 (term c u i.env i.num al).self)) e
      (λ l.
      f vw k seen
      ∙ (ap var_width (sym (grown-variable c (defined_by t) env i.env (text_of b q) i.grown))
      ∙ sym (var-length q (error_at c u_var (text_place q) (text_of b q)) (variable c (text_of b q) i.env))))
      (body_of t) k'
      ∙ ap (λ (x : Rec). length (rec_bytes 2 x)) (sym i.same)

  pub under-break : (r : ℕ) → get_or b q 0 ≡ 0xA5 → WidthNamed b s q 1 r → WidthUnder b s p q r
  unfolding term sought
  under-break r e f vw k seen t h k' n al =
      let c : Top = vw.top in
      let env : Env = env_of vw b s k in
      let i = under c t env n al in
      on-break b q (λ (u : Term). r ≡ length (rec_bytes 2 (term c u i.env i.num al).self)) e
      (λ l.
      f vw k seen
      ∙ (ap var_width (sym (i.grown.labels (text_of b q)))
      ∙ sym (var-length q (error_at c u_label (text_place q) (text_of b q)) (find_label (text_of b q) i.env))))
      (body_of t) k'
      ∙ ap (λ (x : Rec). length (rec_bytes 2 x)) (sym i.same)

-- ---- calls

pub record CallHere (b : List ℕ) (q : ℕ) : Type 0 where
  pub args : Terms
  pub at : CallAt b q args

pub call-here : (b : List ℕ) (q : ℕ) (u : Term) → get_or b q 0 ≡ 0xA8 → TermAt b u q → CallHere b q
call-here b q u e h = on_call b q (λ (u : Term). CallHere b q) e (λ ts k. record { args = ts; at = k }) u h

-- the arguments, counted
abbrev pub Counts : List ℕ → ℕ → ℕ → ℕ → Type 0
Counts b z y a = (rs : Roses) → Row b rs z y → (a ≡ many rs) × (z + 3 * a ≤ y)

pub count-args : (b : List ℕ) (q : ℕ) (ts : Terms) → CallAt b q ts → (z y a : ℕ) → z ≡ end_of b (q + 3) → y ≡ end_of b q → Counts b z y a → (a ≡ arity ts) × (z + 3 * a ≤ end_of b q)
count-args b q ts h z y a ez ey f =
    let w = f (f_terms ts rnil)
    (subst (λ (i : ℕ). Row b (f_terms ts rnil) i y) (sym ez) (subst (λ (i : ℕ). Row b (f_terms ts rnil) (end_of b (q + 3)) i) (sym ey) h.args)) in
    (w.0 ∙ terms-many ts, omega (arith, w.1, ey))

pub call-members : (b : List ℕ) (q : ℕ) → CallHere b q → (z y : ℕ) → z ≡ end_of b (q + 3) → y ≡ end_of b q → (y ≤ length b) × ((rs : Roses) × Row b rs z y)
call-members b q h z y ez ey = (
  omega (arith, h.at.fits, ey),
  (f_terms h.args rnil, subst (λ (i : ℕ). Row b (f_terms h.args rnil) i y) (sym ez) (subst (λ (i : ℕ). Row b (f_terms h.args rnil) (end_of b (q + 3)) i) (sym ey) h.at.args)),
)

pub call-most : (b : List ℕ) (q : ℕ) → CallHere b q → (z y a : ℕ) → z ≡ end_of b (q + 3) → y ≡ end_of b q → Counts b z y a → (10 + 3 * a + q ≤ end_of b q + 8) × (end_of b q ≤ length b)
call-most b q h z y a ez ey f =
    let w = count-args b q h.args h.at z y a ez ey f in
    (omega (arith, w.1, ez), h.at.fits)

width-most : (k a : ℕ) → call_width k a ≤ 10 + 3 * a
unfolding call_width
width-most k a = first (ltb k 2) (eqb k 2) (eqb k 6)
  where
    first : (t u v : Bool) → cond t 3 (cond u 5 (cond v (7 + 3 * a) (10 + 3 * a))) ≤ 10 + 3 * a
    first true u v = omega arith
    first false true v = omega arith
    first false false true = omega arith
    first false false false = omega arith

pub call-room : (b : List ℕ) (q : ℕ) → CallHere b q → (z y a k r : ℕ) → z ≡ end_of b (q + 3) → y ≡ end_of b q → Counts b z y a → r ≡ call_width k a → r + q ≤ end_of b q + 8
call-room b q h z y a k r ez ey f e = omega (arith, (call-most b q h z y a ez ey f).0, width-most k a, e)

module _ (b s : List ℕ) (p q : ℕ) (tag : get_or b q 0 ≡ 0xA8) (z y a : ℕ) (ez : z ≡ end_of b (q + 3)) (ey : y ≡ end_of b q) (counts : Counts b z y a) (x : Text) (ex : x ≡ text_of b (q + 3)) where
  -- the record of a call among the rows that the definitions push
  among : (w : ℕ) (vw : View) (k : ℕ) (t : Term) → TermAt b (body_of t) q
      → ((e' : Env) → Grown (defined_by t) (env_of vw b s k) e' → HasArity (meant vw.top (text_of b (q + 3)) (text_place (q + 3)) a e').found a
      × (found_width (meant vw.top (text_of b (q + 3)) (text_place (q + 3)) a e').found a ≡ w))
      → WidthIs vw b s k t w
  unfolding term called
  among w vw k t h f n al =
      let c : Top = vw.top in
      let i = under c t (env_of vw b s k) n al in
      on_call b q (λ (u : Term). w ≡ length (rec_bytes 2 (term c u i.env i.num al).self)) tag
      (λ ts l.
      let e = (count-args b q ts l z y a ez ey counts).0 in
      let m = meant c (text_of b (q + 3)) (text_place (q + 3)) (arity ts) i.env in
      let g = subst (λ (j : ℕ). HasArity (meant c (text_of b (q + 3)) (text_place (q + 3)) j i.env).found j
      × (found_width (meant c (text_of b (q + 3)) (text_place (q + 3)) j i.env).found j ≡ w)) e (f i.env i.grown) in
      sym (call_length q (count i.env) al (args c ts i.env i.num) m.missing m.found (arity ts) (args-made c ts i.env i.num) g.0 ∙ g.1))
      (body_of t) h
      ∙ ap (λ (x : Rec). length (rec_bytes 2 x)) (sym i.same)

  -- one of the definitions
  pub under-owned : (r : Bool) → Owns b p x a r → r ≡ true → WidthUnder b s p q (10 + 3 * a)
  unfolding HasArity found_width
  under-owned r o e vw k seen t h k' =
      let d : own_call (defined_by t) (text_of b (q + 3)) a ≡ true = subst (λ (y : Text). own_call (defined_by t) y a ≡ true) ex (sym (o t h) ∙ e) in
      among (10 + 3 * a) vw k t k'
      (λ e' g.
      let w = grown-own vw.top (defined_by t) (env_of vw b s k) e' (text_of b (q + 3)) (text_place (q + 3)) a g d in
      (subst (λ (f : Found). HasArity f a) (sym w.1) w.2, ap (λ (f : Found). found_width f a) w.1))

  -- any other filter
  pub under-called : (r : Bool) → Owns b p x a r → r ≡ false → (at : ℕ) → at ≡ q + 6 → (f : Hit.Found) → Means b s x at a f → (w : ℕ) → w ≡ call_width f.kind a → WidthUnder b s p q w
  under-called r o e at ea f m w ew vw k seen t h k' =
      let c : Top = vw.top in
      let env : Env = env_of vw b s k in
      let d : own_call (defined_by t) (text_of b (q + 3)) a ≡ false = subst (λ (y : Text). own_call (defined_by t) y a ≡ false) ex (sym (o t h) ∙ e) in
      let m' : Means b s (text_of b (q + 3)) (text_place (q + 3)) a f = subst (λ (i : ℕ). Means b s (text_of b (q + 3)) i a f) (ea ∙ sym (six q)) (subst (λ (y : Text). Means b s y at a f) ex m) in
      let u = meant c (text_of b (q + 3)) (text_place (q + 3)) a env in
      let is : FoundIs u.found u.missing b s (outer vw) a f = m' vw k seen in
      let wide : call_width f.kind a ≡ found_width u.found a = found-width u.found u.missing b s (outer vw) a f (missing-kind c (text_of b (q + 3)) (text_place (q + 3)) a env) is in
      among w vw k t k'
      (λ e' g.
      let v = grown-other c (defined_by t) env e' (text_of b (q + 3)) (text_place (q + 3)) a g d in
      (subst (λ (f : Found). HasArity f a) (sym v) (found-arity u.found u.missing b s (outer vw) a f is), ap (λ (f : Found). found_width f a) v ∙ (sym wide ∙ sym ew)))

-- ---- by tag

module _ (b : List ℕ) (q : ℕ) where
  pub id-wide : get_or b q 0 ≡ 0xA0 → (u : Term) → TermAt b u q → OwnWidth u 3
  id-wide e u h = on-id b q (λ (u : Term). OwnWidth u 3) e (λ k. own-id q) u h

  pub recurse-wide : get_or b q 0 ≡ 0xA1 → (u : Term) → TermAt b u q → OwnWidth u 3
  recurse-wide e u h = on-recurse b q (λ (u : Term). OwnWidth u 3) e (λ k. own-recurse q) u h

  pub arr-wide : get_or b q 0 ≡ 0xA2 → (u : Term) → TermAt b u q → OwnWidth u 5
  arr-wide e u h = on-arr b q (λ (u : Term). OwnWidth u 5) e (λ o k. own-arr q o) u h

  pub neg-wide : get_or b q 0 ≡ 0xA3 → (u : Term) → TermAt b u q → OwnWidth u 5
  neg-wide e u h = on-neg b q (λ (u : Term). OwnWidth u 5) e (λ t k. own-neg q t) u h

  pub label-wide : get_or b q 0 ≡ 0xA4 → (u : Term) → TermAt b u q → OwnWidth u 5
  label-wide e u h = on-label b q (λ (u : Term). OwnWidth u 5) e (λ t k. own-label q (name_at b (q + 3)) t) u h

  pub ite-wide : get_or b q 0 ≡ 0xA6 → (u : Term) → TermAt b u q → OwnWidth u 9
  ite-wide e u h = on-ite b q (λ (u : Term). OwnWidth u 9) e (λ t v bs k. own-ite q (q + 3) t v bs) u h

  pub num-wide : (r : ℕ) → r ≡ num_width (text_of b q) → get_or b q 0 ≡ 0xAA → (u : Term) → TermAt b u q → OwnWidth u r
  num-wide r f e u h = on-num b q (λ (u : Term). OwnWidth u r) e (λ k. subst (λ (w : ℕ). OwnWidth (t_num q (text_of b q)) w) (sym f) (own-num q (text_of b q))) u h

  pub try-wide : get_or b q 0 ≡ 0xAB → (u : Term) → TermAt b u q → OwnWidth u 7
  try-wide e u h = on-try b q (λ (u : Term). OwnWidth u 7) e (λ t o k. own-try q t o) u h

  pub fold-wide : (r : Fold) → FoldOf b q r → get_or b q 0 ≡ 0xAC → (u : Term) → TermAt b u q → OwnWidth u r.w
  fold-wide r f e u h =
      on-fold b q (λ (u : Term). OwnWidth u r.w) e
      (λ t x ts k.
      let g = f.is t x ts k in
      let v : r.w ≡ fold_width (fold_kind (text_of b (q + 3)) (arity ts)) (pat_width x) = g.1 ∙ ap (λ (i : ℕ). fold_width i (pat_width x)) (f.kind ∙ ap (fold_kind (text_of b (q + 3))) g.0) in
      subst (λ (w : ℕ). OwnWidth (t_fold q (name_at b (q + 3)) t x ts) w) (sym v) (own-fold q (name_at b (q + 3)) t x ts)) u h

  pub obj-wide : (r z : ℕ) → z ≡ end_of b q → ((es : Entries) → Row b (f_entries es rnil) (q + 3) z → r ≡ entries_width es) → get_or b q 0 ≡ 0xB0 → (u : Term) → TermAt b u q → OwnWidth u r
  obj-wide r z ez f e u h =
      on-obj b q (λ (u : Term). OwnWidth u r) e
      (λ es k. subst (λ (w : ℕ). OwnWidth (t_obj q es) w) (sym (f es (subst (λ (i : ℕ). Row b (f_entries es rnil) (q + 3) i) (sym ez) k.entries))) (own-obj q es)) u h

  pub obj-entries : get_or b q 0 ≡ 0xB0 → (u : Term) → TermAt b u q → (z : ℕ) → z ≡ end_of b q → (es : Entries) × Row b (f_entries es rnil) (q + 3) z
  obj-entries e u h z ez = on-obj b q (λ (u : Term). (es : Entries) × Row b (f_entries es rnil) (q + 3) z) e (λ es k. (es, subst (λ (i : ℕ). Row b (f_entries es rnil) (q + 3) i) (sym ez) k.entries)) u h

  -- A0 or A1, and A2 to A4
  pub two-wide : 0xA0 ≤ get_or b q 0 → get_or b q 0 < 0xA2 → (u : Term) → TermAt b u q → OwnWidth u 3
  two-wide l m = pick (ltb (get_or b q 0) 0xA1) refl
    where
      pick : (t : Bool) → ltb (get_or b q 0) 0xA1 ≡ t → (u : Term) → TermAt b u q → OwnWidth u 3
      pick true e = id-wide (omega (arith, l, ltb-true (get_or b q 0) 0xA1 e))
      pick false e = recurse-wide (omega (arith, m, ltb-false (get_or b q 0) 0xA1 e))

  pub three-wide : 0xA2 ≤ get_or b q 0 → get_or b q 0 < 0xA5 → (u : Term) → TermAt b u q → OwnWidth u 5
  three-wide l m = pick (ltb (get_or b q 0) 0xA3) (ltb (get_or b q 0) 0xA4) refl refl
    where
      pick : (t v : Bool) → ltb (get_or b q 0) 0xA3 ≡ t → ltb (get_or b q 0) 0xA4 ≡ v → (u : Term) → TermAt b u q → OwnWidth u 5
      pick true v e f = arr-wide (omega (arith, l, ltb-true (get_or b q 0) 0xA3 e))
      pick false true e f = neg-wide (omega (arith, ltb-false (get_or b q 0) 0xA3 e, ltb-true (get_or b q 0) 0xA4 f))
      pick false false e f = label-wide (omega (arith, m, ltb-false (get_or b q 0) 0xA4 f))

up : (n t : ℕ) → n ≤ t → (t ≡ n → ⊥) → suc n ≤ t
up n t l h = go (eq-or-lt_of_le l)
  where
    go : (n ≡ t) ⊎ (n < t) → suc n ≤ t
    go (inl e) = absurd (h (sym e))
    go (inr w) = w

-- the tag that is left
pub last-tag : (t : ℕ) → t ≤ 0xB0 → 0xA5 ≤ t → (t ≡ 0xA5 → ⊥) → (t ≡ 0xA6 → ⊥) → (t ≡ 0xA7 → ⊥) → (t ≡ 0xA8 → ⊥) → (t ≡ 0xA9 → ⊥) → (t ≡ 0xAA → ⊥) → (t ≡ 0xAB → ⊥) → (t ≡ 0xAC → ⊥)
    → (t ≡ 0xAD → ⊥) → (t ≡ 0xAE → ⊥) → (t ≡ 0xAF → ⊥) → t ≡ 0xB0
last-tag t h l n5 n6 n7 n8 n9 n_a n_b n_c n_d n_e n_f =
    let w = up 0xAF t (up 0xAE t (up 0xAD t (up 0xAC t (up 0xAB t (up 0xAA t (up 0xA9 t (up 0xA8 t (up 0xA7 t (up 0xA6 t (up 0xA5 t l n5) n6) n7) n8) n9) n_a) n_b) n_c) n_d) n_e) n_f in
    last h w
  where
    last : t ≤ 0xB0 → 0xB0 ≤ t → t ≡ 0xB0
    last a c = omega arith

-- ---- the whole

pub width-at : (b s : List ℕ) (p q r : ℕ) → ((t : Term) → TermAt b t p → TermAt b (body_of t) q) → WidthUnder b s p q r → WidthAt b s p r
width-at b s p q r f g vw k seen t h = g vw k seen t h (f t h)
