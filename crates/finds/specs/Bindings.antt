-- Rows one by one: what binding each is, and which of them a variable or a label picks. Assumes nothing.
use Prim.Native.Nat.{ℕ, zero, suc, ◌+◌, ◌*◌, ◌≤◌, ◌<◌}
use native.Mathlib.Omega.{arith}
use Rattle.std.proofs.Math.Nat.{add-sub_cancel_left}
use Rattle.std.specs.Prelude.{◌≡◌, true, false, cond, ◌&&◌, eqb, length, get_or}
use Rattle.std.proofs.Math.Path.{refl, subst}
use Rattle.std.proofs.Common.{sym, ◌∙◌, ne_eqb, lt-ltb, le-ltb}
use Rattle.std.proofs.Math.Bool.{Bool}
use Rattle.std.proofs.Math.Option.{Option, none, some, map}
use mathlib.Core.List.{List, [], ◌∷◌, ◌++◌}
use Rattle.std.proofs.Math.Dec.{eqb_refl}
use Rattle.tree.specs.Rose.{text_of}
use Rattle.rules.specs.Names.{Text, same}
use Rattle.rules.specs.Lists.{Every}
use Rattle.rules.specs.Rows.{var, label, arg, filter, Env, count, find_var, find_label}
use Rattle.rules.specs.Filters.{or_else}
use Rattle.reads.specs.Bytes.{name_at}
use Rattle.cells.specs.Cells.{View, outer, Good, Local, class_of, kind_at, arity_at, place_at, before_at, filter_at, row_at, rows_of, bound}
use Rattle.finds.specs.Means.{first_of, Readable, HitIs}
use Rattle.finds.specs.Keys.{T_true, fits_row}
use Rattle.finds.specs.Firsts.{first-none, first_some, first-cons, first_rest}

-- ---- a row by its kind

pub row-var : (b s : List ℕ) (m j : ℕ) → kind_at s j ≡ 0 → row_at b s m j ≡ var (name_at b (place_at s j)) ∷ []
unfolding row_at
row-var b s m j e = rw e

pub row_label : (b s : List ℕ) (m j : ℕ) → kind_at s j ≡ 1 → row_at b s m j ≡ label (name_at b (place_at s j)) ∷ []
unfolding row_at
row_label b s m j e = rw e

pub row-arg : (b s : List ℕ) (m j : ℕ) → kind_at s j ≡ 2 → row_at b s m j ≡ arg (name_at b (place_at s j)) ∷ []
unfolding row_at
row-arg b s m j e = rw e

pub row-parent : (b s : List ℕ) (m j : ℕ) → kind_at s j ≡ 3 → row_at b s m j ≡ filter (filter_at b s m j) ∷ []
unfolding row_at
row-parent b s m j e = rw e

pub row-sibling : (b s : List ℕ) (m j : ℕ) → kind_at s j ≡ 4 → row_at b s m j ≡ filter (filter_at b s m j) ∷ []
unfolding row_at
row-sibling b s m j e = rw e

pub row-none : (b s : List ℕ) (m j : ℕ) → 5 ≤ kind_at s j → row_at b s m j ≡ []
unfolding row_at
row-none b s m j h =
    simp (ne_eqb (kind_at s j) 0 (λ q. omega arith), ne_eqb (kind_at s j) 1 (λ q. omega arith), ne_eqb (kind_at s j) 2 (λ q. omega arith), le-ltb (kind_at s j) 5 h)

pub bound-in : (s : List ℕ) (lo n : ℕ) → kind_at s (lo + n) < 6 → bound s lo (suc n) ≡ (lo + n) ∷ bound s lo n
unfolding bound
bound-in s lo n h = rw (lt-ltb (kind_at s (lo + n)) 6 h)

pub bound-out : (s : List ℕ) (lo n : ℕ) → 6 ≤ kind_at s (lo + n) → bound s lo (suc n) ≡ bound s lo n
unfolding bound
bound-out s lo n h = rw (le-ltb (kind_at s (lo + n)) 6 h)

pub by_kind : (P : ℕ → Type 0) → P 0 → P 1 → P 2 → P 3 → P 4 → P 5 → ((k : ℕ) → 6 ≤ k → P k) → (k : ℕ) → P k
by_kind P a b c d e f g zero = a
by_kind P a b c d e f g (suc zero) = b
by_kind P a b c d e f g (suc (suc zero)) = c
by_kind P a b c d e f g (suc (suc (suc zero))) = d
by_kind P a b c d e f g (suc (suc (suc (suc zero)))) = e
by_kind P a b c d e f g (suc (suc (suc (suc (suc zero))))) = f
by_kind P a b c d e f g (suc (suc (suc (suc (suc (suc k)))))) = g (suc (suc (suc (suc (suc (suc k)))))) (omega arith)

-- what row j has to be compared by
pub fits-other : (b s : List ℕ) (x : Text) (class a j kind : ℕ) → kind_at s j ≡ kind → eqb (class_of kind) class ≡ false → fits_row b s x class a j ≡ false
unfolding fits_row
fits-other b s x class a j kind e q = rw (e, q)

pub fits-text : (b s : List ℕ) (x : Text) (class a j kind : ℕ) → kind_at s j ≡ kind → class_of kind ≡ class → fits_row b s x class a j ≡ (eqb (arity_at s j) a && same x (text_of b (place_at s j)))
unfolding fits_row
fits-text b s x class a j kind e q = rw (e, q, T_true (eqb class class) (eqb_refl class))

pub fits-plain : (b s : List ℕ) (x : Text) (class j kind : ℕ) → kind_at s j ≡ kind → class_of kind ≡ class → arity_at s j ≡ 0 → fits_row b s x class 0 j ≡ same x (text_of b (place_at s j))
fits-plain b s x class j kind e q z = fits-text b s x class 0 j kind e q ∙ rw z

-- ---- what was found, by the bindings in view

abbrev pub Legible : ℕ → List ℕ → List ℕ → ℕ → Type 0
Legible m b s j = Good m b s j × (4 * j + 4 ≤ length s)

pub readable : (m : ℕ) (b s : List ℕ) (j : ℕ) → Legible m b s j → Readable b s j
readable m b s j g = record { within = g.1; name = g.0.name; params = g.0.params }

-- where c bindings are in view
unfoldable pub HitAt : Option ℕ → List ℕ → List ℕ → ℕ → ℕ → Type 0
HitAt none b s c r = r ≡ 0
HitAt (some i) b s c r = (0 < r) × Readable b s r × (c ≡ before_at s r + i + 1)

pub hit-is : (o : Option ℕ) (b s : List ℕ) (c r : ℕ) → get_or s 1 0 ≡ c → HitAt o b s c r → HitIs o b s r
unfolding HitAt HitIs
hit-is none b s c r e h = h
hit-is (some i) b s c r e h = (h.0, h.1, e ∙ h.2)

pub hit-none : (b s : List ℕ) (c r : ℕ) → r ≡ 0 → HitAt none b s c r
unfolding HitAt
hit-none b s c r e = e

pub hit-append : (o o' : Option ℕ) (b s : List ℕ) (c : ℕ) (f : ℕ → Bool) (xs ys : List ℕ) → Every (λ (j : ℕ). 0 < j) xs
    → HitAt o b s c (first_of f xs) → HitAt o' b s c (first_of f ys) → HitAt (or_else o o') b s c (first_of f (xs ++ ys))
unfolding HitAt
hit-append none o' b s c f xs ys p h k = subst (λ (r : ℕ). HitAt o' b s c r) (sym (first-none f xs ys p h)) k
hit-append (some i) o' b s c f xs ys p h k = subst (λ (r : ℕ). HitAt (some i) b s c r) (sym (first_some f xs ys h.0)) h

-- d bindings more
pub hit_later : (o : Option ℕ) (b s : List ℕ) (c c' d r : ℕ) (g : ℕ → ℕ) → ((i : ℕ) → g i ≡ d + i) → c' ≡ d + c → HitAt o b s c r → HitAt (map g o) b s c' r
unfolding HitAt
hit_later none b s c c' d r g e q h = h
hit_later (some i) b s c c' d r g e q h = (h.0, h.1, omega (arith, h.2, e i))

-- a row that may match, and what comes after it
pub hit-here : (t : Bool) (o : Option ℕ) (b s : List ℕ) (c c' j : ℕ) (f : ℕ → Bool) (js : List ℕ) → f j ≡ t → 0 < j → Readable b s j → before_at s j ≡ c → c' ≡ suc c
    → HitAt o b s c (first_of f js) → HitAt (cond t (some 0) (map suc o)) b s c' (first_of f (j ∷ js))
unfolding HitAt
hit-here true o b s c c' j f js e p w u q h =
    subst (λ (r : ℕ). HitAt (some 0) b s c' r) (sym (first-cons f j js e)) (p, w, omega (arith, u))
hit-here false o b s c c' j f js e p w u q h =
    subst (λ (r : ℕ). HitAt (map suc o) b s c' r) (sym (first_rest f j js e)) (hit_later o b s c c' 1 (first_of f js) suc (λ i. omega arith) (omega arith) h)

pub hit-past : (o : Option ℕ) (b s : List ℕ) (c c' j : ℕ) (f : ℕ → Bool) (js : List ℕ) → f j ≡ false → c' ≡ suc c
    → HitAt o b s c (first_of f js) → HitAt (map suc o) b s c' (first_of f (j ∷ js))
hit-past o b s c c' j f js e q h =
    subst (λ (r : ℕ). HitAt (map suc o) b s c' r) (sym (first_rest f j js e)) (hit_later o b s c c' 1 (first_of f js) suc (λ i. omega arith) (omega arith) h)

pub hit_same : (o : Option ℕ) (b s : List ℕ) (c j : ℕ) (f : ℕ → Bool) (js : List ℕ) → f j ≡ false → HitAt o b s c (first_of f js) → HitAt o b s c (first_of f (j ∷ js))
hit_same o b s c j f js e h = subst (λ (r : ℕ). HitAt o b s c r) (sym (first_rest f j js e)) h

-- ---- locals

module _ (vw : View) (b s : List ℕ) where
  -- the n first of the locals
  abbrev pub firsts : ℕ → Env
  firsts n = rows_of b s (outer vw) vw.locals n

  pub firsts-before : (n : ℕ) → Local vw b s (vw.locals + n) → kind_at s (vw.locals + n) < 3 → before_at s (vw.locals + n) ≡ outer vw + count (firsts n)
  firsts-before n l k = subst (λ (i : ℕ). before_at s (vw.locals + n) ≡ outer vw + count (firsts i)) (add-sub_cancel_left vw.locals n) (l.counts k)

  pub firsts-defined : (n : ℕ) → Local vw b s (vw.locals + n) → 3 ≤ kind_at s (vw.locals + n) → kind_at s (vw.locals + n) < 5
      → (outer vw ≤ before_at s (vw.locals + n)) × (before_at s (vw.locals + n) ≤ outer vw + count (firsts n))
  firsts-defined n l h k =
      subst (λ (i : ℕ). (outer vw ≤ before_at s (vw.locals + n)) × (before_at s (vw.locals + n) ≤ outer vw + count (firsts i)))
      (add-sub_cancel_left vw.locals n) (l.defined h k)

  abbrev pub Locals : ℕ → Type 0
  Locals n = (j : ℕ) → vw.locals ≤ j → j < vw.locals + n → Local vw b s j × (kind_at s j < 6 → Legible vw.mask b s j)

  less : (n : ℕ) → Locals (suc n) → Locals n
  less n h j p q = h j p (omega arith)

  pub firsts-row : (n : ℕ) (row : Env) → row_at b s (outer vw) (vw.locals + n) ≡ row → firsts (suc n) ≡ row ++ firsts n
  unfolding rows_of
  firsts-row n row e = rw e

  module _ (x : Text) (pos : 0 < vw.locals) where
    VarAt : ℕ → Type 0
    VarAt n = HitAt (find_var x (firsts n)) b s (outer vw + count (firsts n)) (first_of (fits_row b s x 0 0) (bound s vw.locals n))

    LabelAt : ℕ → Type 0
    LabelAt n = HitAt (find_label x (firsts n)) b s (outer vw + count (firsts n)) (first_of (fits_row b s x 1 0) (bound s vw.locals n))

    var-as : (n : ℕ) (row : Env) (js : List ℕ) → row_at b s (outer vw) (vw.locals + n) ≡ row → bound s vw.locals (suc n) ≡ js
        → HitAt (find_var x (row ++ firsts n)) b s (outer vw + count (row ++ firsts n)) (first_of (fits_row b s x 0 0) js) → VarAt (suc n)
    unfolding VarAt
    var-as n row js e q h =
        subst (λ (z : Env). HitAt (find_var x z) b s (outer vw + count z) (first_of (fits_row b s x 0 0) (bound s vw.locals (suc n)))) (sym (firsts-row n row e))
        (subst (λ (z : List ℕ). HitAt (find_var x (row ++ firsts n)) b s (outer vw + count (row ++ firsts n)) (first_of (fits_row b s x 0 0) z)) (sym q) h)

    label-as : (n : ℕ) (row : Env) (js : List ℕ) → row_at b s (outer vw) (vw.locals + n) ≡ row → bound s vw.locals (suc n) ≡ js
        → HitAt (find_label x (row ++ firsts n)) b s (outer vw + count (row ++ firsts n)) (first_of (fits_row b s x 1 0) js) → LabelAt (suc n)
    unfolding LabelAt
    label-as n row js e q h =
        subst (λ (z : Env). HitAt (find_label x z) b s (outer vw + count z) (first_of (fits_row b s x 1 0) (bound s vw.locals (suc n)))) (sym (firsts-row n row e))
        (subst (λ (z : List ℕ). HitAt (find_label x (row ++ firsts n)) b s (outer vw + count (row ++ firsts n)) (first_of (fits_row b s x 1 0) z)) (sym q) h)

    var-step : (n : ℕ) → Local vw b s (vw.locals + n) → (kind_at s (vw.locals + n) < 6 → Legible vw.mask b s (vw.locals + n)) → VarAt n → VarAt (suc n)
    unfolding VarAt
    var-step n l g h =
        let j : ℕ = vw.locals + n in
        let c : ℕ = outer vw + count (firsts n) in
        let q : outer vw + suc (count (firsts n)) ≡ suc c = omega arith in
        let o : Option ℕ = find_var x (firsts n) in
        let js : List ℕ = bound s vw.locals n in
        let f : ℕ → Bool = fits_row b s x 0 0 in
        by_kind (λ (k : ℕ). kind_at s (vw.locals + n) ≡ k → VarAt (suc n))
        (λ e. let w = g (omega arith) in
        var-as n (var (name_at b (place_at s j)) ∷ []) (j ∷ js) (row-var b s (outer vw) j e) (bound-in s vw.locals n (omega arith))
        (hit-here (same x (text_of b (place_at s j))) o b s c (outer vw + suc (count (firsts n))) j f js
        (fits-plain b s x 0 j 0 e refl (w.0.plain (omega arith))) (omega arith) (readable vw.mask b s j w) (firsts-before n l (omega arith)) q h))
        (λ e. var-as n (label (name_at b (place_at s j)) ∷ []) (j ∷ js) (row_label b s (outer vw) j e) (bound-in s vw.locals n (omega arith))
        (hit-past o b s c (outer vw + suc (count (firsts n))) j f js (fits-other b s x 0 0 j 1 e refl) q h))
        (λ e. var-as n (arg (name_at b (place_at s j)) ∷ []) (j ∷ js) (row-arg b s (outer vw) j e) (bound-in s vw.locals n (omega arith))
        (hit-past o b s c (outer vw + suc (count (firsts n))) j f js (fits-other b s x 0 0 j 2 e refl) q h))
        (λ e. var-as n (filter (filter_at b s (outer vw) j) ∷ []) (j ∷ js) (row-parent b s (outer vw) j e) (bound-in s vw.locals n (omega arith))
        (hit_same o b s c j f js (fits-other b s x 0 0 j 3 e refl) h))
        (λ e. var-as n (filter (filter_at b s (outer vw) j) ∷ []) (j ∷ js) (row-sibling b s (outer vw) j e) (bound-in s vw.locals n (omega arith))
        (hit_same o b s c j f js (fits-other b s x 0 0 j 4 e refl) h))
        (λ e. absurd (l.kinds e))
        (λ k p e. var-as n [] js (row-none b s (outer vw) j (omega arith)) (bound-out s vw.locals n (omega arith)) h)
        (kind_at s (vw.locals + n)) refl

    label-step : (n : ℕ) → Local vw b s (vw.locals + n) → (kind_at s (vw.locals + n) < 6 → Legible vw.mask b s (vw.locals + n)) → LabelAt n → LabelAt (suc n)
    unfolding LabelAt
    label-step n l g h =
        let j : ℕ = vw.locals + n in
        let c : ℕ = outer vw + count (firsts n) in
        let q : outer vw + suc (count (firsts n)) ≡ suc c = omega arith in
        let o : Option ℕ = find_label x (firsts n) in
        let js : List ℕ = bound s vw.locals n in
        let f : ℕ → Bool = fits_row b s x 1 0 in
        by_kind (λ (k : ℕ). kind_at s (vw.locals + n) ≡ k → LabelAt (suc n))
        (λ e. label-as n (var (name_at b (place_at s j)) ∷ []) (j ∷ js) (row-var b s (outer vw) j e) (bound-in s vw.locals n (omega arith))
        (hit-past o b s c (outer vw + suc (count (firsts n))) j f js (fits-other b s x 1 0 j 0 e refl) q h))
        (λ e. let w = g (omega arith) in
        label-as n (label (name_at b (place_at s j)) ∷ []) (j ∷ js) (row_label b s (outer vw) j e) (bound-in s vw.locals n (omega arith))
        (hit-here (same x (text_of b (place_at s j))) o b s c (outer vw + suc (count (firsts n))) j f js
        (fits-plain b s x 1 j 1 e refl (w.0.plain (omega arith))) (omega arith) (readable vw.mask b s j w) (firsts-before n l (omega arith)) q h))
        (λ e. label-as n (arg (name_at b (place_at s j)) ∷ []) (j ∷ js) (row-arg b s (outer vw) j e) (bound-in s vw.locals n (omega arith))
        (hit-past o b s c (outer vw + suc (count (firsts n))) j f js (fits-other b s x 1 0 j 2 e refl) q h))
        (λ e. label-as n (filter (filter_at b s (outer vw) j) ∷ []) (j ∷ js) (row-parent b s (outer vw) j e) (bound-in s vw.locals n (omega arith))
        (hit_same o b s c j f js (fits-other b s x 1 0 j 3 e refl) h))
        (λ e. label-as n (filter (filter_at b s (outer vw) j) ∷ []) (j ∷ js) (row-sibling b s (outer vw) j e) (bound-in s vw.locals n (omega arith))
        (hit_same o b s c j f js (fits-other b s x 1 0 j 4 e refl) h))
        (λ e. absurd (l.kinds e))
        (λ k p e. label-as n [] js (row-none b s (outer vw) j (omega arith)) (bound-out s vw.locals n (omega arith)) h)
        (kind_at s (vw.locals + n)) refl

    -- "innermost local"
    pub locals-var : (n : ℕ) → Locals n
        → HitAt (find_var x (firsts n)) b s (outer vw + count (firsts n)) (first_of (fits_row b s x 0 0) (bound s vw.locals n))
    unfolding rows_of bound HitAt first_of VarAt
    locals-var zero h = refl
    locals-var (suc n) h = let w = h (vw.locals + n) (omega arith) (omega arith) in var-step n w.0 w.1 (locals-var n (less n h))

    -- "A break takes the innermost label of its name"
    pub locals-label : (n : ℕ) → Locals n
        → HitAt (find_label x (firsts n)) b s (outer vw + count (firsts n)) (first_of (fits_row b s x 1 0) (bound s vw.locals n))
    unfolding rows_of bound HitAt first_of LabelAt
    locals-label zero h = refl
    locals-label (suc n) h = let w = h (vw.locals + n) (omega arith) (omega arith) in label-step n w.0 w.1 (locals-label n (less n h))
