-- Which row a call means: locals, the definitions of a module, natives. Assumes nothing.
use Prim.Native.Nat.{ℕ, zero, suc, ◌+◌, ◌-◌, ◌≤◌, ◌<◌}
use native.Mathlib.Omega.{arith}
use Rattle.std.specs.Prelude.{◌≡◌, ◌⊎◌, true, false, cond, ◌&&◌, eqb, length, get_or}
use Rattle.std.proofs.Math.Path.{refl, subst}
use Rattle.std.proofs.Common.{sym, ap, ◌∙◌, inl, inr, eqb→eq}
use Rattle.std.proofs.Math.Bool.{Bool}
use Rattle.std.proofs.Math.Option.{Option, none, some}
use mathlib.Core.List.{List, [], ◌∷◌, ◌++◌}
use Rattle.tree.specs.Rose.{end_of, text_of}
use Rattle.tree.specs.Tree.{Name, Native}
use Rattle.rules.specs.Names.{Text, same}
use Rattle.rules.specs.Rows.{var, label, arg, filter, Env, count, Filter, filters}
use Rattle.rules.specs.Filters.{Found, nothing, argument, local, of_module, of_native, later, fits, find, definition, native_of}
use Rattle.reads.specs.Bytes.{name_at, names_of, word_of}
use Rattle.cells.specs.Cells.{View, outer, Local, Seen, Natives, class_of, key_of, kind_at, arity_at, place_at, number_at, before_at, filter_at, row_at, rows_of, env_of, bound, in_view}
use Rattle.finds.specs.Means.{first_of, matches, Readable}
use Rattle.finds.specs.Keys.{T-ext, true-T, eq-T, and_left, and_right, and_both, fits_row}
use Rattle.finds.specs.Firsts.{first-none, first_some, first-cons, first_rest}
use Rattle.finds.specs.Bindings.{row-var, row_label, row-arg, row-parent, row-sibling, row-none, bound-in, bound-out, by_kind, fits-other, fits-text, Legible, readable, firsts, firsts-before, firsts-defined, firsts-row, Locals}
use Rattle.finds.specs.Variables.{view-apart, seen-order, seen-locals, outer-legible, globals-unlike, imported-unlike, locals-positive, inner-positive, globals-positive, by_key}

pub names-length : (b : List ℕ) (n q : ℕ) → length (names_of b n q) ≡ n
unfolding names_of
names-length b zero q = refl
names-length b (suc n) q = ap suc (names-length b n (end_of b q))

-- the tests of the rules and of a row
turned : (a n : ℕ) (t : Bool) → (eqb n a && t) ≡ (t && eqb a n)
turned a n t =
    T-ext (eqb n a && t) (t && eqb a n)
    (λ h. and_both t (eqb a n) (and_right (eqb n a) t h) (eq-T a n (sym (eqb→eq n a (and_left (eqb n a) t h)))))
    (λ h. and_both (eqb n a) t (eq-T n a (sym (eqb→eq a n (and_right t (eqb a n) h)))) (and_left t (eqb a n) h))

fits-arg : (b s : List ℕ) (x : Text) (a j : ℕ) → kind_at s j ≡ 2 → arity_at s j ≡ 0 → fits_row b s x 2 a j ≡ (same x (text_of b (place_at s j)) && eqb a 0)
fits-arg b s x a j e z =
    fits-text b s x 2 a j 2 e refl
    ∙ (ap (λ (n : ℕ). eqb n a && same x (text_of b (place_at s j))) z ∙ turned a 0 (same x (text_of b (place_at s j))))

fits-params : (b s : List ℕ) (x : Text) (a j kind : ℕ) (ps : List Name) → kind_at s j ≡ kind → class_of kind ≡ 2 → names_of b (arity_at s j) (end_of b (place_at s j)) ≡ ps
    → fits_row b s x 2 a j ≡ (same x (text_of b (place_at s j)) && eqb a (length ps))
fits-params b s x a j kind ps e c q =
    fits-text b s x 2 a j kind e c
    ∙ (turned a (arity_at s j) (same x (text_of b (place_at s j)))
    ∙ ap (λ (n : ℕ). same x (text_of b (place_at s j)) && eqb a n) (sym (names-length b (arity_at s j) (end_of b (place_at s j))) ∙ ap length q))

-- what matches has the arity
fits-arity : (b s : List ℕ) (x : Text) (a j kind : ℕ) → kind_at s j ≡ kind → class_of kind ≡ 2 → fits_row b s x 2 a j ≡ true → arity_at s j ≡ a
fits-arity b s x a j kind e c h =
    eqb→eq (arity_at s j) a (and_left (eqb (arity_at s j) a) (same x (text_of b (place_at s j))) (true-T (eqb (arity_at s j) a && same x (text_of b (place_at s j))) (sym (fits-text b s x 2 a j kind e c) ∙ h)))

-- ---- locals

-- where c bindings are in view, m of them no locals
unfoldable pub LocalIs : Found → List ℕ → List ℕ → ℕ → ℕ → ℕ → ℕ → Type 0
LocalIs nothing b s m a c r = r ≡ 0
LocalIs (argument i) b s m a c r = (0 < r) × (kind_at s r ≡ 2) × Readable b s r × (c ≡ before_at s r + i + 1) × (a ≡ 0)
LocalIs (local d) b s m a c r =
    (0 < r) × ((kind_at s r ≡ 3) ⊎ (kind_at s r ≡ 4)) × Readable b s r × (filter_at b s m r ≡ d) × (arity_at s r ≡ a) × (m ≤ before_at s r) × (before_at s r ≤ c)
LocalIs (of_module d) b s m a c r = ⊥
LocalIs (of_native i ps) b s m a c r = ⊥

local-later : (o : Found) (b s : List ℕ) (m a c c' r : ℕ) → c' ≡ suc c → LocalIs o b s m a c r → LocalIs (later o) b s m a c' r
unfolding LocalIs
local-later nothing b s m a c c' r e h = h
local-later (argument i) b s m a c c' r e h = (h.0, h.1, h.2, omega (arith, h.3), h.4)
local-later (local d) b s m a c c' r e h = (h.0, h.1, h.2, h.3, h.4, h.5, omega (arith, h.6))
local-later (of_module d) b s m a c c' r e h = absurd h
local-later (of_native i ps) b s m a c c' r e h = absurd h

local-rest : (o : Found) (b s : List ℕ) (m a c j : ℕ) (f : ℕ → Bool) (js : List ℕ) → f j ≡ false → LocalIs o b s m a c (first_of f js) → LocalIs o b s m a c (first_of f (j ∷ js))
local-rest o b s m a c j f js e h = subst (λ (r : ℕ). LocalIs o b s m a c r) (sym (first_rest f j js e)) h

local-past : (o : Found) (b s : List ℕ) (m a c c' j : ℕ) (f : ℕ → Bool) (js : List ℕ) → f j ≡ false → c' ≡ suc c → LocalIs o b s m a c (first_of f js)
    → LocalIs (later o) b s m a c' (first_of f (j ∷ js))
local-past o b s m a c c' j f js e q h = local-rest (later o) b s m a c' j f js e (local-later o b s m a c c' (first_of f js) q h)

local-arg : (t u : Bool) (o : Found) (b s : List ℕ) (m a c c' j : ℕ) (f : ℕ → Bool) (js : List ℕ) → f j ≡ (t && u) → u ≡ eqb a 0 → 0 < j → kind_at s j ≡ 2 → Readable b s j
    → before_at s j ≡ c → c' ≡ suc c → LocalIs o b s m a c (first_of f js) → LocalIs (cond (t && u) (argument 0) (later o)) b s m a c' (first_of f (j ∷ js))
unfolding LocalIs
local-arg true true o b s m a c c' j f js e z p k w q v h =
    subst (λ (r : ℕ). LocalIs (argument 0) b s m a c' r) (sym (first-cons f j js e)) (p, k, w, omega (arith, q), eqb→eq a 0 (true-T (eqb a 0) (sym z)))
local-arg true false o b s m a c c' j f js e z p k w q v h = local-past o b s m a c c' j f js e v h
local-arg false u o b s m a c c' j f js e z p k w q v h = local-past o b s m a c c' j f js e v h

local-def : (t : Bool) (o : Found) (b s : List ℕ) (m a c j : ℕ) (f : ℕ → Bool) (js : List ℕ) → f j ≡ t → 0 < j → (kind_at s j ≡ 3) ⊎ (kind_at s j ≡ 4) → Readable b s j
    → (f j ≡ true → arity_at s j ≡ a) → m ≤ before_at s j → before_at s j ≤ c → LocalIs o b s m a c (first_of f js)
    → LocalIs (cond t (local (filter_at b s m j)) o) b s m a c (first_of f (j ∷ js))
unfolding LocalIs
local-def true o b s m a c j f js e p k w q u v h =
    subst (λ (r : ℕ). LocalIs (local (filter_at b s m j)) b s m a c r) (sym (first-cons f j js e)) (p, k, w, refl, q e, u, v)
local-def false o b s m a c j f js e p k w q u v h = local-rest o b s m a c j f js e h

module _ (vw : View) (b s : List ℕ) (x : Text) (a : ℕ) (pos : 0 < vw.locals) where
  FindAt : ℕ → Type 0
  FindAt n = LocalIs (find x a (firsts vw b s n)) b s (outer vw) a (outer vw + count (firsts vw b s n)) (first_of (fits_row b s x 2 a) (bound s vw.locals n))

  find-as : (n : ℕ) (row : Env) (js : List ℕ) → row_at b s (outer vw) (vw.locals + n) ≡ row → bound s vw.locals (suc n) ≡ js
      → LocalIs (find x a (row ++ firsts vw b s n)) b s (outer vw) a (outer vw + count (row ++ firsts vw b s n)) (first_of (fits_row b s x 2 a) js) → FindAt (suc n)
  unfolding FindAt
  find-as n row js e q h =
      subst (λ (z : Env). LocalIs (find x a z) b s (outer vw) a (outer vw + count z) (first_of (fits_row b s x 2 a) (bound s vw.locals (suc n)))) (sym (firsts-row vw b s n row e))
      (subst (λ (z : List ℕ). LocalIs (find x a (row ++ firsts vw b s n)) b s (outer vw) a (outer vw + count (row ++ firsts vw b s n)) (first_of (fits_row b s x 2 a) z)) (sym q) h)

  find-step : (n : ℕ) → Local vw b s (vw.locals + n) → (kind_at s (vw.locals + n) < 6 → Legible vw.mask b s (vw.locals + n)) → FindAt n → FindAt (suc n)
  unfolding FindAt
  find-step n l g h =
      let j : ℕ = vw.locals + n in
      let m : ℕ = outer vw in
      let c : ℕ = outer vw + count (firsts vw b s n) in
      let q : outer vw + suc (count (firsts vw b s n)) ≡ suc c = omega arith in
      let o : Found = find x a (firsts vw b s n) in
      let js : List ℕ = bound s vw.locals n in
      let f : ℕ → Bool = fits_row b s x 2 a in
      by_kind (λ (k : ℕ). kind_at s (vw.locals + n) ≡ k → FindAt (suc n))
      (λ e. find-as n (var (name_at b (place_at s j)) ∷ []) (j ∷ js) (row-var b s m j e) (bound-in s vw.locals n (omega arith))
      (local-past o b s m a c (outer vw + suc (count (firsts vw b s n))) j f js (fits-other b s x 2 a j 0 e refl) q h))
      (λ e. find-as n (label (name_at b (place_at s j)) ∷ []) (j ∷ js) (row_label b s m j e) (bound-in s vw.locals n (omega arith))
      (local-past o b s m a c (outer vw + suc (count (firsts vw b s n))) j f js (fits-other b s x 2 a j 1 e refl) q h))
      (λ e. let w = g (omega arith) in
      find-as n (arg (name_at b (place_at s j)) ∷ []) (j ∷ js) (row-arg b s m j e) (bound-in s vw.locals n (omega arith))
      (local-arg (same x (text_of b (place_at s j))) (eqb a 0) o b s m a c (outer vw + suc (count (firsts vw b s n))) j f js
      (fits-arg b s x a j e (w.0.plain (omega arith))) refl (omega arith) e (readable vw.mask b s j w) (firsts-before vw b s n l (omega arith)) q h))
      (λ e. let w = g (omega arith) in
      let u = firsts-defined vw b s n l (omega arith) (omega arith) in
      find-as n (filter (filter_at b s m j) ∷ []) (j ∷ js) (row-parent b s m j e) (bound-in s vw.locals n (omega arith))
      (local-def (fits x a (filter_at b s m j)) o b s m a c j f js (fits-params b s x a j 3 (names_of b (arity_at s j) (end_of b (place_at s j))) e refl refl) (omega arith) (inl e)
      (readable vw.mask b s j w) (fits-arity b s x a j 3 e refl) u.0 u.1 h))
      (λ e. let w = g (omega arith) in
      let u = firsts-defined vw b s n l (omega arith) (omega arith) in
      find-as n (filter (filter_at b s m j) ∷ []) (j ∷ js) (row-sibling b s m j e) (bound-in s vw.locals n (omega arith))
      (local-def (fits x a (filter_at b s m j)) o b s m a c j f js (fits-params b s x a j 4 (names_of b (arity_at s j) (end_of b (place_at s j))) e refl refl) (omega arith) (inr e)
      (readable vw.mask b s j w) (fits-arity b s x a j 4 e refl) u.0 u.1 h))
      (λ e. absurd (l.kinds e))
      (λ k p e. find-as n [] js (row-none b s m j (omega arith)) (bound-out s vw.locals n (omega arith)) h)
      (kind_at s (vw.locals + n)) refl

  -- "Filter by name and arity: innermost local"
  pub locals-find : (n : ℕ) → Locals vw b s n
      → LocalIs (find x a (firsts vw b s n)) b s (outer vw) a (outer vw + count (firsts vw b s n)) (first_of (fits_row b s x 2 a) (bound s vw.locals n))
  unfolding rows_of bound LocalIs first_of FindAt
  locals-find zero h = refl
  locals-find (suc n) h =
      let w = h (vw.locals + n) (omega arith) (omega arith) in find-step n w.0 w.1 (locals-find n (λ j p q. h j p (omega arith)))

-- ---- natives

unfoldable pub NativeIs : Found → List ℕ → List ℕ → ℕ → ℕ → Type 0
NativeIs nothing b s a r = r ≡ 0
NativeIs (argument i) b s a r = ⊥
NativeIs (local d) b s a r = ⊥
NativeIs (of_module d) b s a r = ⊥
NativeIs (of_native i ps) b s a r =
    (0 < r) × (kind_at s r ≡ 5) × Readable b s r × (number_at s r ≡ i) × (names_of b (arity_at s r) (end_of b (place_at s r)) ≡ ps) × (arity_at s r ≡ a)

native-here : (t : Bool) (o : Found) (b s : List ℕ) (a i j : ℕ) (ps : List Name) (f : ℕ → Bool) (js : List ℕ) → f j ≡ t → 0 < j → kind_at s j ≡ 5 → Readable b s j → number_at s j ≡ i
    → names_of b (arity_at s j) (end_of b (place_at s j)) ≡ ps → (f j ≡ true → arity_at s j ≡ a) → NativeIs o b s a (first_of f js)
    → NativeIs (cond t (of_native i ps) o) b s a (first_of f (j ∷ js))
unfolding NativeIs
native-here true o b s a i j ps f js e p k w n q v h =
    subst (λ (r : ℕ). NativeIs (of_native i ps) b s a r) (sym (first-cons f j js e)) (p, k, w, n, q, v e)
native-here false o b s a i j ps f js e p k w n q v h = subst (λ (r : ℕ). NativeIs o b s a r) (sym (first_rest f j js e)) h

-- "then natives, first one first"
pub natives-find : (m : ℕ) (b s : List ℕ) (x : Text) (a : ℕ) (vs : List Native) (lo n : ℕ) → 0 < lo → Natives b s (lo + length vs) n vs
    → ((j : ℕ) → lo ≤ j → j < lo + length vs → kind_at s j < 6 → Legible m b s j)
    → NativeIs (native_of x a n vs) b s a (first_of (fits_row b s x 2 a) (bound s lo (length vs)))
unfolding Natives NativeIs first_of bound
natives-find m b s x a [] lo n p h g = refl
natives-find m b s x a (v ∷ vs) lo n p h g =
    let j : ℕ = lo + length vs in
    let e : lo + suc (length vs) - 1 ≡ lo + length vs = omega arith in
    let k : kind_at s j ≡ 5 = subst (λ (i : ℕ). kind_at s i ≡ 5) e h.0 in
    let y : name_at b (place_at s j) ≡ v.name = subst (λ (i : ℕ). name_at b (place_at s i) ≡ v.name) e h.1 in
    let ps : names_of b (arity_at s j) (end_of b (place_at s j)) ≡ v.params = subst (λ (i : ℕ). names_of b (arity_at s i) (end_of b (place_at s i)) ≡ v.params) e h.2 in
    let i : number_at s j ≡ n = subst (λ (i : ℕ). number_at s i ≡ n) e h.3 in
    let w = g j (omega arith) (omega arith) (omega (arith, k)) in
    let u = natives-find m b s x a vs lo (suc n) p (subst (λ (i : ℕ). Natives b s i (suc n) vs) e h.4) (λ j c d. g j c (omega arith)) in
    subst (λ (l : List ℕ). NativeIs (native_of x a n (v ∷ vs)) b s a (first_of (fits_row b s x 2 a) l)) (sym (bound-in s lo (length vs) (omega (arith, k))))
    (native-here (same x v.name.text && eqb a (length v.params)) (native_of x a (suc n) vs) b s a n j v.params (fits_row b s x 2 a) (bound s lo (length vs))
    (fits-params b s x a j 5 v.params k refl ps ∙ ap (λ (z : Name). same x z.text && eqb a (length v.params)) y) (omega arith) k (readable m b s j w) i ps
    (fits-arity b s x a j 5 k refl) u)

-- ---- the definitions of a module

-- the n rows from lo on, the last first
unfoldable pub down_to : ℕ → ℕ → List ℕ
down_to lo zero = []
down_to lo (suc n) = (lo + n) ∷ down_to lo n

unfoldable pub ModIs : Option Filter → List ℕ → List ℕ → ℕ → ℕ → ℕ → Type 0
ModIs none b s m a r = r ≡ 0
ModIs (some d) b s m a r = (0 < r) × (kind_at s r ≡ 4) × Readable b s r × (filter_at b s m r ≡ d) × (arity_at s r ≡ a) × (before_at s r ≡ m)

mod-here : (t : Bool) (o : Option Filter) (b s : List ℕ) (m a j : ℕ) (f : ℕ → Bool) (js : List ℕ) → f j ≡ t → 0 < j → kind_at s j ≡ 4 → Readable b s j → (f j ≡ true → arity_at s j ≡ a)
    → before_at s j ≡ m → ModIs o b s m a (first_of f js) → ModIs (cond t (some (filter_at b s m j)) o) b s m a (first_of f (j ∷ js))
unfolding ModIs
mod-here true o b s m a j f js e p k w q u h = subst (λ (r : ℕ). ModIs (some (filter_at b s m j)) b s m a r) (sym (first-cons f j js e)) (p, k, w, refl, q e, u)
mod-here false o b s m a j f js e p k w q u h = subst (λ (r : ℕ). ModIs o b s m a r) (sym (first_rest f j js e)) h

-- "last definition first"
pub module-find : (g m : ℕ) (b s : List ℕ) (x : Text) (a lo n : ℕ) → 0 < lo
    → ((j : ℕ) → lo ≤ j → j < lo + n → Legible g b s j × (kind_at s j ≡ 4) × (before_at s j ≡ m))
    → ModIs (definition x a (filters (rows_of b s m lo n))) b s m a (first_of (fits_row b s x 2 a) (down_to lo n))
unfolding rows_of down_to ModIs first_of
module-find g m b s x a lo zero p h = refl
module-find g m b s x a lo (suc n) p h =
    let j : ℕ = lo + n in
    let w = h j (omega arith) (omega arith) in
    let u = module-find g m b s x a lo n p (λ i c d. h i c (omega arith)) in
    rw (row-sibling b s m (lo + n) w.1)
    (mod-here (fits x a (filter_at b s m j)) (definition x a (filters (rows_of b s m lo n))) b s m a j (fits_row b s x 2 a) (down_to lo n)
    (fits-params b s x a j 4 (names_of b (arity_at s j) (end_of b (place_at s j))) w.1 refl refl) (omega arith) w.1 (readable g b s j w.0) (fits-arity b s x a j 4 w.1 refl) w.2 u)

-- ---- all that is in view

-- what is found is a local, or else a native
unfoldable pub Sees : Found → Found → List ℕ → List ℕ → ℕ → ℕ → ℕ → ℕ → Type 0
Sees nothing v b s m a c r = NativeIs v b s a r
Sees (argument i) v b s m a c r = LocalIs (argument i) b s m a c r
Sees (local d) v b s m a c r = LocalIs (local d) b s m a c r
Sees (of_module d) v b s m a c r = ⊥
Sees (of_native i ps) v b s m a c r = ⊥

sees-by : (o v : Found) (b s : List ℕ) (m a c l n r : ℕ) → (l ≡ 0 → r ≡ n) → (0 < l → r ≡ l) → LocalIs o b s m a c l → NativeIs v b s a n → Sees o v b s m a c r
unfolding LocalIs Sees
sees-by nothing v b s m a c l n r e f h k = subst (λ (z : ℕ). NativeIs v b s a z) (sym (e h)) k
sees-by (argument i) v b s m a c l n r e f h k = subst (λ (z : ℕ). LocalIs (argument i) b s m a c z) (sym (f h.0)) h
sees-by (local d) v b s m a c l n r e f h k = subst (λ (z : ℕ). LocalIs (local d) b s m a c z) (sym (f h.0)) h
sees-by (of_module d) v b s m a c l n r e f h k = absurd h
sees-by (of_native i ps) v b s m a c l n r e f h k = absurd h

module _ (vw : View) (b s : List ℕ) (k : ℕ) (seen : Seen vw b s k) (x : Text) (a : ℕ) where
  whole-none : first_of (fits_row b s x 2 a) (bound s vw.locals (k - vw.locals)) ≡ 0
      → first_of (fits_row b s x 2 a) (in_view vw s k) ≡ first_of (fits_row b s x 2 a) (bound s vw.first (length vw.top.natives))
  whole-none e =
      let f : ℕ → Bool = fits_row b s x 2 a in
      let ls : List ℕ = bound s vw.locals (k - vw.locals) in
      let ms : List ℕ = bound s vw.own (length seen.base.mine.names) in
      let gs : List ℕ = bound s vw.globals (length vw.top.globals) in
      let ns : List ℕ = bound s vw.first (length vw.top.natives) in
      let i : first_of f (ls ++ ms) ≡ 0 = first-none f ls ms (locals-positive vw b s k seen x) e ∙ imported-unlike vw b s k seen x 2 a refl in
      let o : first_of f ((ls ++ ms) ++ (gs ++ ns)) ≡ first_of f (gs ++ ns) = first-none f (ls ++ ms) (gs ++ ns) (inner-positive vw b s k seen x) i in
      let p : first_of f (gs ++ ns) ≡ first_of f ns = first-none f gs ns (globals-positive vw b s k seen x) (globals-unlike vw b s k seen x 2 a refl) in
      ap (first_of f) (view-apart vw b s k seen) ∙ (o ∙ p)

  whole-some : 0 < first_of (fits_row b s x 2 a) (bound s vw.locals (k - vw.locals))
      → first_of (fits_row b s x 2 a) (in_view vw s k) ≡ first_of (fits_row b s x 2 a) (bound s vw.locals (k - vw.locals))
  whole-some h =
      let f : ℕ → Bool = fits_row b s x 2 a in
      let ls : List ℕ = bound s vw.locals (k - vw.locals) in
      let ms : List ℕ = bound s vw.own (length seen.base.mine.names) in
      let gs : List ℕ = bound s vw.globals (length vw.top.globals) in
      let ns : List ℕ = bound s vw.first (length vw.top.natives) in
      let i : first_of f (ls ++ ms) ≡ first_of f ls = first_some f ls ms h in
      let o : first_of f ((ls ++ ms) ++ (gs ++ ns)) ≡ first_of f (ls ++ ms) = first_some f (ls ++ ms) (gs ++ ns) (omega (arith, h, i)) in
      ap (first_of f) (view-apart vw b s k seen) ∙ (o ∙ i)

  pub sees : length x < 65536
      → Sees (find x a (env_of vw b s k)) (native_of x a 0 vw.top.natives) b s (outer vw) a (get_or s 1 0)
      (first_of (matches b s x (word_of x) (key_of 2 (length x) a)) (in_view vw s k))
  sees l =
      let o = seen-order vw b s k seen in
      rw (by_key vw b s k seen x 2 a (omega arith) l)
      (sees-by (find x a (env_of vw b s k)) (native_of x a 0 vw.top.natives) b s (outer vw) a (get_or s 1 0)
      (first_of (fits_row b s x 2 a) (bound s vw.locals (k - vw.locals))) (first_of (fits_row b s x 2 a) (bound s vw.first (length vw.top.natives)))
      (first_of (fits_row b s x 2 a) (in_view vw s k)) whole-none whole-some
      (rw seen.view (locals-find vw b s x a (omega (arith, o)) (k - vw.locals) (seen-locals vw b s k seen)))
      (natives-find vw.mask b s x a vw.top.natives vw.first 0 o.0
      (subst (λ (i : ℕ). Natives b s i 0 vw.top.natives) seen.base.few seen.base.natives)
      (λ j p q. outer-legible vw b s k seen j p (omega (arith, seen.base.few, seen.base.rest)))))
