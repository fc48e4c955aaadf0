-- What a call means: it is found among the rows in view, so it stays found when rows above them change; a module's definition returns at most itself; the error
-- of a call is one of its module and arity. Assumes nothing.
use Rattle.std.specs.Prelude.{ℕ, zero, suc, ◌+◌, ◌*◌, ◌≤◌, ◌<◌, ◌≡◌, refl, ◌&&◌, eqb, length, get_or, take}
use Rattle.std.proofs.Common.{arith, sym, ap, subst, ◌∙◌, inl, inr, get_or-take, length-take-le}
use Rattle.std.proofs.Math.Option.{Option, none, some}
use mathlib.Core.List.{List, [], ◌∷◌}
use Rattle.tree.specs.Tree.{Number, Native}
use Rattle.fields.specs.Number.{value}
use Rattle.rules.specs.Names.{Text, same, Parted, plain, parted, parting}
use Rattle.rules.specs.Table.{Err}
use Rattle.rules.specs.Lists.{Every, either}
use Rattle.rules.specs.Rows.{Env, var, label, arg, filter, Filter, count, level}
use Rattle.rules.specs.Filters.{Top, home_of, Found, nothing, argument, local, of_module, of_native, later, fits, find, definition, in_module, included, native_of, found_within, found_else, filter_named, import_named, import_meant, part_meant, meant, or_else}
use Rattle.rules.specs.Returns.{Lone}
use Rattle.cells.specs.Cells.{View, Seen, env_of, outer, cell}
use Rattle.rows.specs.Same.{Rows, Order, order-of, based-same, env-same, view-same, goods-same, linked-same, local_same}
use Rattle.rows.specs.Kept.{below_at, heads-below, fixed-below}
use Rattle.finds.specs.Hits as Hit
use Rattle.finds.specs.Means.{Readable, FoundIs, Means}
use Rattle.records.specs.Calls.{Callable, OfCall, lost-kind}
use Rattle.compiler.specs.Calling.{Meaning}

-- ---- rows in view, and no more

module _ (vw : View) (b s : List ℕ) (k : ℕ) (g : Seen vw b s k) where
  abbrev cut : List ℕ
  cut = take (4 * k) s

  cut_at : (i : ℕ) → i < 4 * k → get_or (take (4 * k) s) i 0 ≡ get_or s i 0
  cut_at i h = get_or-take (4 * k) s i 0 h

  cut-long : length (take (4 * k) s) ≡ 4 * k
  cut-long = length-take-le (4 * k) s g.within

  pub seen-cut : Seen vw b (take (4 * k) s) k × (env_of vw b (take (4 * k) s) k ≡ env_of vw b s k)
  seen-cut =
      let o : Order vw k = order-of vw b s k g in
      let w : Rows s (take (4 * k) s) vw.first k = λ i p q. cut_at i q in
      let n : 9 + vw.mask ≤ 4 * k = heads-below vw b s k g in
      let e : env_of vw b (take (4 * k) s) k ≡ env_of vw b s k = env-same vw b s (take (4 * k) s) k o w k o.locals (omega arith) in (
        record {
          base = based-same vw b s (take (4 * k) s) k o w (fixed-below s (take (4 * k) s) (4 * k) (omega arith) cut_at) g.base;
          order = g.order;
          within = omega (arith, cut-long);
          small = omega (arith, g.small, g.within, cut-long);
          view = cut_at 1 (omega arith) ∙ g.view ∙ ap (λ x. outer vw + count x) (sym e);
          above = cut_at 2 (omega arith) ∙ g.above ∙ ap (λ x. level x) (sym e);
          good = rw (view-same vw b s (take (4 * k) s) k o w) (goods-same vw b s (take (4 * k) s) k o w g.good);
          locals = λ j p q. local_same vw b s (take (4 * k) s) k o w j p q (g.locals j p q);
          linked = λ h p q. rw (view-same vw b s (take (4 * k) s) k o w, cut_at h (omega arith)) (linked-same vw b s (take (4 * k) s) k o w h (get_or s h 0) (g.linked h p q));
        },
        e,
      )

-- what was found in the rows t is found in rows s' that begin with them
module _ (b t s' : List ℕ) (n : ℕ) (long : length t ≤ n) (same : (i : ℕ) → i < n → get_or s' i 0 ≡ get_or t i 0) (fits : n ≤ length s') (two : 2 ≤ n) where
  on-cell : (j c : ℕ) → 4 * j + 4 ≤ length t → c < 4 → cell s' j c ≡ cell t j c
  on-cell j c h l = same (4 * j + c) (omega (arith, long))

  on_read : (j : ℕ) → Readable b t j → Readable b s' j
  on_read j r =
      let e₁ = on-cell j 1 r.within (omega arith) in
      let e₂ = on-cell j 2 r.within (omega arith) in
      record { within = omega (arith, r.within, long, fits); name = rw e₂ r.name; params = rw (e₁, e₂) r.params }

  pub found-on : (u : Found) (x : Err) (m a : ℕ) (f : Hit.Found) → FoundIs u x b t m a f → FoundIs u x b s' m a f
  unfolding FoundIs
  found-on nothing x m a f h = h
  found-on (argument i) x m a f h =
      let e₂ = on-cell f.j 2 h.1.within (omega arith) in
      (h.0, on_read f.j h.1, rw (same 1 (omega arith), e₂) h.2, h.3)
  found-on (local d) x m a f h =
      let e₁ = on-cell f.j 1 h.1.within (omega arith) in
      let e₂ = on-cell f.j 2 h.1.within (omega arith) in
      let e₃ = on-cell f.j 3 h.1.within (omega arith) in
      (rw e₂ h.0, on_read f.j h.1, rw (e₁, e₂, e₃) h.2, rw e₁ h.3, rw e₂ h.4, rw (same 1 (omega arith), e₂) h.5)
  found-on (of_module d) x m a f h =
      let e₁ = on-cell f.j 1 h.2.within (omega arith) in
      let e₂ = on-cell f.j 2 h.2.within (omega arith) in
      let e₃ = on-cell f.j 3 h.2.within (omega arith) in
      (h.0, rw e₂ h.1, on_read f.j h.2, rw (e₁, e₂, e₃) h.3, rw e₁ h.4, rw e₂ h.5, rw (same 1 (omega arith)) h.6)
  found-on (of_native i ps) x m a f h =
      let e₁ = on-cell f.j 1 h.1.within (omega arith) in
      let e₂ = on-cell f.j 2 h.1.within (omega arith) in
      (h.0, on_read f.j h.1, rw e₁ h.2, rw (e₁, e₂) h.3, rw e₁ h.4)

-- a lookup in the rows in view alone
pub meaning-is : (b s t : List ℕ) (k : ℕ) (x : Text) (at a : ℕ) (r : Hit.Found) → t ≡ take (4 * k) s → Means b t x at a r → Meaning b s k x at a r
meaning-is b s t k x at a r e f vw g s' c l =
    let w = seen-cut vw b s k g in
    let n : 9 + vw.mask ≤ 4 * k = heads-below vw b s k g in
    let f' : Means b (take (4 * k) s) x at a r = subst (λ (y : List ℕ). Means b y x at a r) e f in
    let h = f' vw k w.0 in
    let h' = subst (λ (y : Env). let m = meant vw.top x at a y in FoundIs m.found m.missing b (take (4 * k) s) (outer vw) a r) w.1 h in
    found-on b (take (4 * k) s) s' (4 * k) (omega (arith, cut-long vw b s k g)) (λ i p. below_at (4 * k) s s' c i p ∙ sym (cut_at vw b s k g i p)) (omega (arith, g.within, l)) (omega arith)
    (meant vw.top x at a (env_of vw b s k)).found (meant vw.top x at a (env_of vw b s k)).missing (outer vw) a r h'

-- ---- "Module calls return nothing"

-- if a definition of a module was found, it returns at most itself
unfoldable OfLone : Found → Type 0
OfLone nothing = Unit {0}
OfLone (argument i) = Unit {0}
OfLone (local d) = Unit {0}
OfLone (of_module d) = Lone d
OfLone (of_native i ps) = Unit {0}

unfoldable OptLone : Option Filter → Type 0
OptLone none = Unit {0}
OptLone (some d) = Lone d

lone-definition : (f : Text) (a : ℕ) (ds : List Filter) → Every Lone ds → OptLone (definition f a ds)
unfolding OptLone
lone-definition f a [] h = tt
lone-definition f a (d ∷ ds) h = either OptLone (fits f a d) (some d) (definition f a ds) (λ _. h.0) (lone-definition f a ds h.1)

lone-nth : (ds : List (List Filter)) (i : ℕ) → Every (Every Lone) ds → Every Lone (get_or ds i [])
lone-nth [] zero h = tt
lone-nth [] (suc i) h = tt
lone-nth (d ∷ ds) zero h = h.0
lone-nth (d ∷ ds) (suc i) h = lone-nth ds i h.1

lone-or : (o u : Option Filter) → OptLone o → OptLone u → OptLone (or_else o u)
unfolding OptLone
lone-or none u h k = k
lone-or (some d) u h k = h

lone-in : (o : Option Filter) (u : Found) → OptLone o → OfLone u → OfLone (found_within o u)
unfolding OptLone OfLone
lone-in none u h k = k
lone-in (some d) u h k = h

lone-else : (o u : Found) → OfLone o → OfLone u → OfLone (found_else o u)
unfolding OfLone
lone-else nothing u h k = k
lone-else (argument i) u h k = h
lone-else (local d) u h k = h
lone-else (of_module d) u h k = h
lone-else (of_native i ps) u h k = h

lone-later : (o : Found) → OfLone o → OfLone (later o)
unfolding OfLone
lone-later nothing h = h
lone-later (argument i) h = h
lone-later (local d) h = h
lone-later (of_module d) h = h
lone-later (of_native i ps) h = h

lone-find : (f : Text) (a : ℕ) (e : Env) → OfLone (find f a e)
unfolding OfLone
lone-find f a [] = tt
lone-find f a (var y ∷ e) = lone-later (find f a e) (lone-find f a e)
lone-find f a (label y ∷ e) = lone-later (find f a e) (lone-find f a e)
lone-find f a (arg y ∷ e) = either OfLone (same f y.text && eqb a 0) (argument 0) (later (find f a e)) (λ _. tt) (lone-later (find f a e) (lone-find f a e))
lone-find f a (filter d ∷ e) = either OfLone (fits f a d) (local d) (find f a e) (λ _. tt) (lone-find f a e)

lone-native : (f : Text) (a i : ℕ) (vs : List Native) → OfLone (native_of f a i vs)
unfolding OfLone
lone-native f a i [] = tt
lone-native f a i (v ∷ vs) = either OfLone (same f v.name.text && eqb a (length v.params)) (of_native i v.params) (native_of f a (suc i) vs) (λ _. tt) (lone-native f a (suc i) vs)

module _ (c : Top) (lone : Every (Every Lone) c.earlier) where
  lone-inside : (f : Text) (a : ℕ) (n : Number) → OptLone (in_module c f a n)
  lone-inside f a n = lone-definition f a (get_or c.earlier (value n.bytes) []) (lone-nth c.earlier (value n.bytes) lone)

  lone-included : (f : Text) (a : ℕ) (ns : List Number) → OptLone (included c f a ns)
  unfolding OptLone
  lone-included f a [] = tt
  lone-included f a (n ∷ ns) = lone-or (included c f a ns) (in_module c f a n) (lone-included f a ns) (lone-inside f a n)

  lone-import : (m f : Text) (q a : ℕ) (o : Option Number) → OfLone (import_meant c m f q a o).found
  unfolding OfLone import_meant
  lone-import m f q a none = tt
  lone-import m f q a (some n) = lone-in (in_module c f a n) nothing (lone-inside f a n) tt

  lone-part : (x : Text) (q a : ℕ) (e : Env) (y : Parted) → OfLone (part_meant c x q a e y).found
  unfolding part_meant filter_named
  lone-part x q a e plain =
      lone-else (find x a e) (found_within (included c x a c.uses.includes) (native_of x a 0 c.natives)) (lone-find x a e)
      (lone-in (included c x a c.uses.includes) (native_of x a 0 c.natives) (lone-included x a c.uses.includes) (lone-native x a 0 c.natives))
  lone-part x q a e (parted m f) = lone-import m f q a (import_named m c.uses.imports)

  lone-meant : (x : Text) (q a : ℕ) (e : Env) → OfLone (meant c x q a e).found
  unfolding meant
  lone-meant x q a e = lone-part x q a e (parting x)

-- ---- errors

pub of-call : (c : Top) (x : Text) (q a : ℕ) (e : Env) → OfCall (home_of c) a (meant c x q a e).missing
unfolding OfCall meant part_meant import_meant
of-call c x q a e = go (parting x)
  where
    there : (m f : Text) (o : Option Number) → OfCall (home_of c) a (import_meant c m f q a o).missing
    there m f none = (inr refl, refl)
    there m f (some n) = (inl refl, refl)

    go : (y : Parted) → OfCall (home_of c) a (part_meant c x q a e y).missing
    go plain = (inl refl, refl)
    go (parted m f) = there m f (import_named m c.uses.imports)

-- ---- what a call's record rests on

callable_of : (u : Found) (x : Err) (b s : List ℕ) (m a h : ℕ) (f : Hit.Found) → OfLone u → OfCall h a x → FoundIs u x b s m a f → Callable u s m f
unfolding OfLone FoundIs Callable
callable_of nothing x b s m a n f l o h = lost-kind x b s m a n f h o
callable_of (argument i) x b s m a n f l o h = tt
callable_of (local d) x b s m a n f l o h = h.4
callable_of (of_module d) x b s m a n f l o h = (h.5, l)
callable_of (of_native i ps) x b s m a n f l o h = tt

pub callable : (vw : View) (b s₀ s : List ℕ) (k₀ : ℕ) → Seen vw b s₀ k₀ → (x : Text) (at a : ℕ) (e : Env) (f : Hit.Found)
    → let m = meant vw.top x at a e in FoundIs m.found m.missing b s (outer vw) a f → Callable m.found s (outer vw) f
callable vw b s₀ s k₀ g x at a e f h =
    callable_of (meant vw.top x at a e).found (meant vw.top x at a e).missing b s (outer vw) a (home_of vw.top) f (lone-meant vw.top g.base.lone x at a e) (of-call vw.top x at a e) h
