-- A term with definitions in front: its own record is that of the term that they are for. The definitions change only what a name without `::` means, and
-- how long the record is does not depend on numbers. Assumes nothing.
use Prim.Native.Nat.{ℕ, zero, suc, ◌+◌, ◌*◌, ◌<◌}
use Rattle.std.proofs.Common.{arith, ◌∙◌, inl, inr, eqb-true, ltb-true, ltb-false, lt-ltb, length-append}
use Rattle.std.specs.Prelude.{◌≡◌, ◌⊎◌, Bool, ◌&&◌, ◌||◌, List, [], ◌∷◌, ◌++◌, ltb}
use Rattle.std.proofs.Math.Path.{refl, sym, ap}
use Rattle.std.proofs.Math.Bool.{true, false, cond}
use Rattle.std.proofs.Math.Option.{Option, none, some}
use Rattle.std.proofs.Math.Dec.{T, eqb}
use Rattle.std.proofs.Math.ListN.{length}
use Rattle.fields.specs.Number.{number, length-number}
use Rattle.fields.specs.Field.{field, length-field}
use Rattle.tree.specs.Tree.{Name, Number, Term, Terms, ts_nil, ts_cons, Defs, ds_nil, ds_cons, Def, def, t_id, t_recurse, t_arr, t_neg, t_label, t_break, t_if_then_else, t_var, t_call, t_def, t_num, t_try_catch, t_fold, t_pipe, t_bin_op, t_path, t_str, t_obj}
use Rattle.rules.specs.Names.{Text, same, Parted, plain, parted, parting}
use Rattle.rules.specs.Table.{Arg, Err}
use Rattle.rules.specs.Tails.{sibling}
use Rattle.rules.specs.Rows.{Env, Filter, filter_of, count, find_var, find_label}
use Rattle.rules.specs.Filters.{Top, Found, nothing, argument, local, of_module, of_native, find, found_else, found_within, included, native_of, filter_named, import_meant, import_named, part_meant, meant, variable}
use Rattle.rules.specs.Outs.{Made, binds, call_out, arity}
use Rattle.rules.specs.Listing.{arg_list, rec_bytes}
use Rattle.rules.specs.Rules.{term, args, defs, body, defined}
use Rattle.reads.specs.Bytes.{colons_of}
use Rattle.reads.specs.Widths.{call_width}
use Rattle.cells.specs.Cells.{arity_at, kind_at}
use Rattle.finds.specs.Hits as Hit
use Rattle.finds.specs.Means.{FoundIs, undefined_kind}
use Rattle.finds.specs.Keys.{and_right, true-T}
use Rattle.finds.specs.Calls.{names-length}
use Rattle.finds.specs.Modules.{parting-plain, parting-parted}

-- ---- the term, and what is defined before it

unfoldable pub body_of : Term → Term
body_of (t_id p) = t_id p
body_of (t_recurse p) = t_recurse p
body_of (t_arr p o) = t_arr p o
body_of (t_neg p t) = t_neg p t
body_of (t_label p x t) = t_label p x t
body_of (t_break p x) = t_break p x
body_of (t_if_then_else p q t u bs) = t_if_then_else p q t u bs
body_of (t_var p x) = t_var p x
body_of (t_call p f ts) = t_call p f ts
body_of (t_def p ds t) = body_of t
body_of (t_num p x) = t_num p x
body_of (t_try_catch p t o) = t_try_catch p t o
body_of (t_fold p f t x ts) = t_fold p f t x ts
body_of (t_pipe p t q x u) = t_pipe p t q x u
body_of (t_bin_op p t q x u) = t_bin_op p t q x u
body_of (t_path p t ps) = t_path p t ps
body_of (t_str p f ss) = t_str p f ss
body_of (t_obj p es) = t_obj p es

unfoldable pub def_fits : Def → Text → ℕ → Bool
def_fits (def p f ps t) x a = same x f.text && eqb a (length ps)

unfoldable pub declared_by : Defs → Text → ℕ → Bool
declared_by ds_nil x a = false
declared_by (ds_cons d ds) x a = def_fits d x a || declared_by ds x a

unfoldable pub defined_by : Term → Text → ℕ → Bool
defined_by (t_id p) x a = false
defined_by (t_recurse p) x a = false
defined_by (t_arr p o) x a = false
defined_by (t_neg p t) x a = false
defined_by (t_label p y t) x a = false
defined_by (t_break p y) x a = false
defined_by (t_if_then_else p q t u bs) x a = false
defined_by (t_var p y) x a = false
defined_by (t_call p f ts) x a = false
defined_by (t_def p ds t) x a = declared_by ds x a || defined_by t x a
defined_by (t_num p y) x a = false
defined_by (t_try_catch p t o) x a = false
defined_by (t_fold p f t y ts) x a = false
defined_by (t_pipe p t q y u) x a = false
defined_by (t_bin_op p t q y u) x a = false
defined_by (t_path p t ps) x a = false
defined_by (t_str p f ss) x a = false
defined_by (t_obj p es) x a = false

-- is one of these definitions meant by a call of x with a arguments? "With `::` ..: last import of that name, and only it"
unfoldable pub own_call : (Text → ℕ → Bool) → Text → ℕ → Bool
own_call d x a = cond (ltb (colons_of x) (length x)) false (d x a)

-- ---- rows with definitions before others

pub record Grown (d : Text → ℕ → Bool) (e e' : Env) : Type 0 where
  pub vars : (x : Text) → find_var x e' ≡ find_var x e
  pub labels : (x : Text) → find_label x e' ≡ find_label x e
  pub counts : count e' ≡ count e
  pub own : (x : Text) (a : ℕ) → d x a ≡ true → (g : Filter) × (find x a e' ≡ local g) × (length g.params ≡ a)
  pub other : (x : Text) (a : ℕ) → d x a ≡ false → find x a e' ≡ find x a e

grown-none : (d : Text → ℕ → Bool) (e : Env) → ((x : Text) (a : ℕ) → d x a ≡ false) → Grown d e e
grown-none d e f =
    record { vars = λ x. refl; labels = λ x. refl; counts = refl; own = λ x a h. absurd (true-T false (sym (f x a) ∙ h)); other = λ x a h. refl }

grown-trans : (d d' : Text → ℕ → Bool) (e e' e'' : Env) → Grown d e e' → Grown d' e' e'' → Grown (λ x a. d x a || d' x a) e e''
grown-trans d d' e e' e'' g h =
    record {
      vars = λ x. h.vars x ∙ g.vars x;
      labels = λ x. h.labels x ∙ g.labels x;
      counts = h.counts ∙ g.counts;
      own = λ x a q. own x a (d x a) (d' x a) refl refl q;
      other = λ x a q. h.other x a (right (d x a) (d' x a) q) ∙ g.other x a (left (d x a) (d' x a) q);
    }
  where
    left : (t u : Bool) → (t || u) ≡ false → t ≡ false
    left true u q = q
    left false u q = refl

    right : (t u : Bool) → (t || u) ≡ false → u ≡ false
    right true u q = absurd (true-T false (sym q))
    right false u q = q

    own : (x : Text) (a : ℕ) (t u : Bool) → d x a ≡ t → d' x a ≡ u → (t || u) ≡ true → (k : Filter) × (find x a e'' ≡ local k) × (length k.params ≡ a)
    own x a t true p q r = h.own x a q
    own x a true false p q r = let k = g.own x a p in (k.0, h.other x a q ∙ k.1, k.2)
    own x a false false p q r = absurd (true-T false r)

module _ (c : Top) where
  grown-one : (d : Def) (e : Env) (n s : ℕ) → Grown (def_fits d) e (defined c d e n s ∷ e)
  unfolding term def_fits
  grown-one (def p f ps t) e n s =
      record {
        vars = λ x. refl;
        labels = λ x. refl;
        counts = refl;
        own = λ x a q. (
          filter_of f ps n e (sibling s),
          ap (λ (t : Bool). cond t (local (filter_of f ps n e (sibling s))) (find x a e)) q,
          sym (eqb-true a (length ps) (T-is (eqb a (length ps)) (and_right (same x f.text) (eqb a (length ps)) (true-T (same x f.text && eqb a (length ps)) q)))),
        );
        other = λ x a q. ap (λ (t : Bool). cond t (local (filter_of f ps n e (sibling s))) (find x a e)) q;
      }
    where
      T-is : (t : Bool) → T t → t ≡ true
      T-is true h = refl
      T-is false h = absurd h

  grown-defs : (ds : Defs) (e : Env) (n r : ℕ) → Grown (declared_by ds) e (defs c ds e n r).env
  unfolding term declared_by
  grown-defs ds_nil e n r = grown-none (declared_by ds_nil) e (λ x a. refl)
  grown-defs (ds_cons d ds) e n r =
      let a = body c d e n r in
      let w : Env = defined c d e n a.tail ∷ e in
      let m : ℕ = n + suc (length a.more) in
      grown-trans (def_fits d) (declared_by ds) e w (defs c ds w m r).env (grown-one d e n a.tail) (grown-defs ds w m r)

  -- the own record is that of the term that the definitions are for, among the rows that they push
  pub record Under (t : Term) (e : Env) (n r : ℕ) : Type 0 where
    pub env : Env
    pub num : ℕ
    pub same : (term c t e n r).self ≡ (term c (body_of t) env num r).self
    pub grown : Grown (defined_by t) e env

  plainly : (t : Term) (e : Env) (n r : ℕ) → body_of t ≡ t → ((x : Text) (a : ℕ) → defined_by t x a ≡ false) → Under t e n r
  plainly t e n r q f = record { env = e; num = n; same = ap (λ (u : Term). (term c u e n r).self) (sym q); grown = grown-none (defined_by t) e f }

  pub under : (t : Term) (e : Env) (n r : ℕ) → Under t e n r
  unfolding term body_of defined_by
  under (t_id p) e n r = plainly (t_id p) e n r refl (λ x a. refl)
  under (t_recurse p) e n r = plainly (t_recurse p) e n r refl (λ x a. refl)
  under (t_arr p o) e n r = plainly (t_arr p o) e n r refl (λ x a. refl)
  under (t_neg p t) e n r = plainly (t_neg p t) e n r refl (λ x a. refl)
  under (t_label p y t) e n r = plainly (t_label p y t) e n r refl (λ x a. refl)
  under (t_break p y) e n r = plainly (t_break p y) e n r refl (λ x a. refl)
  under (t_if_then_else p q t u bs) e n r = plainly (t_if_then_else p q t u bs) e n r refl (λ x a. refl)
  under (t_var p y) e n r = plainly (t_var p y) e n r refl (λ x a. refl)
  under (t_call p f ts) e n r = plainly (t_call p f ts) e n r refl (λ x a. refl)
  under (t_def p ds t) e n r =
      let d = defs c ds e n r in
      let m : ℕ = n + length d.more in
      let i = under t d.env m r in
      record { env = i.env; num = i.num; same = i.same; grown = grown-trans (declared_by ds) (defined_by t) e d.env i.env (grown-defs ds e n r) i.grown }
  under (t_num p y) e n r = plainly (t_num p y) e n r refl (λ x a. refl)
  under (t_try_catch p t o) e n r = plainly (t_try_catch p t o) e n r refl (λ x a. refl)
  under (t_fold p f t y ts) e n r = plainly (t_fold p f t y ts) e n r refl (λ x a. refl)
  under (t_pipe p t q y u) e n r = plainly (t_pipe p t q y u) e n r refl (λ x a. refl)
  under (t_bin_op p t q y u) e n r = plainly (t_bin_op p t q y u) e n r refl (λ x a. refl)
  under (t_path p t ps) e n r = plainly (t_path p t ps) e n r refl (λ x a. refl)
  under (t_str p f ss) e n r = plainly (t_str p f ss) e n r refl (λ x a. refl)
  under (t_obj p es) e n r = plainly (t_obj p es) e n r refl (λ x a. refl)

-- ---- what the rows mean

pub grown-variable : (c : Top) (d : Text → ℕ → Bool) (e e' : Env) (x : Text) → Grown d e e' → variable c x e' ≡ variable c x e
unfolding variable
grown-variable c d e e' x g = rw (g.vars x, g.counts)

own-cases : (t : Bool) (u : Bool) → cond t false u ≡ true → (t ≡ false) × (u ≡ true)
own-cases true u h = absurd (true-T false h)
own-cases false u h = (refl, h)

-- a call that means one of the definitions
pub grown-own : (c : Top) (d : Text → ℕ → Bool) (e e' : Env) (x : Text) (q a : ℕ) → Grown d e e' → own_call d x a ≡ true
    → (g : Filter) × ((meant c x q a e').found ≡ local g) × (length g.params ≡ a)
unfolding own_call meant part_meant filter_named
grown-own c d e e' x q a g h =
    let w = own-cases (ltb (colons_of x) (length x)) (d x a) h in
    let p : parting x ≡ plain = parting-plain x (ltb-false (colons_of x) (length x) w.0) in
    let k = g.own x a w.1 in
    (k.0, ap (λ (y : Parted). (part_meant c x q a e' y).found) p ∙ ap (λ (f : Found). found_else f (found_within (included c x a c.uses.includes) (native_of x a 0 c.natives))) k.1, k.2)

-- any other call means what it means without them
pub grown-other : (c : Top) (d : Text → ℕ → Bool) (e e' : Env) (x : Text) (q a : ℕ) → Grown d e e' → own_call d x a ≡ false → (meant c x q a e').found ≡ (meant c x q a e).found
unfolding own_call meant part_meant filter_named
grown-other c d e e' x q a g h = go (ltb (colons_of x) (length x)) refl h
  where
    go : (t : Bool) → ltb (colons_of x) (length x) ≡ t → cond t false (d x a) ≡ false → (part_meant c x q a e' (parting x)).found ≡ (part_meant c x q a e (parting x)).found
    go true u v =
        let p = (parting-parted x (ltb-true (colons_of x) (length x) u)).0 in
        ap (λ (y : Parted). (part_meant c x q a e' y).found) p ∙ ap (λ (y : Parted). (part_meant c x q a e y).found) (sym p)
    go false u v =
        let p = parting-plain x (ltb-false (colons_of x) (length x) u) in
        ap (λ (y : Parted). (part_meant c x q a e' y).found) p
        ∙ (ap (λ (f : Found). found_else f (found_within (included c x a c.uses.includes) (native_of x a 0 c.natives))) (g.other x a v)
        ∙ ap (λ (y : Parted). (part_meant c x q a e y).found) (sym p))

-- ---- how long a call's record is

unfoldable pub found_width : Found → ℕ → ℕ
found_width nothing a = 3
found_width (argument i) a = 5
found_width (local d) a = 10 + 3 * a
found_width (of_module d) a = 10 + 3 * a
found_width (of_native i ps) a = 7 + 3 * a

unfoldable pub HasArity : Found → ℕ → Type 0
HasArity nothing a = Unit {0}
HasArity (argument i) a = Unit {0}
HasArity (local d) a = length d.params ≡ a
HasArity (of_module d) a = length d.params ≡ a
HasArity (of_native i ps) a = length ps ≡ a

binds-length : (ps : List Name) (ns : List ℕ) (a : ℕ) → length ps ≡ a → length ns ≡ a → length (binds ps ns) ≡ a
binds-length [] [] a e f = e
binds-length [] (n ∷ ns) a e f = e
binds-length (p ∷ ps) [] a e f = absurd (omega arith)
binds-length (p ∷ ps) (n ∷ ns) zero e f = absurd (omega arith)
binds-length (p ∷ ps) (n ∷ ns) (suc a) e f = ap suc (binds-length ps ns a (omega (arith, e)) (omega (arith, f)))

args-wide : (as' : List Arg) → length (arg_list 2 as') ≡ 3 * length as'
unfolding arg_list
args-wide [] = refl
args-wide (a ∷ as') = omega (arith, length-append (number 2 a.num) (arg_list 2 as'), length-number 2 a.num, args-wide as')

def-wide : (n : ℕ) (as' : List Arg) (s k : ℕ) → length (field 0x5A (number 2 n ++ (number 2 (length as') ++ (arg_list 2 as' ++ (number 2 s ++ (k ∷ [])))))) ≡ 10 + 3 * length as'
def-wide n as' s k =
    omega (
      arith,
      length-field 0x5A (number 2 n ++ (number 2 (length as') ++ (arg_list 2 as' ++ (number 2 s ++ (k ∷ []))))),
      length-append (number 2 n) (number 2 (length as') ++ (arg_list 2 as' ++ (number 2 s ++ (k ∷ [])))),
      length-append (number 2 (length as')) (arg_list 2 as' ++ (number 2 s ++ (k ∷ []))),
      length-append (arg_list 2 as') (number 2 s ++ (k ∷ [])),
      length-append (number 2 s) (k ∷ []),
      length-number 2 n,
      length-number 2 (length as'),
      length-number 2 s,
      args-wide as',
    )

native-wide : (n : ℕ) (as' : List Arg) → length (field 0x5B (number 2 n ++ (number 2 (length as') ++ arg_list 2 as'))) ≡ 7 + 3 * length as'
native-wide n as' =
    omega (
      arith,
      length-field 0x5B (number 2 n ++ (number 2 (length as') ++ arg_list 2 as')),
      length-append (number 2 n) (number 2 (length as') ++ arg_list 2 as'),
      length-append (number 2 (length as')) (arg_list 2 as'),
      length-number 2 n,
      length-number 2 (length as'),
      args-wide as',
    )

-- whatever numbers and skips it has
pub call_length : (p k r : ℕ) (o : Made (List ℕ)) (x : Err) (f : Found) (a : ℕ) → length o.made ≡ a → HasArity f a → length (rec_bytes 2 (call_out p k r o x f).self) ≡ found_width f a
unfolding call_out found_width HasArity
call_length p k r o x nothing a e h = length-field 0x50 []
call_length p k r o x (argument i) a e h = omega (arith, length-field 0x59 (number 2 i), length-number 2 i)
call_length p k r o x (local d) a e h = def-wide d.number (binds d.params o.made) _ _ ∙ ap (λ (n : ℕ). 10 + 3 * n) (binds-length d.params o.made a h e)
call_length p k r o x (of_module d) a e h = def-wide d.number (binds d.params o.made) _ _ ∙ ap (λ (n : ℕ). 10 + 3 * n) (binds-length d.params o.made a h e)
call_length p k r o x (of_native i ps) a e h = native-wide i (binds ps o.made) ∙ ap (λ (n : ℕ). 7 + 3 * n) (binds-length ps o.made a h e)

pub args-made : (c : Top) (ts : Terms) (e : Env) (n : ℕ) → length (args c ts e n).made ≡ arity ts
unfolding term
args-made c ts_nil e n = refl
args-made c (ts_cons t ts) e n = ap suc (args-made c ts e (n + suc (length (term c t e (suc n) 0).more)))

-- ---- what was found, and how long the record is by that

pub found-arity : (f : Found) (x : Err) (b s : List ℕ) (m a : ℕ) (r : Hit.Found) → FoundIs f x b s m a r → HasArity f a
unfolding FoundIs HasArity
found-arity nothing x b s m a r h = tt
found-arity (argument i) x b s m a r h = tt
found-arity (local d) x b s m a r h = ap (λ (g : Filter). length g.params) (sym h.2) ∙ (names-length b (arity_at s r.j) _ ∙ h.3)
found-arity (of_module d) x b s m a r h = ap (λ (g : Filter). length g.params) (sym h.3) ∙ (names-length b (arity_at s r.j) _ ∙ h.4)
found-arity (of_native i ps) x b s m a r h = ap length (sym h.3) ∙ (names-length b (arity_at s r.j) _ ∙ h.4)

width-lost : (k a : ℕ) → k < 2 → call_width k a ≡ 3
unfolding call_width
width-lost k a h = rw (lt-ltb k 2 h)

width_of : (k n a w : ℕ) → k ≡ n → call_width n a ≡ w → call_width k a ≡ w
width_of k n a w e f = ap (λ (i : ℕ). call_width i a) e ∙ f

pub found-width : (f : Found) (x : Err) (b s : List ℕ) (m a : ℕ) (r : Hit.Found) → undefined_kind x.what < 2 → FoundIs f x b s m a r → call_width r.kind a ≡ found_width f a
unfolding FoundIs found_width call_width
found-width nothing x b s m a r l h = width-lost r.kind a (omega (arith, h.0))
found-width (argument i) x b s m a r l h = width_of r.kind 2 a 5 h.0 refl
found-width (local d) x b s m a r l h = go h.0
  where
    go : ((r.kind ≡ 3) × (kind_at s r.j ≡ 3)) ⊎ ((r.kind ≡ 4) × (kind_at s r.j ≡ 4)) → call_width r.kind a ≡ 10 + 3 * a
    go (inl e) = width_of r.kind 3 a (10 + 3 * a) e.0 refl
    go (inr e) = width_of r.kind 4 a (10 + 3 * a) e.0 refl
found-width (of_module d) x b s m a r l h = width_of r.kind 5 a (10 + 3 * a) h.0 refl
found-width (of_native i ps) x b s m a r l h = width_of r.kind 6 a (7 + 3 * a) h.0 refl

-- the error of a call is none of a variable
pub missing-kind : (c : Top) (x : Text) (q a : ℕ) (e : Env) → undefined_kind (meant c x q a e).missing.what < 2
unfolding meant part_meant import_meant
missing-kind c x q a e = part (parting x)
  where
    from : (m f : Text) (o : Option Number) → undefined_kind (import_meant c m f q a o).missing.what < 2
    from m f none = omega arith
    from m f (some k) = omega arith

    part : (y : Parted) → undefined_kind (part_meant c x q a e y).missing.what < 2
    part plain = omega arith
    part (parted m f) = from m f (import_named m c.uses.imports)
