-- What the numbers of a table mean: each number of a member is a term's, below the count of terms, and a called number is a definition's, which takes as many
-- arguments as the call has, each of its kind. Assumes nothing.
use Rattle.std.specs.Prelude.{◌≡◌, Bool, true, false, cond, ◌&&◌, List, [], ◌∷◌, ℕ, zero, suc, ◌<◌, length, get_or, eqb}
use Rattle.std.proofs.lemmas.Bool.{false≢true}
use Rattle.std.proofs.Math.Option.{Option, none, some}
use Rattle.std.proofs.Common.{eqb-true}
use Rattle.fields.specs.Number.{value}
use Rattle.tree.specs.Tree.{Def, Name, Number, Native, Term, def}
use Rattle.rules.specs.Names.{Text, same, is_var, Parted, plain, parted, parting}
use Rattle.rules.specs.Table.{Arg, Pat, pat_var, pat_idx, Pats, pats_nil, pats_cons, Folding, reduce, foreach, Step, index, range, Node, n_id, n_recurse, n_to_string, n_int, n_num, n_str, n_arr, n_obj_empty, n_obj_single, n_var, n_call_def, n_native, n_label, n_neg, n_pipe, n_comma, n_assign, n_update, n_update_math, n_update_alt, n_logic, n_math, n_cmp, n_alt, n_try_catch, n_ite, n_fold, n_path, Rec}
use Rattle.rules.specs.Tails.{Tail}
use Rattle.rules.specs.Rows.{Filter, var, label, arg, filter, Env, filters, push_vars, param, params}
use Rattle.rules.specs.Filters.{Top, Found, nothing, argument, local, of_module, of_native, later, fits, find, definition, in_module, included, native_of, found_within, found_else, filter_named, import_named, import_meant, part_meant, meant, or_else}
use Rattle.rules.specs.Outs.{slot}
use Rattle.rules.specs.Rules.{body}
use Rattle.rules.specs.Lists.{Every, either}
use Rattle.rules.specs.Slices.{Table, Slice}

-- ---- what is said of a table T

-- each argument is marked as its parameter is, and there are as many
abbrev pub Takes : List Name → List Arg → Type 0
Takes [] [] = Unit {0}
Takes [] (a ∷ as') = ⊥
Takes (p ∷ ps) [] = ⊥
Takes (p ∷ ps) (a ∷ as') = (a.isv ≡ is_var p.text) × Takes ps as'

module _ (T : Table) where
  -- the number of a term
  abbrev pub In : ℕ → Type 0
  In k = k < length T

  abbrev pub InArgs : List Arg → Type 0
  InArgs as' = Every (λ a. In a.num) as'

  abbrev mutual
    pub InPat : Pat → Type 0
    InPat pat_var = Unit {0}
    InPat (pat_idx xs) = InPats xs

    pub InPats : Pats → Type 0
    InPats pats_nil = Unit {0}
    InPats (pats_cons k x xs) = In k × InPat x × InPats xs

  abbrev pub InOptPat : Option Pat → Type 0
  InOptPat none = Unit {0}
  InOptPat (some x) = InPat x

  abbrev pub InOpt : Option ℕ → Type 0
  InOpt none = Unit {0}
  InOpt (some k) = In k

  abbrev pub InStep : Step → Type 0
  InStep (index k o) = In k
  InStep (range i j o) = InOpt i × InOpt j

  abbrev pub InFold : Folding → Type 0
  InFold reduce = Unit {0}
  InFold (foreach k) = InOpt k

  -- D: what is known of a definition that is compiled
  module _ (D : Def → Type 0) where
    -- a definition with the parameters ps stands at the number k: from k on the table holds what the rules give for it, and D is true of it
    pub record Defined (k : ℕ) (ps : List Name) : Type 0 where
      pub top : Top
      pub place : ℕ
      pub name : Name
      pub term : Term
      pub env : Env
      pub allowed : Tail
      pub such : D (def place name ps term)
      pub stands : Slice T k (slot (body top (def place name ps term) env k allowed))

    -- a call of the number k with these arguments
    pub record Called (k : ℕ) (as' : List Arg) : Type 0 where
      pub params : List Name
      pub defined : Defined k params
      pub takes : Takes params as'

    -- every number in a record is a term's, and a called one a definition's. A variable's index, a skip, a native's number and an operator are no such numbers
    abbrev pub Fine : Node → Type 0
    Fine n_id = Unit {0}
    Fine n_recurse = Unit {0}
    Fine n_to_string = Unit {0}
    Fine (n_int i) = Unit {0}
    Fine (n_num x) = Unit {0}
    Fine (n_str x) = Unit {0}
    Fine (n_arr a) = In a
    Fine n_obj_empty = Unit {0}
    Fine (n_obj_single a b) = In a × In b
    Fine (n_var i) = Unit {0}
    Fine (n_call_def k as' s how) = In k × InArgs as' × Called k as'
    Fine (n_native i as') = InArgs as'
    Fine (n_label a) = In a
    Fine (n_neg a) = In a
    Fine (n_pipe a x b) = In a × InOptPat x × In b
    Fine (n_comma a b) = In a × In b
    Fine (n_assign a b) = In a × In b
    Fine (n_update a b) = In a × In b
    Fine (n_update_math a k b) = In a × In b
    Fine (n_update_alt a b) = In a × In b
    Fine (n_logic a o b) = In a × In b
    Fine (n_math a k b) = In a × In b
    Fine (n_cmp a k b) = In a × In b
    Fine (n_alt a b) = In a × In b
    Fine (n_try_catch a b) = In a × In b
    Fine (n_ite a b d) = In a × In b × In d
    Fine (n_fold a x b d f) = In a × InPat x × In b × In d × InFold f
    Fine (n_path a ss) = In a × Every InStep ss

    abbrev pub FineAll : List Rec → Type 0
    FineAll rs = Every (λ r. Fine r.node) rs

    -- ---- what is in view

    abbrev pub Known : Filter → Type 0
    Known d = Defined d.number d.params

    abbrev pub KnownRows : Env → Type 0
    KnownRows e = Every Known (filters e)

    abbrev pub KnownTop : Top → Type 0
    KnownTop c = Every (Every Known) c.earlier

    -- what a call with a arguments finds
    abbrev pub Knows : ℕ → Found → Type 0
    Knows a nothing = Unit {0}
    Knows a (argument i) = Unit {0}
    Knows a (local d) = Known d × (a ≡ length d.params)
    Knows a (of_module d) = Known d × (a ≡ length d.params)
    Knows a (of_native i ps) = Unit {0}

    abbrev pub KnowsOne : ℕ → Option Filter → Type 0
    KnowsOne a none = Unit {0}
    KnowsOne a (some d) = Known d × (a ≡ length d.params)

    right_of : (x y : Bool) → (x && y) ≡ true → y ≡ true
    right_of true y h = h
    right_of false y h = absurd (false≢true h)

    fits-arity : (f : Text) (a : ℕ) (d : Filter) → fits f a d ≡ true → a ≡ length d.params
    fits-arity f a d h = eqb-true a (length d.params) (right_of (same f d.name.text) (eqb a (length d.params)) h)

    knows-later : (a : ℕ) (x : Found) → Knows a x → Knows a (later x)
    knows-later a nothing h = h
    knows-later a (argument i) h = tt
    knows-later a (local d) h = h
    knows-later a (of_module d) h = h
    knows-later a (of_native i ps) h = h

    find-knows : (f : Text) (a : ℕ) (e : Env) → KnownRows e → Knows a (find f a e)
    find-knows f a [] w = tt
    find-knows f a (var y ∷ e) w = knows-later a (find f a e) (find-knows f a e w)
    find-knows f a (label y ∷ e) w = knows-later a (find f a e) (find-knows f a e w)
    find-knows f a (arg y ∷ e) w =
        either (Knows a) (same f y.text && eqb a 0) (argument 0) (later (find f a e)) (λ _. tt) (knows-later a (find f a e) (find-knows f a e w))
    find-knows f a (filter d ∷ e) w = either (Knows a) (fits f a d) (local d) (find f a e) (λ h. (w.0, fits-arity f a d h)) (find-knows f a e w.1)

    definition-knows : (f : Text) (a : ℕ) (ds : List Filter) → Every Known ds → KnowsOne a (definition f a ds)
    definition-knows f a [] w = tt
    definition-knows f a (d ∷ ds) w = either (KnowsOne a) (fits f a d) (some d) (definition f a ds) (λ h. (w.0, fits-arity f a d h)) (definition-knows f a ds w.1)

    at-known : (ds : List (List Filter)) (k : ℕ) → Every (Every Known) ds → Every Known (get_or ds k [])
    at-known [] k w = tt
    at-known (d ∷ ds) zero w = w.0
    at-known (d ∷ ds) (suc k) w = at-known ds k w.1

    knows-else : (a : ℕ) (x y : Option Filter) → KnowsOne a x → KnowsOne a y → KnowsOne a (or_else x y)
    knows-else a none y h k = k
    knows-else a (some d) y h k = h

    knows-in : (a : ℕ) (x : Option Filter) (y : Found) → KnowsOne a x → Knows a y → Knows a (found_within x y)
    knows-in a none y h k = k
    knows-in a (some d) y h k = h

    knows-other : (a : ℕ) (x y : Found) → Knows a x → Knows a y → Knows a (found_else x y)
    knows-other a nothing y h k = k
    knows-other a (argument i) y h k = tt
    knows-other a (local d) y h k = h
    knows-other a (of_module d) y h k = h
    knows-other a (of_native i ps) y h k = h

    native-knows : (f : Text) (a i : ℕ) (vs : List Native) → Knows a (native_of f a i vs)
    native-knows f a i [] = tt
    native-knows f a i (v ∷ vs) =
        either (Knows a) (same f v.name.text && eqb a (length v.params)) (of_native i v.params) (native_of f a (suc i) vs) (λ _. tt) (native-knows f a (suc i) vs)

    module-knows : (c : Top) (f : Text) (a : ℕ) (k : Number) → KnownTop c → KnowsOne a (in_module c f a k)
    module-knows c f a k w = definition-knows f a (get_or c.earlier (value k.bytes) []) (at-known c.earlier (value k.bytes) w)

    included-knows : (c : Top) (f : Text) (a : ℕ) (ks : List Number) → KnownTop c → KnowsOne a (included c f a ks)
    included-knows c f a [] w = tt
    included-knows c f a (k ∷ ks) w = knows-else a (included c f a ks) (in_module c f a k) (included-knows c f a ks w) (module-knows c f a k w)

    named-knows : (c : Top) (f : Text) (a : ℕ) (e : Env) → KnownTop c → KnownRows e → Knows a (filter_named c f a e)
    unfolding filter_named
    named-knows c f a e w v =
        knows-other a (find f a e) _ (find-knows f a e v)
        (knows-in a (included c f a c.uses.includes) _ (included-knows c f a c.uses.includes w) (native-knows f a 0 c.natives))

    import-knows : (c : Top) (m f : Text) (q a : ℕ) (k : Option Number) → KnownTop c → Knows a (import_meant c m f q a k).found
    unfolding import_meant
    import-knows c m f q a none w = tt
    import-knows c m f q a (some k) w = knows-in a (in_module c f a k) nothing (module-knows c f a k w) tt

    part-knows : (c : Top) (x : Text) (q a : ℕ) (e : Env) (y : Parted) → KnownTop c → KnownRows e → Knows a (part_meant c x q a e y).found
    unfolding part_meant
    part-knows c x q a e plain w v = named-knows c x a e w v
    part-knows c x q a e (parted m f) w v = import-knows c m f q a (import_named m c.uses.imports) w

    pub meant-knows : (c : Top) (x : Text) (q a : ℕ) (e : Env) → KnownTop c → KnownRows e → Knows a (meant c x q a e).found
    unfolding meant
    meant-knows c x q a e w v = part-knows c x q a e (parting x) w v

    -- what is pushed for a pattern or for parameters defines nothing
    pub push-known : (xs : List Name) (e : Env) → KnownRows e → KnownRows (push_vars xs e)
    push-known [] e w = w
    push-known (x ∷ xs) e w = push-known xs (var x ∷ e) w

    param-known : (x : Name) (b : Bool) (e : Env) → KnownRows e → KnownRows (cond b (var x) (arg x) ∷ e)
    param-known x true e w = w
    param-known x false e w = w

    pub params-known : (xs : List Name) (e : Env) → KnownRows e → KnownRows (params xs e)
    params-known [] e w = w
    params-known (x ∷ xs) e w = params-known xs (param x e) (param-known x (is_var x.text) e w)
