-- What a call means: by name in the view and in the modules of the tree, and by the rules. From the agreement of the lists, and of each module's definitions, the
-- two mean the same. Assumes nothing.
use Rattle.std.specs.Prelude.{ℕ, suc, ◌-◌, ◌≤◌, ◌≡◌, refl, Bool, true, false, cond, ◌&&◌, length, get_or, eqb, ltb}
use Rattle.std.proofs.Common.{arith, ap, sym, ◌∙◌, ltb-true, ltb-false}
use Rattle.std.proofs.Math.Path.{subst, subst₂}
use Rattle.std.proofs.Math.Option.{Option, none, some}
use mathlib.Core.List.{List, [], ◌∷◌}
use Rattle.std.proofs.Math.ListN.{get_elem?, get_or-eq_default}
use Rattle.fields.specs.Number as Bytes
use Rattle.tree.specs.Tree.{Number, Native, Uses, Module, Tree}
use Rattle.rules.specs.Names.{Text, same, Parted, plain, parted, parting}
use Rattle.rules.specs.Rows.{Filter, Row, Env, count}
use Rattle.rules.specs.Filters as Filters
use Rattle.rules.specs.Filters.{Top, or_else, Found, fits, find, definition, in_module, native_of, found_within, found_else, filter_named, import_named, import_meant, part_meant, meant}
use Rattle.rules.specs.Slices.{Table}
use Rattle.walks.specs.TreeWalk as ByName
use Rattle.walks.specs.TreeWalk.{View, Entry, Home, Seen, seen_else, define, look, look_in, of_module, of_natives, of_import, seen_parted, seen}
use Rattle.walks.specs.TableWalk.{Cells, skip}
use Rattle.walks.specs.Together.{entries_of}
use Rattle.walks.proofs.Agree.{Past, ending, Agree, agree-home, skip_all, Same, s_nothing, s_argument, s_local, s_module, s_native, same_cond, arity-of, agree-find}

-- the definitions of a module as rows
abbrev pub rows_of : List Filter → Env
rows_of [] = []
rows_of (d ∷ ds) = Row.filter d ∷ rows_of ds

count-rows : (ds : List Filter) → count (rows_of ds) ≡ 0
count-rows [] = refl
count-rows (d ∷ ds) = count-rows ds

abbrev local_of : Option Filter → Found
local_of none = Found.nothing
local_of (some d) = Found.local d

local-cond : (b : Bool) (d : Filter) (o : Option Filter) → cond b (Found.local d) (local_of o) ≡ local_of (cond b (some d) o)
local-cond true d o = refl
local-cond false d o = refl

find-rows : (f : Text) (a : ℕ) (ds : List Filter) → find f a (rows_of ds) ≡ local_of (definition f a ds)
find-rows f a [] = refl
find-rows f a (d ∷ ds) = ap (cond (fits f a d) (Found.local d)) (find-rows f a ds) ∙ local-cond (fits f a d) d (definition f a ds)

module _ (whole : Tree) (T : Table) (D : List (List Filter)) where
  -- where the definitions of the module k stand, past which lies the end
  pub record Stocked (k : ℕ) (m : Module) : Type 0 where
    pub top : Top
    pub agree : Agree whole T D top (rows_of (get_or D k [])) (define m.defs (ByName.outer whole (record { number = k; uses = m.uses }))) (ending whole T D)

  -- each module's definitions agree, and there are no others
  pub record AllStocked : Type 0 where
    pub there : (k : ℕ) (m : Module) → get_elem? whole.modules k ≡ some m → Stocked k m
    pub beyond : (k : ℕ) → get_elem? whole.modules k ≡ none → get_or D k [] ≡ []

  -- from a place with k locals in the list l, a module's definition is a module's
  to-module : {fs es : List Entry} {a : ℕ} (k : ℕ) (l : Cells) (o : Option Filter) {S : Seen} → skip k l ≡ ending whole T D
      → Same whole T D fs a 0 (ending whole T D) (local_of o) S → Same whole T D es a k l (found_within o Found.nothing) S
  to-module k l none q s_nothing = s_nothing
  to-module k l (some d) q (s_local _ r {c = c} {e = e} {v = v} z w h g) =
      let n : 0 - d.count ≡ 0 = omega arith in
      s_module d r z h (subst (Agree whole T D c e v) (ap (λ (j : ℕ). skip j (ending whole T D)) n ∙ sym q) g)

  module _ (all : AllStocked) where
    in-stocked : (es : List Entry) (c : Top) (h : Home) (f : Text) (a k : ℕ) (l : Cells) (i : ℕ) → Past whole T D c h → skip k l ≡ ending whole T D
        → (b : Bool) → ltb i h.number ≡ b → (m : Option Module) → get_elem? whole.modules i ≡ m
        → Same whole T D es a k l (found_within (definition f a (get_or c.earlier i [])) Found.nothing) (look_in whole f a i (cond b m none))
    in-stocked es c h f a k l i past s true b (some m) q =
        let ds : List Filter = get_or D i [] in
        let w : Stocked i m = all.there i m q in
        let v : View = define m.defs (ByName.outer whole (record { number = i; uses = m.uses })) in
        let x : Same whole T D (entries_of v) a (count (rows_of ds)) (ending whole T D) (find f a (rows_of ds)) (look f a v) = agree-find whole T D f a w.agree in
        let y : Same whole T D (entries_of v) a 0 (ending whole T D) (local_of (definition f a ds)) (look f a v) =
        subst (λ (F : Found). Same whole T D (entries_of v) a 0 (ending whole T D) F (look f a v)) (find-rows f a ds)
        (subst (λ (n : ℕ). Same whole T D (entries_of v) a n (ending whole T D) (find f a (rows_of ds)) (look f a v)) (count-rows ds) x) in
        rw (past.earlier i (ltb-true i h.number b)) (to-module k l (definition f a ds) s y)
    in-stocked es c h f a k l i past s true b none q = rw (past.earlier i (ltb-true i h.number b) ∙ all.beyond i q) s_nothing
    in-stocked es c h f a k l i past s false b m q =
        let n : length c.earlier ≤ i = omega (arith, past.number, ltb-false i h.number b) in
        rw (get_or-eq_default c.earlier [] n) s_nothing

    in-module : (es : List Entry) (c : Top) (h : Home) (f : Text) (a k : ℕ) (l : Cells) (n : Number) → Past whole T D c h → skip k l ≡ ending whole T D
        → Same whole T D es a k l (found_within (in_module c f a n) Found.nothing) (of_module whole f a h n)
    in-module es c h f a k l n past s =
        let i : ℕ = Bytes.value n.bytes in in-stocked es c h f a k l i past s (ltb i h.number) refl (get_elem? whole.modules i) refl

  -- ---- one after the other

  same_or : {es : List Entry} {a k : ℕ} {l : Cells} (o o' : Option Filter) {S S' : Seen} → Same whole T D es a k l (found_within o Found.nothing) S
      → Same whole T D es a k l (found_within o' Found.nothing) S' → Same whole T D es a k l (found_within (or_else o o') Found.nothing) (seen_else S S')
  same_or none o' s_nothing y = y
  same_or (some d) o' (s_module _ r z h g) y = s_module d r z h g

  same_in : {es : List Entry} {a k : ℕ} {l : Cells} (o : Option Filter) {F : Found} {S S' : Seen} → Same whole T D es a k l (found_within o Found.nothing) S → Same whole T D es a k l F S'
      → Same whole T D es a k l (found_within o F) (seen_else S S')
  same_in none s_nothing y = y
  same_in (some d) (s_module _ r z h g) y = s_module d r z h g

  same-else : {es : List Entry} {a k : ℕ} {l : Cells} {F F' : Found} {S S' : Seen} → Same whole T D es a k l F S → Same whole T D es a k l F' S'
      → Same whole T D es a k l (found_else F F') (seen_else S S')
  same-else s_nothing y = y
  same-else (s_argument r z w s h g) y = s_argument r z w s h g
  same-else (s_local d r z w h g) y = s_local d r z w h g
  same-else (s_module d r z h g) y = s_module d r z h g
  same-else (s_native z) y = s_native z

  same-native : (es : List Entry) (f : Text) (a k i : ℕ) (l : Cells) (vs : List Native) → Same whole T D es a k l (native_of f a i vs) (of_natives f a vs)
  same-native es f a k i l [] = s_nothing
  same-native es f a k i l (v ∷ vs) =
      same_cond whole T D (same f v.name.text && eqb a (length v.params)) (λ t. s_native (arity-of whole T D f v.name.text a (length v.params) t))
      (same-native es f a k (suc i) l vs)

  module _ (all : AllStocked) where
    same-included : (es : List Entry) (c : Top) (h : Home) (f : Text) (a k : ℕ) (l : Cells) (ns : List Number) → Past whole T D c h → skip k l ≡ ending whole T D
        → Same whole T D es a k l (found_within (Filters.included c f a ns) Found.nothing) (ByName.included whole f a h ns)
    same-included es c h f a k l [] past s = s_nothing
    same-included es c h f a k l (n ∷ ns) past s =
        same_or (Filters.included c f a ns) (in_module c f a n) (same-included es c h f a k l ns past s) (in-module all es c h f a k l n past s)

    same-import : (es : List Entry) (c : Top) (h : Home) (m f : Text) (q a k : ℕ) (l : Cells) (n : Option Number) → Past whole T D c h → skip k l ≡ ending whole T D
        → Same whole T D es a k l (import_meant c m f q a n).found (of_import whole f a h n)
    unfolding import_meant
    same-import es c h m f q a k l none past s = s_nothing
    same-import es c h m f q a k l (some n) past s = in-module all es c h f a k l n past s

    same-parted : {c : Top} {e : Env} {v : View} {l : Cells} (x : Text) (q a : ℕ) (y : Parted) → Agree whole T D c e v l
        → Same whole T D (entries_of v) a (count e) l (part_meant c x q a e y).found (seen_parted whole x a v y)
    unfolding part_meant filter_named
    same-parted {c} {e} {v} {l} x q a plain g =
        let h : Home = ByName.home_of v in
        let past : Past whole T D c h = agree-home whole T D g in
        let s : skip (count e) l ≡ ending whole T D = skip_all whole T D g in
        let S : Seen = seen_parted whole x a v plain in
        let found : List Number → List Native → Found = λ ns vs. found_else (find x a e) (found_within (Filters.included c x a ns) (native_of x a 0 vs)) in
        subst₂ (λ ns vs. Same whole T D (entries_of v) a (count e) l (found ns vs) S) (sym (ap (λ (u : Uses). u.includes) past.uses)) (sym past.natives)
        (same-else (agree-find whole T D x a g)
        (same_in (Filters.included c x a h.uses.includes) (same-included (entries_of v) c h x a (count e) l h.uses.includes past s) (same-native (entries_of v) x a (count e) 0 l whole.natives)))
    same-parted {c} {e} {v} {l} x q a (parted m f) g =
        let h : Home = ByName.home_of v in
        let past : Past whole T D c h = agree-home whole T D g in
        subst (λ (u : Uses). Same whole T D (entries_of v) a (count e) l (import_meant c m f q a (import_named m u.imports)).found (seen_parted whole x a v (parted m f))) (sym past.uses)
        (same-import (entries_of v) c h m f q a (count e) l (import_named m h.uses.imports) past (skip_all whole T D g))

    -- a call means the same by name and by the rules
    pub agree-meant : {c : Top} {e : Env} {v : View} {l : Cells} (x : Text) (q a : ℕ) → Agree whole T D c e v l
        → Same whole T D (entries_of v) a (count e) l (meant c x q a e).found (seen whole x a v)
    unfolding meant
    agree-meant x q a g = same-parted x q a (parting x) g
