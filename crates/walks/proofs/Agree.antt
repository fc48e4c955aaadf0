-- The invariant of the two lists: the rows of the rules, the view by names and the list by numbers agree. From it: a name finds in the view what the rules found
-- in the rows, and the index that they give has the entry in the list. Assumes nothing.
use Prim.Native.Nat.{ℕ, suc, ◌+◌, ◌-◌, ◌≤◌, ◌<◌}
use Rattle.std.proofs.Common.{arith, sym, ◌∙◌, subst, eqb-true}
use Rattle.std.specs.Prelude.{◌≡◌, Bool, true, false, cond, ◌&&◌, List, [], ◌∷◌, length, get_or, eqb}
use Rattle.std.proofs.Math.Path.{refl, ap}
use Rattle.std.proofs.lemmas.Bool.{false≢true}
use Rattle.std.proofs.Math.Option.{Option, none, some, map}
use Rattle.std.proofs.Math.ListN.{get_elem?}
use Rattle.tree.specs.Tree.{Name, Tree, Term, def}
use Rattle.rules.specs.Names.{Text, same}
use Rattle.rules.specs.Tails.{Tail}
use Rattle.rules.specs.Rows.{Filter, Row, Env, count, find_var, find_label, inside}
use Rattle.rules.specs.Filters.{Imported, Top, or_else, last_that, imported_var, global_var, variable, Found, later, fits, find}
use Rattle.rules.specs.Filters as Filters
use Rattle.rules.specs.Rules.{term}
use Rattle.rules.specs.Slices.{Table}
use Rattle.walks.specs.TreeWalk as ByName
use Rattle.walks.specs.TreeWalk.{View, Entry, Home, Seen, body_place, push_each, first_that, is_variable, is_label, is_argument, look}
use Rattle.walks.specs.TableWalk as ByNumber
use Rattle.walks.specs.TableWalk.{Cells, Cell, push_cells, skip, cell_at}
use Rattle.walks.specs.Together.{all_imported, all_globals, entries_of, PlaceAt, SameEntry, s_imported, s_global, s_var, s_value, s_label}
use Rattle.walks.proofs.Holds.{Holds}

-- ---- the lists

module _ (whole : Tree) (T : Table) (D : List (List Filter)) where
  -- c is what the module h sees past its locals, where D has the definitions of all modules
  pub record Past (c : Top) (h : Home) : Type 0 where
    pub uses : c.uses ≡ h.uses
    pub number : Filters.home_of c ≡ h.number
    pub imported : c.imported ≡ all_imported whole
    pub globals : c.globals ≡ all_globals whole
    pub natives : c.natives ≡ whole.natives
    pub earlier : (k : ℕ) → k < h.number → get_or c.earlier k [] ≡ get_or D k []

  -- what the table walk's list ends in
  abbrev pub ending : Cells
  ending = ByNumber.outer (length (all_imported whole)) (length (all_globals whole))

  -- A definition stands where the rules put it, and the list where it stood agrees with the list less the skip; so a call of it, and of itself in its body,
  -- finds what it saw
  pub data Agree : Top → Env → View → Cells → Type 0 where
    ag_end : {c : Top} {h : Home} → Past c h → Agree c [] (ByName.outer whole h) ending
    ag_var : {c : Top} {x : Name} {p n i : ℕ} {xs : List Name} {e : Env} {v : View} {l : Cells} → PlaceAt whole T n p → get_elem? xs i ≡ some x → Agree c e v l
        → Agree c (Row.var x ∷ e) (View.entry (Entry.var x p xs) v) (Cells.cell (Cell.var n i) l)
    ag_value : {c : Top} {x : Name} {t : Term} {n : ℕ} {e : Env} {v : View} {l : Cells} → PlaceAt whole T n (body_place t) → Agree c e v l
        → Agree c (Row.var x ∷ e) (View.entry (Entry.value x t) v) (Cells.cell (Cell.value n) l)
    ag_label : {c : Top} {x : Name} {p n : ℕ} {e : Env} {v : View} {l : Cells} → PlaceAt whole T n p → Agree c e v l
        → Agree c (Row.label x ∷ e) (View.entry (Entry.label x p) v) (Cells.cell (Cell.label n) l)
    ag_arg : {c : Top} {x : Name} {t : Term} {n : ℕ} (r : Tail) {c' : Top} {e e' : Env} {v v' : View} {l l' : Cells}
        → Holds T n (suc n) (term c' t e' (suc n) r) → Agree c' e' v' l' → Agree c e v l
        → Agree c (Row.arg x ∷ e) (View.entry (Entry.arg x t v') v) (Cells.cell (Cell.arg n l') l)
    ag_filter : {c : Top} (d : Filter) {p : ℕ} {t : Term} (r : Tail) {e e' : Env} {v v' : View} {l : Cells}
        → d.count ≤ count e → Holds T d.number (suc d.number) (term c t (inside d.name d.params d.number e') (suc d.number) r)
        → Agree c e' v' (skip (count e - d.count) l) → Agree c e v l
        → Agree c (Row.filter d ∷ e) (View.filter (def p d.name d.params t) v' v) l

-- ---- entries that are pushed one after the other

pub home-push : {A : Type 0} (make : A → Entry) (xs : List A) (v : View) → ByName.home_of (push_each make xs v) ≡ ByName.home_of v
home-push make [] v = refl
home-push make (x ∷ xs) v = home-push make xs (View.entry (make x) v)

pub home-outer : (whole : Tree) (h : Home) → ByName.home_of (ByName.outer whole h) ≡ h
home-outer whole h = home-push Entry.imported (all_imported whole) (push_each Entry.global (all_globals whole) (View.end h)) ∙ home-push Entry.global (all_globals whole) (View.end h)

-- none of them fits
first-push : {A : Type 0} (make : A → Entry) (F : Entry → Bool) → ((x : A) → F (make x) ≡ false) → (xs : List A) (v : View) → first_that F (push_each make xs v) ≡ first_that F v
first-push make F no' [] v = refl
first-push make F no' (x ∷ xs) v =
    first-push make F no' xs (View.entry (make x) v) ∙ ap (λ b. cond b (some (make x)) (first_that F v)) (no' x)

first-outer : (whole : Tree) (h : Home) (F : Entry → Bool) → ((x : Imported) → F (Entry.imported x) ≡ false) → ((x : Name) → F (Entry.global x) ≡ false)
    → first_that F (ByName.outer whole h) ≡ none
first-outer whole h F i g =
    first-push Entry.imported F i (all_imported whole) (push_each Entry.global (all_globals whole) (View.end h)) ∙ first-push Entry.global F g (all_globals whole) (View.end h)

look-push : {A : Type 0} (make : A → Entry) (f : Text) (a : ℕ) → ((x : A) → is_argument f a (make x) ≡ false) → (xs : List A) (v : View) → look f a (push_each make xs v) ≡ look f a v
look-push make f a no' [] v = refl
look-push make f a no' (x ∷ xs) v =
    look-push make f a no' xs (View.entry (make x) v) ∙ ap (λ b. cond b (Seen.argument (make x)) (look f a v)) (no' x)

look-outer : (whole : Tree) (h : Home) (f : Text) (a : ℕ) → look f a (ByName.outer whole h) ≡ Seen.nothing
look-outer whole h f a =
    look-push Entry.imported f a (λ x. refl) (all_imported whole) (push_each Entry.global (all_globals whole) (View.end h))
    ∙ look-push Entry.global f a (λ x. refl) (all_globals whole) (View.end h)

-- ---- variables

-- an index in the list has an entry that matches the one found by name, and no argument
module _ (whole : Tree) (T : Table) where
  pub record PointsAt (es : List Entry) (l : Cells) (i : ℕ) (a : Entry) : Type 0 where
    pub counted : get_elem? es i ≡ some a
    pub it : Cell
    pub there : cell_at i l ≡ some it
    pub matches : SameEntry whole T a it
    pub bare : ByNumber.through (some it) ≡ none

  abbrev pub Points : List Entry → Cells → Option ℕ → Option Entry → Type 0
  Points es l none none = Unit {0}
  Points es l none (some a) = ⊥
  Points es l (some i) none = ⊥
  Points es l (some i) (some a) = PointsAt es l i a

  points_later : (x : Entry) (es : List Entry) (b : Cell) (l : Cells) (o : Option ℕ) (a : Option Entry) → Points es l o a
      → Points (x ∷ es) (Cells.cell b l) (map suc o) a
  points_later x es b l none none h = tt
  points_later x es b l none (some a) h = h
  points_later x es b l (some i) none h = h
  points_later x es b l (some i) (some a) h = record { counted = h.counted; it = h.it; there = h.there; matches = h.matches; bare = h.bare }

  points-cond : (b : Bool) (es : List Entry) (l : Cells) (o o' : Option ℕ) (a a' : Option Entry) → Points es l o a → Points es l o' a'
      → Points es l (cond b o o') (cond b a a')
  points-cond true es l o o' a a' h k = h
  points-cond false es l o o' a a' h k = k

  -- an entry that fits is the first
  points-here : (b : Bool) (a : Entry) (it : Cell) (es : List Entry) (l : Cells) (o : Option ℕ) (x : Option Entry) → SameEntry whole T a it
      → ByNumber.through (some it) ≡ none → Points es l o x → Points (a ∷ es) (Cells.cell it l) (cond b (some 0) (map suc o)) (cond b (some a) x)
  points-here b a it es l o x s t h =
      points-cond b (a ∷ es) (Cells.cell it l) (some 0) (map suc o) (some a) x (record { counted = refl; it = it; there = refl; matches = s; bare = t })
      (points_later a es it l o x h)

  -- ---- past the locals

  -- the last that fits, else what lies behind all of them
  past_index : (k : ℕ) (b : Bool) (m o : Option ℕ)
      → or_else m (map (λ i. k + i) (cond b (some 0) (map suc o))) ≡ or_else (or_else m (cond b (some k) none)) (map (λ i. suc k + i) o)
  past_index k b (some i) o = refl
  past_index k true none o = ap some (omega arith)
  past_index k false none none = refl
  past_index k false none (some i) = ap some (omega arith)

  points-push : {A : Type 0} (make : A → Entry) (kind : ℕ → Cell) (F : Entry → Bool) (xs : List A) (i : ℕ) (v : View) (l : Cells) (o : Option ℕ)
      → ((j : ℕ) (x : A) → get_elem? xs j ≡ some x → SameEntry whole T (make x) (kind (i + j))) → ((j : ℕ) → ByNumber.through (some (kind j)) ≡ none)
      → Points (entries_of v) l o (first_that F v)
      → Points (entries_of (push_each make xs v)) (push_cells kind i (length xs) l) (or_else (last_that (λ x. F (make x)) xs) (map (λ k. length xs + k) o)) (first_that F (push_each make xs v))
  points-push make kind F [] i v l none s t h = h
  points-push make kind F [] i v l (some k) s t h =
      let q : k ≡ 0 + k = omega arith in subst (λ (j : ℕ). Points (entries_of v) l (some j) (first_that F v)) q h
  points-push make kind F (x ∷ xs) i v l o s t h =
      let z : i + 0 ≡ i = omega arith in
      let s₀ : SameEntry whole T (make x) (kind i) = subst (λ (j : ℕ). SameEntry whole T (make x) (kind j)) z (s 0 x refl) in
      let o' : Option ℕ = cond (F (make x)) (some 0) (map suc o) in
      let h' : Points (make x ∷ entries_of v) (Cells.cell (kind i) l) o' (first_that F (View.entry (make x) v)) =
      points-here (F (make x)) (make x) (kind i) (entries_of v) l o (first_that F v) s₀ (t i) h in
      let more : (j : ℕ) (y : _) → get_elem? xs j ≡ some y → SameEntry whole T (make y) (kind (suc i + j)) =
      λ j y q. let w : i + suc j ≡ suc i + j = omega arith in subst (λ (k : ℕ). SameEntry whole T (make y) (kind k)) w (s (suc j) y q) in
      subst (λ (w : Option ℕ). Points (entries_of (push_each make xs (View.entry (make x) v))) (push_cells kind (suc i) (length xs) (Cells.cell (kind i) l)) w (first_that F (push_each make xs (View.entry (make x) v))))
      (past_index (length xs) (F (make x)) (last_that (λ x. F (make x)) xs) o)
      (points-push make kind F xs (suc i) (View.entry (make x) v) (Cells.cell (kind i) l) o' more t h')

  outer-index : (m : ℕ) (a b : Option ℕ)
      → or_else a (map (λ k. m + k) (or_else b none)) ≡ or_else (map (λ i. 0 + i) a) (map (λ i. 0 + (m + i)) b)
  outer-index m (some i) b = ap some (omega arith)
  outer-index m none none = refl
  outer-index m none (some i) = ap some (omega arith)

  -- "all modules' imported variables, last first, matching only the current module's; else globals, last first"
  points-outer : (n : ℕ) (h : Home) (x : Text)
      → Points
      (entries_of (ByName.outer whole h))
      (ByNumber.outer (length (all_imported whole)) (length (all_globals whole)))
      (or_else (map (λ i. 0 + i) (last_that (λ v. eqb v.home n && same x v.name.text) (all_imported whole)))
      (map (λ i. 0 + (length (all_imported whole) + i)) (last_that (λ v. same x v.text) (all_globals whole))))
      (first_that (is_variable n x) (ByName.outer whole h))
  points-outer n h x =
      let F : Entry → Bool = is_variable n x in
      let I : List Imported = all_imported whole in
      let G : List Name = all_globals whole in
      let i : Option ℕ = last_that (λ v. eqb v.home n && same x v.name.text) I in
      let g : Option ℕ = last_that (λ v. same x v.text) G in
      let v : View = push_each Entry.global G (View.end h) in
      let l : Cells = push_cells Cell.global 0 (length G) Cells.end in
      let globals : Points (entries_of v) l (or_else g none) (first_that F v) =
      points-push Entry.global Cell.global F G 0 (View.end h) Cells.end none
      (λ j y q. s_global (let z : 0 + j ≡ j = omega arith in subst (λ (k : ℕ). get_elem? G k ≡ some y) (sym z) q)) (λ j. refl) tt in
      subst (λ (w : Option ℕ). Points (entries_of (push_each Entry.imported I v)) (push_cells Cell.imported 0 (length I) l) w (first_that F (push_each Entry.imported I v)))
      (outer-index (length I) i g)
      (points-push Entry.imported Cell.imported F I 0 v l (or_else g none)
      (λ j y q. s_imported (let z : 0 + j ≡ j = omega arith in subst (λ (k : ℕ). get_elem? I k ≡ some y) (sym z) q)) (λ j. refl) globals)

  -- ---- one more binding

  index-later : (k m : ℕ) (f a b : Option ℕ)
      → or_else (map suc f) (or_else (map (λ i. suc k + i) a) (map (λ i. suc k + (m + i)) b))
      ≡ map suc (or_else f (or_else (map (λ i. k + i) a) (map (λ i. k + (m + i)) b)))
  index-later k m (some i) a b = refl
  index-later k m none (some i) b = ap some (omega arith)
  index-later k m none none none = refl
  index-later k m none none (some i) = ap some (omega arith)

  cond-else : (b : Bool) (f g : Option ℕ) → or_else (cond b (some 0) f) g ≡ cond b (some 0) (or_else f g)
  cond-else true f g = refl
  cond-else false f g = refl

  variable-later : (c : Top) (x : Text) (e : Env)
      → or_else (map suc (find_var x e))
      (or_else (map (λ i. suc (count e) + i) (imported_var c x)) (map (λ i. suc (count e) + (length c.imported + i)) (global_var c x)))
      ≡ map suc (variable c x e)
  unfolding variable
  variable-later c x e = index-later (count e) (length c.imported) (find_var x e) (imported_var c x) (global_var c x)

  variable-here : (c : Top) (x : Text) (y : Name) (e : Env) → variable c x (Row.var y ∷ e) ≡ cond (same x y.text) (some 0) (map suc (variable c x e))
  unfolding variable
  variable-here c x y e =
      cond-else (same x y.text) (map suc (find_var x e)) _ ∙ ap (cond (same x y.text) (some 0)) (variable-later c x e)

  variable-label : (c : Top) (x : Text) (y : Name) (e : Env) → variable c x (Row.label y ∷ e) ≡ map suc (variable c x e)
  unfolding variable
  variable-label c x y e = variable-later c x e

  variable-arg : (c : Top) (x : Text) (y : Name) (e : Env) → variable c x (Row.arg y ∷ e) ≡ map suc (variable c x e)
  unfolding variable
  variable-arg c x y e = variable-later c x e

  variable-filter : (c : Top) (x : Text) (d : Filter) (e : Env) → variable c x (Row.filter d ∷ e) ≡ variable c x e
  unfolding variable
  variable-filter c x d e = refl

-- ---- what a name finds

module _ (whole : Tree) (T : Table) (D : List (List Filter)) where
  pub agree-home : {c : Top} {e : Env} {v : View} {l : Cells} → Agree whole T D c e v l → Past whole T D c (ByName.home_of v)
  agree-home (ag_end {c = c} {h = h} past) = subst (Past whole T D c) (sym (home-outer whole h)) past
  agree-home (ag_var h q g) = agree-home g
  agree-home (ag_value h g) = agree-home g
  agree-home (ag_label h g) = agree-home g
  agree-home (ag_arg r h g' g) = agree-home g
  agree-home (ag_filter d r b h g' g) = agree-home g

  -- past all locals lies the end
  pub skip_all : {c : Top} {e : Env} {v : View} {l : Cells} → Agree whole T D c e v l → skip (count e) l ≡ ending whole T D
  skip_all (ag_end past) = refl
  skip_all (ag_var h q g) = skip_all g
  skip_all (ag_value h g) = skip_all g
  skip_all (ag_label h g) = skip_all g
  skip_all (ag_arg r h g' g) = skip_all g
  skip_all (ag_filter d r b h g' g) = skip_all g

  -- by name in the view, by the index o in the list
  abbrev Found_at : Top → Text → View → Cells → Option ℕ → Type 0
  Found_at c x v l o = Points whole T (entries_of v) l o (first_that (is_variable (Filters.home_of c) x) v)

  var-end : (x : Text) (c : Top) (h : Home) → Past whole T D c h → Found_at c x (ByName.outer whole h) (ending whole T D) (variable c x [])
  unfolding variable
  var-end x c h past = rw (past.imported, past.globals) (points-outer whole T (Filters.home_of c) h x)

  -- a variable of this name, or another
  var-here : (c : Top) (x : Text) (y : Name) (a : Entry) (b : Cell) (e : Env) (v : View) (l : Cells) → SameEntry whole T a b → ByNumber.through (some b) ≡ none
      → Found_at c x v l (variable c x e)
      → Points whole T (a ∷ entries_of v) (Cells.cell b l) (variable c x (Row.var y ∷ e)) (cond (same x y.text) (some a) (first_that (is_variable (Filters.home_of c) x) v))
  var-here c x y a b e v l s t h =
      let found : Option Entry = first_that (is_variable (Filters.home_of c) x) v in
      subst (λ (o : Option ℕ). Points whole T (a ∷ entries_of v) (Cells.cell b l) o (cond (same x y.text) (some a) found)) (sym (variable-here whole T c x y e))
      (points-here whole T (same x y.text) a b (entries_of v) l (variable c x e) found s t h)

  -- a variable that is found by name is the one that its index has
  pub agree-var : {c : Top} {e : Env} {v : View} {l : Cells} (x : Text) → Agree whole T D c e v l → Found_at c x v l (variable c x e)
  agree-var x (ag_end {c = c} {h = h} past) = var-end x c h past
  agree-var x (ag_var {c = c} {x = y} {p = p} {n = n} {i = i} {xs = xs} {e = e} {v = v} {l = l} h q g) =
      var-here c x y (Entry.var y p xs) (Cell.var n i) e v l (s_var h q) refl (agree-var x g)
  agree-var x (ag_value {c = c} {x = y} {t = t} {n = n} {e = e} {v = v} {l = l} h g) =
      var-here c x y (Entry.value y t) (Cell.value n) e v l (s_value h) refl (agree-var x g)
  agree-var x (ag_label {c = c} {x = y} {p = p} {n = n} {e = e} {v = v} {l = l} h g) =
      subst (Found_at c x (View.entry (Entry.label y p) v) (Cells.cell (Cell.label n) l)) (sym (variable-label whole T c x y e))
      (points_later whole T (Entry.label y p) (entries_of v) (Cell.label n) l (variable c x e) (first_that (is_variable (Filters.home_of c) x) v) (agree-var x g))
  agree-var x (ag_arg {c = c} {x = y} {t = t} {n = n} r {e = e} {v = v} {v' = v'} {l = l} {l' = l'} h g' g) =
      subst (Found_at c x (View.entry (Entry.arg y t v') v) (Cells.cell (Cell.arg n l') l)) (sym (variable-arg whole T c x y e))
      (points_later whole T (Entry.arg y t v') (entries_of v) (Cell.arg n l') l (variable c x e) (first_that (is_variable (Filters.home_of c) x) v) (agree-var x g))
  agree-var x (ag_filter {c = c} d r {e = e} {v = v} {l = l} b h g' g) = subst (Found_at c x v l) (sym (variable-filter whole T c x d e)) (agree-var x g)

  -- and so is a label
  pub agree-label : {c : Top} {e : Env} {v : View} {l : Cells} (x : Text) → Agree whole T D c e v l
      → Points whole T (entries_of v) l (find_label x e) (first_that (is_label x) v)
  agree-label x (ag_end {h = h} past) =
      subst (Points whole T (entries_of (ByName.outer whole h)) (ending whole T D) none) (sym (first-outer whole h (is_label x) (λ y. refl) (λ y. refl))) tt
  agree-label x (ag_var {x = y} {p = p} {n = n} {i = i} {xs = xs} {e = e} {v = v} {l = l} h q g) =
      points_later whole T (Entry.var y p xs) (entries_of v) (Cell.var n i) l (find_label x e) (first_that (is_label x) v) (agree-label x g)
  agree-label x (ag_value {x = y} {t = t} {n = n} {e = e} {v = v} {l = l} h g) =
      points_later whole T (Entry.value y t) (entries_of v) (Cell.value n) l (find_label x e) (first_that (is_label x) v) (agree-label x g)
  agree-label x (ag_label {x = y} {p = p} {n = n} {e = e} {v = v} {l = l} h g) =
      points-here whole T (same x y.text) (Entry.label y p) (Cell.label n) (entries_of v) l (find_label x e) (first_that (is_label x) v) (s_label h) refl (agree-label x g)
  agree-label x (ag_arg {x = y} {t = t} {n = n} r {e = e} {v = v} {v' = v'} {l = l} {l' = l'} h g' g) =
      points_later whole T (Entry.arg y t v') (entries_of v) (Cell.arg n l') l (find_label x e) (first_that (is_label x) v) (agree-label x g)
  agree-label x (ag_filter d r b h g' g) = agree-label x g

  -- ---- calls

  -- A call with a arguments, where k bindings are in view and es are the entries, means by name and by the rules nothing; or the same argument, which is the entry of the index; or the
  -- same definition, whose list is the list less the skip; or a native
  pub data Same (es : List Entry) (a k : ℕ) (l : Cells) : Found → Seen → Type 0 where
    s_nothing : Same es a k l Found.nothing Seen.nothing
    s_argument : {i n : ℕ} {x : Name} {t : Term} (r : Tail) {c : Top} {e : Env} {v : View} {l' : Cells}
        → a ≡ 0 → get_elem? es i ≡ some (Entry.arg x t v) → cell_at i l ≡ some (Cell.arg n l') → Holds T n (suc n) (term c t e (suc n) r) → Agree whole T D c e v l'
        → Same es a k l (Found.argument i) (Seen.argument (Entry.arg x t v))
    s_local : (d : Filter) {p : ℕ} {t : Term} (r : Tail) {c : Top} {e : Env} {v : View}
        → a ≡ length d.params → d.count ≤ k
        → Holds T d.number (suc d.number) (term c t (inside d.name d.params d.number e) (suc d.number) r)
        → Agree whole T D c e v (skip (k - d.count) l)
        → Same es a k l (Found.local d) (Seen.defined (def p d.name d.params t) v)
    s_module : (d : Filter) {p : ℕ} {t : Term} (r : Tail) {c : Top} {e : Env} {v : View}
        → a ≡ length d.params
        → Holds T d.number (suc d.number) (term c t (inside d.name d.params d.number e) (suc d.number) r)
        → Agree whole T D c e v (skip k l)
        → Same es a k l (Found.of_module d) (Seen.defined (def p d.name d.params t) v)
    s_native : {i : ℕ} {ps : List Name} → a ≡ length ps → Same es a k l (Found.of_native i ps) Seen.native

  skip-suc : (k c : ℕ) (b : Cell) (l : Cells) → c ≤ k → skip (k - c) l ≡ skip (suc k - c) (Cells.cell b l)
  skip-suc k c b l h = let e : suc (k - c) ≡ suc k - c = omega arith in ap (λ (j : ℕ). skip j (Cells.cell b l)) e

  same-later : {es : List Entry} {a k : ℕ} {l : Cells} {F : Found} {S : Seen} (x : Entry) (b : Cell) → Same es a k l F S → Same (x ∷ es) a (suc k) (Cells.cell b l) (later F) S
  same-later x b s_nothing = s_nothing
  same-later x b (s_argument r z y s h g) = s_argument r z y s h g
  same-later {k} {l} x b (s_local d r {c = c} {e = e} {v = v} z w h g) = s_local d r z (omega arith) h (subst (Agree whole T D c e v) (skip-suc k d.count b l w) g)
  same-later x b (s_module d r z h g) = s_module d r z h g
  same-later x b (s_native z) = s_native z

  pub same_cond : {es : List Entry} {a k : ℕ} {l : Cells} {F F' : Found} {S S' : Seen} (b : Bool)
      → (b ≡ true → Same es a k l F S) → Same es a k l F' S' → Same es a k l (cond b F F') (cond b S S')
  same_cond true x y = x refl
  same_cond false x y = y

  and_right : (a b : Bool) → (a && b) ≡ true → b ≡ true
  and_right true b h = h
  and_right false b h = absurd (false≢true h)

  -- by the arity of what fits
  pub arity-of : (f g : Text) (a n : ℕ) → (same f g && eqb a n) ≡ true → a ≡ n
  arity-of f g a n h = eqb-true a n (and_right (same f g) (eqb a n) h)

  -- "Filter by name and arity: innermost local"
  pub agree-find : {c : Top} {e : Env} {v : View} {l : Cells} (f : Text) (a : ℕ) → Agree whole T D c e v l → Same (entries_of v) a (count e) l (find f a e) (look f a v)
  agree-find f a (ag_end {h = h} past) = subst (Same (entries_of (ByName.outer whole h)) a 0 (ending whole T D) Found.nothing) (sym (look-outer whole h f a)) s_nothing
  agree-find f a (ag_var {x = x} {p = p} {n = n} {i = i} {xs = xs} h q g) = same-later (Entry.var x p xs) (Cell.var n i) (agree-find f a g)
  agree-find f a (ag_value {x = x} {t = t} {n = n} h g) = same-later (Entry.value x t) (Cell.value n) (agree-find f a g)
  agree-find f a (ag_label {x = x} {p = p} {n = n} h g) = same-later (Entry.label x p) (Cell.label n) (agree-find f a g)
  agree-find f a (ag_arg {x = x} {t = t} {n = n} r {v' = v'} {l' = l'} h g' g) =
      same_cond (same f x.text && eqb a 0) (λ w. s_argument r (arity-of f x.text a 0 w) refl refl h g')
      (same-later (Entry.arg x t v') (Cell.arg n l') (agree-find f a g))
  agree-find f a (ag_filter d r b h g' g) =
      same_cond (fits f a d) (λ t. s_local d r (arity-of f d.name.text a (length d.params) t) b h g') (agree-find f a g)
