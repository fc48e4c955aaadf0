-- Into a called definition and into a passed argument: both walks make the move, or neither. Assumes nothing.
use Prim.Native.Nat.{ℕ, suc, ◌+◌, ◌-◌, ◌≤◌}
use Rattle.std.proofs.Common.{arith, ap, sym, ◌∙◌, subst}
use Rattle.std.specs.Prelude.{◌≡◌, refl, Bool, true, false, cond, length}
use Rattle.std.proofs.Math.Option.{Option, some}
use mathlib.Core.List.{List, [], ◌∷◌}
use Rattle.std.proofs.Math.ListN.{get_elem?}
use Rattle.tree.specs.Tree.{Name, Tree, Term, Terms, ts_nil, ts_cons, def}
use Rattle.rules.specs.Names.{is_var}
use Rattle.rules.specs.Table.{Err}
use Rattle.rules.specs.Tails.{Tail, empty, parent}
use Rattle.rules.specs.Rows.{Filter, Row, Env, count, param, params, filter_of, inside}
use Rattle.rules.specs.Filters.{Top, Found}
use Rattle.rules.specs.Outs.{Out, size, Made, binds, call_out, arity}
use Rattle.rules.specs.Rules.{term, args}
use Rattle.rules.specs.Slices.{Table, Slice}
use Rattle.walks.specs.TreeWalk as ByName
use Rattle.walks.specs.TreeWalk.{View, Entry, Seen}
use Rattle.walks.specs.TableWalk as ByNumber
use Rattle.walks.specs.TableWalk.{Cells, Cell, skip, here}
use Rattle.walks.specs.Together.{nodes_of, entries_of, entry_of, SamePick, s_arg, Known}
use Rattle.walks.proofs.Holds.{has-error, node_at, Holds, Peeled, peel}
use Rattle.walks.proofs.Agree.{Agree, ag_value, ag_arg, ag_filter, Same, s_nothing, s_argument, s_local, s_module, s_native}
use Rattle.walks.proofs.Match.{Match, stands}
use Rattle.walks.proofs.Places.{holds-place, alike}
use Rattle.walks.proofs.Each.{args-arity, Moved}

-- ---- how many parameters are pushed

count-param : (b : Bool) (x : Name) (e : Env) → count (cond b (Row.var x) (Row.arg x) ∷ e) ≡ suc (count e)
count-param true x e = refl
count-param false x e = refl

count-params : (xs : List Name) (e : Env) → count (params xs e) ≡ length xs + count e
count-params [] e = omega arith
count-params (x ∷ xs) e = omega (arith, count-params xs (param x e), count-param (is_var x.text) x e)

-- what the arguments of a call push is dropped again by a skip of as many
skip-pass : (xs : List Name) (ns : List ℕ) (j : ℕ) (l w : Cells) → length ns ≡ length xs → skip (length xs + j) (ByNumber.pass (binds xs ns) l w) ≡ skip j w
skip-pass [] ns j l w q = let z : 0 + j ≡ j = omega arith in ap (λ (k : ℕ). skip k w) z
skip-pass (x ∷ xs) [] j l w q = absurd (omega arith)
skip-pass (x ∷ xs) (n ∷ ns) j l w q =
    let z : suc (length xs) + j ≡ length xs + suc j = omega arith in
    let w' : Cells = Cells.cell (ByNumber.given (record { isv = is_var x.text; num = n }) l) w in
    ap (λ (k : ℕ). skip k (ByNumber.pass (binds xs ns) l w')) z ∙ skip-pass xs ns (suc j) l w' (omega arith)

skip-params : (xs : List Name) (ns : List ℕ) (e : Env) (l w : Cells) → length ns ≡ length xs
    → w ≡ skip (count (params xs e) - count e) (ByNumber.pass (binds xs ns) l w)
skip-params xs ns e l w q =
    let z : length xs + 0 ≡ count (params xs e) - count e = omega (arith, count-params xs e) in
    sym (skip-pass xs ns 0 l w q) ∙ ap (λ (k : ℕ). skip k (ByNumber.pass (binds xs ns) l w)) z

module _ (whole : Tree) (T : Table) (D : List (List Filter)) where
  -- one parameter: a variable or a filter argument
  pass-one : (b : Bool) (x : Name) (t : Term) (m : ℕ) (c c' : Top) (e e' : Env) (v v' : View) (l l' : Cells)
      → Holds T m (suc m) (term c t e (suc m) empty) → Agree whole T D c e v l → Agree whole T D c' e' v' l'
      → Agree whole T D c' (cond b (Row.var x) (Row.arg x) ∷ e') (View.entry (cond b (Entry.value x t) (Entry.arg x t v)) v')
      (Cells.cell (cond b (Cell.value m) (Cell.arg m l)) l')
  pass-one true x t m c c' e e' v v' l l' h g g' = ag_value (holds-place whole T t m (suc m) c e empty h) g'
  pass-one false x t m c c' e e' v v' l l' h g g' = ag_arg empty h g g'

  -- all of them
  passes : (xs : List Name) (ts : Terms) (m : ℕ) (c c' : Top) (e e' : Env) (v v' : View) (l l' : Cells) → arity ts ≡ length xs
      → Slice T m (args c ts e m).more → (args c ts e m).errs ≡ [] → Agree whole T D c e v l → Agree whole T D c' e' v' l'
      → Agree whole T D c' (params xs e') (ByName.pass xs ts v v') (ByNumber.pass (binds xs (args c ts e m).made) l l')
  unfolding term
  passes [] ts m c c' e e' v v' l l' q s f g g' = g'
  passes (x ∷ xs) ts_nil m c c' e e' v v' l l' q s f g g' = absurd (omega arith)
  passes (x ∷ xs) (ts_cons t ts) m c c' e e' v v' l l' q s f g g' =
      let a : Out = term c t e (suc m) empty in
      let k : ℕ = m + size a in
      let o : Made (List ℕ) = args c ts e k in
      let y : Peeled T m a o.more o.errs = peel T m a o.more o.errs s f in
      let v'' : View = View.entry (ByName.given x t v) v' in
      let l'' : Cells = Cells.cell (ByNumber.given (record { isv = is_var x.text; num = m }) l) l' in
      passes xs ts k c c' e (param x e') v v'' l l'' (omega arith) y.rest y.fine g (pass-one (is_var x.text) x t m c c' e e' v v' l l' y.first g g')

  -- into the body of a definition that stood where w is the list
  into-body : (d : Filter) (p : ℕ) (t : Term) (r : Tail) (ts : Terms) (m : ℕ) (c c' : Top) (e e' : Env) (v v' : View) (l w : Cells)
      → arity ts ≡ length d.params
      → Holds T d.number (suc d.number) (term c' t (inside d.name d.params d.number e') (suc d.number) r)
      → Slice T m (args c ts e m).more → (args c ts e m).errs ≡ [] → Agree whole T D c e v l → Agree whole T D c' e' v' w
      → Match whole T D (ByName.in_body (def p d.name d.params t) v' ts v) (here d.number (ByNumber.pass (binds d.params (args c ts e m).made) l w))
  into-body d p t r ts m c c' e e' v v' l w z h s f g g' =
      let xs : List Name = d.params in
      let ns : List ℕ = (args c ts e m).made in
      let l' : Cells = ByNumber.pass (binds xs ns) l w in
      let own : Filter = filter_of d.name xs d.number e' parent in
      let g₁ : Agree whole T D c' (params xs e') (ByName.pass xs ts v v') l' = passes xs ts m c c' e e' v v' l w z s f g g' in
      let g₂ : Agree whole T D c' e' v' (skip (count (params xs e') - count e') l') =
      subst (Agree whole T D c' e' v') (skip-params xs ns e' l w (args-arity c ts e m ∙ z)) g' in
      let b : count e' ≤ count (params xs e') = omega (arith, count-params xs e') in
      stands whole T D t d.number (suc d.number) c' (inside d.name xs d.number e') r
      (View.filter (def p d.name xs t) v' (ByName.pass xs ts v v')) l' h (ag_filter own r b h g₂ g₁)

  -- ---- a call

  -- what both walks do at a call, where they see S and the record of the number n
  pub record Acts (S : Seen) (ts : Terms) (v : View) (n : ℕ) (l : Cells) : Type 0 where
    pub called : Moved whole T D (ByName.into_definition S ts v) (ByNumber.definition_of (get_elem? (nodes_of T) n) l)
    pub passed : Moved whole T D (ByName.into_argument S) (ByNumber.through (ByNumber.picked (nodes_of T) (here n l)))
    pub picks : SamePick whole T (ByName.picked_argument S) (ByNumber.picked (nodes_of T) (here n l))
    pub counts : ByName.picked_argument S ≡ entry_of (ByNumber.index (nodes_of T) (here n l)) (entries_of v)
    pub known : Known whole T S
    pub form : ByName.call_tag S ≡ ByNumber.tag_of (get_elem? (nodes_of T) n)

  through-arg : (x : Name) (t : Term) (n : ℕ) (r : Tail) (c : Top) (e : Env) (v : View) (l : Cells) (o : Option Cell) → o ≡ some (Cell.arg n l)
      → Holds T n (suc n) (term c t e (suc n) r) → Agree whole T D c e v l
      → Moved whole T D (some (ByName.stand t v)) (ByNumber.through o) × SamePick whole T (some (Entry.arg x t v)) o
  through-arg x t n r c e v l o q h g =
      rw q (stands whole T D t n (suc n) c e r v l h g, s_arg (holds-place whole T t n (suc n) c e r h) (alike whole T D g))

  pub call-acts : (ts : Terms) (n m p : ℕ) (x : Err) (r : Tail) (c : Top) (e : Env) (v : View) (l : Cells) {F : Found} {S : Seen}
      → Same whole T D (entries_of v) (arity ts) (count e) l F S → Holds T n m (call_out p (count e) r (args c ts e m) x F) → Agree whole T D c e v l → Acts S ts v n l
  unfolding call_out
  call-acts ts n m p x r c e v l s_nothing h g = absurd (has-error (args c ts e m).errs x h.fine)
  call-acts ts n m p x r c e v l (s_argument {n = k} {x = y} {t = t} r' {c = c'} {e = e'} {v = v'} {l' = l'} z w q h' g') h g =
      record {
        called = rw (node_at T n _ h.self) tt;
        passed = rw (node_at T n _ h.self) (through-arg y t k r' c' e' v' l' _ q h' g').0;
        picks = rw (node_at T n _ h.self) (through-arg y t k r' c' e' v' l' _ q h' g').1;
        counts = rw (node_at T n _ h.self) (sym w);
        known = tt;
        form = rw (node_at T n _ h.self);
      }
  call-acts ts n m p x r c e v l (s_local d {p = p'} {t = t} r' {c = c'} {e = e'} {v = v'} z b h' g') h g =
      record {
        called = rw (node_at T n _ h.self) (into-body d p' t r' ts m c c' e e' v v' l (skip (count e - d.count) l) z h' h.more h.fine g g');
        passed = rw (node_at T n _ h.self) tt;
        picks = rw (node_at T n _ h.self) tt;
        counts = rw (node_at T n _ h.self);
        known = tt;
        form = rw (node_at T n _ h.self);
      }
  call-acts ts n m p x r c e v l (s_module d {p = p'} {t = t} r' {c = c'} {e = e'} {v = v'} z h' g') h g =
      record {
        called = rw (node_at T n _ h.self) (into-body d p' t r' ts m c c' e e' v v' l (skip (count e) l) z h' h.more h.fine g g');
        passed = rw (node_at T n _ h.self) tt;
        picks = rw (node_at T n _ h.self) tt;
        counts = rw (node_at T n _ h.self);
        known = tt;
        form = rw (node_at T n _ h.self);
      }
  call-acts ts n m p x r c e v l (s_native z) h g =
      record {
        called = rw (node_at T n _ h.self) tt;
        passed = rw (node_at T n _ h.self) tt;
        picks = rw (node_at T n _ h.self) tt;
        counts = rw (node_at T n _ h.self);
        known = tt;
        form = rw (node_at T n _ h.self);
      }
