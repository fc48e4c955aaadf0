-- Rows of members: arguments, keys of patterns, parts of paths. Both walks have the same, one by one. Assumes nothing.
use Prim.Native.Nat.{ℕ, suc, ◌+◌}
use Rattle.std.proofs.Common.{arith, ap, sym, ◌∙◌, subst, length-append}
use Rattle.std.specs.Prelude.{◌≡◌, refl, Bool, true, false, cond, ◌&&◌, List, [], ◌∷◌, ◌++◌, eqb}
use Rattle.std.proofs.Math.Option.{Option, none, some}
use Rattle.std.proofs.Math.ListN.{length, get_elem?}
use Rattle.tree.specs.Tree.{Name, Tree, Terms, ts_nil, ts_cons, Pattern, p_var, p_arr, p_obj, OptPattern, no_pattern, a_pattern, Patterns, ps_nil, ps_cons, PatEntries, pes_nil, pes_cons, Parts, parts_nil, parts_cons, Part, part_index, part_range, Bound, without_bound, a_bound}
use Rattle.rules.specs.Table.{Pat, Pats, Step}
use Rattle.rules.specs.Tails.{empty}
use Rattle.rules.specs.Rows as Rows
use Rattle.rules.specs.Rows.{Filter, Row, Env}
use Rattle.rules.specs.Filters.{Top}
use Rattle.rules.specs.Outs.{Out, size, Made, binds, vars, vars_all, vars_keyed, vars_of, arity}
use Rattle.rules.specs.Rules.{term, args, pattern, elements, keyed, opt_pattern, parts, part, bound}
use Rattle.rules.specs.Slices.{Table, Slice, slice-left, slice-right}
use Rattle.walks.specs.Moves.{Role, role_number, Member, ranked, pick}
use Rattle.walks.specs.TreeWalk as ByName
use Rattle.walks.specs.TreeWalk.{View, Entry, arguments, keys, element_keys, entry_keys, keys_of, path_part, path_parts}
use Rattle.walks.specs.TableWalk as ByNumber
use Rattle.walks.specs.TableWalk.{Cells, Cell, here, at_each, arg_numbers, pat_vars, pats_vars, pat_keys, pats_keys, opt_vars, opt_keys, path_step, path_steps}
use Rattle.walks.specs.Together.{PlaceAt}
use Rattle.walks.proofs.Holds.{nil-left, nil-right, Peeled, peel, only}
use Rattle.walks.proofs.Agree.{Agree, ag_var}
use Rattle.walks.proofs.Match.{Match, stands}

-- the numbers of arguments, each with its mark
pub numbers-bound : (ps : List Name) (ns : List ℕ) → length ns ≡ length ps → arg_numbers (binds ps ns) ≡ ns
numbers-bound [] [] q = refl
numbers-bound [] (n ∷ ns) q = absurd (omega arith)
numbers-bound (p ∷ ps) [] q = refl
numbers-bound (p ∷ ps) (n ∷ ns) q = ap (◌∷◌ n) (numbers-bound ps ns (omega arith))

pub args-arity : (c : Top) (ts : Terms) (e : Env) (m : ℕ) → length (args c ts e m).made ≡ arity ts
unfolding term
args-arity c ts_nil e m = refl
args-arity c (ts_cons t ts) e m = ap suc (args-arity c ts e (m + size (term c t e (suc m) empty)))

at_each-append : (xs ys : List ℕ) (l : Cells) → at_each (xs ++ ys) l ≡ at_each xs l ++ at_each ys l
at_each-append [] ys l = refl
at_each-append (x ∷ xs) ys l = ap (◌∷◌ (here x l)) (at_each-append xs ys l)

-- ---- the variables of a pattern: as many in the table as in the tree

mutual
  unfolding term

  pub pattern-vars : (c : Top) (x : Pattern) (p : ℕ) (e : Env) (m : ℕ) → pat_vars (pattern c x p e m).made ≡ length (vars x)
  pattern-vars c (p_var q x) p e m = refl
  pattern-vars c (p_arr q xs) p e m = elements-vars c xs 0 p e m
  pattern-vars c (p_obj q xs) p e m = keyed-vars c xs p e m

  elements-vars : (c : Top) (xs : Patterns) (i p : ℕ) (e : Env) (m : ℕ) → pats_vars (elements c xs i p e m).made ≡ length (vars_all xs)
  elements-vars c ps_nil i p e m = refl
  elements-vars c (ps_cons x xs) i p e m =
      omega (arith, pattern-vars c x p e (suc m), elements-vars c xs (suc i) p e (suc m + length (pattern c x p e (suc m)).more), length-append (vars x) (vars_all xs))

  keyed-vars : (c : Top) (xs : PatEntries) (p : ℕ) (e : Env) (m : ℕ) → pats_vars (keyed c xs p e m).made ≡ length (vars_keyed xs)
  keyed-vars c pes_nil p e m = refl
  keyed-vars c (pes_cons q t x xs) p e m =
      let k : ℕ = m + size (term c t e (suc m) empty) in
      omega (arith, pattern-vars c x p e k, keyed-vars c xs p e (k + length (pattern c x p e k).more), length-append (vars x) (vars_keyed xs))

pub opt-vars : (c : Top) (x : OptPattern) (p : ℕ) (e : Env) (m : ℕ) → opt_vars (opt_pattern c x p e m).made ≡ length (vars_of x)
unfolding term
opt-vars c no_pattern p e m = refl
opt-vars c (a_pattern x) p e m = pattern-vars c x p e m

module _ (whole : Tree) (T : Table) (D : List (List Filter)) where
  -- two lists of states, matching one by one
  abbrev pub Both : List ByName.State → List ByNumber.State → Type 0
  Both [] [] = Unit {0}
  Both [] (b ∷ bs) = ⊥
  Both (s ∷ ss) [] = ⊥
  Both (s ∷ ss) (b ∷ bs) = Match whole T D s b × Both ss bs

  both-append : (ss ss' : List ByName.State) (bs bs' : List ByNumber.State) → Both ss bs → Both ss' bs' → Both (ss ++ ss') (bs ++ bs')
  both-append [] ss' [] bs' h k = k
  both-append [] ss' (b ∷ bs) bs' h k = absurd h
  both-append (s ∷ ss) ss' [] bs' h k = absurd h
  both-append (s ∷ ss) ss' (b ∷ bs) bs' h k = (h.0, both-append ss ss' bs bs' h.1 k)

  -- two lists of members, of the same roles and ranks
  pub record Pair (s : Member ByName.State) (b : Member ByNumber.State) : Type 0 where
    pub role : s.role ≡ b.role
    pub rank : s.rank ≡ b.rank
    pub match : Match whole T D s.state b.state

  abbrev pub Each : List (Member ByName.State) → List (Member ByNumber.State) → Type 0
  Each [] [] = Unit {0}
  Each [] (b ∷ bs) = ⊥
  Each (s ∷ ss) [] = ⊥
  Each (s ∷ ss) (b ∷ bs) = Pair s b × Each ss bs

  pub each_append : (ss ss' : List (Member ByName.State)) (bs bs' : List (Member ByNumber.State)) → Each ss bs → Each ss' bs' → Each (ss ++ ss') (bs ++ bs')
  each_append [] ss' [] bs' h k = k
  each_append [] ss' (b ∷ bs) bs' h k = absurd h
  each_append (s ∷ ss) ss' [] bs' h k = absurd h
  each_append (s ∷ ss) ss' (b ∷ bs) bs' h k = (h.0, each_append ss ss' bs bs' h.1 k)

  -- the same role and rank, by computation
  pub as_member : (r : Role) (i : ℕ) (s : ByName.State) (b : ByNumber.State) → Match whole T D s b
      → Pair (record { role = r; rank = i; state = s }) (record { role = r; rank = i; state = b })
  as_member r i s b h = record { role = refl; rank = refl; match = h }

  pub each-ranked : (r : Role) (i : ℕ) (ss : List ByName.State) (bs : List ByNumber.State) → Both ss bs → Each (ranked r i ss) (ranked r i bs)
  each-ranked r i [] [] h = tt
  each-ranked r i [] (b ∷ bs) h = absurd h
  each-ranked r i (s ∷ ss) [] h = absurd h
  each-ranked r i (s ∷ ss) (b ∷ bs) h = (as_member r i s b h.0, each-ranked r (suc i) ss bs h.1)

  -- a member that one walk can enter the other can enter too
  abbrev pub Moved : Option ByName.State → Option ByNumber.State → Type 0
  Moved none none = Unit {0}
  Moved none (some b) = ⊥
  Moved (some s) none = ⊥
  Moved (some s) (some b) = Match whole T D s b

  moved_cond : (b : Bool) (s s' : Option ByName.State) (t t' : Option ByNumber.State) → Moved s t → Moved s' t' → Moved (cond b s s') (cond b t t')
  moved_cond true s s' t t' h k = h
  moved_cond false s s' t t' h k = k

  pub each-pick : (r : Role) (i : ℕ) (ss : List (Member ByName.State)) (bs : List (Member ByNumber.State)) → Each ss bs → Moved (pick r i ss) (pick r i bs)
  each-pick r i [] [] h = tt
  each-pick r i [] (b ∷ bs) h = absurd h
  each-pick r i (s ∷ ss) [] h = absurd h
  each-pick r i (s ∷ ss) (b ∷ bs) h =
      let test : Role → ℕ → Bool = λ r' i'. eqb (role_number r) (role_number r') && eqb i i' in
      let p : Pair s b = h.0 in
      let q : test b.role b.rank ≡ test s.role s.rank = ap (λ r'. test r' b.rank) (sym p.role) ∙ ap (test s.role) (sym p.rank) in
      subst (λ w. Moved (pick r i (s ∷ ss)) (cond w (some b.state) (pick r i bs))) (sym q)
      (moved_cond (test s.role s.rank) (some s.state) (pick r i ss) (some b.state) (pick r i bs) p.match (each-pick r i ss bs h.1))

  -- ---- arguments

  pub both-args : (ts : Terms) (m : ℕ) (c : Top) (e : Env) (v : View) (l : Cells) → Slice T m (args c ts e m).more → (args c ts e m).errs ≡ []
      → Agree whole T D c e v l → Both (arguments ts v) (at_each (args c ts e m).made l)
  unfolding term
  both-args ts_nil m c e v l s f g = tt
  both-args (ts_cons t ts) m c e v l s f g =
      let a : Out = term c t e (suc m) empty in
      let o : Made (List ℕ) = args c ts e (m + size a) in
      let x : Peeled T m a o.more o.errs = peel T m a o.more o.errs s f in
      (stands whole T D t m (suc m) c e empty v l x.first g, both-args ts (m + size a) c e v l x.rest x.fine g)

  -- ---- the variables of a pattern

  push-from : (ys : List Name) (p n : ℕ) → PlaceAt whole T n p → (xs : List Name) (i : ℕ) → ((j : ℕ) → get_elem? xs j ≡ get_elem? ys (i + j))
      → (c : Top) (e : Env) (v : View) (l : Cells) → Agree whole T D c e v l
      → Agree whole T D c (Rows.push_vars xs e) (ByName.push_each (λ x. Entry.var x p ys) xs v) (ByNumber.push_cells (Cell.var n) i (length xs) l)
  push-from ys p n h [] i q c e v l g = g
  push-from ys p n h (x ∷ xs) i q c e v l g =
      let z : i + 0 ≡ i = omega arith in
      let q₀ : get_elem? ys i ≡ some x = subst (λ (k : ℕ). get_elem? ys k ≡ some x) z (sym (q 0)) in
      let more : (j : ℕ) → get_elem? xs j ≡ get_elem? ys (suc i + j) =
      λ j. let w : i + suc j ≡ suc i + j = omega arith in q (suc j) ∙ ap (get_elem? ys) w in
      push-from ys p n h xs (suc i) more c (Row.var x ∷ e) (View.entry (Entry.var x p ys) v) (Cells.cell (Cell.var n i) l) (ag_var h q₀ g)

  -- both walks push the variables of the pattern in the Pipe or Fold n
  pub agree-push : (xs : List Name) (p n k : ℕ) → PlaceAt whole T n p → k ≡ length xs → (c : Top) (e : Env) (v : View) (l : Cells) → Agree whole T D c e v l
      → Agree whole T D c (Rows.push_vars xs e) (ByName.push_vars xs p v) (ByNumber.push_vars n k l)
  agree-push xs p n k h q c e v l g =
      let more : (j : ℕ) → get_elem? xs j ≡ get_elem? xs (0 + j) = λ j. let w : j ≡ 0 + j = omega arith in ap (get_elem? xs) w in
      subst (λ (i : ℕ). Agree whole T D c (Rows.push_vars xs e) (ByName.push_vars xs p v) (ByNumber.push_vars n i l)) (sym q) (push-from xs p n h xs 0 more c e v l g)

  -- ---- keys

  mutual
    unfolding term

    pub both-keys : (x : Pattern) (p m : ℕ) (c : Top) (e : Env) (v : View) (l : Cells) → Slice T m (pattern c x p e m).more → (pattern c x p e m).errs ≡ []
        → Agree whole T D c e v l → Both (keys x p v) (at_each (pat_keys (pattern c x p e m).made) l)
    both-keys (p_var q x) p m c e v l s f g = tt
    both-keys (p_arr q xs) p m c e v l s f g = both-elements xs 0 p m c e v l s f g
    both-keys (p_obj q xs) p m c e v l s f g = both-entries xs p m c e v l s f g

    both-elements : (xs : Patterns) (i p m : ℕ) (c : Top) (e : Env) (v : View) (l : Cells) → Slice T m (elements c xs i p e m).more
        → (elements c xs i p e m).errs ≡ [] → Agree whole T D c e v l → Both (element_keys xs i p v) (at_each (pats_keys (elements c xs i p e m).made) l)
    both-elements ps_nil i p m c e v l s f g = tt
    both-elements (ps_cons x xs) i p m c e v l s f g =
        let a : Made Pat = pattern c x p e (suc m) in
        let k : ℕ = suc m + length a.more in
        let o : Made Pats = elements c xs (suc i) p e k in (
          record { top = c; env = e; held = s.0; agree = g },
          subst (Both (keys x p v ++ element_keys xs (suc i) p v)) (sym (at_each-append (pat_keys a.made) (pats_keys o.made) l))
              (both-append (keys x p v) (element_keys xs (suc i) p v) (at_each (pat_keys a.made) l) (at_each (pats_keys o.made) l)
              (both-keys x p (suc m) c e v l (slice-left T (suc m) a.more o.more s.1) (nil-left a.errs o.errs f) g)
              (both-elements xs (suc i) p k c e v l (slice-right T (suc m) a.more o.more s.1) (nil-right a.errs o.errs f) g)),
        )

    both-entries : (xs : PatEntries) (p m : ℕ) (c : Top) (e : Env) (v : View) (l : Cells) → Slice T m (keyed c xs p e m).more → (keyed c xs p e m).errs ≡ []
        → Agree whole T D c e v l → Both (entry_keys xs p v) (at_each (pats_keys (keyed c xs p e m).made) l)
    both-entries pes_nil p m c e v l s f g = tt
    both-entries (pes_cons q t x xs) p m c e v l s f g =
        let b : Out = term c t e (suc m) empty in
        let j : ℕ = m + size b in
        let a : Made Pat = pattern c x p e j in
        let k : ℕ = j + length a.more in
        let o : Made Pats = keyed c xs p e k in
        let y : Peeled T m b (a.more ++ o.more) (a.errs ++ o.errs) = peel T m b (a.more ++ o.more) (a.errs ++ o.errs) s f in (
          stands whole T D t m (suc m) c e empty v l y.first g,
          subst (Both (keys x p v ++ entry_keys xs p v)) (sym (at_each-append (pat_keys a.made) (pats_keys o.made) l))
              (both-append (keys x p v) (entry_keys xs p v) (at_each (pat_keys a.made) l) (at_each (pats_keys o.made) l)
              (both-keys x p j c e v l (slice-left T j a.more o.more y.rest) (nil-left a.errs o.errs y.fine) g)
              (both-entries xs p k c e v l (slice-right T j a.more o.more y.rest) (nil-right a.errs o.errs y.fine) g)),
        )

  pub both-opt-keys : (x : OptPattern) (p m : ℕ) (c : Top) (e : Env) (v : View) (l : Cells) → Slice T m (opt_pattern c x p e m).more
      → (opt_pattern c x p e m).errs ≡ [] → Agree whole T D c e v l → Both (keys_of x p v) (at_each (opt_keys (opt_pattern c x p e m).made) l)
  unfolding term
  both-opt-keys no_pattern p m c e v l s f g = tt
  both-opt-keys (a_pattern x) p m c e v l s f g = both-keys x p m c e v l s f g

  -- ---- the parts of a path

  each-bound : (r : Role) (i : ℕ) (x : Bound) (m : ℕ) (c : Top) (e : Env) (v : View) (l : Cells) → Slice T m (bound c x e m).more → (bound c x e m).errs ≡ []
      → Agree whole T D c e v l → Each (ByName.bound_member r i x v) (ByNumber.bound_member r i (bound c x e m).made l)
  unfolding term
  each-bound r i without_bound m c e v l s f g = tt
  each-bound r i (a_bound q t) m c e v l s f g =
      (as_member r i (ByName.stand t v) (here m l) (stands whole T D t m (suc m) c e empty v l (only T m (term c t e (suc m) empty) s f) g), tt)

  each_part : (i : ℕ) (x : Part) (m : ℕ) (c : Top) (e : Env) (v : View) (l : Cells) → Slice T m (part c x e m).more → (part c x e m).errs ≡ []
      → Agree whole T D c e v l → Each (path_part i x v) (path_step i (part c x e m).made l)
  unfolding term
  each_part i (part_index q t o) m c e v l s f g =
      (as_member Role.index i (ByName.stand t v) (here m l) (stands whole T D t m (suc m) c e empty v l (only T m (term c t e (suc m) empty) s f) g), tt)
  each_part i (part_range q b u o) m c e v l s f g =
      let a : Made (Option ℕ) = bound c b e m in
      let k : ℕ = m + length a.more in
      let d : Made (Option ℕ) = bound c u e k in
      each_append (ByName.bound_member Role.from i b v) (ByName.bound_member Role.upto i u v) (ByNumber.bound_member Role.from i a.made l) (ByNumber.bound_member Role.upto i d.made l)
      (each-bound Role.from i b m c e v l (slice-left T m a.more d.more s) (nil-left a.errs d.errs f) g)
      (each-bound Role.upto i u k c e v l (slice-right T m a.more d.more s) (nil-right a.errs d.errs f) g)

  pub each-parts : (i : ℕ) (xs : Parts) (m : ℕ) (c : Top) (e : Env) (v : View) (l : Cells) → Slice T m (parts c xs e m).more → (parts c xs e m).errs ≡ []
      → Agree whole T D c e v l → Each (path_parts i xs v) (path_steps i (parts c xs e m).made l)
  unfolding term
  each-parts i parts_nil m c e v l s f g = tt
  each-parts i (parts_cons x xs) m c e v l s f g =
      let a : Made Step = part c x e m in
      let k : ℕ = m + length a.more in
      let o : Made (List Step) = parts c xs e k in
      each_append (path_part i x v) (path_parts (suc i) xs v) (path_step i a.made l) (path_steps (suc i) o.made l)
      (each_part i x m c e v l (slice-left T m a.more o.more s) (nil-left a.errs o.errs f) g)
      (each-parts (suc i) xs k c e v l (slice-right T m a.more o.more s) (nil-right a.errs o.errs f) g)
