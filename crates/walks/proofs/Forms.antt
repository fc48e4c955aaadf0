-- The members of every form: a walk in matching states has the same ones in the tree and in the table. Assumes nothing.
use Prim.Native.Nat.{ℕ, suc, ◌+◌, ◌-◌, ◌^◌}
use Rattle.std.specs.Prelude.{◌≡◌, Bool, true, false, cond, ◌&&◌}
use Rattle.std.proofs.Math.Option.{Option, some}
use mathlib.Core.List.{List, [], ◌∷◌, ◌++◌}
use Rattle.std.proofs.Math.ListN.{length, get_elem?}
use Rattle.std.proofs.Math.Dec.{leb}
use Rattle.tree.specs.Tree.{Tree, Term, OptTerm, Branches, OptPattern, StrParts, s_nil, s_cons, StrPart, Entries, es_nil, es_cons, Format, operator, text_place, Terms, ts_nil, t_id, t_recurse, t_arr, t_neg, t_label, t_break, t_if_then_else, t_var, t_call, t_def, t_num, t_try_catch, t_fold, t_pipe, t_bin_op, t_path, t_str, t_obj}
use Rattle.rules.specs.Names.{Text}
use Rattle.rules.specs.Table.{Rec, n_int, n_num, n_ite, n_label, n_pipe, Pat, Step, u_var, u_label}
use Rattle.rules.specs.Tails.{Tail, empty}
use Rattle.rules.specs.Rows as Rows
use Rattle.rules.specs.Rows.{Filter, Row, Env, find_label}
use Rattle.rules.specs.Filters.{Top, variable, meant, error_at}
use Rattle.rules.specs.Outs.{Out, slot, size, Made, left_allows, right_allows, are_digits, decimal, ite_out, numeral, vars_of, arity}
use Rattle.rules.specs.Rules as Rules
use Rattle.rules.specs.Rules.{called, term, branches, args, opt_pattern, parts}
use Rattle.rules.specs.Slices.{Table, Slice, slice-left, slice-right}
use Rattle.walks.specs.Moves.{Role, ranked}
use Rattle.walks.specs.TreeWalk as ByName
use Rattle.walks.specs.TreeWalk.{View, Entry, Spot, stand, or_empty, else_at, keys_of, term_members, spot_members}
use Rattle.walks.specs.TableWalk as ByNumber
use Rattle.walks.specs.TableWalk.{Cells, Cell, here, at_each, opt_vars, opt_keys}
use Rattle.walks.specs.Together.{nodes_of}
use Rattle.walks.proofs.Holds.{node_at, Holds, Peeled, peel, only, place_at}
use Rattle.walks.proofs.Agree.{Agree, ag_label}
use Rattle.walks.proofs.Calls.{AllStocked, agree-meant}
use Rattle.walks.proofs.Match.{Plain, Held, leaf_node, Match, stands, at-or, at-else}
use Rattle.walks.proofs.Each.{opt-vars, as_member, each-ranked, both-opt-keys, agree-push, each-parts}
use Rattle.walks.proofs.Members.{Has, leaf-members, var-members, call-members, operator-members}
use Rattle.walks.proofs.Folds.{fold-members}
use Rattle.walks.proofs.Sums.{shown-members, parts-members, entries-members, single-members, reading-members}

module _ (whole : Tree) (T : Table) (D : List (List Filter)) where
  number-members : (n i : ℕ) (x : Text) (l : Cells) (b : Bool) → get_elem? (nodes_of T) n ≡ some (cond b (n_int i) (n_num x)) → Has whole T D [] n l
  number-members n i x l true q = rw q tt
  number-members n i x l false q = rw q tt

  numeral-members : (n : ℕ) (x : Text) (l : Cells) → get_elem? (nodes_of T) n ≡ some (numeral x) → Has whole T D [] n l
  unfolding numeral
  numeral-members n x l q = number-members n (decimal 0 x) x l (leb 1 (length x) && are_digits x && leb (decimal 0 x) (2 ^ 63 - 1)) q

  ite-members : (p q n m : ℕ) (t u : Term) (bs : Branches) (c : Top) (e : Env) (r : Tail) (v : View) (l : Cells)
      → Holds T n m (term c (t_if_then_else p q t u bs) e m r) → Agree whole T D c e v l → Has whole T D (term_members (t_if_then_else p q t u bs) v) n l
  unfolding term ite_out
  ite-members p q n m t u bs c e r v l h g =
      let a : Out = term c t e (suc m) empty in
      let k : ℕ = m + size a in
      let b : Out = term c u e (suc k) r in
      let j : ℕ = k + size b in
      let o : Out = branches c bs p e j r in
      let i : ℕ = j + length o.more in
      let os : List Rec = o.more ++ (o.self ∷ []) in
      let x : Peeled T m a (slot b ++ os) (b.errs ++ o.errs) = peel T m a (slot b ++ os) (b.errs ++ o.errs) h.more h.fine in
      let y : Peeled T k b os o.errs = peel T k b os o.errs x.rest x.fine in
      let z : Slice T i (o.self ∷ []) = slice-right T j o.more (o.self ∷ []) y.rest in
      let w : Holds T i j o = record { self = z.0; more = slice-left T j o.more (o.self ∷ []) y.rest; fine = y.fine } in
      rw (node_at T n (record { place = p; node = n_ite m k i }) h.self) (
        as_member whole T D Role.condition 0 (stand t v) (here m l) (stands whole T D t m (suc m) c e empty v l x.first g),
        (
          as_member whole T D Role.branch 0 (stand u v) (here k l) (stands whole T D u k (suc k) c e r v l y.first g),
          (as_member whole T D Role.other 0 (else_at p bs v) (here i l) (at-else whole T D bs p i j c e r v l w g), tt),
        ),
      )

  pipe-members : (p n m : ℕ) (t : Term) (q : ℕ) (x : OptPattern) (u : Term) (c : Top) (e : Env) (r : Tail) (v : View) (l : Cells)
      → Holds T n m (term c (t_pipe p t q x u) e m r) → Agree whole T D c e v l → Has whole T D (term_members (t_pipe p t q x u) v) n l
  unfolding term
  pipe-members p n m t q x u c e r v l h g =
      let a : Out = term c t e (suc m) empty in
      let k : ℕ = m + size a in
      let e' : Env = Rows.push_vars (vars_of x) e in
      let b : Out = term c u e' (suc k) r in
      let y : Made (Option Pat) = opt_pattern c x p e (k + size b) in
      let z : Rec = record { place = p; node = n_pipe m y.made k } in
      let s₁ : Peeled T m a (slot b ++ y.more) (b.errs ++ y.errs) = peel T m a (slot b ++ y.more) (b.errs ++ y.errs) h.more h.fine in
      let s₂ : Peeled T k b y.more y.errs = peel T k b y.more y.errs s₁.rest s₁.fine in
      let v' : View = ByName.push_vars (vars_of x) p v in
      let l' : Cells = ByNumber.push_vars n (opt_vars y.made) l in
      let g' : Agree whole T D c e' v' l' =
      agree-push whole T D (vars_of x) p n (opt_vars y.made) (place_at whole T n z h.self) (opt-vars c x p e (k + size b)) c e v l g in
      let ks : List ByNumber.State = at_each (opt_keys y.made) l in
      rw (node_at T n z h.self) (
        as_member whole T D Role.left 0 (stand t v) (here m l) (stands whole T D t m (suc m) c e empty v l s₁.first g),
        (
          as_member whole T D Role.right 0 (stand u v') (here k l') (stands whole T D u k (suc k) c e' r v' l' s₂.first g'),
          each-ranked whole T D Role.key 0 (keys_of x p v) ks (both-opt-keys whole T D x p (k + size b) c e v l s₂.rest s₂.fine g),
        ),
      )

  module _ (all : AllStocked whole T D) where
    called-members : (ts : Terms) (n m p q : ℕ) (x : Text) (c : Top) (e : Env) (r : Tail) (v : View) (l : Cells)
        → Holds T n m (called c p x q (arity ts) (args c ts e m) e r) → Agree whole T D c e v l → Has whole T D (ranked Role.argument 0 (ByName.arguments ts v)) n l
    unfolding called
    called-members ts n m p q x c e r v l h g =
        call-members whole T D ts n m p (meant c x q (arity ts) e).missing r c e v l (agree-meant whole T D all x q (arity ts) g) h g

    -- each form of term
    term-members : (t : Term) (n m : ℕ) (c : Top) (e : Env) (r : Tail) (v : View) (l : Cells) → Plain t → Holds T n m (term c t e m r) → Agree whole T D c e v l
        → Has whole T D (term_members t v) n l
    unfolding term
    term-members (t_def p ds t) n m c e r v l i h g = absurd i
    term-members (t_str p f ss) n m c e r v l i h g = absurd i
    term-members (t_obj p es) n m c e r v l i h g = absurd i
    term-members (t_id p) n m c e r v l i h g = rw (node_at T n _ h.self) tt
    term-members (t_recurse p) n m c e r v l i h g = rw (node_at T n _ h.self) tt
    term-members (t_arr p o) n m c e r v l i h g =
        let a : Out = Rules.or_empty c o p e (suc m) in
        rw (node_at T n _ h.self) (as_member whole T D Role.only 0 (or_empty p o v) (here m l) (at-or whole T D o p m c e v l (only T m a h.more h.fine) g), tt)
    term-members (t_neg p t) n m c e r v l i h g =
        let a : Out = term c t e (suc m) empty in
        rw (node_at T n _ h.self) (as_member whole T D Role.only 0 (stand t v) (here m l) (stands whole T D t m (suc m) c e empty v l (only T m a h.more h.fine) g), tt)
    term-members (t_label p x t) n m c e r v l i h g =
        let a : Out = term c t (Row.label x ∷ e) (suc m) empty in
        let z : Rec = record { place = p; node = n_label m } in
        let v' : View = View.entry (Entry.label x p) v in
        let l' : Cells = Cells.cell (Cell.label n) l in
        let g' : Agree whole T D c (Row.label x ∷ e) v' l' = ag_label (place_at whole T n z h.self) g in
        rw (node_at T n z h.self) (
          as_member whole T D Role.only 0 (stand t v') (here m l') (stands whole T D t m (suc m) c (Row.label x ∷ e) empty v' l' (only T m a h.more h.fine) g'),
          tt,
        )
    term-members (t_break p x) n m c e r v l i h g = var-members whole T D n m p (error_at c u_label (text_place p) x) l (find_label x e) h
    term-members (t_if_then_else p q t u bs) n m c e r v l i h g = ite-members p q n m t u bs c e r v l h g
    term-members (t_var p x) n m c e r v l i h g = var-members whole T D n m p (error_at c u_var (text_place p) x) l (variable c x e) h
    term-members (t_call p f ts) n m c e r v l i h g = called-members ts n m p (text_place f.place) f.text c e r v l h g
    term-members (t_num p x) n m c e r v l i h g = numeral-members n x l (node_at T n _ h.self)
    term-members (t_try_catch p t o) n m c e r v l i h g =
        let a : Out = term c t e (suc m) empty in
        let k : ℕ = m + size a in
        let b : Out = Rules.or_empty c o p e (suc k) in
        let s : Peeled T m a (slot b) b.errs = peel T m a (slot b) b.errs h.more h.fine in
        rw (node_at T n _ h.self) (
          as_member whole T D Role.tried 0 (stand t v) (here m l) (stands whole T D t m (suc m) c e empty v l s.first g),
          (as_member whole T D Role.caught 0 (or_empty p o v) (here k l) (at-or whole T D o p k c e v l (only T k b s.rest s.fine) g), tt),
        )
    term-members (t_fold p f t x ts) n m c e r v l i h g = fold-members whole T D p n m f t x ts c e r v l h g
    term-members (t_pipe p t q x u) n m c e r v l i h g = pipe-members p n m t q x u c e r v l h g
    term-members (t_bin_op p t q x u) n m c e r v l i h g =
        let o = operator x in
        let a : Out = term c t e (suc m) (left_allows o r) in
        let k : ℕ = m + size a in
        let b : Out = term c u e (suc k) (right_allows o r) in
        let s : Peeled T m a (slot b) b.errs = peel T m a (slot b) b.errs h.more h.fine in
        operator-members whole T D o n m k l (stand t v) (stand u v) (node_at T n _ h.self)
        (stands whole T D t m (suc m) c e (left_allows o r) v l s.first g)
        (stands whole T D u k (suc k) c e (right_allows o r) v l (only T k b s.rest s.fine) g)
    term-members (t_path p t ps) n m c e r v l i h g =
        let a : Out = term c t e (suc m) empty in
        let k : ℕ = m + size a in
        let y : Made (List Step) = parts c ps e k in
        let s : Peeled T m a y.more y.errs = peel T m a y.more y.errs h.more h.fine in
        rw (node_at T n _ h.self) (
          as_member whole T D Role.subject 0 (stand t v) (here m l) (stands whole T D t m (suc m) c e empty v l s.first g),
          each-parts whole T D 0 ps k c e v l s.rest s.fine g,
        )

    parts_at : (p n : ℕ) (f : Format) (x : StrPart) (ss : StrParts) (c : Top) (e : Env) (v : View) (l : Cells) → Held T c e (Spot.parts p f x ss) n
        → Agree whole T D c e v l → Has whole T D (spot_members (Spot.parts p f x ss) v) n l
    parts_at p n f x s_nil c e v l h g = absurd h
    parts_at p n f x (s_cons y ss) c e v l h g = parts-members whole T D p n f x y ss c e v l h g

    entries_at : (p n : ℕ) (t : Term) (o : OptTerm) (es : Entries) (c : Top) (e : Env) (v : View) (l : Cells) → Held T c e (Spot.entries p t o es) n
        → Agree whole T D c e v l → Has whole T D (spot_members (Spot.entries p t o es) v) n l
    entries_at p n t o es_nil c e v l h g = absurd h
    entries_at p n t o (es_cons q' t' o' es) c e v l h g = entries-members whole T D p n t o q' t' o' es c e v l h g

    -- and what the compiler supplies
    spot-members : (s : Spot) (n : ℕ) (c : Top) (e : Env) (v : View) (l : Cells) → Held T c e s n → Agree whole T D c e v l → Has whole T D (spot_members s v) n l
    unfolding term
    spot-members (Spot.at t) n c e v l h g = term-members t n h.next c e h.allowed v l h.plain h.holds g
    spot-members (Spot.leaf p a) n c e v l h g = leaf-members whole T D n l a (node_at T n (record { place = p; node = leaf_node a }) h)
    spot-members (Spot.call p x) n c e v l h g = called-members ts_nil n (suc n) p h.spelled x c e empty v l h.holds g
    spot-members (Spot.shown p f t) n c e v l h g = shown-members whole T D p n f t c e v l h g
    spot-members (Spot.parts p f x ss) n c e v l h g = parts_at p n f x ss c e v l h g
    spot-members (Spot.single p t o) n c e v l h g = single-members whole T D p n t o c e v l h g
    spot-members (Spot.entries p t o es) n c e v l h g = entries_at p n t o es c e v l h g
    spot-members (Spot.reading p t) n c e v l h g = reading-members whole T D p n t c e v l h g

    pub match-members : (s : ByName.State) (b : ByNumber.State) → Match whole T D s b → Has whole T D (ByName.members s) b.at b.list
    match-members s b h = spot-members s.spot b.at h.top h.env s.view b.list h.held h.agree
