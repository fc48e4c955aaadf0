-- From matching states every move leads both walks to matching states, or neither; and what a name picks matches. Assumes nothing.
use Prim.Native.Nat.{ℕ, suc, ◌+◌, ◌-◌, ◌^◌}
use Rattle.std.specs.Prelude.{◌≡◌, true, false, cond, ◌&&◌, length}
use Rattle.std.proofs.Math.Path.{refl, subst}
use Rattle.std.proofs.Common.{ap, sym, ◌∙◌}
use Rattle.std.proofs.Math.Bool.{Bool}
use Rattle.std.proofs.Math.Option.{Option, none, some}
use mathlib.Core.List.{List, [], ◌∷◌}
use Rattle.std.proofs.Math.ListN.{get_elem?}
use Rattle.std.proofs.Math.Dec.{leb}
use Rattle.tree.specs.Tree.{Name, Tree, Term, OptTerm, no_term, a_term, Terms, ts_nil, StrParts, s_nil, s_cons, StrPart, Entries, es_nil, es_cons, Format, Operator, o_comma, o_alt, o_or, o_and, o_assign, o_update, o_update_alt, o_math, o_update_math, o_cmp, o_none, operator, text_place, t_id, t_recurse, t_arr, t_neg, t_label, t_break, t_if_then_else, t_var, t_call, t_def, t_num, t_try_catch, t_fold, t_pipe, t_bin_op, t_path, t_str, t_obj}
use Rattle.rules.specs.Names.{Text, ascii, same}
use Rattle.rules.specs.Table.{Rec, Err, n_int, n_num, n_fold, Pat, Folding, reduce, foreach, u_var, u_label}
use Rattle.rules.specs.Tails.{Tail, empty}
use Rattle.rules.specs.Rows.{Filter, Env, find_label}
use Rattle.rules.specs.Filters as Filters
use Rattle.rules.specs.Filters.{Top, variable, meant, error_at}
use Rattle.rules.specs.Outs.{Out, size, Made, var_out, binary, ite_out, sum_out, lone_out, numeral, are_digits, decimal, var_name, vars, arity}
use Rattle.rules.specs.Rules.{Waiting, called, fold_error, end_of_fold, out_of_fold, term, args, waiting, pattern, string, entry}
use Rattle.rules.specs.Slices.{Table}
use Rattle.walks.specs.Moves.{Move}
use Rattle.walks.specs.TreeWalk as ByName
use Rattle.walks.specs.TreeWalk.{View, Entry, Spot, Leaf, seen, first_that, is_variable, is_label}
use Rattle.walks.specs.TableWalk as ByNumber
use Rattle.walks.specs.TableWalk.{Cells, Cell, here, cell_at}
use Rattle.walks.specs.Together.{nodes_of, entries_of, entry_of, SamePick, Present, Finds, Stand, Together}
use Rattle.walks.proofs.Holds.{has-error, node_at, Holds}
use Rattle.walks.proofs.Agree.{Agree, Points, PointsAt, agree-home, agree-var, agree-label}
use Rattle.walks.proofs.Calls.{AllStocked, agree-meant}
use Rattle.walks.proofs.Match.{Plain, Held, leaf_node, entry_out, Match}
use Rattle.walks.proofs.Places.{match-place, alike}
use Rattle.walks.proofs.Each.{Moved, each-pick}
use Rattle.walks.proofs.Forms.{match-members}
use Rattle.walks.proofs.Enter.{Acts, call-acts}

module _ (T : Table) where
  -- a record that calls nothing and picks nothing
  record Quiet (n : ℕ) (l : Cells) (g : ℕ) : Type 0 where
    calls : ByNumber.definition_of (get_elem? (nodes_of T) n) l ≡ none
    picks : ByNumber.index_of (get_elem? (nodes_of T) n) ≡ none
    form : g ≡ ByNumber.tag_of (get_elem? (nodes_of T) n)

  leaf-quiet : (n : ℕ) (l : Cells) (a : Leaf) → get_elem? (nodes_of T) n ≡ some (leaf_node a) → Quiet n l (ByName.leaf_tag a)
  leaf-quiet n l Leaf.identity q = record { calls = rw q; picks = rw q; form = rw q }
  leaf-quiet n l Leaf.to_string q = record { calls = rw q; picks = rw q; form = rw q }
  leaf-quiet n l (Leaf.number i) q = record { calls = rw q; picks = rw q; form = rw q }
  leaf-quiet n l (Leaf.text x) q = record { calls = rw q; picks = rw q; form = rw q }
  leaf-quiet n l Leaf.empty_obj q = record { calls = rw q; picks = rw q; form = rw q }

  number-quiet : (n i : ℕ) (x : Text) (l : Cells) (b : Bool) → get_elem? (nodes_of T) n ≡ some (cond b (n_int i) (n_num x)) → Quiet n l (cond b 0x53 0x54)
  number-quiet n i x l true q = record { calls = rw q; picks = rw q; form = rw q }
  number-quiet n i x l false q = record { calls = rw q; picks = rw q; form = rw q }

  numeral-quiet : (n : ℕ) (x : Text) (l : Cells) → get_elem? (nodes_of T) n ≡ some (numeral x) → Quiet n l (ByName.number_tag x)
  unfolding numeral ByName.number_tag
  numeral-quiet n x l q = number-quiet n (decimal 0 x) x l (leb 1 (length x) && are_digits x && leb (decimal 0 x) (2 ^ 63 - 1)) q

  operator-quiet : (o : Operator) (n a b : ℕ) (l : Cells) → get_elem? (nodes_of T) n ≡ some (binary o a b) → Quiet n l (ByName.operator_tag o)
  operator-quiet o_comma n a b l q = record { calls = rw q; picks = rw q; form = rw q }
  operator-quiet o_alt n a b l q = record { calls = rw q; picks = rw q; form = rw q }
  operator-quiet o_or n a b l q = record { calls = rw q; picks = rw q; form = rw q }
  operator-quiet o_and n a b l q = record { calls = rw q; picks = rw q; form = rw q }
  operator-quiet o_assign n a b l q = record { calls = rw q; picks = rw q; form = rw q }
  operator-quiet o_update n a b l q = record { calls = rw q; picks = rw q; form = rw q }
  operator-quiet o_update_alt n a b l q = record { calls = rw q; picks = rw q; form = rw q }
  operator-quiet (o_math i) n a b l q = record { calls = rw q; picks = rw q; form = rw q }
  operator-quiet (o_update_math i) n a b l q = record { calls = rw q; picks = rw q; form = rw q }
  operator-quiet (o_cmp i) n a b l q = record { calls = rw q; picks = rw q; form = rw q }
  operator-quiet o_none n a b l q = record { calls = rw q; picks = rw q; form = rw q }

  fold-quiet : (n a b d : ℕ) (x : Pat) (f : Folding) (l : Cells) → get_elem? (nodes_of T) n ≡ some (n_fold a x b d f) → Quiet n l 0x6A
  fold-quiet n a b d x f l q = record { calls = rw q; picks = rw q; form = rw q }

  either-quiet : (b : Bool) (n m w : ℕ) (l : Cells) (o o' : Out) → Holds T n m (cond b o o') → (Holds T n m o → Quiet n l w) → (Holds T n m o' → Quiet n l w) → Quiet n l w
  either-quiet true n m w l o o' h f g = f h
  either-quiet false n m w l o o' h f g = g h

  module _ (c : Top) where
    end_quiet : (p n m k a i j q : ℕ) (f : Name) (x : Pat) (rs : List Rec) (es : List Err) (gs : List Waiting) (e : Env) (r : Tail) (l : Cells)
        → Holds T n m (end_of_fold c p f a (record { made = λ what. n_fold k x i j what; more = rs; errs = es }) gs e q r) → Quiet n l 0x6A
    unfolding end_of_fold
    end_quiet p n m k a i j q f x rs es [] e r l h =
        either-quiet (same f.text (ascii "reduce")) n m 0x6A l _ _ h (λ y. fold-quiet n k i j x reduce l (node_at T n _ y.self))
        (λ y. either-quiet (same f.text (ascii "foreach")) n m 0x6A l _ _ y (λ z. fold-quiet n k i j x (foreach none) l (node_at T n _ z.self))
        (λ z. absurd (has-error es (fold_error c f a) z.fine)))
    end_quiet p n m k a i j q f x rs es (g ∷ []) e r l h =
        either-quiet (same f.text (ascii "foreach")) n m 0x6A l _ _ h (λ y. fold-quiet n k i j x (foreach (some q)) l (node_at T n _ y.self))
        (λ z. absurd (has-error es (fold_error c f a) z.fine))
    end_quiet p n m k a i j q f x rs es (g ∷ g' ∷ gs) e r l h = absurd (has-error es (fold_error c f a) h.fine)

    out_of_fold-quiet : (p n m a : ℕ) (f : Name) (s : Out) (x : Made Pat) (vs : List Name) (gs : List Waiting) (e : Env) (r : Tail) (l : Cells)
        → Holds T n m (out_of_fold c p f a s x vs gs e m r) → Quiet n l 0x6A
    unfolding out_of_fold
    out_of_fold-quiet p n m a f s x vs [] e r l h = absurd (has-error [] (fold_error c f a) h.fine)
    out_of_fold-quiet p n m a f s x vs (g ∷ []) e r l h = absurd (has-error [] (fold_error c f a) h.fine)
    out_of_fold-quiet p n m a f s x vs (g ∷ g' ∷ gs) e r l h = end_quiet p n m m a _ _ _ f x.made _ _ gs _ r l h

    lone-quiet : (p n m : ℕ) (a b : Out) (x : Option Text) (l : Cells) → Holds T n m (lone_out p m a b x) → Quiet n l 0x58
    unfolding lone_out
    lone-quiet p n m a b none l h = let q = node_at T n _ h.self in record { calls = rw q; picks = rw q; form = rw q }
    lone-quiet p n m a b (some x) l h = let q = node_at T n _ h.self in record { calls = rw q; picks = rw q; form = rw q }

    entry-quiet : (o : OptTerm) (p n m : ℕ) (e : Env) (x : Option Text) (a b : Out) (l : Cells) → Holds T n m (entry c o p e m x a b) → Quiet n l 0x58
    unfolding term
    entry-quiet no_term p n m e x a b l h = lone-quiet p n m a b x l h
    entry-quiet (a_term t) p n m e x a b l h = let q = node_at T n _ h.self in record { calls = rw q; picks = rw q; form = rw q }

    sum-quiet : (p n m : ℕ) (a o : Out) (l : Cells) → Holds T n m (sum_out p m a (some o)) → Quiet n l 0x65
    unfolding sum_out
    sum-quiet p n m a o l h = let q = node_at T n _ h.self in record { calls = rw q; picks = rw q; form = rw q }

-- ---- what a walk does at a state, but for its members

module _ (whole : Tree) (T : Table) (D : List (List Filter)) where
  pub record Does (s : ByName.State) (b : ByNumber.State) : Type 0 where
    pub called : Moved whole T D (ByName.step whole Move.called s) (ByNumber.step (nodes_of T) Move.called b)
    pub passed : Moved whole T D (ByName.step whole Move.passed s) (ByNumber.step (nodes_of T) Move.passed b)
    pub picks : SamePick whole T (ByName.picked whole s) (ByNumber.picked (nodes_of T) b)
    pub counts : ByName.picked whole s ≡ entry_of (ByNumber.index (nodes_of T) b) (entries_of s.view)
    pub finds : Finds whole T s.spot s.view
    pub form : ByName.tag whole s ≡ ByNumber.tag (nodes_of T) b

  -- nothing
  abbrev Nothing : ℕ → Cells → ℕ → Type 0
  Nothing n l w =
      Moved whole T D none (ByNumber.step (nodes_of T) Move.called (here n l))
      × Moved whole T D none (ByNumber.step (nodes_of T) Move.passed (here n l))
      × SamePick whole T none (ByNumber.picked (nodes_of T) (here n l))
      × (w ≡ ByNumber.tag (nodes_of T) (here n l))
      × ((es : List Entry) → none ≡ entry_of (ByNumber.index (nodes_of T) (here n l)) es)

  nothing : (n : ℕ) (l : Cells) (w : ℕ) → Quiet T n l w → Nothing n l w
  nothing n l w q = (
    subst (Moved whole T D none) (sym q.calls) tt,
    subst (λ (o : Option ℕ). Moved whole T D none (ByNumber.through (ByNumber.cell_of o l))) (sym q.picks) tt,
    subst (λ (o : Option ℕ). SamePick whole T none (ByNumber.cell_of o l)) (sym q.picks) tt,
    q.form,
    λ es. ap (λ (o : Option ℕ). entry_of o es) (sym q.picks),
  )

  -- a variable or a break
  pub record Names (es : List Entry) (o : Option Entry) (n : ℕ) (l : Cells) : Type 0 where
    pub called : Moved whole T D none (ByNumber.step (nodes_of T) Move.called (here n l))
    pub passed : Moved whole T D none (ByNumber.step (nodes_of T) Move.passed (here n l))
    pub picks : SamePick whole T o (ByNumber.picked (nodes_of T) (here n l))
    pub counts : o ≡ entry_of (ByNumber.index (nodes_of T) (here n l)) es
    pub present : Present whole T o
    pub form : 0x59 ≡ ByNumber.tag (nodes_of T) (here n l)

  points-passed : (es : List Entry) (l : Cells) (i : ℕ) (a : Entry) → PointsAt whole T es l i a → Moved whole T D none (ByNumber.through (cell_at i l))
  points-passed es l i a h = subst (λ (o : Option Cell). Moved whole T D none (ByNumber.through o)) (sym h.there) (subst (Moved whole T D none) (sym h.bare) tt)

  points-picks : (es : List Entry) (l : Cells) (i : ℕ) (a : Entry) → PointsAt whole T es l i a → SamePick whole T (some a) (cell_at i l)
  points-picks es l i a h = subst (SamePick whole T (some a)) (sym h.there) h.matches

  names : (n m p : ℕ) (x : Err) (es : List Entry) (l : Cells) (i : Option ℕ) (a : Option Entry) → Holds T n m (var_out p x i) → Points whole T es l i a → Names es a n l
  unfolding var_out
  names n m p x es l none a h k = absurd (has-error [] x h.fine)
  names n m p x es l (some i) none h k = absurd k
  names n m p x es l (some i) (some a) h k =
      let q = node_at T n _ h.self in
      record {
        called = rw q tt;
        passed = rw q (points-passed es l i a k);
        picks = rw q (points-picks es l i a k);
        counts = rw q (sym k.counted);
        present = tt;
        form = rw q;
      }

  module _ (all : AllStocked whole T D) where
    acts : (ts : Terms) (n m p q : ℕ) (x : Text) (c : Top) (e : Env) (r : Tail) (v : View) (l : Cells) → Holds T n m (called c p x q (arity ts) (args c ts e m) e r)
        → Agree whole T D c e v l → Acts whole T D (seen whole x (arity ts) v) ts v n l
    unfolding called
    acts ts n m p q x c e r v l h g = call-acts whole T D ts n m p (meant c x q (arity ts) e).missing r c e v l (agree-meant whole T D all x q (arity ts) g) h g

    var-does : (p n m : ℕ) (x : Text) (c : Top) (e : Env) (r : Tail) (v : View) (l : Cells) → Holds T n m (term c (t_var p x) e m r) → Agree whole T D c e v l
        → Does (ByName.here (Spot.at (t_var p x)) v) (here n l)
    unfolding term
    var-does p n m x c e r v l h g =
        let F : ℕ → Entry → Bool = λ k. is_variable k x in
        let q : Filters.home_of c ≡ (ByName.home_of v).number = (agree-home whole T D g).number in
        let k : Points whole T (entries_of v) l (variable c x e) (first_that (F (ByName.home_of v).number) v) =
        subst (λ (i : ℕ). Points whole T (entries_of v) l (variable c x e) (first_that (F i) v)) q (agree-var whole T D x g) in
        let w : Names (entries_of v) (first_that (F (ByName.home_of v).number) v) n l =
        names n m p (error_at c u_var (text_place p) x) (entries_of v) l (variable c x e) (first_that (F (ByName.home_of v).number) v) h k in
        record { called = w.called; passed = w.passed; picks = w.picks; counts = w.counts; finds = w.present; form = w.form }

    break-does : (p n m : ℕ) (x : Text) (c : Top) (e : Env) (r : Tail) (v : View) (l : Cells) → Holds T n m (term c (t_break p x) e m r) → Agree whole T D c e v l
        → Does (ByName.here (Spot.at (t_break p x)) v) (here n l)
    unfolding term
    break-does p n m x c e r v l h g =
        let w : Names (entries_of v) (first_that (is_label x) v) n l =
        names n m p (error_at c u_label (text_place p) x) (entries_of v) l (find_label x e) (first_that (is_label x) v) h (agree-label whole T D x g) in
        record { called = w.called; passed = w.passed; picks = w.picks; counts = w.counts; finds = w.present; form = w.form }

    quietly : (t : Term) (n : ℕ) (v : View) (l : Cells) → Nothing n l (ByName.term_tag whole t v) → ByName.term_call t ≡ none → ByName.picked_at whole t v ≡ none → Finds whole T (Spot.at t) v
        → Does (ByName.here (Spot.at t) v) (here n l)
    quietly t n v l w q o f =
        record {
          called = rw q w.0;
          passed = rw q w.1;
          picks = rw o w.2;
          counts = o ∙ w.4 (entries_of v);
          finds = f;
          form = w.3;
        }

    term-does : (t : Term) (n m : ℕ) (c : Top) (e : Env) (r : Tail) (v : View) (l : Cells) → Plain t → Holds T n m (term c t e m r) → Agree whole T D c e v l
        → Does (ByName.here (Spot.at t) v) (here n l)
    unfolding term ite_out
    term-does (t_def p ds t) n m c e r v l i h g = absurd i
    term-does (t_str p f ss) n m c e r v l i h g = absurd i
    term-does (t_obj p es) n m c e r v l i h g = absurd i
    term-does (t_id p) n m c e r v l i h g =
        let k = node_at T n _ h.self in quietly (t_id p) n v l (nothing n l 0x50 (record { calls = rw k; picks = rw k; form = rw k })) refl refl tt
    term-does (t_recurse p) n m c e r v l i h g =
        let k = node_at T n _ h.self in quietly (t_recurse p) n v l (nothing n l 0x51 (record { calls = rw k; picks = rw k; form = rw k })) refl refl tt
    term-does (t_arr p o) n m c e r v l i h g =
        let k = node_at T n _ h.self in quietly (t_arr p o) n v l (nothing n l 0x56 (record { calls = rw k; picks = rw k; form = rw k })) refl refl tt
    term-does (t_neg p t) n m c e r v l i h g =
        let k = node_at T n _ h.self in quietly (t_neg p t) n v l (nothing n l 0x5D (record { calls = rw k; picks = rw k; form = rw k })) refl refl tt
    term-does (t_label p x t) n m c e r v l i h g =
        let k = node_at T n _ h.self in quietly (t_label p x t) n v l (nothing n l 0x5C (record { calls = rw k; picks = rw k; form = rw k })) refl refl tt
    term-does (t_if_then_else p q t u bs) n m c e r v l i h g =
        let k = node_at T n _ h.self in quietly (t_if_then_else p q t u bs) n v l (nothing n l 0x69 (record { calls = rw k; picks = rw k; form = rw k })) refl refl tt
    term-does (t_try_catch p t o) n m c e r v l i h g =
        let k = node_at T n _ h.self in quietly (t_try_catch p t o) n v l (nothing n l 0x68 (record { calls = rw k; picks = rw k; form = rw k })) refl refl tt
    term-does (t_pipe p t q x u) n m c e r v l i h g =
        let k = node_at T n _ h.self in quietly (t_pipe p t q x u) n v l (nothing n l 0x5E (record { calls = rw k; picks = rw k; form = rw k })) refl refl tt
    term-does (t_path p t ps) n m c e r v l i h g =
        let k = node_at T n _ h.self in quietly (t_path p t ps) n v l (nothing n l 0x6B (record { calls = rw k; picks = rw k; form = rw k })) refl refl tt
    term-does (t_var p x) n m c e r v l i h g = var-does p n m x c e r v l h g
    term-does (t_break p x) n m c e r v l i h g = break-does p n m x c e r v l h g
    term-does (t_call p f ts) n m c e r v l i h g =
        let w : Acts whole T D (seen whole f.text (arity ts) v) ts v n l = acts ts n m p (text_place f.place) f.text c e r v l h g in
        record { called = w.called; passed = w.passed; picks = w.picks; counts = w.counts; finds = w.known; form = w.form }
    term-does (t_num p x) n m c e r v l i h g = quietly (t_num p x) n v l (nothing n l (ByName.number_tag x) (numeral-quiet T n x l (node_at T n _ h.self))) refl refl tt
    term-does (t_fold p f t x ts) n m c e r v l i h g =
        let a : Out = term c t e (suc m) empty in
        quietly (t_fold p f t x ts) n v l (nothing n l 0x6A (out_of_fold-quiet T c p n m (arity ts) f a (pattern c x p e (m + size a)) (vars x) (waiting c ts) e r l h)) refl refl tt
    term-does (t_bin_op p t q x u) n m c e r v l i h g =
        quietly (t_bin_op p t q x u) n v l (nothing n l (ByName.operator_tag (operator x)) (operator-quiet T (operator x) n _ _ l (node_at T n _ h.self))) refl refl tt

    parts-quiet : (p n : ℕ) (f : Format) (x : StrPart) (ss : StrParts) (c : Top) (e : Env) (l : Cells) → Held T c e (Spot.parts p f x ss) n → Quiet T n l 0x65
    unfolding term
    parts-quiet p n f x s_nil c e l h = absurd h
    parts-quiet p n f x (s_cons y ss) c e l h = sum-quiet T c p n h.next (string c x p h.shared e h.next) _ l h.holds

    entries-quiet : (p n : ℕ) (t : Term) (o : OptTerm) (es : Entries) (c : Top) (e : Env) (l : Cells) → Held T c e (Spot.entries p t o es) n → Quiet T n l 0x65
    unfolding term
    entries-quiet p n t o es_nil c e l h = absurd h
    entries-quiet p n t o (es_cons q' t' o' es) c e l h = sum-quiet T c p n h.next (entry_out T c e p t o h.next) _ l h.holds

    spot-does : (s : Spot) (n : ℕ) (c : Top) (e : Env) (v : View) (l : Cells) → Held T c e s n → Agree whole T D c e v l → Does (ByName.here s v) (here n l)
    unfolding term
    spot-does (Spot.at t) n c e v l h g = term-does t n h.next c e h.allowed v l h.plain h.holds g
    spot-does (Spot.leaf p a) n c e v l h g =
        let w : Nothing n l (ByName.leaf_tag a) = nothing n l (ByName.leaf_tag a) (leaf-quiet T n l a (node_at T n (record { place = p; node = leaf_node a }) h)) in
        record { called = w.0; passed = w.1; picks = w.2; counts = w.4 (entries_of v); finds = tt; form = w.3 }
    spot-does (Spot.call p x) n c e v l h g =
        let w : Acts whole T D (seen whole x 0 v) ts_nil v n l = acts ts_nil n (suc n) p h.spelled x c e empty v l h.holds g in
        record { called = w.called; passed = w.passed; picks = w.picks; counts = w.counts; finds = w.known; form = w.form }
    spot-does (Spot.shown p f t) n c e v l h g =
        let k = node_at T n _ h.self in
        let w : Nothing n l 0x5E = nothing n l 0x5E (record { calls = rw k; picks = rw k; form = rw k }) in
        record { called = w.0; passed = w.1; picks = w.2; counts = w.4 (entries_of v); finds = tt; form = w.3 }
    spot-does (Spot.parts p f x ss) n c e v l h g =
        let w : Nothing n l 0x65 = nothing n l 0x65 (parts-quiet p n f x ss c e l h) in record { called = w.0; passed = w.1; picks = w.2; counts = w.4 (entries_of v); finds = tt; form = w.3 }
    spot-does (Spot.single p t o) n c e v l h g =
        let m : ℕ = h.next in
        let w : Nothing n l 0x58 = nothing n l 0x58 (entry-quiet T c o p n m e (var_name t) (term c t e (suc m) empty) (term c t e (suc (suc m)) empty) l h.holds) in
        record { called = w.0; passed = w.1; picks = w.2; counts = w.4 (entries_of v); finds = tt; form = w.3 }
    spot-does (Spot.entries p t o es) n c e v l h g =
        let w : Nothing n l 0x65 = nothing n l 0x65 (entries-quiet p n t o es c e l h) in record { called = w.0; passed = w.1; picks = w.2; counts = w.4 (entries_of v); finds = tt; form = w.3 }
    spot-does (Spot.reading p t) n c e v l h g =
        let k = node_at T n _ h.self in
        let w : Nothing n l 0x6B = nothing n l 0x6B (record { calls = rw k; picks = rw k; form = rw k }) in
        record { called = w.0; passed = w.1; picks = w.2; counts = w.4 (entries_of v); finds = tt; form = w.3 }

    match-does : (s : ByName.State) (b : ByNumber.State) → Match whole T D s b → Does s b
    match-does s b h = spot-does s.spot b.at h.top h.env s.view b.list h.held h.agree

    -- ---- the walk

    match-stand : (s : ByName.State) (b : ByNumber.State) → Match whole T D s b → Stand whole T s b
    match-stand s b h =
        let w : Does s b = match-does s b h in
        record { place = match-place whole T D s b h; form = w.form; lists = alike whole T D h.agree; picks = w.picks; counts = w.counts; finds = w.finds }

    match-step : (m : Move) (s : ByName.State) (b : ByNumber.State) → Match whole T D s b → Moved whole T D (ByName.step whole m s) (ByNumber.step (nodes_of T) m b)
    match-step (Move.member r i) s b h = each-pick whole T D r i (ByName.members s) (ByNumber.members (nodes_of T) b) (match-members whole T D all s b h)
    match-step Move.called s b h = (match-does s b h).called
    match-step Move.passed s b h = (match-does s b h).passed

    -- matching states after any moves
    pub match-moves : (ms : List Move) (s : Option ByName.State) (b : Option ByNumber.State) → Moved whole T D s b
        → Moved whole T D (ByName.walk whole ms s) (ByNumber.walk (nodes_of T) ms b)
    match-moves [] s b h = h
    match-moves (m ∷ ms) none none h = tt
    match-moves (m ∷ ms) none (some b) h = absurd h
    match-moves (m ∷ ms) (some s) none h = absurd h
    match-moves (m ∷ ms) (some s) (some b) h = match-moves ms (ByName.step whole m s) (ByNumber.step (nodes_of T) m b) (match-step m s b h)

    pub moved-together : (s : Option ByName.State) (b : Option ByNumber.State) → Moved whole T D s b → Together whole T s b
    moved-together none none h = tt
    moved-together none (some b) h = h
    moved-together (some s) none h = h
    moved-together (some s) (some b) h = match-stand s b h
