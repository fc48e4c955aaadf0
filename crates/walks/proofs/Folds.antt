-- The members of a Fold: "source, pattern, init, update, projection; update and projection under the variables". A Fold of another name or count has an error.
-- Assumes nothing.
use Rattle.std.specs.Prelude.{ℕ, suc, ◌+◌, ◌≡◌, Bool, true, false, cond, length}
use Rattle.std.proofs.Common.{arith, subst, length-append}
use Rattle.std.proofs.Math.Option.{none, some}
use mathlib.Core.List.{List, [], ◌∷◌, ◌++◌}
use Rattle.std.proofs.Math.ListN.{get_elem?}
use Rattle.tree.specs.Tree.{Name, Tree, Term, Terms, ts_nil, ts_cons, Pattern, t_fold}
use Rattle.rules.specs.Names.{ascii, same}
use Rattle.rules.specs.Table.{Rec, Err, Node, n_fold, Pat, Folding, reduce, foreach}
use Rattle.rules.specs.Tails.{Tail, empty}
use Rattle.rules.specs.Rows as Rows
use Rattle.rules.specs.Rows.{Filter, Env}
use Rattle.rules.specs.Filters.{Top}
use Rattle.rules.specs.Outs.{Out, slot, size, node, fail, Made, vars, arity}
use Rattle.rules.specs.Rules.{fold_error, end_of_fold, out_of_fold, term, waiting, pattern}
use Rattle.rules.specs.Slices.{Table, Slice, slice-left, slice-right}
use Rattle.walks.specs.Moves.{Role, Member, lone, ranked}
use Rattle.walks.specs.TreeWalk as ByName
use Rattle.walks.specs.TreeWalk.{View, stand, keys, term_members}
use Rattle.walks.specs.TableWalk as ByNumber
use Rattle.walks.specs.TableWalk.{Cells, here, at_each, pat_vars, pat_keys}
use Rattle.walks.specs.Together.{nodes_of, PlaceAt}
use Rattle.walks.proofs.Holds.{nil-left, nil-right, has-error, node_at, Holds, Peeled, peel, only, place_at}
use Rattle.walks.proofs.Agree.{Agree}
use Rattle.walks.proofs.Match.{Match, stands}
use Rattle.walks.proofs.Each.{pattern-vars, Both, both-keys, agree-push, Each, as_member, each_append, each-ranked}
use Rattle.walks.proofs.Members.{Has}

-- The records of a Fold from m on, as the rules number them
module _ (c : Top) (e : Env) (p m : ℕ) (t : Term) (x : Pattern) (i u : Term) where
  abbrev source_out : Out
  source_out = term c t e (suc m) empty

  abbrev pattern_out : Made Pat
  pattern_out = pattern c x p e (m + size source_out)

  abbrev init_at : ℕ
  init_at = m + size source_out + length pattern_out.more

  abbrev init_out : Out
  init_out = term c i e (suc init_at) empty

  abbrev update_at : ℕ
  update_at = init_at + size init_out

  abbrev update_out : Out
  update_out = term c u (Rows.push_vars (vars x) e) (suc update_at) empty

  abbrev front_recs : List Rec
  front_recs = slot source_out ++ (pattern_out.more ++ (slot init_out ++ slot update_out))

  abbrev front_errs : List Err
  front_errs = source_out.errs ++ (pattern_out.errs ++ (init_out.errs ++ update_out.errs))

  abbrev fold_node : Folding → Node
  fold_node what = n_fold m pattern_out.made init_at update_at what

  front-size : m + length front_recs ≡ update_at + size update_out
  front-size =
      omega (
        arith,
        length-append (slot source_out) (pattern_out.more ++ (slot init_out ++ slot update_out)),
        length-append pattern_out.more (slot init_out ++ slot update_out),
        length-append (slot init_out) (slot update_out),
      )

  module _ (whole : Tree) (T : Table) (D : List (List Filter)) (n : ℕ) (v : View) (l : Cells) where
    -- what is in view under the variables
    abbrev under_view : View
    under_view = ByName.push_vars (vars x) p v

    abbrev under_cells : Cells
    under_cells = ByNumber.push_vars n (pat_vars pattern_out.made) l

    -- up to its update
    record Front : Type 0 where
      source : Match whole T D (stand t v) (here m l)
      keyed : Both whole T D (keys x p v) (at_each (pat_keys pattern_out.made) l)
      init : Match whole T D (stand i v) (here init_at l)
      under : Agree whole T D c (Rows.push_vars (vars x) e) under_view under_cells
      update : Match whole T D (stand u under_view) (here update_at under_cells)

    front : PlaceAt whole T n p → Slice T m front_recs → front_errs ≡ [] → Agree whole T D c e v l → Front
    front h s f g =
        let rs : List Rec = slot init_out ++ slot update_out in
        let es : List Err = init_out.errs ++ update_out.errs in
        let k : ℕ = m + size source_out in
        let s₁ : Peeled T m source_out (pattern_out.more ++ rs) (pattern_out.errs ++ es) = peel T m source_out (pattern_out.more ++ rs) (pattern_out.errs ++ es) s f in
        let s₂ : Peeled T init_at init_out (slot update_out) update_out.errs =
        peel T init_at init_out (slot update_out) update_out.errs (slice-right T k pattern_out.more rs s₁.rest) (nil-right pattern_out.errs es s₁.fine) in
        let under : Agree whole T D c (Rows.push_vars (vars x) e) under_view under_cells =
        agree-push whole T D (vars x) p n (pat_vars pattern_out.made) h (pattern-vars c x p e k) c e v l g in
        record {
          source = stands whole T D t m (suc m) c e empty v l s₁.first g;
          keyed = both-keys whole T D x p k c e v l (slice-left T k pattern_out.more rs s₁.rest) (nil-left pattern_out.errs es s₁.fine) g;
          init = stands whole T D i init_at (suc init_at) c e empty v l s₂.first g;
          under = under;
          update = stands whole T D u update_at (suc update_at) c (Rows.push_vars (vars x) e) empty under_view under_cells (only T update_at update_out s₂.rest s₂.fine) under;
        }

    -- all members, where the last ones are what the Fold projects
    front-members : (what : Folding) (ps : List (Member ByName.State)) → Front → get_elem? (nodes_of T) n ≡ some (fold_node what)
        → Each whole T D ps (ByNumber.projected what under_cells)
        → Has whole T D
        (lone Role.source (stand t v) ∷ ((lone Role.init (stand i v) ∷ lone Role.update (stand u under_view) ∷ ps) ++ ranked Role.key 0 (keys x p v)))
        n l
    front-members what ps w q h =
        let ks : List ByNumber.State = at_each (pat_keys pattern_out.made) l in
        rw q (
          as_member whole T D Role.source 0 (stand t v) (here m l) w.source,
          (
            as_member whole T D Role.init 0 (stand i v) (here init_at l) w.init,
            (
              as_member whole T D Role.update 0 (stand u under_view) (here update_at under_cells) w.update,
              each_append whole T D ps (ranked Role.key 0 (keys x p v)) (ByNumber.projected what under_cells) (ranked Role.key 0 ks) h
                  (each-ranked whole T D Role.key 0 (keys x p v) ks w.keyed),
            ),
          ),
        )

    -- two arguments: a `reduce`, or a `foreach` without projection
    two-members : (f : Name) (b b' : Bool) (z : Err)
        → Holds T n m
        (cond b (node p (fold_node reduce) front_recs front_errs empty) (cond b' (node p (fold_node (foreach none)) front_recs front_errs empty) (fail p z front_recs front_errs)))
        → Agree whole T D c e v l → Has whole T D (term_members (t_fold p f t x (ts_cons i (ts_cons u ts_nil))) v) n l
    two-members f true b' z h g =
        let r : Rec = record { place = p; node = fold_node reduce } in
        front-members reduce [] (front (place_at whole T n r h.self) h.more h.fine g) (node_at T n r h.self) tt
    two-members f false true z h g =
        let r : Rec = record { place = p; node = fold_node (foreach none) } in
        front-members (foreach none) [] (front (place_at whole T n r h.self) h.more h.fine g) (node_at T n r h.self) tt
    two-members f false false z h g = absurd (has-error front_errs z h.fine)

    -- three: a `foreach` with a projection
    abbrev last_at : ℕ
    last_at = update_at + size update_out

    three-members : (f : Name) (s : Term) (r : Tail) (b : Bool) (z : Err)
        → Holds T n m
        (cond b
        (node p (fold_node (foreach (some last_at))) (front_recs ++ slot (term c s (Rows.push_vars (vars x) e) (suc last_at) r))
        (front_errs ++ (term c s (Rows.push_vars (vars x) e) (suc last_at) r).errs) (term c s (Rows.push_vars (vars x) e) (suc last_at) r).tail)
        (fail p z front_recs front_errs))
        → Agree whole T D c e v l → Has whole T D (term_members (t_fold p f t x (ts_cons i (ts_cons u (ts_cons s ts_nil)))) v) n l
    three-members f s r true z h g =
        let q : Rec = record { place = p; node = fold_node (foreach (some last_at)) } in
        let o : Out = term c s (Rows.push_vars (vars x) e) (suc last_at) r in
        let w : Front = front (place_at whole T n q h.self) (slice-left T m front_recs (slot o) h.more) (nil-left front_errs o.errs h.fine) g in
        let last : Slice T last_at (slot o) = subst (λ (k : ℕ). Slice T k (slot o)) front-size (slice-right T m front_recs (slot o) h.more) in
        let k : Match whole T D (stand s under_view) (here last_at under_cells) =
        stands whole T D s last_at (suc last_at) c (Rows.push_vars (vars x) e) r under_view under_cells (only T last_at o last (nil-right front_errs o.errs h.fine)) w.under in
        front-members (foreach (some last_at)) (lone Role.projection (stand s under_view) ∷ []) w (node_at T n q h.self)
        (as_member whole T D Role.projection 0 (stand s under_view) (here last_at under_cells) k, tt)
    three-members f s r false z h g = absurd (has-error front_errs z h.fine)

module _ (whole : Tree) (T : Table) (D : List (List Filter)) where
  pub fold-members : (p n m : ℕ) (f : Name) (t : Term) (x : Pattern) (ts : Terms) (c : Top) (e : Env) (r : Tail) (v : View) (l : Cells)
      → Holds T n m
      (out_of_fold c p f (arity ts) (term c t e (suc m) empty) (pattern c x p e (m + size (term c t e (suc m) empty))) (vars x) (waiting c ts) e m r)
      → Agree whole T D c e v l → Has whole T D (term_members (t_fold p f t x ts) v) n l
  unfolding term out_of_fold end_of_fold
  fold-members p n m f t x ts_nil c e r v l h g = absurd (has-error [] (fold_error c f 0) h.fine)
  fold-members p n m f t x (ts_cons i ts_nil) c e r v l h g = absurd (has-error [] (fold_error c f 1) h.fine)
  fold-members p n m f t x (ts_cons i (ts_cons u ts_nil)) c e r v l h g =
      two-members c e p m t x i u whole T D n v l f (same f.text (ascii "reduce")) (same f.text (ascii "foreach")) (fold_error c f 2) h g
  fold-members p n m f t x (ts_cons i (ts_cons u (ts_cons s ts_nil))) c e r v l h g =
      three-members c e p m t x i u whole T D n v l f s r (same f.text (ascii "foreach")) (fold_error c f 3) h g
  fold-members p n m f t x (ts_cons i (ts_cons u (ts_cons s (ts_cons q ts)))) c e r v l h g =
      absurd (has-error (front_errs c e p m t x i u) (fold_error c f (arity (ts_cons i (ts_cons u (ts_cons s (ts_cons q ts)))))) h.fine)
