-- Matching states of the two walks, and that a walk which comes to a term stands in one. What the rules give for the term, or for what the compiler supplies at
-- its field, is in the table, and the lists agree. Assumes nothing.
use Prim.Native.Nat.{ℕ, suc, ◌+◌, ◌-◌}
use Rattle.std.proofs.Common.{le_refl, subst}
use native.Mathlib.Omega.{arith}
use Rattle.std.specs.Prelude.{◌≡◌, false, List, [], ◌∷◌}
use Rattle.std.proofs.Math.Option.{none, some}
use Rattle.std.proofs.Math.ListN.{length, get_elem?}
use Rattle.tree.specs.Tree.{Tree, Term, OptTerm, no_term, a_term, Branches, b_none, b_else, b_pair, Defs, ds_nil, ds_cons, def, StrParts, s_nil, s_cons, StrPart, s_text, s_char, s_term, Entries, es_nil, es_cons, Format, no_format, a_format, text_place, t_id, t_recurse, t_arr, t_neg, t_label, t_break, t_if_then_else, t_var, t_call, t_def, t_num, t_try_catch, t_fold, t_pipe, t_bin_op, t_path, t_str, t_obj}
use Rattle.rules.specs.Names.{Text}
use Rattle.rules.specs.Table.{Node, n_id, n_to_string, n_int, n_str, n_obj_empty, n_pipe, n_path, index}
use Rattle.rules.specs.Tails.{Tail, empty, bit, union, sibling}
use Rattle.rules.specs.Rows.{Filter, Row, Env, count, level, filter_of}
use Rattle.rules.specs.Filters.{Top}
use Rattle.rules.specs.Outs.{Out, size, bare, sum_out, sum_or, var_name}
use Rattle.rules.specs.Rules as Rules
use Rattle.rules.specs.Rules.{Scope, called, empty_out, format_out, term, branches, defs, body, strings, string, entry}
use Rattle.rules.specs.Slices.{Table, Slice, slice-left, slice-right}
use Rattle.walks.specs.TreeWalk as ByName
use Rattle.walks.specs.TreeWalk.{View, Spot, Leaf, define, stand, part_at, parts_at, entries_at, format_at, empty_at, or_empty, else_at}
use Rattle.walks.specs.TableWalk as ByNumber
use Rattle.walks.specs.TableWalk.{Cells, skip, here}
use Rattle.walks.proofs.Holds.{nil-left, nil-right, Holds, Peeled, peel, only}
use Rattle.walks.proofs.Agree.{Agree, ag_filter}

-- the walk stands at none of these: it goes on to a Def's body, to a string's parts, to an object's entries
abbrev pub Plain : Term → Type 0
Plain (t_def p ds t) = ⊥
Plain (t_str p f ss) = ⊥
Plain (t_obj p es) = ⊥
Plain (t_id p) = Unit {0}
Plain (t_recurse p) = Unit {0}
Plain (t_arr p o) = Unit {0}
Plain (t_neg p t) = Unit {0}
Plain (t_label p x t) = Unit {0}
Plain (t_break p x) = Unit {0}
Plain (t_if_then_else p q t u bs) = Unit {0}
Plain (t_var p x) = Unit {0}
Plain (t_call p f ts) = Unit {0}
Plain (t_num p x) = Unit {0}
Plain (t_try_catch p t o) = Unit {0}
Plain (t_fold p f t x ts) = Unit {0}
Plain (t_pipe p t q x u) = Unit {0}
Plain (t_bin_op p t q x u) = Unit {0}
Plain (t_path p t ps) = Unit {0}

abbrev pub leaf_node : Leaf → Node
leaf_node Leaf.identity = n_id
leaf_node Leaf.to_string = n_to_string
leaf_node (Leaf.number i) = n_int i
leaf_node (Leaf.text x) = n_str x
leaf_node Leaf.empty_obj = n_obj_empty

module _ (T : Table) (c : Top) (e : Env) where
  pub record HeldTerm (t : Term) (n : ℕ) : Type 0 where
    pub next : ℕ
    pub allowed : Tail
    pub plain : Plain t
    pub holds : Holds T n next (term c t e next allowed)

  -- a call that is supplied, whose name would stand at q in an error
  pub record HeldCall (p : ℕ) (x : Text) (n : ℕ) : Type 0 where
    pub spelled : ℕ
    pub holds : Holds T n (suc n) (called c p x spelled 0 (bare []) e empty)

  -- the member of a number
  abbrev pub Member : Term → ℕ → Type 0
  Member t m = Holds T m (suc m) (term c t e (suc m) empty)

  abbrev pub HeldFormat : Format → ℕ → ℕ → Type 0
  HeldFormat f p m = Holds T m (suc m) (format_out c f p e)

  pub record HeldShown (p : ℕ) (f : Format) (t : Term) (n : ℕ) : Type 0 where
    pub part : ℕ
    pub shared : ℕ
    pub self : get_elem? T n ≡ some (record { place = p; node = n_pipe part none shared })
    pub member : Member t part
    pub format : HeldFormat f p shared

  pub record HeldParts (p : ℕ) (f : Format) (x : StrPart) (ss : StrParts) (n : ℕ) : Type 0 where
    pub next : ℕ
    pub shared : ℕ
    pub holds : Holds T n next (sum_out p next (string c x p shared e next) (strings c ss p shared e (next + length (string c x p shared e next).more)))
    pub format : HeldFormat f p shared

  abbrev pub entry_out : ℕ → Term → OptTerm → ℕ → Out
  entry_out p t o m = entry c o p e m (var_name t) (term c t e (suc m) empty) (term c t e (suc (suc m)) empty)

  pub record HeldSingle (p : ℕ) (t : Term) (o : OptTerm) (n : ℕ) : Type 0 where
    pub next : ℕ
    pub holds : Holds T n next (entry_out p t o next)

  pub record HeldEntries (p : ℕ) (t : Term) (o : OptTerm) (es : Entries) (n : ℕ) : Type 0 where
    pub next : ℕ
    pub holds : Holds T n next (sum_out p next (entry_out p t o next) (Rules.entries c es p e (next + length (entry_out p t o next).more)))

  pub record HeldReading (p : ℕ) (t : Term) (n : ℕ) : Type 0 where
    pub origin : ℕ
    pub key : ℕ
    pub self : get_elem? T n ≡ some (record { place = p; node = n_path origin (index key false ∷ []) })
    pub identity : get_elem? T origin ≡ some (record { place = p; node = n_id })
    pub member : Member t key

  -- a sum has more behind its first part
  abbrev pub Sum : StrParts → Type 0 → Type 0
  Sum s_nil A = ⊥
  Sum (s_cons x ss) A = A

  abbrev pub SumE : Entries → Type 0 → Type 0
  SumE es_nil A = ⊥
  SumE (es_cons q t o es) A = A

  -- what the rules give for a spot stands in the table, its own record at n
  abbrev pub Held : Spot → ℕ → Type 0
  Held (Spot.at t) n = HeldTerm t n
  Held (Spot.leaf p a) n = get_elem? T n ≡ some (record { place = p; node = leaf_node a })
  Held (Spot.call p x) n = HeldCall p x n
  Held (Spot.shown p f t) n = HeldShown p f t n
  Held (Spot.parts p f x ss) n = Sum ss (HeldParts p f x ss n)
  Held (Spot.single p t o) n = HeldSingle p t o n
  Held (Spot.entries p t o es) n = SumE es (HeldEntries p t o es n)
  Held (Spot.reading p t) n = HeldReading p t n

module _ (whole : Tree) (T : Table) (D : List (List Filter)) where
  pub record Match (s : ByName.State) (b : ByNumber.State) : Type 0 where
    pub top : Top
    pub env : Env
    pub held : Held T top env s.spot b.at
    pub agree : Agree whole T D top env s.view b.list

  -- after definitions the lists agree
  pub defines : (ds : Defs) (m : ℕ) (c : Top) (e : Env) (r : Tail) (v : View) (l : Cells) → Slice T m (defs c ds e m r).more → (defs c ds e m r).errs ≡ []
      → Agree whole T D c e v l → Agree whole T D c (defs c ds e m r).env (define ds v) l
  unfolding term
  defines ds_nil m c e r v l s q g = g
  defines (ds_cons (def p f ps t) ds) m c e r v l s q g =
      let a : Out = body c (def p f ps t) e m r in
      let d : Filter = filter_of f ps m e (sibling a.tail) in
      let k : ℕ = m + size a in
      let o : Scope = defs c ds (Row.filter d ∷ e) k r in
      let x : Peeled T m a o.more o.errs = peel T m a o.more o.errs s q in
      let z : 0 ≡ count e - count e = omega arith in
      defines ds k c (Row.filter d ∷ e) r (View.filter (def p f ps t) v v) l x.rest x.fine
      (ag_filter d (union r (bit (level e))) (le_refl (count e)) x.first (subst (λ (j : ℕ). Agree whole T D c e v (skip j l)) z g) g)

  -- ---- what the compiler supplies

  pub at-format : (f : Format) (p n : ℕ) (c : Top) (e : Env) (v : View) (l : Cells) → HeldFormat T c e f p n → Agree whole T D c e v l
      → Match (format_at p f v) (here n l)
  unfolding format_out
  at-format no_format p n c e v l h g = record { top = c; env = e; held = h.self; agree = g }
  at-format (a_format x) p n c e v l h g = record { top = c; env = e; held = record { spelled = text_place x.place; holds = h }; agree = g }

  pub at-empty : (p n : ℕ) (c : Top) (e : Env) (v : View) (l : Cells) → Holds T n (suc n) (empty_out c p e) → Agree whole T D c e v l → Match (empty_at p v) (here n l)
  unfolding empty_out
  at-empty p n c e v l h g = record { top = c; env = e; held = record { spelled = 0; holds = h }; agree = g }

  pub at_part : (x : StrPart) (p φ n m : ℕ) (f : Format) (c : Top) (e : Env) (v : View) (l : Cells) → Holds T n m (string c x p φ e m) → HeldFormat T c e f p φ
      → Agree whole T D c e v l → Match (part_at p f x v) (here n l)
  unfolding term
  at_part (s_text x) p φ n m f c e v l h k g = record { top = c; env = e; held = h.self; agree = g }
  at_part (s_char x) p φ n m f c e v l h k g = record { top = c; env = e; held = h.self; agree = g }
  at_part (s_term t) p φ n m f c e v l h k g =
      record { top = c; env = e; held = record { part = m; shared = φ; self = h.self; member = only T m (term c t e (suc m) empty) h.more h.fine; format = k }; agree = g }

  pub at-parts : (ss : StrParts) (p φ n m : ℕ) (f : Format) (c : Top) (e : Env) (v : View) (l : Cells) → Holds T n m (sum_or p (n_str []) (strings c ss p φ e m))
      → HeldFormat T c e f p φ → Agree whole T D c e v l → Match (parts_at p f ss v) (here n l)
  unfolding term sum_out
  at-parts s_nil p φ n m f c e v l h k g = record { top = c; env = e; held = h.self; agree = g }
  at-parts (s_cons x s_nil) p φ n m f c e v l h k g = at_part x p φ n m f c e v l h k g
  at-parts (s_cons x (s_cons y ss)) p φ n m f c e v l h k g =
      record { top = c; env = e; held = record { next = m; shared = φ; holds = h; format = k }; agree = g }

  pub at-entries : (es : Entries) (p n m : ℕ) (c : Top) (e : Env) (v : View) (l : Cells) → Holds T n m (sum_or p n_obj_empty (Rules.entries c es p e m))
      → Agree whole T D c e v l → Match (entries_at p es v) (here n l)
  unfolding term sum_out
  at-entries es_nil p n m c e v l h g = record { top = c; env = e; held = h.self; agree = g }
  at-entries (es_cons q t o es_nil) p n m c e v l h g = record { top = c; env = e; held = record { next = m; holds = h }; agree = g }
  at-entries (es_cons q t o (es_cons q' t' o' es)) p n m c e v l h g = record { top = c; env = e; held = record { next = m; holds = h }; agree = g }

  -- ---- a walk that comes to a term

  plainly : (t : Term) (n m : ℕ) (c : Top) (e : Env) (r : Tail) (v : View) (l : Cells) → Plain t → Holds T n m (term c t e m r) → Agree whole T D c e v l
      → Match (ByName.here (Spot.at t) v) (here n l)
  plainly t n m c e r v l i h g = record { top = c; env = e; held = record { next = m; allowed = r; plain = i; holds = h }; agree = g }

  pub stands : (t : Term) (n m : ℕ) (c : Top) (e : Env) (r : Tail) (v : View) (l : Cells) → Holds T n m (term c t e m r) → Agree whole T D c e v l
      → Match (stand t v) (here n l)
  unfolding term
  stands (t_def p ds t) n m c e r v l h g =
      let d : Scope = defs c ds e m r in
      let k : ℕ = m + length d.more in
      let a : Out = term c t d.env k r in
      let h' : Holds T n k a = record { self = h.self; more = slice-right T m d.more a.more h.more; fine = nil-right d.errs a.errs h.fine } in
      stands t n k c d.env r (define ds v) l h'
      (defines ds m c e r v l (slice-left T m d.more a.more h.more) (nil-left d.errs a.errs h.fine) g)
  stands (t_str p f ss) n m c e r v l h g =
      let a : Out = format_out c f p e in
      let k : ℕ = m + size a in
      let o : Out = sum_or p (n_str []) (strings c ss p m e k) in
      let x : Peeled T m a o.more o.errs = peel T m a o.more o.errs h.more h.fine in
      at-parts ss p m n k f c e v l (record { self = h.self; more = x.rest; fine = x.fine }) x.first g
  stands (t_obj p es) n m c e r v l h g = at-entries es p n m c e v l h g
  stands (t_id p) n m c e r v l h g = plainly (t_id p) n m c e r v l tt h g
  stands (t_recurse p) n m c e r v l h g = plainly (t_recurse p) n m c e r v l tt h g
  stands (t_arr p o) n m c e r v l h g = plainly (t_arr p o) n m c e r v l tt h g
  stands (t_neg p t) n m c e r v l h g = plainly (t_neg p t) n m c e r v l tt h g
  stands (t_label p x t) n m c e r v l h g = plainly (t_label p x t) n m c e r v l tt h g
  stands (t_break p x) n m c e r v l h g = plainly (t_break p x) n m c e r v l tt h g
  stands (t_if_then_else p q t u bs) n m c e r v l h g = plainly (t_if_then_else p q t u bs) n m c e r v l tt h g
  stands (t_var p x) n m c e r v l h g = plainly (t_var p x) n m c e r v l tt h g
  stands (t_call p f ts) n m c e r v l h g = plainly (t_call p f ts) n m c e r v l tt h g
  stands (t_num p x) n m c e r v l h g = plainly (t_num p x) n m c e r v l tt h g
  stands (t_try_catch p t o) n m c e r v l h g = plainly (t_try_catch p t o) n m c e r v l tt h g
  stands (t_fold p f t x ts) n m c e r v l h g = plainly (t_fold p f t x ts) n m c e r v l tt h g
  stands (t_pipe p t q x u) n m c e r v l h g = plainly (t_pipe p t q x u) n m c e r v l tt h g
  stands (t_bin_op p t q x u) n m c e r v l h g = plainly (t_bin_op p t q x u) n m c e r v l tt h g
  stands (t_path p t ps) n m c e r v l h g = plainly (t_path p t ps) n m c e r v l tt h g

  pub at-or : (o : OptTerm) (p n : ℕ) (c : Top) (e : Env) (v : View) (l : Cells) → Holds T n (suc n) (Rules.or_empty c o p e (suc n)) → Agree whole T D c e v l
      → Match (or_empty p o v) (here n l)
  unfolding term
  at-or no_term p n c e v l h g = at-empty p n c e v l h g
  at-or (a_term t) p n c e v l h g = stands t n (suc n) c e empty v l h g

  pub at-else : (bs : Branches) (p n m : ℕ) (c : Top) (e : Env) (r : Tail) (v : View) (l : Cells) → Holds T n m (branches c bs p e m r) → Agree whole T D c e v l
      → Match (else_at p bs v) (here n l)
  unfolding term
  at-else b_none p n m c e r v l h g = record { top = c; env = e; held = h.self; agree = g }
  at-else (b_else t) p n m c e r v l h g = stands t n m c e r v l h g
  at-else (b_pair q t u bs) p n m c e r v l h g = plainly (t_if_then_else p q t u bs) n m c e r v l tt h g
