-- The place of what the rules give: a term's record has the place of its field, a Def's that of its body, and what is supplied the place of the field whose rule
-- inserts it. So matching states stand at matching places, and agreeing lists match entry by entry. Assumes nothing.
use Rattle.std.specs.Prelude.{ℕ, suc, ◌+◌, ◌≡◌, Bool, true, false, cond}
use Rattle.std.proofs.Common.{arith, ap, sym, ◌∙◌, subst}
use Rattle.std.proofs.Math.Path.{refl}
use Rattle.std.proofs.Math.Option.{Option, none, some}
use mathlib.Core.List.{List, [], ◌∷◌}
use Rattle.std.proofs.Math.ListN.{length, get_elem?}
use Rattle.tree.specs.Tree.{Name, Tree, Term, OptTerm, no_term, a_term, StrParts, s_nil, s_cons, StrPart, s_text, s_char, s_term, Entries, es_nil, es_cons, Format, text_place, t_id, t_recurse, t_arr, t_neg, t_label, t_break, t_if_then_else, t_var, t_call, t_def, t_num, t_try_catch, t_fold, t_pipe, t_bin_op, t_path, t_str, t_obj}
use Rattle.rules.specs.Names.{Text, ascii, same}
use Rattle.rules.specs.Table.{Rec, Node, n_str, n_obj_empty, Pat, Folding, Err, u_var, u_label}
use Rattle.rules.specs.Tails.{Tail, empty}
use Rattle.rules.specs.Rows.{Filter, Env, count, find_label}
use Rattle.rules.specs.Filters.{Top, Found, nothing, argument, local, of_module, of_native, variable, meant, error_at}
use Rattle.rules.specs.Outs.{Out, size, fail, Made, bare, var_out, call_out, ite_out, sum_out, sum_or, lone_out, vars, var_name, arity}
use Rattle.rules.specs.Rules as Rules
use Rattle.rules.specs.Rules.{Waiting, called, fold_error, end_of_fold, out_of_fold, format_out, term, args, defs, waiting, pattern, strings, string, entry}
use Rattle.rules.specs.Slices.{Table}
use Rattle.walks.specs.TreeWalk as ByName
use Rattle.walks.specs.TreeWalk.{View, Entry, Spot, body_place}
use Rattle.walks.specs.TableWalk as ByNumber
use Rattle.walks.specs.TableWalk.{Cells, Cell}
use Rattle.walks.specs.Together.{all_imported, all_globals, PlaceAt, Alike, al_end, al_entry, al_filter, SameEntry, s_imported, s_global, s_var, s_value, s_label, s_arg}
use Rattle.walks.proofs.Holds.{Holds, place_at}
use Rattle.walks.proofs.Agree.{Agree, ag_end, ag_var, ag_value, ag_label, ag_arg, ag_filter, ending}
use Rattle.walks.proofs.Match.{Plain, Held, Match, entry_out}

var-place : (p : ℕ) (x : Err) (i : Option ℕ) → (var_out p x i).self.place ≡ p
unfolding var_out
var-place p x none = refl
var-place p x (some i) = refl

call-place : (p k : ℕ) (r : Tail) (o : Made (List ℕ)) (x : Err) (f : Found) → (call_out p k r o x f).self.place ≡ p
unfolding call_out
call-place p k r o x nothing = refl
call-place p k r o x (argument i) = refl
call-place p k r o x (local d) = refl
call-place p k r o x (of_module d) = refl
call-place p k r o x (of_native i ps) = refl

pick-place : (b : Bool) (o o' : Out) (p : ℕ) → o.self.place ≡ p → o'.self.place ≡ p → (cond b o o').self.place ≡ p
pick-place true o o' p h k = h
pick-place false o o' p h k = k

sum-place : (p n : ℕ) (a : Out) (o : Option Out) → a.self.place ≡ p → (sum_out p n a o).self.place ≡ p
unfolding sum_out
sum-place p n a none h = h
sum-place p n a (some o) h = refl

lone-place : (p n : ℕ) (a v : Out) (x : Option Text) → (lone_out p n a v x).self.place ≡ p
unfolding lone_out
lone-place p n a v none = refl
lone-place p n a v (some x) = refl

module _ (c : Top) where
  called-place : (p : ℕ) (x : Text) (q a : ℕ) (o : Made (List ℕ)) (e : Env) (r : Tail) → (called c p x q a o e r).self.place ≡ p
  unfolding called
  called-place p x q a o e r = call-place p (count e) r o (meant c x q a e).missing (meant c x q a e).found

  end-place : (p : ℕ) (f : Name) (a : ℕ) (o : Made (Folding → Node)) (gs : List Waiting) (e : Env) (n : ℕ) (r : Tail) → (end_of_fold c p f a o gs e n r).self.place ≡ p
  unfolding end_of_fold
  end-place p f a o [] e n r =
      pick-place (same f.text (ascii "reduce")) _ _ p refl (pick-place (same f.text (ascii "foreach")) _ (fail p (fold_error c f a) o.more o.errs) p refl refl)
  end-place p f a o (g ∷ []) e n r = pick-place (same f.text (ascii "foreach")) _ (fail p (fold_error c f a) o.more o.errs) p refl refl
  end-place p f a o (g ∷ h ∷ gs) e n r = refl

  fold-place : (p : ℕ) (f : Name) (a : ℕ) (s : Out) (x : Made Pat) (vs : List Name) (gs : List Waiting) (e : Env) (n : ℕ) (r : Tail)
      → (out_of_fold c p f a s x vs gs e n r).self.place ≡ p
  unfolding out_of_fold
  fold-place p f a s x vs [] e n r = refl
  fold-place p f a s x vs (g ∷ []) e n r = refl
  fold-place p f a s x vs (g ∷ h ∷ gs) e n r = end-place p f a _ gs _ _ r

  string-place : (x : StrPart) (p φ : ℕ) (e : Env) (n : ℕ) → (string c x p φ e n).self.place ≡ p
  unfolding term
  string-place (s_text x) p φ e n = refl
  string-place (s_char x) p φ e n = refl
  string-place (s_term t) p φ e n = refl

  strings-place : (ss : StrParts) (p φ : ℕ) (e : Env) (n : ℕ) → (sum_or p (n_str []) (strings c ss p φ e n)).self.place ≡ p
  unfolding term
  strings-place s_nil p φ e n = refl
  strings-place (s_cons x ss) p φ e n = sum-place p n (string c x p φ e n) _ (string-place x p φ e n)

  entry_place : (o : OptTerm) (p : ℕ) (e : Env) (n : ℕ) (x : Option Text) (k v : Out) → (entry c o p e n x k v).self.place ≡ p
  unfolding term
  entry_place no_term p e n x k v = lone-place p n k v x
  entry_place (a_term t) p e n x k v = refl

  entries-place : (es : Entries) (p : ℕ) (e : Env) (n : ℕ) → (sum_or p n_obj_empty (Rules.entries c es p e n)).self.place ≡ p
  unfolding term
  entries-place es_nil p e n = refl
  entries-place (es_cons q t o es) p e n = sum-place p n _ _ (entry_place o p e n (var_name t) (term c t e (suc n) empty) (term c t e (suc (suc n)) empty))

  pub term-place : (t : Term) (e : Env) (n : ℕ) (r : Tail) → (term c t e n r).self.place ≡ body_place t
  unfolding term ite_out
  term-place (t_def p ds t) e n r = term-place t (defs c ds e n r).env (n + length (defs c ds e n r).more) r
  term-place (t_str p f ss) e n r = strings-place ss p n e (n + size (format_out c f p e))
  term-place (t_obj p es) e n r = entries-place es p e n
  term-place (t_id p) e n r = refl
  term-place (t_recurse p) e n r = refl
  term-place (t_arr p o) e n r = refl
  term-place (t_neg p t) e n r = refl
  term-place (t_label p x t) e n r = refl
  term-place (t_break p x) e n r = var-place p (error_at c u_label (text_place p) x) (find_label x e)
  term-place (t_if_then_else p q t u bs) e n r = refl
  term-place (t_var p x) e n r = var-place p (error_at c u_var (text_place p) x) (variable c x e)
  term-place (t_call p f ts) e n r = called-place p f.text (text_place f.place) (arity ts) (args c ts e n) e r
  term-place (t_num p x) e n r = refl
  term-place (t_try_catch p t o) e n r = refl
  term-place (t_fold p f t x ts) e n r =
      let a : Out = term c t e (suc n) empty in fold-place p f (arity ts) a (pattern c x p e (n + size a)) (vars x) (waiting c ts) e n r
  term-place (t_pipe p t q x u) e n r = refl
  term-place (t_bin_op p t q x u) e n r = refl
  term-place (t_path p t ps) e n r = refl

-- a Plain term is its own body
plain-place : (t : Term) → Plain t → body_place t ≡ ByName.place_of (Spot.at t)
plain-place (t_def p ds t) h = absurd h
plain-place (t_str p f ss) h = refl
plain-place (t_obj p es) h = refl
plain-place (t_id p) h = refl
plain-place (t_recurse p) h = refl
plain-place (t_arr p o) h = refl
plain-place (t_neg p t) h = refl
plain-place (t_label p x t) h = refl
plain-place (t_break p x) h = refl
plain-place (t_if_then_else p q t u bs) h = refl
plain-place (t_var p x) h = refl
plain-place (t_call p f ts) h = refl
plain-place (t_num p x) h = refl
plain-place (t_try_catch p t o) h = refl
plain-place (t_fold p f t x ts) h = refl
plain-place (t_pipe p t q x u) h = refl
plain-place (t_bin_op p t q x u) h = refl
plain-place (t_path p t ps) h = refl

module _ (whole : Tree) (T : Table) where
  -- the record has this place
  placed : (n p : ℕ) (r : Rec) → get_elem? T n ≡ some r → r.place ≡ p → PlaceAt whole T n p
  placed n p r h q = place_at whole T n r h ∙ ap some q

  parts-place : (c : Top) (e : Env) (p : ℕ) (f : Format) (x : StrPart) (ss : StrParts) (n : ℕ) → Held T c e (Spot.parts p f x ss) n → PlaceAt whole T n p
  parts-place c e p f x s_nil n h = absurd h
  parts-place c e p f x (s_cons y ss) n h = placed n p _ h.holds.self (sum-place p h.next _ _ (string-place c x p h.shared e h.next))

  entries_at : (c : Top) (e : Env) (p : ℕ) (t : Term) (o : OptTerm) (es : Entries) (n : ℕ) → Held T c e (Spot.entries p t o es) n → PlaceAt whole T n p
  entries_at c e p t o es_nil n h = absurd h
  entries_at c e p t o (es_cons q' t' o' es) n h =
      placed n p _ h.holds.self (sum-place p h.next (entry_out T c e p t o h.next) _
      (entry_place c o p e h.next (var_name t) (term c t e (suc h.next) empty) (term c t e (suc (suc h.next)) empty)))

  held_place : (c : Top) (e : Env) (s : Spot) (n : ℕ) → Held T c e s n → PlaceAt whole T n (ByName.place_of s)
  held_place c e (Spot.at t) n h =
      placed n (ByName.place_of (Spot.at t)) _ h.holds.self (term-place c t e h.next h.allowed ∙ plain-place t h.plain)
  held_place c e (Spot.leaf p a) n h = placed n p _ h refl
  held_place c e (Spot.call p x) n h = placed n p _ h.holds.self (called-place c p x h.spelled 0 (bare []) e empty)
  held_place c e (Spot.shown p f t) n h = placed n p _ h.self refl
  held_place c e (Spot.parts p f x ss) n h = parts-place c e p f x ss n h
  held_place c e (Spot.single p t o) n h =
      placed n p _ h.holds.self
      (entry_place c o p e h.next (var_name t) (term c t e (suc h.next) empty) (term c t e (suc (suc h.next)) empty))
  held_place c e (Spot.entries p t o es) n h = entries_at c e p t o es n h
  held_place c e (Spot.reading p t) n h = placed n p _ h.self refl

  -- a term that stands in the table stands at its place
  pub holds-place : (t : Term) (n m : ℕ) (c : Top) (e : Env) (r : Tail) → Holds T n m (term c t e m r) → PlaceAt whole T n (body_place t)
  holds-place t n m c e r h = placed n (body_place t) _ h.self (term-place c t e m r)

  -- ---- lists

  alike-push : {A : Type 0} (make : A → ByName.Entry) (kind : ℕ → Cell) (xs : List A) (i : ℕ) (v : View) (l : Cells)
      → ((j : ℕ) (x : A) → get_elem? xs j ≡ some x → SameEntry whole T (make x) (kind (i + j)))
      → Alike whole T v l → Alike whole T (ByName.push_each make xs v) (ByNumber.push_cells kind i (length xs) l)
  alike-push make kind [] i v l s g = g
  alike-push make kind (x ∷ xs) i v l s g =
      let z : i + 0 ≡ i = omega arith in
      let more : (j : ℕ) (y : _) → get_elem? xs j ≡ some y → SameEntry whole T (make y) (kind (suc i + j)) =
      λ j y q. let w : i + suc j ≡ suc i + j = omega arith in subst (λ (k : ℕ). SameEntry whole T (make y) (kind k)) w (s (suc j) y q) in
      alike-push make kind xs (suc i) (View.entry (make x) v) (Cells.cell (kind i) l) more
      (al_entry (subst (λ (k : ℕ). SameEntry whole T (make x) (kind k)) z (s 0 x refl)) g)

  alike-outer : (h : ByName.Home) (D : List (List Filter)) → Alike whole T (ByName.outer whole h) (ending whole T D)
  alike-outer h D =
      let I = all_imported whole in
      let G = all_globals whole in
      alike-push Entry.imported Cell.imported I 0 (ByName.push_each Entry.global G (View.end h)) (ByNumber.push_cells Cell.global 0 (length G) Cells.end)
      (λ j y q. s_imported (let z : 0 + j ≡ j = omega arith in subst (λ (k : ℕ). get_elem? I k ≡ some y) (sym z) q))
      (alike-push Entry.global Cell.global G 0 (View.end h) Cells.end
      (λ j y q. s_global (let z : 0 + j ≡ j = omega arith in subst (λ (k : ℕ). get_elem? G k ≡ some y) (sym z) q)) al_end)

module _ (whole : Tree) (T : Table) (D : List (List Filter)) where
  pub match-place : (s : ByName.State) (b : ByNumber.State) → Match whole T D s b → PlaceAt whole T b.at (ByName.place_of s.spot)
  match-place s b h = held_place whole T h.top h.env s.spot b.at h.held

  pub alike : {c : Top} {e : Env} {v : View} {l : Cells} → Agree whole T D c e v l → Alike whole T v l
  alike (ag_end {h = h} past) = alike-outer whole T h D
  alike (ag_var h q g) = al_entry (s_var h q) (alike g)
  alike (ag_value h g) = al_entry (s_value h) (alike g)
  alike (ag_label h g) = al_entry (s_label h) (alike g)
  alike (ag_arg {t = t} {n = n} r {c' = c'} {e' = e'} h g' g) = al_entry (s_arg (holds-place whole T t n (suc n) c' e' r h) (alike g')) (alike g)
  alike (ag_filter d r b h g' g) = al_filter (alike g)
