-- "a body may return calls of itself and of what its place allows": whatever a term returns, its place allows; and what this makes of a module's definitions.
-- Assumes nothing.
use Rattle.std.specs.Prelude.{◌≡◌, Bool, false, cond, ltb}
use Rattle.std.proofs.Math.Path.{refl, subst}
use Rattle.std.proofs.Common.{sym, ◌∙◌, arith, pow_pos, eqb-true}
use Rattle.std.proofs.Math.Bool.{true}
use Rattle.std.proofs.Math.Option.{Option, none, some}
use mathlib.Core.List.{List, [], ◌∷◌}
use Prim.Native.Nat.{ℕ, suc, ◌+◌, ◌*◌, ◌≤◌, ◌^◌}
use Rattle.std.specs.Int.Bits.{bit_and, and_zero_r, or_zero_l}
use Rattle.std.specs.Int.Count.{ones}
use Rattle.std.proofs.lemmas.Nat.{ones-le, ones_cat}
use Rattle.tree.specs.Tree.{Name, Term, OptTerm, Terms, ts_nil, ts_cons, Branches, b_none, b_else, b_pair, Defs, ds_nil, ds_cons, def, Module, Tree, Operator, o_comma, o_alt, o_or, o_and, o_assign, o_update, o_update_alt, o_math, o_update_math, o_cmp, o_none, operator, Entries, es_nil, es_cons, no_term, a_term, t_id, t_recurse, t_arr, t_neg, t_label, t_break, t_if_then_else, t_var, t_call, t_def, t_num, t_try_catch, t_fold, t_pipe, t_bin_op, t_path, t_str, t_obj}
use Rattle.rules.specs.Names.{Text, ascii, same}
use Rattle.rules.specs.Table.{Node, Pat, Folding, Err}
use Rattle.rules.specs.Tails.{Tail, empty, bit, union, has, without, subset, Fun, parent, sibling, Call, local_call, module_kind}
use Rattle.rules.specs.Sets.{digit, digit-small, and-bit, subset-empty, subset-self, subset-trans, subset-union, subset-bit}
use Rattle.rules.specs.Lists.{Every, every_append, every_map, either}
use Rattle.rules.specs.Rows.{Env, Filter, filters, level, inside}
use Rattle.rules.specs.Filters.{Top, Found, nothing, argument, local, of_module, of_native}
use Rattle.rules.specs.Outs.{Out, Made, var_out, call_out, left_allows, right_allows, ite_out, sum_out, sum_or, lone_out}
use Rattle.rules.specs.Rules.{Waiting, called, end_of_fold, out_of_fold, term, branches, waiting, entries, entry, defs}
use Rattle.rules.specs.Modules.{top_of, modules}
use Rattle.rules.specs.Returns.{Lone, module_defs}

-- what o returns is a part of r
abbrev pub Within : Tail → Out → Type 0
Within r o = subset o.tail r ≡ true

-- ---- calls

call-within : (l : ℕ) (k : Fun) (r : Tail) → subset (local_call l k r).tail r ≡ true
unfolding local_call
call-within l parent r = either (λ (x : Call). subset x.tail r ≡ true) (has l r) _ _ (λ e. subset-bit l r e) (subset-empty r)
call-within l (sibling s) r = either (λ (x : Call). subset x.tail r ≡ true) (subset (without l s) r) _ _ (λ e. e) (subset-empty r)

call-out : (p k : ℕ) (r : Tail) (o : Made (List ℕ)) (x : Err) (f : Found) → Within r (call_out p k r o x f)
unfolding call_out
call-out p k r o x nothing = subset-empty r
call-out p k r o x (argument i) = subset-empty r
call-out p k r o x (local d) = call-within d.level d.fun r
call-out p k r o x (of_module d) = subset-empty r
call-out p k r o x (of_native i ps) = subset-empty r

var-out : (p : ℕ) (x : Err) (i : Option ℕ) (r : Tail) → Within r (var_out p x i)
unfolding var_out
var-out p x none r = subset-empty r
var-out p x (some i) r = subset-empty r

-- ---- operators, sums, folds

left-within : (o : Operator) (r : Tail) → subset (left_allows o r) r ≡ true
left-within o_comma r = subset-self r
left-within o_alt r = subset-empty r
left-within o_or r = subset-empty r
left-within o_and r = subset-empty r
left-within o_assign r = subset-empty r
left-within o_update r = subset-empty r
left-within o_update_alt r = subset-empty r
left-within (o_math k) r = subset-empty r
left-within (o_update_math k) r = subset-empty r
left-within (o_cmp k) r = subset-empty r
left-within o_none r = subset-empty r

right-within : (o : Operator) (r : Tail) → subset (right_allows o r) r ≡ true
right-within o_comma r = subset-self r
right-within o_alt r = subset-self r
right-within o_or r = subset-empty r
right-within o_and r = subset-empty r
right-within o_assign r = subset-empty r
right-within o_update r = subset-empty r
right-within o_update_alt r = subset-empty r
right-within (o_math k) r = subset-empty r
right-within (o_update_math k) r = subset-empty r
right-within (o_cmp k) r = subset-empty r
right-within o_none r = subset-empty r

-- an object returns nothing
lone-tail : (p n : ℕ) (a v : Out) (x : Option Text) → (lone_out p n a v x).tail ≡ empty
unfolding lone_out
lone-tail p n a v none = refl
lone-tail p n a v (some x) = refl

sum-tail : (p n : ℕ) (a : Out) (o : Option Out) → a.tail ≡ empty → (sum_out p n a o).tail ≡ empty
unfolding sum_out
sum-tail p n a none e = e
sum-tail p n a (some o) e = refl

module _ (c : Top) where
  -- each waiting member returns what it is allowed
  abbrev Waits : List Waiting → Type 0
  Waits gs = Every (λ g. (e : Env) (n : ℕ) (r : Tail) → Within r (g e n r)) gs

  fold_end : (p : ℕ) (f : Name) (a : ℕ) (o : Made (Folding → Node)) (gs : List Waiting) (e : Env) (n : ℕ) (r : Tail) → Waits gs → Within r (end_of_fold c p f a o gs e n r)
  unfolding end_of_fold
  fold_end p f a o [] e n r h =
      either (Within r) (same f.text (ascii "reduce")) _ _ (λ _. subset-empty r)
      (either (Within r) (same f.text (ascii "foreach")) _ _ (λ _. subset-empty r) (subset-empty r))
  fold_end p f a o (g ∷ []) e n r h = either (Within r) (same f.text (ascii "foreach")) _ _ (λ _. h.0 e (suc n) r) (subset-empty r)
  fold_end p f a o (g ∷ h ∷ gs) e n r w = subset-empty r

  fold_out : (p : ℕ) (f : Name) (a : ℕ) (s : Out) (x : Made Pat) (vs : List Name) (gs : List Waiting) (e : Env) (n : ℕ) (r : Tail)
      → Waits gs → Within r (out_of_fold c p f a s x vs gs e n r)
  unfolding out_of_fold
  fold_out p f a s x vs [] e n r w = subset-empty r
  fold_out p f a s x vs (g ∷ []) e n r w = subset-empty r
  fold_out p f a s x vs (g ∷ h ∷ gs) e n r w = fold_end p f a _ gs _ _ r w.1.1

  entry-tail : (v : OptTerm) (p : ℕ) (e : Env) (n : ℕ) (x : Option Text) (k y : Out) → (entry c v p e n x k y).tail ≡ empty
  unfolding term
  entry-tail no_term p e n x k y = lone-tail p n k y x
  entry-tail (a_term t) p e n x k y = refl

  object-within : (es : Entries) (p : ℕ) (t : Node) (e : Env) (n : ℕ) (r : Tail) → Within r (sum_or p t (entries c es p e n))
  unfolding term
  object-within es_nil p t e n r = subset-empty r
  object-within (es_cons q k v es) p t e n r =
      subst (λ (s : Tail). subset s r ≡ true) (sym (sum-tail p n _ (entries c es p e _) (entry-tail v p e n _ _ _))) (subset-empty r)

  mutual
    unfolding term ite_out called

    -- "a body may return calls of itself and of what its place allows": of any term, in any place
    pub returns : (t : Term) (e : Env) (n : ℕ) (r : Tail) → Within r (term c t e n r)
    returns (t_id p) e n r = subset-empty r
    returns (t_recurse p) e n r = subset-empty r
    returns (t_arr p o) e n r = subset-empty r
    returns (t_neg p t) e n r = subset-empty r
    returns (t_label p x t) e n r = subset-empty r
    returns (t_break p x) e n r = var-out p _ _ r
    returns (t_if_then_else p q t u bs) e n r = subset-union _ _ r (returns u e _ r) (branches-return bs p e _ r)
    returns (t_var p x) e n r = var-out p _ _ r
    returns (t_call p f ts) e n r = call-out p _ r _ _ _
    returns (t_def p ds t) e n r = returns t _ _ r
    returns (t_num p x) e n r = subset-empty r
    returns (t_try_catch p t o) e n r = subset-empty r
    returns (t_fold p f t x ts) e n r = fold_out p f _ _ _ _ (waiting c ts) e n r (waits ts)
    returns (t_pipe p t q x u) e n r = returns u _ _ r
    returns (t_bin_op p t q x u) e n r =
        subset-union _ _ r
        (subset-trans _ _ r (returns t e _ (left_allows (operator x) r)) (left-within (operator x) r))
        (subset-trans _ _ r (returns u e _ (right_allows (operator x) r)) (right-within (operator x) r))
    returns (t_path p t ps) e n r = subset-empty r
    returns (t_str p f ss) e n r = subset-empty r
    returns (t_obj p es) e n r = object-within es p _ e n r

    pub branches-return : (bs : Branches) (p : ℕ) (e : Env) (n : ℕ) (r : Tail) → Within r (branches c bs p e n r)
    branches-return b_none p e n r = subset-empty r
    branches-return (b_else t) p e n r = returns t e n r
    branches-return (b_pair q t u bs) p e n r = subset-union _ _ r (returns u e _ r) (branches-return bs p e _ r)

    waits : (ts : Terms) → Waits (waiting c ts)
    waits ts_nil = tt
    waits (ts_cons t ts) = (λ e n r. returns t e n r, waits ts)

-- ---- a module's definitions: they stand in a place that allows nothing

-- "`debug_assert!(tr.len() <= 1)` is proved as a count of members": a part of one level has at most one member
pub one-member : (s l : ℕ) → subset s (bit l) ≡ true → ones s ≤ 1
unfolding subset bit
one-member s l h = go (ltb l 64) (eqb-true _ s h)
  where
    go : (b : Bool) → bit_and s (cond b (2 ^ l) 0) ≡ s → ones s ≤ 1
    go true e =
        let d : digit s l * 2 ^ l + 0 ≡ s = omega (arith, and-bit s l, e) in
        let o : ones (digit s l * 2 ^ l + 0) ≡ ones (digit s l) + ones 0 = ones_cat l (digit s l) 0 (pow_pos l) in
        subst (λ (z : ℕ). ones z ≤ 1) d (omega (arith, o, ones-le 1 (digit s l) (digit-small s l), ones-le 0 0 (omega arith)))
    go false e = subst (λ (z : ℕ). ones z ≤ 1) (sym (and_zero_r s) ∙ e) (omega (arith, ones-le 0 0 (omega arith)))

nothing-else : (l s : ℕ) → subset s (bit l) ≡ true → without l s ≡ empty
unfolding without subset
nothing-else l s k = omega (arith, eqb-true (bit_and s (bit l)) s k)

sibling-call : (l s r : ℕ) → subset s (bit l) ≡ true → local_call l (sibling s) r ≡ record { kind = module_kind l (sibling s); tail = empty }
unfolding local_call module_kind
sibling-call l s r k = rw (nothing-else l s k, subset-empty r)

-- "Module calls return nothing: CatchOne if self-returning, else Inline.": this is what a sibling's rule comes to, from any place
pub lone-call : (d : Filter) (r : Tail) → Lone d → local_call d.level d.fun r ≡ record { kind = module_kind d.level d.fun; tail = empty }
lone-call d r h =
    subst (λ (f : Fun). local_call d.level f r ≡ record { kind = module_kind d.level f; tail = empty }) (sym h.seen) (sibling-call d.level h.set r h.own)

module _ (c : Top) where
  pub lone-defs : (ds : Defs) (e : Env) (n : ℕ) → Every Lone (filters e) → Every Lone (filters (defs c ds e n empty).env)
  unfolding term
  lone-defs ds_nil e n h = h
  lone-defs (ds_cons (def p f ps t) ds) e n h =
      let l : ℕ = level e in
      let s : Tail = (term c t (inside f ps n e) (suc n) (union empty (bit l))).tail in
      let w : subset s (bit l) ≡ true = subst (λ (u : Tail). subset s u ≡ true) (or_zero_l (bit l)) (returns c t (inside f ps n e) (suc n) (union empty (bit l))) in
      lone-defs ds _ _ (record { set = s; seen = refl; own = w }, h)

-- of every module that is compiled
pub lone-modules : (t : Tree) (ms : List Module) (ds : List (List Filter)) (n : ℕ) → Every (Every Lone) ds → Every (Every Lone) (modules t ms ds n).made
unfolding modules
lone-modules t [] ds n h = h
lone-modules t (m ∷ ms) ds n h = lone-modules t ms _ _ (every_append (Every Lone) ds _ h (lone-defs (top_of t ds m.uses) m.defs [] n tt, tt))

pub of-module-defs : (P : Filter → Type 0) (t : Tree) → ((d : Filter) → Lone d → P d) → Every (Every P) (module_defs t)
of-module-defs P t f = every_map (Every Lone) (Every P) (module_defs t) (λ ds h. every_map Lone P ds f h) (lone-modules t t.modules [] 0 tt)
