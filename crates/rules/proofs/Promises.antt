-- What a reader signs for: the claims of document 01 on tail sets, numbers and calls, for every tree, with errors or without.
use Rattle.std.specs.Prelude.{◌≡◌, true, List, [], ◌∷◌, ℕ, ◌≤◌, ◌<◌, length}
use Rattle.std.proofs.Common.{sym, ap, subst, ◌∙◌, arith, lt-ltb, le-ltb}
use Rattle.std.proofs.Math.Option.{some}
use Rattle.std.proofs.Math.ListN.{get_elem?}
use Rattle.std.specs.Int.Count.{ones}
use Rattle.fields.specs.Number.{number, value, value-number}
use Rattle.fields.specs.Outcome.{listing, refusal, pick}
use Rattle.tree.specs.Tree.{Term, Tree}
use Rattle.rules.specs.Table.{Kind, Arg, Rec, n_call_def, Err}
use Rattle.rules.specs.Tails.{Tail, empty, has, subset, Fun, returned, local_call, module_kind}
use Rattle.rules.specs.Sets.{has-subset}
use Rattle.rules.specs.Lists.{Every, every-at}
use Rattle.rules.specs.Rows.{Env}
use Rattle.rules.specs.Filters.{Top}
use Rattle.rules.specs.Rules.{term}
use Rattle.rules.specs.Modules.{compile}
use Rattle.rules.specs.Listing.{term_listing, error_listing, listed, compiling}
use Rattle.rules.specs.Returns.{module_defs}
use Rattle.rules.proofs.Returns.{returns, lone-call, one-member, of-module-defs}
use Rattle.rules.specs.Numbers.{In, Called, Fine}
use Rattle.rules.specs.Fine.{Of}
use Rattle.rules.proofs.Fine.{table-fine}
use Rattle.rules.specs.Count.{inserted}
use Rattle.rules.proofs.Count.{table-count}

-- "a body may return calls of itself and of what its place allows": a term that returns a call of an enclosing definition stands in a place that allows it
pub returned-is-allowed : (c : Top) (t : Term) (e : Env) (n : ℕ) (r : Tail) → subset (term c t e n r).tail r ≡ true
returned-is-allowed c t e n r = returns c t e n r

pub returned-level-is-allowed : (c : Top) (t : Term) (e : Env) (n : ℕ) (r : Tail) (l : ℕ) → l < 64 → has l (term c t e n r).tail ≡ true → has l r ≡ true
returned-level-is-allowed c t e n r l h k = has-subset (term c t e n r).tail r l h (returns c t e n r) k

-- "`debug_assert!(tr.len() <= 1)` is proved as a count of members": of each definition of each module
pub module-returns-one : (t : Tree) → Every (Every (λ d. ones (returned d.fun) ≤ 1)) (module_defs t)
module-returns-one t =
    of-module-defs (λ d. ones (returned d.fun) ≤ 1) t (λ d h. subst (λ (f : Fun). ones (returned f) ≤ 1) (sym h.seen) (one-member h.set d.level h.own))

-- "Module calls return nothing: CatchOne if self-returning, else Inline.": a sibling's rule would give the same, from any place
pub module-call-is-sibling-call : (t : Tree)
    → Every (Every (λ d. (r : Tail) → local_call d.level d.fun r ≡ record { kind = module_kind d.level d.fun; tail = empty })) (module_defs t)
module-call-is-sibling-call t = of-module-defs (λ d. (r : Tail) → local_call d.level d.fun r ≡ record { kind = module_kind d.level d.fun; tail = empty }) t (λ d h r. lone-call d r h)

-- "Term numbers follow insertion order": main's number, and every number that a record has for a term, is below the count of terms, and a called number is a
-- definition's, which takes the call's arguments (Numbers.antt says each)
pub numbers-are-terms : (t : Tree) (k : ℕ) (r : Rec) → get_elem? (compile t).table k ≡ some r → Fine (compile t).table (Of t) r.node
numbers-are-terms t k r e = every-at (λ x. Fine (compile t).table (Of t) x.node) (compile t).table k r (table-fine t).0 e

pub main-is-term : (t : Tree) → (compile t).main < length (compile t).table
main-is-term t = (table-fine t).1

pub calls-are-definitions : (t : Tree) (k d s : ℕ) (as' : List Arg) (how : Kind) (p : ℕ)
    → get_elem? (compile t).table k ≡ some (record { place = p; node = n_call_def d as' s how }) → Called (compile t).table (Of t) d as'
calls-are-definitions t k d s as' how p e = (numbers-are-terms t k (record { place = p; node = n_call_def d as' s how }) e).2

-- "6: over 4,096 terms inserted, error paths counted": how many are inserted is read off the tree, whatever its names mean
pub inserted-terms : (t : Tree) → length (compile t).table ≡ inserted t
inserted-terms t = table-count t

-- "numbers in two bytes": in a table that is not refused, two bytes hold each of them
pub numbers_fit : (t : Tree) (k : ℕ) → inserted t ≤ 4096 → In (compile t).table k → value (number 2 k) ≡ k
numbers_fit t k h i = value-number 2 k (omega (arith, table-count t))

-- 6, else "1: listing of errors, nothing else" where there is one, else "0: listing of .. terms"
pub refused : (t : Tree) → 4096 < inserted t → compiling t ≡ refusal 6 0
unfolding compiling
refused t h = ap (λ b. pick b (refusal 6 0) (listed (compile t) (compile t).errs)) (lt-ltb 4096 (length (compile t).table) (omega (arith, h, table-count t)))

not-refused : (t : Tree) → inserted t ≤ 4096 → compiling t ≡ listed (compile t) (compile t).errs
unfolding compiling
not-refused t h = ap (λ b. pick b (refusal 6 0) (listed (compile t) (compile t).errs)) (le-ltb 4096 (length (compile t).table) (omega (arith, h, table-count t)))

pub listed-terms : (t : Tree) → inserted t ≤ 4096 → (compile t).errs ≡ [] → compiling t ≡ listing 0 (term_listing 2 (compile t).main (compile t).table)
unfolding listed
listed-terms t h e = not-refused t h ∙ ap (listed (compile t)) e

pub listed-errors : (t : Tree) (x : Err) (xs : List Err) → inserted t ≤ 4096 → (compile t).errs ≡ x ∷ xs → compiling t ≡ listing 1 (error_listing 2 (x ∷ xs))
unfolding listed
listed-errors t x xs h e = not-refused t h ∙ ap (listed (compile t)) e
