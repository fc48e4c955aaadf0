-- A whole program: the definitions of each module agree, one module after the other, and the walks start in matching states. Assumes nothing.
use Prim.Native.Nat.{ℕ, zero, suc, ◌+◌, ◌≤◌, ◌<◌}
use native.Mathlib.Omega.{arith}
use Rattle.std.specs.Prelude.{◌≡◌, refl}
use Rattle.std.proofs.Math.Path.{ap, sym, subst}
use Rattle.std.proofs.Common.{◌∙◌}
use Rattle.std.proofs.Math.Option.{none, some, none-ne-some, some-injective}
use mathlib.Core.List.{List, [], ◌∷◌, ◌++◌}
use Rattle.std.proofs.Math.ListN.{length, length-append, get_elem?, get_or, get_or-eq_default, get_or-append}
use Rattle.std.proofs.Math.Seq.{get_or-append_seam}
use Rattle.tree.specs.Tree.{Uses, Module, Tree, Defs, ds_nil, ds_cons, def}
use Rattle.rules.specs.Tails.{Tail, empty, sibling}
use Rattle.rules.specs.Rows.{Filter, Row, Env, filter_of, filters}
use Rattle.rules.specs.Filters.{Top}
use Rattle.rules.specs.Outs.{Out, slot, size, Made}
use Rattle.rules.specs.Rules.{Scope, term, defs, body}
use Rattle.rules.specs.Modules.{top_of, modules, compile}
use Rattle.rules.specs.Slices.{Table, Slice, slice-left, slice-right, slice-self}
use Rattle.walks.specs.Moves.{Move}
use Rattle.walks.specs.TreeWalk as ByName
use Rattle.walks.specs.TreeWalk.{Home, define}
use Rattle.walks.specs.TableWalk.{here}
use Rattle.walks.specs.Together.{Together, by_name, by_number}
use Rattle.walks.proofs.Holds.{nil-left, nil-right, Holds}
use Rattle.walks.proofs.Agree.{Past, ending, Agree, ag_end}
use Rattle.walks.proofs.Calls.{rows_of, Stocked, AllStocked}
use Rattle.walks.proofs.Match.{Match, defines, stands}
use Rattle.walks.proofs.Steps.{match-moves, moved-together}
use Rattle.walks.proofs.Each.{Moved}

-- ---- lists of modules

past_end : {A : Type 0} (xs : List A) (k : ℕ) → get_elem? xs k ≡ none → length xs ≤ k
past_end [] k q = omega arith
past_end (x ∷ xs) zero q = absurd (none-ne-some x (sym q))
past_end (x ∷ xs) (suc k) q = omega (arith, past_end xs k q)

-- the definitions of modules that are compiled later stand behind those of the earlier ones
made-length : (t : Tree) (ms : List Module) (ds : List (List Filter)) (n : ℕ) → length (modules t ms ds n).made ≡ length ds + length ms
unfolding modules
made-length t [] ds n = omega arith
made-length t (m ∷ ms) ds n =
    let d : Scope = defs (top_of t ds m.uses) m.defs [] n empty in
    omega (arith, made-length t ms (ds ++ (filters d.env ∷ [])) (n + length d.more), length-append ds (filters d.env ∷ []))

made-earlier : (t : Tree) (ms : List Module) (ds : List (List Filter)) (n k : ℕ) → k < length ds → get_or (modules t ms ds n).made k [] ≡ get_or ds k []
unfolding modules
made-earlier t [] ds n k h = refl
made-earlier t (m ∷ ms) ds n k h =
    let d : Scope = defs (top_of t ds m.uses) m.defs [] n empty in
    let fs : List (List Filter) = filters d.env ∷ [] in
    made-earlier t ms (ds ++ fs) (n + length d.more) k (omega (arith, length-append ds fs)) ∙ get_or-append ds fs [] k h

-- the rows that definitions leave are definitions
defs-rows : (c : Top) (ds : Defs) (fs : List Filter) (n : ℕ) (r : Tail) → (defs c ds (rows_of fs) n r).env ≡ rows_of (filters (defs c ds (rows_of fs) n r).env)
unfolding term
defs-rows c ds_nil [] n r = refl
defs-rows c ds_nil (f ∷ fs) n r = ap (◌∷◌ (Row.filter f)) (defs-rows c ds_nil fs n r)
defs-rows c (ds_cons (def p f ps t) ds) fs n r =
    let a : Out = body c (def p f ps t) (rows_of fs) n r in defs-rows c ds (filter_of f ps n (rows_of fs) (sibling a.tail) ∷ fs) (n + size a) r

module _ (t : Tree) (T : Table) (D : List (List Filter)) where
  -- what a module sees past its locals
  sees : (ds : List (List Filter)) (u : Uses) → ((k : ℕ) → k < length ds → get_or ds k [] ≡ get_or D k [])
      → Past t T D (top_of t ds u) (record { number = length ds; uses = u })
  sees ds u h = record { uses = refl; number = refl; imported = refl; globals = refl; natives = refl; earlier = h }

  -- the definitions of the modules ms, which are compiled behind those whose definitions are ds
  stocked : (ms : List Module) (ds : List (List Filter)) (n : ℕ) → D ≡ (modules t ms ds n).made → Slice T n (modules t ms ds n).more → (modules t ms ds n).errs ≡ []
      → (k : ℕ) (m : Module) → get_elem? ms k ≡ some m → Stocked t T D (length ds + k) m
  unfolding modules
  stocked [] ds n q s f k m h = absurd (none-ne-some m h)
  stocked (m' ∷ ms) ds n q s f zero m h =
      let d : Scope = defs (top_of t ds m'.uses) m'.defs [] n empty in
      let fs : List (List Filter) = filters d.env ∷ [] in
      let o : Made (List (List Filter)) = modules t ms (ds ++ fs) (n + length d.more) in
      let home : Home = record { number = length ds; uses = m'.uses } in
      let earlier : (k : ℕ) → k < length ds → get_or ds k [] ≡ get_or D k [] = λ k b. sym (made-earlier t (m' ∷ ms) ds n k b) ∙ ap (λ (x : List (List Filter)). get_or x k []) (sym q) in
      let own : filters d.env ≡ get_or D (length ds) [] =
      sym (get_or-append_seam ds (filters d.env) [] [])
      ∙ sym (made-earlier t ms (ds ++ fs) (n + length d.more) (length ds) (omega (arith, length-append ds fs)))
      ∙ ap (λ (x : List (List Filter)). get_or x (length ds) []) (sym q) in
      let g : Agree t T D (top_of t ds m'.uses) d.env (define m'.defs (ByName.outer t home)) (ending t T D) =
      defines t T D m'.defs n (top_of t ds m'.uses) [] empty (ByName.outer t home) (ending t T D) (slice-left T n d.more o.more s)
      (nil-left d.errs o.errs f) (ag_end (sees ds m'.uses earlier)) in
      let e : d.env ≡ rows_of (get_or D (length ds) []) = defs-rows (top_of t ds m'.uses) m'.defs [] n empty ∙ ap rows_of own in
      let here' : Stocked t T D (length ds) m' =
      record { top = top_of t ds m'.uses; agree = subst (λ (x : Env). Agree t T D (top_of t ds m'.uses) x (define m'.defs (ByName.outer t home)) (ending t T D)) e g } in
      let z : length ds ≡ length ds + 0 = omega arith in
      subst (λ (j : ℕ). Stocked t T D j m) z (subst (Stocked t T D (length ds)) (some-injective m' m h) here')
  stocked (m' ∷ ms) ds n q s f (suc k) m h =
      let d : Scope = defs (top_of t ds m'.uses) m'.defs [] n empty in
      let fs : List (List Filter) = filters d.env ∷ [] in
      let o : Made (List (List Filter)) = modules t ms (ds ++ fs) (n + length d.more) in
      let z : length (ds ++ fs) + k ≡ length ds + suc k = omega (arith, length-append ds fs) in
      subst (λ (j : ℕ). Stocked t T D j m) z
      (stocked ms (ds ++ fs) (n + length d.more) q (slice-right T n d.more o.more s) (nil-right d.errs o.errs f) k m h)

-- ---- a program that is accepted without errors

-- the definitions of all its modules
abbrev pub definitions : Tree → List (List Filter)
definitions t = (modules t t.modules [] 0).made

all-stocked : (t : Tree) → (compile t).errs ≡ [] → AllStocked t (compile t).table (definitions t)
unfolding compile
all-stocked t q =
    let m : Made (List (List Filter)) = modules t t.modules [] 0 in
    let o : Out = term (top_of t m.made t.main.uses) t.main.body [] (suc (length m.more)) empty in
    let T : Table = m.more ++ slot o in
    let count : length m.made ≡ 0 + length t.modules = made-length t t.modules [] 0 in
    record {
      there = λ i x y.
          let w : 0 + i ≡ i = omega arith in
          subst (λ (j : ℕ). Stocked t T m.made j x) w
          (stocked t T m.made t.modules [] 0 refl (slice-left T 0 m.more (slot o) (slice-self T)) (nil-left m.errs o.errs q) i x y);
      beyond = λ i y. get_or-eq_default m.made [] (omega (arith, count, past_end t.modules i y));
    }

-- both walks start in matching states
starts : (t : Tree) → (compile t).errs ≡ []
    → Match t (compile t).table (definitions t) (ByName.start t) (here (compile t).main (ending t (compile t).table (definitions t)))
unfolding compile
starts t q =
    let m : Made (List (List Filter)) = modules t t.modules [] 0 in
    let D : List (List Filter) = m.made in
    let k : ℕ = length m.more in
    let c : Top = top_of t D t.main.uses in
    let o : Out = term c t.main.body [] (suc k) empty in
    let T : Table = m.more ++ slot o in
    let z : 0 + k ≡ k = omega arith in
    let s : Slice T k (slot o) = subst (λ (j : ℕ). Slice T j (slot o)) z (slice-right T 0 m.more (slot o) (slice-self T)) in
    let h : Holds T k (suc k) o = record { self = s.0; more = s.1; fine = nil-right m.errs o.errs q } in
    let count : length D ≡ length t.modules = let w : length D ≡ 0 + length t.modules = made-length t t.modules [] 0 in omega arith in
    let home : Home = record { number = length t.modules; uses = t.main.uses } in
    let past : Past t T D c home = record { uses = refl; number = count; imported = refl; globals = refl; natives = refl; earlier = λ i b. refl } in
    stands t T D t.main.body k (suc k) c [] empty (ByName.outer t home) (ending t T D) h (ag_end past)

-- the two walks are in matching states after any moves
pub walks-match : (t : Tree) → (compile t).errs ≡ [] → (ms : List Move) → Moved t (compile t).table (definitions t) (by_name t ms) (by_number t ms)
walks-match t q ms =
    let T : Table = (compile t).table in
    let D : List (List Filter) = definitions t in
    match-moves t T D (all-stocked t q) ms (some (ByName.start t)) (some (here (compile t).main (ending t T D))) (starts t q)

-- so they stand together
pub walks-together : (t : Tree) → (compile t).errs ≡ [] → (ms : List Move) → Together t (compile t).table (by_name t ms) (by_number t ms)
walks-together t q ms = moved-together t (compile t).table (definitions t) (all-stocked t q) (by_name t ms) (by_number t ms) (walks-match t q ms)
