-- A whole tree: "modules in order (imports, includes, imported variables, definitions) and main, which has the same but a term for its definitions". The
-- modules are compiled one after the other, then main; the numbers go on throughout. Assumes nothing.
use Rattle.std.specs.Prelude.{ℕ, suc, ◌+◌, List, [], ◌∷◌, ◌++◌, length}
use Rattle.tree.specs.Tree.{Name, Uses, Globals, no_globals, a_globals, Module, Main, Tree}
use Rattle.rules.specs.Table.{Rec, Err}
use Rattle.rules.specs.Tails.{empty}
use Rattle.rules.specs.Rows.{Filter, filters}
use Rattle.rules.specs.Filters.{Imported, Top}
use Rattle.rules.specs.Outs.{slot, Made}
use Rattle.rules.specs.Rules.{term, defs}

-- "an optional list of globals (absent means none)"
abbrev pub globals_of : Globals → List Name
globals_of no_globals = []
globals_of (a_globals p xs) = xs

-- the variables that the module of number i imports
abbrev pub imported_by : ℕ → List Name → List Imported
imported_by i [] = []
imported_by i (x ∷ xs) = record { home = i; name = x } ∷ imported_by i xs

-- "all modules' imported variables", from the module of number i on, with main's
abbrev pub imported_from : ℕ → List Module → Main → List Imported
imported_from i [] u = imported_by i u.uses.vars
imported_from i (m ∷ ms) u = imported_by i m.uses.vars ++ imported_from (suc i) ms u

-- what a module of the tree sees past its locals, where these are the definitions of the modules before it
abbrev pub top_of : Tree → List (List Filter) → Uses → Top
top_of t ds u = record { uses = u; imported = imported_from 0 t.modules t.main; globals = globals_of t.globals; natives = t.natives; earlier = ds }

-- The modules ms, behind those whose definitions are ds, from the number n on: the definitions of all, the records, the errors. A module starts without
-- locals, in a place that allows nothing
unfoldable pub modules : Tree → List Module → List (List Filter) → ℕ → Made (List (List Filter))
modules t [] ds n = record { made = ds; more = []; errs = [] }
modules t (m ∷ ms) ds n =
    let d = defs (top_of t ds m.uses) m.defs [] n empty in
    let o = modules t ms (ds ++ (filters d.env ∷ [])) (n + length d.more) in
    record { made = o.made; more = d.more ++ o.more; errs = d.errs ++ o.errs }

-- the table, main's number, and the errors, each in the order they arose in
pub record Compiled : Type 0 where
  pub table : List Rec
  pub main : ℕ
  pub errs : List Err

unfoldable pub compile : Tree → Compiled
compile t =
    let m = modules t t.modules [] 0 in
    let k = length m.more in
    let o = term (top_of t m.made t.main.uses) t.main.body [] (suc k) empty in
    record { table = m.more ++ slot o; main = k; errs = m.errs ++ o.errs }
