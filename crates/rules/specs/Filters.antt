-- What a name means: variables past the locals, filters by name and arity, and the errors where there is none. Assumes nothing.
use Rattle.std.specs.Prelude.{ℕ, suc, ◌+◌, Bool, cond, ◌&&◌, List, [], ◌∷◌, length, get_or, eqb}
use Rattle.std.proofs.Math.Option.{Option, none, some, map}
use Rattle.fields.specs.Number.{value}
use Rattle.tree.specs.Tree.{Name, Number, Native, Import, Uses}
use Rattle.rules.specs.Names.{Text, same, Parted, plain, parted, parting}
use Rattle.rules.specs.Table.{Undefined, u_mod, u_filter, Err}
use Rattle.rules.specs.Rows.{Filter, var, label, arg, filter, Env, count, find_var}

abbrev pub or_else : {A : Type 0} → Option A → Option A → Option A
or_else none b = b
or_else (some a) b = some a

-- an imported variable, and the number of the module that imports it
pub record Imported : Type 0 where
  pub home : ℕ
  pub name : Name

-- What a module sees past its locals: its own imports and includes; the imported variables of all modules, in order; globals; natives; and the definitions
-- of each earlier module, the last one first
pub record Top : Type 0 where
  pub uses : Uses
  pub imported : List Imported
  pub globals : List Name
  pub natives : List Native
  pub earlier : List (List Filter)

-- modules count from 0, and main is the count of modules
abbrev pub home_of : Top → ℕ
home_of c = length c.earlier

-- ---- variables

-- last first: the last that fits, by the count of those behind it
abbrev pub last_that : {A : Type 0} → (A → Bool) → List A → Option ℕ
last_that fits [] = none
last_that fits (a ∷ as') = or_else (last_that fits as') (cond (fits a) (some (length as')) none)

-- "all modules' imported variables, last first, matching only the current module's"
abbrev pub imported_var : Top → Text → Option ℕ
imported_var c x = last_that (λ v. eqb v.home (home_of c) && same x v.name.text) c.imported

-- "globals, last first"
abbrev pub global_var : Top → Text → Option ℕ
global_var c x = last_that (λ v. same x v.text) c.globals

-- "`$x`: innermost local; else, past all locals, all modules' imported variables ..; else globals, last first; else Var error."
unfoldable pub variable : Top → Text → Env → Option ℕ
variable c x e =
    or_else (find_var x e)
    (or_else (map (λ i. count e + i) (imported_var c x))
    (map (λ i. count e + (length c.imported + i)) (global_var c x)))

-- ---- filters

pub data Found : Type 0 where
  nothing : Found
  argument : ℕ → Found
  local of_module : Filter → Found
  of_native : ℕ → List Name → Found

-- one binding further in
abbrev pub later : Found → Found
later nothing = nothing
later (argument i) = argument (suc i)
later (local d) = local d
later (of_module d) = of_module d
later (of_native i ps) = of_native i ps

abbrev pub fits : Text → ℕ → Filter → Bool
fits f a d = same f d.name.text && eqb a (length d.params)

-- "Filter by name and arity: innermost local"
abbrev pub find : Text → ℕ → Env → Found
find f a [] = nothing
find f a (var y ∷ e) = later (find f a e)
find f a (label y ∷ e) = later (find f a e)
find f a (arg y ∷ e) = cond (same f y.text && eqb a 0) (argument 0) (later (find f a e))
find f a (filter d ∷ e) = cond (fits f a d) (local d) (find f a e)

-- "last definition first"
abbrev pub definition : Text → ℕ → List Filter → Option Filter
definition f a [] = none
definition f a (d ∷ ds) = cond (fits f a d) (some d) (definition f a ds)

-- in the module of this number
abbrev pub in_module : Top → Text → ℕ → Number → Option Filter
in_module c f a k = definition f a (get_or c.earlier (value k.bytes) [])

-- "then included modules, last first"
abbrev pub included : Top → Text → ℕ → List Number → Option Filter
included c f a [] = none
included c f a (k ∷ ks) = or_else (included c f a ks) (in_module c f a k)

-- "then natives, first one first": i is the number of the first of them
abbrev pub native_of : Text → ℕ → ℕ → List Native → Found
native_of f a i [] = nothing
native_of f a i (v ∷ vs) = cond (same f v.name.text && eqb a (length v.params)) (of_native i v.params) (native_of f a (suc i) vs)

abbrev pub found_within : Option Filter → Found → Found
found_within none b = b
found_within (some d) b = of_module d

abbrev pub found_else : Found → Found → Found
found_else nothing b = b
found_else (argument i) b = argument i
found_else (local d) b = local d
found_else (of_module d) b = of_module d
found_else (of_native i ps) b = of_native i ps

-- "innermost local; then included modules, last first, last definition first; then natives, first one first"
unfoldable pub filter_named : Top → Text → ℕ → Env → Found
filter_named c f a e = found_else (find f a e) (found_within (included c f a c.uses.includes) (native_of f a 0 c.natives))

-- "last import of that name, and only it"
abbrev pub import_named : Text → List Import → Option Number
import_named m [] = none
import_named m (i ∷ is) = or_else (import_named m is) (cond (same m i.name.text) (some i.number) none)

-- ---- errors

abbrev pub error_at : Top → Undefined → ℕ → Text → Err
error_at c u q x = record { what = u; home = home_of c; place = q; length = length x }

-- what a call's name means, and the error if it means nothing
pub record Meant : Type 0 where
  pub found : Found
  pub missing : Err

-- "With `::`: last import of that name, and only it; Mod error names the module part, Filter error the rest." The name's first byte stands at q
unfoldable pub import_meant : Top → Text → Text → ℕ → ℕ → Option Number → Meant
import_meant c m f q a none = record { found = nothing; missing = error_at c u_mod q m }
import_meant c m f q a (some k) = record { found = found_within (in_module c f a k) nothing; missing = error_at c (u_filter a) (q + length m + 2) f }

unfoldable pub part_meant : Top → Text → ℕ → ℕ → Env → Parted → Meant
part_meant c x q a e plain = record { found = filter_named c x a e; missing = error_at c (u_filter a) q x }
part_meant c x q a e (parted m f) = import_meant c m f q a (import_named m c.uses.imports)

-- the filter that x means, with a arguments; its first byte stands at q
unfoldable pub meant : Top → Text → ℕ → ℕ → Env → Meant
meant c x q a e = part_meant c x q a e (parting x)
