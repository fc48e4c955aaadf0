-- What the functions of this crate ask for and promise, where it is more than a definition of Means. Assumes nothing.
use Rattle.std.specs.Prelude.{ℕ, suc, ◌+◌, ◌<◌, ◌≡◌, cond, List, [], eqb, length, get_or, take, drop}
use Rattle.rules.specs.Names.{Text}
use Rattle.rules.specs.Table.{u_filter}
use Rattle.rules.specs.Lists.{Every}
use Rattle.rules.specs.Filters.{home_of, definition, included, import_named, filter_named, import_meant, error_at}
use Rattle.reads.specs.Bytes.{word_of}
use Rattle.cells.specs.Cells.{View, Seen, env_of, outer, key_of, Chain}
use Rattle.finds.specs.Hits as Hit
use Rattle.finds.specs.Hits.{row_of}
use Rattle.finds.specs.Means.{matches, first_of, FoundIs}
use Rattle.finds.specs.Firsts.{Below}
use Rattle.finds.specs.Bindings.{Legible}
use Rattle.finds.specs.Calls.{ModIs}
use Rattle.finds.specs.Modules.{ImportIs}

-- ---- asked for

-- the rows are right for some view
abbrev pub Viewed : List ℕ → List ℕ → Type 0
Viewed b s = (vw : View) × (k : ℕ) × Seen vw b s k

-- a name by its word, and by a key with its length
pub record Search (x : Text) (w key : ℕ) : Type 0 where
  pub class : ℕ
  pub arity : ℕ
  pub few : class < 4
  pub short : length x < 65536
  pub word : w ≡ word_of x
  pub is : key ≡ key_of class (length x) arity

abbrev pub Row : List ℕ → List ℕ → ℕ → Type 0
Row b s j = (m : ℕ) × Legible m b s j

-- from row j on the links lead outwards over rows that can be compared
pub record Along (b s : List ℕ) (j : ℕ) : Type 0 where
  pub rows : List ℕ
  pub chain : Chain s j rows
  pub falls : Below (suc j) rows
  pub legible : Every (λ (i : ℕ). Row b s i) rows

-- ---- promised

abbrev pub Seeks : List ℕ → List ℕ → ℕ → Text → ℕ → ℕ → ℕ → Type 0
Seeks b s j x w key r = (js : List ℕ) → Chain s j js → r ≡ first_of (matches b s x w key) js

-- a definition of module i
abbrev pub Defined : List ℕ → List ℕ → ℕ → Text → ℕ → ℕ → Type 0
Defined b s i x key r =
    (vw : View) (k : ℕ) → Seen vw b s k → i < home_of vw.top → (a : ℕ) → key ≡ key_of 2 (length x) a → ModIs (definition x a (get_or vw.top.earlier i [])) b s (outer vw) a r

-- "then included modules, last first, last definition first"
abbrev pub Includes : List ℕ → List ℕ → Text → ℕ → ℕ → Type 0
Includes b s x key r =
    (vw : View) (k : ℕ) → Seen vw b s k → (a : ℕ) → key ≡ key_of 2 (length x) a → ModIs (included vw.top x a vw.top.uses.includes) b s (outer vw) a r

-- "last import of that name"
abbrev pub Imports : List ℕ → List ℕ → Text → ℕ → Type 0
Imports b s x r = (vw : View) (k : ℕ) → Seen vw b s k → ImportIs (import_named x vw.top.uses.imports) b r

-- a name x that has its first `::` at c
abbrev pub MeansMod : List ℕ → List ℕ → Text → ℕ → ℕ → ℕ → Hit.Found → Type 0
MeansMod b s x c at a r =
    (vw : View) (k : ℕ) → Seen vw b s k
    → let m = import_meant vw.top (take c x) (drop (c + 2) x) at a (import_named (take c x) vw.top.uses.imports) in FoundIs m.found m.missing b s (outer vw) a r

-- a name without `::`
abbrev pub MeansPlain : List ℕ → List ℕ → Text → ℕ → ℕ → Hit.Found → Type 0
MeansPlain b s x at a r =
    (vw : View) (k : ℕ) → Seen vw b s k → FoundIs (filter_named vw.top x a (env_of vw b s k)) (error_at vw.top (u_filter a) at x) b s (outer vw) a r

-- ---- past the locals

-- the definition j of a module, or else f
unfoldable pub outside_of : ℕ → Hit.Found → Hit.Found
outside_of j f = cond (eqb j 0) f (row_of 5 j)
