-- The definitions of a tree's modules, and what is said of one of them. Assumes nothing.
use Rattle.std.specs.Prelude.{◌≡◌}
use Rattle.std.proofs.Math.Bool.{true}
use mathlib.Core.List.{List, []}
use Rattle.tree.specs.Tree.{Tree}
use Rattle.rules.specs.Tails.{Tail, bit, subset, sibling}
use Rattle.rules.specs.Rows.{Filter}
use Rattle.rules.specs.Modules.{modules}

-- a definition that returns at most itself
pub record Lone (d : Filter) : Type 0 where
  pub set : Tail
  pub seen : d.fun ≡ sibling set
  pub own : subset set (bit d.level) ≡ true

-- the definitions of the modules of a tree, module by module
abbrev pub module_defs : Tree → List (List Filter)
module_defs t = (modules t t.modules [] 0).made
