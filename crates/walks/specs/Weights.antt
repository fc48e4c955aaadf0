-- How many bytes the fields of a tree have. Assumes nothing.
use Rattle.std.specs.Prelude.{ℕ, ◌+◌, length}
use Rattle.tree.specs.Rose.{Rose, Roses, leaf, node, rnil, rcons}

-- "One-byte tag, two-byte length": the bytes of a field, of a row of fields
abbrev mutual
  pub weigh : Rose → ℕ
  weigh (leaf k p x) = 3 + length x
  weigh (node k p rs) = 3 + weighs rs

  pub weighs : Roses → ℕ
  weighs rnil = 0
  weighs (rcons r rs) = weigh r + weighs rs
