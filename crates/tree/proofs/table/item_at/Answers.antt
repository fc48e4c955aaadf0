-- `tree::table::item_at` answers an entry of `items`. Assumes nothing.
use mathlib.Core.Path.{refl}
use Rattle.tree.specs.Table.{items}
use Rattle.tree.proofs.table.item_at.Goals as goal

pub returns : goal.returns
unfolding items
returns c = refl
