-- `tree::table::class_of` answers `class`. Assumes nothing.
use borrow.Author.Rules.{rules}
use Rattle.tree.specs.Table.{classes}
use Rattle.tree.proofs.Tables.{class-at}
use Rattle.tree.proofs.table.class_of.Goals as goal

pub returns : goal.returns
unfolding classes
returns c = rw c.from.ensures (class-at c.args.k (search rules))
