-- `finds::defined` meets its contract: the module's cell says where its rows are. Assumes nothing.
use Rattle.finds.proofs.Meanings.{known-pos, known-order, known-row, defined-returns}
use Rattle.finds.proofs.Seeks.{search-of}
use Rattle.finds.proofs.defined.Goals as goal

pub within-requires : goal.within-requires
within-requires c = let a = c.args in (known-pos a.tree.now a.rows.now a.i c.requires, known-order a.tree.now a.rows.now a.i c.requires, known-row a.tree.now a.rows.now a.i c.requires)

pub returns : goal.returns
returns c = let a = c.args in record { is = defined-returns a.tree.now a.rows.now a.i _ _ _ _ (search-of a.x.now) c.within.ensures.is; real = c.within.ensures.real }
