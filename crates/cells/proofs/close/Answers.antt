-- `cells::close`: rows leave the view, the last first. Assumes nothing.
use Rattle.cells.specs.Leaving.{closing-next, closing-done}
use borrow.Author.Rules.{rules}
use Rattle.cells.proofs.close.Goals as goal

pub loop-j-preserved : goal.loop-j-preserved
loop-j-preserved c = closing-next _ _ _ _ _ _ _ c.loop-j.invariant c.unlink.ensures (search rules) (search rules)

pub returns : goal.returns
returns c = closing-done _ _ _ _ _ _ c.loop-j.invariant c.loop-j-test.false
