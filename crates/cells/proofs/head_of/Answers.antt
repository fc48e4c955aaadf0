-- `cells::head_of`: no sum wraps, and the head is one of the heads. Assumes nothing.
use Rattle.cells.proofs.Laws.{head-is}
use Rattle.cells.proofs.head_of.Goals as goal

pub returns : goal.returns
returns c = let h = head-is _ _ _ in h
