-- `cells::bind`: the row, and one binding more. Assumes nothing.
use mathlib.Core.Path.{refl}
use Rattle.cells.proofs.Laws.{bind_is}
use Rattle.cells.proofs.bind.Goals as goal

pub returns : goal.returns
returns c = bind_is _ _ _ _ _ _ _ _ refl c.push.ensures
