-- `cells::note` writes three cells of a row. Assumes nothing.
use Rattle.cells.specs.Cells.{noted}
use borrow.Author.Rules.{rules}
use Rattle.cells.proofs.note.Goals as goal

pub returns : goal.returns
unfolding noted
returns c = search rules
