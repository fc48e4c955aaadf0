-- `cells::unlink`: the head leads past the row. Assumes nothing.
use Rattle.cells.proofs.Laws.{binding-kind, note-kind}
use Rattle.cells.specs.Leaving.{unlinked-note, unlinked-row}
use Rattle.cells.proofs.unlink.Goals as goal

pub returns-in-Kept : goal.returns-in-Kept
returns-in-Kept c = unlinked-note _ _ _ c.kind.ensures (note-kind _ c.in-Kept.is)

pub returns : goal.returns
returns c = unlinked-row _ _ _ _ _ c.kind.ensures (binding-kind _ c.in_default.not-Kept c.in_default.not-Piece) c.head-h.ensures c.link.ensures
