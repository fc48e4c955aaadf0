-- `cells::push`: no cell's sum wraps, and the row, with its head, is the one due. Assumes nothing.
use Rattle.reads.specs.Texts.{text-slice}
use Rattle.cells.proofs.Laws.{kind-cast, push-is}
use Rattle.cells.proofs.push.Goals as goal

pub returns : goal.returns
returns c = let a = c.args in rw (kind-cast a.d.kind) (push-is _ _ _ _ _ _ _ _ _ _ _ _ _ _ _ (text-slice a.tree.now a.d.place c.end_of-z.result c.end_of-z.ensures) c.word-w.ensures c.head_of-h.ensures.0 c.class.ensures c.key.ensures.0)
