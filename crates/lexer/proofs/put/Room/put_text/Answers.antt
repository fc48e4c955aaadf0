-- `Room::put_text` meets its contract: nothing, or one field. Assumes nothing.
use Rattle.lexer.proofs.Puts.{put_some, put-empty}
use native.Mathlib.Omega.{arith}
use Rattle.lexer.proofs.put.Room.put_text.Goals as goal

pub returns-then-from-to : goal.returns-then-from-to
returns-then-from-to c = (omega (arith, c.put_leaf.ensures.size), put_some _ _ _ _ c.if-from-to.true c.put_leaf.ensures)

pub returns-else-from-to : goal.returns-else-from-to
returns-else-from-to c = (omega arith, put-empty _ _ _ (omega arith))
