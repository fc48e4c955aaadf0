-- `Room::put_char` meets its contract: of a code of two bytes the upper two bytes are 0. Assumes nothing.
use native.Mathlib.Omega.{arith}
use Rattle.lexer.proofs.Puts.{put-code}
use Rattle.lexer.proofs.put.Room.put_char.Goals as goal

pub returns : goal.returns
returns c = rw (← c.from.ensures) (put-code _ _ _ (omega (arith, c.from.ensures)) c.put_pair.ensures)
