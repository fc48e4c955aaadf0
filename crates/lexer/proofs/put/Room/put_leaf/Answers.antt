-- `Room::put_leaf` meets its contract: the field of two numbers is the token's. Assumes nothing.
use Rattle.lexer.proofs.Puts.{put-leaf}
use Rattle.lexer.proofs.put.Room.put_leaf.Goals as goal

pub returns : goal.returns
returns c = rw (← c.number.ensures) (put-leaf _ _ _ _ _ c.put_pair.ensures)
