-- `Room::enclose` meets its contract: the end, then the record before the members. Assumes nothing.
use mathlib.Core.Path.{refl}
use Rattle.lexer.proofs.Puts.{enclosed}
use Rattle.lexer.proofs.put.Room.enclose.Goals as goal

pub returns : goal.returns
returns c = rw (← c.number.ensures) (enclosed _ _ _ _ _ _ _ c.put.ensures refl refl c.put_pair.ensures.1)
