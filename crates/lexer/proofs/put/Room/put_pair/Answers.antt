-- `Room::put_pair` meets its contract. Assumes nothing.
use mathlib.Core.Path.{refl}
use Rattle.fields.specs.Number.{number}
use Rattle.fields.specs.Field.{field}
use Rattle.lexer.specs.Listing.{pair}
use Rattle.lexer.proofs.put.Room.put_pair.Goals as goal

pub returns : goal.returns
unfolding pair field number
returns c = record { same = refl; next = c.put_pair-self.ensures.0; room = c.put_pair-self.ensures.1 }
