-- `Room::new` meets its contract: the four bytes are the edition. Assumes nothing.
use Rattle.fields.specs.Number.{number}
use Rattle.fields.specs.Field.{field}
use Rattle.lexer.specs.Listing.{edition}
use Rattle.lexer.proofs.put.Room.new.Goals as goal

pub returns-clause-opened : goal.returns-clause-opened
unfolding edition field number
returns-clause-opened c = record { next = c.put.ensures.next; room = c.put.ensures.room }
