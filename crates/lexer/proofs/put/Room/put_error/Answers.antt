-- `Room::put_error` meets its contract: the bytes are the field, written out. Assumes nothing.
use mathlib.Core.Path.{refl}
use Rattle.fields.specs.Number.{number}
use Rattle.lexer.specs.Listing.{opener}
use Rattle.lexer.proofs.Puts.{erred, erred-closer, opener-none}
use Rattle.lexer.proofs.put.Room.put_error.Goals as goal

pub returns-in-Closer : goal.returns-in-Closer
unfolding opener number
returns-in-Closer c = rw c.in-Closer.is (erred-closer _ _ _ _ _ refl (rw (c.tag.ensures, c.number.ensures) at c.put.ensures))

pub returns-in_default : goal.returns-in_default
unfolding number
returns-in_default c = erred _ _ _ _ (opener-none _ c.in_default.not-Closer) (rw (c.tag-in_default.ensures, c.number.ensures) at c.put-in_default.ensures)
