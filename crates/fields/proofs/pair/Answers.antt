-- `fields::pair` meets its contract: the seven bytes are the field, written out. Assumes nothing.
use mathlib.Core.Path.{refl}
use Rattle.fields.specs.Number.{number}
use Rattle.fields.specs.Field.{field}
use Rattle.fields.proofs.pair.Goals as goal

pub returns : goal.returns
unfolding field number
returns c = rw (c.number.ensures, c.number-2.ensures) refl
