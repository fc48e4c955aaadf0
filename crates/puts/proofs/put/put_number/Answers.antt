-- `put::put_number` meets its contract. Assumes nothing.
use Rattle.fields.specs.Number.{number}
use Rattle.fields.specs.Field.{field}
use Rattle.puts.proofs.put.put_number.Goals as goal

pub returns : goal.returns
unfolding field number
returns c = rw (c.low.ensures, c.high.ensures) at c.put_bytes.ensures
