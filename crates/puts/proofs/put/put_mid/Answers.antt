-- `put::put_mid` meets its contract. Assumes nothing.
use Rattle.fields.specs.Number.{number}
use Rattle.fields.specs.Field.{field}
use Rattle.puts.proofs.put.put_mid.Goals as goal

pub returns : goal.returns
unfolding field number
returns c = rw (c.low.ensures, c.high.ensures, c.low-2.ensures, c.high-2.ensures) at c.put_bytes.ensures
