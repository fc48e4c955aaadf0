-- `put::put_three` meets its contract. Assumes nothing.
use Rattle.fields.specs.Number.{number}
use Rattle.fields.specs.Field.{field}
use Rattle.puts.specs.Pairs.{pairs}
use Rattle.puts.proofs.put.put_three.Goals as goal

pub returns : goal.returns
unfolding field number pairs
returns c = c.put_numbers.ensures
