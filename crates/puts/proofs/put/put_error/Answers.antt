-- `put::put_error` meets its contract. Assumes nothing.
use Rattle.fields.specs.Number.{number}
use Rattle.fields.specs.Field.{field}
use Rattle.puts.specs.Pairs.{pairs}
use Rattle.puts.proofs.put.put_error.Goals as goal

pub returns : goal.returns
unfolding field number pairs
returns c = c.put_numbers.ensures
