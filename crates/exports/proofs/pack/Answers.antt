-- `exports::pack` meets its contract: the sum of the three, none of which reaches into another. Assumes nothing.
use Rattle.std.proofs.Common.{arith}
use Rattle.exports.specs.Packed.{packed}
use Rattle.exports.proofs.pack.Goals as goal

pub returns : goal.returns
unfolding packed
returns c = omega (arith, c.from.ensures)
