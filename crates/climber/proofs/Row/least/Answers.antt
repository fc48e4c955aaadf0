-- `climber::Row::least` meets its contract. Assumes nothing.
use Rattle.std.proofs.Common.{rules}
use Rattle.climber.specs.Climb.{least}
use Rattle.climber.proofs.Row.least.Goals as goal

pub returns : goal.returns
unfolding least
returns c = search rules
