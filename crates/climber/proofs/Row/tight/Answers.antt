-- `climber::Row::tight` meets its contract: the two tests are the definition's. Assumes nothing.
use Rattle.std.proofs.Common.{rules, tests}
use Rattle.climber.specs.Climb.{tight}
use Rattle.climber.proofs.Row.tight.Goals as goal

pub returns-then-i-count : goal.returns-then-i-count
unfolding tight
returns-then-i-count c = search (rules, tests)

pub returns-else-i-count : goal.returns-else-i-count
unfolding tight
returns-else-i-count c = search (rules, tests)
