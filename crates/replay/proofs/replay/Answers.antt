-- `replay::replay` meets its contract. Assumes nothing.
use Rattle.std.proofs.Common.{arith, length, ◌-◌}
use Rattle.replay.proofs.Counts.{begin, again}
use Rattle.replay.proofs.replay.Goals as goal

pub loop-behind-init : goal.loop-behind-init
loop-behind-init c = begin _ _ c.new-tallies.ensures

pub turn-requires : goal.turn-requires
turn-requires c = (length c.args.sample.now - length c.loop-behind.rest.now, omega arith, c.loop-behind.invariant.2)

pub loop-behind-preserved : goal.loop-behind-preserved
loop-behind-preserved c = again _ _ c.in-Some.behind _ _ c.loop-behind.invariant c.in-Some.ensures
