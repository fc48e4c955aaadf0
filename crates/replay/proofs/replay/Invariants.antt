-- `replay::replay`: what is left falls.
use Rattle.std.proofs.Common.{length}
use Rattle.replay.proofs.Counts.{Going}
use Rattle.replay.proofs.replay.Given as goal

abbrev pub invariant-loop-behind : goal.invariant-loop-behind
invariant-loop-behind l = Going l.sample l.rest l.tallies

abbrev pub decreases-loop-behind : goal.decreases-loop-behind
decreases-loop-behind l = length l.rest
