use Prim.Native.Nat.{◌-◌, ◌<◌}
use Rattle.reads.proofs.Colons.{Without}
use lib.ListN.{length}
use Rattle.reads.proofs.bytes.colons.Given as goal

abbrev pub invariant-loop-i : goal.invariant-loop-i
invariant-loop-i l = (0 < l.i) × Without l.x l.i

abbrev pub decreases-loop-i : goal.decreases-loop-i
decreases-loop-i l = length l.x - l.i
