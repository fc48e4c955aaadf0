use Prim.Native.Nat.{◌-◌}
use lib.ListN.{length}
use Rattle.tree.proofs.Seen.{Seen}
use Rattle.tree.proofs.each_header.Given as goal

abbrev pub invariant-loop-p : goal.invariant-loop-p
invariant-loop-p l = Seen l.b l.p l.fields l.definitions

abbrev pub decreases-loop-p : goal.decreases-loop-p
decreases-loop-p l = length l.b - l.p
