use Prim.Native.Nat.{◌-◌}
use Rattle.reads.proofs.Rows.{Passing}
use lib.ListN.{length}
use Rattle.reads.proofs.bytes.tagged.Given as goal

abbrev pub invariant-loop-p : goal.invariant-loop-p
invariant-loop-p l = Passing l.b l.tag l.q l.i l.p

abbrev pub decreases-loop-p : goal.decreases-loop-p
decreases-loop-p l = length l.b - l.p
