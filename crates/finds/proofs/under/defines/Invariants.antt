use Rattle.finds.proofs.Unders.{Defining}
use lib.ListN.{length}
use Prim.Native.Nat.{◌-◌}
use Rattle.finds.proofs.under.defines.Given as goal

abbrev pub invariant-loop-q : goal.invariant-loop-q
invariant-loop-q l = Defining l.b l.p l.x l.a l.q

abbrev pub decreases-loop-q : goal.decreases-loop-q
decreases-loop-q l = length l.b - l.q
