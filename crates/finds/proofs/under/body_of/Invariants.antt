use Rattle.finds.proofs.Unders.{Bodying}
use lib.ListN.{length}
use Prim.Native.Nat.{◌-◌}
use Rattle.finds.proofs.under.body_of.Given as goal

abbrev pub invariant-loop-q : goal.invariant-loop-q
invariant-loop-q l = Bodying l.b l.p l.q

abbrev pub decreases-loop-q : goal.decreases-loop-q
decreases-loop-q l = length l.b - l.q
