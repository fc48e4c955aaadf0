use Rattle.reads.specs.Places.{Over}
use Rattle.finds.proofs.Unders.{Declaring}
use Rattle.finds.proofs.under.declares.Given as goal

abbrev pub invariant-loop-p : goal.invariant-loop-p
invariant-loop-p l = (goal.iterator-loop-p).can_next l.p-iterator × Over l.b l.z l.p-iterator × Declaring l.b l.q l.x l.a l.p-iterator.at
