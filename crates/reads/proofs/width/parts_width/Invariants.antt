use Rattle.reads.specs.Places.{Over}
use Rattle.reads.proofs.Partings.{Adding}
use Rattle.reads.proofs.width.parts_width.Given as goal

abbrev pub invariant-loop-p : goal.invariant-loop-p
invariant-loop-p l = (goal.iterator-loop-p).can_next l.p-iterator × Over l.b l.z l.p-iterator × Adding l.b l.q l.z l.p-iterator.at l.w
