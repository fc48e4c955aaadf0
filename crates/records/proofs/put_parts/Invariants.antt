use Rattle.reads.specs.Places.{Over}
use Rattle.records.proofs.Paths.{Going}
use Rattle.records.proofs.put_parts.Given as goal

abbrev pub invariant-loop-p : goal.invariant-loop-p
invariant-loop-p l = (goal.iterator-loop-p).can_next l.p-iterator × Over l.tree l.z l.p-iterator × Going l.tree l.rows l.q l.z l.k l.o l.initial.out l.p-iterator.at l.j l.x l.out
