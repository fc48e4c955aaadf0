use Prim.Native.Nat.{◌-◌}
use lib.ListN.{length}
use Rattle.reads.specs.Places.{Over}
use Rattle.records.proofs.Pats.{Going}
use Rattle.records.proofs.+put_pattern.Given as goal

abbrev pub decreases-put_pattern : goal.decreases-put_pattern
decreases-put_pattern l = length l.tree.now - l.q

abbrev pub invariant-loop-p : goal.invariant-loop-p
invariant-loop-p l = (goal.iterator-loop-p).can_next l.p-iterator × Over l.tree l.z l.p-iterator × Going l.tree l.rows l.q l.k l.o l.initial.out l.tag l.z l.p-iterator.at l.x l.j l.out
