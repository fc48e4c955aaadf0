use Prim.Native.Nat.{◌-◌}
use lib.ListN.{length}
use Rattle.reads.specs.Places.{Over}
use Rattle.rows.proofs.Patterns.{Going}
use Rattle.rows.proofs.+bind_vars.Given as goal

abbrev pub decreases-bind_vars : goal.decreases-bind_vars
decreases-bind_vars l = length l.tree.now - l.q

abbrev pub invariant-loop-p : goal.invariant-loop-p
invariant-loop-p l =
    (goal.iterator-loop-p).can_next l.p-iterator × Over l.tree l.z l.p-iterator × Going l.tree l.initial.rows l.k l.q l.tag l.z l.rows l.p-iterator.at l.i
