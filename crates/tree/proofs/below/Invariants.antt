use Prim.Native.Nat.{◌≤◌}
use lib.ListN.{length}
use Rattle.tree.specs.Places.{Over}
use Rattle.tree.proofs.Using.{Still}
use Rattle.tree.proofs.below.Given as goal

abbrev pub invariant-loop-q : goal.invariant-loop-q
invariant-loop-q l =
    (goal.iterator-loop-q).can_next l.q-iterator × Over l.b l.e l.q-iterator × Still l.b l.d l.e l.m l.p l.q-iterator.at × (l.e ≤ length l.b)
