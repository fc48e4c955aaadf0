use Prim.Native.Nat.{◌-◌, ◌≤◌}
use lib.ListN.{length}
use Rattle.tree.proofs.Headers.{Along}
use Rattle.tree.proofs.row.Given as goal

abbrev pub invariant-loop-q : goal.invariant-loop-q
invariant-loop-q l = Along l.b l.e l.s l.p l.i l.q × (l.e ≤ length l.b)

abbrev pub decreases-loop-q : goal.decreases-loop-q
decreases-loop-q l = l.e - l.q
