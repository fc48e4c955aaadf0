use Prim.Native.Nat.{◌-◌}
use Rattle.records.proofs.Summing.{Turning}
use Rattle.records.proofs.sums.Given as goal

abbrev pub invariant-loop-j : goal.invariant-loop-j
invariant-loop-j l = Turning l.tree l.rows l.f l.k l.i l.initial.st l.initial.out (l.j - 1) l.st l.out
