use Rattle.records.proofs.Elsing.{Turning}
use Rattle.records.proofs.elses.Given as goal

abbrev pub invariant-loop-j : goal.invariant-loop-j
invariant-loop-j l = Turning l.rows l.k l.i l.initial.st l.initial.out l.j l.st l.out
