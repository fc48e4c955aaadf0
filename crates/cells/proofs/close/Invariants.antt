use Rattle.cells.specs.Leaving.{Closing}
use Rattle.cells.proofs.close.Given as goal

abbrev pub invariant-loop-j : goal.invariant-loop-j
invariant-loop-j l = Closing l.initial.rows l.k l.i l.rows l.j
