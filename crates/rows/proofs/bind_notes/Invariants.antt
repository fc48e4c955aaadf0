use Rattle.rows.proofs.Notes.{Noting}
use Rattle.rows.proofs.bind_notes.Given as goal

abbrev pub invariant-loop-j : goal.invariant-loop-j
invariant-loop-j l = Noting l.tree l.initial.rows l.k l.i l.rows l.j
