use Rattle.finds.proofs.Seeks.{Downing}
use Rattle.finds.proofs.within.Given as goal

abbrev pub invariant-loop-j : goal.invariant-loop-j
invariant-loop-j l = Downing l.tree l.rows l.x.name.now l.x.word l.x.key l.lo l.hi l.j
