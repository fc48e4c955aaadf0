use Rattle.finds.proofs.Seeks.{Going}
use Rattle.finds.proofs.seek.Given as goal

abbrev pub invariant-loop-i : goal.invariant-loop-i
invariant-loop-i l = Going l.tree l.rows l.x.name.now l.x.word l.x.key l.j l.i

abbrev pub decreases-loop-i : goal.decreases-loop-i
decreases-loop-i l = l.i
