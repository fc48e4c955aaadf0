use Prim.Native.Nat.{◌+◌, ◌*◌}
use Rattle.finds.proofs.Meanings.{Taking}
use Rattle.finds.proofs.included.Given as goal

abbrev pub invariant-loop-i : goal.invariant-loop-i
invariant-loop-i l = Taking l.tree l.rows l.x.name.now l.x.key (l.q + 3 + 5 * l.i)
