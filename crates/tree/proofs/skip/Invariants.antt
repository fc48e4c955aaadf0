use mathlib.Core.Path.{◌≡◌}
use Rattle.tree.specs.Grammar.{row_at, after}
use Rattle.tree.proofs.skip.Given as goal

abbrev pub invariant-loop-j : goal.invariant-loop-j
invariant-loop-j l = after (row_at l.j) l.c ≡ after (row_at l.i) l.c
