use Prim.Native.Nat.{◌-◌}
use lib.ListN.{length}
use Rattle.lexer.specs.Meets.{Spacing}
use Rattle.lexer.proofs.Spacing.{Commenting}
use Rattle.lexer.proofs.space.space.Given as goal

abbrev pub invariant-lines : goal.invariant-lines
invariant-lines l = Commenting l.s l.from l.initial.at l.at

abbrev pub decreases-lines : goal.decreases-lines
decreases-lines l = length l.s - l.at

abbrev pub invariant-space : goal.invariant-space
invariant-space l = Spacing l.s l.from l.at

abbrev pub decreases-space : goal.decreases-space
decreases-space l = length l.s - l.at
