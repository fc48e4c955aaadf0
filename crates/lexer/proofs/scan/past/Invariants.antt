use lib.ListN.{length}
use Prim.Native.Nat.{◌-◌}
use mathlib.Core.Bool.{Bool}
use Prim.Native.Nat.{ℕ}
use Rattle.lexer.specs.Meets.{Going, Tests}
use Rattle.lexer.proofs.scan.past.Given as goal

abbrev pub invariant-loop-i : goal.invariant-loop-i
invariant-loop-i g l = (p : ℕ → Bool) → Tests (goal.F-post g l.test) p → Going p l.s l.at l.i

abbrev pub decreases-loop-i : goal.decreases-loop-i
decreases-loop-i g l = length l.s - l.i
