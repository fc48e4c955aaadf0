use mathlib.Core.Bool.{Bool}
use mathlib.Core.Path.{◌≡◌}
use Prim.Native.Nat.{ℕ, ◌-◌, ◌≤◌}
use lib.ListN.{length, drop}
use Rattle.lexer.specs.Meets.{Going, Tests}
use Rattle.lexer.proofs.space.past_many.Given as goal

abbrev pub invariant-loop-block : goal.invariant-loop-block
invariant-loop-block g l = record {
  short : length l.rest ≤ length l.s;
  is : l.rest ≡ drop (length l.s - length l.rest) l.s;
  going : (p : ℕ → Bool) → Tests (goal.F-post g l.test) p → Going p l.s l.at (length l.s - length l.rest);
}

abbrev pub decreases-loop-block : goal.decreases-loop-block
decreases-loop-block g l = length l.rest
