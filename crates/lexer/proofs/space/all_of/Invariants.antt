use mathlib.Core.Bool.{Bool}
use mathlib.Core.Path.{◌≡◌}
use Prim.Native.Nat.{ℕ}
use lib.ListN.{take}
use Rattle.std.specs.List.{list_all}
use Rattle.lexer.specs.Meets.{Tests}
use Rattle.lexer.proofs.space.all_of.Given as goal

abbrev pub invariant-loop-b : goal.invariant-loop-b
invariant-loop-b g l = (p : ℕ → Bool) → Tests (goal.F-post g l.test) p → l.all ≡ list_all p (take l.b-index l.block)
