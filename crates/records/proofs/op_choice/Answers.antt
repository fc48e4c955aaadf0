-- `records::op_choice` meets its contract: by where the byte lies. Assumes nothing.
use Rattle.records.specs.Operators.{op_choice}
use borrow.Author.Tests.{lt-ltb, le-ltb}
use native.Mathlib.Omega.{arith}
use Prim.Native.Nat.{◌≤◌}
use Rattle.records.proofs.op_choice.Goals as goal

pub returns-then-x-lt16 : goal.returns-then-x-lt16
unfolding op_choice
returns-then-x-lt16 c = simp (lt-ltb _ _ c.if-x-lt16.true)

pub returns : goal.returns
unfolding op_choice
returns c = let h : 16 ≤ c.args.x = omega arith in simp (le-ltb _ _ h)
