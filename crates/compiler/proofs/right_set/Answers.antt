use native.Mathlib.Omega.{arith}
use Rattle.compiler.specs.FormsB.Operators.{right-first, right-other}
use Rattle.compiler.proofs.right_set.Goals as goal

pub returns-then-x-lt3 : goal.returns-then-x-lt3
returns-then-x-lt3 c = right-first _ _ c.requires c.if-x-lt3.true

pub returns : goal.returns
returns c = right-other _ _ (λ h. omega (arith, h, c.if-x-lt3.false))
