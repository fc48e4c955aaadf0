use Rattle.compiler.specs.FormsB.Operators.{left-comma, left_other}
use Rattle.compiler.proofs.left_set.Goals as goal

pub returns-then-x-eq1 : goal.returns-then-x-eq1
returns-then-x-eq1 c = left-comma _ _ c.if-x-eq1.true

pub returns : goal.returns
returns c = left_other _ _ c.if-x-eq1.false
