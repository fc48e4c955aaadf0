-- `op_width` meets its contract. Assumes nothing.
use native.Mathlib.Omega.{arith}
use Rattle.reads.proofs.Operators.{op-low, op-logic, op-middle, op-high}
use Rattle.reads.proofs.width.op_width.Goals as goal

pub returns-in-3 : goal.returns-in-3
returns-in-3 c = op-logic _ (omega arith) (omega arith)

pub returns-in_default : goal.returns-in_default
returns-in_default c = op-high _ (omega arith)

pub returns-in-0-to-15 : goal.returns-in-0-to-15
returns-in-0-to-15 c = op-low _ (omega arith)

pub returns-in-0-to-15-2 : goal.returns-in-0-to-15-2
returns-in-0-to-15-2 c = op-middle _ (omega arith) (omega arith)
