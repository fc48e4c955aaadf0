-- `records::op_tag` meets its contract: a key, or where the byte lies. Assumes nothing.
use Rattle.records.specs.Operators.{op_tag}
use Rattle.records.proofs.Small.{op-zero, op-logic, op-none, op-math, op-cmp, op-update, op-key}
use native.Mathlib.Omega.{arith}
use Rattle.records.proofs.op_tag.Goals as goal

pub returns-in-1 : goal.returns-in-1
unfolding op_tag
returns-in-1 c = op-key _ 1 c.in-1.is

pub returns-in-2 : goal.returns-in-2
unfolding op_tag
returns-in-2 c = op-key _ 2 c.in-2.is

pub returns-in-5 : goal.returns-in-5
unfolding op_tag
returns-in-5 c = op-key _ 5 c.in-5.is

pub returns-in-6 : goal.returns-in-6
unfolding op_tag
returns-in-6 c = op-key _ 6 c.in-6.is

pub returns-in-7 : goal.returns-in-7
unfolding op_tag
returns-in-7 c = op-key _ 7 c.in-7.is

pub returns-in-3 : goal.returns-in-3
returns-in-3 c = op-logic _ (omega arith) (omega arith)

pub returns-in-16-to-31 : goal.returns-in-16-to-31
returns-in-16-to-31 c = op-math _ (omega arith) (omega arith) (omega arith)

pub returns-in-32-to-47 : goal.returns-in-32-to-47
returns-in-32-to-47 c = op-cmp _ (omega arith) (omega arith) (omega arith)

pub returns-in_default : goal.returns-in_default
returns-in_default c = op-zero _ (omega arith)

pub returns-in_default-2 : goal.returns-in_default-2
returns-in_default-2 c = op-none _ (omega arith) (omega arith)

pub returns-in_default-3 : goal.returns-in_default-3
returns-in_default-3 c = op-update _ (omega arith) (omega arith)
