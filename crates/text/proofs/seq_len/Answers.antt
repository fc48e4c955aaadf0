-- `text::seq_len` meets its contract: each arm of the `match` is a row of Table 3-7, by its number, or lies between the rows.
-- Assumes nothing.
use Rattle.std.proofs.Common.{refl, ◌∙◌, arith}
use Rattle.text.specs.Utf8.{table}
use Rattle.text.proofs.Sequences.{by-row, by-none, by-end}
use Rattle.text.proofs.seq_len.Goals as goal

pub returns-in-224 : goal.returns-in-224
unfolding table
returns-in-224 c = by-row _ _ _ 2 _ c.in_ok-first.ensures.cases.0 (omega arith) c.goes_on.ensures

pub returns-in-237 : goal.returns-in-237
unfolding table
returns-in-237 c = by-row _ _ _ 4 _ c.in_ok-first.ensures.cases.0 (omega arith) c.goes_on-in-237.ensures

pub returns-in-240 : goal.returns-in-240
unfolding table
returns-in-240 c = by-row _ _ _ 6 _ c.in_ok-first.ensures.cases.0 (omega arith) c.goes_on-in-240.ensures

pub returns-in-244 : goal.returns-in-244
unfolding table
returns-in-244 c = by-row _ _ _ 8 _ c.in_ok-first.ensures.cases.0 (omega arith) c.goes_on-in-244.ensures

pub returns-in-0-to-127 : goal.returns-in-0-to-127
unfolding table
returns-in-0-to-127 c = by-row _ _ _ 0 _ c.in_ok-first.ensures.cases.0 (omega arith) refl

pub returns-in-194-to-223 : goal.returns-in-194-to-223
unfolding table
returns-in-194-to-223 c = by-row _ _ _ 1 _ c.in_ok-first.ensures.cases.0 (omega arith) c.goes_on-in-194-to-223.ensures

pub returns-in-225-to-236 : goal.returns-in-225-to-236
unfolding table
returns-in-225-to-236 c = by-row _ _ _ 3 _ c.in_ok-first.ensures.cases.0 (omega arith) c.goes_on-in-225-to-236.ensures

pub returns-in-238-to-239 : goal.returns-in-238-to-239
unfolding table
returns-in-238-to-239 c = by-row _ _ _ 5 _ c.in_ok-first.ensures.cases.0 (omega arith) c.goes_on-in-238-to-239.ensures

pub returns-in-241-to-243 : goal.returns-in-241-to-243
unfolding table
returns-in-241-to-243 c = by-row _ _ _ 7 _ c.in_ok-first.ensures.cases.0 (omega arith) c.goes_on-in-241-to-243.ensures

pub returns-in-128-to-193 : goal.returns-in-128-to-193
unfolding table
returns-in-128-to-193 c = by-none _ _ _ 1 c.in_ok-first.ensures.cases.0 (omega arith)

pub returns-in_default : goal.returns-in_default
unfolding table
returns-in_default c = by-none _ _ _ 9 c.in_ok-first.ensures.cases.0 (omega arith)

pub returns-in_err-first : goal.returns-in_err-first
returns-in_err-first c = c.from_residual.ensures ∙ by-end _ c.in_err-first.ensures.cases
