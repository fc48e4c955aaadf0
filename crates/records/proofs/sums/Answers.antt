-- `records::sums` meets its contract: after each turn the sum of the rows from j on has all its records but its own. Assumes nothing.
use mathlib.Core.Path.{refl}
use native.Mathlib.Omega.{arith}
use Rattle.records.proofs.Summing.{begin, asks, turn, finish}
use borrow.Author.Rules.{rules}
use Rattle.records.proofs.sums.Goals as goal

pub loop-j-init : goal.loop-j-init
loop-j-init c = begin _ _ _ _ _ _ _ c.requires.0

pub put_summand-x-requires : goal.put_summand-x-requires
put_summand-x-requires c = let a = asks _ _ _ _ _ _ _ _ _ _ c.loop-j.invariant (omega (arith, c.loop-j-test.true)) c.requires.1 c.requires.2 in (a.row, (a.summand, a.is, a.room))

pub put_sum-st-requires : goal.put_sum-st-requires
put_sum-st-requires c = let a = asks _ _ _ _ _ _ _ _ _ _ c.loop-j.invariant (omega (arith, c.loop-j-test.true)) c.requires.1 c.requires.2 in (c.loop-j.invariant.high, rw (c.put_summand-x.ensures a.summand a.is).end a.sum, a.two)

pub overflow_add-st : goal.overflow_add-st
overflow_add-st c = omega (arith, (asks _ _ _ _ _ _ _ _ _ _ c.loop-j.invariant (omega (arith, c.loop-j-test.true)) c.requires.1 c.requires.2).more)

pub loop-j-preserved : goal.loop-j-preserved
loop-j-preserved c = turn _ _ _ _ _ _ _ _ _ _ _ _ _ _ _ c.loop-j.invariant (omega (arith, c.loop-j-test.true)) c.put_summand-x.ensures c.put_sum-st.ensures refl (search rules)

pub returns : goal.returns
returns c = finish _ _ _ _ _ _ _ _ _ _ c.loop-j.invariant (omega (arith, c.loop-j-test.false))
