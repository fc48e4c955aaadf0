-- `records::put_sum` meets its contract: one summand is its own sum; of more the sides have the two numbers before n. Assumes nothing.
use native.Mathlib.Omega.{arith}
use Rattle.records.proofs.Summing.{one-sum, more-sum, one-ready}
use Rattle.records.proofs.put_sum.Goals as goal

pub put_summand-requires : goal.put_summand-requires
put_summand-requires c = one-ready _ _ _ _ _ _ c.requires.1 c.if-j-i.true

pub returns-then-j-i : goal.returns-then-j-i
returns-then-j-i c = λ ts p m t a l e. one-sum p m t ts _ _ _ _ _ _ _ _ _ c.if-j-i.true l a c.put_summand.ensures

pub overflow_sub-n : goal.overflow_sub-n
overflow_sub-n c = omega (arith, c.requires.2 (omega arith))

pub overflow_sub-n-2 : goal.overflow_sub-n-2
overflow_sub-n-2 c = omega (arith, c.requires.2 (omega arith))

pub put_mid-requires : goal.put_mid-requires
put_mid-requires c = omega (arith, c.requires.1.room)

pub overflow_add-result : goal.overflow_add-result
overflow_add-result c = omega (arith, c.requires.1.room)

pub returns : goal.returns
returns c = λ ts p m t a l e. more-sum p m _ t ts _ _ _ _ _ c.requires.0 c.if-j-i.false l e c.put_mid.ensures
