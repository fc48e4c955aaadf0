-- `escape::hexes` meets its contract: digits are read one by one. Assumes nothing.
use Rattle.lexer.proofs.Hexes.{digits-start, digits-small, digit-more, digit-stop, digits-all}
use native.Mathlib.Omega.{arith}
use borrow.Author.Rules.{rules}
use Rattle.lexer.proofs.escape.hexes.Goals as goal

pub loop-i-init : goal.loop-i-init
loop-i-init c = digits-start _ _ (search rules)

pub returns-in_default : goal.returns-in_default
returns-in_default c = digit-stop _ _ _ _ c.loop-i.invariant _ c.byte_at.ensures c.loop-i-test.true c.in_default.ensures.value

pub overflow_mul-code : goal.overflow_mul-code
overflow_mul-code c = omega (arith, digits-small _ _ _ _ c.loop-i.invariant c.loop-i-test.true)

pub overflow_add-code : goal.overflow_add-code
overflow_add-code c = omega (arith, c.in-Some.ensures.small, digits-small _ _ _ _ c.loop-i.invariant c.loop-i-test.true)

pub loop-i-preserved : goal.loop-i-preserved
loop-i-preserved c = digit-more _ _ _ _ c.loop-i.invariant _ c.byte_at.ensures _ c.in-Some.ensures.value c.in-Some.ensures.small c.loop-i-test.true

pub returns : goal.returns
returns c = digits-all _ _ _ _ c.loop-i.invariant c.loop-i-test.false
