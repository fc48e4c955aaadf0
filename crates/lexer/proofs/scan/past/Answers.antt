-- `scan::past` meets its contract, at whatever class the test is of. Assumes nothing.
use mathlib.Core.Path.{sym, ◌∙◌}
use Rattle.lexer.proofs.Past.{more, stop, all}
use borrow.Author.Rules.{rules}
use Rattle.lexer.proofs.scan.past.Goals as goal

pub returns-then-not-test : goal.returns-then-not-test
returns-then-not-test g c = λ p t. stop p _ _ _ (c.loop-i.invariant p t) (search rules) (sym (t _ _ c.test.ensures) ∙ c.if-not-test.true)

pub loop-i-preserved : goal.loop-i-preserved
loop-i-preserved g c = λ p t. more p _ _ _ (c.loop-i.invariant p t) (search rules) (sym (t _ _ c.test.ensures) ∙ c.if-not-test.false)

pub returns : goal.returns
returns g c = λ p t. all p _ _ _ (c.loop-i.invariant p t) c.loop-i-test.false
