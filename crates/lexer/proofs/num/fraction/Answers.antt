-- `num::fraction` meets its contract: with `.`, and without. Assumes nothing.
use Rattle.lexer.proofs.Nums.{fraction-there, fraction-none}
use borrow.Author.Rules.{rules}
use Rattle.lexer.proofs.num.fraction.Goals as goal

pub returns-then-byte_at-eq46 : goal.returns-then-byte_at-eq46
returns-then-byte_at-eq46 c = fraction-there _ _ _ _ _ _ c.byte_at.ensures c.if-byte_at-eq46.true c.digits1.ensures

pub returns : goal.returns
returns c = fraction-none _ _ _ _ c.byte_at.ensures c.if-byte_at-eq46.false (search rules)
