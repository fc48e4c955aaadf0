-- `num::digits1` meets its contract: digits are there, or missing. Assumes nothing.
use Rattle.lexer.proofs.Nums.{digits-there, digits-missed}
use Rattle.lexer.proofs.num.digits1.Goals as goal

pub returns-then-a-at : goal.returns-then-a-at
returns-then-a-at c = digits-missed _ _ _ _ _ c.digits0-a.ensures c.if-a-at.true c.put_error.ensures

pub returns-else-a-at : goal.returns-else-a-at
returns-else-a-at c = digits-there _ _ _ _ c.digits0-a.ensures c.if-a-at.false
