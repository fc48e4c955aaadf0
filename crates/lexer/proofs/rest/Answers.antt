-- `lexer::rest` meets its contract: one Token error, or nothing. Assumes nothing.
use Rattle.lexer.proofs.Wholes.{rest-wrong, rest-none}
use Rattle.lexer.proofs.rest.Goals as goal

pub returns-then-end-s : goal.returns-then-end-s
returns-then-end-s c = rest-wrong _ _ _ c.space-end.ensures.is _ _ c.if-end-s.true c.put_error.ensures

pub returns-else-end-s : goal.returns-else-end-s
returns-else-end-s c = rest-none _ _ _ c.space-end.ensures.is _ c.if-end-s.false
