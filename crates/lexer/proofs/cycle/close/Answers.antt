-- `cycle::close` meets its contract: the matching closer, or its error. Assumes nothing.
use Rattle.lexer.proofs.Pieces.{closed, unclosed}
use Rattle.lexer.proofs.cycle.close.Goals as goal

pub returns-then-byte_at-closing : goal.returns-then-byte_at-closing
returns-then-byte_at-closing c = closed _ _ _ c.byte_at.ensures c.requires.place _ _ _ c.closing.ensures _ c.if-byte_at-closing.true _ c.put_leaf.ensures

pub returns : goal.returns
returns c = unclosed _ _ _ c.byte_at.ensures c.requires.place _ _ _ c.closing.ensures _ c.if-byte_at-closing.false _ c.put_error.ensures
