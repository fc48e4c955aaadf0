-- `cycle::quote` meets its contract: the closing quote, or its error. Assumes nothing.
use Rattle.lexer.proofs.Pieces.{quoted, unquoted}
use Rattle.lexer.proofs.cycle.quote.Goals as goal

pub returns-then-byte_at-eq34 : goal.returns-then-byte_at-eq34
returns-then-byte_at-eq34 c = quoted _ _ _ c.byte_at.ensures c.requires.place _ c.if-byte_at-eq34.true

pub returns : goal.returns
returns c = unquoted _ _ _ c.byte_at.ensures c.requires.place _ c.if-byte_at-eq34.false _ c.put_error.ensures
