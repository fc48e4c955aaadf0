-- `escape::simple` meets its contract: `u`, an unknown escape, a named character. Assumes nothing.
use Rattle.lexer.proofs.Escapes.{is-unicode, is-unknown, is-named}
use Rattle.lexer.proofs.escape.simple.Goals as goal

pub returns-then-b-eq117 : goal.returns-then-b-eq117
returns-then-b-eq117 c = is-unicode _ _ _ _ _ _ c.requires _ c.byte_at-b.ensures _ c.if-b-eq117.true c.unicode.ensures

pub returns-in_default : goal.returns-in_default
returns-in_default c = is-unknown _ _ _ c.args.out.now _ _ c.requires _ c.byte_at-b.ensures c.if-b-eq117.false c.in_default.ensures c.put_error.ensures

pub returns : goal.returns
returns c = is-named _ _ _ _ _ c.args.err.now c.requires _ c.byte_at-b.ensures _ c.if-b-eq117.false c.in-Some.ensures (rw c.from.ensures at c.put_char.ensures)
