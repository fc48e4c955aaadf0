-- `escape::unicode` meets its contract: a bad digit, a surrogate, a character. Assumes nothing.
use mathlib.Core.Path.{sym, ◌∙◌}
use Rattle.lexer.proofs.Escapes.{bad-digit, bad-code, good-code}
use Rattle.lexer.proofs.escape.unicode.Goals as goal

pub returns-in-Err : goal.returns-in-Err
returns-in-Err c = bad-digit _ _ _ c.args.out.now _ _ c.requires _ c.in-Err.ensures c.put_error.ensures

pub returns-then-surrogate : goal.returns-then-surrogate
returns-then-surrogate c = bad-code _ _ _ c.args.out.now _ _ c.requires _ c.in-Ok.ensures (sym c.surrogate.ensures ∙ c.if-surrogate.true) c.put_error-then-surrogate.ensures

pub returns-else-surrogate : goal.returns-else-surrogate
returns-else-surrogate c = good-code _ _ _ _ _ c.args.err.now c.requires _ c.in-Ok.ensures (sym c.surrogate.ensures ∙ c.if-surrogate.false) c.put_char.ensures
