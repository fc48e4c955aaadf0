-- `lexer::lex` meets its contract: a refusal for each test, or what was read. Assumes nothing.
use native.Mathlib.Omega.{arith}
use Rattle.lexer.proofs.Entries.{long, invalid, valid}
use Rattle.lexer.proofs.lex.Goals as goal

pub returns-then-n-gt32768 : goal.returns-then-n-gt32768
returns-then-n-gt32768 c = long _ _ c.if-n-gt32768.true

pub returns-then-valid-n : goal.returns-then-valid-n
returns-then-valid-n c = rw c.prefix-valid.ensures (invalid _ _ c.if-n-gt32768.false (omega (arith, c.prefix-valid.ensures)))

pub returns : goal.returns
returns c = valid _ _ _ _ c.if-n-gt32768.false (omega (arith, c.prefix-valid.ensures)) c.fitting.ensures
