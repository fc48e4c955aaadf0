-- `cycle::text_byte` meets its contract. Assumes nothing.
use native.Mathlib.Omega.{arith}
use Rattle.std.proofs.lemmas.Bool.Decides.{nat_tests}
use Rattle.lexer.specs.Lex.{text_byte}
use Rattle.lexer.proofs.cycle.text_byte.Goals as goal

pub returns-then-b-ne34 : goal.returns-then-b-ne34
unfolding text_byte
returns-then-b-ne34 c = grind (arith, nat_tests)

pub returns-else-b-ne34 : goal.returns-else-b-ne34
unfolding text_byte
returns-else-b-ne34 c = grind (arith, nat_tests)
