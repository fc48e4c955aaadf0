-- `cycle::closing` meets its contract. Assumes nothing.
use borrow.Author.Tests.{ne_eqb}
use Rattle.lexer.specs.Lex.{closing}
use borrow.Author.Rules.{rules}
use native.Mathlib.Omega.{arith}
use Rattle.lexer.proofs.cycle.closing.Goals as goal

pub returns-in-40 : goal.returns-in-40
unfolding closing
returns-in-40 c = (simp c.in-40.is, search rules)

pub returns-in-91 : goal.returns-in-91
unfolding closing
returns-in-91 c = (simp c.in-91.is, search rules)

pub returns-in_default : goal.returns-in_default
unfolding closing
returns-in_default c = (simp (ne_eqb c.args.b 40 (λ e. omega arith), ne_eqb c.args.b 91 (λ e. omega arith)), search rules)
