-- `sym::sym` meets its contract: operators, a dot, a single symbol. Assumes nothing.
use mathlib.Core.Path.{sym, ◌∙◌}
use Rattle.lexer.specs.Sym.{follows}
use Rattle.lexer.proofs.Syms.{operators-is, dot-is, single-is}
use borrow.Author.Rules.{rules}
use Rattle.lexer.proofs.sym.sym.Goals as goal

pub returns-then-operator : goal.returns-then-operator
returns-then-operator c = operators-is _ _ _ _ c.byte_at-b.ensures (sym c.operator.ensures ∙ c.if-operator.true) (c.past.ensures follows (λ b r e. e))

pub returns-then-b-eq46 : goal.returns-then-b-eq46
returns-then-b-eq46 c = dot-is _ _ _ _ c.byte_at-b.ensures (sym c.operator.ensures ∙ c.if-operator.false) c.if-b-eq46.true c.dot.ensures

pub returns : goal.returns
returns c = single-is _ _ _ c.byte_at-b.ensures (sym c.operator.ensures ∙ c.if-operator.false) c.if-b-eq46.false (search rules)
