-- `sym::dot` meets its contract: two dots, a dot with an identifier, a dot alone. Assumes nothing.
use mathlib.Core.Path.{sym, ◌∙◌}
use Rattle.lexer.proofs.Words.{letter-some}
use Rattle.lexer.proofs.Syms.{two-dots, dot_word, dot-alone}
use native.Mathlib.Omega.{arith}
use borrow.Author.Rules.{rules}
use Rattle.lexer.proofs.sym.dot.Goals as goal

pub returns-then-b-eq46 : goal.returns-then-b-eq46
returns-then-b-eq46 c = two-dots _ _ _ c.byte_at-b.ensures c.if-b-eq46.true

pub ident0-requires : goal.ident0-requires
ident0-requires c = omega (arith, letter-some _ (sym c.letter.ensures ∙ c.if-letter.true))

pub returns-then-letter : goal.returns-then-letter
returns-then-letter c = dot_word _ _ _ _ c.byte_at-b.ensures c.if-b-eq46.false (sym c.letter.ensures ∙ c.if-letter.true) c.ident0.ensures

pub returns : goal.returns
returns c = dot-alone _ _ _ c.byte_at-b.ensures c.if-b-eq46.false (sym c.letter.ensures ∙ c.if-letter.false) (search rules)
