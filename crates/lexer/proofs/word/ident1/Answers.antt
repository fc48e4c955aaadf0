-- `word::ident1` meets its contract: the identifier is there, or it is missing. Assumes nothing.
use mathlib.Core.Path.{sym, ◌∙◌}
use Rattle.lexer.proofs.Words.{letter-some, ident-there, ident-missed}
use native.Mathlib.Omega.{arith}
use borrow.Author.Rules.{rules}
use Rattle.lexer.proofs.word.ident1.Goals as goal

pub ident0-requires : goal.ident0-requires
ident0-requires c = omega (arith, letter-some _ (sym c.letter.ensures ∙ c.if-letter.true))

pub returns-then-letter : goal.returns-then-letter
returns-then-letter c = ident-there _ _ _ _ _ c.byte_at.ensures (sym c.letter.ensures ∙ c.if-letter.true) c.ident0.ensures

pub returns : goal.returns
returns c = ident-missed _ _ _ _ _ c.byte_at.ensures (sym c.letter.ensures ∙ c.if-letter.false) (search rules) c.put_error.ensures
