-- `space::blanks` meets its contract. Assumes nothing.
use Rattle.lexer.proofs.Spacing.{is_blank, blanks-passed}
use borrow.Author.Rules.{rules}
use Rattle.lexer.proofs.space.blanks.Goals as goal

pub returns : goal.returns
returns c = blanks-passed _ _ _ c.requires (c.past_many.ensures is_blank (λ b r e. search rules))
