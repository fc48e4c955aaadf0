-- `space::spaces` meets its contract. Assumes nothing.
use Rattle.lexer.proofs.Spacing.{is_space, spaces-passed}
use borrow.Author.Rules.{rules}
use Rattle.lexer.proofs.space.spaces.Goals as goal

pub returns : goal.returns
returns c = spaces-passed _ _ _ c.requires (c.past_many.ensures is_space (λ b r e. search rules))
