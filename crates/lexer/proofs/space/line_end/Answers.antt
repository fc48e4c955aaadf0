-- `space::line_end` meets its contract. Assumes nothing.
use Rattle.lexer.specs.Space.{in_line}
use borrow.Author.Rules.{rules}
use Rattle.lexer.proofs.space.line_end.Goals as goal

pub returns : goal.returns
unfolding in_line
returns c = c.past_many.ensures in_line (λ b r e. search rules)
