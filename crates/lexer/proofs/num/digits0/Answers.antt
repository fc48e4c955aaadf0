-- `num::digits0` meets its contract. Assumes nothing.
use Rattle.lexer.specs.Word.{digit}
use Rattle.lexer.proofs.num.digits0.Goals as goal

pub returns : goal.returns
returns c = c.past.ensures digit (λ b r e. e)
