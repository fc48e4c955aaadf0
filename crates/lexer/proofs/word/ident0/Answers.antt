-- `word::ident0` meets its contract. Assumes nothing.
use Rattle.lexer.specs.Word.{word_byte}
use Rattle.lexer.proofs.word.ident0.Goals as goal

pub returns : goal.returns
returns c = c.past.ensures word_byte (λ b r e. e)
