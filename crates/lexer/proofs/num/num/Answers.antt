-- `num::num` meets its contract: digits, a fraction, an exponent. Assumes nothing.
use Rattle.lexer.proofs.Nums.{number_is}
use Rattle.lexer.proofs.num.num.Goals as goal

pub returns : goal.returns
returns c = number_is _ _ _ _ _ _ _ _ c.digits0.ensures c.fraction-f.ensures c.exponent.ensures
