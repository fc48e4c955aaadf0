-- `num::exponent` meets its contract: with `e` or `E`, and without. Assumes nothing.
use Rattle.std.proofs.Common.{arith}
use Rattle.lexer.proofs.Nums.{exponent-there, exponent-none}
use Rattle.lexer.proofs.num.exponent.Goals as goal

pub returns-in-101 : goal.returns-in-101
returns-in-101 c = exponent-there _ _ _ _ _ _ _ c.byte_at.ensures c.in-101.is c.optional.ensures c.digits1.ensures

pub returns-in_default : goal.returns-in_default
returns-in_default c = exponent-none _ _ _ _ c.byte_at.ensures (λ e. grind arith) c.requires.place
