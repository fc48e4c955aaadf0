-- `cycle::leaf` meets its contract. Assumes nothing.
use Rattle.lexer.proofs.Pieces.{leaf-is}
use Rattle.lexer.proofs.cycle.leaf.Goals as goal

pub returns : goal.returns
returns c = leaf-is _ _ _ _ _ _ _ _ c.plain-end.ensures c.put_leaf.ensures
