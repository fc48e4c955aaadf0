-- `tree::nested` answers `limits` of the tree. Assumes nothing.
use Rattle.tree.proofs.Deep.{too-deep, too-nested, within-limits}
use Rattle.tree.proofs.Decides.{said, denied}
use Rattle.tree.proofs.nested.Goals as goal

pub returns-then-not-within-clause-says : goal.returns-then-not-within-clause-says
returns-then-not-within-clause-says c = λ t h. too-deep _ t h (denied _ _ c.within.ensures c.if-not-within.true)

pub returns-then-not-within-2-clause-says : goal.returns-then-not-within-2-clause-says
returns-then-not-within-2-clause-says c = λ t h. too-nested _ t h (said _ _ c.within.ensures c.if-not-within.false) (denied _ _ c.within-2.ensures c.if-not-within-2.true)

pub returns-clause-says : goal.returns-clause-says
returns-clause-says c = λ t h. within-limits _ t h (said _ _ c.within.ensures c.if-not-within.false) (said _ _ c.within-2.ensures c.if-not-within-2.false)
