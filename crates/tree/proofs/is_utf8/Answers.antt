-- `tree::is_utf8`: the longest valid prefix is the whole. Assumes nothing.
use Rattle.tree.proofs.Leaves.{text-whole}
use Rattle.tree.proofs.is_utf8.Goals as goal

pub returns : goal.returns
returns c = text-whole _ _ c.prefix.ensures
