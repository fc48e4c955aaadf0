-- `tree::within`: few cannot be open at once in great number; else the walk decides. Assumes nothing.
use borrow.Author.Tests.{le-leb}
use Rattle.tree.proofs.Seen.{few-open}
use Rattle.tree.proofs.within.Goals as goal

pub returns-then-most : goal.returns-then-most
returns-then-most g c = rw (le-leb _ _ c.if-most.true) (few-open _ _ _ _ c.requires.0 c.requires.2 c.if-most.true)
