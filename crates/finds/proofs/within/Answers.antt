-- `finds::within` meets its contract: from the last row down. Assumes nothing.
use native.Mathlib.Omega.{arith}
use Rattle.finds.proofs.Seeks.{down-more, down-found, down-done}
use Rattle.finds.specs.Gives.{gave-some, gave-none}
use Rattle.finds.proofs.within.Goals as goal

pub returns-then-is_row : goal.returns-then-is_row
returns-then-is_row c = let a = c.args in gave-some _ _ (down-found a.tree.now a.rows.now a.x.now.name.now a.x.now.word a.x.now.key a.lo a.hi c.loop-j.j c.loop-j.invariant c.loop-j-test.true c.is_row.result c.is_row.ensures c.if-is_row.true) (λ e. omega (arith, c.requires.0, c.loop-j-test.true, c.loop-j.invariant.low))

pub loop-j-preserved : goal.loop-j-preserved
loop-j-preserved c = let a = c.args in down-more a.tree.now a.rows.now a.x.now.name.now a.x.now.word a.x.now.key a.lo a.hi c.loop-j.j c.loop-j.invariant c.loop-j-test.true c.is_row.result c.is_row.ensures c.if-is_row.false

pub returns : goal.returns
returns c = let a = c.args in gave-none _ (down-done a.tree.now a.rows.now a.x.now.name.now a.x.now.word a.x.now.key a.lo a.hi c.loop-j.j c.loop-j.invariant c.loop-j-test.false)
