-- `finds::seek` meets its contract: along the links of a bucket; each row is further out than the one before it. Assumes nothing.
use Rattle.finds.proofs.Seeks.{going-row, going_less, going_more, going-found, going_done}
use Rattle.finds.specs.Gives.{gave-some, gave-none}
use Rattle.finds.proofs.seek.Goals as goal

pub is_row-requires : goal.is_row-requires
is_row-requires c = let a = c.args in (going-row a.tree.now a.rows.now a.x.now.name.now a.x.now.word a.x.now.key a.j c.loop-i.i c.loop-i.invariant c.loop-i-test.true)

pub returns-then-is_row : goal.returns-then-is_row
returns-then-is_row c = let a = c.args in gave-some _ _ (going-found a.tree.now a.rows.now a.x.now.name.now a.x.now.word a.x.now.key a.j c.loop-i.i c.loop-i.invariant c.loop-i-test.true c.is_row.result c.is_row.ensures c.if-is_row.true) c.loop-i-test.true

pub link-i-requires : goal.link-i-requires
link-i-requires c = let a = c.args in (going-row a.tree.now a.rows.now a.x.now.name.now a.x.now.word a.x.now.key a.j c.loop-i.i c.loop-i.invariant c.loop-i-test.true).1.1

pub loop-i-smaller : goal.loop-i-smaller
loop-i-smaller c = let a = c.args in going_less a.tree.now a.rows.now a.x.now.name.now a.x.now.word a.x.now.key a.j c.loop-i.i c.loop-i.invariant c.loop-i-test.true c.link-i.result c.link-i.ensures

pub loop-i-preserved : goal.loop-i-preserved
loop-i-preserved c = let a = c.args in going_more a.tree.now a.rows.now a.x.now.name.now a.x.now.word a.x.now.key a.j c.loop-i.i c.loop-i.invariant c.loop-i-test.true c.is_row.result c.is_row.ensures c.if-is_row.false c.link-i.result c.link-i.ensures

pub returns : goal.returns
returns c = let a = c.args in gave-none _ (going_done a.tree.now a.rows.now a.x.now.name.now a.x.now.word a.x.now.key a.j c.loop-i.i c.loop-i.invariant c.loop-i-test.false)
