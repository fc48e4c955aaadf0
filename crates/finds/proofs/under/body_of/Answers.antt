-- `finds::under::body_of` meets its contract: past the definitions of one term after the other. Assumes nothing.
use Rattle.finds.proofs.Unders.{bodying-fits, bodying-opens, bodying-less, bodying-more, bodying-done}
use native.Mathlib.Omega.{arith}
use Rattle.finds.proofs.under.body_of.Goals as goal

pub bounds-b-q : goal.bounds-b-q
bounds-b-q c = let a = c.args in omega (arith, bodying-fits a.b.now a.p c.loop-q.q c.loop-q.invariant c.requires)

pub after_defs-q-requires : goal.after_defs-q-requires
after_defs-q-requires c = let a = c.args in bodying-opens a.b.now a.p c.loop-q.q c.loop-q.invariant c.requires c.loop-q-test.true

pub loop-q-smaller : goal.loop-q-smaller
loop-q-smaller c = let a = c.args in bodying-less a.b.now a.p c.loop-q.q c.loop-q.invariant c.requires c.loop-q-test.true c.after_defs-q.result c.after_defs-q.ensures

pub loop-q-preserved : goal.loop-q-preserved
loop-q-preserved c = let a = c.args in bodying-more a.b.now a.p c.loop-q.q c.loop-q.invariant c.requires c.loop-q-test.true c.after_defs-q.result c.after_defs-q.ensures

pub returns : goal.returns
returns c = let a = c.args in bodying-done a.b.now a.p c.loop-q.q c.loop-q.invariant c.loop-q-test.false
