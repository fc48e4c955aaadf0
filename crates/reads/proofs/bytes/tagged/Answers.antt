-- `tagged` meets its contract. Assumes nothing.
use native.Mathlib.Omega.{arith}
use Rattle.reads.proofs.Rows.{pass-start, pass-within, pass_fits, pass-more, pass-done}
use Rattle.reads.proofs.bytes.tagged.Goals as goal

pub loop-p-init : goal.loop-p-init
loop-p-init c = pass-start _ _ _

pub bounds-b-p : goal.bounds-b-p
bounds-b-p c = pass-within _ _ _ _ _ c.loop-p.invariant c.requires

pub end_of-p-requires : goal.end_of-p-requires
end_of-p-requires c = pass_fits _ _ _ _ _ c.loop-p.invariant c.requires c.loop-p-test.true

pub overflow_add-i : goal.overflow_add-i
overflow_add-i c = omega (arith, c.loop-p.invariant.few, pass-within _ _ _ _ _ c.loop-p.invariant c.requires)

pub loop-p-smaller : goal.loop-p-smaller
loop-p-smaller c = omega (arith, pass-within _ _ _ _ _ c.loop-p.invariant c.requires)

pub loop-p-preserved : goal.loop-p-preserved
loop-p-preserved c = pass-more _ _ _ _ _ _ c.loop-p.invariant c.loop-p-test.true c.end_of-p.ensures

pub returns : goal.returns
returns c = pass-done _ _ _ _ _ c.loop-p.invariant c.loop-p-test.false
