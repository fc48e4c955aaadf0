-- `fields::copy` meets its contract: after i turns the room holds the first i bytes. Assumes nothing.
use native.Mathlib.Omega.{arith}
use Rattle.fields.proofs.Copying.{none, more, all}
use Rattle.fields.proofs.copy.Goals as goal

pub loop-i-init : goal.loop-i-init
loop-i-init c = none c.args.out.now c.args.bytes.now c.args.at

pub loop-i-preserved : goal.loop-i-preserved
loop-i-preserved c = let a = c.args in more a.out.now a.bytes.now a.at _ _ c.loop-i-test.true c.loop-i.invariant

pub returns : goal.returns
returns c = let a = c.args in all a.out.now a.bytes.now a.at _ _ (omega arith) c.loop-i.invariant
