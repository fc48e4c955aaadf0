-- `colons` meets its contract. Assumes nothing.
use mathlib.Core.Path.{refl}
use Prim.Native.Nat.{◌+◌}
use native.Mathlib.Omega.{arith}
use Rattle.reads.proofs.Colons.{without_all, colons-found, colons-next}
use Rattle.reads.proofs.bytes.colons.Goals as goal

pub returns-in-Some : goal.returns-in-Some
returns-in-Some c =
    let i = c.in-Some.ensures in
    let e = colons-found _ _ _ c.loop-i.invariant.0 c.loop-i.invariant.1 i.1 (omega (arith, i.0, i.1)) in
    (omega (arith, e, i.0, i.1), e)

pub loop-i-preserved : goal.loop-i-preserved
loop-i-preserved c = (omega arith, colons-next _ _ _ c.loop-i.invariant.0 c.loop-i.invariant.1 c.loop-i-test.true refl (omega (arith, c.in_default.ensures)))

pub returns : goal.returns
returns c = λ h. omega (arith, h, without_all _ _ c.loop-i.invariant.1 c.loop-i-test.false)

pub returns-in_default : goal.returns-in_default
returns-in_default c =
    let x = c.args.x.now in
    let i = c.loop-i.i in
    let w = colons-next x i _ c.loop-i.invariant.0 c.loop-i.invariant.1 c.loop-i-test.true refl (omega (arith, c.in_default.ensures)) in
    λ h. omega (arith, h, without_all x (i + 2) w (omega arith))
