-- `finds::under::is_own` meets its contract: a name with `::` means none of them. Assumes nothing.
use native.Mathlib.Omega.{arith}
use mathlib.Core.Path.{refl}
use Rattle.finds.proofs.Unders.{owns-parted, owns-plain}
use Rattle.finds.proofs.under.is_own.Goals as goal

pub returns-in-Some : goal.returns-in-Some
returns-in-Some c =
    let a = c.args in
    let i = c.in-Some.ensures in
    owns-parted a.b.now a.p a.x.now a.a _ refl i.0

pub returns-in-None : goal.returns-in-None
returns-in-None c =
    let a = c.args in
    owns-plain a.b.now a.p a.x.now a.a _ refl (omega (arith, c.in-None.ensures)) c.defines.result c.defines.ensures
