-- `finds::call` meets its contract: with `::` or without. Assumes nothing.
use native.Mathlib.Omega.{arith}
use mathlib.Core.Path.{refl}
use Rattle.finds.proofs.Meanings.{call-parted, call-plain}
use Rattle.finds.specs.Numbers.{numbers}
use Rattle.finds.proofs.call.Goals as goal

pub returns-in-Some : goal.returns-in-Some
returns-in-Some c =
    let a = c.args in
    let i = c.in-Some.ensures in
    call-parted a.tree.now a.rows.now a.x.now c.in-Some.c a.at a.a (numbers c.call_mod.result) i.1 (omega (arith, i.0, i.1)) c.call_mod.ensures

pub returns-in-None : goal.returns-in-None
returns-in-None c =
    let a = c.args in
    call-plain a.tree.now a.rows.now a.x.now _ a.at a.a (numbers c.local.result) refl (omega (arith, c.in-None.ensures)) c.local.ensures
