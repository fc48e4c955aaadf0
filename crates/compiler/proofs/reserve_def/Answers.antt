use Rattle.compiler.specs.FormsD.Defs.{reserve-some, reserve-none}
use mathlib.Core.Path.{refl}
use native.Mathlib.Omega.{arith}
use Rattle.compiler.proofs.reserve_def.Goals as goal

pub returns-in_default : goal.returns-in_default
returns-in_default c =
    let y = c.requires.0.1 in
    rw c.in_default.is (reserve-none _ _ _ _ _ (λ e. omega (arith, y.offs, e)))

pub returns-then-x-st : goal.returns-then-x-st
returns-then-x-st c =
    let y = c.requires.0.1 in
    rw c.in-Some.is (reserve-some _ _ _ _ _ _ _ c.if-x-st.true c.def_width.ensures.0 (omega (arith, c.def_width.ensures.1, y.small, y.within)) refl)

pub returns-else-x-st : goal.returns-else-x-st
returns-else-x-st c = rw c.in-Some.is (reserve-none _ _ _ _ _ c.if-x-st.false)
