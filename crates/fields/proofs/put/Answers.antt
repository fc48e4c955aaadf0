-- `fields::put` meets its contract: all bytes fit, or as many as there is room for, or none. Assumes nothing.
use mathlib.Core.Path.{refl, sym, ◌∙◌}
use native.Mathlib.Omega.{arith}
use Prim.Native.Nat.{◌-◌}
use lib.ListN.{length}
use lib.Seq.{length-take-le}
use Rattle.fields.specs.Room.{overlay-out}
use Rattle.fields.proofs.Copying.{front}
use Rattle.fields.proofs.put.Goals as goal

pub copy-requires-then-at-out : goal.copy-requires-then-at-out
copy-requires-then-at-out c =
    let a = c.args in
    omega (arith, length-take-le (length a.out.now - a.at) a.bytes.now (omega arith))

pub returns-then-at-out : goal.returns-then-at-out
returns-then-at-out c =
    let a = c.args in
    (refl, c.copy-then-at-out.ensures ∙ front a.out.now a.bytes.now a.at (length a.out.now - a.at) (omega arith) (omega arith))

pub returns-else-at-out : goal.returns-else-at-out
returns-else-at-out c = (refl, sym (overlay-out _ _ _ c.if-at-out.false))
