-- `climber::climb1` meets its contract: what the call for the row of i gives, or that there is no such row, makes the turn. Assumes nothing.
use mathlib.Core.Path.{sym, ◌∙◌}
use native.Mathlib.Omega.{arith}
use Prim.Native.Nat.{◌+◌}
use Rattle.climber.specs.Climb.{Climbs}
use Rattle.climber.proofs.Turns.{tight-yes, begin, asks, passed, within, again, done, alone}
use Rattle.climber.proofs.+climb1.Goals as goal
use Rattle.climber.proofs.+climb1.Goals.{then-tight, else-tight}

pub loop-row-init : goal.loop-row-init
loop-row-init t c = begin _ _ _ _ c.requires.0

pub least-least-requires : goal.least-least-requires
least-least-requires t c = (tight-yes _ _ _ (sym c.tight.ensures ∙ c.loop-row-test.true)).0

pub tight-requires-in-loop-row : goal.tight-requires-in-loop-row
tight-requires-in-loop-row t c = omega (arith, (tight-yes _ _ _ (sym c.tight.ensures ∙ c.loop-row-test.true)).0)

pub climb1-next-requires : goal.climb1-next-requires
climb1-next-requires t c =
    let p = c.requires in
    let l = c.loop-row.invariant in
    let h = tight-yes _ _ _ (sym c.tight.ensures ∙ c.loop-row-test.true) in
    (omega arith, (omega arith, omega arith, asks _ c.args.row.formed _ _ c.least-least.ensures))

pub store_pair-requires : goal.store_pair-requires
store_pair-requires t c =
    let p = c.requires in
    let l = c.loop-row.invariant in
    let h = tight-yes _ _ _ (sym c.tight.ensures ∙ c.loop-row-test.true) in
    omega (arith, c.if-tight.auto.out)

pub loop-row-smaller : goal.loop-row-smaller
loop-row-smaller t c =
    let row = c.args.row in
    let l = c.loop-row.invariant in
    let y = sym c.tight.ensures ∙ c.loop-row-test.true in
    let own : Climbs row.bytes.now (c.loop-row.i + 1) c.least-least.result c.if-tight.next c.loop-row.out c.if-tight.out =
    elim c.if-tight.branch [
      | then-tight w ↦ rw (w.out-is, w.next-is) w.climb1-next.ensures
      | else-tight w ↦ rw (w.out-is, w.next-is) (alone _ row.formed _ _ _ (omega (arith, (tight-yes _ _ _ y).0)) (sym c.tight-in-loop-row.ensures ∙ w.if-tight.false))
    ] in
    omega (arith, passed _ row.formed _ _ _ _ _ l y _ c.least-least.ensures _ _ own, within _ row.formed _ _ _ _ _ l y _ c.least-least.ensures _ _ own)

pub loop-row-preserved : goal.loop-row-preserved
loop-row-preserved t c =
    let row = c.args.row in
    let l = c.loop-row.invariant in
    let y = sym c.tight.ensures ∙ c.loop-row-test.true in
    let own : Climbs row.bytes.now (c.loop-row.i + 1) c.least-least.result c.if-tight.next c.loop-row.out c.if-tight.out =
    elim c.if-tight.branch [
      | then-tight w ↦ rw (w.out-is, w.next-is) w.climb1-next.ensures
      | else-tight w ↦ rw (w.out-is, w.next-is) (alone _ row.formed _ _ _ (omega (arith, (tight-yes _ _ _ y).0)) (sym c.tight-in-loop-row.ensures ∙ w.if-tight.false))
    ] in
    again _ row.formed _ _ _ _ _ l y _ c.least-least.ensures _ _ own c.requires.2 _ c.store_pair.ensures c.if-tight.auto.out

pub returns : goal.returns
returns t c = done _ c.args.row.formed _ _ _ _ _ c.loop-row.invariant (sym c.tight.ensures ∙ c.loop-row-test.false)
