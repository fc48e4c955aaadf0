-- `tree::shallow`: the walk from the loop's place on stays within the limit exactly if the whole does. Assumes nothing.
use native.Mathlib.Omega.{arith}
use mathlib.Core.Path.{◌∙◌, sym, ap, ap₂}
use mathlib.Core.List.{◌∷◌}
use lib.ListN.{length}
use borrow.Author.Tests.{leb-true, leb-false}
use Rattle.tree.specs.Nest.{counts}
use Rattle.tree.specs.Formed.{only}
use Rattle.tree.proofs.Deep.{walk_start, walk-deep, walk-push, walk-leave, walk_end, all-fits, next-lt}
use Rattle.tree.proofs.shallow.Goals.{then-counts+else-is_full, else-counts}
use Rattle.tree.proofs.shallow.Goals as goal

pub loop-p-init : goal.loop-p-init
loop-p-init g c = rw c.new-open.ensures (walk_start _ _ _ c.requires.0)

pub returns-then-is_full : goal.returns-then-is_full
returns-then-is_full g c =
    let on = c.counts.ensures ∙ ap (counts (only c.args.counted)) c.byte.ensures in
    let l = leb-true _ _ (sym c.is_full.ensures ∙ c.if-is_full.true) in
    walk-deep _ _ _ _ _ c.loop-p.invariant (omega arith) _ on c.if-counts.true (omega (arith, l, ap length c.pass.ensures))

pub end_of-requires : goal.end_of-requires
end_of-requires g c = omega (arith, all-fits _ _ c.loop-p.invariant.all (omega arith))

pub push-requires : goal.push-requires
push-requires g c =
    let l = leb-false _ _ (sym c.is_full.ensures ∙ c.if-is_full.false) in
    (omega (arith, c.requires.1), (l, omega (arith, c.end_of.ensures, c.len.ensures, all-fits _ _ c.loop-p.invariant.all (omega arith))))

pub next-p-requires : goal.next-p-requires
next-p-requires g c = omega (arith, all-fits _ _ c.loop-p.invariant.all (omega arith))

pub loop-p-smaller : goal.loop-p-smaller
loop-p-smaller g c = omega (arith, next-lt c.args.b.now c.loop-p.p _ c.next-p.ensures)

pub loop-p-preserved : goal.loop-p-preserved
loop-p-preserved g c =
    let on = c.counts.ensures ∙ ap (counts (only c.args.counted)) c.byte.ensures in
    elim c.if-counts.branch [
      | then-counts+else-is_full w ↦
          let l = leb-false _ _ (sym w.is_full.ensures ∙ w.if-is_full.false) in
          walk-push _ _ _ _ _ c.loop-p.invariant (omega arith) _ on w.if-counts.true (omega (arith, l, ap length c.pass.ensures)) _ c.next-p.ensures _ (w.open-is ∙ w.push.ensures ∙ ap₂ ◌∷◌ w.end_of.ensures c.pass.ensures)
      | else-counts w ↦ walk-leave _ _ _ _ _ c.loop-p.invariant (omega arith) _ on w.if-counts.false _ c.next-p.ensures _ (w.open-is ∙ c.pass.ensures)
    ]

pub returns : goal.returns
returns g c = walk_end _ _ _ _ _ c.loop-p.invariant (omega arith)
