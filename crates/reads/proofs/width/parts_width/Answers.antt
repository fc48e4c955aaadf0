-- `parts_width` meets its contract. Assumes nothing.
use native.Mathlib.Omega.{arith}
use mathlib.Core.Path.{subst}
use Prim.Native.Nat.{ℕ}
use Rattle.reads.specs.Places.{begun, turn, turned}
use Rattle.reads.proofs.Partings.{Adding, add-start, add-part, add-more, add_done, add-room}
use Rattle.reads.proofs.width.parts_width.Goals as goal

pub loop-p-init : goal.loop-p-init
loop-p-init c =
    let a = c.args in
    let i = begun a.b.now a.q a.z _ c.into_iter-p-iterator.result c.into_iter-p-iterator.ensures.into_iter_gives c.fields-p-items.ensures c.requires.0 (_, c.requires.1.1) in
    (i.0, i.1, subst (λ (n : ℕ). Adding a.b.now a.q a.z n 0) i.2 (add-start a.b.now a.q a.z))

pub part_width-w-requires : goal.part_width-w-requires
part_width-w-requires c =
    let a = c.args in
    let s = c.requires in
    let y = turn c.loop-p.p-iterator c.next.new.self c.loop-p.invariant.1 c.in-Some.ensures.steps c.in-Some.ensures.goes.keeps in
    let v = subst (λ (n : ℕ). Adding a.b.now a.q a.z n c.loop-p.w) y.here c.loop-p.invariant.2 in
    add-part a.b.now _ _ _ _ v s.1.0 s.1.1 y.within

pub overflow_add-w : goal.overflow_add-w
overflow_add-w c =
    let y = turn c.loop-p.p-iterator c.next.new.self c.loop-p.invariant.1 c.in-Some.ensures.steps c.in-Some.ensures.goes.keeps in
    omega (arith, c.part_width-w.ensures.1, c.loop-p.invariant.2.room, c.requires.0, y.here, y.fits)

pub loop-p-preserved : goal.loop-p-preserved
loop-p-preserved c =
    let a = c.args in
    let y = turn c.loop-p.p-iterator c.next.new.self c.loop-p.invariant.1 c.in-Some.ensures.steps c.in-Some.ensures.goes.keeps in
    let v = subst (λ (n : ℕ). Adding a.b.now a.q a.z n c.loop-p.w) y.here c.loop-p.invariant.2 in
    (c.in-Some.ensures.goes.keeps, y.over, add-more a.b.now _ _ _ _ _ _ v y.within y.next c.part_width-w.ensures.0 c.part_width-w.ensures.1)

pub returns : goal.returns
returns c =
    let b = c.args.b.now in
    let s = c.requires in
    let l = turned c.loop-p.p-iterator c.next.new.self c.loop-p.invariant.1 c.in-None.ensures.steps in
    (add_done b _ _ _ _ c.loop-p.invariant.2 l, add-room b _ _ _ _ c.loop-p.invariant.2 s.1.0 s.1.1)
