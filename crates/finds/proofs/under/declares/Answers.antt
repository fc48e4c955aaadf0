-- `finds::under::declares` meets its contract: one definition after the other. Assumes nothing.
use mathlib.Core.Path.{subst}
use native.Mathlib.Omega.{arith}
use Prim.Native.Nat.{ℕ}
use Rattle.reads.specs.Places.{begun, turn, turned}
use Rattle.finds.proofs.Unders.{Declaring, declaring-start, declaring-within, declaring-one, declaring-found, declaring-more, declaring-done}
use Rattle.finds.proofs.under.declares.Goals as goal

pub loop-p-init : goal.loop-p-init
loop-p-init c =
    let a = c.args in
    let r = c.requires in
    let i = begun a.b.now a.q a.z _ c.into_iter-p-iterator.result c.into_iter-p-iterator.ensures.into_iter_gives c.fields-p-items.ensures r.3 (_, r.2) in
    (i.0, i.1, subst (λ (n : ℕ). Declaring a.b.now a.q a.x.now a.a n) i.2 (declaring-start a.b.now a.q a.x.now a.a))

pub is_def-requires : goal.is_def-requires
is_def-requires c =
    let a = c.args in
    let r = c.requires in
    let y = turn c.loop-p.p-iterator c.next.new.self c.loop-p.invariant.1 c.in-Some.ensures.steps c.in-Some.ensures.goes.keeps in
    let v = subst (λ (n : ℕ). Declaring a.b.now a.q a.x.now a.a n) y.here c.loop-p.invariant.2 in
    declaring-one a.b.now a.q a.x.now a.a _ v (r.0, r.1, a.z, r.2, r.3) c.if-b-p.false

pub returns-then-b-p : goal.returns-then-b-p
returns-then-b-p c = λ ds t h.
    let a = c.args in
    let r = c.requires in
    let y = turn c.loop-p.p-iterator c.next.new.self c.loop-p.invariant.1 c.in-Some.ensures.steps c.in-Some.ensures.goes.keeps in
    let v = subst (λ (n : ℕ). Declaring a.b.now a.q a.x.now a.a n) y.here c.loop-p.invariant.2 in
    declaring-done a.b.now a.q a.x.now a.a _ v (r.0, r.1, a.z, r.2, r.3) c.if-b-p.true ds t a.z h

pub returns-then-is_def : goal.returns-then-is_def
returns-then-is_def c = λ ds t h.
    let a = c.args in
    let r = c.requires in
    let y = turn c.loop-p.p-iterator c.next.new.self c.loop-p.invariant.1 c.in-Some.ensures.steps c.in-Some.ensures.goes.keeps in
    let v = subst (λ (n : ℕ). Declaring a.b.now a.q a.x.now a.a n) y.here c.loop-p.invariant.2 in
    declaring-found a.b.now a.q a.x.now a.a _ v (r.0, r.1, a.z, r.2, r.3) c.if-b-p.false c.is_def.result c.is_def.ensures c.if-is_def.true ds t a.z h

pub loop-p-preserved : goal.loop-p-preserved
loop-p-preserved c =
    let a = c.args in
    let r = c.requires in
    let y = turn c.loop-p.p-iterator c.next.new.self c.loop-p.invariant.1 c.in-Some.ensures.steps c.in-Some.ensures.goes.keeps in
    let v = subst (λ (n : ℕ). Declaring a.b.now a.q a.x.now a.a n) y.here c.loop-p.invariant.2 in
    (c.in-Some.ensures.goes.keeps, y.over, declaring-more a.b.now a.q a.x.now a.a _ v (r.0, r.1, a.z, r.2, r.3) c.if-b-p.false c.is_def.result c.is_def.ensures c.if-is_def.false _ y.next)

pub returns : goal.returns
returns c =
    let a = c.args in
    let r = c.requires in
    let l = turned c.loop-p.p-iterator c.next.new.self c.loop-p.invariant.1 c.in-None.ensures.steps in
    absurd (omega (arith, l, declaring-within a.b.now a.q a.x.now a.a _ c.loop-p.invariant.2 (r.0, r.1, a.z, r.2, r.3)))
