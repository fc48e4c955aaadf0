-- `tree::below`: the numbers from the loop's place on are below m exactly if all are. Assumes nothing.
use native.Mathlib.Omega.{arith}
use mathlib.Core.Path.{subst, ◌∙◌}
use borrow.Author.Rules.{rules}
use Rattle.tree.specs.Places.{begun, turn, turned}
use Rattle.tree.proofs.Using.{Still, counting-start, counting-next, counting-wrong, counting-end, room_at, rest_at, chained}
use Rattle.tree.proofs.below.Goals as goal

pub loop-q-init : goal.loop-q-init
loop-q-init c =
    let a = c.args in
    let b = a.b.now in
    let f = c.fields-q-items.ensures in
    let i = begun b a.p a.e _ c.into_iter-q-iterator.result c.into_iter-q-iterator.ensures.into_iter_gives (f.0 ∙ c.bytes.ensures, f.1, f.2) c.requires.0 (chained b a.d a.e a.p c.requires.1) in
    (i.0, i.1, subst (Still b a.d a.e a.m a.p) i.2 (counting-start _ _ _ _ _, c.requires.1), search rules)

pub overflow_add-q : goal.overflow_add-q
overflow_add-q c =
    let a = c.args in
    let b = a.b.now in
    let y = turn c.loop-q.q-iterator c.next.new.self c.loop-q.invariant.1 c.in-Some.ensures.steps c.in-Some.ensures.goes.keeps in
    let v = subst (Still b a.d a.e a.m a.p) y.here c.loop-q.invariant.2 in
    omega (arith, room_at b _ _ _ y.within v.1)

pub number-requires : goal.number-requires
number-requires c =
    let a = c.args in
    let b = a.b.now in
    let y = turn c.loop-q.q-iterator c.next.new.self c.loop-q.invariant.1 c.in-Some.ensures.steps c.in-Some.ensures.goes.keeps in
    let v = subst (Still b a.d a.e a.m a.p) y.here c.loop-q.invariant.2 in
    omega (arith, room_at b _ _ _ y.within v.1, c.requires.0)

pub returns-then-number-m : goal.returns-then-number-m
returns-then-number-m c =
    let a = c.args in
    let b = a.b.now in
    let y = turn c.loop-q.q-iterator c.next.new.self c.loop-q.invariant.1 c.in-Some.ensures.steps c.in-Some.ensures.goes.keeps in
    let v = subst (Still b a.d a.e a.m a.p) y.here c.loop-q.invariant.2 in
    counting-wrong b _ _ _ _ _ v.0 _ y.within c.number.ensures (omega (arith, c.if-number-m.true))

pub loop-q-preserved : goal.loop-q-preserved
loop-q-preserved c =
    let a = c.args in
    let b = a.b.now in
    let y = turn c.loop-q.q-iterator c.next.new.self c.loop-q.invariant.1 c.in-Some.ensures.steps c.in-Some.ensures.goes.keeps in
    let v = subst (Still b a.d a.e a.m a.p) y.here c.loop-q.invariant.2 in (
      c.in-Some.ensures.goes.keeps,
      y.over,
      (counting-next b _ _ _ _ _ v.0 _ _ y.within c.number.ensures (omega (arith, c.if-number-m.false)) y.next, rest_at b _ _ _ _ y.within v.1 y.next),
      search rules,
    )

pub returns : goal.returns
returns c = counting-end c.args.b.now _ _ _ _ _ c.loop-q.invariant.2.0 (turned c.loop-q.q-iterator c.next.new.self c.loop-q.invariant.1 c.in-None.ensures.steps)
