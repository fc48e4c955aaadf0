-- `records::put_parts` meets its contract: after each turn what is left are the parts from p on. Assumes nothing.
use Prim.Native.Nat.{ℕ}
use mathlib.Core.Path.{subst}
use native.Mathlib.Omega.{arith}
use Rattle.reads.specs.Places.{begun, turn, turned}
use Rattle.records.proofs.Paths.{Going, begin, next, again, finish}
use borrow.Author.Rules.{rules}
use Rattle.records.proofs.put_parts.Goals as goal

pub loop-p-init : goal.loop-p-init
loop-p-init c =
    let a = c.args in
    let r = c.requires in
    let i = begun a.tree.now a.q a.z _ c.into_iter-p-iterator.result c.into_iter-p-iterator.ensures.into_iter_gives c.fields-p-items.ensures r.within (_, r.at) in
    (i.0, i.1, subst (λ (n : ℕ). Going a.tree.now a.rows.now a.q a.z a.k a.o a.out.now n a.k a.o a.out.now) i.2 (begin _ _ _ _ _ _ _ r))

pub number-requires : goal.number-requires
number-requires c =
    let a = c.args in
    let y = turn c.loop-p.p-iterator c.next.new.self c.loop-p.invariant.1 c.in-Some.ensures.steps c.in-Some.ensures.goes.keeps in
    let v = subst (λ (n : ℕ). Going a.tree.now a.rows.now a.q a.z a.k a.o a.out.now n c.loop-p.j c.loop-p.x c.loop-p.out) y.here c.loop-p.invariant.2 in
    (next _ _ _ _ _ _ _ _ _ _ _ v y.within).row

pub last-requires : goal.last-requires
last-requires c =
    let a = c.args in
    let y = turn c.loop-p.p-iterator c.next.new.self c.loop-p.invariant.1 c.in-Some.ensures.steps c.in-Some.ensures.goes.keeps in
    let v = subst (λ (n : ℕ). Going a.tree.now a.rows.now a.q a.z a.k a.o a.out.now n c.loop-p.j c.loop-p.x c.loop-p.out) y.here c.loop-p.invariant.2 in
    (next _ _ _ _ _ _ _ _ _ _ _ v y.within).row

pub put_part-x-requires : goal.put_part-x-requires
put_part-x-requires c =
    let a = c.args in
    let y = turn c.loop-p.p-iterator c.next.new.self c.loop-p.invariant.1 c.in-Some.ensures.steps c.in-Some.ensures.goes.keeps in
    let v = subst (λ (n : ℕ). Going a.tree.now a.rows.now a.q a.z a.k a.o a.out.now n c.loop-p.j c.loop-p.x c.loop-p.out) y.here c.loop-p.invariant.2 in
    let n = next _ _ _ _ _ _ _ _ _ _ _ v y.within in ((n.part, n.at), n.room)

pub overflow_add-j : goal.overflow_add-j
overflow_add-j c =
    let a = c.args in
    let y = turn c.loop-p.p-iterator c.next.new.self c.loop-p.invariant.1 c.in-Some.ensures.steps c.in-Some.ensures.goes.keeps in
    let v = subst (λ (n : ℕ). Going a.tree.now a.rows.now a.q a.z a.k a.o a.out.now n c.loop-p.j c.loop-p.x c.loop-p.out) y.here c.loop-p.invariant.2 in
    omega (arith, (next _ _ _ _ _ _ _ _ _ _ _ v y.within).row)

pub loop-p-preserved : goal.loop-p-preserved
loop-p-preserved c =
    let a = c.args in
    let y = turn c.loop-p.p-iterator c.next.new.self c.loop-p.invariant.1 c.in-Some.ensures.steps c.in-Some.ensures.goes.keeps in
    let v = subst (λ (n : ℕ). Going a.tree.now a.rows.now a.q a.z a.k a.o a.out.now n c.loop-p.j c.loop-p.x c.loop-p.out) y.here c.loop-p.invariant.2 in
    (c.in-Some.ensures.goes.keeps, y.over, rw y.next (again _ _ _ _ _ _ _ _ _ _ _ _ _ v y.within (rw (c.number.ensures, c.last.ensures) at c.put_part-x.ensures) (search rules)))

pub returns : goal.returns
returns c =
    let l = turned c.loop-p.p-iterator c.next.new.self c.loop-p.invariant.1 c.in-None.ensures.steps in
    finish _ _ _ _ _ _ _ _ _ _ _ c.loop-p.invariant.2 l
