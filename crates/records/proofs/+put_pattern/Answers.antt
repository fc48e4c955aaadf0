use Prim.Native.Nat.{◌+◌}
use native.Mathlib.Omega.{arith}
use Rattle.tree.specs.Rose.{end_of}
use Rattle.reads.specs.Shapes.{pattern-fits}
use Rattle.reads.specs.Places.{begun, turn, turned}
use Rattle.records.proofs.Pats.{going-on, notes-some, width_some, members-of, var-put, begin, next, again, finish}
use borrow.Author.Rules.{rules}
use Rattle.records.proofs.+put_pattern.Goals as goal

pub bounds-tree-q : goal.bounds-tree-q
bounds-tree-q t c =
    omega (arith, pattern-fits _ c.requires.x _ c.requires.at)

pub overflow_add-result : goal.overflow_add-result
overflow_add-result t c =
    omega (arith, c.requires.room, width_some c.requires.x)

pub overflow_add-result-then-tag : goal.overflow_add-result-then-tag
overflow_add-result-then-tag t c =
    omega (arith, c.requires.rows, notes-some c.requires.x)

pub returns-then-tag : goal.returns-then-tag
returns-then-tag t c =
    λ x h. var-put _ _ x _ _ _ _ _ h c.if-tag.true c.put1.ensures

pub end_of-z-requires : goal.end_of-z-requires
end_of-z-requires t c =
    pattern-fits _ c.requires.x _ c.requires.at

pub overflow_add-o : goal.overflow_add-o
overflow_add-o t c =
    omega (arith, c.requires.room, width_some c.requires.x)

pub overflow_add-q : goal.overflow_add-q
overflow_add-q t c =
    omega (arith, pattern-fits _ c.requires.x _ c.requires.at)

pub members-requires : goal.members-requires
members-requires t c =
    let m = members-of _ c.args.rows.now c.requires.x _ c.args.k c.requires.at c.if-tag.false in rw c.end_of-z.ensures (pattern-fits _ c.requires.x _ c.requires.at, (m.roses, m.row))

pub put_number-requires : goal.put_number-requires
put_number-requires t c =
    omega (arith, c.requires.room, (members-of _ c.args.rows.now c.requires.x _ c.args.k c.requires.at c.if-tag.false).width)

pub overflow_add-x : goal.overflow_add-x
overflow_add-x t c =
    omega (arith, c.requires.room, (members-of _ c.args.rows.now c.requires.x _ c.args.k c.requires.at c.if-tag.false).width)

pub overflow_add-j : goal.overflow_add-j
overflow_add-j t c =
    omega (arith, c.requires.rows, notes-some c.requires.x)

pub loop-p-init : goal.loop-p-init
loop-p-init t c =
    let a = c.args in
    let r = c.requires in
    let m = members-of _ a.rows.now r.x _ a.k r.at c.if-tag.false in
    let f = pattern-fits _ r.x _ r.at in
    rw c.end_of-z.ensures (
    let i = begun a.tree.now (a.q + 3) (end_of a.tree.now a.q) _ c.into_iter-p-iterator.result c.into_iter-p-iterator.ensures.into_iter_gives (rw c.end_of-z.ensures at c.fields-p-items.ensures) f (m.roses, m.row) in
    (i.0, i.1, going-on _ _ _ _ _ _ _ _ _ _ _ _ _ i.2 (begin _ _ _ _ _ _ r.x r.at c.if-tag.false r.rows r.room f))
    )

pub number-requires : goal.number-requires
number-requires t c =
    let a = c.args in
    let y = turn c.loop-p.p-iterator c.next.new.self c.loop-p.invariant.1 c.in-Some.ensures.steps c.in-Some.ensures.goes.keeps in
    let v = going-on _ _ _ _ _ _ _ _ _ _ _ _ _ y.here c.loop-p.invariant.2 in
    (next _ _ _ _ _ _ _ _ _ _ _ _ v y.within).row

pub put_number-requires-in-loop-p : goal.put_number-requires-in-loop-p
put_number-requires-in-loop-p t c =
    let a = c.args in
    let y = turn c.loop-p.p-iterator c.next.new.self c.loop-p.invariant.1 c.in-Some.ensures.steps c.in-Some.ensures.goes.keeps in
    let v = going-on _ _ _ _ _ _ _ _ _ _ _ _ _ y.here c.loop-p.invariant.2 in
    omega (arith, (next _ _ _ _ _ _ _ _ _ _ _ _ v y.within).wide)

pub sub_pattern-requires : goal.sub_pattern-requires
sub_pattern-requires t c =
    let a = c.args in
    let y = turn c.loop-p.p-iterator c.next.new.self c.loop-p.invariant.1 c.in-Some.ensures.steps c.in-Some.ensures.goes.keeps in
    let v = going-on _ _ _ _ _ _ _ _ _ _ _ _ _ y.here c.loop-p.invariant.2 in
    (next _ _ _ _ _ _ _ _ _ _ _ _ v y.within).key

pub overflow_add-x-in-loop-p : goal.overflow_add-x-in-loop-p
overflow_add-x-in-loop-p t c =
    let a = c.args in
    let y = turn c.loop-p.p-iterator c.next.new.self c.loop-p.invariant.1 c.in-Some.ensures.steps c.in-Some.ensures.goes.keeps in
    let v = going-on _ _ _ _ _ _ _ _ _ _ _ _ _ y.here c.loop-p.invariant.2 in
    omega (arith, (next _ _ _ _ _ _ _ _ _ _ _ _ v y.within).wide)

pub put_pattern-s-requires : goal.put_pattern-s-requires
put_pattern-s-requires t c =
    let a = c.args in
    let y = turn c.loop-p.p-iterator c.next.new.self c.loop-p.invariant.1 c.in-Some.ensures.steps c.in-Some.ensures.goes.keeps in
    let v = going-on _ _ _ _ _ _ _ _ _ _ _ _ _ y.here c.loop-p.invariant.2 in
    let n = next _ _ _ _ _ _ _ _ _ _ _ _ v y.within in (omega (arith, c.decreases, n.behind, n.fits, v.behind, c.sub_pattern.ensures), record { x = n.pattern; at = rw c.sub_pattern.ensures n.at; rows = n.rows; room = n.wide })

pub loop-p-preserved : goal.loop-p-preserved
loop-p-preserved t c =
    let a = c.args in
    let y = turn c.loop-p.p-iterator c.next.new.self c.loop-p.invariant.1 c.in-Some.ensures.steps c.in-Some.ensures.goes.keeps in
    let v = going-on _ _ _ _ _ _ _ _ _ _ _ _ _ y.here c.loop-p.invariant.2 in
    (c.in-Some.ensures.goes.keeps, y.over, rw y.next (again _ _ _ _ _ _ _ _ _ _ _ _ _ _ _ _ v y.within (rw c.number.ensures at c.put_number-in-loop-p.ensures) (rw c.sub_pattern.ensures at c.put_pattern-s.ensures) (search rules)))

pub returns : goal.returns
returns t c =
    let l = turned c.loop-p.p-iterator c.next.new.self c.loop-p.invariant.1 c.in-None.ensures.steps in
    finish _ _ _ _ _ _ _ _ _ _ _ _ _ _ (rw c.end_of-z.ensures at c.loop-p.invariant.2) (omega (arith, l, c.end_of-z.ensures)) c.put1-2.ensures c.put_number.ensures (rw c.end_of-z.ensures at c.members.ensures)
