use Prim.Native.Nat.{ℕ, ◌+◌}
use lib.ListN.{get_or}
use mathlib.Core.Path.{refl, sym, subst}
use native.Mathlib.Omega.{arith}
use Rattle.tree.specs.Rose.{Row}
use Rattle.reads.specs.Places.{begun, turn, turned}
use Rattle.reads.specs.Subs.{pattern-members}
use Rattle.rows.proofs.Patterns.{Going, some_fits, var-ready, var-bound, going_start, going_next, going-ready, going_on, going_done, going_less}
use Rattle.rows.proofs.+bind_vars.Goals as goal

pub bounds-tree-q : goal.bounds-tree-q
bounds-tree-q t c =
    let p = c.requires in omega (arith, some_fits _ _ p.1)

pub bind-requires : goal.bind-requires
bind-requires t c =
    let p = c.requires in var-ready _ _ _ _ p.0 p.1

pub returns-then-tag : goal.returns-then-tag
returns-then-tag t c =
    let p = c.requires in var-bound _ _ _ _ _ p.0 p.1 c.if-tag.true c.bind.ensures

pub end_of-z-requires : goal.end_of-z-requires
end_of-z-requires t c =
    let p = c.requires in some_fits _ _ p.1

pub loop-p-init : goal.loop-p-init
loop-p-init t c =
    let a = c.args in
    let p = c.requires in
    let f = c.fields-p-items.ensures in
    let e = c.end_of-z.ensures in
    let m = pattern-members a.tree.now a.q c.if-tag.false p.1.0 p.1.1 in
    let i = begun a.tree.now (a.q + 3) c.end_of-z.result _ c.into_iter-p-iterator.result c.into_iter-p-iterator.ensures.into_iter_gives f
    (omega (arith, e, some_fits _ _ p.1)) (m.0, subst (λ (n : ℕ). Row a.tree.now m.0 (a.q + 3) n) (sym e) m.1) in
    (i.0, i.1, subst (λ (n : ℕ). Going a.tree.now a.rows.now a.k a.q (get_or a.tree.now a.q 0) c.end_of-z.result a.rows.now n a.k) i.2 (going_start _ _ _ _ _ _ p.1 refl c.if-tag.false e))

pub sub_pattern-requires : goal.sub_pattern-requires
sub_pattern-requires t c =
    let a = c.args in
    let p = c.requires in
    let y = turn c.loop-p.p-iterator c.next.new.self c.loop-p.invariant.1 c.in-Some.ensures.steps c.in-Some.ensures.goes.keeps in
    let w = subst (λ (n : ℕ). Going a.tree.now a.rows.now a.k a.q (get_or a.tree.now a.q 0) c.end_of-z.result c.loop-p.rows n c.loop-p.i) y.here c.loop-p.invariant.2 in
    (going_next _ _ _ _ _ _ _ _ _ w y.within).key

pub bind_vars-i-requires : goal.bind_vars-i-requires
bind_vars-i-requires t c =
    let a = c.args in
    let p = c.requires in
    let y = turn c.loop-p.p-iterator c.next.new.self c.loop-p.invariant.1 c.in-Some.ensures.steps c.in-Some.ensures.goes.keeps in
    let w = subst (λ (n : ℕ). Going a.tree.now a.rows.now a.k a.q (get_or a.tree.now a.q 0) c.end_of-z.result c.loop-p.rows n c.loop-p.i) y.here c.loop-p.invariant.2 in
    let e = c.sub_pattern.ensures in
    (omega (arith, c.decreases, going_less _ _ _ _ _ _ _ _ _ _ w y.within e), going-ready _ _ _ _ _ _ _ _ _ _ p.0 w y.within e)

pub loop-p-preserved : goal.loop-p-preserved
loop-p-preserved t c =
    let a = c.args in
    let p = c.requires in
    let y = turn c.loop-p.p-iterator c.next.new.self c.loop-p.invariant.1 c.in-Some.ensures.steps c.in-Some.ensures.goes.keeps in
    let w = subst (λ (n : ℕ). Going a.tree.now a.rows.now a.k a.q (get_or a.tree.now a.q 0) c.end_of-z.result c.loop-p.rows n c.loop-p.i) y.here c.loop-p.invariant.2 in
    (c.in-Some.ensures.goes.keeps, y.over, going_on _ _ _ _ _ _ _ _ _ _ _ _ _ p.0 w y.within c.sub_pattern.ensures c.bind_vars-i.ensures y.next)

pub returns : goal.returns
returns t c =
    going_done _ _ _ _ _ _ _ _ _ c.loop-p.invariant.2 (turned c.loop-p.p-iterator c.next.new.self c.loop-p.invariant.1 c.in-None.ensures.steps)
