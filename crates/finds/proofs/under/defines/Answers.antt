-- `finds::under::defines` meets its contract: the definitions of one term after the other. Assumes nothing.
use Rattle.finds.proofs.Unders.{defining-fits, defining-opens, defining-found, defining-less, defining-more, defining-done}
use native.Mathlib.Omega.{arith}
use mathlib.Core.Path.{subst, sym}
use Prim.Native.Nat.{ℕ, ◌+◌}
use Rattle.tree.specs.Rose.{rnil, rcons, end_of, Row}
use Rattle.tree.specs.Form.{f_term, f_defs}
use Rattle.finds.proofs.under.defines.Goals as goal

pub end_of-requires : goal.end_of-requires
end_of-requires c = let a = c.args in defining-fits a.b.now a.p a.x.now a.a c.loop-q.q c.loop-q.invariant c.requires

pub bounds-b-q : goal.bounds-b-q
bounds-b-q c = let a = c.args in omega (arith, defining-fits a.b.now a.p a.x.now a.a c.loop-q.q c.loop-q.invariant c.requires)

pub declares-requires : goal.declares-requires
declares-requires c =
    let a = c.args in
    let h = defining-opens a.b.now a.p a.x.now a.a c.loop-q.q c.loop-q.invariant c.requires c.loop-q-test.true in
    (h.0, h.1, subst (λ (z : ℕ). Row a.b.now (f_defs h.0 (rcons (f_term h.1) rnil)) (c.loop-q.q + 3) z) (sym c.end_of.ensures) h.2, omega (arith, h.3, c.end_of.ensures))

pub returns-then-declares : goal.returns-then-declares
returns-then-declares c = let a = c.args in defining-found a.b.now a.p a.x.now a.a c.loop-q.q c.loop-q.invariant c.requires c.loop-q-test.true _ c.end_of.ensures c.declares.result c.declares.ensures c.if-declares.true

pub after_defs-q-requires : goal.after_defs-q-requires
after_defs-q-requires c =
    let a = c.args in
    let h = defining-opens a.b.now a.p a.x.now a.a c.loop-q.q c.loop-q.invariant c.requires c.loop-q-test.true in
    (h.0, h.1, end_of a.b.now c.loop-q.q, h.2, h.3)

pub loop-q-smaller : goal.loop-q-smaller
loop-q-smaller c = let a = c.args in defining-less a.b.now a.p a.x.now a.a c.loop-q.q c.loop-q.invariant c.requires c.loop-q-test.true _ c.end_of.ensures c.declares.result c.declares.ensures c.after_defs-q.result c.after_defs-q.ensures

pub loop-q-preserved : goal.loop-q-preserved
loop-q-preserved c = let a = c.args in defining-more a.b.now a.p a.x.now a.a c.loop-q.q c.loop-q.invariant c.requires c.loop-q-test.true _ c.end_of.ensures c.declares.result c.declares.ensures c.after_defs-q.result c.after_defs-q.ensures c.if-declares.false

pub returns : goal.returns
returns c = let a = c.args in defining-done a.b.now a.p a.x.now a.a c.loop-q.q c.loop-q.invariant c.requires c.loop-q-test.false
