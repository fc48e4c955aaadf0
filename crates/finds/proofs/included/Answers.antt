-- `finds::included` meets its contract: from the last number back; a number is five bytes. Assumes nothing.
use Rattle.finds.proofs.Meanings.{includes-fit, counted-start, counted-low, counted-known, counted-found, counted-more, counted-done}
use mathlib.Core.Path.{refl}
use Rattle.finds.specs.Gives.{gives-some, gives-none, gave-some, gave-none}
use Rattle.finds.proofs.included.Goals as goal

pub end_of-requires : goal.end_of-requires
end_of-requires c = let a = c.args in includes-fit a.tree.now a.rows.now c.requires

pub loop-i-init : goal.loop-i-init
loop-i-init c = let a = c.args in counted-start a.tree.now a.rows.now a.x.now.name.now a.x.now.key c.requires _ c.end_of.ensures

pub number_at-requires : goal.number_at-requires
number_at-requires c = let a = c.args in counted-low a.tree.now a.rows.now a.x.now.name.now a.x.now.key c.loop-i.i c.loop-i.invariant c.loop-i-test.true c.requires

pub defined-requires : goal.defined-requires
defined-requires c = let a = c.args in counted-known a.tree.now a.rows.now a.x.now.name.now a.x.now.key c.loop-i.i c.loop-i.invariant c.loop-i-test.true c.requires _ c.number_at.ensures.0

pub returns-in-Some : goal.returns-in-Some
returns-in-Some c =
    let a = c.args in
    let g = gives-some _ _ _ c.defined.ensures c.in-Some.is in
    gave-some _ _ (counted-found a.tree.now a.rows.now a.x.now.name.now a.x.now.key c.loop-i.i c.loop-i.invariant c.loop-i-test.true _ _ c.number_at.ensures.0 g.0 g.1) g.1

pub loop-i-preserved : goal.loop-i-preserved
loop-i-preserved c =
    let a = c.args in
    let g = gives-none _ _ c.defined.ensures c.in_default.is in
    counted-more a.tree.now a.rows.now a.x.now.name.now a.x.now.key c.loop-i.i c.loop-i.invariant c.loop-i-test.true _ 0 c.number_at.ensures.0 g refl

pub returns : goal.returns
returns c = let a = c.args in gave-none _ (counted-done a.tree.now a.rows.now a.x.now.name.now a.x.now.key c.loop-i.i c.loop-i.invariant c.loop-i-test.false)
