-- `finds::import` meets its contract: the last import of the name is kept. Assumes nothing.
use native.Mathlib.Omega.{arith}
use Rattle.finds.proofs.Seeks.{Passing, imports-fit, imports-row, passing-start, passing-fit, passing-more, passing-done}
use Prim.Native.Nat.{ℕ, ◌+◌}
use lib.ListN.{get_or}
use mathlib.Core.Bool.{true, false}
use mathlib.Core.Path.{refl, sym, subst, ◌∙◌}
use Rattle.tree.specs.Rose.{end_of}
use Rattle.reads.specs.Places.{begun, turn, turned}
use Rattle.finds.specs.Gives.{or_zero, gave-some, gave-none}
use Rattle.finds.proofs.import.Goals as goal

pub end_of-requires : goal.end_of-requires
end_of-requires c = let a = c.args in imports-fit a.tree.now a.rows.now c.requires

pub overflow_add-q : goal.overflow_add-q
overflow_add-q c = let a = c.args in omega (arith, imports-fit a.tree.now a.rows.now c.requires)

pub loop-p-init : goal.loop-p-init
loop-p-init c =
    let a = c.args in
    let q = get_or a.rows.now 4 0 in
    let z = end_of a.tree.now q in
    let f = c.fields-p-items.ensures in
    let i = begun a.tree.now (q + 3) z _ c.into_iter-p-iterator.result c.into_iter-p-iterator.ensures.into_iter_gives (f.0, f.1, f.2 ∙ c.end_of.ensures)
    (imports-fit a.tree.now a.rows.now c.requires) (imports-row a.tree.now a.rows.now c.requires) in
    (i.0, i.1, gave-none _ (subst (λ (n : ℕ). Passing a.tree.now a.rows.now a.x.now n z 0) i.2 (passing-start a.tree.now a.rows.now a.x.now c.requires _ z refl refl)))

pub is_text-requires : goal.is_text-requires
is_text-requires c =
    let a = c.args in
    let z = end_of a.tree.now (get_or a.rows.now 4 0) in
    let y = turn c.loop-p.p-iterator c.next.new.self c.loop-p.invariant.1 c.in-Some.ensures.steps c.in-Some.ensures.goes.keeps in
    let g = subst (λ (n : ℕ). Passing a.tree.now a.rows.now a.x.now n z (or_zero c.loop-p.found)) y.here c.loop-p.invariant.2.is in
    (passing-fit a.tree.now a.rows.now a.x.now _ z _ c.requires g y.within).0

pub loop-p-preserved-then-is_text : goal.loop-p-preserved-then-is_text
loop-p-preserved-then-is_text c =
    let a = c.args in
    let z = end_of a.tree.now (get_or a.rows.now 4 0) in
    let y = turn c.loop-p.p-iterator c.next.new.self c.loop-p.invariant.1 c.in-Some.ensures.steps c.in-Some.ensures.goes.keeps in
    let g = subst (λ (n : ℕ). Passing a.tree.now a.rows.now a.x.now n z (or_zero c.loop-p.found)) y.here c.loop-p.invariant.2.is in (
      c.in-Some.ensures.goes.keeps,
      y.over,
      gave-some _ _ (passing-more a.tree.now a.rows.now a.x.now _ z _ c.requires g y.within _ _ true y.next (sym c.if-is_text.true ∙ c.is_text.ensures) refl) (λ e. omega (arith, g.pos)),
    )

pub loop-p-preserved : goal.loop-p-preserved
loop-p-preserved c =
    let a = c.args in
    let z = end_of a.tree.now (get_or a.rows.now 4 0) in
    let y = turn c.loop-p.p-iterator c.next.new.self c.loop-p.invariant.1 c.in-Some.ensures.steps c.in-Some.ensures.goes.keeps in
    let g = subst (λ (n : ℕ). Passing a.tree.now a.rows.now a.x.now n z (or_zero c.loop-p.found)) y.here c.loop-p.invariant.2.is in (
      c.in-Some.ensures.goes.keeps,
      y.over,
      record {
        is = passing-more a.tree.now a.rows.now a.x.now _ z _ c.requires g y.within _ _ false y.next (sym c.if-is_text.false ∙ c.is_text.ensures) refl;
        real = c.loop-p.invariant.2.real;
      },
    )

pub returns : goal.returns
returns c =
    let a = c.args in
    let l = turned c.loop-p.p-iterator c.next.new.self c.loop-p.invariant.1 c.in-None.ensures.steps in
    record { is = passing-done a.tree.now a.rows.now a.x.now _ (end_of a.tree.now (get_or a.rows.now 4 0)) _ c.loop-p.invariant.2.is l; real = c.loop-p.invariant.2.real }
