-- `tree::row`: the headers from the loop's place on are right exactly if the whole row is. Assumes nothing.
use native.Mathlib.Omega.{arith}
use mathlib.Core.Path.{◌∙◌, sym, ap}
use Rattle.tree.specs.Leaf.{class}
use Rattle.tree.proofs.Headers.{along-start, along-fits, along-next, along-dead, along-end}
use Rattle.tree.proofs.Rows.{told-end}
use borrow.Author.Rules.{rules}
use borrow.Author.Tests.{leb-true, leb-false}
use Rattle.tree.proofs.row.Goals as goal

pub loop-q-init : goal.loop-q-init
loop-q-init c = (along-start _ _ _ _ (search rules) (search rules), search rules)

pub returns-then-not-fits : goal.returns-then-not-fits
returns-then-not-fits c = λ l. along-fits _ _ _ _ _ _ c.loop-q.invariant.0 c.loop-q-test.true (leb-false _ _ (sym c.fits.ensures ∙ c.if-not-fits.true)) l

pub loop-q-preserved : goal.loop-q-preserved
loop-q-preserved c =
    let m = leb-true _ _ (sym c.fits.ensures ∙ c.if-not-fits.false) in (
      along-next _ _ _ _ _ _ _ _ _ c.loop-q.invariant.0 c.loop-q-test.true c.end_of-q.ensures (omega (arith, m, c.end_of-q.ensures)) (c.class_of.ensures.0 ∙ ap class c.byte.ensures) c.in-Some.ensures,
      search rules,
    )

pub returns : goal.returns
returns c =
    let a = c.loop-q.invariant.0 in
    along-end _ _ _ _ _ _ _ a (omega (arith, c.loop-q-test.false)) (c.may_end.ensures ∙ told-end _ _ a.item c.item_at.ensures)

pub returns-in_default : goal.returns-in_default
returns-in_default c =
    along-dead _ _ _ _ _ _ _ c.loop-q.invariant.0 c.loop-q-test.true (c.class_of.ensures.0 ∙ ap class c.byte.ensures) c.in_default.ensures
