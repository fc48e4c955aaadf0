-- `tree::each_header`: the headers from the loop's place on are right exactly if all are, and the counts are those of the headers passed. Assumes nothing.
use native.Mathlib.Omega.{arith}
use mathlib.Core.Path.{◌∙◌, sym, subst}
use Rattle.tree.specs.Leaf.{shape}
use Rattle.tree.specs.Shapes.{IsShape}
use Rattle.tree.proofs.Headers.{wrong-fits, wrong-content}
use Rattle.tree.proofs.Seen.{seen_step, seen_end}
use borrow.Author.Tests.{leb-true, leb-false}
use Rattle.tree.proofs.each_header.Goals as goal

pub returns-then-not-fits : goal.returns-then-not-fits
returns-then-not-fits c =
    let n = leb-false _ _ (sym c.fits.ensures ∙ c.if-not-fits.true) in
    wrong-fits _ _ c.loop-p.invariant.going (omega arith) (λ m. omega (arith, m, n))

pub returns-in_err-p : goal.returns-in_err-p
returns-in_err-p c = rw c.from_residual.ensures (wrong-content _ _ c.loop-p.invariant.going (omega arith) c.in_err-p.ensures)

pub loop-p-preserved : goal.loop-p-preserved
loop-p-preserved c =
    let s = subst (λ k. IsShape c.shape_of-s.result (shape k)) c.byte-k.ensures c.shape_of-s.ensures in
    let m = leb-true _ _ (sym c.fits.ensures ∙ c.if-not-fits.false) in
    rw (c.from-fields.ensures, c.from-definitions.ensures, c.is_row.ensures, c.byte-k.ensures)
    (seen_step c.args.b.now c.loop-p.p _ _ _ c.loop-p.invariant (omega arith) (omega (arith, m)) c.in_ok-p.ensures c.shape_of-s.result s)

pub returns : goal.returns
returns c = seen_end _ _ _ _ c.loop-p.invariant (omega arith)
