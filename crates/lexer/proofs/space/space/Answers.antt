-- `space::space` meets its contract: the outer loop over blanks and comments, the inner one over the lines of a comment. Assumes nothing.
use Rattle.lexer.proofs.Spacing.{on, one-blank, one-comment, no-comment, line_on, line-moves, line-off}
use native.Mathlib.Omega.{arith}
use Rattle.lexer.proofs.space.space.Goals as goal

pub space-preserved-in-Some : goal.space-preserved-in-Some
space-preserved-in-Some c = on _ _ _ _ (one-blank _ _ _ _ c.space.invariant c.in-Some.ensures) c.blanks-at.ensures

pub lines-init : goal.lines-init
lines-init c = one-comment _ _ _ _ c.space.invariant c.in_default.ensures c.byte_at.ensures c.if-byte_at-ne35.false

pub space-preserved : goal.space-preserved
space-preserved c = line-off _ _ _ _ _ _ _ c.lines.invariant c.line_end-end.ensures c.goes_on-on.ensures c.min-at.ensures c.if-not-on.true

pub lines-smaller : goal.lines-smaller
lines-smaller c = omega (arith, c.min-at.ensures, line-moves _ _ _ _ _ _ _ c.lines.invariant c.line_end-end.ensures c.goes_on-on.ensures c.min-at.ensures c.if-not-on.false)

pub lines-preserved : goal.lines-preserved
lines-preserved c = line_on _ _ _ _ _ _ _ c.lines.invariant c.line_end-end.ensures c.goes_on-on.ensures c.min-at.ensures c.if-not-on.false

pub returns : goal.returns
returns c = no-comment _ _ _ _ c.space.invariant c.in_default.ensures c.byte_at.ensures c.if-byte_at-ne35.true
