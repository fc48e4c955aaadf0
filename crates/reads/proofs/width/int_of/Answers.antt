-- `int_of` meets its contract. Assumes nothing.
use native.Mathlib.Omega.{arith}
use mathlib.Core.Logic.{inl, inr}
use mathlib.Core.Path.{sym}
use borrow.Author.Tests.{eqb-true}
use Rattle.std.proofs.lemmas.Bool.{eqb-false}
use Rattle.reads.proofs.Ints.{int-none, int-below, int-above, int-over, int-high, int-done}
use Rattle.reads.proofs.width.int_of.Goals.{then-is_empty-via-then-is_empty, then-is_empty-via-else-is_empty+then-v}
use Rattle.reads.proofs.width.int_of.Goals as goal

pub returns-then-not-is_ascii_digit : goal.returns-then-not-is_ascii_digit
returns-then-not-is_ascii_digit c =
    elim c.if-not-is_ascii_digit.ensures.cases [
      | inl l ↦ λ h. omega (arith, h, int-below _ _ _ c.loop-digit.invariant c.loop-digit-test.true l)
      | inr l ↦ λ h. omega (arith, h, int-above _ _ _ c.loop-digit.invariant c.loop-digit-test.true l)
    ]

pub returns-in_err-checked_mul : goal.returns-in_err-checked_mul
returns-in_err-checked_mul c =
    rw c.from_residual.ensures
    (λ h. omega (arith, h, int-over _ _ _ c.loop-digit.invariant c.loop-digit-test.true (omega (arith, c.in_err-checked_mul.ensures))))

pub returns-in_err-v : goal.returns-in_err-v
returns-in_err-v c =
    rw c.from_residual-in_err-v.ensures
    (λ h. omega (arith, h, int-over _ _ _ c.loop-digit.invariant c.loop-digit-test.true (omega (arith, c.in_err-v.ensures, c.in_ok-checked_mul.ensures.1, c.from.ensures))))

pub returns-then-is_empty : goal.returns-then-is_empty
returns-then-is_empty c =
    elim c.then-is_empty.branch [
      | then-is_empty-via-then-is_empty w ↦ λ h. omega (arith, h, int-none c.args.x.now (eqb-true _ _ (sym w.if-is_empty.ensures)))
      | then-is_empty-via-else-is_empty+then-v w ↦ λ h. omega (arith, h, int-high _ _ _ c.loop-digit.invariant (omega (arith, w.if-v.true)))
    ]

pub returns : goal.returns
returns c = let e = int-done _ _ _ c.loop-digit.invariant c.loop-digit-test.false (eqb-false _ _ (sym c.if-is_empty.ensures)) (omega (arith, c.if-v.false)) in (omega (arith, e, c.if-v.false), e)
