-- `colons_at` meets its contract. Assumes nothing.
use native.Mathlib.Omega.{arith}
use Rattle.reads.proofs.Colons.{at_other, at_before, at-behind, at-alone, at_last}
use Rattle.reads.proofs.bytes.colons_at.Goals.{else-i-x-via-then-i-x+else-x-i-eq58-2, else-i-x-via-else-i-x}
use Rattle.reads.proofs.bytes.colons_at.Goals as goal

pub returns-then-x-i-ne58 : goal.returns-then-x-i-ne58
returns-then-x-i-ne58 c = λ h. omega (arith, h, at_other c.args.x.now c.args.i c.if-x-i-ne58.true)

pub returns-then-x-i-eq58 : goal.returns-then-x-i-eq58
returns-then-x-i-eq58 c = let e = at_before _ _ c.if-x-i-ne58.false c.if-x-i-eq58.true in (omega (arith, e, c.requires), e)

pub returns-then-x-i-eq58-2 : goal.returns-then-x-i-eq58-2
returns-then-x-i-eq58-2 c = let e = at-behind _ _ c.if-x-i-ne58.false c.if-x-i-eq58.false c.if-x-i-eq58-2.true in (omega (arith, e, c.requires), e)

pub returns : goal.returns
returns c =
    elim c.else-i-x.branch [
      | else-i-x-via-then-i-x+else-x-i-eq58-2 w ↦ λ h. omega (arith, h, at-alone c.args.x.now c.args.i c.if-x-i-ne58.false c.if-x-i-eq58.false w.if-x-i-eq58-2.false)
      | else-i-x-via-else-i-x w ↦ λ h. omega (arith, h, at_last c.args.x.now c.args.i c.if-x-i-ne58.false c.if-x-i-eq58.false w.if-i-x.false)
    ]
