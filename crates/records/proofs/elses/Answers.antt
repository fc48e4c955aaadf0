-- `records::elses` meets its contract: after each turn the pairs from row j on have their records, the last one first. Assumes nothing.
use native.Mathlib.Omega.{arith}
use Rattle.records.proofs.Elsing.{begin, turn, finish}
use Rattle.records.proofs.elses.Goals as goal

pub loop-j-init : goal.loop-j-init
loop-j-init c = begin _ _ _ _ _ c.requires.0

pub loop-j-preserved : goal.loop-j-preserved
loop-j-preserved c = turn _ _ _ _ _ _ _ _ _ _ c.loop-j.invariant c.loop-j-test.true c.insert.ensures.1 (rw c.insert.ensures.0 at c.put_pair.ensures)

pub returns : goal.returns
returns c = finish _ _ _ _ _ _ _ _ _ _ c.loop-j.invariant c.requires.0 (omega (arith, c.loop-j-test.false)) c.take_number.ensures.0 c.take_number.ensures.1
