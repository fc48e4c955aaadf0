-- `records::put_bound` meets its contract: a number behind 1, or 0 alone. Assumes nothing.
use Rattle.records.proofs.Small.{bound-on, bound-off}
use Rattle.records.proofs.put_bound.Goals as goal

pub returns : goal.returns
returns c = rw c.in-Some.is (bound-on _ _ _ _ _ c.put1-2.ensures c.put_number.ensures)

pub returns-in_default : goal.returns-in_default
returns-in_default c = rw c.in_default.is (bound-off _ _ _ c.put1.ensures)
