-- `records::put_own` meets its contract: the eleven bytes of a path of one index, written out. Assumes nothing.
use Rattle.records.proofs.Small.{own-path}
use Rattle.records.proofs.put_own.Goals as goal

pub returns : goal.returns
returns c = own-path _ _ _ _ _ _ _ _ _ c.put_head.ensures c.put_number.ensures c.put1.ensures c.put_number-2.ensures c.put1-2.ensures
