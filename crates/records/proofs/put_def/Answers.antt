-- `records::put_def` meets its contract: head, arguments, skip and kind stand one behind the other. Assumes nothing.
use Rattle.records.proofs.Calling.{def-put}
use mathlib.Core.Path.{refl}
use Rattle.records.proofs.put_def.Goals as goal

pub returns : goal.returns
returns c = (def-put c.args.tree.now c.args.rows.now c.args.j c.args.k c.args.a _ _ _ _ _ _ _ _ _ c.number.ensures c.skip.ensures c.put_head.ensures c.put_args.ensures c.put_number.ensures (rw c.number-2.ensures at c.put1.ensures), refl)
