-- `records::put_native` meets its contract: head and arguments stand one behind the other. Assumes nothing.
use Rattle.records.proofs.Calling.{native-put}
use Rattle.records.proofs.put_native.Goals as goal

pub returns : goal.returns
returns c = native-put c.args.tree.now c.args.rows.now c.args.j c.args.k c.args.a _ _ _ _ _ c.number.ensures c.put_head.ensures c.put_args.ensures
