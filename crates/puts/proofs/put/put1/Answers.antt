-- `put::put1` meets its contract: where there is no room, a store is none. Assumes nothing.
use mathlib.Core.Path.{sym}
use lib.Seq.{set_out}
use Rattle.puts.proofs.put.put1.Goals as goal

pub returns-else-o-out : goal.returns-else-o-out
returns-else-o-out c = sym (set_out _ _ _ c.if-o-out.false)
