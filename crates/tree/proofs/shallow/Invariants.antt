use Prim.Native.Nat.{◌-◌}
use lib.ListN.{length}
use Rattle.tree.specs.Formed.{only}
use Rattle.tree.proofs.Deep.{Walking}
use Rattle.tree.proofs.shallow.Given as goal

abbrev pub invariant-loop-p : goal.invariant-loop-p
invariant-loop-p g l = Walking l.b (only l.counted) g.row.N l.p l.open

abbrev pub decreases-loop-p : goal.decreases-loop-p
decreases-loop-p g l = length l.b - l.p
