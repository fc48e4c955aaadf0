use Prim.Native.Nat.{◌-◌}
use Rattle.climber.specs.Row.{count}
use Rattle.climber.proofs.Turns.{Going}
use Rattle.climber.proofs.+climb1.Given as goal

abbrev pub decreases-climb1 : goal.decreases-climb1
decreases-climb1 l = count l.row.bytes.now - l.from

abbrev pub invariant-loop-row : goal.invariant-loop-row
invariant-loop-row l = Going l.row.bytes.now l.from l.min l.initial.out l.i l.out

abbrev pub decreases-loop-row : goal.decreases-loop-row
decreases-loop-row l = count l.row.bytes.now - l.i
