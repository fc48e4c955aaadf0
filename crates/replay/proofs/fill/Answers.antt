-- `replay::fill` meets its contract: the pattern stands below the end. Assumes nothing.
use Rattle.std.proofs.Common.{arith}
use Rattle.replay.proofs.Rooms.{fill-all}
use Rattle.replay.proofs.fill.Goals as goal

pub returns : goal.returns
returns c = fill-all c.loop-byte.room c.loop-byte.byte-index (omega (arith, c.loop-byte.auto.room)) c.loop-byte.invariant.1
