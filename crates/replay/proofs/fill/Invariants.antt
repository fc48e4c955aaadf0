-- `replay::fill`: the pattern stands below i, and its byte at i is due.
use mathlib.Core.Path.{◌≡◌}
use Rattle.replay.specs.Lent.{pattern_at}
use Rattle.replay.proofs.Rooms.{Filled}
use Rattle.replay.proofs.fill.Given as goal

abbrev pub invariant-loop-byte : goal.invariant-loop-byte
invariant-loop-byte l = (l.due ≡ pattern_at l.byte-index) × Filled l.room l.byte-index
