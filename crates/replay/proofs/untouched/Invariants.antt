-- `replay::untouched`: the pattern stands below i, and its byte at i is due.
use mathlib.Core.Path.{◌≡◌}
use Prim.Native.Nat.{◌+◌}
use Rattle.replay.specs.Lent.{pattern_at}
use Rattle.replay.proofs.Rooms.{Running}
use Rattle.replay.proofs.untouched.Given as goal

abbrev pub invariant-loop-byte : goal.invariant-loop-byte
invariant-loop-byte l = (l.due ≡ pattern_at (l.from + l.byte-index)) × Running l.bytes l.from l.byte-index
