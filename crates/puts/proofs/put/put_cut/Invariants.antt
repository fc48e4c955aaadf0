use Prim.Native.Nat.{◌*◌}
use mathlib.Core.Path.{◌≡◌}
use mathlib.Core.List.{◌∷◌, ◌++◌}
use lib.ListN.{length, take}
use Rattle.fields.specs.Number.{number}
use Rattle.fields.specs.Room.{overlay}
use Rattle.puts.specs.Pairs.{pairs}
use Rattle.puts.proofs.put.put_cut.Given as goal

abbrev pub invariant-loop-i : goal.invariant-loop-i
invariant-loop-i g l = (l.out ≡ overlay l.fn.out l.o (l.tag ∷ number 2 (2 * l.i-end) ++ pairs (take l.i l.numbers))) × (length l.out ≡ length l.fn.out)
