use mathlib.Core.Path.{◌≡◌}
use Prim.Native.Nat.{◌+◌}
use lib.ListN.{length, take}
use Rattle.fields.specs.Room.{overlay}
use Rattle.text.specs.Utf8.{utf8}
use Rattle.puts.proofs.put.put_char.Given as goal

abbrev pub invariant-loop-i : goal.invariant-loop-i
invariant-loop-i l = (l.out ≡ overlay l.initial.out (l.o + 3) (take l.i (utf8 l.c))) × (length l.out ≡ length l.initial.out)
