use Prim.Native.Nat.{◌-◌}
use lib.ListN.{length}
use Rattle.tree.specs.Rose.{end_of}
use Rattle.reads.specs.Places.{Over}
use Rattle.reads.proofs.Widening.{Widening}
use Rattle.reads.proofs.width.+pattern_width.Given as goal

abbrev pub decreases-pattern_width : goal.decreases-pattern_width
decreases-pattern_width l = length l.b.now - l.q

abbrev pub invariant-loop-p : goal.invariant-loop-p
invariant-loop-p l = (goal.iterator-loop-p).can_next l.p-iterator × Over l.b (end_of l.b l.q) l.p-iterator × Widening l.b l.q (end_of l.b l.q) l.p-iterator.at l.w
