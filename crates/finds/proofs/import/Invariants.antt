use Rattle.tree.specs.Rose.{end_of}
use Rattle.reads.specs.Places.{Over}
use Rattle.finds.specs.Gives.{Gives}
use Rattle.finds.proofs.Seeks.{Passing}
use Rattle.finds.proofs.import.Given as goal

abbrev pub invariant-loop-p : goal.invariant-loop-p
invariant-loop-p l =
    (goal.iterator-loop-p).can_next l.p-iterator × Over l.tree (end_of l.tree l.q) l.p-iterator × Gives (Passing l.tree l.rows l.x l.p-iterator.at (end_of l.tree l.q)) l.found
