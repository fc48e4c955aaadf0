use lib.ListN.{length}
use Rattle.tree.specs.Tree.{Tree}
use Rattle.tree.specs.Form.{At}
use Rattle.tree.specs.Places.{Over}
use Rattle.tree.proofs.Using.{Left}
use Rattle.tree.proofs.numbered.Given as goal

abbrev pub invariant-loop-m : goal.invariant-loop-m
invariant-loop-m l =
    (goal.iterator-loop-m).can_next l.m-iterator × Over l.b (length l.b) l.m-iterator.iter × ((t : Tree) → At l.b t → Left l.b t l.m-iterator.iter.at l.m-iterator.count)
