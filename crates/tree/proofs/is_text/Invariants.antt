-- `tree::is_text`: what is left is UTF-8 exactly if the whole is.
use mathlib.Core.Path.{◌≡◌}
use lib.ListN.{drop}
use Rattle.tree.specs.Leaf.{text}
use Rattle.tree.proofs.is_text.Given as goal

abbrev pub invariant-loop-i : goal.invariant-loop-i
invariant-loop-i l = text l.x ≡ text (drop l.i l.x)
