use mathlib.Core.Path.{◌≡◌}
use Prim.Native.Nat.{◌≤◌}
use Rattle.tree.specs.Nest.{stack_of, pop}
use Rattle.tree.proofs.open.Open.pass.Given as goal

abbrev pub invariant-loop-self : goal.invariant-loop-self
invariant-loop-self g l =
    (l.self-inside.count ≤ g.row.N) × (pop l.p (stack_of l.self-inside.ends l.self-inside.count) ≡ pop l.p l.fn.self)

abbrev pub decreases-loop-self : goal.decreases-loop-self
decreases-loop-self g l = l.self-inside.count
