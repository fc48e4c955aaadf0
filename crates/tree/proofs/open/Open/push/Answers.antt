-- `tree::open::Open::push`: one end more, the innermost. Assumes nothing.
use native.Mathlib.Omega.{arith}
use mathlib.Core.Path.{◌∙◌, ap}
use mathlib.Core.List.{◌∷◌}
use Rattle.tree.proofs.Deep.{room, stack-put}
use Rattle.tree.proofs.open.Open.push.Goals as goal

pub bounds-self-inside-self-inside : goal.bounds-self-inside-self-inside
bounds-self-inside-self-inside g c = room c.self.inside.ends _ _ _ c.self.view_is c.requires.0

pub invariant_of-self : goal.invariant_of-self
invariant_of-self g c = omega (arith, room c.self.inside.ends _ _ _ c.self.view_is c.requires.0)

pub returns : goal.returns
returns g c =
    let i = c.self.inside in
    let h = room i.ends _ _ i.count c.self.view_is c.requires.0 in
    stack-put i.ends i.count c.args.end (omega (arith, h, c.self.told)) ∙ ap (◌∷◌ c.args.end) c.self.view_is
