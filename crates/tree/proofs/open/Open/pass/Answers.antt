-- `tree::open::Open::pass`: the ends that are not behind p are taken off. Assumes nothing.
use native.Mathlib.Omega.{arith}
use mathlib.Core.Path.{◌∙◌}
use Rattle.tree.proofs.Deep.{pop-stop, pop-more, pop-none}
use Rattle.tree.proofs.open.Open.pass.Goals as goal

pub loop-self-preserved : goal.loop-self-preserved
loop-self-preserved g c =
    let i = c.loop-self.self-inside in
    (omega (arith, c.loop-self.invariant.0), pop-more i.ends i.count c.args.p c.loop-self-test.true (omega (arith, c.from.ensures, c.if-from-p.true)) ∙ c.loop-self.invariant.1)

pub returns-else-from-p : goal.returns-else-from-p
returns-else-from-p g c =
    let i = c.loop-self.self-inside in
    pop-stop i.ends i.count c.args.p c.loop-self-test.true (omega (arith, c.from.ensures, c.if-from-p.false)) ∙ c.loop-self.invariant.1

pub returns-after-loop-self : goal.returns-after-loop-self
returns-after-loop-self g c =
    let i = c.loop-self.self-inside in
    pop-none i.ends i.count c.args.p (omega (arith, c.loop-self-test.false)) ∙ c.loop-self.invariant.1
