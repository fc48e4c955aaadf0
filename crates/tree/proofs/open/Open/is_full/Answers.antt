-- `tree::open::Open::is_full`: as many as there is room for. Assumes nothing.
use Rattle.tree.proofs.Deep.{full-stack}
use Rattle.tree.proofs.open.Open.is_full.Goals as goal

pub returns : goal.returns
returns g c = full-stack c.self.inside.ends _ c.self.inside.count _ c.self.view_is c.self.invariant
