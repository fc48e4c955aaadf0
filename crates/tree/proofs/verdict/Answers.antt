-- `tree::verdict`: bytes that are too long, or what `judged` says. Assumes nothing.
use Rattle.tree.specs.Verdict.{long}
use Rattle.tree.proofs.verdict.Goals as goal

pub returns-in_default-clause-says : goal.returns-in_default-clause-says
returns-in_default-clause-says c = long c.in_default.ensures
