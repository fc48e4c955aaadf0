-- `tree::Counted::counts` answers `counts`. Assumes nothing.
use mathlib.Core.Path.{refl}
use Rattle.tree.specs.Nest.{counts}
use Rattle.tree.proofs.Counted.counts.Goals as goal

pub returns-in-Fields : goal.returns-in-Fields
unfolding counts
returns-in-Fields c = rw c.in-Fields.is refl

pub returns-in-Definitions : goal.returns-in-Definitions
unfolding counts
returns-in-Definitions c = rw c.in-Definitions.is refl
