-- `tree::open::Open::new`: no ends. Assumes nothing.
use mathlib.Core.Path.{refl}
use Rattle.tree.specs.Nest.{stack_of}
use Rattle.tree.proofs.open.Open.new.Goals as goal

pub returns : goal.returns
unfolding stack_of
returns g c = refl
