-- `finds::outside` meets its contract: a definition of a module, or else what was found. Assumes nothing.
use mathlib.Core.Path.{ap, ◌∙◌}
use borrow.Author.Tests.{ne_eqb}
use Rattle.std.proofs.Common.{Some}
use Rattle.finds.specs.Asks.{outside_of}
use Rattle.finds.proofs.outside.Goals as goal

pub returns-in-Some : goal.returns-in-Some
unfolding outside_of
returns-in-Some c = rw (c.in-Some.is, ne_eqb c.in-Some.j 0 (λ e. c.requires (c.in-Some.is ∙ ap Some e)))

pub returns-in-None : goal.returns-in-None
unfolding outside_of
returns-in-None c = rw c.in-None.is
