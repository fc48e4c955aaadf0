-- `tree::advance`: the first item takes the member, or `skip` finds what does. Assumes nothing.
use borrow.Author.Tests.{eqb-true}
use mathlib.Core.Path.{◌∙◌, sym}
use Rattle.tree.proofs.Rows.{at-taken}
use Rattle.tree.proofs.advance.Goals as goal

pub returns-then-takes : goal.returns-then-takes
returns-then-takes c = at-taken _ _ c.requires.0 c.item_at-it.ensures _ (eqb-true _ _ (sym c.takes.ensures ∙ c.if-takes.true)) c.requires.1 _ c.behind.ensures
