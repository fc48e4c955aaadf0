-- `lexer::input::trimmed` meets its contract: the part behind the place that `space` gives. Assumes nothing.
use mathlib.Core.Path.{ap, ◌∙◌}
use Prim.Native.Nat.{ℕ}
use lib.ListN.{drop}
use Rattle.lexer.proofs.input.trimmed.Goals as goal

pub returns : goal.returns
returns c = c.after.ensures ∙ ap (λ (n : ℕ). drop n c.args.i.now) c.space-n.ensures.is
