-- `text::white_space` meets its contract: std has the same 25 characters, and no number that is none is among them.
-- Assumes nothing.
use borrow.Author.Rules.{rules}
use Rattle.text.proofs.Library.{space-of}
use Rattle.text.proofs.white_space.Goals as goal

pub returns : goal.returns
returns c = space-of _ _ _ c.from_u32.ensures.value (search rules)
