-- `text::is_scalar` meets its contract: there is a character of that number exactly if it is a scalar value.
-- Assumes nothing.
use Rattle.std.proofs.Common.{◌∙◌}
use Rattle.text.proofs.Library.{some-char}
use Rattle.text.proofs.is_scalar.Goals as goal

pub returns : goal.returns
returns c = c.is_some.ensures ∙ some-char _ _ c.from_u32.ensures.value
