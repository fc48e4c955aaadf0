-- `text::prefix` meets its contract: what std calls UTF-8 is valid, and the longest front of it is.
-- Assumes nothing.
use Rattle.std.proofs.Common.{◌∙◌}
use Rattle.text.proofs.Library.{all-valid, up-to}
use Rattle.text.proofs.prefix.Goals as goal

pub returns-in-Ok : goal.returns-in-Ok
returns-in-Ok c = let e = c.in-Ok.ensures.cases in all-valid _ _ e.0 e.1

pub returns-in-Err : goal.returns-in-Err
returns-in-Err c = c.valid_up_to.ensures ∙ up-to _ _ c.in-Err.ensures.cases.1
