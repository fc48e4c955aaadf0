-- `text::char_at` meets its contract: what stands from the place on begins with a sequence and its bits, or with none.
-- Assumes nothing.
use Rattle.std.proofs.Common.{◌∙◌}
use Rattle.text.proofs.Chars.{len-fits, char-found, char-past}
use Rattle.text.proofs.char_at.Goals as goal

pub returns-in_err-rest : goal.returns-in_err-rest
returns-in_err-rest c = let a = c.args in c.from_residual.ensures ∙ char-past a.s.now a.at c.in_err-rest.ensures.lookup.0

pub slice_bounds-code_point-end : goal.slice_bounds-code_point-end
slice_bounds-code_point-end c = len-fits _ _ c.in_ok-len.ensures

pub returns : goal.returns
returns c = let a = c.args in char-found a.s.now _ a.at _ _ c.in_ok-rest.ensures.lookup.0.2 c.in_ok-len.ensures c.code_point.ensures
