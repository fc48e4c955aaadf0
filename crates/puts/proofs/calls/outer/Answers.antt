-- `calls::outer` meets its contract. Assumes nothing.
use mathlib.Core.Path.{refl, sym, ◌∙◌}
use Rattle.puts.proofs.Masks.{outer-none, outer-own}
use Rattle.puts.proofs.calls.outer.Goals as goal

pub returns-then-size-eq0 : goal.returns-then-size-eq0
returns-then-size-eq0 c = (λ l h k. c.new_inline.ensures ∙ outer-none _ l (sym c.size.ensures ∙ c.if-size-eq0.true) h k, refl)

pub returns : goal.returns
returns c = (λ l h k. c.new_catch_one.ensures ∙ outer-own _ l (λ e. c.if-size-eq0.false (c.size.ensures ∙ e)) h k, refl)
