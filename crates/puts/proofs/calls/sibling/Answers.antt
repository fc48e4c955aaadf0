-- `calls::sibling` meets its contract. Assumes nothing.
use mathlib.Core.Path.{◌∙◌}
use lib.Bits.{and_le_l}
use Rattle.puts.proofs.Masks.{sibling-in, sibling-own, sibling-out}
use Rattle.puts.proofs.calls.sibling.Goals as goal

pub overflow_sub-rest : goal.overflow_sub-rest
overflow_sub-rest c = and_le_l _ _

pub returns-then-own-eq0 : goal.returns-then-own-eq0
returns-then-own-eq0 c =
    let x = sibling-in _ _ _ _ c.bit.ensures c.if-rest-allowed.true c.if-own-eq0.true in
    (c.new_inline.ensures ∙ x.0, x.1)

pub returns-then-rest-allowed : goal.returns-then-rest-allowed
returns-then-rest-allowed c =
    let x = sibling-own _ _ _ _ c.bit.ensures c.if-rest-allowed.true c.if-own-eq0.false in
    (c.new_catch_one.ensures ∙ x.0, x.1)

pub returns : goal.returns
returns c =
    let x = sibling-out _ _ _ _ c.bit.ensures c.if-rest-allowed.false in
    (c.new_catch_all.ensures ∙ x.0, x.1)
