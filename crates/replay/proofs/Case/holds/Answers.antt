-- `replay::Case::holds` meets its contract: what the comparison shows of the entry's definition. Assumes nothing.
use Rattle.std.proofs.Common.{sym, ◌∙◌}
use Rattle.replay.proofs.Cases.{told, told_other}
use Rattle.replay.proofs.Case.holds.Goals as goal

pub returns-then-eq : goal.returns-then-eq
returns-then-eq c =
    told _ _ _ _ _ _ _ c.call-answer.ensures c.fill.ensures c.call-answer.auto.room (c.fill.auto.room ∙ c.requires.0) _ c.requires.1 (sym c.eq.ensures ∙ c.if-eq.true) c.left.ensures

pub returns-else-eq : goal.returns-else-eq
returns-else-eq c =
    rw c.if-eq.false
    (told_other _ _ _ _ _ _ _ c.call-answer.ensures c.fill.ensures c.call-answer.auto.room (c.fill.auto.room ∙ c.requires.0) (sym c.eq.ensures ∙ c.if-eq.false))
