-- `records::put_op` meets its contract: the byte's tag, and between the sides, where the width says so, its choice. Assumes nothing.
use Rattle.fields.specs.Room.{overlay}
use mathlib.Core.Path.{ap, ◌∙◌}
use Rattle.records.proofs.Operating.{op-two, op-mid}
use Rattle.records.proofs.put_op.Goals as goal

pub returns-then-op_width-eq7 : goal.returns-then-op_width-eq7
returns-then-op_width-eq7 c = c.put_two.ensures ∙ ap (overlay _ _) (op-two _ _ _ _ _ c.requires.1 c.op_width.ensures c.if-op_width-eq7.true c.op_tag.ensures)

pub returns : goal.returns
returns c = c.put_mid.ensures ∙ ap (overlay _ _) (op-mid _ _ _ _ _ _ c.requires.1 c.op_width.ensures c.if-op_width-eq7.false c.op_tag-2.ensures c.op_choice.ensures)
