-- `fields::store_pair` meets its contract: the seven bytes are the field. Assumes nothing.
use Rattle.std.proofs.Common.{ap, ◌∙◌}
use Rattle.fields.specs.Room.{overlay}
use Rattle.fields.proofs.store_pair.Goals as goal

pub returns : goal.returns
returns c = c.copy.ensures ∙ ap (overlay c.args.out.now c.args.at) c.pair.ensures
