-- `params` meets its contract. Assumes nothing.
use Rattle.reads.proofs.Rows.{names-tagged}
use Rattle.reads.proofs.bytes.params.Goals as goal

pub tagged-requires : goal.tagged-requires
tagged-requires c = let s = c.requires in (_, names-tagged _ s.0 s.1 _ s.2 s.3)

pub returns : goal.returns
returns c = λ xs t z h. c.tagged.ensures _ (names-tagged _ xs t _ z h)
