-- `rows::bind_notes`: one note a turn. Assumes nothing.
use Rattle.rows.proofs.Notes.{noting-start, noting-ready, noting-more, noting-done, noted_of}
use Rattle.rows.proofs.bind_notes.Goals as goal

pub loop-j-init : goal.loop-j-init
loop-j-init c = noting-start _ _ _ _ c.requires.2

pub bind_note-requires : goal.bind_note-requires
bind_note-requires c = noting-ready _ _ _ _ _ _ (noted_of _ _ _ _ c.requires) c.loop-j.invariant c.loop-j-test.true

pub loop-j-preserved : goal.loop-j-preserved
loop-j-preserved c = noting-more _ _ _ _ _ _ (noted_of _ _ _ _ c.requires) c.loop-j.invariant c.loop-j-test.true _ c.bind_note.ensures

pub returns : goal.returns
returns c = noting-done _ _ _ _ _ _ c.loop-j.invariant c.loop-j-test.false
