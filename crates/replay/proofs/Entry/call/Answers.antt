-- `replay::Entry::call` meets its contract: each arm has what its entry ensures. Assumes nothing.
use Rattle.replay.specs.Replay.{outcome}
use Rattle.replay.proofs.Entry.call.Goals as goal

pub returns-in-Climb : goal.returns-in-Climb
unfolding outcome
returns-in-Climb c = rw (c.in-Climb.is, c.from.ensures) c.climb.ensures

pub returns-in-Lex : goal.returns-in-Lex
unfolding outcome
returns-in-Lex c = rw (c.in-Lex.is, c.from-in-Lex.ensures) c.lex.ensures.answers
