-- `State::reserve` meets its contract. Assumes nothing.
use Rattle.puts.proofs.Spots.{reserved, untouched}
use Rattle.puts.proofs.state.State.reserve.Goals as goal

pub returns-then-at-self : goal.returns-then-at-self
returns-then-at-self c = let a = c.args in reserved a.self.now a.o a.w _ c.unwrap_or-at.ensures c.if-at-self.true

pub returns-else-at-self : goal.returns-else-at-self
returns-else-at-self c = let a = c.args in untouched a.self.now a.o a.w _ c.unwrap_or-at.ensures c.if-at-self.false
