-- `State::place` meets its contract. Assumes nothing.
use Rattle.puts.proofs.Spots.{placed-late, placed}
use Rattle.puts.proofs.state.State.place.Goals as goal

pub returns-in-Some : goal.returns-in-Some
returns-in-Some c = let a = c.args in rw c.in-Some.is (placed a.self.now c.in-Some.x a.w)

pub returns : goal.returns
returns c = let a = c.args in rw c.in_default.is (placed-late a.self.now a.w)
