-- `State::alone` meets its contract: what is reserved is where the record is placed. Assumes nothing.
use Rattle.puts.proofs.Spots.{start-within, both}
use Rattle.puts.proofs.state.State.alone.Goals as goal

pub place-requires : goal.place-requires
place-requires c = let a = c.args in let p = c.requires in start-within a.self.now a.o a.w _ p.0 p.1 c.reserve.ensures

pub returns : goal.returns
returns c =
    let a = c.args in
    both a.self.now a.o a.w _ _ _ c.reserve.ensures c.place.ensures.0 c.place.ensures.1
