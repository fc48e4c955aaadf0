-- `replay::turn` meets its contract: what is counted is what the case shows. Assumes nothing.
use Rattle.std.proofs.Common.{arith}
use Rattle.replay.proofs.Cases.{as-long, as-parts}
use Rattle.replay.proofs.Counts.{counted}
use Rattle.replay.proofs.turn.Goals as goal

pub holds-requires : goal.holds-requires
holds-requires c = (omega (arith, c.in_ok-lent.ensures.lookup), as-long _ _ _ c.in_ok-case.ensures)

pub returns : goal.returns
returns c =
    let case = c.in_ok-case.ensures in
    let counts = counted c.in_ok-entry.entry _ _ _ c.count.ensures in
    record {
      few = counts.0;
      kept = counts.1;
      holds = (case.size, case.some, case.within, case.behind, case.whole, λ f. as-parts _ _ _ _ case c.in_ok-entry.ensures (c.holds.ensures.0 (counts.2 f)));
    }
