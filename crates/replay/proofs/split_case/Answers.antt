-- `replay::split_case` meets its contract: the parts, one behind the other, are those of a whole case. Assumes nothing.
use Rattle.replay.proofs.Numbers.{cut}
use Rattle.replay.proofs.split_case.Goals as goal

pub returns : goal.returns
returns c =
    cut _ _ _ _ _ _ _ _ _ _ _ _ _ _ _ _ _ c.in_ok-entry.ensures.cases c.in_ok-long.ensures c.in_ok-input.ensures.cases c.in_ok-lent.ensures c.in_ok-number.ensures.cases
    c.in_ok-length.ensures c.in_ok-place.ensures c.in_ok-listing.ensures.cases
