-- `exports::filter_climb` meets its contract: what `climb` promises, packed. Assumes nothing.
use native.Mathlib.Omega.{arith}
use Rattle.climber.proofs.Small.{climb-small}
use Rattle.exports.proofs.Packing.{packing}
use Rattle.exports.proofs.filter_climb.Goals as goal

pub pack-requires : goal.pack-requires
pack-requires c = let s = climb-small _ _ _ _ c.climb.ensures in rw c.from.ensures (omega arith)

pub returns : goal.returns
returns c = packing _ _ _ c.from.result _ (rw c.from.ensures c.climb.ensures) c.pack.ensures
