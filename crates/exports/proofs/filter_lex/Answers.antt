-- `exports::filter_lex` meets its contract: what `lex` promises, packed. Assumes nothing.
use native.Mathlib.Omega.{arith}
use Rattle.exports.proofs.Packing.{packing}
use Rattle.exports.proofs.filter_lex.Goals as goal

pub pack-requires : goal.pack-requires
pack-requires c = let s = c.lex.ensures in rw c.from.ensures (omega arith)

pub returns : goal.returns
returns c = packing _ _ _ c.from.result _ (rw c.from.ensures c.lex.ensures.answers) c.pack.ensures
