-- `members` meets its contract. Assumes nothing.
use native.Mathlib.Omega.{arith}
use mathlib.Core.Path.{refl}
use Rattle.reads.specs.Places.{begun, row-over}
use Rattle.reads.proofs.Rows.{gives_all}
use Rattle.reads.proofs.bytes.members.Goals as goal

pub count-requires-clause-can : goal.count-requires-clause-can
count-requires-clause-can c = (begun c.args.b.now c.args.q c.args.z c.fields.result c.fields.result refl c.fields.ensures c.requires.0 c.requires.1).0

pub returns : goal.returns
returns c =
    let f = c.fields.ensures in
    let r = c.count.ensures.ran in
    λ rs h.
    let k = gives_all c.fields.result r.0 r.1 rs (row-over c.args.b.now c.args.z c.args.q c.fields.result rs (f.0, f.2) f.1 h) in
    (omega (arith, k.0, r.2), omega (arith, k.1, r.2, f.1, f.2))
