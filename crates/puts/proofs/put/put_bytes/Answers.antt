-- `put::put_bytes` meets its contract. Assumes nothing.
use mathlib.Core.Path.{◌≡◌, sym}
use native.Mathlib.Omega.{arith}
use lib.ListN.{length}
use Rattle.std.proofs.Common.{rules}
use Rattle.fields.specs.Room.{overlay-out}
use Rattle.fields.proofs.Copying.{whole}
use Rattle.puts.proofs.put.put_bytes.Goals as goal

pub returns-then-out-o-2 : goal.returns-then-out-o-2
returns-then-out-o-2 g c = sym (overlay-out _ _ _ c.if-out-o-2.true)

pub returns : goal.returns
returns g c =
    let n : length c.args.bytes ≡ g.row.N = search rules in
    whole _ _ _ _ _ c.copy_from_slice.ensures.after (omega (arith, n)) (omega (arith, n))
