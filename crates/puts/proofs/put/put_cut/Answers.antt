-- `put::put_cut` meets its contract. Assumes nothing.
use mathlib.Core.Path.{◌≡◌, refl}
use native.Mathlib.Omega.{arith}
use lib.ListN.{length}
use Rattle.std.proofs.Common.{rules}
use Rattle.fields.specs.Number.{number}
use Rattle.puts.specs.Pairs.{pairs}
use Rattle.puts.specs.Runs.{byte-then}
use Rattle.puts.proofs.Pairing.{one-more, all-there}
use Rattle.puts.proofs.put.put_cut.Goals as goal

pub loop-i-init : goal.loop-i-init
unfolding number pairs
loop-i-init g c = let a = c.args in (byte-then a.out.now a.o a.tag _ _ _ c.put1.ensures c.put_number.ensures, search rules)

pub loop-i-preserved : goal.loop-i-preserved
loop-i-preserved g c =
    let a = c.args in
    let n : length a.numbers ≡ g.row.N = search rules in
    let v = c.loop-i.invariant in
    (one-more a.out.now a.o a.tag _ a.numbers _ _ _ _ (omega (arith, n, c.loop-i-test.true)) refl v.0 c.put_number-in-loop-i.ensures, search rules)

pub returns : goal.returns
returns g c =
    let a = c.args in
    let n : length a.numbers ≡ g.row.N = search rules in
    all-there a.out.now a.o a.tag _ a.numbers _ _ (omega (arith, n, c.loop-i-test.false)) (omega (arith, n)) c.loop-i.invariant.0
