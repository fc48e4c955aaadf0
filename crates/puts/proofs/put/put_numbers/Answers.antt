-- `put::put_numbers` meets its contract. Assumes nothing.
use Prim.Native.Nat.{◌+◌, ◌*◌}
use mathlib.Core.Path.{◌≡◌, refl, sym}
use native.Mathlib.Omega.{arith}
use lib.ListN.{length, length-set}
use Rattle.std.proofs.Common.{rules}
use Rattle.fields.specs.Number.{number}
use Rattle.fields.specs.Room.{overlay-out}
use Rattle.puts.specs.Pairs.{pairs}
use Rattle.puts.specs.Runs.{two-stored, three-stored}
use Rattle.puts.proofs.Pairing.{one-more, all-there}
use Rattle.puts.proofs.put.put_numbers.Goals as goal

pub returns-then-out-o-2 : goal.returns-then-out-o-2
returns-then-out-o-2 g c = sym (overlay-out _ _ _ c.if-out-o-2.true)

pub loop-i-init : goal.loop-i-init
unfolding number pairs
loop-i-init g c = let a = c.args in (rw (c.low.ensures, c.high.ensures) (three-stored a.out.now a.o a.tag _ _), simp length-set)

pub loop-i-preserved : goal.loop-i-preserved
unfolding number
loop-i-preserved g c =
    let a = c.args in
    let i = c.loop-i.i in
    let n : length a.numbers ≡ g.row.N = search rules in
    let v = c.loop-i.invariant in
    let e : a.o + 4 + 2 * i ≡ a.o + 3 + 2 * i + 1 = omega arith in
    (one-more a.out.now a.o a.tag _ a.numbers _ _ _ _ (omega (arith, n, c.loop-i-test.true)) refl v.0 (rw (c.low-in-loop-i.ensures, c.high-in-loop-i.ensures, e) (two-stored c.loop-i.out (a.o + 3 + 2 * i) _ _)), simp length-set v.1)

pub returns : goal.returns
returns g c =
    let a = c.args in
    let n : length a.numbers ≡ g.row.N = search rules in
    all-there a.out.now a.o a.tag _ a.numbers _ _ (omega (arith, n, c.loop-i-test.false)) (omega (arith, n)) c.loop-i.invariant.0
