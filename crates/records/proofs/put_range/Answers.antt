-- `records::put_range` meets its contract: a bound stands where the code finds its tag, and a mark before the end. Assumes nothing.
use Prim.Native.Nat.{◌+◌}
use mathlib.Core.Path.{◌∙◌}
use lib.Dec.{ltb}
use native.Mathlib.Omega.{arith}
use Rattle.records.proofs.Paths.{part-fits, range-safe, range-put, given-short}
use Rattle.records.proofs.Small.{bound-given, byte-flag}
use Rattle.records.proofs.put_range.Goals as goal

pub end_of-z-requires : goal.end_of-z-requires
end_of-z-requires c = part-fits _ c.requires.0.0 _ c.requires.0.1

pub past-u-requires : goal.past-u-requires
past-u-requires c = let r = range-safe _ c.requires.0.0 _ c.requires.0.1 c.requires.1 in rw c.end_of-z.ensures (r.fits, r.first)

pub past-v-requires : goal.past-v-requires
past-v-requires c = let r = range-safe _ c.requires.0.0 _ c.requires.0.1 c.requires.1 in rw (c.past-u.ensures, c.end_of-z.ensures) (r.fits, r.second)

pub put_bound-t-requires : goal.put_bound-t-requires
put_bound-t-requires c =
    let s = rw (c.then_some.ensures, bound-given (ltb (c.args.q + 3) c.past-u.result) c.args.a) at c.put_bound-s.ensures in
    omega (arith, s.end, given-short (ltb (c.args.q + 3) c.past-u.result) c.args.a, c.requires.2)

pub overflow_add-result : goal.overflow_add-result
overflow_add-result c =
    let s = rw (c.then_some.ensures, bound-given (ltb (c.args.q + 3) c.past-u.result) c.args.a) at c.put_bound-s.ensures in
    let t = rw (c.then_some-2.ensures, bound-given (ltb c.past-u.result c.past-v.result) c.args.b) at c.put_bound-t.ensures in
    omega (arith, t.end, s.end, given-short (ltb (c.args.q + 3) c.past-u.result) c.args.a, given-short (ltb c.past-u.result c.past-v.result) c.args.b, c.requires.2)

pub returns : goal.returns
returns c = range-put _ _ _ _ _ _ _ _ _ _ _ _ _ _ _ _ c.requires.1 c.end_of-z.ensures c.past-u.ensures c.past-v.ensures c.put1.ensures (rw (c.then_some.ensures, bound-given (ltb (c.args.q + 3) c.past-u.result) c.args.a) at c.put_bound-s.ensures) (rw (c.then_some-2.ensures, bound-given (ltb c.past-u.result c.past-v.result) c.args.b) at c.put_bound-t.ensures) (c.from.ensures ∙ byte-flag _) c.put1-2.ensures
