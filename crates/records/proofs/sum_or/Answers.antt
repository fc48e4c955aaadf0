-- `records::sum_or` meets its contract: the sum of those behind, then the whole sum's own record where it belongs; or what stands for none. Assumes nothing.
use Rattle.puts.specs.State.{off}
use mathlib.Core.Path.{refl}
use native.Mathlib.Omega.{arith}
use Rattle.records.proofs.Summing.{less-room, whole-asks, whole_sum, no-sum, spot-least}
use Rattle.records.proofs.sum_or.Goals as goal

pub sums-requires : goal.sums-requires
sums-requires c = let r = c.requires in (c.if-k-i.true, less-room _ _ _ _ _ _ _ r.1 (omega arith), r.2)

pub place-requires : goal.place-requires
place-requires c = let r = c.requires in (whole-asks _ _ _ _ _ c.args.o _ _ _ _ _ c.if-k-i.true r.1 c.sums.ensures).place

pub put_sum-requires : goal.put_sum-requires
put_sum-requires c = let r = c.requires in let a = whole-asks _ _ _ _ _ c.args.o _ _ _ _ _ c.if-k-i.true r.1 c.sums.ensures in (c.if-k-i.true, rw c.place.ensures.0 a.sum, a.two)

pub returns-then-k-i : goal.returns-then-k-i
returns-then-k-i c = λ ts p t a l u. whole_sum _ _ _ _ _ _ _ _ _ _ _ _ _ _ _ _ c.sums.ensures refl c.place.ensures.0 c.place.ensures.1 c.put_sum.ensures ts p t a l

pub put_bare-requires : goal.put_bare-requires
put_bare-requires c = let r = c.requires in omega (arith, c.place-2.ensures.0, spot-least c.args.o (off c.args.st.now), r.1.room)

pub returns : goal.returns
returns c = λ ts p t a l u. no-sum _ _ _ _ _ _ _ _ _ _ (omega (arith, c.if-k-i.false)) c.place-2.ensures.0 c.place-2.ensures.1 c.put_bare.ensures ts p t l u
