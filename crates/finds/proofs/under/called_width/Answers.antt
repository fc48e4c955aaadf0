-- `finds::under::called_width` meets its contract: the definitions before it, or what is in view. Assumes nothing.
use Prim.Native.Nat.{◌+◌, ◌-◌}
use Rattle.finds.proofs.Widths.{call-here, call-members, call-most, call-room, under-owned, under-called, part-name, part-short}
use Rattle.finds.specs.Numbers.{numbers}
use mathlib.Core.Path.{refl}
use native.Mathlib.Omega.{arith}
use borrow.Author.Rules.{rules}
use Rattle.finds.proofs.under.called_width.Goals as goal

pub end_of-z-requires : goal.end_of-z-requires
end_of-z-requires c = let a = c.args in (call-here a.b.now a.q _ c.requires.3 c.requires.2.2).at.name

pub end_of-requires : goal.end_of-requires
end_of-requires c = let a = c.args in (call-here a.b.now a.q _ c.requires.3 c.requires.2.2).at.fits

pub members-a-requires : goal.members-a-requires
members-a-requires c = let a = c.args in call-members a.b.now a.q (call-here a.b.now a.q _ c.requires.3 c.requires.2.2) c.end_of-z.result c.end_of.result c.end_of-z.ensures c.end_of.ensures

pub slice_bounds-x-end : goal.slice_bounds-x-end
slice_bounds-x-end c = let a = c.args in let w = (call-here a.b.now a.q _ c.requires.3 c.requires.2.2).at.name in let e = c.end_of-z.ensures in search rules

pub overflow_mul-result : goal.overflow_mul-result
overflow_mul-result c = let a = c.args in let w = (call-most a.b.now a.q (call-here a.b.now a.q _ c.requires.3 c.requires.2.2) c.end_of-z.result c.end_of.result c.members-a.result c.end_of-z.ensures c.end_of.ensures c.members-a.ensures) in omega (arith, w.0, w.1, c.requires.1)

pub overflow_add-result : goal.overflow_add-result
overflow_add-result c = let a = c.args in let w = (call-most a.b.now a.q (call-here a.b.now a.q _ c.requires.3 c.requires.2.2) c.end_of-z.result c.end_of.result c.members-a.result c.end_of-z.ensures c.end_of.ensures c.members-a.ensures) in omega (arith, w.0, w.1, c.requires.1)

pub returns-then-is_own : goal.returns-then-is_own
returns-then-is_own c = let a = c.args in (under-owned a.b.now a.rows.now a.p a.q c.requires.3 c.end_of-z.result c.end_of.result c.members-a.result c.end_of-z.ensures c.end_of.ensures c.members-a.ensures _ (part-name a.b.now a.q c.end_of-z.result c.end_of-z.ensures) c.is_own.result c.is_own.ensures c.if-is_own.true, (call-most a.b.now a.q (call-here a.b.now a.q _ c.requires.3 c.requires.2.2) c.end_of-z.result c.end_of.result c.members-a.result c.end_of-z.ensures c.end_of.ensures c.members-a.ensures).0)

pub call-requires : goal.call-requires
call-requires c = let a = c.args in let w = (call-most a.b.now a.q (call-here a.b.now a.q _ c.requires.3 c.requires.2.2) c.end_of-z.result c.end_of.result c.members-a.result c.end_of-z.ensures c.end_of.ensures c.members-a.ensures) in (c.requires.0, part-short a.b.now (c.end_of-z.result - (a.q + 6)) (a.q + 6) c.requires.1, omega (arith, w.0, w.1, c.requires.1), omega (arith, w.0, w.1, c.requires.1))

pub call_width-requires : goal.call_width-requires
call_width-requires c = let a = c.args in let w = (call-most a.b.now a.q (call-here a.b.now a.q _ c.requires.3 c.requires.2.2) c.end_of-z.result c.end_of.result c.members-a.result c.end_of-z.ensures c.end_of.ensures c.members-a.ensures) in omega (arith, w.0, w.1, c.requires.1)

pub returns : goal.returns
returns c = let a = c.args in (under-called a.b.now a.rows.now a.p a.q c.requires.3 c.end_of-z.result c.end_of.result c.members-a.result c.end_of-z.ensures c.end_of.ensures c.members-a.ensures _ (part-name a.b.now a.q c.end_of-z.result c.end_of-z.ensures) c.is_own.result c.is_own.ensures c.if-is_own.false _ refl (numbers c.call.result) c.call.ensures c.call_width.result c.call_width.ensures, call-room a.b.now a.q (call-here a.b.now a.q _ c.requires.3 c.requires.2.2) c.end_of-z.result c.end_of.result c.members-a.result (numbers c.call.result).kind c.call_width.result c.end_of-z.ensures c.end_of.ensures c.members-a.ensures c.call_width.ensures)
