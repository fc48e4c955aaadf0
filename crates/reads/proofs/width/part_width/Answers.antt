-- `part_width` meets its contract. Assumes nothing.
use Rattle.reads.proofs.Partings.{row_next, part-fits, index-width, range-row, upto-row, range-width, range-paid}
use native.Mathlib.Omega.{arith}
use Rattle.reads.proofs.width.part_width.Goals as goal

pub bounds-b-q : goal.bounds-b-q
bounds-b-q c = let a = c.args in let b = a.b.now in let s = c.requires in omega (arith, part-fits b s.0 _ s.1)

pub returns-then-b-q : goal.returns-then-b-q
returns-then-b-q c = let a = c.args in let b = a.b.now in let s = c.requires in (index-width b _ c.if-b-q.true, omega arith)

pub end_of-z-requires : goal.end_of-z-requires
end_of-z-requires c = let a = c.args in let b = a.b.now in let s = c.requires in part-fits b s.0 _ s.1

pub past-u-requires : goal.past-u-requires
past-u-requires c = let a = c.args in let b = a.b.now in let s = c.requires in (omega (arith, c.end_of-z.ensures, part-fits b s.0 _ s.1), λ l. let r = range-row b _ _ c.end_of-z.ensures c.if-b-q.false s.0 s.1 in omega (arith, row_next b r.0 _ _ r.1 l, c.end_of-z.ensures, part-fits b s.0 _ s.1))

pub past-v-requires : goal.past-v-requires
past-v-requires c = let a = c.args in let b = a.b.now in let s = c.requires in (omega (arith, c.end_of-z.ensures, part-fits b s.0 _ s.1), λ l. let r = upto-row b _ _ c.end_of-z.ensures c.if-b-q.false _ c.past-u.ensures s.0 s.1 in omega (arith, row_next b r.0 _ _ r.1 l, c.end_of-z.ensures, part-fits b s.0 _ s.1))

pub overflow_add-result : goal.overflow_add-result
overflow_add-result c = let a = c.args in let b = a.b.now in let s = c.requires in omega (arith, c.bound_width.ensures.1)

pub overflow_add-result-2 : goal.overflow_add-result-2
overflow_add-result-2 c = let a = c.args in let b = a.b.now in let s = c.requires in omega (arith, c.bound_width.ensures.1, c.bound_width-2.ensures.1)

pub returns : goal.returns
returns c = let a = c.args in let b = a.b.now in let s = c.requires in (range-width b _ _ c.end_of-z.ensures c.if-b-q.false _ c.past-u.ensures _ _ _ c.past-v.ensures c.bound_width.ensures.0 c.bound_width-2.ensures.0, range-paid b _ _ c.end_of-z.ensures c.if-b-q.false _ c.past-u.ensures _ _ _ c.past-v.ensures c.bound_width.ensures.0 c.bound_width-2.ensures.0 s.0 s.1)
