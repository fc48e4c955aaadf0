-- `records::put_args` meets its contract: after i turns what is left are the arguments from the i-th on. Assumes nothing.
use native.Mathlib.Omega.{arith}
use Rattle.records.proofs.Calling.{begin, next_fits, again, finish}
use borrow.Author.Rules.{rules}
use Rattle.records.proofs.Small.{byte-flag}
use mathlib.Core.Path.{◌∙◌}
use Rattle.records.proofs.put_args.Goals as goal

pub put_number-requires : goal.put_number-requires
put_number-requires c = omega (arith, c.requires.room)

pub place-requires : goal.place-requires
place-requires c = c.requires.within

pub end_of-p-requires : goal.end_of-p-requires
end_of-p-requires c = rw c.place.ensures c.requires.name

pub overflow_add-x : goal.overflow_add-x
overflow_add-x c = omega (arith, c.requires.room)

pub loop-i-init : goal.loop-i-init
loop-i-init c = begin _ _ _ _ _ _ _ _ c.requires.params (rw c.place.ensures at c.end_of-p.ensures)

pub is_var-requires : goal.is_var-requires
is_var-requires c = next_fits _ _ _ _ _ _ _ _ _ _ _ c.loop-i.invariant c.loop-i-test.true

pub overflow_add-x-in-loop-i : goal.overflow_add-x-in-loop-i
overflow_add-x-in-loop-i c = omega (arith, c.loop-i.invariant.at, c.loop-i-test.true, c.requires.room)

pub overflow_add-k : goal.overflow_add-k
overflow_add-k c = omega (arith, c.loop-i-test.true, c.requires.rows)

pub number-requires : goal.number-requires
number-requires c = omega (arith, c.loop-i-test.true, c.requires.rows)

pub put_number-requires-in-loop-i : goal.put_number-requires-in-loop-i
put_number-requires-in-loop-i c = omega (arith, c.loop-i.invariant.at, c.loop-i-test.true, c.requires.room)

pub end_of-p-requires-in-loop-i : goal.end_of-p-requires-in-loop-i
end_of-p-requires-in-loop-i c = next_fits _ _ _ _ _ _ _ _ _ _ _ c.loop-i.invariant c.loop-i-test.true

pub overflow_add-x-in-loop-i-2 : goal.overflow_add-x-in-loop-i-2
overflow_add-x-in-loop-i-2 c = omega (arith, c.loop-i.invariant.at, c.loop-i-test.true, c.requires.room)

pub loop-i-preserved : goal.loop-i-preserved
loop-i-preserved c = rw c.end_of-p-in-loop-i.ensures (again _ _ _ _ _ _ _ _ _ _ _ _ _ _ _ _ c.loop-i.invariant c.loop-i-test.true c.is_var.ensures (c.from.ensures ∙ byte-flag _) c.put1.ensures c.number.ensures c.put_number-in-loop-i.ensures (search rules))

pub returns : goal.returns
returns c = finish _ _ _ _ _ _ _ _ _ _ _ _ c.loop-i.invariant (omega (arith, c.loop-i-test.false)) c.put_number.ensures
