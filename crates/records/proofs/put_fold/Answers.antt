-- `records::put_fold` meets its contract: head, pattern, two numbers and what the fold is stand one behind the other; what is no fold is Id. Assumes nothing.
use native.Mathlib.Omega.{arith}
use Rattle.reads.specs.Kinds.{some-kind, no-kind}
use Rattle.records.proofs.Pats.{pat-width}
use Rattle.records.proofs.Holding.{fold-least, fold-two, fold-three, fold-none, fold-put}
use Rattle.records.proofs.put_fold.Goals as goal

pub put_bare-requires : goal.put_bare-requires
put_bare-requires c = let r = c.requires in omega (arith, fold-three _ _ _ (no-kind _ c.in_default.is) r.wide, r.room)

pub returns-in_default : goal.returns-in_default
returns-in_default c = λ x h e. fold-none _ _ _ _ _ _ _ x _ _ _ (no-kind _ c.in_default.is) c.put_bare.ensures

pub overflow_sub-f : goal.overflow_sub-f
overflow_sub-f c = let r = c.requires in let h = some-kind _ _ c.in-Some.is in let l = fold-least _ _ _ h r.wide in omega (arith, l)

pub put_head-requires : goal.put_head-requires
put_head-requires c = let r = c.requires in let h = some-kind _ _ c.in-Some.is in let l = fold-least _ _ _ h r.wide in omega (arith, l, r.room)

pub overflow_add-o : goal.overflow_add-o
overflow_add-o c = let r = c.requires in let h = some-kind _ _ c.in-Some.is in let l = fold-least _ _ _ h r.wide in omega (arith, l, r.room)

pub put_pattern-s-requires : goal.put_pattern-s-requires
put_pattern-s-requires c = let r = c.requires in let h = some-kind _ _ c.in-Some.is in let l = fold-least _ _ _ h r.wide in record { x = r.x; at = r.at; rows = r.rows; room = omega (arith, l, r.room) }

pub put_number-requires : goal.put_number-requires
put_number-requires c = let r = c.requires in let h = some-kind _ _ c.in-Some.is in let l = fold-least _ _ _ h r.wide in omega (arith, l, r.room, (c.put_pattern-s.ensures r.x r.at).end, pat-width c.args.rows.now r.x c.args.k)

pub overflow_add-s : goal.overflow_add-s
overflow_add-s c = let r = c.requires in let h = some-kind _ _ c.in-Some.is in let l = fold-least _ _ _ h r.wide in omega (arith, l, r.room, (c.put_pattern-s.ensures r.x r.at).end, pat-width c.args.rows.now r.x c.args.k)

pub put_number-requires-2 : goal.put_number-requires-2
put_number-requires-2 c = let r = c.requires in let h = some-kind _ _ c.in-Some.is in let l = fold-least _ _ _ h r.wide in omega (arith, l, r.room, (c.put_pattern-s.ensures r.x r.at).end, pat-width c.args.rows.now r.x c.args.k)

pub overflow_add-s-2 : goal.overflow_add-s-2
overflow_add-s-2 c = let r = c.requires in let h = some-kind _ _ c.in-Some.is in let l = fold-least _ _ _ h r.wide in omega (arith, l, r.room, (c.put_pattern-s.ensures r.x r.at).end, pat-width c.args.rows.now r.x c.args.k)

pub put_folding-requires : goal.put_folding-requires
put_folding-requires c = let r = c.requires in let h = some-kind _ _ c.in-Some.is in let l = fold-least _ _ _ h r.wide in λ k. omega (arith, fold-two _ _ _ h (rw c.in-Some.is k) r.wide, r.room, (c.put_pattern-s.ensures r.x r.at).end, pat-width c.args.rows.now r.x c.args.k)

pub returns : goal.returns
returns c = λ x h e. fold-put _ x _ _ _ _ _ _ _ _ _ _ _ _ _ _ _ _ (some-kind _ _ c.in-Some.is) e c.put_head.ensures (c.put_pattern-s.ensures x h) c.put_number.ensures c.put_number-2.ensures (rw c.in-Some.is c.put_folding.ensures)
