-- `binary_width` meets its contract. Assumes nothing.
use lib.ListN.{length, get_or}
use Rattle.reads.specs.Lengths.{op-most}
use native.Mathlib.Omega.{arith}
use mathlib.Core.Path.{sym, subst, ◌∙◌}
use Prim.Native.Nat.{ℕ, ◌+◌, ◌≤◌}
use Rattle.reads.proofs.Owns.{op_fits, op-byte, op-own, pipe-own, pipe-pattern, piped-own, piped-room}
use Rattle.tree.specs.Rose.{end_of}
use lib.ListN.{length}
use Rattle.reads.proofs.width.binary_width.Goals as goal

pub overflow_add-p : goal.overflow_add-p
overflow_add-p c = let a = c.args in let b = a.b.now in let s = c.requires in let f = op_fits b _ s.1 s.0.0 s.0.1 in omega (arith, f.0, f.1)

pub end_of-q-requires : goal.end_of-q-requires
end_of-q-requires c = let a = c.args in let b = a.b.now in let s = c.requires in let f = op_fits b _ s.1 s.0.0 s.0.1 in omega (arith, f.0, f.1)

pub bounds-b-q : goal.bounds-b-q
bounds-b-q c = let a = c.args in let b = a.b.now in let s = c.requires in let f = op_fits b _ s.1 s.0.0 s.0.1 in omega (arith, f.0, f.1, c.end_of-q.ensures)

pub overflow_add-q : goal.overflow_add-q
overflow_add-q c = let a = c.args in let b = a.b.now in let s = c.requires in let f = op_fits b _ s.1 s.0.0 s.0.1 in omega (arith, f.0, f.1, c.end_of-q.ensures)

pub bounds-b-q-then-b-q : goal.bounds-b-q-then-b-q
bounds-b-q-then-b-q c = let a = c.args in let b = a.b.now in let s = c.requires in let f = op_fits b _ s.1 s.0.0 s.0.1 in omega (arith, (op-byte b _ s.1 _ c.end_of-q.ensures c.if-b-q.true s.0.0 s.0.1).0)

pub returns-then-b-q : goal.returns-then-b-q
returns-then-b-q c = let a = c.args in let b = a.b.now in let s = c.requires in let f = op_fits b _ s.1 s.0.0 s.0.1 in (op-own b _ s.1 _ c.end_of-q.ensures _ c.if-b-q.true c.op_width.ensures, omega (arith, c.op_width.ensures, op-most (get_or b (c.end_of-q.result + 3) 0), c.end_of-q.ensures, (op-byte b _ s.1 _ c.end_of-q.ensures c.if-b-q.true s.0.0 s.0.1).1))

pub end_of-requires : goal.end_of-requires
end_of-requires c = let a = c.args in let b = a.b.now in let s = c.requires in let f = op_fits b _ s.1 s.0.0 s.0.1 in subst (λ (n : ℕ). end_of b n ≤ length b) (sym c.end_of-q.ensures) f.2

pub returns-then-end_of-q : goal.returns-then-end_of-q
returns-then-end_of-q c = let a = c.args in let b = a.b.now in let s = c.requires in let f = op_fits b _ s.1 s.0.0 s.0.1 in (pipe-own b _ s.1 _ c.end_of-q.ensures c.if-b-q.false (sym c.end_of.ensures ∙ c.if-end_of-q.true), omega (arith, f.1))

pub pattern_width-requires : goal.pattern_width-requires
pattern_width-requires c = let a = c.args in let b = a.b.now in let s = c.requires in let f = op_fits b _ s.1 s.0.0 s.0.1 in pipe-pattern b _ s.1 _ c.end_of-q.ensures c.if-b-q.false (λ e. c.if-end_of-q.false (c.end_of.ensures ∙ e)) s.0.0 s.0.1

pub overflow_add-result : goal.overflow_add-result
overflow_add-result c = let a = c.args in let b = a.b.now in let s = c.requires in let f = op_fits b _ s.1 s.0.0 s.0.1 in omega (arith, f.0, c.pattern_width.ensures.1, c.end_of-q.ensures, piped-room b _ s.1 _ c.end_of-q.ensures c.if-b-q.false (λ e. c.if-end_of-q.false (c.end_of.ensures ∙ e)) s.0.0 s.0.1)

pub returns : goal.returns
returns c = let a = c.args in let b = a.b.now in let s = c.requires in let f = op_fits b _ s.1 s.0.0 s.0.1 in (piped-own b _ s.1 _ c.end_of-q.ensures c.if-b-q.false _ (λ e. c.if-end_of-q.false (c.end_of.ensures ∙ e)) c.pattern_width.ensures.0, omega (arith, c.pattern_width.ensures.1, c.end_of-q.ensures, piped-room b _ s.1 _ c.end_of-q.ensures c.if-b-q.false (λ e. c.if-end_of-q.false (c.end_of.ensures ∙ e)) s.0.0 s.0.1))
