use Prim.Native.Nat.{ℕ, ◌+◌, ◌-◌, ◌≤◌, ◌<◌}
use Rattle.compiler.specs.FormsD.Args.{args-start, args-on, args-few, args-ready, args-note, args-more, args-done}
use lib.ListN.{length}
use mathlib.Core.Path.{◌≡◌, refl, sym, subst, ◌∙◌}
use native.Mathlib.Omega.{arith}
use mathlib.Core.Logic.{inl, inr}
use Rattle.reads.specs.Kinds.{some-kind, no-kind, kind-is, no-projection}
use Rattle.reads.specs.Places.{begun, turn, turned}
use Rattle.reads.specs.Shapes.{tag-yes, tag-no}
use lib.ListN.{length, get_or}
use Rattle.tree.specs.Rose.{end_of}
use Rattle.compiler.specs.FormsA.Asks as asks
use Rattle.compiler.specs.FormsA.Simple as simple
use Rattle.compiler.specs.FormsA.Pairs as pairing
use Rattle.compiler.specs.FormsA.Ite as conditional
use Rattle.compiler.specs.FormsA.Leaves as leaves
use Rattle.compiler.specs.FormsA.Terms as terms
use Rattle.reads.specs.Shapes as shapes
use Rattle.compiler.specs.FormsB.Operators as ops
use Rattle.compiler.specs.FormsB.Patterns as pats
use Rattle.compiler.specs.FormsB.Members as mems
use Rattle.compiler.specs.FormsB.Piping as pip
use Rattle.compiler.specs.FormsB.Folds as folds
use Rattle.compiler.specs.FormsB.Whole as whole
use Rattle.compiler.specs.FormsB.Asks as asks_b
use Prim.Native.Nat.{ℕ, ◌-◌}
use mathlib.Core.Path.{sym, ◌∙◌}
use Rattle.finds.specs.Numbers.{numbers}
use Rattle.compiler.specs.FormsC.Paths as forms_paths
use Rattle.compiler.specs.FormsD.Calls.{membered, call-here, call-members, call-name, call-short, call_known, call-reserve, call-args, call-ready, call-fail, call-place, call-put, call-did}
use Rattle.compiler.specs.FormsD.Defs.{ready-cells, grown, def-ready, def_body, def-within, further, def-close, def-did}
use Rattle.compiler.specs.FormsD.Defs.{ready-cells, scoping-start, scoping-fits, scoping-ready, scoping-more, scoping-done}
use Rattle.compiler.specs.FormsC.Objects as forms_objects
use Rattle.reads.specs.Shapes.{term_fits}
use Rattle.compiler.specs.FormsC.Noting as noting
use mathlib.Core.Path.{refl}
use Rattle.compiler.specs.Moves.{ready-part, ready-low}
use Rattle.std.specs.Prelude.{Some, None}
use Rattle.puts.specs.Dues.{due-placed, due-on, reserve-of, place-spot, place-next, bare-of}
use Rattle.records.specs.Sums.{sum-at}
use Rattle.compiler.specs.FormsD.Defs.{ready-cells, open_at, open-params, open-known, open-rows, open-enter, open-body, open-leave, open-push, open-did}
use Prim.Native.Nat.{ℕ, ◌+◌, ◌-◌, ◌≤◌}
use mathlib.Core.Bool.{true}
use Rattle.reads.specs.Widths.{is_plain}
use Rattle.compiler.specs.FormsC.Quoted as forms_quoted
use Prim.Native.Nat.{ℕ, ◌<◌, ◌+◌, ◌-◌}
use Rattle.compiler.specs.FormsC.Strings as forms_strings
use Rattle.rows.specs.Opened as opened
use Rattle.compiler.proofs.Compiler.+compiling.Goals.{string-then-tag-via-then-tag, string-then-tag-via-else-tag+then-tag-2}
use Rattle.compiler.proofs.Compiler.+compiling.Goals as goal

pub args-loop-p-init : goal.args-loop-p-init
args-loop-p-init t c =
    let b = c.args.tree.now in
    let y = c.requires.0 in
    let g = c.requires.1 in
    let i = begun b c.args.q c.args.z _ c.into_iter-p-iterator.result c.into_iter-p-iterator.ensures.into_iter_gives c.fields-p-items.ensures y.within (_, g.1) in
    (i.0, i.1, record { rows = refl; out = refl }, args-on _ _ _ _ _ _ _ _ _ _ _ _ _ i.2 (args-start b _ _ _ _ _ _ y))

pub args-iterm-requires : goal.args-iterm-requires
args-iterm-requires t c =
    let n = turn c.loop-p.p-iterator c.next.new.self c.loop-p.invariant.1 c.in-Some.ensures.steps c.in-Some.ensures.goes.keeps in
    let v = args-on _ _ _ _ _ _ _ _ _ _ _ _ _ n.here c.loop-p.invariant.3 in
    let w = args-ready _ _ _ _ _ _ _ _ _ _ _ _ v c.requires.1 n.within in
    (omega (arith, c.decreases, w.0, w.1), (w.2, w.3))

pub args-note-requires : goal.args-note-requires
args-note-requires t c =
    let n = turn c.loop-p.p-iterator c.next.new.self c.loop-p.invariant.1 c.in-Some.ensures.steps c.in-Some.ensures.goes.keeps in
    let v = args-on _ _ _ _ _ _ _ _ _ _ _ _ _ n.here c.loop-p.invariant.3 in
    args-note _ _ _ _ _ _ _ _ _ _ _ _ v c.requires.1 n.within _ _ _ _ c.iterm.ensures.is _ refl

pub args-overflow_add-i : goal.args-overflow_add-i
args-overflow_add-i t c =
    let n = turn c.loop-p.p-iterator c.next.new.self c.loop-p.invariant.1 c.in-Some.ensures.steps c.in-Some.ensures.goes.keeps in
    let v = args-on _ _ _ _ _ _ _ _ _ _ _ _ _ n.here c.loop-p.invariant.3 in
    omega (arith, args-few _ _ _ _ _ _ _ _ _ _ _ _ v c.requires.1)

pub args-loop-p-preserved : goal.args-loop-p-preserved
args-loop-p-preserved t c =
    let n = turn c.loop-p.p-iterator c.next.new.self c.loop-p.invariant.1 c.in-Some.ensures.steps c.in-Some.ensures.goes.keeps in
    let v = args-on _ _ _ _ _ _ _ _ _ _ _ _ _ n.here c.loop-p.invariant.3 in
    (c.in-Some.ensures.goes.keeps, n.over, record { rows = c.iterm.ensures.same.rows ∙ c.loop-p.invariant.2.rows; out = c.iterm.ensures.same.out ∙ c.loop-p.invariant.2.out }, args-more _ _ _ _ _ _ _ _ _ _ _ _ v c.requires.1 n.within _ _ _ _ c.iterm.ensures.is _ refl _ c.note.ensures _ n.next)

pub args-returns-clause-is : goal.args-returns-clause-is
args-returns-clause-is t c =
    let l = turned c.loop-p.p-iterator c.next.new.self c.loop-p.invariant.1 c.in-None.ensures.steps in
    args-done _ _ _ _ _ _ _ _ _ _ _ _ c.loop-p.invariant.3 l

pub arr-reserve-requires : goal.arr-reserve-requires
arr-reserve-requires t c =
    let y = c.requires.0 in
    let g = c.requires.1 in
    let e = c.requires.3 in
    let f = asks.stands-fits _ _ g in
    asks.reserve-fits _ _ _ _ _ _ _ _ y (due-placed c.args.o c.args.self.now.st c.requires.2) (omega arith)

pub arr-end_of-requires : goal.arr-end_of-requires
arr-end_of-requires t c =
    let y = c.requires.0 in
    let g = c.requires.1 in
    let e = c.requires.3 in
    let f = asks.stands-fits _ _ g in
    f

pub arr-or_empty-requires : goal.arr-or_empty-requires
arr-or_empty-requires t c =
    let y = c.requires.0 in
    let g = c.requires.1 in
    let e = c.requires.3 in
    let f = asks.stands-fits _ _ g in
    let w = simple.arr-ready _ _ _ _ _ _ _ e y g (reserve-of c.args.o _ c.args.self.now.st _ (ready-low _ _ _ _ _ _ c.requires.0) c.reserve.ensures) in
    (omega (arith, c.decreases, f), simple.arr-at _ _ _ _ _ c.end_of.ensures w)

pub arr-place-requires : goal.arr-place-requires
arr-place-requires t c =
    let y = c.requires.0 in
    let g = c.requires.1 in
    let e = c.requires.3 in
    let f = asks.stands-fits _ _ g in
    asks.place-or _ _ _ _ _ _ _ _ _ _ _ _ _ _ _ _ _ y (reserve-of c.args.o _ c.args.self.now.st _ (ready-low _ _ _ _ _ _ c.requires.0) c.reserve.ensures) (omega arith) c.or_empty.ensures.is (omega (arith, c.end_of.ensures, f))

pub arr-put_one-requires : goal.arr-put_one-requires
arr-put_one-requires t c =
    let y = c.requires.0 in
    let g = c.requires.1 in
    let e = c.requires.3 in
    let f = asks.stands-fits _ _ g in
    asks.own-or _ _ _ _ _ _ _ _ _ _ _ _ _ _ _ _ _ _ y (due-placed c.args.o c.args.self.now.st c.requires.2) (reserve-of c.args.o _ c.args.self.now.st _ (ready-low _ _ _ _ _ _ c.requires.0) c.reserve.ensures) (omega arith) c.or_empty.ensures.is (omega (arith, c.end_of.ensures, f)) (place-spot c.args.o _ _ c.args.self.now.st c.requires.2 (ready-low _ _ _ _ _ _ c.requires.0) c.place.ensures.0)

pub arr-returns-clause-is : goal.arr-returns-clause-is
arr-returns-clause-is t c =
    let y = c.requires.0 in
    let g = c.requires.1 in
    let e = c.requires.3 in
    let f = asks.stands-fits _ _ g in
    simple.arr-did _ _ _ _ _ _ _ _ _ _ _ _ _ _ _ e y g (reserve-of c.args.o _ c.args.self.now.st _ (ready-low _ _ _ _ _ _ c.requires.0) c.reserve.ensures) refl (simple.arr-or _ _ _ _ _ _ _ _ _ c.end_of.ensures c.or_empty.ensures.is) (place-spot c.args.o _ _ c.args.self.now.st c.requires.2 (ready-low _ _ _ _ _ _ c.requires.0) c.place.ensures.0) (place-next c.args.o _ c.args.self.now.st _ _ c.requires.2 (ready-low _ _ _ _ _ _ c.requires.0) c.place.ensures.1) c.put_one.ensures

pub binary-overflow_add-p : goal.binary-overflow_add-p
binary-overflow_add-p t c =
    let y = c.requires.0 in
    omega (arith, y.within, y.small)

pub binary-end_of-q-requires : goal.binary-end_of-q-requires
binary-end_of-q-requires t c =
    let y = c.requires.0 in
    let a = shapes.operator-at _ _ c.requires.3 _ c.requires.1.1 in
    omega (arith, a.1, y.within)

pub binary-bounds-tree-q : goal.binary-bounds-tree-q
binary-bounds-tree-q t c =
    let y = c.requires.0 in
    let a = shapes.operator-at _ _ c.requires.3 _ c.requires.1.1 in
    omega (arith, c.end_of-q.ensures, a.1, y.within)

pub binary-binop-requires : goal.binary-binop-requires
binary-binop-requires t c =
    let y = c.requires.0 in
    (omega (arith, c.decreases), (y, c.requires.1, c.requires.2, c.requires.3, c.end_of-q.ensures, c.if-tree-q.true))

pub binary-returns-then-tree-q-clause-is : goal.binary-returns-then-tree-q-clause-is
binary-returns-then-tree-q-clause-is t c =
    let y = c.requires.0 in
    c.binop.ensures.is

pub binary-end_of-requires : goal.binary-end_of-requires
binary-end_of-requires t c =
    let y = c.requires.0 in
    let a = shapes.operator-at _ _ c.requires.3 _ c.requires.1.1 in
    subst (λ (z : ℕ). end_of c.args.tree.now z ≤ length c.args.tree.now) (sym c.end_of-q.ensures) a.2

pub binary-overflow_add-q : goal.binary-overflow_add-q
binary-overflow_add-q t c =
    let y = c.requires.0 in
    let a = shapes.operator-at _ _ c.requires.3 _ c.requires.1.1 in
    omega (arith, c.end_of-q.ensures, a.1, y.within, y.small)

pub binary-pipe-requires : goal.binary-pipe-requires
binary-pipe-requires t c =
    let y = c.requires.0 in
    let a = shapes.operator-at _ _ c.requires.3 _ c.requires.1.1 in
    (omega (arith, c.decreases), (y, c.requires.1, c.requires.2, c.requires.3, c.end_of-q.ensures, asks_b.not-nine c.args.tree.now c.args.p _ c.end_of-q.ensures a.0 c.if-tree-q.false, sym c.end_of.ensures ∙ c.if-end_of-q.true))

pub binary-returns-then-end_of-q-clause-is : goal.binary-returns-then-end_of-q-clause-is
binary-returns-then-end_of-q-clause-is t c =
    let y = c.requires.0 in
    c.pipe.ensures.is

pub binary-piped-requires : goal.binary-piped-requires
binary-piped-requires t c =
    let y = c.requires.0 in
    let a = shapes.operator-at _ _ c.requires.3 _ c.requires.1.1 in
    (omega (arith, c.decreases), (y, c.requires.1, c.requires.2, c.requires.3, c.end_of-q.ensures, asks_b.not-nine c.args.tree.now c.args.p _ c.end_of-q.ensures a.0 c.if-tree-q.false, asks_b.has_more c.args.tree.now _ _ c.end_of.ensures c.if-end_of-q.false))

pub binary-returns-clause-is : goal.binary-returns-clause-is
binary-returns-clause-is t c =
    let y = c.requires.0 in
    c.piped.ensures.is

pub binop-overflow_add-x : goal.binop-overflow_add-x
binop-overflow_add-x t c =
    let y = c.requires.0 in
    let rd = asks_b.binop-read _ _ _ c.requires.3 c.requires.4 c.requires.5 c.requires.1 in
    omega (arith, rd.0, y.small)

pub binop-bounds-tree-q : goal.binop-bounds-tree-q
binop-bounds-tree-q t c =
    let y = c.requires.0 in
    let rd = asks_b.binop-read _ _ _ c.requires.3 c.requires.4 c.requires.5 c.requires.1 in
    omega (arith, rd.0)

pub binop-reserve-requires : goal.binop-reserve-requires
binop-reserve-requires t c =
    let y = c.requires.0 in
    asks_b.reserve-room _ _ _ _ _ _ _ _ y (due-placed c.args.o c.args.self.now.st c.requires.2) (omega (arith, c.op_width-w.ensures, ops.op-small (get_or c.args.tree.now (c.args.q + 3) 0)))

pub binop-overflow_add-p : goal.binop-overflow_add-p
binop-overflow_add-p t c =
    let y = c.requires.0 in
    omega (arith, y.within, y.small)

pub binop-iterm-s-requires : goal.binop-iterm-s-requires
binop-iterm-s-requires t c =
    let y = c.requires.0 in
    (omega (arith, c.decreases, y.within), ops.binop-left _ _ _ (get_or c.args.tree.now (c.args.q + 3) 0) _ _ _ _ _ _ c.requires.3 c.requires.4 c.requires.5 refl y c.requires.1 c.op_width-w.ensures (reserve-of c.args.o _ c.args.self.now.st _ (ready-low _ _ _ _ _ _ c.requires.0) c.reserve.ensures))

pub binop-overflow_add-q : goal.binop-overflow_add-q
binop-overflow_add-q t c =
    let y = c.requires.0 in
    let rd = asks_b.binop-read _ _ _ c.requires.3 c.requires.4 c.requires.5 c.requires.1 in
    omega (arith, rd.0, y.small)

pub binop-right_set-requires : goal.binop-right_set-requires
binop-right_set-requires t c =
    let y = c.requires.0 in
    let rd = asks_b.binop-read _ _ _ c.requires.3 c.requires.4 c.requires.5 c.requires.1 in
    ops.operator-some _ rd.1

pub binop-iterm-t-requires : goal.binop-iterm-t-requires
binop-iterm-t-requires t c =
    let y = c.requires.0 in
    let rd = asks_b.binop-read _ _ _ c.requires.3 c.requires.4 c.requires.5 c.requires.1 in
    (omega (arith, c.decreases, c.requires.4, rd.0), ops.binop-right _ _ _ (get_or c.args.tree.now (c.args.q + 3) 0) _ _ _ _ _ _ c.requires.3 c.requires.4 c.requires.5 refl y c.requires.1 c.op_width-w.ensures (reserve-of c.args.o _ c.args.self.now.st _ (ready-low _ _ _ _ _ _ c.requires.0) c.reserve.ensures) _ _ _ _ _ _ c.iterm-s.ensures.is)

pub binop-place-requires : goal.binop-place-requires
binop-place-requires t c =
    let y = c.requires.0 in
    omega (arith, (asks_b.binop-put _ _ _ _ _ _ _ _ _ c.requires.3 c.requires.4 c.requires.5 y c.requires.1 c.op_width-w.ensures (reserve-of c.args.o _ c.args.self.now.st _ (ready-low _ _ _ _ _ _ c.requires.0) c.reserve.ensures) _ _ 0 _ _ _ _ _ _ _ _ _ (due-placed c.args.o c.args.self.now.st c.requires.2) c.iterm-s.ensures.is c.iterm-t.ensures.is).0)

pub binop-put_op-requires : goal.binop-put_op-requires
binop-put_op-requires t c =
    let y = c.requires.0 in
    let rd = asks_b.binop-read _ _ _ c.requires.3 c.requires.4 c.requires.5 c.requires.1 in
    let r = asks_b.binop-put _ _ _ _ _ _ _ _ _ c.requires.3 c.requires.4 c.requires.5 y c.requires.1 c.op_width-w.ensures (reserve-of c.args.o _ c.args.self.now.st _ (ready-low _ _ _ _ _ _ c.requires.0) c.reserve.ensures) _ _ _ _ _ _ _ _ _ _ _ _ (due-placed c.args.o c.args.self.now.st c.requires.2) c.iterm-s.ensures.is c.iterm-t.ensures.is in
    let z = r.1 (place-spot c.args.o _ _ c.args.self.now.st c.requires.2 (ready-low _ _ _ _ _ _ c.requires.0) c.place.ensures.0) in
    (omega (arith, z, r.2), rd.1)

pub binop-returns-clause-is : goal.binop-returns-clause-is
binop-returns-clause-is t c =
    let y = c.requires.0 in
    asks_b.binop-ret _ _ _ _ _ _ _ _ _ c.requires.3 c.requires.4 c.requires.5 y c.requires.1 c.op_width-w.ensures (reserve-of c.args.o _ c.args.self.now.st _ (ready-low _ _ _ _ _ _ c.requires.0) c.reserve.ensures) _ _ _ _ _ _ _ _ _ _ _ _ _ _ _ _ _ refl c.left_set.ensures c.iterm-s.ensures.is refl c.right_set.ensures c.iterm-t.ensures.is (place-spot c.args.o _ _ c.args.self.now.st c.requires.2 (ready-low _ _ _ _ _ _ c.requires.0) c.place.ensures.0) (place-next c.args.o _ c.args.self.now.st _ _ c.requires.2 (ready-low _ _ _ _ _ _ c.requires.0) c.place.ensures.1) c.put_op.ensures

pub bound-is_tag-requires : goal.bound-is_tag-requires
bound-is_tag-requires t c =
    let y = c.requires.0 in
    y.within

pub bound-overflow_add-q : goal.bound-overflow_add-q
bound-overflow_add-q t c =
    let y = c.requires.0 in
    omega (arith, y.order, y.within, y.small)

pub bound-iterm-requires : goal.bound-iterm-requires
bound-iterm-requires t c =
    let b = c.args.tree.now in
    let y = c.requires.0 in
    let g = c.requires.1 in
    let w = forms_paths.bound-ready b _ _ _ _ _ _ y g (sym c.is_tag.ensures ∙ c.if-is_tag.true) in
    (omega (arith, c.decreases, w.0.order, w.0.within), (w.0, w.1))

pub bound-returns-then-is_tag-clause-is : goal.bound-returns-then-is_tag-clause-is
bound-returns-then-is_tag-clause-is t c =
    let b = c.args.tree.now in
    let g = c.requires.1 in
    forms_paths.bound-is b _ _ _ _ _ _ _ _ _ _ _ g (sym c.is_tag.ensures ∙ c.if-is_tag.true) c.iterm.ensures.is

pub bound-returns-else-is_tag-clause-is : goal.bound-returns-else-is_tag-clause-is
bound-returns-else-is_tag-clause-is t c =
    let b = c.args.tree.now in
    forms_paths.bound-none b _ _ _ _ _ _ _ (sym c.is_tag.ensures ∙ c.if-is_tag.false)

pub call-overflow_add-p : goal.call-overflow_add-p
call-overflow_add-p t c = let y = c.requires.0 in omega (arith, y.small, y.within, y.order)

pub call-end_of-q-requires : goal.call-end_of-q-requires
call-end_of-q-requires t c = (call-here _ _ c.requires.3 c.requires.1).1

pub call-end_of-z-requires : goal.call-end_of-z-requires
call-end_of-z-requires t c = (call-here _ _ c.requires.3 c.requires.1).0

pub call-members-a-requires : goal.call-members-a-requires
call-members-a-requires t c = call-members _ _ _ _ c.requires.3 c.requires.1 c.end_of-q.ensures c.end_of-z.ensures

pub call-overflow_add-p-2 : goal.call-overflow_add-p-2
call-overflow_add-p-2 t c = let y = c.requires.0 in omega (arith, y.small, y.within, y.order)

pub call-slice_bounds-meaning-count : goal.call-slice_bounds-meaning-count
call-slice_bounds-meaning-count t c = let y = c.requires.0 in
    let h = membered _ _ _ _ _ c.end_of-z.ensures c.members-a.ensures in
    let k = call_known _ _ _ _ c.requires.3 c.requires.1 c.end_of-q.ensures h in
    omega (arith, k.low)

pub call-slice_bounds-meaning-start : goal.call-slice_bounds-meaning-start
call-slice_bounds-meaning-start t c = let y = c.requires.0 in
    let h = membered _ _ _ _ _ c.end_of-z.ensures c.members-a.ensures in
    let k = call_known _ _ _ _ c.requires.3 c.requires.1 c.end_of-q.ensures h in
    omega (arith, k.low, k.high, k.fits)

pub call-slice_bounds-meaning-end : goal.call-slice_bounds-meaning-end
call-slice_bounds-meaning-end t c = let y = c.requires.0 in
    let h = membered _ _ _ _ _ c.end_of-z.ensures c.members-a.ensures in
    let k = call_known _ _ _ _ c.requires.3 c.requires.1 c.end_of-q.ensures h in
    omega (arith, k.low, k.high, k.fits)

pub call-overflow_add-p-3 : goal.call-overflow_add-p-3
call-overflow_add-p-3 t c = let y = c.requires.0 in omega (arith, y.small, y.within, y.order)

pub call-meaning-f-requires : goal.call-meaning-f-requires
call-meaning-f-requires t c = let y = c.requires.0 in
    let h = membered _ _ _ _ _ c.end_of-z.ensures c.members-a.ensures in
    let k = call_known _ _ _ _ c.requires.3 c.requires.1 c.end_of-q.ensures h in
    ((y.view, y.seen), call-short c.args.tree.now (c.end_of-q.result - (c.args.p + 6)) (c.args.p + 6) y.small, omega (arith, y.small, y.within, y.order), omega (arith, k.high, k.fits, y.small))

pub call-call_width-w-requires : goal.call-call_width-w-requires
call-call_width-w-requires t c = let y = c.requires.0 in
    let h = membered _ _ _ _ _ c.end_of-z.ensures c.members-a.ensures in
    let k = call_known _ _ _ _ c.requires.3 c.requires.1 c.end_of-q.ensures h in
    omega (arith, k.high, k.fits, y.small)

pub call-reserve-requires : goal.call-reserve-requires
call-reserve-requires t c = let y = c.requires.0 in
    let h = membered _ _ _ _ _ c.end_of-z.ensures c.members-a.ensures in
    let k = call_known _ _ _ _ c.requires.3 c.requires.1 c.end_of-q.ensures h in
    call-reserve _ _ _ _ _ _ _ _ (numbers c.meaning-f.result) _ k y (due-placed c.args.o c.args.self.now.st c.requires.2) c.call_width-w.ensures

pub call-args-requires : goal.call-args-requires
call-args-requires t c = let y = c.requires.0 in
    let h = membered _ _ _ _ _ c.end_of-z.ensures c.members-a.ensures in
    let k = call_known _ _ _ _ c.requires.3 c.requires.1 c.end_of-q.ensures h in
    let r = call-ready _ _ _ _ _ _ _ _ _ (numbers c.meaning-f.result) _ _ c.end_of-z.ensures k y c.call_width-w.ensures (reserve-of c.args.o _ c.args.self.now.st _ (ready-low _ _ _ _ _ _ c.requires.0) c.reserve.ensures) in
    (omega (arith, c.decreases, k.low, k.high, k.fits), (r.0, (r.1.0, r.1.1)))

pub call-fail-requires : goal.call-fail-requires
call-fail-requires t c = let y = c.requires.0 in
    let h = membered _ _ _ _ _ c.end_of-z.ensures c.members-a.ensures in
    let k = call_known _ _ _ _ c.requires.3 c.requires.1 c.end_of-q.ensures h in
    call-fail _ _ _ _ _ _ _ _ _ (numbers c.meaning-f.result) _ _ _ _ _ k y c.call_width-w.ensures (reserve-of c.args.o _ c.args.self.now.st _ (ready-low _ _ _ _ _ _ c.requires.0) c.reserve.ensures) (c.args-2.ensures.is _ (call-args _ _ _ _ _ c.end_of-z.ensures k))

pub call-place-requires : goal.call-place-requires
call-place-requires t c = let y = c.requires.0 in
    let h = membered _ _ _ _ _ c.end_of-z.ensures c.members-a.ensures in
    let k = call_known _ _ _ _ c.requires.3 c.requires.1 c.end_of-q.ensures h in
    call-place _ _ _ _ _ _ _ _ _ _ _ _ _ _ _ k y c.call_width-w.ensures (reserve-of c.args.o _ c.args.self.now.st _ (ready-low _ _ _ _ _ _ c.requires.0) c.reserve.ensures) (c.args-2.ensures.is _ (call-args _ _ _ _ _ c.end_of-z.ensures k)) _ _ c.fail.ensures

pub call-put_call-requires : goal.call-put_call-requires
call-put_call-requires t c = let y = c.requires.0 in
    let h = membered _ _ _ _ _ c.end_of-z.ensures c.members-a.ensures in
    let k = call_known _ _ _ _ c.requires.3 c.requires.1 c.end_of-q.ensures h in
    call-put _ _ _ _ _ _ _ _ _ _ _ _ _ _ _ k y c.call_width-w.ensures (reserve-of c.args.o _ c.args.self.now.st _ (ready-low _ _ _ _ _ _ c.requires.0) c.reserve.ensures) (c.args-2.ensures.is _ (call-args _ _ _ _ _ c.end_of-z.ensures k)) _ _ c.fail.ensures _ _ c.meaning-f.ensures (due-placed c.args.o c.args.self.now.st c.requires.2) _ (place-spot c.args.o _ _ c.args.self.now.st c.requires.2 (ready-low _ _ _ _ _ _ c.requires.0) c.place.ensures.0)

pub call-returns-clause-is : goal.call-returns-clause-is
call-returns-clause-is t c = let y = c.requires.0 in
    let h = membered _ _ _ _ _ c.end_of-z.ensures c.members-a.ensures in
    let k = call_known _ _ _ _ c.requires.3 c.requires.1 c.end_of-q.ensures h in
    call-did _ _ _ _ _ _ _ _ _ _ _ _ _ _ _ _ _ _ _ _ _ _ _ c.requires.3 y c.requires.1 c.end_of-q.ensures h (call-name _ _ _ c.end_of-q.ensures) c.meaning-f.ensures c.call_width-w.ensures (reserve-of c.args.o _ c.args.self.now.st _ (ready-low _ _ _ _ _ _ c.requires.0) c.reserve.ensures) (c.args-2.ensures.is _ (call-args _ _ _ _ _ c.end_of-z.ensures k)) c.fail.ensures (place-spot c.args.o _ _ c.args.self.now.st c.requires.2 (ready-low _ _ _ _ _ _ c.requires.0) c.place.ensures.0) (place-next c.args.o _ c.args.self.now.st _ _ c.requires.2 (ready-low _ _ _ _ _ _ c.requires.0) c.place.ensures.1) c.put_call.ensures

pub def-bounds-self-1 : goal.def-bounds-self-1
def-bounds-self-1 t c = omega (arith, (ready-cells _ _ _ _ _ _ c.requires.0).0)

pub def-reserve_def-requires : goal.def-reserve_def-requires
def-reserve_def-requires t c = ((_, c.requires.0), c.requires.1, c.requires.2, c.requires.3)

pub def-overflow_add-p : goal.def-overflow_add-p
def-overflow_add-p t c = let y = c.requires.0 in omega (arith, y.small, y.within, y.order)

pub def-defs-g-requires : goal.def-defs-g-requires
def-defs-g-requires t c = let y = c.requires.0 in
    let v = c.reserve_def.ensures in
    (omega (arith, c.decreases, y.within), def-ready _ _ _ _ _ _ _ c.requires.3 y c.requires.1 v)

pub def-term-t-requires : goal.def-term-t-requires
def-term-t-requires t c = let y = c.requires.0 in
    let v = c.reserve_def.ensures in
    let g = c.defs-g.ensures.is in
    (omega (arith, c.decreases, further _ _ _ _ _ _ _ c.requires.3 y c.requires.1 v _ _ _ _ _ _ g, def-within _ _ _ _ _ _ _ c.requires.3 y c.requires.1 v _ _ _ _ _ _ g), let d = def_body _ _ _ _ _ _ _ c.requires.3 y c.requires.1 v _ _ _ _ _ _ g (due-placed c.args.o c.args.self.now.st c.requires.2) in (d.0, d.1, due-on c.args.o c.args.self.now.st _ c.requires.2 (grown _ _ _ _ _ _ _ c.requires.3 y c.requires.1 v _ _ _ _ _ _ g)))

pub def-close-requires : goal.def-close-requires
def-close-requires t c = let y = c.requires.0 in
    let v = c.reserve_def.ensures in
    def-close _ _ _ _ _ _ _ c.requires.3 y c.requires.1 v _ _ _ _ _ _ c.defs-g.ensures.is _ _ _ _ c.term-t.ensures.is

pub def-returns-clause-is : goal.def-returns-clause-is
def-returns-clause-is t c = let y = c.requires.0 in
    let v = c.reserve_def.ensures in
    def-did _ _ _ _ _ _ _ c.requires.3 y c.requires.1 v _ _ _ _ _ _ c.defs-g.ensures.is _ _ _ _ c.term-t.ensures.is (due-placed c.args.o c.args.self.now.st c.requires.2) _ c.close.ensures

pub defs-loop-p-init : goal.defs-loop-p-init
defs-loop-p-init t c = (record { rows = refl; out = refl }, scoping-start _ _ _ _ _ _ _ c.requires)

pub defs-bounds-tree-p : goal.defs-bounds-tree-p
defs-bounds-tree-p t c = omega (arith, (scoping-fits _ _ _ _ _ _ _ _ _ _ _ _ c.loop-p.invariant.1).0)

pub defs-open_def-requires : goal.defs-open_def-requires
defs-open_def-requires t c = let o = c.loop-p.invariant.1 in
    (omega (arith, c.decreases, o.rows, o.back.order), scoping-ready _ _ _ _ _ _ _ _ _ _ _ _ o c.loop-p-test.true)

pub defs-end_of-p-requires : goal.defs-end_of-p-requires
defs-end_of-p-requires t c = (scoping-fits _ _ _ _ _ _ _ _ _ _ _ _ c.loop-p.invariant.1).0

pub defs-overflow_add-i : goal.defs-overflow_add-i
defs-overflow_add-i t c = let o = c.loop-p.invariant.1 in omega (arith, o.some.1.seen.within, o.some.1.seen.small)

pub defs-loop-p-smaller : goal.defs-loop-p-smaller
defs-loop-p-smaller t c = omega (arith, c.end_of-p.ensures, (scoping-fits _ _ _ _ _ _ _ _ _ _ _ _ c.loop-p.invariant.1).0)

pub defs-loop-p-preserved : goal.defs-loop-p-preserved
defs-loop-p-preserved t c = (record { rows = c.open_def.ensures.same.rows ∙ c.loop-p.invariant.0.rows; out = c.open_def.ensures.same.out ∙ c.loop-p.invariant.0.out }, scoping-more _ _ _ _ _ _ _ _ _ _ _ _ c.loop-p.invariant.1 c.loop-p-test.true _ _ _ c.open_def.ensures.is _ c.end_of-p.ensures (ready-cells _ _ _ _ _ _ c.requires.1).1)

pub defs-returns-clause-is : goal.defs-returns-clause-is
defs-returns-clause-is t c = scoping-done _ _ _ _ _ _ _ _ _ _ _ _ c.loop-p.invariant.1 c.loop-p-test.false _ refl refl

pub entries-loop-p-init : goal.entries-loop-p-init
entries-loop-p-init t c =
    let b = c.args.tree.now in
    let y = c.requires.0 in
    let g = c.requires.1 in
    let i = begun b c.args.q c.args.z _ c.into_iter-p-iterator.result c.into_iter-p-iterator.ensures.into_iter_gives c.fields-p-items.ensures y.within (_, g.1) in
    (i.0, i.1, record { rows = refl; out = refl }, forms_objects.entries-on _ _ _ _ _ _ _ _ _ _ _ _ _ i.2 (forms_objects.entries-start b _ _ _ _ _ _ y g))

pub entries-obj_entry-requires : goal.entries-obj_entry-requires
entries-obj_entry-requires t c =
    let b = c.args.tree.now in
    let n = turn c.loop-p.p-iterator c.next.new.self c.loop-p.invariant.1 c.in-Some.ensures.steps c.in-Some.ensures.goes.keeps in
    let v = forms_objects.entries-on _ _ _ _ _ _ _ _ _ _ _ _ _ n.here c.loop-p.invariant.3 in
    let w = forms_objects.entries_next b _ _ _ _ _ _ _ _ _ _ _ v n.within in
    (omega (arith, c.decreases, v.low, w.1.2.fits), (w.0, w.1))

pub entries-overflow_add-i : goal.entries-overflow_add-i
entries-overflow_add-i t c =
    let n = turn c.loop-p.p-iterator c.next.new.self c.loop-p.invariant.1 c.in-Some.ensures.steps c.in-Some.ensures.goes.keeps in
    let v = forms_objects.entries-on _ _ _ _ _ _ _ _ _ _ _ _ _ n.here c.loop-p.invariant.3 in
    omega (arith, v.ready.seen.within, v.ready.seen.small)

pub entries-loop-p-preserved : goal.entries-loop-p-preserved
entries-loop-p-preserved t c =
    let b = c.args.tree.now in
    let n = turn c.loop-p.p-iterator c.next.new.self c.loop-p.invariant.1 c.in-Some.ensures.steps c.in-Some.ensures.goes.keeps in
    let v = forms_objects.entries-on _ _ _ _ _ _ _ _ _ _ _ _ _ n.here c.loop-p.invariant.3 in
    (c.in-Some.ensures.goes.keeps, n.over, record { rows = c.obj_entry.ensures.same.rows ∙ c.loop-p.invariant.2.rows; out = c.obj_entry.ensures.same.out ∙ c.loop-p.invariant.2.out }, forms_objects.entries-again b _ _ _ _ _ _ _ _ _ _ _ _ _ _ _ v n.within c.obj_entry.ensures.is n.next)

pub entries-returns-clause-is : goal.entries-returns-clause-is
entries-returns-clause-is t c =
    let l = turned c.loop-p.p-iterator c.next.new.self c.loop-p.invariant.1 c.in-None.ensures.steps in
    let b = c.args.tree.now in
    let v = c.loop-p.invariant.3 in
    forms_objects.entries-done b _ _ _ _ _ _ _ _ _ _ _ v l

pub fold-no_fold-requires : goal.fold-no_fold-requires
fold-no_fold-requires t c =
    let y = c.requires.0 in
    (omega (arith, asks_b.rows-some _ _ _ _ _ _ y), omega (arith, c.fold_of-f.ensures.source), omega (arith, y.errs))

pub fold-fold_of-f-requires : goal.fold-fold_of-f-requires
fold-fold_of-f-requires t c =
    let y = c.requires.0 in
    (c.requires.1, c.requires.3)

pub fold-bare-requires : goal.fold-bare-requires
fold-bare-requires t c =
    let y = c.requires.0 in
    asks_b.bare-ask _ _ _ _ _ _ _ _ y (due-placed c.args.o c.args.self.now.st c.requires.2) c.no_fold.ensures.0

pub fold-returns-then-f-lt2-clause-is : goal.fold-returns-then-f-lt2-clause-is
fold-returns-then-f-lt2-clause-is t c =
    let y = c.requires.0 in
    asks_b.fold-lost _ _ _ _ _ _ _ _ _ _ _ _ _ _ _ _ _ _ c.requires.3 y c.requires.1 c.fold_of-f.ensures c.if-f-lt2.true refl refl refl refl c.no_fold.ensures.0 c.no_fold.ensures.1 (bare-of c.args.o _ _ _ _ c.args.self.now.st _ _ _ _ c.requires.2 (ready-low _ _ _ _ _ _ c.requires.0) (omega (arith, y.offs, asks.error-state c.args.self.now.st _ _ c.no_fold.ensures.0)) c.bare.ensures)

pub fold-reserve-requires : goal.fold-reserve-requires
fold-reserve-requires t c =
    let y = c.requires.0 in
    asks_b.reserve-room _ _ _ _ _ _ _ _ y (due-placed c.args.o c.args.self.now.st c.requires.2) (omega (arith, c.fold_of-f.ensures.room, y.within, y.small))

pub fold-iterm-requires : goal.fold-iterm-requires
fold-iterm-requires t c =
    let y = c.requires.0 in
    let h = whole.fold-places _ _ _ c.requires.3 c.requires.1 c.fold_of-f.ensures c.if-f-lt2.false in
    (omega (arith, c.decreases, h.at, h.pat, h.init, h.update, h.last, h.fits), whole.fold-source _ _ _ c.requires.3 c.requires.1 c.fold_of-f.ensures c.if-f-lt2.false _ _ _ _ _ y (reserve-of c.args.o _ c.args.self.now.st _ (ready-low _ _ _ _ _ _ c.requires.0) c.reserve.ensures))

pub fold-pattern-i-requires : goal.fold-pattern-i-requires
fold-pattern-i-requires t c =
    let y = c.requires.0 in
    let h = whole.fold-places _ _ _ c.requires.3 c.requires.1 c.fold_of-f.ensures c.if-f-lt2.false in
    let r = whole.fold-pattern _ _ _ c.requires.3 c.requires.1 c.fold_of-f.ensures c.if-f-lt2.false _ _ _ _ _ y (reserve-of c.args.o _ c.args.self.now.st _ (ready-low _ _ _ _ _ _ c.requires.0) c.reserve.ensures) _ _ _ _ _ c.iterm.ensures.is in
    (omega (arith, c.decreases, h.at, h.pat, h.init, h.update, h.last, h.fits), (r.0, r.1, r.2, omega arith))

pub fold-iterm-requires-2 : goal.fold-iterm-requires-2
fold-iterm-requires-2 t c =
    let y = c.requires.0 in
    let h = whole.fold-places _ _ _ c.requires.3 c.requires.1 c.fold_of-f.ensures c.if-f-lt2.false in
    (omega (arith, c.decreases, h.at, h.pat, h.init, h.update, h.last, h.fits), whole.fold-init _ _ _ c.requires.3 c.requires.1 c.fold_of-f.ensures c.if-f-lt2.false _ _ _ _ _ y (reserve-of c.args.o _ c.args.self.now.st _ (ready-low _ _ _ _ _ _ c.requires.0) c.reserve.ensures) _ _ _ _ _ c.iterm.ensures.is _ _ _ _ c.pattern-i.ensures.is)

pub fold-update-u-requires : goal.fold-update-u-requires
fold-update-u-requires t c =
    let y = c.requires.0 in
    (omega (arith, c.decreases), whole.fold-update _ _ _ c.requires.3 c.requires.1 c.fold_of-f.ensures c.if-f-lt2.false _ _ _ _ _ y (reserve-of c.args.o _ c.args.self.now.st _ (ready-low _ _ _ _ _ _ c.requires.0) c.reserve.ensures) _ _ _ _ _ c.iterm.ensures.is _ _ _ _ c.pattern-i.ensures.is _ _ _ _ c.iterm-2.ensures.is)

pub fold-place-requires : goal.fold-place-requires
fold-place-requires t c =
    let y = c.requires.0 in
    asks_b.fold-place _ _ _ c.requires.3 c.requires.1 c.fold_of-f.ensures c.if-f-lt2.false _ _ _ _ _ y (reserve-of c.args.o _ c.args.self.now.st _ (ready-low _ _ _ _ _ _ c.requires.0) c.reserve.ensures) _ _ _ _ _ c.iterm.ensures.is _ _ _ _ c.pattern-i.ensures.is _ _ _ _ c.iterm-2.ensures.is _ _ _ _ _ c.update-u.ensures.is (due-placed c.args.o c.args.self.now.st c.requires.2)

pub fold-put_fold-requires : goal.fold-put_fold-requires
fold-put_fold-requires t c =
    let y = c.requires.0 in
    (whole.fold-put _ _ _ c.requires.3 c.requires.1 c.fold_of-f.ensures c.if-f-lt2.false _ _ _ _ _ y (reserve-of c.args.o _ c.args.self.now.st _ (ready-low _ _ _ _ _ _ c.requires.0) c.reserve.ensures) _ _ _ _ _ c.iterm.ensures.is _ _ _ _ c.pattern-i.ensures.is _ _ _ _ c.iterm-2.ensures.is _ _ _ _ _ _ _ _ _ c.update-u.ensures.is refl refl refl (due-placed c.args.o c.args.self.now.st c.requires.2) (place-spot c.args.o _ _ c.args.self.now.st c.requires.2 (ready-low _ _ _ _ _ _ c.requires.0) c.place.ensures.0)).0

pub fold-returns-clause-is : goal.fold-returns-clause-is
fold-returns-clause-is t c =
    let y = c.requires.0 in
    whole.fold-did _ _ _ c.requires.3 c.requires.1 c.fold_of-f.ensures c.if-f-lt2.false _ _ _ _ _ y (reserve-of c.args.o _ c.args.self.now.st _ (ready-low _ _ _ _ _ _ c.requires.0) c.reserve.ensures) _ _ _ _ _ c.iterm.ensures.is _ _ _ _ c.pattern-i.ensures.is _ _ _ _ c.iterm-2.ensures.is _ _ _ _ _ _ _ _ _ c.update-u.ensures.is refl refl refl _ _ (place-spot c.args.o _ _ c.args.self.now.st c.requires.2 (ready-low _ _ _ _ _ _ c.requires.0) c.place.ensures.0) (place-next c.args.o _ c.args.self.now.st _ _ c.requires.2 (ready-low _ _ _ _ _ _ c.requires.0) c.place.ensures.1) c.put_fold.ensures

pub ite-end_of-z-requires : goal.ite-end_of-z-requires
ite-end_of-z-requires t c =
    let y = c.requires.0 in
    let g = c.requires.1 in
    let e = c.requires.3 in
    let f = asks.stands-fits _ _ g in
    f

pub ite-reserve-requires : goal.ite-reserve-requires
ite-reserve-requires t c =
    let y = c.requires.0 in
    let g = c.requires.1 in
    let e = c.requires.3 in
    let f = asks.stands-fits _ _ g in
    asks.reserve-fits _ _ _ _ _ _ _ _ y (due-placed c.args.o c.args.self.now.st c.requires.2) (omega arith)

pub ite-pairs-a-requires : goal.ite-pairs-a-requires
ite-pairs-a-requires t c =
    let y = c.requires.0 in
    let g = c.requires.1 in
    let e = c.requires.3 in
    let f = asks.stands-fits _ _ g in
    let w = conditional.ite-ready _ _ _ _ _ _ _ e y g (reserve-of c.args.o _ c.args.self.now.st _ (ready-low _ _ _ _ _ _ c.requires.0) c.reserve.ensures) in
    (omega (arith, c.decreases, f), asks.ite-at _ _ _ _ _ c.end_of-z.ensures w)

pub ite-other-t-requires : goal.ite-other-t-requires
ite-other-t-requires t c =
    let y = c.requires.0 in
    let g = c.requires.1 in
    let e = c.requires.3 in
    let f = asks.stands-fits _ _ g in
    let w = asks.ite-at _ _ _ _ _ c.end_of-z.ensures (conditional.ite-ready _ _ _ _ _ _ _ e y g (reserve-of c.args.o _ c.args.self.now.st _ (ready-low _ _ _ _ _ _ c.requires.0) c.reserve.ensures)) in
    let v = conditional.ite-other _ _ _ _ _ _ _ _ _ _ _ _ w.0 w.1 c.pairs-a.ensures.is in
    (omega (arith, c.decreases, f, c.pairs-a.ensures.is.rows, v.2), (v.0, v.1))

pub ite-elses-n-requires : goal.ite-elses-n-requires
ite-elses-n-requires t c =
    let y = c.requires.0 in
    let g = c.requires.1 in
    let e = c.requires.3 in
    let f = asks.stands-fits _ _ g in
    let w = asks.ite-at _ _ _ _ _ c.end_of-z.ensures (conditional.ite-ready _ _ _ _ _ _ _ e y g (reserve-of c.args.o _ c.args.self.now.st _ (ready-low _ _ _ _ _ _ c.requires.0) c.reserve.ensures)) in
    let v = conditional.ite-other _ _ _ _ _ _ _ _ _ _ _ _ w.0 w.1 c.pairs-a.ensures.is in
    asks.elses-ask _ _ _ _ _ _ _ c.pairs-a.result _ _ _ _ v.0 v.2 c.other-t.ensures.is

pub ite-place-requires : goal.ite-place-requires
ite-place-requires t c =
    let y = c.requires.0 in
    let g = c.requires.1 in
    let e = c.requires.3 in
    let f = asks.stands-fits _ _ g in
    let w = asks.ite-at _ _ _ _ _ c.end_of-z.ensures (conditional.ite-ready _ _ _ _ _ _ _ e y g (reserve-of c.args.o _ c.args.self.now.st _ (ready-low _ _ _ _ _ _ c.requires.0) c.reserve.ensures)) in
    let v = conditional.ite-other _ _ _ _ _ _ _ _ _ _ _ _ w.0 w.1 c.pairs-a.ensures.is in
    (asks.ite-place _ _ _ _ _ _ _ c.pairs-a.result _ _ _ _ _ _ _ v.0 v.2 c.other-t.ensures.is c.elses-n.ensures).0

pub ite-put_pair-requires : goal.ite-put_pair-requires
ite-put_pair-requires t c =
    let y = c.requires.0 in
    let g = c.requires.1 in
    let e = c.requires.3 in
    let f = asks.stands-fits _ _ g in
    let w = asks.ite-at _ _ _ _ _ c.end_of-z.ensures (conditional.ite-ready _ _ _ _ _ _ _ e y g (reserve-of c.args.o _ c.args.self.now.st _ (ready-low _ _ _ _ _ _ c.requires.0) c.reserve.ensures)) in
    let v = conditional.ite-other _ _ _ _ _ _ _ _ _ _ _ _ w.0 w.1 c.pairs-a.ensures.is in
    asks.ite-own _ _ _ _ _ _ _ _ _ _ c.pairs-a.result _ _ _ _ _ _ _ _ _ _ y (due-placed c.args.o c.args.self.now.st c.requires.2) v.0 v.2 c.other-t.ensures.is c.elses-n.ensures (place-spot c.args.o _ _ c.args.self.now.st c.requires.2 (ready-low _ _ _ _ _ _ c.requires.0) c.place.ensures.0) (asks.some_pair _ _ _ _ _ _ _ _ _ _ _ e g (asks.paired_at _ _ _ _ _ _ _ _ _ _ _ _ c.end_of-z.ensures c.pairs-a.ensures.is))

pub ite-returns-clause-is : goal.ite-returns-clause-is
ite-returns-clause-is t c =
    let y = c.requires.0 in
    let g = c.requires.1 in
    let e = c.requires.3 in
    let f = asks.stands-fits _ _ g in
    conditional.ite-did _ _ _ _ _ _ _ _ _ _ _ _ _ _ _ _ _ _ _ _ _ _ _ _ e y g (reserve-of c.args.o _ c.args.self.now.st _ (ready-low _ _ _ _ _ _ c.requires.0) c.reserve.ensures) (asks.paired_at _ _ _ _ _ _ _ _ _ _ _ _ c.end_of-z.ensures c.pairs-a.ensures.is) (asks.else-at _ _ _ _ _ _ _ _ _ _ _ _ _ c.end_of-z.ensures c.other-t.ensures.is) c.elses-n.ensures (place-spot c.args.o _ _ c.args.self.now.st c.requires.2 (ready-low _ _ _ _ _ _ c.requires.0) c.place.ensures.0) (place-next c.args.o _ c.args.self.now.st _ _ c.requires.2 (ready-low _ _ _ _ _ _ c.requires.0) c.place.ensures.1) c.put_pair.ensures refl

pub items-end_of-z-requires : goal.items-end_of-z-requires
items-end_of-z-requires t c =
    let y = c.requires.0 in
    c.requires.2

pub items-overflow_add-q : goal.items-overflow_add-q
items-overflow_add-q t c =
    let y = c.requires.0 in
    omega (arith, y.order, y.within, y.small)

pub items-loop-p-init : goal.items-loop-p-init
items-loop-p-init t c =
    let b = c.args.tree.now in
    let y = c.requires.0 in
    rw c.end_of-z.ensures (
    let i = begun b (c.args.q + 3) (end_of b c.args.q) _ c.into_iter-p-iterator.result c.into_iter-p-iterator.ensures.into_iter_gives (rw c.end_of-z.ensures at c.fields-p-items.ensures) c.requires.2 (_, c.requires.1.1) in
    (i.0, i.1, record { rows = refl; out = refl }, mems.items-on _ _ _ _ _ _ _ _ _ _ _ _ _ i.2 (mems.items-start _ _ _ _ _ _ y c.requires.1 c.requires.2))
    )

pub items-insert-requires : goal.items-insert-requires
items-insert-requires t c =
    let y = c.requires.0 in
    let n = turn c.loop-p.p-iterator c.next.new.self c.loop-p.invariant.1 c.in-Some.ensures.steps c.in-Some.ensures.goes.keeps in
    let g = mems.items-on _ _ _ _ _ _ _ _ _ _ _ _ _ n.here c.loop-p.invariant.3 in
    (omega (arith, g.ready.nums), omega (arith, g.ready.offs))

pub items-put_int-requires : goal.items-put_int-requires
items-put_int-requires t c =
    let y = c.requires.0 in
    let n = turn c.loop-p.p-iterator c.next.new.self c.loop-p.invariant.1 c.in-Some.ensures.steps c.in-Some.ensures.goes.keeps in
    let g = mems.items-on _ _ _ _ _ _ _ _ _ _ _ _ _ n.here c.loop-p.invariant.3 in
    omega (arith, g.ready.offs, c.insert.ensures.0)

pub items-pattern-j-requires : goal.items-pattern-j-requires
items-pattern-j-requires t c =
    let y = c.requires.0 in
    let n = turn c.loop-p.p-iterator c.next.new.self c.loop-p.invariant.1 c.in-Some.ensures.steps c.in-Some.ensures.goes.keeps in
    let g = mems.items-on _ _ _ _ _ _ _ _ _ _ _ _ _ n.here c.loop-p.invariant.3 in
    let a = asks_b.items-ask _ _ _ _ _ _ _ _ _ _ _ _ g _ c.end_of-z.ensures n.within _ _ c.insert.ensures.0 c.insert.ensures.1 in
    (omega (arith, c.decreases, g.few, g.ready.order, y.within, n.within, c.end_of-z.ensures, g.rows, g.order), a)

pub items-overflow_add-i : goal.items-overflow_add-i
items-overflow_add-i t c =
    let y = c.requires.0 in
    let n = turn c.loop-p.p-iterator c.next.new.self c.loop-p.invariant.1 c.in-Some.ensures.steps c.in-Some.ensures.goes.keeps in
    let g = mems.items-on _ _ _ _ _ _ _ _ _ _ _ _ _ n.here c.loop-p.invariant.3 in
    omega (arith, g.few, g.ready.order, y.within, y.small)

pub items-loop-p-preserved : goal.items-loop-p-preserved
items-loop-p-preserved t c =
    let y = c.requires.0 in
    let n = turn c.loop-p.p-iterator c.next.new.self c.loop-p.invariant.1 c.in-Some.ensures.steps c.in-Some.ensures.goes.keeps in
    let g = mems.items-on _ _ _ _ _ _ _ _ _ _ _ _ _ n.here c.loop-p.invariant.3 in
    (c.in-Some.ensures.goes.keeps, n.over, record { rows = c.pattern-j.ensures.same.rows ∙ c.loop-p.invariant.2.rows; out = c.pattern-j.ensures.same.out ∙ c.loop-p.invariant.2.out }, asks_b.items-again _ _ _ _ _ _ _ _ _ _ _ _ g _ c.end_of-z.ensures n.within _ _ _ _ _ _ _ _ _ refl c.insert.ensures.0 c.insert.ensures.1 c.put_int.ensures c.pattern-j.ensures.is n.next)

pub items-returns-clause-is : goal.items-returns-clause-is
items-returns-clause-is t c =
    let l = turned c.loop-p.p-iterator c.next.new.self c.loop-p.invariant.1 c.in-None.ensures.steps in
    let y = c.requires.0 in
    let g = c.loop-p.invariant.3 in
    mems.items-done _ _ _ _ _ _ _ _ _ _ _ _ g (omega (arith, l, c.end_of-z.ensures))

pub iterm-overflow_add-self : goal.iterm-overflow_add-self
iterm-overflow_add-self t c =
    omega (arith, c.requires.0.nums)

pub iterm-bounds-tree-p : goal.iterm-bounds-tree-p
iterm-bounds-tree-p t c =
    omega (arith, asks.stands-fits _ _ c.requires.1)

pub iterm-bare-requires : goal.iterm-bare-requires
iterm-bare-requires t c =
    let y = c.requires.0 in
    let g = c.requires.1 in
    let f = asks.stands-fits _ _ g in
    let w = terms.number-ready _ _ _ _ _ _ _ y refl refl in
    asks.bare-fits _ _ _ _ _ _ _ w.0 w.1

pub iterm-named-requires : goal.iterm-named-requires
iterm-named-requires t c =
    let y = c.requires.0 in
    let g = c.requires.1 in
    let f = asks.stands-fits _ _ g in
    let w = terms.number-ready _ _ _ _ _ _ _ y refl refl in
    ((c.args.k, w.0), g, (omega arith), inl (refl, refl, c.in-167.is))

pub iterm-num-requires : goal.iterm-num-requires
iterm-num-requires t c =
    let y = c.requires.0 in
    let g = c.requires.1 in
    let f = asks.stands-fits _ _ g in
    let w = terms.number-ready _ _ _ _ _ _ _ y refl refl in
    (g, (omega arith), c.in-170.is, y.small, omega (arith, w.0.offs))

pub iterm-term-requires : goal.iterm-term-requires
iterm-term-requires t c =
    let y = c.requires.0 in
    let g = c.requires.1 in
    let f = asks.stands-fits _ _ g in
    let w = terms.number-ready _ _ _ _ _ _ _ y refl refl in
    (omega (arith, c.decreases), (w.0, g, (omega arith)))

pub iterm-returns-in-160-clause-is : goal.iterm-returns-in-160-clause-is
iterm-returns-in-160-clause-is t c =
    let y = c.requires.0 in
    let g = c.requires.1 in
    let f = asks.stands-fits _ _ g in
    let w = terms.number-ready _ _ _ _ _ _ _ y refl refl in
    terms.laid_of _ _ _ _ _ _ _ _ _ _ _ _ _ y g refl refl (leaves.id-bare _ _ _ _ _ _ _ _ _ _ _ c.in-160.is (omega (arith, w.0.offs)) (bare-of (Some c.args.self.now.st.end) _ _ _ _ c.args.self.now.st _ _ _ _ (omega arith) (ready-low _ _ _ _ _ _ c.requires.0) (omega (arith, y.offs)) c.bare.ensures))

pub iterm-returns-in-167-clause-is : goal.iterm-returns-in-167-clause-is
iterm-returns-in-167-clause-is t c =
    let y = c.requires.0 in
    let g = c.requires.1 in
    let f = asks.stands-fits _ _ g in
    let w = terms.number-ready _ _ _ _ _ _ _ y refl refl in
    terms.laid_of _ _ _ _ _ _ _ _ _ _ _ _ _ y g refl refl (c.named.ensures.is _ _)

pub iterm-returns-in-170-clause-is : goal.iterm-returns-in-170-clause-is
iterm-returns-in-170-clause-is t c =
    let y = c.requires.0 in
    let g = c.requires.1 in
    let f = asks.stands-fits _ _ g in
    let w = terms.number-ready _ _ _ _ _ _ _ y refl refl in
    terms.laid_of _ _ _ _ _ _ _ _ _ _ _ _ _ y g refl refl (c.num.ensures.is _ _)

pub iterm-returns-in_default-clause-is : goal.iterm-returns-in_default-clause-is
iterm-returns-in_default-clause-is t c =
    let y = c.requires.0 in
    let g = c.requires.1 in
    let f = asks.stands-fits _ _ g in
    let w = terms.number-ready _ _ _ _ _ _ _ y refl refl in
    terms.laid_of _ _ _ _ _ _ _ _ _ _ _ _ _ y g refl refl c.term.ensures.is

pub keyed-end_of-z-requires : goal.keyed-end_of-z-requires
keyed-end_of-z-requires t c =
    let y = c.requires.0 in
    c.requires.2

pub keyed-overflow_add-q : goal.keyed-overflow_add-q
keyed-overflow_add-q t c =
    let y = c.requires.0 in
    omega (arith, y.order, y.within, y.small)

pub keyed-loop-p-init : goal.keyed-loop-p-init
keyed-loop-p-init t c =
    let b = c.args.tree.now in
    let y = c.requires.0 in
    rw c.end_of-z.ensures (
    let i = begun b (c.args.q + 3) (end_of b c.args.q) _ c.into_iter-p-iterator.result c.into_iter-p-iterator.ensures.into_iter_gives (rw c.end_of-z.ensures at c.fields-p-items.ensures) c.requires.2 (_, c.requires.1.1) in
    (i.0, i.1, record { rows = refl; out = refl }, mems.keyed-on _ _ _ _ _ _ _ _ _ _ _ _ i.2 (mems.keyed-start _ _ _ _ _ _ y c.requires.1 c.requires.2))
    )

pub keyed-overflow_add-p : goal.keyed-overflow_add-p
keyed-overflow_add-p t c =
    let y = c.requires.0 in
    let n = turn c.loop-p.p-iterator c.next.new.self c.loop-p.invariant.1 c.in-Some.ensures.steps c.in-Some.ensures.goes.keeps in
    let g = mems.keyed-on _ _ _ _ _ _ _ _ _ _ _ _ n.here c.loop-p.invariant.3 in
    omega (arith, g.ready.order, y.within, y.small)

pub keyed-iterm-requires : goal.keyed-iterm-requires
keyed-iterm-requires t c =
    let y = c.requires.0 in
    let n = turn c.loop-p.p-iterator c.next.new.self c.loop-p.invariant.1 c.in-Some.ensures.steps c.in-Some.ensures.goes.keeps in
    let g = mems.keyed-on _ _ _ _ _ _ _ _ _ _ _ _ n.here c.loop-p.invariant.3 in
    let a = asks_b.keyed-ask _ _ _ _ _ _ _ _ _ _ _ g _ c.end_of-z.ensures n.within in
    let z = asks_b.keyed-ends _ _ _ _ _ _ _ _ _ _ _ g _ c.end_of-z.ensures n.within in
    (omega (arith, c.decreases, z.1, z.2, g.rows, g.order), (a.0, a.1))

pub keyed-overflow_add-p-in-loop-p : goal.keyed-overflow_add-p-in-loop-p
keyed-overflow_add-p-in-loop-p t c =
    let y = c.requires.0 in
    let n = turn c.loop-p.p-iterator c.next.new.self c.loop-p.invariant.1 c.in-Some.ensures.steps c.in-Some.ensures.goes.keeps in
    let g = mems.keyed-on _ _ _ _ _ _ _ _ _ _ _ _ n.here c.loop-p.invariant.3 in
    omega (arith, g.ready.order, y.within, y.small)

pub keyed-end_of-requires : goal.keyed-end_of-requires
keyed-end_of-requires t c =
    let y = c.requires.0 in
    let n = turn c.loop-p.p-iterator c.next.new.self c.loop-p.invariant.1 c.in-Some.ensures.steps c.in-Some.ensures.goes.keeps in
    let g = mems.keyed-on _ _ _ _ _ _ _ _ _ _ _ _ n.here c.loop-p.invariant.3 in
    (asks_b.keyed-ends _ _ _ _ _ _ _ _ _ _ _ g _ c.end_of-z.ensures n.within).0

pub keyed-pattern-j-requires : goal.keyed-pattern-j-requires
keyed-pattern-j-requires t c =
    let y = c.requires.0 in
    let n = turn c.loop-p.p-iterator c.next.new.self c.loop-p.invariant.1 c.in-Some.ensures.steps c.in-Some.ensures.goes.keeps in
    let g = mems.keyed-on _ _ _ _ _ _ _ _ _ _ _ _ n.here c.loop-p.invariant.3 in
    let z = asks_b.keyed-ends _ _ _ _ _ _ _ _ _ _ _ g _ c.end_of-z.ensures n.within in
    (omega (arith, c.decreases, z.1, z.2, g.rows, g.order, c.end_of.ensures), asks_b.keyed-ask-pattern _ _ _ _ _ _ _ _ _ _ _ g _ c.end_of-z.ensures n.within _ _ _ _ _ c.iterm.ensures.is c.end_of.ensures)

pub keyed-loop-p-preserved : goal.keyed-loop-p-preserved
keyed-loop-p-preserved t c =
    let y = c.requires.0 in
    let n = turn c.loop-p.p-iterator c.next.new.self c.loop-p.invariant.1 c.in-Some.ensures.steps c.in-Some.ensures.goes.keeps in
    let g = mems.keyed-on _ _ _ _ _ _ _ _ _ _ _ _ n.here c.loop-p.invariant.3 in
    (c.in-Some.ensures.goes.keeps, n.over, record { rows = c.pattern-j.ensures.same.rows ∙ c.iterm.ensures.same.rows ∙ c.loop-p.invariant.2.rows; out = c.pattern-j.ensures.same.out ∙ c.iterm.ensures.same.out ∙ c.loop-p.invariant.2.out }, asks_b.keyed-again _ _ _ _ _ _ _ _ _ _ _ g _ c.end_of-z.ensures n.within _ _ _ _ _ c.iterm.ensures.is c.end_of.ensures _ _ _ _ _ _ refl c.pattern-j.ensures.is n.next)

pub keyed-returns-clause-is : goal.keyed-returns-clause-is
keyed-returns-clause-is t c =
    let l = turned c.loop-p.p-iterator c.next.new.self c.loop-p.invariant.1 c.in-None.ensures.steps in
    let y = c.requires.0 in
    let g = c.loop-p.invariant.3 in
    mems.keyed-done _ _ _ _ _ _ _ _ _ _ _ g (omega (arith, l, c.end_of-z.ensures))

pub label-reserve-requires : goal.label-reserve-requires
label-reserve-requires t c =
    let y = c.requires.0 in
    let g = c.requires.1 in
    let e = c.requires.3 in
    let f = asks.stands-fits _ _ g in
    asks.reserve-fits _ _ _ _ _ _ _ _ y (due-placed c.args.o c.args.self.now.st c.requires.2) (omega arith)

pub label-bounds-self-1 : goal.label-bounds-self-1
label-bounds-self-1 t c =
    let y = c.requires.0 in
    let g = c.requires.1 in
    let e = c.requires.3 in
    let f = asks.stands-fits _ _ g in
    omega (arith, asks.cells-there _ _ _ _ _ _ y)

pub label-bind-requires : goal.label-bind-requires
label-bind-requires t c =
    let y = c.requires.0 in
    let g = c.requires.1 in
    let e = c.requires.3 in
    let f = asks.stands-fits _ _ g in
    asks.label-asks _ _ _ _ _ e y g

pub label-end_of-requires : goal.label-end_of-requires
label-end_of-requires t c =
    let y = c.requires.0 in
    let g = c.requires.1 in
    let e = c.requires.3 in
    let f = asks.stands-fits _ _ g in
    (asks.label-asks _ _ _ _ _ e y g).1

pub label-iterm-requires : goal.label-iterm-requires
label-iterm-requires t c =
    let y = c.requires.0 in
    let g = c.requires.1 in
    let e = c.requires.3 in
    let f = asks.stands-fits _ _ g in
    let r = asks.label-rows _ _ _ _ _ _ e y g c.bind.ensures in
    let w = simple.label-ready _ _ _ _ _ _ _ _ e y g (reserve-of c.args.o _ c.args.self.now.st _ (ready-low _ _ _ _ _ _ c.requires.0) c.reserve.ensures) r.1.same r.0 in
    (omega (arith, c.decreases, f, c.end_of.ensures, (asks.label-asks _ _ _ _ _ e y g).1), simple.at_place _ _ _ _ _ c.end_of.ensures w)

pub label-close-requires : goal.label-close-requires
label-close-requires t c =
    let y = c.requires.0 in
    let g = c.requires.1 in
    let e = c.requires.3 in
    let f = asks.stands-fits _ _ g in
    let r = asks.label-rows _ _ _ _ _ _ e y g c.bind.ensures in
    asks.close-asks _ _ _ _ _ _ _ _ _ y (λ vw v. (r.0 vw v).0) (omega arith) c.iterm.ensures.is.paid.kept c.iterm.ensures.is.paid.same

pub label-place-requires : goal.label-place-requires
label-place-requires t c =
    let y = c.requires.0 in
    let g = c.requires.1 in
    let e = c.requires.3 in
    let f = asks.stands-fits _ _ g in
    let r = asks.label-rows _ _ _ _ _ _ e y g c.bind.ensures in
    let w = simple.label-ready _ _ _ _ _ _ _ _ e y g (reserve-of c.args.o _ c.args.self.now.st _ (ready-low _ _ _ _ _ _ c.requires.0) c.reserve.ensures) r.1.same r.0 in
    asks.place-laid _ _ _ _ _ _ _ _ _ _ _ _ _ _ _ _ _ _ y (reserve-of c.args.o _ c.args.self.now.st _ (ready-low _ _ _ _ _ _ c.requires.0) c.reserve.ensures) (omega arith) (simple.laid-at _ _ _ _ _ _ _ _ _ _ _ _ c.end_of.ensures c.iterm.ensures.is) (asks.stands-fits _ _ w.1)

pub label-put_one-requires : goal.label-put_one-requires
label-put_one-requires t c =
    let y = c.requires.0 in
    let g = c.requires.1 in
    let e = c.requires.3 in
    let f = asks.stands-fits _ _ g in
    let r = asks.label-rows _ _ _ _ _ _ e y g c.bind.ensures in
    let w = simple.label-ready _ _ _ _ _ _ _ _ e y g (reserve-of c.args.o _ c.args.self.now.st _ (ready-low _ _ _ _ _ _ c.requires.0) c.reserve.ensures) r.1.same r.0 in
    asks.own-laid _ _ _ _ _ _ _ _ _ _ _ _ _ _ _ _ _ _ _ y (due-placed c.args.o c.args.self.now.st c.requires.2) (reserve-of c.args.o _ c.args.self.now.st _ (ready-low _ _ _ _ _ _ c.requires.0) c.reserve.ensures) (omega arith) (simple.laid-at _ _ _ _ _ _ _ _ _ _ _ _ c.end_of.ensures c.iterm.ensures.is) (asks.stands-fits _ _ w.1) (place-spot c.args.o _ _ c.args.self.now.st c.requires.2 (ready-low _ _ _ _ _ _ c.requires.0) c.place.ensures.0)

pub label-returns-clause-is : goal.label-returns-clause-is
label-returns-clause-is t c =
    let y = c.requires.0 in
    let g = c.requires.1 in
    let e = c.requires.3 in
    let f = asks.stands-fits _ _ g in
    let r = asks.label-rows _ _ _ _ _ _ e y g c.bind.ensures in
    let w = simple.label-ready _ _ _ _ _ _ _ _ e y g (reserve-of c.args.o _ c.args.self.now.st _ (ready-low _ _ _ _ _ _ c.requires.0) c.reserve.ensures) r.1.same r.0 in
    simple.label-did _ _ _ _ _ _ _ _ _ _ _ _ _ _ _ _ _ _ e y g (reserve-of c.args.o _ c.args.self.now.st _ (ready-low _ _ _ _ _ _ c.requires.0) c.reserve.ensures) refl r.0 r.1 (simple.laid-at _ _ _ _ _ _ _ _ _ _ _ _ c.end_of.ensures c.iterm.ensures.is) c.close.ensures (asks.closed-length _ _ _ _ _ c.close.ensures) (place-spot c.args.o _ _ c.args.self.now.st c.requires.2 (ready-low _ _ _ _ _ _ c.requires.0) c.place.ensures.0) (place-next c.args.o _ c.args.self.now.st _ _ c.requires.2 (ready-low _ _ _ _ _ _ c.requires.0) c.place.ensures.1) c.put_one.ensures

pub neg-reserve-requires : goal.neg-reserve-requires
neg-reserve-requires t c =
    let y = c.requires.0 in
    let g = c.requires.1 in
    let e = c.requires.3 in
    let f = asks.stands-fits _ _ g in
    asks.reserve-fits _ _ _ _ _ _ _ _ y (due-placed c.args.o c.args.self.now.st c.requires.2) (omega arith)

pub neg-iterm-requires : goal.neg-iterm-requires
neg-iterm-requires t c =
    let y = c.requires.0 in
    let g = c.requires.1 in
    let e = c.requires.3 in
    let f = asks.stands-fits _ _ g in
    let w = simple.neg-ready _ _ _ _ _ _ _ e y g (reserve-of c.args.o _ c.args.self.now.st _ (ready-low _ _ _ _ _ _ c.requires.0) c.reserve.ensures) in
    (omega (arith, c.decreases, f), w)

pub neg-place-requires : goal.neg-place-requires
neg-place-requires t c =
    let y = c.requires.0 in
    let g = c.requires.1 in
    let e = c.requires.3 in
    let f = asks.stands-fits _ _ g in
    let w = simple.neg-ready _ _ _ _ _ _ _ e y g (reserve-of c.args.o _ c.args.self.now.st _ (ready-low _ _ _ _ _ _ c.requires.0) c.reserve.ensures) in
    asks.place-laid _ _ _ _ _ _ _ _ _ _ _ _ _ _ _ _ _ _ y (reserve-of c.args.o _ c.args.self.now.st _ (ready-low _ _ _ _ _ _ c.requires.0) c.reserve.ensures) (omega arith) c.iterm.ensures.is (asks.stands-fits _ _ w.1)

pub neg-put_one-requires : goal.neg-put_one-requires
neg-put_one-requires t c =
    let y = c.requires.0 in
    let g = c.requires.1 in
    let e = c.requires.3 in
    let f = asks.stands-fits _ _ g in
    let w = simple.neg-ready _ _ _ _ _ _ _ e y g (reserve-of c.args.o _ c.args.self.now.st _ (ready-low _ _ _ _ _ _ c.requires.0) c.reserve.ensures) in
    asks.own-laid _ _ _ _ _ _ _ _ _ _ _ _ _ _ _ _ _ _ _ y (due-placed c.args.o c.args.self.now.st c.requires.2) (reserve-of c.args.o _ c.args.self.now.st _ (ready-low _ _ _ _ _ _ c.requires.0) c.reserve.ensures) (omega arith) c.iterm.ensures.is (asks.stands-fits _ _ w.1) (place-spot c.args.o _ _ c.args.self.now.st c.requires.2 (ready-low _ _ _ _ _ _ c.requires.0) c.place.ensures.0)

pub neg-returns-clause-is : goal.neg-returns-clause-is
neg-returns-clause-is t c =
    let y = c.requires.0 in
    let g = c.requires.1 in
    let e = c.requires.3 in
    let f = asks.stands-fits _ _ g in
    simple.neg-did _ _ _ _ _ _ _ _ _ _ _ _ _ _ _ _ e y g (reserve-of c.args.o _ c.args.self.now.st _ (ready-low _ _ _ _ _ _ c.requires.0) c.reserve.ensures) refl c.iterm.ensures.is (place-spot c.args.o _ _ c.args.self.now.st c.requires.2 (ready-low _ _ _ _ _ _ c.requires.0) c.place.ensures.0) (place-next c.args.o _ c.args.self.now.st _ _ c.requires.2 (ready-low _ _ _ _ _ _ c.requires.0) c.place.ensures.1) c.put_one.ensures

pub obj-end_of-z-requires : goal.obj-end_of-z-requires
obj-end_of-z-requires t c =
    let b = c.args.tree.now in
    let g = c.requires.1 in
    let fits = term_fits b g.0 c.args.p g.1 in
    fits

pub obj-overflow_add-p : goal.obj-overflow_add-p
obj-overflow_add-p t c =
    let b = c.args.tree.now in
    let y = c.requires.0 in
    let g = c.requires.1 in
    let fits = term_fits b g.0 c.args.p g.1 in
    omega (arith, fits, y.small)

pub obj-entries_width-w-requires : goal.obj-entries_width-w-requires
obj-entries_width-w-requires t c =
    let b = c.args.tree.now in
    let g = c.requires.1 in
    let e = c.requires.3 in
    forms_objects.obj-here-at b c.args.p _ c.end_of-z.ensures e g

pub obj-reserve-requires : goal.obj-reserve-requires
obj-reserve-requires t c =
    let y = c.requires.0 in
    let pl = (due-placed c.args.o c.args.self.now.st c.requires.2) in
    omega (arith, noting.placed-low _ c.args.self.now.st pl (omega (arith, y.offs)), c.entries_width-w.ensures.1)

pub obj-overflow_add-p-2 : goal.obj-overflow_add-p-2
obj-overflow_add-p-2 t c =
    let b = c.args.tree.now in
    let y = c.requires.0 in
    let g = c.requires.1 in
    let fits = term_fits b g.0 c.args.p g.1 in
    omega (arith, fits, y.small)

pub obj-entries-i-requires : goal.obj-entries-i-requires
obj-entries-i-requires t c =
    let b = c.args.tree.now in
    let y = c.requires.0 in
    let g = c.requires.1 in
    let e = c.requires.3 in
    let fits = term_fits b g.0 c.args.p g.1 in
    let w = forms_objects.obj-ready b _ _ _ _ _ _ _ _ c.end_of-z.ensures e y g c.entries_width-w.ensures.1 (reserve-of c.args.o _ c.args.self.now.st _ (ready-low _ _ _ _ _ _ c.requires.0) c.reserve.ensures) in
    (omega (arith, c.decreases, fits), (w.0, w.1))

pub obj-sum_or-requires : goal.obj-sum_or-requires
obj-sum_or-requires t c =
    let b = c.args.tree.now in
    let y = c.requires.0 in
    let g = c.requires.1 in
    let pl = (due-placed c.args.o c.args.self.now.st c.requires.2) in
    let e = c.requires.3 in
    forms_objects.obj-summed b _ _ _ _ _ _ _ _ _ _ _ _ _ _ c.end_of-z.ensures e y g c.entries_width-w.ensures.1 (reserve-of c.args.o _ c.args.self.now.st _ (ready-low _ _ _ _ _ _ c.requires.0) c.reserve.ensures) c.entries-i.ensures.is pl

pub obj-returns-clause-is : goal.obj-returns-clause-is
obj-returns-clause-is t c =
    let b = c.args.tree.now in
    let y = c.requires.0 in
    let g = c.requires.1 in
    let e = c.requires.3 in
    forms_objects.obj-done b _ _ _ _ _ _ _ _ _ _ _ _ _ _ c.end_of-z.ensures e y g c.entries_width-w.ensures.1 (reserve-of c.args.o _ c.args.self.now.st _ (ready-low _ _ _ _ _ _ c.requires.0) c.reserve.ensures) c.entries-i.ensures.is c.entries_width-w.ensures.0 _ _ (λ ts at u a l v. sum-at _ _ _ c.args.o _ c.args.self.now.st _ _ _ _ c.requires.2 (ready-low _ _ _ _ _ _ c.requires.0) (c.sum_or.ensures ts at u a l v))

pub obj_entry-overflow_add-q : goal.obj_entry-overflow_add-q
obj_entry-overflow_add-q t c =
    let y = c.requires.0 in
    let g = c.requires.1 in
    omega (arith, g.2.fits, y.small)

pub obj_entry-end_of-v-requires : goal.obj_entry-end_of-v-requires
obj_entry-end_of-v-requires t c =
    let b = c.args.tree.now in
    let g = c.requires.1 in
    let key = term_fits b g.0 (c.args.q + 3) g.2.key in
    key

pub obj_entry-end_of-requires : goal.obj_entry-end_of-requires
obj_entry-end_of-requires t c =
    let g = c.requires.1 in
    g.2.fits

pub obj_entry-overflow_add-q-then-v-end_of : goal.obj_entry-overflow_add-q-then-v-end_of
obj_entry-overflow_add-q-then-v-end_of t c =
    let y = c.requires.0 in
    let g = c.requires.1 in
    omega (arith, g.2.fits, y.small)

pub obj_entry-iterm-requires : goal.obj_entry-iterm-requires
obj_entry-iterm-requires t c =
    let b = c.args.tree.now in
    let y = c.requires.0 in
    let g = c.requires.1 in
    let w = forms_objects.entry_key b _ _ _ _ y g in
    (omega (arith, c.decreases, g.2.fits), (w.0, w.1))

pub obj_entry-note-requires : goal.obj_entry-note-requires
obj_entry-note-requires t c =
    let b = c.args.tree.now in
    let y = c.requires.0 in
    (omega (arith, noting.note-room b _ _ _ _ _ y (omega arith), c.iterm.ensures.is.paid.same), noting.note-few b _ _ _ _ _ y (omega arith))

pub obj_entry-overflow_add-k : goal.obj_entry-overflow_add-k
obj_entry-overflow_add-k t c =
    let y = c.requires.0 in
    omega (arith, y.seen.within, y.seen.small)

pub obj_entry-iterm-requires-then-v-end_of : goal.obj_entry-iterm-requires-then-v-end_of
obj_entry-iterm-requires-then-v-end_of t c =
    let b = c.args.tree.now in
    let y = c.requires.0 in
    let g = c.requires.1 in
    let l : c.end_of-v.result < end_of b c.args.q = omega (arith, c.end_of.ensures, c.if-v-end_of.true) in
    let w = forms_objects.entry-value-at b _ _ _ _ _ _ _ _ _ _ _ _ _ c.end_of-v.ensures l y g refl c.iterm.ensures.is c.note.ensures in
    (omega (arith, c.decreases, g.2.fits, c.end_of-v.ensures, l), (w.0, w.1))

pub obj_entry-returns-then-v-end_of-clause-is : goal.obj_entry-returns-then-v-end_of-clause-is
obj_entry-returns-then-v-end_of-clause-is t c =
    let b = c.args.tree.now in
    let y = c.requires.0 in
    let g = c.requires.1 in
    let l : c.end_of-v.result < end_of b c.args.q = omega (arith, c.end_of.ensures, c.if-v-end_of.true) in
    forms_objects.pair-done b _ _ _ _ _ _ _ _ _ _ _ _ _ _ _ _ _ c.end_of-v.ensures l y g refl refl c.iterm.ensures.is c.note.ensures c.iterm-then-v-end_of.ensures.is

pub obj_entry-overflow_add-q-2 : goal.obj_entry-overflow_add-q-2
obj_entry-overflow_add-q-2 t c =
    let y = c.requires.0 in
    let g = c.requires.1 in
    omega (arith, g.2.fits, y.small)

pub obj_entry-bounds-tree-q : goal.obj_entry-bounds-tree-q
obj_entry-bounds-tree-q t c =
    let b = c.args.tree.now in
    let g = c.requires.1 in
    let key = term_fits b g.0 (c.args.q + 3) g.2.key in
    omega (arith, key)

pub obj_entry-overflow_add-q-then-tree-q : goal.obj_entry-overflow_add-q-then-tree-q
obj_entry-overflow_add-q-then-tree-q t c =
    let y = c.requires.0 in
    let g = c.requires.1 in
    omega (arith, g.2.fits, y.small)

pub obj_entry-own_var-requires : goal.obj_entry-own_var-requires
obj_entry-own_var-requires t c =
    let b = c.args.tree.now in
    let y = c.requires.0 in
    let g = c.requires.1 in
    (omega (arith, c.decreases, g.2.fits), ((c.args.q, omega arith, ready-part b _ _ c.args.q c.args.q (end_of b c.args.q) (end_of b (c.args.q + 3)) _ y (omega arith) (omega arith) (forms_objects.entry-mid b c.args.q g)), (g.0, g.2.key), c.if-tree-q.true))

pub obj_entry-returns-then-tree-q-clause-is : goal.obj_entry-returns-then-tree-q-clause-is
obj_entry-returns-then-tree-q-clause-is t c =
    let b = c.args.tree.now in
    let g = c.requires.1 in
    let l : end_of b c.args.q ≤ end_of b (c.args.q + 3) = omega (arith, c.end_of-v.ensures, c.end_of.ensures, c.if-v-end_of.false) in
    forms_objects.lone-entry b _ _ _ _ _ _ _ _ l g c.own_var.ensures.is

pub obj_entry-overflow_add-q-3 : goal.obj_entry-overflow_add-q-3
obj_entry-overflow_add-q-3 t c =
    let y = c.requires.0 in
    let g = c.requires.1 in
    omega (arith, g.2.fits, y.small)

pub obj_entry-own_key-requires : goal.obj_entry-own_key-requires
obj_entry-own_key-requires t c =
    let b = c.args.tree.now in
    let y = c.requires.0 in
    let g = c.requires.1 in
    let w = forms_objects.entry_key b _ _ _ _ y g in
    (omega (arith, c.decreases, g.2.fits), (w.0, w.1, c.if-tree-q.false))

pub obj_entry-returns-clause-is : goal.obj_entry-returns-clause-is
obj_entry-returns-clause-is t c =
    let b = c.args.tree.now in
    let g = c.requires.1 in
    let l : end_of b c.args.q ≤ end_of b (c.args.q + 3) = omega (arith, c.end_of-v.ensures, c.end_of.ensures, c.if-v-end_of.false) in
    forms_objects.lone-entry b _ _ _ _ _ _ _ _ l g c.own_key.ensures.is

pub open_def-overflow_add-q : goal.open_def-overflow_add-q
open_def-overflow_add-q t c = let y = c.requires.0 in omega (arith, y.small, y.within, y.order)

pub open_def-end_of-requires : goal.open_def-end_of-requires
open_def-end_of-requires t c = (open_at _ _ c.requires.1).0

pub open_def-params-u-requires : goal.open_def-params-u-requires
open_def-params-u-requires t c = open-params _ _ _ c.requires.1 c.end_of.ensures

pub open_def-bounds-self-1 : goal.open_def-bounds-self-1
open_def-bounds-self-1 t c = omega (arith, (ready-cells _ _ _ _ _ _ c.requires.0).0)

pub open_def-bounds-self-2 : goal.open_def-bounds-self-2
open_def-bounds-self-2 t c = omega (arith, (ready-cells _ _ _ _ _ _ c.requires.0).0)

pub open_def-overflow_add-q-2 : goal.open_def-overflow_add-q-2
open_def-overflow_add-q-2 t c = let y = c.requires.0 in omega (arith, y.small, y.within, y.order)

pub open_def-enter-requires : goal.open_def-enter-requires
open_def-enter-requires t c = let y = c.requires.0 in
    let o = open-known _ _ _ _ _ c.requires.1 c.end_of.ensures c.params-u.ensures in
    open-enter _ _ _ _ _ _ _ _ y o refl

pub open_def-overflow_add-k : goal.open_def-overflow_add-k
open_def-overflow_add-k t c = let y = c.requires.0 in
    let o = open-known _ _ _ _ _ c.requires.1 c.end_of.ensures c.params-u.ensures in
    omega (arith, open-rows _ _ _ _ _ _ _ _ y o refl)

pub open_def-overflow_add-k-2 : goal.open_def-overflow_add-k-2
open_def-overflow_add-k-2 t c = let y = c.requires.0 in
    let o = open-known _ _ _ _ _ c.requires.1 c.end_of.ensures c.params-u.ensures in
    omega (arith, open-rows _ _ _ _ _ _ _ _ y o refl)

pub open_def-iterm-t-requires : goal.open_def-iterm-t-requires
open_def-iterm-t-requires t c = let y = c.requires.0 in
    let o = open-known _ _ _ _ _ c.requires.1 c.end_of.ensures c.params-u.ensures in
    (omega (arith, c.decreases, o.low, o.last, o.fits), open-body _ _ _ _ _ _ _ _ y o refl _ c.enter.ensures)

pub open_def-overflow_add-k-3 : goal.open_def-overflow_add-k-3
open_def-overflow_add-k-3 t c = let y = c.requires.0 in
    let o = open-known _ _ _ _ _ c.requires.1 c.end_of.ensures c.params-u.ensures in
    omega (arith, open-rows _ _ _ _ _ _ _ _ y o refl)

pub open_def-overflow_add-k-4 : goal.open_def-overflow_add-k-4
open_def-overflow_add-k-4 t c = let y = c.requires.0 in
    let o = open-known _ _ _ _ _ c.requires.1 c.end_of.ensures c.params-u.ensures in
    omega (arith, open-rows _ _ _ _ _ _ _ _ y o refl)

pub open_def-leave-requires : goal.open_def-leave-requires
open_def-leave-requires t c = let y = c.requires.0 in
    let o = open-known _ _ _ _ _ c.requires.1 c.end_of.ensures c.params-u.ensures in
    open-leave _ _ _ _ _ _ _ _ y o refl _ c.enter.ensures _ _ _ _ c.args.allowed _ _ c.bit.ensures c.iterm-t.ensures.is

pub open_def-overflow_add-row : goal.open_def-overflow_add-row
open_def-overflow_add-row t c = let y = c.requires.0 in omega (arith, y.small, y.within, y.order)

pub open_def-push-requires : goal.open_def-push-requires
open_def-push-requires t c = let y = c.requires.0 in
    let o = open-known _ _ _ _ _ c.requires.1 c.end_of.ensures c.params-u.ensures in
    open-push _ _ _ _ _ _ _ _ y o refl _ c.enter.ensures _ _ _ _ c.args.allowed _ _ c.bit.ensures c.iterm-t.ensures.is _ c.leave.ensures

pub open_def-returns-clause-is : goal.open_def-returns-clause-is
open_def-returns-clause-is t c = let y = c.requires.0 in
    let o = open-known _ _ _ _ _ c.requires.1 c.end_of.ensures c.params-u.ensures in
    open-did _ _ _ _ _ _ _ _ y o refl _ c.enter.ensures _ _ _ _ _ _ _ c.bit.ensures c.iterm-t.ensures.is _ c.leave.ensures _ c.push.ensures _ c.end_of.ensures c.params-u.ensures

pub or_empty-iterm-requires : goal.or_empty-iterm-requires
or_empty-iterm-requires t c =
    let y = c.requires.0 in
    let g = c.requires.1 in
    (omega (arith, c.decreases), simple.some-ready _ _ _ _ _ _ y c.if-q-z.true g)

pub or_empty-returns-then-q-z-clause-is : goal.or_empty-returns-then-q-z-clause-is
or_empty-returns-then-q-z-clause-is t c =
    let y = c.requires.0 in
    let g = c.requires.1 in
    simple.some-empty _ _ _ _ _ _ _ _ _ _ _ c.if-q-z.true g c.iterm.ensures.is

pub or_empty-supplied-requires : goal.or_empty-supplied-requires
or_empty-supplied-requires t c =
    let y = c.requires.0 in
    let g = c.requires.1 in
    ((y.view, c.args.k, y.seen), y.small, omega arith, omega arith, omega (arith, y.nums), omega (arith, y.offs), omega (arith, y.errs))

pub or_empty-returns-clause-is : goal.or_empty-returns-clause-is
or_empty-returns-clause-is t c =
    let y = c.requires.0 in
    let g = c.requires.1 in
    simple.none-empty _ _ _ _ _ _ _ _ _ c.if-q-z.false g c.supplied.ensures.0 c.supplied.ensures.1 c.supplied.ensures.2 c.supplied.ensures.3

pub other-term-requires : goal.other-term-requires
other-term-requires t c =
    let y = c.requires.0 in
    let g = c.requires.1 in
    let w = conditional.else-ready _ _ _ _ _ _ y c.if-q-z.true g in
    (omega (arith, c.decreases), (w.0, w.1, tt))

pub other-returns-then-q-z-clause-is : goal.other-returns-then-q-z-clause-is
other-returns-then-q-z-clause-is t c =
    let y = c.requires.0 in
    let g = c.requires.1 in
    conditional.else-some _ _ _ _ _ _ _ _ _ _ _ _ c.if-q-z.true g c.term.ensures.is

pub other-bare-requires : goal.other-bare-requires
other-bare-requires t c =
    let y = c.requires.0 in
    let g = c.requires.1 in
    (omega arith, omega (arith, y.offs))

pub other-returns-clause-is : goal.other-returns-clause-is
other-returns-clause-is t c =
    let y = c.requires.0 in
    let g = c.requires.1 in
    asks.else-bare _ _ _ _ _ _ _ _ _ _ _ c.if-q-z.false (omega (arith, y.offs)) g (bare-of None _ _ _ _ c.args.self.now.st _ _ _ _ tt (ready-low _ _ _ _ _ _ c.requires.0) (ready-low _ _ _ _ _ _ c.requires.0) c.bare.ensures)

pub own_key-iterm-requires : goal.own_key-iterm-requires
own_key-iterm-requires t c =
    let y = c.requires.0 in
    let g = c.requires.1 in
    (omega (arith, c.decreases), (y, g))

pub own_key-insert-requires : goal.own_key-insert-requires
own_key-insert-requires t c =
    let b = c.args.tree.now in
    let y = c.requires.0 in
    let a = forms_objects.key-rooms b _ _ _ _ _ _ _ _ _ y c.iterm.ensures.is in
    (omega (arith, a.0), omega (arith, a.1))

pub own_key-put_bare-requires : goal.own_key-put_bare-requires
own_key-put_bare-requires t c =
    let b = c.args.tree.now in
    let y = c.requires.0 in
    let a = forms_objects.key-rooms b _ _ _ _ _ _ _ _ _ y c.iterm.ensures.is in
    omega (arith, c.insert.ensures.0, a.1)

pub own_key-insert-requires-2 : goal.own_key-insert-requires-2
own_key-insert-requires-2 t c =
    let b = c.args.tree.now in
    let y = c.requires.0 in
    let a = forms_objects.key-rooms-next b _ _ _ _ _ _ _ _ _ _ y c.iterm.ensures.is c.insert.ensures.1 in
    (omega (arith, a.0), omega (arith, a.1))

pub own_key-put_own-requires : goal.own_key-put_own-requires
own_key-put_own-requires t c =
    let b = c.args.tree.now in
    let y = c.requires.0 in
    let a = forms_objects.key-rooms-next b _ _ _ _ _ _ _ _ _ _ y c.iterm.ensures.is c.insert.ensures.1 in
    omega (arith, c.insert-2.ensures.0, a.1)

pub own_key-overflow_add-b : goal.own_key-overflow_add-b
own_key-overflow_add-b t c =
    let b = c.args.tree.now in
    let y = c.requires.0 in
    let a = forms_objects.key-rooms b _ _ _ _ _ _ _ _ _ y c.iterm.ensures.is in
    omega (arith, a.0)

pub own_key-note-requires : goal.own_key-note-requires
own_key-note-requires t c =
    let b = c.args.tree.now in
    let y = c.requires.0 in
    (omega (arith, noting.note-room b _ _ _ _ _ y (omega arith), c.iterm.ensures.is.paid.same), noting.note-few b _ _ _ _ _ y (omega arith))

pub own_key-returns-clause-is : goal.own_key-returns-clause-is
own_key-returns-clause-is t c =
    let b = c.args.tree.now in
    let y = c.requires.0 in
    forms_objects.key-is b _ _ _ _ _ _ _ _ _ _ _ _ _ _ _ _ _ _ c.requires.2 y refl c.iterm.ensures.is refl c.insert.ensures.0 c.insert.ensures.1 c.put_bare.ensures c.insert-2.ensures.0 c.insert-2.ensures.1 c.put_own.ensures c.note.ensures

pub own_var-end_of-z-requires : goal.own_var-end_of-z-requires
own_var-end_of-z-requires t c =
    let b = c.args.tree.now in
    let g = c.requires.1 in
    let e = c.requires.2 in
    let h = forms_objects.var-long b c.args.p e g in
    h.1

pub own_var-overflow_sub-z : goal.own_var-overflow_sub-z
own_var-overflow_sub-z t c =
    let b = c.args.tree.now in
    let y = c.requires.0.2 in
    let g = c.requires.1 in
    let e = c.requires.2 in
    let h = forms_objects.var-long b c.args.p e g in
    omega (arith, c.end_of-z.ensures, h.0, h.1, y.small)

pub own_var-overflow_sub-z-2 : goal.own_var-overflow_sub-z-2
own_var-overflow_sub-z-2 t c =
    let b = c.args.tree.now in
    let y = c.requires.0.2 in
    let g = c.requires.1 in
    let e = c.requires.2 in
    let h = forms_objects.var-long b c.args.p e g in
    omega (arith, c.end_of-z.ensures, h.0, h.1, y.small)

pub own_var-insert-requires : goal.own_var-insert-requires
own_var-insert-requires t c =
    let b = c.args.tree.now in
    let y = c.requires.0.2 in
    let g = c.requires.1 in
    let e = c.requires.2 in
    let h = forms_objects.var-long b c.args.p e g in
    (omega (arith, y.nums), omega (arith, y.offs, c.end_of-z.ensures, h.1, y.small))

pub own_var-overflow_add-p : goal.own_var-overflow_add-p
own_var-overflow_add-p t c =
    let b = c.args.tree.now in
    let y = c.requires.0.2 in
    let g = c.requires.1 in
    let e = c.requires.2 in
    let h = forms_objects.var-long b c.args.p e g in
    omega (arith, c.end_of-z.ensures, h.0, h.1, y.small)

pub own_var-slice_bounds-put_text-count : goal.own_var-slice_bounds-put_text-count
own_var-slice_bounds-put_text-count t c =
    let b = c.args.tree.now in
    let y = c.requires.0.2 in
    let g = c.requires.1 in
    let e = c.requires.2 in
    let h = forms_objects.var-long b c.args.p e g in
    omega (arith, c.end_of-z.ensures, h.0, h.1, y.small)

pub own_var-slice_bounds-put_text-start : goal.own_var-slice_bounds-put_text-start
own_var-slice_bounds-put_text-start t c =
    let b = c.args.tree.now in
    let y = c.requires.0.2 in
    let g = c.requires.1 in
    let e = c.requires.2 in
    let h = forms_objects.var-long b c.args.p e g in
    omega (arith, c.end_of-z.ensures, h.0, h.1, y.small)

pub own_var-slice_bounds-put_text-end : goal.own_var-slice_bounds-put_text-end
own_var-slice_bounds-put_text-end t c =
    let b = c.args.tree.now in
    let y = c.requires.0.2 in
    let g = c.requires.1 in
    let e = c.requires.2 in
    let h = forms_objects.var-long b c.args.p e g in
    omega (arith, c.end_of-z.ensures, h.0, h.1, y.small)

pub own_var-put_text-requires : goal.own_var-put_text-requires
own_var-put_text-requires t c =
    let b = c.args.tree.now in
    let y = c.requires.0.2 in
    omega (arith, c.insert.ensures.0, y.offs, y.small, noting.part-long b (c.end_of-z.result - (c.args.p + 4)) (c.args.p + 4))

pub own_var-iterm-requires : goal.own_var-iterm-requires
own_var-iterm-requires t c =
    let b = c.args.tree.now in
    let l = c.requires.0.1 in
    let y = c.requires.0.2 in
    let g = c.requires.1 in
    let e = c.requires.2 in
    (omega (arith, c.decreases), (forms_objects.var-ready b _ _ _ _ _ _ _ _ l e y g c.end_of-z.ensures refl c.insert.ensures.1, g))

pub own_var-overflow_add-a : goal.own_var-overflow_add-a
own_var-overflow_add-a t c =
    let y = c.requires.0.2 in
    omega (arith, y.nums)

pub own_var-note-requires : goal.own_var-note-requires
own_var-note-requires t c =
    let b = c.args.tree.now in
    let l = c.requires.0.1 in
    let y = c.requires.0.2 in
    (omega (arith, noting.note-room b _ _ _ _ _ y (omega (arith, l)), c.iterm.ensures.is.paid.same), noting.note-few b _ _ _ _ _ y (omega (arith, l)))

pub own_var-returns-clause-is : goal.own_var-returns-clause-is
own_var-returns-clause-is t c =
    let b = c.args.tree.now in
    let l = c.requires.0.1 in
    let y = c.requires.0.2 in
    let g = c.requires.1 in
    let e = c.requires.2 in
    let h = forms_objects.var-long b c.args.p e g in
    let n : c.args.p + 4 ≤ c.end_of-z.result = omega (arith, c.end_of-z.ensures, h.0) in
    let f : c.end_of-z.result ≤ length b = omega (arith, c.end_of-z.ensures, h.1) in
    forms_objects.var-is b _ _ _ _ _ _ _ _ _ _ _ _ _ _ _ _ _ _ l e y g refl c.end_of-z.ensures refl c.insert.ensures.0 c.insert.ensures.1 (noting.name-part b c.args.p c.end_of-z.result c.end_of-z.ensures n f) c.put_text.ensures c.iterm.ensures.is c.note.ensures

pub pairs-loop-a-init : goal.pairs-loop-a-init
pairs-loop-a-init t c =
    (record { rows = refl; out = refl }, pairing.pairs_start _ _ _ _ _ _ _ _ c.requires.1)

pub pairs-is_tag-requires : goal.pairs-is_tag-requires
pairs-is_tag-requires t c =
    let y = c.requires.0 in
    let m = c.loop-a.invariant.1 in
    let v = pairing.pairs-ready _ _ _ _ _ _ _ _ _ _ _ _ _ _ y m in
    v.within

pub pairs-overflow_add-p : goal.pairs-overflow_add-p
pairs-overflow_add-p t c =
    let y = c.requires.0 in
    let m = c.loop-a.invariant.1 in
    let v = pairing.pairs-ready _ _ _ _ _ _ _ _ _ _ _ _ _ _ y m in
    let h = tag-yes c.args.tree.now c.loop-a.p c.args.z 0xB8 (sym c.is_tag.ensures ∙ c.loop-a-test.true) in
    let a = pairing.pair-test _ _ _ _ _ _ v h.0 h.1 m.some in
    omega (arith, a.2, y.small)

pub pairs-iterm-t-requires : goal.pairs-iterm-t-requires
pairs-iterm-t-requires t c =
    let y = c.requires.0 in
    let m = c.loop-a.invariant.1 in
    let v = pairing.pairs-ready _ _ _ _ _ _ _ _ _ _ _ _ _ _ y m in
    let h = tag-yes c.args.tree.now c.loop-a.p c.args.z 0xB8 (sym c.is_tag.ensures ∙ c.loop-a-test.true) in
    let a = pairing.pair-test _ _ _ _ _ _ v h.0 h.1 m.some in
    (omega (arith, c.decreases, m.rows, m.low, a.2), (a.0, a.1))

pub pairs-note-requires : goal.pairs-note-requires
pairs-note-requires t c =
    let y = c.requires.0 in
    let m = c.loop-a.invariant.1 in
    let v = pairing.pairs-ready _ _ _ _ _ _ _ _ _ _ _ _ _ _ y m in
    let h = tag-yes c.args.tree.now c.loop-a.p c.args.z 0xB8 (sym c.is_tag.ensures ∙ c.loop-a-test.true) in
    let a = pairing.pair-test _ _ _ _ _ _ v h.0 h.1 m.some in
    let w = asks.note-laid _ _ _ _ _ _ _ _ _ _ _ _ _ _ v h.0 (omega (arith, a.2)) c.iterm-t.ensures.is refl in (w.0, w.1)

pub pairs-overflow_add-p-in-loop-a : goal.pairs-overflow_add-p-in-loop-a
pairs-overflow_add-p-in-loop-a t c =
    let y = c.requires.0 in
    let m = c.loop-a.invariant.1 in
    let v = pairing.pairs-ready _ _ _ _ _ _ _ _ _ _ _ _ _ _ y m in
    let h = tag-yes c.args.tree.now c.loop-a.p c.args.z 0xB8 (sym c.is_tag.ensures ∙ c.loop-a-test.true) in
    let a = pairing.pair-test _ _ _ _ _ _ v h.0 h.1 m.some in
    omega (arith, a.2, y.small)

pub pairs-end_of-requires : goal.pairs-end_of-requires
pairs-end_of-requires t c =
    let y = c.requires.0 in
    let m = c.loop-a.invariant.1 in
    let v = pairing.pairs-ready _ _ _ _ _ _ _ _ _ _ _ _ _ _ y m in
    let h = tag-yes c.args.tree.now c.loop-a.p c.args.z 0xB8 (sym c.is_tag.ensures ∙ c.loop-a-test.true) in
    let a = pairing.pair-test _ _ _ _ _ _ v h.0 h.1 m.some in
    asks.stands-fits _ _ a.1

pub pairs-overflow_add-i : goal.pairs-overflow_add-i
pairs-overflow_add-i t c =
    let y = c.requires.0 in
    let m = c.loop-a.invariant.1 in
    let v = pairing.pairs-ready _ _ _ _ _ _ _ _ _ _ _ _ _ _ y m in
    let h = tag-yes c.args.tree.now c.loop-a.p c.args.z 0xB8 (sym c.is_tag.ensures ∙ c.loop-a-test.true) in
    let a = pairing.pair-test _ _ _ _ _ _ v h.0 h.1 m.some in
    omega (arith, v.seen.small, v.seen.within)

pub pairs-iterm-t-requires-in-loop-a : goal.pairs-iterm-t-requires-in-loop-a
pairs-iterm-t-requires-in-loop-a t c =
    let y = c.requires.0 in
    let m = c.loop-a.invariant.1 in
    let v = pairing.pairs-ready _ _ _ _ _ _ _ _ _ _ _ _ _ _ y m in
    let h = tag-yes c.args.tree.now c.loop-a.p c.args.z 0xB8 (sym c.is_tag.ensures ∙ c.loop-a-test.true) in
    let a = pairing.pair-test _ _ _ _ _ _ v h.0 h.1 m.some in
    let n = asks.noting _ _ _ _ _ _ _ _ _ _ v h.0 (omega (arith, a.2)) c.iterm-t.ensures.is.paid.same refl c.note.ensures in
    let w = pairing.pair_then _ _ _ _ _ _ _ _ _ _ _ _ _ _ v h.0 h.1 m.some c.iterm-t.ensures.is n in
    (omega (arith, c.decreases, m.rows, m.low, a.2, a.3, c.end_of.ensures), simple.at_place _ _ _ _ _ c.end_of.ensures w)

pub pairs-end_of-p-requires : goal.pairs-end_of-p-requires
pairs-end_of-p-requires t c =
    let y = c.requires.0 in
    let m = c.loop-a.invariant.1 in
    let v = pairing.pairs-ready _ _ _ _ _ _ _ _ _ _ _ _ _ _ y m in
    let h = tag-yes c.args.tree.now c.loop-a.p c.args.z 0xB8 (sym c.is_tag.ensures ∙ c.loop-a-test.true) in
    let a = pairing.pair-test _ _ _ _ _ _ v h.0 h.1 m.some in
    a.2

pub pairs-overflow_add-i-in-loop-a : goal.pairs-overflow_add-i-in-loop-a
pairs-overflow_add-i-in-loop-a t c =
    let y = c.requires.0 in
    let m = c.loop-a.invariant.1 in
    let v = pairing.pairs-ready _ _ _ _ _ _ _ _ _ _ _ _ _ _ y m in
    let h = tag-yes c.args.tree.now c.loop-a.p c.args.z 0xB8 (sym c.is_tag.ensures ∙ c.loop-a-test.true) in
    let a = pairing.pair-test _ _ _ _ _ _ v h.0 h.1 m.some in
    omega (arith, v.seen.small, v.seen.within)

pub pairs-loop-a-smaller : goal.pairs-loop-a-smaller
pairs-loop-a-smaller t c =
    let y = c.requires.0 in
    let m = c.loop-a.invariant.1 in
    let v = pairing.pairs-ready _ _ _ _ _ _ _ _ _ _ _ _ _ _ y m in
    let h = tag-yes c.args.tree.now c.loop-a.p c.args.z 0xB8 (sym c.is_tag.ensures ∙ c.loop-a-test.true) in
    let a = pairing.pair-test _ _ _ _ _ _ v h.0 h.1 m.some in
    omega (arith, a.2, c.end_of-p.ensures)

pub pairs-loop-a-preserved : goal.pairs-loop-a-preserved
pairs-loop-a-preserved t c =
    let y = c.requires.0 in
    let m = c.loop-a.invariant.1 in
    let v = pairing.pairs-ready _ _ _ _ _ _ _ _ _ _ _ _ _ _ y m in
    let h = tag-yes c.args.tree.now c.loop-a.p c.args.z 0xB8 (sym c.is_tag.ensures ∙ c.loop-a-test.true) in
    let a = pairing.pair-test _ _ _ _ _ _ v h.0 h.1 m.some in
    let n = asks.noting _ _ _ _ _ _ _ _ _ _ v h.0 (omega (arith, a.2)) c.iterm-t.ensures.is.paid.same refl c.note.ensures in
    (record { rows = c.iterm-t-in-loop-a.ensures.same.rows ∙ c.iterm-t.ensures.same.rows ∙ c.loop-a.invariant.0.rows; out = c.iterm-t-in-loop-a.ensures.same.out ∙ c.iterm-t.ensures.same.out ∙ c.loop-a.invariant.0.out }, pairing.at_next _ _ _ _ _ _ _ _ _ _ _ _ _ _ _ c.end_of-p.ensures (pairing.pair-more _ _ _ _ _ _ _ _ _ _ _ _ _ _ _ _ _ _ _ _ _ _ _ _ _ y h.0 h.1 m refl c.iterm-t.ensures.is refl n (simple.laid-at _ _ _ _ _ _ _ _ _ _ _ _ c.end_of.ensures c.iterm-t-in-loop-a.ensures.is)))

pub pairs-returns-clause-is : goal.pairs-returns-clause-is
pairs-returns-clause-is t c =
    let y = c.requires.0 in
    let m = c.loop-a.invariant.1 in
    pairing.pairs-done _ _ _ _ _ _ _ _ _ _ _ _ _ _ _ (tag-no c.args.tree.now c.loop-a.p c.args.z 0xB8 (sym c.is_tag.ensures ∙ c.loop-a-test.false)) m refl refl refl

pub part-bounds-tree-q : goal.part-bounds-tree-q
part-bounds-tree-q t c =
    let b = c.args.tree.now in
    let g = c.requires.1 in
    let fits = forms_paths.part-fits b c.args.q g in
    omega (arith, fits)

pub part-overflow_add-q : goal.part-overflow_add-q
part-overflow_add-q t c =
    let b = c.args.tree.now in
    let y = c.requires.0 in
    let g = c.requires.1 in
    let fits = forms_paths.part-fits b c.args.q g in
    omega (arith, fits, y.small)

pub part-iterm-requires : goal.part-iterm-requires
part-iterm-requires t c =
    let b = c.args.tree.now in
    let y = c.requires.0 in
    let g = c.requires.1 in
    let fits = forms_paths.part-fits b c.args.q g in
    let w = forms_paths.index-ready b _ _ _ _ c.if-tree-q.true y g in
    (omega (arith, c.decreases, fits), (w.0, w.1))

pub part-note-requires : goal.part-note-requires
part-note-requires t c =
    let b = c.args.tree.now in
    let y = c.requires.0 in
    (omega (arith, noting.note-room b _ _ _ _ _ y (omega arith), c.iterm.ensures.is.paid.same), noting.note-few b _ _ _ _ _ y (omega arith))

pub part-returns-then-tree-q-clause-is : goal.part-returns-then-tree-q-clause-is
part-returns-then-tree-q-clause-is t c =
    let b = c.args.tree.now in
    let y = c.requires.0 in
    let g = c.requires.1 in
    forms_paths.index_is b _ _ _ _ _ _ _ _ _ _ _ c.if-tree-q.true y g refl c.iterm.ensures.is c.note.ensures

pub part-end_of-z-requires : goal.part-end_of-z-requires
part-end_of-z-requires t c =
    let b = c.args.tree.now in
    let g = c.requires.1 in
    let fits = forms_paths.part-fits b c.args.q g in
    fits

pub part-overflow_add-q-2 : goal.part-overflow_add-q-2
part-overflow_add-q-2 t c =
    let b = c.args.tree.now in
    let y = c.requires.0 in
    let g = c.requires.1 in
    let fits = forms_paths.part-fits b c.args.q g in
    omega (arith, fits, y.small)

pub part-bound-requires : goal.part-bound-requires
part-bound-requires t c =
    let b = c.args.tree.now in
    let y = c.requires.0 in
    let g = c.requires.1 in
    let fits = forms_paths.part-fits b c.args.q g in
    let w = forms_paths.range-from-at b _ _ _ _ _ c.end_of-z.ensures c.if-tree-q.false y g in
    (omega (arith, c.decreases, fits), (w.0, w.1))

pub part-note-requires-2 : goal.part-note-requires-2
part-note-requires-2 t c =
    let b = c.args.tree.now in
    let y = c.requires.0 in
    (omega (arith, noting.note-room b _ _ _ _ _ y (omega arith), c.bound.ensures.is.paid.same), noting.note-few b _ _ _ _ _ y (omega arith))

pub part-overflow_add-q-3 : goal.part-overflow_add-q-3
part-overflow_add-q-3 t c =
    let b = c.args.tree.now in
    let y = c.requires.0 in
    let g = c.requires.1 in
    let fits = forms_paths.part-fits b c.args.q g in
    omega (arith, fits, y.small)

pub part-past-requires : goal.part-past-requires
part-past-requires t c =
    let b = c.args.tree.now in
    let g = c.requires.1 in
    forms_paths.range-past b _ _ c.end_of-z.ensures c.if-tree-q.false g

pub part-overflow_add-k : goal.part-overflow_add-k
part-overflow_add-k t c =
    let y = c.requires.0 in
    omega (arith, y.seen.within, y.seen.small)

pub part-bound-requires-2 : goal.part-bound-requires-2
part-bound-requires-2 t c =
    let b = c.args.tree.now in
    let y = c.requires.0 in
    let g = c.requires.1 in
    let fits = forms_paths.part-fits b c.args.q g in
    let w = forms_paths.range-upto-at b _ _ _ _ _ _ _ _ _ _ _ _ _ c.end_of-z.ensures c.past.ensures c.if-tree-q.false y g refl c.bound.ensures.is c.note-2.ensures in
    (omega (arith, c.decreases, fits, w.2), (w.0, w.1))

pub part-returns-clause-is : goal.part-returns-clause-is
part-returns-clause-is t c =
    let b = c.args.tree.now in
    let y = c.requires.0 in
    let g = c.requires.1 in
    forms_paths.range-done-at b _ _ _ _ _ _ _ _ _ _ _ _ _ _ _ _ c.end_of-z.ensures c.past.ensures c.if-tree-q.false y g refl refl c.bound.ensures.is c.note-2.ensures c.bound-2.ensures.is

pub parts-loop-p-init : goal.parts-loop-p-init
parts-loop-p-init t c =
    let b = c.args.tree.now in
    let y = c.requires.0 in
    let g = c.requires.1 in
    let i = begun b c.args.q c.args.z _ c.into_iter-p-iterator.result c.into_iter-p-iterator.ensures.into_iter_gives c.fields-p-items.ensures y.within (_, g.1) in
    (i.0, i.1, record { rows = refl; out = refl }, forms_paths.parts-on _ _ _ _ _ _ _ _ _ _ _ _ _ i.2 (forms_paths.parts-start b _ _ _ _ _ _ y g))

pub parts-part-requires : goal.parts-part-requires
parts-part-requires t c =
    let b = c.args.tree.now in
    let n = turn c.loop-p.p-iterator c.next.new.self c.loop-p.invariant.1 c.in-Some.ensures.steps c.in-Some.ensures.goes.keeps in
    let v = forms_paths.parts-on _ _ _ _ _ _ _ _ _ _ _ _ _ n.here c.loop-p.invariant.3 in
    let w = forms_paths.parts_next b _ _ _ _ _ _ _ _ _ _ _ v n.within in
    (omega (arith, c.decreases, v.low, w.2), (w.0, w.1))

pub parts-overflow_add-i : goal.parts-overflow_add-i
parts-overflow_add-i t c =
    let n = turn c.loop-p.p-iterator c.next.new.self c.loop-p.invariant.1 c.in-Some.ensures.steps c.in-Some.ensures.goes.keeps in
    let v = forms_paths.parts-on _ _ _ _ _ _ _ _ _ _ _ _ _ n.here c.loop-p.invariant.3 in
    omega (arith, v.ready.seen.within, v.ready.seen.small)

pub parts-loop-p-preserved : goal.parts-loop-p-preserved
parts-loop-p-preserved t c =
    let b = c.args.tree.now in
    let n = turn c.loop-p.p-iterator c.next.new.self c.loop-p.invariant.1 c.in-Some.ensures.steps c.in-Some.ensures.goes.keeps in
    let v = forms_paths.parts-on _ _ _ _ _ _ _ _ _ _ _ _ _ n.here c.loop-p.invariant.3 in
    (c.in-Some.ensures.goes.keeps, n.over, record { rows = c.part.ensures.same.rows ∙ c.loop-p.invariant.2.rows; out = c.part.ensures.same.out ∙ c.loop-p.invariant.2.out }, forms_paths.parts_again b _ _ _ _ _ _ _ _ _ _ _ _ _ _ _ v n.within c.part.ensures.is n.next)

pub parts-returns-clause-is : goal.parts-returns-clause-is
parts-returns-clause-is t c =
    let l = turned c.loop-p.p-iterator c.next.new.self c.loop-p.invariant.1 c.in-None.ensures.steps in
    let b = c.args.tree.now in
    let v = c.loop-p.invariant.3 in
    forms_paths.parts-done b _ _ _ _ _ _ _ _ _ _ _ v l

pub path-end_of-z-requires : goal.path-end_of-z-requires
path-end_of-z-requires t c =
    let b = c.args.tree.now in
    let g = c.requires.1 in
    let fits = term_fits b g.0 c.args.p g.1 in
    fits

pub path-overflow_add-p : goal.path-overflow_add-p
path-overflow_add-p t c =
    let b = c.args.tree.now in
    let y = c.requires.0 in
    let g = c.requires.1 in
    let fits = term_fits b g.0 c.args.p g.1 in
    omega (arith, fits, y.small)

pub path-end_of-q-requires : goal.path-end_of-q-requires
path-end_of-q-requires t c =
    let b = c.args.tree.now in
    let g = c.requires.1 in
    let e = c.requires.3 in
    (forms_paths.path-ends b c.args.p _ _ refl refl e g).0

pub path-parts_width-w-requires : goal.path-parts_width-w-requires
path-parts_width-w-requires t c =
    let b = c.args.tree.now in
    let g = c.requires.1 in
    let e = c.requires.3 in
    forms_paths.path-here b c.args.p _ _ c.end_of-q.ensures c.end_of-z.ensures e g

pub path-overflow_add-w : goal.path-overflow_add-w
path-overflow_add-w t c =
    let b = c.args.tree.now in
    let y = c.requires.0 in
    let g = c.requires.1 in
    let e = c.requires.3 in
    let h = forms_paths.path-ends b c.args.p _ _ c.end_of-q.ensures c.end_of-z.ensures e g in
    omega (arith, c.parts_width-w.ensures.1, h.3, y.small)

pub path-reserve-requires : goal.path-reserve-requires
path-reserve-requires t c =
    let b = c.args.tree.now in
    let y = c.requires.0 in
    let g = c.requires.1 in
    let pl = (due-placed c.args.o c.args.self.now.st c.requires.2) in
    let e = c.requires.3 in
    let h = forms_paths.path-ends b c.args.p _ _ c.end_of-q.ensures c.end_of-z.ensures e g in
    omega (arith, noting.placed-low _ c.args.self.now.st pl (omega (arith, y.offs)), c.parts_width-w.ensures.1, h.3, y.small)

pub path-overflow_add-p-2 : goal.path-overflow_add-p-2
path-overflow_add-p-2 t c =
    let b = c.args.tree.now in
    let y = c.requires.0 in
    let g = c.requires.1 in
    let fits = term_fits b g.0 c.args.p g.1 in
    omega (arith, fits, y.small)

pub path-iterm-requires : goal.path-iterm-requires
path-iterm-requires t c =
    let b = c.args.tree.now in
    let y = c.requires.0 in
    let g = c.requires.1 in
    let e = c.requires.3 in
    let fits = term_fits b g.0 c.args.p g.1 in
    let h = forms_paths.path-ends b c.args.p _ _ c.end_of-q.ensures c.end_of-z.ensures e g in
    let few : 7 + c.parts_width-w.result ≤ 2097152 = omega (arith, c.parts_width-w.ensures.1, h.3, y.small) in
    let w = forms_paths.path-ready b _ _ _ _ _ _ _ e y g few (reserve-of c.args.o _ c.args.self.now.st _ (ready-low _ _ _ _ _ _ c.requires.0) c.reserve.ensures) in
    (omega (arith, c.decreases, fits), (w.0, w.1))

pub path-parts-i-requires : goal.path-parts-i-requires
path-parts-i-requires t c =
    let b = c.args.tree.now in
    let y = c.requires.0 in
    let g = c.requires.1 in
    let e = c.requires.3 in
    let h = forms_paths.path-ends b c.args.p _ _ c.end_of-q.ensures c.end_of-z.ensures e g in
    let few : 7 + c.parts_width-w.result ≤ 2097152 = omega (arith, c.parts_width-w.ensures.1, h.3, y.small) in
    let w = forms_paths.path-rest-at b _ _ _ _ _ _ _ _ _ _ _ _ _ _ c.end_of-q.ensures c.end_of-z.ensures e y g few (reserve-of c.args.o _ c.args.self.now.st _ (ready-low _ _ _ _ _ _ c.requires.0) c.reserve.ensures) c.iterm.ensures.is in
    (omega (arith, c.decreases, h.1, h.2, h.3), (w.0, w.1))

pub path-place-requires : goal.path-place-requires
path-place-requires t c =
    let b = c.args.tree.now in
    let y = c.requires.0 in
    let g = c.requires.1 in
    let e = c.requires.3 in
    forms_paths.path-rooms b _ _ _ _ _ _ _ _ _ _ _ _ _ _ _ _ _ _ c.end_of-q.ensures c.end_of-z.ensures e y g c.parts_width-w.ensures.1 (reserve-of c.args.o _ c.args.self.now.st _ (ready-low _ _ _ _ _ _ c.requires.0) c.reserve.ensures) c.iterm.ensures.is c.parts-i.ensures.is

pub path-put_path-requires : goal.path-put_path-requires
path-put_path-requires t c =
    let b = c.args.tree.now in
    let y = c.requires.0 in
    let g = c.requires.1 in
    let pl = (due-placed c.args.o c.args.self.now.st c.requires.2) in
    let e = c.requires.3 in
    let h = forms_paths.path-ends b c.args.p _ _ c.end_of-q.ensures c.end_of-z.ensures e g in
    let few : 7 + c.parts_width-w.result ≤ 2097152 = omega (arith, c.parts_width-w.ensures.1, h.3, y.small) in
    forms_paths.path-put-at b _ _ _ _ _ _ _ _ _ _ _ _ _ _ _ _ _ _ _ c.end_of-q.ensures c.end_of-z.ensures e y g pl c.parts_width-w.ensures.0 few (reserve-of c.args.o _ c.args.self.now.st _ (ready-low _ _ _ _ _ _ c.requires.0) c.reserve.ensures) c.iterm.ensures.is c.parts-i.ensures.is (place-spot c.args.o _ _ c.args.self.now.st c.requires.2 (ready-low _ _ _ _ _ _ c.requires.0) c.place.ensures.0)

pub path-returns-clause-is : goal.path-returns-clause-is
path-returns-clause-is t c =
    let b = c.args.tree.now in
    let y = c.requires.0 in
    let g = c.requires.1 in
    let e = c.requires.3 in
    forms_paths.path-done b _ _ _ _ _ _ _ _ _ _ _ _ _ _ _ _ _ _ _ _ _ _ c.end_of-q.ensures c.end_of-z.ensures e y g c.parts_width-w.ensures.0 (reserve-of c.args.o _ c.args.self.now.st _ (ready-low _ _ _ _ _ _ c.requires.0) c.reserve.ensures) refl c.iterm.ensures.is c.parts-i.ensures.is (place-spot c.args.o _ _ c.args.self.now.st c.requires.2 (ready-low _ _ _ _ _ _ c.requires.0) c.place.ensures.0) (place-next c.args.o _ c.args.self.now.st _ _ c.requires.2 (ready-low _ _ _ _ _ _ c.requires.0) c.place.ensures.1) c.put_path.ensures

pub pattern-bounds-tree-q : goal.pattern-bounds-tree-q
pattern-bounds-tree-q t c =
    let y = c.requires.0 in
    omega (arith, y.order, y.within)

pub pattern-note-requires : goal.pattern-note-requires
pattern-note-requires t c =
    let y = c.requires.0 in
    (pats.pattern-room c.args.tree.now c.args.self.now.rows.now c.args.k c.args.q c.requires.2.0 c.requires.2.1 c.requires.1, c.requires.3)

pub pattern-overflow_add-result : goal.pattern-overflow_add-result
pattern-overflow_add-result t c =
    let y = c.requires.0 in
    omega (arith, pats.pattern-room c.args.tree.now c.args.self.now.rows.now c.args.k c.args.q c.requires.2.0 c.requires.2.1 c.requires.1, y.seen.small)

pub pattern-returns-then-tag-clause-is : goal.pattern-returns-then-tag-clause-is
pattern-returns-then-tag-clause-is t c =
    let y = c.requires.0 in
    pats.pattern-var _ _ _ _ _ _ _ _ c.if-tag.true (omega (arith, y.within)) (asks_b.pattern-note _ _ _ _ _ _ _ _ c.requires.2.1 c.requires.1 c.requires.3 c.note.ensures)

pub pattern-note-requires-2 : goal.pattern-note-requires-2
pattern-note-requires-2 t c =
    let y = c.requires.0 in
    (pats.pattern-room c.args.tree.now c.args.self.now.rows.now c.args.k c.args.q c.requires.2.0 c.requires.2.1 c.requires.1, c.requires.3)

pub pattern-overflow_add-k : goal.pattern-overflow_add-k
pattern-overflow_add-k t c =
    let y = c.requires.0 in
    omega (arith, pats.pattern-room c.args.tree.now c.args.self.now.rows.now c.args.k c.args.q c.requires.2.0 c.requires.2.1 c.requires.1, y.seen.small)

pub pattern-items-requires : goal.pattern-items-requires
pattern-items-requires t c =
    let y = c.requires.0 in
    let i = pats.pattern-items _ _ c.if-tag-2.true _ c.requires.2.1 in
    (omega (arith, c.decreases), (pats.pattern-within _ _ _ _ _ _ _ y c.requires.1 _ c.requires.2.1 (asks_b.pattern-note _ _ _ _ _ _ _ _ c.requires.2.1 c.requires.1 c.requires.3 c.note-2.ensures), i.0, i.1))

pub pattern-returns-then-tag-2-clause-is : goal.pattern-returns-then-tag-2-clause-is
pattern-returns-then-tag-2-clause-is t c =
    let y = c.requires.0 in
    pats.pattern-array _ _ _ _ _ _ _ _ _ _ _ _ (asks_b.pattern-note _ _ _ _ _ _ _ _ c.requires.2.1 c.requires.1 c.requires.3 c.note-2.ensures) c.if-tag-2.true c.items.ensures.is

pub pattern-overflow_add-k-2 : goal.pattern-overflow_add-k-2
pattern-overflow_add-k-2 t c =
    let y = c.requires.0 in
    omega (arith, pats.pattern-room c.args.tree.now c.args.self.now.rows.now c.args.k c.args.q c.requires.2.0 c.requires.2.1 c.requires.1, y.seen.small)

pub pattern-keyed-requires : goal.pattern-keyed-requires
pattern-keyed-requires t c =
    let y = c.requires.0 in
    let i = pats.pattern-keyed _ _ c.if-tag.false c.if-tag-2.false _ c.requires.2.1 in
    (omega (arith, c.decreases), (pats.pattern-within _ _ _ _ _ _ _ y c.requires.1 _ c.requires.2.1 (asks_b.pattern-note _ _ _ _ _ _ _ _ c.requires.2.1 c.requires.1 c.requires.3 c.note-2.ensures), i.0, i.1))

pub pattern-returns-clause-is : goal.pattern-returns-clause-is
pattern-returns-clause-is t c =
    let y = c.requires.0 in
    pats.pattern-object _ _ _ _ _ _ _ _ _ _ _ _ (asks_b.pattern-note _ _ _ _ _ _ _ _ c.requires.2.1 c.requires.1 c.requires.3 c.note-2.ensures) c.if-tag.false c.if-tag-2.false c.keyed.ensures.is

pub pipe-reserve-requires : goal.pipe-reserve-requires
pipe-reserve-requires t c =
    let y = c.requires.0 in
    asks_b.reserve-room _ _ _ _ _ _ _ _ y (due-placed c.args.o c.args.self.now.st c.requires.2) (omega arith)

pub pipe-overflow_add-p : goal.pipe-overflow_add-p
pipe-overflow_add-p t c =
    let y = c.requires.0 in
    omega (arith, y.within, y.small)

pub pipe-iterm-requires : goal.pipe-iterm-requires
pipe-iterm-requires t c =
    let y = c.requires.0 in
    (omega (arith, c.decreases, y.within), ops.pipe-left _ _ _ _ _ _ _ _ c.requires.3 c.requires.4 c.requires.5 c.requires.6 y c.requires.1 (reserve-of c.args.o _ c.args.self.now.st _ (ready-low _ _ _ _ _ _ c.requires.0) c.reserve.ensures))

pub pipe-overflow_add-q : goal.pipe-overflow_add-q
pipe-overflow_add-q t c =
    let y = c.requires.0 in
    let a = shapes.operator-at _ _ c.requires.3 _ c.requires.1.1 in
    omega (arith, a.1, c.requires.4, y.within, y.small)

pub pipe-iterm-t-requires : goal.pipe-iterm-t-requires
pipe-iterm-t-requires t c =
    let y = c.requires.0 in
    let a = shapes.operator-at _ _ c.requires.3 _ c.requires.1.1 in
    (omega (arith, c.decreases, c.requires.4, a.1, y.within), ops.pipe-right _ _ _ _ _ _ _ _ c.requires.3 c.requires.4 c.requires.5 c.requires.6 y c.requires.1 (reserve-of c.args.o _ c.args.self.now.st _ (ready-low _ _ _ _ _ _ c.requires.0) c.reserve.ensures) _ _ _ _ _ _ c.iterm.ensures.is)

pub pipe-place-requires : goal.pipe-place-requires
pipe-place-requires t c =
    let y = c.requires.0 in
    omega (arith, (asks_b.pipe-put _ _ _ _ _ _ _ _ c.requires.3 c.requires.4 c.requires.5 c.requires.6 y c.requires.1 (reserve-of c.args.o _ c.args.self.now.st _ (ready-low _ _ _ _ _ _ c.requires.0) c.reserve.ensures) _ _ 0 _ _ _ _ _ _ _ _ _ (due-placed c.args.o c.args.self.now.st c.requires.2) c.iterm.ensures.is c.iterm-t.ensures.is).0)

pub pipe-put_mid-requires : goal.pipe-put_mid-requires
pipe-put_mid-requires t c =
    let y = c.requires.0 in
    omega (arith, (asks_b.pipe-put _ _ _ _ _ _ _ _ c.requires.3 c.requires.4 c.requires.5 c.requires.6 y c.requires.1 (reserve-of c.args.o _ c.args.self.now.st _ (ready-low _ _ _ _ _ _ c.requires.0) c.reserve.ensures) _ _ _ _ _ _ _ _ _ _ _ _ (due-placed c.args.o c.args.self.now.st c.requires.2) c.iterm.ensures.is c.iterm-t.ensures.is).1 (place-spot c.args.o _ _ c.args.self.now.st c.requires.2 (ready-low _ _ _ _ _ _ c.requires.0) c.place.ensures.0))

pub pipe-returns-clause-is : goal.pipe-returns-clause-is
pipe-returns-clause-is t c =
    let y = c.requires.0 in
    ops.pipe-did _ _ _ _ _ _ _ _ c.requires.3 c.requires.4 c.requires.5 c.requires.6 y c.requires.1 (reserve-of c.args.o _ c.args.self.now.st _ (ready-low _ _ _ _ _ _ c.requires.0) c.reserve.ensures) _ _ _ _ _ _ _ _ _ _ _ _ _ _ _ refl c.iterm.ensures.is refl c.iterm-t.ensures.is (place-spot c.args.o _ _ c.args.self.now.st c.requires.2 (ready-low _ _ _ _ _ _ c.requires.0) c.place.ensures.0) (place-next c.args.o _ c.args.self.now.st _ _ c.requires.2 (ready-low _ _ _ _ _ _ c.requires.0) c.place.ensures.1) c.put_mid.ensures

pub piped-overflow_add-q : goal.piped-overflow_add-q
piped-overflow_add-q t c =
    let y = c.requires.0 in
    let h = asks_b.piped-here _ _ _ c.requires.3 c.requires.4 c.requires.5 c.requires.6 c.requires.1 in
    omega (arith, h.end, h.last, y.within, y.small)

pub piped-pattern_width-w-requires : goal.piped-pattern_width-w-requires
piped-pattern_width-w-requires t c =
    let y = c.requires.0 in
    let h = asks_b.piped-here _ _ _ c.requires.3 c.requires.4 c.requires.5 c.requires.6 c.requires.1 in
    h.pat

pub piped-overflow_add-w : goal.piped-overflow_add-w
piped-overflow_add-w t c =
    let y = c.requires.0 in
    let h = asks_b.piped-here _ _ _ c.requires.3 c.requires.4 c.requires.5 c.requires.6 c.requires.1 in
    omega (arith, c.pattern_width-w.ensures.1, h.end, h.last, y.within, y.small)

pub piped-reserve-requires : goal.piped-reserve-requires
piped-reserve-requires t c =
    let y = c.requires.0 in
    let h = asks_b.piped-here _ _ _ c.requires.3 c.requires.4 c.requires.5 c.requires.6 c.requires.1 in
    asks_b.reserve-room _ _ _ _ _ _ _ _ y (due-placed c.args.o c.args.self.now.st c.requires.2) (omega (arith, c.pattern_width-w.ensures.1, h.end, h.last, y.within, y.small))

pub piped-overflow_add-p : goal.piped-overflow_add-p
piped-overflow_add-p t c =
    let y = c.requires.0 in
    omega (arith, y.within, y.small)

pub piped-iterm-requires : goal.piped-iterm-requires
piped-iterm-requires t c =
    let y = c.requires.0 in
    (omega (arith, c.decreases, y.within), pip.piped-left _ _ _ _ _ _ _ _ _ _ c.requires.3 c.requires.4 c.requires.5 c.requires.6 y c.requires.1 c.pattern_width-w.ensures.0 c.pattern_width-w.ensures.1 refl (reserve-of c.args.o _ c.args.self.now.st _ (ready-low _ _ _ _ _ _ c.requires.0) c.reserve.ensures))

pub piped-under-t-requires : goal.piped-under-t-requires
piped-under-t-requires t c =
    let y = c.requires.0 in
    let h = asks_b.piped-here _ _ _ c.requires.3 c.requires.4 c.requires.5 c.requires.6 c.requires.1 in
    (omega (arith, c.decreases, c.requires.4, h.end, h.last, y.within), pip.piped-under _ _ _ _ _ _ _ _ _ _ c.requires.3 c.requires.4 c.requires.5 c.requires.6 y c.requires.1 c.pattern_width-w.ensures.0 c.pattern_width-w.ensures.1 refl (reserve-of c.args.o _ c.args.self.now.st _ (ready-low _ _ _ _ _ _ c.requires.0) c.reserve.ensures) _ _ _ _ _ _ c.iterm.ensures.is)

pub piped-overflow_add-q-2 : goal.piped-overflow_add-q-2
piped-overflow_add-q-2 t c =
    let y = c.requires.0 in
    let h = asks_b.piped-here _ _ _ c.requires.3 c.requires.4 c.requires.5 c.requires.6 c.requires.1 in
    omega (arith, h.end, h.last, y.within, y.small)

pub piped-pattern-requires : goal.piped-pattern-requires
piped-pattern-requires t c =
    let y = c.requires.0 in
    let h = asks_b.piped-here _ _ _ c.requires.3 c.requires.4 c.requires.5 c.requires.6 c.requires.1 in
    let r = pip.piped-pattern _ _ _ _ _ _ _ _ _ _ c.requires.3 c.requires.4 c.requires.5 c.requires.6 y c.requires.1 c.pattern_width-w.ensures.0 c.pattern_width-w.ensures.1 refl (reserve-of c.args.o _ c.args.self.now.st _ (ready-low _ _ _ _ _ _ c.requires.0) c.reserve.ensures) _ _ _ _ _ _ _ _ _ _ _ c.iterm.ensures.is c.under-t.ensures.is in
    (omega (arith, c.decreases, c.requires.4, h.end, h.last, y.within), (r.0, r.1, r.2, omega arith))

pub piped-overflow_add-q-3 : goal.piped-overflow_add-q-3
piped-overflow_add-q-3 t c =
    let y = c.requires.0 in
    let h = asks_b.piped-here _ _ _ c.requires.3 c.requires.4 c.requires.5 c.requires.6 c.requires.1 in
    omega (arith, h.end, h.last, y.within, y.small)

pub piped-place-requires : goal.piped-place-requires
piped-place-requires t c =
    let y = c.requires.0 in
    asks_b.piped-place _ _ _ _ _ _ _ _ _ _ c.requires.3 c.requires.4 c.requires.5 c.requires.6 y c.requires.1 c.pattern_width-w.ensures.0 c.pattern_width-w.ensures.1 refl (reserve-of c.args.o _ c.args.self.now.st _ (ready-low _ _ _ _ _ _ c.requires.0) c.reserve.ensures) _ _ _ _ _ _ _ _ _ _ _ _ _ _ c.iterm.ensures.is c.under-t.ensures.is c.pattern.ensures.is (due-placed c.args.o c.args.self.now.st c.requires.2)

pub piped-put_piped-requires : goal.piped-put_piped-requires
piped-put_piped-requires t c =
    let y = c.requires.0 in
    (pip.piped-put _ _ _ _ _ _ _ _ _ _ c.requires.3 c.requires.4 c.requires.5 c.requires.6 y c.requires.1 c.pattern_width-w.ensures.0 c.pattern_width-w.ensures.1 refl (reserve-of c.args.o _ c.args.self.now.st _ (ready-low _ _ _ _ _ _ c.requires.0) c.reserve.ensures) _ _ _ _ _ _ _ _ _ _ _ _ _ _ _ _ _ refl c.iterm.ensures.is refl c.under-t.ensures.is c.pattern.ensures.is (due-placed c.args.o c.args.self.now.st c.requires.2) (place-spot c.args.o _ _ c.args.self.now.st c.requires.2 (ready-low _ _ _ _ _ _ c.requires.0) c.place.ensures.0)).0

pub piped-returns-clause-is : goal.piped-returns-clause-is
piped-returns-clause-is t c =
    let y = c.requires.0 in
    pip.piped-did _ _ _ _ _ _ _ _ _ _ c.requires.3 c.requires.4 c.requires.5 c.requires.6 y c.requires.1 c.pattern_width-w.ensures.0 c.pattern_width-w.ensures.1 refl (reserve-of c.args.o _ c.args.self.now.st _ (ready-low _ _ _ _ _ _ c.requires.0) c.reserve.ensures) _ _ _ _ _ _ _ _ _ _ _ _ _ _ _ _ _ refl c.iterm.ensures.is refl c.under-t.ensures.is c.pattern.ensures.is _ _ (place-spot c.args.o _ _ c.args.self.now.st c.requires.2 (ready-low _ _ _ _ _ _ c.requires.0) c.place.ensures.0) (place-next c.args.o _ c.args.self.now.st _ _ c.requires.2 (ready-low _ _ _ _ _ _ c.requires.0) c.place.ensures.1) c.put_piped.ensures

pub project-end_of-requires : goal.project-end_of-requires
project-end_of-requires t c =
    let y = c.requires.0 in
    let g = c.requires.1 in
    omega (arith, y.order, y.within)

pub project-iterm-requires : goal.project-iterm-requires
project-iterm-requires t c =
    let y = c.requires.0 in
    let g = c.requires.1 in
    (omega (arith, c.decreases, c.end_of.ensures, g.behind, y.order, y.within), asks_b.project-ask _ _ _ _ _ _ _ _ _ y g _ (kind-is _ _ _ c.in-Some.is c.in-Projected.is) c.end_of.ensures)

pub project-returns-in-Projected-clause-is : goal.project-returns-in-Projected-clause-is
project-returns-in-Projected-clause-is t c =
    let y = c.requires.0 in
    let g = c.requires.1 in
    asks_b.project-ret _ _ _ _ _ _ _ _ _ y g _ (kind-is _ _ _ c.in-Some.is c.in-Projected.is) c.end_of.ensures _ _ _ _ _ _ c.iterm.ensures.is

pub project-no_fold-requires : goal.project-no_fold-requires
project-no_fold-requires t c =
    let y = c.requires.0 in
    let g = c.requires.1 in
    (omega (arith, asks_b.rows-some _ _ _ _ _ _ y), omega (arith, g.source), omega (arith, y.errs))

pub project-returns-in_default-clause-is : goal.project-returns-in_default-clause-is
project-returns-in_default-clause-is t c =
    let y = c.requires.0 in
    let g = c.requires.1 in
    folds.project-fail _ _ _ _ _ _ _ _ _ y g _ _ _ _ _ _ _ _ (no-kind _ c.in_default.is) refl refl refl refl c.no_fold.ensures.0 c.no_fold.ensures.1

pub project-returns-clause-is : goal.project-returns-clause-is
project-returns-clause-is t c =
    let y = c.requires.0 in
    let g = c.requires.1 in
    let o = some-kind _ _ c.in-Some.is in
    folds.project-none _ _ _ _ _ _ _ _ _ y g _ _ (no-projection _ _ c.in-Some.is c.in_default-kind.not-Projected) (λ f. omega (arith, o, f))

pub quoted-end_of-z-requires : goal.quoted-end_of-z-requires
quoted-end_of-z-requires t c =
    let b = c.args.tree.now in
    let g = c.requires.1 in
    let fits = term_fits b g.0 c.args.p g.1 in
    fits

pub quoted-overflow_add-p : goal.quoted-overflow_add-p
quoted-overflow_add-p t c =
    let b = c.args.tree.now in
    let y = c.requires.0 in
    let g = c.requires.1 in
    let fits = term_fits b g.0 c.args.p g.1 in
    omega (arith, fits, y.small)

pub quoted-is_plain-requires : goal.quoted-is_plain-requires
quoted-is_plain-requires t c =
    let b = c.args.tree.now in
    let g = c.requires.1 in
    let e = c.requires.3 in
    forms_quoted.str-first b c.args.p _ c.end_of-z.ensures e g

pub quoted-overflow_add-p-then-is_plain : goal.quoted-overflow_add-p-then-is_plain
quoted-overflow_add-p-then-is_plain t c =
    let b = c.args.tree.now in
    let y = c.requires.0 in
    let g = c.requires.1 in
    let fits = term_fits b g.0 c.args.p g.1 in
    omega (arith, fits, y.small)

pub quoted-plain-requires : goal.quoted-plain-requires
quoted-plain-requires t c =
    let b = c.args.tree.now in
    let y = c.requires.0 in
    let g = c.requires.1 in
    let pl = c.requires.2 in
    let fits = term_fits b g.0 c.args.p g.1 in
    let i : is_plain b (c.args.p + 3) c.end_of-z.result ≡ true = sym c.is_plain.ensures ∙ c.if-is_plain.true in
    ((forms_quoted.plain-yes b (c.args.p + 3) c.end_of-z.result i).2, omega (arith, c.end_of-z.ensures, fits), y.small, omega (arith, y.nums), omega (arith, y.offs), pl)

pub quoted-returns-then-is_plain-clause-is : goal.quoted-returns-then-is_plain-clause-is
quoted-returns-then-is_plain-clause-is t c =
    let b = c.args.tree.now in
    let y = c.requires.0 in
    let g = c.requires.1 in
    let e = c.requires.3 in
    let i : is_plain b (c.args.p + 3) c.end_of-z.result ≡ true = sym c.is_plain.ensures ∙ c.if-is_plain.true in
    forms_quoted.plain-did b _ _ _ _ _ _ _ _ _ e (subst (λ (z : ℕ). is_plain b (c.args.p + 3) z ≡ true) c.end_of-z.ensures i) y g c.plain.ensures.0 c.plain.ensures.1

pub quoted-overflow_add-p-2 : goal.quoted-overflow_add-p-2
quoted-overflow_add-p-2 t c =
    let b = c.args.tree.now in
    let y = c.requires.0 in
    let g = c.requires.1 in
    let fits = term_fits b g.0 c.args.p g.1 in
    omega (arith, fits, y.small)

pub quoted-past-q-requires : goal.quoted-past-q-requires
quoted-past-q-requires t c =
    let b = c.args.tree.now in
    let g = c.requires.1 in
    let e = c.requires.3 in
    forms_quoted.str-first b c.args.p _ c.end_of-z.ensures e g

pub quoted-strings_width-w-requires : goal.quoted-strings_width-w-requires
quoted-strings_width-w-requires t c =
    let b = c.args.tree.now in
    let g = c.requires.1 in
    let e = c.requires.3 in
    let h = forms_quoted.str-here b c.args.p _ _ c.past-q.ensures c.end_of-z.ensures e g in
    (h.0, h.1)

pub quoted-reserve-requires : goal.quoted-reserve-requires
quoted-reserve-requires t c =
    let b = c.args.tree.now in
    let y = c.requires.0 in
    let g = c.requires.1 in
    let pl = (due-placed c.args.o c.args.self.now.st c.requires.2) in
    let e = c.requires.3 in
    let h = forms_quoted.str-here b c.args.p _ _ c.past-q.ensures c.end_of-z.ensures e g in
    omega (arith, noting.placed-low _ c.args.self.now.st pl (omega (arith, y.offs)), c.strings_width-w.ensures.1, h.0, y.small)

pub quoted-overflow_add-p-3 : goal.quoted-overflow_add-p-3
quoted-overflow_add-p-3 t c =
    let b = c.args.tree.now in
    let y = c.requires.0 in
    let g = c.requires.1 in
    let fits = term_fits b g.0 c.args.p g.1 in
    omega (arith, fits, y.small)

pub quoted-format-requires : goal.quoted-format-requires
quoted-format-requires t c =
    let b = c.args.tree.now in
    let y = c.requires.0 in
    let g = c.requires.1 in
    let e = c.requires.3 in
    let h = forms_quoted.str-here b c.args.p _ _ c.past-q.ensures c.end_of-z.ensures e g in
    let a = noting.reserved _ _ c.args.self.now.st _ (reserve-of c.args.o _ c.args.self.now.st _ (ready-low _ _ _ _ _ _ c.requires.0) c.reserve.ensures) in
    ((y.view, c.args.k, y.seen), h.2, y.small, omega (arith, a.0, y.nums), omega (arith, a.1, y.offs, c.strings_width-w.ensures.1, h.0, y.small), omega (arith, a.2, y.errs))

pub quoted-strings-i-requires : goal.quoted-strings-i-requires
quoted-strings-i-requires t c =
    let b = c.args.tree.now in
    let y = c.requires.0 in
    let g = c.requires.1 in
    let e = c.requires.3 in
    let h = forms_quoted.str-here b c.args.p _ _ c.past-q.ensures c.end_of-z.ensures e g in
    let few : c.strings_width-w.result ≤ 1048576 = omega (arith, c.strings_width-w.ensures.1, h.0, h.4, y.small) in
    let w = forms_quoted.str-ready-at b _ _ _ _ _ _ _ _ _ _ _ _ c.past-q.ensures c.end_of-z.ensures e y g few (reserve-of c.args.o _ c.args.self.now.st _ (ready-low _ _ _ _ _ _ c.requires.0) c.reserve.ensures) c.format.ensures in
    (omega (arith, c.decreases, h.3, h.0, h.4), (w.0, w.1))

pub quoted-sum_or-requires : goal.quoted-sum_or-requires
quoted-sum_or-requires t c =
    let b = c.args.tree.now in
    let y = c.requires.0 in
    let g = c.requires.1 in
    let pl = (due-placed c.args.o c.args.self.now.st c.requires.2) in
    let e = c.requires.3 in
    let h = forms_quoted.str-here b c.args.p _ _ c.past-q.ensures c.end_of-z.ensures e g in
    let few : c.strings_width-w.result ≤ 1048576 = omega (arith, c.strings_width-w.ensures.1, h.0, h.4, y.small) in
    forms_quoted.str-summed b _ _ _ _ _ _ _ _ _ _ _ _ _ _ _ _ _ c.past-q.ensures c.end_of-z.ensures e y g few (reserve-of c.args.o _ c.args.self.now.st _ (ready-low _ _ _ _ _ _ c.requires.0) c.reserve.ensures) refl c.format.ensures c.strings-i.ensures.is pl

pub quoted-returns-clause-is : goal.quoted-returns-clause-is
quoted-returns-clause-is t c =
    let b = c.args.tree.now in
    let y = c.requires.0 in
    let g = c.requires.1 in
    let e = c.requires.3 in
    let h = forms_quoted.str-here b c.args.p _ _ c.past-q.ensures c.end_of-z.ensures e g in
    let few : c.strings_width-w.result ≤ 1048576 = omega (arith, c.strings_width-w.ensures.1, h.0, h.4, y.small) in
    forms_quoted.str-done b _ _ _ _ _ _ _ _ _ _ _ _ _ _ _ _ _ c.past-q.ensures c.end_of-z.ensures e y g few (reserve-of c.args.o _ c.args.self.now.st _ (ready-low _ _ _ _ _ _ c.requires.0) c.reserve.ensures) refl c.format.ensures c.strings-i.ensures.is c.strings_width-w.ensures.0 _ _ (λ ts at u a l v. sum-at _ _ _ c.args.o _ c.args.self.now.st _ _ _ _ c.requires.2 (ready-low _ _ _ _ _ _ c.requires.0) (c.sum_or.ensures ts at u a l v))

pub string-bounds-tree-q : goal.string-bounds-tree-q
string-bounds-tree-q t c =
    let b = c.args.tree.now in
    let g = c.requires.1 in
    omega (arith, forms_strings.string-fits b c.args.q g)

pub string-returns-then-tag-clause-is : goal.string-returns-then-tag-clause-is
string-returns-then-tag-clause-is t c =
    let b = c.args.tree.now in
    elim c.then-tag.branch [
      | string-then-tag-via-then-tag w ↦ forms_strings.string-text b _ _ _ _ _ (inl w.if-tag.true)
      | string-then-tag-via-else-tag+then-tag-2 w ↦ forms_strings.string-text b _ _ _ _ _ (inr w.if-tag-2.true)
    ]

pub string-iterm-requires : goal.string-iterm-requires
string-iterm-requires t c =
    let b = c.args.tree.now in
    let y = c.requires.0 in
    let g = c.requires.1 in
    (omega (arith, c.decreases), (y, forms_strings.string-stands b _ c.if-tag.false c.if-tag-2.false g))

pub string-returns-clause-is : goal.string-returns-clause-is
string-returns-clause-is t c =
    let b = c.args.tree.now in
    forms_strings.string-term b _ _ _ _ _ _ _ _ _ c.if-tag.false c.if-tag-2.false c.iterm.ensures.is

pub strings-loop-p-init : goal.strings-loop-p-init
strings-loop-p-init t c =
    let b = c.args.tree.now in
    let y = c.requires.0 in
    let g = c.requires.1 in
    let i = begun b c.args.q c.args.z _ c.into_iter-p-iterator.result c.into_iter-p-iterator.ensures.into_iter_gives c.fields-p-items.ensures y.within (_, g.1) in
    (i.0, i.1, record { rows = refl; out = refl }, forms_strings.strings-on _ _ _ _ _ _ _ _ _ _ _ _ _ i.2 (forms_strings.strings-start b _ _ _ _ _ _ y g))

pub strings-string-requires : goal.strings-string-requires
strings-string-requires t c =
    let b = c.args.tree.now in
    let n = turn c.loop-p.p-iterator c.next.new.self c.loop-p.invariant.1 c.in-Some.ensures.steps c.in-Some.ensures.goes.keeps in
    let v = forms_strings.strings-on _ _ _ _ _ _ _ _ _ _ _ _ _ n.here c.loop-p.invariant.3 in
    let w = forms_strings.strings-next b _ _ _ _ _ _ _ _ _ _ _ v n.within in
    let fits = forms_strings.string-fits b _ w.1 in
    (omega (arith, c.decreases, v.low, fits), (w.0, w.1))

pub strings-note-requires : goal.strings-note-requires
strings-note-requires t c =
    let b = c.args.tree.now in
    let n = turn c.loop-p.p-iterator c.next.new.self c.loop-p.invariant.1 c.in-Some.ensures.steps c.in-Some.ensures.goes.keeps in
    let v = forms_strings.strings-on _ _ _ _ _ _ _ _ _ _ _ _ _ n.here c.loop-p.invariant.3 in
    let w = forms_strings.strings-next b _ _ _ _ _ _ _ _ _ _ _ v n.within in
    (omega (arith, noting.note-room b _ _ _ _ _ w.0 (omega arith), c.string.ensures.is.paid.same), noting.note-few b _ _ _ _ _ w.0 (omega arith))

pub strings-overflow_add-i : goal.strings-overflow_add-i
strings-overflow_add-i t c =
    let n = turn c.loop-p.p-iterator c.next.new.self c.loop-p.invariant.1 c.in-Some.ensures.steps c.in-Some.ensures.goes.keeps in
    let v = forms_strings.strings-on _ _ _ _ _ _ _ _ _ _ _ _ _ n.here c.loop-p.invariant.3 in
    omega (arith, v.ready.seen.within, v.ready.seen.small)

pub strings-loop-p-preserved : goal.strings-loop-p-preserved
strings-loop-p-preserved t c =
    let b = c.args.tree.now in
    let n = turn c.loop-p.p-iterator c.next.new.self c.loop-p.invariant.1 c.in-Some.ensures.steps c.in-Some.ensures.goes.keeps in
    let v = forms_strings.strings-on _ _ _ _ _ _ _ _ _ _ _ _ _ n.here c.loop-p.invariant.3 in
    (c.in-Some.ensures.goes.keeps, n.over, record { rows = c.string.ensures.same.rows ∙ c.loop-p.invariant.2.rows; out = c.string.ensures.same.out ∙ c.loop-p.invariant.2.out }, forms_strings.strings-again b _ _ _ _ _ _ _ _ _ _ _ _ _ _ _ _ _ v n.within refl c.string.ensures.is c.note.ensures n.next)

pub strings-returns-clause-is : goal.strings-returns-clause-is
strings-returns-clause-is t c =
    let l = turned c.loop-p.p-iterator c.next.new.self c.loop-p.invariant.1 c.in-None.ensures.steps in
    let b = c.args.tree.now in
    let v = c.loop-p.invariant.3 in
    forms_strings.strings-done b _ _ _ _ _ _ _ _ _ _ _ v l

pub term-bounds-tree-p : goal.term-bounds-tree-p
term-bounds-tree-p t c =
    let y = c.requires.0 in
    let g = c.requires.1 in
    let h = c.requires.2 in
    omega (arith, asks.stands-fits _ _ g)

pub term-bare-requires : goal.term-bare-requires
term-bare-requires t c =
    let y = c.requires.0 in
    let g = c.requires.1 in
    let h = c.requires.2 in
    asks.bare-fits _ _ _ _ _ _ _ y (due-placed c.args.o c.args.self.now.st h)

pub term-bare-requires-in-161 : goal.term-bare-requires-in-161
term-bare-requires-in-161 t c =
    let y = c.requires.0 in
    let g = c.requires.1 in
    let h = c.requires.2 in
    asks.bare-fits _ _ _ _ _ _ _ y (due-placed c.args.o c.args.self.now.st h)

pub term-arr-requires : goal.term-arr-requires
term-arr-requires t c =
    let y = c.requires.0 in
    let g = c.requires.1 in
    let h = c.requires.2 in
    (omega (arith, c.decreases), (y, g, h, c.in-162.is))

pub term-neg-requires : goal.term-neg-requires
term-neg-requires t c =
    let y = c.requires.0 in
    let g = c.requires.1 in
    let h = c.requires.2 in
    (omega (arith, c.decreases), (y, g, h, c.in-163.is))

pub term-label-requires : goal.term-label-requires
term-label-requires t c =
    let y = c.requires.0 in
    let g = c.requires.1 in
    let h = c.requires.2 in
    (omega (arith, c.decreases), (y, g, h, c.in-164.is))

pub term-named-requires : goal.term-named-requires
term-named-requires t c =
    let y = c.requires.0 in
    let g = c.requires.1 in
    let h = c.requires.2 in
    ((c.args.k, y), g, h, inr (refl, refl, c.in-165.is))

pub term-ite-requires : goal.term-ite-requires
term-ite-requires t c =
    let y = c.requires.0 in
    let g = c.requires.1 in
    let h = c.requires.2 in
    (omega (arith, c.decreases), (y, g, h, c.in-166.is))

pub term-named-requires-in-167 : goal.term-named-requires-in-167
term-named-requires-in-167 t c =
    let y = c.requires.0 in
    let g = c.requires.1 in
    let h = c.requires.2 in
    ((c.args.k, y), g, h, inl (refl, refl, c.in-167.is))

pub term-call-requires : goal.term-call-requires
term-call-requires t c =
    let y = c.requires.0 in
    let g = c.requires.1 in
    let h = c.requires.2 in
    (omega (arith, c.decreases), (y, g, h, c.in-168.is))

pub term-def-requires : goal.term-def-requires
term-def-requires t c =
    let y = c.requires.0 in
    let g = c.requires.1 in
    let h = c.requires.2 in
    (omega (arith, c.decreases), (y, g, h, c.in-169.is))

pub term-num-requires : goal.term-num-requires
term-num-requires t c =
    let y = c.requires.0 in
    let g = c.requires.1 in
    let h = c.requires.2 in
    (g, h, c.in-170.is, y.small, omega (arith, y.offs))

pub term-trial-requires : goal.term-trial-requires
term-trial-requires t c =
    let y = c.requires.0 in
    let g = c.requires.1 in
    let h = c.requires.2 in
    (omega (arith, c.decreases), (y, g, h, c.in-171.is))

pub term-fold-requires : goal.term-fold-requires
term-fold-requires t c =
    let y = c.requires.0 in
    let g = c.requires.1 in
    let h = c.requires.2 in
    (omega (arith, c.decreases), (y, g, h, c.in-172.is))

pub term-binary-requires : goal.term-binary-requires
term-binary-requires t c =
    let y = c.requires.0 in
    let g = c.requires.1 in
    let h = c.requires.2 in
    (omega (arith, c.decreases), (y, g, h, c.in-173.is))

pub term-path-requires : goal.term-path-requires
term-path-requires t c =
    let y = c.requires.0 in
    let g = c.requires.1 in
    let h = c.requires.2 in
    (omega (arith, c.decreases), (y, g, h, c.in-174.is))

pub term-quoted-requires : goal.term-quoted-requires
term-quoted-requires t c =
    let y = c.requires.0 in
    let g = c.requires.1 in
    let h = c.requires.2 in
    (omega (arith, c.decreases), (y, g, h, c.in-175.is))

pub term-obj-requires : goal.term-obj-requires
term-obj-requires t c =
    let y = c.requires.0 in
    let g = c.requires.1 in
    let h = c.requires.2 in
    (omega (arith, c.decreases), (y, g, h, terms.last-tag _ _ g (λ e. omega arith) (λ e. omega arith) (λ e. omega arith) (λ e. omega arith) (λ e. omega arith) (λ e. omega arith) (λ e. omega arith) (λ e. omega arith) (λ e. omega arith) (λ e. omega arith) (λ e. omega arith) (λ e. omega arith) (λ e. omega arith) (λ e. omega arith) (λ e. omega arith) (λ e. omega arith)))

pub term-returns-in-160-clause-is : goal.term-returns-in-160-clause-is
term-returns-in-160-clause-is t c =
    let y = c.requires.0 in
    let g = c.requires.1 in
    let h = c.requires.2 in
    leaves.id-bare _ _ _ _ _ _ _ _ _ _ _ c.in-160.is (omega (arith, y.offs)) (bare-of c.args.o _ _ _ _ c.args.self.now.st _ _ _ _ h (ready-low _ _ _ _ _ _ c.requires.0) (ready-low _ _ _ _ _ _ c.requires.0) c.bare.ensures)

pub term-returns-in-161-clause-is : goal.term-returns-in-161-clause-is
term-returns-in-161-clause-is t c =
    let y = c.requires.0 in
    let g = c.requires.1 in
    let h = c.requires.2 in
    leaves.recurse-bare _ _ _ _ _ _ _ _ _ _ _ c.in-161.is (omega (arith, y.offs)) (bare-of c.args.o _ _ _ _ c.args.self.now.st _ _ _ _ h (ready-low _ _ _ _ _ _ c.requires.0) (ready-low _ _ _ _ _ _ c.requires.0) c.bare-in-161.ensures)

pub term-returns-in-162-clause-is : goal.term-returns-in-162-clause-is
term-returns-in-162-clause-is t c = c.arr.ensures.is _

pub term-returns-in-163-clause-is : goal.term-returns-in-163-clause-is
term-returns-in-163-clause-is t c = c.neg.ensures.is _

pub term-returns-in-164-clause-is : goal.term-returns-in-164-clause-is
term-returns-in-164-clause-is t c = c.label.ensures.is _

pub term-returns-in-165-clause-is : goal.term-returns-in-165-clause-is
term-returns-in-165-clause-is t c = c.named.ensures.is _ _

pub term-returns-in-166-clause-is : goal.term-returns-in-166-clause-is
term-returns-in-166-clause-is t c = c.ite.ensures.is

pub term-returns-in-167-clause-is : goal.term-returns-in-167-clause-is
term-returns-in-167-clause-is t c = c.named-in-167.ensures.is _ _

pub term-returns-in-168-clause-is : goal.term-returns-in-168-clause-is
term-returns-in-168-clause-is t c = c.call.ensures.is

pub term-returns-in-169-clause-is : goal.term-returns-in-169-clause-is
term-returns-in-169-clause-is t c = c.def.ensures.is

pub term-returns-in-170-clause-is : goal.term-returns-in-170-clause-is
term-returns-in-170-clause-is t c = c.num.ensures.is _ _

pub term-returns-in-171-clause-is : goal.term-returns-in-171-clause-is
term-returns-in-171-clause-is t c = c.trial.ensures.is _

pub term-returns-in-172-clause-is : goal.term-returns-in-172-clause-is
term-returns-in-172-clause-is t c = c.fold.ensures.is

pub term-returns-in-173-clause-is : goal.term-returns-in-173-clause-is
term-returns-in-173-clause-is t c = c.binary.ensures.is

pub term-returns-in-174-clause-is : goal.term-returns-in-174-clause-is
term-returns-in-174-clause-is t c = c.path.ensures.is _

pub term-returns-in-175-clause-is : goal.term-returns-in-175-clause-is
term-returns-in-175-clause-is t c = c.quoted.ensures.is _

pub term-returns-in_default-clause-is : goal.term-returns-in_default-clause-is
term-returns-in_default-clause-is t c = c.obj.ensures.is _

pub trial-reserve-requires : goal.trial-reserve-requires
trial-reserve-requires t c =
    let y = c.requires.0 in
    let g = c.requires.1 in
    let e = c.requires.3 in
    let f = asks.stands-fits _ _ g in
    asks.reserve-fits _ _ _ _ _ _ _ _ y (due-placed c.args.o c.args.self.now.st c.requires.2) (omega arith)

pub trial-iterm-requires : goal.trial-iterm-requires
trial-iterm-requires t c =
    let y = c.requires.0 in
    let g = c.requires.1 in
    let e = c.requires.3 in
    let f = asks.stands-fits _ _ g in
    let w = simple.try-ready _ _ _ _ _ _ _ e y g (reserve-of c.args.o _ c.args.self.now.st _ (ready-low _ _ _ _ _ _ c.requires.0) c.reserve.ensures) in
    (omega (arith, c.decreases, f), w)

pub trial-end_of-requires : goal.trial-end_of-requires
trial-end_of-requires t c =
    let y = c.requires.0 in
    let g = c.requires.1 in
    let e = c.requires.3 in
    let f = asks.stands-fits _ _ g in
    let w = simple.try-ready _ _ _ _ _ _ _ e y g (reserve-of c.args.o _ c.args.self.now.st _ (ready-low _ _ _ _ _ _ c.requires.0) c.reserve.ensures) in
    asks.stands-fits _ _ w.1

pub trial-end_of-requires-2 : goal.trial-end_of-requires-2
trial-end_of-requires-2 t c =
    let y = c.requires.0 in
    let g = c.requires.1 in
    let e = c.requires.3 in
    let f = asks.stands-fits _ _ g in
    f

pub trial-or_empty-requires : goal.trial-or_empty-requires
trial-or_empty-requires t c =
    let y = c.requires.0 in
    let g = c.requires.1 in
    let e = c.requires.3 in
    let f = asks.stands-fits _ _ g in
    let w = simple.catch-ready _ _ _ _ _ _ _ _ _ _ _ _ e y g (reserve-of c.args.o _ c.args.self.now.st _ (ready-low _ _ _ _ _ _ c.requires.0) c.reserve.ensures) c.iterm.ensures.is in
    (omega (arith, c.decreases, f, c.end_of.ensures), simple.catch-at _ _ _ _ _ _ c.end_of.ensures c.end_of-2.ensures w)

pub trial-place-requires : goal.trial-place-requires
trial-place-requires t c =
    let y = c.requires.0 in
    let g = c.requires.1 in
    let e = c.requires.3 in
    let f = asks.stands-fits _ _ g in
    let w = simple.try-ready _ _ _ _ _ _ _ e y g (reserve-of c.args.o _ c.args.self.now.st _ (ready-low _ _ _ _ _ _ c.requires.0) c.reserve.ensures) in
    asks.place-both _ _ _ _ _ _ _ _ _ _ _ _ _ _ _ _ _ _ _ _ _ _ _ y (reserve-of c.args.o _ c.args.self.now.st _ (ready-low _ _ _ _ _ _ c.requires.0) c.reserve.ensures) (omega arith) c.iterm.ensures.is (asks.stands-fits _ _ w.1) c.or_empty.ensures.is (omega (arith, c.end_of-2.ensures, f))

pub trial-put_two-requires : goal.trial-put_two-requires
trial-put_two-requires t c =
    let y = c.requires.0 in
    let g = c.requires.1 in
    let e = c.requires.3 in
    let f = asks.stands-fits _ _ g in
    let w = simple.try-ready _ _ _ _ _ _ _ e y g (reserve-of c.args.o _ c.args.self.now.st _ (ready-low _ _ _ _ _ _ c.requires.0) c.reserve.ensures) in
    asks.own-both _ _ _ _ _ _ _ _ _ _ _ _ _ _ _ _ _ _ _ _ _ _ _ _ y (due-placed c.args.o c.args.self.now.st c.requires.2) (reserve-of c.args.o _ c.args.self.now.st _ (ready-low _ _ _ _ _ _ c.requires.0) c.reserve.ensures) (omega arith) c.iterm.ensures.is (asks.stands-fits _ _ w.1) c.or_empty.ensures.is (omega (arith, c.end_of-2.ensures, f)) (place-spot c.args.o _ _ c.args.self.now.st c.requires.2 (ready-low _ _ _ _ _ _ c.requires.0) c.place.ensures.0)

pub trial-returns-clause-is : goal.trial-returns-clause-is
trial-returns-clause-is t c =
    let y = c.requires.0 in
    let g = c.requires.1 in
    let e = c.requires.3 in
    let f = asks.stands-fits _ _ g in
    simple.try-did _ _ _ _ _ _ _ _ _ _ _ _ _ _ _ _ _ _ _ _ e y g (reserve-of c.args.o _ c.args.self.now.st _ (ready-low _ _ _ _ _ _ c.requires.0) c.reserve.ensures) refl c.iterm.ensures.is refl (simple.catch-or _ _ _ _ _ _ _ _ _ _ _ c.end_of.ensures c.end_of-2.ensures c.or_empty.ensures.is) (place-spot c.args.o _ _ c.args.self.now.st c.requires.2 (ready-low _ _ _ _ _ _ c.requires.0) c.place.ensures.0) (place-next c.args.o _ c.args.self.now.st _ _ c.requires.2 (ready-low _ _ _ _ _ _ c.requires.0) c.place.ensures.1) c.put_two.ensures

pub under-bounds-self-1 : goal.under-bounds-self-1
under-bounds-self-1 t c =
    let y = c.requires.0 in
    omega (arith, asks_b.rows-some _ _ _ _ _ _ y)

pub under-overflow_add-q : goal.under-overflow_add-q
under-overflow_add-q t c =
    let y = c.requires.0 in
    omega (arith, y.within, y.small, y.order)

pub under-bind_vars-i-requires : goal.under-bind_vars-i-requires
under-bind_vars-i-requires t c =
    let y = c.requires.0 in
    (record { small = y.small; view = y.view; seen = y.seen; spare = y.spare }, c.requires.1)

pub under-end_of-requires : goal.under-end_of-requires
under-end_of-requires t c =
    let y = c.requires.0 in
    omega (arith, y.within)

pub under-iterm-t-requires : goal.under-iterm-t-requires
under-iterm-t-requires t c =
    let y = c.requires.0 in
    (omega (arith, c.decreases, c.end_of.ensures, y.within), asks_b.under-iterm _ _ _ _ _ y c.requires.1 c.requires.2 c.requires.3 _ _ _ (asks_b.bound_of _ _ _ _ _ _ c.bind_vars-i.ensures) c.end_of.ensures)

pub under-close-requires : goal.under-close-requires
under-close-requires t c =
    let y = c.requires.0 in
    asks_b.under-shut _ _ _ _ _ y c.requires.1 c.requires.2 c.requires.3 _ _ _ (asks_b.bound_of _ _ _ _ _ _ c.bind_vars-i.ensures) c.end_of.ensures _ _ _ _ _ _ c.iterm-t.ensures.is

pub under-returns-clause-is : goal.under-returns-clause-is
under-returns-clause-is t c =
    let y = c.requires.0 in
    asks_b.under-ret _ _ _ _ _ y c.requires.1 c.requires.2 c.requires.3 _ _ _ (asks_b.bound_of _ _ _ _ _ _ c.bind_vars-i.ensures) c.end_of.ensures _ _ _ _ _ _ c.iterm-t.ensures.is _ _ refl c.close.ensures

pub update-bounds-self-1 : goal.update-bounds-self-1
update-bounds-self-1 t c =
    let y = c.requires.0 in
    omega (arith, asks_b.rows-some _ _ _ _ _ _ y)

pub update-bind_notes-requires : goal.update-bind_notes-requires
update-bind_notes-requires t c =
    let y = c.requires.0 in
    (y.small, c.requires.2, c.requires.1, y.seen.within, asks_b.notes-ask _ _ _ _ c.requires.3)

pub update-iterm-requires : goal.update-iterm-requires
update-iterm-requires t c =
    let y = c.requires.0 in
    let g = c.requires.5 in
    (omega (arith, c.decreases, g.behind, y.order, y.within), folds.update-ready _ _ _ _ _ _ _ _ _ _ y c.requires.1 c.requires.2 c.requires.3 c.requires.4 c.requires.5 _ (asks_b.unnoted-of _ _ _ _ _ c.bind_notes.ensures))

pub update-project-t-requires : goal.update-project-t-requires
update-project-t-requires t c =
    let y = c.requires.0 in
    (omega (arith, c.decreases), (folds.update-project _ _ _ _ _ _ _ _ _ _ y c.requires.1 c.requires.2 c.requires.3 c.requires.4 c.requires.5 _ (asks_b.unnoted-of _ _ _ _ _ c.bind_notes.ensures) _ _ _ _ _ c.iterm.ensures.is, c.requires.5))

pub update-close-requires : goal.update-close-requires
update-close-requires t c =
    let y = c.requires.0 in
    let a = folds.update-close _ _ _ _ _ _ _ _ _ _ y c.requires.1 c.requires.2 c.requires.3 c.requires.4 c.requires.5 _ (asks_b.unnoted-of _ _ _ _ _ c.bind_notes.ensures) _ _ _ _ _ c.iterm.ensures.is _ _ _ _ _ c.project-t.ensures.is in
    opened.close-ready _ _ _ _ _ a.0 a.1 a.2

pub update-returns-clause-is : goal.update-returns-clause-is
update-returns-clause-is t c =
    let y = c.requires.0 in
    folds.update-is _ _ _ _ _ _ _ _ _ _ y c.requires.1 c.requires.2 c.requires.3 c.requires.4 c.requires.5 _ (asks_b.unnoted-of _ _ _ _ _ c.bind_notes.ensures) _ _ _ _ _ c.iterm.ensures.is _ _ _ _ _ c.project-t.ensures.is _ _ _ refl c.close.ensures refl refl
