-- The format: a call of its name, or ToString.
use native.Mathlib.Omega.{arith}
use mathlib.Core.Path.{refl}
use Rattle.reads.specs.Texts.{text-slice}
use Rattle.compiler.specs.FormsC.Quoted.{format-fits, format-long, format-call, format-bare}
use Rattle.compiler.proofs.format.Goals as goal

pub overflow_add-p : goal.overflow_add-p
overflow_add-p c =
    let b = c.args.tree.now in
    let f = format-fits b c.args.p c.args.q c.requires.1 c.if-p-q.true in
    omega (arith, f, c.requires.2)

pub slice_bounds-supplied-count : goal.slice_bounds-supplied-count
slice_bounds-supplied-count c =
    let b = c.args.tree.now in
    let f = format-fits b c.args.p c.args.q c.requires.1 c.if-p-q.true in
    omega (arith, f, c.requires.2)

pub slice_bounds-supplied-start : goal.slice_bounds-supplied-start
slice_bounds-supplied-start c =
    let b = c.args.tree.now in
    let f = format-fits b c.args.p c.args.q c.requires.1 c.if-p-q.true in
    omega (arith, f, c.requires.2)

pub slice_bounds-supplied-end : goal.slice_bounds-supplied-end
slice_bounds-supplied-end c =
    let b = c.args.tree.now in
    let f = format-fits b c.args.p c.args.q c.requires.1 c.if-p-q.true in
    omega (arith, f, c.requires.2)

pub overflow_add-p-then-p-q : goal.overflow_add-p-then-p-q
overflow_add-p-then-p-q c =
    let b = c.args.tree.now in
    let f = format-fits b c.args.p c.args.q c.requires.1 c.if-p-q.true in
    omega (arith, f, c.requires.2)

pub supplied-requires : goal.supplied-requires
supplied-requires c =
    let b = c.args.tree.now in
    let f = format-fits b c.args.p c.args.q c.requires.1 c.if-p-q.true in
    (c.requires.0, c.requires.2, format-long b c.args.p c.args.q c.requires.1 c.if-p-q.true c.requires.2, omega (arith, f, c.requires.2), omega (arith, c.requires.3), omega (arith, c.requires.4), omega (arith, c.requires.5))

pub returns-then-p-q : goal.returns-then-p-q
returns-then-p-q c =
    let b = c.args.tree.now in
    let f = format-fits b c.args.p c.args.q c.requires.1 c.if-p-q.true in
    let e = c.supplied.ensures in
    format-call _ _ _ _ _ _ _ _ _ _ c.if-p-q.true (text-slice b c.args.p c.args.q f.0) refl e.0 e.1 e.2 e.3

pub returns : goal.returns
returns c =
    format-bare _ _ _ _ _ _ _ _ _ c.if-p-q.false c.insert.ensures.0 c.insert.ensures.1 c.put_bare.ensures
