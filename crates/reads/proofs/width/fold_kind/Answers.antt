-- `fold_kind` meets its contract. Assumes nothing.
use native.Mathlib.Omega.{arith}
use mathlib.Core.Path.{refl, sym, ap, ◌∙◌}
use Rattle.tree.specs.Rose.{text_of}
use Rattle.reads.specs.Widths.{fold_kind}
use Rattle.reads.proofs.Operators.{named, two-reduce, two-foreach, two_none, three-foreach, three-none, kind-other}
use Rattle.reads.proofs.width.fold_kind.Goals as goal

pub returns-in-2 : goal.returns-in-2
returns-in-2 c =
    let f = text_of c.args.b.now c.args.p in
    two-reduce f (named f _ _ _ c.is_text.ensures c.if-is_text.true) ∙ ap (fold_kind f) (sym c.in-2.is)

pub returns-in-2-2 : goal.returns-in-2-2
returns-in-2-2 c =
    let f = text_of c.args.b.now c.args.p in
    two-foreach f (named f _ _ _ c.is_text.ensures c.if-is_text.false) (named f _ _ _ c.if-is_text-2.ensures refl) ∙ ap (fold_kind f) (sym c.in-2.is)

pub returns-in-3 : goal.returns-in-3
returns-in-3 c =
    let f = text_of c.args.b.now c.args.p in
    three-foreach f (named f _ _ _ c.if-is_text-3.ensures refl) ∙ ap (fold_kind f) (sym c.in-3.is)

pub returns-in_default : goal.returns-in_default
returns-in_default c =
    let f = text_of c.args.b.now c.args.p in
    two_none f (named f _ _ _ c.is_text.ensures c.if-is_text.false) (named f _ _ _ c.if-is_text-2.ensures refl) ∙ ap (fold_kind f) (sym c.in-2.is)

pub returns-in_default-2 : goal.returns-in_default-2
returns-in_default-2 c =
    let f = text_of c.args.b.now c.args.p in
    three-none f (named f _ _ _ c.if-is_text-3.ensures refl) ∙ ap (fold_kind f) (sym c.in-3.is)

pub returns-in_default-3 : goal.returns-in_default-3
returns-in_default-3 c = kind-other (text_of c.args.b.now c.args.p) _ (λ e. omega arith) (λ e. omega arith)
