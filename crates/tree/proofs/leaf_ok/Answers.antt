-- `tree::leaf_ok` answers `leaf_ok`, kind by kind. Assumes nothing.
use mathlib.Core.Path.{◌∙◌, sym, ap}
use borrow.Author.Tests.{eq-eqb, ne_eqb}
use Rattle.text.specs.Utf8.{is_scalar}
use Rattle.tree.proofs.Leaves.{leaf-text, leaf-dollar, leaf-two, leaf-operator, leaf-scalar, leaf-unknown, starts-dollar, four-value, both_yes, both-no}
use Rattle.tree.proofs.leaf_ok.Goals as goal

pub returns-in-Text : goal.returns-in-Text
returns-in-Text c = rw c.in-Text.is (c.is_text.ensures ∙ leaf-text _)

pub returns-then-starts_with : goal.returns-then-starts_with
returns-then-starts_with c =
    let d = sym (starts-dollar c.args.x.now) ∙ sym c.starts_with.ensures.value ∙ c.if-starts_with.true in
    rw c.in-Dollar.is (c.is_text-then-starts_with.ensures ∙ both_yes _ _ d ∙ leaf-dollar _)

pub returns-else-starts_with : goal.returns-else-starts_with
returns-else-starts_with c =
    let d = sym (starts-dollar c.args.x.now) ∙ sym c.starts_with.ensures.value ∙ c.if-starts_with.false in
    rw (c.in-Dollar.is, c.if-starts_with.false) (both-no _ _ d ∙ leaf-dollar _)

pub returns-in-Two : goal.returns-in-Two
returns-in-Two c = rw c.in-Two.is (leaf-two _)

pub returns-then-x-eq1 : goal.returns-then-x-eq1
returns-then-x-eq1 c = rw c.in-Operator.is (c.is_operator.ensures ∙ both_yes _ _ (eq-eqb _ _ c.if-x-eq1.true) ∙ leaf-operator _)

pub returns-else-x-eq1 : goal.returns-else-x-eq1
returns-else-x-eq1 c = let n = ne_eqb _ _ c.if-x-eq1.false in rw c.in-Operator.is (n ∙ both-no _ _ n ∙ leaf-operator _)

pub returns-then-x-eq4 : goal.returns-then-x-eq4
returns-then-x-eq4 c =
    let v = c.from_le_bytes.ensures ∙ four-value _ c.if-x-eq4.true in
    rw c.in-Scalar.is (c.is_scalar.ensures ∙ ap is_scalar v ∙ both_yes _ _ (eq-eqb _ _ c.if-x-eq4.true) ∙ leaf-scalar _)

pub returns-else-x-eq4 : goal.returns-else-x-eq4
returns-else-x-eq4 c = let n = ne_eqb _ _ c.if-x-eq4.false in rw c.in-Scalar.is (n ∙ both-no _ _ n ∙ leaf-scalar _)

pub returns-in-Unknown : goal.returns-in-Unknown
returns-in-Unknown c = rw c.in-Unknown.is (leaf-unknown _)
