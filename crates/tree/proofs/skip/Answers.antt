-- `tree::skip`: what follows the member is the same from each item that was passed over. Assumes nothing.
use native.Mathlib.Omega.{arith}
use mathlib.Core.Path.{◌≡◌, ◌∙◌, sym}
use mathlib.Core.Logic.{inl, inr}
use borrow.Author.Rules.{rules}
use borrow.Author.Tests.{eqb-true, eqb-false}
use Rattle.tree.specs.declared.table.Mode.TheVariants.{One, Mixed}
use Rattle.tree.proofs.Rows.{at-taken, at-stop, at-mixed, at-pass, at_last, one-mode, not-one, mixed-mode, not-mixed, not-term}
use Rattle.tree.proofs.skip.Goals as goal

pub returns-then-takes : goal.returns-then-takes
returns-then-takes c =
    let w = at-taken _ _ (omega arith) c.item_at-it.ensures _ (eqb-true _ _ (sym c.takes.ensures ∙ c.if-takes.true)) c.requires.1 _ c.behind.ensures in
    (w.0 ∙ c.loop-j.invariant, w.1)

pub returns-then-eq : goal.returns-then-eq
returns-then-eq c =
    let m : c.mode-mode.result ≡ One = search rules in
    let n = eqb-false _ _ (sym c.takes.ensures ∙ c.if-takes.false) in
    sym c.loop-j.invariant ∙ at-stop _ _ (omega arith) c.item_at-it.ensures _ n (one-mode _ _ c.mode-mode.ensures m)

pub returns-then-c-eq-TERM : goal.returns-then-c-eq-TERM
returns-then-c-eq-TERM c =
    let m : c.mode-mode.result ≡ Mixed = search rules in
    let n = eqb-false _ _ (sym c.takes.ensures ∙ c.if-takes.false) in
    (at-mixed _ _ (omega arith) c.item_at-it.ensures _ n (mixed-mode _ _ _ c.mode-mode.ensures m c.if-c-eq-TERM.true) ∙ c.loop-j.invariant, omega arith)

pub loop-j-preserved : goal.loop-j-preserved
loop-j-preserved c =
    let o : c.mode-mode.result ≡ One → ⊥ = search rules in
    let n = eqb-false _ _ (sym c.takes.ensures ∙ c.if-takes.false) in
    let pass = at-pass _ _ (omega arith) c.item_at-it.ensures _ n (not-one _ _ c.mode-mode.ensures o) in
    elim c.else-eq-2.either [
      | inl w ↦ pass (not-term _ _ w.1) ∙ c.loop-j.invariant
      | inr w ↦ let m : c.mode-mode.result ≡ Mixed → ⊥ = search rules in pass (not-mixed _ _ _ c.mode-mode.ensures m) ∙ c.loop-j.invariant
    ]

pub returns : goal.returns
returns c = sym c.loop-j.invariant ∙ at_last _ _ (omega arith) (omega arith)
