-- `tree::uses_ok`: imports, then includes. Assumes nothing.
use native.Mathlib.Omega.{arith}
use Prim.Native.Nat.{◌+◌}
use mathlib.Core.Path.{◌≡◌, ◌∙◌, sym, refl, ap}
use Rattle.tree.specs.Rose.{end_of}
use Rattle.tree.proofs.Using.{imports-at, includes-fit, includes-at, both_below, not-below}
use Rattle.tree.proofs.uses_ok.Goals as goal

pub content-first-requires : goal.content-first-requires
content-first-requires c = omega (arith, c.content-imports.ensures, imports-at c.args.b.now c.args.p _ _ refl refl _ c.requires.1)

pub content-second-requires : goal.content-second-requires
content-second-requires c =
    let q = c.content-first.ensures.1 ∙ ap (end_of c.args.b.now) c.content-imports.ensures.0 in
    omega (arith, includes-fit c.args.b.now c.args.p _ _ q refl _ c.requires.1)

pub below-requires : goal.below-requires
below-requires c =
    let q = c.content-first.ensures.1 ∙ ap (end_of c.args.b.now) c.content-imports.ensures.0 in
    let f : c.content-first.result.0 ≡ c.args.p + 6 = omega (arith, c.content-first.ensures, c.content-imports.ensures) in
    imports-at c.args.b.now c.args.p _ _ q f _ c.requires.1

pub below-requires-then-below : goal.below-requires-then-below
below-requires-then-below c =
    let q = c.content-first.ensures.1 ∙ ap (end_of c.args.b.now) c.content-imports.ensures.0 in
    includes-at c.args.b.now c.args.p _ _ q refl _ c.requires.1 _ _ c.content-second.ensures.1 c.content-second.ensures.0

pub returns-then-below : goal.returns-then-below
returns-then-below c = λ u h.
    let q = c.content-first.ensures.1 ∙ ap (end_of c.args.b.now) c.content-imports.ensures.0 in
    let f : c.content-first.result.0 ≡ c.args.p + 6 = omega (arith, c.content-first.ensures, c.content-imports.ensures) in
    both_below c.args.b.now c.args.p _ _ q f u h _ _ c.content-second.ensures.1 c.content-second.ensures.0 _ _ (λ vs x. sym c.if-below.true ∙ c.below.ensures vs x) c.below-then-below.ensures

pub returns-else-below : goal.returns-else-below
returns-else-below c = λ u h.
    let q = c.content-first.ensures.1 ∙ ap (end_of c.args.b.now) c.content-imports.ensures.0 in
    let f : c.content-first.result.0 ≡ c.args.p + 6 = omega (arith, c.content-first.ensures, c.content-imports.ensures) in
    c.if-below.false ∙ not-below c.args.b.now c.args.p _ _ q f u h _ (λ vs x. sym c.if-below.false ∙ c.below.ensures vs x)
