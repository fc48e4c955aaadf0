-- `records::put_folding` meets its contract: the kind, and for a projection a number behind it. Assumes nothing.
use native.Mathlib.Omega.{arith}
use mathlib.Core.Path.{◌≡◌, refl, ap, ◌∙◌}
use lib.ListN.{set}
use denote.Enum.Declared.{tag_of}
use Rattle.std.specs.Prelude.{Some}
use Rattle.reads.specs.contracts.width.FoldKind.{the_type}
use Rattle.reads.specs.declared.width.FoldKind.{FoldKind}
use Rattle.reads.specs.declared.width.FoldKind.TheVariants.{Reduce, Foreach, Projected}
use Rattle.reads.specs.Kinds.{fold_number, some-kind}
use Rattle.records.proofs.Small.{fold-two, fold-one}
use Rattle.records.proofs.put_folding.Goals as goal

byte : (k : FoldKind) → tag_of the_type k ≡ fold_number (Some k)
byte Reduce = refl
byte Foreach = refl
byte Projected = refl

projected : (k : FoldKind) → fold_number (Some k) ≡ 2 → k ≡ Projected
projected Reduce e = absurd (omega (arith, e))
projected Foreach e = absurd (omega (arith, e))
projected Projected e = refl

pub returns-in-Projected : goal.returns-in-Projected
returns-in-Projected c =
    let a = c.args in
    fold-two (fold_number (Some a.kind)) a.n a.o a.out.now _ _ (rw c.in-Projected.is refl) (c.put1.ensures ∙ ap (set a.out.now a.o) (byte a.kind)) c.put_number.ensures

pub returns-in_default : goal.returns-in_default
returns-in_default c =
    let a = c.args in
    fold-one (fold_number (Some a.kind)) a.n a.o a.out.now _ (λ e. c.in_default.not-Projected (projected a.kind e)) (some-kind _ a.kind refl) (c.put1.ensures ∙ ap (set a.out.now a.o) (byte a.kind))
