-- `fold_width` meets its contract. Assumes nothing.
use Prim.Native.Nat.{ℕ, ◌+◌, ◌*◌, ◌≤◌}
use native.Mathlib.Omega.{arith}
use mathlib.Core.Path.{◌≡◌, ap, ◌∙◌}
use denote.Enum.Bare.{sameb}
use mir.Val.{bool_byte}
use Rattle.std.specs.Prelude.{Some}
use Rattle.reads.specs.contracts.width.FoldKind.{the_type}
use Rattle.reads.specs.declared.width.FoldKind.{FoldKind}
use Rattle.reads.specs.declared.width.FoldKind.TheVariants.{Reduce, Foreach, Projected}
use Rattle.reads.specs.Widths.{fold_width}
use Rattle.reads.specs.Kinds.{fold_number}
use Rattle.reads.proofs.Owns.{fold-no, fold-twelve, fold-ten}
use Rattle.reads.proofs.width.fold_width.Goals as goal

-- a projection has a number of its own
numbered : (k : FoldKind) (n : ℕ) → n ≡ bool_byte (sameb the_type k Projected) → (n ≤ 1) × ((r w : ℕ) → r ≡ w → 10 + r + 2 * n ≡ fold_width (fold_number (Some k)) w)
numbered Reduce n e = (omega (arith, e), λ r w f. omega (arith, e, fold-ten 0 r w (λ g. omega arith) (λ g. omega arith) f))
numbered Foreach n e = (omega (arith, e), λ r w f. omega (arith, e, fold-ten 1 r w (λ g. omega arith) (λ g. omega arith) f))
numbered Projected n e = (omega (arith, e), λ r w f. omega (arith, e, fold-twelve 2 r w (omega arith) f))

pub returns-in_default : goal.returns-in_default
returns-in_default c = rw c.in_default.is (λ x h. fold-no 3 (omega arith) _, omega arith)

pub returns : goal.returns
returns c =
    let n = numbered c.in-Some.kind c.from.result (c.from.ensures ∙ ap bool_byte c.eq.ensures) in
    rw c.in-Some.is (λ x h. n.1 _ _ (c.pattern_width.ensures.0 x h), omega (arith, n.0, c.pattern_width.ensures.1))
