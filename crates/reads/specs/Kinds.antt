-- What a fold is, and the number that the rules' words go by. Assumes nothing.
use Rattle.std.specs.Prelude.{ℕ, ◌<◌, ◌≡◌, refl, Option, Some, None}
use Rattle.std.proofs.Common.{arith, ap}
use Rattle.reads.specs.declared.width.FoldKind.{FoldKind}
use Rattle.reads.specs.declared.width.FoldKind.TheVariants.{Reduce, Foreach, Projected}

-- 0 reduce, 1 foreach, 2 foreach with a projection, 3 none of these
abbrev pub fold_number : Option FoldKind → ℕ
fold_number None = 3
fold_number (Some Reduce) = 0
fold_number (Some Foreach) = 1
fold_number (Some Projected) = 2

pub some-kind : (o : Option FoldKind) (k : FoldKind) → o ≡ Some k → fold_number o < 3
some-kind o Reduce e = rw e (omega arith)
some-kind o Foreach e = rw e (omega arith)
some-kind o Projected e = rw e (omega arith)

pub no-kind : (o : Option FoldKind) → o ≡ None → fold_number o ≡ 3
no-kind o e = rw e

pub kind-is : (o : Option FoldKind) (k j : FoldKind) → o ≡ Some k → k ≡ j → fold_number o ≡ fold_number (Some j)
kind-is o k j e f = rw (e, f)

pub no-projection : (o : Option FoldKind) (k : FoldKind) → o ≡ Some k → (k ≡ Projected → ⊥) → fold_number o ≡ 2 → ⊥
no-projection o Reduce e n f = absurd (omega (arith, ap fold_number e, f))
no-projection o Foreach e n f = absurd (omega (arith, ap fold_number e, f))
no-projection o Projected e n f = n refl
