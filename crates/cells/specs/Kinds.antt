-- The number by which a row's cell keeps its kind. Assumes nothing.
use Rattle.std.specs.Prelude.{ℕ, ◌≡◌}
use Rattle.std.proofs.Common.{refl, arith}
use Rattle.cells.specs.declared.RowKind.{RowKind}
use Rattle.cells.specs.declared.RowKind.TheVariants.{Var, Label, Arg, Parent, Sibling, Native, Kept, Piece}

abbrev pub kind_number : RowKind → ℕ
kind_number Var = 0
kind_number Label = 1
kind_number Arg = 2
kind_number Parent = 3
kind_number Sibling = 4
kind_number Native = 5
kind_number Kept = 6
kind_number Piece = 7

pub kept-only : (k : RowKind) → kind_number k ≡ 6 → k ≡ Kept
kept-only Kept e = refl
kept-only Var e = absurd (omega arith)
kept-only Label e = absurd (omega arith)
kept-only Arg e = absurd (omega arith)
kept-only Parent e = absurd (omega arith)
kept-only Sibling e = absurd (omega arith)
kept-only Native e = absurd (omega arith)
kept-only Piece e = absurd (omega arith)
