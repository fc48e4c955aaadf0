-- The tables' numbers, as the code names them. Assumes nothing.
use Rattle.std.specs.Prelude.{ℕ, ◌≡◌, ◌≤◌, ◌<◌, Bool, true, false, cond, eqb}
use Rattle.tree.specs.declared.table.Leaf.{Leaf}
use Rattle.tree.specs.declared.table.Leaf.TheVariants.{Text, Dollar, Two, Operator, Scalar, Unknown}
use Rattle.tree.specs.declared.table.Shape.{Shape}
use Rattle.tree.specs.declared.table.Shape.TheVariants.{Row, Bytes}
use Rattle.tree.specs.declared.table.Mode.{Mode}
use Rattle.tree.specs.declared.table.Mode.TheVariants.{One, Optional, Many, Mixed}

-- of each kind of leaf its number, and that of a byte that is no tag
abbrev pub number_of : Leaf → ℕ
number_of Text = 201
number_of Dollar = 202
number_of Two = 203
number_of Operator = 204
number_of Scalar = 205
number_of Unknown = 255

abbrev pub leaf_of : ℕ → Leaf
leaf_of s = cond (eqb s 201) Text (cond (eqb s 202) Dollar (cond (eqb s 203) Two (cond (eqb s 204) Operator (cond (eqb s 205) Scalar Unknown))))

-- s is the content of a tag: where its row starts, which is within the items, or its kind of leaf
abbrev pub IsShape : Shape → ℕ → Type 0
IsShape (Row i) s = (i ≡ s) × (i < 106)
IsShape (Bytes l) s = (number_of l ≡ s) × (200 ≤ s)

abbrev pub is_row : Shape → Bool
is_row (Row i) = true
is_row (Bytes l) = false

-- "0 for one member, 1 for none or one, 2 for any number, 3 for any number of it or of terms"
abbrev pub number_of_mode : Mode → ℕ
number_of_mode One = 0
number_of_mode Optional = 1
number_of_mode Many = 2
number_of_mode Mixed = 3
