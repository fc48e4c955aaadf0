-- The number by which a row's cell keeps its class. Assumes nothing.
use Rattle.std.specs.Prelude.{ℕ}
use Rattle.cells.specs.declared.Class.{Class}
use Rattle.cells.specs.declared.Class.TheVariants.{Variable, Label, Filter, Note}

abbrev pub class_number : Class → ℕ
class_number Variable = 0
class_number Label = 1
class_number Filter = 2
class_number Note = 3
