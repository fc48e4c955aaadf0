-- The numbers of each meaning of a call. Assumes nothing.
use Rattle.finds.specs.Hits.{Found, row_of, lost_of}
use Rattle.finds.specs.declared.Meaning.{Meaning}
use Rattle.finds.specs.declared.Meaning.TheVariants.{NoFilter, NoModule, Argument, Parent, Sibling, Outer, Native}

abbrev pub numbers : Meaning → Found
numbers (NoFilter at len) = lost_of 0 at len
numbers (NoModule at len) = lost_of 1 at len
numbers (Argument j) = row_of 2 j
numbers (Parent j) = row_of 3 j
numbers (Sibling j) = row_of 4 j
numbers (Outer j) = row_of 5 j
numbers (Native j) = row_of 6 j
