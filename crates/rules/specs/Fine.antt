-- Which definitions are known of a tree's table: those that stand in the tree. Assumes nothing.
use Rattle.tree.specs.Tree.{Def, Tree}
use Rattle.rules.specs.Lists.{Member}
use Rattle.rules.specs.Definitions.{defs_of}

-- a definition that stands in the tree
abbrev pub Of : Tree → Def → Type 0
Of t d = Member d (defs_of t)
