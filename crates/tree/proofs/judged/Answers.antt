-- `tree::judged`: well formed, then module numbers, then nesting. Assumes nothing.
use mathlib.Core.Path.{◌∙◌, sym}
use Rattle.tree.proofs.Wf.{tree_of}
use Rattle.tree.proofs.Deep.{says-wrong, says-unnumbered, says-tree}
use Rattle.tree.proofs.judged.Goals as goal

pub numbered-requires : goal.numbered-requires
numbered-requires c = tree_of _ c.in-Some.ensures.0

pub returns-in_default-clause-says : goal.returns-in_default-clause-says
returns-in_default-clause-says c = says-wrong _ c.requires c.in_default.ensures

pub returns-then-not-numbered-clause-says : goal.returns-then-not-numbered-clause-says
returns-then-not-numbered-clause-says c = says-unnumbered _ c.requires (λ t h. sym c.if-not-numbered.true ∙ c.numbered.ensures t h)

pub returns-clause-says : goal.returns-clause-says
returns-clause-says c = says-tree _ _ c.requires c.in-Some.ensures.0 (λ t h. sym c.if-not-numbered.false ∙ c.numbered.ensures t h) c.nested.ensures.says
