-- `tree::table::shape_of`: a row within the items, or a kind of leaf. Assumes nothing.
use Prim.Native.Nat.{ℕ}
use lib.ListN.{get_or}
use mathlib.Core.Path.{ap, ◌∙◌}
use native.Mathlib.Omega.{arith}
use borrow.Author.Rules.{rules}
use Rattle.tree.specs.Table.{shapes}
use Rattle.tree.proofs.Tables.{row-shape, leaf-shape}
use Rattle.tree.proofs.table.shape_of.Goals as goal

pub returns-then-s-lt200 : goal.returns-then-s-lt200
unfolding shapes
returns-then-s-lt200 c = row-shape c.args.k _ (search rules) (c.from-then-s-lt200.ensures ∙ ap (λ (n : ℕ). get_or shapes n 0) c.from.ensures) (omega (arith, c.from-then-s-lt200.ensures, c.if-s-lt200.true))

pub returns : goal.returns
unfolding shapes
returns c = rw c.leaf_of.ensures (leaf-shape c.args.k _ (search rules) (ap (λ (n : ℕ). get_or shapes n 0) c.from.ensures) c.if-s-lt200.false)
