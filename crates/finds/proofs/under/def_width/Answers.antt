-- `finds::under::def_width` meets its contract: the width of the term that the definitions are for. Assumes nothing.
use Rattle.finds.proofs.Unders.{body-tag}
use Rattle.finds.proofs.Widths.{width-at}
use native.Mathlib.Omega.{arith}
use Rattle.finds.proofs.under.def_width.Goals as goal

pub own_width-requires : goal.own_width-requires
own_width-requires c = let a = c.args in (c.requires.0, c.requires.1, (c.requires.2.0, c.requires.2.1, c.body_of.ensures.0 c.requires.2.0 c.requires.2.1), body-tag a.b.now c.body_of.result c.requires.2.0 (c.body_of.ensures.0 c.requires.2.0 c.requires.2.1))

pub returns : goal.returns
returns c = let a = c.args in (width-at a.b.now a.rows.now a.p c.body_of.result c.own_width.result c.body_of.ensures.0 c.own_width.ensures.0, omega (arith, c.own_width.ensures.1, c.body_of.ensures.1, c.body_of.ensures.2))
