-- `finds::under::named_width` meets its contract: an index is two bytes; an error leaves Id. Assumes nothing.
use Prim.Native.Nat.{◌+◌, ◌-◌}
use Rattle.reads.specs.Texts.{text-slice}
use Rattle.finds.proofs.Widths.{part-short, named_none, named_some}
use mathlib.Core.Path.{refl}
use Rattle.finds.specs.Gives.{gives-some, gives-none}
use native.Mathlib.Omega.{arith}
use Rattle.finds.proofs.under.named_width.Goals as goal

pub find-requires : goal.find-requires
find-requires c = let a = c.args in (c.requires.0, part-short a.b.now (c.end_of-z.result - (a.p + 3)) (a.p + 3) c.requires.1, c.requires.3)

pub returns-in-Some : goal.returns-in-Some
returns-in-Some c = let a = c.args in let g = gives-some _ _ _ c.find.ensures c.in-Some.is in (named_some a.b.now a.rows.now a.p _ _ (text-slice a.b.now a.p c.end_of-z.result c.end_of-z.ensures) _ g.0 g.1, omega arith)

pub returns-in-None : goal.returns-in-None
returns-in-None c = let a = c.args in (named_none a.b.now a.rows.now a.p _ _ (text-slice a.b.now a.p c.end_of-z.result c.end_of-z.ensures) 0 (gives-none _ _ c.find.ensures c.in-None.is) refl, omega arith)
