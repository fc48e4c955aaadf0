-- `records::put_pair` meets its contract: condition and branch are what the row keeps. Assumes nothing.
use mathlib.Core.Path.{◌∙◌}
use Rattle.records.proofs.put_pair.Goals as goal

pub returns : goal.returns
returns c =
    let f = c.put_three.ensures in
    let a = c.last.ensures in
    let b = c.number.ensures in
    f ∙ rw (a, b)
