-- `is_text` meets its contract. Assumes nothing.
use mathlib.Core.Path.{ap, ◌∙◌}
use Rattle.rules.specs.Names.{same}
use Rattle.reads.specs.Texts.{text-slice}
use Rattle.reads.proofs.Texts.{pointwise-same}
use Rattle.reads.proofs.bytes.is_text.Goals as goal

pub returns : goal.returns
returns c =
    let a = c.args in
    c.eq.ensures ∙ pointwise-same a.x.now _ ∙ ap (same a.x.now) (text-slice a.b.now a.p _ c.end_of.ensures)
