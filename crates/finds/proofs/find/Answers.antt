-- `finds::find` meets its contract: the bucket of the name has every row in view that matches. Assumes nothing.
use Rattle.finds.proofs.Seeks.{viewed-along, find-returns}
use lib.ListN.{get_or}
use mathlib.Core.Path.{ap, subst, ◌∙◌}
use Rattle.rules.specs.Names.{Text}
use Rattle.reads.specs.Bytes.{word_of}
use Rattle.finds.specs.Asks.{Seeks}
use Rattle.finds.specs.Gives.{or_zero}
use Rattle.finds.proofs.find.Goals as goal

pub seek-requires : goal.seek-requires
seek-requires c = let a = c.args in viewed-along a.tree.now a.rows.now c.requires.0 c.head_of-h.result c.head_of-h.ensures.1 c.head_of-h.ensures.2

pub returns : goal.returns
returns c =
    let a = c.args in
    let x = c.new-sought.result in
    let e = c.new-sought.ensures in
    let f = subst (λ (y : Text). Seeks a.tree.now a.rows.now (get_or a.rows.now c.head_of-h.result 0) y x.word x.key (or_zero c.seek.result)) e.0 c.seek.ensures.is in
    record {
      is = find-returns a.tree.now a.rows.now a.x.now _ c.requires.2 c.requires.1 x.word x.key c.head_of-h.result _ (x.by_word ∙ ap word_of e.0) e.1 c.head_of-h.ensures.0 c.head_of-h.ensures.1 c.head_of-h.ensures.2 f;
      real = c.seek.ensures.real;
    }
