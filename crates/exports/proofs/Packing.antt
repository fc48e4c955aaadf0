-- From an entry's promise to the exported one's. Assumes nothing.
use mathlib.Core.Path.{◌≡◌, ap, ◌∙◌}
use mathlib.Core.List.{List}
use Prim.Native.Nat.{ℕ}
use Rattle.fields.specs.declared.Answer.{Answer}
use Rattle.fields.specs.Outcome.{Outcome, Answers}
use Rattle.exports.specs.Packed.{packed, Packs}

pub packing : (o : Outcome) (d d' : List ℕ) (a : Answer) (r : ℕ) → Answers o d d' a → r ≡ packed a → Packs o d d' r
packing o d d' a r h e = record { packs = e ∙ ap packed h.answers; leaves = h.leaves }
