-- `word` meets its contract. Assumes nothing.
use mathlib.Core.Path.{◌∙◌}
use native.Mathlib.Omega.{arith}
use Rattle.reads.proofs.Numbers.{word-long, word_none, word-short}
use Rattle.reads.proofs.bytes.word.Goals as goal

pub returns-then-l-ge4 : goal.returns-then-l-ge4
returns-then-l-ge4 c = word-long _ _ _ c.if-l-ge4.true (c.from.ensures ∙ c.four.ensures) (c.from-then-l-ge4.ensures ∙ c.four-then-l-ge4.ensures)

pub returns-then-l-eq0 : goal.returns-then-l-eq0
returns-then-l-eq0 c = word_none _ c.if-l-ge4.false c.if-l-eq0.true

pub returns : goal.returns
returns c = omega (arith, c.from-2.ensures, c.from_le_bytes.ensures, word-short _ c.if-l-ge4.false c.if-l-eq0.false)
