-- `sub_pattern` meets its contract. Assumes nothing.
use native.Mathlib.Omega.{arith}
use mathlib.Core.Path.{◌∙◌}
use borrow.Author.Tests.{eq-eqb, ne_eqb}
use Rattle.reads.proofs.bytes.sub_pattern.Goals as goal

pub returns-then-tag-eq153 : goal.returns-then-tag-eq153
returns-then-tag-eq153 c = rw (eq-eqb _ _ c.if-tag-eq153.true)

pub overflow_add-p : goal.overflow_add-p
overflow_add-p c = omega (arith, c.requires c.if-tag-eq153.false)

pub end_of-requires : goal.end_of-requires
end_of-requires c = c.requires c.if-tag-eq153.false

pub returns : goal.returns
returns c = c.end_of.ensures ∙ rw (ne_eqb _ _ c.if-tag-eq153.false)
