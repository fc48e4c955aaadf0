-- `entries_width` meets its contract. Assumes nothing.
use Rattle.reads.proofs.Partings.{row_next, entries_none, entries-one, entries-many}
use native.Mathlib.Omega.{arith}
use mathlib.Core.Path.{sym, ◌∙◌}
use Rattle.reads.proofs.width.entries_width.Goals as goal

pub end_of-requires : goal.end_of-requires
end_of-requires c = let s = c.requires in omega (arith, s.0, row_next _ _ _ _ s.1.1 c.if-q-z.true)

pub returns-then-end_of-z : goal.returns-then-end_of-z
returns-then-end_of-z c = (entries-one _ _ _ c.if-q-z.true (sym c.end_of.ensures ∙ c.if-end_of-z.true), omega arith)

pub returns-then-q-z : goal.returns-then-q-z
returns-then-q-z c = (entries-many _ _ _ c.if-q-z.true (λ e. c.if-end_of-z.false (c.end_of.ensures ∙ e)), omega arith)

pub returns : goal.returns
returns c = (entries_none _ _ _ c.if-q-z.false, omega arith)
