-- `finds::call_width` meets its contract: by what the name means. Assumes nothing.
use mathlib.Core.Logic.{inl, inr}
use Rattle.reads.specs.Widths.{call_width}
use Rattle.finds.proofs.call_width.Goals as goal

pub returns-in-NoFilter : goal.returns-in-NoFilter
unfolding call_width
returns-in-NoFilter c = elim c.in-NoFilter.is [ inl h ↦ rw h.2 | inr h ↦ rw h.2 ]

pub returns-in-Argument : goal.returns-in-Argument
unfolding call_width
returns-in-Argument c = rw c.in-Argument.is

pub returns-in-Native : goal.returns-in-Native
unfolding call_width
returns-in-Native c = rw c.in-Native.is

pub returns-in-Parent : goal.returns-in-Parent
unfolding call_width
returns-in-Parent c = elim c.in-Parent.is [ inl h ↦ rw h.1 | inr g ↦ elim g [ inl h ↦ rw h.1 | inr h ↦ rw h.1 ] ]
