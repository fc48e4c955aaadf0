-- `records::put_call` meets its contract: each kind of row is that of one meaning of the name, and no other. Assumes nothing.
use native.Mathlib.Omega.{arith}
use mathlib.Core.Path.{refl, ◌∙◌}
use mathlib.Core.Logic.{inl, inr}
use Rattle.rules.proofs.Returns.{one-member}
use Rattle.records.proofs.Calling.{index-ready, native-ready, jump-ready, call-argument, call-native, call-lost, call-jump}
use Rattle.records.proofs.Jumps.{as-parent, as-sibling, as-outer}
use Rattle.cells.specs.Cells.{last_at}
use Rattle.records.proofs.put_call.Goals as goal

pub index-requires : goal.index-requires
index-requires c = index-ready _ _ _ _ _ _ (rw c.in-Argument.is at c.requires) refl

pub put_native-requires : goal.put_native-requires
put_native-requires c = native-ready _ _ _ _ _ _ (rw c.in-Native.is at c.requires) refl

pub level-requires : goal.level-requires
level-requires c = (jump-ready _ _ _ _ _ _ (rw c.in-Parent.is at c.requires) (λ h. omega arith) (λ e. omega arith) (λ e. omega arith)).2.within

pub level-requires-in-Sibling : goal.level-requires-in-Sibling
level-requires-in-Sibling c = (jump-ready _ _ _ _ _ _ (rw c.in-Sibling.is at c.requires) (λ h. omega arith) (λ e. omega arith) (λ e. omega arith)).2.within

pub last-requires : goal.last-requires
last-requires c = (jump-ready _ _ _ _ _ _ (rw c.in-Sibling.is at c.requires) (λ h. omega arith) (λ e. omega arith) (λ e. omega arith)).2.within

pub last-requires-in-Outer : goal.last-requires-in-Outer
last-requires-in-Outer c = (jump-ready _ _ _ _ _ _ (rw c.in-Outer.is at c.requires) (λ h. omega arith) (λ e. omega arith) (λ e. omega arith)).2.within

pub outer-jump-requires : goal.outer-jump-requires
outer-jump-requires c = rw c.last-in-Outer.ensures (one-member _ _ ((jump-ready _ _ _ _ _ _ (rw c.in-Outer.is at c.requires) (λ h. omega arith) (λ e. omega arith) (λ e. omega arith)).2.lone (λ e. omega arith) (λ e. omega arith)))

pub put_def-requires : goal.put_def-requires
put_def-requires c = let w = (jump-ready _ _ _ _ _ _ (rw c.in-Parent.is at c.requires) (λ h. omega arith) (λ e. omega arith) (λ e. omega arith)) in (w.0, w.1)

pub put_def-requires-in-Sibling : goal.put_def-requires-in-Sibling
put_def-requires-in-Sibling c = let w = (jump-ready _ _ _ _ _ _ (rw c.in-Sibling.is at c.requires) (λ h. omega arith) (λ e. omega arith) (λ e. omega arith)) in (w.0, w.1)

pub put_def-requires-in-Outer : goal.put_def-requires-in-Outer
put_def-requires-in-Outer c = let w = (jump-ready _ _ _ _ _ _ (rw c.in-Outer.is at c.requires) (λ h. omega arith) (λ e. omega arith) (λ e. omega arith)) in (w.0, w.1)

pub returns-in-NoFilter : goal.returns-in-NoFilter
returns-in-NoFilter c = elim c.in-NoFilter.is [ inl h ↦ rw h.2 (call-lost _ _ _ _ _ _ _ _ _ (omega arith) c.put_bare.ensures) | inr h ↦ rw h.2 (call-lost _ _ _ _ _ _ _ _ _ (omega arith) c.put_bare.ensures) ]

pub returns-in-Argument : goal.returns-in-Argument
returns-in-Argument c = rw c.in-Argument.is (call-argument _ _ _ _ _ _ _ _ _ _ refl c.index.ensures c.put_one.ensures)

pub returns-in-Native : goal.returns-in-Native
returns-in-Native c = rw c.in-Native.is (call-native _ _ _ _ _ _ _ _ _ refl c.put_native.ensures)

pub returns-in-Parent : goal.returns-in-Parent
returns-in-Parent c = let w = as-parent 3 _ (last_at c.args.rows.now c.in-Parent.j) _ _ _ refl (rw c.level.ensures at c.parent-jump.ensures) in rw c.in-Parent.is (call-jump _ _ _ _ _ _ _ _ _ _ (λ h. omega arith) (λ e. omega arith) (λ e. omega arith) (rw w.0 at c.put_def.ensures.0) (c.put_def.ensures.1 ∙ w.1))

pub returns-in-Sibling : goal.returns-in-Sibling
returns-in-Sibling c = let w = as-sibling 4 _ _ _ _ _ refl (rw (c.level-in-Sibling.ensures, c.last.ensures) at c.sibling-jump.ensures) in rw c.in-Sibling.is (call-jump _ _ _ _ _ _ _ _ _ _ (λ h. omega arith) (λ e. omega arith) (λ e. omega arith) (rw w.0 at c.put_def-in-Sibling.ensures.0) (c.put_def-in-Sibling.ensures.1 ∙ w.1))

pub returns-in-Outer : goal.returns-in-Outer
returns-in-Outer c = let w = as-outer 5 _ _ c.args.allowed _ _ (λ e. omega arith) (λ e. omega arith) ((jump-ready _ _ _ _ _ _ (rw c.in-Outer.is at c.requires) (λ h. omega arith) (λ e. omega arith) (λ e. omega arith)).2.lone (λ e. omega arith) (λ e. omega arith)) (rw c.last-in-Outer.ensures at c.outer-jump.ensures.0) c.outer-jump.ensures.1 in rw c.in-Outer.is (call-jump _ _ _ _ _ _ _ _ _ _ (λ h. omega arith) (λ e. omega arith) (λ e. omega arith) (rw w.0 at c.put_def-in-Outer.ensures.0) (c.put_def-in-Outer.ensures.1 ∙ w.1))
