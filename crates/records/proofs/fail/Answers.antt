-- `records::fail` meets its contract: the error that the kind says, or none. Assumes nothing.
use native.Mathlib.Omega.{arith}
use mathlib.Core.Path.{refl}
use Rattle.records.proofs.Small.{no-filter, no-module, no-error}
use Prim.Native.Nat.{ℕ, ◌≤◌}
use Rattle.std.specs.Prelude.{◌≡◌}
use Rattle.finds.specs.Numbers.{numbers}
use Rattle.finds.specs.declared.Meaning.{Meaning}
use Rattle.finds.specs.declared.Meaning.TheVariants.{NoFilter, NoModule, Argument, Parent, Sibling, Outer, Native}
use Rattle.records.proofs.fail.Goals as goal

-- what means something has no number of an error
no-lost : (f : Meaning) → ((x y : ℕ) → f ≡ NoFilter x y → ⊥) → ((x y : ℕ) → f ≡ NoModule x y → ⊥) → 2 ≤ (numbers f).kind
no-lost (NoFilter x y) h k = absurd (h x y refl)
no-lost (NoModule x y) h k = absurd (k x y refl)
no-lost (Argument j) h k = omega arith
no-lost (Parent j) h k = omega arith
no-lost (Sibling j) h k = omega arith
no-lost (Outer j) h k = omega arith
no-lost (Native j) h k = omega arith

pub returns-in-NoFilter : goal.returns-in-NoFilter
returns-in-NoFilter c = rw c.in-NoFilter.is (no-filter _ _ _ _ _ _ _ _ refl c.insert_error.ensures.0 c.insert_error.ensures.1 c.put_filter_error.ensures)

pub returns-in-NoModule : goal.returns-in-NoModule
returns-in-NoModule c = rw c.in-NoModule.is (no-module _ _ _ _ _ _ _ _ refl c.insert_error-in-NoModule.ensures.0 c.insert_error-in-NoModule.ensures.1 c.put_error.ensures)

pub returns-in_default : goal.returns-in_default
returns-in_default c = let w = no-lost c.args.f c.in_default.not-NoFilter c.in_default.not-NoModule in no-error _ (numbers c.args.f) _ _ _ (λ e. omega arith) (λ e. omega arith)
