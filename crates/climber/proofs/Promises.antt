-- What a reader signs for: the operands of an operator, by document 01's two sentences, and one answer for every row and room.
use mathlib.Core.Path.{◌≡◌}
use mathlib.Core.Bool.{true, false}
use mathlib.Core.List.{List}
use mathlib.Core.Logic.{◌⊎◌, inl, inr, ⊎_elim}
use Rattle.std.specs.Prelude.{Result}
use Prim.Native.Nat.{ℕ, suc, ◌-◌, ◌≤◌, ◌<◌}
use native.Mathlib.Omega.{arith}
use Rattle.fields.specs.declared.Answer.{Answer}
use Rattle.fields.specs.Outcome.{Answers}
use Rattle.fields.specs.declared.Listing.{Listing}
use Rattle.fields.specs.declared.Refusal.{Refusal}
use Rattle.fields.specs.Refusals.{answer_of}
use Rattle.fields.specs.Promises.{one_answer, one_result}
use Rattle.climber.specs.Row.{count, tighter, leftmost, rightmost}
use Rattle.climber.specs.Climbing.{climbing}
use Rattle.climber.proofs.Rows.{longest-in, longest-end, none, holds}

-- "The right operand of operator i runs over the longest row of following operators that are each tighter, or equally tight if i is right-associative.":
-- each operator in the row is, and the row ends with the operators or at one that is not
pub right_operand : (row : List ℕ) (i : ℕ) → i < count row
    → ((j : ℕ) → i < j → j < rightmost row i → tighter row i j ≡ true) × ((rightmost row i ≡ count row) ⊎ (tighter row i (rightmost row i) ≡ false))
unfolding rightmost
right_operand row i h = (
  longest-in (tighter row i) (count row - suc i) (suc i),
  ⊎_elim (λ e. inl (omega arith)) (λ e. inr e) (longest-end (tighter row i) (count row - suc i) (suc i)),
)

-- "The left operand starts after the nearest earlier operator whose row holds i": j's row holds i, and no row of an operator between
pub left-operand : (row : List ℕ) (i j : ℕ) → j < i → i < rightmost row j → ((k : ℕ) → j < k → k < i → rightmost row k ≤ i) → leftmost row i ≡ suc j
unfolding leftmost
left-operand row i j h k f = holds row i j i k h f

-- ", else at the head."
pub left-head : (row : List ℕ) (i : ℕ) → ((k : ℕ) → k < i → rightmost row k ≤ i) → leftmost row i ≡ 0
unfolding leftmost
left-head row i f = none row i i f

-- "Any two answers it permits are shown equal"
pub climb-one-answer : (row d d₁ d₂ : List ℕ) (r₁ r₂ : Answer) → Answers (climbing row) d d₁ r₁ → Answers (climbing row) d d₂ r₂ → (r₁ ≡ r₂) × (d₁ ≡ d₂)
climb-one-answer row = one_answer (climbing row)

pub climb-one-result : (row d d₁ d₂ : List ℕ) (r₁ r₂ : Result Listing Refusal) → Answers (climbing row) d d₁ (answer_of r₁) → Answers (climbing row) d d₂ (answer_of r₂)
    → (r₁ ≡ r₂) × (d₁ ≡ d₂)
climb-one-result row = one_result (climbing row)
