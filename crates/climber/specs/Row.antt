-- A row of operators and the operands of each. Document 01: "Input: two bytes an operator, precedence, then side, 0 left or 1 right". Operator i stands
-- between the operands i and i + 1; the head is operand 0.
use Rattle.std.specs.Prelude.{Bool, true, false, List, ℕ, zero, suc, ◌+◌, ◌-◌, ◌*◌, ◌/◌, length, get_or, ltb, eqb}
use Rattle.fields.specs.Outcome.{pick}

abbrev pub count : List ℕ → ℕ
count row = length row / 2

abbrev pub precedence : List ℕ → ℕ → ℕ
precedence row i = get_or row (2 * i) 0

abbrev pub side : List ℕ → ℕ → ℕ
side row i = get_or row (2 * i + 1) 0

-- "each tighter, or equally tight if i is right-associative": may j stand in the row of i?
unfoldable pub tighter : List ℕ → ℕ → ℕ → Bool
tighter row i j = pick (ltb (precedence row i) (precedence row j)) true (pick (eqb (precedence row i) (precedence row j)) (eqb (side row i) 1) false)

-- the end of the longest row of operators from `at` on that each pass the test, where n are left
unfoldable pub longest : (ℕ → Bool) → ℕ → ℕ → ℕ
longest test zero at = at
longest test (suc n) at = pick (test at) (longest test n (suc at)) at

-- "The right operand of operator i runs over the longest row of following operators that are each tighter, or equally tight if i is right-associative.":
-- the first operator behind that row, which is also the number of the last operand in it
unfoldable pub rightmost : List ℕ → ℕ → ℕ
rightmost row i = longest (tighter row i) (count row - suc i) (suc i)

-- "The left operand starts after the nearest earlier operator whose row holds i, else at the head.": j is looked for downwards, from just below k
unfoldable pub nearest : List ℕ → ℕ → ℕ → ℕ
nearest row i zero = 0
nearest row i (suc j) = pick (ltb i (rightmost row j)) (suc j) (nearest row i j)

unfoldable pub leftmost : List ℕ → ℕ → ℕ
leftmost row i = nearest row i i
