-- How climbing finds the rows: what one call of `climb1` is handed, and what it gives. A row of operators is found by the least precedence that it may hold.
use Rattle.std.specs.Prelude.{◌≡◌, Bool, false, List, ◌++◌, ℕ, ◌+◌, ◌-◌, ◌*◌, ◌%◌, ◌≤◌, ◌<◌, length, ltb, leb}
use Rattle.fields.specs.Room.{overlay}
use Rattle.fields.specs.Outcome.{listing, refusal, pick}
use Rattle.fields.specs.Refusals.{number_of, place_of}
use Rattle.fields.specs.declared.Refusal.{Refusal}
use Rattle.climber.specs.Row.{count, precedence, side, longest, leftmost, rightmost}
use Rattle.climber.specs.Climbing.{operators, opening, climbing}

-- the least precedence in the row of i: i's own, and one more if i is left-associative
unfoldable pub least : List ℕ → ℕ → ℕ
least row i = precedence row i + (1 - side row i)

-- is there an operator i, and is it at least min tight?
unfoldable pub tight : List ℕ → ℕ → ℕ → Bool
tight row i min = pick (ltb i (count row)) (leb min (precedence row i)) false

-- the first operator from `at` on that is less tight than min
unfoldable pub climbed : List ℕ → ℕ → ℕ → ℕ
climbed row min at = longest (λ j. leb min (precedence row j)) (count row - at) at

-- a row whose bytes come in twos, of which each second one is a side
pub record Formed (row : List ℕ) : Type 0 where
  pub even : length row % 2 ≡ 0
  pub sides : (i : ℕ) → side row i ≤ 1

-- operand `from` is the leftmost one of each operator from `from` on, below `end`, that stands in no row of those before it
abbrev pub Starts : List ℕ → ℕ → ℕ → Type 0
Starts row from end = (i : ℕ) → from ≤ i → i < end → ((j : ℕ) → from ≤ j → j < i → rightmost row j ≤ i) → leftmost row i ≡ from

-- what a call of `climb1` gives: the end of the row, and the room with the row's operators in it
pub record Climbs (row : List ℕ) (from min r : ℕ) (d d' : List ℕ) : Type 0 where
  pub end : r ≡ climbed row min from
  pub puts : d' ≡ overlay d (4 + 7 * from) (operators row from (r - from))

-- a row that is refused, whatever the room
abbrev pub Refused : List ℕ → Refusal → Type 0
Refused row e = climbing row ≡ refusal (number_of e) (place_of e)

-- a row that is listed, where there is room
abbrev pub Listed : List ℕ → Type 0
Listed row = climbing row ≡ listing 0 (opening ++ operators row 0 (count row))
