-- What the room holds before a call and after it. It is filled with a pattern, so that a byte that an entry changed shows.
use Rattle.std.specs.Prelude.{◌≡◌, Bool, true, List, ℕ, ◌+◌, ◌%◌, ◌≤◌, ◌<◌, length, get_or, ltb}
use Rattle.fields.specs.Outcome.{pick}

abbrev pub pattern_at : ℕ → ℕ
pattern_at i = i % 251

unfoldable pub Patterned : List ℕ → Type 0
Patterned room = (i : ℕ) → i < length room → get_or room i 0 ≡ pattern_at i

-- the pattern from number `from` on
abbrev pub Untouched : List ℕ → ℕ → Type 0
Untouched bytes from = (i : ℕ) → i < length bytes → get_or bytes i 0 ≡ pattern_at (from + i)

-- what the room must hold at i: the listing, and past it the pattern still
unfoldable pub due_at : List ℕ → ℕ → ℕ
due_at listing i = pick (ltb i (length listing)) (get_or listing i 0) (pattern_at i)

-- the room as a call must leave it that gives this listing
pub record Left (room listing : List ℕ) : Type 0 where
  pub fits : length listing ≤ length room
  pub holds : (i : ℕ) → i < length room → get_or room i 0 ≡ due_at listing i

-- r tells whether P holds
abbrev pub Tells : Bool → Type 0 → Type 0
Tells r P = (r ≡ true → P) × (P → r ≡ true)
