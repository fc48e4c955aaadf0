-- The form of a recorded case. "entry 1 byte; length of the input 4 bytes; the input; length of the room 4 bytes; answer: number 1 byte, length 4 bytes,
-- place 4 bytes; the listing, as long as the answer's length says. Numbers are little-endian."
use Rattle.std.specs.Prelude.{◌≡◌, List, ℕ, ◌+◌, ◌≤◌, length, take, drop, get_or}
use Rattle.fields.specs.Number.{value}
use Rattle.fields.specs.declared.Answer.{Answer}
use Rattle.replay.specs.declared.Case.{Case}

-- the number in the four bytes from `at` on
unfoldable pub number_at : List ℕ → ℕ → ℕ
number_at s at = value (take 4 (drop at s))

abbrev pub entry_of : List ℕ → ℕ
entry_of case = get_or case 0 0

unfoldable pub input_of : List ℕ → List ℕ
input_of case = take (number_at case 1) (drop 5 case)

-- what is recorded of the input: the case from the room's length on
unfoldable pub record_of : List ℕ → List ℕ
record_of case = drop (5 + number_at case 1) case

unfoldable pub room_of : List ℕ → ℕ
room_of recorded = number_at recorded 0

unfoldable pub answer_of : List ℕ → Answer
answer_of recorded = record { number = get_or recorded 4 0; length = number_at recorded 5; place = number_at recorded 9 }

unfoldable pub listing_of : List ℕ → List ℕ
listing_of recorded = drop 13 recorded

-- a case that has all its parts, and nothing behind them
pub record Whole (case : List ℕ) : Type 0 where
  pub inputs : 18 + number_at case 1 ≤ length case
  pub lists : 13 + (answer_of (record_of case)).length ≡ length (record_of case)

-- the parts of a case are those of its bytes
pub record Parts (bytes : List ℕ) (case : Case) : Type 0 where
  pub entry : case.entry ≡ entry_of bytes
  pub input : case.input.now ≡ input_of bytes
  pub lent : case.lent ≡ room_of (record_of bytes)
  pub answer : case.answer ≡ answer_of (record_of bytes)
  pub listing : case.listing.now ≡ listing_of (record_of bytes)

-- the bytes begin with this number, and the rest is what is behind it
abbrev pub NumberFirst : List ℕ → ℕ → List ℕ → Type 0
NumberFirst bytes n rest = (4 ≤ length bytes) × (n ≡ number_at bytes 0) × (rest ≡ drop 4 bytes)

-- the bytes begin with this case, which is whole, and the rest is what is behind it
pub record CaseFirst (bytes : List ℕ) (case : Case) (rest : List ℕ) : Type 0 where
  pub size : ℕ
  pub some : 1 ≤ size
  pub within : size ≤ length bytes
  pub behind : rest ≡ drop size bytes
  pub whole : Whole (take size bytes)
  pub parts : Parts (take size bytes) case
