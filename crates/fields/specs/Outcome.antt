-- What a call comes to. Document 01: "Each call gives a number, a length written and a place", and of the numbers: "0: listing of tokens, operators
-- or terms; 1: listing of errors, nothing else; 7: listing longer than the room lent .. The lowest applicable of 2 to 6 and 8 is given; then 7, tested
-- against the listing due; then 0 or 1. .. For 2 to 8 the length is 0." Each entry says by a definition of its own what its input comes to; the answer
-- and the later content of the room follow here, once for all entries.
use Rattle.std.specs.Prelude.{◌≡◌, Bool, true, false, List, ◌++◌, ℕ, length, drop, leb}
use Rattle.fields.specs.declared.Answer.{Answer}

-- a listing with its number (0 or 1), or a refusal with its number and place
pub data Outcome : Type 0 where
  listing : ℕ → List ℕ → Outcome
  refusal : ℕ → ℕ → Outcome

-- where the test holds the first, else the second
abbrev pub pick : {A : Type 0} → Bool → A → A → A
pick true a b = a
pick false a b = b

-- the answer, where room for so many bytes is lent
unfoldable pub answer : Outcome → ℕ → Answer
answer (listing n bytes) room = pick (leb (length bytes) room) (record { number = n; length = length bytes; place = 0 }) (record { number = 7; length = 0; place = 0 })
answer (refusal n at) room = record { number = n; length = 0; place = at }

-- what the room holds afterwards, where it held d
unfoldable pub content : Outcome → List ℕ → List ℕ
content (listing n bytes) d = pick (leb (length bytes) (length d)) (bytes ++ drop (length bytes) d) d
content (refusal n at) d = d

-- an entry's promise: its answer and the later content of its room are the outcome's
pub record Answers (o : Outcome) (d d' : List ℕ) (r : Answer) : Type 0 where
  pub answers : r ≡ answer o (length d)
  pub leaves : d' ≡ content o d
