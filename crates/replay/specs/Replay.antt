-- What it means that a recorded case holds: the entry's definition gives what is recorded of the Rust.
use Rattle.std.specs.Prelude.{◌≡◌, ◌≢◌, List, ◌++◌, ℕ, length, drop, eqb}
use Rattle.fields.specs.declared.Answer.{Answer}
use Rattle.fields.specs.Outcome.{Outcome, refusal, pick, Answers}
use Rattle.climber.specs.Climbing.{climbing}
use Rattle.lexer.specs.Lexing.{lexing}
use Rattle.replay.specs.declared.Entry.{Entry}
use Rattle.replay.specs.declared.Entry.TheVariants.{Climb, Lex}
use Rattle.replay.specs.Case.{entry_of, input_of, record_of, room_of, answer_of, listing_of}

-- "entry (1 climb, 2 lex, 3 compile)": what the entry comes to. A byte that names no entry is never called, so that what stands for it says nothing.
unfoldable pub outcome : ℕ → List ℕ → Outcome
outcome entry input = pick (eqb entry 1) (climbing input) (pick (eqb entry 2) (lexing input) (refusal 0 0))

-- the byte that names an entry
abbrev pub byte_of : Entry → ℕ
byte_of Climb = 1
byte_of Lex = 2

-- a byte that names none
abbrev pub Unnamed : ℕ → Type 0
Unnamed byte = (byte ≢ 1) × (byte ≢ 2)

-- a recorded answer, and a recorded listing at the start of a room so long, are what the outcome promises
abbrev pub HoldsAs : Outcome → ℕ → Answer → List ℕ → Type 0
HoldsAs o lent answer listing = (d : List ℕ) → length d ≡ lent → Answers o d (listing ++ drop (length listing) d) answer

abbrev pub HoldsOf : Outcome → List ℕ → Type 0
HoldsOf o recorded = HoldsAs o (room_of recorded) (answer_of recorded) (listing_of recorded)

unfoldable pub Holds : List ℕ → Type 0
Holds case = HoldsOf (outcome (entry_of case) (input_of case)) (record_of case)
