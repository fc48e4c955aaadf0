-- The counts of cases and of mismatches, a tally for each entry, and what they say of the sample.
use Rattle.std.specs.Prelude.{◌≡◌, Bool, List, ℕ, ◌+◌, ◌≤◌, ◌<◌, ◌^◌, length, take, drop, get_or, Option, IfSome}
use denote.Bor.{Bor}
use Rattle.fields.specs.Outcome.{pick}
use Rattle.replay.specs.declared.Entry.{Entry}
use Rattle.replay.specs.declared.Entry.TheVariants.{Climb, Lex}
use Rattle.replay.specs.declared.Tally.{Tally}
use Rattle.replay.specs.declared.Tallies.{Tallies}
use Rattle.replay.specs.Case.{Whole}
use Rattle.replay.specs.Replay.{Holds}

-- no count is above n
abbrev pub Few : Tallies → ℕ → Type 0
Few t n = (t.climb.cases ≤ n) × (t.climb.mismatches ≤ n) × (t.lex.cases ≤ n) × (t.lex.mismatches ≤ n)

-- no mismatch is counted
abbrev pub Faultless : Tallies → Type 0
Faultless t = (t.climb.mismatches ≡ 0) × (t.lex.mismatches ≡ 0)

-- each count can still grow by one
abbrev pub CanGrow : Tallies → Type 0
CanGrow t = (n : ℕ) × (n + 1 < 2 ^ 64) × Few t n

-- one more case is counted, and one more mismatch where it does not hold
pub record OneMore (t t' : Tally) (held : Bool) : Type 0 where
  pub cases : t'.cases ≡ t.cases + 1
  pub mismatches : t'.mismatches ≡ t.mismatches + pick held 0 1

-- one more case of an entry is counted, and nothing of the other
abbrev pub Counted : Entry → Tallies → Tallies → Bool → Type 0
Counted Climb t t' held = OneMore t.climb t'.climb held × (t'.lex ≡ t.lex)
Counted Lex t t' held = (t'.climb ≡ t.climb) × OneMore t.lex t'.lex held

-- the case of n bytes at `at`
abbrev pub case_at : List ℕ → ℕ → ℕ → List ℕ
case_at sample at n = take n (drop at sample)

-- a case is replayed, of which r is what is behind it: it holds where no mismatch is counted, then or before. A case has at least one byte
pub record Turned (rest : List ℕ) (r : Option (Bor (List ℕ))) (t t' : Tallies) : Type 0 where
  pub few : (n : ℕ) → Few t n → Few t' (n + 1)
  pub kept : Faultless t' → Faultless t
  pub holds : IfSome r (λ behind. (n : ℕ) × (1 ≤ n) × (n ≤ length rest) × (behind.now ≡ drop n rest) × Whole (take n rest) × (Faultless t' → Holds (take n rest)))

-- the sample before `at` is a row of whole cases, each of which holds
pub data Held (sample : List ℕ) : ℕ → Type 0 where
  none : Held sample 0
  more : (at n : ℕ) → Held sample at → Whole (case_at sample at n) → Holds (case_at sample at n) → Held sample (at + n)

-- "A zero byte in the place of an entry ends the sample": `at` is its place, and nothing stands behind it
pub record Ended (sample : List ℕ) (at : ℕ) : Type 0 where
  pub zero : get_or sample at 0 ≡ 0
  pub last : at + 1 ≡ length sample
