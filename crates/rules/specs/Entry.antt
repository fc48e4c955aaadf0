-- What a call of `compile` comes to, and what is left of the room. Document 01: "The lowest applicable of 2 to 6 and 8 is given; then 7, tested against the
-- listing due; then 0 or 1." Assumes nothing.
use Rattle.std.specs.Prelude.{ℕ, ◌≤◌, ◌≡◌, List}
use Rattle.fields.specs.declared.Answer.{Answer}
use Rattle.fields.specs.Outcome.{Outcome, refusal, Answers}
use Rattle.tree.specs.Tree.{Tree}
use Rattle.tree.specs.Verdict.{Says, Encodes}
use Rattle.rules.specs.Listing.{compiling}

-- bytes that are no tree, or too large a one, are refused with the verdict's number; a tree comes to what the rules compile it to
pub data Comes (b : List ℕ) : Outcome → Type 0 where
  refused : (v : ℕ) → Says b v → (v ≡ 0 → ⊥) → Comes b (refusal v 0)
  compiled : (t : Tree) → Says b 0 → Encodes b t → Comes b (compiling t)

-- the entry's promise: bytes come to one thing, and the answer and the room's later content are what that is
pub record Compiles (b d d' : List ℕ) (r : Answer) : Type 0 where
  pub outcome : Outcome
  pub comes : Comes b outcome
  pub answers : Answers outcome d d' r
  -- a listing is short enough, and a place near enough, for the packed answer
  pub few : r.length ≤ 4194304
  pub near : r.place ≡ 0
