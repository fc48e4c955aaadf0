-- What an answer 0 of `compile` says of the tree bytes and of the room. Assumes nothing.
use Rattle.std.specs.Prelude.{ℕ, ◌≤◌, ◌≡◌, List, length, take}
use Rattle.fields.specs.declared.Answer.{Answer}
use Rattle.fields.specs.Outcome.{Outcome, listing}
use Rattle.tree.specs.Tree.{Tree}
use Rattle.tree.specs.Verdict.{Encodes}
use Rattle.rules.specs.Listing.{compiling}

-- a listing with the number 0, at the front of the room
pub record Given (o : Outcome) (d' : List ℕ) (r : Answer) : Type 0 where
  pub bytes : List ℕ
  pub is : o ≡ listing 0 bytes
  pub room : take r.length d' ≡ bytes

-- what a tree comes to, and that its listing stands in the room
pub record Taken (b d' : List ℕ) (r : Answer) : Type 0 where
  pub tree : Tree
  pub encodes : Encodes b tree
  pub short : length b ≤ 32768
  pub bytes : List ℕ
  pub outcome : compiling tree ≡ listing 0 bytes
  pub room : take r.length d' ≡ bytes
