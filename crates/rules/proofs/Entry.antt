-- Bytes come to one thing only. Assumes nothing.
use Rattle.std.specs.Prelude.{ℕ, ◌≡◌, List}
use Rattle.std.proofs.Common.{ap}
use Rattle.fields.specs.Outcome.{Outcome, refusal}
use Rattle.tree.proofs.Promises.{one-tree, one-verdict}
use Rattle.rules.specs.Listing.{compiling}
use Rattle.rules.specs.Entry.{Comes, refused, compiled}

-- bytes come to one thing only
pub one-outcome : (b : List ℕ) (o o' : Outcome) → Comes b o → Comes b o' → o ≡ o'
one-outcome b o o' (refused v s n) (refused w u m) = ap (λ (k : ℕ). refusal k 0) (one-verdict b v w s u)
one-outcome b o o' (refused v s n) (compiled t u h) = absurd (n (one-verdict b v 0 s u))
one-outcome b o o' (compiled t s h) (refused w u m) = absurd (m (one-verdict b w 0 u s))
one-outcome b o o' (compiled t s h) (compiled u v k) = ap compiling (one-tree b t u h k)
