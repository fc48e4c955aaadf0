-- Fields of one tag, one after the other, behind which one of another tag stands. Assumes nothing.
use Rattle.std.specs.Prelude.{ℕ, zero, suc, ◌≤◌, ◌<◌, ◌≡◌, List, length, get_or}
use Rattle.tree.specs.Rose.{end_of}

-- there are n of them from q on
unfoldable pub Tagged : List ℕ → ℕ → ℕ → ℕ → Type 0
Tagged b k zero q = (q < length b) × (get_or b q 0 ≡ k → ⊥)
Tagged b k (suc n) q = (get_or b q 0 ≡ k) × (end_of b q ≤ length b) × Tagged b k n (end_of b q)
