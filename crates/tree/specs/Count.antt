-- How many fields with members there are, all or those of one tag. So many may be open at once and no more: where they are few, nesting need not be looked at.
-- Assumes nothing.
use Rattle.std.specs.Prelude.{ℕ, ◌+◌, ◌≤◌, ◌<◌, ◌≡◌, List, true, false, length, get_or}
use Rattle.tree.specs.Leaf.{is_leaf_tag}
use Rattle.tree.specs.Rose.{Rose, Roses, leaf, node, rnil, rcons, end_of}
use Rattle.tree.specs.Nest.{counts, mark}

unfoldable mutual
  pub total : ℕ → Rose → ℕ
  total o (leaf k p x) = 0
  total o (node k p rs) = mark (counts o k) + totals o rs

  pub totals : ℕ → Roses → ℕ
  totals o rnil = 0
  totals o (rcons r rs) = total o r + totals o rs

-- ---- in bytes: n of them from header p on

pub data Passed (b : List ℕ) (o : ℕ) : ℕ → ℕ → Type 0 where
  over : {p : ℕ} → length b ≤ p → Passed b o p 0
  bytes : {p n : ℕ} → p < length b → is_leaf_tag (get_or b p 0) ≡ true → Passed b o (end_of b p) n → Passed b o p n
  members : {p n : ℕ} → p < length b → is_leaf_tag (get_or b p 0) ≡ false → Passed b o (p + 3) n → Passed b o p (mark (counts o (get_or b p 0)) + n)
