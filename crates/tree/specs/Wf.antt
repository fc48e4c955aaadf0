-- Well formed: each header right. Assumes nothing.
use Rattle.std.specs.Prelude.{ℕ, List, Bool, true, false, length}
use Rattle.tree.specs.Grammar.{row_at}
use Rattle.tree.specs.Scan.{Local, All}

pub record Wf (b : List ℕ) : Type 0 where
  pub root : Local b (length b) (row_at 0) 0
  pub all : All b 0

-- a test that says yes exactly if
abbrev pub Decided : Bool → Type 0 → Type 0
Decided true P = P
Decided false P = P → ⊥
