-- What is known of the tree of a listing of terms. Assumes nothing.
use Rattle.std.specs.Prelude.{ℕ, ◌≤◌, ◌≡◌, List, []}
use Rattle.tree.specs.Tree.{Tree}
use Rattle.rules.specs.Modules.{compile}
use Rattle.rules.specs.Count.{inserted}
use Rattle.rules.specs.Listing.{term_listing}

-- the tree is not refused, has no error, and these are the bytes of its table
pub record Accepted (t : Tree) (bytes : List ℕ) : Type 0 where
  pub few : inserted t ≤ 4096
  pub fine : (compile t).errs ≡ []
  pub same : bytes ≡ term_listing 2 (compile t).main (compile t).table
