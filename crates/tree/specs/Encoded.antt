-- The bytes of a tree: "One encoding per tree". Assumes nothing.
use Prim.Native.Nat.{ℕ, ◌<◌}
use mathlib.Core.List.{List, [], ◌++◌}
use Rattle.std.proofs.Math.ListN.{get_or}
use Rattle.fields.specs.Field.{field}
use Rattle.tree.specs.Rose.{Rose, Roses, leaf, node, rnil, rcons}
use Rattle.tree.specs.Tree.{Tree}
use Rattle.tree.specs.Form.{f_tree}

unfoldable mutual
  pub bytes_of : Rose → List ℕ
  bytes_of (leaf k p x) = field k x
  bytes_of (node k p rs) = field k (bytes_in rs)

  pub bytes_in : Roses → List ℕ
  bytes_in rnil = []
  bytes_in (rcons r rs) = bytes_of r ++ bytes_in rs

unfoldable pub encode : Tree → List ℕ
encode t = bytes_of (f_tree t)

-- bytes are less than 256
abbrev pub Bytes : List ℕ → Type 0
Bytes b = (i : ℕ) → get_or b i 0 < 256
