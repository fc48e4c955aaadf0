-- What the pass over all headers says: whether each is right, and if so how many fields, and how many definitions, are open at once at most. Assumes nothing.
use Rattle.std.specs.Prelude.{ℕ, ◌≤◌, ◌≡◌, List, Option, Some, None, get_or}
use Rattle.tree.specs.declared.Counts.{Counts}
use Rattle.tree.specs.declared.Counted.{Counted}
use Rattle.tree.specs.declared.Counted.TheVariants.{Fields, Definitions}
use Rattle.tree.specs.Leaf.{is_leaf_tag}
use Rattle.tree.specs.Tree.{Tree}
use Rattle.tree.specs.Form.{At, f_tree}
use Rattle.tree.specs.Scan.{Inner, next_of}
use Rattle.tree.specs.Nest.{nest}
use Rattle.tree.specs.Wf.{Wf}

-- of one header: the content is not right, or it is and this is the next header
abbrev pub Stepped : List ℕ → ℕ → Option ℕ → Type 0
Stepped b p None = Inner (is_leaf_tag (get_or b p 0)) b p → ⊥
Stepped b p (Some r) = Inner (is_leaf_tag (get_or b p 0)) b p × (r ≡ next_of (is_leaf_tag (get_or b p 0)) b p)

-- the tag that counts, 0 where each does
abbrev pub only : Counted → ℕ
only Fields = 0
only Definitions = 0x8C

-- at most n fields that count are open at once
abbrev pub AtMost : List ℕ → ℕ → ℕ → Type 0
AtMost b o n = (t : Tree) → At b t → nest o (f_tree t) ≤ n

abbrev pub Formed : List ℕ → Option Counts → Type 0
Formed b None = Wf b → ⊥
Formed b (Some most) = Wf b × AtMost b 0 most.fields × AtMost b 0x8C most.definitions
