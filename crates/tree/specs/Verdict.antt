-- What the check of tree bytes says, and that it can say one thing only. Document 01: "2: input over 32,768 bytes; 3: .. tree .. not well formed; 4: nesting
-- .. over 512 in a tree; 5: definitions nested over 64, compiled or not .. The lowest applicable of 2 to 6 and 8 is given .. tree nesting, fields open at
-- once". 0 is that none of these applies. Assumes nothing.
use Rattle.std.specs.Prelude.{ℕ, ◌≤◌, ◌<◌, ◌≡◌, List, true, cond, leb, length, Result, Ok, Err}
use Rattle.fields.specs.declared.Refusal.{Refusal}
use Rattle.fields.specs.Refusals.{number_of}
use Rattle.tree.specs.Tree.{Tree}
use Rattle.tree.specs.Form.{At, f_tree}
use Rattle.tree.specs.Numbers.{numbered}
use Rattle.tree.specs.Nest.{nest}

-- the bytes are those of the tree, which is well formed
pub record Encodes (b : List ℕ) (t : Tree) : Type 0 where
  pub at : At b t
  pub numbers : numbered t ≡ true

-- "The tree field itself is the first of the fields open at once (nesting 1); a leaf counts like any other field."
abbrev pub nesting : Tree → ℕ
nesting t = nest 0 (f_tree t)

-- fields of tag 8C open at once
abbrev pub defining : Tree → ℕ
defining t = nest 0x8C (f_tree t)

pub data Says (b : List ℕ) : ℕ → Type 0 where
  fine : length b ≤ 32768 → (t : Tree) → Encodes b t → nesting t ≤ 512 → defining t ≤ 64 → Says b 0
  long : 32768 < length b → Says b 2
  wrong : length b ≤ 32768 → ((t : Tree) → Encodes b t → ⊥) → Says b 3
  deep : length b ≤ 32768 → (t : Tree) → Encodes b t → 512 < nesting t → Says b 4
  nested : length b ≤ 32768 → (t : Tree) → Encodes b t → nesting t ≤ 512 → 64 < defining t → Says b 5

-- what a tree that is well formed comes to
unfoldable pub limits : Tree → ℕ
limits t = cond (leb (nesting t) 512) (cond (leb (defining t) 64) 0 5) 4

-- the number of what the code says: a refusal's own, 0 where there is none
abbrev pub number_said : {A : Type 0} → Result A Refusal → ℕ
number_said (Ok x) = 0
number_said (Err e) = number_of e
