-- How many fields are open at once, all or those of one tag; and the walk that counts them. Assumes nothing.
use Rattle.std.specs.Prelude.{ℕ, zero, suc, ◌+◌, ◌≤◌, ◌<◌, max, List, [], ◌∷◌, Bool, true, false, cond, eqb, leb, length, get_or}
use Rattle.tree.specs.Rose.{Rose, Roses, leaf, node, rnil, rcons, end_of}
use Rattle.tree.specs.Leaf.{is_leaf_tag}
use Rattle.tree.specs.Scan.{next_of}

-- 0: each field counts; else those of this tag
unfoldable pub counts : ℕ → ℕ → Bool
counts o k = cond (eqb o 0) true (eqb k o)

abbrev pub mark : Bool → ℕ
mark true = 1
mark false = 0

unfoldable mutual
  pub nest : ℕ → Rose → ℕ
  nest o (leaf k p x) = mark (counts o k)
  nest o (node k p rs) = mark (counts o k) + nests o rs

  pub nests : ℕ → Roses → ℕ
  nests o rnil = 0
  nests o (rcons r rs) = max (nest o r) (nests o rs)

-- ---- the walk: the ends of the open fields that count, the innermost first

abbrev pub pop : ℕ → List ℕ → List ℕ
pop p [] = []
pop p (e ∷ st) = cond (leb e p) (pop p st) (e ∷ st)

abbrev pub pushed : Bool → ℕ → List ℕ → List ℕ
pushed true e st = e ∷ st
pushed false e st = st

-- from header p on at most n are open at once
pub data Shallow (b : List ℕ) (o n : ℕ) : List ℕ → ℕ → Type 0 where
  over : {st : List ℕ} {p : ℕ} → length b ≤ p → Shallow b o n st p
  here : {st : List ℕ} {p : ℕ} → p < length b → mark (counts o (get_or b p 0)) + length (pop p st) ≤ n
      → Shallow b o n (pushed (counts o (get_or b p 0)) (end_of b p) (pop p st)) (next_of (is_leaf_tag (get_or b p 0)) b p) → Shallow b o n st p

-- the first d of the ends kept in a slice, the last one first
unfoldable pub stack_of : List ℕ → ℕ → List ℕ
stack_of a zero = []
stack_of a (suc d) = get_or a d 0 ∷ stack_of a d
