-- What the tables mean, and which fields obey them. Assumes nothing.
use Rattle.std.specs.Prelude.{ℕ, ◌/◌, ◌%◌, ◌<◌, ◌≡◌, Option, Some, None, List, [], ◌∷◌, Bool, true, false, cond, eqb, drop}
use Rattle.tree.specs.Rose.{Rose, Roses, leaf, node, rnil, rcons, tag_of}
use Rattle.tree.specs.Table.{items}
use Rattle.tree.specs.Leaf.{class, shape, is_leaf_tag}

-- what a row of members may be: over, one member of a class and then more, none or one of it, any number of it, any number of it or of terms.
-- `dead` is what no row can be
pub data Items : Type 0 where
  dead end : Items
  one opt many mix : ℕ → Items → Items

-- the class of terms
abbrev pub term : ℕ
term = 18

-- as the table has it
unfoldable pub decode : List ℕ → Items
decode [] = dead
decode (it ∷ g) =
    cond (eqb it 0) dead
    (cond (eqb it 4) end
    (cond (eqb (it % 4) 0) (one (it / 8) (decode g))
    (cond (eqb (it % 4) 1) (opt (it / 8) (decode g))
    (cond (eqb (it % 4) 2) (many (it / 8) (decode g)) (mix (it / 8) (decode g))))))

-- the row that starts at i, the row of a tag
unfoldable pub row_at : ℕ → Items
row_at i = decode (drop i items)

abbrev pub content : ℕ → Items
content k = row_at (shape k)

-- what may follow a member of class c
unfoldable pub after : Items → ℕ → Items
after dead c = dead
after end c = dead
after (one k g) c = cond (eqb k c) g dead
after (opt k g) c = cond (eqb k c) g (after g c)
after (many k g) c = cond (eqb k c) (many k g) (after g c)
after (mix k g) c = cond (eqb k c) (mix k g) (cond (eqb c term) (mix k g) (after g c))

-- the row at r is g, or g is what no row can be
abbrev pub IsDue : Option ℕ → Items → Type 0
IsDue None g = g ≡ dead
IsDue (Some r) g = (row_at r ≡ g) × (r < 106)

-- may the row end here?
unfoldable pub ends : Items → Bool
ends dead = false
ends end = true
ends (one k g) = false
ends (opt k g) = ends g
ends (many k g) = ends g
ends (mix k g) = ends g

-- the members' classes in their order are those of the items
unfoldable pub fit : Items → Roses → Bool
fit g rnil = ends g
fit g (rcons r rs) = fit (after g (class (tag_of r))) rs

-- a leaf where the table has one; else the members that the table has
unfoldable mutual
  pub Obeys : Rose → Type 0
  Obeys (leaf k p x) = is_leaf_tag k ≡ true
  Obeys (node k p rs) = (is_leaf_tag k ≡ false) × (fit (content k) rs ≡ true) × Obey rs

  pub Obey : Roses → Type 0
  Obey rnil = Unit {0}
  Obey (rcons r rs) = Obeys r × Obey rs
