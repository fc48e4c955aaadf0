-- Fields in bytes: any tree of fields, each with its tag and its place. It stands between the bytes and the typed tree, so that where fields stand, how
-- deep they nest and which bytes they have is said once, and not for each tag. Assumes nothing.
use Rattle.std.specs.Prelude.{ℕ, ◌+◌, ◌*◌, ◌≤◌, ◌≡◌, List, true, length, get_or, take, drop}
use Rattle.std.proofs.Common.{arith}
use Rattle.tree.specs.Leaf.{shape, leaf_ok}

-- "A field's content is either other fields, one after the other and nothing between or after them, or a text (UTF-8), or a fixed number of bytes."
mutual
  pub data Rose : Type 0 where
    -- tag, place, bytes
    leaf : ℕ → ℕ → List ℕ → Rose
    -- tag, place, members
    node : ℕ → ℕ → Roses → Rose

  pub data Roses : Type 0 where
    rnil : Roses
    rcons : Rose → Roses → Roses

-- "A field is a one-byte tag, a two-byte little-endian length of its content, and the content": where the field at p ends
abbrev pub end_of : List ℕ → ℕ → ℕ
end_of b p = p + 3 + (get_or b (p + 1) 0 + get_or b (p + 2) 0 * 256)

-- its content
abbrev pub text_of : List ℕ → ℕ → List ℕ
text_of b p = take (get_or b (p + 1) 0 + get_or b (p + 2) 0 * 256) (drop (p + 3) b)

pub record Field (b : List ℕ) (tag p : ℕ) : Type 0 where
  pub tagged : get_or b p 0 ≡ tag
  pub fits : end_of b p ≤ length b

abbrev pub tag_of : Rose → ℕ
tag_of (leaf k p x) = k
tag_of (node k p rs) = k

abbrev pub place_of : Rose → ℕ
place_of (leaf k p x) = p
place_of (node k p rs) = p

unfoldable mutual
  -- the field r, and all in it, stand in b at their places
  pub At : List ℕ → Rose → Type 0
  At b (leaf k p x) = Field b k p × (text_of b p ≡ x) × (leaf_ok (shape k) x ≡ true)
  At b (node k p rs) = Field b k p × Row b rs (p + 3) (end_of b p)

  -- one after the other from p to q
  pub Row : List ℕ → Roses → ℕ → ℕ → Type 0
  Row b rnil p q = p ≡ q
  Row b (rcons r rs) p q = (place_of r ≡ p) × At b r × Row b rs (end_of b p) q

pub tagged : (b : List ℕ) (r : Rose) → At b r → get_or b (place_of r) 0 ≡ tag_of r
unfolding At
tagged b (leaf k p x) h = h.0.tagged
tagged b (node k p rs) h = h.0.tagged

pub inside : (b : List ℕ) (r : Rose) → At b r → end_of b (place_of r) ≤ length b
unfolding At
inside b (leaf k p x) h = h.0.fits
inside b (node k p rs) h = h.0.fits

pub row-le : (b : List ℕ) (rs : Roses) (p q : ℕ) → Row b rs p q → p ≤ q
unfolding At
row-le b rnil p q h = omega arith
row-le b (rcons r rs) p q h = omega (arith, row-le b rs (end_of b p) q h.2)
