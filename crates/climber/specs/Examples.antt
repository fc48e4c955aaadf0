-- Document 01's starred case, computed by the definitions.
use Rattle.std.specs.Prelude.{◌≡◌, refl, List, [], ◌∷◌, ℕ}
use Rattle.climber.specs.Row.{leftmost, rightmost, nearest, longest, tighter}

-- "Equal precedence, a R b L c R d: a R ((b L c) R d)". The operands a, b, c, d are 0 to 3: the first operator takes a and b to d, the second b and c,
-- the third (b L c) and d.
abbrev pub row : List ℕ
row = 5 ∷ 1 ∷ 5 ∷ 0 ∷ 5 ∷ 1 ∷ []

pub equal-precedence :
    (leftmost row 0 ≡ 0) × (rightmost row 0 ≡ 3) × (leftmost row 1 ≡ 1) × (rightmost row 1 ≡ 2) × (leftmost row 2 ≡ 1) × (rightmost row 2 ≡ 3)
unfolding leftmost rightmost nearest longest tighter
equal-precedence = (refl, refl, refl, refl, refl, refl)
