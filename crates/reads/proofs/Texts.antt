-- Texts as slices are compared, against the rules' word for it. Assumes nothing.
use mathlib.Core.Path.{◌≡◌, refl, ap}
use mathlib.Core.Bool.{◌&&◌}
use mathlib.Core.List.{List, [], ◌∷◌}
use Prim.Native.Nat.{ℕ}
use lib.Dec.{eqb}
use lib.Pointwise.{pointwise}
use Rattle.rules.specs.Names.{same}

pub pointwise-same : (x y : List ℕ) → pointwise eqb x y ≡ same x y
pointwise-same [] [] = refl
pointwise-same [] (b ∷ y) = refl
pointwise-same (a ∷ x) [] = refl
pointwise-same (a ∷ x) (b ∷ y) = ap (λ t. eqb a b && t) (pointwise-same x y)
