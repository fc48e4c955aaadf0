-- Ranges of numbers, both ends included, as the tables of the Unicode Standard write them.
use Rattle.std.specs.Prelude.{ℕ, Bool, true, false, ◌&&◌, ◌||◌, List, [], ◌∷◌, leb}

infix 70 ◌‥◌
pub record Range : Type 0 where
  pub from : ℕ
  pub to : ℕ

abbrev pub ◌‥◌ : ℕ → ℕ → Range
a ‥ b = record { from = a; to = b }

-- a range by its two ends
abbrev pub range_of : ℕ × ℕ → Range
range_of r = r.0 ‥ r.1

abbrev pub within : Range → ℕ → Bool
within r n = leb r.from n && leb n r.to

-- n lies in one of the ranges
abbrev pub among : List Range → ℕ → Bool
among [] n = false
among (r ∷ rs) n = within r n || among rs n

-- the list begins with a number of each range in turn
abbrev pub starts : List Range → List ℕ → Bool
starts [] s = true
starts (r ∷ rs) [] = false
starts (r ∷ rs) (b ∷ s) = within r b && starts rs s
