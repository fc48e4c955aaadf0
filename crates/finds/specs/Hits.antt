-- What a call was found to mean, in numbers: the kind, and the row j or the place and the length of the name that means nothing. Assumes nothing.
use Rattle.std.specs.Prelude.{ℕ}

pub record Found : Type 0 where
  pub kind : ℕ
  pub j : ℕ
  pub at : ℕ
  pub len : ℕ

abbrev pub row_of : ℕ → ℕ → Found
row_of kind j = record { kind = kind; j = j; at = 0; len = 0 }

abbrev pub lost_of : ℕ → ℕ → ℕ → Found
lost_of kind at len = record { kind = kind; j = 0; at = at; len = len }
