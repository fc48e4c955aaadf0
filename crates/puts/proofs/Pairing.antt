-- A record of numbers, put one number after the other. Assumes nothing.
use mathlib.Core.Path.{◌≡◌}
use mathlib.Core.List.{List, ◌∷◌, ◌++◌}
use Prim.Native.Nat.{ℕ, ◌+◌, ◌*◌, ◌≤◌, ◌<◌}
use native.Mathlib.Omega.{arith}
use Rattle.std.proofs.Common.{take_all}
use lib.ListN.{length, get_or, take}
use Rattle.fields.specs.Number.{number}
use Rattle.fields.specs.Field.{field}
use Rattle.fields.specs.Room.{overlay}
use Rattle.puts.specs.Pairs.{pairs, length-pairs, length-some, pairs-more}
use Rattle.puts.specs.Runs.{run-then}

module _ (d : List ℕ) (o tag m : ℕ) (ns : List ℕ) where
  -- i numbers stand behind the tag and the length
  abbrev pub Some : ℕ → List ℕ → Type 0
  Some i d₁ = d₁ ≡ overlay d o (tag ∷ number 2 m ++ pairs (take i ns))

  pub one-more : (i x : ℕ) (d₁ d₂ : List ℕ) → i < length ns → x ≡ o + 3 + 2 * i → Some i d₁ → d₂ ≡ overlay d₁ x (number 2 (get_or ns i 0)) → Some (i + 1) d₂
  unfolding number
  one-more i x d₁ d₂ h e f g =
      rw (pairs-more ns i h) (run-then d o (tag ∷ number 2 m ++ pairs (take i ns)) (number 2 (get_or ns i 0)) x d₁ d₂ (omega (arith, e, length-some ns i h)) f g)

  pub all-there : (i : ℕ) (d₁ : List ℕ) → length ns ≤ i → m ≡ 2 * length ns → Some i d₁ → d₁ ≡ overlay d o (field tag (pairs ns))
  unfolding field
  all-there i d₁ h e f = rw (length-pairs ns) (rw (take_all i ns h, e) at f)
