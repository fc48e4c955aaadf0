-- A character's bytes behind their length. Assumes nothing.
use mathlib.Core.Path.{◌≡◌, refl, ap, ◌∙◌}
use mathlib.Core.List.{List, ◌∷◌}
use Prim.Native.Nat.{ℕ, ◌+◌, ◌≤◌, ◌<◌}
use native.Mathlib.Omega.{arith}
use lib.ListN.{length, get_or, set, take}
use Rattle.fields.specs.Number.{number}
use Rattle.fields.specs.Field.{field}
use Rattle.fields.specs.Room.{overlay}
use Rattle.puts.specs.Runs.{run-then, byte-then, one_more, all_of}

-- one byte more
pub put_byte : (d l l₁ s : List ℕ) (o n i b : ℕ) → n ≡ length s → i < n → l ≡ overlay d o (take i s) → l₁ ≡ set l (o + i) b → b ≡ get_or s i 0 → l₁ ≡ overlay d o (take (i + 1) s)
put_byte d l l₁ s o n i b g h e f k = one_more d o s i l l₁ (omega (arith, g, h)) e (f ∙ ap (set l (o + i)) k)

-- no byte is left
pub put_all : (d d₁ d₂ d₃ s : List ℕ) (o tag n i : ℕ) → d₁ ≡ set d o tag → d₂ ≡ overlay d₁ (o + 1) (number 2 n) → n ≡ length s → n ≤ i → d₃ ≡ overlay d₂ (o + 3) (take i s) → d₃ ≡ overlay d o (field tag s)
unfolding field number
put_all d d₁ d₂ d₃ s o tag n i e f g h k =
    run-then d o (tag ∷ number 2 (length s)) s (o + 3) d₂ d₃ refl
    (byte-then d o tag (number 2 (length s)) d₁ d₂ e (f ∙ ap (λ (x : ℕ). overlay d₁ (o + 1) (number 2 x)) g))
    (all_of d₂ (o + 3) s i d₃ (omega (arith, g, h)) k)
