-- A number among ranges: in one of them, or outside each.
-- Assumes nothing.
use mathlib.Core.Path.{◌≡◌, refl, sym}
use mathlib.Core.Bool.{Bool, true, false, ◌&&◌, or-true}
use mathlib.Core.List.{List, [], ◌∷◌}
use Prim.Native.Nat.{ℕ, zero, suc, ◌≤◌}
use borrow.Author.Tests.{le-leb, leb-true}
use Rattle.text.specs.Ranges.{Range, within, among}

-- n is in range k
abbrev pub Inside : List Range → ℕ → ℕ → Type 0
Inside [] k n = ⊥
Inside (r ∷ rs) zero n = (r.from ≤ n) × (n ≤ r.to)
Inside (r ∷ rs) (suc k) n = Inside rs k n

pub inside : (rs : List Range) (k n : ℕ) → Inside rs k n → true ≡ among rs n
inside [] k n h = absurd h
inside (r ∷ rs) zero n h = rw (le-leb _ _ h.0, le-leb _ _ h.1)
inside (r ∷ rs) (suc k) n h = sym (rw (← inside rs k n h) (or-true (within r n)))

abbrev pub Outside : List Range → ℕ → Type 0
Outside [] n = Unit
Outside (r ∷ rs) n = (r.from ≤ n → n ≤ r.to → ⊥) × Outside rs n

not-both : (a b : Bool) → (a ≡ true → b ≡ true → ⊥) → (a && b) ≡ false
not-both true true h = absurd (h refl refl)
not-both true false h = refl
not-both false b h = refl

pub outside : (rs : List Range) (n : ℕ) → Outside rs n → false ≡ among rs n
outside [] n h = refl
outside (r ∷ rs) n h =
    let e : within r n ≡ false = not-both _ _ (λ a b. h.0 (leb-true _ _ a) (leb-true _ _ b)) in
    rw e (outside rs n h.1)
