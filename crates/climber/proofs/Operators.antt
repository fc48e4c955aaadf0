-- What the room holds as a row is climbed, and what the check of a row finds. Assumes nothing.
use mathlib.Core.Path.{◌≡◌, refl, sym, ap, ◌∙◌}
use mathlib.Core.Bool.{Bool, true, false, false≢true}
use mathlib.Core.List.{List, [], ◌∷◌, ◌++◌, append_assoc}
use Prim.Native.Nat.{ℕ, zero, suc, ◌+◌, ◌-◌, ◌*◌, ◌%◌, ◌≤◌, ◌<◌}
use native.Mathlib.Nat.{add-zero, zero-add}
use native.Mathlib.Omega.{arith}
use lib.ListN.{length, get_or, length-append}
use lib.Dec.{leb}
use Rattle.std.specs.Prelude.{◌&&◌}
use Rattle.std.specs.List.{list_all}
use Rattle.std.specs.Simd.{first_chunks}
use borrow.Author.Tests.{leb-true}
use Rattle.fields.specs.Number.{number, length-number}
use Rattle.fields.specs.Field.{field, length-field}
use Rattle.fields.specs.Room.{overlay, overlay-append, overlay-before}
use Rattle.fields.specs.Outcome.{pick}
use Rattle.climber.specs.Row.{count, side, leftmost, rightmost}
use Rattle.climber.specs.Climbing.{formed, operator, operators, opening}
use Rattle.climber.specs.Climb.{Formed}

-- ---- the operators in the room

module _ (row : List ℕ) where
  pub length-operator : (i : ℕ) → length (operator row i) ≡ 7
  unfolding operator
  length-operator i =
      let a = number 2 (leftmost row i) in
      let b = number 2 (rightmost row i) in
      omega (arith, length-field 0x0B (a ++ b), length-append a b, length-number 2 (leftmost row i), length-number 2 (rightmost row i))

  pub length-operators : (i n : ℕ) → length (operators row i n) ≡ 7 * n
  unfolding operators
  length-operators i zero = refl
  length-operators i (suc n) = omega (arith, length-append (operator row i) (operators row (suc i) n), length-operator i, length-operators (suc i) n)

  operators-more : (i m n : ℕ) → operators row i (m + n) ≡ operators row i m ++ operators row (i + m) n
  unfolding operators
  operators-more i zero n = rw (zero-add, add-zero)
  operators-more i (suc m) n =
      let a : suc m + n ≡ suc (m + n) = omega arith in
      let b : i + suc m ≡ suc i + m = omega arith in
      rw (a, b, operators-more (suc i) m n, append_assoc)

  -- a turn: the row of i stands behind i's place, then i is put there, behind those before it
  pub turn : (from i next : ℕ) (d₀ d d₁ d₂ : List ℕ) → from ≤ i → i < next
      → d ≡ overlay d₀ (4 + 7 * from) (operators row from (i - from))
      → d₁ ≡ overlay d (4 + 7 * (i + 1)) (operators row (i + 1) (next - (i + 1)))
      → d₂ ≡ overlay d₁ (4 + 7 * i) (operator row i)
      → d₂ ≡ overlay d₀ (4 + 7 * from) (operators row from (next - from))
  turn from i next d₀ d d₁ d₂ h k e e₁ e₂ =
      let o : 4 + 7 * (i + 1) ≡ 4 + 7 * i + length (operator row i) = omega (arith, length-operator i) in
      let o₂ : 4 + 7 * i ≡ 4 + 7 * from + length (operators row from (i - from)) = omega (arith, length-operators from (i - from)) in
      let n : next - i ≡ suc (next - (i + 1)) = omega arith in
      let m : next - from ≡ (i - from) + (next - i) = omega arith in
      let s : i + 1 ≡ suc i = omega arith in
      let t : from + (i - from) ≡ i = omega arith in
      let own : operator row i ++ operators row (i + 1) (next - (i + 1)) ≡ operators row i (next - i) = rw (n, s) (unfold operators in refl) in
      let all : operators row from (next - from) ≡ operators row from (i - from) ++ operators row i (next - i) = rw m (operators-more from (i - from) (next - i) ∙ rw t) in
      let a : d₂ ≡ overlay d (4 + 7 * i) (operators row i (next - i)) = e₂ ∙ rw (e₁, o) (overlay-before d (4 + 7 * i) (operator row i) (operators row (i + 1) (next - (i + 1))) ∙ ap (λ (x : List ℕ). overlay d (4 + 7 * i) x) own) in
      a ∙ rw (e, o₂, all) (overlay-append d₀ (4 + 7 * from) (operators row from (i - from)) (operators row i (next - i)))

  pub start : (from : ℕ) (d : List ℕ) → d ≡ overlay d (4 + 7 * from) (operators row from (from - from))
  start from d = let z : from - from ≡ 0 = omega arith in rw z (unfold operators in sym (Rattle.fields.specs.Room.overlay-none d (4 + 7 * from)))

  -- the whole listing: its opening, then all operators
  pub listing-length : length (opening ++ operators row 0 (count row)) ≡ 4 + 7 * count row
  unfolding opening
  listing-length = omega (arith, length-append (field 0x00 (1 ∷ [])) (operators row 0 (count row)), length-field 0x00 (1 ∷ []), length-operators 0 (count row))

-- ---- the check of a row

-- the side of an operator's two bytes is one
abbrev pub is_side : List ℕ → Bool
is_side operator = leb (get_or operator 1 0) 1

-- a row in twos is well formed if each two is
pub formed-twos : (row : List ℕ) (k : ℕ) → length row ≡ 2 * k → list_all is_side (first_chunks 2 k row) ≡ formed row
unfolding formed
formed-twos [] zero h = refl
formed-twos [] (suc k) h = absurd (omega arith)
formed-twos (p ∷ []) k h = absurd (omega arith)
formed-twos (p ∷ s ∷ row) zero h = absurd (omega arith)
formed-twos (p ∷ s ∷ row) (suc k) h =
    rw (formed-twos row k (omega arith)) (elim (leb s 1) as (λ t. (t && formed row) ≡ pick t (formed row) false) [ true ↦ refl | false ↦ refl ])

right : (s : ℕ) (row : List ℕ) → pick (leb s 1) (formed row) false ≡ true → (s ≤ 1) × (formed row ≡ true)
right s row h = go (leb s 1) refl h
  where
    go : (t : Bool) → leb s 1 ≡ t → pick t (formed row) false ≡ true → (s ≤ 1) × (formed row ≡ true)
    go true e l = (leb-true s 1 e, l)
    go false e l = absurd (false≢true l)

formed-even : (row : List ℕ) → formed row ≡ true → length row % 2 ≡ 0
unfolding formed
formed-even [] h = refl
formed-even (p ∷ []) h = absurd (false≢true h)
formed-even (p ∷ s ∷ row) h = omega (arith, formed-even row (right s row h).1)

pub formed-odd : (row : List ℕ) → (length row % 2 ≡ 0 → ⊥) → formed row ≡ false
formed-odd row h = go (formed row) refl
  where
    go : (t : Bool) → formed row ≡ t → t ≡ false
    go true e = absurd (h (formed-even row e))
    go false e = refl

formed-side : (row : List ℕ) → formed row ≡ true → (i : ℕ) → side row i ≤ 1
unfolding formed
formed-side [] h i = omega arith
formed-side (p ∷ []) h i = absurd (false≢true h)
formed-side (p ∷ s ∷ row) h zero = (right s row h).0
formed-side (p ∷ s ∷ row) h (suc i) =
    let e : 2 * suc i + 1 ≡ suc (suc (2 * i + 1)) = omega arith in
    rw e (formed-side row (right s row h).1 i)

pub formed-sides : (row : List ℕ) → formed row ≡ true → Formed row
formed-sides row h = record { even = formed-even row h; sides = formed-side row h }
