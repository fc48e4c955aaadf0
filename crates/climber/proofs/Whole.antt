-- The entry's returns: each test that led there is one of the definition's. Assumes nothing.
use mathlib.Core.Path.{◌≡◌, refl, sym, ◌∙◌}
use mathlib.Core.Bool.{true, false}
use mathlib.Core.List.{List, [], ◌∷◌, ◌++◌}
use Prim.Native.Nat.{ℕ, ◌+◌, ◌-◌, ◌*◌, ◌≤◌, ◌<◌}
use native.Mathlib.Omega.{arith}
use lib.ListN.{length}
use borrow.Author.Tests.{lt-ltb, le-ltb}
use Rattle.std.specs.Prelude.{Result, Ok, Err, IsErr, IsErrAnd}
use Rattle.std.proofs.Common.{rules}
use Rattle.fields.specs.Number.{number}
use Rattle.fields.specs.Field.{field}
use Rattle.fields.specs.Outcome.{refusal, Answers}
use Rattle.fields.specs.Refusals.{number_of, place_of, answer_of}
use Rattle.fields.specs.declared.Listing.{Listing}
use Rattle.fields.specs.declared.Refusal.{Refusal}
use Rattle.fields.specs.Promises.{short, listed}
use Rattle.fields.specs.Room.{overlay, overlay-append}
use Rattle.climber.specs.Row.{count}
use Rattle.climber.specs.Climbing.{formed, operators, opening, climbing}
use Rattle.climber.specs.Climb.{climbed, Climbs, Refused, Listed}
use Rattle.climber.proofs.Rows.{climbed-low, climbed-high, climbed-skip}
use Rattle.climber.proofs.Operators.{listing-length}

-- a refusal that is handed on
pub refused : (row d : List ℕ) (e : Refusal) (r : Result Listing Refusal) → Refused row e → IsErr r × IsErrAnd r (λ f. f ≡ e) → Answers (climbing row) d d (answer_of r)
refused row d e (Ok l) h k = absurd (search rules)
refused row d e (Err f) h k = rw (h, k.1) (Rattle.fields.specs.Promises.refused (number_of e) (place_of e) d)

module _ (row : List ℕ) where
  -- the tests of a row, in their order
  pub long : 32768 < length row → climbing row ≡ refusal 2 0
  unfolding climbing
  long h = simp (lt-ltb _ _ h) refl

  pub wrong : length row ≤ 32768 → formed row ≡ false → climbing row ≡ refusal 3 0
  unfolding climbing
  wrong a h = simp (le-ltb _ _ a, h) refl

  pub many : length row ≤ 32768 → formed row ≡ true → 1024 < count row → climbing row ≡ refusal 8 0
  unfolding climbing
  many a f h = simp (le-ltb _ _ a, f, lt-ltb _ _ h) refl

  pub right : length row ≤ 32768 → formed row ≡ true → count row ≤ 1024 → Listed row
  unfolding climbing
  right a f h = simp (le-ltb _ _ a, f, le-ltb _ _ h) refl

  -- every operator is at least 0 tight
  whole : climbed row 0 0 ≡ count row
  whole =
      let e : climbed row 0 0 ≡ climbed row 0 (count row) = climbed-skip row 0 0 (count row) (omega arith) (omega arith) (λ j h k. omega arith) in
      omega (arith, climbed-low row 0 (count row), climbed-high row 0 (count row) (omega arith))

  module _ (d : List ℕ) (l : Listed row) where
    pub no_room : length d < 4 + 7 * count row → Answers (climbing row) d d (record { number = 7; length = 0; place = 0 })
    no_room h = rw l (short 0 (opening ++ operators row 0 (count row)) d (omega (arith, listing-length row)))

    puts : (d₁ d₂ : List ℕ) (r : ℕ) → d₁ ≡ overlay d 0 (0 ∷ 1 ∷ 0 ∷ 1 ∷ []) → Climbs row 0 0 r d₁ d₂ → d₂ ≡ overlay d 0 (opening ++ operators row 0 (count row))
    unfolding opening field number
    puts d₁ d₂ r e c =
        let n : r - 0 ≡ count row = omega (arith, c.end, whole) in
        c.puts ∙ rw (n, e) (overlay-append d 0 (0 ∷ 1 ∷ 0 ∷ 1 ∷ []) (operators row 0 (count row)))

    pub done : 4 + 7 * count row ≤ length d → (d₁ d₂ : List ℕ) (r : ℕ) → d₁ ≡ overlay d 0 (0 ∷ 1 ∷ 0 ∷ 1 ∷ []) → Climbs row 0 0 r d₁ d₂
        → Answers (climbing row) d d₂ (record { number = 0; length = 4 + 7 * count row; place = 0 })
    done h d₁ d₂ r e c =
        rw l (listed 0 (4 + 7 * count row) (opening ++ operators row 0 (count row)) d d₂ (sym (listing-length row)) (omega (arith, listing-length row)) (puts d₁ d₂ r e c))
