-- Four bytes as a number, and a case's length by its numbers. Assumes nothing.
use mathlib.Core.Path.{◌≡◌, refl, sym, ap, ◌∙◌}
use mathlib.Core.List.{List, [], ◌∷◌}
use Prim.Native.Nat.{ℕ, zero, suc, ◌+◌, ◌*◌, ◌≤◌}
use native.Mathlib.Omega.{arith}
use lib.ListN.{length, take, drop, get_or, length-drop}
use lib.Seq.{drop-drop, get_or-take, get_or-drop, length-take-le}
use Rattle.std.specs.Int.{from_le_bytes, w32}
use denote.Ref.{Bor}
use Rattle.std.proofs.lemmas.List.{drop-take}
use Rattle.std.specs.List.{IsFirstAndRest, IsSplitAt}
use Rattle.fields.specs.Number.{value}
use Rattle.replay.specs.Case.{number_at, input_of, record_of, room_of, answer_of, listing_of, Whole, NumberFirst, CaseFirst}

-- four elements of a list are a list of four
four-of : (s : List ℕ) → 4 ≤ length s → take 4 s ≡ get_or s 0 0 ∷ get_or s 1 0 ∷ get_or s 2 0 ∷ get_or s 3 0 ∷ []
four-of [] h = absurd (omega arith)
four-of (a ∷ []) h = absurd (omega arith)
four-of (a ∷ b ∷ []) h = absurd (omega arith)
four-of (a ∷ b ∷ c ∷ []) h = absurd (omega arith)
four-of (a ∷ b ∷ c ∷ d ∷ s) h = refl

pub four : (s : List ℕ) (at : ℕ) → at + 4 ≤ length s
    → number_at s at ≡ get_or s at 0 + 256 * get_or s (at + 1) 0 + 65536 * (get_or s (at + 2) 0 + 256 * get_or s (at + 3) 0)
unfolding number_at value
four s at h =
    let e : get_or (drop at s) 0 0 ≡ get_or s at 0 = get_or-drop at s 0 0 ∙ ap (λ (i : ℕ). get_or s i 0) (omega arith) in
    rw (four-of (drop at s) (omega (arith, length-drop at s)), e, get_or-drop at s 1 0, get_or-drop at s 2 0, get_or-drop at s 3 0) (omega arith)

-- the same as `from_le_bytes` gives it
pub four-first : (s : List ℕ) → 4 ≤ length s → from_le_bytes w32 (take 4 s) ≡ number_at s 0
four-first s h = rw (four-of s h, four s 0 h) (omega arith)

-- a number that stands in a part of the bytes
pub number-take : (n : ℕ) (s : List ℕ) (at : ℕ) → at + 4 ≤ n → n ≤ length s → number_at (take n s) at ≡ number_at s at
number-take n s at h k =
    rw (
      four (take n s) at (omega (arith, length-take-le n s k)),
      four s at (omega arith),
      get_or-take n s at 0 (omega arith),
      get_or-take n s (at + 1) 0 (omega arith),
      get_or-take n s (at + 2) 0 (omega arith),
      get_or-take n s (at + 3) 0 (omega arith),
    )

pub number-drop : (n : ℕ) (s : List ℕ) (at : ℕ) → number_at (drop n s) at ≡ number_at s (n + at)
unfolding number_at
number-drop n s at = rw drop-drop

-- the bytes that are as long as their numbers say are a whole case
pub whole : (s : List ℕ) (input listing : ℕ) → input ≡ number_at s 1 → listing ≡ number_at s (input + 10) → 18 + input + listing ≤ length s
    → Whole (take (18 + input + listing) s)
unfolding record_of answer_of
whole s input listing e f h =
    let n : number_at (take (18 + input + listing) s) 1 ≡ input = number-take _ s 1 (omega arith) h ∙ sym e in
    let l : length (take (18 + input + listing) s) ≡ 18 + input + listing = length-take-le _ s h in
    let k : number_at (take (18 + input + listing) s) (5 + input + 5) ≡ listing = number-take _ s _ (omega arith) h ∙ ap (number_at s) (omega arith) ∙ sym f in
    record {
      inputs = omega arith;
      lists = rw (n, number-drop (5 + input) (take (18 + input + listing) s) 5, k, length-drop) (omega arith);
    }

-- the room's length stands behind the input
lent : (case : List ℕ) (n r : ℕ) → n ≡ number_at case 1 → r ≡ number_at case (5 + n) → r ≡ room_of (record_of case)
unfolding record_of room_of
lent case n r e f = rw (number-drop (5 + number_at case 1) case 0, ← e) (f ∙ ap (number_at case) (omega arith))

-- What is split off the bytes, part after part, is a whole case.
pub drops : (m n : ℕ) (s r t : List ℕ) → r ≡ drop m s → t ≡ drop n r → t ≡ drop (m + n) s
drops m n s r t e f = f ∙ rw (e, drop-drop)

numbers : (m n k : ℕ) (s r : List ℕ) → r ≡ drop m s → n ≡ number_at r 0 → m ≡ k → n ≡ number_at s k
numbers m n k s r e f h = f ∙ rw (e, number-drop, h) (ap (number_at s) (omega arith))

byte : (m b : ℕ) (s r t : List ℕ) → r ≡ drop m s → r ≡ b ∷ t → b ≡ get_or s m 0
byte m b s r t e f = sym (ap (λ (l : List ℕ). get_or l 0 0) f) ∙ rw e (get_or-drop m s 0 0 ∙ ap (λ (k : ℕ). get_or s k 0) (omega arith))

take-take : (m n : ℕ) (s : List ℕ) → m ≤ n → take m (take n s) ≡ take m s
take-take zero n s h = refl
take-take (suc m) zero s h = absurd (omega arith)
take-take (suc m) (suc n) [] h = refl
take-take (suc m) (suc n) (x ∷ s) h = ap (λ (l : List ℕ). x ∷ l) (take-take m n s (omega arith))

-- a part of the first n bytes is that part of all
part : (i m n : ℕ) (s : List ℕ) → i + m ≤ n → take m (drop i (take n s)) ≡ take m (drop i s)
part i m n s h = sym (drop-take i m (take n s)) ∙ ap (λ (l : List ℕ). drop i l) (take-take (i + m) n s h) ∙ drop-take i m s

module _ (s r₁ r₂ r₃ r₄ r₅ r₆ r₇ r₈ : List ℕ) (input listing : Bor (List ℕ)) (entry long lent-long number size place : ℕ)
    (a₁ : IsFirstAndRest s entry r₁) (a₂ : NumberFirst r₁ long r₂) (a₃ : IsSplitAt r₂ long input.now r₃) (a₄ : NumberFirst r₃ lent-long r₄)
    (a₅ : IsFirstAndRest r₄ number r₅) (a₆ : NumberFirst r₅ size r₆) (a₇ : NumberFirst r₆ place r₇) (a₈ : IsSplitAt r₇ size listing.now r₈) where
  e₁ : r₁ ≡ drop 1 s
  e₁ = sym (ap (λ (l : List ℕ). drop 1 l) a₁.0)

  e₂ : r₂ ≡ drop 5 s
  e₂ = drops 1 4 s r₁ r₂ e₁ a₂.2

  e₃ : r₃ ≡ drop (5 + long) s
  e₃ = drops 5 long s r₂ r₃ e₂ a₃.2

  e₄ : r₄ ≡ drop (5 + long + 4) s
  e₄ = drops (5 + long) 4 s r₃ r₄ e₃ a₄.2

  e₅ : r₅ ≡ drop (5 + long + 4 + 1) s
  e₅ = drops (5 + long + 4) 1 s r₄ r₅ e₄ (sym (ap (λ (l : List ℕ). drop 1 l) a₅.0))

  e₆ : r₆ ≡ drop (5 + long + 4 + 1 + 4) s
  e₆ = drops (5 + long + 4 + 1) 4 s r₅ r₆ e₅ a₆.2

  e₇ : r₇ ≡ drop (5 + long + 4 + 1 + 4 + 4) s
  e₇ = drops (5 + long + 4 + 1 + 4) 4 s r₆ r₇ e₆ a₇.2

  within : 18 + long + size ≤ length s
  within =
      let l₂ = ap length a₂.2 ∙ length-drop 4 r₁ in
      let l₄ = ap length a₄.2 ∙ length-drop 4 r₃ in
      let l₆ = ap length a₆.2 ∙ length-drop 4 r₅ in
      let l₇ = ap length a₇.2 ∙ length-drop 4 r₆ in
      omega arith

  n₁ : long ≡ number_at s 1
  n₁ = numbers 1 long 1 s r₁ e₁ a₂.1 refl

  n₃ : size ≡ number_at s (long + 10)
  n₃ = numbers (5 + long + 4 + 1) size (long + 10) s r₅ e₅ a₆.1 (omega arith)

  abbrev all : List ℕ
  all = take (18 + long + size) s

  -- a number of the case, at its place
  at : (i n : ℕ) → i + 4 ≤ 18 + long + size → n ≡ number_at s i → n ≡ number_at all i
  at i n h e = e ∙ sym (number-take (18 + long + size) s i h within)

  t₁ : number_at all 1 ≡ long
  t₁ = sym (at 1 long (omega arith) n₁)

  answer : record { number = number; length = size; place = place } ≡ answer_of (record_of all)
  unfolding answer_of record_of
  answer =
      let n : number ≡ get_or (drop (5 + number_at all 1) all) 4 0 =
      byte (5 + long + 4) number s r₄ r₅ e₄ a₅.0 ∙ sym (get_or-take (18 + long + size) s (5 + long + 4) 0 (omega arith)) ∙ rw t₁ (sym (get_or-drop (5 + long) all 4 0)) in
      let l : size ≡ number_at (drop (5 + number_at all 1) all) 5 = rw (t₁, number-drop) (at (5 + long + 5) size (omega arith) (n₃ ∙ ap (number_at s) (omega arith))) in
      let p : place ≡ number_at (drop (5 + number_at all 1) all) 9 =
      rw (t₁, number-drop) (at (5 + long + 9) place (omega arith) (numbers (5 + long + 4 + 1 + 4) place (5 + long + 9) s r₆ e₆ a₇.1 (omega arith))) in
      λ i. record { number = n i; length = l i; place = p i }

  pub cut : CaseFirst s (record { entry = entry; input = input; lent = lent-long; answer = record { number = number; length = size; place = place }; listing = listing }) r₈
  unfolding input_of listing_of record_of
  cut = record {
    size = 18 + long + size;
    some = omega arith;
    within = within;
    behind = drops (5 + long + 4 + 1 + 4 + 4) size s r₇ r₈ e₇ a₈.2 ∙ ap (λ (k : ℕ). drop k s) (omega arith);
    whole = whole s long size n₁ n₃ within;
    parts =
        record {
          entry = byte 0 entry s s r₁ refl a₁.0 ∙ sym (get_or-take (18 + long + size) s 0 0 (omega arith));
          input = a₃.1 ∙ rw (e₂, t₁) (sym (part 5 long (18 + long + size) s (omega arith)));
          lent = lent all long lent-long (sym t₁) (at (5 + long) lent-long (omega arith) (numbers (5 + long) lent-long (5 + long) s r₃ e₃ a₄.1 refl));
          answer = answer;
          listing =
              a₈.1 ∙ rw (e₇, t₁, drop-drop)
              (let q : 5 + long + 4 + 1 + 4 + 4 ≡ 18 + long = omega arith in
              let q' : 5 + long + 13 ≡ 18 + long = omega arith in
              rw (q, q') (sym (drop-take (18 + long) size s)));
        };
  }
