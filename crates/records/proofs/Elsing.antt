-- The loop of `elses`: the pairs from row j on have their records, the last one first. Assumes nothing.
use Prim.Native.Nat.{ℕ, zero, suc, ◌+◌, ◌-◌, ◌*◌, ◌≤◌, ◌<◌}
use native.Mathlib.Omega.{arith}
use mathlib.Core.Path.{◌≡◌, refl, sym, ap, ap₂, ◌∙◌}
use mathlib.Core.List.{List, [], ◌∷◌, ◌++◌, append-nil}
use lib.ListN.{length, length-append}
use Rattle.fields.specs.Number.{number}
use Rattle.fields.specs.Field.{field}
use Rattle.fields.specs.Room.{overlay, overlay-append, overlay-none, length-overlay}
use Rattle.rules.specs.Table.{Rec, n_ite}
use Rattle.rules.specs.Listing.{node_bytes, rec_bytes, table_bytes}
use Rattle.puts.specs.declared.state.State.{State}
use Rattle.puts.specs.State.{num, off, with_num, with_off}
use Rattle.puts.specs.Rooms.{table-append}
use Rattle.cells.specs.Cells.{number_at, last_at}
use Rattle.cells.specs.Notes.{Pair, elses_of, pairs_at}
use Rattle.records.specs.Elses.{Elsed}

-- the records of all these pairs
unfoldable pub backs : ℕ → List Pair → ℕ → List Rec
backs p [] n = []
backs p (y ∷ ys) n = let rs = backs p ys n in rs ++ (record { place = p; node = n_ite y.test y.then (n + length rs) } ∷ [])

backs-are : (p : ℕ) (x : Pair) (ys : List Pair) (n : ℕ) → elses_of p (x ∷ ys) n ≡ backs p ys n
unfolding elses_of backs
backs-are p x [] n = refl
backs-are p x (y ∷ ys) n = ap (λ (rs : List Rec). rs ++ (record { place = p; node = n_ite y.test y.then (n + length rs) } ∷ [])) (backs-are p y ys n)

pub record Turning (s : List ℕ) (k i : ℕ) (st₀ : State) (d₀ : List ℕ) (j : ℕ) (st : State) (d : List ℕ) : Type 0 where
  pub state : (p : ℕ) → st ≡ with_off (with_num st₀ (num st₀ + length (backs p (pairs_at s j (i - j)) (num st₀)))) (off st₀ + length (table_bytes 2 (backs p (pairs_at s j (i - j)) (num st₀))))
  pub room : (p : ℕ) → d ≡ overlay d₀ (off st₀) (table_bytes 2 (backs p (pairs_at s j (i - j)) (num st₀)))
  pub low : k < i → k < j
  pub least : k ≤ j
  pub high : j ≤ i
  pub nums : num st ≡ num st₀ + (i - j)
  pub offs : off st ≡ off st₀ + 9 * (i - j)
  pub same : length d ≡ length d₀

pub begin : (s : List ℕ) (k i : ℕ) (st : State) (d : List ℕ) → k ≤ i → Turning s k i st d i st d
unfolding backs pairs_at
begin s k i st d q =
    let z : i - i ≡ 0 = omega arith in
    let n : num st + 0 ≡ num st = omega arith in
    let o : off st + 0 ≡ off st = omega arith in
    record {
      state = λ p. rw (z, n, o);
      room = λ p. rw z (sym (overlay-none d (off st)));
      low = λ g. g;
      least = q;
      high = omega arith;
      nums = omega arith;
      offs = omega arith;
      same = refl;
    }

-- one pair more
module _ (s : List ℕ) (k i : ℕ) (st₀ : State) (d₀ : List ℕ) (j : ℕ) (st : State) (d : List ℕ) (st₁ : State) (d₁ : List ℕ) (t : Turning s k i st₀ d₀ j st d) (g : k + 1 < j)
    (e : st₁ ≡ with_off (with_num st (num st + 1)) (off st + 9)) (f : d₁ ≡ overlay d (off st) (node_bytes 2 (n_ite (number_at s (j - 1)) (last_at s (j - 1)) (num st)))) where
  rs : ℕ → List Rec
  rs p = backs p (pairs_at s j (i - j)) (num st₀)

  own : ℕ → Rec
  own p = record { place = p; node = n_ite (number_at s (j - 1)) (last_at s (j - 1)) (num st₀ + length (rs p)) }

  more : (p : ℕ) → backs p (pairs_at s (j - 1) (i - (j - 1))) (num st₀) ≡ rs p ++ (own p ∷ [])
  unfolding backs pairs_at rs own
  more p =
      let a : i - (j - 1) ≡ suc (i - j) = omega (arith, t.high) in
      let b : suc (j - 1) ≡ j = omega arith in
      rw (a, b)

  now-num : (p : ℕ) → num st ≡ num st₀ + length (rs p)
  unfolding rs
  now-num p = ap num (t.state p)

  now-off : (p : ℕ) → off st ≡ off st₀ + length (table_bytes 2 (rs p))
  unfolding rs
  now-off p = ap off (t.state p)

  bytes : (p : ℕ) → table_bytes 2 (rs p ++ (own p ∷ [])) ≡ table_bytes 2 (rs p) ++ rec_bytes 2 (own p)
  bytes p = table-append (rs p) (own p ∷ []) ∙ ap (λ (l : List ℕ). table_bytes 2 (rs p) ++ l) (append-nil (rec_bytes 2 (own p)))

  nine : (p : ℕ) → length (rec_bytes 2 (own p)) ≡ 9
  unfolding own field number
  nine p = refl

  pub turn : Turning s k i st₀ d₀ (j - 1) st₁ d₁
  unfolding rs own
  turn =
      record {
        state = λ p.
            e ∙ ap₂ (λ (x y : ℕ). with_off (with_num st x) y) (omega (arith, now-num p, ap length (more p), length-append (rs p) (own p ∷ [])))
            (omega (arith, now-off p, nine p, ap (λ (l : List Rec). length (table_bytes 2 l)) (more p), ap length (bytes p), length-append (table_bytes 2 (rs p)) (rec_bytes 2 (own p))))
            ∙ ap (λ (l : State). with_off (with_num l (num st₀ + length (backs p (pairs_at s (j - 1) (i - (j - 1))) (num st₀)))) (off st₀ + length (table_bytes 2 (backs p (pairs_at s (j - 1) (i - (j - 1))) (num st₀))))) (t.state p);
        room = λ p.
            f ∙ ap (λ (n : ℕ). overlay d (off st) (node_bytes 2 (n_ite (number_at s (j - 1)) (last_at s (j - 1)) n))) (now-num p)
            ∙ ap₂ (λ (l : List ℕ) (o : ℕ). overlay l o (rec_bytes 2 (own p))) (t.room p) (now-off p)
            ∙ overlay-append d₀ (off st₀) (table_bytes 2 (rs p)) (rec_bytes 2 (own p))
            ∙ ap (overlay d₀ (off st₀)) (sym (bytes p) ∙ ap (table_bytes 2) (sym (more p)));
        low = λ h. omega arith;
        least = omega arith;
        high = omega (arith, t.high);
        nums = ap num e ∙ omega (arith, t.nums, t.high);
        offs = ap off e ∙ omega (arith, t.offs, t.high);
        same = ap length f ∙ length-overlay d (off st) (node_bytes 2 (n_ite (number_at s (j - 1)) (last_at s (j - 1)) (num st))) ∙ t.same;
      }

pub finish : (s : List ℕ) (k i : ℕ) (st₀ : State) (d₀ : List ℕ) (j : ℕ) (st : State) (d : List ℕ) (st₁ : State) (r : ℕ) → Turning s k i st₀ d₀ j st d → k ≤ i → j ≤ k + 1 → r ≡ num st → st₁ ≡ with_num st (num st + 1)
    → Elsed (pairs_at s k (i - k)) st₀ st₁ d₀ d r
unfolding pairs_at backs elses_of
finish s k i st₀ d₀ j st d st₁ r t h g e f = record { number = λ p. number p; state = λ p. state p; room = λ p. t.room p ∙ ap (λ (l : List Rec). overlay d₀ (off st₀) (table_bytes 2 l)) (rest p) }
  where
    rs : ℕ → List Rec
    rs p = backs p (pairs_at s j (i - j)) (num st₀)

    all : ℕ → List Rec
    all p = elses_of p (pairs_at s k (i - k)) (num st₀)

    some : (p n : ℕ) → i - k ≡ n → rs p ≡ elses_of p (pairs_at s k n) (num st₀)
    some p zero a = let z : i - j ≡ 0 = omega (arith, t.least) in rw z
    some p (suc n) a =
        let b : j ≡ suc k = omega (arith, t.low (omega arith)) in
        let c : i - j ≡ n = omega arith in
        rw (c, b) (sym (backs-are p (record { test = number_at s k; then = last_at s k }) (pairs_at s (suc k) n) (num st₀)))

    rest : (p : ℕ) → rs p ≡ all p
    rest p = some p (i - k) refl

    now-num : (p : ℕ) → num st ≡ num st₀ + length (rs p)
    now-num p = ap num (t.state p)

    number : (p : ℕ) → r ≡ num st₀ + length (all p)
    number p = e ∙ now-num p ∙ ap (λ (l : List Rec). num st₀ + length l) (rest p)

    state : (p : ℕ) → st₁ ≡ with_off (with_num st₀ (num st₀ + length (all p) + 1)) (off st₀ + length (table_bytes 2 (all p)))
    state p =
        f ∙ ap₂ (λ (l : State) (n : ℕ). with_num l (n + 1)) (t.state p) (now-num p)
        ∙ ap (λ (l : List Rec). with_off (with_num st₀ (num st₀ + length l + 1)) (off st₀ + length (table_bytes 2 l))) (rest p)
