-- What the rows of Table 3-7 make of a list: a sequence needs only its own bytes, and the first byte says which row.
-- Assumes nothing.
use mathlib.Core.Path.{◌≡◌, refl, ◌∙◌}
use mathlib.Core.Bool.{Bool, true, false, cond, ◌&&◌, and-false}
use mathlib.Core.List.{List, [], ◌∷◌, ◌++◌}
use Prim.Native.Nat.{ℕ, zero, suc, ◌+◌, ◌-◌, ◌≤◌, ◌<◌}
use native.Mathlib.Omega.{arith}
use native.Mathlib.Numerals.{add-one}
use lib.ListN.{length, take, drop, get_or, length-drop, drop_of_length-le}
use lib.Seq.{drop-cons}
use borrow.Author.Tests.{le-leb, lt-leb}
use Rattle.text.specs.Ranges.{Range, within, starts}
use Rattle.text.specs.Utf8.{Row, table, len_in, seq_len}

pub and_left : (a b : Bool) → (a && b) ≡ true → a ≡ true
and_left true b e = refl
and_left false b e = e

pub and_right : (a b : Bool) → (a && b) ≡ true → b ≡ true
and_right true b e = e
and_right false b e = let z : ◌≡◌ {A = ℕ} 0 1 = cc in absurd (omega arith)

both : (a b : Bool) → a ≡ true → b ≡ true → (a && b) ≡ true
both a b p q = rw (p, q)

starts_more : (rs : List Range) (s t : List ℕ) → starts rs s ≡ true → starts rs (s ++ t) ≡ true
starts_more [] s t e = refl
starts_more (r ∷ rs) [] t e = let z : ◌≡◌ {A = ℕ} 0 1 = cc in absurd (omega arith)
starts_more (r ∷ rs) (b ∷ s) t e = both (within r b) _ (and_left (within r b) _ e) (starts_more rs s t (and_right (within r b) _ e))

starts-fits : (rs : List Range) (s : List ℕ) → starts rs s ≡ true → length rs ≤ length s
starts-fits [] s e = omega arith
starts-fits (r ∷ rs) [] e = let z : ◌≡◌ {A = ℕ} 0 1 = cc in absurd (omega arith)
starts-fits (r ∷ rs) (b ∷ s) e = let h : length rs ≤ length s = starts-fits rs s (and_right (within r b) _ e) in omega arith

starts-take : (rs : List Range) (s : List ℕ) → starts rs s ≡ true → starts rs (take (length rs) s) ≡ true
starts-take [] s e = refl
starts-take (r ∷ rs) [] e = e
starts-take (r ∷ rs) (b ∷ s) e = both (within r b) _ (and_left (within r b) _ e) (starts-take rs s (and_right (within r b) _ e))

-- a row's test changes from x to y, and the rows after it give k' for k
row_more : (w x y : Bool) (m k k' n : ℕ) → (x ≡ true → m ≡ n → y ≡ true) → (k ≡ suc n → k' ≡ suc n)
    → cond w (cond x (suc m) 0) k ≡ suc n → cond w (cond y (suc m) 0) k' ≡ suc n
row_more true true y m k k' n f g e = rw (f refl (omega arith)) e
row_more true false y m k k' n f g e = absurd (omega arith)
row_more false x y m k k' n f g e = g e

row_fits : (w x : Bool) (m k l n : ℕ) → (x ≡ true → m ≤ l) → (k ≡ suc n → n ≤ l) → cond w (cond x (suc m) 0) k ≡ suc n → n ≤ l
row_fits true true m k l n f g e = let h : m ≤ l = f refl in omega arith
row_fits true false m k l n f g e = absurd (omega arith)
row_fits false x m k l n f g e = g e

in-more : (rs : List Row) (b : ℕ) (s t : List ℕ) (n : ℕ) → len_in rs b s ≡ suc n → len_in rs b (s ++ t) ≡ suc n
in-more [] b s t n e = e
in-more (r ∷ rs) b s t n e = row_more (within r.first b) _ _ _ _ _ n (λ h _. starts_more r.later s t h) (in-more rs b s t n) e

in_take : (rs : List Row) (b : ℕ) (s : List ℕ) (n : ℕ) → len_in rs b s ≡ suc n → len_in rs b (take n s) ≡ suc n
in_take [] b s n e = e
in_take (r ∷ rs) b s n e =
    row_more (within r.first b) _ _ (length r.later) _ _ n (λ h q. rw q at (starts-take r.later s h)) (in_take rs b s n) e

in-fits : (rs : List Row) (b : ℕ) (s : List ℕ) (n : ℕ) → len_in rs b s ≡ suc n → n ≤ length s
in-fits [] b s n e = absurd (omega arith)
in-fits (r ∷ rs) b s n e = row_fits (within r.first b) _ _ _ _ n (starts-fits r.later s) (in-fits rs b s n) e

-- a sequence stays one whatever follows
pub seq_len-more : (s t : List ℕ) (n : ℕ) → seq_len s ≡ suc n → seq_len (s ++ t) ≡ suc n
unfolding seq_len
seq_len-more [] t n e = absurd (omega arith)
seq_len-more (b ∷ s) t n e = in-more table b s t n e

-- and by its own bytes alone
pub seq_len-take : (s : List ℕ) (n : ℕ) → seq_len s ≡ suc n → seq_len (take (suc n) s) ≡ suc n
unfolding seq_len
seq_len-take [] n e = e
seq_len-take (b ∷ s) n e = in_take table b s n e

pub seq_len-fits : (s : List ℕ) (n : ℕ) → seq_len s ≡ suc n → n < length s
unfolding seq_len
seq_len-fits [] n e = absurd (omega arith)
seq_len-fits (b ∷ s) n e = let h : n ≤ length s = in-fits table b s n e in omega arith

pub seq_len-le : (s : List ℕ) → seq_len s ≤ length s
seq_len-le s = go (seq_len s) refl
  where
    go : (n : ℕ) → seq_len s ≡ n → n ≤ length s
    go zero e = omega arith
    go (suc n) e = seq_len-fits s n e

-- no row has more than four bytes
abbrev Short : List Row → Type 0
Short [] = Unit
Short (r ∷ rs) = (length r.later ≤ 3) × Short rs

row-few : (w x : Bool) (m k : ℕ) → m ≤ 3 → k ≤ 4 → cond w (cond x (suc m) 0) k ≤ 4
row-few true true m k h g = omega arith
row-few true false m k h g = omega arith
row-few false x m k h g = g

in-few : (rs : List Row) (b : ℕ) (s : List ℕ) → Short rs → len_in rs b s ≤ 4
in-few [] b s h = omega arith
in-few (r ∷ rs) b s h = row-few (within r.first b) (starts r.later s) _ _ h.0 (in-few rs b s h.1)

pub seq_len-few : (s : List ℕ) → seq_len s ≤ 4
unfolding seq_len table
seq_len-few [] = omega arith
seq_len-few (b ∷ s) = in-few table b s (search arith)

-- a row with a greater first byte, a row with a smaller one, the row itself
below : (r : Row) (rs : List Row) (b : ℕ) (s : List ℕ) → b < r.first.from → len_in (r ∷ rs) b s ≡ len_in rs b s
below r rs b s h = simp (lt-leb _ _ h)

pub above : (r : Row) (rs : List Row) (b : ℕ) (s : List ℕ) → r.first.to < b → len_in (r ∷ rs) b s ≡ len_in rs b s
above r rs b s h = rw (lt-leb _ _ h, and-false)

pub here : (r : Row) (rs : List Row) (b : ℕ) (s : List ℕ) → r.first.from ≤ b → b ≤ r.first.to
    → len_in (r ∷ rs) b s ≡ cond (starts r.later s) (suc (length r.later)) 0
here r rs b s h g = rw (le-leb _ _ h, le-leb _ _ g)

-- b is in the range of first bytes of row k, and past those of the rows before it
abbrev pub Leads : List Row → ℕ → ℕ → Type 0
Leads [] k b = ⊥
Leads (r ∷ rs) zero b = (r.first.from ≤ b) × (b ≤ r.first.to)
Leads (r ∷ rs) (suc k) b = (r.first.to < b) × Leads rs k b

-- the ranges of row k past the first
abbrev pub later_of : List Row → ℕ → List Range
later_of [] k = []
later_of (r ∷ rs) zero = r.later
later_of (r ∷ rs) (suc k) = later_of rs k

-- what row k gives
abbrev pub row_len : List Row → ℕ → List ℕ → ℕ
row_len [] k s = 0
row_len (r ∷ rs) zero s = cond (starts r.later s) (suc (length r.later)) 0
row_len (r ∷ rs) (suc k) s = row_len rs k s

pub leads : (rs : List Row) (k b : ℕ) (s : List ℕ) → Leads rs k b → len_in rs b s ≡ row_len rs k s
leads [] k b s h = absurd h
leads (r ∷ rs) zero b s h = here r rs b s h.0 h.1
leads (r ∷ rs) (suc k) b s h = above r rs b s h.0 ∙ leads rs k b s h.1

-- b is past the first bytes of k rows, and before those of the others
abbrev pub Between : List Row → ℕ → ℕ → Type 0
Between [] k b = Unit
Between (r ∷ rs) zero b = (b < r.first.from) × Between rs zero b
Between (r ∷ rs) (suc k) b = (r.first.to < b) × Between rs k b

pub between : (rs : List Row) (k b : ℕ) (s : List ℕ) → Between rs k b → len_in rs b s ≡ 0
between [] k b s h = refl
between (r ∷ rs) zero b s h = below r rs b s h.0 ∙ between rs zero b s h.1
between (r ∷ rs) (suc k) b s h = above r rs b s h.0 ∙ between rs k b s h.1

-- the same at a place of a list
pub seq-row : (s : List ℕ) (at k : ℕ) → at < length s → Leads table k (get_or s at 0) → seq_len (drop at s) ≡ row_len table k (drop (at + 1) s)
unfolding seq_len
seq-row s at k h l = rw (add-one, drop-cons s at 0 h) (leads table k (get_or s at 0) (drop (suc at) s) l)

pub seq-ascii : (s : List ℕ) (at : ℕ) → at < length s → get_or s at 0 < 128 → seq_len (drop at s) ≡ 1
unfolding table
seq-ascii s at h a = seq-row s at 0 h (omega arith)

pub seq-out : (s : List ℕ) (at : ℕ) → length s ≤ at → seq_len (drop at s) ≡ 0
unfolding seq_len
seq-out s at h = rw (drop_of_length-le s h)

pub seq-fits : (s : List ℕ) (at : ℕ) → seq_len (drop at s) ≤ length s - at
seq-fits s at = omega (arith, seq_len-le (drop at s), length-drop at s)
