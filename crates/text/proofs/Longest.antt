-- The longest valid prefix: its equations, and that it is valid and longest.
-- Assumes nothing.
use mathlib.Core.Path.{◌≡◌, refl, ap, ◌∙◌}
use mathlib.Core.List.{List, [], ◌∷◌, ◌++◌}
use Prim.Native.Nat.{ℕ, zero, suc, ◌+◌, ◌≤◌, ◌<◌}
use native.Mathlib.Omega.{arith}
use lib.ListN.{length, take, drop, get_or, length-drop, take-append-drop}
use lib.Seq.{take-add, drop_at, length-take-le, drop-append-le, drop-drop, take-length}
use Rattle.text.specs.Utf8.{seq_len}
use Rattle.text.specs.Valid.{Valid, none, more, one_of, passing, valid_prefix, Longest}
use Rattle.text.proofs.Rows.{seq_len-more, seq_len-take, seq_len-fits, seq-ascii}

one_of-le : (m l : ℕ) (f : ℕ → ℕ) → ((n : ℕ) → f n ≤ l) → one_of m f ≤ suc l
one_of-le zero l f h = omega arith
one_of-le (suc n) l f h = omega (arith, h n)

passing-le : (s : List ℕ) (k : ℕ) → passing k s ≤ length s
unfolding passing
passing-le [] k = omega arith
passing-le (b ∷ s) zero = one_of-le (seq_len (b ∷ s)) _ _ (passing-le s)
passing-le (b ∷ s) (suc k) = let h : passing k s ≤ length s = passing-le s k in omega arith

pub prefix-le : (s : List ℕ) → valid_prefix s ≤ length s
unfolding valid_prefix
prefix-le s = passing-le s 0

passed : (s : List ℕ) (k : ℕ) → k ≤ length s → passing k s ≡ k + passing 0 (drop k s)
unfolding passing
passed s zero h = omega arith
passed [] (suc k) h = absurd (omega arith)
passed (b ∷ s) (suc k) h = let e : passing k s ≡ k + passing 0 (drop k s) = passed s k (omega arith) in omega arith

-- nothing where no sequence starts
pub prefix-none : (s : List ℕ) → seq_len s ≡ 0 → valid_prefix s ≡ 0
unfolding valid_prefix passing
prefix-none [] e = refl
prefix-none (b ∷ s) e = rw e

-- a sequence, and what is valid after it
pub prefix-more : (s : List ℕ) (n : ℕ) → seq_len s ≡ suc n → valid_prefix s ≡ suc n + valid_prefix (drop (suc n) s)
unfolding valid_prefix passing
prefix-more [] n e = absurd (omega (arith, seq_len-fits [] n e))
prefix-more (b ∷ s) n e =
    let h : n < length (b ∷ s) = seq_len-fits (b ∷ s) n e in
    let q : passing n s ≡ n + passing 0 (drop n s) = passed s n (omega arith) in
    rw e (omega arith)

pub prefix-cons : (b : ℕ) (s : List ℕ) → b < 128 → valid_prefix (b ∷ s) ≡ suc (valid_prefix s)
prefix-cons b s h = prefix-more (b ∷ s) 0 (seq-ascii (b ∷ s) 0 (omega arith) h) ∙ omega arith

-- a valid list before another
pub prefix-after : {p : List ℕ} → Valid p → (t : List ℕ) → valid_prefix (p ++ t) ≡ length p + valid_prefix t
prefix-after none t = omega arith
prefix-after (more p n e v) t =
    let f : n < length p = seq_len-fits p n e in
    let g : valid_prefix (p ++ t) ≡ suc n + valid_prefix (drop (suc n) (p ++ t)) = prefix-more (p ++ t) n (seq_len-more p t n e) in
    let h : valid_prefix (drop (suc n) (p ++ t)) ≡ length (drop (suc n) p) + valid_prefix t =
    ap valid_prefix (drop-append-le (suc n) p t f) ∙ prefix-after v t in
    omega (arith, length-drop (suc n) p)

-- valid up to where a first sequence and the valid prefix after it end
valid-more : (s : List ℕ) (n v : ℕ) → seq_len s ≡ suc n → Valid (take v (drop (suc n) s)) → Valid (take (suc n + v) s)
valid-more s n v e t =
    let f : suc n ≤ length s = seq_len-fits s n e in
    let a : take (suc n + v) s ≡ take (suc n) s ++ take v (drop (suc n) s) = take-add (suc n) v s in
    let g : seq_len (take (suc n) s ++ take v (drop (suc n) s)) ≡ suc n = seq_len-more (take (suc n) s) _ n (seq_len-take s n e) in
    let d : drop (suc n) (take (suc n) s ++ take v (drop (suc n) s)) ≡ take v (drop (suc n) s) =
    drop_at (take (suc n) s) _ (suc n) (length-take-le (suc n) s f) in
    rw a (more _ n g (rw d t))

valid-step : (s : List ℕ) (m : ℕ) → seq_len s ≡ m → ((n : ℕ) → seq_len s ≡ suc n → Valid (take (valid_prefix (drop (suc n) s)) (drop (suc n) s)))
    → Valid (take (valid_prefix s) s)
valid-step s zero e h = rw (prefix-none s e) none
valid-step s (suc n) e h = rw (prefix-more s n e) (valid-more s n _ e (h n e))

valid-under : (k : ℕ) (s : List ℕ) → length s ≤ k → Valid (take (valid_prefix s) s)
valid-under zero s h = valid-step s (seq_len s) refl (λ n e. absurd (omega (arith, seq_len-fits s n e)))
valid-under (suc k) s h =
    valid-step s (seq_len s) refl
    (λ n e. valid-under k (drop (suc n) s) (omega (arith, seq_len-fits s n e, length-drop (suc n) s)))

pub prefix-valid : (s : List ℕ) → Valid (take (valid_prefix s) s)
prefix-valid s = valid-under (length s) s (omega arith)

pub prefix-longest : (s : List ℕ) (n : ℕ) → n ≤ length s → Valid (take n s) → n ≤ valid_prefix s
prefix-longest s n h v =
    let e : valid_prefix s ≡ length (take n s) + valid_prefix (drop n s) = rw take-append-drop at (prefix-after v (drop n s)) in
    omega (arith, length-take-le n s h)

pub prefix-is : (s : List ℕ) → Longest s (valid_prefix s)
prefix-is s = record { within = prefix-le s; valid = prefix-valid s; most = prefix-longest s }

pub prefix-one : (s : List ℕ) (n : ℕ) → Longest s n → n ≡ valid_prefix s
prefix-one s n l =
    omega (arith, prefix-longest s n l.within l.valid, l.most (valid_prefix s) (prefix-le s) (prefix-valid s))

pub prefix-whole : (s : List ℕ) → Valid s → valid_prefix s ≡ length s
prefix-whole s v = omega (arith, prefix-le s, prefix-longest s (length s) (omega arith) (rw take-length v))

pub whole-valid : (s : List ℕ) → valid_prefix s ≡ length s → Valid s
whole-valid s e = let v : Valid (take (length s) s) = rw e at (prefix-valid s) in rw take-length at v

-- The same at a place.

pub prefix-stops : (s : List ℕ) (i : ℕ) → seq_len (drop i s) ≡ 0 → valid_prefix (drop i s) ≡ 0
prefix-stops s i e = prefix-none (drop i s) e

pub prefix-at : (s : List ℕ) (i k : ℕ) → seq_len (drop i s) ≡ k → 0 < k → valid_prefix (drop i s) ≡ k + valid_prefix (drop (i + k) s)
prefix-at s i zero e h = absurd (omega arith)
prefix-at s i (suc n) e h = prefix-more (drop i s) n e ∙ rw (drop-drop (suc n) i s)

pub prefix-ascii : (s : List ℕ) (i : ℕ) → i < length s → get_or s i 0 < 128 → valid_prefix (drop i s) ≡ 1 + valid_prefix (drop (i + 1) s)
prefix-ascii s i h a = prefix-at s i 1 (seq-ascii s i h a) (omega arith)

valid-next : {p : List ℕ} → Valid p → 0 < length p → (0 < seq_len p) × Valid (drop (seq_len p) p)
valid-next none h = absurd (omega arith)
valid-next (more p n e v) h = rw e (omega arith, v)

-- from one character of a valid text to the next
pub valid-at : (s : List ℕ) (i : ℕ) → Valid (drop i s) → i < length s
    → (0 < seq_len (drop i s)) × Valid (drop (i + seq_len (drop i s)) s)
valid-at s i v h =
    let n = valid-next v (omega (arith, length-drop i s)) in
    (n.0, rw (drop-drop (seq_len (drop i s)) i s) at n.1)
