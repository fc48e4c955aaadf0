-- The character at a place, by the length of its sequence.
-- Assumes nothing.
use mathlib.Core.Path.{◌≡◌, refl, sym, ap, ◌∙◌}
use mathlib.Core.Logic.{◌⊎◌, inl, inr}
use mathlib.Core.List.{List}
use Prim.Native.Nat.{ℕ, zero, suc, ◌+◌, ◌-◌, ◌*◌, ◌%◌, ◌≤◌, ◌<◌}
use native.Mathlib.Nat.{add-zero}
use native.Mathlib.Omega.{arith}
use lib.ListN.{length, take, drop, get_or, length-drop}
use lib.Seq.{get_or-drop, get_or-take, length-take-le, take-length}
use Rattle.std.proofs.Common.{Some, None, slice_range}
use Rattle.text.specs.declared.Char.{Char}
use Rattle.text.specs.Utf8.{seq_len, bits, scalar, char_at, some_len, if_any, found}
use Rattle.text.proofs.Rows.{seq-fits, seq-out, seq-ascii, seq_len-few, seq_len-le}

abbrev char : ℕ → ℕ → Char
char a k = record { code = a; len = k }

-- what `code_point` makes of four bytes and more
pub bits-four : (n : ℕ) (s : List ℕ) (a b c d : ℕ) → 4 ≤ n → a ≡ get_or s 0 0 % 8 → b ≡ get_or s 1 0 % 64 → c ≡ get_or s 2 0 % 64 → d ≡ get_or s 3 0 % 64
    → a * 262144 + b * 4096 + c * 64 + d ≡ bits n s
unfolding bits
bits-four zero s a b c d h e f g i = absurd (omega arith)
bits-four (suc zero) s a b c d h e f g i = absurd (omega arith)
bits-four (suc (suc zero)) s a b c d h e f g i = absurd (omega arith)
bits-four (suc (suc (suc zero))) s a b c d h e f g i = absurd (omega arith)
bits-four (suc (suc (suc (suc n)))) s a b c d h e f g i = rw (e, f, g, i)

-- the bits of a sequence stand in its own bytes
bits-cut : (n : ℕ) (s : List ℕ) → n ≤ 4 → bits n (take n s) ≡ bits n s
unfolding bits
bits-cut zero s h = refl
bits-cut (suc zero) s h = rw (get_or-take 1 s 0 0 (omega arith))
bits-cut (suc (suc zero)) s h = rw (get_or-take 2 s 0 0 (omega arith), get_or-take 2 s 1 0 (omega arith))
bits-cut (suc (suc (suc zero))) s h = rw (get_or-take 3 s 0 0 (omega arith), get_or-take 3 s 1 0 (omega arith), get_or-take 3 s 2 0 (omega arith))
bits-cut (suc (suc (suc (suc zero)))) s h = rw (get_or-take 4 s 0 0 (omega arith), get_or-take 4 s 1 0 (omega arith), get_or-take 4 s 2 0 (omega arith), get_or-take 4 s 3 0 (omega arith))
bits-cut (suc (suc (suc (suc (suc n))))) s h = absurd (omega arith)

-- what stands from a place on
rest-is : (s rest : List ℕ) (at : ℕ) → rest ≡ slice_range s at (length s) → rest ≡ drop at s
rest-is s rest at e = e ∙ rw (← length-drop at s) (take-length (drop at s))

some-len : (n k : ℕ) → Some k ≡ some_len n → (k ≡ n) × (0 < n)
some-len zero k e = absurd (cc)
some-len (suc n) k e = (cc, omega arith)

some-any : {A : Type 0} (n : ℕ) (a : A) → 0 < n → Some a ≡ if_any n a
some-any zero a h = absurd (omega arith)
some-any (suc n) a h = refl

no-char : (s : List ℕ) (at : ℕ) → seq_len (drop at s) ≡ 0 → None ≡ found (char_at s at)
no-char s at e = rw e

pub len-fits : (s : List ℕ) (k : ℕ) → Some k ≡ some_len (seq_len s) → k ≡ length (take k s)
len-fits s k e = let f = some-len (seq_len s) k e in sym (length-take-le k s (omega (arith, seq_len-le s)))

-- what `char_at` answers: the character, where a sequence starts at the place; none past the end
pub char-found : (s rest : List ℕ) (at k a : ℕ) → rest ≡ slice_range s at (length s) → Some k ≡ some_len (seq_len rest) → a ≡ bits (length (take k rest)) (take k rest)
    → Some (char a k) ≡ found (char_at s at)
unfolding scalar
char-found s rest at k a e f g =
    let d : rest ≡ drop at s = rest-is s rest at e in
    let p = some-len (seq_len rest) k f in
    let q : bits k (take k rest) ≡ bits k rest = bits-cut k rest (omega (arith, seq_len-few rest)) in
    let w : k ≡ length (take k rest) = len-fits rest k f in
    let u : k ≡ seq_len (drop at s) = cc in
    let v : a ≡ bits (seq_len (drop at s)) (drop at s) = cc in
    ap Some (let c : char a k ≡ char_at s at = cc in c) ∙ some-any (seq_len (drop at s)) (char_at s at) (omega arith)

pub char-past : (s : List ℕ) (at : ℕ) → (length s < at) ⊎ (length s < length s) → None ≡ found (char_at s at)
char-past s at (inl h) = no-char s at (seq-out s at (omega arith))
char-past s at (inr h) = absurd (omega arith)

-- For callers: a character that is there lies within the list, and takes at most four bytes.

pub char-fits : (s : List ℕ) (at : ℕ) → (char_at s at).len ≤ length s - at
char-fits s at = seq-fits s at

pub char-few : (s : List ℕ) (at : ℕ) → (char_at s at).len ≤ 4
char-few s at = seq_len-few (drop at s)

-- the same of an answer of `char_at`, in parts
pub record IsChar (s : List ℕ) (at : ℕ) (r : Char) : Type 0 where
  pub code : r.code ≡ scalar (drop at s)
  pub len : r.len ≡ seq_len (drop at s)
  pub fits : r.len ≤ length s - at
  pub few : r.len ≤ 4

pub is-char : (s : List ℕ) (at : ℕ) (r : Char) → r ≡ char_at s at → IsChar s at r
is-char s at r e =
    let l : r.len ≡ seq_len (drop at s) = ap (λ (c : Char). c.len) e in
    record { code = ap (λ (c : Char). c.code) e; len = l; fits = omega (arith, seq-fits s at); few = omega (arith, seq_len-few (drop at s)) }

pub char-ascii : (s : List ℕ) (at : ℕ) → at < length s → get_or s at 0 < 128 → char (get_or s at 0) 1 ≡ char_at s at
unfolding scalar bits
char-ascii s at h a =
    let e : seq_len (drop at s) ≡ 1 = seq-ascii s at h a in
    let m : get_or s at 0 % 128 ≡ get_or s at 0 = omega arith in
    rw (e, get_or-drop, add-zero, m)

-- an answer of `char_at`: the character at the place, or that no sequence starts there
any-is : {A : Type 0} (n : ℕ) (a b : A) → Some b ≡ if_any n a → b ≡ a
any-is zero a b e = absurd (cc)
any-is (suc n) a b e = cc

no-any : {A : Type 0} (n : ℕ) (a : A) → None ≡ if_any n a → n ≡ 0
no-any zero a e = refl
no-any (suc n) a e = absurd (cc)

pub char-is : (s : List ℕ) (at : ℕ) (r : Char) → Some r ≡ found (char_at s at) → r ≡ char_at s at
char-is s at r e = any-is (seq_len (drop at s)) (char_at s at) r e

pub char-none : (s : List ℕ) (at : ℕ) → None ≡ found (char_at s at) → seq_len (drop at s) ≡ 0
char-none s at e = no-any (seq_len (drop at s)) (char_at s at) e
