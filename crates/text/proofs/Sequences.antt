-- What `goes_on` and `seq_len` answer: the bytes in their ranges, and the rows of Table 3-7.
-- Assumes nothing.
use Rattle.std.proofs.Common.{◌≡◌, refl, sym, ◌∙◌, ap, ℕ, zero, suc, ◌+◌, ◌<◌, ◌≤◌, Bool, true, false, cond, List, [], ◌∷◌, map, length, take, Option, Some, None, arith}
use Rattle.std.proofs.Math.Bool.{and-false}
use Rattle.std.proofs.Math.Seq.{length-take-le}
use Rattle.std.proofs.lemmas.List.{length-map}
use Rattle.std.specs.Bool.{then_some, MatchBool}
use Rattle.std.specs.List.{zip, AllWithin, HoldsAt}
use Rattle.text.specs.Ranges.{Range, within, range_of, starts}
use Rattle.text.specs.Utf8.{Row, table, seq_len, some_len}
use Rattle.text.proofs.Rows.{Leads, Between, later_of, row_len, leads, between}

-- whether a byte is in the range beside it
abbrev pub In : Bool → ℕ × (ℕ × ℕ) → Type 0
In b p = within (range_of p.1) p.0 ≡ b

all-in : (rs : List (ℕ × ℕ)) (bs : List ℕ) → length bs ≡ length rs → AllWithin (In true) (zip bs rs) 0 (length (zip bs rs)) → starts (map range_of rs) bs ≡ true
all-in [] bs e h = refl
all-in (r ∷ rs) [] e h = absurd (omega arith)
all-in (r ∷ rs) (b ∷ bs) e h = rw (h 0 (b, r) (omega arith) (omega arith), all-in rs bs (omega arith) (λ k d l g. h (suc k) d (omega arith) (omega arith)))

one-out : (rs : List (ℕ × ℕ)) (bs : List ℕ) → length bs ≡ length rs → (k : ℕ) → k < length (zip bs rs) → HoldsAt (In false) (zip bs rs) k → starts (map range_of rs) bs ≡ false
one-out [] [] e k l h = absurd (omega arith)
one-out [] (b ∷ bs) e k l h = absurd (omega arith)
one-out (r ∷ rs) [] e k l h = refl
one-out (r ∷ rs) (b ∷ bs) e zero l h = rw (h (b, r))
one-out (r ∷ rs) (b ∷ bs) e (suc k) l h = rw (one-out rs bs (omega arith) k (omega arith) h, and-false)

-- as many bytes as there are ranges, each tested
tested : (rs : List (ℕ × ℕ)) (bs : List ℕ) (r : Bool) → length bs ≡ length rs
    → MatchBool r (AllWithin (In true) (zip bs rs) 0 (length (zip bs rs))) ((k : ℕ) × (k < length (zip bs rs)) × HoldsAt (In false) (zip bs rs) k)
    → r ≡ starts (map range_of rs) bs
tested rs bs true e h = sym (all-in rs bs e h)
tested rs bs false e h = sym (one-out rs bs e h.0 h.1 h.2)

-- the bytes past them do not matter, and with fewer bytes than ranges there is no sequence
starts-cut : (rs : List Range) (s : List ℕ) → starts rs (take (length rs) s) ≡ starts rs s
starts-cut [] s = refl
starts-cut (r ∷ rs) [] = refl
starts-cut (r ∷ rs) (b ∷ s) = rw (starts-cut rs s)

starts-short : (rs : List Range) (s : List ℕ) → length s < length rs → starts rs s ≡ false
starts-short [] s h = absurd (omega arith)
starts-short (r ∷ rs) [] h = refl
starts-short (r ∷ rs) (b ∷ s) h = rw (starts-short rs s (omega arith), and-false)

pub all-tested : (rs : List (ℕ × ℕ)) (bs s : List ℕ) (n : ℕ) (r : Bool) (o : Option ℕ) → length rs ≡ n → n ≤ length s → bs ≡ take n s
    → MatchBool r (AllWithin (In true) (zip bs rs) 0 (length (zip bs rs))) ((k : ℕ) × (k < length (zip bs rs)) × HoldsAt (In false) (zip bs rs) k)
    → o ≡ then_some r (n + 1) → o ≡ then_some (starts (map range_of rs) s) (n + 1)
all-tested rs bs s n r o l h e m f =
    let q : length bs ≡ length rs = omega (arith, ap length e, length-take-le n s h) in
    let u : take n s ≡ take (length (map range_of rs)) s = ap (λ k. take k s) (sym (length-map rs range_of ∙ l)) in
    f ∙ ap (λ b. then_some b (n + 1)) (tested rs bs r q m ∙ ap (starts (map range_of rs)) (e ∙ u) ∙ starts-cut (map range_of rs) s)

pub too-few : (rs : List (ℕ × ℕ)) (s : List ℕ) (n : ℕ) → length rs ≡ n → length s < n → None ≡ then_some (starts (map range_of rs) s) (n + 1)
too-few rs s n l h = rw (starts-short (map range_of rs) s (omega (arith, length-map rs range_of)))

row-some : (rs : List Row) (k b : ℕ) (t : List ℕ) → Leads rs k b → some_len (row_len rs k t) ≡ then_some (starts (later_of rs k) t) (length (later_of rs k) + 1)
row-some [] k b t l = absurd l
row-some (r ∷ rs) zero b t l = go (starts r.later t)
  where
    go : (x : Bool) → some_len (cond x (suc (length r.later)) 0) ≡ then_some x (length r.later + 1)
    go true = ap Some (omega arith)
    go false = refl
row-some (r ∷ rs) (suc k) b t l = row-some rs k b t l.1

-- what `seq_len` answers: by the row of the first byte, by none, of no bytes
pub by-row : (s t : List ℕ) (b k : ℕ) (r : Option ℕ) → s ≡ b ∷ t → Leads table k b → r ≡ then_some (starts (later_of table k) t) (length (later_of table k) + 1) → r ≡ some_len (seq_len s)
unfolding seq_len
by-row s t b k r e l f = f ∙ sym (rw (e, leads table k b t l) (row-some table k b t l))

pub by-none : (s t : List ℕ) (b k : ℕ) → s ≡ b ∷ t → Between table k b → None ≡ some_len (seq_len s)
unfolding seq_len
by-none s t b k e l = rw (e, between table k b t l)

pub by-end : (s : List ℕ) → length s ≡ 0 → None ≡ some_len (seq_len s)
unfolding seq_len
by-end [] e = refl
by-end (b ∷ s) e = absurd (omega arith)
