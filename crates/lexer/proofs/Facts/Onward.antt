-- "In a lexer's state the remaining input `i` is always a suffix of the source.": reading goes from a place to a place that is not before it and not past
-- the end. Here for space, the parts of words, numbers and symbols. Assumes nothing.
use mathlib.Core.Path.{◌≡◌, refl, sym, ap, ◌∙◌}
use mathlib.Core.Bool.{Bool, true, false, cond}
use mathlib.Core.List.{List, [], ◌∷◌, ◌++◌}
use Prim.Native.Nat.{ℕ, zero, suc, ◌+◌, ◌-◌, ◌≤◌, ◌<◌}
use native.Mathlib.Omega.{arith}
use native.Mathlib.Decide.{dec_lt}
use lib.ListN.{length, take, drop, length-drop, take-append-drop, get_or-eq_default}
use lib.Seq.{drop-drop}
use lib.Dec.{eqb, ltb}
use borrow.Author.Tests.{eqb-true}
use Rattle.text.specs.Ranges.{Range, starts, within}
use Rattle.text.specs.Utf8.{Row, table, len_in, seq_len, scalar}
use Rattle.text.specs.Space.{white_space}
use Rattle.lexer.specs.Scan.{byte, one_of, run, past, optional}
use Rattle.lexer.specs.Space.{blank, in_line, goes_on, next_line, comment, skip, space}
use Rattle.lexer.specs.Word.{letter, word_byte, ident0, ident_end}
use Rattle.lexer.proofs.Facts.Cases.{either, both_right}
use Rattle.lexer.specs.Sym.{operator, follows, dot, sym as symbol}

-- from a place on to a place that is not before it, within the source
pub record Onward (s : List ℕ) (at b : ℕ) : Type 0 where
  pub low : at ≤ b
  pub high : b ≤ length s

-- the one list ends in the other
pub record Suffix (r s : List ℕ) : Type 0 where
  pub front : List ℕ
  pub whole : s ≡ front ++ r

-- so what remains is a suffix of what remained
pub suffix : (s : List ℕ) (at b : ℕ) → Onward s at b → Suffix (drop b s) (drop at s)
suffix s at b o =
    let e : at + (b - at) ≡ b = omega (arith, o.low) in
    record { front = take (b - at) (drop at s); whole = sym (rw (← e, ← drop-drop (b - at) at s, e) (take-append-drop (b - at) (drop at s))) }

pub stay : (s : List ℕ) (at : ℕ) → at ≤ length s → Onward s at at
stay s at h = record { low = omega arith; high = h }

pub further : (s : List ℕ) (at b c : ℕ) → Onward s at b → Onward s b c → Onward s at c
further s at b c o p = record { low = omega (arith, o.low, p.low); high = p.high }

-- ---- the byte at a place

-- a byte other than 0 stands within the source
pub byte-in : (s : List ℕ) (at : ℕ) → (byte s at ≡ 0 → ⊥) → at < length s
byte-in s at f = go (dec_lt at (length s))
  where
    go : Dec (at < length s) → at < length s
    go (yes h) = h
    go (no h) = absurd (f (get_or-eq_default s 0 (omega arith)))

pub byte-is : (s : List ℕ) (at x : ℕ) → 0 < x → eqb (byte s at) x ≡ true → at < length s
byte-is s at x h e = byte-in s at (λ z. omega (arith, eqb-true (byte s at) x e))

-- a byte that passes a test which 0 does not pass
pub byte-passes : (p : ℕ → Bool) (s : List ℕ) (at : ℕ) → p 0 ≡ false → p (byte s at) ≡ true → at < length s
byte-passes p s at f e = byte-in s at (λ z. let q : true ≡ false = sym e ∙ (ap p z ∙ f) in (let w : ◌≡◌ {A = ℕ} 0 1 = cc in omega arith))

-- ---- runs

run_fits : (p : ℕ → Bool) (s : List ℕ) → run p s ≤ length s
unfolding run
run_fits p [] = omega arith
run_fits p (b ∷ s) = either (λ n. n ≤ suc (length s)) (p b) (suc (run p s)) 0 (λ e. omega (arith, run_fits p s)) (λ e. omega arith)

pub past-on : (p : ℕ → Bool) (s : List ℕ) (at : ℕ) → at ≤ length s → Onward s at (past p s at)
unfolding past
past-on p s at h =
    let f : run p (drop at s) ≤ length (drop at s) = run_fits p (drop at s) in
    record { low = omega arith; high = omega (arith, length-drop at s) }

-- ---- space

row_fits : (w x : Bool) (m k n : ℕ) → (x ≡ true → m ≤ n) → k ≤ suc n → cond w (cond x (suc m) 0) k ≤ suc n
row_fits true true m k n f g = omega (arith, f refl)
row_fits true false m k n f g = omega arith
row_fits false x m k n f g = g

starts-fits : (rs : List Range) (s : List ℕ) → starts rs s ≡ true → length rs ≤ length s
starts-fits [] s e = omega arith
starts-fits (r ∷ rs) [] e = absurd (let z : ◌≡◌ {A = ℕ} 0 1 = cc in omega arith)
starts-fits (r ∷ rs) (b ∷ s) e = omega (arith, starts-fits rs s (both_right (within r b) (starts rs s) e))

in-fits : (rs : List Row) (b : ℕ) (s : List ℕ) → len_in rs b s ≤ suc (length s)
in-fits [] b s = omega arith
in-fits (r ∷ rs) b s = row_fits (within r.first b) (starts r.later s) (length r.later) _ _ (starts-fits r.later s) (in-fits rs b s)

seq_len-fits : (s : List ℕ) → seq_len s ≤ length s
unfolding seq_len
seq_len-fits [] = omega arith
seq_len-fits (b ∷ s) = in-fits table b s

pub blank-fits : (s : List ℕ) (at : ℕ) → at ≤ length s → at + blank s at ≤ length s
unfolding blank
blank-fits s at h =
    let f : seq_len (drop at s) ≤ length (drop at s) = seq_len-fits (drop at s) in
    either (λ n. at + n ≤ length s) (white_space (scalar (drop at s))) (seq_len (drop at s)) 0 (λ e. omega (arith, length-drop at s)) (λ e. omega arith)

pub next_line-on : (s : List ℕ) (at : ℕ) → at ≤ length s → Onward s at (next_line s at)
unfolding next_line
next_line-on s at h = let o = past-on in_line s at h in record { low = omega arith; high = omega arith }

pub comment-on : (k : ℕ) (s : List ℕ) (at : ℕ) → at ≤ length s → Onward s at (comment k s at)
unfolding comment
comment-on zero s at h = stay s at h
comment-on (suc k) s at h =
    let o = next_line-on s at h in
    either (Onward s at) (goes_on s at (past in_line s at - at)) _ _ (λ e. further s at _ _ o (comment-on k s (next_line s at) o.high)) (λ e. o)

pub skip-on : (k : ℕ) (s : List ℕ) (at : ℕ) → at ≤ length s → Onward s at (skip k s at)
unfolding skip
skip-on zero s at h = stay s at h
skip-on (suc k) s at h =
    let behind : Onward s at (at + blank s at) = record { low = omega arith; high = blank-fits s at h } in
    either (Onward s at) (ltb 0 (blank s at)) _ _
    (λ e. further s at _ _ behind (skip-on k s (at + blank s at) behind.high))
    (λ e. either (Onward s at) (eqb (byte s at) 0x23) _ _
    (λ f. let below = comment-on (suc (length s)) s (at + 1) (omega (arith, byte-is s at 0x23 (omega arith) f)) in
    further s at _ _ (record { low = omega (arith, below.low); high = below.high }) (skip-on k s _ below.high))
    (λ f. stay s at h))

pub space-on : (s : List ℕ) (at : ℕ) → at ≤ length s → Onward s at (space s at)
unfolding space
space-on s at h = skip-on (suc (length s)) s at h

-- ---- words, numbers, symbols

pub ident0-on : (s : List ℕ) (at : ℕ) → at ≤ length s → Onward s at (ident0 s at)
ident0-on s at h = past-on word_byte s at h

pub optional-on : (ks : List ℕ) (s : List ℕ) (at : ℕ) → one_of ks 0 ≡ false → at ≤ length s → Onward s at (optional ks s at)
unfolding optional
optional-on ks s at f h =
    either (Onward s at) (one_of ks (byte s at)) _ _
    (λ e. record { low = omega arith; high = omega (arith, byte-passes (one_of ks) s at f e) })
    (λ e. stay s at h)

pub ident_end-on : (s : List ℕ) (at : ℕ) → at ≤ length s → Onward s at (ident_end s at)
unfolding ident_end letter
ident_end-on s at h =
    either (Onward s at) (letter (byte s at)) _ _
    (λ e. let o = ident0-on s (at + 1) (omega (arith, byte-passes letter s at refl e)) in record { low = omega (arith, o.low); high = o.high })
    (λ e. stay s at h)

-- a symbol has at least one byte
pub dot-on : (s : List ℕ) (at : ℕ) → at < length s → Onward s (at + 1) (dot s at)
unfolding dot letter
dot-on s at h =
    either (Onward s (at + 1)) (eqb (byte s (at + 1)) 0x2E) _ _
    (λ e. record { low = omega arith; high = omega (arith, byte-is s (at + 1) 0x2E (omega arith) e) })
    (λ e. either (Onward s (at + 1)) (letter (byte s (at + 1))) _ _
    (λ f. let o = ident0-on s (at + 2) (omega (arith, byte-passes letter s (at + 1) refl f)) in record { low = omega (arith, o.low); high = o.high })
    (λ f. stay s (at + 1) (omega arith)))

pub symbol-on : (s : List ℕ) (at : ℕ) → at < length s → Onward s (at + 1) (symbol s at)
unfolding symbol
symbol-on s at h =
    either (Onward s (at + 1)) (operator (byte s at)) _ _
    (λ e. past-on follows s (at + 1) (omega arith))
    (λ e. either (Onward s (at + 1)) (eqb (byte s at) 0x2E) _ _ (λ f. dot-on s at h) (λ f. stay s (at + 1) (omega arith)))
