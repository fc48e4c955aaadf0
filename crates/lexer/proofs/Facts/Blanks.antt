-- Space and comments, free of the numbers that bound their turns: what is skipped does not depend on them. Assumes nothing.
use mathlib.Core.Path.{◌≡◌, refl, ◌∙◌}
use mathlib.Core.Bool.{Bool, true, false}
use mathlib.Core.List.{List}
use Prim.Native.Nat.{ℕ, zero, suc, ◌+◌, ◌-◌, ◌≤◌, ◌<◌}
use native.Mathlib.Omega.{arith}
use native.Mathlib.Decide.{dec_lt}
use lib.ListN.{length, drop_of_length-le}
use lib.Seq.{drop-cons}
use lib.Dec.{eqb, ltb}
use borrow.Author.Tests.{eqb-false, eq-eqb, ne_eqb, ltb-true, ltb-false, lt-ltb}
use Rattle.text.specs.Utf8.{table, bits, seq_len, scalar}
use Rattle.text.specs.Space.{spaces, white_space}
use Rattle.lexer.specs.Scan.{byte, run, past}
use Rattle.lexer.specs.Space.{blank, in_line, less_cr, slashes, goes_on, next_line, comment, skip, space}
use Rattle.lexer.proofs.Facts.Cases.{either, alike}
use Rattle.lexer.proofs.Facts.Onward.{byte-is, past-on, blank-fits, next_line-on, comment-on}

-- the place behind a comment, of which a line starts at the given place
unfoldable pub comment_at : List ℕ → ℕ → ℕ
comment_at s at = comment (suc (length s)) s at

-- ---- comments

past_end : (p : ℕ → Bool) (s : List ℕ) (at : ℕ) → length s ≤ at → past p s at ≡ at
unfolding past run
past_end p s at h = rw (drop_of_length-le s h) (omega arith)

-- where no byte is left the comment does not go on
goes_in : (s : List ℕ) (at : ℕ) → goes_on s at (past in_line s at - at) ≡ true → at < length s
unfolding goes_on less_cr slashes
goes_in s at e = go (dec_lt at (length s))
  where
    go : Dec (at < length s) → at < length s
    go (yes h) = h
    go (no h) =
        let k : past in_line s at - at ≡ 0 = omega (arith, past_end in_line s at (omega arith)) in
        let f : goes_on s at 0 ≡ true = rw k at e in
        absurd (let z : ◌≡◌ {A = ℕ} 0 1 = cc in omega arith)

next_line-more : (s : List ℕ) (at : ℕ) → at < length s → at < next_line s at
unfolding next_line
next_line-more s at h = let o = past-on in_line s at (omega arith) in omega (arith, o.low)

pub comment-fuel : (k l : ℕ) (s : List ℕ) (at : ℕ) → at ≤ length s → length s - at < k → length s - at < l → comment k s at ≡ comment l s at
unfolding comment
comment-fuel zero l s at h p q = absurd (omega arith)
comment-fuel (suc k) zero s at h p q = absurd (omega arith)
comment-fuel (suc k) (suc l) s at h p q =
    alike ◌≡◌ (goes_on s at (past in_line s at - at)) _ _ _ _
    (λ e. let g : at < length s = goes_in s at e in
    let m : at < next_line s at = next_line-more s at g in
    comment-fuel k l s (next_line s at) (next_line-on s at h).high (omega arith) (omega arith))
    (λ e. refl)

-- "Does the comment go on past its newline? Exactly if the line, less one trailing CR, ends in an odd number of backslashes."
pub comment-goes : (s : List ℕ) (at : ℕ) → at ≤ length s → goes_on s at (past in_line s at - at) ≡ true → comment_at s at ≡ comment_at s (next_line s at)
unfolding comment comment_at
comment-goes s at h e =
    comment-fuel (suc (length s)) (suc (suc (length s))) s at h (omega arith) (omega arith)
    ∙ rw e

-- "End of input ends it.", and a newline that it does not go on past
pub comment-ends : (s : List ℕ) (at : ℕ) → goes_on s at (past in_line s at - at) ≡ false → comment_at s at ≡ next_line s at
unfolding comment comment_at
comment-ends s at e = rw e

-- ---- space

pub skip-fuel : (k l : ℕ) (s : List ℕ) (at : ℕ) → at ≤ length s → length s - at < k → length s - at < l → skip k s at ≡ skip l s at
unfolding skip
skip-fuel zero l s at h p q = absurd (omega arith)
skip-fuel (suc k) zero s at h p q = absurd (omega arith)
skip-fuel (suc k) (suc l) s at h p q =
    alike ◌≡◌ (ltb 0 (blank s at)) _ _ _ _
    (λ e. let g : 0 < blank s at = ltb-true 0 (blank s at) e in
    let f : at + blank s at ≤ length s = blank-fits s at h in
    skip-fuel k l s (at + blank s at) f (omega arith) (omega arith))
    (λ e. alike ◌≡◌ (eqb (byte s at) 0x23) _ _ _ _
    (λ f. let g : at < length s = byte-is s at 0x23 (omega arith) f in
    let o = comment-on (suc (length s)) s (at + 1) (omega arith) in
    skip-fuel k l s _ o.high (omega (arith, o.low)) (omega (arith, o.low)))
    (λ f. refl))

-- "Space: Unicode White_Space."
pub space-blank : (s : List ℕ) (at : ℕ) → at ≤ length s → 0 < blank s at → space s at ≡ space s (at + blank s at)
unfolding space skip
space-blank s at h g =
    skip-fuel (suc (length s)) (suc (suc (length s))) s at h (omega arith) (omega arith) ∙ rw (lt-ltb 0 (blank s at) g)

-- `#` is no White_Space
hash-blank : (s : List ℕ) (at : ℕ) → byte s at ≡ 0x23 → blank s at ≡ 0
unfolding blank seq_len table bits scalar white_space spaces
hash-blank s at e = rw (drop-cons s at 0 (byte-is s at 0x23 (omega arith) (eq-eqb (byte s at) 0x23 e)), e)

pub space-comment : (s : List ℕ) (at : ℕ) → at ≤ length s → byte s at ≡ 0x23 → space s at ≡ space s (comment_at s (at + 1))
unfolding space skip comment_at
space-comment s at h e =
    skip-fuel (suc (length s)) (suc (suc (length s))) s at h (omega arith) (omega arith) ∙ rw (hash-blank s at e, eq-eqb (byte s at) 0x23 e)

pub space-none : (s : List ℕ) (at : ℕ) → blank s at ≡ 0 → (byte s at ≡ 0x23 → ⊥) → space s at ≡ at
unfolding space skip
space-none s at e f = rw (e, ne_eqb (byte s at) 0x23 f)

-- what stands behind space is no space
pub record Bare (s : List ℕ) (at : ℕ) : Type 0 where
  pub blank : blank s at ≡ 0
  pub comment : byte s at ≡ 0x23 → ⊥

skip-bare : (k : ℕ) (s : List ℕ) (at : ℕ) → at ≤ length s → length s - at < k → Bare s (skip k s at)
unfolding skip
skip-bare zero s at h p = absurd (omega arith)
skip-bare (suc k) s at h p =
    either (Bare s) (ltb 0 (blank s at)) _ _
    (λ e. let g : 0 < blank s at = ltb-true 0 (blank s at) e in
    let f : at + blank s at ≤ length s = blank-fits s at h in
    skip-bare k s (at + blank s at) f (omega arith))
    (λ e. either (Bare s) (eqb (byte s at) 0x23) _ _
    (λ f. let g : at < length s = byte-is s at 0x23 (omega arith) f in
    let o = comment-on (suc (length s)) s (at + 1) (omega arith) in
    skip-bare k s _ o.high (omega (arith, o.low)))
    (λ f. record { blank = omega (arith, ltb-false 0 (blank s at) e); comment = eqb-false (byte s at) 0x23 f }))

pub space-bare : (s : List ℕ) (at : ℕ) → at ≤ length s → Bare s (space s at)
unfolding space
space-bare s at h = skip-bare (suc (length s)) s at h (omega arith)

pub space-again : (s : List ℕ) (at : ℕ) → at ≤ length s → space s (space s at) ≡ space s at
space-again s at h = let b = space-bare s at h in space-none s (space s at) b.blank b.comment
