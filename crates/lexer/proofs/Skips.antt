-- Space step by step: what it does at a blank, at a comment and elsewhere, whatever the number that bounds it. Assumes nothing.
use mathlib.Core.Path.{◌≡◌, refl}
use mathlib.Core.Bool.{Bool, true, false, cond}
use mathlib.Core.List.{List}
use Prim.Native.Nat.{ℕ, zero, suc, ◌+◌, ◌-◌, ◌≤◌, ◌<◌}
use native.Mathlib.Omega.{arith}
use lib.ListN.{length, drop, get_or-eq_default}
use lib.Dec.{eqb, ltb}
use borrow.Author.Tests.{lt-ltb, ne_eqb, ltb-true, ltb-false, eqb-true}
use Rattle.text.specs.Utf8.{seq_len, scalar}
use Rattle.text.specs.Space.{white_space}
use Rattle.text.proofs.Rows.{seq-fits}
use Rattle.lexer.specs.Scan.{byte, past}
use Rattle.lexer.specs.Space.{blank, in_line, less_cr, slashes, goes_on, next_line, comment, skip, space}
use Rattle.lexer.proofs.Past.{past-low, past-high}

branch : (b : Bool) (f g h : ℕ) → (b ≡ true → f ≡ g) → cond b f h ≡ cond b g h
branch true f g h p = p refl
branch false f g h p = refl

-- an empty line does not go on
pub on_some : (s : List ℕ) (at n : ℕ) → goes_on s at n ≡ true → 0 < n
unfolding goes_on less_cr slashes
on_some s at zero e = absurd (let z : ◌≡◌ {A = ℕ} 0 1 = cc in omega arith)
on_some s at (suc n) e = omega arith

module _ (s : List ℕ) where
  on-moves : (at : ℕ) → at ≤ length s → goes_on s at (past in_line s at - at) ≡ true → at < next_line s at
  unfolding next_line
  on-moves at h e = omega (arith, on_some s at _ e, past-high in_line s at h)

  next_low : (at : ℕ) → at ≤ length s → at ≤ next_line s at
  unfolding next_line
  next_low at h = omega (arith, past-low in_line s at)

  next-high : (at : ℕ) → next_line s at ≤ length s
  unfolding next_line
  next-high at = omega arith

  comment-any : (k j at : ℕ) → at ≤ length s → length s < at + k → length s < at + j → comment k s at ≡ comment j s at
  unfolding comment
  comment-any zero j at h l m = absurd (omega arith)
  comment-any (suc k) zero at h l m = absurd (omega arith)
  comment-any (suc k) (suc j) at h l m =
      branch (goes_on s at (past in_line s at - at)) _ _ _
      (λ t. comment-any k j (next_line s at) (next-high at) (omega (arith, on-moves at h t)) (omega (arith, on-moves at h t)))

  comment-low : (k at : ℕ) → at ≤ length s → at ≤ comment k s at
  unfolding comment
  comment-low zero at h = omega arith
  comment-low (suc k) at h = go (goes_on s at (past in_line s at - at)) (comment-low k (next_line s at) (next-high at)) (next_low at h)
    where
      go : (b : Bool) → next_line s at ≤ comment k s (next_line s at) → at ≤ next_line s at → at ≤ cond b (comment k s (next_line s at)) (next_line s at)
      go true p q = omega arith
      go false p q = q

  comment-high : (k at : ℕ) → at ≤ length s → comment k s at ≤ length s
  unfolding comment
  comment-high zero at h = h
  comment-high (suc k) at h = go (goes_on s at (past in_line s at - at)) (comment-high k (next_line s at) (next-high at))
    where
      go : (b : Bool) → comment k s (next_line s at) ≤ length s → cond b (comment k s (next_line s at)) (next_line s at) ≤ length s
      go true p = p
      go false p = next-high at

  -- "Does the comment go on past its newline?": it does
  pub comment-on : (at : ℕ) → at ≤ length s → goes_on s at (past in_line s at - at) ≡ true → comment (suc (length s)) s at ≡ comment (suc (length s)) s (next_line s at)
  unfolding comment
  comment-on at h e = rw e (comment-any (length s) (suc (length s)) (next_line s at) (next-high at) (omega (arith, on-moves at h e)) (omega (arith, next_low at h)))

  -- it does not
  pub comment-off : (at : ℕ) → goes_on s at (past in_line s at - at) ≡ false → comment (suc (length s)) s at ≡ next_line s at
  unfolding comment
  comment-off at e = rw e

  blank-high : (at : ℕ) → at ≤ length s → at + blank s at ≤ length s
  unfolding blank
  blank-high at h = go (white_space (scalar (drop at s)))
    where
      go : (b : Bool) → at + cond b (seq_len (drop at s)) 0 ≤ length s
      go true = omega (arith, seq-fits s at)
      go false = omega arith

  hash-in : (at : ℕ) → byte s at ≡ 0x23 → at < length s
  hash-in at e = go (ltb at (length s)) refl
    where
      go : (b : Bool) → ltb at (length s) ≡ b → at < length s
      go true l = ltb-true at (length s) l
      go false l = absurd (omega (arith, e, get_or-eq_default s 0 (ltb-false at (length s) l)))

  split : (b c : Bool) (f f' g g' h : ℕ) → (b ≡ true → f ≡ f') → (c ≡ true → g ≡ g') → cond b f (cond c g h) ≡ cond b f' (cond c g' h)
  split true c f f' g g' h p q = p refl
  split false true f f' g g' h p q = q refl
  split false false f f' g g' h p q = refl

  skip-any : (k j at : ℕ) → at ≤ length s → length s < at + k → length s < at + j → skip k s at ≡ skip j s at
  unfolding skip
  skip-any zero j at h l m = absurd (omega arith)
  skip-any (suc k) zero at h l m = absurd (omega arith)
  skip-any (suc k) (suc j) at h l m =
      split (ltb 0 (blank s at)) (eqb (byte s at) 0x23) _ _ _ _ _
      (λ t. skip-any k j (at + blank s at) (blank-high at h) (omega (arith, ltb-true 0 (blank s at) t)) (omega (arith, ltb-true 0 (blank s at) t)))
      (λ t.
      let n = hash-in at (eqb-true (byte s at) 0x23 t) in
      let a = comment-low (suc (length s)) (at + 1) (omega arith) in
      skip-any k j (comment (suc (length s)) s (at + 1)) (comment-high (suc (length s)) (at + 1) (omega arith)) (omega arith) (omega arith))

  -- at white space
  pub space-blank : (at : ℕ) → at ≤ length s → 0 < blank s at → space s at ≡ space s (at + blank s at)
  unfolding space skip
  space-blank at h b = rw (lt-ltb 0 (blank s at) b) (skip-any (length s) (suc (length s)) (at + blank s at) (blank-high at h) (omega arith) (omega arith))

  -- at a comment
  pub space-comment : (at : ℕ) → blank s at ≡ 0 → byte s at ≡ 0x23 → space s at ≡ space s (comment (suc (length s)) s (at + 1))
  unfolding space skip
  space-comment at b e =
      let n = hash-in at e in
      let a = comment-low (suc (length s)) (at + 1) (omega arith) in
      rw (b, e) (skip-any (length s) (suc (length s)) (comment (suc (length s)) s (at + 1)) (comment-high (suc (length s)) (at + 1) (omega arith)) (omega arith) (omega arith))

  -- elsewhere
  pub space-stop : (at : ℕ) → blank s at ≡ 0 → (byte s at ≡ 0x23 → ⊥) → space s at ≡ at
  unfolding space skip
  space-stop at b n = rw (b, ne_eqb (byte s at) 0x23 n)
