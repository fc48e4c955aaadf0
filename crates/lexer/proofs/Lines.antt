-- The lines of a comment. Assumes nothing.
use mathlib.Core.Path.{◌≡◌, refl, sym, ap, ◌∙◌}
use mathlib.Core.Bool.{Bool, true, false, cond}
use mathlib.Core.List.{List, [], ◌∷◌}
use Prim.Native.Nat.{ℕ, zero, suc, ◌+◌, ◌-◌, ◌%◌, ◌≤◌}
use native.Mathlib.Numerals.{add-one}
use native.Mathlib.Omega.{arith}
use lib.ListN.{length, take, drop, get_or, length-drop}
use lib.Seq.{drop-cons}
use lib.Dec.{eqb}
use Rattle.std.proofs.Common.{Bor, Option, Some, None, MatchOption, unwrap_or}
use Rattle.std.specs.Cmp.Lexicographic.{pointwise}
use Rattle.std.proofs.Math.Bool.{and-true}
use Rattle.std.specs.List.{suffix_len}
use Rattle.std.proofs.lemmas.List.{get_or-drop, drop-take, take-take, length-take-le}
use Rattle.std.proofs.lemmas.List.Sums.{suffix_len-take_yes, suffix_len-take_no}
use Rattle.lexer.specs.Scan.{byte}
use Rattle.lexer.specs.Space.{less_cr, slashes, goes_on}

-- whether a list ends in CR
abbrev pub ends : List ℕ → Bool
ends line = pointwise eqb (drop (length line - 1) line) (0x0D ∷ [])

module _ (s : List ℕ) (at : ℕ) where
  last-is : (n : ℕ) → at + suc n ≤ length s → drop n (take (suc n) (drop at s)) ≡ byte s (at + n) ∷ []
  last-is n h =
      let xs = drop at s in
      let d : drop n (take (n + 1) xs) ≡ take 1 (drop n xs) = drop-take n 1 xs in
      rw (← add-one, d, drop-cons xs n 0 (omega (arith, length-drop at s)), get_or-drop at s n 0)

  line-length : (n : ℕ) → at + n ≤ length s → length (take n (drop at s)) ≡ n
  line-length n h = length-take-le n (drop at s) (omega (arith, length-drop at s))

  ends-is : (n : ℕ) → at + suc n ≤ length s → ends (take (suc n) (drop at s)) ≡ eqb (byte s (at + n)) 0x0D
  ends-is n h =
      let k : length (take (suc n) (drop at s)) - 1 ≡ n = omega (arith, line-length (suc n) h) in
      rw (k, last-is n h) (and-true (eqb (byte s (at + n)) 0x0D))

  -- what is left of a line without one trailing CR
  kept : (n : ℕ) (b : Bool) → at + n ≤ length s → ends (take n (drop at s)) ≡ b → cond b (take (n - 1) (drop at s)) (take n (drop at s)) ≡ take (less_cr s at n) (drop at s)
  unfolding less_cr
  kept zero true h e = refl
  kept zero false h e = refl
  kept (suc n) true h e = let k : suc n - 1 ≡ n = omega arith in rw (k, sym (ends-is n h) ∙ e)
  kept (suc n) false h e = rw (sym (ends-is n h) ∙ e)

  pub stripped : (n : ℕ) (line : Bor (List ℕ)) (o : Option (Bor (List ℕ))) → at + n ≤ length s → line.now ≡ take n (drop at s)
      → MatchOption o (ends line.now ≡ false) (λ x. (ends line.now ≡ true) × (x.now ≡ take (length line.now - 1) line.now) × (length x.now + 1 ≡ length line.now))
      → (unwrap_or o line).now ≡ take (less_cr s at n) (drop at s)
  stripped n line None h i m = i ∙ kept n false h (ap ends (sym i) ∙ m)
  stripped n line (Some x) h i m =
      let k : length line.now - 1 ≡ n - 1 = omega (arith, ap length i, line-length n h) in
      m.1 ∙ rw (k, i, take-take (n - 1) n (drop at s) (omega arith)) (kept n true h (ap ends (sym i) ∙ m.0))

  slashes-is : (n : ℕ) → at + n ≤ length s → suffix_len (λ b. eqb b 0x5C) (take n (drop at s)) ≡ slashes s at n
  unfolding slashes
  slashes-is zero h = refl
  slashes-is (suc n) h = go (eqb (byte s (at + n)) 0x5C) refl (slashes-is n (omega arith))
    where
      here : get_or (drop at s) (suc n - 1) 0 ≡ byte s (at + n)
      here = let k : suc n - 1 ≡ n = omega arith in rw k (get_or-drop at s n 0)

      go : (b : Bool) → eqb (byte s (at + n)) 0x5C ≡ b → suffix_len (λ b. eqb b 0x5C) (take n (drop at s)) ≡ slashes s at n → suffix_len (λ b. eqb b 0x5C) (take (suc n) (drop at s)) ≡ cond b (suc (slashes s at n)) zero
      go true e f =
          let k : suc n - 1 ≡ n = omega arith in
          let m = suffix_len-take_yes (λ b. eqb b 0x5C) (drop at s) (suc n) 0 (omega arith) (omega (arith, length-drop at s)) (ap (λ b. eqb b 0x5C) here ∙ e) in
          rw k at m ∙ omega (arith, f)
      go false e f = suffix_len-take_no (λ b. eqb b 0x5C) (drop at s) (suc n) 0 (omega arith) (omega (arith, length-drop at s)) (ap (λ b. eqb b 0x5C) here ∙ e)

  less-cr-low : (n : ℕ) → less_cr s at n ≤ n
  unfolding less_cr
  less-cr-low zero = omega arith
  less-cr-low (suc n) = go (eqb (byte s (at + n)) 0x0D)
    where
      go : (b : Bool) → cond b n (suc n) ≤ suc n
      go true = omega arith
      go false = omega arith

  -- whether a line goes on, by the backslashes that it ends in
  pub goes-on-is : (n r : ℕ) (line : List ℕ) → at + n ≤ length s → line ≡ take (less_cr s at n) (drop at s) → r ≡ suffix_len (λ b. eqb b 0x5C) line → eqb (r % 2) 1 ≡ goes_on s at n
  unfolding goes_on
  goes-on-is n r line h l e = rw (e, l, slashes-is (less_cr s at n) (omega (arith, less-cr-low n)))
