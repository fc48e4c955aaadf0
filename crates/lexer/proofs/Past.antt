-- How far a run goes, step by step. Assumes nothing.
use mathlib.Core.Path.{◌≡◌, refl, sym, ap, ◌∙◌}
use mathlib.Core.Bool.{Bool, true, false, cond, ◌&&◌}
use mathlib.Core.List.{List, [], ◌∷◌}
use Prim.Native.Nat.{ℕ, zero, suc, ◌+◌, ◌-◌, ◌≤◌, ◌<◌}
use native.Mathlib.Nat.{add-zero, add-suc}
use native.Mathlib.Numerals.{add-one}
use native.Mathlib.Omega.{arith}
use lib.ListN.{length, take, drop, get_or, length-drop, drop_of_length-le}
use lib.Seq.{drop-cons}
use lib.Dec.{ltb}
use borrow.Author.Tests.{ltb-true, ltb-false}
use Rattle.std.specs.List.{list_all}
use Rattle.std.proofs.lemmas.List.{get_or-drop, drop-drop}
use Rattle.std.proofs.lemmas.List.Folds.{list_all_more}
use Rattle.lexer.specs.Scan.{byte, run, past}
use Rattle.lexer.specs.Meets.{Reaches, Going}
use Rattle.lexer.proofs.Every.{both_left, both_right}

module _ (p : ℕ → Bool) (s : List ℕ) where
  pub past_more : (i : ℕ) → i < length s → p (byte s i) ≡ true → past p s i ≡ past p s (i + 1)
  unfolding past run
  past_more i h e = rw (add-one, drop-cons s i 0 h, e) (omega arith)

  pub past_stop : (i : ℕ) → i < length s → p (byte s i) ≡ false → past p s i ≡ i
  unfolding past run
  past_stop i h e = rw (drop-cons s i 0 h, e) (omega arith)

  pub past_end : (i : ℕ) → length s ≤ i → past p s i ≡ i
  unfolding past run
  past_end i h = rw (drop_of_length-le s h) (omega arith)

  -- whether or not there is a byte
  pub past-here : (i : ℕ) → p (byte s i) ≡ false → past p s i ≡ i
  past-here i e = go (ltb i (length s)) refl
    where
      go : (x : Bool) → ltb i (length s) ≡ x → past p s i ≡ i
      go true l = past_stop i (ltb-true i (length s) l) e
      go false l = past_end i (ltb-false i (length s) l)

  pub past-low : (i : ℕ) → i ≤ past p s i
  unfolding past
  past-low i = omega arith

  run_short : (l : List ℕ) → run p l ≤ length l
  unfolding run
  run_short [] = omega arith
  run_short (b ∷ l) = go (p b) (run_short l)
    where
      go : (x : Bool) → run p l ≤ length l → cond x (suc (run p l)) 0 ≤ suc (length l)
      go true h = omega arith
      go false h = omega arith

  pub past-high : (i : ℕ) → i ≤ length s → past p s i ≤ length s
  unfolding past
  past-high i h = omega (arith, run_short (drop i s), length-drop i s)

  pub start : (at : ℕ) → at ≤ length s → Going p s at at
  start at h = record { is = refl; low = omega arith; high = h }

  pub more : (at i : ℕ) → Going p s at i → i < length s → p (byte s i) ≡ true → Going p s at (i + 1)
  more at i g h e = record { is = sym (past_more i h e) ∙ g.is; low = omega (arith, g.low); high = omega arith }

  pub stop : (at i : ℕ) → Going p s at i → i < length s → p (byte s i) ≡ false → Reaches (past p s at) s at i
  stop at i g h e = record { is = sym (past_stop i h e) ∙ g.is; low = g.low; high = g.high }

  pub all : (at i : ℕ) → Going p s at i → length s ≤ i → Reaches (past p s at) s at i
  all at i g h = record { is = sym (past_end i h) ∙ g.is; low = g.low; high = g.high }

  -- a run from a place on the way ends where that from the start ends
  pub onward : (at i r : ℕ) → Going p s at i → Reaches (past p s i) s i r → Reaches (past p s at) s at r
  onward at i r g w = record { is = w.is ∙ g.is; low = omega (arith, g.low, w.low); high = w.high }

  -- a block of the class is passed whole
  pub block : (at i n : ℕ) → Going p s at i → i + n ≤ length s → list_all p (take n (drop i s)) ≡ true → Going p s at (i + n)
  block at i zero g h e = rw add-zero g
  block at i (suc n) g h e =
      let xs = drop i s in
      let m : list_all p (take (n + 1) xs) ≡ (list_all p (take n xs) && p (get_or xs n 0)) = list_all_more p xs n 0 (omega (arith, length-drop i s)) in
      let f : (list_all p (take n xs) && p (get_or xs n 0)) ≡ true = sym m ∙ rw add-one e in
      let b : p (byte s (i + n)) ≡ true = ap p (sym (get_or-drop i s n 0)) ∙ both_right (list_all p (take n xs)) (p (get_or xs n 0)) f in
      rw (add-suc, ← add-one) (more at (i + n) (block at i n g (omega arith) (both_left _ _ f)) (omega arith) b)

  -- what is left of s behind a block at its head
  pub tail-going : (at n : ℕ) (rest front tail : List ℕ) → length rest ≤ length s → length tail + n ≡ length rest → rest ≡ drop (length s - length rest) s → front ≡ take n rest
      → Going p s at (length s - length rest) → list_all p front ≡ true → Going p s at (length s - length tail)
  tail-going at n rest front tail short l is f g e =
      let b : length s - length tail ≡ length s - length rest + n = omega arith in
      rw b (block at (length s - length rest) n g (omega arith) (ap (λ (xs : List ℕ). list_all p (take n xs)) (sym is) ∙ ap (list_all p) (sym f) ∙ e))

pub tail-is : (s : List ℕ) (n : ℕ) (rest tail : List ℕ) → length rest ≤ length s → length tail + n ≡ length rest → rest ≡ drop (length s - length rest) s → tail ≡ drop n rest
    → tail ≡ drop (length s - length tail) s
tail-is s n rest tail short l is t =
    let b : length s - length tail ≡ length s - length rest + n = omega arith in
    rw b (t ∙ ap (drop n) is ∙ drop-drop n (length s - length rest) s)
