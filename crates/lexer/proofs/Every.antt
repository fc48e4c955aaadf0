-- A class of bytes is shown by computing its test at each byte of a range. Assumes nothing.
use mathlib.Core.Path.{◌≡◌, refl, sym, subst}
use mathlib.Core.Bool.{Bool, true, false, ◌&&◌, beq}
use Prim.Native.Nat.{ℕ, zero, suc, ◌+◌, ◌≤◌, ◌<◌}
use native.Mathlib.Omega.{arith}
use lib.Dec.{eqb}
use borrow.Author.Tests.{eqb-true, eqb-false}

-- the test holds of n numbers from low on
unfoldable pub every : (ℕ → Bool) → ℕ → ℕ → Bool
every t low zero = true
every t low (suc n) = t low && every t (suc low) n

pub both_left : (a b : Bool) → a && b ≡ true → a ≡ true
both_left true b e = refl
both_left false b e = e

pub both_right : (a b : Bool) → a && b ≡ true → b ≡ true
both_right true b e = e
both_right false b e = absurd (go e)
  where
    go : false ≡ true → ⊥
    go e = let z : ◌≡◌ {A = ℕ} 0 1 = cc in omega arith

pub between : (t : ℕ → Bool) (low n : ℕ) → every t low n ≡ true → (b : ℕ) → low ≤ b → b < low + n → t b ≡ true
unfolding every
between t low zero e b h k = absurd (omega arith)
between t low (suc n) e b h k = here (eqb low b) refl (λ g. between t (suc low) n (both_right (t low) (every t (suc low) n) e) b g (omega arith))
  where
    here : (x : Bool) → eqb low b ≡ x → (suc low ≤ b → t b ≡ true) → t b ≡ true
    here true p f = subst (λ (c : ℕ). t c ≡ true) (eqb-true low b p) (both_left (t low) (every t (suc low) n) e)
    here false p f = f (omega (arith, eqb-false low b p))

same_true : (a b : Bool) → beq a b ≡ true → a ≡ b
same_true true true e = refl
same_true false false e = refl
same_true true false e = sym e
same_true false true e = e

-- two tests that agree at each of n numbers from low on
pub agree : (f g : ℕ → Bool) (low n : ℕ) → every (λ b. beq (f b) (g b)) low n ≡ true → (b : ℕ) → low ≤ b → b < low + n → f b ≡ g b
agree f g low n e b h k = same_true (f b) (g b) (between (λ c. beq (f c) (g c)) low n e b h k)

-- a number that is v at each of n numbers from low on
pub always : (v : ℕ) (f : ℕ → ℕ) (low n : ℕ) → every (λ b. eqb v (f b)) low n ≡ true → (b : ℕ) → low ≤ b → b < low + n → v ≡ f b
always v f low n e b h k = eqb-true v (f b) (between (λ c. eqb v (f c)) low n e b h k)

-- two numbers that agree at each of n numbers from low on
pub alike : (f g : ℕ → ℕ) (low n : ℕ) → every (λ b. eqb (f b) (g b)) low n ≡ true → (b : ℕ) → low ≤ b → b < low + n → f b ≡ g b
alike f g low n e b h k = eqb-true (f b) (g b) (between (λ c. eqb (f c) (g c)) low n e b h k)
