-- Numbers: the returns of `num`. Assumes nothing.
use mathlib.Core.Path.{◌≡◌, refl, sym, ap, ◌∙◌}
use mathlib.Core.Bool.{true}
use mathlib.Core.List.{List, [], ◌∷◌}
use mathlib.Core.Logic.{◌⊎◌, inl, inr}
use Prim.Native.Nat.{ℕ, ◌+◌, ◌≤◌}
use native.Mathlib.Omega.{arith}
use lib.ListN.{length}
use Rattle.lexer.specs.Token.{Expect}
use Rattle.lexer.specs.Scan.{byte, past, one_of, optional, scan}
use Rattle.lexer.specs.Word.{digit}
use Rattle.lexer.specs.Num.{digits1, fraction, exponent, num}
use Rattle.lexer.specs.Meets.{Byte, Reaches, Erred, Scans}
use Rattle.lexer.specs.declared.put.Room.{Room}
use Rattle.lexer.proofs.Puts.{put_then}
use Rattle.lexer.proofs.Appends.{errors-append}
use Rattle.lexer.proofs.Scans.{hit, miss, clean, there, missed, from}

an-e : (b : ℕ) → (b ≡ 0x45) ⊎ (b ≡ 0x65) → one_of (0x65 ∷ 0x45 ∷ []) b ≡ true
an-e b (inl e) = rw e
an-e b (inr e) = rw e

module _ (s : List ℕ) (at : ℕ) (e : Room) where
  pub digits-missed : (a : ℕ) (e' : Room) → Reaches (past digit s at) s at a → a ≡ at → Erred Expect.digit at e e' → Scans (digits1 s at) s at 10 e e' a
  unfolding digits1
  digits-missed a e' h i g = missed s at e Expect.digit (past digit s at) a e' h.is (sym h.is ∙ i) (omega (arith, h.high)) g

  pub digits-there : (a : ℕ) → Reaches (past digit s at) s at a → (a ≡ at → ⊥) → Scans (digits1 s at) s at 10 e e a
  unfolding digits1
  digits-there a h n = there s at e Expect.digit (past digit s at) a h.is (omega (arith, h.low)) h.high

  here : at ≤ length s → Scans (scan at) s at 0 e e at
  here h = clean s at e at at 0 (record { is = refl; low = omega arith; high = h })

  pub fraction-there : (b r : ℕ) (e' : Room) → Byte s at b → b ≡ 0x2E → Scans (digits1 s (at + 1)) s (at + 1) 10 e e' r → Scans (fraction s at) s at 0 e e' r
  unfolding fraction
  fraction-there b r e' g h q = rw (hit s at b 0x2E g h) (from s at e (digits1 s (at + 1)) (at + 1) 10 0 e' r q (omega arith) (omega arith))

  pub fraction-none : (b : ℕ) → Byte s at b → (b ≡ 0x2E → ⊥) → at ≤ length s → Scans (fraction s at) s at 0 e e at
  unfolding fraction
  fraction-none b g n h = rw (miss s at b 0x2E g n) (here h)

  pub exponent-there : (b g r : ℕ) (e' : Room) → Byte s at b → (b ≡ 0x45) ⊎ (b ≡ 0x65) → Reaches (optional (0x2B ∷ 0x2D ∷ []) s (at + 1)) s (at + 1) g
      → Scans (digits1 s g) s g 10 e e' r → Scans (exponent s at) s at 0 e e' r
  unfolding exponent
  exponent-there b g r e' i j o q =
      let m : one_of (0x65 ∷ 0x45 ∷ []) (byte s at) ≡ true = ap (λ (n : ℕ). one_of (0x65 ∷ 0x45 ∷ []) n) (sym i.is) ∙ an-e b j in
      rw (m, ← o.is) (from s at e (digits1 s g) g 10 0 e' r q (omega (arith, o.low)) (omega (arith, o.low)))

  pub exponent-none : (b : ℕ) → Byte s at b → ((b ≡ 0x45) ⊎ (b ≡ 0x65) → ⊥) → at ≤ length s → Scans (exponent s at) s at 0 e e at
  unfolding exponent
  exponent-none b g n h = rw (miss s at b 0x65 g (λ k. n (inr k)), miss s at b 0x45 g (λ k. n (inl k))) (here h)

-- a fraction, and then an exponent
pub number_is : (s : List ℕ) (at a f r : ℕ) (e e₁ e₂ : Room) → Reaches (past digit s at) s at a → Scans (fraction s a) s a 0 e e₁ f
    → Scans (exponent s f) s f 0 e₁ e₂ r → Scans (num s at) s at 0 e e₂ r
unfolding num
number_is s at a f r e e₁ e₂ h p q = rw (← h.is, ← p.is) (record {
  is = q.is;
  put = rw errors-append (put_then e e₁ e₂ _ _ p.put q.put);
  low = omega (arith, h.low, p.low, q.low);
  high = q.high;
  paid = omega (arith, h.low, p.paid, q.paid);
})
