-- "The first number only bounds the depth of the recursion: three for each byte that is left, and three more, are enough, and what is found does not depend
-- on it." Assumes nothing.
use mathlib.Core.Path.{◌≡◌, refl, ap, ◌∙◌}
use mathlib.Core.List.{List, []}
use Prim.Native.Nat.{ℕ, zero, suc, ◌+◌, ◌-◌, ◌*◌, ◌≤◌, ◌<◌}
use native.Mathlib.Omega.{arith}
use lib.ListN.{length}
use lib.Dec.{eqb}
use borrow.Author.Tests.{eqb-false}
use Rattle.lexer.specs.Scan.{byte, past}
use Rattle.lexer.specs.Space.{space}
use Rattle.lexer.specs.Kind.{kind}
use Rattle.lexer.specs.Read.{Read, after, and_then, enclose}
use Rattle.lexer.specs.Lex.{close, text_byte, text, tokens, token, block, str, parts, escape}
use Rattle.lexer.proofs.Facts.Cases.{alike}
use Rattle.lexer.proofs.Facts.Onward.{Onward, byte-is, past-on, space-on}
use Rattle.lexer.proofs.Facts.Sound.{Sound, reads, stops, kind-in, token-sound, escape-sound}

then-go : {q : Read} (s : List ℕ) (at low : ℕ) (f g : ℕ → Read) → Sound s at low q → ((b : ℕ) → Onward s low b → f b ≡ g b) → and_then q f ≡ and_then q g
unfolding and_then
then-go s at low f g (reads {b} {ts} {es} r) h = ap (after ts es) (h b r.on)
then-go s at low f g (stops o) h = refl

-- the same was read, and the same is read from where it ends
pub then_same : (q q' : Read) (s : List ℕ) (at low : ℕ) (f g : ℕ → Read) → q ≡ q' → Sound s at low q → ((b : ℕ) → Onward s low b → f b ≡ g b)
    → and_then q f ≡ and_then q' g
then_same q q' s at low f g e z h = then-go s at low f g z h ∙ ap (λ r. and_then r g) e

mutual
  unfolding tokens

  pub tokens-fuel : (k l : ℕ) (s : List ℕ) (n at : ℕ) → at ≤ length s → 3 * (length s - at) < k → 3 * (length s - at) < l → tokens k s n at ≡ tokens l s n at
  tokens-fuel zero l s n at h p q = absurd (omega arith)
  tokens-fuel (suc k) zero s n at h p q = absurd (omega arith)
  tokens-fuel (suc k) (suc l) s n at h p q =
      let o = space-on s at h in
      let a = space s at in
      alike ◌≡◌ (eqb (kind (byte s a)) 0) _ _ _ _ (λ e. refl)
      (λ e. let g : a < length s = kind-in s a (eqb-false _ _ e) in
      then_same _ _ s a (a + 1) _ _ (token-fuel k l s n a g (omega (arith, o.low)) (omega (arith, o.low))) (token-sound k s n a g)
      (λ b z. tokens-fuel k l s n b z.high (omega (arith, o.low, z.low)) (omega (arith, o.low, z.low))))

  pub token-fuel : (k l : ℕ) (s : List ℕ) (n at : ℕ) → at < length s → 3 * (length s - at) ≤ k → 3 * (length s - at) ≤ l → token k s n at ≡ token l s n at
  token-fuel zero l s n at h p q = absurd (omega arith)
  token-fuel (suc k) zero s n at h p q = absurd (omega arith)
  token-fuel (suc k) (suc l) s n at h p q =
      alike ◌≡◌ (eqb (kind (byte s at)) 0x06) _ _ _ _ (λ e. str-fuel k l s n at h (omega arith) (omega arith))
      (λ e. alike ◌≡◌ (eqb (kind (byte s at)) 0x07) _ _ _ _ (λ f. block-fuel k l s n at h (omega arith) (omega arith)) (λ f. refl))

  pub block-fuel : (k l : ℕ) (s : List ℕ) (n at : ℕ) → at < length s → 3 * (length s - at) ≤ k + 1 → 3 * (length s - at) ≤ l + 1
      → block k s n at ≡ block l s n at
  block-fuel zero l s n at h p q = absurd (omega arith)
  block-fuel (suc k) zero s n at h p q = absurd (omega arith)
  block-fuel (suc k) (suc l) s n at h p q =
      alike ◌≡◌ (eqb n 0) _ _ _ _ (λ e. refl)
      (λ e. ap (λ r. enclose 0x07 at (and_then r (λ b. close (byte s at) s (space s b))))
      (tokens-fuel k l s (n - 1) (at + 1) (omega arith) (omega arith) (omega arith)))

  pub str-fuel : (k l : ℕ) (s : List ℕ) (n at : ℕ) → at < length s → 3 * (length s - at) ≤ k + 1 → 3 * (length s - at) ≤ l + 1 → str k s n at ≡ str l s n at
  str-fuel zero l s n at h p q = absurd (omega arith)
  str-fuel (suc k) zero s n at h p q = absurd (omega arith)
  str-fuel (suc k) (suc l) s n at h p q =
      alike ◌≡◌ (eqb n 0) _ _ _ _ (λ e. refl) (λ e. ap (enclose 0x06 at) (parts-fuel k l s (n - 1) (at + 1) (omega arith) (omega arith) (omega arith)))

  pub parts-fuel : (k l : ℕ) (s : List ℕ) (n at : ℕ) → at ≤ length s → 3 * (length s - at) < k → 3 * (length s - at) < l → parts k s n at ≡ parts l s n at
  parts-fuel zero l s n at h p q = absurd (omega arith)
  parts-fuel (suc k) zero s n at h p q = absurd (omega arith)
  parts-fuel (suc k) (suc l) s n at h p q =
      let o = past-on text_byte s at h in
      let a = past text_byte s at in
      ap (after (text at a) [])
      (alike ◌≡◌ (eqb (byte s a) 0x5C) _ _ _ _
      (λ f. let g : a < length s = byte-is s a 0x5C (omega arith) f in
      then_same _ _ s (a + 1) (a + 1) _ _
      (escape-fuel k l s n (a + 1) (omega arith) (omega (arith, o.low)) (omega (arith, o.low)))
      (escape-sound k s n (a + 1) (omega arith))
      (λ b z. parts-fuel k l s n b z.high (omega (arith, o.low, z.low)) (omega (arith, o.low, z.low))))
      (λ f. refl))

  pub escape-fuel : (k l : ℕ) (s : List ℕ) (n at : ℕ) → at ≤ length s → 3 * (length s - at) < k → 3 * (length s - at) < l → escape k s n at ≡ escape l s n at
  escape-fuel zero l s n at h p q = absurd (omega arith)
  escape-fuel (suc k) zero s n at h p q = absurd (omega arith)
  escape-fuel (suc k) (suc l) s n at h p q =
      alike ◌≡◌ (eqb (byte s at) 0x28) _ _ _ _
      (λ e. block-fuel k l s n at (byte-is s at 0x28 (omega arith) e) (omega arith) (omega arith))
      (λ e. refl)
