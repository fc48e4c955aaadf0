-- Tail sets: the code's words and the rules' sets. Assumes nothing.
use mathlib.Core.Path.{◌≡◌, refl, sym, ap, ◌∙◌}
use mathlib.Core.Logic.{◌⊎◌, inl, inr}
use Prim.Native.Nat.{ℕ, ◌+◌, ◌-◌, ◌*◌, ◌%◌, ◌^◌, ◌≤◌, ◌<◌}
use native.Mathlib.Nat.{mod-eq_of_lt}
use native.Mathlib.Omega.{arith}
use lib.Bits.{bit_and, and_self, and_zero_l}
use lib.Count.{ones, ones_in, ones_cat}
use lib.Pow.{pow-lt, pow_pos}
use borrow.Author.Tests.{lt-ltb, le-ltb, eq-eqb, ne_eqb}
use Rattle.rules.specs.Table.{kind_number}
use Rattle.rules.specs.Tails.{bit, has, without, subset, parent, sibling, local_call, module_kind}

pub shl-bit : (l : ℕ) → l < 64 → (1 * 2 ^ l) % 2 ^ 64 ≡ bit l
unfolding bit
shl-bit l h =
    let e : 1 * 2 ^ l ≡ 2 ^ l = omega arith in
    rw (lt-ltb l 64 h, e) (mod-eq_of_lt (pow-lt h))

pub high_bit : (l : ℕ) → 64 ≤ l → 0 ≡ bit l
unfolding bit
high_bit l h = rw (le-ltb l 64 h)

-- ---- "Parent: Throw if allowed, returning itself, else CatchAll returning nothing."

module _ (l u r : ℕ) (e : u ≡ bit l) where
  pub catches : bit_and r u ≡ 0 → (3 ≡ kind_number (local_call l parent r).kind) × (0 ≡ (local_call l parent r).tail)
  unfolding local_call has
  catches z = let h : bit_and r (bit l) ≡ 0 = ap (bit_and r) (sym e) ∙ z in rw (eq-eqb _ _ h) (refl, refl)

  pub throws : (bit_and r u ≡ 0 → ⊥) → (1 ≡ kind_number (local_call l parent r).kind) × (u ≡ (local_call l parent r).tail)
  unfolding local_call has
  throws z = rw (ne_eqb _ _ (λ h. z (ap (bit_and r) e ∙ h))) (refl, e)

-- ---- "Sibling: its set less itself; if allowed, CatchOne when it held itself, else Inline, returning that set; otherwise CatchAll, returning nothing."

module _ (l u s r : ℕ) (e : u ≡ bit l) where
  same_rest : s - bit_and s u ≡ without l s
  unfolding without
  same_rest = rw e

  pub sibling-in : bit_and (s - bit_and s u) r ≡ s - bit_and s u → bit_and s u ≡ 0
      → (0 ≡ kind_number (local_call l (sibling s) r).kind) × (s - bit_and s u ≡ (local_call l (sibling s) r).tail)
  unfolding local_call has subset
  sibling-in w z =
      let w' : bit_and (without l s) r ≡ without l s = rw same_rest at w in
      let z' : bit_and s (bit l) ≡ 0 = rw e at z in
      rw (eq-eqb _ _ w', eq-eqb _ _ z') (refl, same_rest)

  pub sibling-own : bit_and (s - bit_and s u) r ≡ s - bit_and s u → (bit_and s u ≡ 0 → ⊥)
      → (2 ≡ kind_number (local_call l (sibling s) r).kind) × (s - bit_and s u ≡ (local_call l (sibling s) r).tail)
  unfolding local_call has subset
  sibling-own w z =
      let w' : bit_and (without l s) r ≡ without l s = rw same_rest at w in
      let z' : bit_and s (bit l) ≡ 0 → ⊥ = λ y. z (ap (bit_and s) e ∙ y) in
      rw (eq-eqb _ _ w', ne_eqb _ _ z') (refl, same_rest)

  pub sibling-out : (bit_and (s - bit_and s u) r ≡ s - bit_and s u → ⊥) → (3 ≡ kind_number (local_call l (sibling s) r).kind) × (0 ≡ (local_call l (sibling s) r).tail)
  unfolding local_call subset
  sibling-out w =
      let w' : bit_and (without l s) r ≡ without l s → ⊥ = λ y. w (ap (λ (z : ℕ). bit_and z r) same_rest ∙ y ∙ sym same_rest) in
      rw (ne_eqb _ _ w') (refl, refl)

-- ---- "Module calls return nothing: CatchOne if self-returning, else Inline."

ones-pow : (l : ℕ) → ones (2 ^ l) ≡ 1
unfolding ones ones_in
ones-pow l =
    let e : 1 * 2 ^ l + 0 ≡ 2 ^ l = omega arith in
    ap ones (sym e) ∙ ones_cat l 1 0 (pow_pos l)

bit-pow : (l : ℕ) → l < 64 → bit l ≡ 2 ^ l
unfolding bit
bit-pow l h = rw (lt-ltb l 64 h)

-- a set that holds nothing is empty
pub outer-none : (s l : ℕ) → ones s ≡ 0 → (s ≡ 0) ⊎ (s ≡ bit l) → l < 64 → 0 ≡ kind_number (module_kind l (sibling s))
unfolding module_kind has
outer-none s l h (inl e) k = rw (eq-eqb (bit_and s (bit l)) 0 (ap (λ (x : ℕ). bit_and x (bit l)) e ∙ and_zero_l (bit l)))
outer-none s l h (inr e) k = absurd (omega (arith, h, ap ones (e ∙ bit-pow l k) ∙ ones-pow l))

-- and one that holds something holds the definition itself
pub outer-own : (s l : ℕ) → (ones s ≡ 0 → ⊥) → (s ≡ 0) ⊎ (s ≡ bit l) → l < 64 → 2 ≡ kind_number (module_kind l (sibling s))
unfolding module_kind has ones ones_in
outer-own s l h (inl e) k = absurd (h (ap ones e))
outer-own s l h (inr e) k =
    rw (ne_eqb (bit_and s (bit l)) 0 (λ z. omega (arith, pow_pos l, sym (and_self (bit l) ∙ bit-pow l k), ap (λ (x : ℕ). bit_and x (bit l)) (sym e) ∙ z)))
