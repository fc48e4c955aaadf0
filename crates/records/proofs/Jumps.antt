-- How a definition is called, by the kind of its row. Assumes nothing.
use Prim.Native.Nat.{ℕ, zero, suc, ◌*◌, ◌^◌, ◌<◌}
use native.Mathlib.Omega.{arith}
use mathlib.Core.Path.{◌≡◌, refl, sym, ◌∙◌}
use mathlib.Core.Logic.{◌⊎◌, inl, inr}
use mathlib.Core.Bool.{Bool, true, false, cond}
use lib.Bits.{bit_and, and_zero_r}
use lib.Dec.{ltb}
use borrow.Author.Tests.{eqb-true, ltb-true, ne_eqb}
use Rattle.rules.specs.Table.{kind_number}
use Rattle.rules.specs.Tails.{bit, subset, sibling, parent, local_call, module_kind}
use Rattle.rules.specs.Sets.{digit, digit-small, and-bit, has-empty}
use Rattle.records.specs.Calls.{jump_of}

-- what returns at most itself returns nothing, or itself
at_most : (s l : ℕ) → subset s (bit l) ≡ true → (s ≡ 0) ⊎ ((s ≡ bit l) × (l < 64))
unfolding subset bit
at_most s l h = go (ltb l 64) refl (eqb-true (bit_and s (bit l)) s h)
  where
    one : (k : ℕ) → ltb l 64 ≡ true → k < 2 → k * 2 ^ l ≡ s → (s ≡ 0) ⊎ ((s ≡ cond (ltb l 64) (2 ^ l) 0) × (l < 64))
    one zero t a f = inl (sym f ∙ omega arith)
    one (suc zero) t a f = inr (rw t (sym f ∙ omega arith), ltb-true l 64 t)
    one (suc (suc k)) t a f = absurd (omega arith)

    go : (b : Bool) → ltb l 64 ≡ b → bit_and s (cond b (2 ^ l) 0) ≡ s → (s ≡ 0) ⊎ ((s ≡ cond (ltb l 64) (2 ^ l) 0) × (l < 64))
    go true t e = one (digit s l) t (digit-small s l) (sym (and-bit s l) ∙ e)
    go false t e = inl (sym e ∙ and_zero_r s)

-- so that the rule's kind is the one by which it is called
module-of : (s l n : ℕ) → subset s (bit l) ≡ true → ((m : ℕ) → (s ≡ 0) ⊎ (s ≡ bit m) → m < 64 → n ≡ kind_number (module_kind m (sibling s))) → n ≡ kind_number (module_kind l (sibling s))
unfolding module_kind
module-of s l n h f = go (at_most s l h)
  where
    go : (s ≡ 0) ⊎ ((s ≡ bit l) × (l < 64)) → n ≡ kind_number (module_kind l (sibling s))
    go (inl e) = f 0 (inl e) (omega arith) ∙ rw (e, has-empty 0, has-empty l)
    go (inr e) = f l (inr e.0) e.1

pub as-parent : (kind l s al n t : ℕ) → kind ≡ 3 → (n ≡ kind_number (local_call l parent al).kind) × (t ≡ (local_call l parent al).tail)
    → (n ≡ kind_number (jump_of kind l s al).kind) × (t ≡ (jump_of kind l s al).tail)
unfolding jump_of
as-parent kind l s al n t k h = (simp k h.0, simp k h.1)

pub as-sibling : (kind l s al n t : ℕ) → kind ≡ 4 → (n ≡ kind_number (local_call l (sibling s) al).kind) × (t ≡ (local_call l (sibling s) al).tail)
    → (n ≡ kind_number (jump_of kind l s al).kind) × (t ≡ (jump_of kind l s al).tail)
unfolding jump_of
as-sibling kind l s al n t k h = (simp k h.0, simp k h.1)

pub as-outer : (kind l s al n t : ℕ) → (kind ≡ 3 → ⊥) → (kind ≡ 4 → ⊥) → subset s (bit l) ≡ true
    → ((m : ℕ) → (s ≡ 0) ⊎ (s ≡ bit m) → m < 64 → n ≡ kind_number (module_kind m (sibling s))) → t ≡ 0
    → (n ≡ kind_number (jump_of kind l s al).kind) × (t ≡ (jump_of kind l s al).tail)
unfolding jump_of
as-outer kind l s al n t h k o f z = (simp (ne_eqb kind 3 h, ne_eqb kind 4 k) (module-of s l n o f), simp (ne_eqb kind 3 h, ne_eqb kind 4 k) z)
