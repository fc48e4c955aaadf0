-- Where an own record goes: the ways that the code takes. Assumes nothing.
use mathlib.Core.Path.{◌≡◌, refl, sym, ap, ap₂, subst, ◌∙◌}
use mathlib.Core.Bool.{Bool, true, false, cond}
use Prim.Native.Nat.{ℕ, ◌+◌, ◌<◌, ◌^◌}
use lib.Dec.{eqb}
use borrow.Author.Tests.{eq-eqb, ne_eqb}
use Rattle.std.specs.Prelude.{Option, Some, None}
use Rattle.std.specs.Option.{unwrap_or}
use Rattle.puts.specs.declared.state.State.{State}
use Rattle.puts.specs.State.{off, with_off, late, start_of, start_at, spot_at, next_at, at_of}

module _ (st : State) (o : Option ℕ) (w at : ℕ) (d : at ≡ unwrap_or o late) where
  least : at ≡ at_of o
  least = d ∙ go o
    where
      go : (o : Option ℕ) → unwrap_or o late ≡ at_of o
      go (Some o) = refl
      go None = refl

  pub reserved : at ≡ off st → with_off st (at + w) ≡ with_off st (start_at o (off st) w)
  unfolding start_at start_of
  reserved e = rw least (rw (eq-eqb (at_of o) (off st) (sym least ∙ e)))

  pub untouched : (at ≡ off st → ⊥) → st ≡ with_off st (start_at o (off st) w)
  unfolding start_at start_of
  untouched e = rw (ne_eqb (at_of o) (off st) (λ h. e (least ∙ h)))

pub placed-late : (st : State) (w : ℕ) → (off st ≡ spot_at None (off st)) × (with_off st (off st + w) ≡ with_off st (next_at None (off st) w))
unfolding spot_at next_at
placed-late st w = (refl, refl)

pub placed : (st : State) (o w : ℕ) → (o ≡ spot_at (Some o) (off st)) × (st ≡ with_off st (next_at (Some o) (off st) w))
unfolding spot_at next_at
placed st o w = (refl, refl)

-- what is reserved is the next offset
pub start-within : (st : State) (o : Option ℕ) (w : ℕ) (st₁ : State) → at_of o + w + w < 2 ^ 64 → off st + w < 2 ^ 64 → st₁ ≡ with_off st (start_at o (off st) w) → off st₁ + w < 2 ^ 64
unfolding start_at start_of
start-within st o w st₁ h k e = subst (λ (x : ℕ). x + w < 2 ^ 64) (sym (ap off e)) (go (eqb (at_of o) (off st)))
  where
    go : (t : Bool) → cond t (at_of o + w) (off st) + w < 2 ^ 64
    go true = h
    go false = k

pub both : (st : State) (o : Option ℕ) (w : ℕ) (st₁ st₂ : State) (r : ℕ) → st₁ ≡ with_off st (start_at o (off st) w) → r ≡ spot_at o (off st₁) → st₂ ≡ with_off st₁ (next_at o (off st₁) w)
    → (r ≡ spot_at o (start_at o (off st) w)) × (st₂ ≡ with_off st (next_at o (start_at o (off st) w) w))
both st o w st₁ st₂ r e f g =
    let i : off st₁ ≡ start_at o (off st) w = ap off e in
    (f ∙ ap (spot_at o) i, g ∙ ap₂ (λ (l : State) (x : ℕ). with_off l (next_at o x w)) e i)
