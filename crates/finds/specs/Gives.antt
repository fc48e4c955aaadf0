-- A row or a place that may be none, by what is said of the number that is 0 for none. Assumes nothing.
use Rattle.std.specs.Prelude.{ℕ, ◌≡◌, Option, Some, None}
use Rattle.std.proofs.Common.{ap, subst, ◌∙◌}

abbrev pub or_zero : Option ℕ → ℕ
or_zero None = 0
or_zero (Some r) = r

pub record Gives (P : ℕ → Type 0) (o : Option ℕ) : Type 0 where
  pub is : P (or_zero o)
  pub real : o ≡ Some 0 → ⊥

-- where there is none, and where there is one
pub gives-none : (P : ℕ → Type 0) (o : Option ℕ) → Gives P o → o ≡ None → P 0
gives-none P None g e = g.is
gives-none P (Some r) g e = cc

pub gives-some : (P : ℕ → Type 0) (o : Option ℕ) (j : ℕ) → Gives P o → o ≡ Some j → P j × (j ≡ 0 → ⊥)
gives-some P o j g e = subst (λ (i : Option ℕ). P (or_zero i) × (j ≡ 0 → ⊥)) e (g.is, λ z. g.real (e ∙ ap Some z))

pub gave-none : (P : ℕ → Type 0) → P 0 → Gives P None
gave-none P h = record { is = h; real = λ e. cc }

pub gave-some : (P : ℕ → Type 0) (j : ℕ) → P j → (j ≡ 0 → ⊥) → Gives P (Some j)
gave-some P j h n = record { is = h; real = λ e. n (ap or_zero e) }
