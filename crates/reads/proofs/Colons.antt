-- Where the first `::` of a text starts, from what is known of every place. Assumes nothing.
use mathlib.Core.Path.{◌≡◌, refl, sym, ap, subst, ◌∙◌}
use mathlib.Core.Bool.{Bool, true, false, cond, ◌&&◌}
use mathlib.Core.List.{List, [], ◌∷◌}
use Prim.Native.Nat.{ℕ, zero, suc, ◌+◌, ◌-◌, ◌≤◌, ◌<◌}
use native.Mathlib.Numerals.{add-one}
use native.Mathlib.Omega.{arith}
use lib.ListN.{length, get_or, get_or-eq_default}
use native.Mathlib.Decide.{dec_lt}
use lib.Dec.{eqb}
use borrow.Author.Tests.{eq-eqb, ne_eqb}
use Rattle.reads.specs.Bytes.{colons_of, colons_at}

-- a `::` starts at j
abbrev pub pair : List ℕ → ℕ → Bool
pair x j = eqb (get_or x j 0) 0x3A && eqb (get_or x (suc j) 0) 0x3A

first-none : (x : List ℕ) → ((j : ℕ) → j < length x → pair x j ≡ false) → colons_of x ≡ length x
unfolding colons_of
first-none [] f = refl
first-none (a ∷ x) f = rw (f 0 (omega arith)) (ap suc (first-none x (λ j l. f (suc j) (omega arith))))

first_found : (x : List ℕ) (k : ℕ) → k < length x → ((j : ℕ) → j < k → pair x j ≡ false) → pair x k ≡ true → colons_of x ≡ k
unfolding colons_of
first_found [] k l f e = absurd (omega arith)
first_found (a ∷ x) zero l f e = rw e
first_found (a ∷ x) (suc k) l f e = rw (f 0 (omega arith)) (ap suc (first_found x k (omega arith) (λ j l. f (suc j) (omega arith)) e))

-- no `::` starts before the place before i
abbrev pub Without : List ℕ → ℕ → Type 0
Without x i = (j : ℕ) → suc j < i → pair x j ≡ false

past_end : (x : List ℕ) (j : ℕ) → length x ≤ suc j → pair x j ≡ false
past_end x j l = rw (get_or-eq_default x 0 l) (none (eqb (get_or x j 0) 0x3A))
  where
    none : (t : Bool) → (t && false) ≡ false
    none true = refl
    none false = refl

-- what holds below m and at m holds below suc m
upto : (P : ℕ → Type 0) (m : ℕ) → ((j : ℕ) → j < m → P j) → P m → (j : ℕ) → j < suc m → P j
upto P m f h j l = elim (dec_lt j m) [ yes g ↦ f j g | no g ↦ subst P (least g) h ]
  where
    least : (j < m → ⊥) → m ≡ j
    least g = omega arith

pub without_all : (x : List ℕ) (i : ℕ) → Without x i → length x ≤ i → length x ≡ colons_of x
without_all x i w l = sym (first-none x (λ j h. elim (dec_lt (suc j) i) [ yes g ↦ w j g | no g ↦ past_end x j (late j g) ]))
  where
    late : (j : ℕ) → (suc j < i → ⊥) → length x ≤ suc j
    late j g = omega arith

-- ---- the bytes before, at and behind a place, and what they say of a `::` there

abbrev around : Bool → Bool → Bool → ℕ → ℕ → ℕ
around a b c m n = cond b (cond a m (cond c (suc m) n)) n

at_suc : (x : List ℕ) (m : ℕ) → colons_at x (suc m) ≡ around (eqb (get_or x m 0) 0x3A) (eqb (get_or x (suc m) 0) 0x3A) (eqb (get_or x (suc (suc m)) 0) 0x3A) m (length x)
unfolding colons_at
at_suc x m =
    let e : suc m - 1 ≡ m = omega arith in
    rw (e, add-one (suc m))

module _ (x : List ℕ) (m r : ℕ) (w : Without x (suc m)) where
  below : (j : ℕ) → j < m → pair x j ≡ false
  below j l = w j (omega arith)

  found : (a b c : Bool) → eqb (get_or x m 0) 0x3A ≡ a → eqb (get_or x (suc m) 0) 0x3A ≡ b → eqb (get_or x (suc (suc m)) 0) 0x3A ≡ c
      → r ≡ around a b c m (length x) → r < length x → r ≡ colons_of x
  found true true c ea eb ec e l = e ∙ sym (first_found x m (omega arith) below (rw (ea, eb)))
  found true false c ea eb ec e l = absurd (omega arith)
  found false true true ea eb ec e l = e ∙ sym (first_found x (suc m) (omega arith) (upto (λ (j : ℕ). pair x j ≡ false) m below (rw ea)) (rw (eb, ec)))
  found false true false ea eb ec e l = absurd (omega arith)
  found false false c ea eb ec e l = absurd (omega arith)

  and_no : (t : Bool) → (t && false) ≡ false
  and_no true = refl
  and_no false = refl

  on : (pair x m ≡ false) → (pair x (suc m) ≡ false) → Without x (suc m + 2)
  on p q j l = upto (λ (j : ℕ). pair x j ≡ false) (suc m) (upto (λ (j : ℕ). pair x j ≡ false) m below p) q j (omega arith)

  next : (a b c : Bool) → eqb (get_or x m 0) 0x3A ≡ a → eqb (get_or x (suc m) 0) 0x3A ≡ b → eqb (get_or x (suc (suc m)) 0) 0x3A ≡ c
      → suc m < length x → r ≡ around a b c m (length x) → length x ≤ r → Without x (suc m + 2)
  next true true c ea eb ec k e l = absurd (omega arith)
  next true false c ea eb ec k e l = on (rw eb (and_no (eqb (get_or x m 0) 0x3A))) (rw eb)
  next false true true ea eb ec k e l = absurd (omega arith)
  next false true false ea eb ec k e l = on (rw ea) (rw (eb, ec))
  next false false c ea eb ec k e l = on (rw ea) (rw eb)

pub colons-found : (x : List ℕ) (i r : ℕ) → 0 < i → Without x i → r ≡ colons_at x i → r < length x → r ≡ colons_of x
colons-found x zero r z w e l = absurd (omega arith)
colons-found x (suc m) r z w e l = found x m r w _ _ _ refl refl refl (e ∙ at_suc x m) l

pub colons-next : (x : List ℕ) (i r : ℕ) → 0 < i → Without x i → i < length x → r ≡ colons_at x i → length x ≤ r → Without x (i + 2)
colons-next x zero r z w k e l = absurd (omega arith)
colons-next x (suc m) r z w k e l = next x m r w _ _ _ refl refl refl k (e ∙ at_suc x m) l

-- ---- colons_at by what was tested

module _ (x : List ℕ) (i : ℕ) where
  pub at_other : (get_or x i 0 ≡ 0x3A → ⊥) → length x ≡ colons_at x i
  unfolding colons_at
  at_other n = rw (ne_eqb _ _ n)

  pub at_before : get_or x i 0 ≡ 0x3A → get_or x (i - 1) 0 ≡ 0x3A → i - 1 ≡ colons_at x i
  unfolding colons_at
  at_before e f = rw (eq-eqb _ _ e, eq-eqb _ _ f)

  pub at-behind : get_or x i 0 ≡ 0x3A → (get_or x (i - 1) 0 ≡ 0x3A → ⊥) → get_or x (i + 1) 0 ≡ 0x3A → i ≡ colons_at x i
  unfolding colons_at
  at-behind e n f = rw (eq-eqb _ _ e, ne_eqb _ _ n, eq-eqb _ _ f)

  pub at-alone : get_or x i 0 ≡ 0x3A → (get_or x (i - 1) 0 ≡ 0x3A → ⊥) → (get_or x (i + 1) 0 ≡ 0x3A → ⊥) → length x ≡ colons_at x i
  unfolding colons_at
  at-alone e n f = rw (eq-eqb _ _ e, ne_eqb _ _ n, ne_eqb _ _ f)

  pub at_last : get_or x i 0 ≡ 0x3A → (get_or x (i - 1) 0 ≡ 0x3A → ⊥) → length x ≤ i + 1 → length x ≡ colons_at x i
  at_last e n l = at-alone e n (λ f. zero-not (sym (get_or-eq_default x 0 l) ∙ f))
    where
      zero-not : ◌≡◌ {A = ℕ} 0 0x3A → ⊥
      zero-not e = omega arith
