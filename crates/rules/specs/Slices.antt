-- Where records stand in a table. Assumes nothing.
use Rattle.std.specs.Prelude.{◌≡◌, refl, List, [], ◌∷◌, ◌++◌, ℕ, zero, suc, ◌+◌, ◌<◌, length}
use Rattle.std.proofs.Common.{subst, arith}
use Rattle.std.proofs.Math.Option.{some, none-ne-some}
use Rattle.std.proofs.Math.ListN.{get_elem?}
use Rattle.rules.specs.Table.{Rec}

abbrev pub Table : Type 0
Table = List Rec

-- the records stand in the table from the number n on
abbrev pub Slice : Table → ℕ → List Rec → Type 0
Slice T n [] = Unit {0}
Slice T n (r ∷ rs) = (get_elem? T n ≡ some r) × Slice T (suc n) rs

pub slice-left : (T : Table) (n : ℕ) (xs ys : List Rec) → Slice T n (xs ++ ys) → Slice T n xs
slice-left T n [] ys h = tt
slice-left T n (x ∷ xs) ys h = (h.0, slice-left T (suc n) xs ys h.1)

pub slice-right : (T : Table) (n : ℕ) (xs ys : List Rec) → Slice T n (xs ++ ys) → Slice T (n + length xs) ys
slice-right T n [] ys h = let q : n ≡ n + 0 = omega arith in subst (λ (k : ℕ). Slice T k ys) q h
slice-right T n (x ∷ xs) ys h =
    let q : suc n + length xs ≡ n + suc (length xs) = omega arith in
    subst (λ (k : ℕ). Slice T k ys) q (slice-right T (suc n) xs ys h.1)

-- a table behind other records
slice-behind : (T : Table) (r : Rec) (n : ℕ) (xs : List Rec) → Slice T n xs → Slice (r ∷ T) (suc n) xs
slice-behind T r n [] h = tt
slice-behind T r n (x ∷ xs) h = (h.0, slice-behind T r (suc n) xs h.1)

-- a table stands in itself
pub slice-self : (T : Table) → Slice T 0 T
slice-self [] = tt
slice-self (r ∷ T) = (refl, slice-behind T r 0 T (slice-self T))

-- what stands in the table has a number below the count
pub stands-below : (T : Table) (n : ℕ) (r : Rec) → get_elem? T n ≡ some r → n < length T
stands-below [] n r h = absurd (none-ne-some r h)
stands-below (x ∷ T) zero r h = omega arith
stands-below (x ∷ T) (suc n) r h = omega (arith, stands-below T n r h)
