-- The contents of leaves, as the code reads them. Assumes nothing.
use Prim.Native.Nat.{ℕ, zero, suc, ◌+◌, ◌-◌, ◌≤◌, ◌<◌}
use native.Mathlib.Omega.{arith}
use mathlib.Core.Path.{◌≡◌, refl, sym, ap, ◌∙◌}
use mathlib.Core.List.{List, [], ◌∷◌}
use mathlib.Core.Bool.{Bool, true, false, ◌&&◌}
use lib.Dec.{eqb, T, eqb-suc-suc}
use lib.ListN.{length, get_or, take, drop, drop_of_length-le}
use borrow.Author.Tests.{eq-eqb, ne_eqb, eqb-true, eqb-false}
use Rattle.std.specs.Int.{w32, from_le_bytes}
use Rattle.std.specs.List.{starts_with}
use lib.Seq.{take_all}
use Rattle.std.proofs.lemmas.List.{drop_more, length-drop}
use Rattle.fields.specs.Number.{value}
use Rattle.text.specs.Utf8.{is_scalar}
use Rattle.text.specs.Valid.{valid_prefix, passing}
use Rattle.text.proofs.Longest.{prefix-cons}
use Rattle.tree.specs.Every.{parts}
use Rattle.tree.specs.Tree.{operator_of}
use Rattle.tree.proofs.Rows.{same, same-eq}
use Rattle.tree.specs.Leaf.{leaf_ok, text, dollar, both, is_operator}

-- the bytes from p to e
abbrev pub part : List ℕ → ℕ → ℕ → List ℕ
part b p e = take (e - p) (drop p b)

-- ---- texts

text-ascii : (x : ℕ) (xs : List ℕ) → x < 128 → text xs ≡ text (x ∷ xs)
unfolding text
text-ascii x xs h = sym (ap (λ (n : ℕ). eqb n (suc (length xs))) (prefix-cons x xs h) ∙ eqb-suc-suc (valid_prefix xs) (length xs))

-- ASCII at the front may be passed over
pub text-next : (x : List ℕ) (i : ℕ) → i < length x → get_or x i 0 < 128 → text x ≡ text (drop i x) → text x ≡ text (drop (i + 1) x)
text-next x i h k e = e ∙ ap text (drop_more x i 0 h) ∙ sym (text-ascii (get_or x i 0) (drop (i + 1) x) k)

pub text-rest : (x : List ℕ) (i : ℕ) → text x ≡ text (drop i x) → text (take (length x - i) (drop i x)) ≡ text x
text-rest x i e = ap text (take_all (length x - i) (drop i x) (omega (arith, length-drop i x))) ∙ sym e

pub text-done : (x : List ℕ) (i : ℕ) → length x ≤ i → text x ≡ text (drop i x) → true ≡ text x
unfolding text valid_prefix passing
text-done x i h e = sym (e ∙ ap text (drop_of_length-le x h))

pub text-whole : (x : List ℕ) (n : ℕ) → n ≡ valid_prefix x → eqb n (length x) ≡ text x
unfolding text
text-whole x n q = ap (λ (j : ℕ). eqb j (length x)) q

-- ---- each kind of leaf

pub leaf-text : (x : List ℕ) → text x ≡ leaf_ok 201 x
unfolding leaf_ok
leaf-text x = refl

pub leaf-dollar : (x : List ℕ) → both (dollar x) (text x) ≡ leaf_ok 202 x
unfolding leaf_ok
leaf-dollar x = refl

pub leaf-two : (x : List ℕ) → eqb (length x) 2 ≡ leaf_ok 203 x
unfolding leaf_ok
leaf-two x = refl

pub leaf-operator : (x : List ℕ) → both (eqb (length x) 1) (is_operator (get_or x 0 0)) ≡ leaf_ok 204 x
unfolding leaf_ok
leaf-operator x = refl

pub leaf-scalar : (x : List ℕ) → both (eqb (length x) 4) (is_scalar (value x)) ≡ leaf_ok 205 x
unfolding leaf_ok
leaf-scalar x = refl

pub leaf-unknown : (x : List ℕ) → false ≡ leaf_ok 255 x
unfolding leaf_ok
leaf-unknown x = refl

-- a text that starts with `$`, whose code is 36
dollar-first : (y : ℕ) (ys : List ℕ) → (x : Bool) → eqb 36 y ≡ x → starts_with eqb (y ∷ ys) (36 ∷ []) ≡ dollar (y ∷ ys)
dollar-first y ys true e = simp (e, eq-eqb y 36 (sym (eqb-true 36 y e))) refl
dollar-first y ys false e = simp (e, ne_eqb y 36 (λ q. eqb-false 36 y e (sym q))) refl

pub starts-dollar : (x : List ℕ) → starts_with eqb x (36 ∷ []) ≡ dollar x
starts-dollar [] = refl
starts-dollar (y ∷ ys) = dollar-first y ys (eqb 36 y) refl

pub both-no : (x y : Bool) → x ≡ false → false ≡ both x y
both-no x y e = sym (ap (λ (z : Bool). both z y) e)

pub both_yes : (x y : Bool) → x ≡ true → y ≡ both x y
both_yes x y e = sym (ap (λ (z : Bool). both z y) e)

-- ---- operators

-- r is the answer at n bytes from lo on
here-or-later : (r : Bool) (lo k : ℕ) → r ≡ is_operator lo → ((lo ≡ k → ⊥) → r ≡ is_operator k) → (x : Bool) → eqb lo k ≡ x → r ≡ is_operator k
here-or-later r lo k h f true e = h ∙ ap is_operator (eqb-true lo k e)
here-or-later r lo k h f false e = f (eqb-false lo k e)

answers : Bool → ℕ → ℕ → Bool
answers r lo zero = true
answers r lo (suc n) = same r (is_operator lo) && answers r (suc lo) n

op-run : (r : Bool) (lo n k : ℕ) → T (answers r lo n) → lo ≤ k → k < lo + n → r ≡ is_operator k
unfolding answers
op-run r lo zero k t h l = absurd (omega arith)
op-run r lo (suc n) k t h l =
    let w = parts (same r (is_operator lo)) (answers r (suc lo) n) t in
    here-or-later r lo k (same-eq r (is_operator lo) w.0) (λ d. op-run r (suc lo) n k w.1 (omega arith) (omega arith)) (eqb lo k) refl

-- the runs that the code tells apart
pub op-none : (k : ℕ) → k < 1 → false ≡ is_operator k
unfolding answers same is_operator operator_of
op-none k h = op-run false 0 1 k tt (omega arith) h

pub op-low : (k : ℕ) → 1 ≤ k → k ≤ 7 → true ≡ is_operator k
unfolding answers same is_operator operator_of
op-low k h l = op-run true 1 7 k tt h (omega arith)

pub op-no_low : (k : ℕ) → 7 < k → k < 0x10 → false ≡ is_operator k
unfolding answers same is_operator operator_of
op-no_low k h l = op-run false 8 8 k tt h l

pub op-math : (k : ℕ) → 0x10 ≤ k → k ≤ 0x14 → true ≡ is_operator k
unfolding answers same is_operator operator_of
op-math k h l = op-run true 0x10 5 k tt h (omega arith)

pub op-no_math : (k : ℕ) → 0x14 < k → k < 0x20 → false ≡ is_operator k
unfolding answers same is_operator operator_of
op-no_math k h l = op-run false 0x15 11 k tt h l

pub op-cmp : (k : ℕ) → 0x20 ≤ k → k ≤ 0x25 → true ≡ is_operator k
unfolding answers same is_operator operator_of
op-cmp k h l = op-run true 0x20 6 k tt h (omega arith)

pub op-no_cmp : (k : ℕ) → 0x25 < k → k < 0x30 → false ≡ is_operator k
unfolding answers same is_operator operator_of
op-no_cmp k h l = op-run false 0x26 10 k tt h l

pub op-update : (k : ℕ) → 0x30 ≤ k → k ≤ 0x34 → true ≡ is_operator k
unfolding answers same is_operator operator_of
op-update k h l = op-run true 0x30 5 k tt h (omega arith)

pub op-no_update : (k : ℕ) → 0x34 < k → k < 256 → false ≡ is_operator k
unfolding answers same is_operator operator_of
op-no_update k h l = op-run false 0x35 203 k tt h (omega arith)

pub ruleset operator_runs = (op-none, op-low, op-no_low, op-math, op-no_math, op-cmp, op-no_cmp, op-update, op-no_update)

-- ---- four bytes

pub four-value : (x : List ℕ) → length x ≡ 4 → from_le_bytes w32 (get_or x 0 0 ∷ get_or x 1 0 ∷ get_or x 2 0 ∷ get_or x 3 0 ∷ []) ≡ value x
unfolding value
four-value [] h = absurd (omega arith)
four-value (a ∷ []) h = absurd (omega arith)
four-value (a ∷ b ∷ []) h = absurd (omega arith)
four-value (a ∷ b ∷ c ∷ []) h = absurd (omega arith)
four-value (a ∷ b ∷ c ∷ d ∷ []) h = omega arith
four-value (a ∷ b ∷ c ∷ d ∷ e ∷ xs) h = absurd (omega arith)
