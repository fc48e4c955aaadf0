-- The record of an operator, by its byte. Assumes nothing.
use Prim.Native.Nat.{ℕ, ◌-◌, ◌%◌, ◌≤◌, ◌<◌}
use native.Mathlib.Omega.{arith}
use mathlib.Core.Path.{◌≡◌, refl, sym, ap, ◌∙◌}
use mathlib.Core.Bool.{Bool, true, false, cond}
use mathlib.Core.List.{List, [], ◌∷◌, ◌++◌}
use lib.Dec.{eqb, ltb}
use borrow.Author.Tests.{eqb-true, eqb-false, ltb-true, ltb-false, le-ltb, ne_eqb}
use Rattle.fields.specs.Number.{number}
use Rattle.fields.specs.Field.{field}
use Rattle.tree.specs.Leaf.{listed, is_operator}
use Rattle.tree.specs.Tree.{Operator, o_comma, o_alt, o_or, o_and, o_assign, o_update, o_update_alt, o_math, o_update_math, o_cmp, o_none, operator_of, operator}
use Rattle.rules.specs.Listing.{flag, node_bytes}
use Rattle.rules.specs.Outs.{binary}
use Rattle.reads.specs.Widths.{op_width}
use Rattle.records.specs.Operators.{op_tag, op_choice}
use Rattle.records.proofs.Small.{op-math, op-cmp, op-update}

-- as the code puts it
abbrev op_bytes : ℕ → ℕ → ℕ → List ℕ
op_bytes x a b = cond (eqb (op_width x) 7) (field (op_tag x) (number 2 a ++ number 2 b)) (field (op_tag x) (number 2 a ++ (op_choice x ∷ number 2 b)))

Formed : ℕ → Operator → Type 0
Formed x o = listed o ≡ true → (a b : ℕ) → node_bytes 2 (binary o a b) ≡ op_bytes x a b

module _ (x : ℕ) (o o' : Operator) where
  on-byte : (k : ℕ) → (x ≡ k → Formed x o) → ((x ≡ k → ⊥) → Formed x o') → Formed x (cond (eqb x k) o o')
  on-byte k f g = go (eqb x k) refl
    where
      go : (t : Bool) → eqb x k ≡ t → Formed x (cond t o o')
      go true e = f (eqb-true x k e)
      go false e = g (eqb-false x k e)

  on_below : (k : ℕ) → (x < k → Formed x o) → (k ≤ x → Formed x o') → Formed x (cond (ltb x k) o o')
  on_below k f g = go (ltb x k) refl
    where
      go : (t : Bool) → ltb x k ≡ t → Formed x (cond t o o')
      go true e = f (ltb-true x k e)
      go false e = g (ltb-false x k e)

op-at : (x k : ℕ) (o : Operator) → Formed k o → x ≡ k → Formed x o
op-at x k o f h = rw h f

none-formed : (x : ℕ) → Formed x o_none
unfolding Formed
none-formed x h a b = absurd (omega (arith, ap flag h))

-- past 15 the operator's number stands between its sides
wide : (x n t a b : ℕ) → 16 ≤ x → t ≡ op_tag x → x % 16 ≡ n → field t (number 2 a ++ (n ∷ number 2 b)) ≡ op_bytes x a b
unfolding op_width op_choice
wide x n t a b h e f = rw (ne_eqb x 3 (λ g. omega arith), ne_eqb x 4 (λ g. omega arith), le-ltb x 16 h, e, f)

math-is : (x a b : ℕ) → 16 ≤ x → x < 0x15 → field 0x65 (number 2 a ++ ((x - 0x10) ∷ number 2 b)) ≡ op_bytes x a b
math-is x a b g l = wide x (x - 0x10) 0x65 a b g (op-math x (omega arith) g (omega arith)) (omega arith)

cmp-is : (x a b : ℕ) → 0x20 ≤ x → x < 0x26 → field 0x66 (number 2 a ++ ((x - 0x20) ∷ number 2 b)) ≡ op_bytes x a b
cmp-is x a b g l = wide x (x - 0x20) 0x66 a b (omega arith) (op-cmp x (omega arith) g (omega arith)) (omega arith)

update-is : (x a b : ℕ) → 0x30 ≤ x → x < 0x35 → field 0x62 (number 2 a ++ ((x - 0x30) ∷ number 2 b)) ≡ op_bytes x a b
update-is x a b g l = wide x (x - 0x30) 0x62 a b (omega arith) (op-update x (omega arith) g) (omega arith)

formed : (x : ℕ) → Formed x (operator_of x)
unfolding Formed operator_of op_width op_tag op_choice
formed x =
    on-byte x o_comma _ 1 (op-at x 1 o_comma (λ h a b. refl)) (λ n₁.
    on-byte x o_alt _ 2 (op-at x 2 o_alt (λ h a b. refl)) (λ n₂.
    on-byte x o_or _ 3 (op-at x 3 o_or (λ h a b. refl)) (λ n₃.
    on-byte x o_and _ 4 (op-at x 4 o_and (λ h a b. refl)) (λ n₄.
    on-byte x o_assign _ 5 (op-at x 5 o_assign (λ h a b. refl)) (λ n₅.
    on-byte x o_update _ 6 (op-at x 6 o_update (λ h a b. refl)) (λ n₆.
    on-byte x o_update_alt _ 7 (op-at x 7 o_update_alt (λ h a b. refl)) (λ n₇.
    on_below x o_none _ 0x10 (λ l. none-formed x) (λ g.
    on_below x (o_math (x - 0x10)) _ 0x15 (λ l h a b. math-is x a b g l) (λ g₁.
    on_below x o_none _ 0x20 (λ l. none-formed x) (λ g₂.
    on_below x (o_cmp (x - 0x20)) _ 0x26 (λ l h a b. cmp-is x a b g₂ l) (λ g₃.
    on_below x o_none _ 0x30 (λ l. none-formed x) (λ g₄.
    on_below x (o_update_math (x - 0x30)) o_none 0x35 (λ l h a b. update-is x a b g₄ l) (λ g₅. none-formed x)))))))))))))

pub op-two : (x w t a b : ℕ) → is_operator x ≡ true → w ≡ op_width x → w ≡ 7 → t ≡ op_tag x → field t (number 2 a ++ number 2 b) ≡ node_bytes 2 (binary (operator (x ∷ [])) a b)
unfolding is_operator Formed
op-two x w t a b h e f g = sym (formed x h a b ∙ rw (sym e ∙ f, ← g))

pub op-mid : (x w t c a b : ℕ) → is_operator x ≡ true → w ≡ op_width x → (w ≡ 7 → ⊥) → t ≡ op_tag x → c ≡ op_choice x → field t (number 2 a ++ (c ∷ number 2 b)) ≡ node_bytes 2 (binary (operator (x ∷ [])) a b)
unfolding is_operator Formed
op-mid x w t c a b h e f g i = sym (formed x h a b ∙ rw (ne_eqb (op_width x) 7 (λ k. f (e ∙ k)), ← g, ← i))
