-- Fields that obey the table are those of a tree. Assumes nothing.
use Rattle.std.specs.Prelude.{ℕ, ◌<◌, ◌≤◌, ◌≡◌, refl, List, [], ◌∷◌, Bool, true, false, cond, not, eqb, ltb, leb, T, get_or}
use Rattle.std.proofs.Common.{sym, ap, subst, ◌∙◌, eqb→eq, ltb→lt, nltb→le}
use Rattle.std.proofs.Math.ListN.{get_or-eq_default}
use Rattle.tree.specs.Every.{at}
use Rattle.tree.specs.Table.{classes, shapes, items}
use Rattle.tree.specs.Leaf.{class, shape, both}
use Rattle.tree.specs.Rose.{Rose, Roses, leaf, node, rnil, rcons}
use Rattle.tree.specs.Grammar.{end, decode, row_at, fit, Obey}
use Rattle.tree.specs.Tree.{Tree}
use Rattle.tree.specs.Form.{f_tree}
use Rattle.tree.proofs.Match.{Match, Step, match, mean, not-both}
use Rattle.tree.proofs.Meaning.{Meaning, member}
use Rattle.tree.proofs.Steps.{known, Steps, all-steps}

abbrev mem : ℕ → List ℕ → Bool
mem k [] = false
mem k (x ∷ xs) = cond (eqb k x) true (mem k xs)

is_true : (x : Bool) → x ≡ true → T x
is_true x e = subst (λ (y : Bool). T y) (sym e) tt

pick-step : (ks : List ℕ) → Steps ks → (k : ℕ) → mem k ks ≡ true → Step Meaning k
pick-step [] s k h = not-both false h refl
pick-step (x ∷ xs) s k h = go (pick-step xs s.1 k) (eqb k x) refl h
  where
    go : (mem k xs ≡ true → Step Meaning k) → (y : Bool) → eqb k x ≡ y → cond y true (mem k xs) ≡ true → Step Meaning k
    go rec true e h = subst (λ (j : ℕ). Step Meaning j) (sym (eqb→eq k x (is_true (eqb k x) e))) s.0
    go rec false e h = rec h

-- a byte that is no tag has class 31, and is a leaf that nothing can be
right : ℕ → ℕ → Bool
right k x = cond (mem k known) true (both (eqb (class k) 31) (eqb (shape k) 255))

all_right : (k : ℕ) → k < 256 → T (right k (get_or classes k 0))
unfolding class shape classes shapes right known
all_right k h = at right classes tt k h

none : (x y : ℕ) (a b : Bool) → eqb x 31 ≡ a → eqb y 255 ≡ b → T (both a b) → (x ≡ 31) × (y ≡ 255)
none x y true true e d t = (eqb→eq x 31 (is_true (eqb x 31) e), eqb→eq y 255 (is_true (eqb y 255) d))
none x y true false e d t = absurd t
none x y false b e d t = absurd t

past : (k : ℕ) → 256 ≤ k → (class k ≡ 31) × (shape k ≡ 255)
unfolding class shape classes shapes
past k h = (get_or-eq_default classes 31 {n = k} h, get_or-eq_default shapes 255 {n = k} h)

unknown : (k : ℕ) → mem k known ≡ false → (y : Bool) → ltb k 256 ≡ y → (class k ≡ 31) × (shape k ≡ 255)
unfolding right
unknown k h true e =
    none (class k) (shape k) (eqb (class k) 31) (eqb (shape k) 255) refl refl
    (subst (λ (x : Bool). T (cond x true (both (eqb (class k) 31) (eqb (shape k) 255)))) h (all_right k (ltb→lt k 256 (is_true (ltb k 256) e))))
unknown k h false e = past k (nltb→le k 256 (subst (λ (x : Bool). T (not x)) (sym e) tt))

unknown-step : (k : ℕ) → class k ≡ 31 → shape k ≡ 255 → Step Meaning k
unknown-step k e f =
    let u : (c : ℕ) → c ≡ 31 → (r : Rose) → Meaning c r = λ c q r. subst (λ (j : ℕ). Meaning j r) (sym q) tt in
    subst (λ (s : ℕ). cond (leb 200 s) ((p : ℕ) (x : List ℕ) → Meaning (class k) (leaf k p x)) ((p : ℕ) (rs : Roses) → Match Meaning (row_at s) rs → Meaning (class k) (node k p rs)))
    (sym f) (λ p x. u (class k) e (leaf k p x))

step_of : (k : ℕ) → Step Meaning k
step_of k = go (mem k known) refl
  where
    go : (y : Bool) → mem k known ≡ y → Step Meaning k
    go true h = pick-step known all-steps k h
    go false h = let w = unknown k h (ltb k 256) refl in unknown-step k w.0 w.1

-- the members of the bytes' own row
root-row : (rs : Roses) → Match Meaning (row_at 0) rs → (t : Tree) × (rs ≡ rcons (f_tree t) rnil)
unfolding items decode row_at
root-row rs m = let a = member f_tree (Match Meaning end) rs m in (a.0, sym (ap (rcons (f_tree a.0)) (sym a.3) ∙ a.2))

pub typed : (rs : Roses) → fit (row_at 0) rs ≡ true → Obey rs → (t : Tree) × (rs ≡ rcons (f_tree t) rnil)
typed rs h o = root-row rs (match Meaning (row_at 0) rs h (mean Meaning step_of rs o))
