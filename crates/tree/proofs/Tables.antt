-- The table, read at a byte: what its entries are, and how large. Assumes nothing.
use Prim.Native.Nat.{ℕ, zero, suc, ◌≤◌, ◌<◌}
use native.Mathlib.Omega.{arith}
use mathlib.Core.Path.{◌≡◌, refl, ap, subst, ◌∙◌}
use mathlib.Core.List.{List, [], ◌∷◌}
use mathlib.Core.Bool.{Bool, true, false, cond}
use lib.Dec.{eqb, ltb, T, ltb→lt, eqb→eq}
use lib.ListN.{length, get_or}
use borrow.Author.Tests.{lt-ltb, le-ltb}
use Rattle.tree.specs.Every.{at}
use Rattle.tree.specs.Table.{classes, shapes}
use Rattle.tree.specs.Leaf.{class, shape}
use Rattle.tree.specs.Shapes.{number_of, leaf_of, IsShape}
use Rattle.tree.specs.declared.table.Shape.TheVariants.{Row, Bytes}

-- inside a list no default is met
get_d_any : (l : List ℕ) (i d e : ℕ) → i < length l → get_or l i d ≡ get_or l i e
get_d_any [] i d e h = absurd (omega arith)
get_d_any (x ∷ xs) zero d e h = refl
get_d_any (x ∷ xs) (suc i) d e h = get_d_any xs i d e (omega arith)

some : ℕ → ℕ → Bool
some k x = ltb 0 x

pub class-at : (k : ℕ) → k < 256 → (get_or classes k 0 ≡ class k) × (0 < get_or classes k 0)
unfolding class classes some
class-at k h = (get_d_any classes k 0 31 h, ltb→lt 0 (get_or classes k 0) (at some classes tt k h))

-- a row starts within the items; what is no row is the number of a kind of leaf
known : ℕ → ℕ → Bool
known k x = cond (ltb x 200) (ltb x 106) (eqb (number_of (leaf_of x)) x)

shape-known : (k : ℕ) → k < 256 → (x : Bool) → ltb (get_or shapes k 0) 200 ≡ x → T (cond x (ltb (get_or shapes k 0) 106) (eqb (number_of (leaf_of (get_or shapes k 0))) (get_or shapes k 0)))
unfolding shapes known
shape-known k h x e = subst (λ (y : Bool). T (cond y (ltb (get_or shapes k 0) 106) (eqb (number_of (leaf_of (get_or shapes k 0))) (get_or shapes k 0)))) e (at known shapes tt k h)

shape-is : (k : ℕ) → k < 256 → get_or shapes k 0 ≡ shape k
unfolding shape shapes
shape-is k h = get_d_any shapes k 0 255 h

pub row-shape : (k s : ℕ) → k < 256 → s ≡ get_or shapes k 0 → s < 200 → IsShape (Row s) (shape k)
row-shape k s h e l =
    let m : get_or shapes k 0 < 200 = omega arith in
    let t : get_or shapes k 0 < 106 = ltb→lt (get_or shapes k 0) 106 (shape-known k h true (lt-ltb (get_or shapes k 0) 200 m)) in
    (e ∙ shape-is k h, omega arith)

pub leaf-shape : (k s : ℕ) → k < 256 → s ≡ get_or shapes k 0 → 200 ≤ s → IsShape (Bytes (leaf_of s)) (shape k)
leaf-shape k s h e l =
    let m : 200 ≤ get_or shapes k 0 = omega arith in
    let t : number_of (leaf_of (get_or shapes k 0)) ≡ get_or shapes k 0 = eqb→eq (number_of (leaf_of (get_or shapes k 0))) (get_or shapes k 0) (shape-known k h false (le-ltb (get_or shapes k 0) 200 m)) in
    (ap (λ (j : ℕ). number_of (leaf_of j)) e ∙ t ∙ shape-is k h, omega (arith, shape-is k h))
