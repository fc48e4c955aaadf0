-- The two loops over headers: along a row of members, and over all headers in the order in which they stand. Each invariant says that what is left is right
-- exactly if the whole is. Assumes nothing.
use Prim.Native.Nat.{ℕ, ◌+◌, ◌-◌, ◌*◌, ◌≤◌, ◌<◌}
use native.Mathlib.Omega.{arith}
use mathlib.Core.Path.{◌≡◌, refl, sym, ap, ap₂, subst, ◌∙◌}
use mathlib.Core.List.{List}
use mathlib.Core.Bool.{Bool, true, false, not}
use lib.Dec.{leb}
use lib.ListN.{length, get_or, take, drop}
use borrow.Author.Tests.{le-leb, lt-leb}
use Rattle.tree.specs.Leaf.{class, shape, is_leaf_tag, leaf_ok}
use Rattle.tree.specs.Grammar.{Items, dead, row_at, after, ends}
use Rattle.tree.specs.Rose.{end_of, text_of}
use Rattle.tree.specs.Scan.{Local, done, step, All, over, here, Inner, next_of}
use Rattle.tree.proofs.Match.{not-both}
use Rattle.tree.specs.Wf.{Wf, Decided}
use Rattle.std.specs.Bool.{then_some}
use Rattle.tree.specs.Formed.{Stepped}
use Rattle.tree.specs.Shapes.{IsShape, is_row}
use Rattle.tree.specs.declared.table.Shape.{Shape}
use Rattle.tree.specs.declared.table.Shape.TheVariants.{Row, Bytes}
use Rattle.tree.proofs.Leaves.{part}

-- ---- a row of headers

pub row_fits : (b : List ℕ) (e : ℕ) (g : Items) (q : ℕ) → q < e → Local b e g q → end_of b q ≤ e
row_fits b e g q h (done k v) = absurd (omega arith)
row_fits b e g q h (step l m r) = m

row-rest : (b : List ℕ) (e : ℕ) (g : Items) (q : ℕ) → q < e → Local b e g q → Local b e (after g (class (get_or b q 0))) (end_of b q)
row-rest b e g q h (done k v) = absurd (omega arith)
row-rest b e g q h (step l m r) = r

row_ends : (b : List ℕ) (e : ℕ) (g : Items) (q : ℕ) → e ≤ q → Local b e g q → ends g ≡ true
row_ends b e g q h (done k v) = v
row_ends b e g q h (step l m r) = absurd (omega arith)

-- a row from q on is right exactly if the one from p on is
pub record Along (b : List ℕ) (e s p i q : ℕ) : Type 0 where
  pub item : i < 106
  pub low : p ≤ q
  pub high : q ≤ e
  pub yes : Local b e (row_at i) q → Local b e (row_at s) p
  pub no : Local b e (row_at s) p → Local b e (row_at i) q

pub along-start : (b : List ℕ) (e s p : ℕ) → p ≤ e → s < 106 → Along b e s p s p
along-start b e s p h k = record { item = k; low = omega arith; high = h; yes = λ l. l; no = λ l. l }

pub along-next : (b : List ℕ) (e s p i q i' n k : ℕ) → Along b e s p i q → q < e → n ≡ end_of b q → n ≤ e → k ≡ class (get_or b q 0) → (row_at i' ≡ after (row_at i) k) × (i' < 106) → Along b e s p i' n
along-next b e s p i q i' n k a h u m c w =
    let g : row_at i' ≡ after (row_at i) (class (get_or b q 0)) = w.0 ∙ ap (after (row_at i)) c in
    let f : end_of b q ≤ e = omega arith in
    record {
      item = w.1;
      low = omega (arith, a.low);
      high = m;
      yes = λ l. a.yes (step h f (subst (λ (j : ℕ). Local b e (after (row_at i) (class (get_or b q 0))) j) u (subst (λ (y : Items). Local b e y n) g l)));
      no = λ l. subst (λ (y : Items). Local b e y n) (sym g) (subst (λ (j : ℕ). Local b e (after (row_at i) (class (get_or b q 0))) j) (sym u) (row-rest b e (row_at i) q h (a.no l)));
    }

pub along-fits : (b : List ℕ) (e s p i q : ℕ) → Along b e s p i q → q < e → e < end_of b q → Local b e (row_at s) p → ⊥
along-fits b e s p i q a h m l = omega (arith, row_fits b e (row_at i) q h (a.no l))

-- what no row can be has no fields
dead-none : (b : List ℕ) (e q : ℕ) → (g : Items) → g ≡ dead → Local b e g q → ⊥
unfolding after ends
dead-none b e q g d (done k v) = not-both (ends g) v (ap ends d)
dead-none b e q g d (step l m r) = dead-none b e (end_of b q) (after g (class (get_or b q 0))) (ap (λ (y : Items). after y (class (get_or b q 0))) d) r

pub along-dead : (b : List ℕ) (e s p i q k : ℕ) → Along b e s p i q → q < e → k ≡ class (get_or b q 0) → after (row_at i) k ≡ dead → Local b e (row_at s) p → ⊥
along-dead b e s p i q k a h c d l = dead-none b e (end_of b q) (after (row_at i) (class (get_or b q 0))) (ap (after (row_at i)) (sym c) ∙ d) (row-rest b e (row_at i) q h (a.no l))

pub along-end : (b : List ℕ) (e s p i q : ℕ) (r : Bool) → Along b e s p i q → e ≤ q → r ≡ ends (row_at i) → Decided r (Local b e (row_at s) p)
along-end b e s p i q true a h u = let k : q ≡ e = omega (arith, a.high) in a.yes (done k (sym u))
along-end b e s p i q false a h u = λ l. not-both (ends (row_at i)) (row_ends b e (row_at i) q h (a.no l)) (sym u)

-- ---- all headers

-- the headers from p on are right exactly if all are
pub record Going (b : List ℕ) (p : ℕ) : Type 0 where
  pub high : p ≤ length b
  pub root : Local b (length b) (row_at 0) 0
  pub yes : All b p → All b 0
  pub no : All b 0 → All b p

all-fits : (b : List ℕ) (p : ℕ) → p < length b → All b p → end_of b p ≤ length b
all-fits b p h (over q) = absurd (omega arith)
all-fits b p h (here l m i a) = m

all-inner : (b : List ℕ) (p : ℕ) → p < length b → All b p → Inner (is_leaf_tag (get_or b p 0)) b p
all-inner b p h (over q) = absurd (omega arith)
all-inner b p h (here l m i a) = i

all-next : (b : List ℕ) (p : ℕ) → p < length b → All b p → All b (next_of (is_leaf_tag (get_or b p 0)) b p)
all-next b p h (over q) = absurd (omega arith)
all-next b p h (here l m i a) = a

-- at a header that is a leaf or not
going_next : (b : List ℕ) (p n : ℕ) (x : Bool) → is_leaf_tag (get_or b p 0) ≡ x → Going b p → p < length b → end_of b p ≤ length b → Inner x b p → n ≡ next_of x b p → n ≤ length b → Going b n
going_next b p n x q g h m i u v =
    record {
      high = v;
      root = g.root;
      yes = λ a. g.yes (here h m (subst (λ (y : Bool). Inner y b p) (sym q) i) (subst (λ (y : Bool). All b (next_of y b p)) (sym q) (subst (All b) u a)));
      no = λ a. subst (All b) (sym u) (subst (λ (y : Bool). All b (next_of y b p)) q (all-next b p h (g.no a)));
    }

pub going_start : (b : List ℕ) → Local b (length b) (row_at 0) 0 → Going b 0
going_start b r = record { high = omega arith; root = r; yes = λ a. a; no = λ a. a }

-- the content of the field at p, a leaf's or a row
module _ (b : List ℕ) (p e s : ℕ) (u : e ≡ end_of b p) (k : s ≡ shape (get_or b p 0)) where
  module _ (l : 200 ≤ s) where
    is_leaf : is_leaf_tag (get_or b p 0) ≡ true
    is_leaf = ap (leb 200) (sym k) ∙ le-leb 200 s l

    same-leaf : leaf_ok s (part b (p + 3) e) ≡ leaf_ok (shape (get_or b p 0)) (text_of b p)
    same-leaf =
        let z : e - (p + 3) ≡ get_or b (p + 1) 0 + get_or b (p + 2) 0 * 256 = omega arith in
        ap₂ leaf_ok k (ap (λ (n : ℕ). take n (drop (p + 3) b)) z)

    pub leaf-said : (r : Bool) → r ≡ leaf_ok s (part b (p + 3) e) → Stepped b p (then_some r e)
    leaf-said true t = (subst (λ (y : Bool). Inner y b p) (sym is_leaf) (sym (t ∙ same-leaf)), u ∙ ap (λ (y : Bool). next_of y b p) (sym is_leaf))
    leaf-said false t = λ i. not-both (leaf_ok (shape (get_or b p 0)) (text_of b p)) (subst (λ (y : Bool). Inner y b p) is_leaf i) (sym (t ∙ same-leaf))

  module _ (l : s < 200) where
    is-node : is_leaf_tag (get_or b p 0) ≡ false
    is-node = ap (leb 200) (sym k) ∙ lt-leb 200 s l

    pub row-said : (r : Bool) → Decided r (Local b e (row_at s) (p + 3)) → Stepped b p (then_some r (p + 3))
    row-said true r = (
      subst (λ (y : Bool). Inner y b p) (sym is-node) (subst (λ (j : ℕ). Local b (end_of b p) (row_at j) (p + 3)) k (subst (λ (j : ℕ). Local b j (row_at s) (p + 3)) u r)),
      ap (λ (y : Bool). next_of y b p) (sym is-node),
    )
    row-said false f = λ i.
        f (subst (λ (j : ℕ). Local b j (row_at s) (p + 3)) (sym u) (subst (λ (j : ℕ). Local b (end_of b p) (row_at j) (p + 3)) (sym k) (subst (λ (y : Bool). Inner y b p) is-node i)))

-- a row is no leaf
pub row-leaf : (s : Shape) (k : ℕ) → IsShape s (shape k) → (x : Bool) → is_row s ≡ x → is_leaf_tag k ≡ not x
row-leaf (Row i) k h x e = let l : shape k < 200 = omega (arith, h.1, h.0) in lt-leb 200 (shape k) l ∙ ap not e
row-leaf (Bytes l) k h x e = le-leb 200 (shape k) h.1 ∙ ap not e

next_fits : (b : List ℕ) (p : ℕ) (x : Bool) → end_of b p ≤ length b → next_of x b p ≤ length b
next_fits b p true m = m
next_fits b p false m = omega arith

pub going_on : (b : List ℕ) (p q : ℕ) → Going b p → p < length b → end_of b p ≤ length b → Inner (is_leaf_tag (get_or b p 0)) b p → q ≡ next_of (is_leaf_tag (get_or b p 0)) b p → Going b q
going_on b p q g h m i u = going_next b p q (is_leaf_tag (get_or b p 0)) refl g h m i u (subst (λ (j : ℕ). j ≤ length b) (sym u) (next_fits b p (is_leaf_tag (get_or b p 0)) m))

pub wrong-root : (b : List ℕ) → (Local b (length b) (row_at 0) 0 → ⊥) → Wf b → ⊥
wrong-root b f w = f w.root

pub wrong-fits : (b : List ℕ) (p : ℕ) → Going b p → p < length b → (end_of b p ≤ length b → ⊥) → Wf b → ⊥
wrong-fits b p g h f w = f (all-fits b p h (g.no w.all))

pub wrong-content : (b : List ℕ) (p : ℕ) → Going b p → p < length b → (Inner (is_leaf_tag (get_or b p 0)) b p → ⊥) → Wf b → ⊥
wrong-content b p g h f w = f (all-inner b p h (g.no w.all))

pub right : (b : List ℕ) (p : ℕ) → Going b p → length b ≤ p → Wf b
right b p g h = let k : p ≡ length b = omega (arith, g.high) in record { root = g.root; all = g.yes (over k) }
