-- Laws of the walk that counts open fields. Assumes nothing.
use Prim.Native.Nat.{ℕ, zero, suc, ◌+◌, ◌-◌, ◌≤◌, ◌<◌}
use native.Mathlib.Omega.{arith}
use native.Mathlib.Numerals.{add-one}
use mathlib.Core.Path.{◌≡◌, refl, sym, ap, ap₂, subst, ◌∙◌}
use mathlib.Core.List.{List, [], ◌∷◌}
use mathlib.Core.Bool.{Bool, true, false, cond}
use lib.Dec.{eqb, leb}
use lib.ListN.{length, get_or, set}
use lib.Seq.{get_or-set_same, get_or-set_other}
use borrow.Author.Tests.{le-leb, lt-leb, leb-true, leb-false, eqb-true, eqb-false}
use Rattle.tree.specs.Rose.{end_of}
use Rattle.tree.specs.Leaf.{is_leaf_tag, shape}
use Rattle.tree.specs.Tree.{Tree}
use Rattle.tree.specs.Form.{At}
use Rattle.tree.specs.Scan.{All, over, here, next_of}
use Rattle.tree.specs.Nest.{counts, mark, pop, pushed, Shallow, stack_of}
use Rattle.tree.specs.Nest as nest
use Rattle.tree.specs.Shapes.{IsShape, is_row}
use Rattle.tree.specs.declared.table.Shape.{Shape}
use Rattle.tree.proofs.Headers.{row-leaf}
use Rattle.tree.proofs.Match.{not-both}
use Rattle.tree.specs.Wf.{Wf}
use Rattle.tree.proofs.Wf.{tree_of, wf_of}
use Rattle.tree.specs.Numbers.{numbered}
use Rattle.tree.specs.Verdict.{Encodes, Says, fine, wrong, deep, nested, nesting, defining, limits}
use Rattle.tree.proofs.Verdicts.{walk_of, of-walk}

stack-pred : (a : List ℕ) (i : ℕ) → 0 < i → stack_of a i ≡ get_or a (i - 1) 0 ∷ stack_of a (i - 1)
unfolding stack_of
stack-pred a zero h = absurd (omega arith)
stack-pred a (suc i) h = let q : i ≡ suc i - 1 = omega arith in ap (λ (j : ℕ). get_or a j 0 ∷ stack_of a j) q

pub pop-stop : (a : List ℕ) (i p : ℕ) → 0 < i → p < get_or a (i - 1) 0 → stack_of a i ≡ pop p (stack_of a i)
pop-stop a i p h l =
    stack-pred a i h ∙ sym (ap (pop p) (stack-pred a i h) ∙ ap (λ (x : Bool). cond x (pop p (stack_of a (i - 1))) (get_or a (i - 1) 0 ∷ stack_of a (i - 1))) (lt-leb (get_or a (i - 1) 0) p l))

pub pop-more : (a : List ℕ) (i p : ℕ) → 0 < i → get_or a (i - 1) 0 ≤ p → pop p (stack_of a (i - 1)) ≡ pop p (stack_of a i)
pop-more a i p h l =
    sym (ap (pop p) (stack-pred a i h) ∙ ap (λ (x : Bool). cond x (pop p (stack_of a (i - 1))) (get_or a (i - 1) 0 ∷ stack_of a (i - 1))) (le-leb (get_or a (i - 1) 0) p l))

pub pop-none : (a : List ℕ) (i p : ℕ) → i ≤ 0 → stack_of a i ≡ pop p (stack_of a i)
unfolding stack_of
pop-none a i p h = let q : i ≡ 0 = omega arith in rw q refl

stack_set : (a : List ℕ) (j x d : ℕ) → d ≤ j → stack_of (set a j x) d ≡ stack_of a d
unfolding stack_of
stack_set a j x zero h = refl
stack_set a j x (suc d) h = ap₂ ◌∷◌ (get_or-set_other a j d x 0 (λ q. omega arith)) (stack_set a j x d (omega arith))

pub stack-put : (a : List ℕ) (d e : ℕ) → d < length a → stack_of (set a d e) (d + 1) ≡ e ∷ stack_of a d
unfolding stack_of
stack-put a d e h = ap (stack_of (set a d e)) (add-one d) ∙ ap₂ ◌∷◌ (get_or-set_same a d e 0 h) (stack_set a d e d (omega arith))

pub stack-length : (a : List ℕ) (d : ℕ) → length (stack_of a d) ≡ d
unfolding stack_of
stack-length a zero = refl
stack-length a (suc d) = ap suc (stack-length a d)

pub room : (a st : List ℕ) (n d : ℕ) → stack_of a d ≡ st → length st < n → d < n
room a st n d e h = let l : length st ≡ d = sym (ap length e) ∙ stack-length a d in omega arith

pub full-stack : (a : List ℕ) (n d : ℕ) (st : List ℕ) → stack_of a d ≡ st → d ≤ n → eqb d n ≡ leb n (length st)
full-stack a n d st e h = go (eqb d n) refl
  where
    l : length st ≡ d
    l = sym (ap length e) ∙ stack-length a d

    go : (x : Bool) → eqb d n ≡ x → eqb d n ≡ leb n (length st)
    go true q = let m : n ≤ length st = omega (arith, eqb-true d n q, l) in q ∙ sym (le-leb n (length st) m)
    go false q = let f : d ≡ n → ⊥ = eqb-false d n q in let m : length st < n = omega (arith, l) in q ∙ sym (lt-leb n (length st) m)

-- the header after one of this shape
pub next_by : (b : List ℕ) (p r : ℕ) (s : Shape) → IsShape s (shape (get_or b p 0)) → (x : Bool) → is_row s ≡ x → r ≡ cond x (p + 3) (end_of b p) → r ≡ next_of (is_leaf_tag (get_or b p 0)) b p
next_by b p r s k true e q = q ∙ ap (λ (y : Bool). next_of y b p) (sym (row-leaf s (get_or b p 0) k true e))
next_by b p r s k false e q = q ∙ ap (λ (y : Bool). next_of y b p) (sym (row-leaf s (get_or b p 0) k false e))

-- ---- the loop

-- what is left stays within n, with these ends open, exactly if the whole does
pub record Walking (b : List ℕ) (o n p : ℕ) (st : List ℕ) : Type 0 where
  pub all : All b p
  pub few : length st ≤ n
  pub yes : Shallow b o n st p → Shallow b o n [] 0
  pub no : Shallow b o n [] 0 → Shallow b o n st p

pub all-fits : (b : List ℕ) (p : ℕ) → All b p → p < length b → end_of b p ≤ length b
all-fits b p (over q) h = absurd (omega arith)
all-fits b p (here l m i a) h = m

all-next : (b : List ℕ) (p : ℕ) → All b p → p < length b → All b (next_of (is_leaf_tag (get_or b p 0)) b p)
all-next b p (over q) h = absurd (omega arith)
all-next b p (here l m i a) h = a

shallow-few : (b : List ℕ) (o n : ℕ) (st : List ℕ) (p : ℕ) → p < length b → Shallow b o n st p → mark (counts o (get_or b p 0)) + length (pop p st) ≤ n
shallow-few b o n st p h (nest.over q) = absurd (omega arith)
shallow-few b o n st p h (nest.here l m s) = m

shallow-next : (b : List ℕ) (o n : ℕ) (st : List ℕ) (p : ℕ) → p < length b → Shallow b o n st p → Shallow b o n (pushed (counts o (get_or b p 0)) (end_of b p) (pop p st)) (next_of (is_leaf_tag (get_or b p 0)) b p)
shallow-next b o n st p h (nest.over q) = absurd (omega arith)
shallow-next b o n st p h (nest.here l m s) = s

pub walk_start : (b : List ℕ) (o n : ℕ) → Wf b → Walking b o n 0 []
walk_start b o n w = record { all = w.all; few = omega arith; yes = λ s. s; no = λ s. s }

pop-few : (p : ℕ) (st : List ℕ) → length (pop p st) ≤ length st
pop-few p [] = omega arith
pop-few p (e ∷ st) = shorter p e st (pop-few p st) (leb e p)
  where
    shorter : (p e : ℕ) (st : List ℕ) → length (pop p st) ≤ length st → (x : Bool) → length (cond x (pop p st) (e ∷ st)) ≤ suc (length st)
    shorter p e st h true = omega arith
    shorter p e st h false = omega arith

module _ (b : List ℕ) (o n p : ℕ) (st : List ℕ) (w : Walking b o n p st) (h : p < length b) (on : Bool) (c : on ≡ counts o (get_or b p 0)) where
  -- one that counts, and no room for it
  pub walk-deep : on ≡ true → n ≤ length (pop p st) → Shallow b o n [] 0 → ⊥
  walk-deep t l s =
      let x : mark (counts o (get_or b p 0)) ≡ 1 = ap mark (sym c ∙ t) in
      let m = shallow-few b o n st p h (w.no s) in omega arith

  walk-next : mark on + length (pop p st) ≤ n → (r : ℕ) → r ≡ next_of (is_leaf_tag (get_or b p 0)) b p → (st₂ : List ℕ) → st₂ ≡ pushed on (end_of b p) (pop p st) → length st₂ ≤ n → Walking b o n r st₂
  walk-next l r z st₂ e m =
      let g : st₂ ≡ pushed (counts o (get_or b p 0)) (end_of b p) (pop p st) = e ∙ ap (λ (k : Bool). pushed k (end_of b p) (pop p st)) c in
      let x : mark (counts o (get_or b p 0)) ≡ mark on = ap mark (sym c) in
      record {
        all = subst (All b) (sym z) (all-next b p w.all h);
        few = m;
        yes = λ s. w.yes (nest.here h (omega arith) (subst (λ (k : List ℕ). Shallow b o n k (next_of (is_leaf_tag (get_or b p 0)) b p)) g (subst (Shallow b o n st₂) z s)));
        no = λ s. subst (Shallow b o n st₂) (sym z) (subst (λ (k : List ℕ). Shallow b o n k (next_of (is_leaf_tag (get_or b p 0)) b p)) (sym g) (shallow-next b o n st p h (w.no s)));
      }

  -- to the next header, with its end kept or not
  pub walk-push : on ≡ true → length (pop p st) < n → (r : ℕ) → r ≡ next_of (is_leaf_tag (get_or b p 0)) b p → (st₂ : List ℕ) → st₂ ≡ end_of b p ∷ pop p st → Walking b o n r st₂
  walk-push t l r z st₂ e =
      let m : mark on ≡ 1 = ap mark t in
      let k : length st₂ ≡ suc (length (pop p st)) = ap length e in
      walk-next (omega arith) r z st₂ (e ∙ ap (λ (x : Bool). pushed x (end_of b p) (pop p st)) (sym t)) (omega arith)

  pub walk-leave : on ≡ false → (r : ℕ) → r ≡ next_of (is_leaf_tag (get_or b p 0)) b p → (st₂ : List ℕ) → st₂ ≡ pop p st → Walking b o n r st₂
  walk-leave t r z st₂ e =
      let m : mark on ≡ 0 = ap mark t in
      let k : length st₂ ≡ length (pop p st) = ap length e in
      let f : length (pop p st) ≤ n = omega (arith, pop-few p st, w.few) in
      walk-next (omega arith) r z st₂ (e ∙ ap (λ (x : Bool). pushed x (end_of b p) (pop p st)) (sym t)) (omega arith)

pub walk_end : (b : List ℕ) (o n p : ℕ) (st : List ℕ) → Walking b o n p st → length b ≤ p → Shallow b o n [] 0
walk_end b o n p st w h = w.yes (nest.over h)

-- ---- the verdict

above : (m k : ℕ) → (m ≤ k → ⊥) → k < m
above m k g = go (leb m k) refl
  where
    go : (x : Bool) → leb m k ≡ x → k < m
    go true e = absurd (g (leb-true m k e))
    go false e = leb-false m k e

next_more : (b : List ℕ) (p : ℕ) (x : Bool) → p < next_of x b p
next_more b p true = omega arith
next_more b p false = omega arith

pub next-lt : (b : List ℕ) (p r : ℕ) → r ≡ next_of (is_leaf_tag (get_or b p 0)) b p → p < r
next-lt b p r q = subst (λ (j : ℕ). p < j) (sym q) (next_more b p (is_leaf_tag (get_or b p 0)))

-- ---- what a tree comes to

pub too-deep : (b : List ℕ) (t : Tree) → At b t → (Shallow b 0 512 [] 0 → ⊥) → 4 ≡ limits t
unfolding limits
too-deep b t h f = simp (lt-leb (nesting t) 512 (above (nesting t) 512 (λ m. f (walk_of b 0 512 t h m))))

pub too-nested : (b : List ℕ) (t : Tree) → At b t → Shallow b 0 512 [] 0 → (Shallow b 0x8C 64 [] 0 → ⊥) → 5 ≡ limits t
unfolding limits
too-nested b t h s f = simp (le-leb (nesting t) 512 (of-walk b 0 512 t h s), lt-leb (defining t) 64 (above (defining t) 64 (λ m. f (walk_of b 0x8C 64 t h m))))

pub within-limits : (b : List ℕ) (t : Tree) → At b t → Shallow b 0 512 [] 0 → Shallow b 0x8C 64 [] 0 → 0 ≡ limits t
unfolding limits
within-limits b t h s f = simp (le-leb (nesting t) 512 (of-walk b 0 512 t h s), le-leb (defining t) 64 (of-walk b 0x8C 64 t h f))

-- ---- the verdict

pub says-wrong : (b : List ℕ) → length b ≤ 32768 → (Wf b → ⊥) → Says b 3
says-wrong b l f = wrong l (λ t h. f (wf_of b t h.at))

pub says-unnumbered : (b : List ℕ) → length b ≤ 32768 → ((t : Tree) → At b t → false ≡ numbered t) → Says b 3
says-unnumbered b l f = wrong l (λ t h. not-both (numbered t) h.numbers (sym (f t h.at)))

says-limits : (b : List ℕ) → length b ≤ 32768 → (t : Tree) → Encodes b t → (x : Bool) → leb (nesting t) 512 ≡ x → (y : Bool) → leb (defining t) 64 ≡ y → Says b (cond x (cond y 0 5) 4)
says-limits b l t e true p true q = fine l t e (leb-true (nesting t) 512 p) (leb-true (defining t) 64 q)
says-limits b l t e true p false q = nested l t e (leb-true (nesting t) 512 p) (leb-false (defining t) 64 q)
says-limits b l t e false p y q = deep l t e (leb-false (nesting t) 512 p)

pub says-tree : (b : List ℕ) (r : ℕ) → length b ≤ 32768 → Wf b → ((t : Tree) → At b t → true ≡ numbered t) → ((t : Tree) → At b t → r ≡ limits t) → Says b r
unfolding limits
says-tree b r l w n f =
    let t = tree_of b w in
    subst (Says b) (sym (f t.0 t.1)) (says-limits b l t.0 (record { at = t.1; numbers = sym (n t.0 t.1) }) (leb (nesting t.0) 512) refl (leb (defining t.0) 64) refl)
