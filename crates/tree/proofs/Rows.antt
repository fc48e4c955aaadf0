-- Rows of items, as the code goes along them. Assumes nothing.
use Prim.Native.Nat.{ℕ, zero, suc, ◌+◌, ◌-◌, ◌/◌, ◌%◌, ◌≤◌, ◌<◌}
use native.Mathlib.Nat.{mod-lt}
use native.Mathlib.Omega.{arith}
use native.Mathlib.Numerals.{add-one}
use mathlib.Core.Path.{◌≡◌, refl, sym, ap, ap₂, ◌∙◌}
use mathlib.Core.List.{List, ◌∷◌}
use mathlib.Core.Bool.{Bool, true, false, cond}
use lib.Dec.{eqb, T}
use lib.ListN.{get_or, drop}
use lib.Seq.{drop-cons}
use borrow.Author.Tests.{eq-eqb, ne_eqb, eqb-true, eqb-false}
use Rattle.tree.specs.Every.{at}
use Rattle.tree.specs.Table.{items}
use Rattle.tree.specs.Leaf.{both}
use Rattle.tree.specs.Shapes.{number_of_mode}
use Rattle.tree.specs.declared.table.Mode.{Mode}
use Rattle.tree.specs.declared.table.Mode.TheVariants.{One, Optional, Many, Mixed}
use Rattle.tree.proofs.Match.{not-both}
use Rattle.tree.specs.Grammar.{Items, dead, end, one, opt, many, mix, term, decode, row_at, after, ends}

-- an item of class k and mode m, before g
abbrev kind : ℕ → ℕ → Items → Items
kind m k g = cond (eqb m 0) (one k g) (cond (eqb m 1) (opt k g) (cond (eqb m 2) (many k g) (mix k g)))

decode-kind : (it : ℕ) (g : List ℕ) → (it ≡ 0 → ⊥) → (it ≡ 4 → ⊥) → decode (it ∷ g) ≡ kind (it % 4) (it / 8) (decode g)
unfolding decode
decode-kind it g z f = simp (ne_eqb it 0 z, ne_eqb it 4 f)

row_cons : (j it : ℕ) → j < 106 → it ≡ get_or items j 0 → row_at j ≡ decode (it ∷ drop (j + 1) items)
unfolding row_at items
row_cons j it h e = ap decode (drop-cons items j 0 h ∙ ap₂ ◌∷◌ (sym e) (ap (λ (n : ℕ). drop n items) (sym (add-one j))))

row-kind : (j it : ℕ) → j < 106 → it ≡ get_or items j 0 → (it ≡ 0 → ⊥) → (it ≡ 4 → ⊥) → row_at j ≡ kind (it % 4) (it / 8) (row_at (j + 1))
unfolding row_at
row-kind j it h e z f = row_cons j it h e ∙ decode-kind it (drop (j + 1) items) z f

-- where no row goes on
last : row_at 105 ≡ dead
unfolding row_at items decode
last = refl

four : (P : ℕ → Type 0) → P 0 → P 1 → P 2 → P 3 → (m : ℕ) → m < 4 → P m
four P a b c d zero h = a
four P a b c d (suc zero) h = b
four P a b c d (suc (suc zero)) h = c
four P a b c d (suc (suc (suc zero))) h = d
four P a b c d (suc (suc (suc (suc m)))) h = absurd (omega arith)

-- the item takes a member of its class: a list goes on, else the next item is due
taken : (m k c : ℕ) (g : Items) → k ≡ c → m < 4 → after (kind m k g) c ≡ cond (eqb (m / 2) 0) g (kind m k g)
unfolding after
taken m k c g e h = four (λ (m : ℕ). after (kind m k g) c ≡ cond (eqb (m / 2) 0) g (kind m k g)) (rw q) (rw q) (rw q) (rw q) m h
  where
    q : eqb k c ≡ true
    q = eq-eqb k c e

-- past over: neither takes the member, nor has to
passed : (m k c : ℕ) (g : Items) → (k ≡ c → ⊥) → m < 4 → (m ≡ 0 → ⊥) → both (eqb m 3) (eqb c term) ≡ false → after (kind m k g) c ≡ after g c
unfolding after
passed m k c g e h =
    four (λ (m : ℕ). (m ≡ 0 → ⊥) → both (eqb m 3) (eqb c term) ≡ false → after (kind m k g) c ≡ after g c)
    (λ n f. absurd (n refl))
    (λ n f. rw q)
    (λ n f. rw q)
    (λ n f. rw (q, f))
    m h
  where
    q : eqb k c ≡ false
    q = ne_eqb k c e

mixed : (k c : ℕ) (g : Items) → c ≡ term → mix k g ≡ after (mix k g) c
unfolding after
mixed k c g e = go (eqb k c)
  where
    go : (x : Bool) → mix k g ≡ cond x (mix k g) (cond (eqb c term) (mix k g) (after g c))
    go true = refl
    go false = rw (eq-eqb c term e)

parts : (m c : ℕ) → both (eqb m 3) (eqb c term) ≡ true → (m ≡ 3) × (c ≡ term)
parts m c e = go (eqb m 3) refl e
  where
    go : (x : Bool) → eqb m 3 ≡ x → both x (eqb c term) ≡ true → (m ≡ 3) × (c ≡ term)
    go true d e = (eqb-true m 3 d, eqb-true c term e)
    go false d e = not-both false e refl

not_last : (j it : ℕ) → it ≡ get_or items j 0 → (it ≡ 0 → ⊥) → j ≡ 105 → ⊥
unfolding items
not_last j it e z q = z (e ∙ ap (λ (i : ℕ). get_or items i 0) q)

-- ---- what the code has found at the item j

module _ (j it : ℕ) (h : j < 106) (e : it ≡ get_or items j 0) (c : ℕ) where
  pub at-taken : it / 8 ≡ c → 0 < c → (n : ℕ) → n ≡ j + 1 - it % 4 / 2 → (row_at n ≡ after (row_at j) c) × (n < 106)
  at-taken q z n u = go (eqb (it % 4 / 2) 0) refl
    where
      zero? : it ≡ 0 → ⊥
      zero? w = omega (arith, ap (λ (i : ℕ). i / 8) w)

      four? : it ≡ 4 → ⊥
      four? w = omega (arith, ap (λ (i : ℕ). i / 8) w)

      here : row_at j ≡ kind (it % 4) (it / 8) (row_at (j + 1))
      here = row-kind j it h e zero? four?

      then : after (row_at j) c ≡ cond (eqb (it % 4 / 2) 0) (row_at (j + 1)) (kind (it % 4) (it / 8) (row_at (j + 1)))
      then = ap (λ (g : Items). after g c) here ∙ taken (it % 4) (it / 8) c (row_at (j + 1)) q (mod-lt it (omega arith))

      go : (x : Bool) → eqb (it % 4 / 2) 0 ≡ x → (row_at n ≡ after (row_at j) c) × (n < 106)
      go true f =
          let v : it % 4 / 2 ≡ 0 = eqb-true (it % 4 / 2) 0 f in
          let k : n ≡ j + 1 = omega arith in
          let l : j ≡ 105 → ⊥ = not_last j it e zero? in
          (ap row_at k ∙ sym (then ∙ ap (λ (x : Bool). cond x (row_at (j + 1)) (kind (it % 4) (it / 8) (row_at (j + 1)))) f), omega arith)
      go false f =
          let v : it % 4 / 2 ≡ 0 → ⊥ = eqb-false (it % 4 / 2) 0 f in
          let w : it % 4 < 4 = mod-lt it (omega arith) in
          let k : n ≡ j = omega arith in
          (ap row_at k ∙ here ∙ sym (then ∙ ap (λ (x : Bool). cond x (row_at (j + 1)) (kind (it % 4) (it / 8) (row_at (j + 1)))) f), omega arith)

  module _ (q : it / 8 ≡ c → ⊥) where
    pub at-stop : it % 4 ≡ 0 → after (row_at j) c ≡ dead
    unfolding after decode
    at-stop m = ap (λ (g : Items). after g c) (row_cons j it h e) ∙ go (eqb it 0) (eqb it 4)
      where
        go : (x y : Bool) → after (cond x dead (cond y end (kind (it % 4) (it / 8) (decode (drop (j + 1) items))))) c ≡ dead
        go true y = refl
        go false true = refl
        go false false = rw (m, ne_eqb (it / 8) c q)

    pub at-mixed : both (eqb (it % 4) 3) (eqb c term) ≡ true → row_at j ≡ after (row_at j) c
    at-mixed m =
        let w = parts (it % 4) c m in
        let z : it ≡ 0 → ⊥ = λ d. omega (arith, ap (λ (i : ℕ). i % 4) d, w.0) in
        let f : it ≡ 4 → ⊥ = λ d. omega (arith, ap (λ (i : ℕ). i % 4) d, w.0) in
        let g : row_at j ≡ mix (it / 8) (row_at (j + 1)) = row-kind j it h e z f ∙ ap (λ (i : ℕ). kind i (it / 8) (row_at (j + 1))) w.0 in
        g ∙ mixed (it / 8) c (row_at (j + 1)) w.1 ∙ sym (ap (λ (i : Items). after i c) g)

    pub at-pass : (it % 4 ≡ 0 → ⊥) → both (eqb (it % 4) 3) (eqb c term) ≡ false → after (row_at (j + 1)) c ≡ after (row_at j) c
    at-pass m n =
        let z : it ≡ 0 → ⊥ = λ d. m (ap (λ (i : ℕ). i % 4) d) in
        let f : it ≡ 4 → ⊥ = λ d. m (ap (λ (i : ℕ). i % 4) d) in
        sym (ap (λ (i : Items). after i c) (row-kind j it h e z f) ∙ passed (it % 4) (it / 8) c (row_at (j + 1)) q (mod-lt it (omega arith)) m n)

-- what the modes say of an item
pub one-mode : (m : Mode) (n : ℕ) → number_of_mode m ≡ n → m ≡ One → n ≡ 0
one-mode m n e h = sym e ∙ ap number_of_mode h

pub not-one : (m : Mode) (n : ℕ) → number_of_mode m ≡ n → (m ≡ One → ⊥) → n ≡ 0 → ⊥
not-one One n e h z = h refl
not-one Optional n e h z = absurd (omega arith)
not-one Many n e h z = absurd (omega arith)
not-one Mixed n e h z = absurd (omega arith)

pub mixed-mode : (m : Mode) (n c : ℕ) → number_of_mode m ≡ n → m ≡ Mixed → c ≡ term → both (eqb n 3) (eqb c term) ≡ true
mixed-mode m n c e h t = simp (eq-eqb n 3 (sym e ∙ ap number_of_mode h), eq-eqb c term t) refl

pub not-mixed : (m : Mode) (n c : ℕ) → number_of_mode m ≡ n → (m ≡ Mixed → ⊥) → both (eqb n 3) (eqb c term) ≡ false
not-mixed One n c e h = simp (ne_eqb n 3 (λ q. omega arith)) refl
not-mixed Optional n c e h = simp (ne_eqb n 3 (λ q. omega arith)) refl
not-mixed Many n c e h = simp (ne_eqb n 3 (λ q. omega arith)) refl
not-mixed Mixed n c e h = absurd (h refl)

pub not-term : (n c : ℕ) → (c ≡ term → ⊥) → both (eqb n 3) (eqb c term) ≡ false
not-term n c h = go (eqb n 3)
  where
    go : (x : Bool) → both x (eqb c term) ≡ false
    go true = ne_eqb c term h
    go false = refl

-- the code has come to the last item
pub at_last : (j c : ℕ) → 105 ≤ j → j < 106 → after (row_at j) c ≡ dead
unfolding after
at_last j c l h = let q : j ≡ 105 = omega arith in ap (λ (i : ℕ). after (row_at i) c) q ∙ ap (λ (g : Items). after g c) last

-- ---- may the row end: the table says it at each item

unfoldable pub same : Bool → Bool → Bool
same true y = y
same false true = false
same false false = true

pub same-eq : (x y : Bool) → T (same x y) → x ≡ y
unfolding same
same-eq true true t = refl
same-eq true false t = absurd t
same-eq false true t = absurd t
same-eq false false t = refl

told : ℕ → ℕ → Bool
told i it = same (eqb (it / 4 % 2) 1) (ends (row_at i))

pub told-end : (i it : ℕ) → i < 106 → it ≡ get_or items i 0 → eqb (it / 4 % 2) 1 ≡ ends (row_at i)
unfolding told same row_at items decode ends
told-end i it h e = ap (λ (j : ℕ). eqb (j / 4 % 2) 1) e ∙ same-eq (eqb (get_or items i 0 / 4 % 2) 1) (ends (row_at i)) (at told items tt i h)
