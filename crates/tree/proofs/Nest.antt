-- The walk that counts open fields finds few enough exactly where the fields nest so little. Assumes nothing.
use Rattle.std.specs.Prelude.{ℕ, ◌+◌, ◌≤◌, ◌<◌, ◌≡◌, refl, List, [], ◌∷◌, Bool, true, false, cond, length, get_or}
use Rattle.std.proofs.Math.Nat.{le-max_left, le-max_right}
use Rattle.std.proofs.Common.{arith, sym, ap, subst, ◌∙◌, le-leb}
use Rattle.std.proofs.lemmas.Bool.{lt-leb}
use Rattle.tree.specs.Rose.{Rose, Roses, leaf, node, rnil, rcons, place_of, end_of, At, Row, row-le}
use Rattle.tree.specs.Leaf.{is_leaf_tag}
use Rattle.tree.specs.Grammar.{Obeys, Obey}
use Rattle.tree.specs.Scan.{next_of}
use Rattle.tree.specs.Nest.{counts, mark, nest, nests, pop, pushed, Shallow, over, here}

-- what has ended does not count
same-pop : (b : List ℕ) (o n : ℕ) (st su : List ℕ) (p : ℕ) → pop p st ≡ pop p su → Shallow b o n st p → Shallow b o n su p
same-pop b o n st su p q (over h) = over h
same-pop b o n st su p q (here h m s) =
    here h (subst (λ (l : List ℕ). mark (counts o (get_or b p 0)) + length l ≤ n) q m)
    (subst (λ (l : List ℕ). Shallow b o n (pushed (counts o (get_or b p 0)) (end_of b p) l) (next_of (is_leaf_tag (get_or b p 0)) b p)) q s)

pop-ended : (p e : ℕ) (st : List ℕ) → e ≤ p → pop p (e ∷ st) ≡ pop p st
pop-ended p e st h = ap (λ (x : Bool). cond x (pop p st) (e ∷ st)) (le-leb e p h)

-- all that is open ends at e or after: the innermost does
abbrev Above : ℕ → List ℕ → Type 0
Above e [] = Unit {0}
Above e (x ∷ st) = e ≤ x

above-pop : (p e : ℕ) (st : List ℕ) → p < e → Above e st → pop p st ≡ st
above-pop p e [] h a = refl
above-pop p e (x ∷ st) h a = let l : p < x = omega arith in ap (λ (y : Bool). cond y (pop p st) (x ∷ st)) (lt-leb x p l)

above-less : (d e : ℕ) (st : List ℕ) → d ≤ e → Above e st → Above d st
above-less d e [] h a = tt
above-less d e (x ∷ st) h a = omega arith

above-push : (x : Bool) (d e : ℕ) (st : List ℕ) → d ≤ e → Above e st → Above d (pushed x d st)
above-push true d e st h a = omega arith
above-push false d e st h a = above-less d e st h a

push-pop : (x : Bool) (q : ℕ) (st : List ℕ) → pop q (pushed x q st) ≡ pop q st
push-pop true q st = pop-ended q q st (omega arith)
push-pop false q st = refl

push-length : (x : Bool) (q : ℕ) (st : List ℕ) → length (pushed x q st) ≡ mark x + length st
push-length true q st = omega arith
push-length false q st = omega arith

-- at a header below which all open fields end
module _ (b : List ℕ) (o n p e : ℕ) (st : List ℕ) (h : p < e) (a : Above e st) where
  go-in : p < length b → (k : ℕ) → get_or b p 0 ≡ k → (x : Bool) → is_leaf_tag k ≡ x → mark (counts o k) + length st ≤ n → Shallow b o n (pushed (counts o k) (end_of b p) st) (next_of x b p) → Shallow b o n st p
  go-in l k q x w m s =
      let u : pop p st ≡ st = above-pop p e st h a in
      let v : is_leaf_tag (get_or b p 0) ≡ x = ap is_leaf_tag q ∙ w in
      here l
      (subst (λ (y : List ℕ). mark (counts o (get_or b p 0)) + length y ≤ n) (sym u) (subst (λ (j : ℕ). mark (counts o j) + length st ≤ n) (sym q) m))
      (subst (λ (y : List ℕ). Shallow b o n (pushed (counts o (get_or b p 0)) (end_of b p) y) (next_of (is_leaf_tag (get_or b p 0)) b p)) (sym u)
      (subst (λ (y : Bool). Shallow b o n (pushed (counts o (get_or b p 0)) (end_of b p) st) (next_of y b p)) (sym v)
      (subst (λ (j : ℕ). Shallow b o n (pushed (counts o j) (end_of b p) st) (next_of x b p)) (sym q) s)))

  go-out : p < length b → (k : ℕ) → get_or b p 0 ≡ k → (x : Bool) → is_leaf_tag k ≡ x → Shallow b o n st p → (mark (counts o k) + length st ≤ n) × Shallow b o n (pushed (counts o k) (end_of b p) st) (next_of x b p)
  go-out l k q x w (over z) = absurd (omega arith)
  go-out l k q x w (here l' m s) =
      let u : pop p st ≡ st = above-pop p e st h a in
      let v : is_leaf_tag (get_or b p 0) ≡ x = ap is_leaf_tag q ∙ w in (
        subst (λ (j : ℕ). mark (counts o j) + length st ≤ n) q (subst (λ (y : List ℕ). mark (counts o (get_or b p 0)) + length y ≤ n) u m),
        subst (λ (j : ℕ). Shallow b o n (pushed (counts o j) (end_of b p) st) (next_of x b p)) q
            (subst (λ (y : Bool). Shallow b o n (pushed (counts o (get_or b p 0)) (end_of b p) st) (next_of y b p)) v
            (subst (λ (y : List ℕ). Shallow b o n (pushed (counts o (get_or b p 0)) (end_of b p) y) (next_of (is_leaf_tag (get_or b p 0)) b p)) u s)),
      )

mutual
  unfolding At Obeys nest

  -- few enough are open in the row, and few enough after it
  row_in : (b : List ℕ) (o n : ℕ) (rs : Roses) (p e : ℕ) (st : List ℕ) → Row b rs p e → Obey rs → e ≤ length b → Above e st → length st ≤ n → nests o rs + length st ≤ n → Shallow b o n st e → Shallow b o n st p
  row_in b o n rnil p e st r y k a z m s = subst (Shallow b o n st) (sym r) s
  row_in b o n (rcons f rs) p e st r y k a z m s =
      let l : end_of b p ≤ e = row-le b rs (end_of b p) e r.2 in
      let v : Shallow b o n st (end_of b p) = row_in b o n rs (end_of b p) e st r.2 y.1 k a z (omega (arith, le-max_right (nest o f) (nests o rs))) s in
      one_in b o n f p e st r.0 r.1 y.0 l k a (omega (arith, le-max_left (nest o f) (nests o rs))) v

  one_in : (b : List ℕ) (o n : ℕ) (f : Rose) (p e : ℕ) (st : List ℕ) → place_of f ≡ p → At b f → Obeys f → end_of b p ≤ e → e ≤ length b → Above e st → nest o f + length st ≤ n → Shallow b o n st (end_of b p) → Shallow b o n st p
  one_in b o n (leaf c p' x) p e st q r y l k a m s =
      let t : get_or b p 0 ≡ c = ap (λ (j : ℕ). get_or b j 0) (sym q) ∙ r.0.tagged in
      go-in b o n p e st (omega arith) a (omega arith) c t true y m (same-pop b o n st (pushed (counts o c) (end_of b p) st) (end_of b p) (sym (push-pop (counts o c) (end_of b p) st)) s)
  one_in b o n (node c p' rs) p e st q r y l k a m s =
      let t : get_or b p 0 ≡ c = ap (λ (j : ℕ). get_or b j 0) (sym q) ∙ r.0.tagged in
      let w : Row b rs (p + 3) (end_of b p) = subst (λ (j : ℕ). Row b rs (j + 3) (end_of b j)) q r.1 in
      let u : length (pushed (counts o c) (end_of b p) st) ≡ mark (counts o c) + length st = push-length (counts o c) (end_of b p) st in
      go-in b o n p e st (omega arith) a (omega arith) c t false y.0 (omega arith)
      (row_in b o n rs (p + 3) (end_of b p) (pushed (counts o c) (end_of b p) st) w y.2 (omega arith) (above-push (counts o c) (end_of b p) e st l a) (omega arith) (omega arith)
      (same-pop b o n st (pushed (counts o c) (end_of b p) st) (end_of b p) (sym (push-pop (counts o c) (end_of b p) st)) s))

mutual
  unfolding At Obeys nest

  row_out : (b : List ℕ) (o n : ℕ) (rs : Roses) (p e : ℕ) (st : List ℕ) → Row b rs p e → Obey rs → e ≤ length b → Above e st → length st ≤ n → Shallow b o n st p → (nests o rs + length st ≤ n) × Shallow b o n st e
  row_out b o n rnil p e st r y k a z s = (omega arith, subst (Shallow b o n st) r s)
  row_out b o n (rcons f rs) p e st r y k a z s =
      let l : end_of b p ≤ e = row-le b rs (end_of b p) e r.2 in
      let v : (nest o f + length st ≤ n) × Shallow b o n st (end_of b p) = one_out b o n f p e st r.0 r.1 y.0 l k a z s in
      let w : (nests o rs + length st ≤ n) × Shallow b o n st e = row_out b o n rs (end_of b p) e st r.2 y.1 k a z v.1 in
      (omega arith, w.1)

  one_out : (b : List ℕ) (o n : ℕ) (f : Rose) (p e : ℕ) (st : List ℕ) → place_of f ≡ p → At b f → Obeys f → end_of b p ≤ e → e ≤ length b → Above e st → length st ≤ n → Shallow b o n st p → (nest o f + length st ≤ n) × Shallow b o n st (end_of b p)
  one_out b o n (leaf c p' x) p e st q r y l k a z s =
      let t : get_or b p 0 ≡ c = ap (λ (j : ℕ). get_or b j 0) (sym q) ∙ r.0.tagged in
      let v = go-out b o n p e st (omega arith) a (omega arith) c t true y s in
      (v.0, same-pop b o n (pushed (counts o c) (end_of b p) st) st (end_of b p) (push-pop (counts o c) (end_of b p) st) v.1)
  one_out b o n (node c p' rs) p e st q r y l k a z s =
      let t : get_or b p 0 ≡ c = ap (λ (j : ℕ). get_or b j 0) (sym q) ∙ r.0.tagged in
      let w : Row b rs (p + 3) (end_of b p) = subst (λ (j : ℕ). Row b rs (j + 3) (end_of b j)) q r.1 in
      let u : length (pushed (counts o c) (end_of b p) st) ≡ mark (counts o c) + length st = push-length (counts o c) (end_of b p) st in
      let v : (mark (counts o c) + length st ≤ n) × Shallow b o n (pushed (counts o c) (end_of b p) st) (p + 3) = go-out b o n p e st (omega arith) a (omega arith) c t false y.0 s in
      let x : (nests o rs + length (pushed (counts o c) (end_of b p) st) ≤ n) × Shallow b o n (pushed (counts o c) (end_of b p) st) (end_of b p) =
      row_out b o n rs (p + 3) (end_of b p) (pushed (counts o c) (end_of b p) st) w y.2 (omega arith) (above-push (counts o c) (end_of b p) e st l a) (omega arith) v.1 in
      (omega arith, same-pop b o n (pushed (counts o c) (end_of b p) st) st (end_of b p) (push-pop (counts o c) (end_of b p) st) x.1)

-- a row that fills the bytes
pub shallow-of : (b : List ℕ) (o n : ℕ) (rs : Roses) → Row b rs 0 (length b) → Obey rs → nests o rs ≤ n → Shallow b o n [] 0
shallow-of b o n rs r y m = row_in b o n rs 0 (length b) [] r y (omega arith) tt (omega arith) (omega arith) (over (omega arith))

pub of-shallow : (b : List ℕ) (o n : ℕ) (rs : Roses) → Row b rs 0 (length b) → Obey rs → Shallow b o n [] 0 → nests o rs ≤ n
of-shallow b o n rs r y s = let v = row_out b o n rs 0 (length b) [] r y (omega arith) tt (omega arith) s in omega (arith, v.0)
