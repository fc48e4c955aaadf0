-- Rows that came into view leave it again, and all is as it was. Assumes nothing.
use Rattle.std.specs.Prelude.{ℕ, zero, suc, ◌+◌, ◌-◌, ◌*◌, ◌≤◌, ◌<◌, ◌≡◌, refl, Bool, true, false, cond, List, [], ◌∷◌, ◌++◌, eqb, ltb, length, get_or, set, take}
use Rattle.std.proofs.Common.{arith, sym, ap, subst, ◌∙◌, inl, inr, length-set, get_or-set_same, get_or-set_other, set-set, ext_get_or, lt-ltb, eqb-true, ltb-true, ltb-false}
use Rattle.std.proofs.Math.Seq.{set_out}
use Rattle.std.proofs.lemmas.Bool.{eqb-false}
use Rattle.tree.specs.Rose.{end_of, text_of}
use Rattle.rules.specs.Lists.{Member}
use Rattle.reads.specs.Bytes.{Fields, word_of}
use Rattle.cells.specs.Cells.{cell, word_at, kind_at, head_at, link_at, place_at, pushed, bound_as, noted, View, bound, in_view, Seen, unlinked, unlinked_all, closed, Opened}
use Rattle.cells.specs.Leaving.{unlinked-note, unlinked-row, length-unlinked-all}
use Rattle.rows.specs.Same.{order-of}
use Rattle.rows.specs.Kept.{below_at, below-ext, heads-below}
use Rattle.rows.specs.Fields.{head-low, head-high, head_for, length-pushed, pushed-below, length-noted, noted-below, noted-kind}
use Rattle.rows.specs.Pushed.{Pushable, Counted, row_pushed}

-- ---- what closing asks for

member-left : (j : ℕ) (xs ys : List ℕ) → Member j xs → Member j (xs ++ ys)
member-left j [] ys m = absurd m
member-left j (x ∷ xs) ys (inl e) = inl e
member-left j (x ∷ xs) ys (inr m) = inr (member-left j xs ys m)

member-bound : (s : List ℕ) (lo n j : ℕ) → lo ≤ j → j < lo + n → kind_at s j < 6 → Member j (bound s lo n)
unfolding bound
member-bound s lo zero j p q h = absurd (omega arith)
member-bound s lo (suc n) j p q h = go (eqb j (lo + n)) refl (λ f. member-bound s lo n j p f h)
  where
    other : (t : Bool) → Member j (bound s lo n) → Member j (cond t ((lo + n) ∷ bound s lo n) (bound s lo n))
    other true m = inr m
    other false m = m

    go : (t : Bool) → eqb j (lo + n) ≡ t → (j < lo + n → Member j (bound s lo n)) → Member j (cond (ltb (kind_at s (lo + n)) 6) ((lo + n) ∷ bound s lo n) (bound s lo n))
    go true e f =
        let x : j ≡ lo + n = eqb-true j (lo + n) e in
        let k : kind_at s (lo + n) < 6 = subst (λ (i : ℕ). kind_at s i < 6) x h in
        rw (lt-ltb (kind_at s (lo + n)) 6 k) (inl x)
    go false e f = let n' = eqb-false j (lo + n) e in other (ltb (kind_at s (lo + n)) 6) (f (omega arith))

-- the head of each row from k on stands below it
pub heads-ready : (vw : View) (b s : List ℕ) (k i : ℕ) → Seen vw b s i → vw.locals ≤ k → (j : ℕ) → k ≤ j → j < i → kind_at s j < 6 → (head_at s j < length s) × (head_at s j < 4 * k)
heads-ready vw b s k i g l j p q h =
    let o = order-of vw b s i g in
    let m : Member j (in_view vw s i) =
    member-left j (bound s vw.own (i - vw.own)) (bound s vw.first (vw.past - vw.first)) (member-bound s vw.own (i - vw.own) j (omega (arith, o.own)) (omega arith) h) in
    let e = (g.good j m).head in
    let u = head-high vw.mask (word_at s j) (length (text_of b (place_at s j))) in
    let f : head_at s j < 4 * k = omega (arith, g.base.heads, o.first, o.past, o.own) in
    (omega (arith, g.within), f)

pub close-ready : (vw : View) (b s : List ℕ) (k i : ℕ) → Seen vw b s i → vw.locals ≤ k → k ≤ i
    → (4 * i ≤ length s) × (2 ≤ length s) × (k ≤ i) × ((j : ℕ) → k ≤ j → j < i → kind_at s j < 6 → (head_at s j < length s) × (head_at s j < 4 * k))
close-ready vw b s k i g l h =
    (g.within, omega (arith, g.within, heads-below vw b s i g), h, heads-ready vw b s k i g l)

pub leave-ready : (vw : View) (b s : List ℕ) (k i : ℕ) → Seen vw b s i → vw.locals ≤ k → k ≤ i
    → (4 * i ≤ length s) × (3 ≤ length s) × (k ≤ i) × ((j : ℕ) → k ≤ j → j < i → kind_at s j < 6 → (head_at s j < length s) × (head_at s j < 4 * k))
leave-ready vw b s k i g l h =
    (g.within, omega (arith, g.within, heads-below vw b s i g), h, heads-ready vw b s k i g l)

-- ---- lists that differ in one cell, which no row reads

pub record Alike (z : ℕ) (u u' : List ℕ) : Type 0 where
  pub same : length u' ≡ length u
  pub at : (i : ℕ) → (i ≡ z → ⊥) → get_or u' i 0 ≡ get_or u i 0

alike_at : (u u' : List ℕ) (i x y : ℕ) → length u' ≡ length u → get_or u' i 0 ≡ get_or u i 0 → get_or (set u' x y) i 0 ≡ get_or (set u x y) i 0
alike_at u u' i x y l e = go (eqb i x) refl (ltb x (length u)) refl
  where
    go : (t : Bool) → eqb i x ≡ t → (t' : Bool) → ltb x (length u) ≡ t' → get_or (set u' x y) i 0 ≡ get_or (set u x y) i 0
    go true p true q =
        let f : i ≡ x = eqb-true i x p in
        let g = ltb-true x (length u) q in
        subst (λ (j : ℕ). get_or (set u' x y) j 0 ≡ get_or (set u x y) j 0) (sym f) (get_or-set_same u' x y 0 (omega arith) ∙ sym (get_or-set_same u x y 0 g))
    go true p false q =
        let g = ltb-false x (length u) q in
        ap (λ (v : List ℕ). get_or v i 0) (set_out u' x y (omega arith)) ∙ e ∙ sym (ap (λ (v : List ℕ). get_or v i 0) (set_out u x y g))
    go false p t' q = let f = eqb-false i x p in get_or-set_other u' x i y 0 f ∙ e ∙ sym (get_or-set_other u x i y 0 f)

alike_set : (z : ℕ) (u u' : List ℕ) (x y : ℕ) → Alike z u u' → Alike z (set u x y) (set u' x y)
alike_set z u u' x y h =
    record { same = length-set u' x y ∙ h.same ∙ sym (length-set u x y); at = λ i n. alike_at u u' i x y h.same (h.at i n) }

alike-unlinked : (z : ℕ) (u u' : List ℕ) (j : ℕ) → z < 4 * j → Alike z u u' → Alike z (unlinked u j) (unlinked u' j)
unfolding unlinked
alike-unlinked z u u' j q h =
    let e₂ : cell u' j 2 ≡ cell u j 2 = h.at (4 * j + 2) (λ e. omega arith) in
    rw e₂ (go (ltb (kind_at u j) 6))
  where
    go : (t : Bool) → Alike z (cond t (set u (head_at u j) (link_at u j)) u) (cond t (set u' (head_at u j) (link_at u j)) u')
    go true = alike_set z u u' (head_at u j) (link_at u j) h
    go false = h

alike-unlinked-all : (z : ℕ) (u u' : List ℕ) (k n : ℕ) → z < 4 * k → Alike z u u' → Alike z (unlinked_all u k n) (unlinked_all u' k n)
unfolding unlinked_all
alike-unlinked-all z u u' k zero q h = h
alike-unlinked-all z u u' k (suc n) q h = alike-unlinked-all z (unlinked u (k + n)) (unlinked u' (k + n)) k n q (alike-unlinked z u u' (k + n) (omega arith) h)

alike-put : (z v : ℕ) (u : List ℕ) → Alike z u (set u z v)
alike-put z v u = record { same = length-set u z v; at = λ i n. get_or-set_other u z i v 0 n }

-- and it is put in both
alike_same : (z c : ℕ) (u u' : List ℕ) → Alike z u u' → set u' z c ≡ set u z c
alike_same z c u u' h =
    let l : length (set u' z c) ≡ length (set u z c) = length-set u' z c ∙ h.same ∙ sym (length-set u z c) in
    ext_get_or 0 (set u' z c) (set u z c) l (λ i p. go i (omega (arith, length-set u' z c)) (eqb i z) refl)
  where
    go : (i : ℕ) → i < length u' → (t : Bool) → eqb i z ≡ t → get_or (set u' z c) i 0 ≡ get_or (set u z c) i 0
    go i p true e =
        let f : i ≡ z = eqb-true i z e in
        let m = h.same in
        subst (λ (j : ℕ). get_or (set u' z c) j 0 ≡ get_or (set u z c) j 0) (sym f) (get_or-set_same u' z c 0 (omega arith) ∙ sym (get_or-set_same u z c 0 (omega arith)))
    go i p false e = alike_at u u' i z c h.same (h.at i (eqb-false i z e))

-- ---- rows that leave one after the other

unlinked-split : (s : List ℕ) (k a n : ℕ) → unlinked_all s k (a + n) ≡ unlinked_all (unlinked_all s (k + a) n) k a
unfolding unlinked_all
unlinked-split s k a zero = let e : a + 0 ≡ a = omega arith in rw e
unlinked-split s k a (suc n) =
    let e : a + suc n ≡ suc (a + n) = omega arith in
    let f : k + (a + n) ≡ k + a + n = omega arith in
    ap (λ (m : ℕ). unlinked_all s k m) e ∙ unlinked-split (unlinked s (k + (a + n))) k a n ∙ ap (λ (m : ℕ). unlinked_all (unlinked_all (unlinked s m) (k + a) n) k a) f

-- ---- Opened

pub opened-none : (s : List ℕ) (k : ℕ) → Opened s s k k
unfolding unlinked_all
opened-none s k =
    record {
      order = omega arith;
      same = refl;
      back = λ t l e.
          let z : k - k ≡ 0 = omega arith in
          ap (λ (n : ℕ). take (4 * k) (set (unlinked_all t k n) 1 (get_or s 1 0))) z
          ∙ below-ext (4 * k) s (set t 1 (get_or s 1 0)) (length-set t 1 (get_or s 1 0) ∙ l)
          (λ i p q. put-at t s i l q (below_at (4 * k) s t e i p));
    }
  where
    put-at : (t s : List ℕ) (i : ℕ) → length t ≡ length s → i < length s → get_or t i 0 ≡ get_or s i 0 → get_or (set t 1 (get_or s 1 0)) i 0 ≡ get_or s i 0
    put-at t s i l q e = go (eqb i 1) refl
      where
        go : (b : Bool) → eqb i 1 ≡ b → get_or (set t 1 (get_or s 1 0)) i 0 ≡ get_or s i 0
        go true h =
            let f : i ≡ 1 = eqb-true i 1 h in
            subst (λ (j : ℕ). get_or (set t 1 (get_or s 1 0)) j 0 ≡ get_or s j 0) (sym f) (get_or-set_same t 1 (get_or s 1 0) 0 (omega arith))
        go false h = get_or-set_other t 1 i (get_or s 1 0) 0 (eqb-false i 1 h) ∙ e

pub opened-kept : (s s₁ s₂ : List ℕ) (k i : ℕ) → Opened s s₁ k i → length s₂ ≡ length s → take (4 * i) s₂ ≡ take (4 * i) s₁ → Opened s s₂ k i
opened-kept s s₁ s₂ k i o l e = record { order = o.order; same = l; back = λ t m f. o.back t m (f ∙ e) }

pub opened-then : (s s₁ s₂ : List ℕ) (k i j : ℕ) → 0 < k → Opened s s₁ k i → Opened s₁ s₂ i j → Opened s s₂ k j
opened-then s s₁ s₂ k i j pos o₁ o₂ =
    record {
      order = omega (arith, o₁.order, o₂.order);
      same = o₂.same ∙ o₁.same;
      back = λ t l e.
          let p = o₁.order in
          let q = o₂.order in
          let u : List ℕ = unlinked_all t i (j - i) in
          let lu : length u ≡ length s = length-unlinked-all t i (j - i) ∙ l in
          let v : ℕ = get_or s₁ 1 0 in
          let c : ℕ = get_or s 1 0 in
          let b₂ : take (4 * i) (set u 1 v) ≡ take (4 * i) s₁ = o₂.back t (l ∙ sym o₁.same) e in
          let b₁ : take (4 * k) (set (unlinked_all (set u 1 v) k (i - k)) 1 c) ≡ take (4 * k) s = o₁.back (set u 1 v) (length-set u 1 v ∙ lu) b₂ in
          let n : j - k ≡ (i - k) + (j - i) = omega arith in
          let m : k + (i - k) ≡ i = omega arith in
          let w : unlinked_all t k (j - k) ≡ unlinked_all u k (i - k) =
          ap (λ (x : ℕ). unlinked_all t k x) n ∙ unlinked-split t k (i - k) (j - i) ∙ ap (λ (x : ℕ). unlinked_all (unlinked_all t x (j - i)) k (i - k)) m in
          let a = alike-unlinked-all 1 u (set u 1 v) k (i - k) (omega arith) (alike-put 1 v u) in
          ap (λ (x : List ℕ). take (4 * k) (set x 1 c)) w
          ∙ ap (λ (x : List ℕ). take (4 * k) x) (sym (alike_same 1 c (unlinked_all u k (i - k)) (unlinked_all (set u 1 v) k (i - k)) a))
          ∙ b₁;
    }

pub opened-close : (s s' t : List ℕ) (k i : ℕ) → Opened s s' k i → length t ≡ length s → take (4 * i) t ≡ take (4 * i) s' → take (4 * k) (closed t k i (get_or s 1 0)) ≡ take (4 * k) s
opened-close s s' t k i o l e = o.back t l e

-- out of a definition, whose level is put back too
pub opened-leave : (s s' t : List ℕ) (k i : ℕ) → 0 < k → Opened s (set s' 2 (get_or s 2 0)) k i → length t ≡ length s → take (4 * i) t ≡ take (4 * i) s'
    → take (4 * k) (set (closed t k i (get_or s 1 0)) 2 (get_or s 2 0)) ≡ take (4 * k) s
opened-leave s s' t k i pos o l e =
    let v : ℕ = get_or s 2 0 in
    let c : ℕ = get_or s 1 0 in
    let ls : length s' ≡ length s = sym (length-set s' 2 v) ∙ o.same in
    let t' : take (4 * i) (set t 2 v) ≡ take (4 * i) (set s' 2 v) =
    below-ext (4 * i) (set s' 2 v) (set t 2 v) (length-set t 2 v ∙ l ∙ sym o.same) (λ x p q. alike_at s' t x 2 v (l ∙ sym ls) (below_at (4 * i) s' t e x p)) in
    let r : take (4 * k) (closed (set t 2 v) k i c) ≡ take (4 * k) s = o.back (set t 2 v) (length-set t 2 v ∙ l) t' in
    let a : Alike 2 (closed t k i c) (closed (set t 2 v) k i c) =
    alike_set 2 (unlinked_all t k (i - k)) (unlinked_all (set t 2 v) k (i - k)) 1 c (alike-unlinked-all 2 t (set t 2 v) k (i - k) (omega arith) (alike-put 2 v t)) in
    let lc : length (closed t k i c) ≡ length s = length-set (unlinked_all t k (i - k)) 1 c ∙ length-unlinked-all t k (i - k) ∙ l in
    below-ext (4 * k) s (set (closed t k i c) 2 v) (length-set (closed t k i c) 2 v ∙ lc)
    (λ x p q. go (closed t k i c) (closed (set t 2 v) k i c) a lc x q (below_at (4 * k) s (closed (set t 2 v) k i c) r x p))
  where
    go : (u u' : List ℕ) → Alike 2 u u' → length u ≡ length s → (x : ℕ) → x < length s → get_or u' x 0 ≡ get_or s x 0 → get_or (set u 2 (get_or s 2 0)) x 0 ≡ get_or s x 0
    go u u' a m x q f = at (eqb x 2) refl
      where
        at : (b : Bool) → eqb x 2 ≡ b → get_or (set u 2 (get_or s 2 0)) x 0 ≡ get_or s x 0
        at true h =
            let g : x ≡ 2 = eqb-true x 2 h in
            subst (λ (j : ℕ). get_or (set u 2 (get_or s 2 0)) j 0 ≡ get_or s j 0) (sym g) (get_or-set_same u 2 (get_or s 2 0) 0 (omega arith))
        at false h = let n = eqb-false x 2 h in get_or-set_other u 2 x (get_or s 2 0) 0 n ∙ sym (a.at x n) ∙ f

-- ---- one row

-- what stands at x once the head's cell and the count are put back
back_at : (s t : List ℕ) (h x : ℕ) → length t ≡ length s → x < length s → ((x ≡ 1 → ⊥) → (x ≡ h → ⊥) → get_or t x 0 ≡ get_or s x 0) → get_or (set (set t h (get_or s h 0)) 1 (get_or s 1 0)) x 0 ≡ get_or s x 0
back_at s t h x l q f = one (eqb x 1) refl
  where
    here : (b : Bool) → eqb x h ≡ b → (x ≡ 1 → ⊥) → get_or (set t h (get_or s h 0)) x 0 ≡ get_or s x 0
    here true e n =
        let g : x ≡ h = eqb-true x h e in
        subst (λ (j : ℕ). get_or (set t h (get_or s h 0)) j 0 ≡ get_or s j 0) (sym g) (get_or-set_same t h (get_or s h 0) 0 (omega arith))
    here false e n = get_or-set_other t h x (get_or s h 0) 0 (eqb-false x h e) ∙ f n (eqb-false x h e)

    one : (b : Bool) → eqb x 1 ≡ b → get_or (set (set t h (get_or s h 0)) 1 (get_or s 1 0)) x 0 ≡ get_or s x 0
    one true e =
        let g : x ≡ 1 = eqb-true x 1 e in
        subst (λ (j : ℕ). get_or (set (set t h (get_or s h 0)) 1 (get_or s 1 0)) j 0 ≡ get_or s j 0) (sym g)
        (get_or-set_same (set t h (get_or s h 0)) 1 (get_or s 1 0) 0 (omega (arith, length-set t h (get_or s h 0))))
    one false e = let n = eqb-false x 1 e in get_or-set_other (set t h (get_or s h 0)) 1 x (get_or s 1 0) 0 n ∙ here (eqb x h) refl n

-- a row in view, linked to what its head led to
pub opened-row : (s s' : List ℕ) (k h : ℕ) → length s' ≡ length s → kind_at s' k < 6 → head_at s' k ≡ h → link_at s' k ≡ get_or s h 0
    → ((x : ℕ) → x < 4 * k → (x ≡ 1 → ⊥) → (x ≡ h → ⊥) → get_or s' x 0 ≡ get_or s x 0) → Opened s s' k (k + 1)
unfolding unlinked_all
opened-row s s' k h ls kd hd lk f =
    record {
      order = omega arith;
      same = ls;
      back = λ t l e.
          let z : k + 1 - k ≡ 1 = omega arith in
          let y : k + 0 ≡ k = omega arith in
          let e₂ : cell t k 2 ≡ cell s' k 2 = below_at (4 * (k + 1)) s' t e (4 * k + 2) (omega arith) in
          let kt : kind_at t k < 6 = rw e₂ kd in
          let ht : h ≡ head_at t k = sym (rw e₂ hd) in
          let lt : get_or s h 0 ≡ link_at t k = sym (rw e₂ lk) in
          let w : unlinked t k ≡ set t h (get_or s h 0) = sym (unlinked-row t k (kind_at t k) h (get_or s h 0) refl kt ht lt) in
          ap (λ (n : ℕ). take (4 * k) (set (unlinked_all t k n) 1 (get_or s 1 0))) z
          ∙ ap (λ (n : ℕ). take (4 * k) (set (unlinked t n) 1 (get_or s 1 0))) y
          ∙ ap (λ (u : List ℕ). take (4 * k) (set u 1 (get_or s 1 0))) w
          ∙ below-ext (4 * k) s (set (set t h (get_or s h 0)) 1 (get_or s 1 0)) (length-set (set t h (get_or s h 0)) 1 (get_or s 1 0) ∙ length-set t h (get_or s h 0) ∙ l)
          (λ x p q. back_at s t h x l q (λ n m. below_at (4 * (k + 1)) s' t e x (omega arith) ∙ f x p n m));
    }

-- a note is not in view
pub opened-note : (s s' : List ℕ) (k : ℕ) → length s' ≡ length s → 6 ≤ kind_at s' k → ((x : ℕ) → x < 4 * k → (x ≡ 1 → ⊥) → get_or s' x 0 ≡ get_or s x 0) → Opened s s' k (k + 1)
unfolding unlinked_all
opened-note s s' k ls kd f =
    record {
      order = omega arith;
      same = ls;
      back = λ t l e.
          let z : k + 1 - k ≡ 1 = omega arith in
          let y : k + 0 ≡ k = omega arith in
          let e₂ : cell t k 2 ≡ cell s' k 2 = below_at (4 * (k + 1)) s' t e (4 * k + 2) (omega arith) in
          let kt : 6 ≤ kind_at t k = rw e₂ kd in
          let w : unlinked t k ≡ t = sym (unlinked-note t k (kind_at t k) refl kt) in
          ap (λ (n : ℕ). take (4 * k) (set (unlinked_all t k n) 1 (get_or s 1 0))) z
          ∙ ap (λ (n : ℕ). take (4 * k) (set (unlinked t n) 1 (get_or s 1 0))) y
          ∙ ap (λ (u : List ℕ). take (4 * k) (set u 1 (get_or s 1 0))) w
          ∙ below-ext (4 * k) s (set t 1 (get_or s 1 0)) (length-set t 1 (get_or s 1 0) ∙ l)
          (λ x p q. one_at s t x l q (λ n. below_at (4 * (k + 1)) s' t e x (omega arith) ∙ f x p n));
    }
  where
    one_at : (s t : List ℕ) (x : ℕ) → length t ≡ length s → x < length s → ((x ≡ 1 → ⊥) → get_or t x 0 ≡ get_or s x 0) → get_or (set t 1 (get_or s 1 0)) x 0 ≡ get_or s x 0
    one_at s t x l q f = go (eqb x 1) refl
      where
        go : (b : Bool) → eqb x 1 ≡ b → get_or (set t 1 (get_or s 1 0)) x 0 ≡ get_or s x 0
        go true e = let g : x ≡ 1 = eqb-true x 1 e in subst (λ (j : ℕ). get_or (set t 1 (get_or s 1 0)) j 0 ≡ get_or s j 0) (sym g) (get_or-set_same t 1 (get_or s 1 0) 0 (omega arith))
        go false e = get_or-set_other t 1 x (get_or s 1 0) 0 (eqb-false x 1 e) ∙ f (eqb-false x 1 e)

pub opened-noted : (s : List ℕ) (k kind a z : ℕ) → 4 * k + 4 ≤ length s → a < 65536 → 6 ≤ kind → kind < 8 → Opened s (noted s k kind a z) k (k + 1)
opened-noted s k kind a z r ha low high =
    opened-note s (noted s k kind a z) k (length-noted s k kind a z r) (omega (arith, noted-kind s k kind a z r high)) (λ x p n. noted-below s k kind a z r x p)

-- a row that was pushed; the level is as it was, or is put back
pub opened-like : (vw : View) (b s s' : List ℕ) (k kind q a n c lv tail : ℕ) → Pushable vw b s k kind q a n → length s' ≡ length s → Counted (pushed (text_of b q) s k kind q a n c lv tail) s'
    → get_or s' 2 0 ≡ get_or s 2 0 → Opened s s' k (k + 1)
opened-like vw b s s' k kind q a n c lv tail p l like two =
    let r = row_pushed vw b s s' k kind q a n c lv tail p l like in
    let hs = heads-below vw b s k p.seen in
    let m = p.seen.base.mask in
    opened-row s s' k (head_for (text_of b q) s) l (omega (arith, r.kinds, p.kinds)) r.head r.link
    (λ x u n₁ nh. at x u n₁ nh (omega arith) (eqb x 2) refl)
  where
    at : (x : ℕ) → x < 4 * k → (x ≡ 1 → ⊥) → (x ≡ head_for (text_of b q) s → ⊥) → 9 + get_or s 0 0 ≤ 4 * k → (t : Bool) → eqb x 2 ≡ t → get_or s' x 0 ≡ get_or s x 0
    at x u n₁ nh hs true e = subst (λ (j : ℕ). get_or s' j 0 ≡ get_or s j 0) (sym (eqb-true x 2 e)) two
    at x u n₁ nh hs false e = like x n₁ (eqb-false x 2 e) ∙ pushed-below (text_of b q) s k kind q a n c lv tail p.room hs x u nh

pub opened-bound : (vw : View) (b s : List ℕ) (k kind q n : ℕ) → Seen vw b s k → length b ≤ 32768 → 4 * k + 4 ≤ length s → end_of b q ≤ length b → kind < 3 → n < 65536
    → Opened s (bound_as (text_of b q) s k kind q n) k (k + 1)
unfolding bound_as Fields
opened-bound vw b s k kind q n g small room name low num =
    let c : ℕ = get_or s 1 0 in
    let t : List ℕ = pushed (text_of b q) s k kind q 0 n c 0 0 in
    let hs = heads-below vw b s k g in
    let hl = head-low (get_or s 0 0) (word_of (text_of b q)) (length (text_of b q)) in
    let m = g.base.mask in
    opened-like vw b s (set t 1 (c + 1)) k kind q 0 n c 0 0
    (record { seen = g; small = small; room = room; name = name; params = tt; kinds = omega arith; plain = λ _. refl; arity = omega arith; number = num })
    (length-set t 1 (c + 1) ∙ length-pushed (text_of b q) s k kind q 0 n c 0 0)
    (λ i e₁ e₂. get_or-set_other t 1 i (c + 1) 0 e₁)
    (get_or-set_other t 1 2 (c + 1) 0 (λ z. omega arith) ∙ pushed-below (text_of b q) s k kind q 0 n c 0 0 room (omega arith) 2 (omega arith) (λ z. omega arith))

pub opened-sibling : (vw : View) (b s : List ℕ) (k q a n c lv tail : ℕ) → Seen vw b s k → length b ≤ 32768 → 4 * k + 4 ≤ length s → end_of b q ≤ length b → Fields b a (end_of b q)
    → a < 65536 → n < 65536 → Opened s (pushed (text_of b q) s k 4 q a n c lv tail) k (k + 1)
opened-sibling vw b s k q a n c lv tail g small room name params ha hn =
    let hs = heads-below vw b s k g in
    let hl = head-low (get_or s 0 0) (word_of (text_of b q)) (length (text_of b q)) in
    let m = g.base.mask in
    opened-like vw b s (pushed (text_of b q) s k 4 q a n c lv tail) k 4 q a n c lv tail
    (record { seen = g; small = small; room = room; name = name; params = params; kinds = omega arith; plain = λ z. absurd (omega arith); arity = ha; number = hn })
    (length-pushed (text_of b q) s k 4 q a n c lv tail) (λ i e₁ e₂. refl)
    (pushed-below (text_of b q) s k 4 q a n c lv tail room (omega arith) 2 (omega arith) (λ z. omega arith))

pub opened-parent : (vw : View) (b s : List ℕ) (k q a n c lv v : ℕ) → Seen vw b s k → length b ≤ 32768 → 4 * k + 4 ≤ length s → end_of b q ≤ length b → Fields b a (end_of b q)
    → a < 65536 → n < 65536 → v ≡ get_or s 2 0 → Opened s (set (set (pushed (text_of b q) s k 3 q a n c lv 0) 2 (lv + 1)) 2 v) k (k + 1)
opened-parent vw b s k q a n c lv v g small room name params ha hn ev =
    let t : List ℕ = pushed (text_of b q) s k 3 q a n c lv 0 in
    let hs = heads-below vw b s k g in
    rw (set-set t 2 (lv + 1) v)
    (opened-like vw b s (set t 2 v) k 3 q a n c lv 0
    (record { seen = g; small = small; room = room; name = name; params = params; kinds = omega arith; plain = λ z. absurd (omega arith); arity = ha; number = hn })
    (length-set t 2 v ∙ length-pushed (text_of b q) s k 3 q a n c lv 0) (λ i e₁ e₂. get_or-set_other t 2 i v 0 e₂)
    (get_or-set_same t 2 v 0 (omega (arith, length-pushed (text_of b q) s k 3 q a n c lv 0)) ∙ ev))
