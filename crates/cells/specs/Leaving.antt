-- Rows that leave the view: their heads' cells change, and no row does. Assumes nothing.
use Rattle.std.specs.Prelude.{ℕ, zero, suc, ◌+◌, ◌-◌, ◌*◌, ◌≤◌, ◌<◌, ◌≡◌, refl, Bool, true, false, cond, List, ltb, length, get_or, set}
use Rattle.std.proofs.Common.{arith, sym, ap, ap₂, subst, ◌∙◌, length-set, get_or-set_other, lt-ltb, le-ltb, ltb-true}
use Rattle.cells.specs.Cells.{kind_at, head_at, link_at, unlinked, unlinked_all, closed}

pub unlinked-note : (s : List ℕ) (j k : ℕ) → k ≡ kind_at s j → 6 ≤ k → s ≡ unlinked s j
unfolding unlinked
unlinked-note s j k e h = let g : 6 ≤ kind_at s j = omega arith in sym (simp (le-ltb (kind_at s j) 6 g))

pub unlinked-row : (s : List ℕ) (j k h n : ℕ) → k ≡ kind_at s j → k < 6 → h ≡ head_at s j → n ≡ link_at s j → set s h n ≡ unlinked s j
unfolding unlinked
unlinked-row s j k h n e g p q =
    let f : kind_at s j < 6 = omega arith in
    ap₂ (λ (x : ℕ) (y : ℕ). set s x y) p q ∙ sym (simp (lt-ltb (kind_at s j) 6 f))

-- a fact of what is left of the rows, if it is one of each of the two
pub unlinked-either : (P : List ℕ → Type 0) (s : List ℕ) (j : ℕ) → P s → (kind_at s j < 6 → P (set s (head_at s j) (link_at s j))) → P (unlinked s j)
unfolding unlinked
unlinked-either P s j f g = go (ltb (kind_at s j) 6) refl
  where
    go : (t : Bool) → ltb (kind_at s j) 6 ≡ t → P (cond t (set s (head_at s j) (link_at s j)) s)
    go true e = g (ltb-true (kind_at s j) 6 e)
    go false e = f

pub length-unlinked : (s : List ℕ) (j : ℕ) → length (unlinked s j) ≡ length s
length-unlinked s j = unlinked-either (λ (t : List ℕ). length t ≡ length s) s j refl (λ _. length-set s (head_at s j) (link_at s j))

pub length-unlinked-all : (s : List ℕ) (k n : ℕ) → length (unlinked_all s k n) ≡ length s
unfolding unlinked_all
length-unlinked-all s k zero = refl
length-unlinked-all s k (suc n) = length-unlinked-all (unlinked s (k + n)) k n ∙ length-unlinked s (k + n)

pub length-closed : (s : List ℕ) (k i c : ℕ) → length (closed s k i c) ≡ length s
length-closed s k i c = length-set (unlinked_all s k (i - k)) 1 c ∙ length-unlinked-all s k (i - k)

-- the head of row j, if it is in view, stands below row k
abbrev pub HeadBelow : List ℕ → ℕ → ℕ → Type 0
HeadBelow s k j = kind_at s j < 6 → (head_at s j < length s) × (head_at s j < 4 * k)

-- what stands above the heads is kept
pub unlinked-at : (s : List ℕ) (k j : ℕ) → HeadBelow s k j → (i : ℕ) → 4 * k ≤ i → get_or (unlinked s j) i 0 ≡ get_or s i 0
unlinked-at s k j h i g =
    unlinked-either (λ (t : List ℕ). get_or t i 0 ≡ get_or s i 0) s j refl
    (λ f. get_or-set_other s (head_at s j) i (link_at s j) 0 (λ e. let b = (h f).1 in let z : ⊥ = omega arith in z))

pub head-kept : (s t : List ℕ) (k j : ℕ) → k ≤ j → length t ≡ length s → ((i : ℕ) → 4 * k ≤ i → get_or t i 0 ≡ get_or s i 0) → HeadBelow s k j → HeadBelow t k j
head-kept s t k j g e f h = rw (f (4 * j + 2) (omega arith), e) h

-- the rows from k up to j are left to leave the view
pub record Closing (s₀ : List ℕ) (k i : ℕ) (s : List ℕ) (j : ℕ) : Type 0 where
  pub low : k ≤ j
  pub high : j ≤ i
  pub same : length s ≡ length s₀
  pub safe : (x : ℕ) → k ≤ x → x < j → HeadBelow s k x
  pub goes : unlinked_all s k (j - k) ≡ unlinked_all s₀ k (i - k)

pub closing-start : (s : List ℕ) (k i : ℕ) → k ≤ i → ((x : ℕ) → k ≤ x → x < i → HeadBelow s k x) → Closing s k i s i
closing-start s k i h f = record { low = h; high = omega arith; same = refl; safe = f; goes = refl }

pub closing-more : (s₀ : List ℕ) (k i : ℕ) (s : List ℕ) (j x : ℕ) → Closing s₀ k i s j → j ≡ x + 1 → k ≤ x → Closing s₀ k i (unlinked s x) x
unfolding unlinked_all
closing-more s₀ k i s j x c e h =
    let g : j - k ≡ suc (x - k) = omega arith in
    let f : k + (x - k) ≡ x = omega arith in
    let b : HeadBelow s k x = c.safe x h (omega arith) in
    record {
      low = h;
      high = omega (arith, c.high);
      same = length-unlinked s x ∙ c.same;
      safe = λ y p q. head-kept s (unlinked s x) k y p (length-unlinked s x) (unlinked-at s k x b) (c.safe y p (omega arith));
      goes = ap (λ (y : ℕ). unlinked_all (unlinked s y) k (x - k)) (sym f) ∙ ap (λ (n : ℕ). unlinked_all s k n) (sym g) ∙ c.goes;
    }

pub closing-next : (s₀ : List ℕ) (k i : ℕ) (s s' : List ℕ) (j x : ℕ) → Closing s₀ k i s j → s' ≡ unlinked s x → j ≡ x + 1 → k ≤ x → Closing s₀ k i s' x
closing-next s₀ k i s s' j x c q e h = subst (λ (t : List ℕ). Closing s₀ k i t x) (sym q) (closing-more s₀ k i s j x c e h)

pub closing-done : (s₀ : List ℕ) (k i : ℕ) (s : List ℕ) (j c : ℕ) → Closing s₀ k i s j → j ≤ k → set s 1 c ≡ closed s₀ k i c
unfolding unlinked_all
closing-done s₀ k i s j c w h = let g : j - k ≡ 0 = omega arith in ap (λ (t : List ℕ). set t 1 c) (ap (λ (n : ℕ). unlinked_all s k n) (sym g) ∙ w.goes)
