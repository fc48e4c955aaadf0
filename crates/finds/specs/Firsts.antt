-- The first row of a list that matches: over rows one after the other, over those of a bucket, and along the links. Assumes nothing.
use Rattle.std.specs.Prelude.{ℕ, zero, suc, ◌+◌, ◌≤◌, ◌<◌, ◌≡◌, refl, ◌⊎◌, Bool, true, false, cond, List, [], ◌∷◌, ◌++◌}
use Rattle.std.proofs.Common.{arith, add-suc, add-zero, add_assoc, eq-or-lt_of_le, sym, ap, subst, ◌∙◌, inl, inr}
use lib.Dec.{T, eqb, ltb, lt→ltb}
use Rattle.rules.specs.Lists.{Member, Every}
use Rattle.cells.specs.Cells.{kind_at, head_at, link_at, bound, bucket, Chain}
use Rattle.finds.specs.Means.{first_of}
use Rattle.finds.specs.Keys.{true-T, T_true, eq-T}

-- ---- one list after the other

pub first-none : (f : ℕ → Bool) (xs ys : List ℕ) → Every (λ (j : ℕ). 0 < j) xs → first_of f xs ≡ 0 → first_of f (xs ++ ys) ≡ first_of f ys
unfolding first_of
first-none f [] ys h e = refl
first-none f (j ∷ xs) ys h e = go (f j) (λ q. first-none f xs ys h.1 q) e
  where
    go : (t : Bool) → (first_of f xs ≡ 0 → first_of f (xs ++ ys) ≡ first_of f ys) → cond t j (first_of f xs) ≡ 0 → cond t j (first_of f (xs ++ ys)) ≡ first_of f ys
    go true k q = absurd (omega (arith, h.0))
    go false k q = k q

pub first_some : (f : ℕ → Bool) (xs ys : List ℕ) → 0 < first_of f xs → first_of f (xs ++ ys) ≡ first_of f xs
unfolding first_of
first_some f [] ys h = absurd (omega arith)
first_some f (j ∷ xs) ys h = go (f j) (λ q. first_some f xs ys q) h
  where
    go : (t : Bool) → (0 < first_of f xs → first_of f (xs ++ ys) ≡ first_of f xs) → 0 < cond t j (first_of f xs) → cond t j (first_of f (xs ++ ys)) ≡ cond t j (first_of f xs)
    go true k q = refl
    go false k q = k q

-- two tests that agree on the list
pub first-same : (f g : ℕ → Bool) (js : List ℕ) → ((j : ℕ) → Member j js → f j ≡ g j) → first_of f js ≡ first_of g js
unfolding first_of
first-same f g [] h = refl
first-same f g (j ∷ js) h = rw (h j (inl refl), first-same f g js (λ i m. h i (inr m)))

-- nothing matches
pub first-zero : (f : ℕ → Bool) (js : List ℕ) → ((j : ℕ) → Member j js → f j ≡ false) → first_of f js ≡ 0
unfolding first_of
first-zero f [] h = refl
first-zero f (j ∷ js) h = rw (h j (inl refl)) (first-zero f js (λ i m. h i (inr m)))

pub first-cons : (f : ℕ → Bool) (j : ℕ) (js : List ℕ) → f j ≡ true → first_of f (j ∷ js) ≡ j
unfolding first_of
first-cons f j js e = rw e

pub first_rest : (f : ℕ → Bool) (j : ℕ) (js : List ℕ) → f j ≡ false → first_of f (j ∷ js) ≡ first_of f js
unfolding first_of
first_rest f j js e = rw e

pub first-nil : (f : ℕ → Bool) → first_of f [] ≡ 0
unfolding first_of
first-nil f = refl

-- the rows of one bucket do, where all that matches is in it
pub bucket-first : (f : ℕ → Bool) (s : List ℕ) (h : ℕ) (js : List ℕ) → ((j : ℕ) → Member j js → T (f j) → head_at s j ≡ h) → first_of f (bucket s h js) ≡ first_of f js
unfolding first_of bucket
bucket-first f s h [] k = refl
bucket-first f s h (j ∷ js) k =
    go (eqb (head_at s j) h) refl (f j) refl (bucket-first f s h js (λ i m. k i (inr m)))
  where
    go : (t : Bool) → eqb (head_at s j) h ≡ t → (u : Bool) → f j ≡ u → first_of f (bucket s h js) ≡ first_of f js
        → first_of f (cond t (j ∷ bucket s h js) (bucket s h js)) ≡ cond u j (first_of f js)
    go true p u q e = rw (q, e)
    go false p true q e = absurd (subst T p (eq-T (head_at s j) h (k j (inl refl) (true-T (f j) q))))
    go false p false q e = e

-- ---- rows one after the other

append-cond : (t : Bool) (j : ℕ) (xs ys : List ℕ) → cond t (j ∷ (xs ++ ys)) (xs ++ ys) ≡ cond t (j ∷ xs) xs ++ ys
append-cond true j xs ys = refl
append-cond false j xs ys = refl

pub bound-split : (s : List ℕ) (lo m n : ℕ) → bound s lo (m + n) ≡ bound s (lo + m) n ++ bound s lo m
unfolding bound
bound-split s lo m zero = rw add-zero
bound-split s lo m (suc n) =
    let e : m + suc n ≡ suc (m + n) = add-suc m n in
    let a : lo + (m + n) ≡ lo + m + n = sym (add_assoc lo m n) in
    rw e (rw (a, bound-split s lo m n) (append-cond (ltb (kind_at s (lo + m + n)) 6) (lo + m + n) (bound s (lo + m) n) (bound s lo m)))

pub bound-first : (s : List ℕ) (lo n : ℕ) → kind_at s lo < 6 → bound s lo (suc n) ≡ bound s (suc lo) n ++ (lo ∷ [])
unfolding bound
bound-first s lo n h =
    let e : suc n ≡ 1 + n = omega arith in
    let a : lo + 1 ≡ suc lo = omega arith in
    let z : lo + 0 ≡ lo = omega arith in
    let k : ltb (kind_at s lo) 6 ≡ true = T_true (ltb (kind_at s lo) 6) (lt→ltb (kind_at s lo) 6 h) in
    let w : bound s lo 1 ≡ lo ∷ [] = rw (z, k) in
    let u : bound s (lo + 1) n ++ bound s lo 1 ≡ bound s (suc lo) n ++ (lo ∷ []) = cc in
    subst (λ (k : ℕ). bound s lo k ≡ bound s (suc lo) n ++ (lo ∷ [])) (sym e) (bound-split s lo 1 n ∙ u)

pub member-left : (j : ℕ) (xs ys : List ℕ) → Member j xs → Member j (xs ++ ys)
member-left j [] ys x' = elim x' [ ]
member-left j (x ∷ xs) ys (inl e) = inl e
member-left j (x ∷ xs) ys (inr m) = inr (member-left j xs ys m)

pub member_right : (j : ℕ) (xs ys : List ℕ) → Member j ys → Member j (xs ++ ys)
member_right j [] ys m = m
member_right j (x ∷ xs) ys m = inr (member_right j xs ys m)

pub member-bound : (s : List ℕ) (lo n j : ℕ) → lo ≤ j → j < lo + n → kind_at s j < 6 → Member j (bound s lo n)
unfolding bound
member-bound s lo zero j p q k = absurd (omega arith)
member-bound s lo (suc n) j p q k = go (eq-or-lt_of_le (omega arith)) (ltb (kind_at s (lo + n)) 6) refl (λ w. member-bound s lo n j p w k)
  where
    go : (j ≡ lo + n) ⊎ (j < lo + n) → (t : Bool) → ltb (kind_at s (lo + n)) 6 ≡ t → (j < lo + n → Member j (bound s lo n))
        → Member j (cond t ((lo + n) ∷ bound s lo n) (bound s lo n))
    go (inl e) true u f = inl e
    go (inl e) false u f = absurd (subst T u (lt→ltb (kind_at s (lo + n)) 6 (subst (λ (i : ℕ). kind_at s i < 6) e k)))
    go (inr h) true u f = inr (f h)
    go (inr h) false u f = f h

-- a member of these rows
pub in-bound : (s : List ℕ) (lo n j : ℕ) → Member j (bound s lo n) → (lo ≤ j) × (j < lo + n) × (kind_at s j < 6)
unfolding bound
in-bound s lo zero j m = absurd m
in-bound s lo (suc n) j m = go (ltb (kind_at s (lo + n)) 6) refl (λ w. in-bound s lo n j w) m
  where
    more : (lo ≤ j) × (j < lo + n) × (kind_at s j < 6) → (lo ≤ j) × (j < lo + suc n) × (kind_at s j < 6)
    more w = (w.0, omega (arith, w.1), w.2)

    go : (t : Bool) → ltb (kind_at s (lo + n)) 6 ≡ t → (Member j (bound s lo n) → (lo ≤ j) × (j < lo + n) × (kind_at s j < 6))
        → Member j (cond t ((lo + n) ∷ bound s lo n) (bound s lo n)) → (lo ≤ j) × (j < lo + suc n) × (kind_at s j < 6)
    go true u f (inl e) =
        (omega arith, omega arith, subst (λ (i : ℕ). kind_at s i < 6) (sym e) (lib.Dec.ltb→lt (kind_at s (lo + n)) 6 (true-T (ltb (kind_at s (lo + n)) 6) u)))
    go true u f (inr w) = more (f w)
    go false u f w = more (f w)

-- ---- along the links

-- each is less than the one before it, the first less than h
unfoldable pub Below : ℕ → List ℕ → Type 0
Below h [] = Unit {0}
Below h (i ∷ is) = (i < h) × Below i is

pub below_more : (h k : ℕ) (js : List ℕ) → h ≤ k → Below h js → Below k js
unfolding Below
below_more h k [] p w = tt
below_more h k (j ∷ js) p w = (omega (arith, w.0), w.1)

pub below-bound : (s : List ℕ) (lo n : ℕ) (ys : List ℕ) → Below lo ys → Below (lo + n) (bound s lo n ++ ys)
unfolding bound Below
below-bound s lo zero ys w = subst (λ (h : ℕ). Below h ys) (sym (add-zero lo)) w
below-bound s lo (suc n) ys w = go (ltb (kind_at s (lo + n)) 6) (below-bound s lo n ys w)
  where
    go : (t : Bool) → Below (lo + n) (bound s lo n ++ ys) → Below (lo + suc n) (cond t ((lo + n) ∷ bound s lo n) (bound s lo n) ++ ys)
    go true u = (omega arith, u)
    go false u = below_more (lo + n) (lo + suc n) (bound s lo n ++ ys) (omega arith) u

pub below-bucket : (s : List ℕ) (h k : ℕ) (js : List ℕ) → Below k js → Below k (bucket s h js)
unfolding bucket Below
below-bucket s h k [] w = tt
below-bucket s h k (j ∷ js) w = go (eqb (head_at s j) h) (below-bucket s h j js w.1)
  where
    go : (t : Bool) → Below j (bucket s h js) → Below k (cond t (j ∷ bucket s h js) (bucket s h js))
    go true u = (w.0, u)
    go false u = below_more j k (bucket s h js) (omega (arith, w.0)) u

pub member-bucket : (s : List ℕ) (h : ℕ) (js : List ℕ) (j : ℕ) → Member j (bucket s h js) → Member j js
unfolding bucket
member-bucket s h [] j m = m
member-bucket s h (i ∷ js) j m = go (eqb (head_at s i) h) (λ w. member-bucket s h js j w) m
  where
    go : (t : Bool) → (Member j (bucket s h js) → Member j js) → Member j (cond t (i ∷ bucket s h js) (bucket s h js)) → Member j (i ∷ js)
    go true f (inl e) = inl e
    go true f (inr w) = inr (f w)
    go false f w = inr (f w)

pub every-member : (P : ℕ → Type 0) (js : List ℕ) → ((j : ℕ) → Member j js → P j) → Every P js
every-member P [] f = tt
every-member P (j ∷ js) f = (f j (inl refl), every-member P js (λ i m. f i (inr m)))

-- at a row that is none the chain ends; else it goes on
pub chain-nil : (s : List ℕ) (j : ℕ) (js : List ℕ) → Chain s j js → j ≡ 0 → js ≡ []
unfolding Chain
chain-nil s j [] c e = refl
chain-nil s j (i ∷ js) c e = absurd (omega (arith, c.0, c.1))

pub record Goes (s : List ℕ) (j : ℕ) (js : List ℕ) : Type 0 where
  pub rest : List ℕ
  pub are : js ≡ j ∷ rest
  pub next : Chain s (link_at s j) rest

pub chain-cons : (s : List ℕ) (j : ℕ) (js : List ℕ) → Chain s j js → (j ≡ 0 → ⊥) → Goes s j js
unfolding Chain
chain-cons s j [] c e = absurd (e c)
chain-cons s j (i ∷ js) c e =
    record { rest = js; are = ap (λ (z : ℕ). z ∷ js) (sym c.0); next = subst (λ (z : ℕ). Chain s (link_at s z) js) (sym c.0) c.2 }

-- the next row is one further out
pub chain-below : (s : List ℕ) (i j : ℕ) (js : List ℕ) → Chain s j js → Below i js → 0 < i → (j < i) × Below (suc j) js
unfolding Chain Below
chain-below s i j [] c w h = (omega (arith, c), tt)
chain-below s i j (r ∷ js) c w h = (omega (arith, c.0, w.0), (omega (arith, c.0), w.1))
