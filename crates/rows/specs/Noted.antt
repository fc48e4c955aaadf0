-- Notes of a pattern, from which its variables come into view. Assumes nothing.
use Rattle.std.specs.Prelude.{ℕ, zero, suc, ◌+◌, ◌-◌, ◌≤◌, ◌<◌, ◌≡◌, refl, Bool, true, false, cond, List, [], ◌∷◌, eqb, ltb, length}
use Rattle.std.proofs.Common.{arith, sym, ap, ap₂, subst, ◌∙◌, length-append, eqb-true, ltb-false}
use Rattle.std.proofs.lemmas.Bool.{eqb-false}
use Rattle.tree.specs.Rose.{Row, rnil, At, end_of}
use Rattle.tree.specs.Tree.{Name, Term, Pattern, p_var, p_arr, p_obj, Patterns, ps_nil, ps_cons, PatEntries, pes_nil, pes_cons}
use Rattle.tree.specs.Form.{f_term, f_pattern, f_patterns, f_pat_entries}
use Rattle.rules.specs.Table.{Pat, pat_idx, Pats, pats_cons}
use Rattle.rules.specs.Rows.{var, label, arg, filter, Env}
use Rattle.rules.specs.Lists.{Every, every_append}
use Rattle.reads.specs.Bytes.{name_at, PatternAt}
use Rattle.reads.specs.Shapes.{pattern-fits, pattern-head, row-tail, head-fits, on-keyed-cons, PEntryAt}
use Rattle.cells.specs.Cells.{number_at, kind_at, place_at, last_at, filter_at, View, outer, row_at, rows_of, env_of, Seen}
use Rattle.cells.specs.Notes.{lasts_of, notes_in, notes_all, notes_keyed, pat_at, pats_at, keyed_at, places_in, places_all, places_keyed}

-- ---- rows between which nothing came into view are notes

row-empty : (b s : List ℕ) (m j : ℕ) → length (row_at b s m j) ≡ 0 → 5 ≤ kind_at s j
unfolding row_at
row-empty b s m j e = go (eqb (kind_at s j) 0) (eqb (kind_at s j) 1) (eqb (kind_at s j) 2) (ltb (kind_at s j) 5) refl e
  where
    x : Name
    x = name_at b (place_at s j)

    go : (t₀ t₁ t₂ t₃ : Bool) → ltb (kind_at s j) 5 ≡ t₃
        → length (cond t₀ (var x ∷ []) (cond t₁ (label x ∷ []) (cond t₂ (arg x ∷ []) (cond t₃ (filter (filter_at b s m j) ∷ []) [])))) ≡ 0 → 5 ≤ kind_at s j
    go true t₁ t₂ t₃ f h = absurd (omega arith)
    go false true t₂ t₃ f h = absurd (omega arith)
    go false false true t₃ f h = absurd (omega arith)
    go false false false true f h = absurd (omega arith)
    go false false false false f h = ltb-false (kind_at s j) 5 f

rows_more : (b s : List ℕ) (m lo n d : ℕ) → length (rows_of b s m lo n) ≤ length (rows_of b s m lo (n + d))
unfolding rows_of
rows_more b s m lo n zero = let e : n + 0 ≡ n = omega arith in rw e (omega arith)
rows_more b s m lo n (suc d) =
    let e : n + suc d ≡ suc (n + d) = omega arith in
    rw e (omega (arith, rows_more b s m lo n d, length-append (row_at b s m (lo + (n + d))) (rows_of b s m lo (n + d))))

rows-one : (b s : List ℕ) (m lo n : ℕ) → length (rows_of b s m lo (suc n)) ≡ length (row_at b s m (lo + n)) + length (rows_of b s m lo n)
unfolding rows_of
rows-one b s m lo n = length-append (row_at b s m (lo + n)) (rows_of b s m lo n)

pub notes-between : (vw : View) (b s : List ℕ) (k i : ℕ) → Seen vw b s i → vw.locals ≤ k → env_of vw b s i ≡ env_of vw b s k → (j : ℕ) → k ≤ j → j < i → 6 ≤ kind_at s j
notes-between vw b s k i g l e j p q =
    let m : ℕ = outer vw in
    let lo : ℕ = vw.locals in
    let a : (k - lo) + (j - k) ≡ j - lo = omega arith in
    let c : suc (j - lo) + (i - j - 1) ≡ i - lo = omega arith in
    let w : lo + (j - lo) ≡ j = omega arith in
    let u : length (rows_of b s m lo (k - lo)) ≤ length (rows_of b s m lo (j - lo)) = rw a at (rows_more b s m lo (k - lo) (j - k)) in
    let v : length (rows_of b s m lo (suc (j - lo))) ≤ length (rows_of b s m lo (i - lo)) = rw c at (rows_more b s m lo (suc (j - lo)) (i - j - 1)) in
    let o : length (rows_of b s m lo (suc (j - lo))) ≡ length (row_at b s m j) + length (rows_of b s m lo (j - lo)) = rw w at (rows-one b s m lo (j - lo)) in
    let f : length (rows_of b s m lo (i - lo)) ≡ length (rows_of b s m lo (k - lo)) = ap (λ (x : Env). length x) e in
    let z : 5 ≤ kind_at s j = row-empty b s m j (omega arith) in
    let n = (g.locals j (omega arith) q).kinds in
    omega arith

-- ---- the places of a pattern's variables

-- the places lie within the bytes
abbrev pub Fit : List ℕ → ℕ → Type 0
Fit b p = (p ≡ 0 → ⊥) → end_of b p ≤ length b

-- the entry of an object pattern at q
pub keyed-head : (b : List ℕ) (q z p : ℕ) (t : Term) (x : Pattern) (xs : PatEntries) → Row b (f_pat_entries (pes_cons p t x xs) rnil) q z → PEntryAt b q t x × Row b (f_pat_entries xs rnil) (end_of b q) z
unfolding f_term
keyed-head b q z p t x xs h =
    (on-keyed-cons b q z Entry (omega (arith, (head-fits b _ (f_pat_entries xs rnil) q z h).1)) (λ u y ys e r. e) (pes_cons p t x xs) h, row-tail b _ (f_pat_entries xs rnil) q z h)
  where
    Entry : PatEntries → Type 0
    Entry pes_nil = Unit {0}
    Entry (pes_cons q' u y ys) = PEntryAt b q u y

mutual
  unfolding At f_term places_in

  pub places-fit : (b : List ℕ) (x : Pattern) (q : ℕ) → PatternAt b x q → Every (Fit b) (places_in x)
  places-fit b (p_var p y) q h = (λ _. subst (λ (u : ℕ). end_of b u ≤ length b) (sym h.1) (pattern-fits b (p_var p y) q h), tt)
  places-fit b (p_arr p xs) q h = (λ n. absurd (n refl), places-fit-all b xs (p + 3) (end_of b p) h.0.1)
  places-fit b (p_obj p xs) q h = (λ n. absurd (n refl), places-fit-keyed b xs (p + 3) (end_of b p) h.0.1)

  places-fit-all : (b : List ℕ) (xs : Patterns) (q z : ℕ) → Row b (f_patterns xs rnil) q z → Every (Fit b) (places_all xs)
  places-fit-all b ps_nil q z h = tt
  places-fit-all b (ps_cons x xs) q z h =
      every_append (Fit b) (places_in x) (places_all xs) (places-fit b x q (pattern-head b x (f_patterns xs rnil) q z h)) (places-fit-all b xs (end_of b q) z (row-tail b (f_pattern x) (f_patterns xs rnil) q z h))

  places-fit-keyed : (b : List ℕ) (xs : PatEntries) (q z : ℕ) → Row b (f_pat_entries xs rnil) q z → Every (Fit b) (places_keyed xs)
  places-fit-keyed b pes_nil q z h = tt
  places-fit-keyed b (pes_cons p t x xs) q z h =
      let w = keyed-head b q z p t x xs h in
      every_append (Fit b) (places_in x) (places_keyed xs) (places-fit b x (end_of b (q + 3)) w.0.pat) (places-fit-keyed b xs (end_of b q) z w.1)

-- ---- what is read back of notes

pub lasts-length : (s : List ℕ) (k n : ℕ) → length (lasts_of s k n) ≡ n
unfolding lasts_of
lasts-length s k zero = refl
lasts-length s k (suc n) = ap suc (lasts-length s (suc k) n)

mutual
  unfolding places_in notes_in

  pub places-length : (x : Pattern) → length (places_in x) ≡ notes_in x
  places-length (p_var p y) = refl
  places-length (p_arr p xs) = ap suc (places-length-all xs)
  places-length (p_obj p xs) = ap suc (places-length-keyed xs)

  places-length-all : (xs : Patterns) → length (places_all xs) ≡ notes_all xs
  places-length-all ps_nil = refl
  places-length-all (ps_cons x xs) = length-append (places_in x) (places_all xs) ∙ ap₂ (λ (u : ℕ) (v : ℕ). u + v) (places-length x) (places-length-all xs)

  places-length-keyed : (xs : PatEntries) → length (places_keyed xs) ≡ notes_keyed xs
  places-length-keyed pes_nil = refl
  places-length-keyed (pes_cons p t x xs) = length-append (places_in x) (places_keyed xs) ∙ ap₂ (λ (u : ℕ) (v : ℕ). u + v) (places-length x) (places-length-keyed xs)

-- a fact of each of the second numbers is one of each row's
pub lasts-at : (P : ℕ → Type 0) (s : List ℕ) (k n : ℕ) → Every P (lasts_of s k n) → (j : ℕ) → k ≤ j → j < k + n → P (last_at s j)
unfolding lasts_of
lasts-at P s k zero h j p q = absurd (omega arith)
lasts-at P s k (suc n) h j p q = go (eqb j k) refl (λ f. lasts-at P s (suc k) n h.1 j f (omega arith))
  where
    go : (t : Bool) → eqb j k ≡ t → (suc k ≤ j → P (last_at s j)) → P (last_at s j)
    go true e f = subst (λ (i : ℕ). P (last_at s i)) (sym (eqb-true j k e)) h.0
    go false e f = let n' = eqb-false j k e in f (omega arith)

-- what `bind_notes` asks for, of the notes of the pattern x at q
pub notes-ready : (vw : View) (b s : List ℕ) (k i q : ℕ) (x : Pattern) → Seen vw b s i → vw.locals ≤ k → k ≤ i → env_of vw b s i ≡ env_of vw b s k → PatternAt b x q → lasts_of s k (i - k) ≡ places_in x
    → (j : ℕ) → k ≤ j → j < i → (6 ≤ kind_at s j) × ((last_at s j ≡ 0 → ⊥) → end_of b (last_at s j) ≤ length b)
notes-ready vw b s k i q x g l o e h f j p r =
    (notes-between vw b s k i g l e j p r, lasts-at (Fit b) s k (i - k) (subst (λ (y : List ℕ). Every (Fit b) y) (sym f) (places-fit b x q h)) j p (omega arith))

notes-some : (x : Pattern) → 0 < notes_in x
unfolding notes_in
notes-some (p_var p y) = omega arith
notes-some (p_arr p xs) = omega arith
notes-some (p_obj p xs) = omega arith

three-same : {n n' : ℕ} {x x' : Pat} {y y' : Pats} → n ≡ n' → x ≡ x' → y ≡ y' → pats_cons n x y ≡ pats_cons n' x' y'
three-same e f g = cc

-- the pattern of a record is made of the numbers alone
mutual
  unfolding notes_in pat_at

  pub pat-same : (s s' : List ℕ) (x : Pattern) (k : ℕ) → ((j : ℕ) → k ≤ j → j < k + notes_in x → number_at s' j ≡ number_at s j) → pat_at s' x k ≡ pat_at s x k
  pat-same s s' (p_var p y) k f = refl
  pat-same s s' (p_arr p xs) k f = ap pat_idx (pats-same s s' xs (suc k) (λ j u v. f j (omega arith) (omega arith)))
  pat-same s s' (p_obj p xs) k f = ap pat_idx (keyed-same s s' xs (suc k) (λ j u v. f j (omega arith) (omega arith)))

  pub pats-same : (s s' : List ℕ) (xs : Patterns) (k : ℕ) → ((j : ℕ) → k ≤ j → j < k + notes_all xs → number_at s' j ≡ number_at s j) → pats_at s' xs k ≡ pats_at s xs k
  pats-same s s' ps_nil k f = refl
  pats-same s s' (ps_cons x xs) k f =
      three-same (f k (omega arith) (omega (arith, notes-some x))) (pat-same s s' x k (λ j u v. f j u (omega arith))) (pats-same s s' xs (k + notes_in x) (λ j u v. f j (omega arith) (omega arith)))

  pub keyed-same : (s s' : List ℕ) (xs : PatEntries) (k : ℕ) → ((j : ℕ) → k ≤ j → j < k + notes_keyed xs → number_at s' j ≡ number_at s j) → keyed_at s' xs k ≡ keyed_at s xs k
  keyed-same s s' pes_nil k f = refl
  keyed-same s s' (pes_cons p t x xs) k f =
      three-same (f k (omega arith) (omega (arith, notes-some x))) (pat-same s s' x k (λ j u v. f j u (omega arith))) (keyed-same s s' xs (k + notes_in x) (λ j u v. f j (omega arith) (omega arith)))
