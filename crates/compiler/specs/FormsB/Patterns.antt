-- Patterns: the keys that they insert, and a note for each pattern. Loops over members are stated by what is still due: whatever the rules give for the members
-- that are left, they give for all. Assumes nothing.
use Rattle.std.specs.Prelude.{ℕ, zero, suc, ◌+◌, ◌-◌, ◌*◌, ◌≤◌, ◌<◌, ◌≡◌, refl, Bool, true, false, List, [], ◌∷◌, ◌++◌, eqb, length, get_or}
use Rattle.std.proofs.Common.{arith, sym, ap, ap₂, subst, ◌∙◌, eqb-true}
use Rattle.std.proofs.Math.ListN.{take}
use Rattle.std.proofs.lemmas.Bool.{eqb-false}
use Rattle.tree.specs.Rose.{rnil, end_of, Row}
use Rattle.tree.specs.Form.{f_patterns, f_pat_entries}
use Rattle.tree.specs.Tree.{Pattern, p_var, p_arr, p_obj, Patterns, ps_nil, ps_cons, PatEntries, pes_nil, pes_cons}
use Rattle.rules.specs.Table.{Pat, pat_idx, Pats, pats_cons}
use Rattle.rules.specs.Rows.{Env}
use Rattle.rules.specs.Rules.{term, pattern, elements, keyed}
use Rattle.reads.specs.Bytes.{PatternAt}
use Rattle.reads.specs.Widths.{pat_width}
use Rattle.reads.specs.Parts.{on-pat-var, on-pat-array, on-pat-object, pattern-fits}
use Rattle.puts.specs.declared.state.State.{State}
use Rattle.puts.specs.State.{num, off, Put}
use Rattle.puts.specs.Rooms.{put-none}
use Rattle.cells.specs.Cells.{View, Seen, env_of, number_at, last_at}
use Rattle.cells.specs.Notes.{lasts_of, notes_in, notes_all, notes_keyed, pat_at, pats_at, keyed_at, places_in, places_all, places_keyed}
use Rattle.compiler.specs.Post.{Ready, NoteFits, Patterned, Members, Keyed}
use Rattle.compiler.specs.Moves.{kept_less, NoteIs, number-kept, last-kept, kind-kept}

-- ---- rows that are kept are read alike

pub notes-some : (x : Pattern) → 1 ≤ notes_in x
unfolding notes_in
notes-some (p_var p x) = omega arith
notes-some (p_arr p xs) = omega arith
notes-some (p_obj p xs) = omega arith

three : (a a' : ℕ) (c c' : Pat) (d d' : Pats) → a ≡ a' → c ≡ c' → d ≡ d' → pats_cons a c d ≡ pats_cons a' c' d'
three a a' c c' d d' e f g = ap₂ (λ (y : Pat) (z : Pats). pats_cons a y z) f g ∙ ap (λ (y : ℕ). pats_cons y c' d') e

mutual
  unfolding pat_at notes_in

  pub pat-kept : (s s' : List ℕ) (x : Pattern) (k : ℕ) → ((j : ℕ) → k ≤ j → j < k + notes_in x → number_at s' j ≡ number_at s j) → pat_at s' x k ≡ pat_at s x k
  pat-kept s s' (p_var p x) k h = refl
  pat-kept s s' (p_arr p xs) k h = ap pat_idx (pats-kept s s' xs (suc k) (λ j a c. h j (omega (arith, a)) (omega (arith, c))))
  pat-kept s s' (p_obj p xs) k h = ap pat_idx (keyed-kept s s' xs (suc k) (λ j a c. h j (omega (arith, a)) (omega (arith, c))))

  pub pats-kept : (s s' : List ℕ) (xs : Patterns) (k : ℕ) → ((j : ℕ) → k ≤ j → j < k + notes_all xs → number_at s' j ≡ number_at s j) → pats_at s' xs k ≡ pats_at s xs k
  pats-kept s s' ps_nil k h = refl
  pats-kept s s' (ps_cons x xs) k h =
      let f = notes-some x in
      let a : number_at s' k ≡ number_at s k = h k (omega arith) (omega (arith, f)) in
      let c : pat_at s' x k ≡ pat_at s x k = pat-kept s s' x k (λ j l m. h j l (omega (arith, m))) in
      let d : pats_at s' xs (k + notes_in x) ≡ pats_at s xs (k + notes_in x) = pats-kept s s' xs (k + notes_in x) (λ j l m. h j (omega (arith, l)) (omega (arith, m))) in
      three (number_at s' k) (number_at s k) (pat_at s' x k) (pat_at s x k) (pats_at s' xs (k + notes_in x)) (pats_at s xs (k + notes_in x)) a c d

  pub keyed-kept : (s s' : List ℕ) (xs : PatEntries) (k : ℕ) → ((j : ℕ) → k ≤ j → j < k + notes_keyed xs → number_at s' j ≡ number_at s j) → keyed_at s' xs k ≡ keyed_at s xs k
  keyed-kept s s' pes_nil k h = refl
  keyed-kept s s' (pes_cons q t x xs) k h =
      let f = notes-some x in
      let a : number_at s' k ≡ number_at s k = h k (omega arith) (omega (arith, f)) in
      let c : pat_at s' x k ≡ pat_at s x k = pat-kept s s' x k (λ j l m. h j l (omega (arith, m))) in
      let d : keyed_at s' xs (k + notes_in x) ≡ keyed_at s xs (k + notes_in x) = keyed-kept s s' xs (k + notes_in x) (λ j l m. h j (omega (arith, l)) (omega (arith, m))) in
      three (number_at s' k) (number_at s k) (pat_at s' x k) (pat_at s x k) (keyed_at s' xs (k + notes_in x)) (keyed_at s xs (k + notes_in x)) a c d

pub lasts-kept : (s s' : List ℕ) (n k : ℕ) → ((j : ℕ) → k ≤ j → j < k + n → last_at s' j ≡ last_at s j) → lasts_of s' k n ≡ lasts_of s k n
unfolding lasts_of
lasts-kept s s' zero k h = refl
lasts-kept s s' (suc n) k h = ap₂ (λ (x : ℕ) (l : List ℕ). x ∷ l) (h k (omega arith) (omega arith)) (lasts-kept s s' n (suc k) (λ j a c. h j (omega (arith, a)) (omega (arith, c))))

pub lasts-append : (s : List ℕ) (n m k : ℕ) → lasts_of s k (n + m) ≡ lasts_of s k n ++ lasts_of s (k + n) m
unfolding lasts_of
lasts-append s zero m k =
    let e : 0 + m ≡ m = omega arith in
    let f : k ≡ k + 0 = omega arith in
    ap (λ (i : ℕ). lasts_of s k i) e ∙ ap (λ (i : ℕ). lasts_of s i m) f
lasts-append s (suc n) m k =
    let e : suc n + m ≡ suc (n + m) = omega arith in
    let f : suc k + n ≡ k + suc n = omega arith in
    ap (λ (i : ℕ). lasts_of s k i) e
    ∙ ap (λ (l : List ℕ). last_at s k ∷ l) (lasts-append s n m (suc k) ∙ ap (λ (i : ℕ). lasts_of s (suc k) n ++ lasts_of s i m) f)

-- ---- one pattern

-- the row that its note takes, and the rows that its members may take
abbrev pub Spare : List ℕ → List ℕ → ℕ → ℕ → Type 0
Spare b s k q = 12 * k + 4 * (length b - q) ≤ 3 * length s

pub pattern-room : (b s : List ℕ) (k q : ℕ) → (x : Pattern) → PatternAt b x q → Spare b s k q → 4 * k + 4 ≤ length s
pattern-room b s k q x h e = omega (arith, pattern-fits b x q h, e)

-- what Patterned says of one view and one pattern
abbrev PatIs : View → List ℕ → List ℕ → List ℕ → ℕ → ℕ → State → State → List ℕ → List ℕ → ℕ → Pattern → ℕ → Type 0
PatIs vw b s s' k n st st' d d' r x p =
    let m = pattern vw.top x p (env_of vw b s k) (num st) in
    Put m.more m.errs st st' d d' × (pat_at s' x k ≡ m.made) × (lasts_of s' k (notes_in x) ≡ places_in x) × (number_at s' k ≡ n) × (r ≡ k + notes_in x)

pub pattern-var : (b : List ℕ) (q : ℕ) (s s₁ : List ℕ) (k n : ℕ) (st : State) (d : List ℕ) → get_or b q 0 ≡ 0x98 → end_of b q ≤ length b → NoteIs b s s₁ k 6 n q → Patterned b q s s₁ k n st st d d (k + 1)
unfolding term pat_at places_in notes_in lasts_of pat_width
pattern-var b q s s₁ k n st d e fit h =
    record {
      is = λ vw g x p. on-pat-var b q (λ y. PatIs vw b s s₁ k n st st d d (k + 1) y p) e (λ y f t o. (put-none st d, refl, ap (λ (i : ℕ). i ∷ []) h.last, h.number, refl)) x;
      seen = h.seen;
      notes = λ j l m.
          let i : k ≡ j = omega (arith, l, m) in
          subst (λ (y : ℕ). NoteFits b s₁ y) i (h.kinds, λ z. subst (λ (y : ℕ). end_of b y ≤ length b) (sym h.last) fit);
      rows = omega arith;
      wide = on-pat-var b q (λ x. off st + pat_width x + 64 * (q + 1) ≤ off st + 64 * end_of b q) e (λ x f t o. omega arith);
      paid = record { kept = h.kept; same = h.same; nums = omega arith; offs = omega arith; errs = omega arith };
    }

-- its members' notes stand behind its own
module _ (b : List ℕ) (q : ℕ) (s s₁ s₂ : List ℕ) (k n r : ℕ) (st st₂ : State) (d d₂ : List ℕ) (h : NoteIs b s s₁ k 6 n 0) where
  behind-kept : take (4 * (k + 1)) s₂ ≡ take (4 * (k + 1)) s₁ → (last_at s₂ k ≡ 0) × (number_at s₂ k ≡ n) × (take (4 * k) s₂ ≡ take (4 * k) s)
  behind-kept e = (last-kept s₁ s₂ (k + 1) k e (omega arith) ∙ h.last, number-kept s₁ s₂ (k + 1) k e (omega arith) ∙ h.number, kept_less k (k + 1) s₁ s₂ (omega arith) e ∙ h.kept)

  behind-seen : ((vw : View) → Seen vw b s₁ (k + 1) → Seen vw b s₂ r × (env_of vw b s₂ r ≡ env_of vw b s₁ (k + 1))) → (vw : View) → Seen vw b s k → Seen vw b s₂ r × (env_of vw b s₂ r ≡ env_of vw b s k)
  behind-seen f vw g = let v = h.seen vw g in let w = f vw v.0 in (w.0, w.1 ∙ v.1)

  behind-notes : take (4 * (k + 1)) s₂ ≡ take (4 * (k + 1)) s₁ → ((j : ℕ) → k + 1 ≤ j → j < r → NoteFits b s₂ j) → (j : ℕ) → k ≤ j → j < r → NoteFits b s₂ j
  behind-notes e f j l m = go (eqb j k) refl
    where
      go : (t : Bool) → eqb j k ≡ t → NoteFits b s₂ j
      go true i =
          subst (λ (y : ℕ). NoteFits b s₂ y) (sym (eqb-true j k i))
          (kind-kept s₁ s₂ (k + 1) k e (omega arith) ∙ h.kinds, λ z. absurd (z (last-kept s₁ s₂ (k + 1) k e (omega arith) ∙ h.last)))
      go false i = let n = eqb-false j k i in f j (omega (arith, l, n)) m

  pub pattern-array : get_or b q 0 ≡ 0x99 → Members b q s₁ s₂ (k + 1) st st₂ d d₂ r → Patterned b q s s₂ k n st st₂ d d₂ r
  unfolding term pat_at places_in notes_in lasts_of pat_width
  pattern-array e m =
      record {
        is = λ vw g x p. on-pat-array b q (λ y. PatIs vw b s s₂ k n st st₂ d d₂ r y p) e (λ xs f w. is vw g p xs w) x;
        seen = behind-seen m.seen;
        notes = behind-notes m.paid.kept m.notes;
        rows = omega (arith, m.rows);
        wide = on-pat-array b q (λ x. off st₂ + pat_width x + 64 * (q + 1) ≤ off st + 64 * end_of b q) e (λ xs f w. omega (arith, m.wide xs w));
        paid = record { kept = c.2; same = m.paid.same ∙ h.same; nums = omega (arith, m.paid.nums); offs = omega (arith, m.paid.offs); errs = omega (arith, m.paid.errs) };
      }
    where
      c : (last_at s₂ k ≡ 0) × (number_at s₂ k ≡ n) × (take (4 * k) s₂ ≡ take (4 * k) s)
      c = behind-kept m.paid.kept

      is : (vw : View) → Seen vw b s k → (p : ℕ) (xs : Patterns) → Row b (f_patterns xs rnil) (q + 3) (end_of b q) → PatIs vw b s s₂ k n st st₂ d d₂ r (p_arr q xs) p
      is vw g p xs w =
          let v = h.seen vw g in
          let o =
          subst (λ (e₀ : Env). let y = elements vw.top xs 0 p e₀ (num st) in Put y.more y.errs st st₂ d d₂ × (pats_at s₂ xs (k + 1) ≡ y.made) × (lasts_of s₂ (k + 1) (notes_all xs) ≡ places_all xs) × (r ≡ k + 1 + notes_all xs)) v.1
          (m.arrays vw v.0 xs p w) in
          let i : suc k ≡ k + 1 = omega arith in
          (o.0, ap pat_idx (ap (λ (j : ℕ). pats_at s₂ xs j) i ∙ o.1), ap₂ (λ (x : ℕ) (l : List ℕ). x ∷ l) c.0 (ap (λ (j : ℕ). lasts_of s₂ j (notes_all xs)) i ∙ o.2), c.1, omega (arith, o.3))

  pub pattern-object : (get_or b q 0 ≡ 0x98 → ⊥) → (get_or b q 0 ≡ 0x99 → ⊥) → Keyed b q s₁ s₂ (k + 1) st st₂ d d₂ r → Patterned b q s s₂ k n st st₂ d d₂ r
  unfolding term pat_at places_in notes_in lasts_of pat_width
  pattern-object e₁ e₂ m =
      record {
        is = λ vw g x p. on-pat-object b q (λ y. PatIs vw b s s₂ k n st st₂ d d₂ r y p) e₁ e₂ (λ xs f w. is vw g p xs w) x;
        seen = behind-seen m.seen;
        notes = behind-notes m.paid.kept m.notes;
        rows = omega (arith, m.rows);
        wide = on-pat-object b q (λ x. off st₂ + pat_width x + 64 * (q + 1) ≤ off st + 64 * end_of b q) e₁ e₂ (λ xs f w. omega (arith, m.wide xs w));
        paid = record { kept = c.2; same = m.paid.same ∙ h.same; nums = omega (arith, m.paid.nums); offs = omega (arith, m.paid.offs); errs = omega (arith, m.paid.errs) };
      }
    where
      c : (last_at s₂ k ≡ 0) × (number_at s₂ k ≡ n) × (take (4 * k) s₂ ≡ take (4 * k) s)
      c = behind-kept m.paid.kept

      is : (vw : View) → Seen vw b s k → (p : ℕ) (xs : PatEntries) → Row b (f_pat_entries xs rnil) (q + 3) (end_of b q) → PatIs vw b s s₂ k n st st₂ d d₂ r (p_obj q xs) p
      is vw g p xs w =
          let v = h.seen vw g in
          let o =
          subst (λ (e₀ : Env). let y = keyed vw.top xs p e₀ (num st) in Put y.more y.errs st st₂ d d₂ × (keyed_at s₂ xs (k + 1) ≡ y.made) × (lasts_of s₂ (k + 1) (notes_keyed xs) ≡ places_keyed xs) × (r ≡ k + 1 + notes_keyed xs)) v.1
          (m.objects vw v.0 xs p w) in
          let i : suc k ≡ k + 1 = omega arith in
          (o.0, ap pat_idx (ap (λ (j : ℕ). keyed_at s₂ xs j) i ∙ o.1), ap₂ (λ (x : ℕ) (l : List ℕ). x ∷ l) c.0 (ap (λ (j : ℕ). lasts_of s₂ j (notes_keyed xs)) i ∙ o.2), c.1, omega (arith, o.3))

-- what its members may use
pub pattern-within : (b s s₁ : List ℕ) (k n q : ℕ) (st : State) → Ready b s k (q + 1) (end_of b q) st → Spare b s k q → (x : Pattern) → PatternAt b x q → NoteIs b s s₁ k 6 n 0 → Ready b s₁ (k + 1) (q + 3) (end_of b q) st
pattern-within b s s₁ k n q st y e x a h =
    record {
      small = y.small;
      view = y.view;
      seen = (h.seen y.view y.seen).0;
      order = omega arith;
      within = y.within;
      spare = omega (arith, e, h.same, pattern-fits b x q a);
      nums = omega (arith, y.nums);
      offs = omega (arith, y.offs);
      errs = omega (arith, y.errs);
    }

pub pattern-items : (b : List ℕ) (q : ℕ) → get_or b q 0 ≡ 0x99 → (x : Pattern) → PatternAt b x q → ((xs : Patterns) × Row b (f_patterns xs rnil) (q + 3) (end_of b q)) × (end_of b q ≤ length b)
pattern-items b q e = on-pat-array b q (λ _. ((xs : Patterns) × Row b (f_patterns xs rnil) (q + 3) (end_of b q)) × (end_of b q ≤ length b)) e (λ xs f w. ((xs, w), f.fits))

pub pattern-keyed : (b : List ℕ) (q : ℕ) → (get_or b q 0 ≡ 0x98 → ⊥) → (get_or b q 0 ≡ 0x99 → ⊥) → (x : Pattern) → PatternAt b x q → ((xs : PatEntries) × Row b (f_pat_entries xs rnil) (q + 3) (end_of b q)) × (end_of b q ≤ length b)
pattern-keyed b q e₁ e₂ = on-pat-object b q (λ _. ((xs : PatEntries) × Row b (f_pat_entries xs rnil) (q + 3) (end_of b q)) × (end_of b q ≤ length b)) e₁ e₂ (λ xs f w. ((xs, w), f.fits))
