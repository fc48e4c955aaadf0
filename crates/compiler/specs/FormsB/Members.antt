-- The members of array and object patterns: loops. What is still due is stated by the members that are left: whatever the rules give for them, they give for
-- all. Assumes nothing.
use Rattle.std.specs.Prelude.{ℕ, suc, ◌+◌, ◌*◌, ◌≤◌, ◌<◌, ◌≡◌, refl, Bool, true, false, List, [], ◌∷◌, ◌++◌, ltb, length, take}
use Rattle.std.proofs.Common.{arith, sym, ap, ap₂, subst, ◌∙◌, ltb-true, ltb-false}
use Rattle.fields.specs.Number.{number}
use Rattle.fields.specs.Field.{field}
use Rattle.fields.specs.Room.{overlay}
use Rattle.tree.specs.Rose.{rnil, end_of, Row}
use Rattle.tree.specs.Form.{f_patterns, f_pat_entries}
use Rattle.tree.specs.Tree.{Term, Pattern, Patterns, ps_nil, ps_cons, PatEntries, pes_nil, pes_cons}
use Rattle.rules.specs.Table.{n_int, Pat, Pats, pats_cons}
use Rattle.rules.specs.Tails.{empty}
use Rattle.rules.specs.Rows.{Env}
use Rattle.rules.specs.Filters.{Top}
use Rattle.rules.specs.Outs.{Out, slot, size, Made}
use Rattle.rules.specs.Rules.{term, pattern, elements, keyed}
use Rattle.reads.specs.Bytes.{TermAt, PatternAt}
use Rattle.reads.specs.Widths.{pat_width, pats_width, keyed_width}
use Rattle.reads.specs.Parts.{on-patterns-cons, on-patterns-nil, on-keyed-cons, on-keyed-nil, row-end}
use Rattle.puts.specs.declared.state.State.{State}
use Rattle.puts.specs.State.{num, off, ers, Put, with_num, with_off}
use Rattle.puts.specs.Rooms.{put_then, put-none, put_one}
use Rattle.cells.specs.Cells.{View, Seen, env_of, number_at, last_at}
use Rattle.cells.specs.Notes.{lasts_of, notes_in, notes_all, notes_keyed, pat_at, pats_at, keyed_at, places_in, places_all, places_keyed}
use Rattle.compiler.specs.Post.{Ready, Stands, Paid, Laid, NoteFits, Patterned, Members, Keyed}
use Rattle.compiler.specs.Moves.{Stored, set_both, Keeps, keeps, kept_less, paid-wider, ready-after, ready-part, laid_as, number-kept, last-kept, kind-kept}
use Rattle.compiler.specs.FormsB.Patterns.{pat-kept, lasts-kept, lasts-append, notes-some, Spare}

-- notes below row j are kept, and more come
notes-on : (b s s' : List ℕ) (k j r : ℕ) → take (4 * j) s' ≡ take (4 * j) s → ((i : ℕ) → k ≤ i → i < j → NoteFits b s i) → ((i : ℕ) → j ≤ i → i < r → NoteFits b s' i)
    → (i : ℕ) → k ≤ i → i < r → NoteFits b s' i
notes-on b s s' k j r e f g i l m = go (ltb i j) refl
  where
    go : (t : Bool) → ltb i j ≡ t → NoteFits b s' i
    go true h =
        let u : i < j = ltb-true i j h in
        let c = f i l u in
        let v : last_at s' i ≡ last_at s i = last-kept s s' j i e u in
        (kind-kept s s' j i e u ∙ c.0, λ z. subst (λ (y : ℕ). end_of b y ≤ length b) (sym v) (c.1 (λ w. z (v ∙ w))))
    go false h = g i (ltb-false i j h) m

-- ---- arrays

-- the members xs, the first of index i and number n, were compiled; their notes are rows from k on
pub record ItemsIs (c : Top) (e : Env) (pl i n : ℕ) (xs : Patterns) (k : ℕ) (s' : List ℕ) (st st' : State) (d d' : List ℕ) (r : ℕ) : Type 0 where
  pub put : Put (elements c xs i pl e n).more (elements c xs i pl e n).errs st st' d d'
  pub pats : pats_at s' xs k ≡ (elements c xs i pl e n).made
  pub lasts : lasts_of s' k (notes_all xs) ≡ places_all xs
  pub end : r ≡ k + notes_all xs

pub items-none : (c : Top) (e : Env) (pl i n k : ℕ) (s' : List ℕ) (st : State) (d : List ℕ) → ItemsIs c e pl i n ps_nil k s' st st d d k
unfolding term pat_at places_in notes_in lasts_of
items-none c e pl i n k s' st d = record { put = put-none st d; pats = refl; lasts = refl; end = omega arith }

-- its Int key, the pattern, and those behind it
pub items-one : (b : List ℕ) (p : ℕ) (vw : View) (e : Env) (pl i : ℕ) (x : Pattern) (xs : Patterns) (k j r : ℕ) (s s₁ s' : List ℕ) (st st₁ st₂ st' : State) (d d₁ d₂ d' : List ℕ)
    → Put (record { place = pl; node = n_int i } ∷ []) [] st st₁ d d₁
    → Patterned b p s s₁ k (num st) st₁ st₂ d₁ d₂ j → Seen vw b s k → env_of vw b s k ≡ e → PatternAt b x p
    → take (4 * j) s' ≡ take (4 * j) s₁ → ItemsIs vw.top e pl (i + 1) (num st₂) xs j s' st₂ st' d₂ d' r
    → ItemsIs vw.top e pl i (num st) (ps_cons x xs) k s' st st' d d' r
unfolding term pat_at places_in notes_in
items-one b p vw e pl i x xs k j r s s₁ s' st st₁ st₂ st' d d₁ d₂ d' pi pat g ev at kp rest =
    record {
      put = put_then (record { place = pl; node = n_int i } ∷ []) (A.more ++ O.more) [] (A.errs ++ O.errs) st st₁ st' d d₁ d' pi (put_then A.more O.more A.errs O.errs st₁ st₂ st' d₁ d₂ d' m.0 rest'.put);
      pats = three' (number_at s' k) (num st) (pat_at s' x k) A.made (pats_at s' xs (k + notes_in x)) O.made num-k (pat-kept s₁ s' x k (λ y l h. number-kept s₁ s' j y kp (omega (arith, h, m.4))) ∙ m.1) (ap (λ (y : ℕ). pats_at s' xs y) (sym m.4) ∙ rest'.pats);
      lasts = lasts-append s' (notes_in x) (notes_all xs) k ∙ ap₂ (λ (y z : List ℕ). y ++ z) (lasts-kept s₁ s' (notes_in x) k (λ y l h. last-kept s₁ s' j y kp (omega (arith, h, m.4))) ∙ m.2) (ap (λ (y : ℕ). lasts_of s' y (notes_all xs)) (sym m.4) ∙ rest'.lasts);
      end = omega (arith, rest.end, m.4);
    }
  where
    n₁ : num st₁ ≡ suc (num st)
    n₁ = pi.nums ∙ omega arith

    A : Made Pat
    A = pattern vw.top x pl e (suc (num st))

    m : Put A.more A.errs st₁ st₂ d₁ d₂ × (pat_at s₁ x k ≡ A.made) × (lasts_of s₁ k (notes_in x) ≡ places_in x) × (number_at s₁ k ≡ num st) × (j ≡ k + notes_in x)
    m =
        subst (λ (y : ℕ). let o = pattern vw.top x pl e y in Put o.more o.errs st₁ st₂ d₁ d₂ × (pat_at s₁ x k ≡ o.made) × (lasts_of s₁ k (notes_in x) ≡ places_in x) × (number_at s₁ k ≡ num st) × (j ≡ k + notes_in x)) n₁
        (subst (λ (f : Env). let o = pattern vw.top x pl f (num st₁) in Put o.more o.errs st₁ st₂ d₁ d₂ × (pat_at s₁ x k ≡ o.made) × (lasts_of s₁ k (notes_in x) ≡ places_in x) × (number_at s₁ k ≡ num st) × (j ≡ k + notes_in x)) ev
        (pat.is vw g x pl at))

    n₂ : num st₂ ≡ suc (num st) + length A.more
    n₂ = m.0.nums ∙ ap (λ (y : ℕ). y + length A.more) n₁

    O : Made Pats
    O = elements vw.top xs (suc i) pl e (suc (num st) + length A.more)

    i₁ : i + 1 ≡ suc i
    i₁ = omega arith

    rest' : ItemsIs vw.top e pl (suc i) (suc (num st) + length A.more) xs j s' st₂ st' d₂ d' r
    rest' = subst (λ (y : ℕ). ItemsIs vw.top e pl y (suc (num st) + length A.more) xs j s' st₂ st' d₂ d' r) i₁ (subst (λ (y : ℕ). ItemsIs vw.top e pl (i + 1) y xs j s' st₂ st' d₂ d' r) n₂ rest)

    num-k : number_at s' k ≡ num st
    num-k = number-kept s₁ s' j k kp (omega (arith, m.4, notes-some x)) ∙ m.3

    three' : (a a' : ℕ) (c c' : Pat) (f f' : Pats) → a ≡ a' → c ≡ c' → f ≡ f' → pats_cons a c f ≡ pats_cons a' c' f'
    three' a a' c c' f f' u v w = ap₂ (λ (y : Pat) (z : Pats). pats_cons a y z) v w ∙ ap (λ (y : ℕ). pats_cons y c' f') u

-- ---- the loop over the members of the array pattern at q: the next one is at p and has the index i; its notes start at row j

pub record ItemsLeft (vw : View) (b : List ℕ) (q pl : ℕ) (xs : Patterns) (e : Env) (k₀ : ℕ) (st₀ : State) (d₀ : List ℕ) (p i j : ℕ) (s : List ℕ) (st : State) (d : List ℕ) : Type 0 where
  pub rest : Patterns
  pub at : Row b (f_patterns rest rnil) p (end_of b q)
  pub goes : (s' : List ℕ) (st' : State) (d' : List ℕ) (r : ℕ) → take (4 * j) s' ≡ take (4 * j) s → ItemsIs vw.top e pl i (num st) rest j s' st st' d d' r
      → ItemsIs vw.top e pl 0 (num st₀) xs k₀ s' st₀ st' d₀ d' r

pub record ItemsGo (b : List ℕ) (q : ℕ) (s₀ : List ℕ) (k₀ : ℕ) (st₀ : State) (d₀ : List ℕ) (p i j : ℕ) (s : List ℕ) (st : State) (d : List ℕ) : Type 0 where
  pub goes : (vw : View) → Seen vw b s₀ k₀ → (xs : Patterns) (pl : ℕ) → Row b (f_patterns xs rnil) (q + 3) (end_of b q)
      → ItemsLeft vw b q pl xs (env_of vw b s₀ k₀) k₀ st₀ d₀ p i j s st d
  pub wide : (xs : Patterns) → Row b (f_patterns xs rnil) (q + 3) (end_of b q)
      → (rest : Patterns) × Row b (f_patterns rest rnil) p (end_of b q) × (off st + pats_width xs + 64 * (q + 3) ≤ off st₀ + pats_width rest + 64 * p)
  pub some : (xs : Patterns) × Row b (f_patterns xs rnil) p (end_of b q)
  pub fits : end_of b q ≤ length b
  pub ready : Ready b s j p (end_of b q) st
  pub seen : (vw : View) → Seen vw b s₀ k₀ → Seen vw b s j × (env_of vw b s j ≡ env_of vw b s₀ k₀)
  pub order : k₀ ≤ j
  pub notes : (i : ℕ) → k₀ ≤ i → i < j → NoteFits b s i
  pub rows : 3 * j + (q + 3) ≤ 3 * k₀ + p
  pub paid : Paid (q + 3) p k₀ s₀ s st₀ st
  pub size : length d ≡ length d₀
  pub few : i + q ≤ p

-- p is where the next one stands
pub items-on : (b : List ℕ) (q : ℕ) (s₀ : List ℕ) (k₀ : ℕ) (st₀ : State) (d₀ : List ℕ) (n p i j : ℕ) (s : List ℕ) (st : State) (d : List ℕ) → n ≡ p → ItemsGo b q s₀ k₀ st₀ d₀ n i j s st d → ItemsGo b q s₀ k₀ st₀ d₀ p i j s st d
items-on b q s₀ k₀ st₀ d₀ n p i j s st d e g = subst (λ (r : ℕ). ItemsGo b q s₀ k₀ st₀ d₀ r i j s st d) e g

pub items-start : (b : List ℕ) (q : ℕ) (s : List ℕ) (k : ℕ) (st : State) (d : List ℕ) → Ready b s k (q + 3) (end_of b q) st → ((xs : Patterns) × Row b (f_patterns xs rnil) (q + 3) (end_of b q)) → end_of b q ≤ length b
    → ItemsGo b q s k st d (q + 3) 0 k s st d
items-start b q s k st d y x f =
    record {
      goes = λ vw g xs pl w. record { rest = xs; at = w; goes = λ s' st' d' r e i. i };
      wide = λ xs w. (xs, w, omega arith);
      some = x;
      fits = f;
      ready = y;
      seen = λ vw g. (g, refl);
      order = omega arith;
      notes = λ i l m. absurd (omega (arith, l, m));
      rows = omega arith;
      paid = record { kept = refl; same = refl; nums = omega arith; offs = omega arith; errs = omega arith };
      size = refl;
      few = omega arith;
    }

-- the key of index i
int-long : (i : ℕ) → 11 ≡ length (field 0x53 (number 8 i))
unfolding field number
int-long i = refl

pub int-put : (pl i x : ℕ) (st st₁ : State) (d d₁ : List ℕ) → x ≡ off st → st₁ ≡ with_off (with_num st (num st + 1)) (off st + 11) → d₁ ≡ overlay d x (field 0x53 (number 8 i))
    → Put (record { place = pl; node = n_int i } ∷ []) [] st st₁ d d₁
int-put pl i x st st₁ d d₁ e f h = put_one (record { place = pl; node = n_int i }) 11 x st st₁ d d₁ (int-long i) e f h

module _ (b : List ℕ) (q : ℕ) (s₀ : List ℕ) (k₀ : ℕ) (st₀ : State) (d₀ : List ℕ) (p i j : ℕ) (s : List ℕ) (st : State) (d : List ℕ) (o : ItemsGo b q s₀ k₀ st₀ d₀ p i j s st d) where
  -- where there is a next one
  items_at : p < end_of b q → ((x : Pattern) × PatternAt b x p) × (end_of b p ≤ end_of b q)
  items_at l = on-patterns-cons b p (end_of b q) (λ _. ((x : Pattern) × PatternAt b x p) × (end_of b p ≤ end_of b q)) l (λ x xs a e w. ((x, a), e)) o.some.0 o.some.1

  pub items-pattern : p < end_of b q → (x : ℕ) (st₁ : State) → x ≡ off st → st₁ ≡ with_off (with_num st (num st + 1)) (off st + 11)
      → Ready b s j (p + 1) (end_of b p) st₁ × Spare b s j p × ((y : Pattern) × PatternAt b y p) × (num st < 65536)
  items-pattern l x st₁ e f =
      let y = o.ready in
      let t = set_both st st₁ (num st + 1) (off st + 11) f in (
        record {
          small = y.small;
          view = y.view;
          seen = y.seen;
          order = omega arith;
          within = omega (arith, y.within, (items_at l).1);
          spare = omega (arith, y.spare);
          nums = omega (arith, y.nums, t.num, (items_at l).1);
          offs = omega (arith, y.offs, t.off, (items_at l).1);
          errs = omega (arith, y.errs, t.ers, (items_at l).1);
        },
        y.spare,
        (items_at l).0,
        omega (arith, y.nums, l),
      )

  pub items_more : (s₁ : List ℕ) (st₁ st₂ : State) (d₁ d₂ : List ℕ) (x r : ℕ) → p < end_of b q → x ≡ off st → st₁ ≡ with_off (with_num st (num st + 1)) (off st + 11) → d₁ ≡ overlay d x (field 0x53 (number 8 i))
      → Patterned b p s s₁ j (num st) st₁ st₂ d₁ d₂ r → ItemsGo b q s₀ k₀ st₀ d₀ (end_of b p) (i + 1) r s₁ st₂ d₂
  unfolding pat_width
  items_more s₁ st₁ st₂ d₁ d₂ x r l e f h m =
      record {
        goes = λ vw g xs pl w. left vw g xs pl (o.goes vw g xs pl w);
        wide = λ xs w. wider xs (o.wide xs w);
        some = on-patterns-cons b p (end_of b q) (λ _. (xs : Patterns) × Row b (f_patterns xs rnil) (end_of b p) (end_of b q)) l (λ y ys a c w. (ys, w)) o.some.0 o.some.1;
        fits = o.fits;
        ready = record {
          small = y.small;
          view = y.view;
          seen = (m.seen y.view y.seen).0;
          order = (items_at l).1;
          within = y.within;
          spare = omega (arith, y.spare, m.rows, m.paid.same, o.fits, (items_at l).1);
          nums = omega (arith, y.nums, t.num, m.paid.nums, (items_at l).1);
          offs = omega (arith, y.offs, t.off, m.paid.offs, (items_at l).1);
          errs = omega (arith, y.errs, t.ers, m.paid.errs, (items_at l).1);
        };
        seen = λ vw g. let a = o.seen vw g in let c = m.seen vw a.0 in (c.0, c.1 ∙ a.1);
        order = omega (arith, o.order, up);
        notes = notes-on b s s₁ k₀ j r m.paid.kept o.notes m.notes;
        rows = omega (arith, o.rows, m.rows);
        paid = record {
          kept = kept_less k₀ j s s₁ o.order m.paid.kept ∙ o.paid.kept;
          same = m.paid.same ∙ o.paid.same;
          nums = omega (arith, t.num, m.paid.nums, o.paid.nums);
          offs = omega (arith, t.off, m.paid.offs, o.paid.offs);
          errs = omega (arith, t.ers, m.paid.errs, o.paid.errs);
        };
        size = (m.is y.view y.seen (items_at l).0.0 0 (items_at l).0.1).0.size ∙ (int-put 0 i x st st₁ d d₁ e f h).size ∙ o.size;
        few = omega (arith, o.few);
      }
    where
      y : Ready b s j p (end_of b q) st
      y = o.ready

      t : Stored st₁ (num st + 1) (off st + 11) (ers st)
      t = set_both st st₁ (num st + 1) (off st + 11) f

      up : j ≤ r
      up = omega (arith, (m.is y.view y.seen (items_at l).0.0 0 (items_at l).0.1).4)

      left : (vw : View) → Seen vw b s₀ k₀ → (xs : Patterns) (pl : ℕ) → ItemsLeft vw b q pl xs (env_of vw b s₀ k₀) k₀ st₀ d₀ p i j s st d → ItemsLeft vw b q pl xs (env_of vw b s₀ k₀) k₀ st₀ d₀ (end_of b p) (i + 1) r s₁ st₂ d₂
      left vw g xs pl a =
          on-patterns-cons b p (end_of b q)
          (λ ys. ((s' : List ℕ) (st' : State) (d' : List ℕ) (u : ℕ) → take (4 * j) s' ≡ take (4 * j) s → ItemsIs vw.top (env_of vw b s₀ k₀) pl i (num st) ys j s' st st' d d' u → ItemsIs vw.top (env_of vw b s₀ k₀) pl 0 (num st₀) xs k₀ s' st₀ st' d₀ d' u)
          → ItemsLeft vw b q pl xs (env_of vw b s₀ k₀) k₀ st₀ d₀ (end_of b p) (i + 1) r s₁ st₂ d₂)
          l
          (λ z zs c n w k.
          let v = o.seen vw g in
          record {
            rest = zs;
            at = w;
            goes = λ s' st' d' u kp is.
                k s' st' d' u (kept_less j r s₁ s' up kp ∙ m.paid.kept)
                (items-one b p vw (env_of vw b s₀ k₀) pl i z zs j r u s s₁ s' st st₁ st₂ st' d d₁ d₂ d' (int-put pl i x st st₁ d d₁ e f h) m v.0 v.1 c kp is);
          })
          a.rest a.at a.goes

      wider : (xs : Patterns) → (rest : Patterns) × Row b (f_patterns rest rnil) p (end_of b q) × (off st + pats_width xs + 64 * (q + 3) ≤ off st₀ + pats_width rest + 64 * p)
          → (rest : Patterns) × Row b (f_patterns rest rnil) (end_of b p) (end_of b q) × (off st₂ + pats_width xs + 64 * (q + 3) ≤ off st₀ + pats_width rest + 64 * end_of b p)
      wider xs a =
          on-patterns-cons b p (end_of b q)
          (λ ys. off st + pats_width xs + 64 * (q + 3) ≤ off st₀ + pats_width ys + 64 * p
          → (rest : Patterns) × Row b (f_patterns rest rnil) (end_of b p) (end_of b q) × (off st₂ + pats_width xs + 64 * (q + 3) ≤ off st₀ + pats_width rest + 64 * end_of b p))
          l (λ z zs c n w k. (zs, w, omega (arith, k, t.off, m.wide z c))) a.0 a.1 a.2

  pub items-done : end_of b q ≤ p → Members b q s₀ s k₀ st₀ st d₀ d j
  unfolding pat_width f_patterns
  items-done l =
      record {
        arrays = λ vw g xs pl w. done vw xs pl (o.goes vw g xs pl w);
        seen = o.seen;
        notes = o.notes;
        rows = omega (arith, o.rows, here);
        wide = λ xs w. wider xs (o.wide xs w);
        paid = paid-wider (q + 3) (q + 3) p (end_of b q) k₀ s₀ s st₀ st (omega arith) (omega (arith, here)) o.paid;
      }
    where
      here : p ≡ end_of b q
      here = on-patterns-nil b p (end_of b q) (λ ys. Row b (f_patterns ys rnil) p (end_of b q) → p ≡ end_of b q) l (row-end b p (end_of b q)) o.some.0 o.some.1 o.some.1

      done : (vw : View) (xs : Patterns) (pl : ℕ) → ItemsLeft vw b q pl xs (env_of vw b s₀ k₀) k₀ st₀ d₀ p i j s st d
          → let y = elements vw.top xs 0 pl (env_of vw b s₀ k₀) (num st₀) in
          Put y.more y.errs st₀ st d₀ d × (pats_at s xs k₀ ≡ y.made) × (lasts_of s k₀ (notes_all xs) ≡ places_all xs) × (j ≡ k₀ + notes_all xs)
      done vw xs pl a =
          let i₀ : ItemsIs vw.top (env_of vw b s₀ k₀) pl 0 (num st₀) xs k₀ s st₀ st d₀ d j =
          on-patterns-nil b p (end_of b q)
          (λ ys. ((s' : List ℕ) (st' : State) (d' : List ℕ) (u : ℕ) → take (4 * j) s' ≡ take (4 * j) s → ItemsIs vw.top (env_of vw b s₀ k₀) pl i (num st) ys j s' st st' d d' u → ItemsIs vw.top (env_of vw b s₀ k₀) pl 0 (num st₀) xs k₀ s' st₀ st' d₀ d' u)
          → ItemsIs vw.top (env_of vw b s₀ k₀) pl 0 (num st₀) xs k₀ s st₀ st d₀ d j)
          l (λ k. k s st d j refl (items-none vw.top (env_of vw b s₀ k₀) pl i (num st) j s st d)) a.rest a.at a.goes in
          (i₀.put, i₀.pats, i₀.lasts, i₀.end)

      wider : (xs : Patterns) → (rest : Patterns) × Row b (f_patterns rest rnil) p (end_of b q) × (off st + pats_width xs + 64 * (q + 3) ≤ off st₀ + pats_width rest + 64 * p)
          → off st + pats_width xs + 64 * (q + 3) ≤ off st₀ + 64 * end_of b q
      wider xs a =
          on-patterns-nil b p (end_of b q) (λ ys. off st + pats_width xs + 64 * (q + 3) ≤ off st₀ + pats_width ys + 64 * p → off st + pats_width xs + 64 * (q + 3) ≤ off st₀ + 64 * end_of b q)
          l (λ k. omega (arith, k, here)) a.0 a.1 a.2

-- ---- objects

-- the entries xs, from the number n on, were compiled; their notes are rows from k on
pub record KeyedIs (c : Top) (e : Env) (pl n : ℕ) (xs : PatEntries) (k : ℕ) (s' : List ℕ) (st st' : State) (d d' : List ℕ) (r : ℕ) : Type 0 where
  pub put : Put (keyed c xs pl e n).more (keyed c xs pl e n).errs st st' d d'
  pub pats : keyed_at s' xs k ≡ (keyed c xs pl e n).made
  pub lasts : lasts_of s' k (notes_keyed xs) ≡ places_keyed xs
  pub end : r ≡ k + notes_keyed xs

pub keyed-none : (c : Top) (e : Env) (pl n k : ℕ) (s' : List ℕ) (st : State) (d : List ℕ) → KeyedIs c e pl n pes_nil k s' st st d d k
unfolding term pat_at places_in notes_in lasts_of
keyed-none c e pl n k s' st d = record { put = put-none st d; pats = refl; lasts = refl; end = omega arith }

-- its key, the pattern, and those behind it
pub keyed-one : (b : List ℕ) (p y : ℕ) (vw : View) (e : Env) (pl w al : ℕ) (t : Term) (x : Pattern) (xs : PatEntries) (k j r : ℕ) (s s₁ s₂ s' : List ℕ) (st st₁ st₂ st' : State) (d d₁ d₂ d' : List ℕ)
    → al ≡ 0 → Laid b (p + 3) s s₁ k st st₁ d d₁ al w → Seen vw b s k → env_of vw b s k ≡ e → TermAt b t (p + 3)
    → Patterned b y s₁ s₂ k (num st) st₁ st₂ d₁ d₂ j → PatternAt b x y
    → take (4 * j) s' ≡ take (4 * j) s₂ → KeyedIs vw.top e pl (num st₂) xs j s' st₂ st' d₂ d' r
    → KeyedIs vw.top e pl (num st) (pes_cons p t x xs) k s' st st' d d' r
unfolding term pat_at places_in notes_in
keyed-one b p y vw e pl w al t x xs k j r s s₁ s₂ s' st st₁ st₂ st' d d₁ d₂ d' z₀ key g ev at-k pat at kp rest =
    record {
      put = put_then (slot K) (A.more ++ O.more) K.errs (A.errs ++ O.errs) st st₁ st' d d₁ d' q.0 (put_then A.more O.more A.errs O.errs st₁ st₂ st' d₁ d₂ d' m.0 rest'.put);
      pats = three' (number_at s' k) (num st) (pat_at s' x k) A.made (keyed_at s' xs (k + notes_in x)) O.made num-k (pat-kept s₂ s' x k (λ i l h. number-kept s₂ s' j i kp (omega (arith, h, m.4))) ∙ m.1) (ap (λ (i : ℕ). keyed_at s' xs i) (sym m.4) ∙ rest'.pats);
      lasts = lasts-append s' (notes_in x) (notes_keyed xs) k ∙ ap₂ (λ (i z : List ℕ). i ++ z) (lasts-kept s₂ s' (notes_in x) k (λ i l h. last-kept s₂ s' j i kp (omega (arith, h, m.4))) ∙ m.2) (ap (λ (i : ℕ). lasts_of s' i (notes_keyed xs)) (sym m.4) ∙ rest'.lasts);
      end = omega (arith, rest.end, m.4);
    }
  where
    K : Out
    K = term vw.top t e (suc (num st)) empty

    q : Put (slot K) K.errs st st₁ d d₁ × (w ≡ K.tail)
    q = laid_as b (p + 3) s s₁ k st st₁ d d₁ 0 w vw e (num st) t (subst (λ (i : ℕ). Laid b (p + 3) s s₁ k st st₁ d d₁ i w) z₀ key) g ev refl at-k

    n₁ : num st₁ ≡ num st + size K
    n₁ = q.0.nums

    v : Seen vw b s₁ k × (env_of vw b s₁ k ≡ env_of vw b s k)
    v = keeps b s s₁ k (p + 3 + 1) (end_of b (p + 3)) st st₁ key.paid vw g

    A : Made Pat
    A = pattern vw.top x pl e (num st + size K)

    m : Put A.more A.errs st₁ st₂ d₁ d₂ × (pat_at s₂ x k ≡ A.made) × (lasts_of s₂ k (notes_in x) ≡ places_in x) × (number_at s₂ k ≡ num st) × (j ≡ k + notes_in x)
    m =
        subst (λ (i : ℕ). let o = pattern vw.top x pl e i in Put o.more o.errs st₁ st₂ d₁ d₂ × (pat_at s₂ x k ≡ o.made) × (lasts_of s₂ k (notes_in x) ≡ places_in x) × (number_at s₂ k ≡ num st) × (j ≡ k + notes_in x)) n₁
        (subst (λ (f : Env). let o = pattern vw.top x pl f (num st₁) in Put o.more o.errs st₁ st₂ d₁ d₂ × (pat_at s₂ x k ≡ o.made) × (lasts_of s₂ k (notes_in x) ≡ places_in x) × (number_at s₂ k ≡ num st) × (j ≡ k + notes_in x)) (v.1 ∙ ev)
        (pat.is vw v.0 x pl at))

    n₂ : num st₂ ≡ num st + size K + length A.more
    n₂ = m.0.nums ∙ ap (λ (i : ℕ). i + length A.more) n₁

    O : Made Pats
    O = keyed vw.top xs pl e (num st + size K + length A.more)

    rest' : KeyedIs vw.top e pl (num st + size K + length A.more) xs j s' st₂ st' d₂ d' r
    rest' = subst (λ (i : ℕ). KeyedIs vw.top e pl i xs j s' st₂ st' d₂ d' r) n₂ rest

    num-k : number_at s' k ≡ num st
    num-k = number-kept s₂ s' j k kp (omega (arith, m.4, notes-some x)) ∙ m.3

    three' : (a a' : ℕ) (c c' : Pat) (f f' : Pats) → a ≡ a' → c ≡ c' → f ≡ f' → pats_cons a c f ≡ pats_cons a' c' f'
    three' a a' c c' f f' h i l = ap₂ (λ (o : Pat) (z : Pats). pats_cons a o z) i l ∙ ap (λ (o : ℕ). pats_cons o c' f') h

-- ---- the loop over the entries of the object pattern at q: the next one is at p; its notes start at row j

pub record KeyedLeft (vw : View) (b : List ℕ) (q pl : ℕ) (xs : PatEntries) (e : Env) (k₀ : ℕ) (st₀ : State) (d₀ : List ℕ) (p j : ℕ) (s : List ℕ) (st : State) (d : List ℕ) : Type 0 where
  pub rest : PatEntries
  pub at : Row b (f_pat_entries rest rnil) p (end_of b q)
  pub goes : (s' : List ℕ) (st' : State) (d' : List ℕ) (r : ℕ) → take (4 * j) s' ≡ take (4 * j) s → KeyedIs vw.top e pl (num st) rest j s' st st' d d' r
      → KeyedIs vw.top e pl (num st₀) xs k₀ s' st₀ st' d₀ d' r

pub record KeyedGo (b : List ℕ) (q : ℕ) (s₀ : List ℕ) (k₀ : ℕ) (st₀ : State) (d₀ : List ℕ) (p j : ℕ) (s : List ℕ) (st : State) (d : List ℕ) : Type 0 where
  pub goes : (vw : View) → Seen vw b s₀ k₀ → (xs : PatEntries) (pl : ℕ) → Row b (f_pat_entries xs rnil) (q + 3) (end_of b q)
      → KeyedLeft vw b q pl xs (env_of vw b s₀ k₀) k₀ st₀ d₀ p j s st d
  pub wide : (xs : PatEntries) → Row b (f_pat_entries xs rnil) (q + 3) (end_of b q)
      → (rest : PatEntries) × Row b (f_pat_entries rest rnil) p (end_of b q) × (off st + keyed_width xs + 64 * (q + 3) ≤ off st₀ + keyed_width rest + 64 * p)
  pub some : (xs : PatEntries) × Row b (f_pat_entries xs rnil) p (end_of b q)
  pub fits : end_of b q ≤ length b
  pub ready : Ready b s j p (end_of b q) st
  pub seen : (vw : View) → Seen vw b s₀ k₀ → Seen vw b s j × (env_of vw b s j ≡ env_of vw b s₀ k₀)
  pub order : k₀ ≤ j
  pub notes : (i : ℕ) → k₀ ≤ i → i < j → NoteFits b s i
  pub rows : 3 * j + (q + 3) ≤ 3 * k₀ + p
  pub paid : Paid (q + 3) p k₀ s₀ s st₀ st
  pub size : length d ≡ length d₀

-- p is where the next one stands
pub keyed-on : (b : List ℕ) (q : ℕ) (s₀ : List ℕ) (k₀ : ℕ) (st₀ : State) (d₀ : List ℕ) (n p j : ℕ) (s : List ℕ) (st : State) (d : List ℕ) → n ≡ p → KeyedGo b q s₀ k₀ st₀ d₀ n j s st d → KeyedGo b q s₀ k₀ st₀ d₀ p j s st d
keyed-on b q s₀ k₀ st₀ d₀ n p j s st d e g = subst (λ (r : ℕ). KeyedGo b q s₀ k₀ st₀ d₀ r j s st d) e g

pub keyed-start : (b : List ℕ) (q : ℕ) (s : List ℕ) (k : ℕ) (st : State) (d : List ℕ) → Ready b s k (q + 3) (end_of b q) st → ((xs : PatEntries) × Row b (f_pat_entries xs rnil) (q + 3) (end_of b q)) → end_of b q ≤ length b
    → KeyedGo b q s k st d (q + 3) k s st d
keyed-start b q s k st d y x f =
    record {
      goes = λ vw g xs pl w. record { rest = xs; at = w; goes = λ s' st' d' r e i. i };
      wide = λ xs w. (xs, w, omega arith);
      some = x;
      fits = f;
      ready = y;
      seen = λ vw g. (g, refl);
      order = omega arith;
      notes = λ i l m. absurd (omega (arith, l, m));
      rows = omega arith;
      paid = record { kept = refl; same = refl; nums = omega arith; offs = omega arith; errs = omega arith };
      size = refl;
    }

-- the entry at p
pub record KeyedAt (b : List ℕ) (p z : ℕ) : Type 0 where
  pub key : Stands b (p + 3)
  pub pat : (x : Pattern) × PatternAt b x (end_of b (p + 3))
  pub last : end_of b (end_of b (p + 3)) ≡ end_of b p
  pub past : end_of b p ≤ z

module _ (b : List ℕ) (q : ℕ) (s₀ : List ℕ) (k₀ : ℕ) (st₀ : State) (d₀ : List ℕ) (p j : ℕ) (s : List ℕ) (st : State) (d : List ℕ) (o : KeyedGo b q s₀ k₀ st₀ d₀ p j s st d) where
  pub keyed-at : p < end_of b q → KeyedAt b p (end_of b q)
  keyed-at l = on-keyed-cons b p (end_of b q) (λ _. KeyedAt b p (end_of b q)) l (λ t x xs f a c e n w. record { key = (t, a); pat = (x, c); last = e; past = n }) o.some.0 o.some.1

  pub keyed-key : p < end_of b q → Ready b s j (p + 3) (end_of b (p + 3)) st × Stands b (p + 3) × (num st < 65536)
  keyed-key l = let e = keyed-at l in (ready-part b s j p (p + 3) (end_of b q) (end_of b (p + 3)) st o.ready (omega arith) (omega arith) (omega (arith, e.last, e.past)), e.key, omega (arith, o.ready.nums, l))

  pub keyed-pattern : p < end_of b q → (s₁ : List ℕ) (st₁ : State) (d₁ : List ℕ) (al w : ℕ) → Laid b (p + 3) s s₁ j st st₁ d d₁ al w
      → Ready b s₁ j (end_of b (p + 3) + 1) (end_of b (end_of b (p + 3))) st₁ × Spare b s₁ j (end_of b (p + 3)) × ((x : Pattern) × PatternAt b x (end_of b (p + 3)))
  keyed-pattern l s₁ st₁ d₁ al w m =
      let e = keyed-at l in
      let y = ready-after b s s₁ j p (p + 3 + 1) (end_of b (p + 3)) (end_of b q) st st₁ o.ready (omega arith) (omega arith) (omega (arith, e.last, e.past)) m.paid in
      (ready-part b s₁ j (end_of b (p + 3)) (end_of b (p + 3) + 1) (end_of b q) (end_of b (end_of b (p + 3))) st₁ y (omega arith) (omega arith) (omega (arith, e.last, e.past)), y.spare, e.pat)

  pub keyed-more : (s₁ s₂ : List ℕ) (st₁ st₂ : State) (d₁ d₂ : List ℕ) (al w r : ℕ) → p < end_of b q → al ≡ 0 → Laid b (p + 3) s s₁ j st st₁ d d₁ al w
      → Patterned b (end_of b (p + 3)) s₁ s₂ j (num st) st₁ st₂ d₁ d₂ r → KeyedGo b q s₀ k₀ st₀ d₀ (end_of b p) r s₂ st₂ d₂
  unfolding pat_width
  keyed-more s₁ s₂ st₁ st₂ d₁ d₂ al w r l z₀ f m =
      record {
        goes = λ vw g xs pl a. left vw g xs pl (o.goes vw g xs pl a);
        wide = λ xs a. wider xs (o.wide xs a);
        some = on-keyed-cons b p (end_of b q) (λ _. (xs : PatEntries) × Row b (f_pat_entries xs rnil) (end_of b p) (end_of b q)) l (λ t x xs h a c e n v. (xs, v)) o.some.0 o.some.1;
        fits = o.fits;
        ready = record {
          small = y.small;
          view = y.view;
          seen = (m.seen y.view v₀).0;
          order = e.past;
          within = y.within;
          spare = omega (arith, y.spare, m.rows, m.paid.same, f.paid.same, o.fits, e.past, e.last);
          nums = omega (arith, y.nums, f.paid.nums, m.paid.nums, e.last, e.past);
          offs = omega (arith, y.offs, f.paid.offs, m.paid.offs, e.last, e.past);
          errs = omega (arith, y.errs, f.paid.errs, m.paid.errs, e.last, e.past);
        };
        seen = λ vw g. let a = o.seen vw g in let c = kv vw a.0 in let h = m.seen vw c.0 in (h.0, h.1 ∙ c.1 ∙ a.1);
        order = omega (arith, o.order, up);
        notes = notes-on b s s₂ k₀ j r (m.paid.kept ∙ f.paid.kept) o.notes m.notes;
        rows = omega (arith, o.rows, m.rows, e.last);
        paid = record {
          kept = kept_less k₀ j s₁ s₂ o.order m.paid.kept ∙ kept_less k₀ j s s₁ o.order f.paid.kept ∙ o.paid.kept;
          same = m.paid.same ∙ f.paid.same ∙ o.paid.same;
          nums = omega (arith, f.paid.nums, m.paid.nums, o.paid.nums, e.last);
          offs = omega (arith, f.paid.offs, m.paid.offs, o.paid.offs, e.last);
          errs = omega (arith, f.paid.errs, m.paid.errs, o.paid.errs, e.last);
        };
        size = (m.is y.view v₀ e.pat.0 0 e.pat.1).0.size ∙ (f.is y.view y.seen e.key.0 e.key.1).0.size ∙ o.size;
      }
    where
      y : Ready b s j p (end_of b q) st
      y = o.ready

      e : KeyedAt b p (end_of b q)
      e = keyed-at l

      kv : Keeps b s s₁ j
      kv = keeps b s s₁ j (p + 3 + 1) (end_of b (p + 3)) st st₁ f.paid

      v₀ : Seen y.view b s₁ j
      v₀ = (kv y.view y.seen).0

      up : j ≤ r
      up = omega (arith, (m.is y.view v₀ e.pat.0 0 e.pat.1).4)

      left : (vw : View) → Seen vw b s₀ k₀ → (xs : PatEntries) (pl : ℕ) → KeyedLeft vw b q pl xs (env_of vw b s₀ k₀) k₀ st₀ d₀ p j s st d → KeyedLeft vw b q pl xs (env_of vw b s₀ k₀) k₀ st₀ d₀ (end_of b p) r s₂ st₂ d₂
      left vw g xs pl a =
          on-keyed-cons b p (end_of b q)
          (λ ys. ((s' : List ℕ) (st' : State) (d' : List ℕ) (u : ℕ) → take (4 * j) s' ≡ take (4 * j) s → KeyedIs vw.top (env_of vw b s₀ k₀) pl (num st) ys j s' st st' d d' u → KeyedIs vw.top (env_of vw b s₀ k₀) pl (num st₀) xs k₀ s' st₀ st' d₀ d' u)
          → KeyedLeft vw b q pl xs (env_of vw b s₀ k₀) k₀ st₀ d₀ (end_of b p) r s₂ st₂ d₂)
          l
          (λ t z zs h ta c i n v k.
          let v₁ = o.seen vw g in
          record {
            rest = zs;
            at = v;
            goes = λ s' st' d' u kp is.
                k s' st' d' u (kept_less j r s₂ s' up kp ∙ m.paid.kept ∙ f.paid.kept)
                (keyed-one b p (end_of b (p + 3)) vw (env_of vw b s₀ k₀) pl w al t z zs j r u s s₁ s₂ s' st st₁ st₂ st' d d₁ d₂ d' z₀ f v₁.0 v₁.1 ta m c kp is);
          })
          a.rest a.at a.goes

      wider : (xs : PatEntries) → (rest : PatEntries) × Row b (f_pat_entries rest rnil) p (end_of b q) × (off st + keyed_width xs + 64 * (q + 3) ≤ off st₀ + keyed_width rest + 64 * p)
          → (rest : PatEntries) × Row b (f_pat_entries rest rnil) (end_of b p) (end_of b q) × (off st₂ + keyed_width xs + 64 * (q + 3) ≤ off st₀ + keyed_width rest + 64 * end_of b p)
      wider xs a =
          on-keyed-cons b p (end_of b q)
          (λ ys. off st + keyed_width xs + 64 * (q + 3) ≤ off st₀ + keyed_width ys + 64 * p
          → (rest : PatEntries) × Row b (f_pat_entries rest rnil) (end_of b p) (end_of b q) × (off st₂ + keyed_width xs + 64 * (q + 3) ≤ off st₀ + keyed_width rest + 64 * end_of b p))
          l (λ t z zs h ta c i n v k. (zs, v, omega (arith, k, f.paid.offs, m.wide z c, i))) a.0 a.1 a.2

  pub keyed-done : end_of b q ≤ p → Keyed b q s₀ s k₀ st₀ st d₀ d j
  unfolding pat_width f_patterns
  keyed-done l =
      record {
        objects = λ vw g xs pl w. done vw xs pl (o.goes vw g xs pl w);
        seen = o.seen;
        notes = o.notes;
        rows = omega (arith, o.rows, here);
        wide = λ xs w. wider xs (o.wide xs w);
        paid = paid-wider (q + 3) (q + 3) p (end_of b q) k₀ s₀ s st₀ st (omega arith) (omega (arith, here)) o.paid;
      }
    where
      here : p ≡ end_of b q
      here = on-keyed-nil b p (end_of b q) (λ ys. Row b (f_pat_entries ys rnil) p (end_of b q) → p ≡ end_of b q) l (row-end b p (end_of b q)) o.some.0 o.some.1 o.some.1

      done : (vw : View) (xs : PatEntries) (pl : ℕ) → KeyedLeft vw b q pl xs (env_of vw b s₀ k₀) k₀ st₀ d₀ p j s st d
          → let y = keyed vw.top xs pl (env_of vw b s₀ k₀) (num st₀) in
          Put y.more y.errs st₀ st d₀ d × (keyed_at s xs k₀ ≡ y.made) × (lasts_of s k₀ (notes_keyed xs) ≡ places_keyed xs) × (j ≡ k₀ + notes_keyed xs)
      done vw xs pl a =
          let i₀ : KeyedIs vw.top (env_of vw b s₀ k₀) pl (num st₀) xs k₀ s st₀ st d₀ d j =
          on-keyed-nil b p (end_of b q)
          (λ ys. ((s' : List ℕ) (st' : State) (d' : List ℕ) (u : ℕ) → take (4 * j) s' ≡ take (4 * j) s → KeyedIs vw.top (env_of vw b s₀ k₀) pl (num st) ys j s' st st' d d' u → KeyedIs vw.top (env_of vw b s₀ k₀) pl (num st₀) xs k₀ s' st₀ st' d₀ d' u)
          → KeyedIs vw.top (env_of vw b s₀ k₀) pl (num st₀) xs k₀ s st₀ st d₀ d j)
          l (λ k. k s st d j refl (keyed-none vw.top (env_of vw b s₀ k₀) pl (num st) j s st d)) a.rest a.at a.goes in
          (i₀.put, i₀.pats, i₀.lasts, i₀.end)

      wider : (xs : PatEntries) → (rest : PatEntries) × Row b (f_pat_entries rest rnil) p (end_of b q) × (off st + keyed_width xs + 64 * (q + 3) ≤ off st₀ + keyed_width rest + 64 * p)
          → off st + keyed_width xs + 64 * (q + 3) ≤ off st₀ + 64 * end_of b q
      wider xs a =
          on-keyed-nil b p (end_of b q) (λ ys. off st + keyed_width xs + 64 * (q + 3) ≤ off st₀ + keyed_width ys + 64 * p → off st + keyed_width xs + 64 * (q + 3) ≤ off st₀ + 64 * end_of b q)
          l (λ k. omega (arith, k, here)) a.0 a.1 a.2
