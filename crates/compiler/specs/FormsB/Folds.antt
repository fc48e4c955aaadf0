-- Folds: "source, pattern, init, update, projection; update and projection under the variables." Assumes nothing.
use Prim.Native.Nat.{ℕ, zero, suc, ◌+◌, ◌-◌, ◌*◌, ◌≤◌, ◌<◌}
use Rattle.std.proofs.Common.{arith, ap, ap₂, ◌∙◌, length-append, get_or-set_other}
use Rattle.std.specs.Prelude.{◌≡◌, refl, true, false, eqb, length, get_or, take}
use Rattle.std.proofs.Math.Path.{sym, subst}
use Rattle.std.proofs.Math.Bool.{Bool, cond}
use mathlib.Core.List.{List, [], ◌∷◌, ◌++◌, append-nil}
use Rattle.std.proofs.Math.Option.{none, some}
use borrow.Author.Tests.{eqb-true, ne_eqb}
use Rattle.fields.specs.Number.{number}
use Rattle.fields.specs.Field.{field}
use Rattle.fields.specs.Room.{overlay}
use Rattle.tree.specs.Rose.{rnil, end_of, text_of, Row, row-le}
use Rattle.tree.specs.Form.{f_terms}
use Rattle.tree.specs.Tree.{Name, Term, Terms, ts_nil, ts_cons, Pattern, p_var, p_arr, p_obj, Patterns, ps_nil, ps_cons, PatEntries, pes_nil, pes_cons}
use Rattle.rules.specs.Names.{Text, ascii, same}
use Rattle.rules.specs.Table.{Rec, Err, Node, n_id, n_fold, Pat, Folding, reduce, foreach}
use Rattle.rules.specs.Tails.{Tail, empty}
use Rattle.rules.specs.Rows.{Env, push_vars}
use Rattle.rules.specs.Filters.{Top, home_of}
use Rattle.rules.specs.Outs.{Out, slot, size, vars, Made, arity}
use Rattle.rules.specs.Outs as outs
use Rattle.rules.specs.Listing.{err_bytes}
use Rattle.rules.specs.Rules.{term, waiting, end_of_fold, fold_error}
use Rattle.reads.specs.Bytes.{TermAt, PatternAt, name_at}
use Rattle.reads.specs.Widths.{fold_kind}
use Rattle.reads.specs.Shapes.{on-arity-cons, text-length}
use Rattle.puts.specs.declared.state.State.{State}
use Rattle.puts.specs.State.{num, ers, Put, with_ers}
use Rattle.puts.specs.Rooms.{put_then, put-none, put-error}
use Rattle.cells.specs.Cells.{View, Seen, env_of, closed, unlinked, unlinked_all, Opened, number_at}
use Rattle.cells.specs.Leaving.{length-closed, HeadBelow, unlinked-at, head-kept, length-unlinked}
use Rattle.cells.specs.Notes.{lasts_of, pat_at, places_in, places_all, places_keyed, notes_in, notes_all, notes_keyed}
use Rattle.rows.specs.Kept.{heads-below}
use Rattle.rows.specs.Opened.{opened-close, heads-ready}
use Rattle.records.specs.Patterns.{folding_of, fold_node}
use Rattle.compiler.specs.declared.Updated.{Updated}
use Rattle.compiler.specs.Post.{Ready, Stands, Laid}
use Rattle.compiler.specs.Pieces as pieces
use Rattle.compiler.specs.Pieces.{Ends, ends_bare, ends_in, ends_first, ends_of, Noted, Projected, Updating}
use Rattle.compiler.specs.Moves.{set-ers, keeps, ready-after, ready-part, laid_as, number-kept}
use Rattle.compiler.specs.FormsB.Patterns.{pat-kept}

-- ---- what stands behind update, in the rule's words

module _ (c : Top) (p : ℕ) (f : Name) (x : Pat) (n₀ k m : ℕ) (ms : List Rec) (es : List Err) (e : Env) (n : ℕ) (r : Tail) where
  abbrev up_to : Made (Folding → Node)
  up_to = record { made = λ what. n_fold n₀ x k m what; more = ms; errs = es }

  -- the fold, by its kind
  abbrev pub ended : ℕ → Ends → Out
  ended a o = outs.node p (fold_node (fold_kind f.text a) x n₀ k m n) (ms ++ o.more) (es ++ o.errs) o.tail

  fold-two : end_of_fold c p f 2 up_to [] e n r ≡ ended 2 (ends_of c f 2 ts_nil e n r)
  unfolding end_of_fold ends_of fold_kind fold_node folding_of
  fold-two = go (same f.text (ascii "reduce")) (same f.text (ascii "foreach"))
    where
      kind : Bool → Bool → ℕ
      kind t u = cond t 0 (cond u 1 3)

      ends : ℕ → Ends
      ends y = cond (eqb y 2) (ends_bare []) (cond (eqb y 3) (ends_bare (fold_error c f 2 ∷ [])) (ends_bare []))

      go : (t u : Bool)
          → cond t (outs.node p (n_fold n₀ x k m reduce) ms es empty) (cond u (outs.node p (n_fold n₀ x k m (foreach none)) ms es empty) (outs.fail p (fold_error c f 2) ms es))
          ≡ outs.node p (cond (eqb (kind t u) 3) n_id (n_fold n₀ x k m (cond (eqb (kind t u) 0) reduce (cond (eqb (kind t u) 2) (foreach (some n)) (foreach none))))) (ms ++ (ends (kind t u)).more) (es ++ (ends (kind t u)).errs) (ends (kind t u)).tail
      go true u = ap₂ (λ (y : List Rec) (z : List Err). outs.node p (n_fold n₀ x k m reduce) y z empty) (sym (append-nil ms)) (sym (append-nil es))
      go false true = ap₂ (λ (y : List Rec) (z : List Err). outs.node p (n_fold n₀ x k m (foreach none)) y z empty) (sym (append-nil ms)) (sym (append-nil es))
      go false false = ap (λ (y : List Rec). outs.node p n_id y (es ++ (fold_error c f 2 ∷ [])) empty) (sym (append-nil ms))

  fold-three : (t : Term) → end_of_fold c p f 3 up_to ((λ e' n' r'. term c t e' n' r') ∷ []) e n r ≡ ended 3 (ends_of c f 3 (ts_cons t ts_nil) e n r)
  unfolding end_of_fold ends_of fold_kind fold_node folding_of
  fold-three t = go (same f.text (ascii "foreach"))
    where
      b : Out
      b = term c t e (suc n) r

      kind : Bool → ℕ
      kind u = cond u 2 3

      ends : ℕ → Ends
      ends y = cond (eqb y 2) (ends_in b) (cond (eqb y 3) (ends_bare (fold_error c f 3 ∷ [])) (ends_bare []))

      go : (u : Bool)
          → cond u (outs.node p (n_fold n₀ x k m (foreach (some n))) (ms ++ slot b) (es ++ b.errs) b.tail) (outs.fail p (fold_error c f 3) ms es)
          ≡ outs.node p (cond (eqb (kind u) 3) n_id (n_fold n₀ x k m (cond (eqb (kind u) 0) reduce (cond (eqb (kind u) 2) (foreach (some n)) (foreach none))))) (ms ++ (ends (kind u)).more) (es ++ (ends (kind u)).errs) (ends (kind u)).tail
      go true = refl
      go false = ap (λ (y : List Rec). outs.node p n_id y (es ++ (fold_error c f 3 ∷ [])) empty) (sym (append-nil ms))

  many-kind : (a : ℕ) → 4 ≤ a → fold_kind f.text a ≡ 3
  unfolding fold_kind
  many-kind a h = rw (ne_eqb a 2 (λ i. omega (arith, i, h)), ne_eqb a 3 (λ i. omega (arith, i, h)))

  fold-many : (a : ℕ) (ts : Terms) → 4 ≤ a → outs.fail p (fold_error c f a) ms es ≡ ended a (ends_of c f a ts e n r)
  unfolding ends_of fold_node
  fold-many a ts h = rw (many-kind a h) (ap (λ (y : List Rec). outs.node p n_id y (es ++ (fold_error c f a ∷ [])) empty) (sym (append-nil ms)))

  pub fold-ended : (a : ℕ) (ts : Terms) → 2 + arity ts ≡ a → end_of_fold c p f a up_to (waiting c ts) e n r ≡ ended a (ends_of c f a ts e n r)
  unfolding end_of_fold term
  fold-ended a ts_nil h = subst (λ (y : ℕ). end_of_fold c p f y up_to (waiting c ts_nil) e n r ≡ ended y (ends_of c f y ts_nil e n r)) h fold-two
  fold-ended a (ts_cons t ts_nil) h = subst (λ (y : ℕ). end_of_fold c p f y up_to (waiting c (ts_cons t ts_nil)) e n r ≡ ended y (ends_of c f y (ts_cons t ts_nil) e n r)) h (fold-three t)
  fold-ended a (ts_cons t (ts_cons u ts)) h = fold-many a (ts_cons t (ts_cons u ts)) (omega (arith, h))

-- ---- the error of a fold

-- what the code puts is the error's bytes
pub fold-error : (b : List ℕ) (p home at len a : ℕ) (c : Top) → home ≡ home_of c → at ≡ p + 6 → len ≡ end_of b (p + 3) - (p + 6) → end_of b (p + 3) ≤ length b
    → field 0x2B (number 2 home ++ (number 2 at ++ number 2 len) ++ number 2 a) ≡ err_bytes 2 (fold_error c (name_at b (p + 3)) a)
unfolding fold_error
fold-error b p home at len a c h i j f =
    let i₂ : at ≡ p + 3 + 3 = omega (arith, i) in
    let j₂ : len ≡ length (text_of b (p + 3)) = omega (arith, j, text-length b (p + 3) f) in
    ap (λ (x : List ℕ). field 0x2B x)
    (ap (λ (x : ℕ). (number 2 x ++ (number 2 at ++ number 2 len)) ++ number 2 a) h
    ∙ ap₂ (λ (x y : ℕ). (number 2 (home_of c) ++ (number 2 x ++ number 2 y)) ++ number 2 a) i₂ j₂)

error-long : (c : Top) (f : Name) (a : ℕ) → 11 ≡ length (err_bytes 2 (fold_error c f a))
unfolding fold_error field number
error-long c f a = refl

pub fold-fails : (b : List ℕ) (p home at len a y : ℕ) (c : Top) (st st₁ : State) (d d₁ : List ℕ) → home ≡ home_of c → at ≡ p + 6 → len ≡ end_of b (p + 3) - (p + 6) → end_of b (p + 3) ≤ length b
    → y ≡ ers st → st₁ ≡ with_ers st (ers st + 11) → d₁ ≡ overlay d y (field 0x2B (number 2 home ++ (number 2 at ++ number 2 len) ++ number 2 a))
    → Put [] (fold_error c (name_at b (p + 3)) a ∷ []) st st₁ d d₁
fold-fails b p home at len a y c st st₁ d d₁ h i j f e g l =
    put-error (fold_error c (name_at b (p + 3)) a) 11 y st st₁ d d₁ (error-long c (name_at b (p + 3)) a) e g (l ∙ ap (overlay d y) (fold-error b p home at len a c h i j f))

-- ---- projection

-- kinds
abbrev kind_by : Bool → Bool → Bool → Bool → ℕ
kind_by t u v w = cond t (cond v 0 (cond w 1 3)) (cond u (cond w 2 3) 3)

kind-two : (x : Text) (a : ℕ) → fold_kind x a ≡ 2 → a ≡ 3
unfolding fold_kind
kind-two x a h = go (eqb a 2) (eqb a 3) refl refl (same x (ascii "reduce")) (same x (ascii "foreach")) h
  where
    go : (t u : Bool) → eqb a 2 ≡ t → eqb a 3 ≡ u → (v w : Bool) → kind_by t u v w ≡ 2 → a ≡ 3
    go true u e f true w i = absurd (omega (arith, i))
    go true u e f false true i = absurd (omega (arith, i))
    go true u e f false false i = absurd (omega (arith, i))
    go false true e f v w i = eqb-true a 3 f
    go false false e f v w i = absurd (omega (arith, i))

pub kind-small : (x : Text) (a : ℕ) → fold_kind x a < 4
unfolding fold_kind
kind-small x a = go (eqb a 2) (eqb a 3) (same x (ascii "reduce")) (same x (ascii "foreach"))
  where
    go : (t u v w : Bool) → kind_by t u v w < 4
    go true u true w = omega arith
    go true u false true = omega arith
    go true u false false = omega arith
    go false true v true = omega arith
    go false true v false = omega arith
    go false false v w = omega arith

module _ (b : List ℕ) (p x u a kind : ℕ) (s : List ℕ) (k : ℕ) (st : State) (y : Ready b s k (end_of b u) (end_of b p) st) (g : pieces.Folding b p x u a kind) where
  -- there is one
  projection : kind ≡ 2 → Stands b (end_of b u) × (end_of b (end_of b u) ≤ end_of b p)
  projection h =
      let e : a ≡ 3 = kind-two (text_of b (p + 3)) a (sym g.kinds ∙ h) in
      on-arity-cons b (end_of b u) (end_of b p) (λ _. Stands b (end_of b u) × (end_of b (end_of b u) ≤ end_of b p)) 0
      (λ t ts ta w n. ((t, ta), row-le b (f_terms ts rnil) (end_of b (end_of b u)) (end_of b p) w)) g.rest.0 (omega (arith, e, g.rest.2)) g.rest.1

  pub project-ready : kind ≡ 2 → Ready b s k (end_of b u) (end_of b (end_of b u)) st × Stands b (end_of b u)
  project-ready h = let l = projection h in (ready-part b s k (end_of b u) (end_of b u) (end_of b p) (end_of b (end_of b u)) st y (omega arith) (omega arith) l.1, l.0)

  pub project-two : (s₁ : List ℕ) (st₁ : State) (d d₁ : List ℕ) (al r : ℕ) → kind ≡ 2 → Laid b (end_of b u) s s₁ k st st₁ d d₁ al r → Projected b p u a s s₁ k st st₁ d d₁ al r
  unfolding ends_of
  project-two s₁ st₁ d d₁ al r h m =
      let i : fold_kind (text_of b (p + 3)) a ≡ 2 = sym g.kinds ∙ h in
      let e : a ≡ 3 = kind-two (text_of b (p + 3)) a i in
      let l = (projection h).1 in
      record {
        is = λ vw v ts w n.
            on-arity-cons b (end_of b u) (end_of b p)
            (λ zs. let o = ends_of vw.top (name_at b (p + 3)) a zs (env_of vw b s k) (num st) al in Put o.more o.errs st st₁ d d₁ × (r ≡ o.tail)) 0
            (λ t zs ta wz nz. rw i (m.is vw v t ta)) ts (omega (arith, e, n)) w;
        paid = record {
          kept = m.paid.kept;
          same = m.paid.same;
          nums = omega (arith, m.paid.nums, l);
          offs = omega (arith, m.paid.offs, l);
          errs = omega (arith, m.paid.errs, l);
        };
      }

  pub project-fail : (st₁ : State) (d d₁ : List ℕ) (home at len e al : ℕ) → kind ≡ 3 → home ≡ get_or s 3 0 → at ≡ p + 6 → len ≡ x - p - 6 → e ≡ ers st → st₁ ≡ with_ers st (ers st + 11)
      → d₁ ≡ overlay d e (field 0x2B (number 2 home ++ (number 2 at ++ number 2 len) ++ number 2 a)) → Projected b p u a s s k st st₁ d d₁ al 0
  unfolding ends_of
  project-fail st₁ d d₁ home at len e al h i j l m n q =
      let f : fold_kind (text_of b (p + 3)) a ≡ 3 = sym g.kinds ∙ h in
      let t = set-ers st st₁ (ers st + 11) n in
      let z = y.order in
      record {
        is = λ vw v ts w o.
            let c : home ≡ home_of vw.top = i ∙ v.base.home in
            rw f (fold-fails b p home at len a e vw.top st st₁ d d₁ c j (omega (arith, l, g.source)) g.name m n q, refl);
        paid = record { kept = refl; same = refl; nums = omega (arith, t.num, z); offs = omega (arith, t.off, z); errs = omega (arith, t.ers, z) };
      }

  pub project-none : (d : List ℕ) (al : ℕ) → (kind ≡ 2 → ⊥) → (kind ≡ 3 → ⊥) → Projected b p u a s s k st st d d al 0
  unfolding ends_of
  project-none d al h i =
      let z = y.order in
      record {
        is = λ vw v ts w o. rw (ne_eqb (fold_kind (text_of b (p + 3)) a) 2 (λ e. h (g.kinds ∙ e)), ne_eqb (fold_kind (text_of b (p + 3)) a) 3 (λ e. i (g.kinds ∙ e))) (put-none st d, refl);
        paid = record { kept = refl; same = refl; nums = omega (arith, z); offs = omega (arith, z); errs = omega (arith, z) };
      }

-- ---- rows that leave the view keep their numbers

unlinked-all-at : (s : List ℕ) (k n : ℕ) → ((x : ℕ) → k ≤ x → x < k + n → HeadBelow s k x) → (j : ℕ) → 4 * k ≤ j → get_or (unlinked_all s k n) j 0 ≡ get_or s j 0
unfolding unlinked_all
unlinked-all-at s k zero h j l = refl
unlinked-all-at s k (suc n) h j l =
    unlinked-all-at (unlinked s (k + n)) k n
    (λ x a c. head-kept s (unlinked s (k + n)) k x a (length-unlinked s (k + n)) (λ i g. unlinked-at s k (k + n) (h (k + n) (omega arith) (omega arith)) i g) (h x a (omega (arith, c)))) j l
    ∙ unlinked-at s k (k + n) (h (k + n) (omega arith) (omega arith)) j l

pub closed_at : (s : List ℕ) (k i c : ℕ) → 1 ≤ k → k ≤ i → ((x : ℕ) → k ≤ x → x < i → HeadBelow s k x) → (j : ℕ) → 4 * k ≤ j → get_or (closed s k i c) j 0 ≡ get_or s j 0
closed_at s k i c l m h j g =
    get_or-set_other (unlinked_all s k (i - k)) 1 j c 0 (λ e. omega (arith, e, g, l)) ∙ unlinked-all-at s k (i - k) (λ x a n. h x a (omega (arith, n, m))) j g

pub closed-number : (s : List ℕ) (k i c : ℕ) → 1 ≤ k → k ≤ i → ((x : ℕ) → k ≤ x → x < i → HeadBelow s k x) → (j : ℕ) → k ≤ j → number_at (closed s k i c) j ≡ number_at s j
closed-number s k i c l m h j g = rw (closed_at s k i c l m h (4 * j + 1) (omega (arith, g)))

-- ---- as many notes as places

length-lasts : (s : List ℕ) (n k : ℕ) → length (lasts_of s k n) ≡ n
unfolding lasts_of
length-lasts s zero k = refl
length-lasts s (suc n) k = ap suc (length-lasts s n (suc k))

mutual
  unfolding places_in notes_in

  length-places : (x : Pattern) → length (places_in x) ≡ notes_in x
  length-places (p_var p x) = refl
  length-places (p_arr p xs) = ap suc (length-places-all xs)
  length-places (p_obj p xs) = ap suc (length-places-keyed xs)

  length-places-all : (xs : Patterns) → length (places_all xs) ≡ notes_all xs
  length-places-all ps_nil = refl
  length-places-all (ps_cons x xs) = length-append (places_in x) (places_all xs) ∙ ap₂ (λ (i j : ℕ). i + j) (length-places x) (length-places-all xs)

  length-places-keyed : (xs : PatEntries) → length (places_keyed xs) ≡ notes_keyed xs
  length-places-keyed pes_nil = refl
  length-places-keyed (pes_cons q t x xs) = length-append (places_in x) (places_keyed xs) ∙ ap₂ (λ (i j : ℕ). i + j) (length-places x) (length-places-keyed xs)

pub notes-many : (s : List ℕ) (k i : ℕ) (x : Pattern) → lasts_of s k (i - k) ≡ places_in x → i - k ≡ notes_in x
notes-many s k i x e = sym (length-lasts s (i - k) k) ∙ ap length e ∙ length-places x

-- ---- update, and what stands behind it, under the variables

-- what binding the notes promises
pub record Unnoted (b s s' : List ℕ) (k i : ℕ) : Type 0 where
  pub is : (x : Pattern) (q : ℕ) → 0 < q → PatternAt b x q → lasts_of s k (i - k) ≡ places_in x
      → ((vw : View) → Seen vw b s k → Seen vw b s' i × (env_of vw b s' i ≡ push_vars (vars x) (env_of vw b s k))) × (pat_at s' x k ≡ pat_at s x k)
  pub back : Opened s s' k i

module _ (b : List ℕ) (p x u a kind : ℕ) (s : List ℕ) (k i : ℕ) (st : State) (y : Ready b s i u (end_of b p) st) (ki : k ≤ i) (w : (vw : View) × Seen vw b s k) (n : Noted b s k i) (t : Stands b u)
    (g : pieces.Folding b p x u a kind) where
  -- the update ends within the fold
  update-end : end_of b u ≤ end_of b p
  update-end = row-le b (f_terms g.rest.0 rnil) (end_of b u) (end_of b p) g.rest.1

  module _ (s₁ : List ℕ) (m₁ : Unnoted b s s₁ k i) where
    update-on : Ready b s₁ i u (end_of b p) st
    update-on =
        record {
          small = y.small;
          view = w.0;
          seen = ((m₁.is n.x n.q n.some n.at n.lasts).0 w.0 w.1).0;
          order = y.order;
          within = y.within;
          spare = omega (arith, y.spare, m₁.back.same);
          nums = y.nums;
          offs = y.offs;
          errs = y.errs;
        }

    pub update-ready : Ready b s₁ i u (end_of b u) st × Stands b u
    update-ready = (ready-part b s₁ i u u (end_of b p) (end_of b u) st update-on (omega arith) (omega arith) update-end, t)

    module _ (s₂ : List ℕ) (st₁ : State) (d d₁ : List ℕ) (r₁ : ℕ) (m₂ : Laid b u s₁ s₂ i st st₁ d d₁ 0 r₁) where
      pub update-project : Ready b s₂ i (end_of b u) (end_of b p) st₁
      update-project = ready-after b s₁ s₂ i u (u + 1) (end_of b u) (end_of b p) st st₁ update-on (omega arith) (omega arith) update-end m₂.paid

      module _ (s₃ : List ℕ) (st₂ : State) (d₂ : List ℕ) (al r : ℕ) (m₃ : Projected b p u a s₂ s₃ i st₁ st₂ d₁ d₂ al r) where
        update-seen : Seen w.0 b s₃ i
        unfolding update-on
        update-seen =
            let v = keeps b s₁ s₂ i (u + 1) (end_of b u) st st₁ m₂.paid w.0 update-on.seen in
            (keeps b s₂ s₃ i (end_of b u) (end_of b p + 1) st₁ st₂ m₃.paid w.0 v.0).0

        pub update-close : Seen w.0 b s₃ i × (w.0.locals ≤ k) × (k ≤ i)
        update-close = (update-seen, w.1.order.1, ki)

        heads : (j : ℕ) → k ≤ j → j < i → HeadBelow s₃ k j
        heads j l h = heads-ready w.0 b s₃ k i update-seen w.1.order.1 j l h

        pub update-is : (s₄ : List ℕ) (c : ℕ) (o : Updated) → c ≡ get_or s 1 0 → s₄ ≡ closed s₃ k i c → o.n ≡ num st₁ → o.tail ≡ r → Updating b p u a s s₄ k i st st₂ d d₂ al o
        update-is s₄ c o ce ee oe te =
            record {
              is = λ vw h x' q z pa ls t' ta ts rw' ar. is vw h x' q z pa ls t' ta ts rw' ar;
              paid = record {
                kept = ap (λ (l : List ℕ). take (4 * k) l) (ee ∙ ap (λ (j : ℕ). closed s₃ k i j) ce) ∙ opened-close s s₁ s₃ k i m₁.back (m₃.paid.same ∙ m₂.paid.same ∙ m₁.back.same) (m₃.paid.kept ∙ m₂.paid.kept);
                same = ap length ee ∙ length-closed s₃ k i c ∙ m₃.paid.same ∙ m₂.paid.same ∙ m₁.back.same;
                nums = omega (arith, m₂.paid.nums, m₃.paid.nums);
                offs = omega (arith, m₂.paid.offs, m₃.paid.offs);
                errs = omega (arith, m₂.paid.errs, m₃.paid.errs);
              };
            }
          where
            is : (vw : View) → Seen vw b s k → (x' : Pattern) (q : ℕ) → 0 < q → PatternAt b x' q → lasts_of s k (i - k) ≡ places_in x'
                → (t' : Term) → TermAt b t' u → (ts : Terms) → Row b (f_terms ts rnil) (end_of b u) (end_of b p) → 2 + arity ts ≡ a
                → let e = push_vars (vars x') (env_of vw b s k) in
                let O = term vw.top t' e (suc (num st)) empty in
                let M = ends_of vw.top (name_at b (p + 3)) a ts e (num st + size O) al in
                Put (slot O ++ M.more) (O.errs ++ M.errs) st st₂ d d₂ × (o.n ≡ num st + size O) × (o.tail ≡ M.tail) × (pat_at s₄ x' k ≡ pat_at s x' k)
            is vw h x' q z pa ls t' ta ts row ar =
                let e : Env = push_vars (vars x') (env_of vw b s k) in
                let O : Out = term vw.top t' e (suc (num st)) empty in
                let M : Ends = ends_of vw.top (name_at b (p + 3)) a ts e (num st + size O) al in
                let bn = m₁.is x' q z pa ls in
                let v₁ = bn.0 vw h in
                let po = laid_as b u s₁ s₂ i st st₁ d d₁ 0 r₁ vw e (num st) t' m₂ v₁.0 v₁.1 refl ta in
                let n₁ : num st₁ ≡ num st + size O = po.0.nums in
                let v₂ = keeps b s₁ s₂ i (u + 1) (end_of b u) st st₁ m₂.paid vw v₁.0 in
                let pm : Put M.more M.errs st₁ st₂ d₁ d₂ × (r ≡ M.tail) =
                subst (λ (j : ℕ). let N = ends_of vw.top (name_at b (p + 3)) a ts e j al in Put N.more N.errs st₁ st₂ d₁ d₂ × (r ≡ N.tail)) n₁
                (subst (λ (f : Env). let N = ends_of vw.top (name_at b (p + 3)) a ts f (num st₁) al in Put N.more N.errs st₁ st₂ d₁ d₂ × (r ≡ N.tail)) (v₂.1 ∙ v₁.1) (m₃.is vw v₂.0 ts row ar)) in
                let mn : i - k ≡ notes_in x' = notes-many s k i x' ls in
                let one : 1 ≤ k = omega (arith, heads-below w.0 b s k w.1) in (
                  put_then (slot O) M.more O.errs M.errs st st₁ st₂ d d₁ d₂ po.0 pm.0,
                  oe ∙ n₁,
                  te ∙ pm.1,
                  pat-kept s₁ s₄ x' k
                      (λ j l m.
                      ap (λ (f : List ℕ). number_at f j) ee
                      ∙ closed-number s₃ k i c one ki heads j l
                      ∙ number-kept s₁ s₃ i j (m₃.paid.kept ∙ m₂.paid.kept) (omega (arith, m, mn, ki)))
                      ∙ bn.1,
                )
