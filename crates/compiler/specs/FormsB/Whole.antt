-- A fold as a whole. Assumes nothing.
use Rattle.std.specs.Prelude.{ℕ, suc, ◌+◌, ◌-◌, ◌^◌, ◌≤◌, ◌<◌, ◌≡◌, refl, Bool, true, false, cond, List, [], ◌∷◌, ◌++◌, eqb, length, get_or}
use Rattle.std.proofs.Common.{arith, sym, ap, ap₂, subst, ◌∙◌, append_assoc}
use Rattle.fields.specs.Number.{number}
use Rattle.fields.specs.Field.{field}
use Rattle.fields.specs.Room.{overlay}
use Rattle.tree.specs.Rose.{rnil, end_of, text_of, Row, row-le}
use Rattle.tree.specs.Form.{f_terms}
use Rattle.tree.specs.Tree.{Name, Term, Terms, ts_nil, ts_cons, Pattern, t_fold}
use Rattle.rules.specs.Table.{Rec, Err, n_id, Pat}
use Rattle.rules.specs.Tails.{empty}
use Rattle.rules.specs.Rows.{Env, push_vars}
use Rattle.rules.specs.Outs.{Out, slot, size, vars, Made, arity, leaf}
use Rattle.rules.specs.Outs as outs
use Rattle.rules.specs.Listing.{node_bytes, rec_bytes}
use Rattle.rules.specs.Rules.{term, pattern, out_of_fold, fold_error}
use Rattle.reads.specs.declared.width.Fold.{Fold}
use Rattle.reads.specs.Bytes.{TermAt, PatternAt, name_at}
use Rattle.reads.specs.Widths.{pat_width, fold_kind, fold_width}
use Rattle.reads.specs.Lengths.{own-fold}
use Rattle.reads.specs.Kinds.{fold_number}
use Rattle.reads.specs.Folds.{FoldOf}
use Rattle.reads.specs.Shapes.{FoldAt, on-fold, on-arity-cons}
use Rattle.puts.specs.declared.state.State.{State}
use Rattle.puts.specs.State.{num, off, ers, late, start_of, spot_of, next_of, Put, Own, with_off, with_ers}
use Rattle.puts.specs.Rooms.{put_then, own-node, own-fail, start-high, spot-within, placed-within}
use Rattle.cells.specs.Cells.{View, Seen, env_of}
use Rattle.cells.specs.Notes.{lasts_of, pat_at, places_in, notes_in}
use Rattle.rows.specs.Kept.{seen-kept}
use Rattle.records.specs.Patterns.{fold_node, HoldsFold}
use Rattle.compiler.specs.declared.Updated.{Updated}
use Rattle.compiler.specs.Post.{Ready, Stands, Placed, Did, Laid, Patterned}
use Rattle.compiler.specs.Pieces as pieces
use Rattle.compiler.specs.Pieces.{Ends, ends_of, Noted, Updating}
use Rattle.compiler.specs.Common as common
use Rattle.compiler.specs.Common.{did_of}
use Rattle.compiler.specs.Moves.{Stored, set-off, set-ers, keeps, kept_less, ready-after, ready-part, ready-start, laid_as, last-kept, number-kept, kind-kept}
use Rattle.compiler.specs.FormsB.Patterns.{Spare, lasts-kept, pat-kept}
use Rattle.compiler.specs.FormsB.Folds.{ended, fold-ended, fold-fails, kind-small}

-- ---- too few arguments: "fails .. before compiling anything"

none_out : (b : List ℕ) (p : ℕ) (vw : View) (e : Env) (n al : ℕ) (u : Term) (x : Pattern) (ts : Terms) → arity ts < 2
    → term vw.top (t_fold p (name_at b (p + 3)) u x ts) e n al ≡ outs.fail p (fold_error vw.top (name_at b (p + 3)) (arity ts)) [] []
unfolding term out_of_fold
none_out b p vw e n al u x ts_nil h = refl
none_out b p vw e n al u x (ts_cons t ts_nil) h = refl
none_out b p vw e n al u x (ts_cons t (ts_cons v ts)) h = absurd (omega (arith, h))

id-long : 3 ≡ length (node_bytes 2 n_id)
unfolding field number
id-long = refl

pub fold-none : (b : List ℕ) (p : ℕ) (f : Fold) (s : List ℕ) (k o : ℕ) (st st₁ st₂ : State) (d d₁ d₂ : List ℕ) (home at len ex al : ℕ)
    → get_or b p 0 ≡ 0xAC → Ready b s k (p + 1) (end_of b p) st → Stands b p → FoldOf b p f → f.a < 2
    → home ≡ get_or s 3 0 → at ≡ p + 6 → len ≡ f.x - p - 6 → ex ≡ ers st → st₁ ≡ with_ers st (ers st + 11)
    → d₁ ≡ overlay d ex (field 0x2B (number 2 home ++ (number 2 at ++ number 2 len) ++ number 2 f.a))
    → Own (leaf p n_id) o st₁ st₂ d₁ d₂ → Did b p s s k o st st₂ d d₂ al 0
fold-none b p f s k o st st₁ st₂ d d₁ d₂ home at len ex al e y g fo few hm ha hl hx ht hd w =
    did_of b p s s k o st st₂ d d₂ al 0 y g
    (λ vw v. on-fold b p (λ t. common.Made b p (term vw.top t (env_of vw b s k) (num st) al) o st st₂ d d₂ 0) e (is vw v))
    refl refl (omega (arith, w.nums, t.num)) (omega (arith, w.errs, t.ers))
  where
    t : Stored st₁ (num st) (off st) (ers st + 11)
    t = set-ers st st₁ (ers st + 11) ht

    is : (vw : View) → Seen vw b s k → (u : Term) (x : Pattern) (ts : Terms) → FoldAt b p u x ts → common.Made b p (term vw.top (t_fold p (name_at b (p + 3)) u x ts) (env_of vw b s k) (num st) al) o st st₂ d d₂ 0
    is vw v u x ts a =
        let m : f.a ≡ arity ts = (fo.is u x ts a).0 in
        let z : Err = fold_error vw.top (name_at b (p + 3)) f.a in
        let pe : Put [] (z ∷ []) st st₁ d d₁ = fold-fails b p home at len f.a ex vw.top st st₁ d d₁ (hm ∙ v.base.home) ha (omega (arith, hl, fo.source)) a.name hx ht hd in
        subst (λ (q : Out). common.Made b p q o st st₂ d d₂ 0)
        (ap (λ (i : ℕ). outs.fail p (fold_error vw.top (name_at b (p + 3)) i) [] []) m ∙ sym (none_out b p vw (env_of vw b s k) (num st) al u x ts (omega (arith, m, few))))
        (record { own = own-fail p z o st st₁ st₂ d d₁ d₂ pe w; tail = refl; wide = omega (arith, id-long) })

-- ---- the fold with its arguments

wide-fold : (kind w : ℕ) → fold_width kind w ≤ 12 + w
unfolding fold_width
wide-fold kind w = go (eqb kind 3) (eqb kind 2)
  where
    go : (t u : Bool) → cond t 3 (cond u (12 + w) (10 + w)) ≤ 12 + w
    go true u = omega arith
    go false true = omega arith
    go false false = omega arith

-- in five parts, the last by itself
in_row : {A : Type 0} (v w q r s : List A) → v ++ (w ++ (q ++ (r ++ s))) ≡ (v ++ (w ++ (q ++ r))) ++ s
in_row {A = A} v w q r s =
    ap (λ (l : List A). v ++ (w ++ l)) (sym (append_assoc q r s)) ∙ ap (λ (l : List A). v ++ l) (sym (append_assoc w (q ++ r) s)) ∙ sym (append_assoc v (w ++ (q ++ r)) s)

-- a fold with two arguments or more, in the rule's words
whole : (p a : ℕ) (nm : Name) (vw : View) (e : Env) (n al : ℕ) (t : Term) (z : Pattern) (v₁ v₂ : Term) (ts : Terms) → 2 + arity ts ≡ a
    → let S = term vw.top t e (suc n) empty in
    let X = pattern vw.top z p e (n + size S) in
    let K = n + size S + length X.more in
    let I = term vw.top v₁ e (suc K) empty in
    let U = term vw.top v₂ (push_vars (vars z) e) (suc (K + size I)) empty in
    term vw.top (t_fold p nm t z (ts_cons v₁ (ts_cons v₂ ts))) e n al
    ≡ ended vw.top p nm X.made n K (K + size I) (slot S ++ (X.more ++ (slot I ++ slot U))) (S.errs ++ (X.errs ++ (I.errs ++ U.errs))) (push_vars (vars z) e) (K + size I + size U) al a
    (ends_of vw.top nm a ts (push_vars (vars z) e) (K + size I + size U) al)
unfolding term out_of_fold
whole p a nm vw e n al t z v₁ v₂ ts h =
    let S = term vw.top t e (suc n) empty in
    let X = pattern vw.top z p e (n + size S) in
    let K = n + size S + length X.more in
    let I = term vw.top v₁ e (suc K) empty in
    let U = term vw.top v₂ (push_vars (vars z) e) (suc (K + size I)) empty in
    let i : arity (ts_cons v₁ (ts_cons v₂ ts)) ≡ a = omega (arith, h) in
    subst
    (λ (j : ℕ).
    term vw.top (t_fold p nm t z (ts_cons v₁ (ts_cons v₂ ts))) e n al
    ≡ ended vw.top p nm X.made n K (K + size I) (slot S ++ (X.more ++ (slot I ++ slot U))) (S.errs ++ (X.errs ++ (I.errs ++ U.errs))) (push_vars (vars z) e) (K + size I + size U) al j
    (ends_of vw.top nm j ts (push_vars (vars z) e) (K + size I + size U) al))
    i
    (fold-ended vw.top p nm X.made n K (K + size I) (slot S ++ (X.more ++ (slot I ++ slot U))) (S.errs ++ (X.errs ++ (I.errs ++ U.errs))) (push_vars (vars z) e) (K + size I + size U) al
    (arity (ts_cons v₁ (ts_cons v₂ ts))) ts (omega arith))

-- what stands in it
pub record FoldHere (b : List ℕ) (p : ℕ) (f : Fold) (u : Term) (x : Pattern) (t₁ t₂ : Term) (ts : Terms) : Type 0 where
  pub all : FoldAt b p u x (ts_cons t₁ (ts_cons t₂ ts))
  pub source : TermAt b u f.x
  pub pat : PatternAt b x f.q
  pub init : TermAt b t₁ f.i
  pub update : TermAt b t₂ f.u
  pub rest : Row b (f_terms ts rnil) (end_of b f.u) (end_of b p)
  pub many : 2 + arity ts ≡ f.a

pub record FoldPlaces (b : List ℕ) (p : ℕ) (f : Fold) : Type 0 where
  pub name : end_of b (p + 3) ≤ length b
  pub fits : end_of b p ≤ length b
  pub at : f.x ≡ end_of b (p + 3)
  pub pat : f.q ≡ end_of b f.x
  pub init : f.i ≡ end_of b f.q
  pub update : f.u ≡ end_of b f.i
  pub last : end_of b f.u ≤ end_of b p

module _ (b : List ℕ) (p : ℕ) (f : Fold) (e : get_or b p 0 ≡ 0xAC) (g : Stands b p) (fo : FoldOf b p f) (two : 2 ≤ f.a) where
  on-two : (P : Term → Type 0) → ((u : Term) (x : Pattern) (t₁ t₂ : Term) (ts : Terms) → FoldHere b p f u x t₁ t₂ ts → P (t_fold p (name_at b (p + 3)) u x (ts_cons t₁ (ts_cons t₂ ts)))) → (t : Term) → TermAt b t p → P t
  on-two P h =
      on-fold b p P e
      (λ u x ts a.
      let z = end_of b p in
      let i₁ : end_of b (end_of b (end_of b (p + 3))) ≡ f.i = sym (fo.init ∙ ap (end_of b) (fo.pat ∙ ap (end_of b) fo.source)) in
      let m : f.a ≡ arity ts = (fo.is u x ts a).0 in
      on-arity-cons b f.i z (λ ys. FoldAt b p u x ys → f.a ≡ arity ys → P (t_fold p (name_at b (p + 3)) u x ys)) (arity ts - 1)
      (λ t₁ ys ta w n a₁ m₁.
      on-arity-cons b f.u z (λ zs. FoldAt b p u x (ts_cons t₁ zs) → f.a ≡ suc (arity zs) → P (t_fold p (name_at b (p + 3)) u x (ts_cons t₁ zs))) (arity ys - 1)
      (λ t₂ zs tb w₂ n₂ a₂ m₂.
      h u x t₁ t₂ zs
      (record {
        all = a₂;
        source = subst (λ (i : ℕ). TermAt b u i) (sym fo.source) a₂.source;
        pat = subst (λ (i : ℕ). PatternAt b x i) (sym (fo.pat ∙ ap (end_of b) fo.source)) a₂.pat;
        init = ta;
        update = tb;
        rest = w₂;
        many = omega (arith, m₂);
      }))
      ys (omega (arith, two, m, n)) (subst (λ (i : ℕ). Row b (f_terms ys rnil) i z) (sym (fo.some two)) w) a₁ m₁)
      ts (omega (arith, two, m)) (subst (λ (i : ℕ). Row b (f_terms ts rnil) i z) i₁ a.args) a m)

  pub fold-places : FoldPlaces b p f
  fold-places =
      on-two (λ _. FoldPlaces b p f)
      (λ u x t₁ t₂ ts h. record { name = h.all.name; fits = h.all.fits; at = fo.source; pat = fo.pat; init = fo.init; update = fo.some two; last = row-le b (f_terms ts rnil) (end_of b f.u) (end_of b p) h.rest })
      g.0 g.1

  stands : Stands b f.x × ((x : Pattern) × PatternAt b x f.q) × Stands b f.i × Stands b f.u
  stands = on-two (λ _. Stands b f.x × ((x : Pattern) × PatternAt b x f.q) × Stands b f.i × Stands b f.u) (λ u x t₁ t₂ ts h. ((u, h.source), (x, h.pat), (t₁, h.init), (t₂, h.update))) g.0 g.1

  folding : pieces.Folding b p f.x f.u f.a (fold_number f.kind)
  folding =
      on-two (λ _. pieces.Folding b p f.x f.u f.a (fold_number f.kind))
      (λ u x t₁ t₂ ts h. record { source = fo.source; name = h.all.name; fits = h.all.fits; behind = omega (arith, fo.source, fo.pat, fo.init, fo.some two); kinds = fo.kind; rest = (ts, h.rest, h.many) }) g.0 g.1

  module _ (s : List ℕ) (k o : ℕ) (st st₁ : State) (y : Ready b s k (p + 1) (end_of b p) st) (r₁ : st₁ ≡ with_off st (start_of o (off st) f.w)) where
    pub fold_small : f.w ≤ 65536
    fold_small = omega (arith, fo.room, fold-places.fits, y.small)

    on₁ : (z : ℕ) → f.x ≤ z → z ≤ end_of b p → Ready b s k f.x z st₁
    on₁ z h l = let a = fold-places in ready-start b s k (p + 1) f.x (end_of b p) z o f.w st st₁ y (omega (arith, a.at)) h l (omega (arith, fold_small)) r₁

    pub fold-source : Ready b s k f.x (end_of b f.x) st₁ × Stands b f.x
    fold-source = let a = fold-places in (on₁ (end_of b f.x) (omega arith) (omega (arith, a.pat, a.init, a.update, a.last)), stands.0)

    module _ (s₁ : List ℕ) (st₂ : State) (d d₁ : List ℕ) (w₁ : ℕ) (m₁ : Laid b f.x s s₁ k st₁ st₂ d d₁ 0 w₁) where
      on₂ : Ready b s₁ k f.q (end_of b p) st₂
      on₂ =
          let a = fold-places in
          subst (λ (i : ℕ). Ready b s₁ k i (end_of b p) st₂) (sym a.pat)
          (ready-after b s s₁ k f.x (f.x + 1) (end_of b f.x) (end_of b p) st₁ st₂ (on₁ (end_of b p) (omega (arith, a.pat, a.init, a.update, a.last)) (omega arith)) (omega arith) (omega arith) (omega (arith, a.pat, a.init, a.update, a.last)) m₁.paid)

      seen₁ : (vw : View) → Seen vw b s k → Seen vw b s₁ k × (env_of vw b s₁ k ≡ env_of vw b s k)
      seen₁ = keeps b s s₁ k (f.x + 1) (end_of b f.x) st₁ st₂ m₁.paid

      pub fold-pattern : Ready b s₁ k (f.q + 1) (end_of b f.q) st₂ × Spare b s₁ k f.q × ((x : Pattern) × PatternAt b x f.q)
      fold-pattern =
          let a = fold-places in
          let r = on₂ in
          (ready-part b s₁ k f.q (f.q + 1) (end_of b p) (end_of b f.q) st₂ r (omega arith) (omega arith) (omega (arith, a.init, a.update, a.last)), r.spare, stands.1)

      module _ (s₂ : List ℕ) (st₃ : State) (d₂ : List ℕ) (i : ℕ) (m₂ : Patterned b f.q s₁ s₂ k 0 st₂ st₃ d₁ d₂ i) where
        seen₂ : (vw : View) → Seen vw b s k → Seen vw b s₂ i × (env_of vw b s₂ i ≡ env_of vw b s k)
        seen₂ vw h = let v = seen₁ vw h in let l = m₂.seen vw v.0 in (l.0, l.1 ∙ v.1)

        on₃ : Ready b s₂ i f.i (end_of b p) st₃
        on₃ =
            let a = fold-places in
            let r = on₂ in
            record {
              small = r.small;
              view = r.view;
              seen = (m₂.seen r.view r.seen).0;
              order = omega (arith, a.update, a.last);
              within = r.within;
              spare = omega (arith, r.spare, m₂.rows, m₂.paid.same, a.init, a.update, a.last, a.fits);
              nums = omega (arith, r.nums, m₂.paid.nums, a.init, a.update, a.last);
              offs = omega (arith, r.offs, m₂.paid.offs, a.init, a.update, a.last);
              errs = omega (arith, r.errs, m₂.paid.errs, a.init, a.update, a.last);
            }

        pub fold-init : Ready b s₂ i f.i (end_of b f.i) st₃ × Stands b f.i
        fold-init = let a = fold-places in (ready-part b s₂ i f.i f.i (end_of b p) (end_of b f.i) st₃ on₃ (omega arith) (omega arith) (omega (arith, a.update, a.last)), stands.2)

        up : k ≤ i
        up = let v = seen₁ y.view y.seen in omega (arith, (m₂.is y.view v.0 stands.1.0 0 stands.1.1).4)

        module _ (s₃ : List ℕ) (st₄ : State) (d₃ : List ℕ) (w₃ : ℕ) (m₃ : Laid b f.i s₂ s₃ i st₃ st₄ d₂ d₃ 0 w₃) where
          seen₃ : (vw : View) → Seen vw b s k → Seen vw b s₃ k × (env_of vw b s₃ k ≡ env_of vw b s k)
          seen₃ vw h =
              seen-kept vw b s s₃ k (kept_less k i s₂ s₃ up m₃.paid.kept ∙ m₂.paid.kept ∙ m₁.paid.kept) (m₃.paid.same ∙ m₂.paid.same ∙ m₁.paid.same) h

          lasts₃ : (x : Pattern) → PatternAt b x f.q → lasts_of s₃ k (i - k) ≡ places_in x
          lasts₃ x xa =
              let v = seen₁ y.view y.seen in
              let m = m₂.is y.view v.0 x 0 xa in
              let n : i - k ≡ notes_in x = omega (arith, m.4) in
              ap (λ (j : ℕ). lasts_of s₃ k j) n ∙ lasts-kept s₂ s₃ (notes_in x) k (λ j l h. last-kept s₂ s₃ i j m₃.paid.kept (omega (arith, h, m.4))) ∙ m.2

          noted : Noted b s₃ k i
          noted =
              record {
                x = stands.1.0;
                q = f.q;
                some = omega (arith, fold-places.pat);
                at = stands.1.1;
                lasts = lasts₃ stands.1.0 stands.1.1;
                fits = λ j l h.
                    let c = m₂.notes j l h in
                    let v = last-kept s₂ s₃ i j m₃.paid.kept h in
                    (kind-kept s₂ s₃ i j m₃.paid.kept h ∙ c.0, λ z. subst (λ (r : ℕ). end_of b r ≤ length b) (sym v) (c.1 (λ q. z (v ∙ q))));
              }

          pub fold-update : Ready b s₃ i f.u (end_of b p) st₄ × (k ≤ i) × ((vw : View) × Seen vw b s₃ k) × Noted b s₃ k i × Stands b f.u × pieces.Folding b p f.x f.u f.a (fold_number f.kind)
          fold-update =
              let a = fold-places in (
                subst (λ (j : ℕ). Ready b s₃ i j (end_of b p) st₄) (sym a.update)
                    (ready-after b s₂ s₃ i f.i (f.i + 1) (end_of b f.i) (end_of b p) st₃ st₄ on₃ (omega arith) (omega arith) (omega (arith, a.update, a.last)) m₃.paid),
                up,
                (y.view, (seen₃ y.view y.seen).0),
                noted,
                stands.3,
                folding,
              )

          module _ (s₄ : List ℕ) (st₅ : State) (d₄ : List ℕ) (al x a c n : ℕ) (u : Updated) (m₄ : Updating b p f.u f.a s₃ s₄ k i st₄ st₅ d₃ d₄ al u)
              (a₁ : a ≡ num st₁) (c₃ : c ≡ num st₃) (n₄ : n ≡ num st₄) where
            kept-pat : (z : Pattern) → PatternAt b z f.q → pat_at s₃ z k ≡ pat_at s₂ z k
            kept-pat z za =
                let v = seen₁ y.view y.seen in
                let m = m₂.is y.view v.0 z 0 za in
                pat-kept s₂ s₃ z k (λ j l h. number-kept s₂ s₃ i j m₃.paid.kept (omega (arith, h, m.4)))

            t₁ : Stored st₁ (num st) (start_of o (off st) f.w) (ers st)
            t₁ = set-off st st₁ (start_of o (off st) f.w) r₁

            pub fold-put : Placed o st → x ≡ spot_of o (off st₅) → HoldsFold b s₄ f.q k x (fold_number f.kind) f.w × (off st₅ + f.w < 2 ^ 64)
            fold-put at e₀ =
                let h = fold-places in
                let v = seen₁ y.view y.seen in
                let z : (z : Pattern) × PatternAt b z f.q × (f.w ≡ fold_width (fold_number f.kind) (pat_width z)) =
                on-two (λ _. (z : Pattern) × PatternAt b z f.q × (f.w ≡ fold_width (fold_number f.kind) (pat_width z))) (λ t z t₁' t₂' ts g₀. (z, g₀.pat, (fo.is t z (ts_cons t₁' (ts_cons t₂' ts)) g₀.all).1)) g.0 g.1 in
                let m = m₂.is y.view v.0 z.0 0 z.1 in
                let l = (m₂.seen y.view v.0).0.within in
                let q₁ : off st < late = omega (arith, y.offs) in
                let q₂ : off st₅ + f.w ≤ 137438953472 =
                omega (arith, y.offs, t₁.off, start-high o (off st) f.w, m₁.paid.offs, m₂.paid.offs, m₃.paid.offs, m₄.paid.offs, fold_small, h.at, h.pat, h.init, h.update, h.last, h.fits, y.small) in
                let q₃ : spot_of o (off st₅) ≤ late = spot-within o (off st₅) late (placed-within o (off st) at (omega (arith, q₁))) (omega (arith, q₂)) in (
                  record {
                    x = z.0;
                    at = z.1;
                    rows = omega (arith, l, m.4, m₃.paid.same, m₄.paid.same);
                    kinds = subst (λ (j : ℕ). j < 4) (sym fo.kind) (kind-small (text_of b (p + 3)) f.a);
                    wide = z.2;
                    room = omega (arith, e₀, q₃, q₂);
                  },
                  omega (arith, q₂),
                )

            pub fold-did : (st₆ : State) (d₅ : List ℕ) → x ≡ spot_of o (off st₅) → st₆ ≡ with_off st₅ (next_of o (off st₅) f.w)
                → ((z : Pattern) → PatternAt b z f.q → f.w ≡ fold_width (fold_number f.kind) (pat_width z) → d₅ ≡ overlay d₄ x (node_bytes 2 (fold_node (fold_number f.kind) (pat_at s₄ z k) a c n u.n)))
                → Did b p s s₄ k o st st₆ d d₅ al u.tail
            fold-did st₆ d₅ zx f₆ pt =
                did_of b p s s₄ k o st st₆ d d₅ al u.tail y g
                (λ vw v. on-two (λ t. common.Made b p (term vw.top t (env_of vw b s k) (num st) al) o st st₆ d d₅ u.tail) (is vw v))
                (m₄.paid.kept ∙ kept_less k i s₂ s₃ up m₃.paid.kept ∙ m₂.paid.kept ∙ m₁.paid.kept) (m₄.paid.same ∙ m₃.paid.same ∙ m₂.paid.same ∙ m₁.paid.same)
                (omega (arith, m₁.paid.nums, m₂.paid.nums, m₃.paid.nums, m₄.paid.nums, t₁.num, t₆.num, h.at, h.pat, h.init, h.update))
                (omega (arith, m₁.paid.errs, m₂.paid.errs, m₃.paid.errs, m₄.paid.errs, t₁.ers, t₆.ers, h.at, h.pat, h.init, h.update))
              where
                h : FoldPlaces b p f
                h = fold-places

                t₆ : Stored st₆ (num st₅) (next_of o (off st₅) f.w) (ers st₅)
                t₆ = set-off st₅ st₆ (next_of o (off st₅) f.w) f₆

                is : (vw : View) → Seen vw b s k → (t : Term) (z : Pattern) (v₁ v₂ : Term) (ts : Terms) → FoldHere b p f t z v₁ v₂ ts
                    → common.Made b p (term vw.top (t_fold p (name_at b (p + 3)) t z (ts_cons v₁ (ts_cons v₂ ts))) (env_of vw b s k) (num st) al) o st st₆ d d₅ u.tail
                is vw v t z v₁ v₂ ts q =
                    let nm : Name = name_at b (p + 3) in
                    let e₀ : Env = env_of vw b s k in
                    let e₁ : Env = push_vars (vars z) e₀ in
                    let S : Out = term vw.top t e₀ (suc (num st)) empty in
                    let X : Made Pat = pattern vw.top z p e₀ (num st + size S) in
                    let K : ℕ = num st + size S + length X.more in
                    let I : Out = term vw.top v₁ e₀ (suc K) empty in
                    let M : ℕ = K + size I in
                    let U : Out = term vw.top v₂ e₁ (suc M) empty in
                    let E : Ends = ends_of vw.top nm f.a ts e₁ (M + size U) al in
                    let ms : List Rec = slot S ++ (X.more ++ (slot I ++ slot U)) in
                    let es : List Err = S.errs ++ (X.errs ++ (I.errs ++ U.errs)) in
                    let Q : Out = ended vw.top p nm X.made (num st) K M ms es e₁ (M + size U) al f.a E in
                    let same : term vw.top (t_fold p nm t z (ts_cons v₁ (ts_cons v₂ ts))) e₀ (num st) al ≡ Q = whole p f.a nm vw e₀ (num st) al t z v₁ v₂ ts q.many in
                    let g₁ = seen₁ vw v in
                    let g₂ = seen₂ vw v in
                    let g₃ = seen₃ vw v in
                    let p_s = laid_as b f.x s s₁ k st₁ st₂ d d₁ 0 w₁ vw e₀ (num st) t m₁ v refl t₁.num q.source in
                    let n₂ : num st₂ ≡ num st + size S = p_s.0.nums ∙ ap (λ (j : ℕ). j + size S) t₁.num in
                    let p_x : Put X.more X.errs st₂ st₃ d₁ d₂ × (pat_at s₂ z k ≡ X.made) =
                    subst (λ (j : ℕ). let O = pattern vw.top z p e₀ j in Put O.more O.errs st₂ st₃ d₁ d₂ × (pat_at s₂ z k ≡ O.made)) n₂
                    (subst (λ (r : Env). let O = pattern vw.top z p r (num st₂) in Put O.more O.errs st₂ st₃ d₁ d₂ × (pat_at s₂ z k ≡ O.made)) g₁.1
                    (let m = m₂.is vw g₁.0 z p q.pat in (m.0, m.1))) in
                    let n₃ : num st₃ ≡ K = p_x.0.nums ∙ ap (λ (j : ℕ). j + length X.more) n₂ in
                    let p_i = laid_as b f.i s₂ s₃ i st₃ st₄ d₂ d₃ 0 w₃ vw e₀ K v₁ m₃ g₂.0 g₂.1 n₃ q.init in
                    let n₄' : num st₄ ≡ M = p_i.0.nums ∙ ap (λ (j : ℕ). j + size I) n₃ in
                    let p_u : Put (slot U ++ E.more) (U.errs ++ E.errs) st₄ st₅ d₃ d₄ × (u.n ≡ M + size U) × (u.tail ≡ E.tail) × (pat_at s₄ z k ≡ pat_at s₃ z k) =
                    subst (λ (j : ℕ). let O = term vw.top v₂ e₁ (suc j) empty in let N = ends_of vw.top nm f.a ts e₁ (j + size O) al in Put (slot O ++ N.more) (O.errs ++ N.errs) st₄ st₅ d₃ d₄ × (u.n ≡ j + size O) × (u.tail ≡ N.tail) × (pat_at s₄ z k ≡ pat_at s₃ z k)) n₄'
                    (subst (λ (r : Env). let O = term vw.top v₂ (push_vars (vars z) r) (suc (num st₄)) empty in let N = ends_of vw.top nm f.a ts (push_vars (vars z) r) (num st₄ + size O) al in Put (slot O ++ N.more) (O.errs ++ N.errs) st₄ st₅ d₃ d₄ × (u.n ≡ num st₄ + size O) × (u.tail ≡ N.tail) × (pat_at s₄ z k ≡ pat_at s₃ z k)) g₃.1
                    (m₄.is vw g₃.0 z f.q (omega (arith, h.pat)) q.pat (lasts₃ z q.pat) v₂ q.update ts q.rest q.many)) in
                    let all : Put (slot S ++ (X.more ++ (slot I ++ (slot U ++ E.more)))) (S.errs ++ (X.errs ++ (I.errs ++ (U.errs ++ E.errs)))) st₁ st₅ d d₄ =
                    put_then (slot S) (X.more ++ (slot I ++ (slot U ++ E.more))) S.errs (X.errs ++ (I.errs ++ (U.errs ++ E.errs))) st₁ st₂ st₅ d d₁ d₄ p_s.0
                    (put_then X.more (slot I ++ (slot U ++ E.more)) X.errs (I.errs ++ (U.errs ++ E.errs)) st₂ st₃ st₅ d₁ d₂ d₄ p_x.0
                    (put_then (slot I) (slot U ++ E.more) I.errs (U.errs ++ E.errs) st₃ st₄ st₅ d₂ d₃ d₄ p_i.0 p_u.0)) in
                    let put : Put (ms ++ E.more) (es ++ E.errs) st₁ st₅ d d₄ =
                    subst (λ (l : List Err). Put (ms ++ E.more) l st₁ st₅ d d₄) (in_row {A = Err} S.errs X.errs I.errs U.errs E.errs)
                    (subst (λ (l : List Rec). Put l (S.errs ++ (X.errs ++ (I.errs ++ (U.errs ++ E.errs)))) st₁ st₅ d d₄) (in_row {A = Rec} (slot S) X.more (slot I) (slot U) E.more) all) in
                    let wf : f.w ≡ fold_width (fold_number f.kind) (pat_width z) = (fo.is t z (ts_cons v₁ (ts_cons v₂ ts)) q.all).1 in
                    let wn : f.w ≡ length (rec_bytes 2 Q.self) =
                    wf ∙ ap (λ (j : ℕ). fold_width j (pat_width z)) (fo.kind ∙ ap (fold_kind (text_of b (p + 3))) (fo.is t z (ts_cons v₁ (ts_cons v₂ ts)) q.all).0)
                    ∙ own-fold p nm t z (ts_cons v₁ (ts_cons v₂ ts)) vw.top e₀ (num st) al ∙ ap (λ (O : Out). length (rec_bytes 2 O.self)) same in
                    let pk : pat_at s₄ z k ≡ X.made = p_u.3 ∙ kept-pat z q.pat ∙ p_x.1 in
                    subst (λ (O : Out). common.Made b p O o st st₆ d d₅ u.tail) (sym same)
                    (record {
                      own =
                          own-node Q o f.w x st st₁ st₅ st₆ d d₄ d₅ wn r₁ put zx f₆
                          (pt z q.pat wf
                          ∙ ap₂ (λ (j : ℕ) (l : Pat). overlay d₄ x (node_bytes 2 (fold_node j l a c n u.n))) fo.kind pk
                          ∙ ap₂ (λ (j l : ℕ). overlay d₄ x (node_bytes 2 (fold_node (fold_kind nm.text f.a) X.made j l n u.n))) (a₁ ∙ t₁.num) (c₃ ∙ n₃)
                          ∙ ap₂ (λ (j l : ℕ). overlay d₄ x (node_bytes 2 (fold_node (fold_kind nm.text f.a) X.made (num st) K j l))) (n₄ ∙ n₄') p_u.1);
                      tail = p_u.2;
                      wide = omega (arith, wn, wf, wide-fold (fold_number f.kind) (pat_width z), put.offs, m₁.paid.offs, m₂.wide z q.pat, m₃.paid.offs, m₄.paid.offs, h.at, h.pat, h.init, h.update);
                    })
