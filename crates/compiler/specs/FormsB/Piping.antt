-- A Pipe with a pattern: "Order in Pipe: left, right under the pattern variables, then the pattern." Assumes nothing.
use Rattle.std.specs.Prelude.{ℕ, suc, ◌+◌, ◌*◌, ◌^◌, ◌≤◌, ◌<◌, ◌≡◌, refl, List, ◌++◌, length, get_or, take}
use Rattle.std.proofs.Common.{arith, ap, ap₂, subst, ◌∙◌}
use Rattle.std.proofs.Math.Option.{some}
use Rattle.fields.specs.Room.{overlay}
use Rattle.tree.specs.Rose.{end_of}
use Rattle.tree.specs.Tree.{Term, Pattern, a_pattern, t_pipe}
use Rattle.rules.specs.Table.{Node, n_pipe, Pat}
use Rattle.rules.specs.Tails.{empty}
use Rattle.rules.specs.Rows.{Env, push_vars}
use Rattle.rules.specs.Outs.{Out, slot, size, vars, Made}
use Rattle.rules.specs.Outs as outs
use Rattle.rules.specs.Listing.{node_bytes}
use Rattle.rules.specs.Rules.{term, pattern}
use Rattle.reads.specs.Bytes.{TermAt, PatternAt}
use Rattle.reads.specs.Widths.{pat_width}
use Rattle.reads.specs.Lengths.{own-pipe}
use Rattle.reads.specs.Parts.{on-opt-pattern}
use Rattle.reads.specs.Shapes.{PipeAt, term_fits}
use Rattle.puts.specs.declared.state.State.{State}
use Rattle.puts.specs.State.{num, off, ers, late, start_of, spot_of, next_of, Put, with_off}
use Rattle.puts.specs.Rooms.{put_then, own-node, start-high, spot-within, placed-within}
use Rattle.cells.specs.Cells.{View, Seen, env_of, closed, Opened, Pushing}
use Rattle.cells.specs.Leaving.{length-closed}
use Rattle.cells.specs.Notes.{pat_at}
use Rattle.rows.specs.Opened.{opened-close}
use Rattle.records.specs.Patterns.{HoldsPat}
use Rattle.compiler.specs.Post.{Ready, Stands, Placed, Did, Laid, Patterned}
use Rattle.compiler.specs.Pieces.{Under}
use Rattle.compiler.specs.Common as common
use Rattle.compiler.specs.Common.{did_of}
use Rattle.compiler.specs.Moves.{Stored, set-off, keeps, ready-after, ready-part, ready-start, laid_as}
use Rattle.compiler.specs.FormsB.Operators.{on-piped}
use Rattle.compiler.specs.FormsB.Patterns.{Spare}

-- ---- the right, under the variables of the pattern

-- what binding the variables promises
pub record Bound (b : List ℕ) (q : ℕ) (s s' : List ℕ) (k r : ℕ) : Type 0 where
  pub is : (x : Pattern) → PatternAt b x q → (vw : View) → Seen vw b s k → Seen vw b s' r × (env_of vw b s' r ≡ push_vars (vars x) (env_of vw b s k))
  pub back : Opened s s' k r
  pub few : 3 * r + q ≤ 3 * k + end_of b q

module _ (b : List ℕ) (q : ℕ) (s : List ℕ) (k : ℕ) (st : State) (z₀ : ℕ) (y : Ready b s k (q + 3) z₀ st) (far : end_of b (end_of b q) ≤ z₀) (x : (x : Pattern) × PatternAt b x (q + 3)) (z : end_of b (q + 3) ≡ end_of b q) (u : Stands b (end_of b q)) where
  pub under-push : Pushing b s k (q + 3)
  under-push = record { small = y.small; view = y.view; seen = y.seen; spare = y.spare }

  pub under-ready : (s₁ : List ℕ) (i : ℕ) → Bound b (q + 3) s s₁ k i → Ready b s₁ i (end_of b q) (end_of b (end_of b q)) st × Stands b (end_of b q)
  under-ready s₁ i h = (
    record {
      small = y.small;
      view = y.view;
      seen = (h.is x.0 x.1 y.view y.seen).0;
      order = omega arith;
      within = omega (arith, far, y.within);
      spare = omega (arith, y.spare, h.few, z, h.back.same, term_fits b u.0 (end_of b q) u.1);
      nums = omega (arith, y.nums, far);
      offs = omega (arith, y.offs, far);
      errs = omega (arith, y.errs, far);
    },
    u,
  )

  -- the rows above k leave the view
  pub under-close : (s₁ s₂ : List ℕ) (st₁ : State) (d d₁ : List ℕ) (i al r : ℕ) → Bound b (q + 3) s s₁ k i → Laid b (end_of b q) s₁ s₂ i st st₁ d d₁ al r
      → Seen y.view b s₂ i × (y.view.locals ≤ k) × (k ≤ i)
  under-close s₁ s₂ st₁ d d₁ i al r h m =
      let v = h.is x.0 x.1 y.view y.seen in
      ((keeps b s₁ s₂ i (end_of b q + 1) (end_of b (end_of b q)) st st₁ m.paid y.view v.0).0, y.seen.order.1, h.back.order)

  pub under-is : (s₁ s₂ s₃ : List ℕ) (st₁ : State) (d d₁ : List ℕ) (i c al r : ℕ) → Bound b (q + 3) s s₁ k i → c ≡ get_or s 1 0 → Laid b (end_of b q) s₁ s₂ i st st₁ d d₁ al r → s₃ ≡ closed s₂ k i c
      → Under b q s s₃ k st st₁ d d₁ al r
  under-is s₁ s₂ s₃ st₁ d d₁ i c al r h e m f =
      record {
        is = λ vw g w wa t ta.
            let v = h.is w wa vw g in
            laid_as b (end_of b q) s₁ s₂ i st st₁ d d₁ al r vw (push_vars (vars w) (env_of vw b s k)) (num st) t m v.0 v.1 refl ta;
        paid = record {
          kept = ap (λ (l : List ℕ). take (4 * k) l) (f ∙ ap (λ (j : ℕ). closed s₂ k i j) e) ∙ opened-close s s₁ s₂ k i h.back (m.paid.same ∙ h.back.same) m.paid.kept;
          same = ap length f ∙ length-closed s₂ k i c ∙ m.paid.same ∙ h.back.same;
          nums = m.paid.nums;
          offs = m.paid.offs;
          errs = m.paid.errs;
        };
      }

-- ---- the whole

module _ (b : List ℕ) (p q : ℕ) (P : Term → Type 0) where
  pub on-pattern-pipe : get_or b p 0 ≡ 0xAD → q ≡ end_of b (p + 3) → get_or b q 0 ≡ 0xB7 → q + 3 < end_of b q
      → ((u : Term) (x : Pattern) (v : Term) → PipeAt b p q u (a_pattern x) v → PatternAt b x (q + 3) → end_of b (q + 3) ≡ end_of b q → P (t_pipe p u q (a_pattern x) v)) → (t : Term) → TermAt b t p → P t
  on-pattern-pipe e i n l f =
      on-piped b p q P e i n
      (λ u x v at.
      on-opt-pattern b (q + 3) (end_of b q) (λ y. PipeAt b p q u y v → P (t_pipe p u q y v)) l (λ z za zl a. f u z v a za zl) x at.pat at)

-- what stands in it
pub record PipedAt (b : List ℕ) (p q : ℕ) : Type 0 where
  pub left : Stands b (p + 3)
  pub pat : (x : Pattern) × PatternAt b x (q + 3)
  pub end : end_of b (q + 3) ≡ end_of b q
  pub right : Stands b (end_of b q)
  pub last : end_of b (end_of b q) ≡ end_of b p
  pub fits : end_of b p ≤ length b

module _ (b : List ℕ) (p q : ℕ) (s : List ℕ) (k o w pw : ℕ) (st st₁ : State) (e : get_or b p 0 ≡ 0xAD) (i : q ≡ end_of b (p + 3)) (n : get_or b q 0 ≡ 0xB7) (j : q + 3 < end_of b q)
    (y : Ready b s k (p + 1) (end_of b p) st) (g : Stands b p) (wd : (x : Pattern) → PatternAt b x (q + 3) → pw ≡ pat_width x) (wl : pw + 2 * (q + 3) + 2 ≤ 2 * end_of b (q + 3)) (wi : w ≡ 7 + pw)
    (f : st₁ ≡ with_off st (start_of o (off st) w)) where
  pub piped-at : PipedAt b p q
  piped-at =
      on-pattern-pipe b p q (λ _. PipedAt b p q) e i n j
      (λ u x v a xa xl. record { left = (u, a.left); pat = (x, xa); end = xl; right = (v, a.right); last = a.last; fits = a.fits }) g.0 g.1

  pub piped-left : Ready b s k (p + 3) (end_of b (p + 3)) st₁ × Stands b (p + 3)
  piped-left =
      let a = piped-at in
      (ready-start b s k (p + 1) (p + 3) (end_of b p) (end_of b (p + 3)) o w st st₁ y (omega arith) (omega arith) (omega (arith, i, a.last)) (omega (arith, wi, wl, a.end, a.last, a.fits, y.small)) f, a.left)

  -- behind the left
  piped-on : (s₁ : List ℕ) (st₂ : State) (d d₁ : List ℕ) (al r : ℕ) → Laid b (p + 3) s s₁ k st₁ st₂ d d₁ al r → Ready b s₁ k (end_of b (p + 3)) (end_of b p) st₂
  piped-on s₁ st₂ d d₁ al r m =
      let a = piped-at in
      let c = ready-start b s k (p + 1) (p + 3) (end_of b p) (end_of b p) o w st st₁ y (omega arith) (omega (arith, i, a.last)) (omega arith) (omega (arith, wi, wl, a.end, a.last, a.fits, y.small)) f in
      ready-after b s s₁ k (p + 3) (p + 3 + 1) (end_of b (p + 3)) (end_of b p) st₁ st₂ c (omega arith) (omega arith) (omega (arith, i, a.last)) m.paid

  pub piped-under : (s₁ : List ℕ) (st₂ : State) (d d₁ : List ℕ) (al r : ℕ) → Laid b (p + 3) s s₁ k st₁ st₂ d d₁ al r
      → Ready b s₁ k (q + 3) (end_of b (end_of b q)) st₂ × ((x : Pattern) × PatternAt b x (q + 3)) × (end_of b (q + 3) ≡ end_of b q) × Stands b (end_of b q)
  piped-under s₁ st₂ d d₁ al r m =
      let a = piped-at in
      (ready-part b s₁ k (end_of b (p + 3)) (q + 3) (end_of b p) (end_of b (end_of b q)) st₂ (piped-on s₁ st₂ d d₁ al r m) (omega (arith, i)) (omega arith) (omega (arith, a.last)), a.pat, a.end, a.right)

  -- The pattern is compiled behind the right: its own bytes are still to come
  pub piped-pattern : (s₁ s₂ : List ℕ) (st₂ st₃ : State) (d d₁ d₂ : List ℕ) (al r al' r' : ℕ) → Laid b (p + 3) s s₁ k st₁ st₂ d d₁ al r → Under b q s₁ s₂ k st₂ st₃ d₁ d₂ al' r'
      → Ready b s₂ k (q + 3 + 1) (end_of b (q + 3)) st₃ × Spare b s₂ k (q + 3) × ((x : Pattern) × PatternAt b x (q + 3))
  piped-pattern s₁ s₂ st₂ st₃ d d₁ d₂ al r al' r' m h =
      let a = piped-at in
      let c = piped-on s₁ st₂ d d₁ al r m in
      let v = keeps b s₁ s₂ k (end_of b q + 1) (end_of b (end_of b q)) st₂ st₃ h.paid c.view c.seen in (
        record {
          small = c.small;
          view = c.view;
          seen = v.0;
          order = omega arith;
          within = omega (arith, a.end, a.last, c.within);
          spare = omega (arith, c.spare, i, h.paid.same);
          nums = omega (arith, c.nums, h.paid.nums, a.end, a.last, i);
          offs = omega (arith, c.offs, h.paid.offs, a.end, a.last, i);
          errs = omega (arith, c.errs, h.paid.errs, a.end, a.last, i);
        },
        omega (arith, c.spare, i, h.paid.same),
        a.pat,
      )

  module _ (s₁ s₂ s₃ : List ℕ) (a c rl rr r x al : ℕ) (st₂ st₃ st₄ : State) (d d₁ d₂ d₃ : List ℕ) (a₁ : a ≡ num st₁) (ml : Laid b (p + 3) s s₁ k st₁ st₂ d d₁ 0 rl) (c₂ : c ≡ num st₂)
      (mr : Under b q s₁ s₂ k st₂ st₃ d₁ d₂ al rr) (mp : Patterned b (q + 3) s₂ s₃ k 0 st₃ st₄ d₂ d₃ r) where
    seen₁ : (vw : View) → Seen vw b s k → Seen vw b s₁ k × (env_of vw b s₁ k ≡ env_of vw b s k)
    seen₁ = keeps b s s₁ k (p + 3 + 1) (end_of b (p + 3)) st₁ st₂ ml.paid

    seen₂ : (vw : View) → Seen vw b s k → Seen vw b s₂ k × (env_of vw b s₂ k ≡ env_of vw b s k)
    seen₂ vw g₀ =
        let v = seen₁ vw g₀ in
        let w₀ = keeps b s₁ s₂ k (end_of b q + 1) (end_of b (end_of b q)) st₂ st₃ mr.paid vw v.0 in
        (w₀.0, w₀.1 ∙ v.1)

    -- the record is put where it belongs
    pub piped-put : Placed o st → x ≡ spot_of o (off st₄) → HoldsPat b s₃ (q + 3) k x w 7 × (off st₄ + w < 2 ^ 64)
    piped-put at e₀ =
        let u = piped-at in
        let v = seen₂ y.view y.seen in
        let m = mp.is y.view v.0 u.pat.0 0 u.pat.1 in
        let l = (mp.seen y.view v.0).0.within in
        let t₁ = set-off st st₁ (start_of o (off st) w) f in
        let h₁ : off st < late = omega (arith, y.offs) in
        let h₄ : off st₄ + w ≤ 137438953472 = omega (arith, y.offs, t₁.off, start-high o (off st) w, ml.paid.offs, mr.paid.offs, mp.paid.offs, wi, wl, u.end, u.last, u.fits, y.small, i) in
        let h₅ : spot_of o (off st₄) ≤ late = spot-within o (off st₄) late (placed-within o (off st) at (omega (arith, h₁))) (omega (arith, h₄)) in (
          record { x = u.pat.0; at = u.pat.1; rows = omega (arith, l, m.4); wide = wi ∙ ap (λ (j₀ : ℕ). 7 + j₀) (wd u.pat.0 u.pat.1); room = omega (arith, e₀, h₅, h₄) },
          omega (arith, h₄),
        )

    pub piped-did : (st₅ : State) (d₄ : List ℕ) → x ≡ spot_of o (off st₄) → st₅ ≡ with_off st₄ (next_of o (off st₄) w)
        → ((z : Pattern) → PatternAt b z (q + 3) → w ≡ 7 + pat_width z → d₄ ≡ overlay d₃ x (node_bytes 2 (n_pipe a (some (pat_at s₃ z k)) c)))
        → Did b p s s₃ k o st st₅ d d₄ al rr
    unfolding term
    piped-did st₅ d₄ zx f₅ pt =
        did_of b p s s₃ k o st st₅ d d₄ al rr y g
        (λ vw v. on-pattern-pipe b p q (λ t. common.Made b p (term vw.top t (env_of vw b s k) (num st) al) o st st₅ d d₄ rr) e i n j (is vw v))
        (mp.paid.kept ∙ mr.paid.kept ∙ ml.paid.kept) (mp.paid.same ∙ mr.paid.same ∙ ml.paid.same)
        (omega (arith, ml.paid.nums, mr.paid.nums, mp.paid.nums, t₁.num, t₅.num, at.end, at.last, i))
        (omega (arith, ml.paid.errs, mr.paid.errs, mp.paid.errs, t₁.ers, t₅.ers, at.end, at.last, i))
      where
        at : PipedAt b p q
        at = piped-at

        t₁ : Stored st₁ (num st) (start_of o (off st) w) (ers st)
        t₁ = set-off st st₁ (start_of o (off st) w) f

        t₅ : Stored st₅ (num st₄) (next_of o (off st₄) w) (ers st₄)
        t₅ = set-off st₄ st₅ (next_of o (off st₄) w) f₅

        is : (vw : View) → Seen vw b s k → (u : Term) (z : Pattern) (v : Term) → PipeAt b p q u (a_pattern z) v → PatternAt b z (q + 3) → end_of b (q + 3) ≡ end_of b q
            → common.Made b p (term vw.top (t_pipe p u q (a_pattern z) v) (env_of vw b s k) (num st) al) o st st₅ d d₄ rr
        is vw v u z u' pat za zl =
            let e₀ : Env = env_of vw b s k in
            let A : Out = term vw.top u e₀ (suc (num st)) empty in
            let K : ℕ = num st + size A in
            let B : Out = term vw.top u' (push_vars (vars z) e₀) (suc K) al in
            let Y : Made Pat = pattern vw.top z p e₀ (K + size B) in
            let N : Node = n_pipe (num st) (some Y.made) K in
            let pa = laid_as b (p + 3) s s₁ k st₁ st₂ d d₁ 0 rl vw e₀ (num st) u ml v refl t₁.num pat.left in
            let n₂ : num st₂ ≡ K = pa.0.nums ∙ ap (λ (m : ℕ). m + size A) t₁.num in
            let v₁ = seen₁ vw v in
            let pb : Put (slot B) B.errs st₂ st₃ d₁ d₂ × (rr ≡ B.tail) =
            subst (λ (m : ℕ). let O = term vw.top u' (push_vars (vars z) e₀) (suc m) al in Put (slot O) O.errs st₂ st₃ d₁ d₂ × (rr ≡ O.tail)) n₂
            (subst (λ (h : Env). let O = term vw.top u' (push_vars (vars z) h) (suc (num st₂)) al in Put (slot O) O.errs st₂ st₃ d₁ d₂ × (rr ≡ O.tail)) v₁.1 (mr.is vw v₁.0 z za u' pat.right)) in
            let n₃ : num st₃ ≡ K + size B = pb.0.nums ∙ ap (λ (m : ℕ). m + size B) n₂ in
            let v₂ = seen₂ vw v in
            let pc : Put Y.more Y.errs st₃ st₄ d₂ d₃ × (pat_at s₃ z k ≡ Y.made) =
            subst (λ (m : ℕ). let O = pattern vw.top z p e₀ m in Put O.more O.errs st₃ st₄ d₂ d₃ × (pat_at s₃ z k ≡ O.made)) n₃
            (subst (λ (h : Env). let O = pattern vw.top z p h (num st₃) in Put O.more O.errs st₃ st₄ d₂ d₃ × (pat_at s₃ z k ≡ O.made)) v₂.1
            (let m = mp.is vw v₂.0 z p za in (m.0, m.1))) in
            let pbc = put_then (slot B) Y.more B.errs Y.errs st₂ st₃ st₄ d₁ d₂ d₃ pb.0 pc.0 in
            let pabc = put_then (slot A) (slot B ++ Y.more) A.errs (B.errs ++ Y.errs) st₁ st₂ st₄ d d₁ d₃ pa.0 pbc in
            let w₀ : w ≡ 7 + pat_width z = wi ∙ ap (λ (m : ℕ). 7 + m) (wd z za) in
            let wn : w ≡ length (node_bytes 2 N) = w₀ ∙ own-pipe p u q (a_pattern z) u' vw.top e₀ (num st) al in
            record {
              own =
                  own-node (outs.node p N (slot A ++ (slot B ++ Y.more)) (A.errs ++ (B.errs ++ Y.errs)) B.tail) o w x st st₁ st₄ st₅ d d₃ d₄ wn f pabc zx f₅
                  (pt z za w₀
                  ∙ ap₂ (λ (m l : ℕ). overlay d₃ x (node_bytes 2 (n_pipe m (some (pat_at s₃ z k)) l))) (a₁ ∙ t₁.num) (c₂ ∙ n₂)
                  ∙ ap (λ (m : Pat). overlay d₃ x (node_bytes 2 (n_pipe (num st) (some m) K))) pc.1);
              tail = pb.1;
              wide = omega (arith, wn, w₀, pabc.offs, ml.paid.offs, mr.paid.offs, mp.wide z za, zl, pat.last, i);
            }
