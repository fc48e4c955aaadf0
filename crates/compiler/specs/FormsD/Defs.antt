-- Definitions: one of them with its parameters and body in view, a row of them, and the term behind them with its own record. Assumes nothing.
use Prim.Native.Nat.{ℕ, zero, suc, ◌+◌, ◌-◌, ◌*◌, ◌≤◌, ◌<◌}
use Rattle.std.proofs.Common.{arith, sym, ap₂, subst, ◌∙◌, inl, inr, length-append}
use Rattle.std.specs.Prelude.{◌≡◌, refl, get_or, set}
use Rattle.std.proofs.Math.Path.{ap}
use mathlib.Core.List.{List, ◌∷◌}
use Rattle.std.specs.Int.Bits.{bit_or}
use Rattle.std.proofs.Math.ListN.{length, take, length-set}
use Rattle.tree.specs.Rose.{rnil, rcons, end_of, text_of, Row}
use Rattle.tree.specs.Tree.{Name, Term, Defs, ds_nil, ds_cons, Def, def, t_def}
use Rattle.tree.specs.Form.{f_term, f_defs, f_names}
use Rattle.rules.specs.Tails.{bit, sibling}
use Rattle.rules.specs.Rows.{Env, filter, filter_of, level, inside}
use Rattle.rules.specs.Filters.{Top}
use Rattle.rules.specs.Outs.{Out, slot, size}
use Rattle.rules.specs.Listing.{rec_bytes, table_bytes}
use Rattle.rules.specs.Rules.{Scope, term, defs, body, defined}
use Rattle.compiler.specs.declared.Run.{Run}
use Rattle.puts.specs.declared.state.State.{State}
use Rattle.puts.specs.State.{num, off, ers, late, start_of, Put, Own, with_off}
use Rattle.puts.specs.Rooms.{put-none, put_then, table-append, own-of-def, start-low, start-own, start-other}
use Rattle.reads.specs.Bytes.{after, Fields, name_at, names_of, TermAt, DefAt}
use Rattle.reads.specs.Shapes.{UnderAt, on-def, DefIs, on-the-def, on-def-cons, on-def-nil, length-names, head-fits}
use Rattle.cells.specs.Cells.{View, Seen, env_of, Opened, Pushing, Room, pushed, closed, unlinked_all, kind_at, head_at}
use Rattle.cells.specs.Leaving.{length-unlinked-all}
use Rattle.rows.specs.Kept.{below_at, seen-kept, heads-below}
use Rattle.rows.specs.Fields.{length-pushed}
use Rattle.rows.specs.Pushed.{seen-sibling, push-ready}
use Rattle.rows.specs.Opened.{opened-none, opened-then, opened-leave, opened-sibling, leave-ready, close-ready}
use Rattle.finds.specs.Wide.{WidthAt}
use Rattle.compiler.specs.Post.{Ready, Stands, Placed, Laid, Did, Defined, Scoped}
use Rattle.compiler.specs.Calling.{Reserved}
use Rattle.compiler.specs.Moves.{Stored, set-off, laid_as}
use Rattle.compiler.specs.Common as common
use Rattle.compiler.specs.Common.{did_of}

-- there are rows below the locals
pub ready-cells : (b s : List ℕ) (k p z : ℕ) (st : State) → Ready b s k p z st → (9 ≤ length s) × (0 < k) × (k < 65536)
ready-cells b s k p z st y = let n = heads-below y.view b s k y.seen in (omega (arith, n, y.seen.within), omega (arith, n), omega (arith, y.seen.within, y.seen.small))

-- ---- one definition

after-low : (b : List ℕ) (n q : ℕ) → q + 3 * n ≤ after b n q
unfolding after
after-low b zero q = omega arith
after-low b (suc n) q = omega (arith, after-low b n (end_of b q))

-- what is known of the definition at q: its a parameters, and where its body stands
pub record Opening (b : List ℕ) (q a u : ℕ) : Type 0 where
  pub fits : end_of b q ≤ length b
  pub name : end_of b (q + 3) ≤ length b
  pub params : Fields b a (end_of b (q + 3))
  pub body : Stands b u
  pub last : end_of b u ≡ end_of b q
  pub low : q + 6 + 3 * a ≤ u

-- what the parameters' count says: e is behind the name
abbrev pub Counts : List ℕ → ℕ → ℕ → ℕ → Type 0
Counts b e a u = (xs : List Name) (t : Term) (z : ℕ) → Row b (f_names 0x91 xs (rcons (f_term t) rnil)) e z → (a ≡ length xs) × (u ≡ after b (length xs) e)

counted : (b : List ℕ) (q e a u n : ℕ) (t : Term) → e ≡ end_of b (q + 3) → Counts b e a u → DefIs b q n t → (a ≡ n) × (u ≡ after b n (end_of b (q + 3)))
counted b q e a u n t ee c d =
    let c' : Counts b (end_of b (q + 3)) a u = subst (λ (i : ℕ). Counts b i a u) ee c in
    let w = c' (names_of b n (end_of b (q + 3))) t (end_of b q) d.row in
    let l = length-names b n (end_of b (q + 3)) in
    (w.0 ∙ l, w.1 ∙ ap (λ (i : ℕ). after b i (end_of b (q + 3))) l)

-- before they are counted
pub open_at : (b : List ℕ) (q : ℕ) → (x : Def) × DefAt b x q
    → (end_of b (q + 3) ≤ length b) × ((xs : List Name) × (t : Term) × (z : ℕ) × Row b (f_names 0x91 xs (rcons (f_term t) rnil)) (end_of b (q + 3)) z × (z ≤ length b))
open_at b q g =
    on-the-def b q (λ _. (end_of b (q + 3) ≤ length b) × ((xs : List Name) × (t : Term) × (z : ℕ) × Row b (f_names 0x91 xs (rcons (f_term t) rnil)) (end_of b (q + 3)) z × (z ≤ length b)))
    (λ n t d. (d.name, (names_of b n (end_of b (q + 3)), t, end_of b q, d.row, d.fits))) g.0 g.1

pub open-params : (b : List ℕ) (q e : ℕ) → (x : Def) × DefAt b x q → e ≡ end_of b (q + 3)
    → (xs : List Name) × (t : Term) × (z : ℕ) × Row b (f_names 0x91 xs (rcons (f_term t) rnil)) e z × (z ≤ length b)
open-params b q e g ee =
    subst (λ (i : ℕ). (xs : List Name) × (t : Term) × (z : ℕ) × Row b (f_names 0x91 xs (rcons (f_term t) rnil)) i z × (z ≤ length b)) (sym ee) (open_at b q g).1

pub open-known : (b : List ℕ) (q e a u : ℕ) → (x : Def) × DefAt b x q → e ≡ end_of b (q + 3) → Counts b e a u → Opening b q a u
open-known b q e a u g ee c = on-the-def b q (λ _. Opening b q a u) go g.0 g.1
  where
    go : (n : ℕ) (t : Term) → DefIs b q n t → Opening b q a u
    go n t d =
        let w = counted b q e a u n t ee c d in
        subst (λ (i : ℕ). Opening b q i u) (sym w.0)
        (subst (λ (i : ℕ). Opening b q n i) (sym w.1)
        (record { fits = d.fits; name = d.name; params = d.params; body = (t, d.body); last = d.last; low = omega (arith, after-low b n (end_of b (q + 3))) }))

-- its parameters and itself are in view
abbrev pub Inside : List ℕ → List ℕ → List ℕ → ℕ → ℕ → ℕ → ℕ → Type 0
Inside b s s₁ k q a n =
    ((vw : View) → Seen vw b s k → Seen vw b s₁ (k + a + 1) × (env_of vw b s₁ (k + a + 1) ≡ inside (name_at b (q + 3)) (names_of b a (end_of b (q + 3))) n (env_of vw b s k)))
    × Opened s (set s₁ 2 (get_or s 2 0)) k (k + a + 1)

module _ (b s : List ℕ) (k q a u n : ℕ) (st : State) (y : Ready b s k q (end_of b q) st) (o : Opening b q a u) (en : n ≡ num st) where
  number-few : n < 65536
  number-few = omega (arith, en, y.nums)

  rows_few : 4 * (k + a + 1) + 4 ≤ length s
  rows_few = omega (arith, y.spare, o.low, o.last, o.fits)

  row-positive : 0 < k
  row-positive = omega (arith, heads-below y.view b s k y.seen)

  pub open-rows : k + a + 1 < 65536
  open-rows = omega (arith, rows_few, y.seen.small)

  pub open-enter : Pushing b s k (q + 3) × (end_of b (q + 3) ≤ length b) × Fields b a (end_of b (q + 3)) × (4 * (k + a + 1) ≤ length s) × (n < 65536)
  open-enter = (record { small = y.small; view = y.view; seen = y.seen; spare = omega (arith, y.spare) }, o.name, o.params, omega (arith, rows_few), number-few)

  module _ (s₁ : List ℕ) (i : Inside b s s₁ k q a n) where
    inside-same : length s₁ ≡ length s
    inside-same = sym (length-set s₁ 2 (get_or s 2 0)) ∙ i.1.same

    pub open-body : Ready b s₁ (k + a + 1) u (end_of b u) st × Stands b u
    open-body = (
      record {
        small = y.small;
        view = y.view;
        seen = (i.0 y.view y.seen).0;
        order = omega arith;
        within = omega (arith, o.last, o.fits);
        spare = omega (arith, y.spare, o.low, o.last, o.fits, inside-same);
        nums = omega (arith, y.nums, o.low, o.last);
        offs = omega (arith, y.offs, o.low, o.last);
        errs = omega (arith, y.errs, o.low, o.last);
      },
      o.body,
    )

    module _ (s₂ : List ℕ) (st₁ : State) (d d₁ : List ℕ) (al l r : ℕ) (el : l ≡ bit (get_or s 2 0)) (m : Laid b u s₁ s₂ (k + a + 1) st st₁ d d₁ (bit_or al l) r) where
      pub open-leave : (4 * (k + a + 1) ≤ length s₂) × (3 ≤ length s₂) × (k ≤ k + a + 1) × ((j : ℕ) → k ≤ j → j < k + a + 1 → kind_at s₂ j < 6 → (head_at s₂ j < length s₂) × (head_at s₂ j < 4 * k))
      open-leave =
          let w = seen-kept y.view b s₁ s₂ (k + a + 1) m.paid.kept m.paid.same (i.0 y.view y.seen).0 in
          leave-ready y.view b s₂ k (k + a + 1) w.0 y.seen.order.1 (omega arith)

      module _ (s₃ : List ℕ) (e₃ : s₃ ≡ set (closed s₂ k (k + a + 1) (get_or s 1 0)) 2 (get_or s 2 0)) where
        same₃ : length s₃ ≡ length s
        same₃ =
            ap length e₃ ∙ length-set (closed s₂ k (k + a + 1) (get_or s 1 0)) 2 (get_or s 2 0) ∙ length-set (unlinked_all s₂ k (k + a + 1 - k)) 1 (get_or s 1 0)
            ∙ length-unlinked-all s₂ k (k + a + 1 - k) ∙ m.paid.same ∙ inside-same

        keep₃ : take (4 * k) s₃ ≡ take (4 * k) s
        keep₃ = ap (λ (x : List ℕ). take (4 * k) x) e₃ ∙ opened-leave s s₁ s₂ k (k + a + 1) row-positive i.1 (m.paid.same ∙ inside-same) m.paid.kept

        seen₃ : (vw : View) → Seen vw b s k → Seen vw b s₃ k × (env_of vw b s₃ k ≡ env_of vw b s k)
        seen₃ vw g = seen-kept vw b s s₃ k keep₃ same₃ g

        at₃ : (j : ℕ) → j < 4 * k → get_or s₃ j 0 ≡ get_or s j 0
        at₃ j h = below_at (4 * k) s s₃ keep₃ j h

        nine : 9 ≤ 4 * k
        nine = omega (arith, heads-below y.view b s k y.seen)

        arity-few : a < 65536
        arity-few = omega (arith, o.low, o.last, o.fits, y.small)

        pub open-push : Room s₃ k × (end_of b (q + 3) ≤ length b) × (length b ≤ 32768) × (4 < 6) × (a < 65536) × (n < 65536) × (get_or s 1 0 < 65536) × (get_or s 2 0 < 16384)
        open-push =
            push-ready y.view b s₃ k 4 (q + 3) a n (get_or s 1 0) (get_or s 2 0) (seen₃ y.view y.seen).0 y.small (omega (arith, rows_few, same₃)) o.name (omega arith) arity-few number-few
            (omega (arith, at₃ 1 (omega (arith, nine)))) (omega (arith, at₃ 2 (omega (arith, nine))))

        pub open-did : (s₄ : List ℕ) → s₄ ≡ pushed (text_of b (q + 3)) s₃ k 4 (q + 3) a n (get_or s 1 0) (get_or s 2 0) r → (e : ℕ) → e ≡ end_of b (q + 3) → Counts b e a u → Defined b q s s₄ k st st₁ d d₁ al
        unfolding term
        open-did s₄ e₄ e ee c =
            record {
              is = λ vw g. on-the-def b q (Goal vw) (is vw g);
              back = opened-from;
              same = same₄ ∙ same₃;
              nums = omega (arith, m.paid.nums, o.low, o.last);
              offs = omega (arith, m.paid.offs, o.low, o.last);
              errs = omega (arith, m.paid.errs, o.low, o.last);
            }
          where
            same₄ : length s₄ ≡ length s₃
            same₄ = ap length e₄ ∙ length-pushed (text_of b (q + 3)) s₃ k 4 (q + 3) a n (get_or s 1 0) (get_or s 2 0) r

            room₃ : 4 * k + 4 ≤ length s₃
            room₃ = omega (arith, rows_few, same₃)

            sibling₄ : (vw : View) → Seen vw b s k
                → Seen vw b s₄ (k + 1) × (env_of vw b s₄ (k + 1) ≡ filter (filter_of (name_at b (q + 3)) (names_of b a (end_of b (q + 3))) n (env_of vw b s k) (sibling r)) ∷ env_of vw b s k)
            sibling₄ vw g =
                let w = seen₃ vw g in
                let v = seen-sibling vw b s₃ k (q + 3) a n (get_or s 1 0) (get_or s 2 0) r w.0 y.small room₃ o.name o.params arity-few number-few (sym (at₃ 1 (omega (arith, nine)))) (sym (at₃ 2 (omega (arith, nine)))) in
                subst (λ (x : List ℕ). Seen vw b x (k + 1) × (env_of vw b x (k + 1) ≡ filter (filter_of (name_at b (q + 3)) (names_of b a (end_of b (q + 3))) n (env_of vw b s k) (sibling r)) ∷ env_of vw b s k)) (sym e₄)
                (v.0, v.1 ∙ ap (λ (E : Env). filter (filter_of (name_at b (q + 3)) (names_of b a (end_of b (q + 3))) n E (sibling r)) ∷ E) w.1)

            opened-from : Opened s s₄ k (k + 1)
            opened-from =
                let w = opened-sibling y.view b s₃ k (q + 3) a n (get_or s 1 0) (get_or s 2 0) r (seen₃ y.view y.seen).0 y.small room₃ o.name o.params arity-few number-few in
                let v : Opened s₃ s₄ k (k + 1) = subst (λ (x : List ℕ). Opened s₃ x k (k + 1)) (sym e₄) w in
                record {
                  order = v.order;
                  same = v.same ∙ same₃;
                  back = λ t l f. ap (λ (x : ℕ). take (4 * k) (closed t k (k + 1) x)) (sym (at₃ 1 (omega (arith, nine)))) ∙ v.back t (l ∙ sym same₃) f ∙ keep₃;
                }

            Goal : View → Def → Type 0
            Goal vw x =
                let E = env_of vw b s k in let p = body vw.top x E (num st) al in
                Put (slot p) p.errs st st₁ d d₁ × (env_of vw b s₄ (k + 1) ≡ defined vw.top x E (num st) p.tail ∷ E) × Seen vw b s₄ (k + 1)

            known : (vw : View) → Seen vw b s k → (t : Term) → TermAt b t u → Goal vw (def q (name_at b (q + 3)) (names_of b a (end_of b (q + 3))) t)
            known vw g t x =
                let E = env_of vw b s k in
                let ns = names_of b a (end_of b (q + 3)) in
                let v = i.0 vw g in
                let L = laid_as b u s₁ s₂ (k + a + 1) st st₁ d d₁ (bit_or al l) r vw (inside (name_at b (q + 3)) ns n E) (num st) t m v.0 v.1 refl x in
                let L₁ : let p = term vw.top t (inside (name_at b (q + 3)) ns n E) (suc (num st)) (bit_or al (bit (level E))) in Put (slot p) p.errs st st₁ d d₁ × (r ≡ p.tail) =
                subst (λ (z : ℕ). let p = term vw.top t (inside (name_at b (q + 3)) ns n E) (suc (num st)) (bit_or al z) in Put (slot p) p.errs st st₁ d d₁ × (r ≡ p.tail)) (el ∙ ap bit g.above) L in
                let L₂ : let p = term vw.top t (inside (name_at b (q + 3)) ns (num st) E) (suc (num st)) (bit_or al (bit (level E))) in Put (slot p) p.errs st st₁ d d₁ × (r ≡ p.tail) =
                subst (λ (z : ℕ). let p = term vw.top t (inside (name_at b (q + 3)) ns z E) (suc (num st)) (bit_or al (bit (level E))) in Put (slot p) p.errs st st₁ d d₁ × (r ≡ p.tail)) en L₁ in
                let w = sibling₄ vw g in
                (L₂.0, w.1 ∙ ap₂ (λ (x z : ℕ). filter (filter_of (name_at b (q + 3)) ns x E (sibling z)) ∷ E) en L₂.1, w.0)

            is : (vw : View) → Seen vw b s k → (j : ℕ) (t : Term) → DefIs b q j t → Goal vw (def q (name_at b (q + 3)) (names_of b j (end_of b (q + 3))) t)
            is vw g j t x =
                let w = counted b q e a u j t ee c x in
                subst (λ (z : ℕ). Goal vw (def q (name_at b (q + 3)) (names_of b z (end_of b (q + 3))) t)) w.0 (known vw g t (subst (λ (z : ℕ). TermAt b t z) (sym w.1) x.body))

-- ---- definitions one after the other

-- the definitions ds, the first of number n, were compiled, and the rows e' are in view then
pub record DefsIs (c : Top) (e : Env) (n : ℕ) (ds : Defs) (al : ℕ) (e' : Env) (st st' : State) (d d' : List ℕ) : Type 0 where
  pub put : Put (defs c ds e n al).more (defs c ds e n al).errs st st' d d'
  pub env : e' ≡ (defs c ds e n al).env

defs-none : (c : Top) (e : Env) (n al : ℕ) (st : State) (d : List ℕ) → DefsIs c e n ds_nil al e st st d d
unfolding term
defs-none c e n al st d = record { put = put-none st d; env = refl }

defs-one : (c : Top) (e : Env) (x : Def) (ds : Defs) (al : ℕ) (e₁ e' : Env) (st st₁ st' : State) (d d₁ d' : List ℕ)
    → (let o = body c x e (num st) al in Put (slot o) o.errs st st₁ d d₁ × (e₁ ≡ defined c x e (num st) o.tail ∷ e))
    → DefsIs c e₁ (num st₁) ds al e' st₁ st' d₁ d' → DefsIs c e (num st) (ds_cons x ds) al e' st st' d d'
unfolding term
defs-one c e x ds al e₁ e' st st₁ st' d d₁ d' P r =
    let A : Out = body c x e (num st) al in
    let F : Env = defined c x e (num st) A.tail ∷ e in
    let r' : DefsIs c F (num st + size A) ds al e' st₁ st' d₁ d' =
    subst (λ (i : ℕ). DefsIs c F i ds al e' st₁ st' d₁ d') P.0.nums (subst (λ (i : Env). DefsIs c i (num st₁) ds al e' st₁ st' d₁ d') P.1 r) in
    let O : Scope = defs c ds F (num st + size A) al in
    record { put = put_then (slot A) O.more A.errs O.errs st st₁ st' d d₁ d' P.0 r'.put; env = r'.env }

abbrev pub DefsRow : List ℕ → Defs → Term → ℕ → ℕ → Type 0
DefsRow b ds t q z = Row b (f_defs ds (rcons (f_term t) rnil)) q z

-- the loop: the next definition, or the term behind them, is at p, and row i is the next
pub record DefsLeft (vw : View) (b : List ℕ) (t : Term) (z : ℕ) (ds : Defs) (e : Env) (st₀ : State) (d₀ : List ℕ) (al p i : ℕ) (s : List ℕ) (st : State) (d : List ℕ) : Type 0 where
  pub rest : Defs
  pub at : DefsRow b rest t p z
  pub goes : (e' : Env) (st' : State) (d' : List ℕ) → DefsIs vw.top (env_of vw b s i) (num st) rest al e' st st' d d' → DefsIs vw.top e (num st₀) ds al e' st₀ st' d₀ d'

pub record Scoping (b : List ℕ) (q : ℕ) (s₀ : List ℕ) (k : ℕ) (st₀ : State) (d₀ : List ℕ) (al p i : ℕ) (s : List ℕ) (st : State) (d : List ℕ) : Type 0 where
  pub goes : (vw : View) → Seen vw b s₀ k → (ds : Defs) (t : Term) (z : ℕ) → DefsRow b ds t q z → DefsLeft vw b t z ds (env_of vw b s₀ k) st₀ d₀ al p i s st d
  pub ends : (ds : Defs) (t : Term) (z : ℕ) → DefsRow b ds t q z → (rest : Defs) × DefsRow b rest t p z
  pub seen : (vw : View) → Seen vw b s₀ k → Seen vw b s i
  pub some : (z : ℕ) × Ready b s i p z st × ((ds : Defs) × (t : Term) × DefsRow b ds t p z)
  pub back : Opened s₀ s k i
  pub rows : 3 * i + q ≤ 3 * k + p
  pub nums : num st + 2 * q ≤ num st₀ + 2 * p
  pub offs : off st + 64 * q ≤ off st₀ + 64 * p
  pub errs : ers st + 64 * q ≤ ers st₀ + 64 * p
  pub size : length d ≡ length d₀

pub scoping-start : (b : List ℕ) (q : ℕ) (s : List ℕ) (k : ℕ) (st : State) (d : List ℕ) (al : ℕ) → (z : ℕ) × Ready b s k q z st × ((ds : Defs) × (t : Term) × DefsRow b ds t q z) → Scoping b q s k st d al q k s st d
scoping-start b q s k st d al y =
    record {
      goes = λ vw g ds t z r. record { rest = ds; at = r; goes = λ e' st' d' i. i };
      ends = λ ds t z r. (ds, r);
      seen = λ vw g. g;
      some = y;
      back = opened-none s k;
      rows = omega arith;
      nums = omega arith;
      offs = omega arith;
      errs = omega arith;
      size = refl;
    }

-- something stands at p
defs-fit : (b : List ℕ) (ds : Defs) (t : Term) (p z : ℕ) → DefsRow b ds t p z → (end_of b p ≤ length b) × (end_of b p ≤ z)
unfolding f_term
defs-fit b ds_nil t p z r = head-fits b (f_term t) rnil p z r
defs-fit b (ds_cons x ds) t p z r = head-fits b _ (f_defs ds (rcons (f_term t) rnil)) p z r

module _ (b : List ℕ) (q : ℕ) (s₀ : List ℕ) (k : ℕ) (st₀ : State) (d₀ : List ℕ) (al p i : ℕ) (s : List ℕ) (st : State) (d : List ℕ) (o : Scoping b q s₀ k st₀ d₀ al p i s st d) where
  pub scoping-fits : (end_of b p ≤ length b) × (end_of b p ≤ o.some.0)
  scoping-fits = defs-fit b o.some.2.0 o.some.2.1 p o.some.0 o.some.2.2

  abbrev Next : Type 0
  Next = ((x : Def) × DefAt b x p) × ((ds : Defs) × (t : Term) × DefsRow b ds t (end_of b p) o.some.0)

  next : get_or b p 0 ≡ 0x8C → Next
  next e = on-def-cons b p o.some.0 (λ _. Next) o.some.2.1 e (λ x ds a r. ((x, a), (ds, o.some.2.1, r))) o.some.2.0 o.some.2.2

  pub scoping-ready : get_or b p 0 ≡ 0x8C → Ready b s i p (end_of b p) st × ((x : Def) × DefAt b x p)
  scoping-ready e =
      let y = o.some.1 in
      let f = scoping-fits in (
        record {
          small = y.small;
          view = y.view;
          seen = y.seen;
          order = omega arith;
          within = f.0;
          spare = y.spare;
          nums = omega (arith, y.nums, f.1);
          offs = omega (arith, y.offs, f.1);
          errs = omega (arith, y.errs, f.1);
        },
        (next e).0,
      )

  pub scoping-more : get_or b p 0 ≡ 0x8C → (s₁ : List ℕ) (st₁ : State) (d₁ : List ℕ) → Defined b p s s₁ i st st₁ d d₁ al → (p' : ℕ) → p' ≡ end_of b p → 0 < k → Scoping b q s₀ k st₀ d₀ al p' (i + 1) s₁ st₁ d₁
  scoping-more e s₁ st₁ d₁ m p' ep pos =
      subst (λ (x : ℕ). Scoping b q s₀ k st₀ d₀ al x (i + 1) s₁ st₁ d₁) (sym ep)
      (record {
        goes = λ vw g ds t z r. left vw g ds t z (o.goes vw g ds t z r);
        ends = λ ds t z r. more t z (o.ends ds t z r);
        seen = λ vw g. (m.is vw (o.seen vw g) (next e).0.0 (next e).0.1).2;
        some = (o.some.0, ready, (next e).1);
        back = opened-then s₀ s s₁ k i (i + 1) pos o.back m.back;
        rows = omega (arith, o.rows);
        nums = omega (arith, m.nums, o.nums);
        offs = omega (arith, m.offs, o.offs);
        errs = omega (arith, m.errs, o.errs);
        size = (m.is o.some.1.view o.some.1.seen (next e).0.0 (next e).0.1).0.size ∙ o.size;
      })
    where
      ready : Ready b s₁ (i + 1) (end_of b p) o.some.0 st₁
      ready =
          let y = o.some.1 in
          let f = scoping-fits in
          record {
            small = y.small;
            view = y.view;
            seen = (m.is y.view y.seen (next e).0.0 (next e).0.1).2;
            order = f.1;
            within = y.within;
            spare = omega (arith, y.spare, m.same, f.0);
            nums = omega (arith, y.nums, m.nums, f.1);
            offs = omega (arith, y.offs, m.offs, f.1);
            errs = omega (arith, y.errs, m.errs, f.1);
          }

      more : (t : Term) (z : ℕ) → ((rest : Defs) × DefsRow b rest t p z) → (rest : Defs) × DefsRow b rest t (end_of b p) z
      more t z w = on-def-cons b p z (λ _. (rest : Defs) × DefsRow b rest t (end_of b p) z) t e (λ x ds a r. (ds, r)) w.0 w.1

      left : (vw : View) → Seen vw b s₀ k → (ds : Defs) (t : Term) (z : ℕ) → DefsLeft vw b t z ds (env_of vw b s₀ k) st₀ d₀ al p i s st d
          → DefsLeft vw b t z ds (env_of vw b s₀ k) st₀ d₀ al (end_of b p) (i + 1) s₁ st₁ d₁
      left vw g ds t z w =
          on-def-cons b p z
          (λ rest. ((e' : Env) (st' : State) (d' : List ℕ) → DefsIs vw.top (env_of vw b s i) (num st) rest al e' st st' d d' → DefsIs vw.top (env_of vw b s₀ k) (num st₀) ds al e' st₀ st' d₀ d')
          → DefsLeft vw b t z ds (env_of vw b s₀ k) st₀ d₀ al (end_of b p) (i + 1) s₁ st₁ d₁)
          t e
          (λ x us a r f.
          let n = m.is vw (o.seen vw g) x a in
          record { rest = us; at = r; goes = λ e' st' d' u. f e' st' d' (defs-one vw.top (env_of vw b s i) x us al (env_of vw b s₁ (i + 1)) e' st st₁ st' d d₁ d' (n.0, n.1) u) })
          w.rest w.at w.goes

  pub scoping-done : (get_or b p 0 ≡ 0x8C → ⊥) → (r : Run) → r.k ≡ i → r.q ≡ p → Scoped b q s₀ s k st₀ st d₀ d al r
  scoping-done e r ek eq =
      record {
        is = λ vw g ds t z w.
            let u = done vw g ds t z (o.goes vw g ds t z w) in
            (u.put, subst (λ (x : ℕ). env_of vw b s x ≡ (defs vw.top ds (env_of vw b s₀ k) (num st₀) al).env) (sym ek) u.env, subst (λ (x : ℕ). Seen vw b s x) (sym ek) (o.seen vw g));
        at = λ ds t z w. subst (λ (x : ℕ). TermAt b t x × (end_of b x ≡ z)) (sym eq) (ended t z (o.ends ds t z w));
        back = subst (λ (x : ℕ). Opened s₀ s k x) (sym ek) o.back;
        rows = omega (arith, ek, eq, o.rows);
        nums = omega (arith, eq, o.nums);
        offs = omega (arith, eq, o.offs);
        errs = omega (arith, eq, o.errs);
      }
    where
      ended : (t : Term) (z : ℕ) → ((rest : Defs) × DefsRow b rest t p z) → TermAt b t p × (end_of b p ≡ z)
      ended t z w = on-def-nil b p z (λ _. TermAt b t p × (end_of b p ≡ z)) t e (λ a l. (a, l)) w.0 w.1

      done : (vw : View) → Seen vw b s₀ k → (ds : Defs) (t : Term) (z : ℕ) → DefsLeft vw b t z ds (env_of vw b s₀ k) st₀ d₀ al p i s st d
          → DefsIs vw.top (env_of vw b s₀ k) (num st₀) ds al (env_of vw b s i) st₀ st d₀ d
      done vw g ds t z w =
          on-def-nil b p z
          (λ rest. (DefsIs vw.top (env_of vw b s i) (num st) rest al (env_of vw b s i) st st d d → DefsIs vw.top (env_of vw b s₀ k) (num st₀) ds al (env_of vw b s i) st₀ st d₀ d) → DefsIs vw.top (env_of vw b s₀ k) (num st₀) ds al (env_of vw b s i) st₀ st d₀ d)
          t e (λ a l f. f (defs-none vw.top (env_of vw b s i) (num st) al st d)) w.rest w.at (w.goes (env_of vw b s i) st d)

-- ---- room for the own record before the definitions

pub reserve-some : (b : List ℕ) (p : ℕ) (s : List ℕ) (o w : ℕ) (st st₁ : State) → o ≡ off st → WidthAt b s p w → w ≤ 1048576 → st₁ ≡ with_off st (o + w) → Reserved b p s o st st₁
reserve-some b p s o w st st₁ e f l h =
    record {
      is = λ vw k g u x n al.
          let W = f vw k g u x n al in
          h ∙ ap (λ (z : ℕ). with_off st z) (sym (start-own o w) ∙ ap₂ (λ (y z : ℕ). start_of o y z) e W);
      few = omega (arith, (set-off st st₁ (o + w) h).off, e, l);
    }

pub reserve-none : (b : List ℕ) (p : ℕ) (s : List ℕ) (o : ℕ) (st : State) → (o ≡ off st → ⊥) → Reserved b p s o st st
reserve-none b p s o st e =
    record {
      is = λ vw k g u x n al. ap (λ (z : ℕ). with_off st z) (sym (start-other o (off st) (length (rec_bytes 2 (term vw.top u (env_of vw b s k) n al).self)) e));
      few = omega arith;
    }

-- ---- definitions, then a term under them

module _ (b s : List ℕ) (k p o : ℕ) (st st₁ : State) (tg : get_or b p 0 ≡ 0xA9) (y : Ready b s k (p + 1) (end_of b p) st) (g : Stands b p) (v : Reserved b p s o st st₁) where
  abbrev Row₀ : Type 0
  Row₀ = (ds : Defs) × (t : Term) × DefsRow b ds t (p + 3) (end_of b p)

  under : Row₀ × (end_of b p ≤ length b)
  under = on-def b p (λ _. Row₀ × (end_of b p ≤ length b)) tg (λ ds t n. ((ds, t, n.defs), n.fits)) g.0 g.1

  under_low : p + 6 ≤ end_of b p
  under_low = let r = under.0 in omega (arith, (defs-fit b r.0 r.1 (p + 3) (end_of b p) r.2).1)

  -- what was reserved
  abbrev width : ℕ
  width = length (rec_bytes 2 (term y.view.top g.0 (env_of y.view b s k) 0 0).self)

  stored : Stored st₁ (num st) (start_of o (off st) width) (ers st)
  stored = set-off st st₁ (start_of o (off st) width) (v.is y.view k y.seen g.0 g.1 0 0)

  pub def-ready : (z : ℕ) × Ready b s k (p + 3) z st₁ × ((ds : Defs) × (t : Term) × DefsRow b ds t (p + 3) z)
  def-ready = (
    end_of b p,
    record {
      small = y.small;
      view = y.view;
      seen = y.seen;
      order = omega arith;
      within = under.1;
      spare = omega (arith, y.spare);
      nums = omega (arith, y.nums, stored.num, under_low);
      offs = omega (arith, y.offs, v.few, under_low);
      errs = omega (arith, y.errs, stored.ers, under_low);
    },
    under.0,
  )

  module _ (s₁ : List ℕ) (st₂ : State) (d d₁ : List ℕ) (al : ℕ) (r : Run) (m : Scoped b (p + 3) s s₁ k st₁ st₂ d d₁ al r) where
    there : Put (defs y.view.top under.0.0 (env_of y.view b s k) (num st₁) al).more (defs y.view.top under.0.0 (env_of y.view b s k) (num st₁) al).errs st₁ st₂ d d₁
        × (env_of y.view b s₁ r.k ≡ (defs y.view.top under.0.0 (env_of y.view b s k) (num st₁) al).env) × Seen y.view b s₁ r.k
    there = m.is y.view y.seen under.0.0 under.0.1 (end_of b p) under.0.2

    term-at : TermAt b under.0.1 r.q × (end_of b r.q ≡ end_of b p)
    term-at = m.at under.0.0 under.0.1 (end_of b p) under.0.2

    pub further : p + 3 ≤ r.q
    further = omega (arith, m.rows, m.back.order)

    pub def-within : r.q < length b
    def-within = omega (arith, term-at.1, under.1)

    pub grown : off st ≤ off st₂
    grown = omega (arith, stored.off, start-low o (off st) width, there.0.offs)

    pub def_body : Placed o st → Ready b s₁ r.k (r.q + 1) (end_of b r.q) st₂ × Stands b r.q × Placed o st₂
    def_body h = (
      record {
        small = y.small;
        view = y.view;
        seen = there.2;
        order = omega arith;
        within = omega (arith, term-at.1, under.1);
        spare = omega (arith, y.spare, m.rows, m.back.same, term-at.1, under.1, further);
        nums = omega (arith, y.nums, stored.num, m.nums, term-at.1, further);
        offs = omega (arith, y.offs, v.few, m.offs, term-at.1, further);
        errs = omega (arith, y.errs, stored.ers, m.errs, term-at.1, further);
      },
      (under.0.1, term-at.0),
      placed h,
    )
      where
        placed : Placed o st → Placed o st₂
        placed (inl l) = inl (omega (arith, l, grown))
        placed (inr e) = inr e

    module _ (s₂ : List ℕ) (st₃ : State) (d₂ : List ℕ) (t : ℕ) (w : Did b r.q s₁ s₂ r.k o st₂ st₃ d₁ d₂ al t) where
      pub def-close : (4 * r.k ≤ length s₂) × (2 ≤ length s₂) × (k ≤ r.k) × ((j : ℕ) → k ≤ j → j < r.k → kind_at s₂ j < 6 → (head_at s₂ j < length s₂) × (head_at s₂ j < 4 * k))
      def-close =
          let u = seen-kept y.view b s₁ s₂ r.k w.paid.kept w.paid.same there.2 in
          close-ready y.view b s₂ k r.k u.0 y.seen.order.1 m.back.order

      pub def-did : Placed o st → (s₃ : List ℕ) → s₃ ≡ closed s₂ k r.k (get_or s 1 0) → Did b p s s₃ k o st st₃ d d₂ al t
      unfolding term
      def-did h s₃ e₃ =
          did_of b p s s₃ k o st st₃ d d₂ al t y g made
          (ap (λ (x : List ℕ). take (4 * k) x) e₃ ∙ m.back.back s₂ (w.paid.same ∙ m.back.same) w.paid.kept)
          (ap length e₃ ∙ length-set (unlinked_all s₂ k (r.k - k)) 1 (get_or s 1 0) ∙ length-unlinked-all s₂ k (r.k - k) ∙ w.paid.same ∙ m.back.same)
          (omega (arith, w.paid.nums, m.nums, stored.num, term-at.1))
          (omega (arith, w.paid.errs, m.errs, stored.ers, term-at.1))
        where
          Whole : View → Term → Env → ℕ → Type 0
          Whole vw z e i =
              let q = term vw.top z e i al in
              (Own q o st₂ st₃ d₁ d₂ × (t ≡ q.tail)) × (length (rec_bytes 2 q.self) + length (table_bytes 2 q.more) + 64 * (r.q + 2) ≤ 64 * end_of b r.q)

          small₂ : off st₂ < late
          small₂ = omega (arith, y.offs, v.few, m.offs, term-at.1, further, under.1, y.small)

          made : (vw : View) → Seen vw b s k → (u : Term) → TermAt b u p → common.Made b p (term vw.top u (env_of vw b s k) (num st) al) o st st₃ d d₂ t
          made vw n u x = on-def b p (λ z. TermAt b z p → common.Made b p (term vw.top z (env_of vw b s k) (num st) al) o st st₃ d d₂ t) tg go u x x
            where
              go : (ds : Defs) (z : Term) → UnderAt b p ds z → TermAt b (t_def p ds z) p → common.Made b p (term vw.top (t_def p ds z) (env_of vw b s k) (num st) al) o st st₃ d d₂ t
              go ds z x a =
                  let E = env_of vw b s k in
                  let S : Scope = defs vw.top ds E (num st) al in
                  let D : Put S.more S.errs st₁ st₂ d d₁ × (env_of vw b s₁ r.k ≡ S.env) × Seen vw b s₁ r.k =
                  subst (λ (j : ℕ). let o = defs vw.top ds E j al in Put o.more o.errs st₁ st₂ d d₁ × (env_of vw b s₁ r.k ≡ o.env) × Seen vw b s₁ r.k) stored.num (m.is vw n ds z (end_of b p) x.defs) in
                  let c = m.at ds z (end_of b p) x.defs in
                  let j : num st₂ ≡ num st + length S.more = omega (arith, D.0.nums, stored.num) in
                  let A : Out = term vw.top z S.env (num st + length S.more) al in
                  let W : Whole vw z S.env (num st + length S.more) =
                  subst (λ (i : ℕ). Whole vw z S.env i) j (subst (λ (i : Env). Whole vw z i (num st₂)) D.1 (w.is vw D.2 z c.0, w.wide vw D.2 z c.0)) in
                  record {
                    own = own-of-def A S.more S.errs o (length (rec_bytes 2 A.self)) st st₁ st₂ st₃ d d₁ d₂ h small₂ refl (v.is vw k n (t_def p ds z) a (num st) al) D.0 W.0.0;
                    tail = W.0.1;
                    wide =
                        omega (arith, W.1, m.offs, D.0.offs, c.1, ap length (table-append S.more A.more), length-append (table_bytes 2 S.more) (table_bytes 2 A.more));
                  }
