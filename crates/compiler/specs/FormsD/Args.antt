-- The arguments of a call: a loop over siblings, each with a note of its number. What is still due is stated by the arguments that are left: whatever the rules
-- give for them, they give for all. Assumes nothing.
use Rattle.std.specs.Prelude.{ℕ, suc, ◌+◌, ◌-◌, ◌*◌, ◌≤◌, ◌<◌, ◌^◌, ◌≡◌, refl, List, ◌∷◌, length, take}
use Rattle.std.proofs.Common.{arith, sym, ap, ap₂, subst, ◌∙◌}
use Rattle.tree.specs.Rose.{rnil, end_of, Row, row-le}
use Rattle.tree.specs.Tree.{Term, Terms, ts_nil, ts_cons}
use Rattle.tree.specs.Form.{f_term, f_terms}
use Rattle.rules.specs.Tails.{empty}
use Rattle.rules.specs.Rows.{Env}
use Rattle.rules.specs.Filters.{Top}
use Rattle.rules.specs.Outs.{Out, Made, slot, size, arity}
use Rattle.rules.specs.Rules.{term, args}
use Rattle.puts.specs.declared.state.State.{State}
use Rattle.puts.specs.State.{num, Put}
use Rattle.puts.specs.Rooms.{put-none, put_then}
use Rattle.reads.specs.Bytes.{TermAt}
use Rattle.reads.specs.Shapes.{on-arity-cons, on-arity-nil, term_fits, head-fits}
use Rattle.cells.specs.Cells.{View, Seen, env_of, noted, number_at}
use Rattle.cells.specs.Notes.{numbers_of}
use Rattle.rows.specs.Kept.{below_at, seen-kept}
use Rattle.rows.specs.Fields.{length-noted, noted-number}
use Rattle.rows.specs.Pushed.{seen-noted, kept-noted}
use Rattle.compiler.specs.Post.{Ready, Stands, Paid, Laid, Passed}
use Rattle.compiler.specs.Moves.{kept_less, laid_as, ready-part}

-- the arguments ts, the first of number n, were compiled; their notes are rows from k on
pub record ArgsIs (c : Top) (e : Env) (n : ℕ) (ts : Terms) (k : ℕ) (s' : List ℕ) (st st' : State) (d d' : List ℕ) : Type 0 where
  pub put : Put (args c ts e n).more (args c ts e n).errs st st' d d'
  pub made : numbers_of s' k (arity ts) ≡ (args c ts e n).made

args_none : (c : Top) (e : Env) (n k : ℕ) (s : List ℕ) (st : State) (d : List ℕ) → ArgsIs c e n ts_nil k s st st d d
unfolding term numbers_of
args_none c e n k s st d = record { put = put-none st d; made = refl }

-- one, and those behind it
args_one : (c : Top) (e : Env) (t : Term) (ts : Terms) (k : ℕ) (s' : List ℕ) (st st₁ st' : State) (d d₁ d' : List ℕ)
    → (let a = term c t e (suc (num st)) empty in Put (slot a) a.errs st st₁ d d₁)
    → number_at s' k ≡ num st → ArgsIs c e (num st₁) ts (k + 1) s' st₁ st' d₁ d'
    → ArgsIs c e (num st) (ts_cons t ts) k s' st st' d d'
unfolding term numbers_of
args_one c e t ts k s' st st₁ st' d d₁ d' P n rest =
    let A : Out = term c t e (suc (num st)) empty in
    let e₁ : num st₁ ≡ num st + size A = P.nums in
    let e₂ : k + 1 ≡ suc k = omega arith in
    let r : ArgsIs c e (num st + size A) ts (suc k) s' st₁ st' d₁ d' =
    subst (λ (i : ℕ). ArgsIs c e i ts (suc k) s' st₁ st' d₁ d') e₁ (subst (λ (i : ℕ). ArgsIs c e (num st₁) ts i s' st₁ st' d₁ d') e₂ rest) in
    let O : Made (List ℕ) = args c ts e (num st + size A) in
    record { put = put_then (slot A) O.more A.errs O.errs st st₁ st' d d₁ d' P r.put; made = ap₂ (λ (x : ℕ) (xs : List ℕ). x ∷ xs) n r.made }

-- ---- the loop: i arguments are passed, the next one is at p

pub record ArgsLeft (vw : View) (b : List ℕ) (a z : ℕ) (ts : Terms) (e : Env) (k : ℕ) (st₀ : State) (d₀ : List ℕ) (p i : ℕ) (s : List ℕ) (st : State) (d : List ℕ) : Type 0 where
  pub rest : Terms
  pub at : Row b (f_terms rest rnil) p z
  pub left : i + arity rest ≡ a
  pub goes : (s' : List ℕ) (st' : State) (d' : List ℕ) → take (4 * (k + i)) s' ≡ take (4 * (k + i)) s → ArgsIs vw.top e (num st) rest (k + i) s' st st' d d'
      → ArgsIs vw.top e (num st₀) ts k s' st₀ st' d₀ d'

pub record Passing (b : List ℕ) (q a : ℕ) (s₀ : List ℕ) (k : ℕ) (st₀ : State) (d₀ : List ℕ) (p i : ℕ) (s : List ℕ) (st : State) (d : List ℕ) : Type 0 where
  pub goes : (vw : View) → Seen vw b s₀ k → (ts : Terms) (z : ℕ) → Row b (f_terms ts rnil) q z → arity ts ≡ a → ArgsLeft vw b a z ts (env_of vw b s₀ k) k st₀ d₀ p i s st d
  pub ends : (ts : Terms) (z : ℕ) → Row b (f_terms ts rnil) q z → arity ts ≡ a → (rest : Terms) × Row b (f_terms rest rnil) p z × (i + arity rest ≡ a)
  pub some : (z : ℕ) × Ready b s (k + i) p z st × ((ts : Terms) × Row b (f_terms ts rnil) p z × (i + arity ts ≡ a))
  pub seen : (vw : View) → Seen vw b s₀ k → Seen vw b s (k + i) × (env_of vw b s (k + i) ≡ env_of vw b s₀ k)
  pub few : i ≤ a
  pub low : q + 3 * i ≤ p
  pub paid : Paid (q + i) p k s₀ s st₀ st
  pub size : length d ≡ length d₀

pub passing-start : (b : List ℕ) (q a : ℕ) (s : List ℕ) (k : ℕ) (st : State) (d : List ℕ) → (z : ℕ) × Ready b s k q z st × ((ts : Terms) × Row b (f_terms ts rnil) q z × (arity ts ≡ a))
    → Passing b q a s k st d q 0 s st d
passing-start b q a s k st d y =
    let e : k ≡ k + 0 = omega arith in
    record {
      goes = λ vw g ts z r ea. record { rest = ts; at = r; left = omega (arith, ea); goes = λ s' st' d' c i. subst (λ (j : ℕ). ArgsIs vw.top (env_of vw b s k) (num st) ts j s' st st' d d') (sym e) i };
      ends = λ ts z r ea. (ts, r, omega (arith, ea));
      some = (y.0, subst (λ (j : ℕ). Ready b s j q y.0 st) e y.1, (y.2.0, y.2.1, omega (arith, y.2.2)));
      seen = λ vw g. subst (λ (j : ℕ). Seen vw b s j × (env_of vw b s j ≡ env_of vw b s k)) e (g, refl);
      few = omega arith;
      low = omega arith;
      paid = record { kept = refl; same = refl; nums = omega arith; offs = omega arith; errs = omega arith };
      size = refl;
    }

module _ (b : List ℕ) (q a : ℕ) (s₀ : List ℕ) (k : ℕ) (st₀ : State) (d₀ : List ℕ) (p i : ℕ) (s : List ℕ) (st : State) (d : List ℕ) (o : Passing b q a s₀ k st₀ d₀ p i s st d) where
  -- the next argument, where there is one
  abbrev Next : Type 0
  Next = Stands b p × (end_of b p ≤ o.some.0) × (end_of b p ≤ length b) × ((ts : Terms) × Row b (f_terms ts rnil) (end_of b p) o.some.0 × (i + 1 + arity ts ≡ a))

  next : i < a → Next
  next l =
      on-arity-cons b p o.some.0 (λ _. Next) (a - i - 1)
      (λ t ts x r e. ((t, x), row-le b (f_terms ts rnil) (end_of b p) o.some.0 r, term_fits b t p x, (ts, r, omega (arith, e, l))))
      o.some.2.0 (omega (arith, o.some.2.2, l)) o.some.2.1

  pub passing-fits : i < a → end_of b p ≤ length b
  passing-fits l = (next l).2

  pub passing-ready : i < a → Ready b s (k + i) p (end_of b p) st × Stands b p
  passing-ready l =
      let n = next l in
      (ready-part b s (k + i) p p o.some.0 (end_of b p) st o.some.1 (omega arith) (omega arith) n.1, n.0)

  module _ (s₁ : List ℕ) (st₁ : State) (d₁ : List ℕ) (r : ℕ) (m : Laid b p s s₁ (k + i) st st₁ d d₁ 0 r) where
    room : i < a → 4 * (k + i) + 4 ≤ length s₁
    room l = omega (arith, o.some.1.spare, m.paid.same, (next l).2)

    few-nums : i < a → num st < 65536
    few-nums l = omega (arith, o.some.1.nums, (next l).1)

    pub passing-note : i < a → (n : ℕ) → n ≡ num st → (4 * (k + i) + 4 ≤ length s₁) × (n < 65536) × (6 < 8)
    passing-note l n e = (room l, omega (arith, e, few-nums l), omega arith)

    pub passing-more : i < a → (n : ℕ) → n ≡ num st → (s₂ : List ℕ) → s₂ ≡ noted s₁ (k + i) 6 n 0 → (p' : ℕ) → p' ≡ end_of b p → Passing b q a s₀ k st₀ d₀ p' (i + 1) s₂ st₁ d₁
    passing-more l n en s₂ es p' ep =
        subst (λ (x : ℕ). Passing b q a s₀ k st₀ d₀ x (i + 1) s₂ st₁ d₁) (sym ep)
        (record {
          goes = λ vw g ts z w ea. left vw g ts z (o.goes vw g ts z w ea);
          ends = λ ts z w ea. more z (o.ends ts z w ea);
          some = (o.some.0, subst (λ (x : ℕ). Ready b s₂ x (end_of b p) o.some.0 st₁) up ready, (next l).3);
          seen = λ vw g. subst (λ (x : ℕ). Seen vw b s₂ x × (env_of vw b s₂ x ≡ env_of vw b s₀ k)) up (noted-seen vw g);
          few = omega (arith, l);
          low = omega (arith, o.low);
          paid = record {
            kept = kept_less k (k + i) s s₂ (omega arith) keep ∙ o.paid.kept;
            same = same₂ ∙ o.paid.same;
            nums = omega (arith, m.paid.nums, o.paid.nums);
            offs = omega (arith, m.paid.offs, o.paid.offs);
            errs = omega (arith, m.paid.errs, o.paid.errs);
          };
          size = put-size ∙ o.size;
        })
      where
        up : k + i + 1 ≡ k + (i + 1)
        up = omega arith

        same₂ : length s₂ ≡ length s
        same₂ = ap length es ∙ length-noted s₁ (k + i) 6 n 0 (room l) ∙ m.paid.same

        keep : take (4 * (k + i)) s₂ ≡ take (4 * (k + i)) s
        keep = ap (λ (x : List ℕ). take (4 * (k + i)) x) es ∙ kept-noted s₁ (k + i) 6 n 0 (room l) ∙ m.paid.kept

        number₂ : number_at s₂ (k + i) ≡ num st
        number₂ = ap (λ (x : List ℕ). number_at x (k + i)) es ∙ noted-number s₁ (k + i) 6 n 0 (room l) (omega (arith, en, few-nums l)) ∙ en

        -- the note is out of view
        noted-on : (vw : View) → Seen vw b s (k + i) → Seen vw b s₂ (k + i + 1) × (env_of vw b s₂ (k + i + 1) ≡ env_of vw b s (k + i))
        noted-on vw g =
            let w = seen-kept vw b s s₁ (k + i) m.paid.kept m.paid.same g in
            let v = seen-noted vw b s₁ (k + i) 6 n 0 w.0 (room l) (omega (arith, en, few-nums l)) (omega arith) (omega arith) in
            subst (λ (x : List ℕ). Seen vw b x (k + i + 1) × (env_of vw b x (k + i + 1) ≡ env_of vw b s (k + i))) (sym es) (v.0, v.1 ∙ w.1)

        noted-seen : (vw : View) → Seen vw b s₀ k → Seen vw b s₂ (k + i + 1) × (env_of vw b s₂ (k + i + 1) ≡ env_of vw b s₀ k)
        noted-seen vw g = let u = o.seen vw g in let w = noted-on vw u.0 in (w.0, w.1 ∙ u.1)

        ready : Ready b s₂ (k + i + 1) (end_of b p) o.some.0 st₁
        ready =
            let y = o.some.1 in
            let n' = next l in
            record {
              small = y.small;
              view = y.view;
              seen = (noted-on y.view y.seen).0;
              order = n'.1;
              within = y.within;
              spare = omega (arith, y.spare, same₂, n'.2);
              nums = omega (arith, y.nums, m.paid.nums, n'.1);
              offs = omega (arith, y.offs, m.paid.offs, n'.1);
              errs = omega (arith, y.errs, m.paid.errs, n'.1);
            }

        put-size : length d₁ ≡ length d
        put-size = (m.is o.some.1.view o.some.1.seen (next l).0.0 (next l).0.1).0.size

        more : (z : ℕ) → ((rest : Terms) × Row b (f_terms rest rnil) p z × (i + arity rest ≡ a)) → (rest : Terms) × Row b (f_terms rest rnil) (end_of b p) z × (i + 1 + arity rest ≡ a)
        more z w =
            on-arity-cons b p z (λ _. (rest : Terms) × Row b (f_terms rest rnil) (end_of b p) z × (i + 1 + arity rest ≡ a)) (a - i - 1)
            (λ t ts x v e. (ts, v, omega (arith, e, l))) w.0 (omega (arith, w.2, l)) w.1

        left : (vw : View) → Seen vw b s₀ k → (ts : Terms) (z : ℕ) → ArgsLeft vw b a z ts (env_of vw b s₀ k) k st₀ d₀ p i s st d
            → ArgsLeft vw b a z ts (env_of vw b s₀ k) k st₀ d₀ (end_of b p) (i + 1) s₂ st₁ d₁
        left vw g ts z w =
            on-arity-cons b p z
            (λ rest. ((s' : List ℕ) (st' : State) (d' : List ℕ) → take (4 * (k + i)) s' ≡ take (4 * (k + i)) s → ArgsIs vw.top (env_of vw b s₀ k) (num st) rest (k + i) s' st st' d d' → ArgsIs vw.top (env_of vw b s₀ k) (num st₀) ts k s' st₀ st' d₀ d')
            → ArgsLeft vw b a z ts (env_of vw b s₀ k) k st₀ d₀ (end_of b p) (i + 1) s₂ st₁ d₁)
            (a - i - 1) step w.rest (omega (arith, w.left, l)) w.at w.goes
          where
            step : (t : Term) (us : Terms) → TermAt b t p → Row b (f_terms us rnil) (end_of b p) z → arity us ≡ a - i - 1
                → ((s' : List ℕ) (st' : State) (d' : List ℕ) → take (4 * (k + i)) s' ≡ take (4 * (k + i)) s → ArgsIs vw.top (env_of vw b s₀ k) (num st) (ts_cons t us) (k + i) s' st st' d d' → ArgsIs vw.top (env_of vw b s₀ k) (num st₀) ts k s' st₀ st' d₀ d')
                → ArgsLeft vw b a z ts (env_of vw b s₀ k) k st₀ d₀ (end_of b p) (i + 1) s₂ st₁ d₁
            step t us x v e f =
                let u = o.seen vw g in
                let P = laid_as b p s s₁ (k + i) st st₁ d d₁ 0 r vw (env_of vw b s₀ k) (num st) t m u.0 u.1 refl x in
                record {
                  rest = us;
                  at = v;
                  left = omega (arith, e, l);
                  goes = λ s' st' d' c w.
                      let c' : take (4 * (k + i + 1)) s' ≡ take (4 * (k + i + 1)) s₂ = subst (λ (y : ℕ). take (4 * y) s' ≡ take (4 * y) s₂) (sym up) c in
                      let nk : number_at s' (k + i) ≡ number_at s₂ (k + i) = rw (below_at (4 * (k + i + 1)) s₂ s' c' (4 * (k + i) + 1) (omega arith)) in
                      f s' st' d' (kept_less (k + i) (k + i + 1) s₂ s' (omega arith) c' ∙ keep)
                      (args_one vw.top (env_of vw b s₀ k) t us (k + i) s' st st₁ st' d d₁ d' P.0 (nk ∙ number₂)
                      (subst (λ (y : ℕ). ArgsIs vw.top (env_of vw b s₀ k) (num st₁) us y s' st₁ st' d₁ d') (sym up) w));
                }

  pub passing-done : a ≤ i → Passed b q a s₀ s k st₀ st d₀ d
  passing-done l =
      record {
        is = λ vw g ts z r ea. done vw g ts z ea (o.goes vw g ts z r ea);
        paid = λ ts z r ea. ended z (o.ends ts z r ea);
      }
    where
      ended : (z : ℕ) → ((rest : Terms) × Row b (f_terms rest rnil) p z × (i + arity rest ≡ a)) → Paid (q + a) z k s₀ s st₀ st
      ended z w =
          let e : p ≡ z = on-arity-nil b p z (λ _. p ≡ z) (λ x. x) w.0 (omega (arith, w.2, l)) w.1 in
          let f : i ≡ a = omega (arith, w.2, l) in
          subst (λ (x : ℕ). Paid (q + a) x k s₀ s st₀ st) e (subst (λ (x : ℕ). Paid (q + x) p k s₀ s st₀ st) f o.paid)

      done : (vw : View) → Seen vw b s₀ k → (ts : Terms) (z : ℕ) → arity ts ≡ a → ArgsLeft vw b a z ts (env_of vw b s₀ k) k st₀ d₀ p i s st d
          → let m = args vw.top ts (env_of vw b s₀ k) (num st₀) in Put m.more m.errs st₀ st d₀ d × (numbers_of s k a ≡ m.made)
      done vw g ts z ea w =
          let I : ArgsIs vw.top (env_of vw b s₀ k) (num st₀) ts k s st₀ st d₀ d =
          on-arity-nil b p z
          (λ rest. (ArgsIs vw.top (env_of vw b s₀ k) (num st) rest (k + i) s st st d d → ArgsIs vw.top (env_of vw b s₀ k) (num st₀) ts k s st₀ st d₀ d) → ArgsIs vw.top (env_of vw b s₀ k) (num st₀) ts k s st₀ st d₀ d)
          (λ _ f. f (args_none vw.top (env_of vw b s₀ k) (num st) (k + i) s st d)) w.rest (omega (arith, w.left, l)) w.at (w.goes s st d refl) in
          (I.put, subst (λ (x : ℕ). numbers_of s k x ≡ (args vw.top ts (env_of vw b s₀ k) (num st₀)).made) ea I.made)

-- ---- up to z: the row of the next one's note is i

abbrev pub ArgsAt : List ℕ → ℕ → ℕ → ℕ → Type 0
ArgsAt b q z a = (ts : Terms) × Row b (f_terms ts rnil) q z × (arity ts ≡ a)

pub record PassingTo (b : List ℕ) (q z : ℕ) (s₀ : List ℕ) (k : ℕ) (st₀ : State) (d₀ : List ℕ) (p i : ℕ) (s : List ℕ) (st : State) (d : List ℕ) : Type 0 where
  pub past : ℕ
  pub row : i ≡ k + past
  pub goes : (a : ℕ) → ArgsAt b q z a → Passing b q a s₀ k st₀ d₀ p past s st d

pub args-start : (b : List ℕ) (q z : ℕ) (s : List ℕ) (k : ℕ) (st : State) (d : List ℕ) → Ready b s k q z st → PassingTo b q z s k st d q k s st d
args-start b q z s k st d y = record { past = 0; row = omega arith; goes = λ a g. passing-start b q a s k st d (z, y, g) }

-- p is where the next one stands
pub args-on : (b : List ℕ) (q z : ℕ) (s₀ : List ℕ) (k : ℕ) (st₀ : State) (d₀ : List ℕ) (n p i : ℕ) (s : List ℕ) (st : State) (d : List ℕ) → n ≡ p → PassingTo b q z s₀ k st₀ d₀ n i s st d → PassingTo b q z s₀ k st₀ d₀ p i s st d
args-on b q z s₀ k st₀ d₀ n p i s st d e g = subst (λ (r : ℕ). PassingTo b q z s₀ k st₀ d₀ r i s st d) e g

-- one is left where p is before the end, and none where it is not
some-left : (b : List ℕ) (p z i a : ℕ) (rest : Terms) → Row b (f_terms rest rnil) p z → i + arity rest ≡ a → p < z → i < a
unfolding f_terms Row
some-left b p z i a ts_nil r e l = absurd (omega (arith, r, l))
some-left b p z i a (ts_cons t ts) r e l = omega (arith, e)

none-left : (b : List ℕ) (p z i a : ℕ) (rest : Terms) → Row b (f_terms rest rnil) p z → i + arity rest ≡ a → z ≤ p → a ≤ i
unfolding f_terms
none-left b p z i a ts_nil r e l = omega (arith, e)
none-left b p z i a (ts_cons t ts) r e l = absurd (omega (arith, (head-fits b (f_term t) (f_terms ts rnil) p z r).1, l))

module _ (b : List ℕ) (q z : ℕ) (s₀ : List ℕ) (k : ℕ) (st₀ : State) (d₀ : List ℕ) (p i : ℕ) (s : List ℕ) (st : State) (d : List ℕ) (o : PassingTo b q z s₀ k st₀ d₀ p i s st d) where
  less : p < z → (a : ℕ) → ArgsAt b q z a → o.past < a
  less l a g = let w = (o.goes a g).ends g.0 z g.1 g.2 in some-left b p z o.past a w.0 w.1 w.2 l

  pub args-done : z ≤ p → (a : ℕ) → ArgsAt b q z a → Passed b q a s₀ s k st₀ st d₀ d
  args-done l a g =
      let w = (o.goes a g).ends g.0 z g.1 g.2 in
      passing-done b q a s₀ k st₀ d₀ p o.past s st d (o.goes a g) (none-left b p z o.past a w.0 w.1 w.2 l)

  module _ (h : (ts : Terms) × Row b (f_terms ts rnil) q z) where
    all : ArgsAt b q z (arity h.0)
    all = (h.0, h.1, refl)

    now : Passing b q (arity h.0) s₀ k st₀ d₀ p o.past s st d
    now = o.goes (arity h.0) all

    pub args-few : i + 1 < 2 ^ 64
    args-few = omega (arith, o.row, now.some.1.spare, now.some.1.seen.small)

    module _ (l : p < z) where
      pub args-ready : (q ≤ p) × (end_of b p ≤ length b) × Ready b s i p (end_of b p) st × Stands b p
      args-ready =
          let w = passing-ready b q (arity h.0) s₀ k st₀ d₀ p o.past s st d now (less l (arity h.0) all) in
          (omega (arith, now.low), passing-fits b q (arity h.0) s₀ k st₀ d₀ p o.past s st d now (less l (arity h.0) all), subst (λ (x : ℕ). Ready b s x p (end_of b p) st) (sym o.row) w.0, w.1)

      module _ (s₁ : List ℕ) (st₁ : State) (d₁ : List ℕ) (r : ℕ) (m : Laid b p s s₁ i st st₁ d d₁ 0 r) where
        laid : Laid b p s s₁ (k + o.past) st st₁ d d₁ 0 r
        laid = subst (λ (x : ℕ). Laid b p s s₁ x st st₁ d d₁ 0 r) o.row m

        pub args-note : (n : ℕ) → n ≡ num st → (4 * i + 4 ≤ length s₁) × (n < 65536)
        args-note n e =
            let w = passing-note b q (arity h.0) s₀ k st₀ d₀ p o.past s st d now s₁ st₁ d₁ r laid (less l (arity h.0) all) n e in
            (omega (arith, o.row, w.0), w.1)

        pub args-more : (n : ℕ) → n ≡ num st → (s₂ : List ℕ) → s₂ ≡ noted s₁ i 6 n 0 → (p' : ℕ) → p' ≡ end_of b p → PassingTo b q z s₀ k st₀ d₀ p' (i + 1) s₂ st₁ d₁
        args-more n en s₂ es p' ep =
            record {
              past = o.past + 1;
              row = omega (arith, o.row);
              goes = λ a g. passing-more b q a s₀ k st₀ d₀ p o.past s st d (o.goes a g) s₁ st₁ d₁ r laid (less l a g) n en s₂ (es ∙ ap (λ (x : ℕ). noted s₁ x 6 n 0) o.row) p' ep;
            }
