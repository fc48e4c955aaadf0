-- The pairs of a conditional: a loop over siblings, each with a note of its two numbers. Assumes nothing.
use Rattle.std.specs.Prelude.{ℕ, zero, suc, ◌+◌, ◌-◌, ◌*◌, ◌≤◌, ◌<◌, ◌≡◌, refl, List, [], ◌∷◌, ◌++◌, length, get_or, take}
use Rattle.std.proofs.Common.{arith, add-zero, sym, ap, ap₂, subst, ◌∙◌, append_assoc, append-nil}
use Rattle.std.specs.Int.Bits.{bit_or, or_zero_r}
use Rattle.tree.specs.Rose.{end_of, At, Row, row-le}
use Rattle.tree.specs.Tree.{Term, Branches, b_none, b_else, b_pair}
use Rattle.tree.specs.Form.{f_term, f_branches}
use Rattle.rules.specs.Sets.{digit_or, same_digits}
use Rattle.rules.specs.Tails.{empty}
use Rattle.rules.specs.Rows.{Env}
use Rattle.rules.specs.Outs.{slot, size}
use Rattle.rules.specs.Rules.{term}
use Rattle.reads.specs.Shapes.{PairAt, on-pair}
use Rattle.puts.specs.declared.state.State.{State}
use Rattle.puts.specs.State.{num, Put}
use Rattle.puts.specs.Rooms.{put_then, put-none}
use Rattle.cells.specs.Cells.{View, Seen, env_of, cell, number_at, last_at}
use Rattle.cells.specs.Notes.{Pair, Pairs, pairs_of, else_of, pair_count, pairs_at}
use Rattle.rows.specs.Kept.{seen-kept, below_at, below_less}
use Rattle.compiler.specs.declared.Run.{Run}
use Rattle.compiler.specs.Post.{Ready, Stands, Paid, Laid, Paired}
use Rattle.compiler.specs.Common.{Noting}
use Rattle.compiler.specs.Moves.{ready-part}

-- ---- notes of pairs, one after the other

pub pairs-snoc : (s : List ℕ) (k n : ℕ) → pairs_at s k (suc n) ≡ pairs_at s k n ++ (record { test = number_at s (k + n); then = last_at s (k + n) } ∷ [])
unfolding pairs_at
pairs-snoc s k zero = ap (λ (j : ℕ). record { test = number_at s j; then = last_at s j } ∷ []) (sym (add-zero k))
pairs-snoc s k (suc n) =
    ap (λ (l : List Pair). record { test = number_at s k; then = last_at s k } ∷ l)
    (pairs-snoc s (suc k) n ∙ ap (λ (j : ℕ). pairs_at s (suc k) n ++ (record { test = number_at s j; then = last_at s j } ∷ [])) (omega arith))

pub pairs-kept : (s s' : List ℕ) (k n m : ℕ) → k + n ≤ m → take (4 * m) s' ≡ take (4 * m) s → pairs_at s' k n ≡ pairs_at s k n
unfolding pairs_at
pairs-kept s s' k zero m h e = refl
pairs-kept s s' k (suc n) m h e =
    let a : cell s' k 1 ≡ cell s k 1 = below_at (4 * m) s s' e (4 * k + 1) (omega (arith, h)) in
    let c : cell s' k 3 ≡ cell s k 3 = below_at (4 * m) s s' e (4 * k + 3) (omega (arith, h)) in
    ap₂ (λ (x : Pair) (l : List Pair). x ∷ l)
    (let i : record { test = number_at s' k; then = last_at s' k } ≡ record { test = number_at s k; then = last_at s k } = rw (a, c) in i)
    (pairs-kept s s' (suc k) n m (omega (arith, h)) e)

union_assoc : (a b c : ℕ) → bit_or a (bit_or b c) ≡ bit_or (bit_or a b) c
union_assoc a b c = same_digits _ _ (λ l. omega (arith, digit_or a (bit_or b c) l, digit_or b c l, digit_or (bit_or a b) c l, digit_or a b l))

-- ---- the loop: from the place p on, row i, with t returned so far, whatever the rest gives, the whole gives

pub record PairsGo (b : List ℕ) (z : ℕ) (s₀ : List ℕ) (k : ℕ) (st₀ : State) (d₀ : List ℕ) (al p i t : ℕ) (s : List ℕ) (st : State) (d : List ℕ) (vw : View) (bs : Branches) : Type 0 where
  pub rest : Branches
  pub at : Row b (f_branches rest) p z
  pub puts : (st' : State) (d' : List ℕ)
      → let m = pairs_of vw.top rest (env_of vw b s₀ k) (num st) al in
      let w = pairs_of vw.top bs (env_of vw b s₀ k) (num st₀) al in
      Put m.more m.errs st st' d d' → Put w.more w.errs st₀ st' d₀ d'
  pub made : (pairs_of vw.top bs (env_of vw b s₀ k) (num st₀) al).made ≡ pairs_at s k (i - k) ++ (pairs_of vw.top rest (env_of vw b s₀ k) (num st) al).made
  pub tail : (pairs_of vw.top bs (env_of vw b s₀ k) (num st₀) al).tail ≡ bit_or t (pairs_of vw.top rest (env_of vw b s₀ k) (num st) al).tail

pub record Pairing (b : List ℕ) (q z : ℕ) (s₀ : List ℕ) (k : ℕ) (st₀ : State) (d₀ : List ℕ) (al p i t : ℕ) (s : List ℕ) (st : State) (d : List ℕ) : Type 0 where
  pub goes : (vw : View) → Seen vw b s₀ k → (bs : Branches) → Row b (f_branches bs) q z → PairsGo b z s₀ k st₀ d₀ al p i t s st d vw bs
  pub ats : (bs : Branches) → Row b (f_branches bs) q z → (rest : Branches) × Row b (f_branches rest) p z × (else_of bs ≡ else_of rest) × (k + pair_count bs ≡ i + pair_count rest)
  pub some : (bs : Branches) × Row b (f_branches bs) p z
  pub seen : (vw : View) → Seen vw b s₀ k → Seen vw b s i × (env_of vw b s i ≡ env_of vw b s₀ k)
  pub low : k ≤ i
  pub rows : 3 * i + q ≤ 3 * k + p
  pub end : p ≤ z
  pub size : length d ≡ length d₀
  pub paid : Paid (q + (i - k)) p k s₀ s st₀ st

pub pairs_start : (b : List ℕ) (q z : ℕ) (s : List ℕ) (k : ℕ) (st : State) (d : List ℕ) (al : ℕ) → (bs : Branches) × Row b (f_branches bs) q z → Pairing b q z s k st d al q k 0 s st d
unfolding pairs_at
pairs_start b q z s k st d al g =
    record {
      goes = λ vw v bs h.
          record { rest = bs; at = h; puts = λ st' d' p. p; made = ap (λ (n : ℕ). pairs_at s k n ++ (pairs_of vw.top bs (env_of vw b s k) (num st) al).made) (sym none); tail = refl };
      ats = λ bs h. (bs, h, refl, refl);
      some = g;
      seen = λ vw v. (v, refl);
      low = omega arith;
      rows = omega arith;
      end = row-le b (f_branches g.0) q z g.1;
      size = refl;
      paid = record { kept = refl; same = refl; nums = omega arith; offs = omega arith; errs = omega arith };
    }
  where
    none : k - k ≡ 0
    none = omega arith

-- what is ready at the start is ready at each pair
pub pairs-ready : (b : List ℕ) (q z : ℕ) (s₀ : List ℕ) (k : ℕ) (st₀ : State) (d₀ : List ℕ) (al p i t : ℕ) (s : List ℕ) (st : State) (d : List ℕ) → Ready b s₀ k q z st₀ → Pairing b q z s₀ k st₀ d₀ al p i t s st d → Ready b s i p z st
pairs-ready b q z s₀ k st₀ d₀ al p i t s st d y m =
    record {
      small = y.small;
      view = y.view;
      seen = (m.seen y.view y.seen).0;
      order = m.end;
      within = y.within;
      spare = omega (arith, y.spare, m.paid.same, m.rows, m.end, y.within);
      nums = omega (arith, y.nums, m.paid.nums, m.end, m.rows, m.low);
      offs = omega (arith, y.offs, m.paid.offs, m.end, m.rows, m.low);
      errs = omega (arith, y.errs, m.paid.errs, m.end, m.rows, m.low);
    }

-- a pair at p stands where its members can be compiled
pub pair-test : (b : List ℕ) (p i z : ℕ) (s : List ℕ) (st : State) → Ready b s i p z st → p < z → get_or b p 0 ≡ 0xB8 → (bs : Branches) × Row b (f_branches bs) p z
    → Ready b s i (p + 3) (end_of b (p + 3)) st × Stands b (p + 3) × (end_of b p ≤ length b) × (end_of b (p + 3) < end_of b p)
pair-test b p i z s st y l e g =
    on-pair b p z (λ _. Ready b s i (p + 3) (end_of b (p + 3)) st × Stands b (p + 3) × (end_of b p ≤ length b) × (end_of b (p + 3) < end_of b p)) l e
    (λ c u bs n h. (
      ready-part b s i p (p + 3) z (end_of b (p + 3)) st y (omega arith) (omega arith) (omega (arith, n.last, row-le b (f_branches bs) (end_of b p) z h)),
      (c, n.test),
      n.fits,
      omega (arith, n.last),
    ))
    g.0 g.1

pub pair_then : (b : List ℕ) (p i z : ℕ) (s s₁ s₂ : List ℕ) (st st₁ : State) (d d₁ : List ℕ) (a c r : ℕ) → Ready b s i p z st → p < z → get_or b p 0 ≡ 0xB8 → (bs : Branches) × Row b (f_branches bs) p z
    → Laid b (p + 3) s s₁ i st st₁ d d₁ 0 r → Noting b s₁ s₂ i a c
    → Ready b s₂ (i + 1) (end_of b (p + 3)) (end_of b (end_of b (p + 3))) st₁ × Stands b (end_of b (p + 3))
pair_then b p i z s s₁ s₂ st st₁ d d₁ a c r y l e g m n =
    on-pair b p z (λ _. Ready b s₂ (i + 1) (end_of b (p + 3)) (end_of b (end_of b (p + 3))) st₁ × Stands b (end_of b (p + 3))) l e
    (λ t u bs h j.
    let w = row-le b (f_branches bs) (end_of b p) z j in (
      record {
        small = y.small;
        view = y.view;
        seen = (n.seen y.view (seen-kept y.view b s s₁ i m.paid.kept m.paid.same y.seen).0).0;
        order = omega arith;
        within = omega (arith, h.last, h.fits);
        spare = omega (arith, y.spare, m.paid.same, n.same, h.fits, h.last);
        nums = omega (arith, y.nums, m.paid.nums, h.last, w);
        offs = omega (arith, y.offs, m.paid.offs, h.last, w);
        errs = omega (arith, y.errs, m.paid.errs, h.last, w);
      },
      (u, h.then),
    ))
    g.0 g.1

pub pair-more : (b : List ℕ) (q z : ℕ) (s₀ : List ℕ) (k : ℕ) (st₀ : State) (d₀ : List ℕ) (al p i t : ℕ) (s : List ℕ) (st : State) (d : List ℕ) (s₁ s₂ s₃ : List ℕ) (st₁ st₂ : State) (d₁ d₂ : List ℕ) (a c r r' : ℕ)
    → Ready b s₀ k q z st₀ → p < z → get_or b p 0 ≡ 0xB8 → Pairing b q z s₀ k st₀ d₀ al p i t s st d
    → a ≡ num st → Laid b (p + 3) s s₁ i st st₁ d d₁ 0 r' → c ≡ num st₁ → Noting b s₁ s₂ i a c
    → Laid b (end_of b (p + 3)) s₂ s₃ (i + 1) st₁ st₂ d₁ d₂ al r
    → Pairing b q z s₀ k st₀ d₀ al (end_of b p) (i + 1) (bit_or t r) s₃ st₂ d₂
unfolding pairs_of pair_count else_of
pair-more b q z s₀ k st₀ d₀ al p i t s st d s₁ s₂ s₃ st₁ st₂ d₁ d₂ a c r r' v₀ l e m a₁ x c₁ n y =
    record {
      goes = λ vw v bs h.
          let g = m.goes vw v bs h in
          on-pair b p z
          (λ w. ((st' : State) (d' : List ℕ)
          → let o = pairs_of vw.top w (env_of vw b s₀ k) (num st) al in
          let o₀ = pairs_of vw.top bs (env_of vw b s₀ k) (num st₀) al in
          Put o.more o.errs st st' d d' → Put o₀.more o₀.errs st₀ st' d₀ d')
          → (pairs_of vw.top bs (env_of vw b s₀ k) (num st₀) al).made ≡ pairs_at s k (i - k) ++ (pairs_of vw.top w (env_of vw b s₀ k) (num st) al).made
          → (pairs_of vw.top bs (env_of vw b s₀ k) (num st₀) al).tail ≡ bit_or t (pairs_of vw.top w (env_of vw b s₀ k) (num st) al).tail
          → PairsGo b z s₀ k st₀ d₀ al (end_of b p) (i + 1) (bit_or t r) s₃ st₂ d₂ vw bs)
          l e (λ f u w j row P M T. step vw v bs f u w j row P M T) g.rest g.at g.puts g.made g.tail;
      ats = λ bs h.
          let g = m.ats bs h in
          on-pair b p z (λ w. (else_of bs ≡ else_of w) → (k + pair_count bs ≡ i + pair_count w) → (rest : Branches) × Row b (f_branches rest) (end_of b p) z × (else_of bs ≡ else_of rest) × (k + pair_count bs ≡ i + 1 + pair_count rest))
          l e (λ f u w j row E C. (w, row, E, omega (arith, C))) g.0 g.1 g.2 g.3;
      some = on-pair b p z (λ _. (bs : Branches) × Row b (f_branches bs) (end_of b p) z) l e (λ f u w j row. (w, row)) m.some.0 m.some.1;
      seen = λ vw v. later vw v;
      low = omega (arith, m.low);
      rows = omega (arith, m.rows);
      end = on-pair b p z (λ _. end_of b p ≤ z) l e (λ f u w j row. row-le b (f_branches w) (end_of b p) z row) m.some.0 m.some.1;
      size = room ∙ m.size;
      paid =
          record {
            kept = below_less (4 * k) (4 * i) s s₃ (omega (arith, m.low)) under ∙ m.paid.kept;
            same = y.paid.same ∙ n.same ∙ x.paid.same ∙ m.paid.same;
            nums = omega (arith, m.paid.nums, x.paid.nums, y.paid.nums, last, m.low);
            offs = omega (arith, m.paid.offs, x.paid.offs, y.paid.offs, last, m.low);
            errs = omega (arith, m.paid.errs, x.paid.errs, y.paid.errs, last, m.low);
          };
    }
  where
    last : end_of b (end_of b (p + 3)) ≡ end_of b p
    last = on-pair b p z (λ _. end_of b (end_of b (p + 3)) ≡ end_of b p) l e (λ f u w j row. j.last) m.some.0 m.some.1

    under : take (4 * i) s₃ ≡ take (4 * i) s
    under = below_less (4 * i) (4 * (i + 1)) s₂ s₃ (omega arith) y.paid.kept ∙ n.kept ∙ x.paid.kept

    -- the rows where the branch is compiled, and those that it leaves
    between : (vw : View) → Seen vw b s₀ k → Seen vw b s₂ (i + 1) × (env_of vw b s₂ (i + 1) ≡ env_of vw b s₀ k)
    between vw v =
        let g = m.seen vw v in
        let h = seen-kept vw b s s₁ i x.paid.kept x.paid.same g.0 in
        let j = n.seen vw h.0 in
        (j.0, j.1 ∙ h.1 ∙ g.1)

    later : (vw : View) → Seen vw b s₀ k → Seen vw b s₃ (i + 1) × (env_of vw b s₃ (i + 1) ≡ env_of vw b s₀ k)
    later vw v =
        let g = between vw v in
        let h = seen-kept vw b s₂ s₃ (i + 1) y.paid.kept y.paid.same g.0 in
        (h.0, h.1 ∙ g.1)

    -- the room keeps its length
    room : length d₂ ≡ length d
    room =
        on-pair b p z (λ _. length d₂ ≡ length d) l e
        (λ f u w j row. (y.is v₀.view (between v₀.view v₀.seen).0 u j.then).0.size ∙ (x.is v₀.view (m.seen v₀.view v₀.seen).0 f j.test).0.size) m.some.0 m.some.1

    number : number_at s₃ i ≡ a
    number =
        let f : cell s₃ i 1 ≡ cell s₂ i 1 = below_at (4 * (i + 1)) s₂ s₃ y.paid.kept (4 * i + 1) (omega arith) in
        let g : number_at s₃ i ≡ number_at s₂ i = rw f in
        g ∙ n.number

    second : last_at s₃ i ≡ c
    second = below_at (4 * (i + 1)) s₂ s₃ y.paid.kept (4 * i + 3) (omega arith) ∙ n.last

    notes : pairs_at s₃ k (i + 1 - k) ≡ pairs_at s k (i - k) ++ (record { test = a; then = c } ∷ [])
    notes =
        let f : i + 1 - k ≡ suc (i - k) = omega (arith, m.low) in
        let j : k + (i - k) ≡ i = omega (arith, m.low) in
        ap (pairs_at s₃ k) f ∙ pairs-snoc s₃ k (i - k)
        ∙ ap₂ (λ (w : List Pair) (v : ℕ). w ++ (record { test = number_at s₃ v; then = last_at s₃ v } ∷ [])) (pairs-kept s s₃ k (i - k) i (omega (arith, j)) under) j
        ∙ ap₂ (λ (v : ℕ) (w : ℕ). pairs_at s k (i - k) ++ (record { test = v; then = w } ∷ [])) number second

    step : (vw : View) → Seen vw b s₀ k → (bs : Branches) (f u : Term) (w : Branches) → PairAt b p f u → Row b (f_branches w) (end_of b p) z
        → ((st' : State) (d' : List ℕ)
        → let o = pairs_of vw.top (b_pair p f u w) (env_of vw b s₀ k) (num st) al in
        let o₀ = pairs_of vw.top bs (env_of vw b s₀ k) (num st₀) al in
        Put o.more o.errs st st' d d' → Put o₀.more o₀.errs st₀ st' d₀ d')
        → (pairs_of vw.top bs (env_of vw b s₀ k) (num st₀) al).made ≡ pairs_at s k (i - k) ++ (pairs_of vw.top (b_pair p f u w) (env_of vw b s₀ k) (num st) al).made
        → (pairs_of vw.top bs (env_of vw b s₀ k) (num st₀) al).tail ≡ bit_or t (pairs_of vw.top (b_pair p f u w) (env_of vw b s₀ k) (num st) al).tail
        → PairsGo b z s₀ k st₀ d₀ al (end_of b p) (i + 1) (bit_or t r) s₃ st₂ d₂ vw bs
    step vw v bs f u w j row P M T =
        let E = env_of vw b s₀ k in
        let A = term vw.top f E (suc (num st)) empty in
        let g = m.seen vw v in
        let F : Put (slot A) A.errs st st₁ d d₁ = subst (λ (h : Env). let q = term vw.top f h (suc (num st)) empty in Put (slot q) q.errs st st₁ d d₁) g.1 (x.is vw g.0 f j.test).0 in
        let k₁ : num st₁ ≡ num st + size A = F.nums in
        let B = term vw.top u E (suc (num st + size A)) al in
        let h = between vw v in
        let L : Put (slot (term vw.top u E (suc (num st₁)) al)) (term vw.top u E (suc (num st₁)) al).errs st₁ st₂ d₁ d₂ × (r ≡ (term vw.top u E (suc (num st₁)) al).tail) =
        subst (λ (h : Env). let q = term vw.top u h (suc (num st₁)) al in Put (slot q) q.errs st₁ st₂ d₁ d₂ × (r ≡ q.tail)) h.1 (y.is vw h.0 u j.then) in
        let G : Put (slot B) B.errs st₁ st₂ d₁ d₂ × (r ≡ B.tail) = subst (λ (h : ℕ). let q = term vw.top u E (suc h) al in Put (slot q) q.errs st₁ st₂ d₁ d₂ × (r ≡ q.tail)) k₁ L in
        let k₂ : num st₂ ≡ num st + size A + size B = omega (arith, G.0.nums, k₁) in
        let O = pairs_of vw.top w E (num st + size A + size B) al in
        let same : O ≡ pairs_of vw.top w E (num st₂) al = ap (λ (h : ℕ). pairs_of vw.top w E h al) (sym k₂) in
        record {
          rest = w;
          at = row;
          puts = λ st' d' R.
              P st' d'
              (put_then (slot A) (slot B ++ O.more) A.errs (B.errs ++ O.errs) st st₁ st' d d₁ d' F
              (put_then (slot B) O.more B.errs O.errs st₁ st₂ st' d₁ d₂ d' G.0 (subst (λ (h : Pairs). Put h.more h.errs st₂ st' d₂ d') (sym same) R)));
          made =
              M
              ∙ ap₂ (λ (h : ℕ) (o : ℕ). pairs_at s k (i - k) ++ (record { test = h; then = o } ∷ O.made)) (sym a₁) (sym (c₁ ∙ k₁))
              ∙ sym (append_assoc (pairs_at s k (i - k)) (record { test = a; then = c } ∷ []) O.made)
              ∙ ap₂ (λ (h : List Pair) (o : Pairs). h ++ o.made) (sym notes) same;
          tail = T ∙ ap₂ (λ (h : ℕ) (o : Pairs). bit_or t (bit_or h o.tail)) (sym G.1) same ∙ union_assoc t r (pairs_of vw.top w E (num st₂) al).tail;
        }

pair-here : (b : List ℕ) (p z j : ℕ) (c u : Term) (w : Branches) → Row b (f_branches (b_pair j c u w)) p z → (p < z) × (get_or b p 0 ≡ 0xB8)
unfolding At f_term
pair-here b p z j c u w h = (omega (arith, row-le b (f_branches w) (end_of b p) z h.2), subst (λ (k : ℕ). get_or b k 0 ≡ 0xB8) h.0 h.1.0.tagged)

-- no pair at p
pub pairs-done : (b : List ℕ) (q z : ℕ) (s₀ : List ℕ) (k : ℕ) (st₀ : State) (d₀ : List ℕ) (al p i t : ℕ) (s : List ℕ) (st : State) (d : List ℕ) (r : Run)
    → (p < z → get_or b p 0 ≡ 0xB8 → ⊥) → Pairing b q z s₀ k st₀ d₀ al p i t s st d → r.k ≡ i → r.q ≡ p → r.tail ≡ t
    → Paired b q z s₀ s k st₀ st d₀ d al r
unfolding pairs_of pair_count else_of
pairs-done b q z s₀ k st₀ d₀ al p i t s st d r n m e₁ e₂ e₃ =
    record {
      is = λ vw v bs h.
          let g = m.goes vw v bs h in
          let o₀ = pairs_of vw.top bs (env_of vw b s₀ k) (num st₀) al in
          none (λ w. ((st' : State) (d' : List ℕ) → let o = pairs_of vw.top w (env_of vw b s₀ k) (num st) al in Put o.more o.errs st st' d d' → Put o₀.more o₀.errs st₀ st' d₀ d')
          → o₀.made ≡ pairs_at s k (i - k) ++ (pairs_of vw.top w (env_of vw b s₀ k) (num st) al).made
          → o₀.tail ≡ bit_or t (pairs_of vw.top w (env_of vw b s₀ k) (num st) al).tail
          → Put o₀.more o₀.errs st₀ st d₀ d × (pairs_at s k (r.k - k) ≡ o₀.made) × (r.tail ≡ o₀.tail))
          (λ P M T. end vw bs P M T) (λ u P M T. end vw bs P M T) g.rest g.at g.puts g.made g.tail;
      at = λ bs h.
          let g = m.ats bs h in
          none (λ w. Row b (f_branches w) p z → (else_of bs ≡ else_of w) → (k + pair_count bs ≡ i + pair_count w) → Row b (f_branches (else_of bs)) r.q z × (r.k ≡ k + pair_count bs))
          (λ row E C. (subst (λ (j : ℕ). Row b (f_branches (else_of bs)) j z) (sym e₂) (subst (λ (w : Branches). Row b (f_branches w) p z) (sym E) row), omega (arith, e₁, C)))
          (λ u row E C. (subst (λ (j : ℕ). Row b (f_branches (else_of bs)) j z) (sym e₂) (subst (λ (w : Branches). Row b (f_branches w) p z) (sym E) row), omega (arith, e₁, C)))
          g.0 g.1 g.1 g.2 g.3;
      seen = λ vw v. subst (λ (j : ℕ). Seen vw b s j × (env_of vw b s j ≡ env_of vw b s₀ k)) (sym e₁) (m.seen vw v);
      rows = omega (arith, m.rows, e₁, e₂);
      paid = subst (λ (j : ℕ). Paid (q + (j - k)) r.q k s₀ s st₀ st) (sym e₁) (subst (λ (j : ℕ). Paid (q + (i - k)) j k s₀ s st₀ st) (sym e₂) m.paid);
    }
  where
    none : (P : Branches → Type 0) → P b_none → ((u : Term) → P (b_else u)) → (w : Branches) → Row b (f_branches w) p z → P w
    none P f g b_none h = f
    none P f g (b_else u) h = g u
    none P f g (b_pair j c u w) h =
        absurd (n (pair-here b p z j c u w h).0 (pair-here b p z j c u w h).1)

    end : (vw : View) (bs : Branches)
        → ((st' : State) (d' : List ℕ) → let o₀ = pairs_of vw.top bs (env_of vw b s₀ k) (num st₀) al in Put [] [] st st' d d' → Put o₀.more o₀.errs st₀ st' d₀ d')
        → (pairs_of vw.top bs (env_of vw b s₀ k) (num st₀) al).made ≡ pairs_at s k (i - k) ++ []
        → (pairs_of vw.top bs (env_of vw b s₀ k) (num st₀) al).tail ≡ bit_or t 0
        → let o₀ = pairs_of vw.top bs (env_of vw b s₀ k) (num st₀) al in Put o₀.more o₀.errs st₀ st d₀ d × (pairs_at s k (r.k - k) ≡ o₀.made) × (r.tail ≡ o₀.tail)
    end vw bs P M T = (
      P st d (put-none st d),
      ap (λ (j : ℕ). pairs_at s k (j - k)) e₁ ∙ sym (append-nil (pairs_at s k (i - k))) ∙ sym M,
      e₃ ∙ sym (or_zero_r t) ∙ sym T,
    )

-- the next place as the code has it
pub at_next : (b : List ℕ) (q z : ℕ) (s₀ : List ℕ) (k : ℕ) (st₀ : State) (d₀ : List ℕ) (al x p i t : ℕ) (s : List ℕ) (st : State) (d : List ℕ) → x ≡ p → Pairing b q z s₀ k st₀ d₀ al p i t s st d → Pairing b q z s₀ k st₀ d₀ al x i t s st d
at_next b q z s₀ k st₀ d₀ al x p i t s st d e m = subst (λ (w : ℕ). Pairing b q z s₀ k st₀ d₀ al w i t s st d) (sym e) m
