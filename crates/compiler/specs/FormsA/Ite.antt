-- Conditionals: what follows the pairs, and the whole. Assumes nothing.
use Rattle.std.specs.Prelude.{ℕ, zero, suc, ◌+◌, ◌-◌, ◌*◌, ◌≤◌, ◌<◌, ◌≡◌, refl, List, [], ◌∷◌, ◌++◌, length, get_or}
use Rattle.std.proofs.Common.{arith, add-zero, sym, ap, ap₂, subst, ◌∙◌, length-append}
use Rattle.std.specs.Int.Bits.{bit_or}
use Rattle.fields.specs.Field.{field}
use Rattle.fields.specs.Room.{overlay}
use Rattle.tree.specs.Rose.{end_of, rnil, At, Row, row-le}
use Rattle.tree.specs.Tree.{Term, Branches, b_none, b_else, b_pair, t_if_then_else}
use Rattle.tree.specs.Form.{f_term, f_branches}
use Rattle.rules.specs.Table.{Rec, Err, Node, n_id, n_ite}
use Rattle.rules.specs.Tails.{Tail, empty}
use Rattle.rules.specs.Rows.{Env}
use Rattle.rules.specs.Outs.{Out, size, node, ite_out}
use Rattle.rules.specs.Listing.{node_bytes, rec_bytes, table_bytes}
use Rattle.rules.specs.Rules.{term, branches}
use Rattle.reads.specs.Bytes.{TermAt}
use Rattle.reads.specs.Shapes.{IteAt, on-ite, term-head}
use Rattle.puts.specs.declared.state.State.{State}
use Rattle.puts.specs.State.{num, off, ers, late, start_of, spot_of, next_of, Put, Own, with_off}
use Rattle.puts.specs.Rooms.{put_then, own_alone, table-append}
use Rattle.cells.specs.Cells.{View, Seen, env_of, number_at, last_at}
use Rattle.cells.specs.Notes.{Pair, pairs_of, else_of, pair_count, pairs_at, elses_of}
use Rattle.records.specs.Elses.{Elsed, IteFlat, ite-flat, else-put}
use Rattle.rows.specs.Kept.{below_less}
use Rattle.compiler.specs.declared.Run.{Run}
use Rattle.compiler.specs.Post.{Ready, Stands, Did, Paired, Else}
use Rattle.compiler.specs.Common.{off-num, off-ers, off-off, start-le, place-le, form-did, ready_at, bare-long, three-long}
use Rattle.compiler.specs.Moves.{ready-part}
use Rattle.compiler.specs.FormsA.Pairs.{pairs-kept}

-- ---- what follows the pairs

else-term : (b : List ℕ) (q z : ℕ) (P : Branches → Type 0) → q < z → ((t : Term) → TermAt b t q → end_of b q ≡ z → P (b_else t)) → (bs : Branches) → pair_count bs ≡ 0 → Row b (f_branches bs) q z → P bs
unfolding At f_term pair_count
else-term b q z P l f b_none e h = absurd (omega (arith, l, h))
else-term b q z P l f (b_else t) e h = f t (term-head b t rnil q z h) h.2
else-term b q z P l f (b_pair j c u bs) e h = absurd (omega (arith, e))

no-else : (b : List ℕ) (q z : ℕ) (P : Branches → Type 0) → z ≤ q → (q ≡ z → P b_none) → (bs : Branches) → pair_count bs ≡ 0 → Row b (f_branches bs) q z → P bs
unfolding At f_term pair_count
no-else b q z P l f b_none e h = f h
no-else b q z P l f (b_else t) e h = absurd (omega (arith, l, h.2))
no-else b q z P l f (b_pair j c u bs) e h = absurd (omega (arith, e))

pub else-ready : (b s : List ℕ) (k q z : ℕ) (st : State) → Ready b s k q z st → q < z → (bs : Branches) × Row b (f_branches bs) q z × (pair_count bs ≡ 0)
    → Ready b s k (q + 1) (end_of b q) st × Stands b q
else-ready b s k q z st y l g =
    else-term b q z (λ _. Ready b s k (q + 1) (end_of b q) st × Stands b q) l
    (λ t a e. (ready-part b s k q (q + 1) z (end_of b q) st y (omega arith) (omega arith) (omega (arith, e)), (t, a))) g.0 g.2 g.1

pub else-some : (b : List ℕ) (q z : ℕ) (s s₁ : List ℕ) (k : ℕ) (st st₁ : State) (d d₁ : List ℕ) (al r : ℕ) → q < z → (bs : Branches) × Row b (f_branches bs) q z × (pair_count bs ≡ 0)
    → Did b q s s₁ k late st st₁ d d₁ al r → Else b q z s s₁ k st st₁ d d₁ al r
unfolding term
else-some b q z s s₁ k st st₁ d d₁ al r l g m =
    record {
      is = λ vw v bs p h e. else-term b q z (λ w. let o = branches vw.top w p (env_of vw b s k) (num st) al in Own o late st st₁ d d₁ × (r ≡ o.tail)) l (λ t a _. m.is vw v t a) bs e h;
      kept = m.paid.kept;
      same = m.paid.same;
      nums = omega (arith, m.paid.nums, last);
      offs = omega (arith, m.paid.offs, last);
      errs = omega (arith, m.paid.errs, last);
    }
  where
    last : end_of b q ≡ z
    last = else-term b q z (λ _. end_of b q ≡ z) l (λ t a e. e) g.0 g.2 g.1

pub else-none : (b : List ℕ) (q z : ℕ) (s : List ℕ) (k x : ℕ) (st st₁ : State) (d d₁ : List ℕ) (al : ℕ) → z ≤ q → off st < late → (bs : Branches) × Row b (f_branches bs) q z × (pair_count bs ≡ 0)
    → x ≡ spot_of late (start_of late (off st) 3) → st₁ ≡ with_off st (next_of late (start_of late (off st) 3) 3) → d₁ ≡ overlay d x (field 0x50 [])
    → Else b q z s s k st st₁ d d₁ al 0
unfolding term
else-none b q z s k x st st₁ d d₁ al l h g i e j =
    record {
      is = λ vw v bs p r c. no-else b q z (λ w. let o = branches vw.top w p (env_of vw b s k) (num st) al in Own o late st st₁ d d₁ × (0 ≡ o.tail)) l (λ _. (own_alone p n_id late 3 x st st₁ d d₁ (bare-long 0x50) i e j, refl)) bs c r;
      kept = refl;
      same = refl;
      nums = omega (arith, off-num st st₁ (next_of late (start_of late (off st) 3) 3) e, last);
      offs = omega (arith, off-off st st₁ (next_of late (start_of late (off st) 3) 3) e, last, subst (λ (m : ℕ). next_of late m 3 ≤ off st + 3 + 0) (add-zero (start_of late (off st) 3)) (place-le late (off st) 3 0 h));
      errs = omega (arith, off-ers st st₁ (next_of late (start_of late (off st) 3) 3) e, last);
    }
  where
    last : q ≡ z
    last = no-else b q z (λ _. q ≡ z) l (λ c. c) g.0 g.2 g.1

-- ---- the whole

pub ite-ready : (b s : List ℕ) (k p o : ℕ) (st st₁ : State) → get_or b p 0 ≡ 0xA6 → Ready b s k (p + 1) (end_of b p) st → Stands b p → st₁ ≡ with_off st (start_of o (off st) 9)
    → Ready b s k (p + 3) (end_of b p) st₁ × (end_of b p ≤ length b) × ((bs : Branches) × Row b (f_branches bs) (p + 3) (end_of b p))
ite-ready b s k p o st st₁ e y g f = on-ite b p (λ _. Ready b s k (p + 3) (end_of b p) st₁ × (end_of b p ≤ length b) × ((bs : Branches) × Row b (f_branches bs) (p + 3) (end_of b p))) e go g.0 g.1
  where
    go : (c u : Term) (bs : Branches) → IteAt b p c u bs → Ready b s k (p + 3) (end_of b p) st₁ × (end_of b p ≤ length b) × ((bs : Branches) × Row b (f_branches bs) (p + 3) (end_of b p))
    go c u bs n = (
      subst (λ (i : ℕ). Ready b s i (p + 3) (end_of b p) st₁) (add-zero k) (ready_at b s s k 0 p (p + 3) (end_of b p) o 9 st st₁ y f (omega arith) (omega arith) (omega arith) (omega arith) (omega arith) refl (λ vw v. subst (λ (i : ℕ). Seen vw b s i) (sym (add-zero k)) v)),
      n.fits,
      (b_pair (p + 3) c u bs, n.pairs),
    )

else-count : (bs : Branches) → pair_count (else_of bs) ≡ 0
unfolding pair_count else_of
else-count b_none = refl
else-count (b_else t) = refl
else-count (b_pair q c u bs) = else-count bs

-- behind the pairs
pub ite-other : (b s s₁ : List ℕ) (k q z : ℕ) (st st₁ : State) (d d₁ : List ℕ) (al : ℕ) (r : Run) → Ready b s k q z st → (bs : Branches) × Row b (f_branches bs) q z
    → Paired b q z s s₁ k st st₁ d d₁ al r
    → Ready b s₁ r.k r.q z st₁ × ((bs : Branches) × Row b (f_branches bs) r.q z × (pair_count bs ≡ 0)) × (k ≤ r.k)
ite-other b s s₁ k q z st st₁ d d₁ al r y g m =
    let a = m.at g.0 g.1 in
    let l : r.q ≤ z = row-le b (f_branches (else_of g.0)) r.q z a.0 in (
      record {
        small = y.small;
        view = y.view;
        seen = (m.seen y.view y.seen).0;
        order = l;
        within = y.within;
        spare = omega (arith, y.spare, m.paid.same, m.rows, l, y.within);
        nums = omega (arith, y.nums, m.paid.nums, a.1, m.rows, l);
        offs = omega (arith, y.offs, m.paid.offs, a.1, m.rows, l);
        errs = omega (arith, y.errs, m.paid.errs, a.1, m.rows, l);
      },
      (else_of g.0, a.0, else-count g.0),
      omega (arith, a.1),
    )

-- how many records the elses are, and how long
pub elses-few : (p : ℕ) (ps : List Pair) (n : ℕ) → (length (elses_of p ps n) ≤ length ps) × (length (table_bytes 2 (elses_of p ps n)) ≤ 9 * length ps)
unfolding elses_of
elses-few p [] n = (omega arith, omega arith)
elses-few p (x ∷ []) n = (omega arith, omega arith)
elses-few p (x ∷ y ∷ ys) n =
    let rs = elses_of p (y ∷ ys) n in
    let r : Rec = record { place = p; node = n_ite y.test y.then (n + length rs) } in
    let i = elses-few p (y ∷ ys) n in
    let f : 9 ≡ length (rec_bytes 2 r) = three-long 0x69 y.test y.then (n + length rs) in (
      omega (arith, length-append rs (r ∷ []), i.0),
      omega (arith, ap length (table-append rs (r ∷ [])), length-append (table_bytes 2 rs) (table_bytes 2 (r ∷ [])), length-append (rec_bytes 2 r) [], f, i.1),
    )

pub pairs-length : (s : List ℕ) (k n : ℕ) → length (pairs_at s k n) ≡ n
unfolding pairs_at
pairs-length s k zero = refl
pairs-length s k (suc n) = ap suc (pairs-length s (suc k) n)

out-is : (q : Out) (p : ℕ) (n : Node) (ms : List Rec) (es : List Err) (r : Tail) → q.self ≡ record { place = p; node = n } → q.more ≡ ms → q.errs ≡ es → q.tail ≡ r → q ≡ node p n ms es r
out-is q p n ms es r e₁ e₂ e₃ e₄ =
    ap₂ (λ (x : Rec) (y : List Rec). record { self = x; more = y; errs = q.errs; tail = q.tail }) e₁ e₂
    ∙ ap₂ (λ (x : List Err) (y : Tail). record { self = record { place = p; node = n }; more = ms; errs = x; tail = y }) e₃ e₄

first-pair : (s : List ℕ) (k n : ℕ) (x : Pair) (xs : List Pair) → pairs_at s k n ≡ x ∷ xs → (number_at s k ≡ x.test) × (last_at s k ≡ x.then)
unfolding pairs_at
first-pair s k zero x xs e = absurd (omega (arith, ap length e))
first-pair s k (suc n) x xs e =
    (ap (λ (l : List Pair). (hd l).test) e, ap (λ (l : List Pair). (hd l).then) e)
  where
    hd : List Pair → Pair
    hd [] = x
    hd (y ∷ ys) = y

-- reserved, pairs, what follows them, the elses' records, the own record
pub ite-did : (b : List ℕ) (p : ℕ) (s s₁ s₂ : List ℕ) (k o x n t r al : ℕ) (a : Run) (st st₁ st₂ st₃ st₄ st₅ : State) (d d₁ d₂ d₃ d₄ : List ℕ) → get_or b p 0 ≡ 0xA6 → Ready b s k (p + 1) (end_of b p) st → Stands b p
    → st₁ ≡ with_off st (start_of o (off st) 9)
    → Paired b (p + 3) (end_of b p) s s₁ k st₁ st₂ d d₁ al a
    → Else b a.q (end_of b p) s₁ s₂ a.k st₂ st₃ d₁ d₂ al t
    → Elsed (pairs_at s₂ k (a.k - k)) st₃ st₄ d₂ d₃ n
    → x ≡ spot_of o (off st₄) → st₅ ≡ with_off st₄ (next_of o (off st₄) 9) → d₄ ≡ overlay d₃ x (node_bytes 2 (n_ite (number_at s₂ k) (last_at s₂ k) n))
    → r ≡ bit_or a.tail t
    → Did b p s s₂ k o st st₅ d d₄ al r
unfolding term pairs_of else_of pair_count
ite-did b p s s₁ s₂ k o x n t r al a st st₁ st₂ st₃ st₄ st₅ d d₁ d₂ d₃ d₄ e y g f m q z i h j u =
    form-did b p s s₂ k o 9 x st st₁ st₄ st₅ d d₃ d₄ al r (n_ite (number_at s₂ k) (last_at s₂ k) n) y g f
    (λ vw v. on-ite b p (λ w. (ms : List Rec) × (es : List Err) × (term vw.top w (env_of vw b s k) (num st) al ≡ node p (n_ite (number_at s₂ k) (last_at s₂ k) n) ms es r) × Put ms es st₁ st₄ d d₃) e (is vw v))
    (three-long 0x69 (number_at s₂ k) (last_at s₂ k) n) i h j
    (below_less (4 * k) (4 * a.k) s₁ s₂ (omega (arith, low)) q.kept ∙ m.paid.kept) (q.same ∙ m.paid.same)
    (omega (arith, m.paid.nums, q.nums, after.0, few.0, size_is))
    (omega (arith, m.paid.offs, q.offs, after.1, few.1, size_is))
    (omega (arith, m.paid.errs, q.errs, after.2))
  where
    low : k ≤ a.k
    low = on-ite b p (λ _. k ≤ a.k) e (λ c w bs l. omega (arith, (m.at (b_pair (p + 3) c w bs) l.pairs).1)) g.0 g.1

    ps : List Pair
    ps = pairs_at s₂ k (a.k - k)

    size_is : length ps ≡ a.k - k
    size_is = pairs-length s₂ k (a.k - k)

    few : (length (elses_of p ps (num st₃)) ≤ length ps) × (length (table_bytes 2 (elses_of p ps (num st₃))) ≤ 9 * length ps)
    few = elses-few p ps (num st₃)

    after : (num st₄ ≡ num st₃ + length (elses_of p ps (num st₃)) + 1) × (off st₄ ≡ off st₃ + length (table_bytes 2 (elses_of p ps (num st₃)))) × (ers st₄ ≡ ers st₃)
    after =
        (ap num (z.state p), ap off (z.state p), ap ers (z.state p))

    n₁ : num st₁ ≡ num st
    n₁ = off-num st st₁ (start_of o (off st) 9) f

    is : (vw : View) → Seen vw b s k → (c w : Term) (bs : Branches) → IteAt b p c w bs
        → (ms : List Rec) × (es : List Err) × (term vw.top (t_if_then_else p (p + 3) c w bs) (env_of vw b s k) (num st) al ≡ node p (n_ite (number_at s₂ k) (last_at s₂ k) n) ms es r) × Put ms es st₁ st₄ d d₃
    is vw v c w bs l =
        let E = env_of vw b s k in
        let A = term vw.top c E (suc (num st)) empty in
        let B = term vw.top w E (suc (num st + size A)) al in
        let M = pairs_of vw.top (b_pair (p + 3) c w bs) E (num st) al in
        let F : Put M.more M.errs st₁ st₂ d d₁ × (pairs_at s₁ k (a.k - k) ≡ M.made) × (a.tail ≡ M.tail) =
        subst (λ (v : ℕ). let o = pairs_of vw.top (b_pair (p + 3) c w bs) E v al in Put o.more o.errs st₁ st₂ d d₁ × (pairs_at s₁ k (a.k - k) ≡ o.made) × (a.tail ≡ o.tail)) n₁ (m.is vw v (b_pair (p + 3) c w bs) l.pairs) in
        let S = m.seen vw v in
        let N = num st + length M.more in
        let k₂ : num st₂ ≡ N = omega (arith, F.0.nums, n₁) in
        let O = branches vw.top (else_of bs) p E N al in
        let G : Own O late st₂ st₃ d₁ d₂ × (t ≡ O.tail) =
        subst (λ (v : ℕ). let o = branches vw.top (else_of bs) p E v al in Own o late st₂ st₃ d₁ d₂ × (t ≡ o.tail)) k₂
        (subst (λ (v : Env). let o = branches vw.top (else_of bs) p v (num st₂) al in Own o late st₂ st₃ d₁ d₂ × (t ≡ o.tail)) S.1 (q.is vw S.0 (else_of bs) p (m.at (b_pair (p + 3) c w bs) l.pairs).0 (else-count bs))) in
        let made : ps ≡ M.made = pairs-kept s₁ s₂ k (a.k - k) a.k (omega (arith, low)) q.kept ∙ F.1 in
        let k₃ : num st₃ ≡ N + length O.more = omega (arith, G.0.nums, k₂) in
        let D : Put (O.more ++ (O.self ∷ elses_of p ps (num st₃))) O.errs st₂ st₄ d₁ d₃ =
        else-put O ps p st₂ st₃ st₄ d₁ d₂ d₃ n (omega (arith, off-off st st₁ (start_of o (off st) 9) f, (start-le o (off st) 9).1, y.offs, m.paid.offs, at_most)) G.0 z in
        let R : List Rec = O.more ++ (O.self ∷ elses_of p M.made (N + length O.more)) in
        let D₂ : Put R O.errs st₂ st₄ d₁ d₃ = subst (λ (v : List Rec). Put (O.more ++ (O.self ∷ v)) O.errs st₂ st₄ d₁ d₃) (ap₂ (λ (v : List Pair) (u : ℕ). elses_of p v u) made k₃) D in
        let I : IteFlat vw.top p (p + 3) c w bs E (num st) al (ite_out p (num st) A B (branches vw.top bs p E (num st + size A + size B) al)) = ite-flat vw.top p (p + 3) c w bs E (num st) al in
        let head = first-pair s₂ k (a.k - k) (record { test = num st; then = num st + size A }) (pairs_of vw.top bs E (num st + size A + size B) al).made made in
        let number_is : n ≡ N + length O.more + length (elses_of p M.made (N + length O.more)) =
        z.number p ∙ ap₂ (λ (v : ℕ) (u : List Pair). v + length (elses_of p u v)) k₃ made in (
          M.more ++ R,
          M.errs ++ O.errs,
          out-is (ite_out p (num st) A B (branches vw.top bs p E (num st + size A + size B) al)) p (n_ite (number_at s₂ k) (last_at s₂ k) n) (M.more ++ R) (M.errs ++ O.errs) r
              (I.self ∙ ap (λ (v : Node). record { place = p; node = v }) (ap₂ (λ (v : ℕ) (u : ℕ). n_ite v u (N + length O.more + length (elses_of p M.made (N + length O.more)))) (sym head.0) (sym head.1) ∙ ap (n_ite (number_at s₂ k) (last_at s₂ k)) (sym number_is)))
              I.more
              I.errs
              (I.tail ∙ ap₂ bit_or (sym F.2) (sym G.1) ∙ sym u),
          put_then M.more R M.errs O.errs st₁ st₂ st₄ d d₁ d₃ F.0 D₂,
        )
      where
        at_most : a.q ≤ end_of b p
        at_most = row-le b (f_branches (else_of bs)) a.q (end_of b p) (m.at (b_pair (p + 3) c w bs) l.pairs).0
