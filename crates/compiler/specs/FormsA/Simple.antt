-- Forms with one or two members: Arr, Neg, Label, TryCatch. Assumes nothing.
use Rattle.std.specs.Prelude.{ℕ, suc, ◌+◌, ◌*◌, ◌≤◌, ◌<◌, ◌≡◌, refl, List, [], ◌∷◌, ◌++◌, length, get_or, take}
use Rattle.std.proofs.Common.{arith, add-zero, sym, ap, subst, ◌∙◌}
use Rattle.fields.specs.Number.{number}
use Rattle.fields.specs.Field.{field}
use Rattle.fields.specs.Room.{overlay}
use Rattle.tree.specs.Rose.{end_of, rnil, Row, row-le}
use Rattle.tree.specs.Tree.{Term, OptTerm, t_arr, t_neg, t_label, t_try_catch}
use Rattle.tree.specs.Form.{f_opt_term}
use Rattle.rules.specs.Table.{Rec, Err, n_arr, n_neg, n_label, n_try_catch}
use Rattle.rules.specs.Tails.{empty}
use Rattle.rules.specs.Rows.{Env, label}
use Rattle.rules.specs.Outs.{slot, size, node, bare}
use Rattle.rules.specs.Names.{ascii}
use Rattle.rules.specs.Rules.{term, or_empty, empty_out, called}
use Rattle.reads.specs.Bytes.{name_at}
use Rattle.reads.specs.Shapes.{ArrAt, NegAt, LabelAt, TryAt, on-arr, on-neg, on-label, on-try, on-some-term, on-no-term}
use Rattle.puts.specs.declared.state.State.{State}
use Rattle.puts.specs.State.{num, off, ers, start_of, spot_of, next_of, Put, with_off}
use Rattle.puts.specs.Rooms.{put_then}
use Rattle.cells.specs.Cells.{View, Seen, env_of, Opened, closed}
use Rattle.rows.specs.Kept.{seen-kept}
use Rattle.compiler.specs.Post.{Ready, Stands, Did, Laid, OrEmpty}
use Rattle.compiler.specs.Common.{off-num, form-did, ready_at, ready-then, one-long, two-long}

-- ---- Arr

pub arr-ready : (b s : List ℕ) (k p o : ℕ) (st st₁ : State) → get_or b p 0 ≡ 0xA2 → Ready b s k (p + 1) (end_of b p) st → Stands b p → st₁ ≡ with_off st (start_of o (off st) 5)
    → Ready b s k (p + 3) (end_of b p) st₁ × (end_of b p ≤ length b) × ((x : OptTerm) × Row b (f_opt_term x rnil) (p + 3) (end_of b p))
arr-ready b s k p o st st₁ e y g f =
    on-arr b p (λ _. Ready b s k (p + 3) (end_of b p) st₁ × (end_of b p ≤ length b) × ((x : OptTerm) × Row b (f_opt_term x rnil) (p + 3) (end_of b p))) e go g.0 g.1
  where
    go : (x : OptTerm) → ArrAt b p x → Ready b s k (p + 3) (end_of b p) st₁ × (end_of b p ≤ length b) × ((x : OptTerm) × Row b (f_opt_term x rnil) (p + 3) (end_of b p))
    go x n = (subst (λ (i : ℕ). Ready b s i (p + 3) (end_of b p) st₁) (add-zero k) (ready_at b s s k 0 p (p + 3) (end_of b p) o 5 st st₁ y f (omega arith) (omega arith) (omega arith) (omega arith) (omega arith) refl (λ vw v. subst (λ (i : ℕ). Seen vw b s i) (sym (add-zero k)) v)), n.fits, (x, n.body))

pub arr-did : (b : List ℕ) (p : ℕ) (s s₁ : List ℕ) (k o a x : ℕ) (st st₁ st₂ st₃ : State) (d d₁ d₂ : List ℕ) → get_or b p 0 ≡ 0xA2 → Ready b s k (p + 1) (end_of b p) st → Stands b p
    → st₁ ≡ with_off st (start_of o (off st) 5) → a ≡ num st₁
    → OrEmpty b (p + 3) (end_of b p) s s₁ k st₁ st₂ d d₁
    → x ≡ spot_of o (off st₂) → st₃ ≡ with_off st₂ (next_of o (off st₂) 5) → d₂ ≡ overlay d₁ x (field 0x56 (number 2 a))
    → (al : ℕ) → Did b p s s₁ k o st st₃ d d₂ al 0
unfolding term
arr-did b p s s₁ k o a x st st₁ st₂ st₃ d d₁ d₂ e y g f a₁ m i h j al =
    form-did b p s s₁ k o 5 x st st₁ st₂ st₃ d d₁ d₂ al 0 (n_arr (num st)) y g f
    (λ vw v. on-arr b p (λ t. (ms : List Rec) × (es : List Err) × (term vw.top t (env_of vw b s k) (num st) al ≡ node p (n_arr (num st)) ms es 0) × Put ms es st₁ st₂ d d₁) e (is vw v))
    (one-long 0x56 (num st)) i h (j ∙ ap (λ (c : ℕ). overlay d₁ x (field 0x56 (number 2 c))) (a₁ ∙ n₁))
    m.kept m.same (omega (arith, m.nums)) (omega (arith, m.offs)) (omega (arith, m.errs))
  where
    n₁ : num st₁ ≡ num st
    n₁ = off-num st st₁ (start_of o (off st) 5) f

    is : (vw : View) → Seen vw b s k → (u : OptTerm) → ArrAt b p u
        → (ms : List Rec) × (es : List Err) × (term vw.top (t_arr p u) (env_of vw b s k) (num st) al ≡ node p (n_arr (num st)) ms es 0) × Put ms es st₁ st₂ d d₁
    is vw v u n =
        let A = or_empty vw.top u p (env_of vw b s k) (suc (num st)) in
        (slot A, A.errs, refl, subst (λ (c : ℕ). let q = or_empty vw.top u p (env_of vw b s k) (suc c) in Put (slot q) q.errs st₁ st₂ d d₁) n₁ (m.is vw v u p n.body))

-- ---- Neg

pub neg-ready : (b s : List ℕ) (k p o : ℕ) (st st₁ : State) → get_or b p 0 ≡ 0xA3 → Ready b s k (p + 1) (end_of b p) st → Stands b p → st₁ ≡ with_off st (start_of o (off st) 5)
    → Ready b s k (p + 3) (end_of b (p + 3)) st₁ × Stands b (p + 3)
neg-ready b s k p o st st₁ e y g f = on-neg b p (λ _. Ready b s k (p + 3) (end_of b (p + 3)) st₁ × Stands b (p + 3)) e go g.0 g.1
  where
    go : (u : Term) → NegAt b p u → Ready b s k (p + 3) (end_of b (p + 3)) st₁ × Stands b (p + 3)
    go u n = (subst (λ (i : ℕ). Ready b s i (p + 3) (end_of b (p + 3)) st₁) (add-zero k) (ready_at b s s k 0 p (p + 3) (end_of b (p + 3)) o 5 st st₁ y f (omega arith) (omega arith) (omega arith) (omega arith) (omega (arith, n.last)) refl (λ vw v. subst (λ (i : ℕ). Seen vw b s i) (sym (add-zero k)) v)), (u, n.body))

pub neg-did : (b : List ℕ) (p : ℕ) (s s₁ : List ℕ) (k o a x r : ℕ) (st st₁ st₂ st₃ : State) (d d₁ d₂ : List ℕ) → get_or b p 0 ≡ 0xA3 → Ready b s k (p + 1) (end_of b p) st → Stands b p
    → st₁ ≡ with_off st (start_of o (off st) 5) → a ≡ num st₁
    → Laid b (p + 3) s s₁ k st₁ st₂ d d₁ 0 r
    → x ≡ spot_of o (off st₂) → st₃ ≡ with_off st₂ (next_of o (off st₂) 5) → d₂ ≡ overlay d₁ x (field 0x5D (number 2 a))
    → (al : ℕ) → Did b p s s₁ k o st st₃ d d₂ al 0
unfolding term
neg-did b p s s₁ k o a x r st st₁ st₂ st₃ d d₁ d₂ e y g f a₁ m i h j al =
    form-did b p s s₁ k o 5 x st st₁ st₂ st₃ d d₁ d₂ al 0 (n_neg (num st)) y g f
    (λ vw v. on-neg b p (λ t. (ms : List Rec) × (es : List Err) × (term vw.top t (env_of vw b s k) (num st) al ≡ node p (n_neg (num st)) ms es 0) × Put ms es st₁ st₂ d d₁) e (is vw v))
    (one-long 0x5D (num st)) i h (j ∙ ap (λ (c : ℕ). overlay d₁ x (field 0x5D (number 2 c))) (a₁ ∙ n₁))
    m.paid.kept m.paid.same (omega (arith, m.paid.nums, last)) (omega (arith, m.paid.offs, last)) (omega (arith, m.paid.errs, last))
  where
    n₁ : num st₁ ≡ num st
    n₁ = off-num st st₁ (start_of o (off st) 5) f

    last : end_of b (p + 3) ≡ end_of b p
    last = on-neg b p (λ _. end_of b (p + 3) ≡ end_of b p) e (λ u n. n.last) g.0 g.1

    is : (vw : View) → Seen vw b s k → (u : Term) → NegAt b p u
        → (ms : List Rec) × (es : List Err) × (term vw.top (t_neg p u) (env_of vw b s k) (num st) al ≡ node p (n_neg (num st)) ms es 0) × Put ms es st₁ st₂ d d₁
    is vw v u n =
        let A = term vw.top u (env_of vw b s k) (suc (num st)) empty in
        (slot A, A.errs, refl, subst (λ (c : ℕ). let q = term vw.top u (env_of vw b s k) (suc c) empty in Put (slot q) q.errs st₁ st₂ d d₁) n₁ (m.is vw v u n.body).0)

-- ---- Label: the rows s₁ have the label in view, s₂ are those that its term leaves

abbrev pub Labels : List ℕ → List ℕ → List ℕ → ℕ → ℕ → Type 0
Labels b s s₁ k q = (vw : View) → Seen vw b s k → Seen vw b s₁ (k + 1) × (env_of vw b s₁ (k + 1) ≡ label (name_at b q) ∷ env_of vw b s k)

pub label-ready : (b s s₁ : List ℕ) (k p o : ℕ) (st st₁ : State) → get_or b p 0 ≡ 0xA4 → Ready b s k (p + 1) (end_of b p) st → Stands b p → st₁ ≡ with_off st (start_of o (off st) 5)
    → length s₁ ≡ length s → Labels b s s₁ k (p + 3)
    → Ready b s₁ (k + 1) (end_of b (p + 3)) (end_of b (end_of b (p + 3))) st₁ × Stands b (end_of b (p + 3))
label-ready b s s₁ k p o st st₁ e y g f l c = on-label b p (λ _. Ready b s₁ (k + 1) (end_of b (p + 3)) (end_of b (end_of b (p + 3))) st₁ × Stands b (end_of b (p + 3))) e go g.0 g.1
  where
    go : (u : Term) → LabelAt b p u → Ready b s₁ (k + 1) (end_of b (p + 3)) (end_of b (end_of b (p + 3))) st₁ × Stands b (end_of b (p + 3))
    go u n = (ready_at b s s₁ k 1 p (end_of b (p + 3)) (end_of b (end_of b (p + 3))) o 5 st st₁ y f (omega arith) (omega arith) (omega arith) (omega arith) (omega (arith, n.last)) l (λ vw v. (c vw v).0), (u, n.body))

pub label-did : (b : List ℕ) (p : ℕ) (s s₁ s₂ s₃ : List ℕ) (k o a x r : ℕ) (st st₁ st₂ st₃ : State) (d d₁ d₂ : List ℕ) → get_or b p 0 ≡ 0xA4 → Ready b s k (p + 1) (end_of b p) st → Stands b p
    → st₁ ≡ with_off st (start_of o (off st) 5) → a ≡ num st₁
    → Labels b s s₁ k (p + 3) → Opened s s₁ k (k + 1)
    → Laid b (end_of b (p + 3)) s₁ s₂ (k + 1) st₁ st₂ d d₁ 0 r
    → s₃ ≡ closed s₂ k (k + 1) (get_or s 1 0) → length s₃ ≡ length s₂
    → x ≡ spot_of o (off st₂) → st₃ ≡ with_off st₂ (next_of o (off st₂) 5) → d₂ ≡ overlay d₁ x (field 0x5C (number 2 a))
    → (al : ℕ) → Did b p s s₃ k o st st₃ d d₂ al 0
unfolding term
label-did b p s s₁ s₂ s₃ k o a x r st st₁ st₂ st₃ d d₁ d₂ e y g f a₁ c q m z l i h j al =
    form-did b p s s₃ k o 5 x st st₁ st₂ st₃ d d₁ d₂ al 0 (n_label (num st)) y g f
    (λ vw v. on-label b p (λ t. (ms : List Rec) × (es : List Err) × (term vw.top t (env_of vw b s k) (num st) al ≡ node p (n_label (num st)) ms es 0) × Put ms es st₁ st₂ d d₁) e (is vw v))
    (one-long 0x5C (num st)) i h (j ∙ ap (λ (v : ℕ). overlay d₁ x (field 0x5C (number 2 v))) (a₁ ∙ n₁))
    (ap (take (4 * k)) z ∙ q.back s₂ (m.paid.same ∙ q.same) m.paid.kept) (l ∙ m.paid.same ∙ q.same)
    (omega (arith, m.paid.nums, last)) (omega (arith, m.paid.offs, last)) (omega (arith, m.paid.errs, last))
  where
    n₁ : num st₁ ≡ num st
    n₁ = off-num st st₁ (start_of o (off st) 5) f

    last : end_of b (end_of b (p + 3)) ≡ end_of b p
    last = on-label b p (λ _. end_of b (end_of b (p + 3)) ≡ end_of b p) e (λ u n. n.last) g.0 g.1

    is : (vw : View) → Seen vw b s k → (u : Term) → LabelAt b p u
        → (ms : List Rec) × (es : List Err) × (term vw.top (t_label p (name_at b (p + 3)) u) (env_of vw b s k) (num st) al ≡ node p (n_label (num st)) ms es 0) × Put ms es st₁ st₂ d d₁
    is vw v u n =
        let E = label (name_at b (p + 3)) ∷ env_of vw b s k in
        let A = term vw.top u E (suc (num st)) empty in (
          slot A,
          A.errs,
          refl,
          subst (λ (w : ℕ). let q = term vw.top u E (suc w) empty in Put (slot q) q.errs st₁ st₂ d d₁) n₁
              (subst (λ (w : Env). let q = term vw.top u w (suc (num st₁)) empty in Put (slot q) q.errs st₁ st₂ d d₁) (c vw v).1 (m.is vw (c vw v).0 u n.body).0),
        )

-- ---- TryCatch

pub try-ready : (b s : List ℕ) (k p o : ℕ) (st st₁ : State) → get_or b p 0 ≡ 0xAB → Ready b s k (p + 1) (end_of b p) st → Stands b p → st₁ ≡ with_off st (start_of o (off st) 7)
    → Ready b s k (p + 3) (end_of b (p + 3)) st₁ × Stands b (p + 3)
try-ready b s k p o st st₁ e y g f = on-try b p (λ _. Ready b s k (p + 3) (end_of b (p + 3)) st₁ × Stands b (p + 3)) e go g.0 g.1
  where
    go : (u : Term) (x : OptTerm) → TryAt b p u x → Ready b s k (p + 3) (end_of b (p + 3)) st₁ × Stands b (p + 3)
    go u x n = (subst (λ (i : ℕ). Ready b s i (p + 3) (end_of b (p + 3)) st₁) (add-zero k) (ready_at b s s k 0 p (p + 3) (end_of b (p + 3)) o 7 st st₁ y f (omega arith) (omega arith) (omega arith) (omega arith) (omega (arith, row-le b (f_opt_term x rnil) (end_of b (p + 3)) (end_of b p) n.catch)) refl (λ vw v. subst (λ (i : ℕ). Seen vw b s i) (sym (add-zero k)) v)), (u, n.body))

-- the catch, where the rows s₁ are left of those in view
pub catch-ready : (b s s₁ : List ℕ) (k p o r : ℕ) (st st₁ st₂ : State) (d d₁ : List ℕ) → get_or b p 0 ≡ 0xAB → Ready b s k (p + 1) (end_of b p) st → Stands b p → st₁ ≡ with_off st (start_of o (off st) 7)
    → Laid b (p + 3) s s₁ k st₁ st₂ d d₁ 0 r
    → Ready b s₁ k (end_of b (p + 3)) (end_of b p) st₂ × (end_of b p ≤ length b) × ((x : OptTerm) × Row b (f_opt_term x rnil) (end_of b (p + 3)) (end_of b p))
catch-ready b s s₁ k p o r st st₁ st₂ d d₁ e y g f m = on-try b p (λ _. Goal) e go g.0 g.1
  where
    Goal : Type 0
    Goal = Ready b s₁ k (end_of b (p + 3)) (end_of b p) st₂ × (end_of b p ≤ length b) × ((x : OptTerm) × Row b (f_opt_term x rnil) (end_of b (p + 3)) (end_of b p))

    go : (u : Term) (x : OptTerm) → TryAt b p u x → Goal
    go u x n =
        let l = row-le b (f_opt_term x rnil) (end_of b (p + 3)) (end_of b p) n.catch in
        let z : Ready b s (k + 0) (p + 3) (end_of b p) st₁ = ready_at b s s k 0 p (p + 3) (end_of b p) o 7 st st₁ y f (omega arith) (omega arith) (omega arith) (omega (arith, l)) (omega arith) refl (λ vw v. subst (λ (i : ℕ). Seen vw b s i) (sym (add-zero k)) v) in
        let z₁ : Ready b s k (p + 3) (end_of b p) st₁ = subst (λ (i : ℕ). Ready b s i (p + 3) (end_of b p) st₁) (add-zero k) z in (
          subst (λ (i : ℕ). Ready b s₁ i (end_of b (p + 3)) (end_of b p) st₂) (add-zero k)
              (ready-then b s s₁ k 0 (p + 3) (p + 3 + 1) (end_of b (p + 3)) (end_of b p) (end_of b p) st₁ st₂ z₁ m.paid (omega arith) (omega arith) (omega arith) l (omega arith) (λ vw v. subst (λ (i : ℕ). Seen vw b s₁ i) (sym (add-zero k)) (seen-kept vw b s s₁ k m.paid.kept m.paid.same v).0)),
          n.fits,
          (x, n.catch),
        )

pub try-did : (b : List ℕ) (p : ℕ) (s s₁ s₂ : List ℕ) (k o a c x r : ℕ) (st st₁ st₂ st₃ st₄ : State) (d d₁ d₂ d₃ : List ℕ) → get_or b p 0 ≡ 0xAB → Ready b s k (p + 1) (end_of b p) st → Stands b p
    → st₁ ≡ with_off st (start_of o (off st) 7) → a ≡ num st₁
    → Laid b (p + 3) s s₁ k st₁ st₂ d d₁ 0 r → c ≡ num st₂
    → OrEmpty b (end_of b (p + 3)) (end_of b p) s₁ s₂ k st₂ st₃ d₁ d₂
    → x ≡ spot_of o (off st₃) → st₄ ≡ with_off st₃ (next_of o (off st₃) 7) → d₃ ≡ overlay d₂ x (field 0x68 (number 2 a ++ number 2 c))
    → (al : ℕ) → Did b p s s₂ k o st st₄ d d₃ al 0
unfolding term
try-did b p s s₁ s₂ k o a c x r st st₁ st₂ st₃ st₄ d d₁ d₂ d₃ e y g f a₁ m c₁ q i h j al =
    form-did b p s s₂ k o 7 x st st₁ st₃ st₄ d d₂ d₃ al 0 (n_try_catch (num st) c) y g f
    (λ vw v. on-try b p (λ t. (ms : List Rec) × (es : List Err) × (term vw.top t (env_of vw b s k) (num st) al ≡ node p (n_try_catch (num st) c) ms es 0) × Put ms es st₁ st₃ d d₂) e (is vw v))
    (two-long 0x68 (num st) c) i h (j ∙ ap (λ (v : ℕ). overlay d₂ x (field 0x68 (number 2 v ++ number 2 c))) (a₁ ∙ n₁))
    (q.kept ∙ m.paid.kept) (q.same ∙ m.paid.same)
    (omega (arith, m.paid.nums, q.nums)) (omega (arith, m.paid.offs, q.offs)) (omega (arith, m.paid.errs, q.errs))
  where
    n₁ : num st₁ ≡ num st
    n₁ = off-num st st₁ (start_of o (off st) 7) f

    is : (vw : View) → Seen vw b s k → (u : Term) (w : OptTerm) → TryAt b p u w
        → (ms : List Rec) × (es : List Err) × (term vw.top (t_try_catch p u w) (env_of vw b s k) (num st) al ≡ node p (n_try_catch (num st) c) ms es 0) × Put ms es st₁ st₃ d d₂
    is vw v u w n =
        let E = env_of vw b s k in
        let A = term vw.top u E (suc (num st)) empty in
        let P : Put (slot A) A.errs st₁ st₂ d d₁ = subst (λ (j : ℕ). let q = term vw.top u E (suc j) empty in Put (slot q) q.errs st₁ st₂ d d₁) n₁ (m.is vw v u n.body).0 in
        let k₂ : num st₂ ≡ num st + size A = omega (arith, P.nums, n₁) in
        let z = seen-kept vw b s s₁ k m.paid.kept m.paid.same v in
        let B = or_empty vw.top w p E (suc (num st + size A)) in
        let Q : Put (slot B) B.errs st₂ st₃ d₁ d₂ =
        subst (λ (j : ℕ). let q = or_empty vw.top w p E (suc j) in Put (slot q) q.errs st₂ st₃ d₁ d₂) k₂
        (subst (λ (j : Env). let q = or_empty vw.top w p j (suc (num st₂)) in Put (slot q) q.errs st₂ st₃ d₁ d₂) z.1 (q.is vw z.0 w p n.catch)) in
        (slot A ++ slot B, A.errs ++ B.errs, ap (λ (j : ℕ). node p (n_try_catch (num st) j) (slot A ++ slot B) (A.errs ++ B.errs) 0) (sym (c₁ ∙ k₂)), put_then (slot A) (slot B) A.errs B.errs st₁ st₂ st₃ d d₁ d₂ P Q)

-- ---- a term or a call of `!empty`

pub some-ready : (b s : List ℕ) (k q z : ℕ) (st : State) → Ready b s k q z st → q < z → (x : OptTerm) × Row b (f_opt_term x rnil) q z → Ready b s k q (end_of b q) st × Stands b q
some-ready b s k q z st y l g =
    on-some-term b q z (λ _. Ready b s k q (end_of b q) st × Stands b q) l (λ t a e. (subst (λ (x : ℕ). Ready b s k q x st) (sym e) y, (t, a))) g.0 g.1

pub some-empty : (b : List ℕ) (q z : ℕ) (s s₁ : List ℕ) (k r : ℕ) (st st₁ : State) (d d₁ : List ℕ) → q < z → (x : OptTerm) × Row b (f_opt_term x rnil) q z
    → Laid b q s s₁ k st st₁ d d₁ 0 r → OrEmpty b q z s s₁ k st st₁ d d₁
unfolding term
some-empty b q z s s₁ k r st st₁ d d₁ l g m =
    record {
      is = λ vw v x p h. on-some-term b q z (λ u. let A = or_empty vw.top u p (env_of vw b s k) (suc (num st)) in Put (slot A) A.errs st st₁ d d₁) l (λ t a _. (m.is vw v t a).0) x h;
      kept = m.paid.kept;
      same = m.paid.same;
      nums = omega (arith, m.paid.nums, last);
      offs = omega (arith, m.paid.offs, last);
      errs = omega (arith, m.paid.errs, last);
    }
  where
    last : end_of b q ≡ z
    last = on-some-term b q z (λ _. end_of b q ≡ z) l (λ t a e. e) g.0 g.1

pub none-empty : (b : List ℕ) (q z : ℕ) (s : List ℕ) (k : ℕ) (st st₁ : State) (d d₁ : List ℕ) → z ≤ q → (x : OptTerm) × Row b (f_opt_term x rnil) q z
    → ((vw : View) (k p : ℕ) → Seen vw b s k → let m = called vw.top p (ascii "!empty") 0 0 (bare []) (env_of vw b s k) empty in Put (slot m) m.errs st st₁ d d₁)
    → num st₁ ≡ num st + 1 → off st₁ ≤ off st + 10 → ers st₁ ≤ ers st + 11
    → OrEmpty b q z s s k st st₁ d d₁
unfolding term empty_out
none-empty b q z s k st st₁ d d₁ l g f n o e =
    record {
      is = λ vw v x p i. on-no-term b q z (λ u. let A = or_empty vw.top u p (env_of vw b s k) (suc (num st)) in Put (slot A) A.errs st st₁ d d₁) l (λ _. f vw k p v) x i;
      kept = refl;
      same = refl;
      nums = omega (arith, n, last);
      offs = omega (arith, o, last);
      errs = omega (arith, e, last);
    }
  where
    last : q ≡ z
    last = on-no-term b q z (λ _. q ≡ z) l (λ i. i) g.0 g.1

-- ---- the places as the code has them

pub arr-at : (b s : List ℕ) (k p z : ℕ) {st : State} → z ≡ end_of b p
    → Ready b s k (p + 3) (end_of b p) st × (end_of b p ≤ length b) × ((x : OptTerm) × Row b (f_opt_term x rnil) (p + 3) (end_of b p))
    → Ready b s k (p + 3) z st × ((x : OptTerm) × Row b (f_opt_term x rnil) (p + 3) z)
arr-at b s k p z {st} e w = subst (λ (x : ℕ). Ready b s k (p + 3) x st × ((u : OptTerm) × Row b (f_opt_term u rnil) (p + 3) x)) (sym e) (w.0, w.2)

pub arr-or : (b : List ℕ) (p z : ℕ) (s s₁ : List ℕ) (k : ℕ) (st st₁ : State) (d : List ℕ) {d₁ : List ℕ} → z ≡ end_of b p → OrEmpty b (p + 3) z s s₁ k st st₁ d d₁ → OrEmpty b (p + 3) (end_of b p) s s₁ k st st₁ d d₁
arr-or b p z s s₁ k st st₁ d {d₁} e m = subst (λ (x : ℕ). OrEmpty b (p + 3) x s s₁ k st st₁ d d₁) e m

pub at_place : (b s : List ℕ) (k q z : ℕ) {st : State} → q ≡ z → Ready b s k z (end_of b z) st × Stands b z → Ready b s k q (end_of b q) st × Stands b q
at_place b s k q z {st} e w = subst (λ (x : ℕ). Ready b s k x (end_of b x) st × Stands b x) (sym e) w

pub laid-at : (b : List ℕ) (q z : ℕ) (s s₁ : List ℕ) (k : ℕ) (st st₁ : State) (d d₁ : List ℕ) (al r : ℕ) → q ≡ z → Laid b q s s₁ k st st₁ d d₁ al r → Laid b z s s₁ k st st₁ d d₁ al r
laid-at b q z s s₁ k st st₁ d d₁ al r e m = subst (λ (x : ℕ). Laid b x s s₁ k st st₁ d d₁ al r) e m

pub catch-at : (b s : List ℕ) (k p q z : ℕ) {st : State} → q ≡ end_of b (p + 3) → z ≡ end_of b p
    → Ready b s k (end_of b (p + 3)) (end_of b p) st × (end_of b p ≤ length b) × ((x : OptTerm) × Row b (f_opt_term x rnil) (end_of b (p + 3)) (end_of b p))
    → Ready b s k q z st × ((x : OptTerm) × Row b (f_opt_term x rnil) q z)
catch-at b s k p q z {st} e f w =
    subst (λ (x : ℕ). Ready b s k x z st × ((u : OptTerm) × Row b (f_opt_term u rnil) x z)) (sym e)
    (subst (λ (x : ℕ). Ready b s k (end_of b (p + 3)) x st × ((u : OptTerm) × Row b (f_opt_term u rnil) (end_of b (p + 3)) x)) (sym f) (w.0, w.2))

pub catch-or : (b : List ℕ) (p q z : ℕ) (s s₁ : List ℕ) (k : ℕ) (st st₁ : State) (d d₁ : List ℕ) → q ≡ end_of b (p + 3) → z ≡ end_of b p → OrEmpty b q z s s₁ k st st₁ d d₁ → OrEmpty b (end_of b (p + 3)) (end_of b p) s s₁ k st st₁ d d₁
catch-or b p q z s s₁ k st st₁ d d₁ e f m =
    subst (λ (x : ℕ). OrEmpty b (end_of b (p + 3)) x s s₁ k st st₁ d d₁) f (subst (λ (x : ℕ). OrEmpty b x z s s₁ k st st₁ d d₁) e m)
