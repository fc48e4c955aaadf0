-- Parameters, one after the other, and the definition that they are of. Assumes nothing.
use Prim.Native.Nat.{ℕ, suc, ◌+◌, ◌-◌, ◌*◌, ◌≤◌, ◌<◌}
use native.Mathlib.Omega.{arith}
use mathlib.Core.Path.{◌≡◌, refl, sym, ap, subst, ◌∙◌}
use mathlib.Core.Bool.{Bool, true, false, cond}
use mathlib.Core.List.{List, [], ◌∷◌}
use lib.ListN.{length, get_or, set, length-set}
use Rattle.tree.specs.Rose.{end_of, text_of}
use Rattle.tree.specs.Tree.{Name}
use Rattle.rules.specs.Names.{is_var}
use Rattle.rules.specs.Tails.{parent}
use Rattle.rules.specs.Rows.{Row, var, arg, filter, Env, count, level, param, params, filter_of, inside}
use Rattle.reads.specs.Bytes.{name_at, names_of, Fields}
use Rattle.cells.specs.Cells.{pushed, bound_as, View, env_of, Seen, Opened, Room, Pushing}
use Rattle.rows.specs.Kept.{heads-below}
use Rattle.rows.specs.Fields.{length-pushed}
use Rattle.rows.specs.Pushed.{binding, seen-bound, seen-parent, bind-ready, push-ready, fields-few, counts-small, pushing-later}
use Rattle.rows.specs.Opened.{opened-none, opened-then, opened-bound, opened-parent}

-- ---- kinds

kind-small : (t : Bool) → cond t 0 2 < 3
kind-small true = omega arith
kind-small false = omega arith

binding-param : (t : Bool) (x : Name) → binding (cond t 0 2) x ≡ cond t (var x) (arg x)
binding-param true x = refl
binding-param false x = refl

-- ---- the loop

-- i of them are rows, and the next stands at p
pub record Passing (b s₀ : List ℕ) (k q a : ℕ) (s : List ℕ) (i p : ℕ) : Type 0 where
  pub low : i ≤ a
  pub fields : Fields b (a - i) p
  pub seen : (vw : View) → Seen vw b s₀ k → Seen vw b s (k + i)
  pub goes : (vw : View) → Seen vw b s₀ k → params (names_of b (a - i) p) (env_of vw b s (k + i)) ≡ params (names_of b a q) (env_of vw b s₀ k)
  pub opened : Opened s₀ s k (k + i)

pub passing-start : (b s : List ℕ) (k q a : ℕ) → Fields b a q → Passing b s k q a s 0 q
passing-start b s k q a f =
    let e : a - 0 ≡ a = omega arith in
    let z : k + 0 ≡ k = omega arith in
    record {
      low = omega arith;
      fields = rw e f;
      seen = λ vw g. rw z g;
      goes = λ vw g. rw (e, z) refl;
      opened = rw z (opened-none s k);
    }

-- the next one lies within the bytes
pub passing-name : (b s₀ : List ℕ) (k q a : ℕ) (s : List ℕ) (i p : ℕ) → Passing b s₀ k q a s i p → i < a → end_of b p ≤ length b
unfolding Fields
passing-name b s₀ k q a s i p w h = let e : a - i ≡ suc (a - (i + 1)) = omega arith in (subst (λ (n : ℕ). Fields b n p) e w.fields).0

pub passing-ready : (b s₀ : List ℕ) (k q a : ℕ) (s : List ℕ) (i p kd : ℕ) → Pushing b s₀ k q → 4 * (k + a) ≤ length s₀ → Passing b s₀ k q a s i p → i < a → kd ≡ cond (is_var (text_of b p)) 0 2
    → Room s (k + i) × (end_of b p ≤ length b) × (length b ≤ 32768) × (kd < 3) × (0 < 65536) × (get_or s 1 0 < 65536)
passing-ready b s₀ k q a s i p kd g r w h e =
    bind-ready g.view b s (k + i) kd p 0 (w.seen g.view g.seen) g.small (omega (arith, w.opened.same)) (passing-name b s₀ k q a s i p w h)
    (subst (λ (x : ℕ). x < 3) (sym e) (kind-small (is_var (text_of b p)))) (omega arith)

pub passing-more : (b s₀ : List ℕ) (k q a : ℕ) (s s' : List ℕ) (i p p' kd : ℕ) → Pushing b s₀ k q → 4 * (k + a) ≤ length s₀ → Passing b s₀ k q a s i p → i < a
    → kd ≡ cond (is_var (text_of b p)) 0 2 → s' ≡ bound_as (text_of b p) s (k + i) kd p 0 → p' ≡ end_of b p → Passing b s₀ k q a s' (i + 1) p'
unfolding Fields names_of
passing-more b s₀ k q a s s' i p p' kd g r w h ek es ep =
    let n : a - i ≡ suc (a - (i + 1)) = omega arith in
    let j : k + (i + 1) ≡ k + i + 1 = omega arith in
    let f : Fields b (suc (a - (i + 1))) p = subst (λ (x : ℕ). Fields b x p) n w.fields in
    let kd-low : kd < 3 = subst (λ (x : ℕ). x < 3) (sym ek) (kind-small (is_var (text_of b p))) in
    let room : 4 * (k + i) + 4 ≤ length s = omega (arith, w.opened.same) in
    let t : List ℕ = bound_as (text_of b p) s (k + i) kd p 0 in
    let bd : (vw : View) → Seen vw b s₀ k → Seen vw b t (k + i + 1) × (env_of vw b t (k + i + 1) ≡ binding kd (name_at b p) ∷ env_of vw b s (k + i)) =
    λ vw v. seen-bound vw b s (k + i) kd p 0 (w.seen vw v) g.small room f.0 kd-low (omega arith) in
    let same_row : binding kd (name_at b p) ≡ cond (is_var (text_of b p)) (var (name_at b p)) (arg (name_at b p)) = ap (λ (x : ℕ). binding x (name_at b p)) ek ∙ binding-param (is_var (text_of b p)) (name_at b p) in
    rw (es, ep)
    (record {
      low = omega arith;
      fields = f.1;
      seen = λ vw v. rw j (bd vw v).0;
      goes = λ vw v.
          rw j
          (ap (λ (e : Env). params (names_of b (a - (i + 1)) (end_of b p)) e) ((bd vw v).1 ∙ ap (λ (x : Row). x ∷ env_of vw b s (k + i)) same_row)
          ∙ ap (λ (x : ℕ). params (names_of b x p) (env_of vw b s (k + i))) (sym n) ∙ w.goes vw v);
      opened = rw j
          (opened-then s₀ s t k (k + i) (k + i + 1) (omega (arith, heads-below g.view b s₀ k g.seen)) w.opened
          (opened-bound g.view b s (k + i) kd p 0 (w.seen g.view g.seen) g.small room f.0 kd-low (omega arith)));
    })

pub passing-done : (b s₀ : List ℕ) (k q a : ℕ) (s : List ℕ) (i p : ℕ) → Passing b s₀ k q a s i p → a ≤ i
    → ((vw : View) → Seen vw b s₀ k → Seen vw b s (k + a) × (env_of vw b s (k + a) ≡ params (names_of b a q) (env_of vw b s₀ k))) × Opened s₀ s k (k + a)
unfolding names_of
passing-done b s₀ k q a s i p w h =
    let l = w.low in
    let e : i ≡ a = omega arith in
    let z : a - i ≡ 0 = omega arith in (
      λ vw v. (
        subst (λ (x : ℕ). Seen vw b s (k + x)) e (w.seen vw v),
        ap (λ (x : ℕ). env_of vw b s (k + x)) (sym e) ∙ ap (λ (x : ℕ). params (names_of b x p) (env_of vw b s (k + i))) (sym z) ∙ w.goes vw v,
      ),
      subst (λ (x : ℕ). Opened s₀ s k (k + x)) e w.opened,
    )

-- ---- the definition

count-params : (xs : List Name) (e : Env) → count e ≤ count (params xs e)
count-params [] e = omega arith
count-params (x ∷ xs) e = go (is_var x.text) (count-params xs (param x e))
  where
    one : (t : Bool) → count e ≤ count (cond t (var x) (arg x) ∷ e)
    one true = omega arith
    one false = omega arith

    go : (t : Bool) → count (param x e) ≤ count (params xs (param x e)) → count e ≤ count (params xs (param x e))
    go t h = let w = one (is_var x.text) in omega arith

level-params : (xs : List Name) (e : Env) → level (params xs e) ≡ level e
level-params [] e = refl
level-params (x ∷ xs) e = level-params xs (param x e) ∙ one (is_var x.text)
  where
    one : (t : Bool) → level (cond t (var x) (arg x) ∷ e) ≡ level e
    one true = refl
    one false = refl

-- the parameters are in view, from z on
abbrev pub Params : List ℕ → List ℕ → List ℕ → ℕ → ℕ → ℕ → Type 0
Params b s s₁ k z a =
    ((vw : View) → Seen vw b s k → Seen vw b s₁ (k + a) × (env_of vw b s₁ (k + a) ≡ params (names_of b a z) (env_of vw b s k))) × Opened s s₁ k (k + a)

counts-after : (b s s₁ : List ℕ) (k z a : ℕ) (vw : View) → Seen vw b s k → Params b s s₁ k z a → (get_or s 1 0 ≤ get_or s₁ 1 0) × (get_or s 2 0 ≡ get_or s₁ 2 0)
counts-after b s s₁ k z a vw g p =
    let w = p.0 vw g in
    let e : Env = env_of vw b s k in
    let c : count (env_of vw b s₁ (k + a)) ≡ count (params (names_of b a z) e) = ap (λ (x : Env). count x) w.1 in
    let l : level (env_of vw b s₁ (k + a)) ≡ level (params (names_of b a z) e) = ap (λ (x : Env). level x) w.1 in
    (omega (arith, g.view, w.0.view, count-params (names_of b a z) e), g.above ∙ sym (level-params (names_of b a z) e) ∙ sym l ∙ sym w.0.above)

pub enter-push : (b s s₁ : List ℕ) (k q z a n c l : ℕ) → Pushing b s k q → end_of b q ≤ length b → Fields b a (end_of b q) → 4 * (k + a + 1) ≤ length s → n < 65536 → z ≡ end_of b q
    → c ≡ get_or s 1 0 → l ≡ get_or s 2 0 → Params b s s₁ k z a
    → Room s₁ (k + a) × (end_of b q ≤ length b) × (length b ≤ 32768) × (3 < 6) × (a < 65536) × (n < 65536) × (c < 65536) × (l < 16384)
enter-push b s s₁ k q z a n c l g name fs room num ez ec el p =
    let w = counts-after b s s₁ k z a g.view g.seen p in
    push-ready g.view b s₁ (k + a) 3 q a n c l (p.0 g.view g.seen).0 g.small (omega (arith, p.1.same)) name (omega arith)
    (omega (arith, fields-few b a (end_of b q) fs name, g.small)) num (omega (arith, w.0)) (omega (arith, w.1))

pub enter-done : (b s s₁ s₂ : List ℕ) (k q z a n c l : ℕ) → Pushing b s k q → end_of b q ≤ length b → Fields b a (end_of b q) → 4 * (k + a + 1) ≤ length s → n < 65536 → z ≡ end_of b q
    → c ≡ get_or s 1 0 → l ≡ get_or s 2 0 → Params b s s₁ k z a → s₂ ≡ pushed (text_of b q) s₁ (k + a) 3 q a n c l 0
    → ((vw : View) → Seen vw b s k → Seen vw b (set s₂ 2 (l + 1)) (k + a + 1) × (env_of vw b (set s₂ 2 (l + 1)) (k + a + 1) ≡ inside (name_at b q) (names_of b a (end_of b q)) n (env_of vw b s k)))
    × Opened s (set (set s₂ 2 (l + 1)) 2 (get_or s 2 0)) k (k + a + 1)
enter-done b s s₁ s₂ k q z a n c l g name fs room num ez ec el p es =
    let ha : a < 65536 = omega (arith, fields-few b a (end_of b q) fs name, g.small) in
    let r : 4 * (k + a) + 4 ≤ length s₁ = omega (arith, p.1.same) in
    rw es (
      λ vw v.
          let e : Env = env_of vw b s k in
          let w = p.0 vw v in
          let y = seen-parent vw b s₁ (k + a) q a n c l e w.0 g.small r name fs ha num (ec ∙ v.view) (el ∙ v.above)
          (subst (λ (x : Env). count e ≤ count x) (sym w.1) (count-params (names_of b a z) e)) (ap (λ (x : Env). level x) w.1 ∙ level-params (names_of b a z) e) in
          (y.0, y.1 ∙ ap (λ (d : Env). filter (filter_of (name_at b q) (names_of b a (end_of b q)) n e parent) ∷ d) (w.1 ∙ ap (λ (x : ℕ). params (names_of b a x) e) ez)),
      opened-then s s₁ (set (set (pushed (text_of b q) s₁ (k + a) 3 q a n c l 0) 2 (l + 1)) 2 (get_or s 2 0)) k (k + a) (k + a + 1) (omega (arith, heads-below g.view b s k g.seen)) p.1
          (opened-parent g.view b s₁ (k + a) q a n c l (get_or s 2 0) (p.0 g.view g.seen).0 g.small r name fs ha num (counts-after b s s₁ k z a g.view g.seen p).1),
    )

pub enter-params : (b s : List ℕ) (k q z a : ℕ) → Pushing b s k q → end_of b q ≤ length b → Fields b a (end_of b q) → 4 * (k + a + 1) ≤ length s → z ≡ end_of b q
    → Pushing b s k z × Fields b a z × (4 * (k + a) ≤ length s)
enter-params b s k q z a g name fs room ez = (pushing-later b s k q z g (omega arith), subst (λ (x : ℕ). Fields b a x) (sym ez) fs, omega arith)

pub enter-level : (b s : List ℕ) (k q a : ℕ) → Pushing b s k q → 4 * (k + a + 1) ≤ length s → get_or s 2 0 < 16384
enter-level b s k q a g room = (counts-small g.view b s k g.seen (omega arith)).1
