-- Fields one after the other, as the code passes them: how many there are, and parameters or definitions that a term follows. Assumes nothing.
use mathlib.Core.Path.{◌≡◌, refl, sym, ap, subst, ◌∙◌}
use mathlib.Core.List.{List, [], ◌∷◌}
use Prim.Native.Nat.{ℕ, zero, suc, ◌+◌, ◌*◌, ◌≤◌, ◌<◌}
use native.Mathlib.Omega.{arith}
use lib.ListN.{length, get_or}
use Rattle.tree.specs.Rose.{Roses, rnil, rcons, end_of, tag_of, At, Row, row-le}
use Rattle.tree.specs.Tree.{Name, Term, Defs, Def, ds_nil, ds_cons, def}
use Rattle.tree.specs.Tree.{t_id, t_recurse, t_arr, t_neg, t_label, t_break, t_if_then_else, t_var, t_call, t_def, t_num, t_try_catch, t_fold, t_pipe, t_bin_op, t_path, t_str, t_obj}
use Rattle.tree.specs.Form.{f_name, f_names, f_term, f_defs, f_def}
use Rattle.tree.proofs.Form.{term-place}
use Rattle.reads.specs.Parts.{row-tag, row_fits, row-rest}
use Rattle.reads.specs.Tagged.{Tagged}
use Rattle.reads.specs.Bytes.{many, after, TermAt}
use Rattle.reads.specs.Places.{GivesField, turned, row-over}
use Rattle.std.specs.Iterator.{Drains}
use Rattle.std.specs.Prelude.{None}
use Rattle.tree.specs.declared.places.Places.{Places}

-- ---- how many

-- at p < z a field stands, and the rest after it
pub row_step : (b : List ℕ) (rs : Roses) (p z : ℕ) → Row b rs p z → p < z → (rest : Roses) × Row b rest (end_of b p) z × (many rs ≡ suc (many rest))
unfolding At many
row_step b rnil p z h l = absurd (omega arith)
row_step b (rcons r rs) p z h l = (rs, h.2, refl)

pub row-none : (b : List ℕ) (rs : Roses) (p z : ℕ) → Row b rs p z → z ≤ p → many rs ≡ 0
unfolding At many
row-none b rnil p z h l = refl
row-none b (rcons r rs) p z h l = absurd (omega (arith, row-le b rs (end_of b p) z h.2))

-- an iterator gives as many places as fields stand, each of three bytes or more
pub gives_all : (s : Places) (xs : List ℕ) → Drains GivesField s xs → (rs : Roses) → Row s.tree.now rs s.at s.end → (length xs ≡ many rs) × (s.at + 3 * length xs ≤ s.end)
gives_all s [] d rs h =
    let l : s.end ≤ s.at = turned s d.0 (refl, refl) (subst (λ (u : Places). GivesField u None d.0) (sym d.1.1) d.1.2) in
    (sym (row-none s.tree.now rs s.at s.end h l), omega (arith, row-le s.tree.now rs s.at s.end h))
gives_all s (p ∷ xs) d rs h =
    let t = d.1.1.0 in
    let g = d.1.1.1 in
    let k = row_step s.tree.now rs s.at s.end h (omega (arith, g.2.0, g.2.1)) in
    let e = subst (λ (n : ℕ). t.at ≡ end_of s.tree.now n) g.2.0 g.2.2 in
    let i = gives_all t xs (d.0, (d.1.0, d.1.1.2, d.1.2)) k.0 (row-over s.tree.now s.end (end_of s.tree.now s.at) t k.0 (g.0, g.1) e k.1) in
    (omega (arith, i.0, k.2), omega (arith, i.1, g.1, e))

-- ---- tags

pub term-tag : (t : Term) → 0xA0 ≤ tag_of (f_term t)
unfolding f_term
term-tag (t_id p) = omega arith
term-tag (t_recurse p) = omega arith
term-tag (t_arr p o) = omega arith
term-tag (t_neg p t) = omega arith
term-tag (t_label p x t) = omega arith
term-tag (t_break p x) = omega arith
term-tag (t_if_then_else p q c t bs) = omega arith
term-tag (t_var p x) = omega arith
term-tag (t_call p f ts) = omega arith
term-tag (t_def p ds t) = omega arith
term-tag (t_num p x) = omega arith
term-tag (t_try_catch p t o) = omega arith
term-tag (t_fold p f t x ts) = omega arith
term-tag (t_pipe p t q x u) = omega arith
term-tag (t_bin_op p t q x u) = omega arith
term-tag (t_path p t ps) = omega arith
term-tag (t_str p f ps) = omega arith
term-tag (t_obj p es) = omega arith

-- ---- fields of one tag

tagged-within : (b : List ℕ) (k n q : ℕ) → Tagged b k n q → q < length b
unfolding Tagged
tagged-within b k zero q h = h.0
tagged-within b k (suc n) q h = omega (arith, h.1)

tagged-step : (b : List ℕ) (k n q : ℕ) → Tagged b k n q → get_or b q 0 ≡ k
    → (m : ℕ) × Tagged b k m (end_of b q) × (end_of b q ≤ length b) × (n ≡ suc m) × (after b n q ≡ after b m (end_of b q))
unfolding Tagged after
tagged-step b k zero q h e = absurd (h.1 e)
tagged-step b k (suc n) q h e = (n, h.2, h.1, refl, refl)

tagged-none : (b : List ℕ) (k n q : ℕ) → Tagged b k n q → (get_or b q 0 ≡ k → ⊥) → (n ≡ 0) × (after b n q ≡ q)
unfolding Tagged after
tagged-none b k zero q h e = (refl, refl)
tagged-none b k (suc n) q h e = absurd (e h.0)

-- i of them passed from q on: p is reached
pub record Passing (b : List ℕ) (k q i p : ℕ) : Type 0 where
  pub goes : (n : ℕ) → Tagged b k n q → (m : ℕ) × Tagged b k m p × (n ≡ i + m) × (after b n q ≡ after b m p)
  pub few : i ≤ p

module _ (b : List ℕ) (k q : ℕ) where
  pub pass-start : Passing b k q 0 q
  pass-start = record { goes = λ n h. (n, h, omega arith, refl); few = omega arith }

  pub pass-within : (i p : ℕ) → Passing b k q i p → (n : ℕ) × Tagged b k n q → p < length b
  pass-within i p g h = let s = g.goes h.0 h.1 in tagged-within b k s.0 p s.1

  pub pass_fits : (i p : ℕ) → Passing b k q i p → (n : ℕ) × Tagged b k n q → get_or b p 0 ≡ k → end_of b p ≤ length b
  pass_fits i p g h e = let s = g.goes h.0 h.1 in (tagged-step b k s.0 p s.1 e).2

  pub pass-more : (i p r : ℕ) → Passing b k q i p → get_or b p 0 ≡ k → r ≡ end_of b p → Passing b k q (i + 1) r
  pass-more i p r g e f = record {
    goes = λ n h.
        let s = g.goes n h in
        let t = tagged-step b k s.0 p s.1 e in
        (t.0, subst (λ (x : ℕ). Tagged b k t.0 x) (sym f) t.1, omega (arith, s.2, t.3), s.3 ∙ t.4 ∙ ap (λ (x : ℕ). after b t.0 x) (sym f));
    few = omega (arith, g.few, f);
  }

  pub pass-done : (i p : ℕ) → Passing b k q i p → (get_or b p 0 ≡ k → ⊥) → (n : ℕ) → Tagged b k n q → (i ≡ n) × (p ≡ after b n q)
  pass-done i p g e n h =
      let s = g.goes n h in
      let t = tagged-none b k s.0 p s.1 e in
      (omega (arith, s.2, t.0), sym (s.3 ∙ t.1))

-- ---- parameters and definitions, and the term behind them

term-next : (b : List ℕ) (k : ℕ) (t : Term) (p z : ℕ) → k < 0xA0 → Row b (rcons (f_term t) rnil) p z → Tagged b k 0 p
unfolding Tagged
term-next b k t p z l h = (omega (arith, row_fits b (f_term t) rnil p z h), λ e. omega (arith, e, l, row-tag b (f_term t) rnil p z h, term-tag t))

pub names-tagged : (b : List ℕ) (xs : List Name) (t : Term) (p z : ℕ) → Row b (f_names 0x91 xs (rcons (f_term t) rnil)) p z → Tagged b 0x91 (length xs) p
unfolding f_names Tagged
names-tagged b [] t p z h = term-next b 0x91 t p z (omega arith) h
names-tagged b (x ∷ xs) t p z h =
    let r = f_names 0x91 xs (rcons (f_term t) rnil) in
    (row-tag b (f_name 0x91 x) r p z h, row_fits b (f_name 0x91 x) r p z h, names-tagged b xs t (end_of b p) z (row-rest b (f_name 0x91 x) r p z h))

def-tag : (d : Def) → tag_of (f_def d) ≡ 0x8C
unfolding f_term
def-tag (def p f xs t) = refl

pub defs_many : Defs → ℕ
defs_many ds_nil = 0
defs_many (ds_cons d ds) = suc (defs_many ds)

pub defs-tagged : (b : List ℕ) (ds : Defs) (t : Term) (p z : ℕ) → Row b (f_defs ds (rcons (f_term t) rnil)) p z
    → Tagged b 0x8C (defs_many ds) p × TermAt b t (after b (defs_many ds) p)
unfolding f_term At Tagged after defs_many
defs-tagged b ds_nil t p z h = (term-next b 0x8C t p z (omega arith) h, (h.1, sym (term-place t) ∙ h.0))
defs-tagged b (ds_cons d ds) t p z h =
    let r = f_defs ds (rcons (f_term t) rnil) in
    let s = defs-tagged b ds t (end_of b p) z (row-rest b (f_def d) r p z h) in
    ((row-tag b (f_def d) r p z h ∙ def-tag d, row_fits b (f_def d) r p z h, s.0), s.1)
