-- A term with its number reserved, and the term of each tag. Assumes nothing.
use Rattle.std.specs.Prelude.{ℕ, suc, ◌+◌, ◌≤◌, ◌<◌, ◌≡◌, List, get_or}
use Rattle.std.proofs.Common.{arith, add-one, subst, ◌∙◌, inl}
use Rattle.tree.specs.Rose.{end_of}
use Rattle.rules.specs.Rules.{term}
use Rattle.reads.specs.Shapes.{term-tag}
use Rattle.puts.specs.declared.state.State.{State}
use Rattle.puts.specs.State.{num, off, late, Own, with_num}
use Rattle.puts.specs.Rooms.{slot-own}
use Rattle.cells.specs.Cells.{env_of}
use Rattle.compiler.specs.Post.{Ready, Stands, Placed, Did, Laid}
use Rattle.compiler.specs.Common.{num-num, num-off, num-ers}

-- its own number is reserved: it is ready at the place behind p
pub number-ready : (b s : List ℕ) (k p o : ℕ) (st st₁ : State) → Ready b s k p (end_of b p) st → o ≡ off st → st₁ ≡ with_num st (num st + 1) → Ready b s k (p + 1) (end_of b p) st₁ × Placed o st₁
number-ready b s k p o st st₁ y g e = (
  record {
    small = y.small;
    view = y.view;
    seen = y.seen;
    order = omega arith;
    within = y.within;
    spare = omega (arith, y.spare);
    nums = omega (arith, y.nums, num-num st st₁ (num st + 1) e);
    offs = omega (arith, y.offs, num-off st st₁ (num st + 1) e);
    errs = omega (arith, y.errs, num-ers st st₁ (num st + 1) e);
  },
  inl (omega (arith, g, num-off st st₁ (num st + 1) e)),
)

pub laid_of : (b : List ℕ) (p : ℕ) (s s₁ : List ℕ) (k o : ℕ) (st st₁ st₂ : State) (d d₁ : List ℕ) (al r : ℕ) → Ready b s k p (end_of b p) st → Stands b p → o ≡ off st → st₁ ≡ with_num st (num st + 1)
    → Did b p s s₁ k o st₁ st₂ d d₁ al r → Laid b p s s₁ k st st₂ d d₁ al r
laid_of b p s s₁ k o st st₁ st₂ d d₁ al r y g i e m =
    record {
      is = λ vw v t a.
          let q = term vw.top t (env_of vw b s k) (suc (num st)) al in
          let h : Own q o st₁ st₂ d d₁ × (r ≡ q.tail) =
          subst (λ (n : ℕ). let u = term vw.top t (env_of vw b s k) n al in Own u o st₁ st₂ d d₁ × (r ≡ u.tail)) (num-num st st₁ (num st + 1) e ∙ add-one (num st)) (m.is vw v t a) in
          (slot-own q st st₁ st₂ d d₁ low e (subst (λ (n : ℕ). Own q n st₁ st₂ d d₁) i h.0), h.1);
      paid =
          record {
            kept = m.paid.kept;
            same = m.paid.same;
            nums = omega (arith, m.paid.nums, num-num st st₁ (num st + 1) e);
            offs = omega (arith, m.paid.offs, num-off st st₁ (num st + 1) e);
            errs = omega (arith, m.paid.errs, num-ers st st₁ (num st + 1) e);
          };
    }
  where
    low : off st < late
    low = omega (arith, y.offs)

above : (x a : ℕ) → a ≤ x → (x ≡ a → ⊥) → a + 1 ≤ x
above x a h n = omega (arith, h)

-- the tag that is left
pub last-tag : (b : List ℕ) (p : ℕ) → Stands b p → (get_or b p 0 ≡ 0xA0 → ⊥) → (get_or b p 0 ≡ 0xA1 → ⊥) → (get_or b p 0 ≡ 0xA2 → ⊥) → (get_or b p 0 ≡ 0xA3 → ⊥) → (get_or b p 0 ≡ 0xA4 → ⊥)
    → (get_or b p 0 ≡ 0xA5 → ⊥) → (get_or b p 0 ≡ 0xA6 → ⊥) → (get_or b p 0 ≡ 0xA7 → ⊥) → (get_or b p 0 ≡ 0xA8 → ⊥) → (get_or b p 0 ≡ 0xA9 → ⊥) → (get_or b p 0 ≡ 0xAA → ⊥)
    → (get_or b p 0 ≡ 0xAB → ⊥) → (get_or b p 0 ≡ 0xAC → ⊥) → (get_or b p 0 ≡ 0xAD → ⊥) → (get_or b p 0 ≡ 0xAE → ⊥) → (get_or b p 0 ≡ 0xAF → ⊥) → get_or b p 0 ≡ 0xB0
last-tag b p g n₀ n₁ n₂ n₃ n₄ n₅ n₆ n₇ n₈ n₉ nₐ nb nc nd ne nf =
    let x = get_or b p 0 in
    let t = term-tag b g.0 p g.1 in
    let h0 : 0xA1 ≤ x = above x 0xA0 t.0 n₀ in
    let h1 : 0xA2 ≤ x = above x 0xA1 (h0) n₁ in
    let h2 : 0xA3 ≤ x = above x 0xA2 (h1) n₂ in
    let h3 : 0xA4 ≤ x = above x 0xA3 (h2) n₃ in
    let h4 : 0xA5 ≤ x = above x 0xA4 (h3) n₄ in
    let h5 : 0xA6 ≤ x = above x 0xA5 (h4) n₅ in
    let h6 : 0xA7 ≤ x = above x 0xA6 (h5) n₆ in
    let h7 : 0xA8 ≤ x = above x 0xA7 (h6) n₇ in
    let h8 : 0xA9 ≤ x = above x 0xA8 (h7) n₈ in
    let h9 : 0xAA ≤ x = above x 0xA9 (h8) n₉ in
    let h10 : 0xAB ≤ x = above x 0xAA (h9) nₐ in
    let h11 : 0xAC ≤ x = above x 0xAB (h10) nb in
    let h12 : 0xAD ≤ x = above x 0xAC (h11) nc in
    let h13 : 0xAE ≤ x = above x 0xAD (h12) nd in
    let h14 : 0xAF ≤ x = above x 0xAE (h13) ne in
    let h15 : 0xB0 ≤ x = above x 0xAF (h14) nf in
    omega (arith, h15, t.1)
