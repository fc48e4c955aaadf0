-- Records that hold a pattern: a Pipe, a fold. Assumes nothing.
use Prim.Native.Nat.{ℕ, ◌+◌, ◌-◌, ◌≤◌, ◌<◌}
use native.Mathlib.Omega.{arith}
use mathlib.Core.Path.{◌≡◌, refl, ap, ◌∙◌}
use mathlib.Core.Bool.{Bool, true, false, cond}
use mathlib.Core.List.{List, [], ◌∷◌, ◌++◌, append_assoc}
use mathlib.Core.Option.{some}
use lib.Dec.{eqb}
use lib.ListN.{length, length-append}
use borrow.Author.Tests.{eqb-true, eq-eqb, ne_eqb}
use Rattle.fields.specs.Number.{number}
use Rattle.fields.specs.Field.{field}
use Rattle.fields.specs.Room.{overlay}
use Rattle.puts.specs.Runs.{run-then}
use Rattle.tree.specs.Tree.{Pattern}
use Rattle.rules.specs.Table.{n_pipe}
use Rattle.rules.specs.Listing.{pat_bytes, opt_pat_bytes, fold_bytes, node_bytes}
use Rattle.reads.specs.Widths.{pat_width, fold_width}
use Rattle.cells.specs.Notes.{pat_at}
use Rattle.records.specs.Patterns.{PatIs, folding_of, fold_node}
use Rattle.records.proofs.Pats.{pat-width}

module _ (s : List ℕ) (x : Pattern) (k : ℕ) where
  abbrev bytes : List ℕ
  bytes = pat_bytes 2 (pat_at s x k)

  -- the head and the pattern
  held : (tag a o w e k' : ℕ) (d d₁ d₂ : List ℕ) → d₁ ≡ overlay d o (tag ∷ (number 2 (w - 3) ++ number 2 a)) → PatIs s x k (o + 5) d₁ d₂ e k'
      → d₂ ≡ overlay d o ((tag ∷ (number 2 (w - 3) ++ number 2 a)) ++ bytes)
  unfolding number
  held tag a o w e k' d d₁ d₂ f g = run-then d o (tag ∷ (number 2 (w - 3) ++ number 2 a)) bytes (o + 5) d₁ d₂ refl f g.room

  pub piped-put : (a b o w e k' : ℕ) (d d₁ d₂ d₃ : List ℕ) → w ≡ 7 + pat_width x → d₁ ≡ overlay d o (0x5E ∷ (number 2 (w - 3) ++ number 2 a)) → PatIs s x k (o + 5) d₁ d₂ e k'
      → d₃ ≡ overlay d₂ e (number 2 b) → d₃ ≡ overlay d o (node_bytes 2 (n_pipe a (some (pat_at s x k)) b))
  unfolding number field opt_pat_bytes
  piped-put a b o w e k' d d₁ d₂ d₃ m f g h =
      let n : w - 3 ≡ length (number 2 a ++ (bytes ++ number 2 b)) = omega (arith, length-append bytes (number 2 b), pat-width s x k) in
      run-then d o ((0x5E ∷ (number 2 (w - 3) ++ number 2 a)) ++ bytes) (number 2 b) e d₂ d₃ (omega (arith, g.end)) (held 0x5E a o w e k' d d₁ d₂ f g) h
      ∙ ap (λ (y : ℕ). overlay d o ((0x5E ∷ (number 2 y ++ number 2 a)) ++ (bytes ++ number 2 b))) n

fold-long : (kind n : ℕ) → kind < 3 → length (fold_bytes 2 (folding_of kind n)) ≡ cond (eqb kind 2) 3 1
unfolding fold_bytes folding_of number
fold-long kind n h = go (eqb kind 0) (eqb kind 2) refl refl
  where
    go : (t u : Bool) → eqb kind 0 ≡ t → eqb kind 2 ≡ u → length (fold_bytes 2 (folding_of kind n)) ≡ cond (eqb kind 2) 3 1
    go true u e f = let z : kind ≡ 0 = eqb-true kind 0 e in rw z
    go false true e f = rw (e, f)
    go false false e f = rw (e, f)

-- its length, by what it is
pub fold-wide : (kind w p : ℕ) → kind < 3 → w ≡ fold_width kind p → w ≡ 9 + cond (eqb kind 2) 3 1 + p
unfolding fold_width
fold-wide kind w p h e = e ∙ go (eqb kind 2) refl
  where
    go : (t : Bool) → eqb kind 2 ≡ t → cond (eqb kind 3) 3 (cond (eqb kind 2) (12 + p) (10 + p)) ≡ 9 + cond (eqb kind 2) 3 1 + p
    go true f = rw (ne_eqb kind 3 (λ g. omega arith), f) (omega arith)
    go false f = rw (ne_eqb kind 3 (λ g. omega arith), f) (omega arith)

pub fold-least : (kind w p : ℕ) → kind < 3 → w ≡ fold_width kind p → 10 + p ≤ w
fold-least kind w p h e = omega (arith, fold-wide kind w p h e, go (eqb kind 2))
  where
    go : (t : Bool) → 1 ≤ cond t 3 1
    go true = omega arith
    go false = omega arith

pub fold-two : (kind w p : ℕ) → kind < 3 → kind ≡ 2 → w ≡ fold_width kind p → 12 + p ≤ w
fold-two kind w p h k e = let z : ◌≡◌ {A = ℕ} (cond (eqb kind 2) 3 1) 3 = rw (eq-eqb kind 2 k) in omega (arith, fold-wide kind w p h e, z)

pub fold-three : (kind w p : ℕ) → kind ≡ 3 → w ≡ fold_width kind p → w ≡ 3
unfolding fold_width
fold-three kind w p k e = e ∙ rw k

pub fold-none : (kind a b c n o : ℕ) (s : List ℕ) (x : Pattern) (k : ℕ) (d d₁ : List ℕ) → kind ≡ 3 → d₁ ≡ overlay d o (field 0x50 []) → d₁ ≡ overlay d o (node_bytes 2 (fold_node kind (pat_at s x k) a b c n))
unfolding fold_node
fold-none kind a b c n o s x k d d₁ h e = rw h e

pub fold-put : (s : List ℕ) (x : Pattern) (k : ℕ) (kind a b c n o w e k' : ℕ) (d d₁ d₂ d₃ d₄ d₅ : List ℕ) → kind < 3 → w ≡ fold_width kind (pat_width x)
    → d₁ ≡ overlay d o (0x6A ∷ (number 2 (w - 3) ++ number 2 a)) → PatIs s x k (o + 5) d₁ d₂ e k' → d₃ ≡ overlay d₂ e (number 2 b) → d₄ ≡ overlay d₃ (e + 2) (number 2 c)
    → d₅ ≡ overlay d₄ (e + 4) (fold_bytes 2 (folding_of kind n)) → d₅ ≡ overlay d o (node_bytes 2 (fold_node kind (pat_at s x k) a b c n))
unfolding number field fold_node
fold-put s x k kind a b c n o w e k' d d₁ d₂ d₃ d₄ d₅ h m f g i j l =
    let y : List ℕ = pat_bytes 2 (pat_at s x k) in
    let z : List ℕ = fold_bytes 2 (folding_of kind n) in
    let t : List ℕ = (0x6A ∷ (number 2 (w - 3) ++ number 2 a)) ++ y in
    let q : w - 3 ≡ length (number 2 a ++ (y ++ ((number 2 b ++ number 2 c) ++ z))) = omega (arith, length-append y ((number 2 b ++ number 2 c) ++ z), pat-width s x k, fold-wide kind w (pat_width x) h m, fold-long kind n h) in
    let f₃ : d₃ ≡ overlay d o (t ++ number 2 b) = run-then d o t (number 2 b) e d₂ d₃ (omega (arith, g.end)) (held s x k 0x6A a o w e k' d d₁ d₂ f g) i in
    let f₄ : d₄ ≡ overlay d o ((t ++ number 2 b) ++ number 2 c) = run-then d o (t ++ number 2 b) (number 2 c) (e + 2) d₃ d₄ (omega (arith, g.end, length-append y (number 2 b))) f₃ j in
    let f₅ : d₅ ≡ overlay d o (((t ++ number 2 b) ++ number 2 c) ++ z) = run-then d o ((t ++ number 2 b) ++ number 2 c) z (e + 4) d₄ d₅ (omega (arith, g.end, length-append (y ++ number 2 b) (number 2 c), length-append y (number 2 b))) f₄ l in
    f₅
    ∙ ap (λ (u : List ℕ). overlay d o ((0x6A ∷ (number 2 (w - 3) ++ number 2 a)) ++ u)) (append_assoc (y ++ number 2 b) (number 2 c) z ∙ append_assoc y (number 2 b) (number 2 c ++ z))
    ∙ ap (λ (u : ℕ). overlay d o ((0x6A ∷ (number 2 u ++ number 2 a)) ++ (y ++ ((number 2 b ++ number 2 c) ++ z)))) q
    ∙ rw (ne_eqb kind 3 (λ r. omega arith))
