-- What is known of a Fold before it is compiled. Assumes nothing.
use Rattle.std.specs.Prelude.{ℕ, ◌+◌, ◌*◌, ◌≤◌, ◌<◌, ◌≡◌, refl, Bool, true, false, cond, List, eqb}
use Rattle.std.proofs.Common.{eqb-true}
use Rattle.std.proofs.lemmas.Bool.{eqb-false}
use Rattle.tree.specs.Rose.{end_of, text_of}
use Rattle.tree.specs.Tree.{Term, Terms, Pattern}
use Rattle.rules.specs.Names.{Text, ascii, same}
use Rattle.rules.specs.Outs.{arity}
use Rattle.reads.specs.declared.width.Fold.{Fold}
use Rattle.reads.specs.Kinds.{fold_number}
use Rattle.reads.specs.Shapes.{FoldAt}
use Rattle.reads.specs.Widths.{pat_width, fold_kind, fold_width}

-- the places of the Fold at p; for every source, pattern and arguments that stand there their count, what the fold is, and the length of its own record.
-- The update's place is where the arguments start if there is none
pub record FoldOf (b : List ℕ) (p : ℕ) (r : Fold) : Type 0 where
  pub source : r.x ≡ end_of b (p + 3)
  pub pat : r.q ≡ end_of b r.x
  pub init : r.i ≡ end_of b r.q
  pub kind : fold_number r.kind ≡ fold_kind (text_of b (p + 3)) r.a
  pub is : (u : Term) (x : Pattern) (ts : Terms) → FoldAt b p u x ts → (r.a ≡ arity ts) × (r.w ≡ fold_width (fold_number r.kind) (pat_width x))
  pub some : 2 ≤ r.a → r.u ≡ end_of b r.i
  pub none : r.a < 2 → r.u ≡ r.i
  pub room : r.w + 2 * p ≤ 2 * end_of b p
  pub few : r.i + 3 * r.a ≤ end_of b p

-- ---- what a fold's kind says of its name and of how many arguments it has

pub data FoldCase (f : Text) (a : ℕ) : ℕ → Type 0 where
  is_reduce : a ≡ 2 → same f (ascii "reduce") ≡ true → FoldCase f a 0
  is_foreach : a ≡ 2 → same f (ascii "reduce") ≡ false → same f (ascii "foreach") ≡ true → FoldCase f a 1
  is_projected : a ≡ 3 → same f (ascii "foreach") ≡ true → FoldCase f a 2
  is_none : (a ≡ 2 → (same f (ascii "reduce") ≡ false) × (same f (ascii "foreach") ≡ false)) → (a ≡ 3 → same f (ascii "foreach") ≡ false) → FoldCase f a 3

pub fold-case : (f : Text) (a : ℕ) → FoldCase f a (fold_kind f a)
unfolding fold_kind
fold-case f a = go (eqb a 2) (eqb a 3) (same f (ascii "reduce")) (same f (ascii "foreach")) refl refl refl refl
  where
    go : (t u v w : Bool) → eqb a 2 ≡ t → eqb a 3 ≡ u → same f (ascii "reduce") ≡ v → same f (ascii "foreach") ≡ w
        → FoldCase f a (cond t (cond v 0 (cond w 1 3)) (cond u (cond w 2 3) 3))
    go true u true w et eu ev ew = is_reduce (eqb-true a 2 et) ev
    go true u false true et eu ev ew = is_foreach (eqb-true a 2 et) ev ew
    go true u false false et eu ev ew = is_none (λ e. (ev, ew)) (λ e. ew)
    go false true v true et eu ev ew = is_projected (eqb-true a 3 eu) ew
    go false true v false et eu ev ew = is_none (λ e. absurd (eqb-false a 2 et e)) (λ e. ew)
    go false false v w et eu ev ew = is_none (λ e. absurd (eqb-false a 2 et e)) (λ e. absurd (eqb-false a 3 eu e))
