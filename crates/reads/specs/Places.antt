-- A row of fields, as `Places` of `tree` goes over it. Assumes nothing.
use Rattle.std.specs.Prelude.{ℕ, ◌≤◌, ◌≡◌, List, length}
use Rattle.std.proofs.Common.{subst, sym}
use Rattle.tree.specs.Rose.{Roses, Row}
use Rattle.tree.specs.Places as places
use Rattle.tree.specs.declared.places.Places.{Places}
pub use Rattle.tree.specs.Places.{Stand, GivesField, fields_left, Over, Turn, turn, turned}

-- a row of b from n on is one of the iterator
pub row-over : (b : List ℕ) (z n : ℕ) (s : Places) (rs : Roses) → Over b z s → s.at ≡ n → Row b rs n z → Row s.tree.now rs s.at s.end
row-over b z n s rs o e h =
    subst (λ (x : List ℕ). Row x rs s.at s.end) (sym o.0)
    (subst (λ (i : ℕ). Row b rs i s.end) (sym e) (subst (λ (i : ℕ). Row b rs n i) (sym o.1) h))

-- an iterator t that is the one that `fields` made
module _ (b : List ℕ) (q z : ℕ) (s t : Places) (e : t ≡ s) (f : (s.tree.now ≡ b) × (s.at ≡ q) × (s.end ≡ z)) where
  pub begun : z ≤ length b → (rs : Roses) × Row b rs q z → Stand t × Over b z t × (q ≡ t.at)
  begun l h = places.begun b q z s t e f l (places.row-chain b h.0 q z h.1)
