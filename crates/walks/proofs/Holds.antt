-- What the rules give stands in the table: facts of one term's records, and how those of its members are taken off one by one. Assumes nothing.
use Rattle.std.specs.Prelude.{ℕ, zero, suc, ◌+◌, ◌≡◌, refl}
use Rattle.std.proofs.Common.{ap}
use Rattle.std.proofs.Math.Option.{some, map, none-ne-some}
use mathlib.Core.List.{List, [], ◌∷◌, ◌++◌, cons≢nil}
use Rattle.std.proofs.Math.ListN.{get_elem?}
use Rattle.tree.specs.Tree.{Tree}
use Rattle.rules.specs.Table.{Rec, Err}
use Rattle.rules.specs.Outs.{Out, slot, size}
use Rattle.rules.specs.Slices.{Table, Slice, slice-left, slice-right}
use Rattle.walks.specs.Together.{nodes_of, PlaceAt}

-- no errors in two lists
pub nil-left : (xs ys : List Err) → xs ++ ys ≡ [] → xs ≡ []
nil-left [] ys h = refl
nil-left (x ∷ xs) ys h = absurd (cons≢nil h)

pub nil-right : (xs ys : List Err) → xs ++ ys ≡ [] → ys ≡ []
nil-right [] ys h = h
nil-right (x ∷ xs) ys h = absurd (cons≢nil h)

-- a list that ends in an error is not empty
pub has-error : (xs : List Err) (x : Err) → xs ++ (x ∷ []) ≡ [] → ⊥
has-error xs x h = cons≢nil (nil-right xs (x ∷ []) h)

-- the node of a record
pub node_at : (T : Table) (n : ℕ) (r : Rec) → get_elem? T n ≡ some r → get_elem? (nodes_of T) n ≡ some r.node
node_at [] n r h = absurd (none-ne-some r h)
node_at (x ∷ T) zero r h = ap (map (λ (r : Rec). r.node)) h
node_at (x ∷ T) (suc n) r h = node_at T n r h

module _ (T : Table) where
  -- a term's own record stands at n, the records that it inserts from m on, and it has no error. A body, an else and a sum have their own number elsewhere
  pub record Holds (n m : ℕ) (o : Out) : Type 0 where
    pub self : get_elem? T n ≡ some o.self
    pub more : Slice T m o.more
    pub fine : o.errs ≡ []

  -- the first member of a row of records holds, and the rest goes on behind it
  pub record Peeled (m : ℕ) (a : Out) (rs : List Rec) (es : List Err) : Type 0 where
    pub first : Holds m (suc m) a
    pub rest : Slice T (m + size a) rs
    pub fine : es ≡ []

  pub peel : (m : ℕ) (a : Out) (rs : List Rec) (es : List Err) → Slice T m (slot a ++ rs) → a.errs ++ es ≡ [] → Peeled m a rs es
  peel m a rs es s f =
      let s₁ : Slice T m (slot a) = slice-left T m (slot a) rs s in
      record {
        first = record { self = s₁.0; more = s₁.1; fine = nil-left a.errs es f };
        rest = slice-right T m (slot a) rs s;
        fine = nil-right a.errs es f;
      }

  -- the last member
  pub only : (m : ℕ) (a : Out) → Slice T m (slot a) → a.errs ≡ [] → Holds m (suc m) a
  only m a s f = record { self = s.0; more = s.1; fine = f }

module _ (whole : Tree) (T : Table) where
  pub place_at : (n : ℕ) (r : Rec) → get_elem? T n ≡ some r → PlaceAt whole T n r.place
  place_at n r q = ap (map (λ (r : Rec). r.place)) q
