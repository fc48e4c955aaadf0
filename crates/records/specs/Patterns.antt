-- Patterns within records: what is put for one, by the notes that its patterns have. Assumes nothing.
use Rattle.std.specs.Prelude.{ℕ, ◌+◌, ◌*◌, ◌^◌, ◌≤◌, ◌<◌, ◌≡◌, cond, List, eqb, length}
use Rattle.std.proofs.Math.Option.{none, some}
use Rattle.fields.specs.Room.{overlay}
use Rattle.tree.specs.Tree.{Pattern}
use Rattle.rules.specs.Table.{Node, n_id, n_fold, Pat, Folding, reduce, foreach}
use Rattle.rules.specs.Listing.{pat_bytes}
use Rattle.reads.specs.Bytes.{PatternAt}
use Rattle.reads.specs.Widths.{pat_width, fold_width}
use Rattle.cells.specs.Notes.{pat_at, notes_in}

-- the pattern x is put at o, by the notes from row k on: it ends at e, and its notes at row k'
pub record PatIs (s : List ℕ) (x : Pattern) (k o : ℕ) (d d' : List ℕ) (e k' : ℕ) : Type 0 where
  pub room : d' ≡ overlay d o (pat_bytes 2 (pat_at s x k))
  pub end : e ≡ o + length (pat_bytes 2 (pat_at s x k))
  pub row : k' ≡ k + notes_in x

-- some pattern stands at q, its notes lie within the rows, and no offset wraps
pub record PatReady (b s : List ℕ) (q k o : ℕ) : Type 0 where
  pub x : Pattern
  pub at : PatternAt b x q
  pub rows : 4 * (k + notes_in x) ≤ length s
  pub room : o + pat_width x < 2 ^ 64

-- the pattern at q, whatever it is
abbrev pub PatPut : List ℕ → List ℕ → ℕ → ℕ → ℕ → List ℕ → List ℕ → ℕ → ℕ → Type 0
PatPut b s q k o d d' e k' = (x : Pattern) → PatternAt b x q → PatIs s x k o d d' e k'

-- a record of w bytes that holds the pattern at q, all but g of them
pub record HoldsPat (b s : List ℕ) (q k o w g : ℕ) : Type 0 where
  pub x : Pattern
  pub at : PatternAt b x q
  pub rows : 4 * (k + notes_in x) ≤ length s
  pub wide : w ≡ g + pat_width x
  pub room : o + w < 2 ^ 64

-- "Fold: 0 reduce, 1 foreach, 2 foreach and number."
unfoldable pub folding_of : ℕ → ℕ → Folding
folding_of kind n = cond (eqb kind 0) reduce (cond (eqb kind 2) (foreach (some n)) (foreach none))

-- the own record of a fold: 3 is none, and Id stands there
unfoldable pub fold_node : ℕ → Pat → ℕ → ℕ → ℕ → ℕ → Node
fold_node kind x a b c n = cond (eqb kind 3) n_id (n_fold a x b c (folding_of kind n))

pub record HoldsFold (b s : List ℕ) (q k o kind w : ℕ) : Type 0 where
  pub x : Pattern
  pub at : PatternAt b x q
  pub rows : 4 * (k + notes_in x) ≤ length s
  pub kinds : kind < 4
  pub wide : w ≡ fold_width kind (pat_width x)
  pub room : o + w < 2 ^ 64
