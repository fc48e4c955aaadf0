-- Paths: what is put for a bound, a part, the parts of a path. Assumes nothing.
use Rattle.std.specs.Prelude.{ℕ, ◌+◌, ◌*◌, ◌^◌, ◌≤◌, ◌<◌, ◌≡◌, Bool, true, false, List, length}
use Rattle.std.proofs.Math.Option.{Option, none, some}
use Rattle.fields.specs.Room.{overlay}
use Rattle.tree.specs.Rose.{rnil, Row}
use Rattle.tree.specs.Tree.{Part, Parts}
use Rattle.tree.specs.Form.{f_parts}
use Rattle.rules.specs.Listing.{step_bytes}
use Rattle.reads.specs.Widths.{parts_width}
use Rattle.reads.specs.Shapes.{PartAt}
use Rattle.cells.specs.Notes.{step_at, steps_at}

-- a number, if it is there
abbrev pub given : Bool → ℕ → Option ℕ
given true a = some a
given false a = none

-- the bytes are put at o, and end at e
pub record Puts (bytes : List ℕ) (o : ℕ) (d d' : List ℕ) (e : ℕ) : Type 0 where
  pub room : d' ≡ overlay d o bytes
  pub end : e ≡ o + length bytes

-- the part at q, whatever it is, whose numbers are a and y
abbrev pub PartPut : List ℕ → ℕ → ℕ → ℕ → ℕ → List ℕ → List ℕ → ℕ → Type 0
PartPut b q a y o d d' e = (x : Part) → PartAt b x q → Puts (step_bytes 2 (step_at x a y)) o d d' e

-- parts stand from q up to z, their notes from row k on lie within the rows, and no offset wraps
pub record PartsReady (b s : List ℕ) (q z k o : ℕ) : Type 0 where
  pub xs : Parts
  pub at : Row b (f_parts xs rnil) q z
  pub within : z ≤ length b
  pub rows : 4 * (k + length (steps_at s xs k)) ≤ length s
  pub room : o + parts_width xs + 8 < 2 ^ 64

-- a path of w bytes, whose parts' notes are the rows from k up to i
pub record PathReady (b s : List ℕ) (q z k i o w : ℕ) : Type 0 where
  pub xs : Parts
  pub at : Row b (f_parts xs rnil) q z
  pub within : z ≤ length b
  pub notes : i ≡ k + length (steps_at s xs k)
  pub rows : 4 * i ≤ length s
  pub wide : w ≡ 7 + parts_width xs
  pub room : o + w + 8 < 2 ^ 64
