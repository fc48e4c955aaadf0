-- The contracts of two functions beside the cycle: what a call means, whatever is done to the rows above those in view, and the room for the own record of a term
-- before its definitions. Assumes nothing.
use Rattle.std.specs.Prelude.{ℕ, ◌+◌, ◌*◌, ◌≤◌, ◌≡◌, List, length, take}
use Rattle.tree.specs.Tree.{Term}
use Rattle.rules.specs.Names.{Text}
use Rattle.rules.specs.Filters.{meant}
use Rattle.rules.specs.Listing.{rec_bytes}
use Rattle.rules.specs.Rules.{term}
use Rattle.puts.specs.declared.state.State.{State}
use Rattle.puts.specs.State.{off, start_of, with_off}
use Rattle.reads.specs.Bytes.{TermAt}
use Rattle.cells.specs.Cells.{View, Seen, env_of, outer}
use Rattle.finds.specs.Hits as Hit
use Rattle.finds.specs.Means.{FoundIs}

-- What a call of the name x at `at` with a arguments means where k rows are in view: of whatever rows are left of these, r says it
abbrev pub Meaning : List ℕ → List ℕ → ℕ → Text → ℕ → ℕ → Hit.Found → Type 0
Meaning b s k x at a r =
    (vw : View) → Seen vw b s k → (s' : List ℕ) → take (4 * k) s' ≡ take (4 * k) s → length s' ≡ length s
    → let m = meant vw.top x at a (env_of vw b s k) in FoundIs m.found m.missing b s' (outer vw) a r

-- Before the definitions of the term at p: room for its own record, if that is due at the next offset
pub record Reserved (b : List ℕ) (p : ℕ) (s : List ℕ) (o : ℕ) (st st' : State) : Type 0 where
  pub is : (vw : View) (k : ℕ) → Seen vw b s k → (t : Term) → TermAt b t p → (n al : ℕ)
      → st' ≡ with_off st (start_of o (off st) (length (rec_bytes 2 (term vw.top t (env_of vw b s k) n al).self)))
  pub few : off st' ≤ off st + 1048576
