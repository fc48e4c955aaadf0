-- How long own records are where rows are in view. Assumes nothing.
use Rattle.std.specs.Prelude.{ℕ, ◌≡◌, Bool, List, length}
use Rattle.std.proofs.Math.Option.{Option, none, some}
use Rattle.tree.specs.Rose.{text_of}
use Rattle.tree.specs.Tree.{Term}
use Rattle.rules.specs.Names.{Text}
use Rattle.rules.specs.Listing.{rec_bytes}
use Rattle.rules.specs.Rules.{term}
use Rattle.reads.specs.Bytes.{TermAt}
use Rattle.cells.specs.Cells.{View, Seen, env_of}
use Rattle.finds.specs.Means.{sought}
use Rattle.finds.specs.Under.{body_of, defined_by, own_call}

-- the own record of t is r bytes long, whatever numbers it gets
abbrev pub WidthIs : View → List ℕ → List ℕ → ℕ → Term → ℕ → Type 0
WidthIs vw b s k t r = (n al : ℕ) → r ≡ length (rec_bytes 2 (term vw.top t (env_of vw b s k) n al).self)

-- of the term at p
abbrev pub WidthAt : List ℕ → List ℕ → ℕ → ℕ → Type 0
WidthAt b s p r = (vw : View) (k : ℕ) → Seen vw b s k → (t : Term) → TermAt b t p → WidthIs vw b s k t r

-- of the term at p, whose definitions are for the term at q
abbrev pub WidthUnder : List ℕ → List ℕ → ℕ → ℕ → ℕ → Type 0
WidthUnder b s p q r = (vw : View) (k : ℕ) → Seen vw b s k → (t : Term) → TermAt b t p → TermAt b (body_of t) q → WidthIs vw b s k t r

-- a variable's or a break's: an index, or Id for an error
unfoldable pub var_width : Option ℕ → ℕ
var_width none = 3
var_width (some i) = 5

abbrev pub WidthNamed : List ℕ → List ℕ → ℕ → ℕ → ℕ → Type 0
WidthNamed b s p class r = (vw : View) (k : ℕ) → Seen vw b s k → r ≡ var_width (sought vw class (text_of b p) (env_of vw b s k))

-- some term stands at p, and its definitions are for the term at q
abbrev pub Stands : List ℕ → ℕ → ℕ → Type 0
Stands b p q = (t : Term) × TermAt b t p × TermAt b (body_of t) q

-- does the term at p define the filter that a call of x with a arguments means?
abbrev pub Defines : List ℕ → ℕ → Text → ℕ → Bool → Type 0
Defines b p x a r = (t : Term) → TermAt b t p → r ≡ defined_by t x a

abbrev pub Owns : List ℕ → ℕ → Text → ℕ → Bool → Type 0
Owns b p x a r = (t : Term) → TermAt b t p → r ≡ own_call (defined_by t) x a
