-- What the promises (proofs/Promises.antt) speak of besides the walks: whether a walk can make its moves, and the walk in a listing's bytes. Assumes nothing.
use Rattle.std.specs.Prelude.{ℕ, Bool, true, false, List}
use Rattle.std.proofs.Math.Option.{Option, none, some}
use Rattle.walks.specs.Moves.{Move}
use Rattle.walks.specs.TableWalk as ByNumber
use Rattle.walks.specs.Reader.{read_listing}

-- "make the same moves": one walk can make them if the other can
abbrev pub made : {A : Type 0} → Option A → Bool
made none = false
made (some a) = true

-- ---- the bytes that leave the compiler

-- the walk by numbers in a listing of terms: its records as they are read, its main number, the count of imported variables and of globals
abbrev pub by_listing : List ℕ → ℕ → ℕ → List Move → Option ByNumber.State
by_listing bytes i g ms = let o = read_listing bytes in ByNumber.walk o.nodes ms (some (ByNumber.start o.main i g))
