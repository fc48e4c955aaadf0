-- The moves that both walks make. Document 01: "Moves are into a member term, also in a pattern, pair, entry, part or argument .., into a called definition ..,
-- and into a passed argument through its entry." A member has a role and a rank, so that a move means the same to a walk that sees the tree and to one that
-- sees the table. Assumes nothing.
use Rattle.std.specs.Prelude.{ℕ, suc, cond, ◌&&◌, List, [], ◌∷◌, eqb}
use Rattle.std.proofs.Math.Option.{Option, none, some}

pub data Role : Type 0 where
  -- the one member of an Arr, a Neg or a Label
  only : Role
  -- of a Pipe, of an operator, of a sum
  left right : Role
  -- of a pair, and what else holds
  condition branch other : Role
  -- of a TryCatch
  tried caught : Role
  -- of a Fold: its source, init, update and projection
  source init update projection : Role
  -- a key of a pattern, counted left to right
  key : Role
  -- an argument of a call, counted left to right
  argument : Role
  -- of a Path: what it is taken of; the index, start or end of a part, counted left to right
  subject index from upto : Role
  -- of an entry of an object
  name value : Role

-- a role by its number, to hold two together
abbrev pub role_number : Role → ℕ
role_number only = 0
role_number left = 1
role_number right = 2
role_number condition = 3
role_number branch = 4
role_number other = 5
role_number tried = 6
role_number caught = 7
role_number source = 8
role_number init = 9
role_number update = 10
role_number projection = 11
role_number key = 12
role_number argument = 13
role_number subject = 14
role_number index = 15
role_number from = 16
role_number upto = 17
role_number name = 18
role_number value = 19

pub data Move : Type 0 where
  -- into the member of this role and rank
  member : Role → ℕ → Move
  -- "into a called definition"
  called : Move
  -- "into a passed argument through its entry"
  passed : Move

-- a member: its role, its rank among those of the role, and where a walk stands that has entered it
pub record Member (A : Type 0) : Type 0 where
  pub role : Role
  pub rank : ℕ
  pub state : A

-- the one member of a role
abbrev pub lone : {A : Type 0} → Role → A → Member A
lone r a = record { role = r; rank = 0; state = a }

-- members of one role, counted from i
abbrev pub ranked : {A : Type 0} → Role → ℕ → List A → List (Member A)
ranked r i [] = []
ranked r i (a ∷ as') = record { role = r; rank = i; state = a } ∷ ranked r (suc i) as'

abbrev pub pick : {A : Type 0} → Role → ℕ → List (Member A) → Option A
pick r i [] = none
pick r i (m ∷ ms) = cond (eqb (role_number r) (role_number m.role) && eqb i m.rank) (some m.state) (pick r i ms)
