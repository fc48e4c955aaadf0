-- The walk by numbers in the table: where it stands, its list, and where each move leads. It reads the records of the table alone: members' numbers, indices,
-- skip counts, argument lists and patterns. It knows no name, no place and no tree. Each sentence of document 01's section "The two walks" stands above what it
-- says. Assumes nothing.
use Rattle.std.specs.Prelude.{ℕ, zero, suc, ◌+◌, cond, List, [], ◌∷◌, ◌++◌}
use Rattle.std.proofs.Math.Option.{Option, none, some}
use Rattle.std.proofs.Math.ListN.{get_elem?}
use Rattle.rules.specs.Table.{Arg, Pat, pat_var, pat_idx, Pats, pats_nil, pats_cons, Folding, reduce, foreach, Step, range, Node, n_id, n_recurse, n_to_string, n_int, n_num, n_str, n_arr, n_obj_empty, n_obj_single, n_var, n_call_def, n_native, n_label, n_neg, n_pipe, n_comma, n_assign, n_update, n_update_math, n_update_alt, n_logic, n_math, n_cmp, n_alt, n_try_catch, n_ite, n_fold, n_path}
use Rattle.walks.specs.Moves.{Role, Move, Member, lone, ranked, pick}

-- ---- the list

-- "An entry is a variable or label with its place, or a passed argument with its place and the list at the call." A place is a number of the table. "In the table
-- a pattern variable's place is its Pipe's or Fold's number and its rank there, left to right". An imported variable or a global is one of those that the
-- program is given, counted in their order
mutual
  pub data Cells : Type 0 where
    end : Cells
    cell : Cell → Cells → Cells

  pub data Cell : Type 0 where
    imported global : ℕ → Cell
    -- of a pattern: the Pipe's or Fold's number, and the rank
    var : ℕ → ℕ → Cell
    -- for a `$` parameter: the argument's number
    value : ℕ → Cell
    -- the Label's number
    label : ℕ → Cell
    -- a passed argument: its number, and the list at the call
    arg : ℕ → Cells → Cell

-- k of a kind, counted from i, pushed in order
abbrev pub push_cells : (ℕ → Cell) → ℕ → ℕ → Cells → Cells
push_cells kind i zero l = l
push_cells kind i (suc k) l = push_cells kind (suc i) k (cell (kind i) l)

-- "Both lists end in imported variables, then globals, last first.": i imported variables, g globals
abbrev pub outer : ℕ → ℕ → Cells
outer i g = push_cells Cell.imported 0 i (push_cells Cell.global 0 g Cells.end)

abbrev pub tail : Cells → Cells
tail end = end
tail (cell a l) = l

-- "The table walk drops the skip count instead."
abbrev pub skip : ℕ → Cells → Cells
skip zero l = l
skip (suc k) l = skip k (tail l)

abbrev pub head : Cells → Option Cell
head end = none
head (cell a l) = some a

-- the entry of an index
abbrev pub cell_at : ℕ → Cells → Option Cell
cell_at i l = head (skip i l)

pub record State : Type 0 where
  pub at : ℕ
  pub list : Cells

abbrev pub here : ℕ → Cells → State
here n l = record { at = n; list = l }

-- ---- members

-- the variables of a pattern
abbrev mutual
  pub pat_vars : Pat → ℕ
  pat_vars pat_var = 1
  pat_vars (pat_idx xs) = pats_vars xs

  pub pats_vars : Pats → ℕ
  pats_vars pats_nil = 0
  pats_vars (pats_cons k x xs) = pat_vars x + pats_vars xs

-- the numbers of its keys, left to right
abbrev mutual
  pub pat_keys : Pat → List ℕ
  pat_keys pat_var = []
  pat_keys (pat_idx xs) = pats_keys xs

  pub pats_keys : Pats → List ℕ
  pats_keys pats_nil = []
  pats_keys (pats_cons k x xs) = k ∷ (pat_keys x ++ pats_keys xs)

abbrev pub opt_vars : Option Pat → ℕ
opt_vars none = 0
opt_vars (some x) = pat_vars x

abbrev pub opt_keys : Option Pat → List ℕ
opt_keys none = []
opt_keys (some x) = pat_keys x

-- the variables of the pattern of the Pipe or Fold n
abbrev pub push_vars : ℕ → ℕ → Cells → Cells
push_vars n k l = push_cells (Cell.var n) 0 k l

abbrev pub at_each : List ℕ → Cells → List State
at_each [] l = []
at_each (n ∷ ns) l = here n l ∷ at_each ns l

abbrev pub arg_numbers : List Arg → List ℕ
arg_numbers [] = []
arg_numbers (a ∷ as') = a.num ∷ arg_numbers as'

abbrev pub projected : Folding → Cells → List (Member State)
projected reduce l = []
projected (foreach none) l = []
projected (foreach (some n)) l = lone Role.projection (here n l) ∷ []

abbrev pub bound_member : Role → ℕ → Option ℕ → Cells → List (Member State)
bound_member r i none l = []
bound_member r i (some n) l = record { role = r; rank = i; state = here n l } ∷ []

abbrev pub path_step : ℕ → Step → Cells → List (Member State)
path_step i (Step.index n o) l = record { role = Role.index; rank = i; state = here n l } ∷ []
path_step i (range a b o) l = bound_member Role.from i a l ++ bound_member Role.upto i b l

-- the parts of a path, counted from i
abbrev pub path_steps : ℕ → List Step → Cells → List (Member State)
path_steps i [] l = []
path_steps i (s ∷ ss) l = path_step i s l ++ path_steps (suc i) ss l

abbrev pub sides : ℕ → ℕ → Cells → List (Member State)
sides a b l = lone Role.left (here a l) ∷ lone Role.right (here b l) ∷ []

-- "into a member term, also in a pattern, pair, entry, part or argument (pushing what the rules push)": of the record n
abbrev pub node_members : ℕ → Node → Cells → List (Member State)
node_members n n_id l = []
node_members n n_recurse l = []
node_members n n_to_string l = []
node_members n (n_int i) l = []
node_members n (n_num x) l = []
node_members n (n_str x) l = []
node_members n (n_arr a) l = lone Role.only (here a l) ∷ []
node_members n n_obj_empty l = []
node_members n (n_obj_single a b) l = lone Role.name (here a l) ∷ lone Role.value (here b l) ∷ []
node_members n (n_var i) l = []
node_members n (n_call_def d as' s k) l = ranked Role.argument 0 (at_each (arg_numbers as') l)
node_members n (n_native i as') l = ranked Role.argument 0 (at_each (arg_numbers as') l)
node_members n (n_label a) l = lone Role.only (here a (cell (label n) l)) ∷ []
node_members n (n_neg a) l = lone Role.only (here a l) ∷ []
node_members n (n_pipe a x b) l =
    lone Role.left (here a l) ∷ lone Role.right (here b (push_vars n (opt_vars x) l)) ∷ ranked Role.key 0 (at_each (opt_keys x) l)
node_members n (n_comma a b) l = sides a b l
node_members n (n_assign a b) l = sides a b l
node_members n (n_update a b) l = sides a b l
node_members n (n_update_math a k b) l = sides a b l
node_members n (n_update_alt a b) l = sides a b l
node_members n (n_logic a o b) l = sides a b l
node_members n (n_math a k b) l = sides a b l
node_members n (n_cmp a k b) l = sides a b l
node_members n (n_alt a b) l = sides a b l
node_members n (n_try_catch a b) l = lone Role.tried (here a l) ∷ lone Role.caught (here b l) ∷ []
node_members n (n_ite a b c) l = lone Role.condition (here a l) ∷ lone Role.branch (here b l) ∷ lone Role.other (here c l) ∷ []
node_members n (n_fold a x b c f) l =
    let w = push_vars n (pat_vars x) l in
    lone Role.source (here a l) ∷ ((lone Role.init (here b l) ∷ lone Role.update (here c w) ∷ projected f w) ++ ranked Role.key 0 (at_each (pat_keys x) l))
node_members n (n_path a ss) l = lone Role.subject (here a l) ∷ path_steps 0 ss l

-- ---- calls

-- "its list plus the arguments; for a `$` parameter a variable, whose place in both walks is its argument's": the arguments from a place with the list l
abbrev pub given : Arg → Cells → Cell
given a l = cond a.isv (value a.num) (arg a.num l)

abbrev pub pass : List Arg → Cells → Cells → Cells
pass [] l w = w
pass (a ∷ as') l w = pass as' l (cell (given a l) w)

-- "into a called definition"
abbrev pub into_definition : Node → Cells → Option State
into_definition n_id l = none
into_definition n_recurse l = none
into_definition n_to_string l = none
into_definition (n_int i) l = none
into_definition (n_num x) l = none
into_definition (n_str x) l = none
into_definition (n_arr a) l = none
into_definition n_obj_empty l = none
into_definition (n_obj_single a b) l = none
into_definition (n_var i) l = none
into_definition (n_call_def d as' s k) l = some (here d (pass as' l (skip s l)))
into_definition (n_native i as') l = none
into_definition (n_label a) l = none
into_definition (n_neg a) l = none
into_definition (n_pipe a x b) l = none
into_definition (n_comma a b) l = none
into_definition (n_assign a b) l = none
into_definition (n_update a b) l = none
into_definition (n_update_math a k b) l = none
into_definition (n_update_alt a b) l = none
into_definition (n_logic a o b) l = none
into_definition (n_math a k b) l = none
into_definition (n_cmp a k b) l = none
into_definition (n_alt a b) l = none
into_definition (n_try_catch a b) l = none
into_definition (n_ite a b c) l = none
into_definition (n_fold a x b c f) l = none
into_definition (n_path a ss) l = none

-- ---- what is picked: the entry of the index that a variable, a break or a call of an argument has

abbrev pub node_index : Node → Option ℕ
node_index n_id = none
node_index n_recurse = none
node_index n_to_string = none
node_index (n_int i) = none
node_index (n_num x) = none
node_index (n_str x) = none
node_index (n_arr a) = none
node_index n_obj_empty = none
node_index (n_obj_single a b) = none
node_index (n_var i) = some i
node_index (n_call_def d as' s k) = none
node_index (n_native i as') = none
node_index (n_label a) = none
node_index (n_neg a) = none
node_index (n_pipe a x b) = none
node_index (n_comma a b) = none
node_index (n_assign a b) = none
node_index (n_update a b) = none
node_index (n_update_math a k b) = none
node_index (n_update_alt a b) = none
node_index (n_logic a o b) = none
node_index (n_math a k b) = none
node_index (n_cmp a k b) = none
node_index (n_alt a b) = none
node_index (n_try_catch a b) = none
node_index (n_ite a b c) = none
node_index (n_fold a x b c f) = none
node_index (n_path a ss) = none

abbrev pub index_of : Option Node → Option ℕ
index_of none = none
index_of (some x) = node_index x

abbrev pub cell_of : Option ℕ → Cells → Option Cell
cell_of none l = none
cell_of (some i) l = cell_at i l

-- "into a passed argument through its entry"
abbrev pub through : Option Cell → Option State
through none = none
through (some (imported i)) = none
through (some (global i)) = none
through (some (var n i)) = none
through (some (value n)) = none
through (some (label n)) = none
through (some (arg n w)) = some (here n w)

-- ---- the walk

abbrev pub members_of : ℕ → Option Node → Cells → List (Member State)
members_of n none l = []
members_of n (some x) l = node_members n x l

abbrev pub members : List Node → State → List (Member State)
members T s = members_of s.at (get_elem? T s.at) s.list

abbrev pub definition_of : Option Node → Cells → Option State
definition_of none l = none
definition_of (some x) l = into_definition x l

abbrev pub index : List Node → State → Option ℕ
index T s = index_of (get_elem? T s.at)

abbrev pub picked : List Node → State → Option Cell
picked T s = cell_of (index T s) s.list

abbrev pub step : List Node → Move → State → Option State
step T (Move.member r i) s = pick r i (members T s)
step T Move.called s = definition_of (get_elem? T s.at) s.list
step T Move.passed s = through (picked T s)

abbrev pub walk : List Node → List Move → Option State → Option State
walk T [] s = s
walk T (m ∷ ms) none = none
walk T (m ∷ ms) (some s) = walk T ms (step T m s)

-- "Both walks start at main without locals.": main's number, and the count of imported variables and of globals
abbrev pub start : ℕ → ℕ → ℕ → State
start main i g = here main (outer i g)

-- ---- the form of a record: "Terms have tags 50 to 6B in the order of `Term`"

abbrev pub node_tag : Node → ℕ
node_tag n_id = 0x50
node_tag n_recurse = 0x51
node_tag n_to_string = 0x52
node_tag (n_int i) = 0x53
node_tag (n_num x) = 0x54
node_tag (n_str x) = 0x55
node_tag (n_arr a) = 0x56
node_tag n_obj_empty = 0x57
node_tag (n_obj_single a b) = 0x58
node_tag (n_var i) = 0x59
node_tag (n_call_def d as' s k) = 0x5A
node_tag (n_native i as') = 0x5B
node_tag (n_label a) = 0x5C
node_tag (n_neg a) = 0x5D
node_tag (n_pipe a x b) = 0x5E
node_tag (n_comma a b) = 0x5F
node_tag (n_assign a b) = 0x60
node_tag (n_update a b) = 0x61
node_tag (n_update_math a k b) = 0x62
node_tag (n_update_alt a b) = 0x63
node_tag (n_logic a o b) = 0x64
node_tag (n_math a k b) = 0x65
node_tag (n_cmp a k b) = 0x66
node_tag (n_alt a b) = 0x67
node_tag (n_try_catch a b) = 0x68
node_tag (n_ite a b c) = 0x69
node_tag (n_fold a x b c f) = 0x6A
node_tag (n_path a ss) = 0x6B

abbrev pub tag_of : Option Node → ℕ
tag_of none = 0
tag_of (some x) = node_tag x

abbrev pub tag : List Node → State → ℕ
tag T s = tag_of (get_elem? T s.at)
