-- The table that is compiled to, and the errors. Document 01: "Terms have tags 50 to 6B in the order of `Term`, members in Rust order". A member that is a
-- term stands here by its number. Each record has the place of the tree field that it came from beside it. Assumes nothing.
use Rattle.std.specs.Prelude.{ℕ, Bool, List}
use Rattle.std.proofs.Math.Option.{Option}
use Rattle.rules.specs.Names.{Text}

-- "The four call kinds keep fixed numbers: Inline 0, Throw 1, CatchOne 2, CatchAll 3."
pub data Kind : Type 0 where
  inline throw catch_one catch_all : Kind

abbrev pub kind_number : Kind → ℕ
kind_number inline = 0
kind_number throw = 1
kind_number catch_one = 2
kind_number catch_all = 3

-- an argument: is it for a variable (else for a filter), and its number
pub record Arg : Type 0 where
  pub isv : Bool
  pub num : ℕ

-- a pattern: a variable, or keys with a pattern each
mutual
  pub data Pat : Type 0 where
    pat_var : Pat
    pat_idx : Pats → Pat

  pub data Pats : Type 0 where
    pats_nil : Pats
    pats_cons : ℕ → Pat → Pats → Pats

pub data Folding : Type 0 where
  reduce : Folding
  foreach : Option ℕ → Folding

-- a part of a path; is it optional?
pub data Step : Type 0 where
  index : ℕ → Bool → Step
  range : Option ℕ → Option ℕ → Bool → Step

pub data Node : Type 0 where
  n_id n_recurse n_to_string : Node
  n_int : ℕ → Node
  n_num n_str : Text → Node
  n_arr : ℕ → Node
  n_obj_empty : Node
  -- key, value
  n_obj_single : ℕ → ℕ → Node
  -- the index of a variable, label or filter argument
  n_var : ℕ → Node
  -- definition, arguments, skip, kind
  n_call_def : ℕ → List Arg → ℕ → Kind → Node
  -- which native, counted from 0; arguments
  n_native : ℕ → List Arg → Node
  n_label n_neg : ℕ → Node
  n_pipe : ℕ → Option Pat → ℕ → Node
  n_comma n_assign n_update : ℕ → ℕ → Node
  -- left, operator, right
  n_update_math : ℕ → ℕ → ℕ → Node
  n_update_alt : ℕ → ℕ → Node
  -- left, is it `or` (else `and`), right
  n_logic : ℕ → Bool → ℕ → Node
  -- left, operator, right
  n_math n_cmp : ℕ → ℕ → ℕ → Node
  n_alt n_try_catch : ℕ → ℕ → Node
  -- condition, branch, else
  n_ite : ℕ → ℕ → ℕ → Node
  -- source, pattern, init, update, what it is
  n_fold : ℕ → Pat → ℕ → ℕ → Folding → Node
  n_path : ℕ → List Step → Node

pub record Rec : Type 0 where
  pub place : ℕ
  pub node : Node

-- what is not there: "Mod 28, Var 29, Label 2A, Filter 2B .. Filter also arity"
pub data Undefined : Type 0 where
  u_mod u_var u_label : Undefined
  u_filter : ℕ → Undefined

-- "with module, name's place in the tree bytes and length"
pub record Err : Type 0 where
  pub what : Undefined
  pub home : ℕ
  pub place : ℕ
  pub length : ℕ
