-- The bytes of a table and of a list of errors, and what a tree comes to. Document 01, section Fields. The width of numbers is a parameter, two bytes today.
-- Assumes nothing.
use Rattle.std.specs.Prelude.{ℕ, suc, Bool, true, false, List, [], ◌∷◌, ◌++◌, length, ltb}
use Rattle.std.proofs.Math.Option.{Option, none, some}
use Rattle.fields.specs.Number.{number}
use Rattle.fields.specs.Field.{field}
use Rattle.fields.specs.Outcome.{Outcome, listing, refusal, pick}
use Rattle.tree.specs.Tree.{Tree}
use Rattle.rules.specs.Table.{kind_number, Arg, Pat, pat_var, pat_idx, Pats, pats_nil, pats_cons, Folding, reduce, foreach, Step, index, range, Node, n_id, n_recurse, n_to_string, n_int, n_num, n_str, n_arr, n_obj_empty, n_obj_single, n_var, n_call_def, n_native, n_label, n_neg, n_pipe, n_comma, n_assign, n_update, n_update_math, n_update_alt, n_logic, n_math, n_cmp, n_alt, n_try_catch, n_ite, n_fold, n_path, Rec, Undefined, u_mod, u_var, u_label, u_filter, Err}
use Rattle.rules.specs.Modules.{Compiled, compile}

-- "bool .. in one"
abbrev pub flag : Bool → ℕ
flag true = 1
flag false = 0

-- w: the bytes of a number
module _ (w : ℕ) where
  -- "Argument lists: count, then 0 (variable) or 1 (filter) and number."
  abbrev pub arg_kind : Bool → ℕ
  arg_kind true = 0
  arg_kind false = 1

  unfoldable pub arg_list : List Arg → List ℕ
  arg_list [] = []
  arg_list (a ∷ as') = arg_kind a.isv ∷ (number w a.num ++ arg_list as')

  -- "Pattern: 0 none, 1 variable, 2 with count, then key and pattern."
  abbrev pub pat_count : Pats → ℕ
  pat_count pats_nil = 0
  pat_count (pats_cons k x xs) = suc (pat_count xs)

  unfoldable mutual
    pub pat_bytes : Pat → List ℕ
    pat_bytes pat_var = 1 ∷ []
    pat_bytes (pat_idx xs) = 2 ∷ (number w (pat_count xs) ++ pats_bytes xs)

    pub pats_bytes : Pats → List ℕ
    pats_bytes pats_nil = []
    pats_bytes (pats_cons k x xs) = number w k ++ (pat_bytes x ++ pats_bytes xs)

  unfoldable pub opt_pat_bytes : Option Pat → List ℕ
  opt_pat_bytes none = 0 ∷ []
  opt_pat_bytes (some x) = pat_bytes x

  -- "Fold: 0 reduce, 1 foreach, 2 foreach and number."
  unfoldable pub fold_bytes : Folding → List ℕ
  fold_bytes reduce = 0 ∷ []
  fold_bytes (foreach none) = 1 ∷ []
  fold_bytes (foreach (some k)) = 2 ∷ number w k

  -- "Path: count, then for each part index (0, number) or range (1, two optional numbers, each after a 0/1 byte), then 1 if optional, else 0."
  unfoldable pub opt_number : Option ℕ → List ℕ
  opt_number none = 0 ∷ []
  opt_number (some k) = 1 ∷ number w k

  unfoldable pub step_bytes : Step → List ℕ
  step_bytes (index k o) = 0 ∷ (number w k ++ (flag o ∷ []))
  step_bytes (range i j o) = 1 ∷ (opt_number i ++ (opt_number j ++ (flag o ∷ [])))

  unfoldable pub steps_bytes : List Step → List ℕ
  steps_bytes [] = []
  steps_bytes (s ∷ ss) = step_bytes s ++ steps_bytes ss

  abbrev pub two : ℕ → ℕ → List ℕ
  two a b = number w a ++ number w b

  -- "Terms have tags 50 to 6B in the order of `Term`, members in Rust order, Int in eight bytes, bool, call kind, operator and each choice below in one, whole
  -- text as the content."
  abbrev pub node_bytes : Node → List ℕ
  node_bytes n_id = field 0x50 []
  node_bytes n_recurse = field 0x51 []
  node_bytes n_to_string = field 0x52 []
  node_bytes (n_int i) = field 0x53 (number 8 i)
  node_bytes (n_num x) = field 0x54 x
  node_bytes (n_str x) = field 0x55 x
  node_bytes (n_arr a) = field 0x56 (number w a)
  node_bytes n_obj_empty = field 0x57 []
  node_bytes (n_obj_single a b) = field 0x58 (two a b)
  node_bytes (n_var i) = field 0x59 (number w i)
  node_bytes (n_call_def n as' s k) = field 0x5A (number w n ++ (number w (length as') ++ (arg_list as' ++ (number w s ++ (kind_number k ∷ [])))))
  node_bytes (n_native i as') = field 0x5B (number w i ++ (number w (length as') ++ arg_list as'))
  node_bytes (n_label a) = field 0x5C (number w a)
  node_bytes (n_neg a) = field 0x5D (number w a)
  node_bytes (n_pipe a x b) = field 0x5E (number w a ++ (opt_pat_bytes x ++ number w b))
  node_bytes (n_comma a b) = field 0x5F (two a b)
  node_bytes (n_assign a b) = field 0x60 (two a b)
  node_bytes (n_update a b) = field 0x61 (two a b)
  node_bytes (n_update_math a k b) = field 0x62 (number w a ++ (k ∷ number w b))
  node_bytes (n_update_alt a b) = field 0x63 (two a b)
  node_bytes (n_logic a o b) = field 0x64 (number w a ++ (flag o ∷ number w b))
  node_bytes (n_math a k b) = field 0x65 (number w a ++ (k ∷ number w b))
  node_bytes (n_cmp a k b) = field 0x66 (number w a ++ (k ∷ number w b))
  node_bytes (n_alt a b) = field 0x67 (two a b)
  node_bytes (n_try_catch a b) = field 0x68 (two a b)
  node_bytes (n_ite a b c) = field 0x69 (number w a ++ two b c)
  node_bytes (n_fold a x b c f) = field 0x6A (number w a ++ (pat_bytes x ++ (two b c ++ fold_bytes f)))
  node_bytes (n_path a ss) = field 0x6B (number w a ++ (number w (length ss) ++ steps_bytes ss))

  abbrev pub rec_bytes : Rec → List ℕ
  rec_bytes r = node_bytes r.node

  -- in the order of their numbers
  abbrev pub table_bytes : List Rec → List ℕ
  table_bytes [] = []
  table_bytes (r ∷ rs) = rec_bytes r ++ table_bytes rs

  -- "Mod 28, Var 29, Label 2A, Filter 2B, with module, name's place in the tree bytes and length, Filter also arity."
  abbrev pub spot_bytes : Err → List ℕ
  spot_bytes x = number w x.home ++ (number w x.place ++ number w x.length)

  abbrev pub undefined_bytes : Undefined → List ℕ → List ℕ
  undefined_bytes u_mod at = field 0x28 at
  undefined_bytes u_var at = field 0x29 at
  undefined_bytes u_label at = field 0x2A at
  undefined_bytes (u_filter a) at = field 0x2B (at ++ number w a)

  abbrev pub err_bytes : Err → List ℕ
  err_bytes x = undefined_bytes x.what (spot_bytes x)

  -- "Errors keep the order they arose in."
  abbrev pub errs_bytes : List Err → List ℕ
  errs_bytes [] = []
  errs_bytes (x ∷ xs) = err_bytes x ++ errs_bytes xs

  -- "Listings open with field 00: edition 1, and for terms the main number."
  unfoldable pub term_listing : ℕ → List Rec → List ℕ
  term_listing main rs = field 0x00 (1 ∷ number w main) ++ table_bytes rs

  unfoldable pub error_listing : List Err → List ℕ
  error_listing xs = field 0x00 (1 ∷ []) ++ errs_bytes xs

-- "0: listing of .. terms; 1: listing of errors, nothing else": what is compiled is listed where there is no error
unfoldable pub listed : Compiled → List Err → Outcome
listed o [] = listing 0 (term_listing 2 o.main o.table)
listed o (x ∷ xs) = listing 1 (error_listing 2 (x ∷ xs))

-- "6: over 4,096 terms inserted, error paths counted": each insertion stands in the table, with errors or without
unfoldable pub compiling : Tree → Outcome
compiling t = let o = compile t in pick (ltb 4096 (length o.table)) (refusal 6 0) (listed o o.errs)
