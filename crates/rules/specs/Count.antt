-- How many terms are inserted, read off the tree: no name and no error changes it. Document 01: "6: over 4,096 terms inserted, error paths counted".
-- Assumes nothing.
use Rattle.std.specs.Prelude.{cond}
use Rattle.std.proofs.Math.Option.{Option, none, some}
use mathlib.Core.List.{List, [], ◌∷◌}
use Prim.Native.Nat.{ℕ, ◌+◌}
use Rattle.tree.specs.Tree.{Term, OptTerm, no_term, a_term, Terms, ts_nil, ts_cons, Branches, b_none, b_else, b_pair, Defs, ds_nil, ds_cons, Def, def, Pattern, p_var, p_arr, p_obj, OptPattern, no_pattern, a_pattern, Patterns, ps_nil, ps_cons, PatEntries, pes_nil, pes_cons, Parts, parts_nil, parts_cons, Part, part_index, part_range, Bound, without_bound, a_bound, StrParts, s_nil, s_cons, StrPart, s_text, s_char, s_term, Entries, es_nil, es_cons, Module, Tree, t_id, t_recurse, t_arr, t_neg, t_label, t_break, t_if_then_else, t_var, t_call, t_def, t_num, t_try_catch, t_fold, t_pipe, t_bin_op, t_path, t_str, t_obj}
use Rattle.rules.specs.Names.{Text, same, ascii}
use Rattle.rules.specs.Outs.{var_name}

-- ---- the count

-- "`reduce` needs two, `foreach` two or three; any other name or count fails likewise after update, compiling no more.": what the arguments behind update
-- insert, where each would insert as many as the list says
abbrev pub fold_rest : Text → List ℕ → ℕ
fold_rest f [] = 0
fold_rest f (p ∷ []) = cond (same f (ascii "foreach")) p 0
fold_rest f (p ∷ q ∷ ws) = 0

-- "Fold with fewer than two arguments fails .. before compiling anything.": of a Fold named f, where source and pattern would insert k
abbrev pub fold_count : Text → ℕ → List ℕ → ℕ
fold_count f k [] = 0
fold_count f k (i ∷ []) = 0
fold_count f k (i ∷ u ∷ ws) = k + i + u + fold_rest f ws

-- two numbers for a sum with what follows, if something does
abbrev pub joint : Option ℕ → ℕ
joint none = 0
joint (some k) = 2 + k

abbrev pub or_none : Option ℕ → ℕ
or_none none = 0
or_none (some k) = k

-- a lone `$x` has a key beside itself, any other lone key an Id and a Path
abbrev pub lone_count : Option Text → ℕ
lone_count none = 2
lone_count (some x) = 1

unfoldable mutual
  -- the numbers that a term takes, its own included
  pub in_term : Term → ℕ
  in_term (t_id p) = 1
  in_term (t_recurse p) = 1
  in_term (t_arr p o) = 1 + in_or o
  in_term (t_neg p t) = 1 + in_term t
  in_term (t_label p x t) = 1 + in_term t
  in_term (t_break p x) = 1
  in_term (t_if_then_else p q t u bs) = 1 + in_term t + in_term u + in_branches bs
  in_term (t_var p x) = 1
  in_term (t_call p f ts) = 1 + in_terms ts
  in_term (t_def p ds t) = in_defs ds + in_term t
  in_term (t_num p x) = 1
  in_term (t_try_catch p t o) = 1 + in_term t + in_or o
  in_term (t_fold p f t x ts) = 1 + fold_count f.text (in_term t + in_pattern x) (each_term ts)
  in_term (t_pipe p t q x u) = 1 + in_term t + in_term u + in_opt_pattern x
  in_term (t_bin_op p t q x u) = 1 + in_term t + in_term u
  in_term (t_path p t ps) = 1 + in_term t + in_parts ps
  in_term (t_str p f ss) = 2 + or_none (in_strings ss)
  in_term (t_obj p es) = 1 + or_none (in_entries es)

  pub in_or : OptTerm → ℕ
  in_or no_term = 1
  in_or (a_term t) = in_term t

  pub in_terms : Terms → ℕ
  in_terms ts_nil = 0
  in_terms (ts_cons t ts) = in_term t + in_terms ts

  pub each_term : Terms → List ℕ
  each_term ts_nil = []
  each_term (ts_cons t ts) = in_term t ∷ each_term ts

  pub in_branches : Branches → ℕ
  in_branches b_none = 1
  in_branches (b_else t) = in_term t
  in_branches (b_pair q t u bs) = 1 + in_term t + in_term u + in_branches bs

  pub in_defs : Defs → ℕ
  in_defs ds_nil = 0
  in_defs (ds_cons d ds) = in_def d + in_defs ds

  pub in_def : Def → ℕ
  in_def (def p f ps t) = in_term t

  pub in_pattern : Pattern → ℕ
  in_pattern (p_var p x) = 0
  in_pattern (p_arr p xs) = in_elements xs
  in_pattern (p_obj p xs) = in_keyed xs

  pub in_opt_pattern : OptPattern → ℕ
  in_opt_pattern no_pattern = 0
  in_opt_pattern (a_pattern x) = in_pattern x

  pub in_elements : Patterns → ℕ
  in_elements ps_nil = 0
  in_elements (ps_cons x xs) = 1 + in_pattern x + in_elements xs

  pub in_keyed : PatEntries → ℕ
  in_keyed pes_nil = 0
  in_keyed (pes_cons q t x xs) = in_term t + in_pattern x + in_keyed xs

  pub in_parts : Parts → ℕ
  in_parts parts_nil = 0
  in_parts (parts_cons x xs) = in_part x + in_parts xs

  pub in_part : Part → ℕ
  in_part (part_index q t o) = in_term t
  in_part (part_range q l u o) = in_bound l + in_bound u

  pub in_bound : Bound → ℕ
  in_bound without_bound = 0
  in_bound (a_bound q t) = in_term t

  -- what the parts of a string insert, their sums included
  pub in_strings : StrParts → Option ℕ
  in_strings s_nil = none
  in_strings (s_cons x ss) = some (in_string x + joint (in_strings ss))

  pub in_string : StrPart → ℕ
  in_string (s_text x) = 0
  in_string (s_char x) = 0
  in_string (s_term t) = in_term t

  pub in_entries : Entries → Option ℕ
  in_entries es_nil = none
  in_entries (es_cons q t v es) = some (in_term t + in_value v (var_name t) + joint (in_entries es))

  pub in_value : OptTerm → Option Text → ℕ
  in_value no_term x = lone_count x
  in_value (a_term t) x = in_term t

-- "over 4,096 terms inserted": of the whole tree
abbrev pub in_modules : List Module → ℕ
in_modules [] = 0
in_modules (m ∷ ms) = in_defs m.defs + in_modules ms

abbrev pub inserted : Tree → ℕ
inserted t = in_modules t.modules + in_term t.main.body
