-- The definitions that stand in a tree, compiled or not. Assumes nothing.
use Rattle.std.specs.Prelude.{List, [], ◌∷◌, ◌++◌}
use Rattle.tree.specs.Tree.{Term, OptTerm, no_term, a_term, Terms, ts_nil, ts_cons, Branches, b_none, b_else, b_pair, Defs, ds_nil, ds_cons, Def, def, Pattern, p_var, p_arr, p_obj, OptPattern, no_pattern, a_pattern, Patterns, ps_nil, ps_cons, PatEntries, pes_nil, pes_cons, Parts, parts_nil, parts_cons, Part, part_index, part_range, Bound, without_bound, a_bound, StrParts, s_nil, s_cons, StrPart, s_text, s_char, s_term, Entries, es_nil, es_cons, Module, Tree, t_id, t_recurse, t_arr, t_neg, t_label, t_break, t_if_then_else, t_var, t_call, t_def, t_num, t_try_catch, t_fold, t_pipe, t_bin_op, t_path, t_str, t_obj}

unfoldable mutual
  pub defs_in : Term → List Def
  defs_in (t_id p) = []
  defs_in (t_recurse p) = []
  defs_in (t_arr p o) = defs_opt o
  defs_in (t_neg p t) = defs_in t
  defs_in (t_label p x t) = defs_in t
  defs_in (t_break p x) = []
  defs_in (t_if_then_else p q t u bs) = defs_in t ++ (defs_in u ++ defs_branches bs)
  defs_in (t_var p x) = []
  defs_in (t_call p f ts) = defs_terms ts
  defs_in (t_def p ds t) = defs_all ds ++ defs_in t
  defs_in (t_num p x) = []
  defs_in (t_try_catch p t o) = defs_in t ++ defs_opt o
  defs_in (t_fold p f t x ts) = defs_in t ++ (defs_pattern x ++ defs_terms ts)
  defs_in (t_pipe p t q x u) = defs_in t ++ (defs_in u ++ defs_opt_pattern x)
  defs_in (t_bin_op p t q x u) = defs_in t ++ defs_in u
  defs_in (t_path p t ps) = defs_in t ++ defs_parts ps
  defs_in (t_str p f ss) = defs_strings ss
  defs_in (t_obj p es) = defs_entries es

  pub defs_opt : OptTerm → List Def
  defs_opt no_term = []
  defs_opt (a_term t) = defs_in t

  pub defs_terms : Terms → List Def
  defs_terms ts_nil = []
  defs_terms (ts_cons t ts) = defs_in t ++ defs_terms ts

  pub defs_branches : Branches → List Def
  defs_branches b_none = []
  defs_branches (b_else t) = defs_in t
  defs_branches (b_pair q t u bs) = defs_in t ++ (defs_in u ++ defs_branches bs)

  pub defs_all : Defs → List Def
  defs_all ds_nil = []
  defs_all (ds_cons d ds) = d ∷ (defs_body d ++ defs_all ds)

  pub defs_body : Def → List Def
  defs_body (def p f ps t) = defs_in t

  pub defs_pattern : Pattern → List Def
  defs_pattern (p_var p x) = []
  defs_pattern (p_arr p xs) = defs_elements xs
  defs_pattern (p_obj p xs) = defs_keyed xs

  pub defs_opt_pattern : OptPattern → List Def
  defs_opt_pattern no_pattern = []
  defs_opt_pattern (a_pattern x) = defs_pattern x

  pub defs_elements : Patterns → List Def
  defs_elements ps_nil = []
  defs_elements (ps_cons x xs) = defs_pattern x ++ defs_elements xs

  pub defs_keyed : PatEntries → List Def
  defs_keyed pes_nil = []
  defs_keyed (pes_cons q t x xs) = defs_in t ++ (defs_pattern x ++ defs_keyed xs)

  pub defs_parts : Parts → List Def
  defs_parts parts_nil = []
  defs_parts (parts_cons x xs) = defs_part x ++ defs_parts xs

  pub defs_part : Part → List Def
  defs_part (part_index q t o) = defs_in t
  defs_part (part_range q l u o) = defs_bound l ++ defs_bound u

  pub defs_bound : Bound → List Def
  defs_bound without_bound = []
  defs_bound (a_bound q t) = defs_in t

  pub defs_strings : StrParts → List Def
  defs_strings s_nil = []
  defs_strings (s_cons x ss) = defs_string x ++ defs_strings ss

  pub defs_string : StrPart → List Def
  defs_string (s_text x) = []
  defs_string (s_char x) = []
  defs_string (s_term t) = defs_in t

  pub defs_entries : Entries → List Def
  defs_entries es_nil = []
  defs_entries (es_cons q t v es) = defs_in t ++ (defs_opt v ++ defs_entries es)

unfoldable pub defs_modules : List Module → List Def
defs_modules [] = []
defs_modules (m ∷ ms) = defs_all m.defs ++ defs_modules ms

unfoldable pub defs_of : Tree → List Def
defs_of t = defs_modules t.modules ++ defs_in t.main.body
