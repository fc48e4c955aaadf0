-- The fields of a tree, TREE.md's table read from the tree's side: a clause for each constructor. Each function for members takes the rest of the row, so
-- that a list or an optional member stands at the end of a row and before more members alike. Assumes nothing.
use Rattle.std.specs.Prelude.{ℕ, List, [], ◌∷◌, length}
use Rattle.tree.specs.Rose.{Rose, Roses, leaf, node, rnil, rcons, Row}
use Rattle.tree.specs.Tree.{Name, Number, Mark, Format, Term, OptTerm, Terms, Branches, Defs, Def, Pattern, OptPattern, Patterns, PatEntries, Parts, Part, Bound, StrParts, StrPart, Entries, Native, Globals, Import, Uses, Module, Main, Tree}
use Rattle.tree.specs.Tree.{t_id, t_recurse, t_arr, t_neg, t_label, t_break, t_if_then_else, t_var, t_call, t_def, t_num, t_try_catch, t_fold, t_pipe, t_bin_op, t_path, t_str, t_obj}
use Rattle.tree.specs.Tree.{no_mark, a_mark, no_format, a_format, no_term, a_term, ts_nil, ts_cons, b_none, b_else, b_pair, ds_nil, ds_cons, def, p_var, p_arr, p_obj, no_pattern, a_pattern, ps_nil, ps_cons, pes_nil, pes_cons}
use Rattle.tree.specs.Tree.{parts_nil, parts_cons, part_index, part_range, without_bound, a_bound, s_nil, s_cons, s_text, s_char, s_term, es_nil, es_cons, no_globals, a_globals}

-- a text under the tag k, a number under the tag k
abbrev pub f_name : ℕ → Name → Rose
f_name k x = leaf k x.place x.text

abbrev pub f_number : ℕ → Number → Rose
f_number k n = leaf k n.place n.bytes

unfoldable pub f_names : ℕ → List Name → Roses → Roses
f_names k [] rs = rs
f_names k (x ∷ xs) rs = rcons (f_name k x) (f_names k xs rs)

unfoldable pub f_numbers : List Number → Roses → Roses
f_numbers [] rs = rs
f_numbers (n ∷ ns) rs = rcons (f_number 0x8D n) (f_numbers ns rs)

unfoldable pub f_mark : Mark → Roses → Roses
f_mark no_mark rs = rs
f_mark (a_mark p) rs = rcons (node 0xC0 p rnil) rs

unfoldable pub f_format : Format → Roses → Roses
f_format no_format rs = rs
f_format (a_format x) rs = rcons (f_name 0xBA x) rs

unfoldable mutual
  pub f_term : Term → Rose
  f_term (t_id p) = node 0xA0 p rnil
  f_term (t_recurse p) = node 0xA1 p rnil
  f_term (t_arr p o) = node 0xA2 p (f_opt_term o rnil)
  f_term (t_neg p t) = node 0xA3 p (rcons (f_term t) rnil)
  f_term (t_label p x t) = node 0xA4 p (rcons (f_name 0x90 x) (rcons (f_term t) rnil))
  f_term (t_break p x) = leaf 0xA5 p x
  f_term (t_if_then_else p q c t bs) = node 0xA6 p (rcons (node 0xB8 q (rcons (f_term c) (rcons (f_term t) rnil))) (f_branches bs))
  f_term (t_var p x) = leaf 0xA7 p x
  f_term (t_call p f ts) = node 0xA8 p (rcons (f_name 0x90 f) (f_terms ts rnil))
  f_term (t_def p ds t) = node 0xA9 p (f_defs ds (rcons (f_term t) rnil))
  f_term (t_num p x) = leaf 0xAA p x
  f_term (t_try_catch p t o) = node 0xAB p (rcons (f_term t) (f_opt_term o rnil))
  f_term (t_fold p f t x ts) = node 0xAC p (rcons (f_name 0x90 f) (rcons (f_term t) (rcons (f_pattern x) (f_terms ts rnil))))
  f_term (t_pipe p t q x u) = node 0xAD p (rcons (f_term t) (rcons (node 0xB7 q (f_opt_pattern x rnil)) (rcons (f_term u) rnil)))
  f_term (t_bin_op p t q x u) = node 0xAD p (rcons (f_term t) (rcons (leaf 0xB9 q x) (rcons (f_term u) rnil)))
  f_term (t_path p t ps) = node 0xAE p (rcons (f_term t) (f_parts ps rnil))
  f_term (t_str p f ps) = node 0xAF p (f_format f (f_str_parts ps rnil))
  f_term (t_obj p es) = node 0xB0 p (f_entries es rnil)

  pub f_opt_term : OptTerm → Roses → Roses
  f_opt_term no_term rs = rs
  f_opt_term (a_term t) rs = rcons (f_term t) rs

  pub f_terms : Terms → Roses → Roses
  f_terms ts_nil rs = rs
  f_terms (ts_cons t ts) rs = rcons (f_term t) (f_terms ts rs)

  -- the else, where there is one, is a conditional's last member
  pub f_branches : Branches → Roses
  f_branches b_none = rnil
  f_branches (b_else t) = rcons (f_term t) rnil
  f_branches (b_pair q c t bs) = rcons (node 0xB8 q (rcons (f_term c) (rcons (f_term t) rnil))) (f_branches bs)

  pub f_defs : Defs → Roses → Roses
  f_defs ds_nil rs = rs
  f_defs (ds_cons d ds) rs = rcons (f_def d) (f_defs ds rs)

  pub f_def : Def → Rose
  f_def (def p f xs t) = node 0x8C p (rcons (f_name 0x90 f) (f_names 0x91 xs (rcons (f_term t) rnil)))

  pub f_pattern : Pattern → Rose
  f_pattern (p_var p x) = leaf 0x98 p x
  f_pattern (p_arr p xs) = node 0x99 p (f_patterns xs rnil)
  f_pattern (p_obj p es) = node 0x9A p (f_pat_entries es rnil)

  pub f_opt_pattern : OptPattern → Roses → Roses
  f_opt_pattern no_pattern rs = rs
  f_opt_pattern (a_pattern x) rs = rcons (f_pattern x) rs

  pub f_patterns : Patterns → Roses → Roses
  f_patterns ps_nil rs = rs
  f_patterns (ps_cons x xs) rs = rcons (f_pattern x) (f_patterns xs rs)

  pub f_pat_entries : PatEntries → Roses → Roses
  f_pat_entries pes_nil rs = rs
  f_pat_entries (pes_cons q t x es) rs = rcons (node 0x9B q (rcons (f_term t) (rcons (f_pattern x) rnil))) (f_pat_entries es rs)

  pub f_parts : Parts → Roses → Roses
  f_parts parts_nil rs = rs
  f_parts (parts_cons x xs) rs = rcons (f_part x) (f_parts xs rs)

  pub f_part : Part → Rose
  f_part (part_index p t m) = node 0xBE p (rcons (f_term t) (f_mark m rnil))
  f_part (part_range p a z m) = node 0xBF p (f_bound 0xC1 a (f_bound 0xC2 z (f_mark m rnil)))

  pub f_bound : ℕ → Bound → Roses → Roses
  f_bound k without_bound rs = rs
  f_bound k (a_bound q t) rs = rcons (node k q (rcons (f_term t) rnil)) rs

  pub f_str_parts : StrParts → Roses → Roses
  f_str_parts s_nil rs = rs
  f_str_parts (s_cons x xs) rs = rcons (f_str_part x) (f_str_parts xs rs)

  pub f_str_part : StrPart → Rose
  f_str_part (s_text x) = f_name 0xBB x
  f_str_part (s_char n) = f_number 0xBC n
  f_str_part (s_term t) = f_term t

  pub f_entries : Entries → Roses → Roses
  f_entries es_nil rs = rs
  f_entries (es_cons q t o es) rs = rcons (node 0xBD q (rcons (f_term t) (f_opt_term o rnil))) (f_entries es rs)

unfoldable pub f_native : Native → Rose
f_native n = node 0x85 n.place (rcons (f_name 0x90 n.name) (f_names 0x91 n.params rnil))

unfoldable pub f_natives : List Native → Roses → Roses
f_natives [] rs = rs
f_natives (n ∷ ns) rs = rcons (f_native n) (f_natives ns rs)

unfoldable pub f_globals : Globals → Roses → Roses
f_globals no_globals rs = rs
f_globals (a_globals p xs) rs = rcons (node 0x82 p (f_names 0x90 xs rnil)) rs

unfoldable pub f_import : Import → Rose
f_import i = node 0x8A i.place (rcons (f_number 0x8D i.number) (rcons (f_name 0x90 i.name) rnil))

unfoldable pub f_imports : List Import → Roses → Roses
f_imports [] rs = rs
f_imports (i ∷ is) rs = rcons (f_import i) (f_imports is rs)

-- the first three members of a module and of main
unfoldable pub f_uses : Uses → Roses → Roses
f_uses u rs =
    rcons (node 0x86 u.imports_at (f_imports u.imports rnil))
    (rcons (node 0x87 u.includes_at (f_numbers u.includes rnil)) (rcons (node 0x88 u.vars_at (f_names 0x90 u.vars rnil)) rs))

unfoldable pub f_module : Module → Rose
f_module m = node 0x83 m.place (f_uses m.uses (rcons (node 0x89 m.defs_at (f_defs m.defs rnil)) rnil))

unfoldable pub f_modules : List Module → Roses → Roses
f_modules [] rs = rs
f_modules (m ∷ ms) rs = rcons (f_module m) (f_modules ms rs)

unfoldable pub f_main : Main → Rose
f_main m = node 0x84 m.place (f_uses m.uses (rcons (f_term m.body) rnil))

unfoldable pub f_tree : Tree → Rose
f_tree t =
    node 0x80 t.place
    (rcons (node 0x81 t.natives_at (f_natives t.natives rnil)) (f_globals t.globals (f_modules t.modules (rcons (f_main t.main) rnil))))

-- the fields of the tree stand in the bytes at their places, and fill them: "A tree is one field"
unfoldable pub At : List ℕ → Tree → Type 0
At b t = Row b (rcons (f_tree t) rnil) 0 (length b)
