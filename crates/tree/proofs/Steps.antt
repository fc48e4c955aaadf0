-- Of each tag: its field, with the content that the table allows, is that of a part of a tree. Made by tools/tree_table.py from TREE.md's table; each row of
-- members stands here written out, and `all-steps` compares it with the table. Assumes nothing.
use Rattle.std.specs.Prelude.{ℕ, ◌≡◌, refl, List, [], ◌∷◌}
use Rattle.std.proofs.Common.{sym, ap, ◌∙◌}
use Rattle.tree.specs.Rose.{Roses, leaf, node, rnil, rcons}
use Rattle.tree.specs.Table.{classes, shapes, items}
use Rattle.tree.specs.Leaf.{class, shape}
use Rattle.tree.specs.Grammar.{end, one, opt, many, mix, decode, row_at}
use Rattle.tree.specs.Tree.{Term, t_id, t_recurse, t_arr, t_neg, t_label, t_break, t_if_then_else, t_var, t_call, t_def, t_num, t_try_catch, t_fold, t_pipe, t_bin_op, t_path, t_str, t_obj}
use Rattle.tree.specs.Tree.{def, p_var, p_arr, p_obj, part_index, part_range, s_text, s_char}
use Rattle.tree.specs.Form.{f_name, f_number, f_names, f_numbers, f_mark, f_format, f_term, f_opt_term, f_terms, f_defs, f_pattern, f_opt_pattern, f_patterns, f_pat_entries, f_parts, f_bound, f_str_parts, f_entries}
use Rattle.tree.specs.Form.{f_native, f_natives, f_globals, f_import, f_imports, f_uses, f_module, f_modules, f_main, f_tree}
use Rattle.tree.proofs.Match.{Match, Step}
use Rattle.tree.proofs.Meaning.{Meaning, Op, op_pipe, op_byte, g_op, g_natives, g_imports, g_includes, g_vars, g_defs, g_pair, member, branches}
use Rattle.tree.proofs.Meaning.{term?, pattern?, mark?, format?, from?, upto?, globals?, terms, definitions, patterns, pat_entries, entries, parts, names, params, numbers, imports, natives, modules, str_parts}

-- a BinOp, of either kind of operator
binary : (p : ℕ) (t : Term) (o : Op) (u : Term) → (v : Term) × (f_term v ≡ node 0xAD p (rcons (f_term t) (rcons (g_op o) (rcons (f_term u) rnil))))
unfolding f_term
binary p t (op_pipe q x) u = (t_pipe p t q x u, refl)
binary p t (op_byte q x) u = (t_bin_op p t q x u, refl)

step-80 : (p : ℕ) (rs : Roses) → Match Meaning (one 2 (opt 3 (many 4 (one 5 end)))) rs → Meaning 1 (node 0x80 p rs)
unfolding f_term f_native f_import f_uses f_module f_main f_tree
step-80 p rs h =
    let a = member g_natives (Match Meaning (opt 3 (many 4 (one 5 end)))) rs h in
    let b = globals? (many 4 (one 5 end)) a.1 a.3 in
    let c = modules (one 5 end) b.1 b.3 in
    let d = member f_main (Match Meaning end) c.1 c.3 in
    (record { place = p; natives_at = a.0.0; natives = a.0.1; globals = b.0; modules = c.0; main = d.0 }, ap (node 0x80 p) (ap (rcons (g_natives a.0)) (ap (f_globals b.0) (ap (f_modules c.0) (ap (rcons (f_main d.0)) (sym d.3) ∙ d.2) ∙ c.2) ∙ b.2) ∙ a.2))

step-81 : (p : ℕ) (rs : Roses) → Match Meaning (many 6 end) rs → Meaning 2 (node 0x81 p rs)
unfolding f_term f_native f_import f_uses f_module f_main f_tree
step-81 p rs h =
    let a = natives end rs h in
    ((p, a.0), ap (node 0x81 p) (ap (f_natives a.0) (sym a.3) ∙ a.2))

step-82 : (p : ℕ) (rs : Roses) → Match Meaning (many 14 end) rs → Meaning 3 (node 0x82 p rs)
unfolding f_term f_native f_import f_uses f_module f_main f_tree
step-82 p rs h =
    let a = names end rs h in
    ((p, a.0), ap (node 0x82 p) (ap (f_names 0x90 a.0) (sym a.3) ∙ a.2))

step-83 : (p : ℕ) (rs : Roses) → Match Meaning (one 7 (one 8 (one 9 (one 10 end)))) rs → Meaning 4 (node 0x83 p rs)
unfolding f_term f_native f_import f_uses f_module f_main f_tree
step-83 p rs h =
    let a = member g_imports (Match Meaning (one 8 (one 9 (one 10 end)))) rs h in
    let b = member g_includes (Match Meaning (one 9 (one 10 end))) a.1 a.3 in
    let c = member g_vars (Match Meaning (one 10 end)) b.1 b.3 in
    let d = member g_defs (Match Meaning end) c.1 c.3 in
    (record { place = p; uses = record { imports_at = a.0.0; imports = a.0.1; includes_at = b.0.0; includes = b.0.1; vars_at = c.0.0; vars = c.0.1 }; defs_at = d.0.0; defs = d.0.1 }, ap (node 0x83 p) (ap (rcons (g_imports a.0)) (ap (rcons (g_includes b.0)) (ap (rcons (g_vars c.0)) (ap (rcons (g_defs d.0)) (sym d.3) ∙ d.2) ∙ c.2) ∙ b.2) ∙ a.2))

step-84 : (p : ℕ) (rs : Roses) → Match Meaning (one 7 (one 8 (one 9 (one 18 end)))) rs → Meaning 5 (node 0x84 p rs)
unfolding f_term f_native f_import f_uses f_module f_main f_tree
step-84 p rs h =
    let a = member g_imports (Match Meaning (one 8 (one 9 (one 18 end)))) rs h in
    let b = member g_includes (Match Meaning (one 9 (one 18 end))) a.1 a.3 in
    let c = member g_vars (Match Meaning (one 18 end)) b.1 b.3 in
    let d = member f_term (Match Meaning end) c.1 c.3 in
    (record { place = p; uses = record { imports_at = a.0.0; imports = a.0.1; includes_at = b.0.0; includes = b.0.1; vars_at = c.0.0; vars = c.0.1 }; body = d.0 }, ap (node 0x84 p) (ap (rcons (g_imports a.0)) (ap (rcons (g_includes b.0)) (ap (rcons (g_vars c.0)) (ap (rcons (f_term d.0)) (sym d.3) ∙ d.2) ∙ c.2) ∙ b.2) ∙ a.2))

step-85 : (p : ℕ) (rs : Roses) → Match Meaning (one 14 (many 15 end)) rs → Meaning 6 (node 0x85 p rs)
unfolding f_term f_native f_import f_uses f_module f_main f_tree
step-85 p rs h =
    let a = member (f_name 0x90) (Match Meaning (many 15 end)) rs h in
    let b = params end a.1 a.3 in
    (record { place = p; name = a.0; params = b.0 }, ap (node 0x85 p) (ap (rcons (f_name 0x90 a.0)) (ap (f_names 0x91 b.0) (sym b.3) ∙ b.2) ∙ a.2))

step-86 : (p : ℕ) (rs : Roses) → Match Meaning (many 11 end) rs → Meaning 7 (node 0x86 p rs)
unfolding f_term f_native f_import f_uses f_module f_main f_tree
step-86 p rs h =
    let a = imports end rs h in
    ((p, a.0), ap (node 0x86 p) (ap (f_imports a.0) (sym a.3) ∙ a.2))

step-87 : (p : ℕ) (rs : Roses) → Match Meaning (many 13 end) rs → Meaning 8 (node 0x87 p rs)
unfolding f_term f_native f_import f_uses f_module f_main f_tree
step-87 p rs h =
    let a = numbers end rs h in
    ((p, a.0), ap (node 0x87 p) (ap (f_numbers a.0) (sym a.3) ∙ a.2))

step-88 : (p : ℕ) (rs : Roses) → Match Meaning (many 14 end) rs → Meaning 9 (node 0x88 p rs)
unfolding f_term f_native f_import f_uses f_module f_main f_tree
step-88 p rs h =
    let a = names end rs h in
    ((p, a.0), ap (node 0x88 p) (ap (f_names 0x90 a.0) (sym a.3) ∙ a.2))

step-89 : (p : ℕ) (rs : Roses) → Match Meaning (many 12 end) rs → Meaning 10 (node 0x89 p rs)
unfolding f_term f_native f_import f_uses f_module f_main f_tree
step-89 p rs h =
    let a = definitions end rs h in
    ((p, a.0), ap (node 0x89 p) (ap (f_defs a.0) (sym a.3) ∙ a.2))

step-8A : (p : ℕ) (rs : Roses) → Match Meaning (one 13 (one 14 end)) rs → Meaning 11 (node 0x8A p rs)
unfolding f_term f_native f_import f_uses f_module f_main f_tree
step-8A p rs h =
    let a = member (f_number 0x8D) (Match Meaning (one 14 end)) rs h in
    let b = member (f_name 0x90) (Match Meaning end) a.1 a.3 in
    (record { place = p; number = a.0; name = b.0 }, ap (node 0x8A p) (ap (rcons (f_number 0x8D a.0)) (ap (rcons (f_name 0x90 b.0)) (sym b.3) ∙ b.2) ∙ a.2))

step-8C : (p : ℕ) (rs : Roses) → Match Meaning (one 14 (many 15 (one 18 end))) rs → Meaning 12 (node 0x8C p rs)
unfolding f_term f_native f_import f_uses f_module f_main f_tree
step-8C p rs h =
    let a = member (f_name 0x90) (Match Meaning (many 15 (one 18 end))) rs h in
    let b = params (one 18 end) a.1 a.3 in
    let c = member f_term (Match Meaning end) b.1 b.3 in
    (def p a.0 b.0 c.0, ap (node 0x8C p) (ap (rcons (f_name 0x90 a.0)) (ap (f_names 0x91 b.0) (ap (rcons (f_term c.0)) (sym c.3) ∙ c.2) ∙ b.2) ∙ a.2))

step-8D : (p : ℕ) (x : List ℕ) → Meaning 13 (leaf 0x8D p x)
unfolding f_term
step-8D p x = (record { place = p; bytes = x }, refl)

step-90 : (p : ℕ) (x : List ℕ) → Meaning 14 (leaf 0x90 p x)
unfolding f_term
step-90 p x = (record { place = p; text = x }, refl)

step-91 : (p : ℕ) (x : List ℕ) → Meaning 15 (leaf 0x91 p x)
unfolding f_term
step-91 p x = (record { place = p; text = x }, refl)

step-98 : (p : ℕ) (x : List ℕ) → Meaning 16 (leaf 0x98 p x)
unfolding f_term
step-98 p x = (p_var p x, refl)

step-99 : (p : ℕ) (rs : Roses) → Match Meaning (many 16 end) rs → Meaning 16 (node 0x99 p rs)
unfolding f_term f_native f_import f_uses f_module f_main f_tree
step-99 p rs h =
    let a = patterns end rs h in
    (p_arr p a.0, ap (node 0x99 p) (ap (f_patterns a.0) (sym a.3) ∙ a.2))

step-9A : (p : ℕ) (rs : Roses) → Match Meaning (many 17 end) rs → Meaning 16 (node 0x9A p rs)
unfolding f_term f_native f_import f_uses f_module f_main f_tree
step-9A p rs h =
    let a = pat_entries end rs h in
    (p_obj p a.0, ap (node 0x9A p) (ap (f_pat_entries a.0) (sym a.3) ∙ a.2))

step-9B : (p : ℕ) (rs : Roses) → Match Meaning (one 18 (one 16 end)) rs → Meaning 17 (node 0x9B p rs)
unfolding f_term f_native f_import f_uses f_module f_main f_tree
step-9B p rs h =
    let a = member f_term (Match Meaning (one 16 end)) rs h in
    let b = member f_pattern (Match Meaning end) a.1 a.3 in
    ((p, a.0, b.0), ap (node 0x9B p) (ap (rcons (f_term a.0)) (ap (rcons (f_pattern b.0)) (sym b.3) ∙ b.2) ∙ a.2))

step-A0 : (p : ℕ) (rs : Roses) → Match Meaning end rs → Meaning 18 (node 0xA0 p rs)
unfolding f_term f_native f_import f_uses f_module f_main f_tree
step-A0 p rs h =
    (t_id p, ap (node 0xA0 p) (sym h))

step-A1 : (p : ℕ) (rs : Roses) → Match Meaning end rs → Meaning 18 (node 0xA1 p rs)
unfolding f_term f_native f_import f_uses f_module f_main f_tree
step-A1 p rs h =
    (t_recurse p, ap (node 0xA1 p) (sym h))

step-A2 : (p : ℕ) (rs : Roses) → Match Meaning (opt 18 end) rs → Meaning 18 (node 0xA2 p rs)
unfolding f_term f_native f_import f_uses f_module f_main f_tree
step-A2 p rs h =
    let a = term? end rs h in
    (t_arr p a.0, ap (node 0xA2 p) (ap (f_opt_term a.0) (sym a.3) ∙ a.2))

step-A3 : (p : ℕ) (rs : Roses) → Match Meaning (one 18 end) rs → Meaning 18 (node 0xA3 p rs)
unfolding f_term f_native f_import f_uses f_module f_main f_tree
step-A3 p rs h =
    let a = member f_term (Match Meaning end) rs h in
    (t_neg p a.0, ap (node 0xA3 p) (ap (rcons (f_term a.0)) (sym a.3) ∙ a.2))

step-A4 : (p : ℕ) (rs : Roses) → Match Meaning (one 14 (one 18 end)) rs → Meaning 18 (node 0xA4 p rs)
unfolding f_term f_native f_import f_uses f_module f_main f_tree
step-A4 p rs h =
    let a = member (f_name 0x90) (Match Meaning (one 18 end)) rs h in
    let b = member f_term (Match Meaning end) a.1 a.3 in
    (t_label p a.0 b.0, ap (node 0xA4 p) (ap (rcons (f_name 0x90 a.0)) (ap (rcons (f_term b.0)) (sym b.3) ∙ b.2) ∙ a.2))

step-A5 : (p : ℕ) (x : List ℕ) → Meaning 18 (leaf 0xA5 p x)
unfolding f_term
step-A5 p x = (t_break p x, refl)

step-A6 : (p : ℕ) (rs : Roses) → Match Meaning (one 20 (many 20 (opt 18 end))) rs → Meaning 18 (node 0xA6 p rs)
unfolding f_term f_native f_import f_uses f_module f_main f_tree
step-A6 p rs h =
    let a = member g_pair (Match Meaning (many 20 (opt 18 end))) rs h in
    let w = branches a.1 a.3 in
    (t_if_then_else p a.0.0 a.0.1 a.0.2 w.0, ap (node 0xA6 p) (ap (rcons (g_pair a.0)) w.1 ∙ a.2))

step-A7 : (p : ℕ) (x : List ℕ) → Meaning 18 (leaf 0xA7 p x)
unfolding f_term
step-A7 p x = (t_var p x, refl)

step-A8 : (p : ℕ) (rs : Roses) → Match Meaning (one 14 (many 18 end)) rs → Meaning 18 (node 0xA8 p rs)
unfolding f_term f_native f_import f_uses f_module f_main f_tree
step-A8 p rs h =
    let a = member (f_name 0x90) (Match Meaning (many 18 end)) rs h in
    let b = terms end a.1 a.3 in
    (t_call p a.0 b.0, ap (node 0xA8 p) (ap (rcons (f_name 0x90 a.0)) (ap (f_terms b.0) (sym b.3) ∙ b.2) ∙ a.2))

step-A9 : (p : ℕ) (rs : Roses) → Match Meaning (many 12 (one 18 end)) rs → Meaning 18 (node 0xA9 p rs)
unfolding f_term f_native f_import f_uses f_module f_main f_tree
step-A9 p rs h =
    let a = definitions (one 18 end) rs h in
    let b = member f_term (Match Meaning end) a.1 a.3 in
    (t_def p a.0 b.0, ap (node 0xA9 p) (ap (f_defs a.0) (ap (rcons (f_term b.0)) (sym b.3) ∙ b.2) ∙ a.2))

step-AA : (p : ℕ) (x : List ℕ) → Meaning 18 (leaf 0xAA p x)
unfolding f_term
step-AA p x = (t_num p x, refl)

step-AB : (p : ℕ) (rs : Roses) → Match Meaning (one 18 (opt 18 end)) rs → Meaning 18 (node 0xAB p rs)
unfolding f_term f_native f_import f_uses f_module f_main f_tree
step-AB p rs h =
    let a = member f_term (Match Meaning (opt 18 end)) rs h in
    let b = term? end a.1 a.3 in
    (t_try_catch p a.0 b.0, ap (node 0xAB p) (ap (rcons (f_term a.0)) (ap (f_opt_term b.0) (sym b.3) ∙ b.2) ∙ a.2))

step-AC : (p : ℕ) (rs : Roses) → Match Meaning (one 14 (one 18 (one 16 (many 18 end)))) rs → Meaning 18 (node 0xAC p rs)
unfolding f_term f_native f_import f_uses f_module f_main f_tree
step-AC p rs h =
    let a = member (f_name 0x90) (Match Meaning (one 18 (one 16 (many 18 end)))) rs h in
    let b = member f_term (Match Meaning (one 16 (many 18 end))) a.1 a.3 in
    let c = member f_pattern (Match Meaning (many 18 end)) b.1 b.3 in
    let d = terms end c.1 c.3 in
    (t_fold p a.0 b.0 c.0 d.0, ap (node 0xAC p) (ap (rcons (f_name 0x90 a.0)) (ap (rcons (f_term b.0)) (ap (rcons (f_pattern c.0)) (ap (f_terms d.0) (sym d.3) ∙ d.2) ∙ c.2) ∙ b.2) ∙ a.2))

step-AD : (p : ℕ) (rs : Roses) → Match Meaning (one 18 (one 19 (one 18 end))) rs → Meaning 18 (node 0xAD p rs)
unfolding f_term f_native f_import f_uses f_module f_main f_tree
step-AD p rs h =
    let a = member f_term (Match Meaning (one 19 (one 18 end))) rs h in
    let b = member g_op (Match Meaning (one 18 end)) a.1 a.3 in
    let c = member f_term (Match Meaning end) b.1 b.3 in
    let w = binary p a.0 b.0 c.0 in
    (w.0, w.1 ∙ ap (node 0xAD p) (ap (rcons (f_term a.0)) (ap (rcons (g_op b.0)) (ap (rcons (f_term c.0)) (sym c.3) ∙ c.2) ∙ b.2) ∙ a.2))

step-AE : (p : ℕ) (rs : Roses) → Match Meaning (one 18 (many 24 end)) rs → Meaning 18 (node 0xAE p rs)
unfolding f_term f_native f_import f_uses f_module f_main f_tree
step-AE p rs h =
    let a = member f_term (Match Meaning (many 24 end)) rs h in
    let b = parts end a.1 a.3 in
    (t_path p a.0 b.0, ap (node 0xAE p) (ap (rcons (f_term a.0)) (ap (f_parts b.0) (sym b.3) ∙ b.2) ∙ a.2))

step-AF : (p : ℕ) (rs : Roses) → Match Meaning (opt 21 (mix 22 end)) rs → Meaning 18 (node 0xAF p rs)
unfolding f_term f_native f_import f_uses f_module f_main f_tree
step-AF p rs h =
    let a = format? (mix 22 end) rs h in
    let b = str_parts end a.1 a.3 in
    (t_str p a.0 b.0, ap (node 0xAF p) (ap (f_format a.0) (ap (f_str_parts b.0) (sym b.3) ∙ b.2) ∙ a.2))

step-B0 : (p : ℕ) (rs : Roses) → Match Meaning (many 23 end) rs → Meaning 18 (node 0xB0 p rs)
unfolding f_term f_native f_import f_uses f_module f_main f_tree
step-B0 p rs h =
    let a = entries end rs h in
    (t_obj p a.0, ap (node 0xB0 p) (ap (f_entries a.0) (sym a.3) ∙ a.2))

step-B7 : (p : ℕ) (rs : Roses) → Match Meaning (opt 16 end) rs → Meaning 19 (node 0xB7 p rs)
unfolding f_term f_native f_import f_uses f_module f_main f_tree
step-B7 p rs h =
    let a = pattern? end rs h in
    (op_pipe p a.0, ap (node 0xB7 p) (ap (f_opt_pattern a.0) (sym a.3) ∙ a.2))

step-B8 : (p : ℕ) (rs : Roses) → Match Meaning (one 18 (one 18 end)) rs → Meaning 20 (node 0xB8 p rs)
unfolding f_term f_native f_import f_uses f_module f_main f_tree
step-B8 p rs h =
    let a = member f_term (Match Meaning (one 18 end)) rs h in
    let b = member f_term (Match Meaning end) a.1 a.3 in
    ((p, a.0, b.0), ap (node 0xB8 p) (ap (rcons (f_term a.0)) (ap (rcons (f_term b.0)) (sym b.3) ∙ b.2) ∙ a.2))

step-B9 : (p : ℕ) (x : List ℕ) → Meaning 19 (leaf 0xB9 p x)
unfolding f_term
step-B9 p x = (op_byte p x, refl)

step-BA : (p : ℕ) (x : List ℕ) → Meaning 21 (leaf 0xBA p x)
unfolding f_term
step-BA p x = (record { place = p; text = x }, refl)

step-BB : (p : ℕ) (x : List ℕ) → Meaning 22 (leaf 0xBB p x)
unfolding f_term
step-BB p x = (s_text (record { place = p; text = x }), refl)

step-BC : (p : ℕ) (x : List ℕ) → Meaning 22 (leaf 0xBC p x)
unfolding f_term
step-BC p x = (s_char (record { place = p; bytes = x }), refl)

step-BD : (p : ℕ) (rs : Roses) → Match Meaning (one 18 (opt 18 end)) rs → Meaning 23 (node 0xBD p rs)
unfolding f_term f_native f_import f_uses f_module f_main f_tree
step-BD p rs h =
    let a = member f_term (Match Meaning (opt 18 end)) rs h in
    let b = term? end a.1 a.3 in
    ((p, a.0, b.0), ap (node 0xBD p) (ap (rcons (f_term a.0)) (ap (f_opt_term b.0) (sym b.3) ∙ b.2) ∙ a.2))

step-BE : (p : ℕ) (rs : Roses) → Match Meaning (one 18 (opt 25 end)) rs → Meaning 24 (node 0xBE p rs)
unfolding f_term f_native f_import f_uses f_module f_main f_tree
step-BE p rs h =
    let a = member f_term (Match Meaning (opt 25 end)) rs h in
    let b = mark? end a.1 a.3 in
    (part_index p a.0 b.0, ap (node 0xBE p) (ap (rcons (f_term a.0)) (ap (f_mark b.0) (sym b.3) ∙ b.2) ∙ a.2))

step-BF : (p : ℕ) (rs : Roses) → Match Meaning (opt 26 (opt 27 (opt 25 end))) rs → Meaning 24 (node 0xBF p rs)
unfolding f_term f_native f_import f_uses f_module f_main f_tree
step-BF p rs h =
    let a = from? (opt 27 (opt 25 end)) rs h in
    let b = upto? (opt 25 end) a.1 a.3 in
    let c = mark? end b.1 b.3 in
    (part_range p a.0 b.0 c.0, ap (node 0xBF p) (ap (f_bound 0xC1 a.0) (ap (f_bound 0xC2 b.0) (ap (f_mark c.0) (sym c.3) ∙ c.2) ∙ b.2) ∙ a.2))

step-C0 : (p : ℕ) (rs : Roses) → Match Meaning end rs → Meaning 25 (node 0xC0 p rs)
unfolding f_term f_native f_import f_uses f_module f_main f_tree
step-C0 p rs h =
    (p, ap (node 0xC0 p) (sym h))

step-C1 : (p : ℕ) (rs : Roses) → Match Meaning (one 18 end) rs → Meaning 26 (node 0xC1 p rs)
unfolding f_term f_native f_import f_uses f_module f_main f_tree
step-C1 p rs h =
    let a = member f_term (Match Meaning end) rs h in
    ((p, a.0), ap (node 0xC1 p) (ap (rcons (f_term a.0)) (sym a.3) ∙ a.2))

step-C2 : (p : ℕ) (rs : Roses) → Match Meaning (one 18 end) rs → Meaning 27 (node 0xC2 p rs)
unfolding f_term f_native f_import f_uses f_module f_main f_tree
step-C2 p rs h =
    let a = member f_term (Match Meaning end) rs h in
    ((p, a.0), ap (node 0xC2 p) (ap (rcons (f_term a.0)) (sym a.3) ∙ a.2))

-- ---- all tags

unfoldable pub known : List ℕ
known = 0x80 ∷ 0x81 ∷ 0x82 ∷ 0x83 ∷ 0x84 ∷ 0x85 ∷ 0x86 ∷ 0x87 ∷ 0x88 ∷ 0x89 ∷ 0x8A ∷ 0x8C ∷ 0x8D ∷ 0x90 ∷ 0x91 ∷ 0x98 ∷ 0x99 ∷ 0x9A ∷ 0x9B ∷ 0xA0 ∷ 0xA1 ∷ 0xA2 ∷ 0xA3 ∷ 0xA4 ∷ 0xA5 ∷ 0xA6 ∷ 0xA7 ∷ 0xA8 ∷ 0xA9 ∷ 0xAA ∷ 0xAB ∷ 0xAC ∷ 0xAD ∷ 0xAE ∷ 0xAF ∷ 0xB0 ∷ 0xB7 ∷ 0xB8 ∷ 0xB9 ∷ 0xBA ∷ 0xBB ∷ 0xBC ∷ 0xBD ∷ 0xBE ∷ 0xBF ∷ 0xC0 ∷ 0xC1 ∷ 0xC2 ∷ []

abbrev pub Steps : List ℕ → Type 0
Steps [] = Unit {0}
Steps (k ∷ ks) = Step Meaning k × Steps ks

-- the rows above are those of the table
pub all-steps : Steps known
unfolding known class shape classes shapes items decode row_at
all-steps = (step-80, (step-81, (step-82, (step-83, (step-84, (step-85, (step-86, (step-87, (step-88, (step-89, (step-8A, (step-8C, (step-8D, (step-90, (step-91, (step-98, (step-99, (step-9A, (step-9B, (step-A0, (step-A1, (step-A2, (step-A3, (step-A4, (step-A5, (step-A6, (step-A7, (step-A8, (step-A9, (step-AA, (step-AB, (step-AC, (step-AD, (step-AE, (step-AF, (step-B0, (step-B7, (step-B8, (step-B9, (step-BA, (step-BB, (step-BC, (step-BD, (step-BE, (step-BF, (step-C0, (step-C1, (step-C2, tt))))))))))))))))))))))))))))))))))))))))))))))))
