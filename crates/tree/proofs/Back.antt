-- A tree read back from its fields, so that fields tell the tree: `u_tree (f_tree t) ≡ t`. A function u.. takes a part of the tree out of a field, or out
-- of a row of members; a digit at its end says of which member on. Where there is no such part it gives any. Assumes nothing.
use Rattle.std.specs.Prelude.{ℕ, ◌≡◌, refl, Bool, true, false, cond, eqb}
use Rattle.std.proofs.Common.{sym, ap, ap₂, ◌∙◌}
use mathlib.Core.List.{List, [], ◌∷◌}
use Rattle.tree.specs.Rose.{Rose, Roses, leaf, node, rnil, rcons, tag_of, place_of}
use Rattle.tree.specs.Leaf.{class}
use Rattle.tree.specs.Table.{classes}
use Rattle.tree.proofs.Obeyed.{class-term, class-def}
use Rattle.tree.specs.Tree.{Name, Number, Mark, Format, Term, OptTerm, Terms, Branches, Defs, Def, Pattern, OptPattern, Patterns, PatEntries, Parts, Part, Bound, StrParts, StrPart, Entries, Native, Globals, Import, Uses, Module, Main, Tree}
use Rattle.tree.specs.Tree.{t_id, t_recurse, t_arr, t_neg, t_label, t_break, t_if_then_else, t_var, t_call, t_def, t_num, t_try_catch, t_fold, t_pipe, t_bin_op, t_path, t_str, t_obj}
use Rattle.tree.specs.Tree.{no_mark, a_mark, no_format, a_format, no_term, a_term, ts_nil, ts_cons, b_none, b_else, b_pair, ds_nil, ds_cons, def, p_var, p_arr, p_obj, no_pattern, a_pattern, ps_nil, ps_cons, pes_nil, pes_cons}
use Rattle.tree.specs.Tree.{parts_nil, parts_cons, part_index, part_range, without_bound, a_bound, s_nil, s_cons, s_text, s_char, s_term, es_nil, es_cons, no_globals, a_globals}
use Rattle.tree.specs.Form.{f_name, f_names, f_numbers, f_mark, f_format, f_term, f_opt_term, f_terms, f_branches, f_defs, f_def, f_pattern, f_opt_pattern, f_patterns, f_pat_entries, f_parts, f_part, f_bound, f_str_parts, f_str_part, f_entries}
use Rattle.tree.specs.Form.{f_native, f_natives, f_globals, f_import, f_imports, f_uses, f_module, f_modules, f_main, f_tree}

-- ---- leaves, members, rows without terms

abbrev u_bytes : Rose → List ℕ
u_bytes (leaf k p x) = x
u_bytes (node k p rs) = []

abbrev u_row : Rose → Roses
u_row (leaf k p x) = rnil
u_row (node k p rs) = rs

abbrev u_name : Rose → Name
u_name r = record { place = place_of r; text = u_bytes r }

abbrev u_number : Rose → Number
u_number r = record { place = place_of r; bytes = u_bytes r }

abbrev u_head : Roses → Rose
u_head rnil = node 0 0 rnil
u_head (rcons r rs) = r

abbrev u_tail : Roses → Roses
u_tail rnil = rnil
u_tail (rcons r rs) = rs

-- the names up to the first field that is of another class
abbrev u_names : ℕ → Roses → List Name
u_names c rnil = []
u_names c (rcons r rs) = cond (eqb (class (tag_of r)) c) (u_name r ∷ u_names c rs) []

abbrev u_numbers : Roses → List Number
u_numbers rnil = []
u_numbers (rcons r rs) = u_number r ∷ u_numbers rs

abbrev u_mark : Roses → Mark
u_mark rnil = no_mark
u_mark (rcons r rs) = cond (eqb (tag_of r) 0xC0) (a_mark (place_of r)) (u_mark rs)

abbrev u_format : Roses → Format
u_format rnil = no_format
u_format (rcons r rs) = cond (eqb (class (tag_of r)) 21) (a_format (u_name r)) no_format

-- a string part whose term, if it is one, is t
abbrev u_str_part : Rose → Term → StrPart
u_str_part (leaf k p x) t = cond (eqb k 0xBB) (s_text (record { place = p; text = x })) (cond (eqb k 0xBC) (s_char (record { place = p; bytes = x })) (s_term t))
u_str_part (node k p rs) t = s_term t

-- ---- terms and what holds them

unfoldable mutual
  u_term : Rose → Term
  u_term (leaf k p x) = cond (eqb k 0xA5) (t_break p x) (cond (eqb k 0xA7) (t_var p x) (t_num p x))
  u_term (node k p rs) =
      cond (eqb k 0xA0) (t_id p)
      (cond (eqb k 0xA1) (t_recurse p)
      (cond (eqb k 0xA2) (t_arr p (u_opt_term rs))
      (cond (eqb k 0xA3) (t_neg p (u_term0 rs))
      (cond (eqb k 0xA4) (t_label p (u_name (u_head rs)) (u_term1 rs))
      (cond (eqb k 0xA6) (t_if_then_else p (place_of (u_head rs)) (u_first0 rs) (u_second0 rs) (u_branches1 rs))
      (cond (eqb k 0xA8) (t_call p (u_name (u_head rs)) (u_terms1 rs))
      (cond (eqb k 0xA9) (t_def p (u_defs rs) (u_after_defs rs))
      (cond (eqb k 0xAB) (t_try_catch p (u_term0 rs) (u_opt_term1 rs))
      (cond (eqb k 0xAC) (t_fold p (u_name (u_head rs)) (u_term1 rs) (u_pattern2 rs) (u_terms3 rs))
      (cond (eqb k 0xAD)
      (cond (eqb (tag_of (u_head (u_tail rs))) 0xB7) (t_pipe p (u_term0 rs) (place_of (u_head (u_tail rs))) (u_pipe1 rs) (u_term2 rs))
      (t_bin_op p (u_term0 rs) (place_of (u_head (u_tail rs))) (u_bytes (u_head (u_tail rs))) (u_term2 rs)))
      (cond (eqb k 0xAE) (t_path p (u_term0 rs) (u_parts1 rs))
      (cond (eqb k 0xAF) (t_str p (u_format rs) (u_str rs)) (t_obj p (u_entries rs))))))))))))))

  u_term0 : Roses → Term
  u_term0 rnil = t_id 0
  u_term0 (rcons r rs) = u_term r

  u_term1 : Roses → Term
  u_term1 rnil = t_id 0
  u_term1 (rcons r rs) = u_term0 rs

  u_term2 : Roses → Term
  u_term2 rnil = t_id 0
  u_term2 (rcons r rs) = u_term1 rs

  u_opt_term : Roses → OptTerm
  u_opt_term rnil = no_term
  u_opt_term (rcons r rs) = a_term (u_term r)

  u_opt_term1 : Roses → OptTerm
  u_opt_term1 rnil = no_term
  u_opt_term1 (rcons r rs) = u_opt_term rs

  u_terms : Roses → Terms
  u_terms rnil = ts_nil
  u_terms (rcons r rs) = ts_cons (u_term r) (u_terms rs)

  u_terms1 : Roses → Terms
  u_terms1 rnil = ts_nil
  u_terms1 (rcons r rs) = u_terms rs

  u_terms2 : Roses → Terms
  u_terms2 rnil = ts_nil
  u_terms2 (rcons r rs) = u_terms1 rs

  u_terms3 : Roses → Terms
  u_terms3 rnil = ts_nil
  u_terms3 (rcons r rs) = u_terms2 rs

  -- the first and the second term of a field, and of the first field of a row: a pair's, an entry's
  u_first : Rose → Term
  u_first (leaf k p x) = t_id 0
  u_first (node k p rs) = u_term0 rs

  u_second : Rose → Term
  u_second (leaf k p x) = t_id 0
  u_second (node k p rs) = u_term1 rs

  u_first0 : Roses → Term
  u_first0 rnil = t_id 0
  u_first0 (rcons r rs) = u_first r

  u_second0 : Roses → Term
  u_second0 rnil = t_id 0
  u_second0 (rcons r rs) = u_second r

  u_branches : Roses → Branches
  u_branches rnil = b_none
  u_branches (rcons r rs) = cond (eqb (class (tag_of r)) 20) (b_pair (place_of r) (u_first r) (u_second r) (u_branches rs)) (b_else (u_term r))

  u_branches1 : Roses → Branches
  u_branches1 rnil = b_none
  u_branches1 (rcons r rs) = u_branches rs

  u_def : Rose → Def
  u_def (leaf k p x) = def p (record { place = 0; text = [] }) [] (t_id 0)
  u_def (node k p rs) = def p (u_name (u_head rs)) (u_names 15 (u_tail rs)) (u_body1 rs)

  -- the term after the parameters
  u_body : Roses → Term
  u_body rnil = t_id 0
  u_body (rcons r rs) = cond (eqb (class (tag_of r)) 15) (u_body rs) (u_term r)

  u_body1 : Roses → Term
  u_body1 rnil = t_id 0
  u_body1 (rcons r rs) = u_body rs

  u_defs : Roses → Defs
  u_defs rnil = ds_nil
  u_defs (rcons r rs) = cond (eqb (class (tag_of r)) 12) (ds_cons (u_def r) (u_defs rs)) ds_nil

  u_after_defs : Roses → Term
  u_after_defs rnil = t_id 0
  u_after_defs (rcons r rs) = cond (eqb (class (tag_of r)) 12) (u_after_defs rs) (u_term r)

  u_pattern : Rose → Pattern
  u_pattern (leaf k p x) = p_var p x
  u_pattern (node k p rs) = cond (eqb k 0x99) (p_arr p (u_patterns rs)) (p_obj p (u_pat_entries rs))

  u_pattern0 : Roses → Pattern
  u_pattern0 rnil = p_var 0 []
  u_pattern0 (rcons r rs) = u_pattern r

  u_pattern1 : Roses → Pattern
  u_pattern1 rnil = p_var 0 []
  u_pattern1 (rcons r rs) = u_pattern0 rs

  u_pattern2 : Roses → Pattern
  u_pattern2 rnil = p_var 0 []
  u_pattern2 (rcons r rs) = u_pattern1 rs

  u_opt_pattern : Roses → OptPattern
  u_opt_pattern rnil = no_pattern
  u_opt_pattern (rcons r rs) = a_pattern (u_pattern r)

  -- the pattern of a Pipe
  u_pipe : Rose → OptPattern
  u_pipe (leaf k p x) = no_pattern
  u_pipe (node k p rs) = u_opt_pattern rs

  u_pipe0 : Roses → OptPattern
  u_pipe0 rnil = no_pattern
  u_pipe0 (rcons r rs) = u_pipe r

  u_pipe1 : Roses → OptPattern
  u_pipe1 rnil = no_pattern
  u_pipe1 (rcons r rs) = u_pipe0 rs

  u_patterns : Roses → Patterns
  u_patterns rnil = ps_nil
  u_patterns (rcons r rs) = ps_cons (u_pattern r) (u_patterns rs)

  -- the pattern of a pattern entry
  u_pat_of : Rose → Pattern
  u_pat_of (leaf k p x) = p_var 0 []
  u_pat_of (node k p rs) = u_pattern1 rs

  u_pat_entries : Roses → PatEntries
  u_pat_entries rnil = pes_nil
  u_pat_entries (rcons r rs) = pes_cons (place_of r) (u_first r) (u_pat_of r) (u_pat_entries rs)

  u_part : Rose → Part
  u_part (leaf k p x) = part_range p without_bound without_bound no_mark
  u_part (node k p rs) = cond (eqb k 0xBE) (part_index p (u_term0 rs) (u_mark (u_tail rs))) (part_range p (u_from rs) (u_upto rs) (u_mark rs))

  u_from : Roses → Bound
  u_from rnil = without_bound
  u_from (rcons r rs) = cond (eqb (tag_of r) 0xC1) (a_bound (place_of r) (u_first r)) without_bound

  u_upto : Roses → Bound
  u_upto rnil = without_bound
  u_upto (rcons r rs) = cond (eqb (tag_of r) 0xC2) (a_bound (place_of r) (u_first r)) (u_upto rs)

  u_parts : Roses → Parts
  u_parts rnil = parts_nil
  u_parts (rcons r rs) = parts_cons (u_part r) (u_parts rs)

  u_parts1 : Roses → Parts
  u_parts1 rnil = parts_nil
  u_parts1 (rcons r rs) = u_parts rs

  u_str_parts : Roses → StrParts
  u_str_parts rnil = s_nil
  u_str_parts (rcons r rs) = s_cons (u_str_part r (u_term r)) (u_str_parts rs)

  -- the same after a format, if there is one
  u_str : Roses → StrParts
  u_str rnil = s_nil
  u_str (rcons r rs) = cond (eqb (class (tag_of r)) 21) (u_str_parts rs) (s_cons (u_str_part r (u_term r)) (u_str_parts rs))

  -- the value of an entry
  u_value : Rose → OptTerm
  u_value (leaf k p x) = no_term
  u_value (node k p rs) = u_opt_term1 rs

  u_entries : Roses → Entries
  u_entries rnil = es_nil
  u_entries (rcons r rs) = es_cons (place_of r) (u_first r) (u_value r) (u_entries rs)

-- ---- natives, modules, main, the tree

abbrev u_native : Rose → Native
u_native r = record { place = place_of r; name = u_name (u_head (u_row r)); params = u_names 15 (u_tail (u_row r)) }

abbrev u_natives : Roses → List Native
u_natives rnil = []
u_natives (rcons r rs) = u_native r ∷ u_natives rs

abbrev u_import : Rose → Import
u_import r = record { place = place_of r; number = u_number (u_head (u_row r)); name = u_name (u_head (u_tail (u_row r))) }

abbrev u_imports : Roses → List Import
u_imports rnil = []
u_imports (rcons r rs) = u_import r ∷ u_imports rs

-- of the three fields imports, includes, imported variables
abbrev u_using : Rose → Rose → Rose → Uses
u_using a b c =
    record {
      imports_at = place_of a;
      imports = u_imports (u_row a);
      includes_at = place_of b;
      includes = u_numbers (u_row b);
      vars_at = place_of c;
      vars = u_names 14 (u_row c);
    }

abbrev u_uses : Roses → Uses
u_uses rs = u_using (u_head rs) (u_head (u_tail rs)) (u_head (u_tail (u_tail rs)))

-- the fourth member of a module or main
abbrev u_fourth : Roses → Rose
u_fourth rs = u_head (u_tail (u_tail (u_tail rs)))

abbrev u_module : Rose → Module
u_module r = record { place = place_of r; uses = u_uses (u_row r); defs_at = place_of (u_fourth (u_row r)); defs = u_defs (u_row (u_fourth (u_row r))) }

abbrev u_main : Rose → Main
u_main r = record { place = place_of r; uses = u_uses (u_row r); body = u_term (u_fourth (u_row r)) }

abbrev u_globals : Roses → Globals
u_globals rnil = no_globals
u_globals (rcons r rs) = cond (eqb (tag_of r) 0x82) (a_globals (place_of r) (u_names 14 (u_row r))) no_globals

abbrev u_after_globals : Roses → Roses
u_after_globals rnil = rnil
u_after_globals (rcons r rs) = cond (eqb (tag_of r) 0x82) rs (rcons r rs)

abbrev u_modules : Roses → List Module
u_modules rnil = []
u_modules (rcons r rs) = cond (eqb (tag_of r) 0x83) (u_module r ∷ u_modules rs) []

abbrev u_after_modules : Roses → Rose
u_after_modules rnil = node 0 0 rnil
u_after_modules (rcons r rs) = cond (eqb (tag_of r) 0x83) (u_after_modules rs) r

abbrev u_tree : Rose → Tree
u_tree r =
    record {
      place = place_of r;
      natives_at = place_of (u_head (u_row r));
      natives = u_natives (u_row (u_head (u_row r)));
      globals = u_globals (u_tail (u_row r));
      modules = u_modules (u_after_globals (u_tail (u_row r)));
      main = u_main (u_after_modules (u_after_globals (u_tail (u_row r))));
    }

-- ---- what is read back is what was there

yes : {A : Type 0} (x : Bool) (a b : A) → x ≡ true → cond x a b ≡ a
yes x a b e = ap (λ (y : Bool). cond y a b) e

no : {A : Type 0} (x : Bool) (a b : A) → x ≡ false → cond x a b ≡ b
no x a b e = ap (λ (y : Bool). cond y a b) e

-- a field of class d is not taken for one of class c
class_of : (k c d : ℕ) → class k ≡ d → eqb (class k) c ≡ eqb d c
class_of k c d e = ap (λ (j : ℕ). eqb j c) e

names-back : (k c : ℕ) → eqb (class k) c ≡ true → (xs : List Name) (ys : Roses) → u_names c ys ≡ [] → u_names c (f_names k xs ys) ≡ xs
unfolding f_names
names-back k c e [] ys h = h
names-back k c e (x ∷ xs) ys h = yes (eqb (class k) c) (x ∷ u_names c (f_names k xs ys)) [] e ∙ ap (◌∷◌ x) (names-back k c e xs ys h)

class-90 : eqb (class 0x90) 14 ≡ true
unfolding class classes
class-90 = refl

class-91 : eqb (class 0x91) 15 ≡ true
unfolding class classes
class-91 = refl

class-B8 : class 0xB8 ≡ 20
unfolding class classes
class-B8 = refl

class-BA : class 0xBA ≡ 21
unfolding class classes
class-BA = refl

class-str : (x : StrPart) → eqb (class (tag_of (f_str_part x))) 21 ≡ false
unfolding f_term class classes
class-str (s_text x) = refl
class-str (s_char n) = refl
class-str (s_term t) = class_of (tag_of (f_term t)) 21 18 (class-term t)

numbers-back : (ns : List Number) → u_numbers (f_numbers ns rnil) ≡ ns
unfolding f_numbers
numbers-back [] = refl
numbers-back (n ∷ ns) = ap (◌∷◌ n) (numbers-back ns)

mark-back : (m : Mark) → u_mark (f_mark m rnil) ≡ m
unfolding f_mark
mark-back no_mark = refl
mark-back (a_mark p) = refl

bound-mark : (k : ℕ) (b : Bound) (rs : Roses) → eqb k 0xC0 ≡ false → u_mark (f_bound k b rs) ≡ u_mark rs
unfolding f_term
bound-mark k without_bound rs e = refl
bound-mark k (a_bound q t) rs e = no (eqb k 0xC0) (a_mark q) (u_mark rs) e

bound-upto : (b : Bound) (rs : Roses) → u_upto (f_bound 0xC1 b rs) ≡ u_upto rs
unfolding f_term u_term
bound-upto without_bound rs = refl
bound-upto (a_bound q t) rs = refl

mark-upto : (m : Mark) → u_upto (f_mark m rnil) ≡ without_bound
unfolding f_mark u_term
mark-upto no_mark = refl
mark-upto (a_mark p) = refl

mark-from : (z : Bound) (m : Mark) → u_from (f_bound 0xC2 z (f_mark m rnil)) ≡ without_bound
unfolding f_term f_mark u_term
mark-from without_bound no_mark = refl
mark-from without_bound (a_mark p) = refl
mark-from (a_bound q t) m = refl

-- a term among string parts
term-part : (t u : Term) → u_str_part (f_term t) u ≡ s_term u
unfolding f_term
term-part (t_id p) u = refl
term-part (t_recurse p) u = refl
term-part (t_arr p o) u = refl
term-part (t_neg p t) u = refl
term-part (t_label p x t) u = refl
term-part (t_break p x) u = refl
term-part (t_if_then_else p q c t bs) u = refl
term-part (t_var p x) u = refl
term-part (t_call p f ts) u = refl
term-part (t_def p ds t) u = refl
term-part (t_num p x) u = refl
term-part (t_try_catch p t o) u = refl
term-part (t_fold p f t x ts) u = refl
term-part (t_pipe p t q x v) u = refl
term-part (t_bin_op p t q x v) u = refl
term-part (t_path p t ps) u = refl
term-part (t_str p f ps) u = refl
term-part (t_obj p es) u = refl

-- a term is no parameter
no_name : (t : Term) → u_names 15 (rcons (f_term t) rnil) ≡ []
no_name t = no (eqb (class (tag_of (f_term t))) 15) (u_name (f_term t) ∷ []) [] (class_of (tag_of (f_term t)) 15 18 (class-term t))

-- the term that ends a row, once it is read back itself
module _ (t : Term) (e : u_term (f_term t) ≡ t) where
  body_back : (xs : List Name) → u_body (f_names 0x91 xs (rcons (f_term t) rnil)) ≡ t
  unfolding u_term f_names
  body_back [] = no (eqb (class (tag_of (f_term t))) 15) (u_body rnil) (u_term (f_term t)) (class_of (tag_of (f_term t)) 15 18 (class-term t)) ∙ e
  body_back (x ∷ xs) = yes (eqb (class 0x91) 15) (u_body (f_names 0x91 xs (rcons (f_term t) rnil))) (u_term (f_name 0x91 x)) class-91 ∙ body_back xs

  after-back : (ds : Defs) → u_after_defs (f_defs ds (rcons (f_term t) rnil)) ≡ t
  unfolding u_term f_term
  after-back ds_nil = no (eqb (class (tag_of (f_term t))) 12) (u_after_defs rnil) (u_term (f_term t)) (class_of (tag_of (f_term t)) 12 18 (class-term t)) ∙ e
  after-back (ds_cons d ds) =
      yes (eqb (class (tag_of (f_def d))) 12) (u_after_defs (f_defs ds (rcons (f_term t) rnil))) (u_term (f_def d)) (class_of (tag_of (f_def d)) 12 12 (class-def d)) ∙ after-back ds

-- string parts, once they are read back themselves, after a format
str-back : (f : Format) (xs : StrParts) → u_str_parts (f_str_parts xs rnil) ≡ xs → u_str (f_format f (f_str_parts xs rnil)) ≡ xs
unfolding u_term f_term f_format
str-back no_format s_nil e = refl
str-back no_format (s_cons x xs) e =
    no (eqb (class (tag_of (f_str_part x))) 21) (u_str_parts (f_str_parts xs rnil)) (s_cons (u_str_part (f_str_part x) (u_term (f_str_part x))) (u_str_parts (f_str_parts xs rnil))) (class-str x) ∙ e
str-back (a_format x) xs e =
    yes (eqb (class 0xBA) 21) (u_str_parts (f_str_parts xs rnil)) (s_cons (u_str_part (f_name 0xBA x) (u_term (f_name 0xBA x))) (u_str_parts (f_str_parts xs rnil))) (class_of 0xBA 21 21 class-BA) ∙ e

format_back : (f : Format) (xs : StrParts) → u_format (f_format f (f_str_parts xs rnil)) ≡ f
unfolding f_term f_format
format_back no_format s_nil = refl
format_back no_format (s_cons x xs) = no (eqb (class (tag_of (f_str_part x))) 21) (a_format (u_name (f_str_part x))) no_format (class-str x)
format_back (a_format x) xs = yes (eqb (class 0xBA) 21) (a_format x) no_format (class_of 0xBA 21 21 class-BA)

mutual
  unfolding u_term f_term

  back-term : (t : Term) → u_term (f_term t) ≡ t
  back-term (t_id p) = refl
  back-term (t_recurse p) = refl
  back-term (t_arr p o) = ap (t_arr p) (back-opt-term o)
  back-term (t_neg p t) = ap (t_neg p) (back-term t)
  back-term (t_label p x t) = ap (t_label p x) (back-term t)
  back-term (t_break p x) = refl
  back-term (t_if_then_else p q c t bs) = λ i. t_if_then_else p q (back-term c i) (back-term t i) (back-branches bs i)
  back-term (t_var p x) = refl
  back-term (t_call p f ts) = ap (t_call p f) (back-terms ts)
  back-term (t_def p ds t) = λ i. t_def p (back-defs ds t i) (after-back t (back-term t) ds i)
  back-term (t_num p x) = refl
  back-term (t_try_catch p t o) = λ i. t_try_catch p (back-term t i) (back-opt-term o i)
  back-term (t_fold p f t x ts) = λ i. t_fold p f (back-term t i) (back-pattern x i) (back-terms ts i)
  back-term (t_pipe p t q x u) = λ i. t_pipe p (back-term t i) q (back-opt-pattern x i) (back-term u i)
  back-term (t_bin_op p t q x u) = λ i. t_bin_op p (back-term t i) q x (back-term u i)
  back-term (t_path p t ps) = λ i. t_path p (back-term t i) (back-parts ps i)
  back-term (t_str p f ps) = λ i. t_str p (format_back f ps i) (str-back f ps (back-str-parts ps) i)
  back-term (t_obj p es) = ap (t_obj p) (back-entries es)

  back-opt-term : (o : OptTerm) → u_opt_term (f_opt_term o rnil) ≡ o
  back-opt-term no_term = refl
  back-opt-term (a_term t) = ap a_term (back-term t)

  back-terms : (ts : Terms) → u_terms (f_terms ts rnil) ≡ ts
  back-terms ts_nil = refl
  back-terms (ts_cons t ts) = ap₂ ts_cons (back-term t) (back-terms ts)

  back-branches : (bs : Branches) → u_branches (f_branches bs) ≡ bs
  back-branches b_none = refl
  back-branches (b_else t) =
      no (eqb (class (tag_of (f_term t))) 20) (b_pair (place_of (f_term t)) (u_first (f_term t)) (u_second (f_term t)) b_none) (b_else (u_term (f_term t))) (class_of (tag_of (f_term t)) 20 18 (class-term t))
      ∙ ap b_else (back-term t)
  back-branches (b_pair q c t bs) =
      yes (eqb (class 0xB8) 20) (b_pair q (u_term (f_term c)) (u_term (f_term t)) (u_branches (f_branches bs))) (b_else (u_term (node 0xB8 q (rcons (f_term c) (rcons (f_term t) rnil))))) (class_of 0xB8 20 20 class-B8)
      ∙ (λ i. b_pair q (back-term c i) (back-term t i) (back-branches bs i))

  -- definitions before a term, definitions alone
  back-defs : (ds : Defs) (t : Term) → u_defs (f_defs ds (rcons (f_term t) rnil)) ≡ ds
  back-defs ds_nil t = no (eqb (class (tag_of (f_term t))) 12) (ds_cons (u_def (f_term t)) ds_nil) ds_nil (class_of (tag_of (f_term t)) 12 18 (class-term t))
  back-defs (ds_cons d ds) t =
      yes (eqb (class (tag_of (f_def d))) 12) (ds_cons (u_def (f_def d)) (u_defs (f_defs ds (rcons (f_term t) rnil)))) ds_nil (class_of (tag_of (f_def d)) 12 12 (class-def d))
      ∙ ap₂ ds_cons (back-def d) (back-defs ds t)

  back-def : (d : Def) → u_def (f_def d) ≡ d
  back-def (def p f xs t) = λ i. def p f (names-back 0x91 15 class-91 xs (rcons (f_term t) rnil) (no_name t) i) (body_back t (back-term t) xs i)

  back-pattern : (x : Pattern) → u_pattern (f_pattern x) ≡ x
  back-pattern (p_var p x) = refl
  back-pattern (p_arr p xs) = ap (p_arr p) (back-patterns xs)
  back-pattern (p_obj p es) = ap (p_obj p) (back-pat-entries es)

  back-opt-pattern : (o : OptPattern) → u_opt_pattern (f_opt_pattern o rnil) ≡ o
  back-opt-pattern no_pattern = refl
  back-opt-pattern (a_pattern x) = ap a_pattern (back-pattern x)

  back-patterns : (xs : Patterns) → u_patterns (f_patterns xs rnil) ≡ xs
  back-patterns ps_nil = refl
  back-patterns (ps_cons x xs) = ap₂ ps_cons (back-pattern x) (back-patterns xs)

  back-pat-entries : (es : PatEntries) → u_pat_entries (f_pat_entries es rnil) ≡ es
  back-pat-entries pes_nil = refl
  back-pat-entries (pes_cons q t x es) = λ i. pes_cons q (back-term t i) (back-pattern x i) (back-pat-entries es i)

  back-parts : (xs : Parts) → u_parts (f_parts xs rnil) ≡ xs
  back-parts parts_nil = refl
  back-parts (parts_cons x xs) = ap₂ parts_cons (back-part x) (back-parts xs)

  back-part : (x : Part) → u_part (f_part x) ≡ x
  back-part (part_index p t m) = λ i. part_index p (back-term t i) (mark-back m i)
  back-part (part_range p a z m) = λ i. part_range p
      (back_from a (f_bound 0xC2 z (f_mark m rnil)) (mark-from z m) i)
      ((bound-upto a (f_bound 0xC2 z (f_mark m rnil)) ∙ back-upto z (f_mark m rnil) (mark-upto m)) i)
      ((bound-mark 0xC1 a (f_bound 0xC2 z (f_mark m rnil)) refl ∙ bound-mark 0xC2 z (f_mark m rnil) refl ∙ mark-back m) i)

  back_from : (b : Bound) (rs : Roses) → u_from rs ≡ without_bound → u_from (f_bound 0xC1 b rs) ≡ b
  back_from without_bound rs e = e
  back_from (a_bound q t) rs e = ap (a_bound q) (back-term t)

  back-upto : (b : Bound) (rs : Roses) → u_upto rs ≡ without_bound → u_upto (f_bound 0xC2 b rs) ≡ b
  back-upto without_bound rs e = e
  back-upto (a_bound q t) rs e = ap (a_bound q) (back-term t)

  back-str-parts : (xs : StrParts) → u_str_parts (f_str_parts xs rnil) ≡ xs
  back-str-parts s_nil = refl
  back-str-parts (s_cons x xs) = ap₂ s_cons (back-str-part x) (back-str-parts xs)

  back-str-part : (x : StrPart) → u_str_part (f_str_part x) (u_term (f_str_part x)) ≡ x
  back-str-part (s_text x) = refl
  back-str-part (s_char n) = refl
  back-str-part (s_term t) = term-part t (u_term (f_term t)) ∙ ap s_term (back-term t)

  back-entries : (es : Entries) → u_entries (f_entries es rnil) ≡ es
  back-entries es_nil = refl
  back-entries (es_cons q t o es) = λ i. es_cons q (back-term t i) (back-opt-term o i) (back-entries es i)

back-only-defs : (ds : Defs) → u_defs (f_defs ds rnil) ≡ ds
unfolding u_term f_term
back-only-defs ds_nil = refl
back-only-defs (ds_cons d ds) = yes (eqb (class (tag_of (f_def d))) 12) (ds_cons (u_def (f_def d)) (u_defs (f_defs ds rnil))) ds_nil (class_of (tag_of (f_def d)) 12 12 (class-def d)) ∙ ap₂ ds_cons (back-def d) (back-only-defs ds)

back-native : (n : Native) → u_native (f_native n) ≡ n
unfolding f_native
back-native n = λ i. record { place = n.place; name = n.name; params = names-back 0x91 15 class-91 n.params rnil refl i }

back-natives : (ns : List Native) → u_natives (f_natives ns rnil) ≡ ns
unfolding f_natives
back-natives [] = refl
back-natives (n ∷ ns) = ap₂ ◌∷◌ (back-native n) (back-natives ns)

back-imports : (is : List Import) → u_imports (f_imports is rnil) ≡ is
unfolding f_import f_imports
back-imports [] = refl
back-imports (i ∷ is) = ap (◌∷◌ i) (back-imports is)

back-uses : (u : Uses) (rs : Roses) → u_uses (f_uses u rs) ≡ u
unfolding f_uses
back-uses u rs =
    λ i. record {
      imports_at = u.imports_at;
      imports = back-imports u.imports i;
      includes_at = u.includes_at;
      includes = numbers-back u.includes i;
      vars_at = u.vars_at;
      vars = names-back 0x90 14 class-90 u.vars rnil refl i;
    }

back-module : (m : Module) → u_module (f_module m) ≡ m
unfolding f_module f_uses
back-module m = λ i. record { place = m.place; uses = back-uses m.uses rnil i; defs_at = m.defs_at; defs = back-only-defs m.defs i }

back-main : (m : Main) → u_main (f_main m) ≡ m
unfolding f_main f_uses
back-main m = λ i. record { place = m.place; uses = back-uses m.uses rnil i; body = back-term m.body i }

back-modules : (ms : List Module) (m : Main) → u_modules (f_modules ms (rcons (f_main m) rnil)) ≡ ms
unfolding f_modules f_module f_main
back-modules [] m = refl
back-modules (x ∷ ms) m = ap₂ ◌∷◌ (back-module x) (back-modules ms m)

after-modules : (ms : List Module) (m : Main) → u_after_modules (f_modules ms (rcons (f_main m) rnil)) ≡ f_main m
unfolding f_modules f_module f_main
after-modules [] m = refl
after-modules (x ∷ ms) m = after-modules ms m

back-globals : (x : Globals) (ms : List Module) (m : Main) → u_globals (f_globals x (f_modules ms (rcons (f_main m) rnil))) ≡ x
unfolding f_globals f_modules f_module f_main
back-globals no_globals [] m = refl
back-globals no_globals (n ∷ ms) m = refl
back-globals (a_globals p xs) ms m = ap (a_globals p) (names-back 0x90 14 class-90 xs rnil refl)

after-globals : (x : Globals) (ms : List Module) (m : Main) → u_after_globals (f_globals x (f_modules ms (rcons (f_main m) rnil))) ≡ f_modules ms (rcons (f_main m) rnil)
unfolding f_globals f_modules f_module f_main
after-globals no_globals [] m = refl
after-globals no_globals (n ∷ ms) m = refl
after-globals (a_globals p xs) ms m = refl

back-tree : (t : Tree) → u_tree (f_tree t) ≡ t
unfolding f_tree
back-tree t =
    let g = after-globals t.globals t.modules t.main in
    λ i. record {
      place = t.place;
      natives_at = t.natives_at;
      natives = back-natives t.natives i;
      globals = back-globals t.globals t.modules t.main i;
      modules = (ap u_modules g ∙ back-modules t.modules t.main) i;
      main = (ap (λ (rs : Roses). u_main (u_after_modules rs)) g ∙ ap u_main (after-modules t.modules t.main) ∙ back-main t.main) i;
    }

-- fields tell the tree
pub same-tree : (t u : Tree) → f_tree t ≡ f_tree u → t ≡ u
same-tree t u e = sym (back-tree t) ∙ ap u_tree e ∙ back-tree u
