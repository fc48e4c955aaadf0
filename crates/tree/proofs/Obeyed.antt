-- The fields of a tree obey the table. The clauses marked as made are those of tools/tree_table.py. Assumes nothing.
use Rattle.std.specs.Prelude.{ℕ, ◌≡◌, List, [], ◌∷◌, true, false}
use Rattle.std.proofs.Math.Path.{refl}
use Rattle.std.proofs.Common.{sym, subst}
use Rattle.tree.specs.Rose.{Rose, Roses, leaf, node, rnil, rcons, tag_of}
use Rattle.tree.specs.Table.{classes, shapes, items}
use Rattle.tree.specs.Leaf.{class, shape, is_leaf_tag}
use Rattle.tree.specs.Grammar.{Items, end, one, opt, many, mix, decode, row_at, content, after, ends, fit, Obeys, Obey}
use Rattle.tree.specs.Tree.{Name, Number, Mark, Format, Term, OptTerm, Terms, Branches, Defs, Def, Pattern, OptPattern, Patterns, PatEntries, Parts, Part, Bound, StrParts, StrPart, Entries, Native, Globals, Import, Uses, Module, Main, Tree}
use Rattle.tree.specs.Tree.{t_id, t_recurse, t_arr, t_neg, t_label, t_break, t_if_then_else, t_var, t_call, t_def, t_num, t_try_catch, t_fold, t_pipe, t_bin_op, t_path, t_str, t_obj}
use Rattle.tree.specs.Tree.{no_mark, a_mark, no_format, a_format, no_term, a_term, ts_nil, ts_cons, b_none, b_else, b_pair, ds_nil, ds_cons, def, p_var, p_arr, p_obj, no_pattern, a_pattern, ps_nil, ps_cons, pes_nil, pes_cons}
use Rattle.tree.specs.Tree.{parts_nil, parts_cons, part_index, part_range, without_bound, a_bound, s_nil, s_cons, s_text, s_char, s_term, es_nil, es_cons, no_globals, a_globals}
use Rattle.tree.specs.Form.{f_name, f_number, f_names, f_numbers, f_mark, f_format, f_term, f_opt_term, f_terms, f_branches, f_defs, f_def, f_pattern, f_opt_pattern, f_patterns, f_pat_entries, f_parts, f_part, f_bound, f_str_parts, f_str_part, f_entries}
use Rattle.tree.specs.Form.{f_native, f_natives, f_globals, f_import, f_imports, f_uses, f_module, f_modules, f_main, f_tree}
use Rattle.tree.proofs.Meaning.{g_pair, g_entry, g_pat_entry, g_from, g_upto, g_imports, g_includes, g_vars, g_defs, g_natives, g_globals}

-- the members are those that g allows, and obey
abbrev Good : Items → Roses → Type 0
Good g rs = (fit g rs ≡ true) × Obey rs

good-node : (k p : ℕ) (rs : Roses) → is_leaf_tag k ≡ false → Good (content k) rs → Obeys (node k p rs)
unfolding Obeys
good-node k p rs l w = (l, w.0, w.1)

good-one : (g : Items) (r : Rose) (rs : Roses) (c : ℕ) → class (tag_of r) ≡ c → Obeys r → Good (after g c) rs → Good g (rcons r rs)
unfolding Obeys fit
good-one g r rs c e o w = (subst (λ (j : ℕ). fit (after g j) rs ≡ true) (sym e) w.0, (o, w.1))

-- one more of a list: g is the same after it
good_more : (g : Items) (r : Rose) (rs : Roses) (c : ℕ) → after g c ≡ g → class (tag_of r) ≡ c → Obeys r → Good g rs → Good g (rcons r rs)
good_more g r rs c a e o w = good-one g r rs c e o (subst (λ (j : Items). Good j rs) (sym a) w)

-- ---- classes

pub class-term : (t : Term) → class (tag_of (f_term t)) ≡ 18
unfolding class classes f_term
class-term (t_id p) = refl
class-term (t_recurse p) = refl
class-term (t_arr p o) = refl
class-term (t_neg p t) = refl
class-term (t_label p x t) = refl
class-term (t_break p x) = refl
class-term (t_if_then_else p q c t bs) = refl
class-term (t_var p x) = refl
class-term (t_call p f ts) = refl
class-term (t_def p ds t) = refl
class-term (t_num p x) = refl
class-term (t_try_catch p t o) = refl
class-term (t_fold p f t x ts) = refl
class-term (t_pipe p t q x u) = refl
class-term (t_bin_op p t q x u) = refl
class-term (t_path p t ps) = refl
class-term (t_str p f ps) = refl
class-term (t_obj p es) = refl

class-pattern : (x : Pattern) → class (tag_of (f_pattern x)) ≡ 16
unfolding class classes f_term
class-pattern (p_var p x) = refl
class-pattern (p_arr p xs) = refl
class-pattern (p_obj p es) = refl

pub class-def : (d : Def) → class (tag_of (f_def d)) ≡ 12
unfolding class classes f_term
class-def (def p f xs t) = refl

class-part : (x : Part) → class (tag_of (f_part x)) ≡ 24
unfolding class classes f_term
class-part (part_index p t m) = refl
class-part (part_range p a z m) = refl

-- ---- members that hold no term

o-names : (k c : ℕ) → class k ≡ c → is_leaf_tag k ≡ true → (g : Items) → after g c ≡ g → (xs : List Name) (ys : Roses) → Good g ys → Good g (f_names k xs ys)
unfolding Obeys f_names
o-names k c e l g a [] ys w = w
o-names k c e l g a (x ∷ xs) ys w = good_more g (f_name k x) (f_names k xs ys) c a e l (o-names k c e l g a xs ys w)

o-numbers : (g : Items) → after g 13 ≡ g → (ns : List Number) (ys : Roses) → Good g ys → Good g (f_numbers ns ys)
unfolding Obeys f_numbers class shape classes shapes
o-numbers g a [] ys w = w
o-numbers g a (n ∷ ns) ys w = good_more g (f_number 0x8D n) (f_numbers ns ys) 13 a refl refl (o-numbers g a ns ys w)

o-mark : (g : Items) (m : Mark) (ys : Roses) → Good g ys → Good (after g 25) ys → Good g (f_mark m ys)
unfolding f_mark class shape classes shapes items decode row_at fit ends Obeys
o-mark g no_mark ys w v = w
o-mark g (a_mark p) ys w v = good-one g (node 0xC0 p rnil) ys 25 refl (good-node 0xC0 p rnil refl (refl, tt)) v

o-format : (g : Items) (f : Format) (ys : Roses) → Good g ys → Good (after g 21) ys → Good g (f_format f ys)
unfolding f_format class shape classes shapes Obeys
o-format g no_format ys w v = w
o-format g (a_format x) ys w v = good-one g (f_name 0xBA x) ys 21 refl refl v

-- ---- fields that have no type of their own

module _ (q : ℕ) (t : Term) (o : Obeys (f_term t)) where
  good-from : Obeys (g_from (q, t))
  unfolding class shape classes shapes items decode row_at fit after ends Obeys
  good-from = good-node 0xC1 q (rcons (f_term t) rnil) refl (good-one (one 18 end) (f_term t) rnil 18 (class-term t) o (refl, tt))

  good-upto : Obeys (g_upto (q, t))
  unfolding class shape classes shapes items decode row_at fit after ends Obeys
  good-upto = good-node 0xC2 q (rcons (f_term t) rnil) refl (good-one (one 18 end) (f_term t) rnil 18 (class-term t) o (refl, tt))

  good-pair : (u : Term) → Obeys (f_term u) → Obeys (g_pair (q, t, u))
  unfolding class shape classes shapes items decode row_at fit after ends Obeys
  good-pair u v =
      good-node 0xB8 q (rcons (f_term t) (rcons (f_term u) rnil)) refl
      (good-one (one 18 (one 18 end)) (f_term t) (rcons (f_term u) rnil) 18 (class-term t) o (good-one (one 18 end) (f_term u) rnil 18 (class-term u) v (refl, tt)))

  good-pat-entry : (x : Pattern) → Obeys (f_pattern x) → Obeys (g_pat_entry (q, t, x))
  unfolding class shape classes shapes items decode row_at fit after ends Obeys
  good-pat-entry x v =
      good-node 0x9B q (rcons (f_term t) (rcons (f_pattern x) rnil)) refl
      (good-one (one 18 (one 16 end)) (f_term t) (rcons (f_pattern x) rnil) 18 (class-term t) o (good-one (one 16 end) (f_pattern x) rnil 16 (class-pattern x) v (refl, tt)))

  good-entry : (u : OptTerm) → Good (opt 18 end) (f_opt_term u rnil) → Obeys (g_entry (q, t, u))
  unfolding class shape classes shapes items decode row_at fit after ends Obeys
  good-entry u v =
      good-node 0xBD q (rcons (f_term t) (f_opt_term u rnil)) refl (good-one (one 18 (opt 18 end)) (f_term t) (f_opt_term u rnil) 18 (class-term t) o v)

  -- a BinOp, whose operator obeys
  good-binary : (r : Rose) → class (tag_of r) ≡ 19 → Obeys r → (p : ℕ) (u : Term) → Obeys (f_term u) → Obeys (node 0xAD p (rcons (f_term t) (rcons r (rcons (f_term u) rnil))))
  unfolding class shape classes shapes items decode row_at fit after ends Obeys
  good-binary r e m p u v =
      good-node 0xAD p (rcons (f_term t) (rcons r (rcons (f_term u) rnil))) refl
      (good-one (one 18 (one 19 (one 18 end))) (f_term t) (rcons r (rcons (f_term u) rnil)) 18 (class-term t) o
      (good-one (one 19 (one 18 end)) r (rcons (f_term u) rnil) 19 e m (good-one (one 18 end) (f_term u) rnil 18 (class-term u) v (refl, tt))))

good-pipe : (q : ℕ) (x : OptPattern) → Good (opt 16 end) (f_opt_pattern x rnil) → Obeys (node 0xB7 q (f_opt_pattern x rnil))
unfolding class shape classes shapes items decode row_at
good-pipe q x w = good-node 0xB7 q (f_opt_pattern x rnil) refl w

-- ---- terms and what holds them

mutual
  unfolding Obeys f_term class shape classes shapes items decode row_at fit after ends

  o-term : (t : Term) → Obeys (f_term t)
  o-term (t_if_then_else p q c t bs) =
      good-node 0xA6 p (rcons (g_pair (q, c, t)) (f_branches bs)) refl
      (good-one (one 20 (many 20 (opt 18 end))) (g_pair (q, c, t)) (f_branches bs) 20 refl (good-pair q c (o-term c) t (o-term t)) (o-branches bs))
  o-term (t_pipe p t q x u) = good-binary q t (o-term t) (node 0xB7 q (f_opt_pattern x rnil)) refl (good-pipe q x (o-opt-pattern (opt 16 end) x rnil (refl, tt) (refl, tt))) p u (o-term u)
  o-term (t_bin_op p t q x u) = good-binary q t (o-term t) (leaf 0xB9 q x) refl refl p u (o-term u)
  o-term (t_str p f ps) = good-node 0xAF p (f_format f (f_str_parts ps rnil)) refl (o-format (opt 21 (mix 22 end)) f (f_str_parts ps rnil) (o-no-format ps) (o-str-parts ps))
  -- made: o-term
  o-term (t_id p) = good-node 0xA0 p rnil refl (refl, tt)
  o-term (t_recurse p) = good-node 0xA1 p rnil refl (refl, tt)
  o-term (t_arr p o) = good-node 0xA2 p (f_opt_term o rnil) refl (o-opt-term (opt 18 end) o rnil (refl, tt) (refl, tt))
  o-term (t_neg p t) = good-node 0xA3 p (rcons (f_term t) rnil) refl (good-one (one 18 end) (f_term t) rnil 18 (class-term t) (o-term t) (refl, tt))
  o-term (t_label p x t) = good-node 0xA4 p (rcons (f_name 0x90 x) (rcons (f_term t) rnil)) refl (good-one (one 14 (one 18 end)) (f_name 0x90 x) (rcons (f_term t) rnil) 14 (refl) (refl) (good-one (one 18 end) (f_term t) rnil 18 (class-term t) (o-term t) (refl, tt)))
  o-term (t_break p x) = refl
  o-term (t_var p x) = refl
  o-term (t_call p f ts) = good-node 0xA8 p (rcons (f_name 0x90 f) (f_terms ts rnil)) refl (good-one (one 14 (many 18 end)) (f_name 0x90 f) (f_terms ts rnil) 14 (refl) (refl) (o-terms (many 18 end) refl ts rnil (refl, tt)))
  o-term (t_def p ds t) = good-node 0xA9 p (f_defs ds (rcons (f_term t) rnil)) refl (o-defs (many 12 (one 18 end)) refl ds (rcons (f_term t) rnil) (good-one (many 12 (one 18 end)) (f_term t) rnil 18 (class-term t) (o-term t) (refl, tt)))
  o-term (t_num p x) = refl
  o-term (t_try_catch p t o) = good-node 0xAB p (rcons (f_term t) (f_opt_term o rnil)) refl (good-one (one 18 (opt 18 end)) (f_term t) (f_opt_term o rnil) 18 (class-term t) (o-term t) (o-opt-term (opt 18 end) o rnil (refl, tt) (refl, tt)))
  o-term (t_fold p f t x ts) = good-node 0xAC p (rcons (f_name 0x90 f) (rcons (f_term t) (rcons (f_pattern x) (f_terms ts rnil)))) refl (good-one (one 14 (one 18 (one 16 (many 18 end)))) (f_name 0x90 f) (rcons (f_term t) (rcons (f_pattern x) (f_terms ts rnil))) 14 (refl) (refl) (good-one (one 18 (one 16 (many 18 end))) (f_term t) (rcons (f_pattern x) (f_terms ts rnil)) 18 (class-term t) (o-term t) (good-one (one 16 (many 18 end)) (f_pattern x) (f_terms ts rnil) 16 (class-pattern x) (o-pattern x) (o-terms (many 18 end) refl ts rnil (refl, tt)))))
  o-term (t_path p t ps) = good-node 0xAE p (rcons (f_term t) (f_parts ps rnil)) refl (good-one (one 18 (many 24 end)) (f_term t) (f_parts ps rnil) 18 (class-term t) (o-term t) (o-parts (many 24 end) refl ps rnil (refl, tt)))
  o-term (t_obj p es) = good-node 0xB0 p (f_entries es rnil) refl (o-entries (many 23 end) refl es rnil (refl, tt))

  -- end of what is made

  o-opt-term : (g : Items) (o : OptTerm) (ys : Roses) → Good g ys → Good (after g 18) ys → Good g (f_opt_term o ys)
  o-opt-term g no_term ys w v = w
  o-opt-term g (a_term t) ys w v = good-one g (f_term t) ys 18 (class-term t) (o-term t) v

  o-terms : (g : Items) → after g 18 ≡ g → (ts : Terms) (ys : Roses) → Good g ys → Good g (f_terms ts ys)
  o-terms g a ts_nil ys w = w
  o-terms g a (ts_cons t ts) ys w = good_more g (f_term t) (f_terms ts ys) 18 a (class-term t) (o-term t) (o-terms g a ts ys w)

  o-branches : (bs : Branches) → Good (many 20 (opt 18 end)) (f_branches bs)
  o-branches b_none = (refl, tt)
  o-branches (b_else t) = good-one (many 20 (opt 18 end)) (f_term t) rnil 18 (class-term t) (o-term t) (refl, tt)
  o-branches (b_pair q c t bs) = good_more (many 20 (opt 18 end)) (g_pair (q, c, t)) (f_branches bs) 20 refl refl (good-pair q c (o-term c) t (o-term t)) (o-branches bs)

  o-defs : (g : Items) → after g 12 ≡ g → (ds : Defs) (ys : Roses) → Good g ys → Good g (f_defs ds ys)
  o-defs g a ds_nil ys w = w
  o-defs g a (ds_cons d ds) ys w = good_more g (f_def d) (f_defs ds ys) 12 a (class-def d) (o-def d) (o-defs g a ds ys w)

  o-def : (d : Def) → Obeys (f_def d)
  -- made: o-def
  o-def (def p f xs t) = good-node 0x8C p (rcons (f_name 0x90 f) (f_names 0x91 xs (rcons (f_term t) rnil))) refl (good-one (one 14 (many 15 (one 18 end))) (f_name 0x90 f) (f_names 0x91 xs (rcons (f_term t) rnil)) 14 (refl) (refl) (o-names 0x91 15 refl refl (many 15 (one 18 end)) refl xs (rcons (f_term t) rnil) (good-one (many 15 (one 18 end)) (f_term t) rnil 18 (class-term t) (o-term t) (refl, tt))))

  -- end of what is made

  o-pattern : (x : Pattern) → Obeys (f_pattern x)
  -- made: o-pattern
  o-pattern (p_var p x) = refl
  o-pattern (p_arr p xs) = good-node 0x99 p (f_patterns xs rnil) refl (o-patterns (many 16 end) refl xs rnil (refl, tt))
  o-pattern (p_obj p es) = good-node 0x9A p (f_pat_entries es rnil) refl (o-pat-entries (many 17 end) refl es rnil (refl, tt))

  -- end of what is made

  o-opt-pattern : (g : Items) (o : OptPattern) (ys : Roses) → Good g ys → Good (after g 16) ys → Good g (f_opt_pattern o ys)
  o-opt-pattern g no_pattern ys w v = w
  o-opt-pattern g (a_pattern x) ys w v = good-one g (f_pattern x) ys 16 (class-pattern x) (o-pattern x) v

  o-patterns : (g : Items) → after g 16 ≡ g → (xs : Patterns) (ys : Roses) → Good g ys → Good g (f_patterns xs ys)
  o-patterns g a ps_nil ys w = w
  o-patterns g a (ps_cons x xs) ys w = good_more g (f_pattern x) (f_patterns xs ys) 16 a (class-pattern x) (o-pattern x) (o-patterns g a xs ys w)

  o-pat-entries : (g : Items) → after g 17 ≡ g → (es : PatEntries) (ys : Roses) → Good g ys → Good g (f_pat_entries es ys)
  o-pat-entries g a pes_nil ys w = w
  o-pat-entries g a (pes_cons q t x es) ys w = good_more g (g_pat_entry (q, t, x)) (f_pat_entries es ys) 17 a refl (good-pat-entry q t (o-term t) x (o-pattern x)) (o-pat-entries g a es ys w)

  o-parts : (g : Items) → after g 24 ≡ g → (xs : Parts) (ys : Roses) → Good g ys → Good g (f_parts xs ys)
  o-parts g a parts_nil ys w = w
  o-parts g a (parts_cons x xs) ys w = good_more g (f_part x) (f_parts xs ys) 24 a (class-part x) (o-part x) (o-parts g a xs ys w)

  o-part : (x : Part) → Obeys (f_part x)
  -- made: o-part
  o-part (part_index p t m) = good-node 0xBE p (rcons (f_term t) (f_mark m rnil)) refl (good-one (one 18 (opt 25 end)) (f_term t) (f_mark m rnil) 18 (class-term t) (o-term t) (o-mark (opt 25 end) m rnil (refl, tt) (refl, tt)))
  o-part (part_range p a z m) = good-node 0xBF p (f_bound 0xC1 a (f_bound 0xC2 z (f_mark m rnil))) refl (o-bound 0xC1 26 good-from refl (opt 26 (opt 27 (opt 25 end))) a (f_bound 0xC2 z (f_mark m rnil)) (o-bound 0xC2 27 good-upto refl (opt 26 (opt 27 (opt 25 end))) z (f_mark m rnil) (o-mark (opt 26 (opt 27 (opt 25 end))) m rnil (refl, tt) (refl, tt)) (o-mark (opt 25 end) m rnil (refl, tt) (refl, tt))) (o-bound 0xC2 27 good-upto refl (opt 27 (opt 25 end)) z (f_mark m rnil) (o-mark (opt 27 (opt 25 end)) m rnil (refl, tt) (refl, tt)) (o-mark (opt 25 end) m rnil (refl, tt) (refl, tt))))

  -- end of what is made

  o-bound : (k c : ℕ) → ((q : ℕ) (t : Term) → Obeys (f_term t) → Obeys (node k q (rcons (f_term t) rnil))) → class k ≡ c → (g : Items) (b : Bound) (ys : Roses) → Good g ys → Good (after g c) ys → Good g (f_bound k b ys)
  o-bound k c f e g without_bound ys w v = w
  o-bound k c f e g (a_bound q t) ys w v = good-one g (node k q (rcons (f_term t) rnil)) ys c e (f q t (o-term t)) v

  o-str-parts : (xs : StrParts) → Good (mix 22 end) (f_str_parts xs rnil)
  o-str-parts s_nil = (refl, tt)
  o-str-parts (s_cons x xs) = o-str-part (mix 22 end) refl refl x (f_str_parts xs rnil) (o-str-parts xs)

  -- the same where a format might have stood before them
  o-no-format : (xs : StrParts) → Good (opt 21 (mix 22 end)) (f_str_parts xs rnil)
  o-no-format s_nil = (refl, tt)
  o-no-format (s_cons x xs) = o-str-part (opt 21 (mix 22 end)) refl refl x (f_str_parts xs rnil) (o-str-parts xs)

  o-str-part : (g : Items) → after g 22 ≡ mix 22 end → after g 18 ≡ mix 22 end → (x : StrPart) (ys : Roses) → Good (mix 22 end) ys → Good g (rcons (f_str_part x) ys)
  o-str-part g a b (s_text x) ys w = good-one g (f_name 0xBB x) ys 22 refl refl (subst (λ (j : Items). Good j ys) (sym a) w)
  o-str-part g a b (s_char n) ys w = good-one g (f_number 0xBC n) ys 22 refl refl (subst (λ (j : Items). Good j ys) (sym a) w)
  o-str-part g a b (s_term t) ys w = good-one g (f_term t) ys 18 (class-term t) (o-term t) (subst (λ (j : Items). Good j ys) (sym b) w)

  o-entries : (g : Items) → after g 23 ≡ g → (es : Entries) (ys : Roses) → Good g ys → Good g (f_entries es ys)
  o-entries g a es_nil ys w = w
  o-entries g a (es_cons q t o es) ys w =
      good_more g (g_entry (q, t, o)) (f_entries es ys) 23 a refl (good-entry q t (o-term t) o (o-opt-term (opt 18 end) o rnil (refl, tt) (refl, tt))) (o-entries g a es ys w)

-- ---- natives, modules, main, the tree

o-native : (n : Native) → Obeys (f_native n)
unfolding Obeys f_native class shape classes shapes items decode row_at fit after ends
o-native n =
    good-node 0x85 n.place (rcons (f_name 0x90 n.name) (f_names 0x91 n.params rnil)) refl
    (good-one (one 14 (many 15 end)) (f_name 0x90 n.name) (f_names 0x91 n.params rnil) 14 refl refl (o-names 0x91 15 refl refl (many 15 end) refl n.params rnil (refl, tt)))

o-natives : (ns : List Native) → Good (many 6 end) (f_natives ns rnil)
unfolding Obeys f_native f_natives class classes fit after ends
o-natives [] = (refl, tt)
o-natives (n ∷ ns) = good_more (many 6 end) (f_native n) (f_natives ns rnil) 6 refl refl (o-native n) (o-natives ns)

o-import : (i : Import) → Obeys (f_import i)
unfolding Obeys f_import class shape classes shapes items decode row_at fit after ends
o-import i =
    good-node 0x8A i.place (rcons (f_number 0x8D i.number) (rcons (f_name 0x90 i.name) rnil)) refl
    (good-one (one 13 (one 14 end)) (f_number 0x8D i.number) (rcons (f_name 0x90 i.name) rnil) 13 refl refl (good-one (one 14 end) (f_name 0x90 i.name) rnil 14 refl refl (refl, tt)))

o-imports : (is : List Import) → Good (many 11 end) (f_imports is rnil)
unfolding Obeys f_import f_imports class classes fit after ends
o-imports [] = (refl, tt)
o-imports (i ∷ is) = good_more (many 11 end) (f_import i) (f_imports is rnil) 11 refl refl (o-import i) (o-imports is)

-- imports, includes and imported variables, before what g allows
o-uses : (u : Uses) (g : Items) (ys : Roses) → Good g ys → Good (one 7 (one 8 (one 9 g))) (f_uses u ys)
unfolding Obeys f_uses class shape classes shapes items decode row_at fit after ends
o-uses u g ys w =
    good-one (one 7 (one 8 (one 9 g))) (g_imports (u.imports_at, u.imports)) (rcons (g_includes (u.includes_at, u.includes)) (rcons (g_vars (u.vars_at, u.vars)) ys)) 7 refl
    (good-node 0x86 u.imports_at (f_imports u.imports rnil) refl (o-imports u.imports))
    (good-one (one 8 (one 9 g)) (g_includes (u.includes_at, u.includes)) (rcons (g_vars (u.vars_at, u.vars)) ys) 8 refl
    (good-node 0x87 u.includes_at (f_numbers u.includes rnil) refl (o-numbers (many 13 end) refl u.includes rnil (refl, tt)))
    (good-one (one 9 g) (g_vars (u.vars_at, u.vars)) ys 9 refl
    (good-node 0x88 u.vars_at (f_names 0x90 u.vars rnil) refl (o-names 0x90 14 refl refl (many 14 end) refl u.vars rnil (refl, tt))) w))

o-module : (m : Module) → Obeys (f_module m)
unfolding Obeys f_module class shape classes shapes items decode row_at fit after ends
o-module m =
    good-node 0x83 m.place (f_uses m.uses (rcons (g_defs (m.defs_at, m.defs)) rnil)) refl
    (o-uses m.uses (one 10 end) (rcons (g_defs (m.defs_at, m.defs)) rnil)
    (good-one (one 10 end) (g_defs (m.defs_at, m.defs)) rnil 10 refl (good-node 0x89 m.defs_at (f_defs m.defs rnil) refl (o-defs (many 12 end) refl m.defs rnil (refl, tt))) (refl, tt)))

o-main : (m : Main) → Obeys (f_main m)
unfolding Obeys f_main class shape classes shapes items decode row_at fit after ends
o-main m =
    good-node 0x84 m.place (f_uses m.uses (rcons (f_term m.body) rnil)) refl
    (o-uses m.uses (one 18 end) (rcons (f_term m.body) rnil) (good-one (one 18 end) (f_term m.body) rnil 18 (class-term m.body) (o-term m.body) (refl, tt)))

-- modules and main, and whether globals might have stood before them
o-modules : (g : Items) → after g 4 ≡ many 4 (one 5 end) → after g 5 ≡ end → (ms : List Module) (m : Main) → Good g (f_modules ms (rcons (f_main m) rnil))
unfolding Obeys f_modules f_module f_main class classes fit after ends
o-modules g a b [] m = good-one g (f_main m) rnil 5 refl (o-main m) (subst (λ (j : Items). Good j rnil) (sym b) (refl, tt))
o-modules g a b (n ∷ ms) m =
    good-one g (f_module n) (f_modules ms (rcons (f_main m) rnil)) 4 refl (o-module n)
    (subst (λ (j : Items). Good j (f_modules ms (rcons (f_main m) rnil))) (sym a) (o-modules (many 4 (one 5 end)) refl refl ms m))

o-globals : (x : Globals) (ms : List Module) (m : Main) → Good (opt 3 (many 4 (one 5 end))) (f_globals x (f_modules ms (rcons (f_main m) rnil)))
unfolding Obeys f_globals class shape classes shapes items decode row_at fit after ends
o-globals no_globals ms m = o-modules (opt 3 (many 4 (one 5 end))) refl refl ms m
o-globals (a_globals p xs) ms m =
    good-one (opt 3 (many 4 (one 5 end))) (g_globals (p, xs)) (f_modules ms (rcons (f_main m) rnil)) 3 refl
    (good-node 0x82 p (f_names 0x90 xs rnil) refl (o-names 0x90 14 refl refl (many 14 end) refl xs rnil (refl, tt))) (o-modules (many 4 (one 5 end)) refl refl ms m)

o-tree : (t : Tree) → Obeys (f_tree t)
unfolding Obeys f_tree class shape classes shapes items decode row_at fit after ends
o-tree t =
    good-node 0x80 t.place (rcons (g_natives (t.natives_at, t.natives)) (f_globals t.globals (f_modules t.modules (rcons (f_main t.main) rnil)))) refl
    (good-one (one 2 (opt 3 (many 4 (one 5 end)))) (g_natives (t.natives_at, t.natives)) (f_globals t.globals (f_modules t.modules (rcons (f_main t.main) rnil))) 2 refl
    (good-node 0x81 t.natives_at (f_natives t.natives rnil) refl (o-natives t.natives)) (o-globals t.globals t.modules t.main))

pub obeys-tree : (t : Tree) → (fit (row_at 0) (rcons (f_tree t) rnil) ≡ true) × Obey (rcons (f_tree t) rnil)
unfolding Obeys f_tree class classes items decode row_at fit after ends
obeys-tree t = good-one (one 1 end) (f_tree t) rnil 1 refl (o-tree t) (refl, tt)
