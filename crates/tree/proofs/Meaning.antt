-- What a field of each class is: the field of a part of a tree; and how a row of members is taken apart, a member, an optional one or a list at a time.
-- Each gives the part, and the rest of the row. Assumes nothing.
use Rattle.std.specs.Prelude.{ℕ, ◌≡◌, refl, ◌⊎◌, cond, eqb}
use Rattle.std.proofs.Common.{sym, ap, ap₂, ◌∙◌, inl, inr}
use mathlib.Core.List.{List, [], ◌∷◌}
use Rattle.tree.specs.Rose.{Rose, Roses, leaf, node, rnil, rcons}
use Rattle.tree.specs.Grammar.{Items, end, opt, many, mix}
use Rattle.tree.specs.Tree.{Name, Number, Mark, Format, Term, OptTerm, Terms, Branches, Defs, Def, Pattern, OptPattern, Patterns, PatEntries, Parts, Part, Bound, StrParts, StrPart, Entries, Native, Globals, Import, Module, Main, Tree}
use Rattle.tree.specs.Tree.{no_mark, a_mark, no_format, a_format, no_term, a_term, ts_nil, ts_cons, b_none, b_else, b_pair, ds_nil, ds_cons, no_pattern, a_pattern, ps_nil, ps_cons, pes_nil, pes_cons}
use Rattle.tree.specs.Tree.{parts_nil, parts_cons, without_bound, a_bound, s_nil, s_cons, s_term, es_nil, es_cons, no_globals, a_globals}
use Rattle.tree.specs.Form.{f_name, f_number, f_names, f_numbers, f_mark, f_format, f_term, f_opt_term, f_terms, f_branches, f_defs, f_def, f_pattern, f_opt_pattern, f_patterns, f_pat_entries, f_parts, f_part, f_bound, f_str_parts, f_str_part, f_entries}
use Rattle.tree.specs.Form.{f_native, f_natives, f_globals, f_import, f_imports, f_module, f_modules, f_main, f_tree}
use Rattle.tree.proofs.Match.{cat, Each, Mixed, Match}

-- ---- fields that have no type of their own: the place, and the members

abbrev pub g_natives : ℕ × List Native → Rose
g_natives z = node 0x81 z.0 (f_natives z.1 rnil)

abbrev pub g_globals : ℕ × List Name → Rose
g_globals z = node 0x82 z.0 (f_names 0x90 z.1 rnil)

abbrev pub g_imports : ℕ × List Import → Rose
g_imports z = node 0x86 z.0 (f_imports z.1 rnil)

abbrev pub g_includes : ℕ × List Number → Rose
g_includes z = node 0x87 z.0 (f_numbers z.1 rnil)

abbrev pub g_vars : ℕ × List Name → Rose
g_vars z = node 0x88 z.0 (f_names 0x90 z.1 rnil)

abbrev pub g_defs : ℕ × Defs → Rose
g_defs z = node 0x89 z.0 (f_defs z.1 rnil)

abbrev pub g_pat_entry : ℕ × Term × Pattern → Rose
g_pat_entry z = node 0x9B z.0 (rcons (f_term z.1) (rcons (f_pattern z.2) rnil))

abbrev pub g_pair : ℕ × Term × Term → Rose
g_pair z = node 0xB8 z.0 (rcons (f_term z.1) (rcons (f_term z.2) rnil))

abbrev pub g_entry : ℕ × Term × OptTerm → Rose
g_entry z = node 0xBD z.0 (rcons (f_term z.1) (f_opt_term z.2 rnil))

abbrev pub g_mark : ℕ → Rose
g_mark p = node 0xC0 p rnil

abbrev pub g_from : ℕ × Term → Rose
g_from z = node 0xC1 z.0 (rcons (f_term z.1) rnil)

abbrev pub g_upto : ℕ × Term → Rose
g_upto z = node 0xC2 z.0 (rcons (f_term z.1) rnil)

-- the operator of a BinOp: a Pipe's place and pattern, or another's place and byte
pub data Op : Type 0 where
  op_pipe : ℕ → OptPattern → Op
  op_byte : ℕ → List ℕ → Op

abbrev pub g_op : Op → Rose
g_op (op_pipe q x) = node 0xB7 q (f_opt_pattern x rnil)
g_op (op_byte q x) = leaf 0xB9 q x

-- r is the field of some x
abbrev pub Of : (A : Type 0) → (A → Rose) → Rose → Type 0
Of A f r = (x : A) × (f x ≡ r)

-- the classes as the table numbers them
abbrev pub Meaning : ℕ → Rose → Type 0
Meaning c r =
    cond (eqb c 18) (Of Term f_term r)
    (cond (eqb c 14) (Of Name (f_name 0x90) r)
    (cond (eqb c 1) (Of Tree f_tree r)
    (cond (eqb c 2) (Of (ℕ × List Native) g_natives r)
    (cond (eqb c 3) (Of (ℕ × List Name) g_globals r)
    (cond (eqb c 4) (Of Module f_module r)
    (cond (eqb c 5) (Of Main f_main r)
    (cond (eqb c 6) (Of Native f_native r)
    (cond (eqb c 7) (Of (ℕ × List Import) g_imports r)
    (cond (eqb c 8) (Of (ℕ × List Number) g_includes r)
    (cond (eqb c 9) (Of (ℕ × List Name) g_vars r)
    (cond (eqb c 10) (Of (ℕ × Defs) g_defs r)
    (cond (eqb c 11) (Of Import f_import r)
    (cond (eqb c 12) (Of Def f_def r)
    (cond (eqb c 13) (Of Number (f_number 0x8D) r)
    (cond (eqb c 15) (Of Name (f_name 0x91) r)
    (cond (eqb c 16) (Of Pattern f_pattern r)
    (cond (eqb c 17) (Of (ℕ × Term × Pattern) g_pat_entry r)
    (cond (eqb c 19) (Of Op g_op r)
    (cond (eqb c 20) (Of (ℕ × Term × Term) g_pair r)
    (cond (eqb c 21) (Of Name (f_name 0xBA) r)
    (cond (eqb c 22) (Of StrPart f_str_part r)
    (cond (eqb c 23) (Of (ℕ × Term × OptTerm) g_entry r)
    (cond (eqb c 24) (Of Part f_part r)
    (cond (eqb c 25) (Of ℕ g_mark r)
    (cond (eqb c 26) (Of (ℕ × Term) g_from r)
    (cond (eqb c 27) (Of (ℕ × Term) g_upto r) (Unit {0})))))))))))))))))))))))))))

-- ---- a row taken apart

-- the row starts with x, and then has what P asks for
abbrev pub Then : (A : Type 0) → (A → Roses → Roses) → (Roses → Type 0) → Roses → Type 0
Then A put P rs = (x : A) × (ys : Roses) × (put x ys ≡ rs) × P ys

-- a member
pub member : {A : Type 0} (f : A → Rose) (P : Roses → Type 0) (rs : Roses) → ((r : Rose) × (ys : Roses) × (rs ≡ rcons r ys) × Of A f r × P ys) → Then A (λ (x : A). rcons (f x)) P rs
member f P rs h = (h.3.0, h.1, ap (λ (r : Rose). rcons r h.1) h.3.1 ∙ sym h.2, h.4)

-- none or one, O's `none` or `some`
module _ {A O : Type 0} (f : A → Rose) (put : O → Roses → Roses) (none : O) (some : A → O) (e : (ys : Roses) → put none ys ≡ ys) (d : (x : A) (ys : Roses) → put (some x) ys ≡ rcons (f x) ys) where
  maybe : (P : Roses → Type 0) (rs : Roses) → ((r : Rose) × (ys : Roses) × (rs ≡ rcons r ys) × Of A f r × P ys) ⊎ P rs → Then O put P rs
  maybe P rs (inl h) = (some h.3.0, h.1, d h.3.0 h.1 ∙ ap (λ (r : Rose). rcons r h.1) h.3.1 ∙ sym h.2, h.4)
  maybe P rs (inr h) = (none, rs, e rs, h)

-- any number, L's `nil` and `cons`
module _ {A L : Type 0} (f : A → Rose) (put : L → Roses → Roses) (nil : L) (cons : A → L → L) (e : (ys : Roses) → put nil ys ≡ ys)
    (d : (x : A) (l : L) (ys : Roses) → put (cons x l) ys ≡ rcons (f x) (put l ys)) where
  each : (k : ℕ) → ((r : Rose) → Meaning k r → Of A f r) → (xs : Roses) → Each Meaning k xs → (l : L) × ((ys : Roses) → put l ys ≡ cat xs ys)
  each k c rnil h = (nil, e)
  each k c (rcons r xs) h =
      let x = c r h.0 in
      let w = each k c xs h.1 in
      (cons x.0 w.0, λ ys. d x.0 w.0 ys ∙ ap₂ rcons x.1 (w.1 ys))

  mixed : (k : ℕ) → ((r : Rose) → Meaning k r ⊎ Of Term f_term r → Of A f r) → (xs : Roses) → Mixed Meaning k xs → (l : L) × ((ys : Roses) → put l ys ≡ cat xs ys)
  mixed k c rnil h = (nil, e)
  mixed k c (rcons r xs) h =
      let x = c r h.0 in
      let w = mixed k c xs h.1 in
      (cons x.0 w.0, λ ys. d x.0 w.0 ys ∙ ap₂ rcons x.1 (w.1 ys))

  list : (k : ℕ) → ((r : Rose) → Meaning k r → Of A f r) → (P : Roses → Type 0) (rs : Roses) → ((xs : Roses) × (ys : Roses) × (rs ≡ cat xs ys) × Each Meaning k xs × P ys) → Then L put P rs
  list k c P rs h = let w = each k c h.0 h.3 in (w.0, h.1, w.1 h.1 ∙ sym h.2, h.4)

  mixture : (k : ℕ) → ((r : Rose) → Meaning k r ⊎ Of Term f_term r → Of A f r) → (P : Roses → Type 0) (rs : Roses) → ((xs : Roses) × (ys : Roses) × (rs ≡ cat xs ys) × Mixed Meaning k xs × P ys) → Then L put P rs
  mixture k c P rs h = let w = mixed k c h.0 h.3 in (w.0, h.1, w.1 h.1 ∙ sym h.2, h.4)

-- ---- the optional members and the lists of TREE.md, before any further items g

module _ (g : Items) (rs : Roses) where
  pub term? : Match Meaning (opt 18 g) rs → Then OptTerm f_opt_term (Match Meaning g) rs
  unfolding f_term
  term? h = maybe f_term f_opt_term no_term a_term (λ ys. refl) (λ x ys. refl) (Match Meaning g) rs h

  pub pattern? : Match Meaning (opt 16 g) rs → Then OptPattern f_opt_pattern (Match Meaning g) rs
  unfolding f_term
  pattern? h = maybe f_pattern f_opt_pattern no_pattern a_pattern (λ ys. refl) (λ x ys. refl) (Match Meaning g) rs h

  pub mark? : Match Meaning (opt 25 g) rs → Then Mark f_mark (Match Meaning g) rs
  unfolding f_mark
  mark? h = maybe g_mark f_mark no_mark a_mark (λ ys. refl) (λ x ys. refl) (Match Meaning g) rs h

  pub format? : Match Meaning (opt 21 g) rs → Then Format f_format (Match Meaning g) rs
  unfolding f_format
  format? h = maybe (f_name 0xBA) f_format no_format a_format (λ ys. refl) (λ x ys. refl) (Match Meaning g) rs h

  pub from? : Match Meaning (opt 26 g) rs → Then Bound (f_bound 0xC1) (Match Meaning g) rs
  unfolding f_term
  from? h = maybe g_from (f_bound 0xC1) without_bound (λ z. a_bound z.0 z.1) (λ ys. refl) (λ x ys. refl) (Match Meaning g) rs h

  pub upto? : Match Meaning (opt 27 g) rs → Then Bound (f_bound 0xC2) (Match Meaning g) rs
  unfolding f_term
  upto? h = maybe g_upto (f_bound 0xC2) without_bound (λ z. a_bound z.0 z.1) (λ ys. refl) (λ x ys. refl) (Match Meaning g) rs h

  pub globals? : Match Meaning (opt 3 g) rs → Then Globals f_globals (Match Meaning g) rs
  unfolding f_globals
  globals? h = maybe g_globals f_globals no_globals (λ z. a_globals z.0 z.1) (λ ys. refl) (λ x ys. refl) (Match Meaning g) rs h

  pub terms : Match Meaning (many 18 g) rs → Then Terms f_terms (Match Meaning g) rs
  unfolding f_term
  terms h = list f_term f_terms ts_nil ts_cons (λ ys. refl) (λ x l ys. refl) 18 (λ r m. m) (Match Meaning g) rs h

  pub definitions : Match Meaning (many 12 g) rs → Then Defs f_defs (Match Meaning g) rs
  unfolding f_term
  definitions h = list f_def f_defs ds_nil ds_cons (λ ys. refl) (λ x l ys. refl) 12 (λ r m. m) (Match Meaning g) rs h

  pub patterns : Match Meaning (many 16 g) rs → Then Patterns f_patterns (Match Meaning g) rs
  unfolding f_term
  patterns h = list f_pattern f_patterns ps_nil ps_cons (λ ys. refl) (λ x l ys. refl) 16 (λ r m. m) (Match Meaning g) rs h

  pub pat_entries : Match Meaning (many 17 g) rs → Then PatEntries f_pat_entries (Match Meaning g) rs
  unfolding f_term
  pat_entries h = list g_pat_entry f_pat_entries pes_nil (λ z. pes_cons z.0 z.1 z.2) (λ ys. refl) (λ x l ys. refl) 17 (λ r m. m) (Match Meaning g) rs h

  pub entries : Match Meaning (many 23 g) rs → Then Entries f_entries (Match Meaning g) rs
  unfolding f_term
  entries h = list g_entry f_entries es_nil (λ z. es_cons z.0 z.1 z.2) (λ ys. refl) (λ x l ys. refl) 23 (λ r m. m) (Match Meaning g) rs h

  pub parts : Match Meaning (many 24 g) rs → Then Parts f_parts (Match Meaning g) rs
  unfolding f_term
  parts h = list f_part f_parts parts_nil parts_cons (λ ys. refl) (λ x l ys. refl) 24 (λ r m. m) (Match Meaning g) rs h

  pub names : Match Meaning (many 14 g) rs → Then (List Name) (f_names 0x90) (Match Meaning g) rs
  unfolding f_names
  names h = list (f_name 0x90) (f_names 0x90) [] ◌∷◌ (λ ys. refl) (λ x l ys. refl) 14 (λ r m. m) (Match Meaning g) rs h

  pub params : Match Meaning (many 15 g) rs → Then (List Name) (f_names 0x91) (Match Meaning g) rs
  unfolding f_names
  params h = list (f_name 0x91) (f_names 0x91) [] ◌∷◌ (λ ys. refl) (λ x l ys. refl) 15 (λ r m. m) (Match Meaning g) rs h

  pub numbers : Match Meaning (many 13 g) rs → Then (List Number) f_numbers (Match Meaning g) rs
  unfolding f_numbers
  numbers h = list (f_number 0x8D) f_numbers [] ◌∷◌ (λ ys. refl) (λ x l ys. refl) 13 (λ r m. m) (Match Meaning g) rs h

  pub imports : Match Meaning (many 11 g) rs → Then (List Import) f_imports (Match Meaning g) rs
  unfolding f_imports
  imports h = list f_import f_imports [] ◌∷◌ (λ ys. refl) (λ x l ys. refl) 11 (λ r m. m) (Match Meaning g) rs h

  pub natives : Match Meaning (many 6 g) rs → Then (List Native) f_natives (Match Meaning g) rs
  unfolding f_natives
  natives h = list f_native f_natives [] ◌∷◌ (λ ys. refl) (λ x l ys. refl) 6 (λ r m. m) (Match Meaning g) rs h

  pub modules : Match Meaning (many 4 g) rs → Then (List Module) f_modules (Match Meaning g) rs
  unfolding f_modules
  modules h = list f_module f_modules [] ◌∷◌ (λ ys. refl) (λ x l ys. refl) 4 (λ r m. m) (Match Meaning g) rs h

-- a text part, a character or a term
str_part : (r : Rose) → Of StrPart f_str_part r ⊎ Of Term f_term r → Of StrPart f_str_part r
unfolding f_term
str_part r (inl x) = x
str_part r (inr t) = (s_term t.0, t.1)

pub str_parts : (g : Items) (rs : Roses) → Match Meaning (mix 22 g) rs → Then StrParts f_str_parts (Match Meaning g) rs
unfolding f_term
str_parts g rs h = mixture f_str_part f_str_parts s_nil s_cons (λ ys. refl) (λ x l ys. refl) 22 str_part (Match Meaning g) rs h

-- further pairs, and the else
branch : (xs ys : Roses) → Each Meaning 20 xs → Match Meaning (opt 18 end) ys → (bs : Branches) × (f_branches bs ≡ cat xs ys)
unfolding f_term
branch rnil ys e (inl h) = (b_else h.3.0, ap₂ rcons h.3.1 (sym h.4) ∙ sym h.2)
branch rnil ys e (inr h) = (b_none, sym h)
branch (rcons r xs) ys e m = let w = branch xs ys e.1 m in (b_pair e.0.0.0 e.0.0.1 e.0.0.2 w.0, ap₂ rcons e.0.1 w.1)

pub branches : (rs : Roses) → Match Meaning (many 20 (opt 18 end)) rs → (bs : Branches) × (f_branches bs ≡ rs)
branches rs h = let w = branch h.0 h.1 h.3 h.4 in (w.0, w.1 ∙ sym h.2)
