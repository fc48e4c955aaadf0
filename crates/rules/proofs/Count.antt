-- As many terms are inserted as Count.antt of specs/ reads off the tree: each form first, then one induction. Assumes nothing.
use Rattle.std.specs.Prelude.{◌≡◌, Bool, cond}
use Rattle.std.proofs.Math.Path.{refl, ap}
use Rattle.std.proofs.Common.{◌∙◌}
use Rattle.std.proofs.Math.Bool.{true, false}
use Rattle.std.proofs.Math.Option.{Option, none, some}
use mathlib.Core.List.{List, [], ◌∷◌, ◌++◌}
use Prim.Native.Nat.{ℕ, suc, ◌+◌}
use native.Mathlib.Omega.{arith}
use Rattle.std.proofs.Math.ListN.{length, length-append}
use Rattle.tree.specs.Tree.{Name, Term, OptTerm, no_term, a_term, Terms, ts_nil, ts_cons, Branches, b_none, b_else, b_pair, Defs, ds_nil, ds_cons, Def, def, Pattern, p_var, p_arr, p_obj, OptPattern, no_pattern, a_pattern, Patterns, ps_nil, ps_cons, PatEntries, pes_nil, pes_cons, Parts, parts_nil, parts_cons, Part, part_index, part_range, Bound, without_bound, a_bound, StrParts, s_nil, s_cons, StrPart, s_text, s_char, s_term, Entries, es_nil, es_cons, Format, no_format, a_format, operator, text_place, Module, Tree, t_id, t_recurse, t_arr, t_neg, t_label, t_break, t_if_then_else, t_var, t_call, t_def, t_num, t_try_catch, t_fold, t_pipe, t_bin_op, t_path, t_str, t_obj}
use Rattle.rules.specs.Names.{Text, same, ascii}
use Rattle.rules.specs.Table.{Pat, Folding, reduce, foreach, index, Node, n_id, n_str, n_obj_empty, n_fold, n_path, Rec, Err}
use Rattle.rules.specs.Tails.{Tail, empty, bit, union}
use Rattle.rules.specs.Rows.{Filter, Env, count, label, level, inside, push_vars, filters}
use Rattle.rules.specs.Filters.{Top, Found, nothing, argument, local, of_module, of_native, meant}
use Rattle.rules.specs.Outs.{Out, slot, size, node, fail, Made, bare, call_out, var_out, left_allows, right_allows, ite_out, sum_out, sum_or, lone_out, var_name, vars, vars_of, arity}
use Rattle.rules.specs.Rules.{Waiting, called, empty_out, format_out, fold_error, end_of_fold, out_of_fold, term, or_empty, args, waiting, branches, defs, body, defined, pattern, elements, keyed, opt_pattern, parts, part, bound, strings, string, entries, entry}
use Rattle.rules.specs.Modules.{top_of, modules, compile}
use Rattle.rules.specs.Count.{fold_rest, fold_count, joint, or_none, lone_count, in_term, in_or, in_terms, each_term, in_branches, in_defs, in_def, in_pattern, in_opt_pattern, in_elements, in_keyed, in_parts, in_part, in_bound, in_strings, in_string, in_entries, in_value, in_modules, inserted}

-- ---- each form

call-count : (p k : ℕ) (r : Tail) (o : Made (List ℕ)) (x : Err) (f : Found) → length (call_out p k r o x f).more ≡ length o.more
unfolding call_out
call-count p k r o x nothing = refl
call-count p k r o x (argument i) = refl
call-count p k r o x (local d) = refl
call-count p k r o x (of_module d) = refl
call-count p k r o x (of_native i ps) = refl

var-count : (p : ℕ) (x : Err) (i : Option ℕ) → size (var_out p x i) ≡ 1
unfolding var_out
var-count p x none = refl
var-count p x (some i) = refl

ite-count : (p n : ℕ) (a b o : Out) → size (ite_out p n a b o) ≡ 1 + size a + size b + size o
unfolding ite_out
ite-count p n a b o =
    omega (arith, length-append (slot a) (slot b ++ (o.more ++ (o.self ∷ []))), length-append (slot b) (o.more ++ (o.self ∷ [])), length-append o.more (o.self ∷ []))

-- what is left of a sum inserts as many as it says
abbrev Counts : Option Out → Option ℕ → Type 0
Counts none none = Unit {0}
Counts none (some k) = ⊥
Counts (some o) none = ⊥
Counts (some o) (some k) = length o.more ≡ k

sum-count : (p n k : ℕ) (a : Out) (o : Option Out) (w : Option ℕ) → length a.more ≡ k → Counts o w → length (sum_out p n a o).more ≡ k + joint w
unfolding sum_out
sum-count p n k a none none e h = omega (arith, e)
sum-count p n k a none (some w) e h = absurd h
sum-count p n k a (some o) none e h = absurd h
sum-count p n k a (some o) (some w) e h =
    omega (arith, e, h, length-append a.more (o.more ++ (a.self ∷ o.self ∷ [])), length-append o.more (a.self ∷ o.self ∷ []))

sum-or-count : (p : ℕ) (t : Node) (o : Option Out) (w : Option ℕ) → Counts o w → size (sum_or p t o) ≡ 1 + or_none w
sum-or-count p t none none h = refl
sum-or-count p t none (some w) h = absurd h
sum-or-count p t (some o) none h = absurd h
sum-or-count p t (some o) (some w) h = omega (arith, h)

lone-count : (p n k : ℕ) (a v : Out) (x : Option Text) → size a ≡ k → size v ≡ k → length (lone_out p n a v x).more ≡ k + lone_count x
unfolding lone_out
lone-count p n k a v (some x) e h = omega (arith, h)
lone-count p n k a v none e h =
    omega (arith, e, length-append (slot a) (record { place = p; node = n_id } ∷ record { place = p; node = n_path (n + size a) (index n false ∷ []) } ∷ []))

abbrev CountsAll : List Waiting → List ℕ → Type 0
CountsAll [] [] = Unit {0}
CountsAll [] (w ∷ ws) = ⊥
CountsAll (g ∷ gs) [] = ⊥
CountsAll (g ∷ gs) (w ∷ ws) = ((e : Env) (n : ℕ) (r : Tail) → size (g e n r) ≡ w) × CountsAll gs ws

module _ (c : Top) where
  end-count : (p : ℕ) (f : Name) (a : ℕ) (o : Made (Folding → Node)) (gs : List Waiting) (ws : List ℕ) (e : Env) (n : ℕ) (r : Tail) → CountsAll gs ws
      → length (end_of_fold c p f a o gs e n r).more ≡ length o.more + fold_rest f.text ws
  unfolding end_of_fold
  end-count p f a o [] [] e n r h = go (same f.text (ascii "reduce")) (same f.text (ascii "foreach"))
    where
      go : (b d : Bool) → length (cond b (node p (o.made reduce) o.more o.errs empty) (cond d (node p (o.made (foreach none)) o.more o.errs empty) (fail p (fold_error c f a) o.more o.errs))).more ≡ length o.more + 0
      go true d = omega arith
      go false true = omega arith
      go false false = omega arith
  end-count p f a o [] (w ∷ ws) e n r h = absurd h
  end-count p f a o (g ∷ gs) [] e n r h = absurd h
  end-count p f a o (g ∷ []) (w ∷ []) e n r h = go (same f.text (ascii "foreach"))
    where
      b : Out
      b = g e (suc n) r

      go : (d : Bool) → length (cond d (node p (o.made (foreach (some n))) (o.more ++ slot (g e (suc n) r)) (o.errs ++ (g e (suc n) r).errs) (g e (suc n) r).tail) (fail p (fold_error c f a) o.more o.errs)).more ≡ length o.more + cond d w 0
      go true = omega (arith, length-append o.more (slot (g e (suc n) r)), h.0 e (suc n) r)
      go false = omega arith
  end-count p f a o (g ∷ []) (w ∷ x ∷ ws) e n r h = absurd h.1
  end-count p f a o (g ∷ i ∷ gs) (w ∷ []) e n r h = absurd h.1
  end-count p f a o (g ∷ i ∷ gs) (w ∷ x ∷ ws) e n r h = omega arith

  fold-count : (p : ℕ) (f : Name) (a : ℕ) (s : Out) (x : Made Pat) (vs : List Name) (gs : List Waiting) (ws : List ℕ) (e : Env) (n : ℕ) (r : Tail)
      → CountsAll gs ws → size (out_of_fold c p f a s x vs gs e n r) ≡ 1 + fold_count f.text (size s + length x.more) ws
  unfolding out_of_fold
  fold-count p f a s x vs [] [] e n r h = refl
  fold-count p f a s x vs [] (w ∷ ws) e n r h = absurd h
  fold-count p f a s x vs (g ∷ gs) [] e n r h = absurd h
  fold-count p f a s x vs (g ∷ []) (w ∷ []) e n r h = refl
  fold-count p f a s x vs (g ∷ []) (w ∷ y ∷ ws) e n r h = absurd h.1
  fold-count p f a s x vs (g ∷ i ∷ gs) (w ∷ []) e n r h = absurd h.1
  fold-count p f a s x vs (g ∷ i ∷ gs) (w ∷ y ∷ ws) e n r h =
      let k : ℕ = n + size s + length x.more in
      let b : Out = g e (suc k) empty in
      let m : ℕ = k + size b in
      let d : Out = i (push_vars vs e) (suc m) empty in
      let rest : List Rec = slot b ++ slot d in
      let o : Made (Folding → Node) = record {
        made = λ what. n_fold n x.made k m what;
        more = slot s ++ (x.more ++ rest);
        errs = s.errs ++ (x.errs ++ (b.errs ++ d.errs));
      } in
      omega (
        arith,
        end-count p f a o gs ws (push_vars vs e) (m + size d) r h.1.1,
        length-append (slot s) (x.more ++ rest),
        length-append x.more rest,
        length-append (slot b) (slot d),
        h.0 e (suc k) empty,
        h.1.0 (push_vars vs e) (suc m) empty,
      )

  -- ---- the induction

  empty-count : (p : ℕ) (e : Env) → size (empty_out c p e) ≡ 1
  unfolding empty_out called
  empty-count p e = ap suc (call-count p _ empty (bare []) _ _)

  format-count : (f : Format) (p : ℕ) (e : Env) → size (format_out c f p e) ≡ 1
  unfolding format_out called
  format-count no_format p e = refl
  format-count (a_format x) p e = ap suc (call-count p _ empty (bare []) _ _)

  mutual
    unfolding term in_term called

    pub counts : (t : Term) (e : Env) (n : ℕ) (r : Tail) → size (term c t e n r) ≡ in_term t
    counts (t_id p) e n r = refl
    counts (t_recurse p) e n r = refl
    counts (t_arr p o) e n r = omega (arith, or-counts o p e (suc n))
    counts (t_neg p t) e n r = omega (arith, counts t e (suc n) empty)
    counts (t_label p x t) e n r = omega (arith, counts t (label x ∷ e) (suc n) empty)
    counts (t_break p x) e n r = var-count p _ _
    counts (t_if_then_else p q t u bs) e n r =
        let a : Out = term c t e (suc n) empty in
        let b : Out = term c u e (suc (n + size a)) r in
        let k : ℕ = n + size a + size b in
        omega (arith, ite-count p n a b (branches c bs p e k r), counts t e (suc n) empty, counts u e (suc (n + size a)) r, branches-count bs p e k r)
    counts (t_var p x) e n r = var-count p _ _
    counts (t_call p f ts) e n r =
        let m = meant c f.text (text_place f.place) (arity ts) e in
        omega (arith, call-count p (count e) r (args c ts e n) m.missing m.found, args_count ts e n)
    counts (t_def p ds t) e n r =
        let d = defs c ds e n r in
        let a : Out = term c t d.env (n + length d.more) r in
        omega (arith, length-append d.more a.more, defs_count ds e n r, counts t d.env (n + length d.more) r)
    counts (t_num p x) e n r = refl
    counts (t_try_catch p t o) e n r =
        let a : Out = term c t e (suc n) empty in
        let b : Out = or_empty c o p e (suc (n + size a)) in
        omega (arith, length-append (slot a) (slot b), counts t e (suc n) empty, or-counts o p e (suc (n + size a)))
    counts (t_fold p f t x ts) e n r =
        let a : Out = term c t e (suc n) empty in
        let y : Made Pat = pattern c x p e (n + size a) in
        let q : size a + length y.more ≡ in_term t + in_pattern x = omega (arith, counts t e (suc n) empty, pattern-count x p e (n + size a)) in
        fold-count p f (arity ts) a y (vars x) (waiting c ts) (each_term ts) e n r (waiting-count ts) ∙ ap (λ (k : ℕ). 1 + fold_count f.text k (each_term ts)) q
    counts (t_pipe p t q x u) e n r =
        let a : Out = term c t e (suc n) empty in
        let k : ℕ = n + size a in
        let b : Out = term c u (push_vars (vars_of x) e) (suc k) r in
        let y = opt_pattern c x p e (k + size b) in
        omega (
          arith,
          length-append (slot a) (slot b ++ y.more),
          length-append (slot b) y.more,
          counts t e (suc n) empty,
          counts u (push_vars (vars_of x) e) (suc k) r,
          opt_pattern-count x p e (k + size b),
        )
    counts (t_bin_op p t q x u) e n r =
        let l : Tail = left_allows (operator x) r in
        let a : Out = term c t e (suc n) l in
        let b : Out = term c u e (suc (n + size a)) (right_allows (operator x) r) in
        omega (arith, length-append (slot a) (slot b), counts t e (suc n) l, counts u e (suc (n + size a)) (right_allows (operator x) r))
    counts (t_path p t ps) e n r =
        let a : Out = term c t e (suc n) empty in
        let y = parts c ps e (n + size a) in
        omega (arith, length-append (slot a) y.more, counts t e (suc n) empty, parts-count ps e (n + size a))
    counts (t_str p f ss) e n r =
        let a : Out = format_out c f p e in
        let o : Out = sum_or p (n_str []) (strings c ss p n e (n + size a)) in
        omega (
          arith,
          length-append (slot a) o.more,
          format-count f p e,
          sum-or-count p (n_str []) (strings c ss p n e (n + size a)) (in_strings ss) (strings-count ss p n e (n + size a)),
        )
    counts (t_obj p es) e n r = sum-or-count p n_obj_empty (entries c es p e n) (in_entries es) (entries-count es p e n)

    or-counts : (o : OptTerm) (p : ℕ) (e : Env) (n : ℕ) → size (or_empty c o p e n) ≡ in_or o
    or-counts no_term p e n = empty-count p e
    or-counts (a_term t) p e n = counts t e n empty

    args_count : (ts : Terms) (e : Env) (n : ℕ) → length (args c ts e n).more ≡ in_terms ts
    args_count ts_nil e n = refl
    args_count (ts_cons t ts) e n =
        let a : Out = term c t e (suc n) empty in
        let o : Made (List ℕ) = args c ts e (n + size a) in
        omega (arith, length-append (slot a) o.more, counts t e (suc n) empty, args_count ts e (n + size a))

    waiting-count : (ts : Terms) → CountsAll (waiting c ts) (each_term ts)
    waiting-count ts_nil = tt
    waiting-count (ts_cons t ts) = (λ e n r. counts t e n r, waiting-count ts)

    branches-count : (bs : Branches) (p : ℕ) (e : Env) (n : ℕ) (r : Tail) → size (branches c bs p e n r) ≡ in_branches bs
    branches-count b_none p e n r = refl
    branches-count (b_else t) p e n r = counts t e n r
    branches-count (b_pair q t u bs) p e n r =
        let a : Out = term c t e (suc n) empty in
        let b : Out = term c u e (suc (n + size a)) r in
        let k : ℕ = n + size a + size b in
        omega (arith, ite-count p n a b (branches c bs p e k r), counts t e (suc n) empty, counts u e (suc (n + size a)) r, branches-count bs p e k r)

    pub defs_count : (ds : Defs) (e : Env) (n : ℕ) (r : Tail) → length (defs c ds e n r).more ≡ in_defs ds
    defs_count ds_nil e n r = refl
    defs_count (ds_cons d ds) e n r =
        let a : Out = body c d e n r in
        let e' : Env = defined c d e n a.tail ∷ e in
        omega (arith, length-append (slot a) (defs c ds e' (n + size a) r).more, body-count d e n r, defs_count ds e' (n + size a) r)

    body-count : (d : Def) (e : Env) (n : ℕ) (r : Tail) → size (body c d e n r) ≡ in_def d
    body-count (def p f ps t) e n r = counts t (inside f ps n e) (suc n) (union r (bit (level e)))

    pattern-count : (x : Pattern) (p : ℕ) (e : Env) (n : ℕ) → length (pattern c x p e n).more ≡ in_pattern x
    pattern-count (p_var q x) p e n = refl
    pattern-count (p_arr q xs) p e n = elements-count xs 0 p e n
    pattern-count (p_obj q xs) p e n = keyed-count xs p e n

    elements-count : (xs : Patterns) (i p : ℕ) (e : Env) (n : ℕ) → length (elements c xs i p e n).more ≡ in_elements xs
    elements-count ps_nil i p e n = refl
    elements-count (ps_cons x xs) i p e n =
        let a : Made Pat = pattern c x p e (suc n) in
        let k : ℕ = suc n + length a.more in
        omega (arith, length-append a.more (elements c xs (suc i) p e k).more, pattern-count x p e (suc n), elements-count xs (suc i) p e k)

    keyed-count : (xs : PatEntries) (p : ℕ) (e : Env) (n : ℕ) → length (keyed c xs p e n).more ≡ in_keyed xs
    keyed-count pes_nil p e n = refl
    keyed-count (pes_cons q t x xs) p e n =
        let y : Out = term c t e (suc n) empty in
        let a : Made Pat = pattern c x p e (n + size y) in
        let k : ℕ = n + size y + length a.more in
        let os : List Rec = (keyed c xs p e k).more in
        omega (arith, length-append (slot y) (a.more ++ os), length-append a.more os, counts t e (suc n) empty, pattern-count x p e (n + size y), keyed-count xs p e k)

    opt_pattern-count : (x : OptPattern) (p : ℕ) (e : Env) (n : ℕ) → length (opt_pattern c x p e n).more ≡ in_opt_pattern x
    opt_pattern-count no_pattern p e n = refl
    opt_pattern-count (a_pattern x) p e n = pattern-count x p e n

    parts-count : (xs : Parts) (e : Env) (n : ℕ) → length (parts c xs e n).more ≡ in_parts xs
    parts-count parts_nil e n = refl
    parts-count (parts_cons x xs) e n =
        let as' : List Rec = (part c x e n).more in
        let k : ℕ = n + length as' in
        omega (arith, length-append as' (parts c xs e k).more, part_count x e n, parts-count xs e k)

    part_count : (x : Part) (e : Env) (n : ℕ) → length (part c x e n).more ≡ in_part x
    part_count (part_index q t o) e n = counts t e (suc n) empty
    part_count (part_range q l u o) e n =
        let as' : List Rec = (bound c l e n).more in
        let k : ℕ = n + length as' in
        omega (arith, length-append as' (bound c u e k).more, bound-count l e n, bound-count u e k)

    bound-count : (x : Bound) (e : Env) (n : ℕ) → length (bound c x e n).more ≡ in_bound x
    bound-count without_bound e n = refl
    bound-count (a_bound q t) e n = counts t e (suc n) empty

    strings-count : (ss : StrParts) (p f : ℕ) (e : Env) (n : ℕ) → Counts (strings c ss p f e n) (in_strings ss)
    strings-count s_nil p f e n = tt
    strings-count (s_cons x ss) p f e n =
        let a : Out = string c x p f e n in
        let k : ℕ = n + length a.more in
        sum-count p n (in_string x) a (strings c ss p f e k) (in_strings ss) (string-count x p f e n) (strings-count ss p f e k)

    string-count : (x : StrPart) (p f : ℕ) (e : Env) (n : ℕ) → length (string c x p f e n).more ≡ in_string x
    string-count (s_text x) p f e n = refl
    string-count (s_char x) p f e n = refl
    string-count (s_term t) p f e n = counts t e (suc n) empty

    entries-count : (es : Entries) (p : ℕ) (e : Env) (n : ℕ) → Counts (entries c es p e n) (in_entries es)
    entries-count es_nil p e n = tt
    entries-count (es_cons q t v es) p e n =
        let x : Out = term c t e (suc n) empty in
        let y : Out = term c t e (suc (suc n)) empty in
        let a : Out = entry c v p e n (var_name t) x y in
        let k : ℕ = n + length a.more in
        sum-count p n (in_term t + in_value v (var_name t)) a (entries c es p e k) (in_entries es)
        (entry-count v p e n (var_name t) x y (in_term t) (counts t e (suc n) empty) (counts t e (suc (suc n)) empty))
        (entries-count es p e k)

    entry-count : (v : OptTerm) (p : ℕ) (e : Env) (n : ℕ) (x : Option Text) (y z : Out) (k : ℕ) → size y ≡ k → size z ≡ k
        → length (entry c v p e n x y z).more ≡ k + in_value v x
    entry-count no_term p e n x y z k g h = lone-count p n k y z x g h
    entry-count (a_term t) p e n x y z k g h =
        let b : Out = term c t e (suc (n + size y)) empty in
        omega (arith, length-append (slot y) (slot b), g, counts t e (suc (n + size y)) empty)

modules-count : (t : Tree) (ms : List Module) (ds : List (List Filter)) (n : ℕ) → length (modules t ms ds n).more ≡ in_modules ms
unfolding modules
modules-count t [] ds n = refl
modules-count t (m ∷ ms) ds n =
    let c : Top = top_of t ds m.uses in
    let d = defs c m.defs [] n empty in
    let k : ℕ = n + length d.more in
    let fs : List (List Filter) = ds ++ (filters d.env ∷ []) in
    omega (arith, length-append d.more (modules t ms fs k).more, defs_count c m.defs [] n empty, modules-count t ms fs k)

-- the table of a tree is as long as its count says
pub table-count : (t : Tree) → length (compile t).table ≡ inserted t
unfolding compile
table-count t =
    let m = modules t t.modules [] 0 in
    let k : ℕ = length m.more in
    let c : Top = top_of t m.made t.main.uses in
    let o : Out = term c t.main.body [] (suc k) empty in
    omega (arith, length-append m.more (slot o), modules-count t t.modules [] 0, counts c t.main.body [] (suc k) empty)
