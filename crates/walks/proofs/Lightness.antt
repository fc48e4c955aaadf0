-- Every record of an accepted or refused tree is light: its indices, lists and texts are bounded by the bytes of the tree. One induction over the tree.
-- Assumes nothing.
use Prim.Native.Nat.{ℕ, suc, ◌+◌, ◌-◌, ◌*◌, ◌≤◌, ◌<◌, ◌^◌}
use native.Mathlib.Omega.{arith}
use Rattle.std.specs.Prelude.{◌≡◌, Bool, true, cond, ◌&&◌}
use Rattle.std.proofs.Math.Path.{refl}
use Rattle.std.proofs.Math.Bool.{false}
use Rattle.std.proofs.lemmas.Bool.{false≢true}
use Rattle.std.proofs.Math.Option.{Option, none, some}
use mathlib.Core.List.{List, [], ◌∷◌, ◌++◌}
use Rattle.std.proofs.Math.ListN.{length, length-append, length-drop}
use Rattle.std.proofs.Math.Dec.{leb}
use borrow.Author.Tests.{leb-true}
use Rattle.fields.specs.Number.{number, value, length-number}
use Rattle.tree.specs.Tree.{Name, Term, OptTerm, no_term, a_term, Terms, ts_nil, ts_cons, Branches, b_none, b_else, b_pair, Defs, ds_nil, ds_cons, Def, def, Pattern, p_var, p_arr, p_obj, OptPattern, no_pattern, a_pattern, Patterns, ps_nil, ps_cons, PatEntries, pes_nil, pes_cons, Parts, parts_nil, parts_cons, Part, part_index, part_range, Bound, without_bound, a_bound, StrParts, s_nil, s_cons, StrPart, s_text, s_char, s_term, Entries, es_nil, es_cons, Format, no_format, a_format, Operator, o_comma, o_alt, o_or, o_and, o_assign, o_update, o_update_alt, o_math, o_update_math, o_cmp, o_none, operator, text_place, t_id, t_recurse, t_arr, t_neg, t_label, t_break, t_if_then_else, t_var, t_call, t_def, t_num, t_try_catch, t_fold, t_pipe, t_bin_op, t_path, t_str, t_obj}
use Rattle.tree.specs.Rose.{Roses, rnil, rcons}
use Rattle.tree.specs.Form.{f_names, f_term, f_opt_term, f_terms, f_branches, f_defs, f_def, f_pattern, f_opt_pattern, f_patterns, f_pat_entries, f_parts, f_part, f_bound, f_str_parts, f_str_part, f_entries, f_format, f_mark}
use Rattle.rules.specs.Names.{Text, ascii, same}
use Rattle.rules.specs.Table.{Pat, reduce, foreach, Step, index, Rec, Err, Node, n_id, n_recurse, n_to_string, n_int, n_num, n_str, n_arr, n_obj_empty, n_obj_single, n_var, n_call_def, n_native, n_label, n_neg, n_pipe, n_comma, n_assign, n_update, n_update_math, n_update_alt, n_logic, n_math, n_cmp, n_alt, n_try_catch, n_ite, n_fold, n_path, u_var, u_label}
use Rattle.rules.specs.Tails.{Tail, empty, bit, union, sibling}
use Rattle.rules.specs.Rows.{Row, Env, count, level, find_label, filter_of, inside, push_vars, params}
use Rattle.rules.specs.Filters.{Top, Found, nothing, argument, local, of_module, of_native, variable, meant, error_at}
use Rattle.rules.specs.Outs.{Out, slot, size, node, fail, Made, bare, binds, var_out, call_out, numeral, are_digits, decimal, left_allows, right_allows, binary, ite_out, sum_out, sum_or, pair_out, lone_out, var_name, vars, vars_of, arity}
use Rattle.rules.specs.Rules as Rules
use Rattle.rules.specs.Rules.{Waiting, Scope, called, empty_out, format_out, fold_error, end_of_fold, out_of_fold, term, or_empty, args, waiting, branches, defs, body, pattern, elements, keyed, opt_pattern, parts, part, bound, strings, string, entry}
use Rattle.rules.specs.Lists.{Every, every_append}
use Rattle.rules.specs.Listing.{pat_bytes, opt_pat_bytes, step_bytes, steps_bytes}
use Rattle.walks.specs.Weights.{weigh, weighs}
use Rattle.walks.proofs.Weights.{weigh-three, names-weigh, defs-weigh, format-weigh, bound-weigh, utf8-length}
use Rattle.walks.proofs.Light.{Below, label-below, outer_count, variable-below, FoundBelow, meant-below, push-count, params-count, pattern-bytes, vars-weigh, opt-vars-weigh, opt-pattern-bytes, parts-bytes, arity-weigh}
use Rattle.walks.proofs.Each.{args-arity}

-- K: the bytes of the tree
module _ (K : ℕ) where
  -- an index, a skip, a native's number and the bytes of a list or a text are no more than the tree's; an Int has eight bytes
  abbrev pub Light : Node → Type 0
  Light n_id = Unit {0}
  Light n_recurse = Unit {0}
  Light n_to_string = Unit {0}
  Light (n_int i) = i < 256 ^ 8
  Light (n_num x) = length x ≤ K
  Light (n_str x) = length x ≤ K
  Light (n_arr a) = Unit {0}
  Light n_obj_empty = Unit {0}
  Light (n_obj_single a b) = Unit {0}
  Light (n_var i) = i ≤ K
  Light (n_call_def n as' s k) = (3 * length as' ≤ K) × (s ≤ K)
  Light (n_native i as') = (i ≤ K) × (3 * length as' ≤ K)
  Light (n_label a) = Unit {0}
  Light (n_neg a) = Unit {0}
  Light (n_pipe a x b) = 3 * length (opt_pat_bytes 2 x) ≤ 5 * K
  Light (n_comma a b) = Unit {0}
  Light (n_assign a b) = Unit {0}
  Light (n_update a b) = Unit {0}
  Light (n_update_math a k b) = Unit {0}
  Light (n_update_alt a b) = Unit {0}
  Light (n_logic a o b) = Unit {0}
  Light (n_math a k b) = Unit {0}
  Light (n_cmp a k b) = Unit {0}
  Light (n_alt a b) = Unit {0}
  Light (n_try_catch a b) = Unit {0}
  Light (n_ite a b c) = Unit {0}
  Light (n_fold a x b c f) = 3 * length (pat_bytes 2 x) ≤ 5 * K
  Light (n_path a ss) = 3 * length (steps_bytes 2 ss) ≤ 4 * K

  abbrev pub AllLight : List Rec → Type 0
  AllLight rs = Every (λ r. Light r.node) rs

  pub both : (xs ys : List Rec) → AllLight xs → AllLight ys → AllLight (xs ++ ys)
  both xs ys = every_append (λ r. Light r.node) xs ys

  -- ---- each form

  binds-length : (ps : List Name) (ns : List ℕ) → length (binds ps ns) ≤ length ns
  binds-length [] ns = omega arith
  binds-length (p ∷ ps) [] = omega arith
  binds-length (p ∷ ps) (n ∷ ns) = omega (arith, binds-length ps ns)

  var-light : (p : ℕ) (x : Err) (k : ℕ) (i : Option ℕ) → Below k i → k ≤ K → AllLight (slot (var_out p x i))
  unfolding var_out
  var-light p x k none h b = (tt, tt)
  var-light p x k (some i) h b = (omega arith, tt)

  call-light : (p k : ℕ) (r : Tail) (o : Made (List ℕ)) (x : Err) (f : Found) (n : ℕ) → FoundBelow k n f → n ≤ K → k ≤ K → 3 * length o.made ≤ K → AllLight o.more
      → AllLight (slot (call_out p k r o x f))
  unfolding call_out
  call-light p k r o x nothing n w b h l m = (tt, m)
  call-light p k r o x (argument i) n w b h l m = (omega arith, m)
  call-light p k r o x (local d) n w b h l m = ((omega (arith, binds-length d.params o.made), omega arith), m)
  call-light p k r o x (of_module d) n w b h l m = ((omega (arith, binds-length d.params o.made), h), m)
  call-light p k r o x (of_native i ps) n w b h l m = ((omega arith, omega (arith, binds-length ps o.made)), m)

  operator-light : (o : Operator) (a b : ℕ) → Light (binary o a b)
  operator-light o_comma a b = tt
  operator-light o_alt a b = tt
  operator-light o_or a b = tt
  operator-light o_and a b = tt
  operator-light o_assign a b = tt
  operator-light o_update a b = tt
  operator-light o_update_alt a b = tt
  operator-light (o_math k) a b = tt
  operator-light (o_update_math k) a b = tt
  operator-light (o_cmp k) a b = tt
  operator-light o_none a b = tt

  and_left : (a b : Bool) → (a && b) ≡ true → a ≡ true
  and_left true b h = refl
  and_left false b h = h

  and_right : (a b : Bool) → (a && b) ≡ true → b ≡ true
  and_right true b h = h
  and_right false b h = absurd (false≢true h)

  number-light : (x : Text) (b : Bool) → (b ≡ true → decimal 0 x < 256 ^ 8) → length x ≤ K → Light (cond b (n_int (decimal 0 x)) (n_num x))
  number-light x true f h = f refl
  number-light x false f h = h

  -- "at most 2^63-1"
  numeral-light : (x : Text) → length x ≤ K → Light (numeral x)
  unfolding numeral
  numeral-light x h =
      number-light x (leb 1 (length x) && are_digits x && leb (decimal 0 x) (2 ^ 63 - 1))
      (λ q. omega (arith, leb-true (decimal 0 x) (2 ^ 63 - 1) (and_right (leb 1 (length x) && are_digits x) (leb (decimal 0 x) (2 ^ 63 - 1)) q))) h

  ite-light : (p n : ℕ) (a b o : Out) → AllLight (slot a) → AllLight (slot b) → AllLight (slot o) → AllLight (slot (ite_out p n a b o))
  unfolding ite_out
  ite-light p n a b o f g h = (tt, both (slot a) (slot b ++ (o.more ++ (o.self ∷ []))) f (both (slot b) (o.more ++ (o.self ∷ [])) g (both o.more (o.self ∷ []) h.1 (h.0, tt))))

  -- what is left of a sum
  abbrev RestLight : Option Out → Type 0
  RestLight none = Unit {0}
  RestLight (some o) = AllLight (slot o)

  sum-light : (p n : ℕ) (a : Out) (o : Option Out) → AllLight (slot a) → RestLight o → AllLight (slot (sum_out p n a o))
  unfolding sum_out
  sum-light p n a none f g = f
  sum-light p n a (some o) f g = (tt, both a.more (o.more ++ (a.self ∷ o.self ∷ [])) f.1 (both o.more (a.self ∷ o.self ∷ []) g.1 (f.0, (g.0, tt))))

  sum-or-light : (p : ℕ) (x : Node) (o : Option Out) → Light x → RestLight o → AllLight (slot (sum_or p x o))
  sum-or-light p x none f g = (f, tt)
  sum-or-light p x (some o) f g = g

  pair-light : (p n : ℕ) (a b : Out) → AllLight (slot a) → AllLight (slot b) → AllLight (slot (pair_out p n a b))
  pair-light p n a b f g = (tt, both (slot a) (slot b) f g)

  -- a lone `$x` has the text of its name
  abbrev TextLight : Option Text → Type 0
  TextLight none = Unit {0}
  TextLight (some x) = length x ≤ K

  lone-light : (p n : ℕ) (a v : Out) (x : Option Text) → AllLight (slot a) → AllLight (slot v) → TextLight x → 3 ≤ K → AllLight (slot (lone_out p n a v x))
  unfolding lone_out steps_bytes step_bytes
  lone-light p n a v (some x) f g h b = (tt, both (record { place = p; node = n_str x } ∷ []) (slot v) (h, tt) g)
  lone-light p n a v none f g h b =
      let path : Rec = record { place = p; node = n_path (n + size a) (index n false ∷ []) } in
      let l : length (number 2 n ++ (0 ∷ [])) ≡ 3 = omega (arith, length-append (number 2 n) (0 ∷ []), length-number 2 n) in
      let m : length ((number 2 n ++ (0 ∷ [])) ++ []) ≡ 3 = omega (arith, l, length-append (number 2 n ++ (0 ∷ [])) []) in
      let w : 3 * suc (length ((number 2 n ++ (0 ∷ [])) ++ [])) ≤ 4 * K = omega arith in
      (tt, both (slot a) (record { place = p; node = n_id } ∷ path ∷ []) f (tt, (w, tt)))

  -- ---- one module's terms

  module _ (c : Top) where
    -- there is room for what is in view and w bytes more
    abbrev Room : Env → ℕ → Type 0
    Room e w = count e + outer_count c + w ≤ K

    abbrev Waits : List Waiting → Terms → Type 0
    Waits [] ts_nil = Unit {0}
    Waits [] (ts_cons t ts) = ⊥
    Waits (g ∷ gs) ts_nil = ⊥
    Waits (g ∷ gs) (ts_cons t ts) = ((e : Env) (n : ℕ) (r : Tail) → Room e (weigh (f_term t)) → AllLight (slot (g e n r))) × Waits gs ts

    pick-light : (b : Bool) (o o' : Out) → AllLight (slot o) → AllLight (slot o') → AllLight (slot (cond b o o'))
    pick-light true o o' h k = h
    pick-light false o o' h k = k

    end-light : (p : ℕ) (f : Name) (a k i j : ℕ) (x : Pat) (rs : List Rec) (es : List Err) (gs : List Waiting) (ts : Terms) (e : Env) (n : ℕ) (r : Tail)
        → 3 * length (pat_bytes 2 x) ≤ 5 * K → AllLight rs → Waits gs ts → Room e (weighs (f_terms ts rnil))
        → AllLight (slot (end_of_fold c p f a (record { made = λ what. n_fold k x i j what; more = rs; errs = es }) gs e n r))
    unfolding end_of_fold f_term
    end-light p f a k i j x rs es [] ts e n r w m v b =
        pick-light (same f.text (ascii "reduce")) (node p (n_fold k x i j reduce) rs es empty) _ (w, m)
        (pick-light (same f.text (ascii "foreach")) (node p (n_fold k x i j (foreach none)) rs es empty) (fail p (fold_error c f a) rs es) (w, m) (tt, m))
    end-light p f a k i j x rs es (g ∷ []) ts_nil e n r w m v b = absurd v
    end-light p f a k i j x rs es (g ∷ []) (ts_cons t ts) e n r w m v b =
        let o : Out = g e (suc n) r in
        pick-light (same f.text (ascii "foreach")) (node p (n_fold k x i j (foreach (some n))) (rs ++ slot o) (es ++ o.errs) o.tail) (fail p (fold_error c f a) rs es)
        (w, both rs (slot o) m (v.0 e (suc n) r (omega arith))) (tt, m)
    end-light p f a k i j x rs es (g ∷ g' ∷ gs) ts e n r w m v b = (tt, m)

    fold-light : (p : ℕ) (f : Name) (a : ℕ) (s : Out) (x : Made Pat) (vs : List Name) (gs : List Waiting) (ts : Terms) (e : Env) (n : ℕ) (r : Tail)
        → AllLight (slot s) → AllLight x.more → 3 * length (pat_bytes 2 x.made) ≤ 5 * K → Waits gs ts → Room e (length vs + weighs (f_terms ts rnil))
        → AllLight (slot (out_of_fold c p f a s x vs gs e n r))
    unfolding out_of_fold f_term
    fold-light p f a s x vs [] ts e n r hs hx hp v b = (tt, tt)
    fold-light p f a s x vs (g ∷ []) ts e n r hs hx hp v b = (tt, tt)
    fold-light p f a s x vs (g ∷ g' ∷ gs) ts_nil e n r hs hx hp v b = absurd v
    fold-light p f a s x vs (g ∷ g' ∷ gs) (ts_cons t ts_nil) e n r hs hx hp v b = absurd v.1
    fold-light p f a s x vs (g ∷ g' ∷ gs) (ts_cons t (ts_cons u ts)) e n r hs hx hp v b =
        let k : ℕ = n + size s + length x.more in
        let i : Out = g e (suc k) empty in
        let m : ℕ = k + size i in
        let e' : Env = push_vars vs e in
        let q : count e' ≡ length vs + count e = push-count vs e in
        let o : Out = g' e' (suc m) empty in
        end-light p f a n k m x.made (slot s ++ (x.more ++ (slot i ++ slot o))) (s.errs ++ (x.errs ++ (i.errs ++ o.errs))) gs ts e' (m + size o) r hp
        (both (slot s) (x.more ++ (slot i ++ slot o)) hs
        (both x.more (slot i ++ slot o) hx
        (both (slot i) (slot o) (v.0 e (suc k) empty (omega arith)) (v.1.0 e' (suc m) empty (omega arith)))))
        v.1.1 (omega arith)

    called-light : (p : ℕ) (x : Text) (q a : ℕ) (o : Made (List ℕ)) (e : Env) (r : Tail) → length c.natives ≤ K → count e ≤ K → 3 * length o.made ≤ K → AllLight o.more
        → AllLight (slot (called c p x q a o e r))
    unfolding called
    called-light p x q a o e r hn hc hl m = call-light p (count e) r o (meant c x q a e).missing (meant c x q a e).found (length c.natives) (meant-below c x q a e) hn hc hl m

    empty-light : (p : ℕ) (e : Env) → length c.natives ≤ K → count e ≤ K → AllLight (slot (empty_out c p e))
    unfolding empty_out
    empty-light p e hn hc = called-light p (ascii "!empty") 0 0 (bare []) e empty hn hc (omega arith) tt

    format-light : (f : Format) (p : ℕ) (e : Env) → length c.natives ≤ K → count e ≤ K → AllLight (slot (format_out c f p e))
    unfolding format_out
    format-light no_format p e hn hc = (tt, tt)
    format-light (a_format x) p e hn hc = called-light p x.text (text_place x.place) 0 (bare []) e empty hn hc (omega arith) tt

    defs_count : (ds : Defs) (e : Env) (n : ℕ) (r : Tail) → count (defs c ds e n r).env ≡ count e
    unfolding term
    defs_count ds_nil e n r = refl
    defs_count (ds_cons (def p f ps t) ds) e n r =
        let a : Out = body c (def p f ps t) e n r in defs_count ds (Row.filter (filter_of f ps n e (sibling a.tail)) ∷ e) (n + size a) r

    lone-text : (t : Term) → weigh (f_term t) ≤ K → TextLight (var_name t)
    unfolding f_term
    lone-text (t_var p x) h = omega (arith, length-drop 1 x)
    lone-text (t_id p) h = tt
    lone-text (t_recurse p) h = tt
    lone-text (t_arr p o) h = tt
    lone-text (t_neg p t) h = tt
    lone-text (t_label p x t) h = tt
    lone-text (t_break p x) h = tt
    lone-text (t_if_then_else p q t u bs) h = tt
    lone-text (t_call p f ts) h = tt
    lone-text (t_def p ds t) h = tt
    lone-text (t_num p x) h = tt
    lone-text (t_try_catch p t o) h = tt
    lone-text (t_fold p f t x ts) h = tt
    lone-text (t_pipe p t q x u) h = tt
    lone-text (t_bin_op p t q x u) h = tt
    lone-text (t_path p t ps) h = tt
    lone-text (t_str p f ss) h = tt
    lone-text (t_obj p es) h = tt

    -- ---- the induction

    module _ (natives : length c.natives ≤ K) (small : K ≤ 32768) (wide : 4 ≤ K) where
      none-light : 3 * length (opt_pat_bytes 2 none) ≤ 5 * K
      unfolding opt_pat_bytes
      none-light = omega arith

      mutual
        unfolding term f_term

        pub light : (t : Term) (e : Env) (n : ℕ) (r : Tail) → Room e (weigh (f_term t)) → AllLight (slot (term c t e n r))
        light (t_id p) e n r b = (tt, tt)
        light (t_recurse p) e n r b = (tt, tt)
        light (t_arr p o) e n r b = (tt, light-or o p e (suc n) (omega arith))
        light (t_neg p t) e n r b = (tt, light t e (suc n) empty (omega arith))
        light (t_label p x t) e n r b = (tt, light t (Row.label x ∷ e) (suc n) empty (omega arith))
        light (t_break p x) e n r b = var-light p (error_at c u_label (text_place p) x) (count e) (find_label x e) (label-below x e) (omega arith)
        light (t_if_then_else p q t u bs) e n r b =
            let a : Out = term c t e (suc n) empty in
            let o : Out = term c u e (suc (n + size a)) r in
            let k : ℕ = n + size a + size o in
            ite-light p n a o (branches c bs p e k r) (light t e (suc n) empty (omega arith)) (light u e (suc (n + size a)) r (omega arith)) (light-branches bs p e k r (omega arith))
        light (t_var p x) e n r b = var-light p (error_at c u_var (text_place p) x) (count e + outer_count c) (variable c x e) (variable-below c x e) (omega arith)
        light (t_call p f ts) e n r b =
            called-light p f.text (text_place f.place) (arity ts) (args c ts e n) e r natives (omega arith)
            (omega (arith, args-arity c ts e n, arity-weigh ts)) (light-args ts e n (omega arith))
        light (t_def p ds t) e n r b =
            let d : Scope = defs c ds e n r in
            let m : ℕ = n + length d.more in
            let a : Out = term c t d.env m r in
            let q : count d.env ≡ count e = defs_count ds e n r in
            let w : weighs (rcons (f_term t) rnil) ≤ weighs (f_defs ds (rcons (f_term t) rnil)) = defs-weigh ds (rcons (f_term t) rnil) in
            let g : AllLight (slot a) = light t d.env m r (omega arith) in
            (g.0, both d.more a.more (light-defs ds (rcons (f_term t) rnil) e n r (omega arith)) g.1)
        light (t_num p x) e n r b = (numeral-light x (omega arith), tt)
        light (t_try_catch p t o) e n r b =
            let a : Out = term c t e (suc n) empty in
            let k : ℕ = n + size a in
            (tt, both (slot a) (slot (or_empty c o p e (suc k))) (light t e (suc n) empty (omega arith)) (light-or o p e (suc k) (omega arith)))
        light (t_fold p f t x ts) e n r b =
            let a : Out = term c t e (suc n) empty in
            let k : ℕ = n + size a in
            let w : 3 * length (vars x) ≤ weigh (f_pattern x) = vars-weigh x in
            fold-light p f (arity ts) a (pattern c x p e k) (vars x) (waiting c ts) ts e n r (light t e (suc n) empty (omega arith)) (light-pattern x p e k (omega arith))
            (omega (arith, pattern-bytes c x p e k)) (light-waiting ts) (omega arith)
        light (t_pipe p t q x u) e n r b =
            let a : Out = term c t e (suc n) empty in
            let k : ℕ = n + size a in
            let e' : Env = push_vars (vars_of x) e in
            let o : Out = term c u e' (suc k) r in
            let y : Made (Option Pat) = opt_pattern c x p e (k + size o) in
            let z : count e' ≡ length (vars_of x) + count e = push-count (vars_of x) e in
            let w : 3 * length (vars_of x) ≤ weighs (f_opt_pattern x rnil) = opt-vars-weigh x in (
              omega (arith, opt-pattern-bytes c x p e (k + size o)),
              both (slot a) (slot o ++ y.more) (light t e (suc n) empty (omega arith))
                  (both (slot o) y.more (light u e' (suc k) r (omega arith)) (light-opt_pattern x p e (k + size o) (omega arith))),
            )
        light (t_bin_op p t q x u) e n r b =
            let o : Operator = operator x in
            let a : Out = term c t e (suc n) (left_allows o r) in
            let k : ℕ = n + size a in (
              operator-light o n k,
              both (slot a) (slot (term c u e (suc k) (right_allows o r))) (light t e (suc n) (left_allows o r) (omega arith)) (light u e (suc k) (right_allows o r) (omega arith)),
            )
        light (t_path p t ps) e n r b =
            let a : Out = term c t e (suc n) empty in
            let k : ℕ = n + size a in
            (omega (arith, parts-bytes c ps e k), both (slot a) (parts c ps e k).more (light t e (suc n) empty (omega arith)) (light-parts ps e k (omega arith)))
        light (t_str p f ss) e n r b =
            let a : Out = format_out c f p e in
            let o : Out = sum_or p (n_str []) (strings c ss p n e (n + size a)) in
            let w : weighs (f_str_parts ss rnil) ≤ weighs (f_format f (f_str_parts ss rnil)) = format-weigh f (f_str_parts ss rnil) in
            let g : AllLight (slot o) = sum-or-light p (n_str []) (strings c ss p n e (n + size a)) (omega arith) (light-strings ss p n e (n + size a) (omega arith)) in
            (g.0, both (slot a) o.more (format-light f p e natives (omega arith)) g.1)
        light (t_obj p es) e n r b = sum-or-light p n_obj_empty (Rules.entries c es p e n) tt (light-entries es p e n (omega arith))

        light-or : (o : OptTerm) (p : ℕ) (e : Env) (n : ℕ) → Room e (weighs (f_opt_term o rnil)) → AllLight (slot (or_empty c o p e n))
        light-or no_term p e n b = empty-light p e natives (omega arith)
        light-or (a_term t) p e n b = light t e n empty (omega arith)

        light-args : (ts : Terms) (e : Env) (n : ℕ) → Room e (weighs (f_terms ts rnil)) → AllLight (args c ts e n).more
        light-args ts_nil e n b = tt
        light-args (ts_cons t ts) e n b =
            let a : Out = term c t e (suc n) empty in both (slot a) (args c ts e (n + size a)).more (light t e (suc n) empty (omega arith)) (light-args ts e (n + size a) (omega arith))

        light-waiting : (ts : Terms) → Waits (waiting c ts) ts
        light-waiting ts_nil = tt
        light-waiting (ts_cons t ts) = (λ e n r b. light t e n r b, light-waiting ts)

        light-branches : (bs : Branches) (p : ℕ) (e : Env) (n : ℕ) (r : Tail) → Room e (weighs (f_branches bs)) → AllLight (slot (branches c bs p e n r))
        light-branches b_none p e n r b = (tt, tt)
        light-branches (b_else t) p e n r b = light t e n r (omega arith)
        light-branches (b_pair q t u bs) p e n r b =
            let a : Out = term c t e (suc n) empty in
            let o : Out = term c u e (suc (n + size a)) r in
            let k : ℕ = n + size a + size o in
            ite-light p n a o (branches c bs p e k r) (light t e (suc n) empty (omega arith)) (light u e (suc (n + size a)) r (omega arith)) (light-branches bs p e k r (omega arith))

        pub light-defs : (ds : Defs) (rs : Roses) (e : Env) (n : ℕ) (r : Tail) → Room e (weighs (f_defs ds rs)) → AllLight (defs c ds e n r).more
        light-defs ds_nil rs e n r b = tt
        light-defs (ds_cons d ds) rs e n r b = light-def d ds rs e n r (omega arith) (λ e' k w. light-defs ds rs e' k r w) (omega arith)

        -- a definition, and the others by what is known of them
        light-def : (d : Def) (ds : Defs) (rs : Roses) (e : Env) (n : ℕ) (r : Tail) → Room e (weigh (f_def d))
            → ((e' : Env) (k : ℕ) → Room e' (weighs (f_defs ds rs)) → AllLight (defs c ds e' k r).more) → Room e (weighs (f_defs ds rs))
            → AllLight (defs c (ds_cons d ds) e n r).more
        light-def (def p f ps t) ds rs e n r b others b' =
            let a : Out = body c (def p f ps t) e n r in
            let e' : Env = Row.filter (filter_of f ps n e (sibling a.tail)) ∷ e in
            let q : count (params ps e) ≡ length ps + count e = params-count ps e in
            let w : 3 * length ps + weighs (rcons (f_term t) rnil) ≤ weighs (f_names 0x91 ps (rcons (f_term t) rnil)) = names-weigh 0x91 ps (rcons (f_term t) rnil) in
            both (slot a) (defs c ds e' (n + size a) r).more (light t (inside f ps n e) (suc n) (union r (bit (level e))) (omega arith)) (others e' (n + size a) b')

        light-pattern : (x : Pattern) (p : ℕ) (e : Env) (n : ℕ) → Room e (weigh (f_pattern x)) → AllLight (pattern c x p e n).more
        light-pattern (p_var q x) p e n b = tt
        light-pattern (p_arr q xs) p e n b = light-elements xs 0 p e n (omega arith)
        light-pattern (p_obj q xs) p e n b = light-keyed xs p e n (omega arith)

        light-elements : (xs : Patterns) (i p : ℕ) (e : Env) (n : ℕ) → Room e (i + weighs (f_patterns xs rnil)) → AllLight (elements c xs i p e n).more
        light-elements ps_nil i p e n b = tt
        light-elements (ps_cons x xs) i p e n b =
            let a : Made Pat = pattern c x p e (suc n) in
            let k : ℕ = suc n + length a.more in
            let w : 3 ≤ weigh (f_pattern x) = weigh-three (f_pattern x) in
            let v : i < 256 ^ 8 = omega arith in
            (v, both a.more (elements c xs (suc i) p e k).more (light-pattern x p e (suc n) (omega arith)) (light-elements xs (suc i) p e k (omega arith)))

        light-keyed : (xs : PatEntries) (p : ℕ) (e : Env) (n : ℕ) → Room e (weighs (f_pat_entries xs rnil)) → AllLight (keyed c xs p e n).more
        light-keyed pes_nil p e n b = tt
        light-keyed (pes_cons q t x xs) p e n b =
            let o : Out = term c t e (suc n) empty in
            let k : ℕ = n + size o in
            let a : Made Pat = pattern c x p e k in
            let m : ℕ = k + length a.more in
            both (slot o) (a.more ++ (keyed c xs p e m).more) (light t e (suc n) empty (omega arith))
            (both a.more (keyed c xs p e m).more (light-pattern x p e k (omega arith)) (light-keyed xs p e m (omega arith)))

        light-opt_pattern : (x : OptPattern) (p : ℕ) (e : Env) (n : ℕ) → Room e (weighs (f_opt_pattern x rnil)) → AllLight (opt_pattern c x p e n).more
        light-opt_pattern no_pattern p e n b = tt
        light-opt_pattern (a_pattern x) p e n b = light-pattern x p e n (omega arith)

        light-parts : (xs : Parts) (e : Env) (n : ℕ) → Room e (weighs (f_parts xs rnil)) → AllLight (parts c xs e n).more
        light-parts parts_nil e n b = tt
        light-parts (parts_cons x xs) e n b =
            let a : Made Step = part c x e n in
            let k : ℕ = n + length a.more in
            both a.more (parts c xs e k).more (light-part x e n (omega arith)) (light-parts xs e k (omega arith))

        light-part : (x : Part) (e : Env) (n : ℕ) → Room e (weigh (f_part x)) → AllLight (part c x e n).more
        light-part (part_index q t m) e n b = light t e (suc n) empty (omega arith)
        light-part (part_range q l u m) e n b =
            let a : Made (Option ℕ) = bound c l e n in
            let k : ℕ = n + length a.more in
            both a.more (bound c u e k).more (light-bound l 0xC1 (f_bound 0xC2 u (f_mark m rnil)) e n (omega arith))
            (light-bound u 0xC2 (f_mark m rnil) e k (omega (arith, bound-weigh 0xC1 l (f_bound 0xC2 u (f_mark m rnil)))))

        light-bound : (x : Bound) (k : ℕ) (rs : Roses) (e : Env) (n : ℕ) → Room e (weighs (f_bound k x rs)) → AllLight (bound c x e n).more
        light-bound without_bound k rs e n b = tt
        light-bound (a_bound q t) k rs e n b = light t e (suc n) empty (omega arith)

        light-strings : (ss : StrParts) (p f : ℕ) (e : Env) (n : ℕ) → Room e (weighs (f_str_parts ss rnil)) → RestLight (strings c ss p f e n)
        light-strings s_nil p f e n b = tt
        light-strings (s_cons x ss) p f e n b =
            let a : Out = string c x p f e n in
            let k : ℕ = n + length a.more in
            sum-light p n a (strings c ss p f e k) (light-string x p f e n (omega arith)) (light-strings ss p f e k (omega arith))

        light-string : (x : StrPart) (p f : ℕ) (e : Env) (n : ℕ) → Room e (weigh (f_str_part x)) → AllLight (slot (string c x p f e n))
        light-string (s_text x) p f e n b = (omega arith, tt)
        light-string (s_char x) p f e n b = (omega (arith, utf8-length (value x.bytes)), tt)
        light-string (s_term t) p f e n b = (none-light, light t e (suc n) empty (omega arith))

        light-entries : (es : Entries) (p : ℕ) (e : Env) (n : ℕ) → Room e (weighs (f_entries es rnil)) → RestLight (Rules.entries c es p e n)
        light-entries es_nil p e n b = tt
        light-entries (es_cons q t o es) p e n b =
            let x : Out = term c t e (suc n) empty in
            let y : Out = term c t e (suc (suc n)) empty in
            let a : Out = entry c o p e n (var_name t) x y in
            let k : ℕ = n + length a.more in
            let w : 3 ≤ weigh (f_term t) = weigh-three (f_term t) in
            sum-light p n a (Rules.entries c es p e k)
            (light-entry o p e n (var_name t) x y (light t e (suc n) empty (omega arith)) (light t e (suc (suc n)) empty (omega arith)) (lone-text t (omega arith)) (omega arith) (omega arith))
            (light-entries es p e k (omega arith))

        light-entry : (o : OptTerm) (p : ℕ) (e : Env) (n : ℕ) (x : Option Text) (k v : Out) → AllLight (slot k) → AllLight (slot v) → TextLight x → 3 ≤ K
            → Room e (weighs (f_opt_term o rnil)) → AllLight (slot (entry c o p e n x k v))
        light-entry no_term p e n x k v f g h w b = lone-light p n k v x f g h w
        light-entry (a_term t) p e n x k v f g h w b = pair-light p n k (term c t e (suc (n + size k)) empty) f (light t e (suc (n + size k)) empty (omega arith))
