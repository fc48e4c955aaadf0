-- Every record that the rules give is fine in the table that holds them: Numbers.antt says what that means. Each form first, then one induction over the tree.
-- Assumes nothing.
use Rattle.std.specs.Prelude.{◌≡◌, refl, ◌&&◌}
use Rattle.std.proofs.Common.{ap, ◌∙◌}
use Rattle.std.proofs.Math.Path.{subst}
use Rattle.std.proofs.Math.Option.{Option, none, some}
use mathlib.Core.List.{List, [], ◌∷◌, ◌++◌}
use Prim.Native.Nat.{ℕ, suc, ◌+◌, ◌-◌, ◌^◌}
use native.Mathlib.Omega.{arith}
use Rattle.std.proofs.Math.ListN.{length, length-append}
use Rattle.std.proofs.Math.Dec.{leb}
use Rattle.tree.specs.Tree.{Name, Term, OptTerm, no_term, a_term, Terms, ts_nil, ts_cons, Branches, b_none, b_else, b_pair, Defs, ds_nil, ds_cons, Def, def, Pattern, p_var, p_arr, p_obj, OptPattern, no_pattern, a_pattern, Patterns, ps_nil, ps_cons, PatEntries, pes_nil, pes_cons, Parts, parts_nil, parts_cons, Part, part_index, part_range, Bound, without_bound, a_bound, StrParts, s_nil, s_cons, StrPart, s_text, s_char, s_term, Entries, es_nil, es_cons, Format, no_format, a_format, Operator, o_comma, o_alt, o_or, o_and, o_assign, o_update, o_update_alt, o_math, o_update_math, o_cmp, o_none, operator, Module, Tree, t_id, t_recurse, t_arr, t_neg, t_label, t_break, t_if_then_else, t_var, t_call, t_def, t_num, t_try_catch, t_fold, t_pipe, t_bin_op, t_path, t_str, t_obj}
use Rattle.rules.specs.Names.{Text, same, ascii}
use Rattle.rules.specs.Table.{Pat, Pats, Folding, reduce, foreach, Step, Node, n_num, n_int, n_str, n_arr, n_obj_empty, n_obj_single, n_label, n_neg, n_pipe, n_try_catch, n_path, Rec, Err}
use Rattle.rules.specs.Tails.{Tail, empty, bit, union, sibling}
use Rattle.rules.specs.Rows.{Filter, Env, label, filter, level, filter_of, inside, push_vars, filters}
use Rattle.rules.specs.Filters.{Top, Found, nothing, argument, local, of_module, of_native}
use Rattle.rules.specs.Outs.{Out, slot, size, leaf, Made, bare, binds, call_out, var_out, are_digits, decimal, numeral, binary, left_allows, right_allows, ite_out, sum_out, sum_or, pair_out, lone_out, var_name, vars, vars_of, arity}
use Rattle.rules.specs.Rules.{Waiting, called, empty_out, format_out, end_of_fold, out_of_fold, term, or_empty, args, waiting, branches, defs, body, pattern, elements, keyed, opt_pattern, parts, part, bound, strings, string, entries, entry}
use Rattle.rules.specs.Modules.{top_of, modules, compile}
use Rattle.rules.specs.Lists.{Every, every_append, every-left, every-right, members, either}
use Rattle.rules.specs.Slices.{Table, Slice, slice-left, slice-right, slice-self, stands-below}
use Rattle.rules.specs.Definitions.{defs_in, defs_opt, defs_terms, defs_branches, defs_all, defs_body, defs_pattern, defs_opt_pattern, defs_elements, defs_keyed, defs_parts, defs_part, defs_bound, defs_strings, defs_string, defs_entries, defs_modules, defs_of}
use Rattle.rules.specs.Numbers.{Takes, In, Defined, Called, InArgs, InPat, InPats, InOptPat, InOpt, InStep, InFold, Fine, FineAll, Known, KnownRows, KnownTop, Knows, meant-knows, push-known, params-known}
use Rattle.rules.specs.Fine.{Of}

-- D: what is known of each definition
module _ (T : Table) (D : Def → Type 0) where
  -- what o contains stands from n on: then it is fine, its own record too
  abbrev pub Good : ℕ → Out → Type 0
  Good n o = Slice T n o.more → FineAll T D (slot o)

  -- the same of several members, and P of what is made of them
  abbrev pub Makes : {A : Type 0} → (A → Type 0) → ℕ → Made A → Type 0
  Makes P n o = Slice T n o.more → P o.made × FineAll T D o.more

  both : (xs ys : List Rec) → FineAll T D xs → FineAll T D ys → FineAll T D (xs ++ ys)
  both xs ys = every_append (λ r. Fine T D r.node) xs ys

  -- D of each of these definitions
  abbrev All : List Def → Type 0
  All ds = Every D ds

  split : (xs ys : List Def) → All (xs ++ ys) → All xs × All ys
  split xs ys v = (every-left D xs ys v, every-right D xs ys v)

  three : (xs ys zs : List Def) → All (xs ++ (ys ++ zs)) → All xs × All ys × All zs
  three xs ys zs v = let u = split xs (ys ++ zs) v in let z = split ys zs u.1 in (u.0, z.0, z.1)

  -- a member at n, with others behind it
  first : (n : ℕ) (a : Out) (rs : List Rec) → Slice T n (slot a ++ rs) → In T n × Slice T (suc n) a.more × Slice T (n + size a) rs
  first n a rs s = (stands-below T n a.self s.0, slice-left T (suc n) a.more rs s.1, slice-right T n (slot a) rs s)

  -- ---- one and two members

  one : (n : ℕ) (a : Out) (x : Node) → (In T n → Fine T D x) → Good (suc n) a → Slice T n (slot a) → Fine T D x × FineAll T D (slot a)
  one n a x f g s = (f (stands-below T n a.self s.0), g s.1)

  two : (n : ℕ) (a b : Out) (x : Node) → (In T n → In T (n + size a) → Fine T D x) → Good (suc n) a → Good (suc (n + size a)) b → Slice T n (slot a ++ slot b)
      → Fine T D x × FineAll T D (slot a ++ slot b)
  two n a b x f g h s =
      let u = first n a (slot b) s in
      let v = one (n + size a) b x (f u.0) h u.2 in
      (v.0, both (slot a) (slot b) (g u.1) v.1)

  -- a member, then several
  then : {A : Type 0} (P : A → Type 0) (n : ℕ) (a : Out) (y : Made A) (x : Node) → (In T n → P y.made → Fine T D x) → Good (suc n) a → Makes P (n + size a) y
      → Slice T n (slot a ++ y.more) → Fine T D x × FineAll T D (slot a ++ y.more)
  then P n a y x f g h s =
      let u = first n a y.more s in
      let v = h u.2 in
      (f u.0 v.0, both (slot a) y.more (g u.1) v.1)

  binary-fine : (o : Operator) (a b : ℕ) → In T a → In T b → Fine T D (binary o a b)
  binary-fine o_comma a b i j = (i, j)
  binary-fine o_alt a b i j = (i, j)
  binary-fine o_or a b i j = (i, j)
  binary-fine o_and a b i j = (i, j)
  binary-fine o_assign a b i j = (i, j)
  binary-fine o_update a b i j = (i, j)
  binary-fine o_update_alt a b i j = (i, j)
  binary-fine (o_math k) a b i j = (i, j)
  binary-fine (o_update_math k) a b i j = (i, j)
  binary-fine (o_cmp k) a b i j = (i, j)
  binary-fine o_none a b i j = tt

  -- ---- leaves

  var-good : (n p : ℕ) (x : Err) (i : Option ℕ) → Good n (var_out p x i)
  unfolding var_out
  var-good n p x none s = (tt, tt)
  var-good n p x (some i) s = (tt, tt)

  numeral-fine : (x : Text) → Fine T D (numeral x)
  unfolding numeral
  numeral-fine x = either (Fine T D) (leb 1 (length x) && are_digits x && leb (decimal 0 x) (2 ^ 63 - 1)) (n_int (decimal 0 x)) (n_num x) (λ _. tt) tt

  -- ---- calls

  binds-in : (ps : List Name) (ns : List ℕ) → Every (In T) ns → InArgs T (binds ps ns)
  binds-in [] ns w = tt
  binds-in (p ∷ ps) [] w = tt
  binds-in (p ∷ ps) (n ∷ ns) w = (w.0, binds-in ps ns w.1)

  binds-taken : (ps : List Name) (ns : List ℕ) → length ns ≡ length ps → Takes ps (binds ps ns)
  binds-taken [] ns e = tt
  binds-taken (p ∷ ps) [] e = absurd (omega arith)
  binds-taken (p ∷ ps) (n ∷ ns) e = (refl, binds-taken ps ns (omega arith))

  -- the numbers of a arguments
  abbrev Numbered : ℕ → List ℕ → Type 0
  Numbered a ns = Every (In T) ns × (length ns ≡ a)

  called-fine : (d : Filter) (a : ℕ) (ns : List ℕ) → Known T D d → a ≡ length d.params → Numbered a ns
      → In T d.number × InArgs T (binds d.params ns) × Called T D d.number (binds d.params ns)
  called-fine d a ns k e w = (
    stands-below T d.number _ k.stands.0,
    binds-in d.params ns w.0,
    record { params = d.params; defined = k; takes = binds-taken d.params ns (w.1 ∙ e) },
  )

  call-good : (n p k a : ℕ) (r : Tail) (o : Made (List ℕ)) (x : Err) (f : Found) → Makes (Numbered a) n o → Knows T D a f → Good n (call_out p k r o x f)
  unfolding call_out
  call-good n p k a r o x nothing g h s = (tt, (g s).1)
  call-good n p k a r o x (argument i) g h s = (tt, (g s).1)
  call-good n p k a r o x (local d) g h s = (called-fine d a o.made h.0 h.1 (g s).0, (g s).1)
  call-good n p k a r o x (of_module d) g h s = (called-fine d a o.made h.0 h.1 (g s).0, (g s).1)
  call-good n p k a r o x (of_native i ps) g h s = (binds-in ps o.made (g s).0.0, (g s).1)

  -- ---- conditionals, sums, entries

  ite-good : (p n : ℕ) (a b o : Out) → Good (suc n) a → Good (suc (n + size a)) b → Good (n + size a + size b) o → Good n (ite_out p n a b o)
  unfolding ite_out
  ite-good p n a b o g h i s =
      let os : List Rec = o.more ++ (o.self ∷ []) in
      let u = first n a (slot b ++ os) s in
      let v = first (n + size a) b os u.2 in
      let w : FineAll T D (slot o) = i (slice-left T (n + size a + size b) o.more (o.self ∷ []) v.2) in
      let z = slice-right T (n + size a + size b) o.more (o.self ∷ []) v.2 in (
        (u.0, v.0, stands-below T _ o.self z.0),
        both (slot a) _ (g u.1) (both (slot b) os (h v.1) (both o.more (o.self ∷ []) w.1 (w.0, tt))),
      )

  -- the rest of a sum, if there is one
  abbrev GoodRest : ℕ → Option Out → Type 0
  GoodRest n none = Unit {0}
  GoodRest n (some o) = Good n o

  sum-good : (p n : ℕ) (a : Out) (o : Option Out) → Good n a → GoodRest (n + length a.more) o → Good n (sum_out p n a o)
  unfolding sum_out
  sum-good p n a none g h s = g s
  sum-good p n a (some o) g h s =
      let k : ℕ = n + length a.more + length o.more in
      let us : List Rec = a.self ∷ o.self ∷ [] in
      let s₁ = slice-right T n a.more (o.more ++ us) s in
      let s₂ : Slice T k us = slice-right T (n + length a.more) o.more us s₁ in
      let x : FineAll T D (slot a) = g (slice-left T n a.more (o.more ++ us) s) in
      let y : FineAll T D (slot o) = h (slice-left T (n + length a.more) o.more us s₁) in (
        (stands-below T k a.self s₂.0, stands-below T (suc k) o.self s₂.1.0),
        both a.more (o.more ++ us) x.1 (both o.more us y.1 (x.0, (y.0, tt))),
      )

  sum-or : (p n : ℕ) (t : Node) (o : Option Out) → Fine T D t → GoodRest n o → Good n (sum_or p t o)
  sum-or p n t none f g s = (f, tt)
  sum-or p n t (some o) f g s = g s

  pair-good : (p n : ℕ) (a b : Out) → Good (suc n) a → Good (suc (n + size a)) b → Good n (pair_out p n a b)
  pair-good p n a b g h s = two n a b (n_obj_single n (n + size a)) (λ i j. (i, j)) g h s

  lone-good : (p n : ℕ) (a v : Out) (x : Option Text) → Good (suc n) a → Good (suc (suc n)) v → Good n (lone_out p n a v x)
  unfolding lone_out
  lone-good p n a v (some x) g h s =
      let q : suc (suc n) ≡ suc (n + 1) = omega arith in
      pair-good p n (leaf p (n_str x)) v (λ _. (tt, tt)) (subst (λ (k : ℕ). Good k v) q h) s
  lone-good p n a v none g h s =
      let u = first n a _ s in
      let k : ℕ = n + size a in
      let z = u.2 in (
        (u.0, stands-below T (suc k) _ z.1.0),
        both (slot a) _ (g u.1) (tt, ((stands-below T k _ z.0, (u.0, tt)), tt)),
      )

  -- ---- folds

  -- a member that waits is good wherever the rows in view are known
  abbrev GoodWait : Waiting → Type 0
  GoodWait g = (e : Env) (n : ℕ) (r : Tail) → KnownRows T D e → Good n (g e n r)

  -- what stands up to update, from n on, is good; k is the number behind it
  pub record Upto (n k : ℕ) (o : Made (Folding → Node)) : Type 0 where
    pub end : n + length o.more ≡ k
    pub good : Makes (λ f. (x : Folding) → InFold T x → Fine T D (f x)) n o

  module _ (c : Top) where
    fold_end : (p : ℕ) (f : Name) (a : ℕ) (o : Made (Folding → Node)) (gs : List Waiting) (e : Env) (n k : ℕ) (r : Tail)
        → Upto n k o → Every GoodWait gs → KnownRows T D e → Good n (end_of_fold c p f a o gs e k r)
    unfolding end_of_fold
    fold_end p f a o [] e n k r u w v =
        either (Good n) (same f.text (ascii "reduce")) _ _ (λ _ s. ((u.good s).0 reduce tt, (u.good s).1))
        (either (Good n) (same f.text (ascii "foreach")) _ _ (λ _ s. ((u.good s).0 (foreach none) tt, (u.good s).1)) (λ s. (tt, (u.good s).1)))
    fold_end p f a o (g ∷ []) e n k r u w v =
        either (Good n) (same f.text (ascii "foreach")) _ _ (λ _ s. projected s) (λ s. (tt, (u.good s).1))
      where
        projected : Slice T n (o.more ++ slot (g e (suc k) r)) → Fine T D (o.made (foreach (some k))) × FineAll T D (o.more ++ slot (g e (suc k) r))
        projected s =
            let b : Out = g e (suc k) r in
            let x = u.good (slice-left T n o.more (slot b) s) in
            let z : Slice T k (slot b) = subst (λ (j : ℕ). Slice T j (slot b)) u.end (slice-right T n o.more (slot b) s) in
            (x.0 (foreach (some k)) (stands-below T k b.self z.0), both o.more (slot b) x.1 (w.0 e (suc k) r v z.1))
    fold_end p f a o (g ∷ h ∷ gs) e n k r u w v = λ s. (tt, (u.good s).1)

    fold-good : (p : ℕ) (f : Name) (a : ℕ) (q : Out) (x : Made Pat) (vs : List Name) (gs : List Waiting) (e : Env) (n : ℕ) (r : Tail)
        → Good (suc n) q → Makes (InPat T) (n + size q) x → Every GoodWait gs → KnownRows T D e → Good n (out_of_fold c p f a q x vs gs e n r)
    unfolding out_of_fold
    fold-good p f a q x vs [] e n r g h w v = λ s. (tt, tt)
    fold-good p f a q x vs (i ∷ []) e n r g h w v = λ s. (tt, tt)
    fold-good p f a q x vs (i ∷ u ∷ gs) e n r g h w v =
        let k : ℕ = n + size q + length x.more in
        let b : Out = i e (suc k) empty in
        let m : ℕ = k + size b in
        let d : Out = u (push_vars vs e) (suc m) empty in
        let rest : List Rec = slot b ++ slot d in
        fold_end p f a _ gs (push_vars vs e) n (m + size d) r
        (record {
          end = omega (arith, length-append (slot q) (x.more ++ rest), length-append x.more rest, length-append (slot b) (slot d));
          good = λ s.
              let s₁ = first n q (x.more ++ rest) s in
              let y = h (slice-left T (n + size q) x.more rest s₁.2) in
              let s₂ = first k b (slot d) (slice-right T (n + size q) x.more rest s₁.2) in
              let z = s₂.2 in (
                (λ what j. (s₁.0, y.0, s₂.0, stands-below T m d.self z.0, j)),
                both (slot q) _ (g s₁.1) (both x.more rest y.1 (both (slot b) (slot d) (w.0 e (suc k) empty v s₂.1) (w.1.0 (push_vars vs e) (suc m) empty (push-known T D vs e v) z.1))),
              );
        })
        w.1.1 (push-known T D vs e v)

    -- ---- the induction

    module _ (known : KnownTop T D c) where
      call : (n p : ℕ) (x : Text) (q a : ℕ) (o : Made (List ℕ)) (e : Env) (r : Tail) → KnownRows T D e → Makes (Numbered a) n o → Good n (called c p x q a o e r)
      unfolding called
      call n p x q a o e r w g = call-good n p _ a r o _ _ g (meant-knows T D c x q a e known w)

      -- a call without arguments
      call-bare : (n p : ℕ) (x : Text) (q : ℕ) (e : Env) (r : Tail) → KnownRows T D e → Good n (called c p x q 0 (bare []) e r)
      call-bare n p x q e r w = call n p x q 0 (bare []) e r w (λ s. ((tt, refl), tt))

      empty-good : (n p : ℕ) (e : Env) → KnownRows T D e → Good n (empty_out c p e)
      unfolding empty_out
      empty-good n p e w = call-bare n p _ 0 e empty w

      format-good : (f : Format) (n p : ℕ) (e : Env) → KnownRows T D e → Good n (format_out c f p e)
      unfolding format_out
      format-good no_format n p e w = λ s. (tt, tt)
      format-good (a_format x) n p e w = call-bare n p _ _ e empty w

      mutual
        unfolding term defs_in

        pub good : (t : Term) (e : Env) (n : ℕ) (r : Tail) → KnownRows T D e → All (defs_in t) → Good n (term c t e n r)
        good (t_id p) e n r w v = λ s. (tt, tt)
        good (t_recurse p) e n r w v = λ s. (tt, tt)
        good (t_arr p o) e n r w v = one n (or_empty c o p e (suc n)) (n_arr n) (λ i. i) (good-or o p e (suc n) w v)
        good (t_neg p t) e n r w v = one n (term c t e (suc n) empty) (n_neg n) (λ i. i) (good t e (suc n) empty w v)
        good (t_label p x t) e n r w v = one n (term c t (label x ∷ e) (suc n) empty) (n_label n) (λ i. i) (good t (label x ∷ e) (suc n) empty w v)
        good (t_break p x) e n r w v = var-good n p _ _
        good (t_if_then_else p q t u bs) e n r w v =
            let a : Out = term c t e (suc n) empty in
            let b : Out = term c u e (suc (n + size a)) r in
            let k : ℕ = n + size a + size b in
            let vs = three (defs_in t) (defs_in u) (defs_branches bs) v in
            ite-good p n a b (branches c bs p e k r) (good t e (suc n) empty w vs.0) (good u e (suc (n + size a)) r w vs.1) (good-branches bs p e k r w vs.2)
        good (t_var p x) e n r w v = var-good n p _ _
        good (t_call p f ts) e n r w v = call n p _ _ (arity ts) (args c ts e n) e r w (good-args ts e n w v)
        good (t_def p ds t) e n r w v = λ s.
            let d = defs c ds e n r in
            let a : Out = term c t d.env (n + length d.more) r in
            let vs = split (defs_all ds) (defs_in t) v in
            let x = good-defs ds e n r w vs.0 (slice-left T n d.more a.more s) in
            let y : FineAll T D (slot a) = good t d.env (n + length d.more) r x.1 vs.1 (slice-right T n d.more a.more s) in
            (y.0, both d.more a.more x.0 y.1)
        good (t_num p x) e n r w v = λ s. (numeral-fine x, tt)
        good (t_try_catch p t o) e n r w v =
            let a : Out = term c t e (suc n) empty in
            let k : ℕ = n + size a in
            let vs = split (defs_in t) (defs_opt o) v in
            two n a (or_empty c o p e (suc k)) (n_try_catch n k) (λ i j. (i, j)) (good t e (suc n) empty w vs.0) (good-or o p e (suc k) w vs.1)
        good (t_fold p f t x ts) e n r w v =
            let a : Out = term c t e (suc n) empty in
            let k : ℕ = n + size a in
            let vs = three (defs_in t) (defs_pattern x) (defs_terms ts) v in
            fold-good p f (arity ts) a (pattern c x p e k) (vars x) (waiting c ts) e n r (good t e (suc n) empty w vs.0) (good-pattern x p e k w vs.1) (good-waiting ts vs.2) w
        good (t_pipe p t q x u) e n r w v = λ s.
            let a : Out = term c t e (suc n) empty in
            let k : ℕ = n + size a in
            let b : Out = term c u (push_vars (vars_of x) e) (suc k) r in
            let y : Made (Option Pat) = opt_pattern c x p e (k + size b) in
            let vs = three (defs_in t) (defs_in u) (defs_opt_pattern x) v in
            let s₁ = first n a (slot b ++ y.more) s in
            let s₂ = first k b y.more s₁.2 in
            let z = good-opt_pattern x p e (k + size b) w vs.2 s₂.2 in (
              (s₁.0, z.0, s₂.0),
              both (slot a) (slot b ++ y.more) (good t e (suc n) empty w vs.0 s₁.1)
                  (both (slot b) y.more (good u (push_vars (vars_of x) e) (suc k) r (push-known T D (vars_of x) e w) vs.1 s₂.1) z.1),
            )
        good (t_bin_op p t q x u) e n r w v =
            let o = operator x in
            let a : Out = term c t e (suc n) (left_allows o r) in
            let k : ℕ = n + size a in
            let vs = split (defs_in t) (defs_in u) v in
            two n a (term c u e (suc k) (right_allows o r)) (binary o n k) (binary-fine o n k) (good t e (suc n) (left_allows o r) w vs.0) (good u e (suc k) (right_allows o r) w vs.1)
        good (t_path p t ps) e n r w v =
            let a : Out = term c t e (suc n) empty in
            let y : Made (List Step) = parts c ps e (n + size a) in
            let vs = split (defs_in t) (defs_parts ps) v in
            then (Every (InStep T)) n a y (n_path n y.made) (λ i j. (i, j)) (good t e (suc n) empty w vs.0) (good-parts ps e (n + size a) w vs.1)
        good (t_str p f ss) e n r w v = λ s.
            let a : Out = format_out c f p e in
            let o : Out = sum_or p (n_str []) (strings c ss p n e (n + size a)) in
            let s₁ = first n a o.more s in
            let y : FineAll T D (slot o) = sum-or p (n + size a) (n_str []) (strings c ss p n e (n + size a)) tt (good-strings ss p n e (n + size a) w v s₁.0) s₁.2 in
            (y.0, both (slot a) o.more (format-good f (suc n) p e w s₁.1) y.1)
        good (t_obj p es) e n r w v = sum-or p n n_obj_empty (entries c es p e n) tt (good-entries es p e n w v)

        good-or : (o : OptTerm) (p : ℕ) (e : Env) (n : ℕ) → KnownRows T D e → All (defs_opt o) → Good n (or_empty c o p e n)
        good-or no_term p e n w v = empty-good n p e w
        good-or (a_term t) p e n w v = good t e n empty w v

        good-args : (ts : Terms) (e : Env) (n : ℕ) → KnownRows T D e → All (defs_terms ts) → Makes (Numbered (arity ts)) n (args c ts e n)
        good-args ts_nil e n w v = λ s. ((tt, refl), tt)
        good-args (ts_cons t ts) e n w v = λ s.
            let a : Out = term c t e (suc n) empty in
            let o : Made (List ℕ) = args c ts e (n + size a) in
            let vs = split (defs_in t) (defs_terms ts) v in
            let s₁ = first n a o.more s in
            let y = good-args ts e (n + size a) w vs.1 s₁.2 in
            (((s₁.0, y.0.0), ap suc y.0.1), both (slot a) o.more (good t e (suc n) empty w vs.0 s₁.1) y.1)

        good-waiting : (ts : Terms) → All (defs_terms ts) → Every GoodWait (waiting c ts)
        good-waiting ts_nil v = tt
        good-waiting (ts_cons t ts) v = (λ e n r w. good t e n r w (split (defs_in t) (defs_terms ts) v).0, good-waiting ts (split (defs_in t) (defs_terms ts) v).1)

        good-branches : (bs : Branches) (p : ℕ) (e : Env) (n : ℕ) (r : Tail) → KnownRows T D e → All (defs_branches bs) → Good n (branches c bs p e n r)
        good-branches b_none p e n r w v = λ s. (tt, tt)
        good-branches (b_else t) p e n r w v = good t e n r w v
        good-branches (b_pair q t u bs) p e n r w v =
            let a : Out = term c t e (suc n) empty in
            let b : Out = term c u e (suc (n + size a)) r in
            let k : ℕ = n + size a + size b in
            let vs = three (defs_in t) (defs_in u) (defs_branches bs) v in
            ite-good p n a b (branches c bs p e k r) (good t e (suc n) empty w vs.0) (good u e (suc (n + size a)) r w vs.1) (good-branches bs p e k r w vs.2)

        pub good-defs : (ds : Defs) (e : Env) (n : ℕ) (r : Tail) → KnownRows T D e → All (defs_all ds) → Slice T n (defs c ds e n r).more
            → FineAll T D (defs c ds e n r).more × KnownRows T D (defs c ds e n r).env
        good-defs ds_nil e n r w v s = (tt, w)
        good-defs (ds_cons d ds) e n r w v s =
            let vs = split (defs_body d) (defs_all ds) v.1 in good-def d ds e n r w v.0 vs.0 s (λ e' k w'. good-defs ds e' k r w' vs.1)

        -- a definition, and the others by what is known of them
        good-def : (d : Def) (ds : Defs) (e : Env) (n : ℕ) (r : Tail) → KnownRows T D e → D d → All (defs_body d) → Slice T n (defs c (ds_cons d ds) e n r).more
            → ((e' : Env) (k : ℕ) → KnownRows T D e' → Slice T k (defs c ds e' k r).more → FineAll T D (defs c ds e' k r).more × KnownRows T D (defs c ds e' k r).env)
            → FineAll T D (defs c (ds_cons d ds) e n r).more × KnownRows T D (defs c (ds_cons d ds) e n r).env
        good-def (def p f ps t) ds e n r w i v s others =
            let a : Out = body c (def p f ps t) e n r in
            let e' : Env = filter (filter_of f ps n e (sibling a.tail)) ∷ e in
            let o = defs c ds e' (n + size a) r in
            let s₁ = first n a o.more s in
            let k : Defined T D n ps = record { top = c; place = p; name = f; term = t; env = e; allowed = r; such = i; stands = slice-left T n (slot a) o.more s } in
            let y = others e' (n + size a) (k, w) s₁.2 in
            (both (slot a) o.more (good t (inside f ps n e) (suc n) (union r (bit (level e))) (k, params-known T D ps e w) v s₁.1) y.0, y.1)

        good-pattern : (x : Pattern) (p : ℕ) (e : Env) (n : ℕ) → KnownRows T D e → All (defs_pattern x) → Makes (InPat T) n (pattern c x p e n)
        good-pattern (p_var q x) p e n w v = λ s. (tt, tt)
        good-pattern (p_arr q xs) p e n w v = good-elements xs 0 p e n w v
        good-pattern (p_obj q xs) p e n w v = good-keyed xs p e n w v

        good-elements : (xs : Patterns) (i p : ℕ) (e : Env) (n : ℕ) → KnownRows T D e → All (defs_elements xs) → Makes (InPats T) n (elements c xs i p e n)
        good-elements ps_nil i p e n w v = λ s. (tt, tt)
        good-elements (ps_cons x xs) i p e n w v = λ s.
            let a : Made Pat = pattern c x p e (suc n) in
            let o : Made Pats = elements c xs (suc i) p e (suc n + length a.more) in
            let vs = split (defs_pattern x) (defs_elements xs) v in
            let y = good-pattern x p e (suc n) w vs.0 (slice-left T (suc n) a.more o.more s.1) in
            let z = good-elements xs (suc i) p e (suc n + length a.more) w vs.1 (slice-right T (suc n) a.more o.more s.1) in
            ((stands-below T n (record { place = p; node = n_int i }) s.0, y.0, z.0), (tt, both a.more o.more y.1 z.1))

        good-keyed : (xs : PatEntries) (p : ℕ) (e : Env) (n : ℕ) → KnownRows T D e → All (defs_keyed xs) → Makes (InPats T) n (keyed c xs p e n)
        good-keyed pes_nil p e n w v = λ s. (tt, tt)
        good-keyed (pes_cons q t x xs) p e n w v = λ s.
            let k : Out = term c t e (suc n) empty in
            let a : Made Pat = pattern c x p e (n + size k) in
            let o : Made Pats = keyed c xs p e (n + size k + length a.more) in
            let vs = three (defs_in t) (defs_pattern x) (defs_keyed xs) v in
            let s₁ = first n k (a.more ++ o.more) s in
            let y = good-pattern x p e (n + size k) w vs.1 (slice-left T (n + size k) a.more o.more s₁.2) in
            let z = good-keyed xs p e (n + size k + length a.more) w vs.2 (slice-right T (n + size k) a.more o.more s₁.2) in
            ((s₁.0, y.0, z.0), both (slot k) (a.more ++ o.more) (good t e (suc n) empty w vs.0 s₁.1) (both a.more o.more y.1 z.1))

        good-opt_pattern : (x : OptPattern) (p : ℕ) (e : Env) (n : ℕ) → KnownRows T D e → All (defs_opt_pattern x) → Makes (InOptPat T) n (opt_pattern c x p e n)
        good-opt_pattern no_pattern p e n w v = λ s. (tt, tt)
        good-opt_pattern (a_pattern x) p e n w v = good-pattern x p e n w v

        good-parts : (xs : Parts) (e : Env) (n : ℕ) → KnownRows T D e → All (defs_parts xs) → Makes (Every (InStep T)) n (parts c xs e n)
        good-parts parts_nil e n w v = λ s. (tt, tt)
        good-parts (parts_cons x xs) e n w v = λ s.
            let a : Made Step = part c x e n in
            let o : Made (List Step) = parts c xs e (n + length a.more) in
            let vs = split (defs_part x) (defs_parts xs) v in
            let y = good-part x e n w vs.0 (slice-left T n a.more o.more s) in
            let z = good-parts xs e (n + length a.more) w vs.1 (slice-right T n a.more o.more s) in
            ((y.0, z.0), both a.more o.more y.1 z.1)

        good-part : (x : Part) (e : Env) (n : ℕ) → KnownRows T D e → All (defs_part x) → Makes (InStep T) n (part c x e n)
        good-part (part_index q t o) e n w v = λ s. (stands-below T n (term c t e (suc n) empty).self s.0, good t e (suc n) empty w v s.1)
        good-part (part_range q l u o) e n w v = λ s.
            let a : Made (Option ℕ) = bound c l e n in
            let b : Made (Option ℕ) = bound c u e (n + length a.more) in
            let vs = split (defs_bound l) (defs_bound u) v in
            let y = good-bound l e n w vs.0 (slice-left T n a.more b.more s) in
            let z = good-bound u e (n + length a.more) w vs.1 (slice-right T n a.more b.more s) in
            ((y.0, z.0), both a.more b.more y.1 z.1)

        good-bound : (x : Bound) (e : Env) (n : ℕ) → KnownRows T D e → All (defs_bound x) → Makes (InOpt T) n (bound c x e n)
        good-bound without_bound e n w v = λ s. (tt, tt)
        good-bound (a_bound q t) e n w v = λ s. (stands-below T n (term c t e (suc n) empty).self s.0, good t e (suc n) empty w v s.1)

        -- the format's number f is a term's
        good-strings : (ss : StrParts) (p f : ℕ) (e : Env) (n : ℕ) → KnownRows T D e → All (defs_strings ss) → In T f → GoodRest n (strings c ss p f e n)
        good-strings s_nil p f e n w v i = tt
        good-strings (s_cons x ss) p f e n w v i =
            let a : Out = string c x p f e n in
            let k : ℕ = n + length a.more in
            let vs = split (defs_string x) (defs_strings ss) v in
            sum-good p n a (strings c ss p f e k) (good-string x p f e n w vs.0 i) (good-strings ss p f e k w vs.1 i)

        good-string : (x : StrPart) (p f : ℕ) (e : Env) (n : ℕ) → KnownRows T D e → All (defs_string x) → In T f → Good n (string c x p f e n)
        good-string (s_text x) p f e n w v i = λ s. (tt, tt)
        good-string (s_char x) p f e n w v i = λ s. (tt, tt)
        good-string (s_term t) p f e n w v i = one n (term c t e (suc n) empty) (n_pipe n none f) (λ j. (j, tt, i)) (good t e (suc n) empty w v)

        good-entries : (es : Entries) (p : ℕ) (e : Env) (n : ℕ) → KnownRows T D e → All (defs_entries es) → GoodRest n (entries c es p e n)
        good-entries es_nil p e n w v = tt
        good-entries (es_cons q t o es) p e n w v =
            let x : Out = term c t e (suc n) empty in
            let y : Out = term c t e (suc (suc n)) empty in
            let a : Out = entry c o p e n (var_name t) x y in
            let k : ℕ = n + length a.more in
            let vs = three (defs_in t) (defs_opt o) (defs_entries es) v in
            sum-good p n a (entries c es p e k)
            (good-entry o p e n (var_name t) x y w vs.1 (good t e (suc n) empty w vs.0) (good t e (suc (suc n)) empty w vs.0))
            (good-entries es p e k w vs.2)

        good-entry : (o : OptTerm) (p : ℕ) (e : Env) (n : ℕ) (x : Option Text) (k y : Out) → KnownRows T D e → All (defs_opt o) → Good (suc n) k → Good (suc (suc n)) y
            → Good n (entry c o p e n x k y)
        good-entry no_term p e n x k y w v g h = lone-good p n k y x g h
        good-entry (a_term t) p e n x k y w v g h = pair-good p n k (term c t e (suc (n + size k)) empty) g (good t e (suc (n + size k)) empty w v)

  -- ---- the whole tree

  good-modules : (t : Tree) (ms : List Module) (ds : List (List Filter)) (n : ℕ) → Every (Every (Known T D)) ds → All (defs_modules ms) → Slice T n (modules t ms ds n).more
      → FineAll T D (modules t ms ds n).more × Every (Every (Known T D)) (modules t ms ds n).made
  unfolding modules defs_modules
  good-modules t [] ds n w v s = (tt, w)
  good-modules t (m ∷ ms) ds n w v s =
      let d = defs (top_of t ds m.uses) m.defs [] n empty in
      let vs = split (defs_all m.defs) (defs_modules ms) v in
      let fs : List (List Filter) = ds ++ (filters d.env ∷ []) in
      let x = good-defs (top_of t ds m.uses) w m.defs [] n empty tt vs.0 (slice-left T n d.more _ s) in
      let y = good-modules t ms fs (n + length d.more) (every_append (Every (Known T D)) ds (filters d.env ∷ []) w (x.1, tt)) vs.1 (slice-right T n d.more _ s) in
      (both d.more _ x.0 y.0, y.1)

-- every record of a compiled tree is fine in its table, and main is one of its numbers: with errors or without
pub table-fine : (t : Tree) → FineAll (compile t).table (Of t) (compile t).table × In (compile t).table (compile t).main
unfolding compile defs_of
table-fine t =
    let m = modules t t.modules [] 0 in
    let k : ℕ = length m.more in
    let c : Top = top_of t m.made t.main.uses in
    let o : Out = term c t.main.body [] (suc k) empty in
    let T : Table = m.more ++ slot o in
    let z : 0 + k ≡ k = omega arith in
    let vs = split T (Of t) (defs_modules t.modules) (defs_in t.main.body) (members (defs_of t)) in
    let x = good-modules T (Of t) t t.modules [] 0 tt vs.0 (slice-left T 0 m.more (slot o) (slice-self T)) in
    let s : Slice T k (slot o) = subst (λ (j : ℕ). Slice T j (slot o)) z (slice-right T 0 m.more (slot o) (slice-self T)) in
    let y : FineAll T (Of t) (slot o) = good T (Of t) c x.1 t.main.body [] (suc k) empty tt vs.1 s.1 in
    (both T (Of t) m.more (slot o) x.0 y, stands-below T k o.self s.0)
