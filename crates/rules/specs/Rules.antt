-- The rules: what a term compiles to. Document 01's section Compiler, over the typed tree. Each sentence stands above what it says. Assumes nothing.
use Rattle.std.specs.Prelude.{ℕ, suc, ◌+◌, cond, List, [], ◌∷◌, ◌++◌, length}
use Rattle.std.proofs.Math.Option.{Option, none, some}
use Rattle.fields.specs.Number.{value}
use Rattle.text.specs.Utf8.{utf8}
use Rattle.tree.specs.Tree.{Name, text_place, Term, OptTerm, no_term, a_term, Terms, ts_nil, ts_cons, Branches, b_none, b_else, b_pair, Defs, ds_nil, ds_cons, Def, def, Pattern, p_var, p_arr, p_obj, OptPattern, no_pattern, a_pattern, Patterns, ps_nil, ps_cons, PatEntries, pes_nil, pes_cons, Parts, parts_nil, parts_cons, Part, part_index, part_range, Bound, without_bound, a_bound, StrParts, s_nil, s_cons, StrPart, s_text, s_char, s_term, Entries, es_nil, es_cons, Format, no_format, a_format, operator, t_id, t_recurse, t_arr, t_neg, t_label, t_break, t_if_then_else, t_var, t_call, t_def, t_num, t_try_catch, t_fold, t_pipe, t_bin_op, t_path, t_str, t_obj}
use Rattle.rules.specs.Names.{Text, ascii, same}
use Rattle.rules.specs.Table.{Rec, Node, n_id, n_recurse, n_to_string, n_int, n_str, n_arr, n_obj_empty, n_label, n_neg, n_pipe, n_try_catch, n_fold, n_path, Pat, pat_var, pat_idx, Pats, pats_nil, pats_cons, Folding, reduce, foreach, Step, index, range, Err, u_var, u_label, u_filter}
use Rattle.rules.specs.Tails.{Tail, empty, bit, union, sibling}
use Rattle.rules.specs.Rows.{Env, Row, label, filter, count, level, find_label, push_vars, filter_of, inside}
use Rattle.rules.specs.Filters.{Top, variable, meant, error_at}
use Rattle.rules.specs.Outs.{Out, slot, size, node, leaf, fail, Made, bare, member, joined, made_as, var_out, numeral, call_out, left_allows, right_allows, binary, ite_out, sum_out, sum_or, var_name, pair_out, lone_out, vars, vars_of, arity, is_optional}

-- a member that waits for the bindings in view, the number behind its own, and what it may return
abbrev pub Waiting : Type 0
Waiting = Env → ℕ → Tail → Out

-- what definitions leave: the rows then in view, their records, their errors
pub record Scope : Type 0 where
  pub env : Env
  pub more : List Rec
  pub errs : List Err

-- c: what the module sees past its locals
module _ (c : Top) where
  -- a call of the name x, whose first byte stands at q, with its arguments compiled
  unfoldable pub called : ℕ → Text → ℕ → ℕ → Made (List ℕ) → Env → Tail → Out
  called p x q a o e r = let m = meant c x q a e in call_out p (count e) r o m.missing m.found

  -- "a call of `!empty`, arity 0"; "`!empty` has place 0, length 6."
  unfoldable pub empty_out : ℕ → Env → Out
  empty_out p e = called p (ascii "!empty") 0 0 (bare []) e empty

  -- "A format, or ToString, is inserted first and shared."
  unfoldable pub format_out : Format → ℕ → Env → Out
  format_out no_format p e = leaf p n_to_string
  format_out (a_format x) p e = called p x.text (text_place x.place) 0 (bare []) e empty

  -- ---- folds

  -- "a Filter error of its name and count"
  unfoldable pub fold_error : Name → ℕ → Err
  fold_error f a = error_at c (u_filter a) (text_place f.place) f.text

  -- "`reduce` needs two, `foreach` two or three; any other name or count fails likewise after update, compiling no more.": o is made of what stands up to
  -- update, the arguments gs stand behind it, and n is the next number. The projection is a tail place
  unfoldable pub end_of_fold : ℕ → Name → ℕ → Made (Folding → Node) → List Waiting → Env → ℕ → Tail → Out
  end_of_fold p f a o [] e n r =
      cond (same f.text (ascii "reduce")) (node p (o.made reduce) o.more o.errs empty)
      (cond (same f.text (ascii "foreach")) (node p (o.made (foreach none)) o.more o.errs empty)
      (fail p (fold_error f a) o.more o.errs))
  end_of_fold p f a o (g ∷ []) e n r =
      let b = g e (suc n) r in
      cond (same f.text (ascii "foreach"))
      (node p (o.made (foreach (some n))) (o.more ++ slot b) (o.errs ++ b.errs) b.tail)
      (fail p (fold_error f a) o.more o.errs)
  end_of_fold p f a o (g ∷ h ∷ gs) e n r = fail p (fold_error f a) o.more o.errs

  -- "Fold: source, pattern, init, update, projection; update and projection under the variables." "Fold with fewer than two arguments fails .. before compiling
  -- anything.": the source s and the pattern x as compiled from n on, the pattern's variables vs, the arguments gs
  unfoldable pub out_of_fold : ℕ → Name → ℕ → Out → Made Pat → List Name → List Waiting → Env → ℕ → Tail → Out
  out_of_fold p f a s x vs [] e n r = fail p (fold_error f a) [] []
  out_of_fold p f a s x vs (g ∷ []) e n r = fail p (fold_error f a) [] []
  out_of_fold p f a s x vs (g ∷ h ∷ gs) e n r =
      let k = n + size s + length x.more in
      let i = g e (suc k) empty in
      let m = k + size i in
      let u = h (push_vars vs e) (suc m) empty in
      end_of_fold p f a
      (record {
        made = λ what. n_fold n x.made k m what;
        more = slot s ++ (x.more ++ (slot i ++ slot u));
        errs = s.errs ++ (x.errs ++ (i.errs ++ u.errs));
      })
      gs (push_vars vs e) (m + size u) r

  -- ---- terms

  -- `term t e n r`: the term t, where the rows e are in view, n is the next number behind its own, and calls of r may be returned. A member that takes the
  -- number k is `term _ _ (suc k) _`. "Tail places: right of Pipe and Alt, both sides of Comma, branches and else, `foreach` projection, body after definitions.
  -- Elsewhere the set is empty.": there a member gets r, elsewhere `empty`
  unfoldable mutual
    pub term : Term → Env → ℕ → Tail → Out
    term (t_id p) e n r = leaf p n_id
    term (t_recurse p) e n r = leaf p n_recurse
    -- "Absent array body or catch is a call of `!empty`, arity 0."
    term (t_arr p o) e n r = let a = or_empty o p e (suc n) in node p (n_arr n) (slot a) a.errs empty
    term (t_neg p t) e n r = let a = term t e (suc n) empty in node p (n_neg n) (slot a) a.errs empty
    term (t_label p x t) e n r = let a = term t (label x ∷ e) (suc n) empty in node p (n_label n) (slot a) a.errs empty
    term (t_break p x) e n r = var_out p (error_at c u_label (text_place p) x) (find_label x e)
    term (t_if_then_else p q t u bs) e n r =
        let a = term t e (suc n) empty in
        let b = term u e (suc (n + size a)) r in
        ite_out p n a b (branches bs p e (n + size a + size b) r)
    term (t_var p x) e n r = var_out p (error_at c u_var (text_place p) x) (variable c x e)
    term (t_call p f ts) e n r = called p f.text (text_place f.place) (arity ts) (args ts e n) e r
    -- a Def and its body share one number
    term (t_def p ds t) e n r =
        let d = defs ds e n r in
        let a = term t d.env (n + length d.more) r in
        record { self = a.self; more = d.more ++ a.more; errs = d.errs ++ a.errs; tail = a.tail }
    term (t_num p x) e n r = leaf p (numeral x)
    term (t_try_catch p t o) e n r =
        let a = term t e (suc n) empty in
        let k = n + size a in
        let b = or_empty o p e (suc k) in
        node p (n_try_catch n k) (slot a ++ slot b) (a.errs ++ b.errs) empty
    term (t_fold p f t x ts) e n r =
        let a = term t e (suc n) empty in
        out_of_fold p f (arity ts) a (pattern x p e (n + size a)) (vars x) (waiting ts) e n r
    -- "Pipe: left, right under the pattern variables, then the pattern."
    term (t_pipe p t q x u) e n r =
        let a = term t e (suc n) empty in
        let k = n + size a in
        let b = term u (push_vars (vars_of x) e) (suc k) r in
        let y = opt_pattern x p e (k + size b) in
        node p (n_pipe n y.made k) (slot a ++ (slot b ++ y.more)) (a.errs ++ (b.errs ++ y.errs)) b.tail
    -- "Comma, Alt .. and the rest: left to right."
    term (t_bin_op p t q x u) e n r =
        let o = operator x in
        let a = term t e (suc n) (left_allows o r) in
        let k = n + size a in
        let b = term u e (suc k) (right_allows o r) in
        node p (binary o n k) (slot a ++ slot b) (a.errs ++ b.errs) (union a.tail b.tail)
    term (t_path p t ps) e n r =
        let a = term t e (suc n) empty in
        let y = parts ps e (n + size a) in
        node p (n_path n y.made) (slot a ++ y.more) (a.errs ++ y.errs) empty
    -- "A format, or ToString, is inserted first and shared."
    term (t_str p f ss) e n r =
        let a = format_out f p e in
        let o = sum_or p (n_str []) (strings ss p n e (n + size a)) in
        record { self = o.self; more = slot a ++ o.more; errs = a.errs ++ o.errs; tail = empty }
    term (t_obj p es) e n r = sum_or p n_obj_empty (entries es p e n)

    -- an array's body or a catch, of the term at p
    pub or_empty : OptTerm → ℕ → Env → ℕ → Out
    or_empty no_term p e n = empty_out p e
    or_empty (a_term t) p e n = term t e n empty

    pub args : Terms → Env → ℕ → Made (List ℕ)
    args ts_nil e n = bare []
    args (ts_cons t ts) e n = let a = term t e (suc n) empty in joined ◌∷◌ (member n a) (args ts e (n + size a))

    -- a Fold's arguments, none compiled yet
    pub waiting : Terms → List Waiting
    waiting ts_nil = []
    waiting (ts_cons t ts) = (λ e n r. term t e n r) ∷ waiting ts

    -- what follows a pair of the conditional at p. "Absent else is Id."
    pub branches : Branches → ℕ → Env → ℕ → Tail → Out
    branches b_none p e n r = leaf p n_id
    branches (b_else t) p e n r = term t e n r
    branches (b_pair q t u bs) p e n r =
        let a = term t e (suc n) empty in
        let b = term u e (suc (n + size a)) r in
        ite_out p n a b (branches bs p e (n + size a + size b) r)

    -- ---- definitions

    pub defs : Defs → Env → ℕ → Tail → Scope
    defs ds_nil e n r = record { env = e; more = []; errs = [] }
    defs (ds_cons d ds) e n r =
        let a = body d e n r in
        let o = defs ds (defined d e n a.tail ∷ e) (n + size a) r in
        record { env = o.env; more = slot a ++ o.more; errs = a.errs ++ o.errs }

    -- "a definition before its body". "a body may return calls of itself and of what its place allows"
    pub body : Def → Env → ℕ → Tail → Out
    body (def p f ps t) e n r = term t (inside f ps n e) (suc n) (union r (bit (level e)))

    -- the row of a definition for what follows it, where s is what its body returns
    pub defined : Def → Env → ℕ → Tail → Row
    defined (def p f ps t) e n s = filter (filter_of f ps n e (sibling s))

    -- ---- patterns: the supplied keys stand at p, "the BinOp or Fold"; "object keys see none of them"

    pub pattern : Pattern → ℕ → Env → ℕ → Made Pat
    pattern (p_var q x) p e n = bare pat_var
    pattern (p_arr q xs) p e n = made_as pat_idx (elements xs 0 p e n)
    pattern (p_obj q xs) p e n = made_as pat_idx (keyed xs p e n)

    -- "Array keys are Int terms from 0, each before its pattern."
    pub elements : Patterns → ℕ → ℕ → Env → ℕ → Made Pats
    elements ps_nil i p e n = bare pats_nil
    elements (ps_cons x xs) i p e n =
        let a = pattern x p e (suc n) in
        let o = elements xs (suc i) p e (suc n + length a.more) in
        record { made = pats_cons n a.made o.made; more = record { place = p; node = n_int i } ∷ (a.more ++ o.more); errs = a.errs ++ o.errs }

    pub keyed : PatEntries → ℕ → Env → ℕ → Made Pats
    keyed pes_nil p e n = bare pats_nil
    keyed (pes_cons q t x xs) p e n =
        let k = term t e (suc n) empty in
        let a = pattern x p e (n + size k) in
        let o = keyed xs p e (n + size k + length a.more) in
        record { made = pats_cons n a.made o.made; more = slot k ++ (a.more ++ o.more); errs = k.errs ++ (a.errs ++ o.errs) }

    pub opt_pattern : OptPattern → ℕ → Env → ℕ → Made (Option Pat)
    opt_pattern no_pattern p e n = bare none
    opt_pattern (a_pattern x) p e n = made_as some (pattern x p e n)

    -- ---- paths: "(a range's start before its end)"

    pub parts : Parts → Env → ℕ → Made (List Step)
    parts parts_nil e n = bare []
    parts (parts_cons x xs) e n = let a = part x e n in joined ◌∷◌ a (parts xs e (n + length a.more))

    pub part : Part → Env → ℕ → Made Step
    part (part_index q t o) e n = made_as (λ k. index k (is_optional o)) (member n (term t e (suc n) empty))
    part (part_range q l u o) e n =
        let a = bound l e n in joined (λ i j. range i j (is_optional o)) a (bound u e (n + length a.more))

    pub bound : Bound → Env → ℕ → Made (Option ℕ)
    bound without_bound e n = bare none
    bound (a_bound q t) e n = made_as some (member n (term t e (suc n) empty))

    -- ---- strings: the parts of the Str at p, whose format has the number f

    pub strings : StrParts → ℕ → ℕ → Env → ℕ → Option Out
    strings s_nil p f e n = none
    strings (s_cons s ss) p f e n = let a = string s p f e n in some (sum_out p n a (strings ss p f e (n + length a.more)))

    pub string : StrPart → ℕ → ℕ → Env → ℕ → Out
    string (s_text x) p f e n = leaf p (n_str x.text)
    string (s_char x) p f e n = leaf p (n_str (utf8 (value x.bytes)))
    string (s_term t) p f e n = let a = term t e (suc n) empty in node p (n_pipe n none f) (slot a) a.errs empty

    -- ---- objects: the entries of the Obj at p

    pub entries : Entries → ℕ → Env → ℕ → Option Out
    entries es_nil p e n = none
    entries (es_cons q t v es) p e n =
        let a = entry v p e n (var_name t) (term t e (suc n) empty) (term t e (suc (suc n)) empty) in
        some (sum_out p n a (entries es p e (n + length a.more)))

    -- an entry with the value v; its key is compiled from n on, and, should it stand alone, read from the number behind n
    pub entry : OptTerm → ℕ → Env → ℕ → Option Text → Out → Out → Out
    entry no_term p e n x k v = lone_out p n k v x
    entry (a_term t) p e n x k v = pair_out p n k (term t e (suc (n + size k)) empty)
