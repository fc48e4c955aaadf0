-- The lengths of own records and of what stands in them, against the widths that are known before the numbers are. Assumes nothing.
use Prim.Native.Nat.{ℕ, suc, ◌+◌, ◌-◌, ◌^◌, ◌≤◌, ◌<◌}
use Rattle.std.proofs.Common.{arith, sym, ap₂, ◌∙◌, ne_eqb, lt-ltb, le-ltb, le-leb, ltb-true, ltb-false, eqb-true}
use Rattle.std.proofs.Math.Decide.{dec_lt}
use Rattle.std.specs.Prelude.{◌≡◌, Bool, true, false, cond, ◌&&◌, eqb, leb, ltb}
use Rattle.std.proofs.Math.Path.{refl, ap}
use Rattle.std.proofs.Math.Option.{Option, none, some}
use mathlib.Core.List.{List, [], ◌∷◌, ◌++◌}
use Rattle.std.proofs.Math.ListN.{length, length-append}
use Rattle.std.proofs.lemmas.Bool.{lt-leb, eqb-false}
use Rattle.fields.specs.Number.{number, length-number, value}
use Rattle.text.specs.Utf8.{utf8}
use Rattle.fields.specs.Field.{field, length-field}
use Rattle.tree.specs.Leaf.{listed, is_operator}
use Rattle.tree.specs.Tree.{Name, Term, OptTerm, no_term, a_term, Terms, ts_nil, ts_cons, Branches, Pattern, p_var, p_arr, p_obj, OptPattern, no_pattern, a_pattern, Patterns, ps_nil, ps_cons, PatEntries, pes_nil, pes_cons, Parts, parts_nil, parts_cons, Part, part_index, part_range, Bound, without_bound, a_bound, Format, StrParts, s_nil, s_cons, StrPart, s_text, s_char, s_term, Entries, es_nil, es_cons, operator, operator_of, Operator, o_comma, o_alt, o_or, o_and, o_assign, o_update, o_update_alt, o_math, o_update_math, o_cmp, o_none}
use Rattle.tree.specs.Tree.{t_id, t_recurse, t_arr, t_neg, t_label, t_if_then_else, t_num, t_try_catch, t_fold, t_pipe, t_bin_op, t_path, t_str, t_obj}
use Rattle.rules.specs.Names.{Text, ascii, same}
use Rattle.rules.specs.Table.{Rec, Err, Node, n_id, n_str, n_int, n_num, n_fold, n_path, n_pipe, n_obj_empty, Pat, Step, Folding, reduce, foreach}
use Rattle.rules.specs.Rows.{Env, push_vars}
use Rattle.rules.specs.Filters.{Top}
use Rattle.rules.specs.Outs.{Out, numeral, decimal, are_digits, binary, sum_out, sum_or, ite_out, lone_out, var_name, vars, vars_of, arity, Made, is_optional}
use Rattle.rules.specs.Listing.{flag, two, pat_bytes, pats_bytes, opt_pat_bytes, pat_count, fold_bytes, opt_number, step_bytes, steps_bytes, node_bytes, rec_bytes}
use Rattle.rules.specs.Rules.{Waiting, term, pattern, elements, keyed, opt_pattern, parts, part, bound, strings, string, entries, entry, waiting, out_of_fold, end_of_fold}
use Rattle.reads.specs.Widths.{OwnWidth, pat_width, pats_width, keyed_width, opt_pat_width, bound_width, part_width, parts_width, fold_kind, fold_width, int_of, num_width, op_width, str_width, strings_width, entries_width}

-- ---- patterns

module _ (c : Top) where
  mutual
    unfolding term pat_bytes pat_width

    pub pat-length : (x : Pattern) (p : ℕ) (e : Env) (n : ℕ) → length (pat_bytes 2 (pattern c x p e n).made) ≡ pat_width x
    pat-length (p_var q x) p e n = refl
    pat-length (p_arr q xs) p e n =
        let y = (elements c xs 0 p e n).made in
        omega (arith, length-append (number 2 (pat_count 2 y)) (pats_bytes 2 y), length-number 2 (pat_count 2 y), pats-length xs 0 p e n)
    pat-length (p_obj q xs) p e n =
        let y = (keyed c xs p e n).made in
        omega (arith, length-append (number 2 (pat_count 2 y)) (pats_bytes 2 y), length-number 2 (pat_count 2 y), keyed-length xs p e n)

    pub pats-length : (xs : Patterns) (i p : ℕ) (e : Env) (n : ℕ) → length (pats_bytes 2 (elements c xs i p e n).made) ≡ pats_width xs
    pats-length ps_nil i p e n = refl
    pats-length (ps_cons x xs) i p e n =
        let a = pattern c x p e (suc n) in
        let o = elements c xs (suc i) p e (suc n + length a.more) in
        omega (arith, length-append (number 2 n) (pat_bytes 2 a.made ++ pats_bytes 2 o.made), length-append (pat_bytes 2 a.made) (pats_bytes 2 o.made), length-number 2 n, pat-length x p e (suc n), pats-length xs (suc i) p e (suc n + length a.more))

    pub keyed-length : (xs : PatEntries) (p : ℕ) (e : Env) (n : ℕ) → length (pats_bytes 2 (keyed c xs p e n).made) ≡ keyed_width xs
    keyed-length pes_nil p e n = refl
    keyed-length (pes_cons q t x xs) p e n =
        let k = term c t e (suc n) 0 in
        let m = n + suc (length k.more) in
        let a = pattern c x p e m in
        let o = keyed c xs p e (m + length a.more) in
        omega (arith, length-append (number 2 n) (pat_bytes 2 a.made ++ pats_bytes 2 o.made), length-append (pat_bytes 2 a.made) (pats_bytes 2 o.made), length-number 2 n, pat-length x p e m, keyed-length xs p e (m + length a.more))

  pub opt-pat-length : (x : OptPattern) (p : ℕ) (e : Env) (n : ℕ) → length (opt_pat_bytes 2 (opt_pattern c x p e n).made) ≡ opt_pat_width x
  unfolding term opt_pat_bytes
  opt-pat-length no_pattern p e n = refl
  opt-pat-length (a_pattern x) p e n = pat-length x p e n

-- ---- paths

module _ (c : Top) where
  bound-length : (x : Bound) (e : Env) (n : ℕ) → length (opt_number 2 (bound c x e n).made) ≡ bound_width x
  unfolding term opt_number
  bound-length without_bound e n = refl
  bound-length (a_bound q t) e n = omega (arith, length-number 2 n)

  pub part_length : (x : Part) (e : Env) (n : ℕ) → length (step_bytes 2 (part c x e n).made) ≡ part_width x
  unfolding term step_bytes
  part_length (part_index q t m) e n = omega (arith, length-append (number 2 n) (flag (is_optional m) ∷ []), length-number 2 n)
  part_length (part_range q l u m) e n =
      let a = bound c l e n in
      let o = bound c u e (n + length a.more) in
      omega (arith, length-append (opt_number 2 a.made) (opt_number 2 o.made ++ (flag (is_optional m) ∷ [])), length-append (opt_number 2 o.made) (flag (is_optional m) ∷ []), bound-length l e n, bound-length u e (n + length a.more))

  pub parts-length : (xs : Parts) (e : Env) (n : ℕ) → length (steps_bytes 2 (parts c xs e n).made) ≡ parts_width xs
  unfolding term steps_bytes parts_width
  parts-length parts_nil e n = refl
  parts-length (parts_cons x xs) e n =
      let a = part c x e n in
      omega (arith, length-append (step_bytes 2 a.made) (steps_bytes 2 (parts c xs e (n + length a.more)).made), part_length x e n, parts-length xs e (n + length a.more))

-- ---- numbers

last : (t u v : Bool) → (t && u && v) ≡ true → v ≡ true
last true true v e = e
last true false true e = refl
last true false false e = e
last false true true e = refl
last false true false e = e
last false false true e = refl
last false false false e = e

below : (n : ℕ) → leb n (2 ^ 63 - 1) ≡ ltb n (2 ^ 63)
below n = elim (dec_lt n (2 ^ 63)) [ yes h ↦ le-leb _ _ (within h) ∙ sym (lt-ltb _ _ h) | no h ↦ lt-leb _ _ (over h) ∙ sym (le-ltb _ _ (past h)) ]
  where
    within : n < 2 ^ 63 → n ≤ 2 ^ 63 - 1
    within h = omega arith

    over : (n < 2 ^ 63 → ⊥) → 2 ^ 63 - 1 < n
    over h = omega arith

    past : (n < 2 ^ 63 → ⊥) → 2 ^ 63 ≤ n
    past h = omega arith

-- Int, or Num with its text
pub numeral-is : (x : Text) → numeral x ≡ cond (ltb (int_of x) (2 ^ 63)) (n_int (int_of x)) (n_num x)
unfolding numeral int_of
numeral-is x =
    let g = leb 1 (length x) && are_digits x && ltb (decimal 0 x) (2 ^ 63) in
    rw (below (decimal 0 x)) (one g (decimal 0 x) (λ e. ltb-true _ _ (last (leb 1 (length x)) (are_digits x) (ltb (decimal 0 x) (2 ^ 63)) e)))
  where
    one : (g : Bool) (d : ℕ) → (g ≡ true → d < 2 ^ 63) → cond g (n_int d) (n_num x) ≡ cond (ltb (cond g d (2 ^ 63)) (2 ^ 63)) (n_int (cond g d (2 ^ 63))) (n_num x)
    one true d h = rw (lt-ltb d (2 ^ 63) (h refl))
    one false d h = refl

pub num-length : (x : Text) → length (node_bytes 2 (numeral x)) ≡ num_width x
unfolding num_width
num-length x = ap (λ (t : Node). length (node_bytes 2 t)) (numeral-is x) ∙ one (ltb (int_of x) (2 ^ 63))
  where
    one : (g : Bool) → length (node_bytes 2 (cond g (n_int (int_of x)) (n_num x))) ≡ cond g 11 (3 + length x)
    one true = omega (arith, length-field 0x53 (number 8 (int_of x)), length-number 8 (int_of x))
    one false = length-field 0x54 x

-- ---- operators

pub two-length : (k a b : ℕ) → length (field k (two 2 a b)) ≡ 7
two-length k a b = omega (arith, length-field k (two 2 a b), length-append (number 2 a) (number 2 b), length-number 2 a, length-number 2 b)

pub mid-length : (k a m b : ℕ) → length (field k (number 2 a ++ (m ∷ number 2 b))) ≡ 8
mid-length k a m b = omega (arith, length-field k (number 2 a ++ (m ∷ number 2 b)), length-append (number 2 a) (m ∷ number 2 b), length-number 2 a, length-number 2 b)

-- the record of an operator is w bytes long
Sized : ℕ → Operator → Type 0
Sized w o = listed o ≡ true → (a b : ℕ) → length (node_bytes 2 (binary o a b)) ≡ w

op-wide : (x : ℕ) → 16 ≤ x → op_width x ≡ 8
unfolding op_width
op-wide x h = rw (ne_eqb x 3 (λ e. omega (arith, e)), ne_eqb x 4 (λ e. omega (arith, e)), le-ltb x 16 h)

-- a test of the operator's byte, either way
module _ (x : ℕ) (o o' : Operator) where
  on-byte : (k : ℕ) → (x ≡ k → Sized (op_width x) o) → ((x ≡ k → ⊥) → Sized (op_width x) o') → Sized (op_width x) (cond (eqb x k) o o')
  on-byte k f g = go (eqb x k) refl
    where
      go : (t : Bool) → eqb x k ≡ t → Sized (op_width x) (cond t o o')
      go true e = f (eqb-true x k e)
      go false e = g (eqb-false x k e)

  on_below : (k : ℕ) → (x < k → Sized (op_width x) o) → (k ≤ x → Sized (op_width x) o') → Sized (op_width x) (cond (ltb x k) o o')
  on_below k f g = go (ltb x k) refl
    where
      go : (t : Bool) → ltb x k ≡ t → Sized (op_width x) (cond t o o')
      go true e = f (ltb-true x k e)
      go false e = g (ltb-false x k e)

-- a byte that is k has k's width
op-at : (x k w : ℕ) (o : Operator) → op_width k ≡ w → Sized w o → x ≡ k → Sized (op_width x) o
unfolding Sized
op-at x k w o e f h = rw (h, e) f

none-sized : (w : ℕ) → Sized w o_none
unfolding Sized
none-sized w h a b = absurd (omega (arith, ap flag h))

op-sized : (x : ℕ) → Sized (op_width x) (operator_of x)
unfolding Sized operator_of op_width
op-sized x =
    on-byte x o_comma _ 1 (op-at x 1 7 o_comma refl (λ h a b. two-length 0x5F a b)) (λ n₁.
    on-byte x o_alt _ 2 (op-at x 2 7 o_alt refl (λ h a b. two-length 0x67 a b)) (λ n₂.
    on-byte x o_or _ 3 (op-at x 3 8 o_or refl (λ h a b. mid-length 0x64 a 1 b)) (λ n₃.
    on-byte x o_and _ 4 (op-at x 4 8 o_and refl (λ h a b. mid-length 0x64 a 0 b)) (λ n₄.
    on-byte x o_assign _ 5 (op-at x 5 7 o_assign refl (λ h a b. two-length 0x60 a b)) (λ n₅.
    on-byte x o_update _ 6 (op-at x 6 7 o_update refl (λ h a b. two-length 0x61 a b)) (λ n₆.
    on-byte x o_update_alt _ 7 (op-at x 7 7 o_update_alt refl (λ h a b. two-length 0x63 a b)) (λ n₇.
    on_below x o_none _ 0x10 (λ l. none-sized (op_width x)) (λ g.
    on_below x (o_math (x - 0x10)) _ 0x15 (λ l h a b. mid-length 0x65 a (x - 0x10) b ∙ sym (op-wide x g)) (λ g₁.
    on_below x o_none _ 0x20 (λ l. none-sized (op_width x)) (λ g₂.
    on_below x (o_cmp (x - 0x20)) _ 0x26 (λ l h a b. mid-length 0x66 a (x - 0x20) b ∙ sym (op-wide x g)) (λ g₃.
    on_below x o_none _ 0x30 (λ l. none-sized (op_width x)) (λ g₄.
    on_below x (o_update_math (x - 0x30)) o_none 0x35 (λ l h a b. mid-length 0x62 a (x - 0x30) b ∙ sym (op-wide x g)) (λ g₅. none-sized (op_width x))))))))))))))

pub op-length : (x a b : ℕ) → is_operator x ≡ true → length (node_bytes 2 (binary (operator (x ∷ [])) a b)) ≡ op_width x
unfolding is_operator Sized
op-length x a b h = op-sized x h a b

pub op-most : (x : ℕ) → op_width x ≤ 8
unfolding op_width
op-most x = most (eqb x 3) (most (eqb x 4) (most (ltb x 16) (omega arith) (omega arith)) (omega arith)) (omega arith)
  where
    most : (t : Bool) {a c : ℕ} → a ≤ 8 → c ≤ 8 → cond t c a ≤ 8
    most true h k = k
    most false h k = h

-- ---- folds

pub fold-length : (a i u : ℕ) (y : Pat) (k : Folding) → length (node_bytes 2 (n_fold a y i u k)) ≡ 9 + length (pat_bytes 2 y) + length (fold_bytes 2 k)
fold-length a i u y k =
    omega (
      arith,
      length-field 0x6A (number 2 a ++ (pat_bytes 2 y ++ (two 2 i u ++ fold_bytes 2 k))),
      length-append (number 2 a) (pat_bytes 2 y ++ (two 2 i u ++ fold_bytes 2 k)),
      length-append (pat_bytes 2 y) (two 2 i u ++ fold_bytes 2 k),
      length-append (two 2 i u) (fold_bytes 2 k),
      length-append (number 2 i) (number 2 u),
      length-number 2 a,
      length-number 2 i,
      length-number 2 u,
    )

pub id-length : length (node_bytes 2 n_id) ≡ 3
id-length = length-field 0x50 []

of_two : (t v : Bool) (x y z : Out) (w : ℕ) → length (rec_bytes 2 x.self) ≡ 10 + w → length (rec_bytes 2 y.self) ≡ 10 + w → length (rec_bytes 2 z.self) ≡ 3
    → length (rec_bytes 2 (cond t x (cond v y z)).self) ≡ fold_width (cond t 0 (cond v 1 3)) w
unfolding fold_width
of_two true v x y z w e f g = e
of_two false true x y z w e f g = f
of_two false false x y z w e f g = g

of_three : (v : Bool) (y z : Out) (w : ℕ) → length (rec_bytes 2 y.self) ≡ 12 + w → length (rec_bytes 2 z.self) ≡ 3
    → length (rec_bytes 2 (cond v y z).self) ≡ fold_width (cond v 2 3) w
unfolding fold_width
of_three true y z w f g = f
of_three false y z w f g = g

kind-more : (x : Text) (m : ℕ) → fold_kind x (suc (suc (suc (suc m)))) ≡ 3
unfolding fold_kind
kind-more x m = rw (ne_eqb (suc (suc (suc (suc m)))) 2 (λ e. omega (arith, e)), ne_eqb (suc (suc (suc (suc m)))) 3 (λ e. omega (arith, e)))

module _ (c : Top) (p : ℕ) (f : Name) (a : ℕ) where
  fold_end : (gs : List Waiting) (s i u : ℕ) (y : Pat) (ms : List Rec) (es : List Err) (e : Env) (n r : ℕ)
      → length (rec_bytes 2 (end_of_fold c p f a (record { made = λ what. n_fold s y i u what; more = ms; errs = es }) gs e n r).self)
      ≡ fold_width (fold_kind f.text (suc (suc (length gs)))) (length (pat_bytes 2 y))
  unfolding end_of_fold fold_kind fold_width fold_bytes
  fold_end [] s i u y ms es e n r =
      let w = length (pat_bytes 2 y) in
      of_two (same f.text (ascii "reduce")) (same f.text (ascii "foreach")) _ _ _ w
      (omega (arith, fold-length s i u y reduce)) (omega (arith, fold-length s i u y (foreach none))) id-length
  fold_end (g ∷ []) s i u y ms es e n r =
      let w = length (pat_bytes 2 y) in
      of_three (same f.text (ascii "foreach")) _ _ w (omega (arith, fold-length s i u y (foreach (some n)), length-number 2 n)) id-length
  fold_end (g ∷ h ∷ gs) s i u y ms es e n r = id-length ∙ ap (λ (k : ℕ). fold_width k (length (pat_bytes 2 y))) (sym (kind-more f.text (length gs)))

  fold-self : (gs : List Waiting) (s : Out) (y : Made Pat) (vs : List Name) (e : Env) (n r : ℕ)
      → length (rec_bytes 2 (out_of_fold c p f a s y vs gs e n r).self) ≡ fold_width (fold_kind f.text (length gs)) (length (pat_bytes 2 y.made))
  unfolding out_of_fold fold_kind fold_width
  fold-self [] s y vs e n r = id-length
  fold-self (g ∷ []) s y vs e n r = id-length
  fold-self (g ∷ h ∷ gs) s y vs e n r = fold_end gs n _ _ y.made _ _ _ _ r

pub waiting-length : (c : Top) (ts : Terms) → length (waiting c ts) ≡ arity ts
unfolding term
waiting-length c ts_nil = refl
waiting-length c (ts_cons t ts) = ap suc (waiting-length c ts)

-- ---- strings and objects: the own record of a sum

module _ (c : Top) where
  pub string-length : (x : StrPart) (p f : ℕ) (e : Env) (n : ℕ) → length (rec_bytes 2 (string c x p f e n).self) ≡ str_width x
  unfolding term opt_pat_bytes
  string-length (s_text x) p f e n = length-field 0x55 x.text
  string-length (s_char x) p f e n = length-field 0x55 (utf8 (value x.bytes))
  string-length (s_term t) p f e n = mid-length 0x5E n 0 f

  pub strings-length : (xs : StrParts) (p f : ℕ) (e : Env) (n : ℕ) → length (rec_bytes 2 (sum_or p (n_str []) (strings c xs p f e n)).self) ≡ strings_width xs
  unfolding term sum_out
  strings-length s_nil p f e n = length-field 0x55 []
  strings-length (s_cons x s_nil) p f e n = string-length x p f e n
  strings-length (s_cons x (s_cons y xs)) p f e n = mid-length 0x65 _ 0 _

  entry_length : (v : OptTerm) (p : ℕ) (e : Env) (n : ℕ) (x : Option Text) (k u : Out) → length (rec_bytes 2 (entry c v p e n x k u).self) ≡ 7
  unfolding term lone_out
  entry_length no_term p e n none k u = two-length 0x58 n (suc (n + suc (length k.more)))
  entry_length no_term p e n (some x) k u = two-length 0x58 n (n + 1)
  entry_length (a_term t) p e n x k u = two-length 0x58 n (n + suc (length k.more))

  pub entries-length : (es : Entries) (p : ℕ) (e : Env) (n : ℕ) → length (rec_bytes 2 (sum_or p n_obj_empty (entries c es p e n)).self) ≡ entries_width es
  unfolding term sum_out
  entries-length es_nil p e n = length-field 0x57 []
  entries-length (es_cons q t v es_nil) p e n = entry_length v p e n (var_name t) (term c t e (suc n) 0) (term c t e (suc (suc n)) 0)
  entries-length (es_cons q t v (es_cons q' t' v' es)) p e n = mid-length 0x65 _ 0 _

-- ---- records with a pattern or a path in them

pub pipe-length : (a b : ℕ) (y : Option Pat) → length (node_bytes 2 (n_pipe a y b)) ≡ 7 + length (opt_pat_bytes 2 y)
pipe-length a b y =
    omega (arith, length-field 0x5E (number 2 a ++ (opt_pat_bytes 2 y ++ number 2 b)), length-append (number 2 a) (opt_pat_bytes 2 y ++ number 2 b), length-append (opt_pat_bytes 2 y) (number 2 b), length-number 2 a, length-number 2 b)

pub path-length : (a : ℕ) (ss : List Step) → length (node_bytes 2 (n_path a ss)) ≡ 7 + length (steps_bytes 2 ss)
path-length a ss =
    omega (arith, length-field 0x6B (number 2 a ++ (number 2 (length ss) ++ steps_bytes 2 ss)), length-append (number 2 a) (number 2 (length ss) ++ steps_bytes 2 ss), length-append (number 2 (length ss)) (steps_bytes 2 ss), length-number 2 a, length-number 2 (length ss))

-- ---- own records, whatever is in view and whatever numbers they get

pub own-id : (p : ℕ) → OwnWidth (t_id p) 3
unfolding term
own-id p c e n al = sym (length-field 0x50 [])

pub own-recurse : (p : ℕ) → OwnWidth (t_recurse p) 3
unfolding term
own-recurse p c e n al = sym (length-field 0x51 [])

pub one-length : (k a : ℕ) → length (field k (number 2 a)) ≡ 5
one-length k a = omega (arith, length-field k (number 2 a), length-number 2 a)

pub own-arr : (p : ℕ) (o : OptTerm) → OwnWidth (t_arr p o) 5
unfolding term
own-arr p o c e n al = sym (one-length 0x56 n)

pub own-neg : (p : ℕ) (t : Term) → OwnWidth (t_neg p t) 5
unfolding term
own-neg p t c e n al = sym (one-length 0x5D n)

pub own-label : (p : ℕ) (x : Name) (t : Term) → OwnWidth (t_label p x t) 5
unfolding term
own-label p x t c e n al = sym (one-length 0x5C n)

pub own-ite : (p q : ℕ) (t u : Term) (bs : Branches) → OwnWidth (t_if_then_else p q t u bs) 9
unfolding term ite_out
own-ite p q t u bs c e n al = sym (three-length _ _ _)
  where
    three-length : (a b d : ℕ) → length (field 0x69 (number 2 a ++ two 2 b d)) ≡ 9
    three-length a b d =
        omega (arith, length-field 0x69 (number 2 a ++ two 2 b d), length-append (number 2 a) (two 2 b d), length-append (number 2 b) (number 2 d), length-number 2 a, length-number 2 b, length-number 2 d)

pub own-num : (p : ℕ) (x : Text) → OwnWidth (t_num p x) (num_width x)
unfolding term
own-num p x c e n al = sym (num-length x)

pub own-try : (p : ℕ) (t : Term) (o : OptTerm) → OwnWidth (t_try_catch p t o) 7
unfolding term
own-try p t o c e n al = sym (two-length 0x68 n _)

pub own-fold : (p : ℕ) (f : Name) (t : Term) (x : Pattern) (ts : Terms) → OwnWidth (t_fold p f t x ts) (fold_width (fold_kind f.text (arity ts)) (pat_width x))
unfolding term
own-fold p f t x ts c e n al =
    let a = term c t e (suc n) 0 in
    let m = n + suc (length a.more) in
    sym (fold-self c p f (arity ts) (waiting c ts) a (pattern c x p e m) (vars x) e n al
    ∙ ap₂ (λ (k w : ℕ). fold_width (fold_kind f.text k) w) (waiting-length c ts) (pat-length c x p e m))

pub own-pipe : (p : ℕ) (t : Term) (q : ℕ) (x : OptPattern) (u : Term) → OwnWidth (t_pipe p t q x u) (7 + opt_pat_width x)
unfolding term
own-pipe p t q x u c e n al =
    let k = n + suc (length (term c t e (suc n) 0).more) in
    let m = k + suc (length (term c u (push_vars (vars_of x) e) (suc k) al).more) in
    sym (pipe-length n k (opt_pattern c x p e m).made ∙ ap (λ (w : ℕ). 7 + w) (opt-pat-length c x p e m))

pub own-binop : (p : ℕ) (t : Term) (q x : ℕ) (u : Term) → is_operator x ≡ true → OwnWidth (t_bin_op p t q (x ∷ []) u) (op_width x)
unfolding term
own-binop p t q x u h c e n al = sym (op-length x n _ h)

pub own-path : (p : ℕ) (t : Term) (xs : Parts) → OwnWidth (t_path p t xs) (7 + parts_width xs)
unfolding term
own-path p t xs c e n al =
    let m = n + suc (length (term c t e (suc n) 0).more) in
    sym (path-length n (parts c xs e m).made ∙ ap (λ (w : ℕ). 7 + w) (parts-length c xs e m))

pub own-str : (p : ℕ) (f : Format) (xs : StrParts) → OwnWidth (t_str p f xs) (strings_width xs)
unfolding term
own-str p f xs c e n al = sym (strings-length c xs p n e _)

pub own-obj : (p : ℕ) (es : Entries) → OwnWidth (t_obj p es) (entries_width es)
unfolding term
own-obj p es c e n al = sym (entries-length c es p e n)
