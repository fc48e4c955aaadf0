-- What compiling gives, and how it is put together: the forms that Rules.antt uses. Document 01: "Term numbers follow insertion order: `iterm` reserves its
-- number before what it contains". Assumes nothing.
use Rattle.std.specs.Prelude.{ℕ, suc, ◌+◌, ◌-◌, ◌*◌, ◌^◌, Bool, true, false, cond, ◌&&◌, List, [], ◌∷◌, ◌++◌, length, drop, leb}
use Rattle.std.proofs.Math.Option.{Option, none, some}
use Rattle.tree.specs.Tree.{Name, Term, Mark, no_mark, a_mark, Operator, o_comma, o_alt, o_or, o_and, o_assign, o_update, o_update_alt, o_math, o_update_math, o_cmp, o_none, Pattern, p_var, p_arr, p_obj, OptPattern, no_pattern, a_pattern, Patterns, ps_nil, ps_cons, PatEntries, pes_nil, pes_cons, Terms, ts_nil, ts_cons, t_id, t_recurse, t_arr, t_neg, t_label, t_break, t_if_then_else, t_var, t_call, t_def, t_num, t_try_catch, t_fold, t_pipe, t_bin_op, t_path, t_str, t_obj}
use Rattle.rules.specs.Names.{Text, is_var}
use Rattle.rules.specs.Table.{Arg, Rec, Node, n_id, n_int, n_num, n_str, n_path, n_obj_single, n_var, n_call_def, n_native, n_comma, n_assign, n_update, n_update_math, n_update_alt, n_logic, n_math, n_cmp, n_alt, n_ite, index, Err}
use Rattle.rules.specs.Tails.{Tail, empty, union, local_call, module_kind}
use Rattle.rules.specs.Filters.{Found, nothing, argument, local, of_module, of_native}

-- ---- what a term gives: its own record, the records inserted after it in the order of their numbers, the errors, and the calls that it may return

pub record Out : Type 0 where
  pub self : Rec
  pub more : List Rec
  pub errs : List Err
  pub tail : Tail

-- the records of a member: its own number is reserved before what it contains
abbrev pub slot : Out → List Rec
slot o = o.self ∷ o.more

-- the numbers that it takes
abbrev pub size : Out → ℕ
size o = length (slot o)

-- a term of the field at p: node, members' records, members' errors, what it returns
abbrev pub node : ℕ → Node → List Rec → List Err → Tail → Out
node p t ms es s = record { self = record { place = p; node = t }; more = ms; errs = es; tail = s }

abbrev pub leaf : ℕ → Node → Out
leaf p t = node p t [] [] empty

-- what fails: Id stands in its number, and its error behind those of its members
abbrev pub fail : ℕ → Err → List Rec → List Err → Out
fail p x ms es = node p n_id ms (es ++ (x ∷ [])) empty

-- ---- several members: what is made of their numbers, their records, their errors

pub record Made (A : Type 0) : Type 0 where
  pub made : A
  pub more : List Rec
  pub errs : List Err

abbrev pub bare : {A : Type 0} → A → Made A
bare a = record { made = a; more = []; errs = [] }

-- a member by its number
abbrev pub member : ℕ → Out → Made ℕ
member n o = record { made = n; more = slot o; errs = o.errs }

-- one after the other
abbrev pub joined : {A B C : Type 0} → (A → B → C) → Made A → Made B → Made C
joined f a b = record { made = f a.made b.made; more = a.more ++ b.more; errs = a.errs ++ b.errs }

abbrev pub made_as : {A B : Type 0} → (A → B) → Made A → Made B
made_as f a = record { made = f a.made; more = a.more; errs = a.errs }

-- ---- leaves

unfoldable pub var_out : ℕ → Err → Option ℕ → Out
var_out p x none = fail p x [] []
var_out p x (some i) = leaf p (n_var i)

-- "Num: one or more decimal digits alone, at most 2^63-1, give Int; all else Num with its text."
abbrev pub are_digits : Text → Bool
are_digits [] = true
are_digits (d ∷ ds) = leb 0x30 d && leb d 0x39 && are_digits ds

abbrev pub decimal : ℕ → Text → ℕ
decimal k [] = k
decimal k (d ∷ ds) = decimal (10 * k + (d - 0x30)) ds

unfoldable pub numeral : Text → Node
numeral x = cond (leb 1 (length x) && are_digits x && leb (decimal 0 x) (2 ^ 63 - 1)) (n_int (decimal 0 x)) (n_num x)

-- ---- calls

-- the arguments as the parameters take them: a variable or a filter, and its number
abbrev pub binds : List Name → List ℕ → List Arg
binds [] ns = []
binds (p ∷ ps) [] = []
binds (p ∷ ps) (n ∷ ns) = record { isv = is_var p.text; num = n } ∷ binds ps ns

-- A call, where k bindings are in view and r may be returned. "Arguments are compiled before lookup." "A definition's skip is the count now less the count at
-- its definition; a module call skips all locals."
unfoldable pub call_out : ℕ → ℕ → Tail → Made (List ℕ) → Err → Found → Out
call_out p k r o x nothing = fail p x o.more o.errs
call_out p k r o x (argument i) = node p (n_var i) o.more o.errs empty
call_out p k r o x (local d) =
    let how = local_call d.level d.fun r in node p (n_call_def d.number (binds d.params o.made) (k - d.count) how.kind) o.more o.errs how.tail
call_out p k r o x (of_module d) = node p (n_call_def d.number (binds d.params o.made) k (module_kind d.level d.fun)) o.more o.errs empty
call_out p k r o x (of_native i ps) = node p (n_native i (binds ps o.made)) o.more o.errs empty

-- ---- operators

-- "Tail places: right of Pipe and Alt, both sides of Comma .. Elsewhere the set is empty."
abbrev pub left_allows : Operator → Tail → Tail
left_allows o_comma r = r
left_allows o_alt r = empty
left_allows o_or r = empty
left_allows o_and r = empty
left_allows o_assign r = empty
left_allows o_update r = empty
left_allows o_update_alt r = empty
left_allows (o_math k) r = empty
left_allows (o_update_math k) r = empty
left_allows (o_cmp k) r = empty
left_allows o_none r = empty

abbrev pub right_allows : Operator → Tail → Tail
right_allows o_comma r = r
right_allows o_alt r = r
right_allows o_or r = empty
right_allows o_and r = empty
right_allows o_assign r = empty
right_allows o_update r = empty
right_allows o_update_alt r = empty
right_allows (o_math k) r = empty
right_allows (o_update_math k) r = empty
right_allows (o_cmp k) r = empty
right_allows o_none r = empty

abbrev pub binary : Operator → ℕ → ℕ → Node
binary o_comma a b = n_comma a b
binary o_alt a b = n_alt a b
binary o_or a b = n_logic a true b
binary o_and a b = n_logic a false b
binary o_assign a b = n_assign a b
binary o_update a b = n_update a b
binary o_update_alt a b = n_update_alt a b
binary (o_math k) a b = n_math a k b
binary (o_update_math k) a b = n_update_math a k b
binary (o_cmp k) a b = n_cmp a k b
binary o_none a b = n_id

-- ---- conditionals

-- "Conditions and branches first, then what else holds, then else numbers from the last pair back.": condition a, branch b, and what follows them, whose own
-- record is the last to get a number
unfoldable pub ite_out : ℕ → ℕ → Out → Out → Out → Out
ite_out p n a b o =
    let k = n + size a in
    let m = k + size b in
    node p (n_ite n k (m + length o.more)) (slot a ++ (slot b ++ (o.more ++ (o.self ∷ [])))) (a.errs ++ (b.errs ++ o.errs)) (union b.tail o.tail)

-- ---- sums

-- "String parts and object entries make a right-nested Add, left number before right": what a contains, what the rest contains, then a, then the rest
unfoldable pub sum_out : ℕ → ℕ → Out → Option Out → Out
sum_out p n a none = a
sum_out p n a (some o) =
    let k = n + length a.more + length o.more in
    node p (n_math k 0 (suc k)) (a.more ++ (o.more ++ (a.self ∷ o.self ∷ []))) (a.errs ++ o.errs) empty

-- "none gives empty Str or ObjEmpty"
abbrev pub sum_or : ℕ → Node → Option Out → Out
sum_or p t none = leaf p t
sum_or p t (some o) = o

-- ---- entries of objects

-- the name of a variable without its `$`
abbrev pub var_name : Term → Option Text
var_name (t_var p x) = some (drop 1 x)
var_name (t_id p) = none
var_name (t_recurse p) = none
var_name (t_arr p o) = none
var_name (t_neg p t) = none
var_name (t_label p x t) = none
var_name (t_break p x) = none
var_name (t_if_then_else p q c t bs) = none
var_name (t_call p f ts) = none
var_name (t_def p ds t) = none
var_name (t_num p x) = none
var_name (t_try_catch p t o) = none
var_name (t_fold p f t x ts) = none
var_name (t_pipe p t q x u) = none
var_name (t_bin_op p t q x u) = none
var_name (t_path p t ps) = none
var_name (t_str p f ps) = none
var_name (t_obj p es) = none

-- key and value
abbrev pub pair_out : ℕ → ℕ → Out → Out → Out
pair_out p n a b = node p (n_obj_single n (n + size a)) (slot a ++ slot b) (a.errs ++ b.errs) empty

-- "Entry `$x` alone has key `x`; other lone keys read themselves from Id: key, Id, then a Path, not optional.": a is the key as compiled from n, v as compiled
-- behind one more
unfoldable pub lone_out : ℕ → ℕ → Out → Out → Option Text → Out
lone_out p n a v (some x) = pair_out p n (leaf p (n_str x)) v
lone_out p n a v none =
    let k = n + size a in
    node p (n_obj_single n (suc k)) (slot a ++ (record { place = p; node = n_id } ∷ record { place = p; node = n_path k (index n false ∷ []) } ∷ [])) a.errs empty

-- ---- patterns

-- "Pattern variables go left to right, repeats included"
abbrev mutual
  pub vars : Pattern → List Name
  vars (p_var p x) = record { place = p; text = x } ∷ []
  vars (p_arr p xs) = vars_all xs
  vars (p_obj p xs) = vars_keyed xs

  pub vars_all : Patterns → List Name
  vars_all ps_nil = []
  vars_all (ps_cons x xs) = vars x ++ vars_all xs

  pub vars_keyed : PatEntries → List Name
  vars_keyed pes_nil = []
  vars_keyed (pes_cons p k x xs) = vars x ++ vars_keyed xs

abbrev pub vars_of : OptPattern → List Name
vars_of no_pattern = []
vars_of (a_pattern x) = vars x

-- ---- small readings of the tree

abbrev pub arity : Terms → ℕ
arity ts_nil = 0
arity (ts_cons t ts) = suc (arity ts)

abbrev pub is_optional : Mark → Bool
is_optional no_mark = false
is_optional (a_mark p) = true
