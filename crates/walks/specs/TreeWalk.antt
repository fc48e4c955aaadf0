-- The walk by names in the tree: where it stands, what is in view there, and where each move leads. Each sentence of document 01's section "The two walks"
-- stands above what it says. It knows no number of the table: bindings and filters are found by name alone. Assumes nothing.
use Rattle.std.specs.Prelude.{ℕ, suc, ◌-◌, ◌^◌, Bool, false, cond, ◌&&◌, List, [], ◌∷◌, ◌++◌, length, eqb, ltb, leb}
use Rattle.std.proofs.Math.Option.{Option, none, some}
use Rattle.std.proofs.Math.ListN.{get_elem?}
use Rattle.fields.specs.Number as Bytes
use Rattle.text.specs.Utf8.{utf8}
use Rattle.tree.specs.Tree.{Name, Number, Native, Uses, Module, Tree, Term, OptTerm, no_term, a_term, Terms, ts_nil, ts_cons, Branches, b_none, b_else, b_pair, Defs, ds_nil, ds_cons, Def, def, Pattern, p_var, p_arr, p_obj, OptPattern, no_pattern, a_pattern, Patterns, ps_nil, ps_cons, PatEntries, pes_nil, pes_cons, Parts, parts_nil, parts_cons, Part, part_index, part_range, Bound, without_bound, a_bound, StrParts, s_nil, s_cons, StrPart, s_text, s_char, s_term, Entries, es_nil, es_cons, Format, no_format, a_format, Operator, o_comma, o_alt, o_or, o_and, o_assign, o_update, o_update_alt, o_math, o_update_math, o_cmp, o_none, operator, term_place, t_id, t_recurse, t_arr, t_neg, t_label, t_break, t_if_then_else, t_var, t_call, t_def, t_num, t_try_catch, t_fold, t_pipe, t_bin_op, t_path, t_str, t_obj}
use Rattle.rules.specs.Names.{Text, ascii, same, is_var, Parted, plain, parted, parting}
use Rattle.rules.specs.Filters.{Imported, import_named}
use Rattle.rules.specs.Outs.{are_digits, decimal, var_name, vars, vars_of, arity}
use Rattle.rules.specs.Modules.{globals_of, imported_from}
use Rattle.walks.specs.Moves.{Role, Move, Member, lone, ranked, pick}

-- ---- what is in view

-- the module, or main, in whose text the walk stands: its number, and what it uses
pub record Home : Type 0 where
  pub number : ℕ
  pub uses : Uses

-- "An entry is a variable or label with its place, or a passed argument with its place and the list at the call." The place of a variable of a pattern is its
-- pattern field's, which its name has; with it stand the place of the BinOp or Fold and all variables of the pattern there. An imported variable or a global
-- has its name's place. "The tree walk keeps each definition in view with the list where it stood; these count as no entries."
mutual
  pub data View : Type 0 where
    -- past all entries
    end : Home → View
    entry : Entry → View → View
    -- a definition, the list where it stood, and the rest of the list
    filter : Def → View → View → View

  pub data Entry : Type 0 where
    imported : Imported → Entry
    global : Name → Entry
    -- of a pattern: the variable; the BinOp's or Fold's place; the variables of the pattern
    var : Name → ℕ → List Name → Entry
    -- a `$` parameter, and its argument
    value : Name → Term → Entry
    -- a label, and the place of its Label
    label : Name → ℕ → Entry
    -- a parameter, its argument, and the list at the call
    arg : Name → Term → View → Entry

abbrev pub home_of : View → Home
home_of (end h) = h
home_of (entry a v) = home_of v
home_of (filter d w v) = home_of v

-- entries made of the members of a list, pushed in order
abbrev pub push_each : {A : Type 0} → (A → Entry) → List A → View → View
push_each make [] v = v
push_each make (x ∷ xs) v = push_each make xs (entry (make x) v)

-- "Both lists end in imported variables, then globals, last first.": those of all modules
abbrev pub outer : Tree → Home → View
outer whole h = push_each imported (imported_from 0 whole.modules whole.main) (push_each global (globals_of whole.globals) (end h))

-- "Pattern variables go left to right, repeats included": the variables xs of a pattern in the BinOp or Fold at p
abbrev pub push_vars : List Name → ℕ → View → View
push_vars xs p v = push_each (λ x. var x p xs) xs v

-- definitions, one after the other: each sees those before it
abbrev pub define : Defs → View → View
define ds_nil v = v
define (ds_cons d ds) v = define ds (filter d v v)

-- ---- by name

abbrev pub first_that : (Entry → Bool) → View → Option Entry
first_that fits (end h) = none
first_that fits (entry a v) = cond (fits a) (some a) (first_that fits v)
first_that fits (filter d w v) = first_that fits v

-- "`$x`: innermost local; else, past all locals, all modules' imported variables, last first, matching only the current module's; else globals, last first":
-- h is the current module's number
abbrev pub is_variable : ℕ → Text → Entry → Bool
is_variable h x (imported y) = eqb y.home h && same x y.name.text
is_variable h x (global y) = same x y.text
is_variable h x (var y p ys) = same x y.text
is_variable h x (value y t) = same x y.text
is_variable h x (label y p) = false
is_variable h x (arg y t w) = false

-- "A break takes the innermost label of its name"
abbrev pub is_label : Text → Entry → Bool
is_label x (imported y) = false
is_label x (global y) = false
is_label x (var y p ys) = false
is_label x (value y t) = false
is_label x (label y p) = same x y.text
is_label x (arg y t w) = false

-- a filter argument, called with a arguments: with none
abbrev pub is_argument : Text → ℕ → Entry → Bool
is_argument f a (imported y) = false
is_argument f a (global y) = false
is_argument f a (var y p ys) = false
is_argument f a (value y t) = false
is_argument f a (label y p) = false
is_argument f a (arg y t w) = same f y.text && eqb a 0

abbrev pub is_definition : Text → ℕ → Def → Bool
is_definition f a (def p g ps t) = same f g.text && eqb a (length ps)

-- what a call means: a passed argument, a definition with the list where it stood, or a native
pub data Seen : Type 0 where
  nothing : Seen
  argument : Entry → Seen
  defined : Def → View → Seen
  native : Seen

abbrev pub seen_else : Seen → Seen → Seen
seen_else nothing s = s
seen_else (argument a) s = argument a
seen_else (defined d w) s = defined d w
seen_else native s = native

-- "Filter by name and arity: innermost local"
abbrev pub look : Text → ℕ → View → Seen
look f a (end h) = nothing
look f a (entry b v) = cond (is_argument f a b) (argument b) (look f a v)
look f a (filter d w v) = cond (is_definition f a d) (defined d w) (look f a v)

-- "a module may use only earlier modules": the one of number k, from the one of number h
abbrev pub module_at : Tree → ℕ → ℕ → Option Module
module_at whole h k = cond (ltb k h) (get_elem? whole.modules k) none

-- "last definition first", in the module of number k
abbrev pub look_in : Tree → Text → ℕ → ℕ → Option Module → Seen
look_in whole f a k none = nothing
look_in whole f a k (some m) = look f a (define m.defs (outer whole (record { number = k; uses = m.uses })))

abbrev pub of_module : Tree → Text → ℕ → Home → Number → Seen
of_module whole f a h k = let i = Bytes.value k.bytes in look_in whole f a i (module_at whole h.number i)

-- "then included modules, last first"
abbrev pub included : Tree → Text → ℕ → Home → List Number → Seen
included whole f a h [] = nothing
included whole f a h (k ∷ ks) = seen_else (included whole f a h ks) (of_module whole f a h k)

-- "then natives"
abbrev pub of_natives : Text → ℕ → List Native → Seen
of_natives f a [] = nothing
of_natives f a (v ∷ vs) = cond (same f v.name.text && eqb a (length v.params)) native (of_natives f a vs)

-- "With `::` (first occurrence): last import of that name, and only it"
abbrev pub of_import : Tree → Text → ℕ → Home → Option Number → Seen
of_import whole f a h none = nothing
of_import whole f a h (some k) = of_module whole f a h k

abbrev pub seen_parted : Tree → Text → ℕ → View → Parted → Seen
seen_parted whole x a v plain =
    let h = home_of v in seen_else (look x a v) (seen_else (included whole x a h h.uses.includes) (of_natives x a whole.natives))
seen_parted whole x a v (parted m f) = let h = home_of v in of_import whole f a h (import_named m h.uses.imports)

-- what a call of x with a arguments means
abbrev pub seen : Tree → Text → ℕ → View → Seen
seen whole x a v = seen_parted whole x a v (parting x)

-- ---- where the walk stands

-- what the compiler supplies and has no members
pub data Leaf : Type 0 where
  -- "Absent else is Id."; "other lone keys read themselves from Id"
  identity : Leaf
  -- "A format, or ToString"
  to_string : Leaf
  -- "Array keys are Int terms from 0"
  number : ℕ → Leaf
  -- a text or a character of a string, an empty string; "Entry `$x` alone has key `x`"
  text : Text → Leaf
  -- "ObjEmpty"
  empty_obj : Leaf

-- "A supplied term stands at the term field whose rule inserts it, an array pattern's keys at the BinOp or Fold; entering one, the tree walk stays, and leaves
-- it for a member when the table does.": the walk stands at a term field, or stays at the field of the place given, in what the compiler supplies there
pub data Spot : Type 0 where
  at : Term → Spot
  leaf : ℕ → Leaf → Spot
  -- a call of `!empty`, or of a format
  call : ℕ → Text → Spot
  -- a term in a string, piped into the string's format
  shown : ℕ → Format → Term → Spot
  -- the sum of a string's part and the parts behind it
  parts : ℕ → Format → StrPart → StrParts → Spot
  -- an object's entry: key and value
  single : ℕ → Term → OptTerm → Spot
  -- the sum of an object's entry and the entries behind it
  entries : ℕ → Term → OptTerm → Entries → Spot
  -- the Path by which a lone key reads itself
  reading : ℕ → Term → Spot

abbrev pub place_of : Spot → ℕ
place_of (at t) = term_place t
place_of (leaf p a) = p
place_of (call p x) = p
place_of (shown p f t) = p
place_of (parts p f x ss) = p
place_of (single p t o) = p
place_of (entries p t o es) = p
place_of (reading p t) = p

pub record State : Type 0 where
  pub spot : Spot
  pub view : View

abbrev pub here : Spot → View → State
here s v = record { spot = s; view = v }

-- "Absent array body or catch is a call of `!empty`"
abbrev pub empty_at : ℕ → View → State
empty_at p v = here (call p (ascii "!empty")) v

abbrev pub format_at : ℕ → Format → View → State
format_at p no_format v = here (leaf p to_string) v
format_at p (a_format x) v = here (call p x.text) v

abbrev pub part_at : ℕ → Format → StrPart → View → State
part_at p f (s_text x) v = here (leaf p (text x.text)) v
part_at p f (s_char x) v = here (leaf p (text (utf8 (Bytes.value x.bytes)))) v
part_at p f (s_term t) v = here (shown p f t) v

-- "String parts and object entries make a right-nested Add ..; none gives empty Str or ObjEmpty."
abbrev pub parts_at : ℕ → Format → StrParts → View → State
parts_at p f s_nil v = here (leaf p (text [])) v
parts_at p f (s_cons x s_nil) v = part_at p f x v
parts_at p f (s_cons x (s_cons y ss)) v = here (parts p f x (s_cons y ss)) v

abbrev pub entries_at : ℕ → Entries → View → State
entries_at p es_nil v = here (leaf p empty_obj) v
entries_at p (es_cons q t o es_nil) v = here (single p t o) v
entries_at p (es_cons q t o (es_cons q' t' o' es)) v = here (entries p t o (es_cons q' t' o' es)) v

-- Into the field of a term. "A definition or Def place and its body share one number and no table move lies between.": the walk goes on to the body
abbrev pub stand : Term → View → State
stand (t_def p ds t) v = stand t (define ds v)
stand (t_str p f ss) v = parts_at p f ss v
stand (t_obj p es) v = entries_at p es v
stand (t_id p) v = here (at (t_id p)) v
stand (t_recurse p) v = here (at (t_recurse p)) v
stand (t_arr p o) v = here (at (t_arr p o)) v
stand (t_neg p t) v = here (at (t_neg p t)) v
stand (t_label p x t) v = here (at (t_label p x t)) v
stand (t_break p x) v = here (at (t_break p x)) v
stand (t_if_then_else p q t u bs) v = here (at (t_if_then_else p q t u bs)) v
stand (t_var p x) v = here (at (t_var p x)) v
stand (t_call p f ts) v = here (at (t_call p f ts)) v
stand (t_num p x) v = here (at (t_num p x)) v
stand (t_try_catch p t o) v = here (at (t_try_catch p t o)) v
stand (t_fold p f t x ts) v = here (at (t_fold p f t x ts)) v
stand (t_pipe p t q x u) v = here (at (t_pipe p t q x u)) v
stand (t_bin_op p t q x u) v = here (at (t_bin_op p t q x u)) v
stand (t_path p t ps) v = here (at (t_path p t ps)) v

-- the place of the field that a term's number belongs to: a Def's is its body's
abbrev pub body_place : Term → ℕ
body_place (t_def p ds t) = body_place t
body_place (t_id p) = p
body_place (t_recurse p) = p
body_place (t_arr p o) = p
body_place (t_neg p t) = p
body_place (t_label p x t) = p
body_place (t_break p x) = p
body_place (t_if_then_else p q t u bs) = p
body_place (t_var p x) = p
body_place (t_call p f ts) = p
body_place (t_num p x) = p
body_place (t_try_catch p t o) = p
body_place (t_fold p f t x ts) = p
body_place (t_pipe p t q x u) = p
body_place (t_bin_op p t q x u) = p
body_place (t_path p t ps) = p
body_place (t_str p f ss) = p
body_place (t_obj p es) = p

abbrev pub or_empty : ℕ → OptTerm → View → State
or_empty p no_term v = empty_at p v
or_empty p (a_term t) v = stand t v

-- what follows a pair of the conditional at p: the compiler supplies a conditional for each further pair
abbrev pub else_at : ℕ → Branches → View → State
else_at p b_none v = here (leaf p identity) v
else_at p (b_else t) v = stand t v
else_at p (b_pair q t u bs) v = here (at (t_if_then_else p q t u bs)) v

-- ---- members

abbrev pub arguments : Terms → View → List State
arguments ts_nil v = []
arguments (ts_cons t ts) v = stand t v ∷ arguments ts v

-- the keys of a pattern in the BinOp or Fold at p, left to right; "object keys see none of them"
abbrev mutual
  pub keys : Pattern → ℕ → View → List State
  keys (p_var q x) p v = []
  keys (p_arr q xs) p v = element_keys xs 0 p v
  keys (p_obj q xs) p v = entry_keys xs p v

  pub element_keys : Patterns → ℕ → ℕ → View → List State
  element_keys ps_nil i p v = []
  element_keys (ps_cons x xs) i p v = here (leaf p (number i)) v ∷ (keys x p v ++ element_keys xs (suc i) p v)

  pub entry_keys : PatEntries → ℕ → View → List State
  entry_keys pes_nil p v = []
  entry_keys (pes_cons q t x xs) p v = stand t v ∷ (keys x p v ++ entry_keys xs p v)

abbrev pub keys_of : OptPattern → ℕ → View → List State
keys_of no_pattern p v = []
keys_of (a_pattern x) p v = keys x p v

-- a Fold's arguments: update and projection under the variables, which w has
abbrev pub folded : Terms → View → View → List (Member State)
folded ts_nil v w = []
folded (ts_cons t ts_nil) v w = []
folded (ts_cons t (ts_cons u ts_nil)) v w = lone Role.init (stand t v) ∷ lone Role.update (stand u w) ∷ []
folded (ts_cons t (ts_cons u (ts_cons s ts))) v w = lone Role.init (stand t v) ∷ lone Role.update (stand u w) ∷ lone Role.projection (stand s w) ∷ []

-- both sides of an operator; a byte that is no operator's does not stand in a well-formed tree
abbrev pub operands : Operator → State → State → List (Member State)
operands o_comma a b = lone Role.left a ∷ lone Role.right b ∷ []
operands o_alt a b = lone Role.left a ∷ lone Role.right b ∷ []
operands o_or a b = lone Role.left a ∷ lone Role.right b ∷ []
operands o_and a b = lone Role.left a ∷ lone Role.right b ∷ []
operands o_assign a b = lone Role.left a ∷ lone Role.right b ∷ []
operands o_update a b = lone Role.left a ∷ lone Role.right b ∷ []
operands o_update_alt a b = lone Role.left a ∷ lone Role.right b ∷ []
operands (o_math k) a b = lone Role.left a ∷ lone Role.right b ∷ []
operands (o_update_math k) a b = lone Role.left a ∷ lone Role.right b ∷ []
operands (o_cmp k) a b = lone Role.left a ∷ lone Role.right b ∷ []
operands o_none a b = []

abbrev pub bound_member : Role → ℕ → Bound → View → List (Member State)
bound_member r i without_bound v = []
bound_member r i (a_bound q t) v = record { role = r; rank = i; state = stand t v } ∷ []

abbrev pub path_part : ℕ → Part → View → List (Member State)
path_part i (part_index q t o) v = record { role = Role.index; rank = i; state = stand t v } ∷ []
path_part i (part_range q l u o) v = bound_member Role.from i l v ++ bound_member Role.upto i u v

-- the parts of a path, counted from i
abbrev pub path_parts : ℕ → Parts → View → List (Member State)
path_parts i parts_nil v = []
path_parts i (parts_cons x xs) v = path_part i x v ++ path_parts (suc i) xs v

-- "Entry `$x` alone has key `x`; other lone keys read themselves from Id: key, Id, then a Path"
abbrev pub lone_members : ℕ → Term → Option Text → View → List (Member State)
lone_members p t (some x) v = lone Role.name (here (leaf p (text x)) v) ∷ lone Role.value (stand t v) ∷ []
lone_members p t none v = lone Role.name (stand t v) ∷ lone Role.value (here (reading p t) v) ∷ []

abbrev pub entry_members : ℕ → Term → OptTerm → View → List (Member State)
entry_members p t no_term v = lone_members p t (var_name t) v
entry_members p t (a_term u) v = lone Role.name (stand t v) ∷ lone Role.value (stand u v) ∷ []

-- "into a member term, also in a pattern, pair, entry, part or argument (pushing what the rules push)"; "A definition is entered by a call only."
abbrev pub term_members : Term → View → List (Member State)
term_members (t_id p) v = []
term_members (t_recurse p) v = []
term_members (t_arr p o) v = lone Role.only (or_empty p o v) ∷ []
term_members (t_neg p t) v = lone Role.only (stand t v) ∷ []
term_members (t_label p x t) v = lone Role.only (stand t (entry (label x p) v)) ∷ []
term_members (t_break p x) v = []
term_members (t_if_then_else p q t u bs) v = lone Role.condition (stand t v) ∷ lone Role.branch (stand u v) ∷ lone Role.other (else_at p bs v) ∷ []
term_members (t_var p x) v = []
term_members (t_call p f ts) v = ranked Role.argument 0 (arguments ts v)
term_members (t_def p ds t) v = []
term_members (t_num p x) v = []
term_members (t_try_catch p t o) v = lone Role.tried (stand t v) ∷ lone Role.caught (or_empty p o v) ∷ []
term_members (t_fold p f t x ts) v =
    lone Role.source (stand t v) ∷ (folded ts v (push_vars (vars x) p v) ++ ranked Role.key 0 (keys x p v))
term_members (t_pipe p t q x u) v =
    lone Role.left (stand t v) ∷ lone Role.right (stand u (push_vars (vars_of x) p v)) ∷ ranked Role.key 0 (keys_of x p v)
term_members (t_bin_op p t q x u) v = operands (operator x) (stand t v) (stand u v)
term_members (t_path p t ps) v = lone Role.subject (stand t v) ∷ path_parts 0 ps v
term_members (t_str p f ss) v = []
term_members (t_obj p es) v = []

abbrev pub spot_members : Spot → View → List (Member State)
spot_members (at t) v = term_members t v
spot_members (leaf p a) v = []
spot_members (call p x) v = []
spot_members (shown p f t) v = lone Role.left (stand t v) ∷ lone Role.right (format_at p f v) ∷ []
spot_members (parts p f x ss) v = lone Role.left (part_at p f x v) ∷ lone Role.right (parts_at p f ss v) ∷ []
spot_members (single p t o) v = entry_members p t o v
spot_members (entries p t o es) v = lone Role.left (here (single p t o) v) ∷ lone Role.right (entries_at p es v) ∷ []
spot_members (reading p t) v = lone Role.subject (here (leaf p identity) v) ∷ lone Role.index (stand t v) ∷ []

abbrev pub members : State → List (Member State)
members s = spot_members s.spot s.view

-- ---- calls

-- a call, in the tree or supplied: its name and its arguments
pub record Call : Type 0 where
  pub name : Text
  pub args : Terms

abbrev pub term_call : Term → Option Call
term_call (t_call p f ts) = some (record { name = f.text; args = ts })
term_call (t_id p) = none
term_call (t_recurse p) = none
term_call (t_arr p o) = none
term_call (t_neg p t) = none
term_call (t_label p x t) = none
term_call (t_break p x) = none
term_call (t_if_then_else p q t u bs) = none
term_call (t_var p x) = none
term_call (t_def p ds t) = none
term_call (t_num p x) = none
term_call (t_try_catch p t o) = none
term_call (t_fold p f t x ts) = none
term_call (t_pipe p t q x u) = none
term_call (t_bin_op p t q x u) = none
term_call (t_path p t ps) = none
term_call (t_str p f ss) = none
term_call (t_obj p es) = none

abbrev pub call_of : Spot → Option Call
call_of (at t) = term_call t
call_of (leaf p a) = none
call_of (call p x) = some (record { name = x; args = ts_nil })
call_of (shown p f t) = none
call_of (parts p f x ss) = none
call_of (single p t o) = none
call_of (entries p t o es) = none
call_of (reading p t) = none

-- what is called from here, and with what
abbrev pub meaning : Tree → Option Call → View → Seen
meaning whole none v = nothing
meaning whole (some c) v = seen whole c.name (arity c.args) v

abbrev pub args_of : Option Call → Terms
args_of none = ts_nil
args_of (some c) = c.args

-- "its list plus the arguments; for a `$` parameter a variable, whose place in both walks is its argument's": the list w of the definition, with the
-- arguments ts from a place where v is in view
abbrev pub given : Name → Term → View → Entry
given x t v = cond (is_var x.text) (value x t) (arg x t v)

abbrev pub pass : List Name → Terms → View → View → View
pass [] ts v w = w
pass (x ∷ xs) ts_nil v w = w
pass (x ∷ xs) (ts_cons t ts) v w = pass xs ts v (entry (given x t v) w)

-- "Parameters push in order, then the filter itself"
abbrev pub in_body : Def → View → Terms → View → State
in_body (def p f ps t) w ts v = stand t (filter (def p f ps t) w (pass ps ts v w))

-- "into a called definition"
abbrev pub into_definition : Seen → Terms → View → Option State
into_definition nothing ts v = none
into_definition (argument a) ts v = none
into_definition (defined d w) ts v = some (in_body d w ts v)
into_definition native ts v = none

-- "into a passed argument through its entry"
abbrev pub through : Entry → Option State
through (imported y) = none
through (global y) = none
through (var y p ys) = none
through (value y t) = none
through (label y p) = none
through (arg y t w) = some (stand t w)

abbrev pub into_argument : Seen → Option State
into_argument nothing = none
into_argument (argument a) = through a
into_argument (defined d w) = none
into_argument native = none

-- ---- the walk

abbrev pub step : Tree → Move → State → Option State
step whole (Move.member r i) s = pick r i (members s)
step whole Move.called s = into_definition (meaning whole (call_of s.spot) s.view) (args_of (call_of s.spot)) s.view
step whole Move.passed s = into_argument (meaning whole (call_of s.spot) s.view)

abbrev pub walk : Tree → List Move → Option State → Option State
walk whole [] s = s
walk whole (m ∷ ms) none = none
walk whole (m ∷ ms) (some s) = walk whole ms (step whole m s)

-- "Both walks start at main without locals."
abbrev pub start : Tree → State
start whole = stand whole.main.body (outer whole (record { number = length whole.modules; uses = whole.main.uses }))

-- ---- what is picked: the entry that a variable, a break or a call of an argument means

abbrev pub picked_argument : Seen → Option Entry
picked_argument nothing = none
picked_argument (argument a) = some a
picked_argument (defined d w) = none
picked_argument native = none

abbrev pub picked_at : Tree → Term → View → Option Entry
picked_at whole (t_var p x) v = first_that (is_variable (home_of v).number x) v
picked_at whole (t_break p x) v = first_that (is_label x) v
picked_at whole (t_call p f ts) v = picked_argument (seen whole f.text (arity ts) v)
picked_at whole (t_id p) v = none
picked_at whole (t_recurse p) v = none
picked_at whole (t_arr p o) v = none
picked_at whole (t_neg p t) v = none
picked_at whole (t_label p x t) v = none
picked_at whole (t_if_then_else p q t u bs) v = none
picked_at whole (t_def p ds t) v = none
picked_at whole (t_num p x) v = none
picked_at whole (t_try_catch p t o) v = none
picked_at whole (t_fold p f t x ts) v = none
picked_at whole (t_pipe p t q x u) v = none
picked_at whole (t_bin_op p t q x u) v = none
picked_at whole (t_path p t ps) v = none
picked_at whole (t_str p f ss) v = none
picked_at whole (t_obj p es) v = none

abbrev pub picked_spot : Tree → Spot → View → Option Entry
picked_spot whole (at t) v = picked_at whole t v
picked_spot whole (leaf p a) v = none
picked_spot whole (call p x) v = picked_argument (seen whole x 0 v)
picked_spot whole (shown p f t) v = none
picked_spot whole (parts p f x ss) v = none
picked_spot whole (single p t o) v = none
picked_spot whole (entries p t o es) v = none
picked_spot whole (reading p t) v = none

abbrev pub picked : Tree → State → Option Entry
picked whole s = picked_spot whole s.spot s.view

-- ---- the form of the record that stands for the spot, by its tag of document 01's section Fields

abbrev pub call_tag : Seen → ℕ
call_tag nothing = 0x50
call_tag (argument a) = 0x59
call_tag (defined d w) = 0x5A
call_tag native = 0x5B

abbrev pub operator_tag : Operator → ℕ
operator_tag o_comma = 0x5F
operator_tag o_assign = 0x60
operator_tag o_update = 0x61
operator_tag (o_update_math k) = 0x62
operator_tag o_update_alt = 0x63
operator_tag o_or = 0x64
operator_tag o_and = 0x64
operator_tag (o_math k) = 0x65
operator_tag (o_cmp k) = 0x66
operator_tag o_alt = 0x67
operator_tag o_none = 0x50

abbrev pub leaf_tag : Leaf → ℕ
leaf_tag identity = 0x50
leaf_tag to_string = 0x52
leaf_tag (number i) = 0x53
leaf_tag (text x) = 0x55
leaf_tag empty_obj = 0x57

-- "one or more decimal digits alone, at most 2^63-1, give Int; all else Num"
unfoldable pub number_tag : Text → ℕ
number_tag x = cond (leb 1 (length x) && are_digits x && leb (decimal 0 x) (2 ^ 63 - 1)) 0x53 0x54

-- a walk stands at no Def, Str or Obj: it has gone on to what stands for it
abbrev pub term_tag : Tree → Term → View → ℕ
term_tag whole (t_id p) v = 0x50
term_tag whole (t_recurse p) v = 0x51
term_tag whole (t_arr p o) v = 0x56
term_tag whole (t_neg p t) v = 0x5D
term_tag whole (t_label p x t) v = 0x5C
term_tag whole (t_break p x) v = 0x59
term_tag whole (t_if_then_else p q t u bs) v = 0x69
term_tag whole (t_var p x) v = 0x59
term_tag whole (t_call p f ts) v = call_tag (seen whole f.text (arity ts) v)
term_tag whole (t_def p ds t) v = 0x50
term_tag whole (t_num p x) v = number_tag x
term_tag whole (t_try_catch p t o) v = 0x68
term_tag whole (t_fold p f t x ts) v = 0x6A
term_tag whole (t_pipe p t q x u) v = 0x5E
term_tag whole (t_bin_op p t q x u) v = operator_tag (operator x)
term_tag whole (t_path p t ps) v = 0x6B
term_tag whole (t_str p f ss) v = 0x50
term_tag whole (t_obj p es) v = 0x50

abbrev pub spot_tag : Tree → Spot → View → ℕ
spot_tag whole (at t) v = term_tag whole t v
spot_tag whole (leaf p a) v = leaf_tag a
spot_tag whole (call p x) v = call_tag (seen whole x 0 v)
spot_tag whole (shown p f t) v = 0x5E
spot_tag whole (parts p f x ss) v = 0x65
spot_tag whole (single p t o) v = 0x58
spot_tag whole (entries p t o es) v = 0x65
spot_tag whole (reading p t) v = 0x6B

abbrev pub tag : Tree → State → ℕ
tag whole s = spot_tag whole s.spot s.view
