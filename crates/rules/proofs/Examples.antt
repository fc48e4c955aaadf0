-- Worked examples of the rules, computed. Places are made up where a claim does not show them.
use Rattle.std.specs.Prelude.{ℕ, ◌≡◌, refl, true, false, List, [], ◌∷◌, ◌++◌}
use Prim.Native.String.{String}
use Rattle.std.proofs.Math.Option.{none, some}
use Rattle.fields.specs.Number.{number, value}
use Rattle.fields.specs.Field.{field}
use Rattle.fields.specs.Outcome.{listing}
use Rattle.tree.specs.Tree.{Name, Number, Term, no_term, a_term, ts_nil, ts_cons, b_none, b_pair, ds_nil, ds_cons, def, p_var, p_arr, p_obj, no_pattern, a_pattern, ps_nil, ps_cons, pes_nil, pes_cons, parts_nil, parts_cons, part_index, part_range, a_bound, no_mark, a_mark, s_nil, s_cons, s_text, s_term, es_nil, es_cons, no_format, no_globals, a_globals, Uses, Module, Tree, operator_of, t_id, t_recurse, t_arr, t_label, t_break, t_if_then_else, t_var, t_call, t_def, t_num, t_try_catch, t_fold, t_pipe, t_bin_op, t_path, t_str, t_obj}
use Rattle.rules.specs.Names.{ascii}
use Rattle.rules.specs.Table.{Kind, inline, throw, catch_one, catch_all, pat_var, pat_idx, pats_nil, pats_cons, reduce, foreach, index, range, Node, n_id, n_recurse, n_to_string, n_int, n_num, n_str, n_arr, n_obj_empty, n_obj_single, n_var, n_call_def, n_native, n_label, n_neg, n_pipe, n_comma, n_assign, n_update, n_update_math, n_update_alt, n_logic, n_math, n_cmp, n_alt, n_try_catch, n_ite, n_fold, n_path, Rec}
use Rattle.rules.specs.Tails.{bit, has, without, subset, local_call, module_kind}
use Rattle.rules.specs.Filters.{variable, filter_named, import_meant, part_meant, meant}
use Rattle.rules.specs.Outs.{var_out, numeral, call_out, ite_out, sum_out, lone_out}
use Rattle.rules.specs.Rules.{called, empty_out, format_out, fold_error, end_of_fold, out_of_fold, term}
use Rattle.rules.specs.Modules.{modules, compile}
use Rattle.rules.specs.Listing.{term_listing, error_listing, listed, compiling, pat_bytes, opt_pat_bytes}

-- ---- trees

abbrev named : ℕ → String → Name
named p x = record { place = p; text = ascii x }

abbrev numbered : ℕ → Number
numbered k = record { place = 0; bytes = k ∷ 0 ∷ [] }

abbrev no_uses : Uses
no_uses = record { imports_at = 0; imports = []; includes_at = 0; includes = []; vars_at = 0; vars = [] }

-- a main alone, without natives
abbrev program : Term → Tree
program t = record { place = 0; natives_at = 0; natives = []; globals = no_globals; modules = []; main = record { place = 0; uses = no_uses; body = t } }

-- a call without arguments; `+`, `,`, `|`; a definition without parameters, and what follows it
abbrev call : String → Term
call f = t_call 0 (named 0 f) ts_nil

abbrev plus : Term → Term → Term
plus t u = t_bin_op 0 t 0 (0x10 ∷ []) u

abbrev comma : Term → Term → Term
comma t u = t_bin_op 0 t 0 (0x01 ∷ []) u

abbrev pipe : Term → Term → Term
pipe t u = t_pipe 0 t 0 no_pattern u

abbrev defining : String → Term → Term → Term
defining f t u = t_def 0 (ds_cons (def 0 (named 0 f) [] t) ds_nil) u

abbrev one : Term
one = t_num 0 (ascii "1")

-- ---- what is claimed of them

abbrev nodes_of : List Rec → List Node
nodes_of [] = []
nodes_of (r ∷ rs) = r.node ∷ nodes_of rs

abbrev nodes : Term → List Node
nodes t = nodes_of (compile (program t)).table

abbrev kinds_of : List Node → List Kind
kinds_of [] = []
kinds_of (x ∷ xs) = kind x ++ kinds_of xs
  where
    kind : Node → List Kind
    kind n_id = []
    kind n_recurse = []
    kind n_to_string = []
    kind (n_int i) = []
    kind (n_num s) = []
    kind (n_str s) = []
    kind (n_arr a) = []
    kind n_obj_empty = []
    kind (n_obj_single a b) = []
    kind (n_var i) = []
    kind (n_call_def n as' s k) = k ∷ []
    kind (n_native n as') = []
    kind (n_label a) = []
    kind (n_neg a) = []
    kind (n_pipe a y b) = []
    kind (n_comma a b) = []
    kind (n_assign a b) = []
    kind (n_update a b) = []
    kind (n_update_math a k b) = []
    kind (n_update_alt a b) = []
    kind (n_logic a o b) = []
    kind (n_math a k b) = []
    kind (n_cmp a k b) = []
    kind (n_alt a b) = []
    kind (n_try_catch a b) = []
    kind (n_ite a b c) = []
    kind (n_fold a y b c k) = []
    kind (n_path a ss) = []

-- the kinds of the calls of definitions, in the order of their numbers
abbrev kinds : Term → List Kind
kinds t = kinds_of (nodes t)

-- ---- the starred case: "`1 as $x | label $l | $x`: the last term is a variable of index 1."

pub starred : nodes (t_pipe 0 one 0 (a_pattern (p_var 0 (ascii "$x"))) (t_label 0 (named 0 "$l") (t_var 0 (ascii "$x"))))
    ≡ n_pipe 1 (some pat_var) 2 ∷ n_int 1 ∷ n_label 3 ∷ n_var 1 ∷ []
unfolding compile modules term var_out variable numeral
starred = refl

-- ---- how calls are made: the seven programs of the Rust's own test

pub tail-calls :
    (kinds (plus one one) ≡ [])
    × (kinds (defining "f" (pipe (plus (t_id 0) one) (call "f")) (call "f")) ≡ catch_one ∷ throw ∷ [])
    × (kinds (defining "f" (plus (call "f") one) (call "f")) ≡ inline ∷ catch_all ∷ [])
    × (kinds (defining "f" (defining "g" (comma (call "f") (call "g")) (call "g")) (call "f")) ≡ catch_one ∷ catch_one ∷ throw ∷ throw ∷ [])
    × (kinds (defining "f" (defining "g" (call "f") (call "g")) (call "f")) ≡ catch_one ∷ inline ∷ throw ∷ [])
    × (kinds (defining "f" (plus one (defining "g" (call "g") (call "g"))) (call "f")) ≡ inline ∷ catch_one ∷ throw ∷ [])
    × (kinds (defining "f" (pipe (call "f") (call "f")) (call "f")) ≡ catch_one ∷ catch_all ∷ throw ∷ [])
unfolding compile modules term called call_out meant part_meant filter_named local_call has subset without bit numeral operator_of
tail-calls = (refl, refl, refl, refl, refl, refl, refl)

-- ---- one of each form

-- `"a\(.)b"`: the sums from the last pair back
pub string : nodes (t_str 0 no_format (s_cons (s_text (named 0 "a")) (s_cons (s_term (t_id 0)) (s_cons (s_text (named 0 "b")) s_nil))))
    ≡ n_math 5 0 6 ∷ n_to_string ∷ n_id ∷ n_pipe 2 none 1 ∷ n_str (ascii "b") ∷ n_str (ascii "a") ∷ n_math 3 0 4 ∷ []
unfolding compile modules term format_out sum_out
string = refl

-- `if . then 1 elif .. then 2 end`: conditions and branches, what else holds, then else numbers from the last pair back
pub conditional : nodes (t_if_then_else 0 0 (t_id 0) one (b_pair 0 (t_recurse 0) (t_num 0 (ascii "2")) b_none))
    ≡ n_ite 1 2 6 ∷ n_id ∷ n_int 1 ∷ n_recurse ∷ n_int 2 ∷ n_id ∷ n_ite 3 4 5 ∷ []
unfolding compile modules term ite_out numeral
conditional = refl

-- `1 as $x | {$x, a: .., (.)}`, where `a` is a string
pub object : nodes
    (t_pipe 0 one 0 (a_pattern (p_var 0 (ascii "$x")))
    (t_obj 0 (es_cons 0 (t_var 0 (ascii "$x")) no_term (es_cons 0 (t_str 0 no_format (s_cons (s_text (named 0 "a")) s_nil)) (a_term (t_recurse 0)) (es_cons 0 (t_id 0) no_term es_nil)))))
    ≡ n_pipe 1 (some pat_var) 2
    ∷ n_int 1
    ∷ n_math 13 0 14
    ∷ n_str (ascii "x")
    ∷ n_var 0
    ∷ n_str (ascii "a")
    ∷ n_to_string
    ∷ n_recurse
    ∷ n_id
    ∷ n_id
    ∷ n_path 9 (index 8 false ∷ [])
    ∷ n_obj_single 5 7
    ∷ n_obj_single 8 10
    ∷ n_obj_single 3 4
    ∷ n_math 11 0 12
    ∷ []
unfolding compile modules term format_out sum_out lone_out var_out variable numeral
object = refl

-- `foreach .. as [$x, $y] (.; $x; $y)` and `reduce` of the same: the keys behind the source, update and projection under the variables
pub fold :
    (nodes
    (t_fold 0 (named 0 "foreach") (t_recurse 0) (p_arr 0 (ps_cons (p_var 0 (ascii "$x")) (ps_cons (p_var 0 (ascii "$y")) ps_nil)))
    (ts_cons (t_id 0) (ts_cons (t_var 0 (ascii "$x")) (ts_cons (t_var 0 (ascii "$y")) ts_nil))))
    ≡ n_fold 1 (pat_idx (pats_cons 2 pat_var (pats_cons 3 pat_var pats_nil))) 4 5 (foreach (some 6)) ∷ n_recurse ∷ n_int 0 ∷ n_int 1 ∷ n_id ∷ n_var 1 ∷ n_var 0 ∷ [])
    × (nodes (t_fold 0 (named 0 "reduce") (t_recurse 0) (p_var 0 (ascii "$x")) (ts_cons (t_id 0) (ts_cons (t_var 0 (ascii "$x")) ts_nil)))
    ≡ n_fold 1 pat_var 2 3 reduce ∷ n_recurse ∷ n_id ∷ n_var 0 ∷ [])
unfolding compile modules term out_of_fold end_of_fold var_out variable
fold = (refl, refl)

-- `. as {(..): [$x]} | $x`: left, right under the variables, then the keys
pub pattern : nodes
    (t_pipe 0 (t_id 0) 0 (a_pattern (p_obj 0 (pes_cons 0 (t_recurse 0) (p_arr 0 (ps_cons (p_var 0 (ascii "$x")) ps_nil)) pes_nil))) (t_var 0 (ascii "$x")))
    ≡ n_pipe 1 (some (pat_idx (pats_cons 3 (pat_idx (pats_cons 4 pat_var pats_nil)) pats_nil))) 2 ∷ n_id ∷ n_var 0 ∷ n_recurse ∷ n_int 0 ∷ []
unfolding compile modules term var_out variable
pattern = refl

-- `.[1:..]?`, `try . `, `[]` where a native is called `!empty`
pub others :
    (nodes (t_path 0 (t_id 0) (parts_cons (part_range 0 (a_bound 0 one) (a_bound 0 (t_recurse 0)) (a_mark 0)) (parts_cons (part_index 0 one no_mark) parts_nil)))
    ≡ n_path 1 (range (some 2) (some 3) true ∷ index 4 false ∷ []) ∷ n_id ∷ n_int 1 ∷ n_recurse ∷ n_int 1 ∷ [])
    × (nodes (defining "!empty" (t_id 0) (comma (t_try_catch 0 (t_id 0) no_term) (t_arr 0 no_term)))
    ≡ n_comma 2 5 ∷ n_id ∷ n_try_catch 3 4 ∷ n_id ∷ n_call_def 1 [] 0 inline ∷ n_arr 6 ∷ n_call_def 1 [] 0 inline ∷ [])
unfolding compile modules term empty_out called call_out meant part_meant filter_named local_call has subset without bit numeral operator_of
others = (refl, refl)

-- ---- places: each record has that of its tree field, "a supplied term stands at the term field whose rule inserts it, an array pattern's keys at the BinOp or Fold"

abbrev places_of : List Rec → List ℕ
places_of [] = []
places_of (r ∷ rs) = r.place ∷ places_of rs

abbrev places : Term → List ℕ
places t = places_of (compile (program t)).table

-- the string above, its Str at 10 and `.` at 20; a conditional at 10 with two pairs and no else; `. as [$x] | {$x, (.)}` with the Obj at 30, and a definition
-- whose body stands at 20, before `.` at 30
pub record-places :
    (places (t_str 10 no_format (s_cons (s_text (named 0 "a")) (s_cons (s_term (t_id 20)) (s_cons (s_text (named 0 "b")) s_nil)))) ≡ 10 ∷ 10 ∷ 20 ∷ 10 ∷ 10 ∷ 10 ∷ 10 ∷ [])
    × (places (t_if_then_else 10 0 (t_id 20) (t_id 30) (b_pair 0 (t_id 40) (t_id 50) b_none)) ≡ 10 ∷ 20 ∷ 30 ∷ 40 ∷ 50 ∷ 10 ∷ 10 ∷ [])
    × (places
    (t_pipe 10 (t_id 20) 0 (a_pattern (p_arr 0 (ps_cons (p_var 0 (ascii "$x")) ps_nil))) (t_obj 30 (es_cons 0 (t_var 40 (ascii "$x")) no_term (es_cons 0 (t_id 50) no_term es_nil))))
    ≡ 10 ∷ 20 ∷ 30 ∷ 30 ∷ 40 ∷ 50 ∷ 30 ∷ 30 ∷ 30 ∷ 30 ∷ 10 ∷ [])
    × (places (t_def 10 (ds_cons (def 15 (named 0 "f") [] (t_id 20)) ds_nil) (t_id 30)) ≡ 30 ∷ 20 ∷ [])
unfolding compile modules term format_out sum_out ite_out lone_out var_out variable
record-places = (refl, refl, refl, refl)

-- numerals: `007`, 2^63-1, one past it, `1.0`, nothing, `-5`
pub numerals :
    (numeral (ascii "007") ≡ n_int 7)
    × (numeral (ascii "9223372036854775807") ≡ n_int 9223372036854775807)
    × (numeral (ascii "9223372036854775808") ≡ n_num (ascii "9223372036854775808"))
    × (numeral (ascii "1.0") ≡ n_num (ascii "1.0"))
    × (numeral [] ≡ n_num [])
    × (numeral (ascii "-5") ≡ n_num (ascii "-5"))
unfolding numeral
numerals = (refl, refl, refl, refl, refl, refl)

-- ---- modules

-- module 0: `def f: f; def f(g; $x): .;`
abbrev library : Module
library =
    record {
      place = 0;
      uses = no_uses;
      defs_at = 0;
      defs = ds_cons (def 0 (named 0 "f") [] (call "f")) (ds_cons (def 0 (named 0 "f") (named 0 "g" ∷ named 0 "$x" ∷ []) (t_id 0)) ds_nil);
    }

-- `import m; include m; 1 as $x | m::f, f(.; $x), $y`, with the imported variable `$y` and the globals `$y`, `$z`
abbrev user : Term → Tree
user t =
    record {
      place = 0;
      natives_at = 0;
      natives = [];
      globals = a_globals 0 (named 0 "$y" ∷ named 0 "$z" ∷ []);
      modules = library ∷ [];
      main = record {
        place = 0;
        uses = record {
          imports_at = 0;
          imports = record { place = 0; number = numbered 0; name = named 0 "m" } ∷ [];
          includes_at = 0;
          includes = numbered 0 ∷ [];
          vars_at = 0;
          vars = named 0 "$y" ∷ [];
        };
        body = t;
      };
    }

pub module-calls : nodes_of
    (compile
    (user
    (t_pipe 0 one 0 (a_pattern (p_var 0 (ascii "$x")))
    (comma (call "m::f") (comma (t_call 0 (named 0 "f") (ts_cons (t_id 0) (ts_cons (t_var 0 (ascii "$x")) ts_nil))) (comma (t_var 0 (ascii "$y")) (t_var 0 (ascii "$z")))))))
    ).table
    ≡ n_call_def 0 [] 0 throw
    ∷ n_id
    ∷ n_pipe 3 (some pat_var) 4
    ∷ n_int 1
    ∷ n_comma 5 6
    ∷ n_call_def 0 [] 1 catch_one
    ∷ n_comma 7 10
    ∷ n_call_def 1 (record { isv = false; num = 8 } ∷ record { isv = true; num = 9 } ∷ []) 1 inline
    ∷ n_id
    ∷ n_var 0
    ∷ n_comma 11 12
    ∷ n_var 1
    ∷ n_var 2
    ∷ []
unfolding compile modules term called call_out meant part_meant import_meant filter_named local_call module_kind has subset without bit var_out variable numeral operator_of value
module-calls = refl

-- ---- errors, and the bytes of a listing

-- `$q, break $q, f(.), k::f, m::g, foreach . as $x (.)` in main, whose names stand at 10, 20 .., behind one module
pub errors : compiling
    (user
    (comma (t_var 7 (ascii "$q"))
    (comma (t_break 17 (ascii "$q"))
    (comma (t_call 0 (named 27 "f") (ts_cons (t_id 0) ts_nil))
    (comma (t_call 0 (named 37 "k::f") ts_nil)
    (comma (t_call 0 (named 47 "m::g") ts_nil)
    (comma (t_arr 0 no_term)
    (t_fold 0 (named 57 "foreach") (t_var 0 (ascii "$q")) (p_var 0 (ascii "$x")) (ts_cons (t_var 0 (ascii "$q")) ts_nil)))))))))
    ≡ listing 1
    (0x00 ∷ 1 ∷ 0 ∷ 1
    ∷ 0x29 ∷ 6 ∷ 0 ∷ 1 ∷ 0 ∷ 10 ∷ 0 ∷ 2 ∷ 0
    ∷ 0x2A ∷ 6 ∷ 0 ∷ 1 ∷ 0 ∷ 20 ∷ 0 ∷ 2 ∷ 0
    ∷ 0x2B ∷ 8 ∷ 0 ∷ 1 ∷ 0 ∷ 30 ∷ 0 ∷ 1 ∷ 0 ∷ 1 ∷ 0
    ∷ 0x28 ∷ 6 ∷ 0 ∷ 1 ∷ 0 ∷ 40 ∷ 0 ∷ 1 ∷ 0
    ∷ 0x2B ∷ 8 ∷ 0 ∷ 1 ∷ 0 ∷ 53 ∷ 0 ∷ 1 ∷ 0 ∷ 0 ∷ 0
    ∷ 0x2B ∷ 8 ∷ 0 ∷ 1 ∷ 0 ∷ 0 ∷ 0 ∷ 6 ∷ 0 ∷ 0 ∷ 0
    ∷ 0x2B ∷ 8 ∷ 0 ∷ 1 ∷ 0 ∷ 60 ∷ 0 ∷ 7 ∷ 0 ∷ 1 ∷ 0
    ∷ [])
unfolding compiling listed error_listing compile modules term empty_out called call_out meant part_meant import_meant filter_named local_call has subset without bit var_out variable out_of_fold fold_error operator_of field number value
errors = refl

-- `1 as $x | label $l | $x`, byte for byte
pub bytes : compiling (program (t_pipe 0 one 0 (a_pattern (p_var 0 (ascii "$x"))) (t_label 0 (named 0 "$l") (t_var 0 (ascii "$x")))))
    ≡ listing 0
    (0x00 ∷ 3 ∷ 0 ∷ 1 ∷ 0 ∷ 0
    ∷ 0x5E ∷ 5 ∷ 0 ∷ 1 ∷ 0 ∷ 1 ∷ 2 ∷ 0
    ∷ 0x53 ∷ 8 ∷ 0 ∷ 1 ∷ 0 ∷ 0 ∷ 0 ∷ 0 ∷ 0 ∷ 0 ∷ 0
    ∷ 0x5C ∷ 2 ∷ 0 ∷ 3 ∷ 0
    ∷ 0x59 ∷ 2 ∷ 0 ∷ 1 ∷ 0
    ∷ [])
unfolding compiling listed term_listing compile modules term var_out variable numeral opt_pat_bytes pat_bytes field number
bytes = refl
