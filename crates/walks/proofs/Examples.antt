-- Worked walks, computed: what the walk by names comes to, and what the walk by numbers comes to after the same moves. Places are made up.
use Rattle.std.specs.Prelude.{ℕ, ◌≡◌, refl, List, [], ◌∷◌}
use Prim.Native.String.{String}
use Rattle.std.proofs.Math.Option.{Option, none, some}
use Rattle.fields.specs.Number.{number, value}
use Rattle.fields.specs.Field.{field}
use Rattle.fields.specs.Outcome.{listing}
use Rattle.tree.specs.Tree.{Name, Term, no_term, ts_nil, ts_cons, ds_nil, ds_cons, def, p_var, p_arr, a_pattern, no_pattern, ps_nil, ps_cons, s_nil, s_cons, s_text, s_term, es_nil, es_cons, no_format, no_globals, a_globals, Uses, Module, Tree, t_id, t_num, t_label, t_break, t_var, t_call, t_def, t_pipe, t_str, t_obj}
use Rattle.rules.specs.Names.{ascii}
use Rattle.rules.specs.Tails.{bit, has, without, subset, local_call, module_kind}
use Rattle.rules.specs.Filters.{variable, filter_named, import_meant, part_meant, meant}
use Rattle.rules.specs.Outs.{var_out, numeral, call_out, sum_out, lone_out}
use Rattle.rules.specs.Rules.{called, format_out, term}
use Rattle.rules.specs.Modules.{modules, compile}
use Rattle.rules.specs.Listing.{term_listing, listed, compiling, pat_bytes, opt_pat_bytes}
use Rattle.walks.specs.Moves.{Role, Move}
use Rattle.walks.specs.TreeWalk as ByName
use Rattle.walks.specs.TreeWalk.{Entry}
use Rattle.walks.specs.TableWalk as ByNumber
use Rattle.walks.specs.TableWalk.{Cells, Cell}
use Rattle.walks.specs.Together.{nodes_of, by_name, by_number}
use Rattle.walks.specs.Reader.{with_number, with_field, read_pat, read_opt_pat, read_nodes, read_listing}

-- ---- what is shown of a walk: the place or number where it stands, and the entry that is picked there

pub record Spotted : Type 0 where
  pub place : ℕ
  pub entry : Option Entry

pub record Numbered : Type 0 where
  pub number : ℕ
  pub cell : Option Cell

abbrev spotted : Tree → Option ByName.State → Option Spotted
spotted t none = none
spotted t (some s) = some (record { place = ByName.place_of s.spot; entry = ByName.picked t s })

abbrev numbered : Tree → Option ByNumber.State → Option Numbered
numbered t none = none
numbered t (some b) = some (record { number = b.at; cell = ByNumber.picked (nodes_of (compile t).table) b })

-- the list of the walk by numbers
abbrev list_of : Option ByNumber.State → Option Cells
list_of none = none
list_of (some b) = some b.list

-- by names at the place p with the entry a, and by numbers at n with the cell b
abbrev Comes : Tree → List Move → ℕ → Option Entry → ℕ → Option Cell → Type 0
Comes t ms p a n b = (spotted t (by_name t ms) ≡ some (record { place = p; entry = a })) × (numbered t (by_number t ms) ≡ some (record { number = n; cell = b }))

-- ---- trees

abbrev named : ℕ → String → Name
named p x = record { place = p; text = ascii x }

abbrev no_uses : Uses
no_uses = record { imports_at = 0; imports = []; includes_at = 0; includes = []; vars_at = 0; vars = [] }

abbrev program : Term → Tree
program t = record { place = 0; natives_at = 0; natives = []; globals = no_globals; modules = []; main = record { place = 0; uses = no_uses; body = t } }

abbrev left : Move
left = Move.member Role.left 0

abbrev right : Move
right = Move.member Role.right 0

abbrev only : Move
only = Move.member Role.only 0

-- ---- a recursive definition, entered three deep and left through its argument

-- `def f(g; $x): g as $x | f(g; $x); label $l | f(break $l; .)`
abbrev recursive : Tree
recursive =
    program
    (t_def 0
    (ds_cons
    (def 3 (named 6 "f") (named 7 "g" ∷ named 8 "$x" ∷ [])
    (t_pipe 9 (t_call 15 (named 15 "g") ts_nil) 16 (a_pattern (p_var 17 (ascii "$x")))
    (t_call 18 (named 18 "f") (ts_cons (t_call 21 (named 21 "g") ts_nil) (ts_cons (t_var 24 (ascii "$x")) ts_nil)))))
    ds_nil)
    (t_label 30 (named 30 "$l") (t_call 33 (named 33 "f") (ts_cons (t_break 36 (ascii "$l")) (ts_cons (t_id 39) ts_nil)))))

abbrev deep : List Move
deep = only ∷ Move.called ∷ right ∷ Move.called ∷ right ∷ Move.called ∷ []

-- in the third body: `g` there is the `g` passed by the second, at 21
pub three-deep : (spotted recursive (by_name recursive deep) ≡ some (record { place = 9; entry = none }))
    × (list_of (by_number recursive deep)
    ≡ some
    (Cells.cell (Cell.value 5)
    (Cells.cell
    (Cell.arg 4
    (Cells.cell (Cell.var 1 0)
    (Cells.cell (Cell.value 5)
    (Cells.cell
    (Cell.arg 4
    (Cells.cell (Cell.var 1 0)
    (Cells.cell (Cell.value 8) (Cells.cell (Cell.arg 7 (Cells.cell (Cell.label 0) Cells.end)) Cells.end))))
    Cells.end))))
    Cells.end)))
unfolding compile modules term called call_out meant part_meant filter_named local_call has subset without bit var_out variable
three-deep = (refl, refl)

-- through the argument of each body, out to the break in main, which takes main's label
pub out-again : Comes recursive (only ∷ Move.called ∷ right ∷ Move.called ∷ right ∷ Move.called ∷ left ∷ Move.passed ∷ Move.passed ∷ Move.passed ∷ []) 36
    (some (Entry.label (named 30 "$l") 30)) 7 (some (Cell.label 0))
unfolding compile modules term called call_out meant part_meant filter_named local_call has subset without bit var_out variable
out-again = (refl, refl)

-- a fourth way out is there for neither
pub no-further : (spotted recursive (by_name recursive (only ∷ Move.called ∷ left ∷ Move.passed ∷ Move.passed ∷ [])) ≡ none)
    × (numbered recursive (by_number recursive (only ∷ Move.called ∷ left ∷ Move.passed ∷ Move.passed ∷ [])) ≡ none)
unfolding compile modules term called call_out meant part_meant filter_named local_call has subset without bit var_out variable
no-further = (refl, refl)

-- ---- a label between two variables

-- bay nine: `. as $mark | label $out | . as $floor | $mark`
abbrev bay : Tree
bay =
    program
    (t_pipe 1 (t_id 5) 8 (a_pattern (p_var 11 (ascii "$mark")))
    (t_label 20 (named 23 "$out") (t_pipe 30 (t_id 35) 38 (a_pattern (p_var 41 (ascii "$floor"))) (t_var 50 (ascii "$mark")))))

-- the sensor's mark is picked, behind the label, which counts
pub the-mark : Comes bay (right ∷ only ∷ right ∷ []) 50 (some (Entry.var (named 11 "$mark") 1 (named 11 "$mark" ∷ []))) 5 (some (Cell.var 0 0))
unfolding compile modules term var_out variable
the-mark = (refl, refl)

-- one binding less would have been the label
pub not-the-label : list_of (by_number bay (right ∷ only ∷ right ∷ [])) ≡ some (Cells.cell (Cell.var 3 0) (Cells.cell (Cell.label 2) (Cells.cell (Cell.var 0 0) Cells.end)))
unfolding compile modules term var_out variable
not-the-label = refl

-- the bytes that leave the compiler: the edition and main's number; Pipe 0, Id 1, Label 2, Pipe 3, Id 4, and a variable of index 2
abbrev bay_bytes : List ℕ
bay_bytes =
    0x00 ∷ 3 ∷ 0 ∷ 1 ∷ 0 ∷ 0
    ∷ 0x5E ∷ 5 ∷ 0 ∷ 1 ∷ 0 ∷ 1 ∷ 2 ∷ 0
    ∷ 0x50 ∷ 0 ∷ 0
    ∷ 0x5C ∷ 2 ∷ 0 ∷ 3 ∷ 0
    ∷ 0x5E ∷ 5 ∷ 0 ∷ 4 ∷ 0 ∷ 1 ∷ 5 ∷ 0
    ∷ 0x50 ∷ 0 ∷ 0
    ∷ 0x59 ∷ 2 ∷ 0 ∷ 2 ∷ 0
    ∷ []

pub bay-listed : compiling bay ≡ listing 0 bay_bytes
unfolding compiling listed term_listing compile modules term var_out variable opt_pat_bytes pat_bytes field number
bay-listed = refl

-- and the same walk in them
abbrev in_bytes : Option ByNumber.State
in_bytes = ByNumber.walk (read_listing bay_bytes).nodes (right ∷ only ∷ right ∷ []) (some (ByNumber.start (read_listing bay_bytes).main 0 0))

pub the-mark-in-bytes : in_bytes ≡ some (ByNumber.here 5 (Cells.cell (Cell.var 3 0) (Cells.cell (Cell.label 2) (Cells.cell (Cell.var 0 0) Cells.end))))
unfolding read_listing with_field with_number read_nodes read_opt_pat read_pat value
the-mark-in-bytes = refl

-- ---- modules, imported variables, globals

-- `import $set; def hold: $set; def on(g): g | hold;`
abbrev library : Module
library =
    record {
      place = 0;
      uses = record { imports_at = 0; imports = []; includes_at = 0; includes = []; vars_at = 0; vars = named 60 "$set" ∷ [] };
      defs_at = 0;
      defs = ds_cons (def 61 (named 62 "hold") [] (t_var 63 (ascii "$set")))
          (ds_cons
          (def 64 (named 65 "on") (named 66 "g" ∷ []) (t_pipe 67 (t_call 68 (named 69 "g") ts_nil) 0 no_pattern (t_call 70 (named 71 "hold") ts_nil)))
          ds_nil);
    }

-- `import lib; import $set; . as $x | label $l | lib::on($x), $set, $bay`, with the global `$bay`
abbrev user : Term → Tree
user t =
    record {
      place = 0;
      natives_at = 0;
      natives = [];
      globals = a_globals 0 (named 80 "$bay" ∷ []);
      modules = library ∷ [];
      main = record {
        place = 0;
        uses = record {
          imports_at = 0;
          imports = record { place = 0; number = record { place = 0; bytes = 0 ∷ 0 ∷ [] }; name = named 0 "lib" } ∷ [];
          includes_at = 0;
          includes = [];
          vars_at = 0;
          vars = named 81 "$set" ∷ [];
        };
        body = t_pipe 1 (t_id 4) 7 (a_pattern (p_var 8 (ascii "$x"))) (t_label 10 (named 11 "$l") t);
      };
    }

abbrev calling : Tree
calling = user (t_call 20 (named 21 "lib::on") (ts_cons (t_var 22 (ascii "$x")) ts_nil))

abbrev outermost : Cells
outermost = Cells.cell (Cell.imported 1) (Cells.cell (Cell.imported 0) (Cells.cell (Cell.global 0) Cells.end))

-- a module's definition sees its argument and what lies past all locals
pub module-call : Comes calling (right ∷ only ∷ Move.called ∷ []) 67 none 1 none
    × (list_of (by_number calling (right ∷ only ∷ Move.called ∷ []))
    ≡ some (Cells.cell (Cell.arg 8 (Cells.cell (Cell.label 6) (Cells.cell (Cell.var 4 0) outermost))) outermost))
unfolding compile modules term called call_out meant part_meant import_meant filter_named local_call module_kind has subset without bit var_out variable value
module-call = ((refl, refl), refl)

-- through its argument back to `$x` of main; and from it into `hold`, whose `$set` is the module's own
pub back-to-main : Comes calling (right ∷ only ∷ Move.called ∷ left ∷ Move.passed ∷ []) 22 (some (Entry.var (named 8 "$x") 1 (named 8 "$x" ∷ []))) 8 (some (Cell.var 4 0))
unfolding compile modules term called call_out meant part_meant import_meant filter_named local_call module_kind has subset without bit var_out variable value
back-to-main = (refl, refl)

pub module's-own : Comes calling (right ∷ only ∷ Move.called ∷ right ∷ Move.called ∷ []) 63 (some (Entry.imported (record { home = 0; name = named 60 "$set" }))) 0 (some (Cell.imported 0))
unfolding compile modules term called call_out meant part_meant import_meant filter_named local_call module_kind has subset without bit var_out variable value
module's-own = (refl, refl)

-- main's own imported variable, behind its locals; and the global
pub behind-locals : Comes (user (t_var 20 (ascii "$set"))) (right ∷ only ∷ []) 20 (some (Entry.imported (record { home = 1; name = named 81 "$set" }))) 7 (some (Cell.imported 1))
    × Comes (user (t_var 20 (ascii "$bay"))) (right ∷ only ∷ []) 20 (some (Entry.global (named 80 "$bay"))) 7 (some (Cell.global 0))
unfolding compile modules term called call_out meant part_meant import_meant filter_named local_call module_kind has subset without bit var_out variable value
behind-locals = ((refl, refl), (refl, refl))

-- ---- a `$` parameter: the place of its argument, in both walks

-- `def f($x): $x; f(1)`
abbrev parameter : Tree
parameter =
    program
    (t_def 0 (ds_cons (def 3 (named 6 "f") (named 7 "$x" ∷ []) (t_var 9 (ascii "$x"))) ds_nil) (t_call 20 (named 23 "f") (ts_cons (t_num 26 (ascii "1")) ts_nil)))

pub its-argument : Comes parameter (Move.called ∷ []) 9 (some (Entry.value (named 7 "$x") (t_num 26 (ascii "1")))) 1 (some (Cell.value 2))
unfolding compile modules term called call_out meant part_meant filter_named local_call has subset without bit var_out variable numeral
its-argument = (refl, refl)

-- ---- a pattern with a repeated name: the last is picked

-- `. as [$a, $a] | $a`; the keys stand at the BinOp
abbrev repeated : Tree
repeated = program (t_pipe 1 (t_id 4) 7 (a_pattern (p_arr 10 (ps_cons (p_var 13 (ascii "$a")) (ps_cons (p_var 18 (ascii "$a")) ps_nil)))) (t_var 30 (ascii "$a")))

pub the_last : Comes repeated (right ∷ []) 30 (some (Entry.var (named 18 "$a") 1 (named 13 "$a" ∷ named 18 "$a" ∷ []))) 2 (some (Cell.var 0 1))
    × Comes repeated (Move.member Role.key 1 ∷ []) 1 none 4 none
unfolding compile modules term var_out variable
the_last = ((refl, refl), (refl, refl))

-- ---- supplied terms: the walk by names stays at the field

-- `. as $x | {$x, "\($x)a"}`
abbrev supplied : Tree
supplied =
    program
    (t_pipe 1 (t_id 4) 7 (a_pattern (p_var 10 (ascii "$x")))
    (t_obj 20 (es_cons 21 (t_var 24 (ascii "$x")) no_term (es_cons 30 (t_str 33 no_format (s_cons (s_term (t_var 36 (ascii "$x"))) (s_cons (s_text (named 40 "a")) s_nil))) no_term es_nil))))

pub stays :
    -- the sum of the two entries, the first entry, its key
    Comes supplied (right ∷ []) 20 none 2 none
    × Comes supplied (right ∷ left ∷ []) 20 none 12 none
    × Comes supplied (right ∷ left ∷ Move.member Role.name 0 ∷ []) 20 none 3 none
    -- its value, the variable itself
    × Comes supplied (right ∷ left ∷ Move.member Role.value 0 ∷ []) 24 (some (Entry.var (named 10 "$x") 1 (named 10 "$x" ∷ []))) 4 (some (Cell.var 0 0))
    -- the second entry, the Path by which its key reads itself, the key by way of it, and the string's part piped into ToString
    × Comes supplied (right ∷ right ∷ Move.member Role.value 0 ∷ []) 20 none 11 none
    × Comes supplied (right ∷ right ∷ Move.member Role.value 0 ∷ Move.member Role.index 0 ∷ []) 33 none 5 none
    × Comes supplied (right ∷ right ∷ Move.member Role.name 0 ∷ left ∷ right ∷ []) 33 none 6 none
    × Comes supplied (right ∷ right ∷ Move.member Role.name 0 ∷ left ∷ left ∷ []) 36 (some (Entry.var (named 10 "$x") 1 (named 10 "$x" ∷ []))) 7 (some (Cell.var 0 0))
unfolding compile modules term format_out sum_out lone_out var_out variable
stays = ((refl, refl), (refl, refl), (refl, refl), (refl, refl), (refl, refl), (refl, refl), (refl, refl), (refl, refl))
