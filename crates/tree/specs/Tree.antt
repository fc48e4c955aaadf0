-- The tree that is compiled: one data type for each kind of field, one constructor for each tag of TREE.md, the field's place first. Document 01: "A tree
-- holds natives (name, parameters), an optional list of globals (absent means none), modules in order (imports, includes, imported variables, definitions)
-- and main, which has the same but a term for its definitions. .. a definition has name, parameters, body; patterns are Var, Arr, Obj; terms are Id, Recurse,
-- Arr, Neg, Label, Break, IfThenElse, Var, Call, Def, Num, TryCatch, Fold, BinOp, Path, Str, Obj." A place is the offset of a field's tag byte in the tree
-- bytes. A field without a constructor of its own (pair, entry, operator, imports ..) has its place in the constructor or record that holds it. Each list is
-- a type of its own where terms stand in it, and so is each optional member. A leaf's content is kept as the bytes that it has. Assumes nothing.
use Rattle.std.specs.Prelude.{ℕ, ◌+◌, ◌-◌, List, cond, eqb, ltb, get_or}

-- a name, parameter, format or text part: the place of its field, and its text
pub record Name : Type 0 where
  pub place : ℕ
  pub text : List ℕ

-- "a name's place is the offset of the first byte of its text (its field's place + 3)"; p is the place of the name's field, or of the Var or Break term
abbrev pub text_place : ℕ → ℕ
text_place p = p + 3

-- a module number (two bytes) or a character (four): the place of its field, and its bytes, the lowest first. The number is their `value`
pub record Number : Type 0 where
  pub place : ℕ
  pub bytes : List ℕ

-- C0, with its place: the part that it stands in is optional
pub data Mark : Type 0 where
  no_mark : Mark
  a_mark : ℕ → Mark

-- BA
pub data Format : Type 0 where
  no_format : Format
  a_format : Name → Format

mutual
  pub data Term : Type 0 where
    -- A0 `.` and A1 `..`
    t_id : ℕ → Term
    t_recurse : ℕ → Term
    -- A2
    t_arr : ℕ → OptTerm → Term
    -- A3
    t_neg : ℕ → Term → Term
    -- A4: the label's name; the term under it
    t_label : ℕ → Name → Term → Term
    -- A5: the label's name
    t_break : ℕ → List ℕ → Term
    -- A6: the first pair's place, condition and branch; what follows it
    t_if_then_else : ℕ → ℕ → Term → Term → Branches → Term
    -- A7: the name, with its `$`
    t_var : ℕ → List ℕ → Term
    -- A8
    t_call : ℕ → Name → Terms → Term
    -- A9
    t_def : ℕ → Defs → Term → Term
    -- AA: the number as written
    t_num : ℕ → List ℕ → Term
    -- AB: the term tried; the one that catches
    t_try_catch : ℕ → Term → OptTerm → Term
    -- AC: its name (`reduce`, `foreach`), source, pattern, arguments
    t_fold : ℕ → Name → Term → Pattern → Terms → Term
    -- AD with a B7: left; the operator field's place, its pattern; right
    t_pipe : ℕ → Term → ℕ → OptPattern → Term → Term
    -- AD with a B9: left; the operator field's place, its byte (read by `operator`); right
    t_bin_op : ℕ → Term → ℕ → List ℕ → Term → Term
    -- AE
    t_path : ℕ → Term → Parts → Term
    -- AF
    t_str : ℕ → Format → StrParts → Term
    -- B0
    t_obj : ℕ → Entries → Term

  pub data OptTerm : Type 0 where
    no_term : OptTerm
    a_term : Term → OptTerm

  pub data Terms : Type 0 where
    ts_nil : Terms
    ts_cons : Term → Terms → Terms

  -- what follows a conditional's pair: nothing, the else, or a further pair (B8) with its place, condition and branch
  pub data Branches : Type 0 where
    b_none : Branches
    b_else : Term → Branches
    b_pair : ℕ → Term → Term → Branches → Branches

  pub data Defs : Type 0 where
    ds_nil : Defs
    ds_cons : Def → Defs → Defs

  -- 8C: name, parameters, body. A parameter that starts with `$` is a variable, any other a filter
  pub data Def : Type 0 where
    def : ℕ → Name → List Name → Term → Def

  pub data Pattern : Type 0 where
    -- 98: the name, with its `$`
    p_var : ℕ → List ℕ → Pattern
    -- 99
    p_arr : ℕ → Patterns → Pattern
    -- 9A
    p_obj : ℕ → PatEntries → Pattern

  pub data OptPattern : Type 0 where
    no_pattern : OptPattern
    a_pattern : Pattern → OptPattern

  pub data Patterns : Type 0 where
    ps_nil : Patterns
    ps_cons : Pattern → Patterns → Patterns

  -- pattern entries (9B): place, key, pattern
  pub data PatEntries : Type 0 where
    pes_nil : PatEntries
    pes_cons : ℕ → Term → Pattern → PatEntries → PatEntries

  -- the parts of a Path
  pub data Parts : Type 0 where
    parts_nil : Parts
    parts_cons : Part → Parts → Parts

  pub data Part : Type 0 where
    -- BE
    part_index : ℕ → Term → Mark → Part
    -- BF: from, upto
    part_range : ℕ → Bound → Bound → Mark → Part

  -- from (C1) or upto (C2), with its place
  pub data Bound : Type 0 where
    without_bound : Bound
    a_bound : ℕ → Term → Bound

  pub data StrParts : Type 0 where
    s_nil : StrParts
    s_cons : StrPart → StrParts → StrParts

  pub data StrPart : Type 0 where
    -- BB
    s_text : Name → StrPart
    -- BC: a Unicode scalar value
    s_char : Number → StrPart
    s_term : Term → StrPart

  -- the entries (BD) of an object: place, key, value
  pub data Entries : Type 0 where
    es_nil : Entries
    es_cons : ℕ → Term → OptTerm → Entries → Entries

-- 85
pub record Native : Type 0 where
  pub place : ℕ
  pub name : Name
  pub params : List Name

-- 82: "an optional list of globals (absent means none)"
pub data Globals : Type 0 where
  no_globals : Globals
  a_globals : ℕ → List Name → Globals

-- 8A: the module's number, and the name that it gets
pub record Import : Type 0 where
  pub place : ℕ
  pub number : Number
  pub name : Name

-- what a module or main uses: imports (86), includes (87) and imported variables (88), each with the place of its field
pub record Uses : Type 0 where
  pub imports_at : ℕ
  pub imports : List Import
  pub includes_at : ℕ
  pub includes : List Number
  pub vars_at : ℕ
  pub vars : List Name

-- 83, its definitions in a field 89
pub record Module : Type 0 where
  pub place : ℕ
  pub uses : Uses
  pub defs_at : ℕ
  pub defs : Defs

-- 84
pub record Main : Type 0 where
  pub place : ℕ
  pub uses : Uses
  pub body : Term

-- 80, its natives in a field 81
pub record Tree : Type 0 where
  pub place : ℕ
  pub natives_at : ℕ
  pub natives : List Native
  pub globals : Globals
  pub modules : List Module
  pub main : Main

-- ---- what the operator byte of a BinOp says

pub data Operator : Type 0 where
  o_comma o_alt o_or o_and o_assign o_update o_update_alt : Operator
  -- `+ - * / %` are 0 to 4
  o_math o_update_math : ℕ → Operator
  -- `< <= > >= == !=` are 0 to 5
  o_cmp : ℕ → Operator
  -- no operator has this byte: not in a well-formed tree
  o_none : Operator

-- TREE.md: "Operator bytes: 01 Comma, 02 Alt, 03 Or, 04 And, 05 Assign, 06 Update, 07 UpdateAlt; 10 to 14 Math; 20 to 25 Cmp; 30 to 34 UpdateMath"
unfoldable pub operator_of : ℕ → Operator
operator_of k =
    cond (eqb k 0x01) o_comma
    (cond (eqb k 0x02) o_alt
    (cond (eqb k 0x03) o_or
    (cond (eqb k 0x04) o_and
    (cond (eqb k 0x05) o_assign
    (cond (eqb k 0x06) o_update
    (cond (eqb k 0x07) o_update_alt
    (cond (ltb k 0x10) o_none
    (cond (ltb k 0x15) (o_math (k - 0x10))
    (cond (ltb k 0x20) o_none
    (cond (ltb k 0x26) (o_cmp (k - 0x20))
    (cond (ltb k 0x30) o_none
    (cond (ltb k 0x35) (o_update_math (k - 0x30)) o_none))))))))))))

-- the operator of a t_bin_op, of the byte that its field has
abbrev pub operator : List ℕ → Operator
operator x = operator_of (get_or x 0 0)

-- ---- places

abbrev pub term_place : Term → ℕ
term_place (t_id p) = p
term_place (t_recurse p) = p
term_place (t_arr p o) = p
term_place (t_neg p t) = p
term_place (t_label p x t) = p
term_place (t_break p x) = p
term_place (t_if_then_else p q c t bs) = p
term_place (t_var p x) = p
term_place (t_call p f ts) = p
term_place (t_def p ds t) = p
term_place (t_num p x) = p
term_place (t_try_catch p t o) = p
term_place (t_fold p f t x ts) = p
term_place (t_pipe p t q x u) = p
term_place (t_bin_op p t q x u) = p
term_place (t_path p t ps) = p
term_place (t_str p f ps) = p
term_place (t_obj p es) = p

abbrev pub pattern_place : Pattern → ℕ
pattern_place (p_var p x) = p
pattern_place (p_arr p xs) = p
pattern_place (p_obj p xs) = p
