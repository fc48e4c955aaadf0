-- How long own records are, before the numbers in them are known. Assumes nothing.
use Rattle.std.specs.Prelude.{ℕ, ◌+◌, ◌*◌, ◌^◌, ◌≡◌, Bool, cond, ◌&&◌, List, eqb, leb, ltb, length}
use Rattle.fields.specs.Number.{value}
use Rattle.text.specs.Utf8.{utf8}
use Rattle.tree.specs.Rose.{end_of}
use Rattle.tree.specs.Tree.{Term, Pattern, p_var, p_arr, p_obj, OptPattern, no_pattern, a_pattern, Patterns, ps_nil, ps_cons, PatEntries, pes_nil, pes_cons, Parts, parts_nil, parts_cons, Part, part_index, part_range, Bound, without_bound, a_bound}
use Rattle.tree.specs.Tree.{StrParts, s_nil, s_cons, StrPart, s_text, s_char, s_term, Entries, es_nil, es_cons}
use Rattle.rules.specs.Names.{Text, ascii, same}
use Rattle.rules.specs.Rows.{Env}
use Rattle.rules.specs.Filters.{Top}
use Rattle.rules.specs.Outs.{are_digits, decimal}
use Rattle.rules.specs.Listing.{rec_bytes}
use Rattle.rules.specs.Rules.{term}
use Rattle.reads.specs.Bytes.{is_tag}

-- the own record of a term is r bytes long, whatever is in view and whatever numbers it gets
abbrev pub OwnWidth : Term → ℕ → Type 0
OwnWidth t r = (c : Top) (e : Env) (n al : ℕ) → r ≡ length (rec_bytes 2 (term c t e n al).self)

-- a pattern within a record
unfoldable mutual
  pub pat_width : Pattern → ℕ
  pat_width (p_var p x) = 1
  pat_width (p_arr p xs) = 3 + pats_width xs
  pat_width (p_obj p xs) = 3 + keyed_width xs

  pub pats_width : Patterns → ℕ
  pats_width ps_nil = 0
  pats_width (ps_cons x xs) = 2 + pat_width x + pats_width xs

  pub keyed_width : PatEntries → ℕ
  keyed_width pes_nil = 0
  keyed_width (pes_cons q t x xs) = 2 + pat_width x + keyed_width xs

abbrev pub opt_pat_width : OptPattern → ℕ
opt_pat_width no_pattern = 1
opt_pat_width (a_pattern x) = pat_width x

abbrev pub bound_width : Bound → ℕ
bound_width without_bound = 1
bound_width (a_bound q t) = 3

abbrev pub part_width : Part → ℕ
part_width (part_index q t m) = 4
part_width (part_range q a z m) = 2 + bound_width a + bound_width z

unfoldable pub parts_width : Parts → ℕ
parts_width parts_nil = 0
parts_width (parts_cons x xs) = part_width x + parts_width xs

-- what a fold is: 0 reduce, 1 foreach, 2 foreach with a projection, 3 none of these
unfoldable pub fold_kind : Text → ℕ → ℕ
fold_kind f a =
    cond (eqb a 2) (cond (same f (ascii "reduce")) 0 (cond (same f (ascii "foreach")) 1 3))
    (cond (eqb a 3) (cond (same f (ascii "foreach")) 2 3) 3)

unfoldable pub fold_width : ℕ → ℕ → ℕ
fold_width kind w = cond (eqb kind 3) 3 (cond (eqb kind 2) (12 + w) (10 + w))

-- a call's record by what the name means: 0 and 1 nothing, 2 an argument, 3 to 5 a definition, 6 a native
unfoldable pub call_width : ℕ → ℕ → ℕ
call_width kind a = cond (ltb kind 2) 3 (cond (eqb kind 2) 5 (cond (eqb kind 6) (7 + 3 * a) (10 + 3 * a)))

-- the integer that a text is, or 2^63
unfoldable pub int_of : Text → ℕ
int_of x = cond (leb 1 (length x) && are_digits x && ltb (decimal 0 x) (2 ^ 63)) (decimal 0 x) (2 ^ 63)

-- "Num: one or more decimal digits alone, at most 2^63-1, give Int; all else Num with its text."
unfoldable pub num_width : Text → ℕ
num_width x = cond (ltb (int_of x) (2 ^ 63)) 11 (3 + length x)

-- logic and operators with a number of their own have a byte between their sides; x is the operator's byte
unfoldable pub op_width : ℕ → ℕ
op_width x = cond (eqb x 3) 8 (cond (eqb x 4) 8 (cond (ltb x 16) 7 8))

-- ---- strings and objects: none, one, or a sum

abbrev pub str_width : StrPart → ℕ
str_width (s_text x) = 3 + length x.text
str_width (s_char x) = 3 + length (utf8 (value x.bytes))
str_width (s_term t) = 8

abbrev pub strings_width : StrParts → ℕ
strings_width s_nil = 3
strings_width (s_cons x s_nil) = str_width x
strings_width (s_cons x (s_cons y xs)) = 8

abbrev pub entries_width : Entries → ℕ
entries_width es_nil = 3
entries_width (es_cons q t v es_nil) = 7
entries_width (es_cons q t v (es_cons q' t' v' es)) = 8

-- one text is all that stands from q up to z
abbrev pub is_plain : List ℕ → ℕ → ℕ → Bool
is_plain b q z = is_tag b q z 0xBB && eqb (end_of b q) z
