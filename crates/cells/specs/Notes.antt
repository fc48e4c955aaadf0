-- What notes keep, read back as the parts of records that they are for. Assumes nothing.
use Rattle.std.specs.Prelude.{ℕ, zero, suc, ◌+◌, List, [], ◌∷◌, ◌++◌, length}
use Rattle.std.proofs.Math.Option.{Option, none, some}
use Rattle.fields.specs.Number.{value}
use Rattle.text.specs.Utf8.{utf8}
use Rattle.tree.specs.Tree.{Branches, b_none, b_else, b_pair, Pattern, p_var, p_arr, p_obj, Patterns, ps_nil, ps_cons, PatEntries, pes_nil, pes_cons, Parts, parts_nil, parts_cons, Part, part_index, part_range, Bound, without_bound, a_bound, StrParts, s_nil, s_cons, StrPart, s_text, s_char, s_term, Entries, es_nil, es_cons}
use Rattle.rules.specs.Table.{Rec, Node, n_str, n_pipe, n_obj_single, n_math, n_ite, Err, Pat, pat_var, pat_idx, Pats, pats_nil, pats_cons, Step, index, range}
use Rattle.rules.specs.Tails.{Tail, empty, union}
use Rattle.rules.specs.Rows.{Env}
use Rattle.rules.specs.Filters.{Top}
use Rattle.rules.specs.Outs.{Out, slot, size, is_optional, sum_out, var_name}
use Rattle.rules.specs.Rules.{term, string, entry}
use Rattle.cells.specs.Cells.{number_at, last_at}

-- the first numbers of the n notes from row k on, and their second
unfoldable pub numbers_of : List ℕ → ℕ → ℕ → List ℕ
numbers_of s k zero = []
numbers_of s k (suc n) = number_at s k ∷ numbers_of s (suc k) n

unfoldable pub lasts_of : List ℕ → ℕ → ℕ → List ℕ
lasts_of s k zero = []
lasts_of s k (suc n) = last_at s k ∷ lasts_of s (suc k) n

-- ---- conditionals: "Conditions and branches first, then what else holds, then else numbers from the last pair back."

pub record Pair : Type 0 where
  pub test : ℕ
  pub then : ℕ

-- what the pairs contain, and their numbers; what they return
pub record Pairs : Type 0 where
  pub made : List Pair
  pub more : List Rec
  pub errs : List Err
  pub tail : Tail

unfoldable pub pairs_of : Top → Branches → Env → ℕ → Tail → Pairs
pairs_of c b_none e n r = record { made = []; more = []; errs = []; tail = empty }
pairs_of c (b_else t) e n r = record { made = []; more = []; errs = []; tail = empty }
pairs_of c (b_pair q t u bs) e n r =
    let a = term c t e (suc n) empty in
    let b = term c u e (suc (n + size a)) r in
    let o = pairs_of c bs e (n + size a + size b) r in
    record {
      made = record { test = n; then = n + size a } ∷ o.made;
      more = slot a ++ (slot b ++ o.more);
      errs = a.errs ++ (b.errs ++ o.errs);
      tail = union b.tail o.tail;
    }

unfoldable pub pair_count : Branches → ℕ
pair_count b_none = 0
pair_count (b_else t) = 0
pair_count (b_pair q t u bs) = suc (pair_count bs)

-- what follows the pairs
unfoldable pub else_of : Branches → Branches
else_of b_none = b_none
else_of (b_else t) = b_else t
else_of (b_pair q t u bs) = else_of bs

-- the pairs' records but for the first one's, the last first, n being the number of the last else; and the number of the first pair's else
unfoldable pub elses_of : ℕ → List Pair → ℕ → List Rec
elses_of p [] n = []
elses_of p (x ∷ []) n = []
elses_of p (x ∷ y ∷ ys) n =
    let rs = elses_of p (y ∷ ys) n in rs ++ (record { place = p; node = n_ite y.test y.then (n + length rs) } ∷ [])

unfoldable pub pairs_at : List ℕ → ℕ → ℕ → List Pair
pairs_at s k zero = []
pairs_at s k (suc n) = record { test = number_at s k; then = last_at s k } ∷ pairs_at s (suc k) n

-- ---- patterns: a note for each, in the order in which they are met

unfoldable mutual
  pub notes_in : Pattern → ℕ
  notes_in (p_var p x) = 1
  notes_in (p_arr p xs) = suc (notes_all xs)
  notes_in (p_obj p xs) = suc (notes_keyed xs)

  pub notes_all : Patterns → ℕ
  notes_all ps_nil = 0
  notes_all (ps_cons x xs) = notes_in x + notes_all xs

  pub notes_keyed : PatEntries → ℕ
  notes_keyed pes_nil = 0
  notes_keyed (pes_cons q t x xs) = notes_in x + notes_keyed xs

-- the pattern of a record, with the keys' numbers from the notes
unfoldable mutual
  pub pat_at : List ℕ → Pattern → ℕ → Pat
  pat_at s (p_var p x) k = pat_var
  pat_at s (p_arr p xs) k = pat_idx (pats_at s xs (suc k))
  pat_at s (p_obj p xs) k = pat_idx (keyed_at s xs (suc k))

  pub pats_at : List ℕ → Patterns → ℕ → Pats
  pats_at s ps_nil k = pats_nil
  pats_at s (ps_cons x xs) k = pats_cons (number_at s k) (pat_at s x k) (pats_at s xs (k + notes_in x))

  pub keyed_at : List ℕ → PatEntries → ℕ → Pats
  keyed_at s pes_nil k = pats_nil
  keyed_at s (pes_cons q t x xs) k = pats_cons (number_at s k) (pat_at s x k) (keyed_at s xs (k + notes_in x))

-- the second numbers: a variable's place, else 0
unfoldable mutual
  pub places_in : Pattern → List ℕ
  places_in (p_var p x) = p ∷ []
  places_in (p_arr p xs) = 0 ∷ places_all xs
  places_in (p_obj p xs) = 0 ∷ places_keyed xs

  pub places_all : Patterns → List ℕ
  places_all ps_nil = []
  places_all (ps_cons x xs) = places_in x ++ places_all xs

  pub places_keyed : PatEntries → List ℕ
  places_keyed pes_nil = []
  places_keyed (pes_cons q t x xs) = places_in x ++ places_keyed xs

-- ---- paths: a note for each part

abbrev pub bound_at : Bound → ℕ → Option ℕ
bound_at without_bound n = none
bound_at (a_bound q t) n = some n

unfoldable pub step_at : Part → ℕ → ℕ → Step
step_at (part_index q t m) a b = index a (is_optional m)
step_at (part_range q l u m) a b = range (bound_at l a) (bound_at u b) (is_optional m)

unfoldable pub steps_at : List ℕ → Parts → ℕ → List Step
steps_at s parts_nil k = []
steps_at s (parts_cons x xs) k = step_at x (number_at s k) (last_at s k) ∷ steps_at s xs (suc k)

-- ---- sums: summands, each with what it contains, and what is made of them

unfoldable pub sum_all : ℕ → ℕ → List Out → Option Out
sum_all p n [] = none
sum_all p n (a ∷ as') = some (sum_out p n a (sum_all p (n + length a.more) as'))

-- what all of them contain
unfoldable pub held : List Out → List Rec
held [] = []
held (a ∷ as') = a.more ++ held as'

unfoldable pub held_errs : List Out → List Err
held_errs [] = []
held_errs (a ∷ as') = a.errs ++ held_errs as'

-- the parts of a string, the entries of an object, as the summands that they are
unfoldable pub strings_of : Top → StrParts → ℕ → ℕ → Env → ℕ → List Out
strings_of c s_nil p f e n = []
strings_of c (s_cons x xs) p f e n = let a = string c x p f e n in a ∷ strings_of c xs p f e (n + length a.more)

unfoldable pub entries_of : Top → Entries → ℕ → Env → ℕ → List Out
entries_of c es_nil p e n = []
entries_of c (es_cons q t v es) p e n =
    let a = entry c v p e n (var_name t) (term c t e (suc n) empty) (term c t e (suc (suc n)) empty) in a ∷ entries_of c es p e (n + length a.more)

-- the own record of a summand, from its note: of a part of a string, the format having the number f; of an entry
unfoldable pub string_node : StrPart → ℕ → ℕ → Node
string_node (s_text x) f a = n_str x.text
string_node (s_char x) f a = n_str (utf8 (value x.bytes))
string_node (s_term t) f a = n_pipe a none f

unfoldable pub string_nodes : List ℕ → StrParts → ℕ → ℕ → List Node
string_nodes s s_nil f k = []
string_nodes s (s_cons x xs) f k = string_node x f (number_at s k) ∷ string_nodes s xs f (suc k)

unfoldable pub entry_nodes : List ℕ → Entries → ℕ → List Node
entry_nodes s es_nil k = []
entry_nodes s (es_cons q t v es) k = n_obj_single (number_at s k) (last_at s k) ∷ entry_nodes s es (suc k)

-- the sum of the summands: the records put for it from the number n on, and its own node
pub record Summed : Type 0 where
  pub more : List Rec
  pub self : Node

unfoldable pub summed : ℕ → Node → ℕ → List Node → Summed
summed p t n [] = record { more = []; self = t }
summed p t n (x ∷ []) = record { more = []; self = x }
summed p t n (x ∷ y ∷ ys) =
    let o = summed p t n (y ∷ ys) in
    let k = n + length o.more in
    record {
      more = o.more ++ (record { place = p; node = x } ∷ record { place = p; node = o.self } ∷ []);
      self = n_math k 0 (suc k);
    }
