-- The contracts of the compiling functions: what they ask for, SOME tree and SOME view for which the rows are right, and what they promise, of EVERY one.
-- Assumes nothing.
use Rattle.std.specs.Prelude.{ℕ, suc, ◌+◌, ◌-◌, ◌*◌, ◌^◌, ◌≤◌, ◌<◌, ◌≡◌, ◌⊎◌, List, ◌∷◌, map, length, take}
use Rattle.tree.specs.Rose.{Roses, rnil, rcons, end_of, Row}
use Rattle.tree.specs.Tree.{Term, Terms, OptTerm, Branches, Defs, Def, Pattern, Patterns, PatEntries, Parts, Part, Bound, StrParts, Entries}
use Rattle.tree.specs.Form.{f_term, f_terms, f_opt_term, f_branches, f_defs, f_patterns, f_pat_entries, f_parts, f_part, f_bound, f_str_parts, f_entries}
use Rattle.rules.specs.Outs.{Out, slot, arity}
use Rattle.rules.specs.Listing.{rec_bytes, table_bytes}
use Rattle.rules.specs.Rules.{term, args, defs, body, defined, or_empty, pattern, elements, keyed, parts, part, bound, branches}
use Rattle.compiler.specs.declared.Run.{Run}
use Rattle.puts.specs.declared.state.State.{State}
use Rattle.puts.specs.State.{num, off, ers, late, Put, Own}
use Rattle.reads.specs.Bytes.{past, TermAt, PatternAt, DefAt}
use Rattle.reads.specs.Widths.{pat_width, pats_width, keyed_width, part_width, parts_width}
use Rattle.reads.specs.Parts.{NoHead}
use Rattle.records.specs.Sums.{sizes, StringNotes, EntryNotes}
use Rattle.cells.specs.Cells.{View, Seen, env_of, number_at, last_at, kind_at, Opened}
use Rattle.cells.specs.Notes.{numbers_of, lasts_of, pairs_of, else_of, pairs_at, pair_count, pat_at, pats_at, keyed_at, notes_in, notes_all, notes_keyed, places_in, places_all, places_keyed, step_at, steps_at, bound_at, strings_of, entries_of, held, held_errs, string_nodes, entry_nodes}

-- ---- asked for

-- Ready to compile what stands from p up to z. What is still to come is paid for: a byte pays for two numbers (an empty array in a string, three bytes, has
-- four: its own, that of what it calls, and two of the sum) and for 64 bytes of errors. It is by what is to come, not by the place: the keys of a pattern are
-- compiled behind the right of its Pipe. The own record of a call or a Pipe is reserved before its arguments or its pattern are passed, and no own record is
-- longer than 2^20 bytes. Each row that is still to come is paid for by three bytes from p on. A term whose own number is taken is ready at the place behind
-- its first byte.
pub record Ready (b s : List ℕ) (k p z : ℕ) (st : State) : Type 0 where
  pub small : length b ≤ 32768
  pub view : View
  pub seen : Seen view b s k
  pub order : p ≤ z
  pub within : z ≤ length b
  pub spare : 12 * k + 4 * (length b - p) ≤ 3 * length s
  pub nums : num st + 2 * (z - p) ≤ 65536
  pub offs : off st + 1048576 * (z - p) ≤ 2 ^ 36
  pub errs : ers st + 64 * (z - p) ≤ 2 ^ 33

-- some term stands at p
abbrev pub Stands : List ℕ → ℕ → Type 0
Stands b p = (t : Term) × TermAt b t p

-- ---- promised

-- from p up to z: the rows below k are as they were, and what was used was paid for. A term leaves the first byte of its field for what it is a member of, its
-- own number being paid for; two, where its own number is not counted
pub record Paid (p z k : ℕ) (s s' : List ℕ) (st st' : State) : Type 0 where
  pub kept : take (4 * k) s' ≡ take (4 * k) s
  pub same : length s' ≡ length s
  pub nums : num st' + 2 * p ≤ num st + 2 * z
  pub offs : off st' + 64 * p ≤ off st + 64 * z
  pub errs : ers st' + 64 * p ≤ ers st + 64 * z

-- iterm: the term at p with its number
pub record Laid (b : List ℕ) (p : ℕ) (s s' : List ℕ) (k : ℕ) (st st' : State) (d d' : List ℕ) (al r : ℕ) : Type 0 where
  pub is : (vw : View) → Seen vw b s k → (t : Term) → TermAt b t p
      → let q = term vw.top t (env_of vw b s k) (suc (num st)) al in Put (slot q) q.errs st st' d d' × (r ≡ q.tail)
  pub paid : Paid (p + 1) (end_of b p) k s s' st st'

-- term, and each form: its own record at o. `wide`: its own record is paid for wherever it stands, so that a Def, whose own record is that of the term behind
-- the definitions, can reserve it before them
pub record Did (b : List ℕ) (p : ℕ) (s s' : List ℕ) (k o : ℕ) (st st' : State) (d d' : List ℕ) (al r : ℕ) : Type 0 where
  pub is : (vw : View) → Seen vw b s k → (t : Term) → TermAt b t p
      → let q = term vw.top t (env_of vw b s k) (num st) al in Own q o st st' d d' × (r ≡ q.tail)
  pub wide : (vw : View) → Seen vw b s k → (t : Term) → TermAt b t p
      → let q = term vw.top t (env_of vw b s k) (num st) al in length (rec_bytes 2 q.self) + length (table_bytes 2 q.more) + 64 * (p + 2) ≤ 64 * end_of b p
  pub paid : Paid (p + 2) (end_of b p) k s s' st st'

-- where an own record may be asked for: before the next offset, at it, or behind the members
abbrev pub Placed : ℕ → State → Type 0
Placed o st = (o ≤ off st) ⊎ (o ≡ late)

-- a variable (class 0, error 29) or a break (class 1, error 2A), by the tag of its field
abbrev pub NameIs : ℕ → ℕ → ℕ → Type 0
NameIs class err tag = ((class ≡ 0) × (err ≡ 0x29) × (tag ≡ 0xA7)) ⊎ ((class ≡ 1) × (err ≡ 0x2A) × (tag ≡ 0xA5))

-- ---- rows of siblings: what all of them put, and what their notes keep. The rows below k are as they were. Each leaves a byte for what it adds to the own
-- record; where that may be more, `wide` says so. `rows`: three bytes pay for each note

-- arguments
pub record Passed (b : List ℕ) (q a : ℕ) (s s' : List ℕ) (k : ℕ) (st st' : State) (d d' : List ℕ) : Type 0 where
  pub is : (vw : View) → Seen vw b s k → (ts : Terms) (z : ℕ) → Row b (f_terms ts rnil) q z → arity ts ≡ a
      → let m = args vw.top ts (env_of vw b s k) (num st) in Put m.more m.errs st st' d d' × (numbers_of s' k a ≡ m.made)
  pub paid : (ts : Terms) (z : ℕ) → Row b (f_terms ts rnil) q z → arity ts ≡ a → Paid (q + a) z k s s' st st'

-- the pairs of a conditional
pub record Paired (b : List ℕ) (q z : ℕ) (s s' : List ℕ) (k : ℕ) (st st' : State) (d d' : List ℕ) (al : ℕ) (r : Run) : Type 0 where
  pub is : (vw : View) → Seen vw b s k → (bs : Branches) → Row b (f_branches bs) q z
      → let m = pairs_of vw.top bs (env_of vw b s k) (num st) al in
      Put m.more m.errs st st' d d' × (pairs_at s' k (r.k - k) ≡ m.made) × (r.tail ≡ m.tail)
  pub at : (bs : Branches) → Row b (f_branches bs) q z → Row b (f_branches (else_of bs)) r.q z × (r.k ≡ k + pair_count bs)
  pub seen : (vw : View) → Seen vw b s k → Seen vw b s' r.k × (env_of vw b s' r.k ≡ env_of vw b s k)
  pub rows : 3 * r.k + q ≤ 3 * k + r.q
  pub paid : Paid (q + (r.k - k)) r.q k s s' st st'

-- the term from q up to z, or a call of `!empty`, which has no bytes that pay for it: a number, a record and an error more
pub record OrEmpty (b : List ℕ) (q z : ℕ) (s s' : List ℕ) (k : ℕ) (st st' : State) (d d' : List ℕ) : Type 0 where
  pub is : (vw : View) → Seen vw b s k → (o : OptTerm) (p : ℕ) → Row b (f_opt_term o rnil) q z
      → let m = or_empty vw.top o p (env_of vw b s k) (suc (num st)) in Put (slot m) m.errs st st' d d'
  pub kept : take (4 * k) s' ≡ take (4 * k) s
  pub same : length s' ≡ length s
  pub nums : num st' + 2 * q ≤ num st + 2 * z + 1
  pub offs : off st' + 64 * q ≤ off st + 64 * z + 10
  pub errs : ers st' + 64 * q ≤ ers st + 64 * z + 11

-- what follows the pairs, from q up to z, with its own record behind what it contains; Id, where there is none, has no bytes that pay for it
pub record Else (b : List ℕ) (q z : ℕ) (s s' : List ℕ) (k : ℕ) (st st' : State) (d d' : List ℕ) (al r : ℕ) : Type 0 where
  pub is : (vw : View) → Seen vw b s k → (bs : Branches) (p : ℕ) → Row b (f_branches bs) q z → pair_count bs ≡ 0
      → let m = branches vw.top bs p (env_of vw b s k) (num st) al in Own m late st st' d d' × (r ≡ m.tail)
  pub kept : take (4 * k) s' ≡ take (4 * k) s
  pub same : length s' ≡ length s
  pub nums : num st' + 2 * q ≤ num st + 2 * z
  pub offs : off st' + 64 * q ≤ off st + 64 * z + 3
  pub errs : ers st' + 64 * q ≤ ers st + 64 * z

-- a note of a pattern: what it keeps is the place of a variable, or none
abbrev pub NoteFits : List ℕ → List ℕ → ℕ → Type 0
NoteFits b s j = (kind_at s j ≡ 6) × ((last_at s j ≡ 0 → ⊥) → end_of b (last_at s j) ≤ length b)

-- a pattern whose key has the number n: as many notes as it has patterns
pub record Patterned (b : List ℕ) (q : ℕ) (s s' : List ℕ) (k n : ℕ) (st st' : State) (d d' : List ℕ) (r : ℕ) : Type 0 where
  pub is : (vw : View) → Seen vw b s k → (x : Pattern) (p : ℕ) → PatternAt b x q
      → let m = pattern vw.top x p (env_of vw b s k) (num st) in
      Put m.more m.errs st st' d d' × (pat_at s' x k ≡ m.made) × (lasts_of s' k (notes_in x) ≡ places_in x) × (number_at s' k ≡ n) × (r ≡ k + notes_in x)
  pub seen : (vw : View) → Seen vw b s k → Seen vw b s' r × (env_of vw b s' r ≡ env_of vw b s k)
  pub notes : (j : ℕ) → k ≤ j → j < r → NoteFits b s' j
  pub rows : 3 * r + q ≤ 3 * k + end_of b q
  pub wide : (x : Pattern) → PatternAt b x q → off st' + pat_width x + 64 * (q + 1) ≤ off st + 64 * end_of b q
  pub paid : Paid (q + 1) (end_of b q) k s s' st st'

-- the members of a pattern of the field at q: notes from row k on
pub record Members (b : List ℕ) (q : ℕ) (s s' : List ℕ) (k : ℕ) (st st' : State) (d d' : List ℕ) (r : ℕ) : Type 0 where
  pub arrays : (vw : View) → Seen vw b s k → (xs : Patterns) (p : ℕ) → Row b (f_patterns xs rnil) (q + 3) (end_of b q)
      → let m = elements vw.top xs 0 p (env_of vw b s k) (num st) in
      Put m.more m.errs st st' d d' × (pats_at s' xs k ≡ m.made) × (lasts_of s' k (notes_all xs) ≡ places_all xs) × (r ≡ k + notes_all xs)
  pub seen : (vw : View) → Seen vw b s k → Seen vw b s' r × (env_of vw b s' r ≡ env_of vw b s k)
  pub notes : (j : ℕ) → k ≤ j → j < r → NoteFits b s' j
  pub rows : 3 * r + (q + 3) ≤ 3 * k + end_of b q
  pub wide : (xs : Patterns) → Row b (f_patterns xs rnil) (q + 3) (end_of b q) → off st' + pats_width xs + 64 * (q + 3) ≤ off st + 64 * end_of b q
  pub paid : Paid (q + 3) (end_of b q) k s s' st st'

pub record Keyed (b : List ℕ) (q : ℕ) (s s' : List ℕ) (k : ℕ) (st st' : State) (d d' : List ℕ) (r : ℕ) : Type 0 where
  pub objects : (vw : View) → Seen vw b s k → (xs : PatEntries) (p : ℕ) → Row b (f_pat_entries xs rnil) (q + 3) (end_of b q)
      → let m = keyed vw.top xs p (env_of vw b s k) (num st) in
      Put m.more m.errs st st' d d' × (keyed_at s' xs k ≡ m.made) × (lasts_of s' k (notes_keyed xs) ≡ places_keyed xs) × (r ≡ k + notes_keyed xs)
  pub seen : (vw : View) → Seen vw b s k → Seen vw b s' r × (env_of vw b s' r ≡ env_of vw b s k)
  pub notes : (j : ℕ) → k ≤ j → j < r → NoteFits b s' j
  pub rows : 3 * r + (q + 3) ≤ 3 * k + end_of b q
  pub wide : (xs : PatEntries) → Row b (f_pat_entries xs rnil) (q + 3) (end_of b q) → off st' + keyed_width xs + 64 * (q + 3) ≤ off st + 64 * end_of b q
  pub paid : Paid (q + 3) (end_of b q) k s s' st st'

-- the parts of a path, and one of them
pub record Parted (b : List ℕ) (q z : ℕ) (s s' : List ℕ) (k : ℕ) (st st' : State) (d d' : List ℕ) (r : ℕ) : Type 0 where
  pub is : (vw : View) → Seen vw b s k → (xs : Parts) → Row b (f_parts xs rnil) q z
      → let m = parts vw.top xs (env_of vw b s k) (num st) in Put m.more m.errs st st' d d' × (steps_at s' xs k ≡ m.made) × (r ≡ k + length m.made)
  pub rows : 3 * r + q ≤ 3 * k + z
  pub wide : (xs : Parts) → Row b (f_parts xs rnil) q z → off st' + parts_width xs + 64 * q ≤ off st + 64 * z
  pub paid : Paid q z k s s' st st'

pub record PartIs (b : List ℕ) (q : ℕ) (s s' : List ℕ) (k : ℕ) (st st' : State) (d d' : List ℕ) : Type 0 where
  pub is : (vw : View) → Seen vw b s k → (x : Part) → Row b (rcons (f_part x) rnil) q (end_of b q)
      → let m = part vw.top x (env_of vw b s k) (num st) in Put m.more m.errs st st' d d' × (step_at x (number_at s' k) (last_at s' k) ≡ m.made)
  pub seen : (vw : View) → Seen vw b s k → Seen vw b s' (k + 1) × (env_of vw b s' (k + 1) ≡ env_of vw b s k)
  pub wide : (x : Part) → Row b (rcons (f_part x) rnil) q (end_of b q) → off st' + part_width x + 64 * q ≤ off st + 64 * end_of b q
  pub paid : Paid q (end_of b q) k s s' st st'

-- from (C1) or upto (C2), where the marks and bounds that follow it are rs, of another tag
pub record BoundIs (b : List ℕ) (q z tag : ℕ) (s s' : List ℕ) (k : ℕ) (st st' : State) (d d' : List ℕ) : Type 0 where
  pub is : (vw : View) → Seen vw b s k → (x : Bound) (rs : Roses) → NoHead tag rs → Row b (f_bound tag x rs) q z
      → let m = bound vw.top x (env_of vw b s k) (num st) in Put m.more m.errs st st' d d' × (bound_at x (num st) ≡ m.made)
  pub paid : Paid q (past b q z tag) k s s' st st'

-- the parts of a string, the entries of an object: what they contain, and what their own records are made of
pub record Strung (b : List ℕ) (q z : ℕ) (s s' : List ℕ) (k : ℕ) (st st' : State) (d d' : List ℕ) (r : ℕ) : Type 0 where
  pub is : (vw : View) → Seen vw b s k → (xs : StrParts) (p f : ℕ) → Row b (f_str_parts xs rnil) q z
      → let os = strings_of vw.top xs p f (env_of vw b s k) (num st) in
      Put (held os) (held_errs os) st st' d d' × (string_nodes s' xs f k ≡ map (λ (o : Out). o.self.node) os) × (r ≡ k + length os)
  pub notes : (xs : StrParts) → Row b (f_str_parts xs rnil) q z → StringNotes b s' xs k
  pub rows : 3 * r + q ≤ 3 * k + z
  pub wide : (xs : StrParts) (f : ℕ) → Row b (f_str_parts xs rnil) q z → off st' + sizes (string_nodes s' xs f k) + 64 * q ≤ off st + 64 * z
  pub paid : Paid (q + (r - k)) z k s s' st st'

pub record Entered (b : List ℕ) (q z : ℕ) (s s' : List ℕ) (k : ℕ) (st st' : State) (d d' : List ℕ) (r : ℕ) : Type 0 where
  pub is : (vw : View) → Seen vw b s k → (es : Entries) (p : ℕ) → Row b (f_entries es rnil) q z
      → let os = entries_of vw.top es p (env_of vw b s k) (num st) in
      Put (held os) (held_errs os) st st' d d' × (entry_nodes s' es k ≡ map (λ (o : Out). o.self.node) os) × (r ≡ k + length os)
  pub notes : (es : Entries) → Row b (f_entries es rnil) q z → EntryNotes s' es k
  pub rows : 3 * r + q ≤ 3 * k + z
  pub paid : Paid (q + (r - k)) z k s s' st st'

-- definitions from q on: rows from k on
pub record Defined (b : List ℕ) (q : ℕ) (s s' : List ℕ) (k : ℕ) (st st' : State) (d d' : List ℕ) (al : ℕ) : Type 0 where
  pub is : (vw : View) → Seen vw b s k → (x : Def) → DefAt b x q
      → let e = env_of vw b s k in let o = body vw.top x e (num st) al in
      Put (slot o) o.errs st st' d d' × (env_of vw b s' (k + 1) ≡ defined vw.top x e (num st) o.tail ∷ e) × Seen vw b s' (k + 1)
  pub back : Opened s s' k (k + 1)
  pub same : length s' ≡ length s
  pub nums : num st' + 2 * q ≤ num st + 2 * end_of b q
  pub offs : off st' + 64 * q ≤ off st + 64 * end_of b q
  pub errs : ers st' + 64 * q ≤ ers st + 64 * end_of b q

-- definitions from q on, and where the term behind them stands
pub record Scoped (b : List ℕ) (q : ℕ) (s s' : List ℕ) (k : ℕ) (st st' : State) (d d' : List ℕ) (al : ℕ) (r : Run) : Type 0 where
  pub is : (vw : View) → Seen vw b s k → (ds : Defs) (t : Term) (z : ℕ) → Row b (f_defs ds (rcons (f_term t) rnil)) q z
      → let o = defs vw.top ds (env_of vw b s k) (num st) al in
      Put o.more o.errs st st' d d' × (env_of vw b s' r.k ≡ o.env) × Seen vw b s' r.k
  pub at : (ds : Defs) (t : Term) (z : ℕ) → Row b (f_defs ds (rcons (f_term t) rnil)) q z → TermAt b t r.q × (end_of b r.q ≡ z)
  pub back : Opened s s' k r.k
  pub rows : 3 * r.k + q ≤ 3 * k + r.q
  pub nums : num st' + 2 * q ≤ num st + 2 * r.q
  pub offs : off st' + 64 * q ≤ off st + 64 * r.q
  pub errs : ers st' + 64 * q ≤ ers st + 64 * r.q
