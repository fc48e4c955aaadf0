-- The contracts of the functions that compile a piece of a form: the right of a Pipe, the end of a fold, a part of a string, an entry of an object. Asked for
-- is SOME tree and SOME view, promised of EVERY one, as in Post. Assumes nothing.
use Rattle.std.specs.Prelude.{ℕ, suc, ◌+◌, ◌-◌, ◌*◌, ◌≤◌, ◌<◌, ◌≡◌, cond, List, [], ◌∷◌, ◌++◌, eqb, length}
use Rattle.tree.specs.Rose.{rnil, rcons, end_of, text_of, Row}
use Rattle.tree.specs.Tree.{Name, Term, Terms, ts_nil, ts_cons, OptTerm, Pattern, StrParts, StrPart, Format}
use Rattle.tree.specs.Form.{f_terms, f_format, f_str_parts, f_str_part}
use Rattle.rules.specs.Table.{Rec, n_str, n_to_string, n_obj_single, Err}
use Rattle.rules.specs.Tails.{Tail, empty}
use Rattle.rules.specs.Rows.{Env, push_vars}
use Rattle.rules.specs.Filters.{Top}
use Rattle.rules.specs.Outs.{Out, slot, size, leaf, vars, var_name, arity, lone_out}
use Rattle.rules.specs.Outs as outs
use Rattle.rules.specs.Listing.{node_bytes}
use Rattle.rules.specs.Rules.{term, fold_error, string, entry, format_out}
use Rattle.compiler.specs.declared.Updated.{Updated}
use Rattle.puts.specs.declared.state.State.{State}
use Rattle.puts.specs.State.{num, off, ers, Put}
use Rattle.reads.specs.Bytes.{past, name_at, TermAt, PatternAt}
use Rattle.reads.specs.Widths.{fold_kind}
use Rattle.reads.specs.Shapes.{EntryAt}
use Rattle.cells.specs.Cells.{View, Seen, env_of, number_at, last_at, kind_at}
use Rattle.cells.specs.Notes.{lasts_of, pat_at, places_in, string_node}
use Rattle.compiler.specs.Post.{Paid, NoteFits}

-- ---- the right of a Pipe, whose operator field is at q, under the variables of its pattern
pub record Under (b : List ℕ) (q : ℕ) (s s' : List ℕ) (k : ℕ) (st st' : State) (d d' : List ℕ) (al r : ℕ) : Type 0 where
  pub is : (vw : View) → Seen vw b s k → (x : Pattern) → PatternAt b x (q + 3) → (u : Term) → TermAt b u (end_of b q)
      → let a = term vw.top u (push_vars (vars x) (env_of vw b s k)) (suc (num st)) al in Put (slot a) a.errs st st' d d' × (r ≡ a.tail)
  pub paid : Paid (end_of b q + 1) (end_of b (end_of b q)) k s s' st st'

-- ---- folds

-- what stands behind update: what it adds
pub record Ends : Type 0 where
  pub more : List Rec
  pub errs : List Err
  pub tail : Tail

abbrev pub ends_bare : List Err → Ends
ends_bare es = record { more = []; errs = es; tail = empty }

abbrev pub ends_in : Out → Ends
ends_in o = record { more = slot o; errs = o.errs; tail = o.tail }

-- the projection, where the fold has one
abbrev pub ends_first : Top → Terms → Env → ℕ → Tail → Ends
ends_first c ts_nil e n r = ends_bare []
ends_first c (ts_cons t ts) e n r = ends_in (term c t e (suc n) r)

-- of a fold of the name f with a arguments, ts being those behind update
unfoldable pub ends_of : Top → Name → ℕ → Terms → Env → ℕ → Tail → Ends
ends_of c f a ts e n r =
    cond (eqb (fold_kind f.text a) 2) (ends_first c ts e n r) (cond (eqb (fold_kind f.text a) 3) (ends_bare (fold_error c f a ∷ [])) (ends_bare []))

-- what is known of the fold at p before its update at u is compiled: x is where its source stands, a how many arguments it has
pub record Folding (b : List ℕ) (p x u a kind : ℕ) : Type 0 where
  pub source : x ≡ end_of b (p + 3)
  pub name : end_of b (p + 3) ≤ length b
  pub fits : end_of b p ≤ length b
  pub behind : p < u
  pub kinds : kind ≡ fold_kind (text_of b (p + 3)) a
  pub rest : (ts : Terms) × Row b (f_terms ts rnil) (end_of b u) (end_of b p) × (2 + arity ts ≡ a)

-- an error may be due that the fold's own bytes pay for
pub record Projected (b : List ℕ) (p u a : ℕ) (s s' : List ℕ) (k : ℕ) (st st' : State) (d d' : List ℕ) (al r : ℕ) : Type 0 where
  pub is : (vw : View) → Seen vw b s k → (ts : Terms) → Row b (f_terms ts rnil) (end_of b u) (end_of b p) → 2 + arity ts ≡ a
      → let m = ends_of vw.top (name_at b (p + 3)) a ts (env_of vw b s k) (num st) al in Put m.more m.errs st st' d d' × (r ≡ m.tail)
  pub paid : Paid (end_of b u) (end_of b p + 1) k s s' st st'

-- the pattern whose notes the rows are
pub record Noted (b s : List ℕ) (k i : ℕ) : Type 0 where
  pub x : Pattern
  pub q : ℕ
  pub some : 0 < q
  pub at : PatternAt b x q
  pub lasts : lasts_of s k (i - k) ≡ places_in x
  pub fits : (j : ℕ) → k ≤ j → j < i → NoteFits b s j

-- update and what stands behind it, under the variables, whose notes are rows k up to i
pub record Updating (b : List ℕ) (p u a : ℕ) (s s' : List ℕ) (k i : ℕ) (st st' : State) (d d' : List ℕ) (al : ℕ) (r : Updated) : Type 0 where
  pub is : (vw : View) → Seen vw b s k → (x : Pattern) (q : ℕ) → 0 < q → PatternAt b x q → lasts_of s k (i - k) ≡ places_in x
      → (t : Term) → TermAt b t u → (ts : Terms) → Row b (f_terms ts rnil) (end_of b u) (end_of b p) → 2 + arity ts ≡ a
      → let e = push_vars (vars x) (env_of vw b s k) in
      let o = term vw.top t e (suc (num st)) empty in
      let m = ends_of vw.top (name_at b (p + 3)) a ts e (num st + size o) al in
      Put (slot o ++ m.more) (o.errs ++ m.errs) st st' d d' × (r.n ≡ num st + size o) × (r.tail ≡ m.tail) × (pat_at s' x k ≡ pat_at s x k)
  pub paid : Paid u (end_of b p + 1) k s s' st st'

-- ---- strings

-- a string that is one text, of the field at p: "A format, or ToString, is inserted first and shared."
abbrev pub plain_out : ℕ → List ℕ → Out
plain_out p x = outs.node p (n_str x) (record { place = p; node = n_to_string } ∷ []) [] empty

-- the format, whose field is at p if it stands before q
pub record FormatIs (b : List ℕ) (p q : ℕ) (s : List ℕ) (st st' : State) (d d' : List ℕ) : Type 0 where
  pub is : (vw : View) (k : ℕ) → Seen vw b s k → (f : Format) (xs : StrParts) (z at : ℕ) → q ≡ past b p z 0xBA → Row b (f_format f (f_str_parts xs rnil)) p z
      → let a = format_out vw.top f at (env_of vw b s k) in Put (slot a) a.errs st st' d d'
  pub nums : num st' ≡ num st + 1
  pub offs : off st' ≤ off st + 10
  pub errs : ers st' ≤ ers st + 11

-- what the part at q contains
pub record StringIs (b : List ℕ) (q : ℕ) (s s' : List ℕ) (k : ℕ) (st st' : State) (d d' : List ℕ) : Type 0 where
  pub is : (vw : View) → Seen vw b s k → (x : StrPart) (p f : ℕ) → Row b (rcons (f_str_part x) rnil) q (end_of b q)
      → let a = string vw.top x p f (env_of vw b s k) (num st) in Put a.more a.errs st st' d d'
  pub wide : (x : StrPart) (f n : ℕ) → Row b (rcons (f_str_part x) rnil) q (end_of b q) → off st' + (8 + length (node_bytes 2 (string_node x f n))) + 64 * q ≤ off st + 64 * end_of b q
  pub paid : Paid (q + 1) (end_of b q) k s s' st st'

-- ---- objects

-- the entry of key t and value v at q
pub record EntryIs (b : List ℕ) (q : ℕ) (s s' : List ℕ) (k : ℕ) (st st' : State) (d d' : List ℕ) : Type 0 where
  pub is : (vw : View) → Seen vw b s k → (t : Term) (v : OptTerm) (p : ℕ) → EntryAt b q t v
      → let e = env_of vw b s k in
      let a = entry vw.top v p e (num st) (var_name t) (term vw.top t e (suc (num st)) empty) (term vw.top t e (suc (suc (num st))) empty) in
      Put a.more a.errs st st' d d' × (n_obj_single (number_at s' k) (last_at s' k) ≡ a.self.node)
  pub kind : kind_at s' k ≡ 6
  pub seen : (vw : View) → Seen vw b s k → Seen vw b s' (k + 1) × (env_of vw b s' (k + 1) ≡ env_of vw b s k)
  pub paid : Paid (q + 1) (end_of b q) k s s' st st'

-- a key at p that stands alone
pub record LoneIs (b : List ℕ) (p : ℕ) (s s' : List ℕ) (k : ℕ) (st st' : State) (d d' : List ℕ) : Type 0 where
  pub is : (vw : View) → Seen vw b s k → (t : Term) (at : ℕ) → TermAt b t p
      → let e = env_of vw b s k in
      let a = lone_out at (num st) (term vw.top t e (suc (num st)) empty) (term vw.top t e (suc (suc (num st))) empty) (var_name t) in
      Put a.more a.errs st st' d d' × (n_obj_single (number_at s' k) (last_at s' k) ≡ a.self.node)
  pub kind : kind_at s' k ≡ 6
  pub seen : (vw : View) → Seen vw b s k → Seen vw b s' (k + 1) × (env_of vw b s' (k + 1) ≡ env_of vw b s k)
  pub paid : Paid p (end_of b p) k s s' st st'
