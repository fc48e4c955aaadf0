-- What it is for the two walks to stand together: at matching places, with matching lists, picking matching entries. Document 01, section "The two walks".
-- Assumes nothing.
use Rattle.std.specs.Prelude.{ℕ, ◌≡◌, List, [], ◌∷◌, length}
use Rattle.std.proofs.Math.Option.{Option, none, some, map}
use Rattle.std.proofs.Math.ListN.{get_elem?}
use Rattle.tree.specs.Tree.{Name, Tree, Term, Def, t_id, t_recurse, t_arr, t_neg, t_label, t_break, t_if_then_else, t_var, t_call, t_def, t_num, t_try_catch, t_fold, t_pipe, t_bin_op, t_path, t_str, t_obj}
use Rattle.rules.specs.Table.{Rec, Node}
use Rattle.rules.specs.Filters.{Imported}
use Rattle.rules.specs.Slices.{Table}
use Rattle.rules.specs.Modules.{globals_of, imported_from, compile}
use Rattle.rules.specs.Outs.{arity}
use Rattle.walks.specs.Moves.{Move}
use Rattle.walks.specs.TreeWalk as ByName
use Rattle.walks.specs.TreeWalk.{View, Entry, Spot, Home, Seen}
use Rattle.walks.specs.TableWalk as ByNumber
use Rattle.walks.specs.TableWalk.{Cells, Cell}

-- the records as the listing has them, without places
abbrev pub nodes_of : Table → List Node
nodes_of [] = []
nodes_of (r ∷ rs) = r.node ∷ nodes_of rs

-- all modules' imported variables and the globals, in their order
abbrev pub all_imported : Tree → List Imported
all_imported whole = imported_from 0 whole.modules whole.main

abbrev pub all_globals : Tree → List Name
all_globals whole = globals_of whole.globals

-- the entries of a list, the last pushed first
abbrev pub entries_of : View → List Entry
entries_of (View.end h) = []
entries_of (View.entry a v) = a ∷ entries_of v
entries_of (View.filter d w v) = entries_of v

abbrev pub cells_of : Cells → List Cell
cells_of Cells.end = []
cells_of (Cells.cell a l) = a ∷ cells_of l

-- the entry of an index
abbrev pub entry_of : Option ℕ → List Entry → Option Entry
entry_of none es = none
entry_of (some i) es = get_elem? es i

module _ (whole : Tree) (T : Table) where
  -- "A term field matches the number that the rules give it.": the rules insert the term n for the field at p
  abbrev pub PlaceAt : ℕ → ℕ → Type 0
  PlaceAt n p = map (λ (r : Rec). r.place) (get_elem? T n) ≡ some p

  -- matching lists, entry by entry; definitions "count as no entries"
  mutual
    pub data Alike : View → Cells → Type 0 where
      al_end : {h : Home} → Alike (View.end h) Cells.end
      al_entry : {a : Entry} {b : Cell} {v : View} {l : Cells} → SameEntry a b → Alike v l → Alike (View.entry a v) (Cells.cell b l)
      al_filter : {d : Def} {v w : View} {l : Cells} → Alike v l → Alike (View.filter d w v) l

    pub data SameEntry : Entry → Cell → Type 0 where
      s_imported : {x : Imported} {i : ℕ} → get_elem? (all_imported whole) i ≡ some x → SameEntry (Entry.imported x) (Cell.imported i)
      s_global : {x : Name} {i : ℕ} → get_elem? (all_globals whole) i ≡ some x → SameEntry (Entry.global x) (Cell.global i)
      -- "In the table a pattern variable's place is its Pipe's or Fold's number and its rank there, left to right, matching its pattern field."
      s_var : {x : Name} {p n i : ℕ} {xs : List Name} → PlaceAt n p → get_elem? xs i ≡ some x → SameEntry (Entry.var x p xs) (Cell.var n i)
      -- "for a `$` parameter a variable, whose place in both walks is its argument's"
      s_value : {x : Name} {t : Term} {n : ℕ} → PlaceAt n (ByName.body_place t) → SameEntry (Entry.value x t) (Cell.value n)
      s_label : {x : Name} {p n : ℕ} → PlaceAt n p → SameEntry (Entry.label x p) (Cell.label n)
      -- "a passed argument with its place and the list at the call"
      s_arg : {x : Name} {t : Term} {n : ℕ} {w : View} {l : Cells} → PlaceAt n (ByName.body_place t) → Alike w l → SameEntry (Entry.arg x t w) (Cell.arg n l)

  -- both pick matching entries, or neither picks one
  abbrev pub SamePick : Option Entry → Option Cell → Type 0
  SamePick none none = Unit {0}
  SamePick none (some b) = ⊥
  SamePick (some a) none = ⊥
  SamePick (some a) (some b) = SameEntry a b

  -- in an accepted program every name means something: a variable or a break picks an entry, a call means an argument, a definition or a native
  abbrev pub Present : Option Entry → Type 0
  Present none = ⊥
  Present (some a) = Unit {0}

  abbrev pub Known : Seen → Type 0
  Known Seen.nothing = ⊥
  Known (Seen.argument a) = Unit {0}
  Known (Seen.defined d w) = Unit {0}
  Known Seen.native = Unit {0}

  abbrev pub TermFinds : Term → View → Type 0
  TermFinds (t_var p x) v = Present (ByName.picked_at whole (t_var p x) v)
  TermFinds (t_break p x) v = Present (ByName.picked_at whole (t_break p x) v)
  TermFinds (t_call p f ts) v = Known (ByName.seen whole f.text (arity ts) v)
  TermFinds (t_id p) v = Unit {0}
  TermFinds (t_recurse p) v = Unit {0}
  TermFinds (t_arr p o) v = Unit {0}
  TermFinds (t_neg p t) v = Unit {0}
  TermFinds (t_label p x t) v = Unit {0}
  TermFinds (t_if_then_else p q t u bs) v = Unit {0}
  TermFinds (t_def p ds t) v = Unit {0}
  TermFinds (t_num p x) v = Unit {0}
  TermFinds (t_try_catch p t o) v = Unit {0}
  TermFinds (t_fold p f t x ts) v = Unit {0}
  TermFinds (t_pipe p t q x u) v = Unit {0}
  TermFinds (t_bin_op p t q x u) v = Unit {0}
  TermFinds (t_path p t ps) v = Unit {0}
  TermFinds (t_str p f ss) v = Unit {0}
  TermFinds (t_obj p es) v = Unit {0}

  abbrev pub Finds : Spot → View → Type 0
  Finds (Spot.at t) v = TermFinds t v
  Finds (Spot.call p x) v = Known (ByName.seen whole x 0 v)
  Finds (Spot.leaf p a) v = Unit {0}
  Finds (Spot.shown p f t) v = Unit {0}
  Finds (Spot.parts p f x ss) v = Unit {0}
  Finds (Spot.single p t o) v = Unit {0}
  Finds (Spot.entries p t o es) v = Unit {0}
  Finds (Spot.reading p t) v = Unit {0}

  pub record Stand (s : ByName.State) (b : ByNumber.State) : Type 0 where
    pub place : PlaceAt b.at (ByName.place_of s.spot)
    -- the record is of the form that the field has
    pub form : ByName.tag whole s ≡ ByNumber.tag (nodes_of T) b
    pub lists : Alike s.view b.list
    pub picks : SamePick (ByName.picked whole s) (ByNumber.picked (nodes_of T) b)
    -- "Index of a variable, label or filter argument: bindings pushed after the match.": what the name picks has the table's index among the walk's own entries
    pub counts : ByName.picked whole s ≡ entry_of (ByNumber.index (nodes_of T) b) (entries_of s.view)
    pub finds : Finds s.spot s.view

  -- both walks have made the moves and stand together, or a move was there for neither
  abbrev pub Together : Option ByName.State → Option ByNumber.State → Type 0
  Together none none = Unit {0}
  Together none (some b) = ⊥
  Together (some s) none = ⊥
  Together (some s) (some b) = Stand s b

-- the walks of a program from main, in its tree and in its table
abbrev pub by_name : Tree → List Move → Option ByName.State
by_name t ms = ByName.walk t ms (some (ByName.start t))

abbrev pub by_number : Tree → List Move → Option ByNumber.State
by_number t ms = ByNumber.walk (nodes_of (compile t).table) ms (some (ByNumber.start (compile t).main (length (all_imported t)) (length (all_globals t))))
