-- Sums: what is put for the parts of a string and the entries of an object, by their notes. Assumes nothing.
use Rattle.std.specs.Prelude.{ℕ, suc, ◌+◌, ◌*◌, ◌^◌, ◌≤◌, ◌<◌, ◌≡◌, refl, ◌⊎◌, List, [], ◌∷◌, length, Option}
use Rattle.std.proofs.Common.{arith, ap, ◌∙◌, inl, inr}
use Rattle.fields.specs.Room.{overlay}
use Rattle.tree.specs.Tree.{StrPart, StrParts, s_nil, s_cons, Entries, es_nil, es_cons}
use Rattle.rules.specs.Table.{Node, n_id, n_obj_single}
use Rattle.rules.specs.Listing.{node_bytes, table_bytes}
use Rattle.puts.specs.declared.state.State.{State}
use Rattle.puts.specs.State.{num, off, late, spot_of, next_of, spot_at, next_at, at_of, Due, with_num, with_off}
use Rattle.puts.specs.Dues.{nexted, spotted}
use Rattle.reads.specs.Shapes.{StrPartAt}
use Rattle.cells.specs.Cells.{number_at, last_at, kind_at}
use Rattle.cells.specs.Notes.{string_node, string_nodes, entry_nodes, summed}

-- what the note of row j is for: an entry of an object, or the part of a string whose place it keeps, the format having the number f
abbrev pub SummandIs : List ℕ → List ℕ → ℕ → ℕ → Node → Type 0
SummandIs b s f j t =
    ((kind_at s j ≡ 6) × (t ≡ n_obj_single (number_at s j) (last_at s j)))
    ⊎ ((kind_at s j ≡ 7) × ((x : StrPart) × StrPartAt b x (last_at s j) × (t ≡ string_node x f (number_at s j))))

-- the notes from row k on, one for each node
unfoldable pub Summands : List ℕ → List ℕ → ℕ → ℕ → List Node → Type 0
Summands b s f k [] = Unit {0}
Summands b s f k (t ∷ ts) = SummandIs b s f k t × Summands b s f (suc k) ts

-- how many bytes a sum takes, and no more: each summand's, and those of a sum of two
unfoldable pub sizes : List Node → ℕ
sizes [] = 0
sizes (t ∷ ts) = 8 + length (node_bytes 2 t) + sizes ts

-- the summands of the rows from k up to i, and room for their sum behind o
pub record SumReady (b s : List ℕ) (f k i o : ℕ) : Type 0 where
  pub ts : List Node
  pub are : Summands b s f k ts
  pub notes : i ≡ k + length ts
  pub rows : 4 * i ≤ length s
  pub room : o + sizes ts < 2 ^ 64

-- the same, with room for the sum's own record alone
pub record OwnReady (b s : List ℕ) (f k i o : ℕ) : Type 0 where
  pub ts : List Node
  pub are : Summands b s f k ts
  pub notes : i ≡ k + length ts
  pub rows : 4 * i ≤ length s
  pub room : o + 8 + length (node_bytes 2 (summed 0 n_id 0 ts).self) < 2 ^ 64

-- the notes of a string's parts: each keeps the place of its part
unfoldable pub StringNotes : List ℕ → List ℕ → StrParts → ℕ → Type 0
StringNotes b s s_nil k = Unit {0}
StringNotes b s (s_cons x xs) k = (kind_at s k ≡ 7) × StrPartAt b x (last_at s k) × StringNotes b s xs (suc k)

unfoldable pub EntryNotes : List ℕ → Entries → ℕ → Type 0
EntryNotes s es_nil k = Unit {0}
EntryNotes s (es_cons q t v es) k = (kind_at s k ≡ 6) × EntryNotes s es (suc k)

pub string-summands : (b s : List ℕ) (xs : StrParts) (f k : ℕ) → StringNotes b s xs k → Summands b s f k (string_nodes s xs f k)
unfolding StringNotes Summands string_nodes
string-summands b s s_nil f k h = tt
string-summands b s (s_cons x xs) f k h = (inr (h.0, (x, h.1, refl)), string-summands b s xs f (suc k) h.2)

pub entry-summands : (b s : List ℕ) (es : Entries) (f k : ℕ) → EntryNotes s es k → Summands b s f k (entry_nodes s es k)
unfolding EntryNotes Summands entry_nodes
entry-summands b s es_nil f k h = tt
entry-summands b s (es_cons q t v es) f k h = (inl (h.0, refl), entry-summands b s es f (suc k) h.1)

-- where the kinds are known row by row
pub entry-notes : (s : List ℕ) (es : Entries) (k : ℕ) → ((j : ℕ) → k ≤ j → j < k + length (entry_nodes s es k) → kind_at s j ≡ 6) → EntryNotes s es k
unfolding EntryNotes entry_nodes
entry-notes s es_nil k h = tt
entry-notes s (es_cons q t v es) k h = (h k (omega arith) (omega arith), entry-notes s es (suc k) (λ j a b. h j (omega arith) (omega arith)))

-- ---- what `sums` leaves: the records of the sum from the next offset on, all but its own

pub record SumsPut (p : ℕ) (t : Node) (ts : List Node) (st st' : State) (d d' : List ℕ) : Type 0 where
  pub state : st' ≡ with_off (with_num st (num st + length (summed p t (num st) ts).more)) (off st + length (table_bytes 2 (summed p t (num st) ts).more))
  pub room : d' ≡ overlay d (off st) (table_bytes 2 (summed p t (num st) ts).more)

-- ---- what `sum_or` leaves: the records of the sum from the next offset on, and its own where it belongs. t is what stands for none, p any place

pub record SumPutAt (p : ℕ) (t : Node) (ts : List Node) (o : Option ℕ) (w : ℕ) (st st' : State) (d d' : List ℕ) : Type 0 where
  pub state : st' ≡ with_off (with_num st (num st + length (summed p t (num st) ts).more)) (next_at o (off st + length (table_bytes 2 (summed p t (num st) ts).more)) w)
  pub room : d' ≡ overlay (overlay d (off st) (table_bytes 2 (summed p t (num st) ts).more)) (spot_at o (off st + length (table_bytes 2 (summed p t (num st) ts).more))) (node_bytes 2 (summed p t (num st) ts).self)

-- the same, the place of its own record being told by a number

pub record SumPut (p : ℕ) (t : Node) (ts : List Node) (o w : ℕ) (st st' : State) (d d' : List ℕ) : Type 0 where
  pub state : st' ≡ with_off (with_num st (num st + length (summed p t (num st) ts).more)) (next_of o (off st + length (table_bytes 2 (summed p t (num st) ts).more)) w)
  pub room : d' ≡ overlay (overlay d (off st) (table_bytes 2 (summed p t (num st) ts).more)) (spot_of o (off st + length (table_bytes 2 (summed p t (num st) ts).more))) (node_bytes 2 (summed p t (num st) ts).self)

pub sum-at : (p : ℕ) (t : Node) (ts : List Node) (o : Option ℕ) (w : ℕ) (st₀ st st' : State) (d d' : List ℕ) → Due o st₀ → off st₀ < late → SumPutAt p t ts o w st st' d d' → SumPut p t ts (at_of o) w st st' d d'
sum-at p t ts o w st₀ st st' d d' u l s =
    let m = off st + length (table_bytes 2 (summed p t (num st) ts).more) in
    record {
      state = s.state ∙ ap (with_off (with_num st (num st + length (summed p t (num st) ts).more))) (nexted o m w st₀ u l);
      room = s.room ∙ ap (λ (x : ℕ). overlay (overlay d (off st) (table_bytes 2 (summed p t (num st) ts).more)) x (node_bytes 2 (summed p t (num st) ts).self)) (spotted o m st₀ u l);
    }
