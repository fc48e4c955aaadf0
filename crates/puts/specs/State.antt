-- Where the compiler is, and what compiling leaves of it and of the room. Both listings go into one room: of the table something is due there only where the
-- errors' offset is past its end, of the errors only where the table's is. Assumes nothing.
use Rattle.std.specs.Prelude.{ℕ, ◌+◌, ◌≤◌, ◌≡◌, cond, List, eqb, length, Option, Some, None}
use Rattle.fields.specs.Room.{overlay}
use Rattle.rules.specs.Table.{Rec, Err}
use Rattle.rules.specs.Outs.{Out}
use Rattle.rules.specs.Listing.{rec_bytes, table_bytes, errs_bytes}
use Rattle.puts.specs.declared.state.State.{State}

-- the next term number
abbrev pub num : State → ℕ
num st = st.terms

-- the offset after the table's records
abbrev pub off : State → ℕ
off st = st.end

-- the offset after the errors
abbrev pub ers : State → ℕ
ers st = st.errors

-- the state with another number, or another offset
abbrev pub with_num : State → ℕ → State
with_num st n = record st { terms = n }

abbrev pub with_off : State → ℕ → State
with_off st o = record st { end = o }

abbrev pub with_ers : State → ℕ → State
with_ers st e = record st { errors = e }

-- more than any offset
abbrev pub late : ℕ
late = 0x4000000000000000

-- where the members' records start, the own record of w bytes being due at o and m being the next offset
unfoldable pub start_of : ℕ → ℕ → ℕ → ℕ
start_of o m w = cond (eqb o m) (o + w) m

-- where the own record stands, and the next offset, x being the offset after the members
unfoldable pub spot_of : ℕ → ℕ → ℕ
spot_of o x = cond (eqb o late) x o

unfoldable pub next_of : ℕ → ℕ → ℕ → ℕ
next_of o x w = cond (eqb o late) (x + w) x

-- where an own record is due: at an offset, or, with none, behind what it contains. As a number: none is more than any offset
abbrev pub at_of : Option ℕ → ℕ
at_of (Some o) = o
at_of None = late

-- the same three of that
unfoldable pub start_at : Option ℕ → ℕ → ℕ → ℕ
start_at o m w = start_of (at_of o) m w

unfoldable pub spot_at : Option ℕ → ℕ → ℕ
spot_at (Some o) x = o
spot_at None x = x

unfoldable pub next_at : Option ℕ → ℕ → ℕ → ℕ
next_at (Some o) x w = x
next_at None x w = x + w

-- an offset that is due is not past the next one
abbrev pub Due : Option ℕ → State → Type 0
Due (Some o) st = o ≤ off st
Due None st = Unit {0}

-- the records ms were put at the next offset, with the next numbers, and the errors es
pub record Put (ms : List Rec) (es : List Err) (st st' : State) (d d' : List ℕ) : Type 0 where
  pub nums : num st' ≡ num st + length ms
  pub offs : off st' ≡ off st + length (table_bytes 2 ms)
  pub errs : ers st' ≡ ers st + length (errs_bytes 2 es)
  pub size : length d' ≡ length d
  pub table : length d ≤ ers st → d' ≡ overlay d (off st) (table_bytes 2 ms)
  pub errors : length d ≤ off st → d' ≡ overlay d (ers st) (errs_bytes 2 es)

-- where a term's members start, and where they end
abbrev pub members_at : Out → ℕ → State → ℕ
members_at q o st = start_of o (off st) (length (rec_bytes 2 q.self))

abbrev pub members_end : Out → ℕ → State → ℕ
members_end q o st = members_at q o st + length (table_bytes 2 q.more)

-- the own record of q was put at o, what it contains at the next offset or behind it, and its errors. Its own number is not counted
pub record Own (q : Out) (o : ℕ) (st st' : State) (d d' : List ℕ) : Type 0 where
  pub nums : num st' ≡ num st + length q.more
  pub offs : off st' ≡ next_of o (members_end q o st) (length (rec_bytes 2 q.self))
  pub errs : ers st' ≡ ers st + length (errs_bytes 2 q.errs)
  pub size : length d' ≡ length d
  pub table : length d ≤ ers st → d' ≡ overlay (overlay d (members_at q o st) (table_bytes 2 q.more)) (spot_of o (members_end q o st)) (rec_bytes 2 q.self)
  pub errors : length d ≤ off st → length d ≤ o → d' ≡ overlay d (ers st) (errs_bytes 2 q.errs)
