-- What the functions of the crate promise to one another: the value that a definition says, with the bounds that a caller needs.
use Rattle.std.specs.Prelude.{◌≡◌, Bool, false, cond, not, List, [], ◌∷◌, ℕ, ◌+◌, ◌-◌, ◌*◌, ◌≤◌, ◌<◌, length, ltb, eqb, Option, Some, None, Result, Ok, Err, IfOk}
use Rattle.text.specs.Space.{white_space}
use Rattle.fields.specs.Field.{field}
use Rattle.fields.specs.Room.{overlay}
use Rattle.lexer.specs.Token.{Tokens, Error, Expect, missing}
use Rattle.lexer.specs.Scan.{byte, past, Scan}
use Rattle.lexer.specs.Space.{space}
use Rattle.lexer.specs.Escape.{hex_digit, hexes}
use Rattle.lexer.specs.Listing.{edition, pair, tokens_bytes, errors_bytes}
use Rattle.lexer.specs.Read.{Read, read, deep}
use Rattle.lexer.specs.Lex.{text_byte, text, quote}
use Rattle.lexer.specs.declared.put.Expected.{Expected}
use Rattle.lexer.specs.declared.put.Expected.TheVariants.{Digit, Ident, Closer, Escape, Unicode, Any}
use Rattle.lexer.specs.declared.put.Room.{Room}
use Rattle.lexer.specs.declared.token.Tag.{Tag}
use Rattle.lexer.specs.declared.token.Tag.TheVariants.{Word, Var, Fmt, Num, Sym, Str, Block, Text}
use Rattle.lexer.specs.declared.scan.TooDeep.{TooDeep}

-- the byte at a place; one that is no 0 stands in the source
pub record Byte (s : List ℕ) (at r : ℕ) : Type 0 where
  pub is : r ≡ byte s at
  pub within : at + 1 ≤ length s + (1 - r)

-- the number of a tag
abbrev pub tag_of : Tag → ℕ
tag_of Word = 0x01
tag_of Var = 0x02
tag_of Fmt = 0x03
tag_of Num = 0x04
tag_of Sym = 0x05
tag_of Str = 0x06
tag_of Block = 0x07
tag_of Text = 0x08

-- the same, and 0 for none
abbrev pub tag_at : Option Tag → ℕ
tag_at None = 0
tag_at (Some tag) = tag_of tag

-- a closure that tests a byte as p does
abbrev pub Tests : (ℕ → Bool → Type 0) → (ℕ → Bool) → Type 0
Tests post p = (b : ℕ) (r : Bool) → post b r → r ≡ p b

-- an ASCII byte that starts neither white space nor a comment
unfoldable pub bare : ℕ → Bool
bare b = cond (ltb b 128) (cond (white_space b) false (not (eqb b 0x23))) false

-- a place on the way along a run: what passes from there on ends where what passes from the start on ends
pub record Going (p : ℕ → Bool) (s : List ℕ) (at i : ℕ) : Type 0 where
  pub is : past p s i ≡ past p s at
  pub low : at ≤ i
  pub high : i ≤ length s

-- the same in white space and comments
pub record Spacing (s : List ℕ) (from at : ℕ) : Type 0 where
  pub is : space s at ≡ space s from
  pub low : from ≤ at
  pub high : at ≤ length s

-- a place that was reached from another
pub record Reaches (to : ℕ) (s : List ℕ) (from r : ℕ) : Type 0 where
  pub is : r ≡ to
  pub low : from ≤ r
  pub high : r ≤ length s

-- bytes that were put into a room
pub record Put (a : Room) (bs : List ℕ) (b : Room) : Type 0 where
  pub same : b.bytes.ghost_name ≡ a.bytes.ghost_name
  pub next : b.next ≡ a.next + length bs
  pub room : b.bytes.now ≡ overlay a.bytes.now a.next bs

-- a listing that opens in a room that held d
pub record Opened (d : List ℕ) (b : Room) : Type 0 where
  pub next : b.next ≡ length edition
  pub room : b.bytes.now ≡ overlay d 0 edition

-- A place in the source, and an offset that stays small: each byte of the source pays for ten bytes put at the most.
pub record Within (s : List ℕ) (at o : ℕ) : Type 0 where
  pub place : at ≤ length s
  pub paid : o + 10 * length s ≤ 10 * at + 1048576

-- A scan from a place on, with its errors in a room. The slack is what its caller has paid for.
pub record Scans (q : Scan) (s : List ℕ) (at slack : ℕ) (e e' : Room) (r : ℕ) : Type 0 where
  pub is : r ≡ q.at
  pub put : Put e (errors_bytes 2 q.errors) e'
  pub low : at ≤ r
  pub high : r ≤ length s
  pub paid : e'.next + 10 * at ≤ e.next + 10 * r + slack

-- what a definition calls that was expected
abbrev pub expect_of : Expected → Expect
expect_of Digit = Expect.digit
expect_of Ident = Expect.ident
expect_of (Closer b) = Expect.closer b
expect_of Escape = Expect.escape
expect_of Unicode = Expect.unicode
expect_of Any = Expect.any

-- one error, of six bytes at the most
pub record Erred (w : Expect) (place : ℕ) (e e' : Room) : Type 0 where
  pub few : e'.next ≤ e.next + 6
  pub put : Put e (errors_bytes 2 (missing w place ∷ [])) e'

-- bytes that were put, so many
pub record Puts (n : ℕ) (a : Room) (bs : List ℕ) (b : Room) : Type 0 where
  pub size : b.next ≡ a.next + n
  pub put : Put a bs b

-- four hex digits stand at a place, and their number
pub record Four (s : List ℕ) (at code : ℕ) : Type 0 where
  pub is : code ≡ hexes s at 4
  pub run : at + 4 ≤ past hex_digit s at
  pub high : at + 4 ≤ length s

-- the place where one of four hex digits is missing
pub record Fewer (s : List ℕ) (at place : ℕ) : Type 0 where
  pub is : place ≡ past hex_digit s at
  pub few : place < at + 4
  pub low : at ≤ place
  pub high : place ≤ length s

abbrev pub Coded : List ℕ → ℕ → Result ℕ ℕ → Type 0
Coded s at (Ok code) = Four s at code
Coded s at (Err place) = Fewer s at place

-- what was read, put into the rooms of tokens and of errors
pub record Found (at : ℕ) (ts : Tokens) (es : List Error) (t t' e e' : Room) (r : ℕ) : Type 0 where
  pub is : r ≡ at
  pub tokens : Put t (tokens_bytes 2 ts) t'
  pub errors : Put e (errors_bytes 2 es) e'

abbrev pub Says : Read → Room → Room → Room → Room → Result ℕ TooDeep → Type 0
Says (read at ts es) t t' e e' (Ok r) = Found at ts es t t' e e' r
Says (read at ts es) t t' e e' (Err f) = ⊥
Says (deep p) t t' e e' (Ok r) = ⊥
Says (deep p) t t' e e' (Err f) = f.place ≡ p

-- the outcome of a reading is what the definition says; the rooms are of no account where nesting is refused
pub record Is (q : Read) (t t' e e' : Room) (r : Result ℕ TooDeep) : Type 0 where
  pub says : Says q t t' e e' r

-- A place in the source, with offsets in the rooms that are paid for.
pub record Ready (s : List ℕ) (at : ℕ) (t e : Room) : Type 0 where
  pub place : at ≤ length s
  pub tokens : t.next + 10 * length s ≤ 10 * at + 1048576
  pub errors : e.next + 10 * length s ≤ 10 * at + 1048576

-- A reading moves so many steps at least, and each byte that it passes pays for ten bytes put, with the slack that its caller has paid for.
pub record Paid (s : List ℕ) (step slack at : ℕ) (t t' e e' : Room) (r : ℕ) : Type 0 where
  pub low : at + step ≤ r
  pub high : r ≤ length s
  pub tokens : t'.next + 10 * at ≤ t.next + 10 * r
  pub errors : e'.next + 10 * at ≤ e.next + 10 * r + slack

-- a reading that nests nothing
pub record Reads (q : Read) (s : List ℕ) (step slack at : ℕ) (t t' e e' : Room) (r : ℕ) : Type 0 where
  pub is : Is q t t' e e' (Ok r)
  pub paid : Paid s step slack at t t' e e' r
  pub out : t'.bytes.ghost_name ≡ t.bytes.ghost_name
  pub err : e'.bytes.ghost_name ≡ e.bytes.ghost_name

-- one of the cycle, whatever the number that bounds it, if that is above the measure
pub record Lexes (f : ℕ → Read) (μ : ℕ) (s : List ℕ) (step slack at : ℕ) (t t' e e' : Room) (r : Result ℕ TooDeep) : Type 0 where
  pub is : (k : ℕ) → μ < k → Is (f k) t t' e e' r
  pub paid : IfOk r (λ p. Paid s step slack at t t' e e' p)
  pub out : t'.bytes.ghost_name ≡ t.bytes.ghost_name
  pub err : e'.bytes.ghost_name ≡ e.bytes.ghost_name

-- a text part, put where it is not empty
pub record Texts (s : List ℕ) (at : ℕ) (t t' : Room) (r : ℕ) : Type 0 where
  pub is : r ≡ past text_byte s at
  pub put : Put t (tokens_bytes 2 (text at r)) t'
  pub low : at ≤ r
  pub high : r ≤ length s
  pub tokens : t'.next + 10 * at ≤ t.next + 10 * r

-- a closing quote, or its error
pub record Quotes (s : List ℕ) (at : ℕ) (e e' : Room) (r : ℕ) : Type 0 where
  pub is : (t : Room) → Is (quote s at) t t e e' (Ok r)
  pub low : at ≤ r
  pub high : r ≤ length s
  pub errors : e'.next + 10 * at ≤ e.next + 10 * r + 10
  pub err : e'.bytes.ghost_name ≡ e.bytes.ghost_name

-- seven bytes that are left in a room, and their offset
pub record Leaves (a : Room) (o : ℕ) (b : Room) : Type 0 where
  pub at : o ≡ a.next
  pub next : b.next ≡ a.next + 7
  pub same : b.bytes.ghost_name ≡ a.bytes.ghost_name
  pub room : b.bytes.now ≡ a.bytes.now

-- a string or block of so many bytes: its end, and its record in the seven bytes before the members
pub record Encloses (tag o start size : ℕ) (a b : Room) : Type 0 where
  pub same : b.bytes.ghost_name ≡ a.bytes.ghost_name
  pub next : b.next ≡ a.next + 3
  pub room : b.bytes.now ≡ overlay (overlay a.bytes.now a.next (field 0x09 [])) o (pair 2 tag start size)
