-- What lexing a source leaves in the two rooms, and what the entry promises.
use Rattle.std.specs.Prelude.{◌≡◌, List, [], ◌++◌, ℕ, ◌+◌, ◌≤◌, length, Result, Ok, Err}
use Rattle.fields.specs.Room.{overlay}
use Rattle.fields.specs.declared.Answer.{Answer}
use Rattle.fields.specs.Outcome.{Outcome, Answers}
use Rattle.lexer.specs.Read.{Read, read, deep}
use Rattle.lexer.specs.Listing.{edition, tokens_bytes, errors_bytes}
use Rattle.lexer.specs.Space.{space}
use Rattle.lexer.specs.Lex.{rest}
use Rattle.lexer.specs.Lexing.{lexing}
use Rattle.lexer.specs.Meets.{Is, Reaches}
use Rattle.lexer.specs.declared.put.Room.{Room}
use Rattle.lexer.specs.declared.scan.TooDeep.{TooDeep}
use Rattle.lexer.specs.declared.Sizes.{Sizes}

-- the two listings that are due
abbrev pub tokens_due : Read → List ℕ
tokens_due (read at ts es) = edition ++ tokens_bytes 2 ts
tokens_due (deep p) = []

abbrev pub errors_due : Read → List ℕ
errors_due (read at ts es) = edition ++ errors_bytes 2 es
errors_due (deep p) = []

-- a source that is not too long, and the place behind its leading space
pub record Begun (s : List ℕ) (from : ℕ) : Type 0 where
  pub few : length s ≤ 32768
  pub lead : Reaches (space s 0) s 0 from

-- what follows the top tokens, from a place on
pub record Rests (s : List ℕ) (at : ℕ) (e e' : Room) : Type 0 where
  pub is : (t : Room) → Is (rest s (space s at)) t t e e' (Ok (space s at))
  pub few : e'.next ≤ e.next + 6
  pub err : e'.bytes.ghost_name ≡ e.bytes.ghost_name

-- a listing that stands at the head of a room, as far as that goes, and how many bytes it takes
pub record Holds (d bs d' : List ℕ) (n : ℕ) : Type 0 where
  pub size : n ≡ length bs
  pub room : d' ≡ overlay d 0 bs
  pub few : n ≤ 1048576

pub record Both (q : Read) (d d' x x' : List ℕ) (r : Sizes) : Type 0 where
  pub tokens : Holds d (tokens_due q) d' r.tokens
  pub errors : Holds x (errors_due q) x' r.errors

abbrev pub Lists : Read → List ℕ → List ℕ → List ℕ → List ℕ → Result Sizes TooDeep → Type 0
Lists (read at ts es) d d' x x' (Ok r) = Both (read at ts es) d d' x x' r
Lists (read at ts es) d d' x x' (Err f) = ⊥
Lists (deep p) d d' x x' (Ok r) = ⊥
Lists (deep p) d d' x x' (Err f) = f.place ≡ p

-- a source that was read to its end: both listings are in the rooms. The rooms are of no account where nesting is refused
pub record Listed (q : Read) (d d' x x' : List ℕ) (r : Result Sizes TooDeep) : Type 0 where
  pub lists : Lists q d d' x x' r

-- an answer to what was read from a source
pub record Told (o : Outcome) (d d' : List ℕ) (r : Answer) : Type 0 where
  pub answers : Answers o d d' r
  pub few : r.length ≤ 1048576
  pub near : r.place ≤ 32768

-- what `lex` promises: the answer and the later room are those of the outcome, and how large they get
abbrev pub Lexed : List ℕ → List ℕ → List ℕ → Answer → Type 0
Lexed s d d' r = Told (lexing s) d d' r
