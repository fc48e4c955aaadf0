-- What a reader signs for of the lexer's definitions: the theorems, with the sentences of document 01 that they show to hold. Each is proved below this page,
-- and cited here. Assumes nothing.
use mathlib.Core.Path.{◌≡◌}
use mathlib.Core.Bool.{true, false}
use mathlib.Core.List.{List, [], ◌∷◌, ◌++◌}
use mathlib.Core.Logic.{◌⊎◌}
use mathlib.Core.Option.{Option, some}
use Prim.Native.Nat.{ℕ, suc, ◌+◌, ◌-◌, ◌*◌, ◌≤◌, ◌<◌}
use native.Mathlib.Omega.{arith}
use lib.ListN.{length, drop}
use Rattle.fields.specs.Number.{number, value, value-number}
use Rattle.fields.specs.Outcome.{listing, refusal}
use Rattle.lexer.specs.Token.{Token, Tokens, leaf, char, group, Expect, closer, Error, missing}
use Rattle.lexer.specs.Scan.{byte, one_of, past}
use Rattle.lexer.specs.Space.{blank, in_line, goes_on, next_line, comment, skip, space}
use Rattle.lexer.specs.Word.{letter, digit, ident0, ident_end, ident1, mod_then_ident}
use Rattle.lexer.specs.Num.{num}
use Rattle.lexer.specs.Sym.{operator, sym}
use Rattle.lexer.specs.Kind.{kind, plain}
use Rattle.lexer.specs.Escape.{named, hex_digit, hexes, surrogate, unicode, simple}
use Rattle.lexer.specs.Read.{read, deep, nothing, found, wrong, after, and_then, enclose}
use Rattle.lexer.specs.Lex.{leaf_at, closing, close, text_byte, text, tokens, token, block, str, parts, escape, whole}
use Rattle.lexer.specs.Listing.{tokens_bytes}
use Rattle.lexer.specs.Lexing.{lexing}
use Rattle.lexer.proofs.Facts.Onward as onward
use Rattle.lexer.proofs.Facts.Onward.{Onward, Suffix}
use Rattle.lexer.proofs.Facts.Shape.{Row, Rising, Placed, Among, Before, Reported, stands}
use Rattle.lexer.proofs.Facts.Spans as spans
use Rattle.lexer.proofs.Facts.Scans as scans
use Rattle.lexer.proofs.Facts.Sound as sound
use Rattle.lexer.proofs.Facts.Sound.{Span}
use Rattle.lexer.proofs.Facts.Fuel as fuel
use Rattle.lexer.proofs.Facts.Blanks as blanks
use Rattle.lexer.proofs.Facts.Blanks.{comment_at, Bare}
use Rattle.lexer.proofs.Facts.Free as free
use Rattle.lexer.proofs.Facts.Free.{tokens_at, token_at, block_at, str_at, parts_at, escape_at}
use Rattle.lexer.proofs.Facts.Kinds as kinds
use Rattle.lexer.proofs.Facts.Tags as tags
use Rattle.lexer.proofs.Facts.Tags.{Members}
use Rattle.lexer.proofs.Facts.Nesting as nesting
use Rattle.lexer.proofs.Facts.Nesting.{nests}
use Rattle.lexer.proofs.Facts.Openers as openers
use Rattle.lexer.proofs.Facts.Openers.{Opener}
use Rattle.lexer.proofs.Facts.Depth as depth
use Rattle.lexer.proofs.Facts.Depth.{over, Result}
use Rattle.lexer.proofs.Facts.Listed as outcomes
use Rattle.lexer.proofs.Facts.Listed.{Accepted, Faulty}

-- ---- 1. "In a lexer's state the remaining input `i` is always a suffix of the source."

-- Each function that reads goes from a place of the source on to a place of the source that is not before it; so what remains is a suffix of what remained.
pub remaining : (s : List ℕ) (at b : ℕ) → Onward s at b → Suffix (drop b s) (drop at s)
remaining s at b o = onward.suffix s at b o

module _ (s : List ℕ) (at : ℕ) (h : at ≤ length s) where
  pub space-onward : Onward s at (space s at)
  space-onward = onward.space-on s at h

  pub ident0-onward : Onward s at (ident0 s at)
  ident0-onward = onward.ident0-on s at h

  pub ident_end-onward : Onward s at (ident_end s at)
  ident_end-onward = onward.ident_end-on s at h

  pub ident1-onward : Onward s at (ident1 s at).at
  ident1-onward = (scans.ident1-on s at h).on

  pub mod_then_ident-onward : Onward s at (mod_then_ident s at).at
  mod_then_ident-onward = (scans.mod_then_ident-on s at h).on

  pub num-onward : Onward s at (num s at).at
  num-onward = (scans.num-on s at h).on

  pub simple-onward : Onward s at (stands (simple s at))
  simple-onward = sound.sound-on s at at (sound.simple-sound s at h)

  -- for every fuel k and however many, n, may be opened
  pub tokens-onward : (k n : ℕ) → Onward s at (stands (tokens k s n at))
  tokens-onward k n = sound.sound-on s at at (sound.tokens-sound k s n at h)

  pub parts-onward : (k n : ℕ) → Onward s at (stands (parts k s n at))
  parts-onward k n = sound.sound-on s at at (sound.parts-sound k s n at h)

  pub escape-onward : (k n : ℕ) → Onward s at (stands (escape k s n at))
  escape-onward k n = sound.sound-on s at at (sound.escape-sound k s n at h)

-- A token, of whichever kind, has at least one byte.
module _ (s : List ℕ) (at : ℕ) (h : at < length s) where
  pub sym-onward : Onward s (at + 1) (sym s at)
  sym-onward = onward.symbol-on s at h

  pub plain-onward : (tag : ℕ) → Onward s (at + 1) (plain tag s at).at
  plain-onward tag = (scans.plain-on tag s at h).on

  pub token-onward : (k n : ℕ) → Onward s at (stands (token k s n at))
  token-onward k n = sound.sound-on s at (at + 1) (sound.token-sound k s n at h)

  pub block-onward : (k n : ℕ) → Onward s at (stands (block k s n at))
  block-onward k n = sound.sound-on s at (at + 1) (sound.block-sound k s n at h)

  pub str-onward : (k n : ℕ) → Onward s at (stands (str k s n at))
  str-onward k n = sound.sound-on s at (at + 1) (sound.str-sound k s n at h)

  pub token-moves : (k n b : ℕ) (ts : Tokens) (es : List Error) → token k s n at ≡ read b ts es → Onward s (at + 1) b
  token-moves k n b ts es e = (sound.sound-read (rw e at (sound.token-sound k s n at h))).on

  pub block-moves : (k n b : ℕ) (ts : Tokens) (es : List Error) → block k s n at ≡ read b ts es → Onward s (at + 1) b
  block-moves k n b ts es e = (sound.sound-read (rw e at (sound.block-sound k s n at h))).on

  pub str-moves : (k n b : ℕ) (ts : Tokens) (es : List Error) → str k s n at ≡ read b ts es → Onward s (at + 1) b
  str-moves k n b ts es e = (sound.sound-read (rw e at (sound.str-sound k s n at h))).on

pub whole-onward : (s : List ℕ) → Onward s 0 (stands (whole s))
whole-onward s = sound.sound-on s 0 0 (sound.whole-sound s)

-- "After the top tokens and space, any rest is one Token error at its start.": without an error all was read
pub whole-read : (s : List ℕ) (b : ℕ) (ts : Tokens) → whole s ≡ read b ts [] → b ≡ length s
whole-read s b ts e = outcomes.all_read s b ts e

-- What is read from a place on, for every fuel k and however many, n, may be opened: its tokens stand in a row between the place where it starts and the
-- place where it ends, and so do its errors.
pub tokens-span : (k : ℕ) (s : List ℕ) (n at b : ℕ) (ts : Tokens) (es : List Error) → at ≤ length s → tokens k s n at ≡ read b ts es → Span s at at b ts es
tokens-span k s n at b ts es h e = sound.sound-read (rw e at (sound.tokens-sound k s n at h))

module _ (s : List ℕ) (b : ℕ) (ts : Tokens) (es : List Error) (found : whole s ≡ read b ts es) where
  -- ---- 2. "each with start and length": every start and length lies inside the source

  -- the row as a whole: `Lies` and `Row` of Shape say of each token, and of what is inside it, where it stands
  pub row-stands : Row ts 0 (length s)
  row-stands = let r = sound.sound-read (rw found at (sound.whole-sound s)) in spans.row-wide ts 0 b 0 (length s) (omega arith) r.on.high r.tokens

  -- a token, however deep inside others, has at least one byte and ends within the source
  pub inside-source : {t : Token} {start size : ℕ} → Among t ts → Placed t start size → (1 ≤ size) × (start + size ≤ length s)
  inside-source m p = let l = spans.placed-lies 0 (length s) p (spans.among-lies 0 (length s) m row-stands) in (l.1, l.2)

  -- and what is inside a group starts behind the group's opener and ends within the group
  pub inside-group : {tag start size from many : ℕ} {us : Tokens} {t : Token} → Among (group tag start size us) ts → Among t us → Placed t from many
      → (start + 1 ≤ from) × (1 ≤ many) × (from + many ≤ start + size)
  inside-group g m p = spans.placed-lies _ _ p (spans.members-lie 0 (length s) g row-stands m)

  -- ---- 3. starts rise: of two tokens of a row, at the top or inside a group, the one behind starts where the one before ends, or later

  pub starts-rise : {t u : Token} {start size start' size' : ℕ} → Before t u ts → Placed t start size → Placed u start' size' → start + size ≤ start'
  starts-rise m p q = spans.before-ends 0 (length s) m row-stands p q

  -- so the one behind starts behind the other's start, for no token is empty
  pub starts-rise-strictly : {t u : Token} {start size start' size' : ℕ} → Before t u ts → Placed t start size → Placed u start' size' → start < start'
  starts-rise-strictly m p q = omega (arith, (inside-source (spans.before-among m) p).0, starts-rise m p q)

  -- "Word 01, Var 02, Fmt 03, Num 04, Sym 05, string 06, block 07, text part 08 ..; 0A a character ..; an interpolation is a block": at the top and in blocks
  -- stand 01 to 07, in strings 08, 0A and 07
  pub tags-are : Members ts
  tags-are = tags.finds-read Members (rw found at (tags.whole-tags s))

-- ---- 4. "06 and 07 enclose what follows up to 09 (empty)": a listing nests properly

-- the tokens of a row, at any width of the numbers that a field's length can say
pub row-nests : (w : ℕ) → w + w < 65536 → (ts : Tokens) → Members ts → nests 0 0 (tokens_bytes w ts) ≡ true
row-nests w h ts m = nesting.row-nests w h ts m

-- the listing of an accepted source, and that of errors
pub listing-nests : (s bytes : List ℕ) → lexing s ≡ listing 0 bytes → nests 0 0 bytes ≡ true
listing-nests s bytes e = nesting.accepted-nests s bytes e

pub errors-nest : (s bytes : List ℕ) → lexing s ≡ listing 1 bytes → nests 0 0 bytes ≡ true
errors-nest s bytes e = nesting.faulty-nests s bytes e

-- ---- 5. every place in an error is at most the length of the source

module _ (s : List ℕ) (b : ℕ) (ts : Tokens) (es : List Error) (found : whole s ≡ read b ts es) where
  pub error-place : {e : Error} → Reported e es → e.place ≤ length s
  error-place m = let r = sound.sound-read (rw found at (sound.whole-sound s)) in omega (arith, spans.reported-in 0 b m r.errors, r.on.high)

  -- "Errors keep the order they arose in.": which is that of their places
  pub errors-rise : Rising es 0 (length s)
  errors-rise = let r = sound.sound-read (rw found at (sound.whole-sound s)) in spans.rising-wide es 0 b 0 (length s) (omega arith) r.on.high r.errors

-- the place of a refusal too
pub refusal-place : (s : List ℕ) (n p : ℕ) → lexing s ≡ refusal n p → p ≤ length s
refusal-place s n p e = outcomes.refused s n p e

-- ---- 2., 3. and 5. of what is listed

-- "0: listing of tokens": those that the whole source comes to, with no error; "1: listing of errors, nothing else"
pub listing-is : (s bytes : List ℕ) → lexing s ≡ listing 0 bytes → Accepted s bytes
listing-is s bytes e = outcomes.accepted s bytes e

pub errors-are : (s bytes : List ℕ) → lexing s ≡ listing 1 bytes → Faulty s bytes
errors-are s bytes e = outcomes.faulty s bytes e

-- "2: input over 32,768 bytes": so "numbers in two bytes" holds every start and length
pub listed-short : (s bytes : List ℕ) (n : ℕ) → lexing s ≡ listing n bytes → length s ≤ 32768
listed-short s bytes n e = outcomes.listed-short s bytes n e

pub fits-two : (s bytes : List ℕ) → lexing s ≡ listing 0 bytes → (a : Accepted s bytes) → {t : Token} {start size : ℕ} → Among t a.row → Placed t start size
    → (value (number 2 start) ≡ start) × (value (number 2 size) ≡ size)
fits-two s bytes e a {start = start} {size = size} m p =
    let i = inside-source s (length s) a.row [] a.found m p in
    let h : length s ≤ 32768 = listed-short s bytes 0 e in
    (value-number 2 start (omega (arith, i.0, i.1)), value-number 2 size (omega (arith, i.0, i.1)))

-- ---- "4: nesting over 128 in source; place: first opener that makes 129 open .. Source nesting counts open blocks and strings."

-- where reading breaks off there is an opener
pub breaks-at-opener : (s : List ℕ) (p : ℕ) → whole s ≡ deep p → Opener s p
breaks-at-opener s p e = openers.breaks-deep (rw e at (openers.whole-breaks s))

-- where as many may be opened as there are bytes reading never breaks off
pub never-breaks : (s : List ℕ) (m : ℕ) → length s ≤ m → Result (tokens_at s m 0)
never-breaks s m h = depth.depth-enough s m h

-- however many more may be opened: where none of the blocks and strings found has 128 others around it, the same is read; else reading breaks off at the
-- start of the first that has
module _ (s : List ℕ) (m : ℕ) (h : 128 ≤ m) (b : ℕ) (ts : Tokens) (es : List Error) (all : tokens_at s m 0 ≡ read b ts es) where
  pub nesting-kept : over ts 128 ≡ Option.none → tokens_at s 128 0 ≡ read b ts es
  nesting-kept e = depth.depth-kept s m 128 0 h b ts es all e

  pub nesting-over : (p : ℕ) → over ts 128 ≡ some p → whole s ≡ deep p
  nesting-over p e = free.whole-deep s p (depth.depth-over s m 128 0 h b ts es all p e)

  -- and it breaks off for no other reason
  pub nesting-refused : (p : ℕ) → whole s ≡ deep p → over ts 128 ≡ some p
  nesting-refused p e = depth.depth-refused s m 128 0 h b ts es all p (free.deep-whole s p e)

pub refusal-deep : (s : List ℕ) (p : ℕ) → lexing s ≡ refusal 4 p → whole s ≡ deep p
refusal-deep s p e = outcomes.refused-deep s p e

-- ---- 6. what is found does not depend on the fuel: three for each byte that is left, and one more

module _ (k l : ℕ) (s : List ℕ) (n at : ℕ) where
  pub tokens-fuel : at ≤ length s → 3 * (length s - at) < k → 3 * (length s - at) < l → tokens k s n at ≡ tokens l s n at
  tokens-fuel h p q = fuel.tokens-fuel k l s n at h p q

  pub token-fuel : at < length s → 3 * (length s - at) ≤ k → 3 * (length s - at) ≤ l → token k s n at ≡ token l s n at
  token-fuel h p q = fuel.token-fuel k l s n at h p q

  pub block-fuel : at < length s → 3 * (length s - at) ≤ k + 1 → 3 * (length s - at) ≤ l + 1 → block k s n at ≡ block l s n at
  block-fuel h p q = fuel.block-fuel k l s n at h p q

  pub str-fuel : at < length s → 3 * (length s - at) ≤ k + 1 → 3 * (length s - at) ≤ l + 1 → str k s n at ≡ str l s n at
  str-fuel h p q = fuel.str-fuel k l s n at h p q

  pub parts-fuel : at ≤ length s → 3 * (length s - at) < k → 3 * (length s - at) < l → parts k s n at ≡ parts l s n at
  parts-fuel h p q = fuel.parts-fuel k l s n at h p q

  pub escape-fuel : at ≤ length s → 3 * (length s - at) < k → 3 * (length s - at) < l → escape k s n at ≡ escape l s n at
  escape-fuel h p q = fuel.escape-fuel k l s n at h p q

-- the numbers that bound the lines of a comment and the turns of skipping: one for each byte that is left, and one more
pub comment-fuel : (k l : ℕ) (s : List ℕ) (at : ℕ) → at ≤ length s → length s - at < k → length s - at < l → comment k s at ≡ comment l s at
comment-fuel k l s at h p q = blanks.comment-fuel k l s at h p q

pub skip-fuel : (k l : ℕ) (s : List ℕ) (at : ℕ) → at ≤ length s → length s - at < k → length s - at < l → skip k s at ≡ skip l s at
skip-fuel k l s at h p q = blanks.skip-fuel k l s at h p q

-- So each can be had free of it, with what is enough for the whole source: the equations that document 01 gives of them.

-- "Space: Unicode White_Space."
module _ (s : List ℕ) (at : ℕ) (h : at ≤ length s) where
  pub space-blank : 0 < blank s at → space s at ≡ space s (at + blank s at)
  space-blank g = blanks.space-blank s at h g

  pub space-comment : byte s at ≡ 0x23 → space s at ≡ space s (comment_at s (at + 1))
  space-comment e = blanks.space-comment s at h e

  pub space-none : blank s at ≡ 0 → (byte s at ≡ 0x23 → ⊥) → space s at ≡ at
  space-none e f = blanks.space-none s at e f

  -- all of it is skipped: behind it stands no more
  pub space-bare : Bare s (space s at)
  space-bare = blanks.space-bare s at h

  pub space-again : space s (space s at) ≡ space s at
  space-again = blanks.space-again s at h

  -- "Does the comment go on past its newline? Exactly if the line, less one trailing CR, ends in an odd number of backslashes. End of input ends it."
  pub comment-goes : goes_on s at (past in_line s at - at) ≡ true → comment_at s at ≡ comment_at s (next_line s at)
  comment-goes e = blanks.comment-goes s at h e

  pub comment-ends : goes_on s at (past in_line s at - at) ≡ false → comment_at s at ≡ next_line s at
  comment-ends e = blanks.comment-ends s at e

module _ (s : List ℕ) (n at : ℕ) where
  -- at a closer, at any other byte that starts no token and at the end nothing is found; else that token, and then the tokens behind it
  pub tokens_none : at ≤ length s → kind (byte s (space s at)) ≡ 0 → tokens_at s n at ≡ nothing (space s at)
  tokens_none h e = free.tokens_none s n at h e

  pub tokens-more : at ≤ length s → (kind (byte s (space s at)) ≡ 0 → ⊥) → tokens_at s n at ≡ and_then (token_at s n (space s at)) (tokens_at s n)
  tokens-more h e = free.tokens-more s n at h e

  pub tokens-closer : at ≤ length s → one_of (0x29 ∷ 0x5D ∷ 0x7D ∷ []) (byte s (space s at)) ≡ true → tokens_at s n at ≡ nothing (space s at)
  tokens-closer h e = free.tokens_none s n at h (kinds.closer-kind (byte s (space s at)) e)

  -- "Word: `[a-zA-Z_][a-zA-Z0-9_]*` .."
  pub token-word : letter (byte s at) ≡ true → token_at s n at ≡ leaf_at 0x01 s at
  token-word e = free.token-plain s n at 0x01 (omega arith) (omega arith) (kinds.word-kind (byte s at) e)

  -- "Var and Fmt: `$` or `@`, then an identifier .."
  pub token-var : byte s at ≡ 0x24 → token_at s n at ≡ leaf_at 0x02 s at
  token-var e = free.token-plain s n at 0x02 (omega arith) (omega arith) (kinds.var-kind (byte s at) e)

  pub token-fmt : byte s at ≡ 0x40 → token_at s n at ≡ leaf_at 0x03 s at
  token-fmt e = free.token-plain s n at 0x03 (omega arith) (omega arith) (kinds.fmt-kind (byte s at) e)

  -- "Num: digits .."
  pub token-num : digit (byte s at) ≡ true → token_at s n at ≡ leaf_at 0x04 s at
  token-num e = free.token-plain s n at 0x04 (omega arith) (omega arith) (kinds.num-kind (byte s at) e)

  -- "Sym: one of `|=!<>+-*/%` ..; `..`; `.` with an identifier; lone `.`; each of `: ; , ?`."
  pub token-operator : operator (byte s at) ≡ true → token_at s n at ≡ leaf_at 0x05 s at
  token-operator e = free.token-plain s n at 0x05 (omega arith) (omega arith) (kinds.operator-kind (byte s at) e)

  pub token-mark : one_of (0x2E ∷ 0x3A ∷ 0x3B ∷ 0x2C ∷ 0x3F ∷ []) (byte s at) ≡ true → token_at s n at ≡ leaf_at 0x05 s at
  token-mark e = free.token-plain s n at 0x05 (omega arith) (omega arith) (kinds.mark-kind (byte s at) e)

  pub token-string : byte s at ≡ 0x22 → token_at s n at ≡ str_at s n at
  token-string e = free.token-string s n at (kinds.string-kind (byte s at) e)

  pub token_block : one_of (0x28 ∷ 0x5B ∷ 0x7B ∷ []) (byte s at) ≡ true → token_at s n at ≡ block_at s n at
  token_block e = free.token_block s n at (kinds.opener-kind (byte s at) e)

  -- "Block: opener, tokens, space, matching closer ..", and one more is open inside it
  pub block-opens : at < length s → block_at s (suc n) at ≡ enclose 0x07 at (and_then (tokens_at s n (at + 1)) (λ b. close (byte s at) s (space s b)))
  block-opens h = free.block-opens s n at h

  pub block-deep : at < length s → block_at s 0 at ≡ deep at
  block-deep h = free.block-deep s at h

  -- ".. kept as a last Sym. Otherwise Delim with the opener, consuming nothing."
  pub close-found : (opener : ℕ) → byte s at ≡ closing opener → close opener s at ≡ found (leaf 0x05 at 1) (at + 1)
  close-found opener e = free.close-found opener s at e

  pub close-missing : (opener : ℕ) → (byte s at ≡ closing opener → ⊥) → close opener s at ≡ wrong (closer opener) at
  close-missing opener e = free.close-missing opener s at e

  -- "String: ..", and one more is open inside it
  pub string-opens : at < length s → str_at s (suc n) at ≡ enclose 0x06 at (parts_at s n (at + 1))
  string-opens h = free.string-opens s n at h

  pub string-deep : at < length s → str_at s 0 at ≡ deep at
  string-deep h = free.string-deep s at h

  -- ".. nonempty runs free of `\` and `"`": a run goes up to a `"`, up to a `\` or up to the end of input
  pub parts-ways : at ≤ length s → (past text_byte s at ≡ length s) ⊎ ((byte s (past text_byte s at) ≡ 0x5C) ⊎ (byte s (past text_byte s at) ≡ 0x22))
  parts-ways h = free.parts-ways s at h

  pub parts-quote : at ≤ length s → byte s (past text_byte s at) ≡ 0x22
      → parts_at s n at ≡ after (text at (past text_byte s at)) [] (nothing (past text_byte s at + 1))
  parts-quote h e = free.parts-quote s n at h e

  pub parts-escape : at ≤ length s → byte s (past text_byte s at) ≡ 0x5C
      → parts_at s n at ≡ after (text at (past text_byte s at)) [] (and_then (escape_at s n (past text_byte s at + 1)) (parts_at s n))
  parts-escape h e = free.parts-escape s n at h e

  -- "End of input is Delim with `"`."
  pub parts-end : at ≤ length s → past text_byte s at ≡ length s → parts_at s n at ≡ after (text at (length s)) [] (wrong (closer 0x22) (length s))
  parts-end h e = free.parts-end s n at h e

  -- "escapes .., `\(` block."
  pub escape-block : byte s at ≡ 0x28 → escape_at s n at ≡ block_at s n at
  escape-block e = free.escape-block s n at e

  pub escape-simple : at ≤ length s → (byte s at ≡ 0x28 → ⊥) → escape_at s n at ≡ simple s at
  escape-simple h e = free.escape-simple s n at h e

  -- "escapes `\\ \/ \" \b \f \n \r \t`"
  pub simple-named : (byte s at ≡ 0x75 → ⊥) → (named (byte s at) ≡ 0 → ⊥) → simple s at ≡ found (char (named (byte s at))) (at + 1)
  simple-named e f = kinds.simple-named s at e f

  -- "An unknown or missing escape is Escape after the backslash, consuming nothing more."
  pub simple-unknown : (byte s at ≡ 0x75 → ⊥) → named (byte s at) ≡ 0 → simple s at ≡ wrong Expect.escape at
  simple-unknown e f = kinds.simple-unknown s at e f

  -- "`\u` and four hex digits of either case"
  pub simple-unicode : byte s at ≡ 0x75 → simple s at ≡ unicode s (at + 1)
  simple-unicode e = kinds.simple-unicode s at e

  pub unicode-char : at + 4 ≤ past hex_digit s at → surrogate (hexes s at 4) ≡ false → unicode s at ≡ found (char (hexes s at 4)) (at + 4)
  unicode-char h e = kinds.unicode-char s at h e

  -- "A bad or missing hex digit is Unicode there; a surrogate is Unicode just after `u`; reading goes on from there."
  pub unicode-bad : past hex_digit s at < at + 4 → unicode s at ≡ wrong Expect.unicode (past hex_digit s at)
  unicode-bad h = kinds.unicode-bad s at h

  pub unicode-surrogate : at + 4 ≤ past hex_digit s at → surrogate (hexes s at 4) ≡ true → unicode s at ≡ wrong Expect.unicode at
  unicode-surrogate h e = kinds.unicode-surrogate s at h e

-- "After the top tokens and space, any rest is one Token error at its start."
module _ (s : List ℕ) (b : ℕ) (ts : Tokens) (es : List Error) (top : tokens_at s 128 0 ≡ read b ts es) where
  pub whole-rest : space s b < length s → whole s ≡ read (space s b) ts (es ++ (missing Expect.any (space s b) ∷ []))
  whole-rest h = free.whole-rest s b ts es top h

  pub whole-all : space s b ≡ length s → whole s ≡ read (length s) ts es
  whole-all h = free.whole-all s b ts es top h

pub whole-deep : (s : List ℕ) (p : ℕ) → tokens_at s 128 0 ≡ deep p → whole s ≡ deep p
whole-deep s p e = free.whole-deep s p e
