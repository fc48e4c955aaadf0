-- From what the two rooms hold to the answer: the returns of the functions that list. Assumes nothing.
use mathlib.Core.Path.{◌≡◌, refl, ap, ◌∙◌}
use mathlib.Core.List.{List, [], ◌∷◌, ◌++◌}
use Prim.Native.Nat.{ℕ, ◌+◌, ◌≤◌, ◌<◌}
use native.Mathlib.Omega.{arith}
use Rattle.std.specs.Prelude.{Ok, Err}
use lib.ListN.{length, take, drop, length-append}
use lib.Seq.{take_at}
use borrow.Author.Tests.{lt-ltb, le-ltb}
use Rattle.fields.specs.Field.{field, length-field}
use Rattle.fields.specs.Room.{overlay, overlay-front, length-overlay}
use Rattle.fields.specs.declared.Answer.{Answer}
use Rattle.fields.specs.declared.Refusal.TheVariants.{TooLong, NotWellFormed, TooDeep, NoRoom}
use Rattle.fields.specs.Refusals.{answer_of}
use Rattle.fields.specs.Outcome.{listing, refusal}
use Rattle.fields.specs.Promises.{refused, short, listed}
use Rattle.text.specs.Valid.{valid_prefix}
use Rattle.lexer.specs.Token.{Error}
use Rattle.lexer.specs.Read.{Read, read, deep}
use Rattle.lexer.specs.Listing.{edition, errors_bytes, error_bytes}
use Rattle.lexer.specs.Lex.{whole}
use Rattle.lexer.specs.Lexing as lexing
use Rattle.lexer.specs.Due.{tokens_due, errors_due, Holds, Both, Listed, Told}
use Rattle.lexer.specs.declared.scan.TooDeep as nesting
use Rattle.lexer.specs.declared.Sizes.{Sizes}
use Rattle.lexer.proofs.Facts.Shape.{stands}
use Rattle.lexer.proofs.Facts.Promises.{whole-onward}

length-edition : length edition ≡ 4
unfolding edition
length-edition = length-field 0x00 (1 ∷ [])

-- ---- which listing is due

length-edition-more : (bs : List ℕ) → length (edition ++ bs) ≡ 4 + length bs
length-edition-more bs = omega (arith, length-append edition bs, length-edition)

errors-some : (e : Error) (es : List Error) → 0 < length (errors_bytes 2 (e ∷ es))
unfolding errors_bytes error_bytes field
errors-some e es = omega arith

-- what stands in the rooms, where nesting is not refused
both : (q : Read) (d d' x x' : List ℕ) (r : Sizes) → Listed q d d' x x' (Ok r) → Both q d d' x x' r
both (read at ts es) d d' x x' r l = l.lists
both (deep p) d d' x x' r l = absurd l.lists

pub due-errors : (q : Read) (d d' x x' : List ℕ) (r : Sizes) → Listed q d d' x x' (Ok r) → 4 < r.errors → lexing.listed 2 q ≡ listing 1 (errors_due q)
unfolding lexing.listed
due-errors (deep p) d d' x x' r l k = absurd l.lists
due-errors (read at ts []) d d' x x' r l k = absurd (none (length-edition-more (errors_bytes 2 [])))
  where
    none : length (edition ++ errors_bytes 2 []) ≡ 4 + length (errors_bytes 2 []) → ⊥
    none n = unfold errors_bytes in omega (arith, l.lists.errors.size)
due-errors (read at ts (e ∷ es)) d d' x x' r l k = refl

pub due-tokens : (q : Read) (d d' x x' : List ℕ) (r : Sizes) → Listed q d d' x x' (Ok r) → r.errors ≤ 4 → lexing.listed 2 q ≡ listing 0 (tokens_due q)
unfolding lexing.listed
due-tokens (deep p) d d' x x' r l k = absurd l.lists
due-tokens (read at ts []) d d' x x' r l k = refl
due-tokens (read at ts (e ∷ es)) d d' x x' r l k = absurd (omega (arith, l.lists.errors.size, length-edition-more (errors_bytes 2 (e ∷ es)), errors-some e es))

due-deep : (q : Read) (d d' x x' : List ℕ) (z : nesting.TooDeep) → Listed q d d' x x' (Err z) → lexing.listed 2 q ≡ refusal 4 z.place
unfolding lexing.listed
due-deep (read at ts es) d d' x x' z l = absurd l.lists
due-deep (deep p) d d' x x' z l = rw l.lists

-- ---- the returns

-- the opener that is too many stands in the source
deep-near : (s d d' x x' : List ℕ) (z : nesting.TooDeep) → Listed (whole s) d d' x x' (Err z) → z.place ≤ length s
deep-near s d d' x x' z l = go (whole s) l (whole-onward s).high
  where
    go : (q : Read) → Listed q d d' x x' (Err z) → stands q ≤ length s → z.place ≤ length s
    go (read at ts es) l h = absurd l.lists
    go (deep p) l h = omega (arith, l.lists)

pub told-deep : (s d d' x x' o : List ℕ) (z : nesting.TooDeep) → length s ≤ 32768 → Listed (whole s) d d' x x' (Err z) → Told (lexing.listed 2 (whole s)) o o (answer_of (Err (TooDeep z.place)))
told-deep s d d' x x' o z h l = record { answers = rw (due-deep (whole s) d d' x x' z l) (refused 4 z.place o); few = omega arith; near = omega (arith, deep-near s d d' x x' z l) }

-- a listing is due, so that nesting is not refused
pub never : (s : List ℕ) (n : ℕ) (bs d d' x x' : List ℕ) (z : nesting.TooDeep) → lexing.listed 2 (whole s) ≡ listing n bs → Listed (whole s) d d' x x' (Err z) → ⊥
never s n bs d d' x x' z h l = let k = due-deep (whole s) d d' x x' z l in cc

module _ (s o : List ℕ) (n k : ℕ) (bs : List ℕ) (h : lexing.listed 2 (whole s) ≡ listing n bs) (e : k ≡ length bs) where
  pub told-short : length o < k → Told (lexing.listed 2 (whole s)) o o (answer_of (Err NoRoom))
  told-short l = record { answers = rw h (short n bs o (omega arith)); few = omega arith; near = omega arith }

  pub told : (o' : List ℕ) → k ≤ length o → k ≤ 1048576 → o' ≡ overlay o 0 bs → Told (lexing.listed 2 (whole s)) o o' (record { number = n; length = k; place = 0 })
  told o' m b l = record { answers = rw h (listed n k bs o o' e (omega arith) l); few = b; near = omega arith }

-- what the room holds, once the source was read to its end
pub errors-hold : (s d d' x x' : List ℕ) (r : Sizes) → Listed (whole s) d d' x x' (Ok r) → Holds x (errors_due (whole s)) x' r.errors
errors-hold s d d' x x' r l = (both (whole s) d d' x x' r l).errors

pub tokens-hold : (s d d' x x' : List ℕ) (r : Sizes) → Listed (whole s) d d' x x' (Ok r) → Holds d (tokens_due (whole s)) d' r.tokens
tokens-hold s d d' x x' r l = (both (whole s) d d' x x' r l).tokens

-- what went into the scratch whole can be taken out of it
pub scratched : (x x' bs : List ℕ) (k : ℕ) → Holds x bs x' k → k ≤ length x' → take k x' ≡ bs
scratched x x' bs k w h =
    let l : length x' ≡ length x = ap length w.room ∙ length-overlay x 0 bs in
    rw (w.size, w.room, overlay-front x bs (omega (arith, w.size))) (take_at bs (drop (length bs) x) (length bs) refl)

-- ---- the entry

module _ (s d : List ℕ) where
  pub long : 32768 < length s → Told (lexing.lexing s) d d (answer_of (Err TooLong))
  unfolding lexing.lexing
  long h = record { answers = simp (lt-ltb _ _ h) (refused 2 0 d); few = omega arith; near = omega arith }

  pub invalid : length s ≤ 32768 → valid_prefix s < length s → Told (lexing.lexing s) d d (answer_of (Err (NotWellFormed (valid_prefix s))))
  unfolding lexing.lexing
  invalid h k = record { answers = simp (le-ltb _ _ h, lt-ltb _ _ k) (refused 3 (valid_prefix s) d); few = omega arith; near = omega arith }

  pub valid : (d' : List ℕ) (r : Answer) → length s ≤ 32768 → length s ≤ valid_prefix s → Told (lexing.listed 2 (whole s)) d d' r → Told (lexing.lexing s) d d' r
  unfolding lexing.lexing
  valid d' r h k t = simp (le-ltb _ _ h, le-ltb _ _ k) t
