-- "06 and 07 enclose what follows up to 09 (empty)": a listing is read field by field with a counter of what is open; it never falls below 0 and ends at 0,
-- so each 06 and 07 has its 09. Assumes nothing.
use mathlib.Core.Path.{◌≡◌, refl, ap, ◌∙◌}
use mathlib.Core.Bool.{Bool, true, false, cond, ◌&&◌, ◌||◌}
use mathlib.Core.List.{List, [], ◌∷◌, ◌++◌, map, append_assoc, append-nil}
use mathlib.Core.Logic.{◌⊎◌, inl, inr}
use Prim.Native.Nat.{ℕ, zero, suc, ◌+◌, ◌-◌, ◌*◌, ◌/◌, ◌%◌, ◌≤◌, ◌<◌}
use native.Mathlib.Omega.{arith}
use lib.ListN.{length, length-append}
use lib.Dec.{eqb}
use borrow.Author.Tests.{ne_eqb}
use Rattle.fields.specs.Number.{number, length-number, number-two}
use Rattle.fields.specs.Field.{field}
use Rattle.fields.specs.Outcome.{listing}
use Rattle.lexer.specs.Token.{Token, Tokens, leaf, char, group, none, more, Expect, digit, ident, escape, unicode, any, closer, Error}
use Rattle.lexer.specs.Listing.{pair, token_bytes, tokens_bytes, error_tag, opener, error_bytes, errors_bytes, edition}
use Rattle.lexer.specs.Lexing.{lexing}
use Rattle.lexer.proofs.Facts.Tags.{Member, Part, Members, Parts, finds-read, whole-tags}
use Rattle.lexer.proofs.Facts.Listed.{accepted, faulty}

-- how many are open behind a tag
unfoldable pub opened : ℕ → ℕ → ℕ
opened tag d = cond (eqb tag 0x06 || eqb tag 0x07) (d + 1) (cond (eqb tag 0x09) (d - 1) d)

-- d are open, and k bytes of a field's content are still to be passed; then fields follow, "one-byte tag, two-byte length, little-endian", up to the end
unfoldable pub nests : ℕ → ℕ → List ℕ → Bool
nests k d [] = eqb k 0 && eqb d 0
nests (suc k) d (b ∷ bs) = nests k d bs
nests zero d (tag ∷ []) = false
nests zero d (tag ∷ low ∷ []) = false
nests zero d (tag ∷ low ∷ high ∷ bs) =
    let on = nests (low + 256 * high) (opened tag d) bs in
    cond (eqb tag 0x09 && eqb d 0) false on

-- the content of a field is passed
passed : (content rest : List ℕ) (d : ℕ) → nests (length content) d (content ++ rest) ≡ nests 0 d rest
unfolding nests
passed [] rest d = refl
passed (b ∷ bs) rest d = passed bs rest d

-- a field, where something is open if it closes
field-nests : (tag : ℕ) (content rest : List ℕ) (d : ℕ) → length content < 65536 → (eqb tag 0x09 && eqb d 0 ≡ false)
    → nests 0 d (field tag content ++ rest) ≡ nests 0 (opened tag d) rest
unfolding nests field
field-nests tag content rest d h e =
    let n = length content in
    let v : n % 256 + 256 * (n / 256 % 256) ≡ n = omega arith in
    rw (number-two n, e, v) (passed content rest (opened tag d))

-- ---- tokens

-- a tag that neither opens nor closes
abbrev Flat : ℕ → Type 0
Flat tag = (tag ≡ 6 → ⊥) × (tag ≡ 7 → ⊥) × (tag ≡ 9 → ⊥)

flat-opened : (tag d : ℕ) → Flat tag → opened tag d ≡ d
unfolding opened
flat-opened tag d f = rw (ne_eqb tag 6 f.0, ne_eqb tag 7 f.1, ne_eqb tag 9 f.2)

opens : (tag d : ℕ) → (tag ≡ 6) ⊎ (tag ≡ 7) → (opened tag d ≡ d + 1) × (eqb tag 0x09 && eqb d 0 ≡ false)
unfolding opened
opens tag d (inl e) = (rw e, rw e)
opens tag d (inr e) = (rw e, rw e)

closes : (d : ℕ) → (opened 0x09 (d + 1) ≡ d) × (eqb 0x09 0x09 && eqb (d + 1) 0 ≡ false)
unfolding opened
closes d = let f : d + 1 ≡ 0 → ⊥ = omega arith in (omega arith, ne_eqb (d + 1) 0 f)

module _ (w : ℕ) (small : w + w < 65536) where
  pair_size : (a b : ℕ) → length (number w a ++ number w b) < 65536
  pair_size a b = omega (arith, length-append (number w a) (number w b), length-number w a, length-number w b)

  leaf-nests : (tag start size : ℕ) → Flat tag → (d : ℕ) (rest : List ℕ) → nests 0 d (pair w tag start size ++ rest) ≡ nests 0 d rest
  unfolding pair
  leaf-nests tag start size f d rest =
      field-nests tag _ rest d (pair_size start size) (rw (ne_eqb tag 9 f.2)) ∙ rw (flat-opened tag d f)

  char-nests : (c d : ℕ) (rest : List ℕ) → nests 0 d (field 0x0A (number 4 c) ++ rest) ≡ nests 0 d rest
  unfolding opened
  char-nests c d rest = field-nests 0x0A (number 4 c) rest d (omega (arith, length-number 4 c)) refl

  -- what opens, what is inside, and its 09
  group-nests : (tag start size : ℕ) (ts : Tokens) → (tag ≡ 6) ⊎ (tag ≡ 7) → ((d : ℕ) (rest : List ℕ) → nests 0 d (tokens_bytes w ts ++ rest) ≡ nests 0 d rest)
      → (d : ℕ) (rest : List ℕ) → nests 0 d (token_bytes w (group tag start size ts) ++ rest) ≡ nests 0 d rest
  unfolding token_bytes pair
  group-nests tag start size ts o f d rest =
      let inner = tokens_bytes w ts in
      let close = field 0x09 [] ++ rest in
      let l : pair w tag start size ++ (inner ++ field 0x09 []) ++ rest ≡ pair w tag start size ++ (inner ++ close) = simp append_assoc in
      let a : nests 0 d (pair w tag start size ++ (inner ++ close)) ≡ nests 0 (opened tag d) (inner ++ close) =
      field-nests tag _ (inner ++ close) d (pair_size start size) (opens tag d o).1 in
      let b : nests 0 (d + 1) close ≡ nests 0 (opened 0x09 (d + 1)) rest = field-nests 0x09 [] rest (d + 1) (omega arith) (closes d).1 in
      rw (l, a, (opens tag d o).0, f (d + 1) close, b, (closes d).0)

  mutual
    unfolding Member token_bytes

    member-nests : (t : Token) → Member t → (d : ℕ) (rest : List ℕ) → nests 0 d (token_bytes w t ++ rest) ≡ nests 0 d rest
    member-nests (leaf tag start size) m d rest = leaf-nests tag start size (omega (arith, m.0, m.1)) d rest
    member-nests (char c) m d rest = absurd m
    member-nests (group tag start size ts) (inl m) d rest = group-nests tag start size ts (inl m.0) (λ e then. parts-nests ts m.1 e then) d rest
    member-nests (group tag start size ts) (inr m) d rest = group-nests tag start size ts (inr m.0) (λ e then. members-nests ts m.1 e then) d rest

    part-nests : (t : Token) → Part t → (d : ℕ) (rest : List ℕ) → nests 0 d (token_bytes w t ++ rest) ≡ nests 0 d rest
    part-nests (leaf tag start size) m d rest = leaf-nests tag start size (omega arith) d rest
    part-nests (char c) m d rest = char-nests c d rest
    part-nests (group tag start size ts) m d rest = group-nests tag start size ts (inr m.0) (λ e then. members-nests ts m.1 e then) d rest

    pub members-nests : (ts : Tokens) → Members ts → (d : ℕ) (rest : List ℕ) → nests 0 d (tokens_bytes w ts ++ rest) ≡ nests 0 d rest
    members-nests none m d rest = refl
    members-nests (more t ts) m d rest =
        ap (nests 0 d) (append_assoc (token_bytes w t) (tokens_bytes w ts) rest)
        ∙ (member-nests t m.0 d (tokens_bytes w ts ++ rest) ∙ members-nests ts m.1 d rest)

    pub parts-nests : (ts : Tokens) → Parts ts → (d : ℕ) (rest : List ℕ) → nests 0 d (tokens_bytes w ts ++ rest) ≡ nests 0 d rest
    parts-nests none m d rest = refl
    parts-nests (more t ts) m d rest =
        ap (nests 0 d) (append_assoc (token_bytes w t) (tokens_bytes w ts) rest)
        ∙ (part-nests t m.0 d (tokens_bytes w ts ++ rest) ∙ parts-nests ts m.1 d rest)

  -- the listing of such a row nests
  pub row-nests : (ts : Tokens) → Members ts → nests 0 0 (tokens_bytes w ts) ≡ true
  unfolding nests
  row-nests ts m = let e : nests 0 0 (tokens_bytes w ts ++ []) ≡ true = members-nests ts m 0 [] in rw append-nil at e

-- ---- whole listings

edition-nests : (rest : List ℕ) → nests 0 0 (edition ++ rest) ≡ nests 0 0 rest
unfolding edition opened
edition-nests rest = field-nests 0x00 (1 ∷ []) rest 0 (omega arith) refl

-- the tags of errors neither open nor close
error_tag-flat : (x : Expect) → Flat (error_tag x)
unfolding error_tag
error_tag-flat digit = omega arith
error_tag-flat ident = omega arith
error_tag-flat (closer b) = omega arith
error_tag-flat escape = omega arith
error_tag-flat unicode = omega arith
error_tag-flat any = omega arith

opener-size : (x : Expect) → length (opener x) ≤ 1
unfolding opener
opener-size digit = omega arith
opener-size ident = omega arith
opener-size (closer b) = omega arith
opener-size escape = omega arith
opener-size unicode = omega arith
opener-size any = omega arith

error-nests : (e : Error) (d : ℕ) (rest : List ℕ) → nests 0 d (error_bytes 2 e ++ rest) ≡ nests 0 d rest
unfolding error_bytes
error-nests e d rest =
    let f = error_tag-flat e.expect in
    field-nests (error_tag e.expect) _ rest d
    (omega (arith, length-append (number 2 e.place) (opener e.expect), length-number 2 e.place, opener-size e.expect))
    (rw (ne_eqb (error_tag e.expect) 9 f.2))
    ∙ rw (flat-opened (error_tag e.expect) d f)

errors-nest : (es : List Error) → nests 0 0 (errors_bytes 2 es) ≡ true
unfolding errors_bytes nests
errors-nest [] = refl
errors-nest (e ∷ es) = error-nests e 0 (errors_bytes 2 es) ∙ errors-nest es

pub accepted-nests : (s bytes : List ℕ) → lexing s ≡ listing 0 bytes → nests 0 0 bytes ≡ true
accepted-nests s bytes e =
    let a = accepted s bytes e in
    let m : Members a.row = finds-read Members (rw a.found at (whole-tags s)) in
    rw a.written (edition-nests _ ∙ row-nests 2 (omega arith) a.row m)

pub faulty-nests : (s bytes : List ℕ) → lexing s ≡ listing 1 bytes → nests 0 0 bytes ≡ true
faulty-nests s bytes e = let a = faulty s bytes e in rw a.written (edition-nests _ ∙ errors-nest (a.error ∷ a.errors))

-- `()`, and what does not nest: a 07 without its 09, a 09 without its 07, a 09 before its 07, a field cut off
pub nests-examples :
    map (nests 0 0)
    ((0x07 ∷ 0x04 ∷ 0x00 ∷ 0x00 ∷ 0x00 ∷ 0x02 ∷ 0x00 ∷ 0x05 ∷ 0x04 ∷ 0x00 ∷ 0x01 ∷ 0x00 ∷ 0x01 ∷ 0x00 ∷ 0x09 ∷ 0x00 ∷ 0x00 ∷ [])
    ∷ (0x07 ∷ 0x00 ∷ 0x00 ∷ [])
    ∷ (0x09 ∷ 0x00 ∷ 0x00 ∷ [])
    ∷ (0x09 ∷ 0x00 ∷ 0x00 ∷ 0x07 ∷ 0x00 ∷ 0x00 ∷ [])
    ∷ (0x05 ∷ 0x04 ∷ 0x00 ∷ 0x01 ∷ [])
    ∷ [])
    ≡ true ∷ false ∷ false ∷ false ∷ false ∷ []
unfolding nests opened
nests-examples = refl
