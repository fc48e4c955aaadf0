-- Document 01's bench cases of the lexer, computed from the definitions.
use Rattle.std.specs.Prelude.{◌≡◌, refl, List, [], ◌∷◌, map, ℕ}
use Rattle.text.specs.Utf8.{seq_len, scalar, table, bits}
use Rattle.text.specs.Space.{white_space, spaces}
use Rattle.text.specs.Valid.{valid_prefix, passing}
use Rattle.fields.specs.Number.{number}
use Rattle.fields.specs.Field.{field}
use Rattle.fields.specs.Outcome.{listing}
use Rattle.lexer.specs.Token.{Tokens, none, join, Expect, Error, missing, closer, any}
use Rattle.lexer.specs.Scan.{run, past, optional, expected}
use Rattle.lexer.specs.Space.{blank, skip, space}
use Rattle.lexer.specs.Word.{letter, digit, word_byte, ident_end, ident1, mod_then_ident}
use Rattle.lexer.specs.Num.{digits1, fraction, exponent, num}
use Rattle.lexer.specs.Sym.{operator, follows, dot, sym}
use Rattle.lexer.specs.Kind.{kind, plain}
use Rattle.lexer.specs.Escape.{named, hex_digit, hex, hexes, surrogate, unicode, simple}
use Rattle.lexer.specs.Read.{Read, read, deep, after, and_then, enclose}
use Rattle.lexer.specs.Lex.{leaf_at, closing, close, text_byte, text, quote, tokens, rest, whole}
use Rattle.lexer.specs.Listing.{pair, tokens_bytes, edition}
use Rattle.lexer.specs.Lexing.{listed, lexing}

-- what is listed of a source: "0: listing of tokens; 1: listing of errors, nothing else"
pub data Shown : Type 0 where
  all : Tokens → Shown
  bad : List Error → Shown
  nested : ℕ → Shown

unfoldable pub shown : Read → Shown
shown (read at ts []) = all ts
shown (read at ts (e ∷ es)) = bad (e ∷ es)
shown (deep p) = nested p

-- `` gives no tokens. `1..2`: Digit 2. `"\uD800"`: Unicode 3. `"\a"`: Escape 2. `(]`: Delim 1, Token 1. `a::`: Ident 3.
pub bench :
    map (λ s. shown (whole s))
    ([]
    ∷ (0x31 ∷ 0x2E ∷ 0x2E ∷ 0x32 ∷ [])
    ∷ (0x22 ∷ 0x5C ∷ 0x75 ∷ 0x44 ∷ 0x38 ∷ 0x30 ∷ 0x30 ∷ 0x22 ∷ [])
    ∷ (0x22 ∷ 0x5C ∷ 0x61 ∷ 0x22 ∷ [])
    ∷ (0x28 ∷ 0x5D ∷ [])
    ∷ (0x61 ∷ 0x3A ∷ 0x3A ∷ [])
    ∷ [])
    ≡ (all none
    ∷ bad (missing Expect.digit 2 ∷ [])
    ∷ bad (missing Expect.unicode 3 ∷ [])
    ∷ bad (missing Expect.escape 2 ∷ [])
    ∷ bad (missing (closer 0x28) 1 ∷ missing any 1 ∷ [])
    ∷ bad (missing Expect.ident 3 ∷ [])
    ∷ [])
unfolding shown whole tokens rest leaf_at closing close text_byte text quote and_then after enclose join kind plain letter digit word_byte operator follows run past optional space skip blank
    seq_len scalar table bits white_space spaces expected ident_end ident1 mod_then_ident digits1 fraction exponent num dot sym named hex_digit hex hexes surrogate unicode simple
bench = refl

-- `()` whole: 00 01 00 01; 07 04 00 00 00 02 00; 05 04 00 01 00 01 00; 09 00 00.
pub parens :
    lexing (0x28 ∷ 0x29 ∷ [])
    ≡ listing 0
    (0x00 ∷ 0x01 ∷ 0x00 ∷ 0x01
    ∷ 0x07 ∷ 0x04 ∷ 0x00 ∷ 0x00 ∷ 0x00 ∷ 0x02 ∷ 0x00
    ∷ 0x05 ∷ 0x04 ∷ 0x00 ∷ 0x01 ∷ 0x00 ∷ 0x01 ∷ 0x00
    ∷ 0x09 ∷ 0x00 ∷ 0x00 ∷ [])
unfolding lexing listed valid_prefix passing edition tokens_bytes pair field number
    whole tokens rest leaf_at closing close text_byte text quote and_then after enclose join kind plain letter digit word_byte operator follows run past optional space skip blank
    seq_len scalar table bits white_space spaces expected ident_end ident1 mod_then_ident digits1 fraction exponent num dot sym named hex_digit hex hexes surrogate unicode simple
parens = refl
