-- The listing of what was found. Numbers take w bytes each: two in edition 1.
use Rattle.std.specs.Prelude.{ℕ, List, [], ◌∷◌, ◌++◌}
use Rattle.fields.specs.Number.{number}
use Rattle.fields.specs.Field.{field}
use Rattle.lexer.specs.Token.{Token, Tokens, leaf, char, group, none, more, Expect, digit, ident, escape, unicode, any, closer, Error}

-- "each with start and length"
unfoldable pub pair : ℕ → ℕ → ℕ → ℕ → List ℕ
pair w tag a b = field tag (number w a ++ number w b)

-- "0A a character as four bytes; 06 and 07 enclose what follows up to 09 (empty)"
unfoldable mutual
  pub token_bytes : ℕ → Token → List ℕ
  token_bytes w (leaf tag start size) = pair w tag start size
  token_bytes w (char c) = field 0x0A (number 4 c)
  token_bytes w (group tag start size ts) = pair w tag start size ++ (tokens_bytes w ts ++ field 0x09 [])

  pub tokens_bytes : ℕ → Tokens → List ℕ
  tokens_bytes w none = []
  tokens_bytes w (more t ts) = token_bytes w t ++ tokens_bytes w ts

-- "Errors: Digit 20, Ident 21, Delim 22, Escape 23, Unicode 24, Token 25, with place, Delim also its opener byte"
unfoldable pub error_tag : Expect → ℕ
error_tag digit = 0x20
error_tag ident = 0x21
error_tag (closer b) = 0x22
error_tag escape = 0x23
error_tag unicode = 0x24
error_tag any = 0x25

unfoldable pub opener : Expect → List ℕ
opener (closer b) = b ∷ []
opener digit = []
opener ident = []
opener escape = []
opener unicode = []
opener any = []

unfoldable pub error_bytes : ℕ → Error → List ℕ
error_bytes w e = field (error_tag e.expect) (number w e.place ++ opener e.expect)

unfoldable pub errors_bytes : ℕ → List Error → List ℕ
errors_bytes w [] = []
errors_bytes w (e ∷ es) = error_bytes w e ++ errors_bytes w es

-- "Listings open with field 00: edition 1"
unfoldable pub edition : List ℕ
edition = field 0x00 (1 ∷ [])
