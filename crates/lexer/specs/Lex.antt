-- The cycle: tokens, token, block, string, escape. The first number only bounds the depth of the recursion: three for each byte that is left, and
-- three more, are enough, and what is found does not depend on it. The number before the place is how many blocks and strings may still be opened.
use Rattle.std.specs.Prelude.{ℕ, zero, suc, ◌+◌, ◌-◌, ◌*◌, Bool, cond, not, List, [], ◌∷◌, length, eqb, ltb}
use Rattle.lexer.specs.Token.{Tokens, none, one, leaf, Expect, closer}
use Rattle.lexer.specs.Scan.{byte, past, one_of}
use Rattle.lexer.specs.Space.{space}
use Rattle.lexer.specs.Kind.{kind, plain}
use Rattle.lexer.specs.Escape.{simple}
use Rattle.lexer.specs.Read.{Read, read, deep, nothing, found, wrong, after, and_then, enclose}

-- a Word, Var, Fmt, Num or Sym, and the errors in it
unfoldable pub leaf_at : ℕ → List ℕ → ℕ → Read
leaf_at tag s at = let q = plain tag s at in read q.at (one (leaf tag at (q.at - at))) q.errors

-- the byte that closes what an opener opens
unfoldable pub closing : ℕ → ℕ
closing b = cond (eqb b 0x28) 0x29 (cond (eqb b 0x5B) 0x5D 0x7D)

-- ".. matching closer, kept as a last Sym. Otherwise Delim with the opener, consuming nothing."
unfoldable pub close : ℕ → List ℕ → ℕ → Read
close opener s at = cond (eqb (byte s at) (closing opener)) (found (leaf 0x05 at 1) (at + 1)) (wrong (closer opener) at)

-- "nonempty runs free of `\` and `\"`"
unfoldable pub text_byte : ℕ → Bool
text_byte b = not (one_of (0x5C ∷ 0x22 ∷ []) b)

unfoldable pub text : ℕ → ℕ → Tokens
text from to = cond (eqb to from) none (one (leaf 0x08 from (to - from)))

-- the closing quote; ".. End of input is Delim with `\"`."
unfoldable pub quote : List ℕ → ℕ → Read
quote s at = cond (eqb (byte s at) 0x22) (nothing (at + 1)) (wrong (closer 0x22) at)

unfoldable mutual
  pub tokens : ℕ → List ℕ → ℕ → ℕ → Read
  tokens zero s n at = deep at
  tokens (suc k) s n at =
      let a = space s at in
      let on = and_then (token k s n a) (λ b. tokens k s n b) in
      cond (eqb (kind (byte s a)) 0) (nothing a) on

  pub token : ℕ → List ℕ → ℕ → ℕ → Read
  token zero s n at = deep at
  token (suc k) s n at =
      let string = str k s n at in
      let group = block k s n at in
      cond (eqb (kind (byte s at)) 0x06) string (cond (eqb (kind (byte s at)) 0x07) group (leaf_at (kind (byte s at)) s at))

  -- "Block: opener, tokens, space, matching closer"
  pub block : ℕ → List ℕ → ℕ → ℕ → Read
  block zero s n at = deep at
  block (suc k) s n at =
      let inside = enclose 0x07 at (and_then (tokens k s (n - 1) (at + 1)) (λ b. close (byte s at) s (space s b))) in
      cond (eqb n 0) (deep at) inside

  pub str : ℕ → List ℕ → ℕ → ℕ → Read
  str zero s n at = deep at
  str (suc k) s n at =
      let inside = enclose 0x06 at (parts k s (n - 1) (at + 1)) in
      cond (eqb n 0) (deep at) inside

  -- "String: nonempty runs free of `\` and `\"`; escapes .."
  pub parts : ℕ → List ℕ → ℕ → ℕ → Read
  parts zero s n at = deep at
  parts (suc k) s n at =
      let a = past text_byte s at in
      let escaped = and_then (escape k s n (a + 1)) (λ b. parts k s n b) in
      after (text at a) [] (cond (eqb (byte s a) 0x5C) escaped (quote s a))

  -- ".. `\(` block"
  pub escape : ℕ → List ℕ → ℕ → ℕ → Read
  escape zero s n at = deep at
  escape (suc k) s n at =
      let group = block k s n at in
      cond (eqb (byte s at) 0x28) group (simple s at)

-- "After the top tokens and space, any rest is one Token error at its start."
unfoldable pub rest : List ℕ → ℕ → Read
rest s at = cond (ltb at (length s)) (wrong Expect.any at) (nothing at)

-- "nesting over 128 in source"
unfoldable pub whole : List ℕ → Read
whole s = and_then (tokens (3 * length s + 4) s 128 0) (λ b. rest s (space s b))
