-- The token that a byte starts, by the byte, and the escapes: document 01's classes as equations. Assumes nothing.
use mathlib.Core.Path.{◌≡◌, refl}
use mathlib.Core.Bool.{Bool, true, false, cond, ◌&&◌}
use mathlib.Core.List.{List, [], ◌∷◌}
use Prim.Native.Nat.{ℕ, ◌+◌, ◌≤◌, ◌<◌}
use native.Mathlib.Omega.{arith}
use lib.Dec.{eqb, leb}
use borrow.Author.Tests.{eqb-true, ne_eqb, eq-eqb, leb-true, lt-leb, lt-ltb, le-ltb}
use Rattle.lexer.specs.Token.{char, Expect}
use Rattle.lexer.specs.Scan.{byte, one_of, past}
use Rattle.lexer.specs.Word.{letter, digit}
use Rattle.lexer.specs.Sym.{operator}
use Rattle.lexer.specs.Kind.{kind}
use Rattle.lexer.specs.Escape.{named, hex_digit, hexes, surrogate, unicode, simple}
use Rattle.lexer.specs.Read.{found, wrong}
use Rattle.lexer.proofs.Facts.Cases.{both_right, or_left}

-- the property holds of each
abbrev All : (ℕ → Type 0) → List ℕ → Type 0
All P [] = Unit
All P (x ∷ xs) = P x × All P xs

one-of : (P : ℕ → Type 0) (xs : List ℕ) (b : ℕ) → All P xs → one_of xs b ≡ true → P b
one-of P [] b a e = absurd (let z : ◌≡◌ {A = ℕ} 0 1 = cc in omega arith)
one-of P (x ∷ xs) b a e = go (eqb b x) refl e (one-of P xs b a.1)
  where
    go : (t : Bool) → eqb b x ≡ t → cond t true (one_of xs b) ≡ true → (one_of xs b ≡ true → P b) → P b
    go true f g k = rw (eqb-true b x f) a.0
    go false f g k = k g

-- ---- which token a byte starts

module _ (b : ℕ) where
  -- "Word: `[a-zA-Z_]..`"
  pub word-kind : letter b ≡ true → kind b ≡ 0x01
  unfolding kind
  word-kind e = rw e

  -- "Var and Fmt: `$` or `@` .."
  pub var-kind : b ≡ 0x24 → kind b ≡ 0x02
  unfolding kind letter digit
  var-kind e = rw e

  pub fmt-kind : b ≡ 0x40 → kind b ≡ 0x03
  unfolding kind letter digit
  fmt-kind e = rw e

  -- "Num: digits .."
  digit_not : digit b ≡ true → letter b ≡ false
  unfolding digit letter
  digit_not e =
      let k : b ≤ 0x39 = leb-true b 0x39 (both_right (leb 0x30 b) (leb b 0x39) (or_left (leb 0x30 b && leb b 0x39) e)) in
      rw (lt-leb 0x61 b (omega arith), lt-leb 0x41 b (omega arith), lt-leb 0x5F b (omega arith))

  pub num-kind : digit b ≡ true → kind b ≡ 0x04
  unfolding kind
  num-kind e = rw (digit_not e, e)

  -- "Sym: one of `|=!<>+-*/%` ..; `.` ..; each of `: ; , ?`."
  pub operator-kind : operator b ≡ true → kind b ≡ 0x05
  unfolding kind letter digit operator
  operator-kind e =
      one-of (λ x. kind x ≡ 0x05) (0x7C ∷ 0x3D ∷ 0x21 ∷ 0x3C ∷ 0x3E ∷ 0x2B ∷ 0x2D ∷ 0x2A ∷ 0x2F ∷ 0x25 ∷ []) b
      (refl, (refl, (refl, (refl, (refl, (refl, (refl, (refl, (refl, (refl, tt)))))))))) e

  pub mark-kind : one_of (0x2E ∷ 0x3A ∷ 0x3B ∷ 0x2C ∷ 0x3F ∷ []) b ≡ true → kind b ≡ 0x05
  unfolding kind letter digit operator
  mark-kind e = one-of (λ x. kind x ≡ 0x05) (0x2E ∷ 0x3A ∷ 0x3B ∷ 0x2C ∷ 0x3F ∷ []) b (refl, (refl, (refl, (refl, (refl, tt))))) e

  pub string-kind : b ≡ 0x22 → kind b ≡ 0x06
  unfolding kind letter digit operator
  string-kind e = rw e

  pub opener-kind : one_of (0x28 ∷ 0x5B ∷ 0x7B ∷ []) b ≡ true → kind b ≡ 0x07
  unfolding kind letter digit operator
  opener-kind e = one-of (λ x. kind x ≡ 0x07) (0x28 ∷ 0x5B ∷ 0x7B ∷ []) b (refl, (refl, (refl, tt))) e

  -- a closer starts none
  pub closer-kind : one_of (0x29 ∷ 0x5D ∷ 0x7D ∷ []) b ≡ true → kind b ≡ 0x00
  unfolding kind letter digit operator
  closer-kind e = one-of (λ x. kind x ≡ 0x00) (0x29 ∷ 0x5D ∷ 0x7D ∷ []) b (refl, (refl, (refl, tt))) e

-- ---- escapes

module _ (s : List ℕ) (at : ℕ) where
  -- "escapes `\\ \/ \" \b \f \n \r \t`"
  pub simple-named : (byte s at ≡ 0x75 → ⊥) → (named (byte s at) ≡ 0 → ⊥) → simple s at ≡ found (char (named (byte s at))) (at + 1)
  unfolding simple
  simple-named e f = rw (ne_eqb (byte s at) 0x75 e, ne_eqb (named (byte s at)) 0 f)

  -- "An unknown or missing escape is Escape after the backslash, consuming nothing more."
  pub simple-unknown : (byte s at ≡ 0x75 → ⊥) → named (byte s at) ≡ 0 → simple s at ≡ wrong Expect.escape at
  unfolding simple
  simple-unknown e f = rw (ne_eqb (byte s at) 0x75 e, eq-eqb (named (byte s at)) 0 f)

  pub simple-unicode : byte s at ≡ 0x75 → simple s at ≡ unicode s (at + 1)
  unfolding simple
  simple-unicode e = rw (eq-eqb (byte s at) 0x75 e)

  -- "`\u` and four hex digits of either case"
  pub unicode-char : at + 4 ≤ past hex_digit s at → surrogate (hexes s at 4) ≡ false → unicode s at ≡ found (char (hexes s at 4)) (at + 4)
  unfolding unicode
  unicode-char h e = rw (le-ltb (past hex_digit s at) (at + 4) h, e)

  -- "A bad or missing hex digit is Unicode there .. reading goes on from there."
  pub unicode-bad : past hex_digit s at < at + 4 → unicode s at ≡ wrong Expect.unicode (past hex_digit s at)
  unfolding unicode
  unicode-bad h = rw (lt-ltb (past hex_digit s at) (at + 4) h)

  -- "a surrogate is Unicode just after `u`; reading goes on from there."
  pub unicode-surrogate : at + 4 ≤ past hex_digit s at → surrogate (hexes s at 4) ≡ true → unicode s at ≡ wrong Expect.unicode at
  unfolding unicode
  unicode-surrogate h e = rw (le-ltb (past hex_digit s at) (at + 4) h, e)
