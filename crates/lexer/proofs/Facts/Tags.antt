-- "Word 01, Var 02, Fmt 03, Num 04, Sym 05, string 06, block 07, text part 08 ..; 0A a character ..; an interpolation is a block": which tokens stand where.
-- Assumes nothing.
use mathlib.Core.Path.{◌≡◌, refl}
use mathlib.Core.Bool.{Bool, true, false, cond, ◌||◌}
use mathlib.Core.List.{List, [], ◌∷◌}
use mathlib.Core.Logic.{◌⊎◌, inl, inr}
use Prim.Native.Nat.{ℕ, zero, suc, ◌+◌, ◌-◌, ◌*◌, ◌≤◌}
use native.Mathlib.Omega.{arith}
use lib.ListN.{length}
use lib.Dec.{eqb, ltb}
use borrow.Author.Tests.{eqb-false}
use Rattle.lexer.specs.Token.{Token, Tokens, leaf, char, group, none, more, one, join, Error}
use Rattle.lexer.specs.Scan.{byte, one_of, past}
use Rattle.lexer.specs.Space.{space}
use Rattle.lexer.specs.Word.{letter, digit}
use Rattle.lexer.specs.Sym.{operator}
use Rattle.lexer.specs.Kind.{kind, plain}
use Rattle.lexer.specs.Escape.{named, hex_digit, hexes, surrogate, unicode, simple}
use Rattle.lexer.specs.Read.{Read, read, deep, after, and_then, enclose}
use Rattle.lexer.specs.Lex.{leaf_at, closing, close, text_byte, text, quote, tokens, token, block, str, parts, escape, rest, whole}
use Rattle.lexer.proofs.Facts.Cases.{either}

-- a token at the top or in a block: Word, Var, Fmt, Num or Sym, a string of parts, a block of such tokens. A part of a string: a text part, a character,
-- a block
unfoldable mutual
  pub Member : Token → Type 0
  Member (leaf tag start size) = (1 ≤ tag) × (tag ≤ 5)
  Member (char c) = ⊥
  Member (group tag start size ts) = ((tag ≡ 6) × Parts ts) ⊎ ((tag ≡ 7) × Members ts)

  pub Part : Token → Type 0
  Part (leaf tag start size) = tag ≡ 8
  Part (char c) = Unit
  Part (group tag start size ts) = (tag ≡ 7) × Members ts

  pub Members : Tokens → Type 0
  Members none = Unit
  Members (more t ts) = Member t × Members ts

  pub Parts : Tokens → Type 0
  Parts none = Unit
  Parts (more t ts) = Part t × Parts ts

members-join : (ts us : Tokens) → Members ts → Members us → Members (join ts us)
unfolding Member join
members-join none us m n = n
members-join (more t ts) us m n = (m.0, members-join ts us m.1 n)

parts_join : (ts us : Tokens) → Parts ts → Parts us → Parts (join ts us)
unfolding Member join
parts_join none us m n = n
parts_join (more t ts) us m n = (m.0, parts_join ts us m.1 n)

-- what is found is such a row
pub data Finds (P : Tokens → Type 0) : Read → Type 0 where
  reads : {b : ℕ} {ts : Tokens} {es : List Error} → P ts → Finds P (read b ts es)
  stops : {p : ℕ} → Finds P (deep p)

pub finds-read : (P : Tokens → Type 0) {b : ℕ} {ts : Tokens} {es : List Error} → Finds P (read b ts es) → P ts
finds-read P (reads p) = p

-- any property of rows that holds of two rows joined
module _ (P : Tokens → Type 0) (joined : (ts us : Tokens) → P ts → P us → P (join ts us)) where
  after-finds : {q : Read} (ts : Tokens) (es : List Error) → P ts → Finds P q → Finds P (after ts es q)
  unfolding after
  after-finds ts es p (reads {ts = us} r) = reads (joined ts us p r)
  after-finds ts es p stops = stops

  then-finds : {q : Read} (f : ℕ → Read) → Finds P q → ((b : ℕ) → Finds P (f b)) → Finds P (and_then q f)
  unfolding and_then
  then-finds f (reads {b} {ts} {es} r) g = after-finds ts es r (g b)
  then-finds f stops g = stops

-- ---- what nests nothing

close-finds : (opener : ℕ) (s : List ℕ) (at : ℕ) → Finds Members (close opener s at)
unfolding close Member
close-finds opener s at = either (Finds Members) (eqb (byte s at) (closing opener)) _ _ (λ e. reads (search arith)) (λ e. reads tt)

text-parts : (at b : ℕ) → Parts (text at b)
unfolding text Member
text-parts at b = either Parts (eqb b at) _ _ (λ e. tt) (λ e. (refl, tt))

unicode-finds : (s : List ℕ) (at : ℕ) → Finds Parts (unicode s at)
unfolding unicode Member
unicode-finds s at =
    either (Finds Parts) (ltb (past hex_digit s at) (at + 4)) _ _ (λ e. reads tt)
    (λ e. either (Finds Parts) (surrogate (hexes s at 4)) _ _ (λ f. reads tt) (λ f. reads (tt, tt)))

simple-finds : (s : List ℕ) (at : ℕ) → Finds Parts (simple s at)
unfolding simple Member
simple-finds s at =
    either (Finds Parts) (eqb (byte s at) 0x75) _ _ (λ e. unicode-finds s (at + 1))
    (λ e. either (Finds Parts) (eqb (named (byte s at)) 0) _ _ (λ f. reads tt) (λ f. reads (tt, tt)))

-- no byte starts a token of another tag
most : (t : Bool) (x y : ℕ) → x ≤ 7 → y ≤ 7 → cond t x y ≤ 7
most true x y h k = h
most false x y h k = k

kind-most : (b : ℕ) → kind b ≤ 7
unfolding kind
kind-most b =
    most (letter b) _ _ (omega arith)
    (most (digit b) _ _ (omega arith)
    (most (eqb b 0x24) _ _ (omega arith)
    (most (eqb b 0x40) _ _ (omega arith)
    (most (operator b || one_of (0x2E ∷ 0x3A ∷ 0x3B ∷ 0x2C ∷ 0x3F ∷ []) b) _ _ (omega arith)
    (most (eqb b 0x22) _ _ (omega arith) (most (one_of (0x28 ∷ 0x5B ∷ 0x7B ∷ []) b) _ _ (omega arith) (omega arith)))))))

leaf_at-finds : (s : List ℕ) (at : ℕ) → (kind (byte s at) ≡ 0 → ⊥) → (kind (byte s at) ≡ 6 → ⊥) → (kind (byte s at) ≡ 7 → ⊥)
    → Finds Members (leaf_at (kind (byte s at)) s at)
unfolding leaf_at Member
leaf_at-finds s at f g h = let k : kind (byte s at) ≤ 7 = kind-most (byte s at) in
    reads {ts = one (leaf (kind (byte s at)) at ((plain (kind (byte s at)) s at).at - at))} ((omega arith, omega arith), tt)

-- ---- the cycle

-- a row that may stand in a block and in a string
pub Both : Tokens → Type 0
Both ts = Members ts × Parts ts

first_of : {q : Read} → Finds Both q → Finds Members q
unfolding Both
first_of (reads p) = reads p.0
first_of stops = stops

second-of : {q : Read} → Finds Both q → Finds Parts q
unfolding Both
second-of (reads p) = reads p.1
second-of stops = stops

block-encloses : {q : Read} (at : ℕ) → Finds Members q → Finds Both (enclose 0x07 at q)
unfolding enclose Both Member
block-encloses at (reads {b} {ts} m) = reads {ts = one (group 0x07 at (b - at) ts)} ((inr (refl, m), tt), ((refl, m), tt))
block-encloses at stops = stops

string-encloses : {q : Read} (at : ℕ) → Finds Parts q → Finds Members (enclose 0x06 at q)
unfolding enclose Member
string-encloses at (reads {b} {ts} m) = reads {ts = one (group 0x06 at (b - at) ts)} (inl (refl, m), tt)
string-encloses at stops = stops

mutual
  unfolding tokens quote Member

  pub tokens-tags : (k : ℕ) (s : List ℕ) (n at : ℕ) → Finds Members (tokens k s n at)
  tokens-tags zero s n at = stops
  tokens-tags (suc k) s n at =
      let a = space s at in
      either (Finds Members) (eqb (kind (byte s a)) 0) _ _ (λ e. reads tt)
      (λ e. then-finds Members members-join _ (token-tags k s n a (eqb-false (kind (byte s a)) 0 e)) (λ b. tokens-tags k s n b))

  pub token-tags : (k : ℕ) (s : List ℕ) (n at : ℕ) → (kind (byte s at) ≡ 0 → ⊥) → Finds Members (token k s n at)
  token-tags zero s n at f = stops
  token-tags (suc k) s n at f =
      either (Finds Members) (eqb (kind (byte s at)) 0x06) _ _ (λ e. str-tags k s n at)
      (λ e. either (Finds Members) (eqb (kind (byte s at)) 0x07) _ _ (λ g. first_of (block-tags k s n at))
      (λ g. leaf_at-finds s at f (eqb-false (kind (byte s at)) 6 e) (eqb-false (kind (byte s at)) 7 g)))

  pub block-tags : (k : ℕ) (s : List ℕ) (n at : ℕ) → Finds Both (block k s n at)
  block-tags zero s n at = stops
  block-tags (suc k) s n at =
      either (Finds Both) (eqb n 0) _ _ (λ e. stops)
      (λ e. block-encloses at (then-finds Members members-join _ (tokens-tags k s (n - 1) (at + 1)) (λ b. close-finds (byte s at) s (space s b))))

  pub str-tags : (k : ℕ) (s : List ℕ) (n at : ℕ) → Finds Members (str k s n at)
  str-tags zero s n at = stops
  str-tags (suc k) s n at = either (Finds Members) (eqb n 0) _ _ (λ e. stops) (λ e. string-encloses at (parts-tags k s (n - 1) (at + 1)))

  pub parts-tags : (k : ℕ) (s : List ℕ) (n at : ℕ) → Finds Parts (parts k s n at)
  parts-tags zero s n at = stops
  parts-tags (suc k) s n at =
      let a = past text_byte s at in
      after-finds Parts parts_join (text at a) [] (text-parts at a)
      (either (Finds Parts) (eqb (byte s a) 0x5C) _ _
      (λ f. then-finds Parts parts_join _ (escape-tags k s n (a + 1)) (λ b. parts-tags k s n b))
      (λ f. either (Finds Parts) (eqb (byte s a) 0x22) _ _ (λ e. reads tt) (λ e. reads tt)))

  pub escape-tags : (k : ℕ) (s : List ℕ) (n at : ℕ) → Finds Parts (escape k s n at)
  escape-tags zero s n at = stops
  escape-tags (suc k) s n at = either (Finds Parts) (eqb (byte s at) 0x28) _ _ (λ e. second-of (block-tags k s n at)) (λ e. simple-finds s at)

pub whole-tags : (s : List ℕ) → Finds Members (whole s)
unfolding whole rest Member
whole-tags s =
    then-finds Members members-join _ (tokens-tags (3 * length s + 4) s 128 0)
    (λ b. either (Finds Members) (ltb (space s b) (length s)) _ _ (λ e. reads tt) (λ e. reads tt))
