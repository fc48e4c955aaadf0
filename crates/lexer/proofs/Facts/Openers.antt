-- "nesting over 128 in source; place: first opener that makes 129 open": with fuel enough, reading breaks off at an opener only, and only where fewer may be
-- opened than there are bytes. Assumes nothing.
use mathlib.Core.Path.{◌≡◌}
use mathlib.Core.List.{List, []}
use mathlib.Core.Logic.{◌⊎◌, inl, inr}
use Prim.Native.Nat.{ℕ, zero, suc, ◌+◌, ◌-◌, ◌*◌, ◌≤◌, ◌<◌}
use native.Mathlib.Omega.{arith}
use lib.ListN.{length}
use lib.Dec.{eqb, ltb}
use borrow.Author.Tests.{eqb-true, eqb-false}
use Rattle.lexer.specs.Token.{Tokens, Error}
use Rattle.lexer.specs.Scan.{byte, past}
use Rattle.lexer.specs.Space.{space}
use Rattle.lexer.specs.Word.{letter, digit}
use Rattle.lexer.specs.Sym.{operator}
use Rattle.lexer.specs.Kind.{kind}
use Rattle.lexer.specs.Escape.{named, hex_digit, hexes, surrogate, unicode, simple}
use Rattle.lexer.specs.Read.{Read, read, deep, after, and_then, enclose}
use Rattle.lexer.specs.Lex.{leaf_at, closing, close, text_byte, text, quote, tokens, token, block, str, parts, escape, rest, whole}
use Rattle.lexer.proofs.Facts.Cases.{either}
use Rattle.lexer.proofs.Facts.Onward.{Onward, byte-is, past-on, space-on}
use Rattle.lexer.proofs.Facts.Sound.{Sound, kind-in, tokens-sound, token-sound, escape-sound}
use Rattle.lexer.proofs.Facts.Sound as sound

-- a string or a block starts at the place
pub record Opener (s : List ℕ) (p : ℕ) : Type 0 where
  pub within : p < length s
  pub kind : (kind (byte s p) ≡ 0x06) ⊎ (kind (byte s p) ≡ 0x07)

-- c is the place where reading starts and how many may be opened, together
pub data Breaks (s : List ℕ) (c : ℕ) : Read → Type 0 where
  reads : {b : ℕ} {ts : Tokens} {es : List Error} → Breaks s c (read b ts es)
  stops : {p : ℕ} → Opener s p → c < length s → Breaks s c (deep p)

pub breaks-deep : {s : List ℕ} {c p : ℕ} → Breaks s c (deep p) → Opener s p
breaks-deep (stops o h) = o

-- where as many may be opened as there are bytes, all is read
pub breaks-not : {s : List ℕ} {c p : ℕ} → Breaks s c (deep p) → length s ≤ c → ⊥
breaks-not (stops o h) k = omega arith

fewer : {q : Read} (s : List ℕ) (c d : ℕ) → d ≤ c → Breaks s c q → Breaks s d q
fewer s c d h reads = reads
fewer s c d h (stops o k) = stops o (omega arith)

after-breaks : {q : Read} (s : List ℕ) (c : ℕ) (ts : Tokens) (es : List Error) → Breaks s c q → Breaks s c (after ts es q)
unfolding after
after-breaks s c ts es reads = reads
after-breaks s c ts es (stops o h) = stops o h

then-breaks : {q : Read} (s : List ℕ) (c at low : ℕ) (f : ℕ → Read) → Breaks s c q → Sound s at low q → ((b : ℕ) → Onward s low b → Breaks s c (f b))
    → Breaks s c (and_then q f)
unfolding and_then
then-breaks s c at low f reads (sound.reads {b} {ts} {es} r) g = after-breaks s c ts es (g b r.on)
then-breaks s c at low f (stops o h) z g = stops o h

enclose-breaks : {q : Read} (tag : ℕ) (s : List ℕ) (c at : ℕ) → Breaks s c q → Breaks s c (enclose tag at q)
unfolding enclose
enclose-breaks tag s c at reads = reads
enclose-breaks tag s c at (stops o h) = stops o h

-- ---- what nests nothing

leaf-breaks : (tag : ℕ) (s : List ℕ) (c at : ℕ) → Breaks s c (leaf_at tag s at)
unfolding leaf_at
leaf-breaks tag s c at = reads

close-breaks : (opener : ℕ) (s : List ℕ) (c at : ℕ) → Breaks s c (close opener s at)
unfolding close
close-breaks opener s c at = either (Breaks s c) (eqb (byte s at) (closing opener)) _ _ (λ e. reads) (λ e. reads)

unicode-breaks : (s : List ℕ) (c at : ℕ) → Breaks s c (unicode s at)
unfolding unicode
unicode-breaks s c at =
    either (Breaks s c) (ltb (past hex_digit s at) (at + 4)) _ _ (λ f. reads) (λ f. either (Breaks s c) (surrogate (hexes s at 4)) _ _ (λ g. reads) (λ g. reads))

simple-breaks : (s : List ℕ) (c at : ℕ) → Breaks s c (simple s at)
unfolding simple
simple-breaks s c at =
    either (Breaks s c) (eqb (byte s at) 0x75) _ _ (λ e. unicode-breaks s c (at + 1))
    (λ e. either (Breaks s c) (eqb (named (byte s at)) 0) _ _ (λ f. reads) (λ f. reads))

paren-kind : (b : ℕ) → b ≡ 0x28 → kind b ≡ 0x07
unfolding kind letter digit operator
paren-kind b e = rw e

-- ---- the cycle

mutual
  unfolding tokens quote

  pub tokens-breaks : (k : ℕ) (s : List ℕ) (n at : ℕ) → at ≤ length s → 3 * (length s - at) < k → Breaks s (at + n) (tokens k s n at)
  tokens-breaks zero s n at h p = absurd (omega arith)
  tokens-breaks (suc k) s n at h p =
      let o = space-on s at h in
      let a = space s at in
      either (Breaks s (at + n)) (eqb (kind (byte s a)) 0) _ _ (λ e. reads)
      (λ e. let g : a < length s = kind-in s a (eqb-false _ _ e) in
      fewer s (a + n) (at + n) (omega (arith, o.low))
      (then-breaks s (a + n) a (a + 1) _ (token-breaks k s n a g (omega (arith, o.low))) (token-sound k s n a g)
      (λ b z. fewer s (b + n) (a + n) (omega (arith, z.low)) (tokens-breaks k s n b z.high (omega (arith, o.low, z.low))))))

  pub token-breaks : (k : ℕ) (s : List ℕ) (n at : ℕ) → at < length s → 3 * (length s - at) ≤ k → Breaks s (at + n) (token k s n at)
  token-breaks zero s n at h p = absurd (omega arith)
  token-breaks (suc k) s n at h p =
      either (Breaks s (at + n)) (eqb (kind (byte s at)) 0x06) _ _
      (λ e. str-breaks k s n at (record { within = h; kind = inl (eqb-true (kind (byte s at)) 0x06 e) }) (omega arith))
      (λ e. either (Breaks s (at + n)) (eqb (kind (byte s at)) 0x07) _ _
      (λ f. block-breaks k s n at (record { within = h; kind = inr (eqb-true (kind (byte s at)) 0x07 f) }) (omega arith))
      (λ f. leaf-breaks (kind (byte s at)) s (at + n) at))

  pub block-breaks : (k : ℕ) (s : List ℕ) (n at : ℕ) → Opener s at → 3 * (length s - at) ≤ k + 1 → Breaks s (at + n) (block k s n at)
  block-breaks zero s n at o p = absurd (omega (arith, o.within))
  block-breaks (suc k) s n at o p =
      let h : at + 1 ≤ length s = omega (arith, o.within) in
      either (Breaks s (at + n)) (eqb n 0) _ _ (λ e. stops o (omega (arith, eqb-true n 0 e)))
      (λ e. let f : n ≡ 0 → ⊥ = eqb-false n 0 e in
      enclose-breaks 0x07 s (at + n) at
      (then-breaks s (at + n) (at + 1) (at + 1) _
      (fewer s (at + 1 + (n - 1)) (at + n) (omega arith) (tokens-breaks k s (n - 1) (at + 1) h (omega arith)))
      (tokens-sound k s (n - 1) (at + 1) h)
      (λ b z. close-breaks (byte s at) s (at + n) (space s b))))

  pub str-breaks : (k : ℕ) (s : List ℕ) (n at : ℕ) → Opener s at → 3 * (length s - at) ≤ k + 1 → Breaks s (at + n) (str k s n at)
  str-breaks zero s n at o p = absurd (omega (arith, o.within))
  str-breaks (suc k) s n at o p =
      let h : at + 1 ≤ length s = omega (arith, o.within) in
      either (Breaks s (at + n)) (eqb n 0) _ _ (λ e. stops o (omega (arith, eqb-true n 0 e)))
      (λ e. let f : n ≡ 0 → ⊥ = eqb-false n 0 e in
      enclose-breaks 0x06 s (at + n) at (fewer s (at + 1 + (n - 1)) (at + n) (omega arith) (parts-breaks k s (n - 1) (at + 1) h (omega arith))))

  pub parts-breaks : (k : ℕ) (s : List ℕ) (n at : ℕ) → at ≤ length s → 3 * (length s - at) < k → Breaks s (at + n) (parts k s n at)
  parts-breaks zero s n at h p = absurd (omega arith)
  parts-breaks (suc k) s n at h p =
      let o = past-on text_byte s at h in
      let a = past text_byte s at in
      after-breaks s (at + n) (text at a) []
      (either (Breaks s (at + n)) (eqb (byte s a) 0x5C) _ _
      (λ f. let g : a < length s = byte-is s a 0x5C (omega arith) f in
      fewer s (a + 1 + n) (at + n) (omega (arith, o.low))
      (then-breaks s (a + 1 + n) (a + 1) (a + 1) _
      (escape-breaks k s n (a + 1) (omega arith) (omega (arith, o.low))) (escape-sound k s n (a + 1) (omega arith))
      (λ b z. fewer s (b + n) (a + 1 + n) (omega (arith, z.low)) (parts-breaks k s n b z.high (omega (arith, o.low, z.low))))))
      (λ f. either (Breaks s (at + n)) (eqb (byte s a) 0x22) _ _ (λ e. reads) (λ e. reads)))

  pub escape-breaks : (k : ℕ) (s : List ℕ) (n at : ℕ) → at ≤ length s → 3 * (length s - at) < k → Breaks s (at + n) (escape k s n at)
  escape-breaks zero s n at h p = absurd (omega arith)
  escape-breaks (suc k) s n at h p =
      either (Breaks s (at + n)) (eqb (byte s at) 0x28) _ _
      (λ e. block-breaks k s n at
      (record { within = byte-is s at 0x28 (omega arith) e; kind = inr (paren-kind (byte s at) (eqb-true (byte s at) 0x28 e)) }) (omega arith))
      (λ e. simple-breaks s (at + n) at)

pub whole-breaks : (s : List ℕ) → Breaks s 128 (whole s)
unfolding whole rest
whole-breaks s =
    then-breaks s 128 0 0 _
    (fewer s (0 + 128) 128 (omega arith) (tokens-breaks (3 * length s + 4) s 128 0 (omega arith) (omega arith)))
    (tokens-sound (3 * length s + 4) s 128 0 (omega arith))
    (λ b z. either (Breaks s 128) (ltb (space s b) (length s)) _ _ (λ e. reads) (λ e. reads))
