-- Reading from a place on ends within the source; its tokens stand in a row between the two places, and so do its errors. For every fuel and every
-- nesting allowed. Assumes nothing.
use mathlib.Core.Path.{◌≡◌}
use mathlib.Core.List.{List, [], ◌++◌}
use Prim.Native.Nat.{ℕ, zero, suc, ◌+◌, ◌-◌, ◌*◌, ◌≤◌, ◌<◌}
use native.Mathlib.Omega.{arith}
use lib.ListN.{length}
use lib.Dec.{eqb, ltb}
use borrow.Author.Tests.{eqb-false, ltb-false}
use Rattle.lexer.specs.Token.{Token, Tokens, leaf, char, group, one, join, Expect, Error, missing}
use Rattle.lexer.specs.Scan.{byte, past}
use Rattle.lexer.specs.Space.{space}
use Rattle.lexer.specs.Word.{letter, digit}
use Rattle.lexer.specs.Sym.{operator}
use Rattle.lexer.specs.Kind.{kind, plain}
use Rattle.lexer.specs.Escape.{named, hex_digit, hexes, surrogate, unicode, simple}
use Rattle.lexer.specs.Read.{Read, read, deep, nothing, found, wrong, after, and_then, enclose}
use Rattle.lexer.specs.Lex.{leaf_at, closing, close, text_byte, text, quote, tokens, token, block, str, parts, escape, rest, whole}
use Rattle.lexer.proofs.Facts.Cases.{either}
use Rattle.lexer.proofs.Facts.Onward.{Onward, stay, byte-in, byte-is, past-on, space-on}
use Rattle.lexer.proofs.Facts.Shape.{Lies, Row, Rising, stands}
use Rattle.lexer.proofs.Facts.Spans.{row_low, row-wide, row-join, rising-wide, rising-join, rising-one, rising_none}
use Rattle.lexer.proofs.Facts.Scans.{plain-on}

-- what is read from `at` on ends at b, not before `low`
pub record Span (s : List ℕ) (at low b : ℕ) (ts : Tokens) (es : List Error) : Type 0 where
  pub on : Onward s low b
  pub tokens : Row ts at b
  pub errors : Rising es at b

pub data Sound (s : List ℕ) (at low : ℕ) : Read → Type 0 where
  reads : {b : ℕ} {ts : Tokens} {es : List Error} → Span s at low b ts es → Sound s at low (read b ts es)
  stops : {p : ℕ} → Onward s at p → Sound s at low (deep p)

pub sound-read : {s : List ℕ} {at low b : ℕ} {ts : Tokens} {es : List Error} → Sound s at low (read b ts es) → Span s at low b ts es
sound-read (reads r) = r

pub sound-deep : {s : List ℕ} {at low p : ℕ} → Sound s at low (deep p) → Onward s at p
sound-deep (stops o) = o

pub sound-on : {q : Read} (s : List ℕ) (at low : ℕ) → Sound s at low q → Onward s at (stands q)
sound-on s at low (reads {b} {ts} r) = record { low = row_low ts at b r.tokens; high = r.on.high }
sound-on s at low (stops o) = o

-- ---- the ways in which reading is put together

nothing-sound : (s : List ℕ) (at b : ℕ) → Onward s at b → Sound s at b (nothing b)
unfolding Lies
nothing-sound s at b o = reads record { on = stay s b o.high; tokens = o.low; errors = rising_none at b o.low }

found-sound : (t : Token) (s : List ℕ) (at b : ℕ) → Onward s at b → Row (one t) at b → Sound s at b (found t b)
found-sound t s at b o r = reads record { on = stay s b o.high; tokens = r; errors = rising_none at b o.low }

wrong-sound : (x : Expect) (s : List ℕ) (at b : ℕ) → Onward s at b → Sound s at b (wrong x b)
unfolding Lies
wrong-sound x s at b o = reads record { on = stay s b o.high; tokens = o.low; errors = rising-one (missing x b) at b o.low (omega arith) }

-- less is said of where it ends, and of where it started
weaker : {q : Read} (s : List ℕ) (at low at' low' : ℕ) → at' ≤ at → low' ≤ low → Sound s at low q → Sound s at' low' q
weaker s at low at' low' h k (reads {b} {ts} {es} r) = reads {b = b} {ts = ts} {es = es} record {
  on = record { low = omega (arith, r.on.low); high = r.on.high };
  tokens = row-wide ts at b at' b h (omega arith) r.tokens;
  errors = rising-wide es at b at' b h (omega arith) r.errors;
}
weaker s at low at' low' h k (stops {p} o) = stops {p = p} record { low = omega (arith, o.low); high = o.high }

after-sound : {q : Read} (s : List ℕ) (at b low : ℕ) (ts : Tokens) (es : List Error) → Row ts at b → Rising es at b → Sound s b low q
    → Sound s at low (after ts es q)
unfolding after
after-sound s at b low ts es r e (reads {b = c} {ts = us} {es = fs} z) = reads {b = c} {ts = join ts us} {es = es ++ fs} record {
  on = z.on;
  tokens = row-join ts us at b c r z.tokens;
  errors = rising-join es fs at b c e z.errors;
}
after-sound s at b low ts es r e (stops {p} o) = stops {p = p} record { low = omega (arith, row_low ts at b r, o.low); high = o.high }

then-sound : {q : Read} (s : List ℕ) (at low low' : ℕ) (f : ℕ → Read) → Sound s at low q → ((b : ℕ) → Onward s low b → Sound s b low' (f b))
    → Sound s at low' (and_then q f)
unfolding and_then
then-sound s at low low' f (reads {b} {ts} {es} r) g = after-sound s at b low' ts es r.tokens r.errors (g b r.on)
then-sound s at low low' f (stops o) g = stops o

enclose-sound : {q : Read} (tag : ℕ) (s : List ℕ) (at : ℕ) → Sound s (at + 1) (at + 1) q → Sound s at (at + 1) (enclose tag at q)
unfolding enclose Lies
enclose-sound tag s at (reads {b} {ts} {es} r) =
    let h : at + (b - at) ≡ b = omega (arith, r.on.low) in
    reads {b = b} {ts = one (group tag at (b - at) ts)} {es = es} record {
      on = r.on;
      tokens = ((omega arith, omega (arith, r.on.low), omega (arith, r.on.low), rw h r.tokens), omega (arith, r.on.low));
      errors = rising-wide es (at + 1) b at b (omega arith) (omega arith) r.errors;
    }
enclose-sound tag s at (stops {p} o) = stops {p = p} record { low = omega (arith, o.low); high = o.high }

-- ---- what nests nothing

leaf-row : (tag at b : ℕ) → at + 1 ≤ b → Row (one (leaf tag at (b - at))) at b
unfolding Lies
leaf-row tag at b h = omega arith

leaf_at-sound : (tag : ℕ) (s : List ℕ) (at : ℕ) → at < length s → Sound s at (at + 1) (leaf_at tag s at)
unfolding leaf_at
leaf_at-sound tag s at h =
    let q = plain-on tag s at h in
    let b = (plain tag s at).at in
    reads record { on = q.on; tokens = leaf-row tag at b q.on.low; errors = rising-wide _ (at + 1) b at b (omega arith) (omega arith) q.errors }

close-sound : (opener : ℕ) (s : List ℕ) (at : ℕ) → 0 < closing opener → at ≤ length s → Sound s at at (close opener s at)
unfolding close Lies
close-sound opener s at c h =
    either (Sound s at at) (eqb (byte s at) (closing opener)) _ _
    (λ e. let k : at < length s = byte-is s at (closing opener) c e in
    weaker s at (at + 1) at at (omega arith) (omega arith) (found-sound _ s at (at + 1) (record { low = omega arith; high = omega arith }) (omega arith)))
    (λ e. wrong-sound _ s at at (stay s at h))

closing-some : (opener : ℕ) → 0 < closing opener
unfolding closing
closing-some opener =
    either (λ n. 0 < n) (eqb opener 0x28) _ _ (λ e. omega arith)
    (λ e. either (λ n. 0 < n) (eqb opener 0x5B) _ _ (λ e. omega arith) (λ e. omega arith))

text-row : (at b : ℕ) → at ≤ b → Row (text at b) at b
unfolding text Lies
text-row at b h =
    either (λ ts. Row ts at b) (eqb b at) _ _ (λ e. h) (λ e. let f : b ≡ at → ⊥ = eqb-false b at e in omega arith)

-- a character that was read since a place
char-sound : (c : ℕ) (s : List ℕ) (at b : ℕ) → Onward s at b → Sound s at at (found (char c) b)
unfolding Lies
char-sound c s at b o = weaker s at b at at (omega arith) o.low (found-sound (char c) s at b o (omega (arith, o.low)))

wrong-at : (x : Expect) (s : List ℕ) (at b : ℕ) → Onward s at b → Sound s at at (wrong x b)
wrong-at x s at b o = weaker s at b at at (omega arith) o.low (wrong-sound x s at b o)

pub unicode-sound : (s : List ℕ) (at : ℕ) → at ≤ length s → Sound s at at (unicode s at)
unfolding unicode
unicode-sound s at h =
    let o = past-on hex_digit s at h in
    either (Sound s at at) (ltb (past hex_digit s at) (at + 4)) _ _ (λ e. wrong-at _ s at _ o)
    (λ e. either (Sound s at at) (surrogate (hexes s at 4)) _ _ (λ f. wrong-at _ s at at (stay s at h))
    (λ f. char-sound _ s at (at + 4) (record { low = omega arith; high = omega (arith, ltb-false (past hex_digit s at) (at + 4) e, o.high) })))

pub simple-sound : (s : List ℕ) (at : ℕ) → at ≤ length s → Sound s at at (simple s at)
unfolding simple named
simple-sound s at h =
    either (Sound s at at) (eqb (byte s at) 0x75) _ _
    (λ e. let k : at + 1 ≤ length s = omega (arith, byte-is s at 0x75 (omega arith) e) in
    weaker s (at + 1) (at + 1) at at (omega arith) (omega arith) (unicode-sound s (at + 1) k))
    (λ e. either (Sound s at at) (eqb (named (byte s at)) 0) _ _ (λ f. wrong-at _ s at at (stay s at h))
    (λ f. let k : at < length s = byte-in s at (λ z. eqb-false (named (byte s at)) 0 f (rw z)) in
    char-sound _ s at (at + 1) (record { low = omega arith; high = omega arith })))

-- ---- the cycle

-- a byte that starts a token stands within the source
pub kind-in : (s : List ℕ) (at : ℕ) → (kind (byte s at) ≡ 0 → ⊥) → at < length s
unfolding kind letter digit operator
kind-in s at f = byte-in s at (λ z. f (rw z))

quote-sound : (s : List ℕ) (a : ℕ) → a ≤ length s → Sound s a a (quote s a)
unfolding quote
quote-sound s a h =
    either (Sound s a a) (eqb (byte s a) 0x22) _ _
    (λ e. let k : a < length s = byte-is s a 0x22 (omega arith) e in
    weaker s a (a + 1) a a (omega arith) (omega arith) (nothing-sound s a (a + 1) (record { low = omega arith; high = omega arith })))
    (λ e. wrong-at _ s a a (stay s a h))

mutual
  unfolding tokens

  pub tokens-sound : (k : ℕ) (s : List ℕ) (n at : ℕ) → at ≤ length s → Sound s at at (tokens k s n at)
  tokens-sound zero s n at h = stops (stay s at h)
  tokens-sound (suc k) s n at h =
      let o = space-on s at h in
      let a = space s at in
      either (Sound s at at) (eqb (kind (byte s a)) 0) _ _
      (λ e. weaker s at a at at (omega arith) o.low (nothing-sound s at a o))
      (λ e. weaker s a (a + 1) at at o.low (omega (arith, o.low))
      (then-sound s a (a + 1) (a + 1) _ (token-sound k s n a (kind-in s a (eqb-false _ _ e)))
      (λ b p. weaker s b b b (a + 1) (omega arith) p.low (tokens-sound k s n b p.high))))

  pub token-sound : (k : ℕ) (s : List ℕ) (n at : ℕ) → at < length s → Sound s at (at + 1) (token k s n at)
  token-sound zero s n at h = stops (stay s at (omega arith))
  token-sound (suc k) s n at h =
      either (Sound s at (at + 1)) (eqb (kind (byte s at)) 0x06) _ _ (λ e. str-sound k s n at h)
      (λ e. either (Sound s at (at + 1)) (eqb (kind (byte s at)) 0x07) _ _ (λ f. block-sound k s n at h) (λ f. leaf_at-sound (kind (byte s at)) s at h))

  pub block-sound : (k : ℕ) (s : List ℕ) (n at : ℕ) → at < length s → Sound s at (at + 1) (block k s n at)
  block-sound zero s n at h = stops (stay s at (omega arith))
  block-sound (suc k) s n at h =
      either (Sound s at (at + 1)) (eqb n 0) _ _ (λ e. stops (stay s at (omega arith)))
      (λ e. enclose-sound 0x07 s at
      (then-sound s (at + 1) (at + 1) (at + 1) _ (tokens-sound k s (n - 1) (at + 1) (omega arith))
      (λ b p. let o = space-on s b p.high in
      weaker s (space s b) (space s b) b (at + 1) o.low (omega (arith, o.low, p.low))
      (close-sound (byte s at) s (space s b) (closing-some (byte s at)) o.high))))

  pub str-sound : (k : ℕ) (s : List ℕ) (n at : ℕ) → at < length s → Sound s at (at + 1) (str k s n at)
  str-sound zero s n at h = stops (stay s at (omega arith))
  str-sound (suc k) s n at h =
      either (Sound s at (at + 1)) (eqb n 0) _ _ (λ e. stops (stay s at (omega arith)))
      (λ e. enclose-sound 0x06 s at (parts-sound k s (n - 1) (at + 1) (omega arith)))

  pub parts-sound : (k : ℕ) (s : List ℕ) (n at : ℕ) → at ≤ length s → Sound s at at (parts k s n at)
  parts-sound zero s n at h = stops (stay s at h)
  parts-sound (suc k) s n at h =
      let o = past-on text_byte s at h in
      let a = past text_byte s at in
      after-sound s at a at (text at a) [] (text-row at a o.low) (rising_none at a o.low)
      (either (Sound s a at) (eqb (byte s a) 0x5C) _ _
      (λ f. let g : a < length s = byte-is s a 0x5C (omega arith) f in
      weaker s (a + 1) (a + 1) a at (omega arith) (omega (arith, o.low))
      (then-sound s (a + 1) (a + 1) (a + 1) _ (escape-sound k s n (a + 1) (omega arith))
      (λ b p. weaker s b b b (a + 1) (omega arith) p.low (parts-sound k s n b p.high))))
      (λ f. weaker s a a a at (omega arith) o.low (quote-sound s a o.high)))

  pub escape-sound : (k : ℕ) (s : List ℕ) (n at : ℕ) → at ≤ length s → Sound s at at (escape k s n at)
  escape-sound zero s n at h = stops (stay s at h)
  escape-sound (suc k) s n at h =
      either (Sound s at at) (eqb (byte s at) 0x28) _ _
      (λ e. weaker s at (at + 1) at at (omega arith) (omega arith) (block-sound k s n at (byte-is s at 0x28 (omega arith) e)))
      (λ e. simple-sound s at h)

rest-sound : (s : List ℕ) (at : ℕ) → at ≤ length s → Sound s at at (rest s at)
unfolding rest
rest-sound s at h = either (Sound s at at) (ltb at (length s)) _ _ (λ e. wrong-at _ s at at (stay s at h)) (λ e. nothing-sound s at at (stay s at h))

pub whole-sound : (s : List ℕ) → Sound s 0 0 (whole s)
unfolding whole
whole-sound s =
    then-sound s 0 0 0 _ (tokens-sound (3 * length s + 4) s 128 0 (omega arith))
    (λ b p. let o = space-on s b p.high in weaker s (space s b) (space s b) b 0 o.low (omega arith) (rest-sound s (space s b) o.high))
