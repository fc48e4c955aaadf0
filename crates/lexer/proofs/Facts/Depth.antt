-- "nesting over 128 in source; place: first opener that makes 129 open .. Source nesting counts open blocks and strings": how many may be opened decides only
-- whether reading breaks off, and where. Assumes nothing.
use mathlib.Core.Path.{◌≡◌, refl, sym, ap, ◌∙◌}
use mathlib.Core.List.{List, []}
use mathlib.Core.Option.{Option, some, or_else}
use Prim.Native.Nat.{ℕ, zero, suc, ◌+◌, ◌-◌, ◌*◌, ◌≤◌}
use native.Mathlib.Omega.{arith}
use lib.ListN.{length}
use lib.Dec.{eqb, ltb, eqb-suc-zero}
use Rattle.lexer.specs.Token.{Token, Tokens, leaf, char, group, none, more, join, Error}
use Rattle.lexer.specs.Scan.{byte, past}
use Rattle.lexer.specs.Space.{space}
use Rattle.lexer.specs.Kind.{kind}
use Rattle.lexer.specs.Escape.{named, hex_digit, hexes, surrogate, unicode, simple}
use Rattle.lexer.specs.Read.{Read, read, deep, after, and_then, enclose}
use Rattle.lexer.specs.Lex.{leaf_at, closing, close, text_byte, text, quote, tokens, token, block, str, parts, escape}
use Rattle.lexer.proofs.Facts.Cases.{either, alike}
use Rattle.lexer.proofs.Facts.Free.{tokens_at}
use Rattle.lexer.proofs.Facts.Openers.{Breaks, breaks-not, tokens-breaks}

-- the start of the first block or string with n others around it
unfoldable mutual
  pub over_in : Token → ℕ → Option ℕ
  over_in (leaf tag start size) n = Option.none
  over_in (char c) n = Option.none
  over_in (group tag start size ts) zero = some start
  over_in (group tag start size ts) (suc n) = over ts n

  pub over : Tokens → ℕ → Option ℕ
  over none n = Option.none
  over (more t ts) n = or_else (over_in t n) (over ts n)

-- what is read where more may be opened, and where n may: the same if no block or string has n others around it, else the latter breaks off at the first
-- that has
pub data Narrow (n : ℕ) : Read → Read → Type 0 where
  same : {b : ℕ} {ts : Tokens} {es : List Error} → over ts n ≡ Option.none → Narrow n (read b ts es) (read b ts es)
  first : {b p : ℕ} {ts : Tokens} {es : List Error} → over ts n ≡ some p → Narrow n (read b ts es) (deep p)
  both : {p p' : ℕ} → Narrow n (deep p) (deep p')

or-none : (x : Option ℕ) → or_else x Option.none ≡ x
unfolding or_else
or-none Option.none = refl
or-none (some p) = refl

or-or : (x y z : Option ℕ) → or_else (or_else x y) z ≡ or_else x (or_else y z)
unfolding or_else
or-or Option.none y z = refl
or-or (some p) y z = refl

over-join : (ts us : Tokens) (n : ℕ) → over (join ts us) n ≡ or_else (over ts n) (over us n)
unfolding over join or_else
over-join none us n = refl
over-join (more t ts) us n = ap (or_else (over_in t n)) (over-join ts us n) ∙ sym (or-or (over_in t n) (over ts n) (over us n))

-- ---- the ways in which reading is put together

over_none : (ts us : Tokens) (n : ℕ) → over ts n ≡ Option.none → over (join ts us) n ≡ over us n
unfolding or_else
over_none ts us n e = over-join ts us n ∙ rw e

over-some : (ts us : Tokens) (n p : ℕ) → over ts n ≡ some p → over (join ts us) n ≡ some p
unfolding or_else
over-some ts us n p e = over-join ts us n ∙ rw e

after-narrow : {q q' : Read} (n : ℕ) (ts : Tokens) (es : List Error) → over ts n ≡ Option.none → Narrow n q q' → Narrow n (after ts es q) (after ts es q')
unfolding after
after-narrow n ts es e (same {ts = us} f) = same (over_none ts us n e ∙ f)
after-narrow n ts es e (first {ts = us} f) = first (over_none ts us n e ∙ f)
after-narrow n ts es e both = both

after_first : {q q' : Read} (n p : ℕ) (ts : Tokens) (es : List Error) → over ts n ≡ some p → Narrow n q q' → Narrow n (after ts es q) (deep p)
unfolding after
after_first n p ts es e (same {ts = us} f) = first (over-some ts us n p e)
after_first n p ts es e (first {ts = us} f) = first (over-some ts us n p e)
after_first n p ts es e both = both

then-narrow : {q q' : Read} (n : ℕ) (f f' : ℕ → Read) → Narrow n q q' → ((b : ℕ) → Narrow n (f b) (f' b)) → Narrow n (and_then q f) (and_then q' f')
unfolding and_then
then-narrow n f f' (same {b} {ts} {es} e) g = after-narrow n ts es e (g b)
then-narrow n f f' (first {b} {p} {ts} {es} e) g = after_first n p ts es e (g b)
then-narrow n f f' both g = both

enclose-narrow : {q q' : Read} (tag n at : ℕ) → Narrow n q q' → Narrow (suc n) (enclose tag at q) (enclose tag at q')
unfolding enclose over
enclose-narrow tag n at (same {ts} e) = same (or-none (over ts n) ∙ e)
enclose-narrow tag n at (first {ts} e) = first (or-none (over ts n) ∙ e)
enclose-narrow tag n at both = both

-- no more may be opened
enclose-first : (q : Read) (tag at : ℕ) → Narrow 0 (enclose tag at q) (deep at)
unfolding enclose over or_else
enclose-first (read b ts es) tag at = first refl
enclose-first (deep p) tag at = both

-- ---- what nests nothing

-- nothing was found that nests
pub Level : ℕ → Read → Type 0
Level n q = Narrow n q q

leaf-level : (tag n : ℕ) (s : List ℕ) (at : ℕ) → Level n (leaf_at tag s at)
unfolding Level leaf_at over or_else
leaf-level tag n s at = same refl

close-level : (opener n : ℕ) (s : List ℕ) (at : ℕ) → Level n (close opener s at)
unfolding Level close over or_else
close-level opener n s at = either (λ q. Narrow n q q) (eqb (byte s at) (closing opener)) _ _ (λ e. same refl) (λ e. same refl)

unicode-level : (n : ℕ) (s : List ℕ) (at : ℕ) → Level n (unicode s at)
unfolding Level unicode over or_else
unicode-level n s at =
    either (λ q. Narrow n q q) (ltb (past hex_digit s at) (at + 4)) _ _ (λ f. same refl)
    (λ f. either (λ q. Narrow n q q) (surrogate (hexes s at 4)) _ _ (λ g. same refl) (λ g. same refl))

simple-level : (n : ℕ) (s : List ℕ) (at : ℕ) → Level n (simple s at)
unfolding Level simple over or_else
simple-level n s at =
    either (λ q. Narrow n q q) (eqb (byte s at) 0x75) _ _ (λ e. unicode-level n s (at + 1))
    (λ e. either (λ q. Narrow n q q) (eqb (named (byte s at)) 0) _ _ (λ f. same refl) (λ f. same refl))

text-over : (at b n : ℕ) → over (text at b) n ≡ Option.none
unfolding text over or_else
text-over at b n = either (λ ts. over ts n ≡ Option.none) (eqb b at) _ _ (λ e. refl) (λ e. refl)

-- ---- the cycle

mutual
  unfolding tokens quote Level over

  pub tokens-narrow : (k : ℕ) (s : List ℕ) (m n at : ℕ) → n ≤ m → Narrow n (tokens k s m at) (tokens k s n at)
  tokens-narrow zero s m n at h = both
  tokens-narrow (suc k) s m n at h =
      let a = space s at in
      alike (Narrow n) (eqb (kind (byte s a)) 0) _ _ _ _ (λ e. same refl)
      (λ e. then-narrow n _ _ (token-narrow k s m n a h) (λ b. tokens-narrow k s m n b h))

  pub token-narrow : (k : ℕ) (s : List ℕ) (m n at : ℕ) → n ≤ m → Narrow n (token k s m at) (token k s n at)
  token-narrow zero s m n at h = both
  token-narrow (suc k) s m n at h =
      alike (Narrow n) (eqb (kind (byte s at)) 0x06) _ _ _ _ (λ e. str-narrow k s m n at h)
      (λ e. alike (Narrow n) (eqb (kind (byte s at)) 0x07) _ _ _ _ (λ f. block-narrow k s m n at h) (λ f. leaf-level (kind (byte s at)) n s at))

  pub block-narrow : (k : ℕ) (s : List ℕ) (m n at : ℕ) → n ≤ m → Narrow n (block k s m at) (block k s n at)
  block-narrow zero s m n at h = both
  block-narrow (suc k) s m zero at h = either (λ q. Narrow 0 q (deep at)) (eqb m 0) _ _ (λ e. both) (λ e. enclose-first _ 0x07 at)
  block-narrow (suc k) s zero (suc n) at h = absurd (omega arith)
  block-narrow (suc k) s (suc m) (suc n) at h =
      let d : suc m - 1 ≡ m = omega arith in
      let e : suc n - 1 ≡ n = omega arith in
      rw (eqb-suc-zero m, eqb-suc-zero n, d, e)
      (enclose-narrow 0x07 n at (then-narrow n _ _ (tokens-narrow k s m n (at + 1) (omega arith)) (λ b. close-level (byte s at) n s (space s b))))

  pub str-narrow : (k : ℕ) (s : List ℕ) (m n at : ℕ) → n ≤ m → Narrow n (str k s m at) (str k s n at)
  str-narrow zero s m n at h = both
  str-narrow (suc k) s m zero at h = either (λ q. Narrow 0 q (deep at)) (eqb m 0) _ _ (λ e. both) (λ e. enclose-first _ 0x06 at)
  str-narrow (suc k) s zero (suc n) at h = absurd (omega arith)
  str-narrow (suc k) s (suc m) (suc n) at h =
      let d : suc m - 1 ≡ m = omega arith in
      let e : suc n - 1 ≡ n = omega arith in
      rw (eqb-suc-zero m, eqb-suc-zero n, d, e) (enclose-narrow 0x06 n at (parts-narrow k s m n (at + 1) (omega arith)))

  pub parts-narrow : (k : ℕ) (s : List ℕ) (m n at : ℕ) → n ≤ m → Narrow n (parts k s m at) (parts k s n at)
  parts-narrow zero s m n at h = both
  parts-narrow (suc k) s m n at h =
      let a = past text_byte s at in
      after-narrow n (text at a) [] (text-over at a n)
      (alike (Narrow n) (eqb (byte s a) 0x5C) _ _ _ _
      (λ f. then-narrow n _ _ (escape-narrow k s m n (a + 1) h) (λ b. parts-narrow k s m n b h))
      (λ f. alike (Narrow n) (eqb (byte s a) 0x22) _ _ _ _ (λ e. same refl) (λ e. same refl)))

  pub escape-narrow : (k : ℕ) (s : List ℕ) (m n at : ℕ) → n ≤ m → Narrow n (escape k s m at) (escape k s n at)
  escape-narrow zero s m n at h = both
  escape-narrow (suc k) s m n at h = alike (Narrow n) (eqb (byte s at) 0x28) _ _ _ _ (λ e. block-narrow k s m n at h) (λ e. simple-level n s at)

-- ---- in words of the results

narrow-same : {n b : ℕ} {ts : Tokens} {es : List Error} {q : Read} → Narrow n (read b ts es) q → over ts n ≡ Option.none → q ≡ read b ts es
narrow-same (same e) f = refl
narrow-same (first e) f = absurd (let z : ◌≡◌ {A = ℕ} 0 1 = cc in omega arith)

narrow-first : {n b p : ℕ} {ts : Tokens} {es : List Error} {q : Read} → Narrow n (read b ts es) q → over ts n ≡ some p → q ≡ deep p
narrow-first (same e) f = absurd (let z : ◌≡◌ {A = ℕ} 0 1 = cc in omega arith)
narrow-first (first {p = r} e) f = ap deep (let z : r ≡ _ = cc in z)

narrow-refused : {n b p : ℕ} {ts : Tokens} {es : List Error} → Narrow n (read b ts es) (deep p) → over ts n ≡ some p
narrow-refused (first e) = e

module _ (s : List ℕ) (m n at : ℕ) (fewer : n ≤ m) (b : ℕ) (ts : Tokens) (es : List Error) (all : tokens_at s m at ≡ read b ts es) where
  narrowed : Narrow n (read b ts es) (tokens_at s n at)
  unfolding tokens_at
  narrowed = rw all at (tokens-narrow (3 * length s + 4) s m n at fewer)

  -- no block or string has n others around it: the same is read
  pub depth-kept : over ts n ≡ Option.none → tokens_at s n at ≡ read b ts es
  depth-kept e = narrow-same narrowed e

  -- one has: reading breaks off at the first that does
  pub depth-over : (p : ℕ) → over ts n ≡ some p → tokens_at s n at ≡ deep p
  depth-over p e = narrow-first narrowed e

  -- and for no other reason
  pub depth-refused : (p : ℕ) → tokens_at s n at ≡ deep p → over ts n ≡ some p
  depth-refused p e = narrow-refused (rw e at narrowed)

-- what was read
pub record Result (q : Read) : Type 0 where
  pub at : ℕ
  pub row : Tokens
  pub errors : List Error
  pub is : q ≡ read at row errors

-- where as many may be opened as there are bytes, reading never breaks off
pub depth-enough : (s : List ℕ) (m : ℕ) → length s ≤ m → Result (tokens_at s m 0)
unfolding tokens_at
depth-enough s m h = go (tokens (3 * length s + 4) s m 0) refl (tokens-breaks (3 * length s + 4) s m 0 (omega arith) (omega arith))
  where
    go : (q : Read) → tokens (3 * length s + 4) s m 0 ≡ q → Breaks s (0 + m) q → Result (tokens (3 * length s + 4) s m 0)
    go (read b ts es) e z = record { at = b; row = ts; errors = es; is = e }
    go (deep p) e z = absurd (breaks-not z (omega arith))
