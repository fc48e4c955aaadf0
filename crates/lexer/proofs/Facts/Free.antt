-- The cycle free of its fuel: each member with as much as is enough for any place of the source, and the equations that a reader expects of it, in the
-- words of document 01. Assumes nothing.
use mathlib.Core.Path.{◌≡◌, refl, ap, ◌∙◌}
use mathlib.Core.Bool.{Bool, true, false, cond}
use mathlib.Core.List.{List, [], ◌∷◌, ◌++◌, append-nil}
use mathlib.Core.Logic.{◌⊎◌, inl, inr, ⊎_elim}
use Prim.Native.Nat.{ℕ, suc, ◌+◌, ◌-◌, ◌*◌, ◌≤◌, ◌<◌}
use native.Mathlib.Omega.{arith}
use lib.ListN.{length, drop, get_or, length-drop, get_or-eq_default}
use lib.Seq.{get_or-drop}
use lib.Dec.{eqb, ltb, eqb-suc-zero}
use borrow.Author.Tests.{eqb-true, eq-eqb, ne_eqb, lt-ltb, le-ltb, not-false}
use Rattle.lexer.specs.Token.{Tokens, leaf, none, more, join, Expect, closer, Error, missing}
use Rattle.lexer.specs.Scan.{byte, run, past}
use Rattle.lexer.specs.Space.{space}
use Rattle.lexer.specs.Kind.{kind}
use Rattle.lexer.specs.Escape.{simple}
use Rattle.lexer.specs.Read.{Read, read, deep, nothing, found, wrong, after, and_then, enclose}
use Rattle.lexer.specs.Lex.{leaf_at, closing, close, text_byte, text, quote, tokens, token, block, str, parts, escape, rest, whole}
use Rattle.lexer.proofs.Facts.Cases.{either}
use Rattle.lexer.proofs.Facts.Onward.{byte-is}
use Rattle.lexer.proofs.Facts.Sound.{kind-in}
use Rattle.lexer.proofs.Facts.Fuel.{tokens-fuel, token-fuel, block-fuel, str-fuel, parts-fuel, escape-fuel}

join-none : (ts : Tokens) → join ts none ≡ ts
unfolding join
join-none none = refl
join-none (more t ts) = ap (more t) (join-none ts)

-- three for each byte, and four more
abbrev enough : List ℕ → ℕ
enough s = 3 * length s + 4

unfoldable pub tokens_at : List ℕ → ℕ → ℕ → Read
tokens_at s n at = tokens (3 * length s + 4) s n at

unfoldable pub token_at : List ℕ → ℕ → ℕ → Read
token_at s n at = token (3 * length s + 4) s n at

unfoldable pub block_at : List ℕ → ℕ → ℕ → Read
block_at s n at = block (3 * length s + 4) s n at

unfoldable pub str_at : List ℕ → ℕ → ℕ → Read
str_at s n at = str (3 * length s + 4) s n at

unfoldable pub parts_at : List ℕ → ℕ → ℕ → Read
parts_at s n at = parts (3 * length s + 4) s n at

unfoldable pub escape_at : List ℕ → ℕ → ℕ → Read
escape_at s n at = escape (3 * length s + 4) s n at

-- ---- the equations of the cycle

module _ (s : List ℕ) (n at : ℕ) where
  -- a byte that starts no token, such as a closer: nothing more is found
  pub tokens_none : at ≤ length s → kind (byte s (space s at)) ≡ 0 → tokens_at s n at ≡ nothing (space s at)
  unfolding tokens tokens_at
  tokens_none h e =
      tokens-fuel (enough s) (suc (enough s)) s n at h (omega arith) (omega arith) ∙ rw (eq-eqb (kind (byte s (space s at))) 0 e)

  -- a token, and then the tokens behind it
  pub tokens-more : at ≤ length s → (kind (byte s (space s at)) ≡ 0 → ⊥) → tokens_at s n at ≡ and_then (token_at s n (space s at)) (tokens_at s n)
  unfolding tokens tokens_at token_at
  tokens-more h e =
      tokens-fuel (enough s) (suc (enough s)) s n at h (omega arith) (omega arith) ∙ rw (ne_eqb (kind (byte s (space s at))) 0 e)

  pub token-string : kind (byte s at) ≡ 0x06 → token_at s n at ≡ str_at s n at
  unfolding tokens token_at str_at
  token-string e =
      let h : at < length s = kind-in s at (omega arith) in
      token-fuel (enough s) (suc (enough s)) s n at h (omega arith) (omega arith) ∙ rw e

  pub token_block : kind (byte s at) ≡ 0x07 → token_at s n at ≡ block_at s n at
  unfolding tokens token_at block_at
  token_block e =
      let h : at < length s = kind-in s at (omega arith) in
      token-fuel (enough s) (suc (enough s)) s n at h (omega arith) (omega arith) ∙ rw e

  -- a Word, Var, Fmt, Num or Sym
  pub token-plain : (tag : ℕ) → 1 ≤ tag → tag ≤ 5 → kind (byte s at) ≡ tag → token_at s n at ≡ leaf_at tag s at
  unfolding tokens token_at
  token-plain tag low high e =
      let h : at < length s = kind-in s at (omega arith) in
      let f : tag ≡ 0x06 → ⊥ = omega arith in
      let g : tag ≡ 0x07 → ⊥ = omega arith in
      token-fuel (enough s) (suc (enough s)) s n at h (omega arith) (omega arith) ∙ rw (e, ne_eqb tag 0x06 f, ne_eqb tag 0x07 g)

  -- ".. `\(` block"
  pub escape-block : byte s at ≡ 0x28 → escape_at s n at ≡ block_at s n at
  unfolding tokens escape_at block_at
  escape-block e =
      let t : eqb (byte s at) 0x28 ≡ true = eq-eqb (byte s at) 0x28 e in
      let h : at < length s = byte-is s at 0x28 (omega arith) t in
      escape-fuel (enough s) (suc (enough s)) s n at (omega arith) (omega arith) (omega arith) ∙ rw t

  pub escape-simple : at ≤ length s → (byte s at ≡ 0x28 → ⊥) → escape_at s n at ≡ simple s at
  unfolding tokens escape_at
  escape-simple h e =
      escape-fuel (enough s) (suc (enough s)) s n at h (omega arith) (omega arith) ∙ rw (ne_eqb (byte s at) 0x28 e)

  -- "String: nonempty runs free of `\` and `"`; escapes ..": a run, and the quote that ends the string
  pub parts-quote : at ≤ length s → byte s (past text_byte s at) ≡ 0x22
      → parts_at s n at ≡ after (text at (past text_byte s at)) [] (nothing (past text_byte s at + 1))
  unfolding tokens quote parts_at
  parts-quote h e =
      parts-fuel (enough s) (suc (enough s)) s n at h (omega arith) (omega arith) ∙ rw e

  -- a run, an escape, and what follows it
  pub parts-escape : at ≤ length s → byte s (past text_byte s at) ≡ 0x5C
      → parts_at s n at ≡ after (text at (past text_byte s at)) [] (and_then (escape_at s n (past text_byte s at + 1)) (parts_at s n))
  unfolding tokens parts_at escape_at
  parts-escape h e =
      parts-fuel (enough s) (suc (enough s)) s n at h (omega arith) (omega arith) ∙ rw e

  -- "End of input is Delim with `"`."
  pub parts-end : at ≤ length s → past text_byte s at ≡ length s → parts_at s n at ≡ after (text at (length s)) [] (wrong (closer 0x22) (length s))
  unfolding tokens quote parts_at
  parts-end h e =
      let z : byte s (length s) ≡ 0 = get_or-eq_default s 0 (omega arith) in
      parts-fuel (enough s) (suc (enough s)) s n at h (omega arith) (omega arith) ∙ rw (e, z)

-- a run ends with the source, or at a byte that does not pass
run-stop : (p : ℕ → Bool) (s : List ℕ) → (run p s ≡ length s) ⊎ (p (get_or s (run p s) 0) ≡ false)
unfolding run
run-stop p [] = inl refl
run-stop p (b ∷ s) = go (p b) refl (run-stop p s)
  where
    go : (t : Bool) → p b ≡ t → (run p s ≡ length s) ⊎ (p (get_or s (run p s) 0) ≡ false)
        → (cond t (suc (run p s)) 0 ≡ suc (length s)) ⊎ (p (get_or (b ∷ s) (cond t (suc (run p s)) 0) 0) ≡ false)
    go true e r = ⊎_elim (λ q. inl (ap suc q)) (λ q. inr q) r
    go false e r = inr e

pub past_stop : (p : ℕ → Bool) (s : List ℕ) (at : ℕ) → at ≤ length s → (past p s at ≡ length s) ⊎ (p (byte s (past p s at)) ≡ false)
unfolding past
past_stop p s at h =
    ⊎_elim (λ e. inl (omega (arith, length-drop at s, e)))
    (λ (e : p (get_or (drop at s) (run p (drop at s)) 0) ≡ false). inr (rw get_or-drop at e)) (run-stop p (drop at s))

-- so a string's run ends in one of the three ways above
pub parts-ways : (s : List ℕ) (at : ℕ) → at ≤ length s
    → (past text_byte s at ≡ length s) ⊎ ((byte s (past text_byte s at) ≡ 0x5C) ⊎ (byte s (past text_byte s at) ≡ 0x22))
unfolding text_byte
parts-ways s at h = ⊎_elim inl (λ e. inr (go (eqb b 0x5C) (eqb b 0x22) refl refl (not-false _ e))) (past_stop text_byte s at h)
  where
    b : ℕ
    b = byte s (past text_byte s at)

    go : (t u : Bool) → eqb b 0x5C ≡ t → eqb b 0x22 ≡ u → cond t true (cond u true false) ≡ true → (b ≡ 0x5C) ⊎ (b ≡ 0x22)
    go true u e f g = inl (eqb-true b 0x5C e)
    go false true e f g = inr (eqb-true b 0x22 f)
    go false false e f g = absurd (let z : ◌≡◌ {A = ℕ} 0 1 = cc in omega arith)

-- "nesting over 128": no more may be opened
pub block-deep : (s : List ℕ) (at : ℕ) → at < length s → block_at s 0 at ≡ deep at
unfolding tokens block_at
block-deep s at h = block-fuel (enough s) (suc (enough s)) s 0 at h (omega arith) (omega arith)

pub string-deep : (s : List ℕ) (at : ℕ) → at < length s → str_at s 0 at ≡ deep at
unfolding tokens str_at
string-deep s at h = str-fuel (enough s) (suc (enough s)) s 0 at h (omega arith) (omega arith)

-- "Block: opener, tokens, space, matching closer"
pub block-opens : (s : List ℕ) (n at : ℕ) → at < length s
    → block_at s (suc n) at ≡ enclose 0x07 at (and_then (tokens_at s n (at + 1)) (λ b. close (byte s at) s (space s b)))
unfolding tokens block_at tokens_at
block-opens s n at h =
    let e : suc n - 1 ≡ n = omega arith in
    block-fuel (enough s) (suc (enough s)) s (suc n) at h (omega arith) (omega arith) ∙ rw (eqb-suc-zero n, e)

pub string-opens : (s : List ℕ) (n at : ℕ) → at < length s → str_at s (suc n) at ≡ enclose 0x06 at (parts_at s n (at + 1))
unfolding tokens str_at parts_at
string-opens s n at h =
    let e : suc n - 1 ≡ n = omega arith in
    str-fuel (enough s) (suc (enough s)) s (suc n) at h (omega arith) (omega arith) ∙ rw (eqb-suc-zero n, e)

-- "matching closer, kept as a last Sym."
pub close-found : (opener : ℕ) (s : List ℕ) (at : ℕ) → byte s at ≡ closing opener → close opener s at ≡ found (leaf 0x05 at 1) (at + 1)
unfolding close
close-found opener s at e = rw (eq-eqb (byte s at) (closing opener) e)

-- "Otherwise Delim with the opener, consuming nothing."
pub close-missing : (opener : ℕ) (s : List ℕ) (at : ℕ) → (byte s at ≡ closing opener → ⊥) → close opener s at ≡ wrong (closer opener) at
unfolding close
close-missing opener s at e = rw (ne_eqb (byte s at) (closing opener) e)

-- ---- the whole

-- "After the top tokens and space, any rest is one Token error at its start."
pub whole-rest : (s : List ℕ) (b : ℕ) (ts : Tokens) (es : List Error) → tokens_at s 128 0 ≡ read b ts es → space s b < length s
    → whole s ≡ read (space s b) ts (es ++ (missing Expect.any (space s b) ∷ []))
unfolding whole tokens_at rest and_then after
whole-rest s b ts es e h = rw (e, lt-ltb (space s b) (length s) h, join-none ts)

pub whole-all : (s : List ℕ) (b : ℕ) (ts : Tokens) (es : List Error) → tokens_at s 128 0 ≡ read b ts es → space s b ≡ length s → whole s ≡ read (length s) ts es
unfolding whole tokens_at rest and_then after
whole-all s b ts es e h = rw (e, h, le-ltb (length s) (length s) (omega arith), join-none ts, append-nil es)

pub whole-deep : (s : List ℕ) (p : ℕ) → tokens_at s 128 0 ≡ deep p → whole s ≡ deep p
unfolding whole tokens_at and_then
whole-deep s p e = rw e

differ : (b : ℕ) (ts : Tokens) (es : List Error) (p : ℕ) → read b ts es ≡ deep p → ⊥
differ b ts es p e = let z : ◌≡◌ {A = ℕ} 0 1 = cc in omega arith

-- reading the rest never breaks off
rest-reads : (s : List ℕ) (ts : Tokens) (es : List Error) (at p : ℕ) → after ts es (rest s at) ≡ deep p → ⊥
unfolding rest after
rest-reads s ts es at p = either (λ q. after ts es q ≡ deep p → ⊥) (ltb at (length s)) _ _ (λ t e. differ _ _ _ p e) (λ t e. differ _ _ _ p e)

pub deep-whole : (s : List ℕ) (p : ℕ) → whole s ≡ deep p → tokens_at s 128 0 ≡ deep p
unfolding whole tokens_at and_then
deep-whole s p e = go (tokens (3 * length s + 4) s 128 0) refl e
  where
    go : (q : Read) → tokens (3 * length s + 4) s 128 0 ≡ q → and_then q (λ b. rest s (space s b)) ≡ deep p → tokens (3 * length s + 4) s 128 0 ≡ deep p
    go (read b ts es) f g = absurd (rest-reads s ts es (space s b) p g)
    go (deep r) f g = f ∙ g
