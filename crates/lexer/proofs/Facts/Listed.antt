-- What a listing and a refusal come from: the tokens or the errors found, or a place within the source. Assumes nothing.
use mathlib.Core.Path.{◌≡◌, refl, sym, ap, ◌∙◌}
use mathlib.Core.Bool.{Bool, true, false, cond}
use mathlib.Core.List.{List, [], ◌∷◌, ◌++◌}
use Prim.Native.Nat.{ℕ, ◌+◌, ◌*◌, ◌≤◌, ◌<◌}
use native.Mathlib.Omega.{arith}
use native.Mathlib.Decide.{dec_lt}
use lib.ListN.{length}
use lib.Dec.{ltb}
use borrow.Author.Tests.{ltb-true, ltb-false}
use Rattle.text.specs.Valid.{valid_prefix}
use Rattle.fields.specs.Outcome.{Outcome, listing, refusal}
use Rattle.lexer.specs.Token.{Tokens, Expect, Error, missing}
use Rattle.lexer.specs.Space.{space}
use Rattle.lexer.specs.Read.{Read, read, deep}
use Rattle.lexer.specs.Lex.{whole}
use Rattle.lexer.specs.Listing.{edition, tokens_bytes, errors_bytes}
use Rattle.lexer.specs.Lexing.{listed, lexing}
use Rattle.lexer.proofs.Facts.Onward.{Onward, space-on}
use Rattle.lexer.proofs.Facts.Sound.{Sound, sound-read, sound-deep, tokens-sound, whole-sound}
use Rattle.lexer.proofs.Facts.Free.{tokens_at, whole-rest, whole-all, whole-deep}

-- ---- without errors all is read

not-empty : (es : List Error) (e : Error) → es ++ (e ∷ []) ≡ [] → ⊥
not-empty [] e q = let z : ◌≡◌ {A = ℕ} 0 1 = cc in omega arith
not-empty (f ∷ es) e q = let z : ◌≡◌ {A = ℕ} 0 1 = cc in omega arith

-- "After the top tokens and space, any rest is one Token error at its start.": so where there is no error there is no rest
pub all_read : (s : List ℕ) (b : ℕ) (ts : Tokens) → whole s ≡ read b ts [] → b ≡ length s
unfolding tokens_at
all_read s b ts e = go (tokens_at s 128 0) refl (tokens-sound (3 * length s + 4) s 128 0 (omega arith))
  where
    go : (q : Read) → tokens_at s 128 0 ≡ q → Sound s 0 0 q → b ≡ length s
    go (deep p) f z = let d : whole s ≡ deep p = whole-deep s p f in cc
    go (read a us es) f z = side (dec_lt (space s a) (length s))
      where
        o : Onward s a (space s a)
        o = space-on s a (sound-read z).on.high

        side : Dec (space s a < length s) → b ≡ length s
        side (yes h) =
            let w = whole-rest s a us es f h in
            let n : es ++ (missing Expect.any (space s a) ∷ []) ≡ [] = cc in
            absurd (not-empty es _ n)
        side (no h) = let w : whole s ≡ read (length s) us es = whole-all s a us es f (omega (arith, o.high)) in cc

-- ---- listings

-- "0: listing of tokens": the source was read to its end without errors
pub record Accepted (s bytes : List ℕ) : Type 0 where
  pub row : Tokens
  pub found : whole s ≡ read (length s) row []
  pub written : bytes ≡ edition ++ tokens_bytes 2 row

-- "1: listing of errors, nothing else"
pub record Faulty (s bytes : List ℕ) : Type 0 where
  pub at : ℕ
  pub row : Tokens
  pub error : Error
  pub errors : List Error
  pub found : whole s ≡ read at row (error ∷ errors)
  pub written : bytes ≡ edition ++ errors_bytes 2 (error ∷ errors)

outcome : (s : List ℕ) (o : Outcome) → lexing s ≡ o → ((n p : ℕ) → o ≡ refusal n p → ⊥) → listed 2 (whole s) ≡ o
unfolding lexing
outcome s o e f = go (ltb 32768 (length s)) (ltb (valid_prefix s) (length s)) e
  where
    go : (t u : Bool) → cond t (refusal 2 0) (cond u (refusal 3 (valid_prefix s)) (listed 2 (whole s))) ≡ o → listed 2 (whole s) ≡ o
    go true u q = absurd (f 2 0 (sym q))
    go false true q = absurd (f 3 (valid_prefix s) (sym q))
    go false false q = q

listing-not : (n m p : ℕ) (bytes : List ℕ) → listing n bytes ≡ refusal m p → ⊥
listing-not n m p bytes e = let z : ◌≡◌ {A = ℕ} 0 1 = cc in omega arith

pub accepted : (s bytes : List ℕ) → lexing s ≡ listing 0 bytes → Accepted s bytes
unfolding listed
accepted s bytes e = go (whole s) refl (outcome s (listing 0 bytes) e (λ n p. listing-not 0 n p bytes))
  where
    go : (q : Read) → whole s ≡ q → listed 2 q ≡ listing 0 bytes → Accepted s bytes
    go (deep p) f g = absurd (let z : ◌≡◌ {A = ℕ} 0 1 = cc in omega arith)
    go (read b ts (x ∷ es)) f g = absurd (let z : ◌≡◌ {A = ℕ} 0 1 = cc in omega arith)
    go (read b ts []) f g = record { row = ts; found = f ∙ ap (λ c. read c ts []) (all_read s b ts f); written = cc }

pub faulty : (s bytes : List ℕ) → lexing s ≡ listing 1 bytes → Faulty s bytes
unfolding listed
faulty s bytes e = go (whole s) refl (outcome s (listing 1 bytes) e (λ n p. listing-not 1 n p bytes))
  where
    go : (q : Read) → whole s ≡ q → listed 2 q ≡ listing 1 bytes → Faulty s bytes
    go (deep p) f g = absurd (let z : ◌≡◌ {A = ℕ} 0 1 = cc in omega arith)
    go (read b ts []) f g = absurd (let z : ◌≡◌ {A = ℕ} 0 1 = cc in omega arith)
    go (read b ts (x ∷ es)) f g = record { at = b; row = ts; error = x; errors = es; found = f; written = cc }

-- the place of a refusal is within the source
pub refused : (s : List ℕ) (n p : ℕ) → lexing s ≡ refusal n p → p ≤ length s
unfolding lexing listed
refused s n p e = go (ltb 32768 (length s)) (ltb (valid_prefix s) (length s)) refl e
  where
    deeper : (q : Read) → Sound s 0 0 q → listed 2 q ≡ refusal n p → p ≤ length s
    deeper (deep c) z g = let w : c ≡ p = cc in omega (arith, (sound-deep z).high)
    deeper (read b ts []) z g = absurd (let w : ◌≡◌ {A = ℕ} 0 1 = cc in omega arith)
    deeper (read b ts (x ∷ es)) z g = absurd (let w : ◌≡◌ {A = ℕ} 0 1 = cc in omega arith)

    go : (t u : Bool) → ltb (valid_prefix s) (length s) ≡ u → cond t (refusal 2 0) (cond u (refusal 3 (valid_prefix s)) (listed 2 (whole s))) ≡ refusal n p
        → p ≤ length s
    go true u f q = let w : 0 ≡ p = cc in omega arith
    go false true f q = let w : valid_prefix s ≡ p = cc in omega (arith, ltb-true (valid_prefix s) (length s) f)
    go false false f q = deeper (whole s) (whole-sound s) q

-- "2: input over 32,768 bytes": so what is listed fits two bytes
pub listed-short : (s bytes : List ℕ) (n : ℕ) → lexing s ≡ listing n bytes → length s ≤ 32768
unfolding lexing
listed-short s bytes n e = go (ltb 32768 (length s)) refl e
  where
    go : (t : Bool) → ltb 32768 (length s) ≡ t
        → cond t (refusal 2 0) (cond (ltb (valid_prefix s) (length s)) (refusal 3 (valid_prefix s)) (listed 2 (whole s))) ≡ listing n bytes → length s ≤ 32768
    go true f q = absurd (listing-not n 2 0 bytes (sym q))
    go false f q = ltb-false 32768 (length s) f

-- "4: nesting over 128 in source"
pub refused-deep : (s : List ℕ) (p : ℕ) → lexing s ≡ refusal 4 p → whole s ≡ deep p
unfolding lexing listed
refused-deep s p e = go (ltb 32768 (length s)) (ltb (valid_prefix s) (length s)) e
  where
    deeper : (q : Read) → listed 2 q ≡ refusal 4 p → q ≡ deep p
    deeper (deep c) g = cc
    deeper (read b ts []) g = absurd (let w : ◌≡◌ {A = ℕ} 0 1 = cc in omega arith)
    deeper (read b ts (x ∷ es)) g = absurd (let w : ◌≡◌ {A = ℕ} 0 1 = cc in omega arith)

    go : (t u : Bool) → cond t (refusal 2 0) (cond u (refusal 3 (valid_prefix s)) (listed 2 (whole s))) ≡ refusal 4 p → whole s ≡ deep p
    go true u q = absurd (let w : ◌≡◌ {A = ℕ} 2 4 = cc in omega arith)
    go false true q = absurd (let w : ◌≡◌ {A = ℕ} 3 4 = cc in omega arith)
    go false false q = deeper (whole s) q
