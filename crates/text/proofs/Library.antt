-- What std says of characters and of text, in the words of specs/.
-- Assumes nothing.
use Rattle.std.proofs.Common.{◌≡◌, refl, sym, ap, subst, ◌∙◌, ℕ, suc, ◌<◌, ◌≤◌, Bool, true, false, ◌||◌, ◌&&◌, Option, Some, None, List, [], ◌∷◌, length, take, nat_lt, ◌==◌, arith}
use Rattle.std.proofs.Math.Bool.{or_assoc, or-false}
use Rattle.std.proofs.Math.Utf8.{scalar, scalars, encode, encodes}
use Rattle.std.proofs.lemmas.Bool.Decides.{nat_tests}
use Rattle.std.specs.Char.{is_whitespace, IsScalar}
use Rattle.std.specs.Option.{SomeIff, MatchOption, is_some}
use Rattle.std.specs.Str.{IsUtf8, IsValidUpTo}
use native.Mathlib.Decide.{dec_lt}
use Rattle.text.specs.Ranges.{◌‥◌, within}
use Rattle.text.specs.Utf8.{scalars as scalar_ranges, is_scalar, encode as encode_scalar, utf8}
use Rattle.text.specs.Space.{spaces, white_space}
use Rattle.text.specs.Valid.{Valid, valid_prefix, text_of, all_scalar, Characters}
use Rattle.text.proofs.Rows.{and_left, and_right}
use Rattle.text.proofs.Longest.{prefix-one, prefix-whole}
use Rattle.text.proofs.Texts.{valid-text, text-valid}

pub scalar-same : (c : ℕ) → scalar c ≡ is_scalar c
unfolding is_scalar scalar_ranges
scalar-same c = grind (arith, nat_tests)

pub encode-same : (c : ℕ) → is_scalar c ≡ true → encode c ≡ utf8 c
unfolding encode encode_scalar utf8
encode-same c e = rw e

pub no-bytes : (c : ℕ) → is_scalar c ≡ false → utf8 c ≡ []
unfolding utf8
no-bytes c e = rw e

-- what a number is or does as a character, if it is one

not-char : (c : ℕ) → (IsScalar c → ⊥) → is_scalar c ≡ false
not-char c n = go (is_scalar c) (scalar-same c)
  where
    go : (b : Bool) → scalar c ≡ b → b ≡ false
    go true e = absurd (n e)
    go false e = refl

pub some-char : (c : ℕ) (o : Option ℕ) → SomeIff o (IsScalar c) c → is_some o ≡ is_scalar c
some-char c None n = sym (not-char c n)
some-char c (Some x) e = sym e.0 ∙ scalar-same c

pub by-char : {R : Type 0} (c : ℕ) (o : Option ℕ) (P : Type 0) (Q : ℕ → Type 0) → SomeIff o (IsScalar c) c → MatchOption o P Q
    → (is_scalar c ≡ false → P → R) → (is_scalar c ≡ true → Q c → R) → R
by-char c None P Q n m f g = f (not-char c n) m
by-char c (Some x) P Q e m f g = g (sym (scalar-same c) ∙ e.0) (subst Q e.1 m)

-- White_Space: one character, two in a row, more

lone : (k c : ℕ) → within (k ‥ k) c ≡ (c == k)
lone k c = grind (arith, nat_tests)

pair : (k c : ℕ) → within (k ‥ suc k) c ≡ ((c == k) || (c == suc k))
pair k c = grind (arith, nat_tests)

span : (k m c : ℕ) → within (suc k ‥ m) c ≡ (nat_lt k c && nat_lt c (suc m))
span k m c = grind (arith, nat_tests)

space-same : (c : ℕ) → white_space c ≡ is_whitespace c
unfolding white_space spaces
space-same c =
    rw (span 0x08 0x0D c, lone 0x20 c, lone 0x85 c, lone 0xA0 c, lone 0x1680 c, span 0x1FFF 0x200A c, pair 0x2028 c, lone 0x202F c, lone 0x205F c, lone 0x3000 c)
    (simp (or_assoc, or-false))

no-space : (c : ℕ) → is_scalar c ≡ false → white_space c ≡ false
unfolding is_scalar scalar_ranges white_space spaces
no-space c e = grind (arith, nat_tests)

pub space-of : (c : ℕ) (o : Option ℕ) (r : Bool) → SomeIff o (IsScalar c) c → MatchOption o (r ≡ false) (λ x. r ≡ is_whitespace x) → r ≡ white_space c
space-of c o r e m = by-char c o (r ≡ false) (λ x. r ≡ is_whitespace x) e m (λ n f. f ∙ sym (no-space c n)) (λ y f. f ∙ sym (space-same c))

-- characters in UTF-8

all-same : (cs : List ℕ) → scalars cs ≡ all_scalar cs
all-same [] = refl
all-same (c ∷ cs) = rw (scalar-same c, all-same cs)

text-same : (cs : List ℕ) → all_scalar cs ≡ true → encodes cs ≡ text_of cs
text-same [] e = refl
text-same (c ∷ cs) e = rw (encode-same c (and_left (is_scalar c) (all_scalar cs) e), text-same cs (and_right (is_scalar c) (all_scalar cs) e))

pub valid-of : (s : List ℕ) → IsUtf8 s → Valid s
valid-of s u =
    let a : all_scalar u.0 ≡ true = sym (all-same u.0) ∙ u.1.0 in
    text-valid s (record { chars = u.0; all = a; are = sym u.1.1 ∙ text-same u.0 a })

pub of-valid : (s : List ℕ) → Valid s → IsUtf8 s
of-valid s v =
    let t : Characters s = valid-text v in
    (t.chars, (all-same t.chars ∙ t.all, text-same t.chars t.all ∙ sym t.are))

-- what `from_utf8` answers: the text, or how far it is valid

pub all-valid : (s t : List ℕ) → t ≡ s → IsUtf8 s → length t ≡ valid_prefix s
all-valid s t e u = ap length e ∙ sym (prefix-whole s (valid-of s u))

pub up-to : (s : List ℕ) (n : ℕ) → IsValidUpTo s n → n ≡ valid_prefix s
up-to s n u = prefix-one s n (record { within = omega (arith, u.short); valid = valid-of (take n s) u.front; most = most })
  where
    most : (m : ℕ) → m ≤ length s → Valid (take m s) → m ≤ n
    most m h v = go (dec_lt n m)
      where
        go : Dec (n < m) → m ≤ n
        go (yes p) = absurd (u.longest m p (of-valid (take m s) v))
        go (no p) = omega arith
