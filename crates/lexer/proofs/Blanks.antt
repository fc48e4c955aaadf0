-- White space, a character at a time. Assumes nothing.
use mathlib.Core.Path.{◌≡◌, refl, sym, ◌∙◌}
use mathlib.Core.Bool.{Bool, true, false, cond, not}
use mathlib.Core.List.{List, []}
use Prim.Native.Nat.{ℕ, zero, suc, ◌+◌, ◌≤◌, ◌<◌}
use native.Mathlib.Omega.{arith}
use lib.ListN.{length, drop, drop_of_length-le, get_or-eq_default}
use Rattle.std.proofs.Common.{Some, None}
use lib.Dec.{ltb, eqb}
use borrow.Author.Tests.{ltb-true, ltb-false, eqb-false}
use Rattle.text.specs.Utf8.{if_any, seq_len, scalar, char_at, found, bits}
use Rattle.text.specs.Space.{white_space, spaces}
use Rattle.text.proofs.Chars.{is-char, char-is, char-none, char-ascii}
use Rattle.text.specs.declared.Char.{Char}
use Rattle.lexer.specs.Scan.{byte}
use Rattle.lexer.specs.Space.{blank}
use Rattle.lexer.specs.Meets.{Byte, bare}

no-blank : white_space 0 ≡ false
unfolding white_space spaces
no-blank = refl

no_char : scalar [] ≡ 0
unfolding scalar seq_len bits
no_char = refl

-- an ASCII byte is its own character, and there is none at the end
pub blank-ascii : (s : List ℕ) (at b : ℕ) → Byte s at b → b < 128 → blank s at ≡ cond (white_space b) 1 0
unfolding blank
blank-ascii s at b g h = go (ltb at (length s)) refl
  where
    go : (x : Bool) → ltb at (length s) ≡ x → cond (white_space (scalar (drop at s))) (seq_len (drop at s)) 0 ≡ cond (white_space b) 1 0
    go true l =
        let c = is-char s at _ (char-ascii s at (ltb-true at (length s) l) (omega (arith, g.is))) in
        rw (← c.code, ← c.len, ← g.is) refl
    go false l =
        let n : drop at s ≡ [] = drop_of_length-le s (ltb-false at (length s) l) in
        let k : b ≡ 0 = g.is ∙ get_or-eq_default s 0 (ltb-false at (length s) l) in
        rw (n, k, no_char, no-blank)

pub a-blank : white_space 0x20 ≡ true
unfolding white_space spaces
a-blank = refl

pub blank-space : (s : List ℕ) (at b : ℕ) → Byte s at b → b ≡ 0x20 → blank s at ≡ 1
blank-space s at b g e = rw (blank-ascii s at b g (omega arith), e, a-blank)

three : (x y z : Bool) → cond x (cond y false (not z)) false ≡ true → (x ≡ true) × (y ≡ false) × (z ≡ false)
three true false false e = (refl, refl, refl)
three true false true e = absurd (let z : ◌≡◌ {A = ℕ} 0 1 = cc in omega arith)
three true true z e = absurd (let z : ◌≡◌ {A = ℕ} 0 1 = cc in omega arith)
three false y z e = absurd (let z : ◌≡◌ {A = ℕ} 0 1 = cc in omega arith)

pub bare-not : (s : List ℕ) (at b : ℕ) → Byte s at b → bare b ≡ true → (blank s at ≡ 0) × (byte s at ≡ 0x23 → ⊥)
unfolding bare
bare-not s at b g e =
    let t = three (ltb b 128) (white_space b) (eqb b 0x23) e in
    (rw (blank-ascii s at b g (ltb-true b 128 t.0), t.1), λ h. eqb-false b 0x23 t.2 (g.is ∙ h))

module _ (s : List ℕ) (at b : ℕ) (g : Byte s at b) (l : b < 128) (a : at ≤ length s) where
  pub no-space : white_space b ≡ false → (0 ≡ blank s at) × (at + 0 ≤ length s)
  no-space w = (rw (blank-ascii s at b g l, w), omega arith)

  pub a-space : white_space b ≡ true → 0 < b → (1 ≡ blank s at) × (at + 1 ≤ length s)
  a-space w z = (rw (blank-ascii s at b g l, w), omega (arith, g.within))

-- any other character is there, and is a space or none; or it is not there
module _ (s : List ℕ) (at : ℕ) (r : Char) (e : Some r ≡ found (char_at s at)) where
  pub wide-space : white_space r.code ≡ true → at ≤ length s → (r.len ≡ blank s at) × (at + r.len ≤ length s)
  unfolding blank
  wide-space w h = let c = is-char s at r (char-is s at r e) in (rw (← c.code, w) c.len, omega (arith, c.fits))

  pub wide-some : 0 < r.len
  wide-some = let c = is-char s at r (char-is s at r e) in omega (arith, c.len, some (seq_len (drop at s)) (char_at s at) e)
    where
      some : {A : Type 0} {b : A} (n : ℕ) (a : A) → Some b ≡ if_any n a → 0 < n
      some zero a k = absurd (cc)
      some (suc n) a k = omega arith

  pub no-wide : white_space r.code ≡ false → at ≤ length s → (0 ≡ blank s at) × (at + 0 ≤ length s)
  unfolding blank
  no-wide w h = let c = is-char s at r (char-is s at r e) in (rw (← c.code, w), omega arith)

pub none-wide : (s : List ℕ) (at : ℕ) → None ≡ found (char_at s at) → at ≤ length s → (0 ≡ blank s at) × (at + 0 ≤ length s)
unfolding blank
none-wide s at e h = (go (white_space (scalar (drop at s))), omega arith)
  where
    go : (x : Bool) → 0 ≡ cond x (seq_len (drop at s)) 0
    go true = sym (char-none s at e)
    go false = refl
