-- Symbols: the returns of `sym`. Assumes nothing.
use mathlib.Core.Path.{◌≡◌, refl}
use mathlib.Core.Bool.{true, false}
use mathlib.Core.List.{List}
use Prim.Native.Nat.{ℕ, ◌+◌, ◌<◌}
use native.Mathlib.Omega.{arith}
use lib.ListN.{length}
use Rattle.lexer.specs.Scan.{byte, past}
use Rattle.lexer.specs.Word.{letter, ident0}
use Rattle.lexer.specs.Sym.{operator, follows, dot, sym as symbol}
use Rattle.lexer.specs.Meets.{Byte, Reaches}
use Rattle.lexer.proofs.Scans.{hit, miss}

module _ (s : List ℕ) (at b : ℕ) where
  here : at < length s → Reaches (at + 1) s (at + 1) (at + 1)
  here h = record { is = refl; low = omega arith; high = omega arith }

  pub two-dots : Byte s (at + 1) b → b ≡ 0x2E → Reaches (dot s at) s (at + 1) (at + 2)
  unfolding dot
  two-dots g h = rw (hit s (at + 1) b 0x2E g h) (record { is = refl; low = omega arith; high = omega (arith, g.within) })

  pub dot_word : (r : ℕ) → Byte s (at + 1) b → (b ≡ 0x2E → ⊥) → letter b ≡ true → Reaches (ident0 s (at + 2)) s (at + 2) r → Reaches (dot s at) s (at + 1) r
  unfolding dot
  dot_word r g n l h =
      let k : letter (byte s (at + 1)) ≡ true = cc g.is in
      rw (miss s (at + 1) b 0x2E g n, k) (record { is = h.is; low = omega (arith, h.low); high = h.high })

  pub dot-alone : Byte s (at + 1) b → (b ≡ 0x2E → ⊥) → letter b ≡ false → at < length s → Reaches (dot s at) s (at + 1) (at + 1)
  unfolding dot
  dot-alone g n l h =
      let k : letter (byte s (at + 1)) ≡ false = cc g.is in
      rw (miss s (at + 1) b 0x2E g n, k) (here h)

  pub operators-is : (r : ℕ) → Byte s at b → operator b ≡ true → Reaches (past follows s (at + 1)) s (at + 1) r → Reaches (symbol s at) s (at + 1) r
  unfolding symbol
  operators-is r g o h = let k : operator (byte s at) ≡ true = cc g.is in rw k h

  pub dot-is : (r : ℕ) → Byte s at b → operator b ≡ false → b ≡ 0x2E → Reaches (dot s at) s (at + 1) r → Reaches (symbol s at) s (at + 1) r
  unfolding symbol
  dot-is r g o i h = let k : operator (byte s at) ≡ false = cc g.is in rw (k, hit s at b 0x2E g i) h

  pub single-is : Byte s at b → operator b ≡ false → (b ≡ 0x2E → ⊥) → at < length s → Reaches (symbol s at) s (at + 1) (at + 1)
  unfolding symbol
  single-is g o n h = let k : operator (byte s at) ≡ false = cc g.is in rw (k, miss s at b 0x2E g n) (here h)
