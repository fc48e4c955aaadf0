-- Identifiers: the returns of `word`. Assumes nothing.
use mathlib.Core.Path.{◌≡◌, refl}
use mathlib.Core.Bool.{true, false}
use mathlib.Core.List.{List, [], ◌∷◌}
use Prim.Native.Nat.{ℕ, ◌+◌, ◌≤◌, ◌<◌}
use native.Mathlib.Omega.{arith}
use lib.ListN.{length}
use Rattle.lexer.specs.Token.{ident}
use Rattle.lexer.specs.Scan.{byte, scan, optional}
use Rattle.lexer.specs.Word.{letter, ident0, ident_end, ident1, mod_then_ident}
use Rattle.lexer.specs.Meets.{Byte, Reaches, Erred, Scans}
use Rattle.lexer.specs.declared.put.Room.{Room}
use Rattle.lexer.proofs.Scans.{some, hit, miss, clean, there, missed, from}

pub letter-some : (b : ℕ) → letter b ≡ true → 0 < b
unfolding letter
letter-some b h = some letter refl b h

module _ (s : List ℕ) (at : ℕ) (e : Room) where
  pub ident-there : (b r : ℕ) → Byte s at b → letter b ≡ true → Reaches (ident0 s (at + 1)) s (at + 1) r → Scans (ident1 s at) s at 10 e e r
  unfolding ident1 ident_end
  ident-there b r g l h =
      let k : letter (byte s at) ≡ true = cc g.is in
      rw k (there s at e ident (ident0 s (at + 1)) r h.is (omega (arith, h.low)) h.high)

  pub ident-missed : (b : ℕ) (e' : Room) → Byte s at b → letter b ≡ false → at ≤ length s → Erred ident at e e' → Scans (ident1 s at) s at 10 e e' at
  unfolding ident1 ident_end
  ident-missed b e' g l h k =
      let n : letter (byte s at) ≡ false = cc g.is in
      rw n (missed s at e ident at at e' refl refl h k)

module _ (s : List ℕ) (at a : ℕ) (e : Room) (h : Reaches (ident0 s at) s at a) where
  pub mod-there : (b c g r : ℕ) (e' : Room) → Byte s a b → b ≡ 0x3A → Byte s (a + 1) c → c ≡ 0x3A → Reaches (optional (0x40 ∷ 0x24 ∷ []) s (a + 2)) s (a + 2) g
      → Scans (ident1 s g) s g 10 e e' r → Scans (mod_then_ident s at) s at 0 e e' r
  unfolding mod_then_ident
  mod-there b c g r e' i j k l o q =
      rw (← h.is, hit s a b 0x3A i j, hit s (a + 1) c 0x3A k l, ← o.is) (from s at e (ident1 s g) g 10 0 e' r q (omega (arith, h.low, o.low)) (omega (arith, h.low, o.low)))

  clean-here : Scans (scan a) s at 0 e e a
  clean-here = clean s at e a a 0 (record { is = refl; low = h.low; high = h.high })

  pub mod-half : (b c : ℕ) → Byte s a b → b ≡ 0x3A → Byte s (a + 1) c → (c ≡ 0x3A → ⊥) → Scans (mod_then_ident s at) s at 0 e e a
  unfolding mod_then_ident
  mod-half b c i j k l = rw (← h.is, hit s a b 0x3A i j, miss s (a + 1) c 0x3A k l) clean-here

  pub mod-none : (b : ℕ) → Byte s a b → (b ≡ 0x3A → ⊥) → Scans (mod_then_ident s at) s at 0 e e a
  unfolding mod_then_ident
  mod-none b i j = rw (← h.is, miss s a b 0x3A i j) clean-here
