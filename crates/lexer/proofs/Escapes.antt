-- Escapes that nest nothing: the returns of `escape::unicode` and `escape::simple`. Assumes nothing.
use mathlib.Core.Path.{◌≡◌, refl, sym, ap, ◌∙◌}
use mathlib.Core.Bool.{Bool, true, false}
use mathlib.Core.List.{List}
use Prim.Native.Nat.{ℕ, zero, suc, ◌+◌, ◌<◌}
use native.Mathlib.Omega.{arith}
use lib.Dec.{eqb}
use Rattle.std.proofs.Common.{Some, None, if◌then◌else◌}
use borrow.Author.Tests.{lt-ltb, le-ltb}
use Rattle.lexer.specs.Token.{one, char, Expect}
use Rattle.lexer.specs.Scan.{byte}
use Rattle.lexer.specs.Escape.{named, surrogate, unicode, simple}
use Rattle.lexer.specs.Listing.{tokens_bytes}
use Rattle.lexer.specs.Meets.{Byte, Four, Fewer, Puts, Erred, Ready, Reads}
use Rattle.lexer.specs.declared.put.Room.{Room}
use Rattle.lexer.proofs.Scans.{hit, miss}
use Rattle.lexer.proofs.Readings.{is-wrong, is_found}

-- a backslash and a byte that stand for a character: the byte is no 0
named_some : (b : ℕ) → eqb (named b) 0 ≡ false → 0 < b
unfolding named
named_some zero n = cc
named_some (suc b) n = omega arith

a-name : (x : Bool) (w n : ℕ) → Some n ≡ (if x then None else Some w) → (x ≡ false) × (n ≡ w)
a-name true w n e = cc
a-name false w n e = (refl, cc)

no-name : (x : Bool) (w : ℕ) → None ≡ (if x then None else Some w) → x ≡ true
no-name true w e = refl
no-name false w e = cc

module _ (s : List ℕ) (at : ℕ) (t t' e e' : Room) (a : Ready s at t e) where
  pub bad-digit : (place : ℕ) → Fewer s at place → Erred Expect.unicode place e e' → Reads (unicode s at) s 0 10 at t t e e' place
  unfolding unicode
  bad-digit place g w = rw (← g.is, lt-ltb _ _ g.few) (record {
    is = is-wrong Expect.unicode place t e e' w;
    paid = record { low = omega (arith, g.low); high = g.high; tokens = omega (arith, g.low); errors = omega (arith, w.few, g.low) };
    out = refl;
    err = w.put.same;
  })

  module _ (code : ℕ) (g : Four s at code) where
    pub bad-code : surrogate code ≡ true → Erred Expect.unicode at e e' → Reads (unicode s at) s 0 10 at t t e e' at
    unfolding unicode
    bad-code b w = rw (le-ltb _ _ g.run, ← g.is, b) (record {
      is = is-wrong Expect.unicode at t e e' w;
      paid = record { low = omega arith; high = a.place; tokens = omega arith; errors = omega (arith, w.few) };
      out = refl;
      err = w.put.same;
    })

    pub good-code : surrogate code ≡ false → Puts 7 t (tokens_bytes 2 (one (char code))) t' → Reads (unicode s at) s 0 10 at t t' e e (at + 4)
    unfolding unicode
    good-code b w = rw (le-ltb _ _ g.run, ← g.is, b) (record {
      is = is_found (char code) (at + 4) t t' e w.put;
      paid = record { low = omega arith; high = g.high; tokens = omega (arith, w.size); errors = omega arith };
      out = w.put.same;
      err = refl;
    })

  module _ (b : ℕ) (g : Byte s at b) where
    pub is-unicode : (r : ℕ) → b ≡ 0x75 → Reads (unicode s (at + 1)) s 0 10 (at + 1) t t' e e' r → Reads (simple s at) s 0 10 at t t' e e' r
    unfolding simple
    is-unicode r h q = rw (hit s at b 0x75 g h) (record {
      is = q.is;
      paid = record { low = omega (arith, q.paid.low); high = q.paid.high; tokens = omega (arith, q.paid.tokens); errors = omega (arith, q.paid.errors) };
      out = q.out;
      err = q.err;
    })

    pub is-unknown : (b ≡ 0x75 → ⊥) → None ≡ (if eqb (named b) 0 then None else Some (named b)) → Erred Expect.escape at e e' → Reads (simple s at) s 0 10 at t t e e' at
    unfolding simple
    is-unknown h k w =
        let i : eqb (named (byte s at)) 0 ≡ true = ap (λ (x : ℕ). eqb (named x) 0) (sym g.is) ∙ no-name (eqb (named b) 0) (named b) k in
        rw (miss s at b 0x75 g h, i) (record {
          is = is-wrong Expect.escape at t e e' w;
          paid = record { low = omega arith; high = a.place; tokens = omega arith; errors = omega (arith, w.few) };
          out = refl;
          err = w.put.same;
        })

    pub is-named : (n : ℕ) → (b ≡ 0x75 → ⊥) → Some n ≡ (if eqb (named b) 0 then None else Some (named b)) → Puts 7 t (tokens_bytes 2 (one (char n))) t' → Reads (simple s at) s 0 10 at t t' e e (at + 1)
    unfolding simple
    is-named n h k w =
        let d = a-name (eqb (named b) 0) (named b) n k in
        let i : named (byte s at) ≡ n = ap named (sym g.is) ∙ sym d.1 in
        let z : eqb n 0 ≡ false = ap (λ (x : ℕ). eqb x 0) d.1 ∙ d.0 in
        let l = named_some b d.0 in
        rw (miss s at b 0x75 g h, i, z) (record {
          is = is_found (char n) (at + 1) t t' e w.put;
          paid = record { low = omega arith; high = omega (arith, g.within, l); tokens = omega (arith, w.size); errors = omega arith };
          out = w.put.same;
          err = refl;
        })
