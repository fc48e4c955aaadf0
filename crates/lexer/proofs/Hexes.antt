-- Four hex digits. Assumes nothing.
use mathlib.Core.Path.{◌≡◌, refl, sym, ap, ◌∙◌}
use mathlib.Core.Bool.{Bool, true, false}
use mathlib.Core.List.{List}
use Prim.Native.Nat.{ℕ, zero, suc, ◌+◌, ◌*◌, ◌^◌, ◌≤◌, ◌<◌}
use native.Mathlib.Numerals.{add-one}
use native.Mathlib.Nat.{add-zero}
use native.Mathlib.Omega.{arith}
use lib.ListN.{length}
use Rattle.std.proofs.Common.{Some, None, if◌then◌else◌}
use Rattle.lexer.specs.Scan.{byte, past}
use Rattle.lexer.specs.Escape.{hex_digit, hex, hexes}
use Rattle.lexer.specs.Meets.{Byte, Four, Fewer}
use Rattle.lexer.proofs.Past.{past_more, past-here, past-low}
use Rattle.lexer.proofs.Scans.{some}

no_digit : hex_digit 0 ≡ false
unfolding hex_digit
no_digit = refl

few : (i : ℕ) → i < 4 → 16 ^ i ≤ 4096
few zero h = omega arith
few (suc zero) h = omega arith
few (suc (suc zero)) h = omega arith
few (suc (suc (suc zero))) h = omega arith
few (suc (suc (suc (suc i)))) h = absurd (omega arith)

digit-is : (t : Bool) (v w : ℕ) → Some v ≡ (if t then Some w else None) → (t ≡ true) × (v ≡ w)
digit-is true v w e = (refl, cc)
digit-is false v w e = cc

no_digit-is : (t : Bool) (w : ℕ) → None ≡ (if t then Some w else None) → t ≡ false
no_digit-is true w e = cc
no_digit-is false w e = refl

-- i digits were read
pub record Digits (s : List ℕ) (at code i : ℕ) : Type 0 where
  pub is : code ≡ hexes s at i
  pub small : code < 16 ^ i
  pub run : past hex_digit s (at + i) ≡ past hex_digit s at
  pub count : i ≤ 4
  pub high : at + i ≤ length s

pub digits-start : (s : List ℕ) (at : ℕ) → at ≤ length s → Digits s at 0 0
unfolding hexes
digits-start s at h = record { is = refl; small = omega arith; run = rw add-zero; count = omega arith; high = omega arith }

module _ (s : List ℕ) (at code i : ℕ) (g : Digits s at code i) where
  pub digits-small : i < 4 → code < 4096
  digits-small l = omega (arith, g.small, few i l)

  module _ (b : ℕ) (k : Byte s (at + i) b) where
    module _ (v : ℕ) (h : Some v ≡ (if hex_digit b then Some (hex b) else None)) where
      digit-in : at + i < length s
      digit-in = omega (arith, k.within, some hex_digit no_digit b (digit-is (hex_digit b) v (hex b) h).0)

      pub digit-more : v < 16 → i < 4 → Digits s at (code * 16 + v) (i + 1)
      unfolding hexes
      digit-more z l =
          let d = digit-is (hex_digit b) v (hex b) h in
          let e : at + (i + 1) ≡ at + i + 1 = omega arith in
          let t : hex_digit (byte s (at + i)) ≡ true = ap hex_digit (sym k.is) ∙ d.0 in
          let w : v ≡ hex (byte s (at + i)) = d.1 ∙ ap hex k.is in
          record {
            is = rw add-one (omega (arith, g.is, w));
            small = rw add-one (omega (arith, g.small));
            run = rw e (sym (past_more hex_digit s (at + i) digit-in t) ∙ g.run);
            count = omega arith;
            high = omega (arith, digit-in);
          }

    pub digit-stop : i < 4 → None ≡ (if hex_digit b then Some (hex b) else None) → Fewer s at (at + i)
    digit-stop l h =
        let f : hex_digit (byte s (at + i)) ≡ false = ap hex_digit (sym k.is) ∙ no_digit-is (hex_digit b) (hex b) h in
        record { is = sym (past-here hex_digit s (at + i) f) ∙ g.run; few = omega arith; low = omega arith; high = g.high }

  pub digits-all : 4 ≤ i → Four s at code
  digits-all l =
      let j : i ≡ 4 = omega (arith, g.count) in
      record { is = g.is ∙ ap (λ (n : ℕ). hexes s at n) j; run = omega (arith, j, g.run, past-low hex_digit s (at + i)); high = omega (arith, j, g.high) }
