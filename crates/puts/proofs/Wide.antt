-- A number's bytes, as the machine gives them and as the listing has them. Assumes nothing.
use mathlib.Core.Path.{◌≡◌, refl, sym, ap, ap₂, ◌∙◌}
use mathlib.Core.List.{List, ◌∷◌}
use Prim.Native.Nat.{ℕ, zero, suc, ◌/◌, ◌%◌, ◌^◌}
use native.Mathlib.Omega.{arith}
use Rattle.std.proofs.Math.Nat.{div-div-eq-div-mul}
use Rattle.std.proofs.Common.{pow-suc}
use Rattle.std.specs.Int.{w64, byte_at, bytes_low_first, to_le_bytes}
use Rattle.fields.specs.Number.{number}

byte-is : (i n : ℕ) → byte_at i n ≡ n / 256 ^ i % 256
byte-is zero n = omega arith
byte-is (suc i) n = refl

from-byte : (k i n : ℕ) → bytes_low_first i k n ≡ number k (n / 256 ^ i)
unfolding number
from-byte zero i n = refl
from-byte (suc k) i n =
    let e : n / 256 ^ i / 256 ≡ n / 256 ^ suc i = div-div-eq-div-mul n (256 ^ i) 256 ∙ ap (λ (m : ℕ). n / m) (sym (pow-suc 256 i)) in
    ap₂ (λ (b : ℕ) (bs : List ℕ). b ∷ bs) (byte-is i n) (from-byte k (suc i) n ∙ ap (number k) (sym e))

pub eight : (n : ℕ) → to_le_bytes w64 n ≡ number 8 n
eight n = from-byte 8 0 n ∙ ap (number 8) (omega arith)
