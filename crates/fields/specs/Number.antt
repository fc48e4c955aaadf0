-- Numbers as bytes, at any width. Document 01: "little-endian throughout, numbers in two bytes unless said". The width is a parameter, so that
-- what holds of two bytes is said once and holds of four and of eight. Assumes nothing.
use Rattle.std.specs.Prelude.{◌≡◌, refl, List, [], ◌∷◌, ℕ, zero, suc, ◌+◌, ◌*◌, ◌/◌, ◌%◌, ◌^◌, ◌<◌, length}
use Rattle.std.proofs.Common.{ap, add_comm, div-lt_iff_lt-mul, pow-suc, arith}
use Rattle.std.proofs.Math.Nat.{div-add-mod}

-- n in w bytes, the lowest first
unfoldable pub number : ℕ → ℕ → List ℕ
number zero n = []
number (suc w) n = n % 256 ∷ number w (n / 256)

-- the number that stands in a row of bytes
unfoldable pub value : List ℕ → ℕ
value [] = 0
value (b ∷ bs) = b + 256 * value bs

pub length-number : (w n : ℕ) → length (number w n) ≡ w
unfolding number
length-number zero n = refl
length-number (suc w) n = ap suc (length-number w (n / 256))

-- two bytes, written out
pub number-two : (n : ℕ) → number 2 n ≡ n % 256 ∷ n / 256 % 256 ∷ []
unfolding number
number-two n = refl

-- a number that fits the width stands in its bytes
pub value-number : (w n : ℕ) → n < 256 ^ w → value (number w n) ≡ n
unfolding number value
value-number zero n h = omega arith
value-number (suc w) n h =
    let k : n / 256 < 256 ^ w = (div-lt_iff_lt-mul {k = 256} {x = n} {y = 256 ^ w} (omega arith)).1 (rw pow-suc at h) in
    rw (value-number w (n / 256) k, add_comm) (div-add-mod n 256)
