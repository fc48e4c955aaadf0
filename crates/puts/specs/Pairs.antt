-- Numbers of two bytes each, one behind the other. Assumes nothing.
use Rattle.std.specs.Prelude.{ℕ, ◌+◌, ◌*◌, ◌<◌, ◌≡◌, refl, List, [], ◌∷◌, ◌++◌, length, get_or, take}
use Rattle.std.proofs.Common.{arith, add-one, length-append, append_assoc, append-nil, take-suc, length-take-le, ◌∙◌}
use Rattle.fields.specs.Number.{number, length-number}

unfoldable pub pairs : List ℕ → List ℕ
pairs [] = []
pairs (n ∷ ns) = number 2 n ++ pairs ns

pub length-pairs : (ns : List ℕ) → length (pairs ns) ≡ 2 * length ns
unfolding pairs
length-pairs [] = refl
length-pairs (n ∷ ns) = omega (arith, length-append (number 2 n) (pairs ns), length-number 2 n, length-pairs ns)

pairs-append : (ms ns : List ℕ) → pairs (ms ++ ns) ≡ pairs ms ++ pairs ns
unfolding pairs
pairs-append [] ns = refl
pairs-append (m ∷ ms) ns = rw (pairs-append ms ns, append_assoc)

pairs-one : (n : ℕ) → pairs (n ∷ []) ≡ number 2 n
unfolding pairs
pairs-one n = append-nil (number 2 n)

-- one number more
pub pairs-more : (ns : List ℕ) (i : ℕ) → i < length ns → pairs (take (i + 1) ns) ≡ pairs (take i ns) ++ number 2 (get_or ns i 0)
pairs-more ns i h = rw (add-one, take-suc ns i 0 h) (pairs-append (take i ns) (get_or ns i 0 ∷ []) ∙ rw (pairs-one (get_or ns i 0)))

pub length-some : (ns : List ℕ) (i : ℕ) → i < length ns → length (pairs (take i ns)) ≡ 2 * i
length-some ns i h = omega (arith, length-pairs (take i ns), length-take-le i ns (omega arith))
