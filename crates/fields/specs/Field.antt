-- Document 01: "One-byte tag, two-byte length, little-endian throughout". Assumes nothing.
use Rattle.std.specs.Prelude.{◌≡◌, List, ◌∷◌, ◌++◌, ℕ, ◌+◌, length}
use Rattle.std.proofs.Common.{arith, length-append}
use Rattle.fields.specs.Number.{number, length-number}

-- a field: its tag, the length of its content, the content
unfoldable pub field : ℕ → List ℕ → List ℕ
field tag content = tag ∷ number 2 (length content) ++ content

pub length-field : (tag : ℕ) (content : List ℕ) → length (field tag content) ≡ 3 + length content
unfolding field
length-field tag content = omega (arith, length-append (number 2 (length content)) content, length-number 2 (length content))
