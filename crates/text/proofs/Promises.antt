-- What `text` promises: the theorems that a reader signs for. Each is proved below this page, and cited here.
-- Assumes nothing.
use mathlib.Core.Path.{◌≡◌}
use mathlib.Core.Bool.{true}
use mathlib.Core.Logic.{◌↔◌}
use mathlib.Core.List.{List, ◌++◌}
use Prim.Native.Nat.{ℕ}
use lib.ListN.{length}
use Rattle.text.specs.Utf8.{seq_len, scalar, is_scalar, utf8}
use Rattle.text.specs.Valid.{Valid, Longest, valid_prefix, Characters}
use Rattle.text.proofs.Longest.{prefix-is, prefix-one, prefix-whole, whole-valid}
use Rattle.text.proofs.Texts.{valid-text, text-valid}
use Rattle.text.proofs.Encoded.{back}

-- "3: source not UTF-8; place: length of longest valid prefix". `prefix` answers `valid_prefix`: the first that many bytes are valid,
-- no more are, and no other number is such a length.
pub longest : (s : List ℕ) → Longest s (valid_prefix s)
longest s = prefix-is s

pub longest-one : (s : List ℕ) (n : ℕ) → Longest s n → n ≡ valid_prefix s
longest-one s n l = prefix-one s n l

-- So the whole is valid exactly if the prefix is the whole.
pub valid-iff : (s : List ℕ) → (valid_prefix s ≡ length s) ↔ Valid s
valid-iff s = (whole-valid s, prefix-whole s)

-- Valid text is characters in UTF-8, one after the other, and nothing else is.
pub text-iff : (s : List ℕ) → Valid s ↔ Characters s
text-iff s = (valid-text, text-valid s)

-- A character that was written is read back, whatever follows it.
pub read_back : (c : ℕ) (t : List ℕ) → is_scalar c ≡ true → (seq_len (utf8 c ++ t) ≡ length (utf8 c)) × (scalar (utf8 c ++ t) ≡ c)
read_back c t e = let b = back c t e in (b.len, b.code)
