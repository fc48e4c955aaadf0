-- Worked examples, by computing.
use Rattle.std.specs.Prelude.{◌≡◌, refl, true, false, Some, None, [], ◌∷◌}
use Rattle.text.specs.Utf8.{table, seq_len, bits, scalar, char_at, found, scalars, is_scalar, encode, utf8}
use Rattle.text.specs.Valid.{passing, valid_prefix}
use Rattle.text.specs.Space.{spaces, white_space}

-- € and 😀; a form that is too long, a surrogate, a number past 10FFFF, a sequence that is cut off
pub sequences : (seq_len (0xE2 ∷ 0x82 ∷ 0xAC ∷ 0x61 ∷ []) ≡ 3)
    × (seq_len (0xF0 ∷ 0x9F ∷ 0x98 ∷ 0x80 ∷ []) ≡ 4)
    × (seq_len (0xC0 ∷ 0x80 ∷ []) ≡ 0)
    × (seq_len (0xE0 ∷ 0x9F ∷ 0xBF ∷ []) ≡ 0)
    × (seq_len (0xED ∷ 0xA0 ∷ 0x80 ∷ []) ≡ 0)
    × (seq_len (0xF4 ∷ 0x90 ∷ 0x80 ∷ 0x80 ∷ []) ≡ 0)
    × (seq_len (0xE2 ∷ 0x82 ∷ []) ≡ 0)
unfolding seq_len table
sequences = (refl, refl, refl, refl, refl, refl, refl)

pub values : (scalar (0xE2 ∷ 0x82 ∷ 0xAC ∷ 0x61 ∷ []) ≡ 0x20AC) × (scalar (0xF0 ∷ 0x9F ∷ 0x98 ∷ 0x80 ∷ []) ≡ 0x1F600)
unfolding seq_len table bits scalar
values = (refl, refl)

-- `a€`, at the second byte, within the €, and past the end
pub characters : (found (char_at (0x61 ∷ 0xE2 ∷ 0x82 ∷ 0xAC ∷ []) 1) ≡ Some (record { code = 0x20AC; len = 3 }))
    × (found (char_at (0x61 ∷ 0xE2 ∷ 0x82 ∷ 0xAC ∷ []) 2) ≡ None)
    × (found (char_at (0x61 ∷ 0xE2 ∷ 0x82 ∷ 0xAC ∷ []) 4) ≡ None)
unfolding seq_len table bits scalar
characters = (refl, refl, refl)

pub bytes : (utf8 0x20AC ≡ 0xE2 ∷ 0x82 ∷ 0xAC ∷ []) × (utf8 0x1F600 ≡ 0xF0 ∷ 0x9F ∷ 0x98 ∷ 0x80 ∷ []) × (utf8 0xD800 ≡ []) × (utf8 0x110000 ≡ [])
unfolding utf8 encode is_scalar scalars
bytes = (refl, refl, refl, refl)

-- `a€`, then a sequence that is cut off
pub prefixes : (valid_prefix [] ≡ 0) × (valid_prefix (0x61 ∷ 0xE2 ∷ 0x82 ∷ 0xAC ∷ 0xE2 ∷ 0x82 ∷ []) ≡ 4)
unfolding valid_prefix passing seq_len table
prefixes = (refl, refl)

-- a line feed, NEL, the ideographic space; the zero width space and the Mongolian vowel separator are no space
pub blanks : (white_space 0x0A ≡ true) × (white_space 0x85 ≡ true) × (white_space 0x3000 ≡ true) × (white_space 0x200B ≡ false) × (white_space 0x180E ≡ false)
unfolding white_space spaces
blanks = (refl, refl, refl, refl, refl)
