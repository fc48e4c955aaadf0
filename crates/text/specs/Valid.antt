-- Valid UTF-8, and the longest valid prefix.
use Rattle.std.specs.Prelude.{◌≡◌, ℕ, zero, suc, ◌≤◌, Bool, true, ◌&&◌, List, [], ◌∷◌, ◌++◌, length, take, drop}
use Rattle.text.specs.Utf8.{seq_len, is_scalar, utf8}

-- "source not UTF-8", "texts are UTF-8": a list is UTF-8 if it is a row of the sequences of Table 3-7, and nothing else
pub data Valid : List ℕ → Type 0 where
  none : Valid []
  more : (s : List ℕ) (n : ℕ) → seq_len s ≡ suc n → Valid (drop (suc n) s) → Valid s

-- "3: source not UTF-8; place: length of longest valid prefix", as a property of n
pub record Longest (s : List ℕ) (n : ℕ) : Type 0 where
  pub within : n ≤ length s
  pub valid : Valid (take n s)
  pub most : (m : ℕ) → m ≤ length s → Valid (take m s) → m ≤ n

-- the first of n bytes, and what follows it, given how many of the n are left; nothing where n is 0
abbrev pub one_of : ℕ → (ℕ → ℕ) → ℕ
one_of zero f = zero
one_of (suc n) f = suc (f n)

-- how many bytes of the list are valid, after k more of the sequence that is being passed
unfoldable pub passing : ℕ → List ℕ → ℕ
passing k [] = zero
passing (suc k) (b ∷ s) = suc (passing k s)
passing zero (b ∷ s) = one_of (seq_len (b ∷ s)) (λ n. passing n s)

-- that length, computed
unfoldable pub valid_prefix : List ℕ → ℕ
valid_prefix s = passing 0 s

-- characters in UTF-8, one after the other
abbrev pub text_of : List ℕ → List ℕ
text_of [] = []
text_of (c ∷ cs) = utf8 c ++ text_of cs

abbrev pub all_scalar : List ℕ → Bool
all_scalar [] = true
all_scalar (c ∷ cs) = is_scalar c && all_scalar cs

pub record Characters (s : List ℕ) : Type 0 where
  pub chars : List ℕ
  pub all : all_scalar chars ≡ true
  pub are : s ≡ text_of chars
