-- Listings of two rows, one after the other. Assumes nothing.
use mathlib.Core.Path.{◌≡◌, refl}
use mathlib.Core.List.{List, [], ◌∷◌, ◌++◌, append_assoc}
use Prim.Native.Nat.{ℕ}
use Rattle.lexer.specs.Token.{Tokens, none, more, join, Error}
use Rattle.lexer.specs.Listing.{tokens_bytes, errors_bytes}

pub errors-append : (w : ℕ) (es fs : List Error) → errors_bytes w (es ++ fs) ≡ errors_bytes w es ++ errors_bytes w fs
unfolding errors_bytes
errors-append w [] fs = refl
errors-append w (e ∷ es) fs = rw (errors-append w es fs, append_assoc)

pub tokens_append : (w : ℕ) (ts us : Tokens) → tokens_bytes w (join ts us) ≡ tokens_bytes w ts ++ tokens_bytes w us
unfolding tokens_bytes join
tokens_append w none us = refl
tokens_append w (more t ts) us = rw (tokens_append w ts us, append_assoc)
