-- Bytes put together to numbers, and the word of a text by how long it is. Assumes nothing.
use mathlib.Core.Path.{◌≡◌}
use mathlib.Core.List.{List}
use Prim.Native.Nat.{ℕ, ◌+◌, ◌-◌, ◌*◌, ◌/◌, ◌≤◌, ◌<◌}
use lib.ListN.{length, get_or}
use borrow.Author.Tests.{eq-eqb, ne_eqb, le-leb, lt-leb}
use Rattle.reads.specs.Bytes.{four_of, word_of}

pub word-long : (x : List ℕ) (u v : ℕ) → 4 ≤ length x → u ≡ four_of x 0 → v ≡ four_of x (length x - 4) → u + v * 4294967296 ≡ word_of x
unfolding word_of
word-long x u v h e f = rw (le-leb _ _ h, e, f)

pub word_none : (x : List ℕ) → length x < 4 → length x ≡ 0 → 0 ≡ word_of x
unfolding word_of
word_none x h e = rw (lt-leb _ _ h, eq-eqb _ _ e)

pub word-short : (x : List ℕ) → length x < 4 → (length x ≡ 0 → ⊥) → get_or x 0 0 + get_or x (length x / 2) 0 * 256 + get_or x (length x - 1) 0 * 65536 ≡ word_of x
unfolding word_of
word-short x h n = rw (lt-leb _ _ h, ne_eqb _ _ n)
