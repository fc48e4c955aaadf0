-- What a test of the tag at a place says. Assumes nothing.
use mathlib.Core.Path.{◌≡◌, refl}
use mathlib.Core.Bool.{Bool, true, false, ◌&&◌}
use mathlib.Core.List.{List}
use Prim.Native.Nat.{ℕ, ◌<◌}
use lib.ListN.{get_or}
use lib.Dec.{eqb, ltb}
use borrow.Author.Tests.{ltb-true}
use Rattle.tree.specs.Rose.{end_of}
use Rattle.reads.specs.Bytes.{is_tag, past}

pub tag-lt : (b : List ℕ) (q z k : ℕ) → is_tag b q z k ≡ true → q < z
tag-lt b q z k e = ltb-true q z (left (ltb q z) (eqb (get_or b q 0) k) e)
  where
    left : (t u : Bool) → (t && u) ≡ true → t ≡ true
    left true u e = refl
    left false u e = e

pub past-on : (b : List ℕ) (q z k : ℕ) → is_tag b q z k ≡ true → end_of b q ≡ past b q z k
past-on b q z k e = rw e

pub past_off : (b : List ℕ) (q z k : ℕ) → is_tag b q z k ≡ false → q ≡ past b q z k
past_off b q z k e = rw e
