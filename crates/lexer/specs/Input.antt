-- "In a lexer's state the remaining input `i` is always a suffix of the source." What each step of a lexer leaves of its input, and that sentence as a
-- theorem on any row of steps. Assumes nothing.
use Rattle.std.specs.Prelude.{◌≡◌, refl, List, [], ◌∷◌, ◌++◌, ℕ, zero, suc, ◌+◌, ◌≤◌, min, length, take, drop}
use Rattle.std.proofs.Common.{ap, ◌∙◌, arith, take-append-drop, drop-drop}
use Rattle.std.proofs.Math.Nat.{zero-min, suc-min-suc, min-zero, min-le_right}
use Rattle.lexer.specs.Space.{space}

-- what a lexer does to its remaining input: it takes so many bytes, or goes past white space and comments
pub data Step : Type 0 where
  taking : ℕ → Step
  spacing : Step

-- how many bytes of its remaining input it consumes
abbrev pub consumed : Step → List ℕ → ℕ
consumed (taking len) i = len
consumed spacing i = space i 0

-- the input that remains behind a step
abbrev pub behind : Step → List ℕ → List ℕ
behind step i = drop (consumed step i) i

-- the input that remains behind a row of steps
unfoldable pub remaining : List Step → List ℕ → List ℕ
remaining [] i = i
remaining (step ∷ steps) i = remaining steps (behind step i)

-- what remains of the source behind its first bytes
pub record Suffix (source i : List ℕ) : Type 0 where
  pub from : ℕ
  pub within : from ≤ length source
  pub is : i ≡ drop from source

drop_min : (n : ℕ) (l : List ℕ) → drop n l ≡ drop (min n (length l)) l
drop_min zero l = rw (zero-min (length l))
drop_min (suc n) [] = rw (min-zero (suc n))
drop_min (suc n) (x ∷ l) = rw (suc-min-suc n (length l)) (drop_min n l)

drops : (n : ℕ) (source i : List ℕ) → Suffix source i → Suffix source (drop n i)
drops n source i s = record {
  from = min (s.from + n) (length source);
  within = min-le_right (s.from + n) (length source);
  is = ap (drop n) s.is ∙ drop-drop n s.from source ∙ drop_min (s.from + n) source;
}

onward : (steps : List Step) (source i : List ℕ) → Suffix source i → Suffix source (remaining steps i)
unfolding remaining
onward [] source i s = s
onward (step ∷ steps) source i s = onward steps source (behind step i) (drops (consumed step i) source i s)

-- "always a suffix of the source": whatever steps a lexer makes that starts with all of it
pub suffix : (steps : List Step) (source : List ℕ) → Suffix source (remaining steps source)
suffix steps source = onward steps source source (record { from = 0; within = omega arith; is = refl })

-- what `taken` gives and what `take` leaves are the input, with nothing between
pub nothing-lost : (len : ℕ) (i : List ℕ) → take len i ++ behind (taking len) i ≡ i
nothing-lost len i = take-append-drop len i
