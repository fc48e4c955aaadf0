-- Module numbers. Document 01: "a module may use only earlier modules; main is last"; TREE.md: a number is "less than the number of the module it stands in
-- (modules count from 0, main is the count of modules)". Assumes nothing.
use Rattle.std.specs.Prelude.{ℕ, suc, ◌+◌, ◌*◌, ◌≤◌, ◌≡◌, List, [], ◌∷◌, Bool, true, ltb, length, get_or}
use Rattle.fields.specs.Number.{value}
use Rattle.tree.specs.Leaf.{both}
use Rattle.tree.specs.Rose.{Roses, rnil, rcons, end_of, Row}
use Rattle.tree.specs.Form.{f_uses, f_modules, f_main}
use Rattle.tree.specs.Tree.{Number, Import, Uses, Module, Main, Tree}

-- the numbers that imports and includes name
unfoldable pub imported : List Import → List ℕ
imported [] = []
imported (i ∷ is) = value i.number.bytes ∷ imported is

unfoldable pub included : List Number → List ℕ
included [] = []
included (n ∷ ns) = value n.bytes ∷ included ns

-- each is less than m
unfoldable pub below : ℕ → List ℕ → Bool
below m [] = true
below m (v ∷ vs) = both (ltb v m) (below m vs)

unfoldable pub uses_below : ℕ → Uses → Bool
uses_below m u = both (below m (imported u.imports)) (below m (included u.includes))

-- the modules from number m on, then main
unfoldable pub numbered_from : ℕ → List Module → Main → Bool
numbered_from m [] main = uses_below m main.uses
numbered_from m (x ∷ xs) main = both (uses_below m x.uses) (numbered_from (suc m) xs main)

unfoldable pub numbered : Tree → Bool
numbered t = numbered_from 0 t.modules t.main

-- ---- where they stand in bytes

-- two bytes at i, as a number
abbrev pub two_at : List ℕ → ℕ → ℕ
two_at b i = get_or b i 0 + get_or b (i + 1) 0 * 256

-- the fields from p to e have each a number d bytes after their start; these are the numbers
pub data Held (b : List ℕ) (d e : ℕ) : List ℕ → ℕ → Type 0 where
  none : {p : ℕ} → p ≡ e → Held b d e [] p
  more : {v : ℕ} {vs : List ℕ} {p : ℕ} → p + d + 2 ≤ end_of b p → end_of b p ≤ e → v ≡ two_at b (p + d) → Held b d e vs (end_of b p) → Held b d e (v ∷ vs) p

-- the field at p has the members of a module or main, and these use u
pub record Using (b : List ℕ) (p : ℕ) (u : Uses) : Type 0 where
  pub rest : Roses
  pub row : Row b (f_uses u rest) (p + 3) (end_of b p)
  pub fits : end_of b p ≤ length b

-- modules and main stand from p on to the end
abbrev pub From : List ℕ → List Module → Main → ℕ → Type 0
From b ms m p = Row b (f_modules ms (rcons (f_main m) rnil)) p (length b)
