-- Names as the bytes that they have, and how two of them are held together. Assumes nothing.
use Rattle.std.specs.Prelude.{ℕ, Bool, true, false, cond, ◌&&◌, List, [], ◌∷◌, drop, get_or, eqb}
use Prim.Native.Char.{code}
use Prim.Native.String.{String}

abbrev pub Text : Type 0
Text = List ℕ

-- a text that this page spells out
abbrev pub ascii : String → Text
ascii String.[] = []
ascii (String.◌∷◌ c s) = code c ∷ ascii s

abbrev pub same : Text → Text → Bool
same [] [] = true
same [] (b ∷ bs) = false
same (a ∷ as') [] = false
same (a ∷ as') (b ∷ bs) = eqb a b && same as' bs

-- "A name starting `$` is a variable only."
abbrev pub is_var : Text → Bool
is_var [] = false
is_var (c ∷ cs) = eqb c 0x24

-- "With `::` (first occurrence)": a name has no `::`, or a module part before the first one and the rest behind it
pub data Parted : Type 0 where
  plain : Parted
  parted : Text → Text → Parted

abbrev pub longer : ℕ → Parted → Parted
longer c plain = plain
longer c (parted m f) = parted (c ∷ m) f

abbrev pub parting : Text → Parted
parting [] = plain
parting (c ∷ s) = cond (eqb c 0x3A && eqb (get_or s 0 0) 0x3A) (parted [] (drop 1 s)) (longer c (parting s))
