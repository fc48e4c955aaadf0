-- "Space: Unicode White_Space".
use Rattle.std.specs.Prelude.{ℕ, Bool, List, [], ◌∷◌}
use Rattle.text.specs.Ranges.{Range, ◌‥◌, among}

-- the 25 characters of PropList.txt, "# Total code points: 25"
unfoldable pub spaces : List Range
spaces =
    0x0009 ‥ 0x000D
    ∷ 0x0020 ‥ 0x0020
    ∷ 0x0085 ‥ 0x0085
    ∷ 0x00A0 ‥ 0x00A0
    ∷ 0x1680 ‥ 0x1680
    ∷ 0x2000 ‥ 0x200A
    ∷ 0x2028 ‥ 0x2029
    ∷ 0x202F ‥ 0x202F
    ∷ 0x205F ‥ 0x205F
    ∷ 0x3000 ‥ 0x3000
    ∷ []

unfoldable pub white_space : ℕ → Bool
white_space c = among spaces c
