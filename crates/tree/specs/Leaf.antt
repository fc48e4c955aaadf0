-- The class and the content of a tag; what the bytes of a leaf may be. Assumes nothing.
use Rattle.std.specs.Prelude.{ℕ, List, [], ◌∷◌, Bool, true, false, cond, eqb, leb, length, get_or}
use Rattle.fields.specs.Number.{value}
use Rattle.text.specs.Utf8.{is_scalar}
use Rattle.text.specs.Valid.{valid_prefix}
use Rattle.tree.specs.Table.{classes, shapes}
use Rattle.tree.specs.Tree.{Operator, o_comma, o_alt, o_or, o_and, o_assign, o_update, o_update_alt, o_math, o_update_math, o_cmp, o_none, operator_of}

unfoldable pub class : ℕ → ℕ
class k = get_or classes k 31

unfoldable pub shape : ℕ → ℕ
shape k = get_or shapes k 255

-- no row of members, but bytes
abbrev pub is_leaf_tag : ℕ → Bool
is_leaf_tag k = leb 200 (shape k)

abbrev pub both : Bool → Bool → Bool
both true x = x
both false x = false

-- "texts are UTF-8": the longest valid prefix is the whole
unfoldable pub text : List ℕ → Bool
text x = eqb (valid_prefix x) (length x)

-- "a Var name starts with `$`"
abbrev pub dollar : List ℕ → Bool
dollar [] = false
dollar (x ∷ xs) = eqb x 36

-- is it one of the operators?
abbrev pub listed : Operator → Bool
listed o_comma = true
listed o_alt = true
listed o_or = true
listed o_and = true
listed o_assign = true
listed o_update = true
listed o_update_alt = true
listed (o_math n) = true
listed (o_update_math n) = true
listed (o_cmp n) = true
listed o_none = false

unfoldable pub is_operator : ℕ → Bool
is_operator k = listed (operator_of k)

-- the content of a leaf, of each kind that the table has
unfoldable pub leaf_ok : ℕ → List ℕ → Bool
leaf_ok s x =
    cond (eqb s 201) (text x)
    (cond (eqb s 202) (both (dollar x) (text x))
    (cond (eqb s 203) (eqb (length x) 2)
    (cond (eqb s 204) (both (eqb (length x) 1) (is_operator (get_or x 0 0)))
    (cond (eqb s 205) (both (eqb (length x) 4) (is_scalar (value x))) false))))
