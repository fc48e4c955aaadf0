-- The tags of tokens by their numbers. Assumes nothing.
use mathlib.Core.Path.{◌≡◌, refl, sym, ap, ◌∙◌}
use mathlib.Core.Bool.{cond}
use Prim.Native.Nat.{ℕ}
use native.Mathlib.Omega.{arith}
use lib.Dec.{eqb}
use Rattle.lexer.specs.Meets.{tag_of}
use Rattle.lexer.specs.declared.token.Tag.{Tag}
use Rattle.lexer.specs.declared.token.Tag.TheVariants.{Word, Var, Fmt, Num, Sym, Str, Block, Text}

of_number : ℕ → Tag
of_number n =
    cond (eqb n 1) Word (cond (eqb n 2) Var (cond (eqb n 3) Fmt (cond (eqb n 4) Num (cond (eqb n 5) Sym (cond (eqb n 6) Str (cond (eqb n 7) Block Text))))))

of_tag : (t : Tag) → of_number (tag_of t) ≡ t
unfolding of_number
of_tag Word = refl
of_tag Var = refl
of_tag Fmt = refl
of_tag Num = refl
of_tag Sym = refl
of_tag Str = refl
of_tag Block = refl
of_tag Text = refl

-- no two tags have one number
pub same-tag : (t u : Tag) → tag_of t ≡ tag_of u → t ≡ u
same-tag t u e = sym (of_tag t) ∙ ap of_number e ∙ of_tag u

-- and none has 0
pub some-tag : (t : Tag) → tag_of t ≡ 0 → ⊥
some-tag Word e = omega arith
some-tag Var e = omega arith
some-tag Fmt e = omega arith
some-tag Num e = omega arith
some-tag Sym e = omega arith
some-tag Str e = omega arith
some-tag Block e = omega arith
some-tag Text e = omega arith
