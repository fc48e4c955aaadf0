-- The loops of `space::space`: blanks and comments, and in a comment its lines. Assumes nothing.
use mathlib.Core.Path.{◌≡◌, refl, sym, ap, ◌∙◌}
use mathlib.Core.Bool.{Bool, true, false, false≢true}
use mathlib.Core.List.{List}
use Prim.Native.Nat.{ℕ, zero, suc, ◌+◌, ◌-◌, ◌≤◌, ◌<◌, min}
use native.Mathlib.Omega.{arith}
use lib.ListN.{length}
use lib.Dec.{eqb, ltb, leb}
use borrow.Author.Tests.{ltb-true, ltb-false, eqb-true, leb-true}
use Rattle.std.specs.Prelude.{◌&&◌, ◌||◌}
use Rattle.std.proofs.lemmas.Grind.{common_steps}
use Rattle.text.specs.Space.{white_space, spaces}
use Rattle.lexer.specs.Scan.{byte, past}
use Rattle.lexer.specs.Space.{blank, in_line, goes_on, next_line, comment, space}
use Rattle.lexer.specs.Meets.{Byte, Reaches, Spacing, bare}
use Rattle.lexer.proofs.Past.{past_more, past_stop, past_end}
use Rattle.lexer.proofs.Blanks.{a-blank, blank-ascii, blank-space, bare-not}
use Rattle.lexer.proofs.Skips.{on_some, comment-on, comment-off, space-blank, space-comment, space-stop}

-- white space of ASCII: spaces alone, or all of it
abbrev pub is_space : ℕ → Bool
is_space b = eqb b 0x20

abbrev pub is_blank : ℕ → Bool
is_blank b = eqb b 0x20 || (leb 9 b && leb b 13)

abbrev White : (ℕ → Bool) → Type 0
White p = (b : ℕ) → p b ≡ true → (b < 128) × (white_space b ≡ true)

from-nine : (b : ℕ) → 9 ≤ b → b ≤ 13 → white_space b ≡ true
unfolding white_space spaces
from-nine b l h = grind (arith, common_steps)

white-space : White is_space
white-space b h = let k = eqb-true b 0x20 h in (omega (arith, k), rw (k, a-blank))

white-blank : White is_blank
white-blank b = go (eqb b 0x20) refl (leb 9 b) refl (leb b 13) refl
  where
    go : (x : Bool) → eqb b 0x20 ≡ x → (y : Bool) → leb 9 b ≡ y → (z : Bool) → leb b 13 ≡ z → (x || (y && z)) ≡ true → (b < 128) × (white_space b ≡ true)
    go true e y f z g h = white-space b e
    go false e true f true g h = (omega (arith, leb-true b 13 g), from-nine b (leb-true 9 b f) (leb-true b 13 g))
    go false e true f false g h = absurd (false≢true h)
    go false e false f z g h = absurd (false≢true h)

-- what is space from here on is space from the start on, in a comment whose first line starts at first, at the start of one of its lines
pub record Commenting (s : List ℕ) (from first at : ℕ) : Type 0 where
  pub is : space s (comment (suc (length s)) s at) ≡ space s from
  pub low : from ≤ at
  pub moved : first ≤ at
  pub high : at ≤ length s

module _ (s : List ℕ) (from : ℕ) where
  pub begin : from ≤ length s → Spacing s from from
  begin h = record { is = refl; low = omega arith; high = h }

  pub one-space : (at b : ℕ) → Spacing s from at → Byte s at b → b ≡ 0x20 → Spacing s from (at + 1)
  one-space at b g i e =
      let n = blank-space s at b i e in
      record {
        is = rw (← n) (sym (space-blank s at g.high (omega (arith, n))) ∙ g.is);
        low = omega (arith, g.low);
        high = omega (arith, i.within);
      }

  white-more : (at : ℕ) → Spacing s from at → at < length s → (byte s at < 128) × (white_space (byte s at) ≡ true) → Spacing s from (at + 1)
  white-more at g h w =
      let n : blank s at ≡ 1 = rw (blank-ascii s at (byte s at) (record { is = refl; within = omega arith }) w.0, w.1) in
      record {
        is = rw (← n) (sym (space-blank s at g.high (omega (arith, n))) ∙ g.is);
        low = omega (arith, g.low);
        high = omega (arith, h);
      }

  -- bytes of white space are white space, however many
  module _ (p : ℕ → Bool) (white : White p) where
    whites-past : (m i : ℕ) → length s ≤ i + m → Spacing s from i → Spacing s from (past p s i)
    whites-past zero i l g = rw (past_end p s i (omega arith)) g
    whites-past (suc m) i l g = here (ltb i (length s)) refl (p (byte s i)) refl (λ h. whites-past m (i + 1) (omega arith) h)
      where
        here : (x : Bool) → ltb i (length s) ≡ x → (y : Bool) → p (byte s i) ≡ y → (Spacing s from (i + 1) → Spacing s from (past p s (i + 1))) → Spacing s from (past p s i)
        here false k y e f = rw (past_end p s i (ltb-false _ _ k)) g
        here true k false e f = rw (past_stop p s i (ltb-true _ _ k) e) g
        here true k true e f = rw (past_more p s i (ltb-true _ _ k) e) (f (white-more i g (ltb-true _ _ k) (white (byte s i) e)))

    whites-passed : (r : ℕ) → from ≤ length s → Reaches (past p s from) s from r → Spacing s from r
    whites-passed r h w = rw w.is (whites-past (length s) from (omega arith) (begin h))

  pub spaces-passed : (r : ℕ) → from ≤ length s → Reaches (past is_space s from) s from r → Spacing s from r
  spaces-passed = whites-passed is_space white-space

  pub blanks-passed : (r : ℕ) → from ≤ length s → Reaches (past is_blank s from) s from r → Spacing s from r
  blanks-passed = whites-passed is_blank white-blank

  pub on : (i at : ℕ) → Spacing s from i → Spacing s i at → Spacing s from at
  on i at g h = record { is = h.is ∙ g.is; low = omega (arith, g.low, h.low); high = h.high }

  -- where nothing is to be skipped
  pub halt : (at b : ℕ) → Spacing s from at → Byte s at b → bare b ≡ true → Reaches (space s from) s from at
  halt at b g i e =
      let n = bare-not s at b i e in
      record { is = sym (space-stop s at n.0 n.1) ∙ g.is; low = g.low; high = g.high }

  pub one-blank : (at n : ℕ) → Spacing s from at → (n ≡ blank s at) × (0 < n) × (at + n ≤ length s) → Spacing s from (at + n)
  one-blank at n g b = record {
    is = rw b.0 (sym (space-blank s at g.high (omega (arith, b.0, b.1))) ∙ g.is);
    low = omega (arith, g.low);
    high = b.2;
  }

  pub one-comment : (at b : ℕ) → Spacing s from at → blank s at ≡ 0 → Byte s at b → b ≡ 0x23 → Commenting s from (at + 1) (at + 1)
  one-comment at b g k i h = record {
    is = sym (space-comment s at k (sym i.is ∙ h)) ∙ g.is;
    low = omega (arith, g.low);
    moved = omega arith;
    high = omega (arith, i.within);
  }

  pub no-comment : (at b : ℕ) → Spacing s from at → blank s at ≡ 0 → Byte s at b → (b ≡ 0x23 → ⊥) → Reaches (space s from) s from at
  no-comment at b g k i h = record {
    is = sym (space-stop s at k (λ e. h (i.is ∙ e))) ∙ g.is;
    low = g.low;
    high = g.high;
  }

  module _ (first at end next : ℕ) (on : Bool) (g : Commenting s from first at) (l : Reaches (past in_line s at) s at end) (o : on ≡ goes_on s at (end - at)) (n : next ≡ min (length s) (end + 1)) where
    goes : goes_on s at (past in_line s at - at) ≡ on
    goes = rw (← l.is) (sym o)

    to : next ≡ next_line s at
    unfolding next_line
    to = omega (arith, n, l.is)

    pub line_on : on ≡ true → Commenting s from first next
    line_on e = record {
      is = rw to (sym (ap (λ (i : ℕ). space s i) (comment-on s at g.high (goes ∙ e))) ∙ g.is);
      low = omega (arith, g.low, l.low, l.high, n);
      moved = omega (arith, g.moved, l.low, l.high, n);
      high = omega (arith, n);
    }

    pub line-moves : on ≡ true → at < next
    line-moves e = omega (arith, n, l.high, on_some s at (end - at) (sym o ∙ e))

    pub line-off : on ≡ false → Spacing s from next
    line-off e = record {
      is = rw to (sym (ap (λ (i : ℕ). space s i) (comment-off s at (goes ∙ e))) ∙ g.is);
      low = omega (arith, g.low, l.low, l.high, n);
      high = omega (arith, n);
    }
