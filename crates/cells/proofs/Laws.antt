-- What the functions on cells do, as laws on lists and numbers. Assumes nothing.
use Prim.Native.Nat.{ℕ, suc, ◌+◌, ◌*◌, ◌/◌, ◌%◌, ◌≤◌, ◌<◌}
use native.Mathlib.Omega.{arith}
use mathlib.Core.Path.{◌≡◌, refl}
use mathlib.Core.List.{List}
use mathlib.Core.Logic.{◌⊎◌, inl, inr}
use lib.Bits.{bit_and, bit_xor, and_le_r}
use lib.ListN.{length, get_or, set}
use Rattle.reads.specs.Bytes.{head_of, word_of}
use denote.Enum.Declared.{tag_of}
use Rattle.cells.specs.Cells.{key_of, class_of, pushed, bound_as}
use Rattle.cells.specs.Kinds.{kind_number}
use Rattle.cells.specs.declared.RowKind.{RowKind}
use Rattle.cells.specs.declared.RowKind.TheVariants.{Var, Label, Arg, Parent, Sibling, Native, Kept, Piece}
use Rattle.cells.specs.contracts.RowKind.{the_type}

-- ---- kinds and heads

-- what `as` makes of a kind
pub kind-cast : (k : RowKind) → tag_of the_type k ≡ kind_number k
kind-cast Var = refl
kind-cast Label = refl
kind-cast Arg = refl
kind-cast Parent = refl
kind-cast Sibling = refl
kind-cast Native = refl
kind-cast Kept = refl
kind-cast Piece = refl

-- all kinds but two are of bindings
pub binding-kind : (k : RowKind) → (k ≡ Kept → ⊥) → (k ≡ Piece → ⊥) → kind_number k < 6
binding-kind Var h g = omega arith
binding-kind Label h g = omega arith
binding-kind Arg h g = omega arith
binding-kind Parent h g = omega arith
binding-kind Sibling h g = omega arith
binding-kind Native h g = omega arith
binding-kind Kept h g = absurd (h refl)
binding-kind Piece h g = absurd (g refl)

pub note-kind : (k : RowKind) → (k ≡ Kept) ⊎ (k ≡ Piece) → 6 ≤ kind_number k
note-kind k (inl e) = rw e (omega arith)
note-kind k (inr e) = rw e (omega arith)

-- what a name's head is taken from
abbrev pub mixed : ℕ → ℕ
mixed w = bit_xor (w % 4294967296 * 2654435761) (w / 4294967296 * 2246822519) / 137438953472

pub head-is : (m w l : ℕ) → (8 + bit_and (mixed w + l) m ≡ head_of m w l) × (8 ≤ 8 + bit_and (mixed w + l) m) × (8 + bit_and (mixed w + l) m ≤ 8 + m)
unfolding head_of
head-is m w l = (refl, omega arith, omega (arith, and_le_r (mixed w + l) m))

-- ---- a row comes into view

pub push-is : (x y s : List ℕ) (k kind q a n c l tail w h cl ky : ℕ) → y ≡ x → w ≡ word_of y → h ≡ head_of (get_or s 0 0) w (length y) → cl ≡ class_of kind → ky ≡ key_of cl (length y) a
    → set (set (set (set (set s (4 * k) w) (4 * k + 1) (ky + n * 17179869184 + l * 1125899906842624)) (4 * k + 2) (get_or s h 0 + h * 16384 + q * 1073741824 + kind * 35184372088832 + c * 281474976710656)) (4 * k + 3) tail) h k
    ≡ pushed x s k kind q a n c l tail
unfolding pushed
push-is x y s k kind q a n c l tail w h cl ky ex ew eh ec ek =
    let e₁ : 4 * k + 1 ≡ suc (4 * k) = omega arith in
    let e₂ : 4 * k + 2 ≡ suc (suc (4 * k)) = omega arith in
    let e₃ : 4 * k + 3 ≡ suc (suc (suc (4 * k))) = omega arith in
    rw (e₁, e₂, e₃, ek, ec, eh, ew, ex)

-- and counts
pub bind_is : (x s s' : List ℕ) (k kind q n c : ℕ) → c ≡ get_or s 1 0 → s' ≡ pushed x s k kind q 0 n c 0 0 → set s' 1 (c + 1) ≡ bound_as x s k kind q n
unfolding bound_as
bind_is x s s' k kind q n c ec es = rw (es, ec)
