-- Fields, written out as the bytes that the code puts. Assumes nothing.
use mathlib.Core.Path.{◌≡◌, refl, sym, ◌∙◌}
use mathlib.Core.List.{List, [], ◌∷◌, ◌++◌}
use Prim.Native.Nat.{ℕ, ◌-◌, ◌/◌, ◌%◌, ◌<◌}
use native.Mathlib.Nat.{add-zero}
use native.Mathlib.Omega.{arith}
use lib.ListN.{length-append}
use borrow.Author.Tests.{eq-eqb, ne_eqb}
use Rattle.fields.specs.Number.{number}
use Rattle.fields.specs.Field.{field}
use Rattle.fields.specs.Room.{overlay, overlay-none, overlay-append}
use Rattle.lexer.specs.Token.{one, leaf, char, Expect}
use Rattle.lexer.specs.Lex.{text}
use Rattle.lexer.specs.Listing.{pair, tokens_bytes, error_tag, opener, error_bytes, errors_bytes}
use Rattle.lexer.specs.Meets.{expect_of, Put, Puts, Erred, Encloses}
use Rattle.lexer.specs.declared.put.Expected.{Expected}
use Rattle.lexer.specs.declared.put.Expected.TheVariants.{Digit, Ident, Closer, Escape, Unicode, Any}
use Rattle.lexer.specs.declared.put.Room.{Room}

-- nothing is put
pub put-none : (a : Room) → Put a [] a
put-none a = record { same = refl; next = sym (add-zero a.next); room = sym (overlay-none a.bytes.now a.next) }

-- one run, and then another
pub put_then : (a b c : Room) (xs ys : List ℕ) → Put a xs b → Put b ys c → Put a (xs ++ ys) c
put_then a b c xs ys p q = record {
  same = q.same ∙ p.same;
  next = omega (arith, p.next, q.next, length-append xs ys);
  room = q.room ∙ rw (p.next, p.room) (overlay-append a.bytes.now a.next xs ys);
}

-- the field of an error, written out
module _ (w : Expect) (place : ℕ) (a b : Room) where
  pub erred : opener w ≡ [] → Put a (error_tag w ∷ 2 ∷ 0 ∷ place % 256 ∷ place / 256 % 256 ∷ []) b → Erred w place a b
  unfolding errors_bytes error_bytes field number
  erred o h = record { few = omega (arith, h.next); put = rw o h }

  pub erred-closer : (c : ℕ) → opener w ≡ c ∷ [] → Put a (error_tag w ∷ 3 ∷ 0 ∷ place % 256 ∷ place / 256 % 256 ∷ c ∷ []) b → Erred w place a b
  unfolding errors_bytes error_bytes field number
  erred-closer c o h = record { few = omega (arith, h.next); put = rw o h }

pub opener-none : (x : Expected) → ((b : ℕ) → x ≡ Closer b → ⊥) → opener (expect_of x) ≡ []
unfolding opener
opener-none Digit n = refl
opener-none Ident n = refl
opener-none (Closer b) n = absurd (n b refl)
opener-none Escape n = refl
opener-none Unicode n = refl
opener-none Any n = refl

-- the end of a string or block, and its record
pub enclosed : (tag o start size : ℕ) (a b c : Room) → Put a (9 ∷ 0 ∷ 0 ∷ []) b → c.bytes.ghost_name ≡ b.bytes.ghost_name → c.next ≡ b.next
    → c.bytes.now ≡ overlay b.bytes.now o (field tag (number 2 start ++ number 2 size)) → Encloses tag o start size a c
unfolding pair field number
enclosed tag o start size a b c p g n h = record { same = g ∙ p.same; next = n ∙ p.next; room = rw (← p.room) h }

module _ (a b : Room) where
  pub put-leaf : (tag start size : ℕ) → Put a (pair 2 tag start size) b → Puts 7 a (tokens_bytes 2 (one (leaf tag start size))) b
  unfolding tokens_bytes pair field number
  put-leaf tag start size h = record { size = h.next; put = h }

  small : (c : ℕ) → c < 65536 → c / 256 / 256 ≡ 0
  small c h = omega arith

  pub put-code : (c : ℕ) → c < 65536 → Put a (pair 2 0x0A c 0) b → Puts 7 a (tokens_bytes 2 (one (char c))) b
  unfolding tokens_bytes pair field number
  put-code c k h = record { size = h.next; put = record { same = h.same; next = h.next; room = rw (small c k) h.room } }

  pub put_some : (from to : ℕ) → from < to → Puts 7 a (tokens_bytes 2 (one (leaf 0x08 from (to - from)))) b → Put a (tokens_bytes 2 (text from to)) b
  unfolding text
  put_some from to n h = simp (ne_eqb to from (λ e. omega arith)) h.put

pub put-empty : (a : Room) (from to : ℕ) → to ≡ from → Put a (tokens_bytes 2 (text from to)) a
unfolding text tokens_bytes
put-empty a from to e = simp (eq-eqb to from e) (put-none a)
