-- What a search compares: word and key first, the name last. That is the test of class, arity and name. Assumes nothing.
use Rattle.std.specs.Prelude.{ℕ, ◌+◌, ◌*◌, ◌/◌, ◌%◌, ◌≤◌, ◌<◌, ◌≡◌, refl, Bool, true, false, cond, ◌&&◌, List, [], ◌∷◌, length}
use Rattle.std.proofs.Common.{arith, div-add-mod', mod-lt, sym, ap, subst, ◌∙◌, length-take, length-drop}
use lib.Dec.{T, eqb, ltb, eqb→eq, eqb_refl, lit<}
use Rattle.tree.specs.Rose.{end_of, text_of}
use Rattle.rules.specs.Names.{Text, same}
use Rattle.reads.specs.Bytes.{word_of, head_of, len_of}
use Rattle.cells.specs.Cells.{Good, class_of, key_of, key_at, word_at, kind_at, arity_at, place_at, head_at}
use Rattle.finds.specs.Means.{matches}

-- ---- tests

pub T-ext : (a c : Bool) → (T a → T c) → (T c → T a) → a ≡ c
T-ext true true f g = refl
T-ext true false f g = absurd (f tt)
T-ext false true f g = absurd (g tt)
T-ext false false f g = refl

pub T_true : (a : Bool) → T a → a ≡ true
T_true true h = refl
T_true false h = absurd h

pub true-T : (a : Bool) → a ≡ true → T a
true-T a e = subst T (sym e) tt

pub and_left : (a c : Bool) → T (a && c) → T a
and_left true c h = tt
and_left false c h = h

pub and_right : (a c : Bool) → T (a && c) → T c
and_right true c h = h
and_right false c h = absurd h

pub and_both : (a c : Bool) → T a → T c → T (a && c)
and_both true c p q = q
and_both false c p q = p

pub eq-T : (a c : ℕ) → a ≡ c → T (eqb a c)
eq-T a c e = subst (λ (k : ℕ). T (eqb a k)) e (eqb_refl a)

pub same-eq : (x y : Text) → T (same x y) → x ≡ y
same-eq [] [] h = refl
same-eq [] (c ∷ y) h = absurd h
same-eq (a ∷ x) [] h = absurd h
same-eq (a ∷ x) (c ∷ y) h = cc (eqb→eq a c (and_left (eqb a c) (same x y) h), same-eq x y (and_right (eqb a c) (same x y) h))

pub same_refl : (x : Text) → T (same x x)
same_refl [] = tt
same_refl (a ∷ x) = and_both (eqb a a) (same x x) (eqb_refl a) (same_refl x)

pub same-T : (x y : Text) → x ≡ y → T (same x y)
same-T x y e = subst (λ (z : Text). T (same x z)) e (same_refl x)

-- ---- keys

-- a key is of one class, length and arity
pub key-parts : (c l a c' l' a' : ℕ) → c < 4 → c' < 4 → c + 4 * l < 262144 → c' + 4 * l' < 262144 → key_of c l a ≡ key_of c' l' a' → (c ≡ c') × (l ≡ l') × (a ≡ a')
key-parts c l a c' l' a' h h' k k' e = (omega arith, omega arith, omega arith)

low_part : (k r : ℕ) → k ≡ r + 262144 * (k / 262144) → r < 262144
low_part k r e =
    let h : k % 262144 < 262144 = mod-lt k (lit< tt) in
    omega (arith, div-add-mod' k 262144)

pub class-small : (kind : ℕ) → class_of kind < 3
class-small kind = go (ltb kind 2) refl
  where
    go : (t : Bool) → ltb kind 2 ≡ t → cond t kind 2 < 3
    go true e = omega (arith, lib.Dec.ltb→lt kind 2 (true-T (ltb kind 2) e))
    go false e = omega arith

-- the text of a field that lies within the bytes has the field's length
pub text-length : (b : List ℕ) (p : ℕ) → end_of b p ≤ length b → length (text_of b p) ≡ len_of b p
text-length b p h = simp (length-take, length-drop) (omega arith)

-- the text, class and arity of a row
unfoldable pub fits_row : List ℕ → List ℕ → Text → ℕ → ℕ → ℕ → Bool
fits_row b s x class a j = eqb (class_of (kind_at s j)) class && eqb (arity_at s j) a && same x (text_of b (place_at s j))

module _ (m : ℕ) (b s : List ℕ) (j : ℕ) (g : Good m b s j) (x : Text) (class a : ℕ) (few : class < 4) (short : length x < 65536) where
  same_key : key_at s j ≡ key_of class (length x) a → (class_of (kind_at s j) ≡ class) × (length (text_of b (place_at s j)) ≡ length x) × (arity_at s j ≡ a)
  same_key e =
      key-parts (class_of (kind_at s j)) (length (text_of b (place_at s j))) (arity_at s j) class (length x) a
      (omega (arith, class-small (kind_at s j))) few
      (low_part (key_at s j) (class_of (kind_at s j) + 4 * length (text_of b (place_at s j))) g.key)
      (omega arith)
      (sym g.key ∙ e)

  -- the length of the name is that of the key
  pub key-length : key_at s j ≡ key_of class (length x) a → len_of b (place_at s j) ≡ length x
  key-length e = sym (text-length b (place_at s j) g.name) ∙ (same_key e).1

  pub matches-fits : matches b s x (word_of x) (key_of class (length x) a) j ≡ fits_row b s x class a j
  unfolding fits_row
  matches-fits = T-ext (matches b s x (word_of x) (key_of class (length x) a) j) (eqb (class_of (kind_at s j)) class && eqb (arity_at s j) a && same x text) to from
    where
      text : Text
      text = text_of b (place_at s j)

      to : T (matches b s x (word_of x) (key_of class (length x) a) j) → T (eqb (class_of (kind_at s j)) class && eqb (arity_at s j) a && same x (text_of b (place_at s j)))
      to h =
          let u = and_left (eqb (word_at s j) (word_of x) && eqb (key_at s j) (key_of class (length x) a)) (same x (text_of b (place_at s j))) h in
          let k = same_key (eqb→eq (key_at s j) (key_of class (length x) a) (and_right (eqb (word_at s j) (word_of x)) (eqb (key_at s j) (key_of class (length x) a)) u)) in
          and_both (eqb (class_of (kind_at s j)) class && eqb (arity_at s j) a) (same x (text_of b (place_at s j)))
          (and_both (eqb (class_of (kind_at s j)) class) (eqb (arity_at s j) a) (eq-T (class_of (kind_at s j)) class k.0) (eq-T (arity_at s j) a k.2))
          (and_right (eqb (word_at s j) (word_of x) && eqb (key_at s j) (key_of class (length x) a)) (same x (text_of b (place_at s j))) h)

      from : T (eqb (class_of (kind_at s j)) class && eqb (arity_at s j) a && same x (text_of b (place_at s j))) → T (matches b s x (word_of x) (key_of class (length x) a) j)
      from h =
          let u = and_left (eqb (class_of (kind_at s j)) class && eqb (arity_at s j) a) (same x (text_of b (place_at s j))) h in
          let v = and_right (eqb (class_of (kind_at s j)) class && eqb (arity_at s j) a) (same x (text_of b (place_at s j))) h in
          let c : class_of (kind_at s j) ≡ class = eqb→eq (class_of (kind_at s j)) class (and_left (eqb (class_of (kind_at s j)) class) (eqb (arity_at s j) a) u) in
          let d : arity_at s j ≡ a = eqb→eq (arity_at s j) a (and_right (eqb (class_of (kind_at s j)) class) (eqb (arity_at s j) a) u) in
          let e : x ≡ text_of b (place_at s j) = same-eq x (text_of b (place_at s j)) v in
          let l : length x ≡ length (text_of b (place_at s j)) = ap length e in
          let w : word_at s j ≡ word_of x = g.word ∙ ap word_of (sym e) in
          let k : key_at s j ≡ key_of class (length x) a = omega (arith, g.key) in
          and_both (eqb (word_at s j) (word_of x) && eqb (key_at s j) (key_of class (length x) a)) (same x (text_of b (place_at s j)))
          (and_both (eqb (word_at s j) (word_of x)) (eqb (key_at s j) (key_of class (length x) a)) (eq-T (word_at s j) (word_of x) w) (eq-T (key_at s j) (key_of class (length x) a) k))
          v

  -- what matches stands in the bucket of the name
  pub matches-head : T (matches b s x (word_of x) (key_of class (length x) a) j) → head_at s j ≡ head_of m (word_of x) (length x)
  matches-head h =
      let u = and_left (eqb (word_at s j) (word_of x) && eqb (key_at s j) (key_of class (length x) a)) (same x (text_of b (place_at s j))) h in
      let w : word_at s j ≡ word_of x = eqb→eq (word_at s j) (word_of x) (and_left (eqb (word_at s j) (word_of x)) (eqb (key_at s j) (key_of class (length x) a)) u) in
      let k = same_key (eqb→eq (key_at s j) (key_of class (length x) a) (and_right (eqb (word_at s j) (word_of x)) (eqb (key_at s j) (key_of class (length x) a)) u)) in
      let l : length (text_of b (place_at s j)) ≡ length x = k.1 in
      cc g.head
