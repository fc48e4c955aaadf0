-- Widths of the parts of a path, of strings and of objects. Assumes nothing.
use Prim.Native.Nat.{ℕ, ◌+◌, ◌*◌, ◌≤◌, ◌<◌}
use native.Mathlib.Omega.{arith}
use mathlib.Core.Path.{◌≡◌, refl, sym, ap, subst, ◌∙◌}
use mathlib.Core.Bool.{Bool, true, false, cond}
use mathlib.Core.List.{List, [], ◌∷◌}
use lib.Dec.{eqb, ltb}
use lib.ListN.{length, get_or, drop}
use lib.Seq.{get_or-take, get_or-drop}
use borrow.Author.Tests.{lt-ltb, le-ltb, eqb-true}
use Rattle.fields.specs.Number.{value}
use Rattle.text.specs.Utf8.{utf8, encode, is_scalar}
use Rattle.tree.specs.Leaf.{shape, leaf_ok, both}
use Rattle.tree.specs.Table.{shapes}
use Rattle.tree.specs.Rose.{Roses, rnil, rcons, end_of, text_of, Row, row-le}
use Rattle.tree.specs.Tree.{Bound, Part, Parts, parts_nil, parts_cons, StrPart, StrParts, s_cons, Entries, es_cons}
use Rattle.tree.specs.Form.{f_mark, f_bound, f_part, f_parts, f_str_part, f_str_parts, f_entries}
use Rattle.reads.specs.Bytes.{len_of, is_tag, past, four_of}
use Rattle.reads.specs.Widths.{bound_width, part_width, parts_width, str_width, strings_width, entries_width}
use Rattle.reads.specs.Parts.{NoHead, no-from, no-upto, on-bound, on-no-bound, on-index, on-range, on-parts-cons, on-parts-nil, on-text, on-char, on-str-term, on-strings-cons, on-strings-nil, on-entries-cons, on-entries-nil, row_fits}
use Rattle.reads.specs.Shapes.{tag-yes, tag-no, text-first}
use Rattle.reads.proofs.Rows.{row_step}
use Rattle.reads.specs.Texts.{length-text}

-- ---- any row

pub row_next : (b : List ℕ) (rs : Roses) (q z : ℕ) → Row b rs q z → q < z → end_of b q ≤ z
row_next b rs q z h l = let k = row_step b rs q z h l in row-le b k.0 (end_of b q) z k.1

-- ---- bounds

abbrev two_if : ℕ → ℕ → ℕ
two_if a b = cond (ltb a b) 2 0

-- after a bound, and whether it is there
module _ (b : List ℕ) (k q z : ℕ) (rs : Roses) (n : NoHead k rs) where
  pub past_bound : (x : Bound) → Row b (f_bound k x rs) q z → Row b rs (past b q z k) z × (1 + cond (ltb q (past b q z k)) 2 0 ≡ bound_width x)
  past_bound x h = go (is_tag b q z k) refl
    where
      go : (t : Bool) → is_tag b q z k ≡ t → Row b rs (cond t (end_of b q) q) z × (1 + cond (ltb q (cond t (end_of b q) q)) 2 0 ≡ bound_width x)
      go true e =
          let y = tag-yes b q z k e in
          on-bound b k q z rs (λ (x : Bound). Row b rs (end_of b q) z × (1 + cond (ltb q (end_of b q)) 2 0 ≡ bound_width x)) n y.0 y.1
          (λ t f a i r. (r, rw (lt-ltb q (end_of b q) (omega arith)))) x h
      go false e =
          on-no-bound b k q z rs (λ (x : Bound). Row b rs q z × (1 + cond (ltb q q) 2 0 ≡ bound_width x)) (tag-no b q z k e)
          (λ r. (r, rw (le-ltb q q (omega arith)))) x h

-- each bound pays for its two bytes
past-paid : (b : List ℕ) (q z k : ℕ) → cond (ltb q (past b q z k)) 2 0 + 2 * q ≤ 2 * past b q z k
past-paid b q z k = go (is_tag b q z k)
  where
    go : (t : Bool) → cond (ltb q (cond t (end_of b q) q)) 2 0 + 2 * q ≤ 2 * cond t (end_of b q) q
    go true = rw (lt-ltb q (end_of b q) (omega arith)) (omega arith)
    go false = rw (le-ltb q q (omega arith)) (omega arith)

-- ---- parts of a path

pub part-fits : (b : List ℕ) (x : Part) (q : ℕ) → Row b (rcons (f_part x) rnil) q (end_of b q) → end_of b q ≤ length b
part-fits b x q h = row_fits b (f_part x) rnil q (end_of b q) h

pub index-width : (b : List ℕ) (q : ℕ) → get_or b q 0 ≡ 0xBE → (x : Part) → Row b (rcons (f_part x) rnil) q (end_of b q) → 4 ≡ part_width x
index-width b q e = on-index b q (λ (x : Part). 4 ≡ part_width x) e (λ t m f a r. refl)

-- what stands in the range at q, and after its first bound
module _ (b : List ℕ) (q z : ℕ) (e : z ≡ end_of b q) (n : get_or b q 0 ≡ 0xBE → ⊥) where
  pub range-row : (x : Part) → Row b (rcons (f_part x) rnil) q (end_of b q) → (rs : Roses) × Row b rs (q + 3) z
  range-row x h =
      on-range b q (λ (x : Part). (rs : Roses) × Row b rs (q + 3) z) n
      (λ l v m f r. (f_bound 0xC1 l (f_bound 0xC2 v (f_mark m rnil)), subst (λ (i : ℕ). Row b (f_bound 0xC1 l (f_bound 0xC2 v (f_mark m rnil))) (q + 3) i) (sym e) r)) x h

  module _ (u : ℕ) (f : u ≡ past b (q + 3) z 0xC1) where
    pub upto-row : (x : Part) → Row b (rcons (f_part x) rnil) q (end_of b q) → (rs : Roses) × Row b rs u z
    upto-row x h =
        on-range b q (λ (x : Part). (rs : Roses) × Row b rs u z) n
        (λ l v m g r.
        let rs = f_bound 0xC2 v (f_mark m rnil) in
        let s : Row b (f_bound 0xC1 l rs) (q + 3) z = subst (λ (i : ℕ). Row b (f_bound 0xC1 l rs) (q + 3) i) (sym e) r in
        (rs, subst (λ (i : ℕ). Row b rs i z) (sym f) (past_bound b 0xC1 (q + 3) z rs (no-from v m) l s).0)) x h

    module _ (v r₁ r₂ : ℕ) (g : v ≡ past b u z 0xC2) (e₁ : r₁ ≡ cond (ltb (q + 3) u) 2 0) (e₂ : r₂ ≡ cond (ltb u v) 2 0) where
      pub range-width : (x : Part) → Row b (rcons (f_part x) rnil) q (end_of b q) → 4 + r₁ + r₂ ≡ part_width x
      range-width x h =
          on-range b q (λ (x : Part). 4 + r₁ + r₂ ≡ part_width x) n
          (λ l w m k r.
          let rs = f_mark m rnil in
          let s : Row b (f_bound 0xC1 l (f_bound 0xC2 w rs)) (q + 3) z = subst (λ (i : ℕ). Row b (f_bound 0xC1 l (f_bound 0xC2 w rs)) (q + 3) i) (sym e) r in
          let a = past_bound b 0xC1 (q + 3) z (f_bound 0xC2 w rs) (no-from w m) l s in
          let t : Row b (f_bound 0xC2 w rs) u z = subst (λ (i : ℕ). Row b (f_bound 0xC2 w rs) i z) (sym f) a.0 in
          let c = past_bound b 0xC2 u z rs (no-upto m) w t in
          omega (arith, a.1, c.1, e₁, e₂, ap (two_if (q + 3)) f, ap (two_if u) g)) x h

      pub range-paid : (x : Part) → Row b (rcons (f_part x) rnil) q (end_of b q) → 4 + r₁ + r₂ + 2 * q ≤ 2 * end_of b q
      range-paid x h =
          on-range b q (λ (x : Part). 4 + r₁ + r₂ + 2 * q ≤ 2 * end_of b q) n
          (λ l w m k r.
          let rs = f_mark m rnil in
          let s : Row b (f_bound 0xC1 l (f_bound 0xC2 w rs)) (q + 3) z = subst (λ (i : ℕ). Row b (f_bound 0xC1 l (f_bound 0xC2 w rs)) (q + 3) i) (sym e) r in
          let a = past_bound b 0xC1 (q + 3) z (f_bound 0xC2 w rs) (no-from w m) l s in
          let t : Row b (f_bound 0xC2 w rs) u z = subst (λ (i : ℕ). Row b (f_bound 0xC2 w rs) i z) (sym f) a.0 in
          let c : Row b rs v z = subst (λ (i : ℕ). Row b rs i z) (sym g) (past_bound b 0xC2 u z rs (no-upto m) w t).0 in
          omega (
            arith,
            row-le b rs v z c,
            past-paid b (q + 3) z 0xC1,
            past-paid b u z 0xC2,
            e,
            e₁,
            e₂,
            f,
            g,
            ap (two_if (q + 3)) f,
            ap (two_if u) g,
          )) x h

-- w bytes are known when p is reached
pub record Adding (b : List ℕ) (q z p w : ℕ) : Type 0 where
  pub goes : (xs : Parts) → Row b (f_parts xs rnil) q z → (ys : Parts) × Row b (f_parts ys rnil) p z × (parts_width xs ≡ w + parts_width ys)
  pub room : w + 2 * q ≤ 2 * p

parts-cons : (x : Part) (xs : Parts) → parts_width (parts_cons x xs) ≡ part_width x + parts_width xs
unfolding parts_width
parts-cons x xs = refl

parts-nil : parts_width parts_nil ≡ 0
unfolding parts_width
parts-nil = refl

module _ (b : List ℕ) (q z : ℕ) where
  pub add-start : Adding b q z q 0
  add-start = record { goes = λ xs h. (xs, h, omega arith); room = omega arith }

  -- a part stands at p, for some stand at q
  pub add-part : (p w : ℕ) → Adding b q z p w → (xs : Parts) → Row b (f_parts xs rnil) q z → p < z → (x : Part) × Row b (rcons (f_part x) rnil) p (end_of b p)
  add-part p w g xs h l =
      let s = g.goes xs h in
      on-parts-cons b p z (λ (xs : Parts). (x : Part) × Row b (rcons (f_part x) rnil) p (end_of b p)) l (λ x ys r k t. (x, r)) s.0 s.1

  pub add-more : (p w r u : ℕ) → Adding b q z p w → p < z → u ≡ end_of b p
      → ((x : Part) → Row b (rcons (f_part x) rnil) p (end_of b p) → r ≡ part_width x) → r + 2 * p ≤ 2 * end_of b p → Adding b q z u (w + r)
  add-more p w r u g l e f k = record {
    goes = λ xs h.
        let s = g.goes xs h in
        on-parts-cons b p z (λ (zs : Parts). parts_width xs ≡ w + parts_width zs → (ys : Parts) × Row b (f_parts ys rnil) u z × (parts_width xs ≡ w + r + parts_width ys)) l
        (λ x ys a i t. λ j. (ys, subst (λ (n : ℕ). Row b (f_parts ys rnil) n z) (sym e) t, omega (arith, j, f x a, parts-cons x ys))) s.0 s.1 s.2;
    room = omega (arith, g.room, k, e);
  }

  pub add_done : (p w : ℕ) → Adding b q z p w → z ≤ p → (xs : Parts) → Row b (f_parts xs rnil) q z → w ≡ parts_width xs
  add_done p w g l xs h =
      let s = g.goes xs h in
      on-parts-nil b p z (λ (ys : Parts). parts_width xs ≡ w + parts_width ys → w ≡ parts_width xs) l (λ j. omega (arith, j, parts-nil)) s.0 s.1 s.2

  pub add-room : (p w : ℕ) → Adding b q z p w → (xs : Parts) → Row b (f_parts xs rnil) q z → w + 2 * q ≤ 2 * z
  add-room p w g xs h = let s = g.goes xs h in omega (arith, g.room, row-le b (f_parts s.0 rnil) p z s.1)

-- ---- strings

pick-length : (t : Bool) (xs ys : List ℕ) → length xs ≤ 4 → length ys ≤ 4 → length (cond t xs ys) ≤ 4
pick-length true xs ys h k = h
pick-length false xs ys h k = k

-- a character has four bytes at most
pub utf8-length : (c : ℕ) → length (utf8 c) ≤ 4
unfolding utf8 encode
utf8-length c =
    pick-length (is_scalar c) _ [] (pick-length (ltb c 0x80) _ _ (omega arith) (pick-length (ltb c 0x800) _ _ (omega arith) (pick-length (ltb c 0x10000) _ _ (omega arith) (omega arith)))) (omega arith)

pub str-fits : (b : List ℕ) (x : StrPart) (q : ℕ) → Row b (rcons (f_str_part x) rnil) q (end_of b q) → end_of b q ≤ length b
str-fits b x q h = row_fits b (f_str_part x) rnil q (end_of b q) h

pub text-width : (b : List ℕ) (q : ℕ) → get_or b q 0 ≡ 0xBB → (x : StrPart) → Row b (rcons (f_str_part x) rnil) q (end_of b q) → 3 + len_of b q ≡ str_width x
text-width b q e = on-text b q (λ (x : StrPart). 3 + len_of b q ≡ str_width x) e (λ f. omega (arith, length-text b q f.fits))

four-value : (x : List ℕ) → length x ≡ 4 → value x ≡ get_or x 0 0 + get_or x 1 0 * 256 + get_or x 2 0 * 65536 + get_or x 3 0 * 16777216
unfolding value
four-value [] e = absurd (omega (arith, e))
four-value (k ∷ []) e = absurd (omega (arith, e))
four-value (k ∷ l ∷ []) e = absurd (omega (arith, e))
four-value (k ∷ l ∷ m ∷ []) e = absurd (omega (arith, e))
four-value (k ∷ l ∷ m ∷ n ∷ []) e = omega arith
four-value (k ∷ l ∷ m ∷ n ∷ o ∷ x) e = absurd (omega (arith, e))

both_left : (x y : Bool) → both x y ≡ true → x ≡ true
both_left true y e = refl
both_left false y e = e

four_bytes : (x : List ℕ) → leaf_ok (shape 0xBC) x ≡ true → length x ≡ 4
unfolding leaf_ok shape shapes
four_bytes x e = eqb-true (length x) 4 (both_left (eqb (length x) 4) (is_scalar (value x)) e)

pub char-len : (b : List ℕ) (q : ℕ) → get_or b q 0 ≡ 0xBC → (x : StrPart) → Row b (rcons (f_str_part x) rnil) q (end_of b q) → end_of b q ≡ q + 7
char-len b q e = on-char b q (λ (x : StrPart). end_of b q ≡ q + 7) e (λ f k. omega (arith, length-text b q f.fits, four_bytes (text_of b q) k))

char-value : (b : List ℕ) (q : ℕ) → end_of b q ≤ length b → length (text_of b q) ≡ 4 → value (text_of b q) ≡ four_of b (q + 3)
char-value b q h e =
    let l : len_of b q ≡ 4 = sym (length-text b q h) ∙ e in
    let a : get_or (text_of b q) 0 0 ≡ get_or b (q + 3) 0 = text-first b q (omega (arith, l)) in
    omega (arith, four-value (text_of b q) e, a, at 1 (omega (arith, l)), at 2 (omega (arith, l)), at 3 (omega (arith, l)))
  where
    at : (i : ℕ) → i < len_of b q → get_or (text_of b q) i 0 ≡ get_or b (q + 3 + i) 0
    at i k = get_or-take (len_of b q) (drop (q + 3) b) i 0 k ∙ get_or-drop (q + 3) b i 0

pub char-width : (b : List ℕ) (q r : ℕ) → get_or b q 0 ≡ 0xBC → r ≡ length (utf8 (four_of b (q + 3))) → (x : StrPart) → Row b (rcons (f_str_part x) rnil) q (end_of b q) → 3 + r ≡ str_width x
char-width b q r e i =
    on-char b q (λ (x : StrPart). 3 + r ≡ str_width x) e
    (λ f k. ap (λ (n : ℕ). 3 + n) (i ∙ ap (λ (c : ℕ). length (utf8 c)) (sym (char-value b q f.fits (four_bytes (text_of b q) k)))))

pub term-width : (b : List ℕ) (q : ℕ) → (get_or b q 0 ≡ 0xBB → ⊥) → (get_or b q 0 ≡ 0xBC → ⊥) → (x : StrPart) → Row b (rcons (f_str_part x) rnil) q (end_of b q) → 8 ≡ str_width x
term-width b q n m = on-str-term b q (λ (x : StrPart). 8 ≡ str_width x) n m (λ t a. refl)

module _ (b : List ℕ) (q z : ℕ) where
  pub strings-none : z ≤ q → (xs : StrParts) → Row b (f_str_parts xs rnil) q z → 3 ≡ strings_width xs
  strings-none l = on-strings-nil b q z (λ (xs : StrParts). 3 ≡ strings_width xs) l refl

  -- the first part, for some stand there
  pub strings-first : q < z → (xs : StrParts) → Row b (f_str_parts xs rnil) q z → (x : StrPart) × Row b (rcons (f_str_part x) rnil) q (end_of b q)
  strings-first l = on-strings-cons b q z (λ (xs : StrParts). (x : StrPart) × Row b (rcons (f_str_part x) rnil) q (end_of b q)) l (λ x xs r k t. (x, r))

  pub strings-one : (r : ℕ) → q < z → end_of b q ≡ z → ((x : StrPart) → Row b (rcons (f_str_part x) rnil) q (end_of b q) → r ≡ str_width x)
      → (xs : StrParts) → Row b (f_str_parts xs rnil) q z → r ≡ strings_width xs
  strings-one r l e f =
      on-strings-cons b q z (λ (xs : StrParts). r ≡ strings_width xs) l
      (λ x xs a k t. on-strings-nil b (end_of b q) z (λ (ys : StrParts). r ≡ strings_width (s_cons x ys)) (omega (arith, e)) (f x a) xs t)

  pub strings-many : q < z → (end_of b q ≡ z → ⊥) → (xs : StrParts) → Row b (f_str_parts xs rnil) q z → 8 ≡ strings_width xs
  strings-many l n =
      on-strings-cons b q z (λ (xs : StrParts). 8 ≡ strings_width xs) l
      (λ x xs a k t. on-strings-cons b (end_of b q) z (λ (ys : StrParts). 8 ≡ strings_width (s_cons x ys)) (less (end_of b q) z k n) (λ y ys a' k' t'. refl) xs t)
    where
      less : (m n : ℕ) → m ≤ n → (m ≡ n → ⊥) → m < n
      less m n l h = omega arith

  -- after two parts there are six bytes
  pub strings-room : q < z → (end_of b q ≡ z → ⊥) → (xs : StrParts) → Row b (f_str_parts xs rnil) q z → q + 6 ≤ z
  strings-room l n =
      on-strings-cons b q z (λ (xs : StrParts). q + 6 ≤ z) l
      (λ x xs a k t. omega (arith, row_next b (f_str_parts xs rnil) (end_of b q) z t (less (end_of b q) z k n)))
    where
      less : (m n : ℕ) → m ≤ n → (m ≡ n → ⊥) → m < n
      less m n l h = omega arith

  -- ---- objects

  pub entries_none : z ≤ q → (es : Entries) → Row b (f_entries es rnil) q z → 3 ≡ entries_width es
  entries_none l = on-entries-nil b q z (λ (es : Entries). 3 ≡ entries_width es) l refl

  pub entries-one : q < z → end_of b q ≡ z → (es : Entries) → Row b (f_entries es rnil) q z → 7 ≡ entries_width es
  entries-one l e =
      on-entries-cons b q z (λ (es : Entries). 7 ≡ entries_width es) l
      (λ t o es f a r k w. on-entries-nil b (end_of b q) z (λ (ys : Entries). 7 ≡ entries_width (es_cons q t o ys)) (omega (arith, e)) refl es w)

  pub entries-many : q < z → (end_of b q ≡ z → ⊥) → (es : Entries) → Row b (f_entries es rnil) q z → 8 ≡ entries_width es
  entries-many l n =
      on-entries-cons b q z (λ (es : Entries). 8 ≡ entries_width es) l
      (λ t o es f a r k w. on-entries-cons b (end_of b q) z (λ (ys : Entries). 8 ≡ entries_width (es_cons q t o ys)) (less (end_of b q) z k n) (λ t' o' es' f' a' r' k' w'. refl) es w)
    where
      less : (m n : ℕ) → m ≤ n → (m ≡ n → ⊥) → m < n
      less m n l h = omega arith
