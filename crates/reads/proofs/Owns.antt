-- Own records of terms: where their members stand, and how long they are. Assumes nothing.
use Prim.Native.Nat.{ℕ, ◌+◌, ◌-◌, ◌*◌, ◌^◌, ◌≤◌, ◌<◌}
use native.Mathlib.Omega.{arith}
use mathlib.Core.Path.{◌≡◌, refl, sym, ap, subst, ◌∙◌}
use mathlib.Core.Logic.{◌⊎◌, inl, inr}
use mathlib.Core.Bool.{Bool, true, false, cond}
use mathlib.Core.List.{List, [], ◌∷◌}
use lib.Dec.{ltb}
use lib.ListN.{length, get_or}
use borrow.Author.Tests.{lt-ltb, le-ltb, eq-eqb, ne_eqb}
use Rattle.tree.specs.Rose.{Roses, rnil, end_of, text_of, Row, row-le}
use Rattle.tree.specs.Tree.{Term, Terms, Pattern, OptPattern, no_pattern, a_pattern, Parts, StrParts, Format, t_path, t_str, t_pipe, t_bin_op}
use Rattle.tree.specs.Form.{f_parts, f_str_parts, f_format, f_terms}
use Rattle.rules.specs.Outs.{arity}
use Rattle.reads.specs.Bytes.{TermAt, PatternAt, is_tag, past, many}
use Rattle.reads.specs.Widths.{OwnWidth, int_of, num_width, pat_width, op_width, parts_width, strings_width, fold_kind, fold_width}
use Rattle.reads.specs.Shapes.{StrAt, FoldAt, on-path, on-str, on-fold, on-pipe, on-binop, operator-at, on-some-pattern, on-no-pattern, tag-yes, tag-no, terms-many}
use Rattle.reads.specs.Parts.{on-format, on-no-format, term_fits, pattern-fits}
use Rattle.reads.specs.Lengths.{own-path, own-str, own-pipe, own-binop}
use Rattle.std.specs.Prelude.{Option}
use Rattle.reads.specs.Kinds.{fold_number}
use Rattle.reads.specs.declared.width.FoldKind.{FoldKind}
use Rattle.reads.specs.Folds.{FoldOf}
use Rattle.reads.proofs.Partings.{row_next}
use Rattle.reads.proofs.Operators.{kind-other}
use Rattle.reads.specs.Texts.{length-text}

-- ---- numbers

pub num-int : (x y : List ℕ) (v : ℕ) → x ≡ y → v ≡ int_of x → v < 2 ^ 63 → 11 ≡ num_width y
unfolding num_width
num-int x y v e f h =
    let g : ltb (int_of y) (2 ^ 63) ≡ true = lt-ltb _ _ (subst (λ (n : ℕ). n < 2 ^ 63) (f ∙ ap int_of e) h) in
    rw g

pub num-text : (b : List ℕ) (x : List ℕ) (p v : ℕ) → end_of b p ≤ length b → x ≡ text_of b p → v ≡ int_of x → 2 ^ 63 ≤ v → end_of b p - p ≡ num_width (text_of b p)
unfolding num_width
num-text b x p v l e f h =
    let g : ltb (int_of (text_of b p)) (2 ^ 63) ≡ false = le-ltb _ _ (subst (λ (n : ℕ). 2 ^ 63 ≤ n) (f ∙ ap int_of e) h) in
    rw g (omega (arith, length-text b p l))

-- ---- paths

module _ (b : List ℕ) (p : ℕ) (e : get_or b p 0 ≡ 0xAE) where
  pub path-fits : (t : Term) → TermAt b t p → (end_of b p ≤ length b) × (end_of b (p + 3) ≤ length b) × (end_of b (p + 3) ≤ end_of b p)
  path-fits =
      on-path b p (λ (t : Term). (end_of b p ≤ length b) × (end_of b (p + 3) ≤ length b) × (end_of b (p + 3) ≤ end_of b p)) e
      (λ u ps a. (a.fits, term_fits b u (p + 3) a.body, row-le b (f_parts ps rnil) (end_of b (p + 3)) (end_of b p) a.parts))

  pub path-parts : (q z : ℕ) → q ≡ end_of b (p + 3) → z ≡ end_of b p → (t : Term) → TermAt b t p → (xs : Parts) × Row b (f_parts xs rnil) q z
  path-parts q z i j =
      on-path b p (λ (t : Term). (xs : Parts) × Row b (f_parts xs rnil) q z) e
      (λ u ps a. (ps, subst (λ (n : ℕ). Row b (f_parts ps rnil) n z) (sym i) (subst (λ (n : ℕ). Row b (f_parts ps rnil) (end_of b (p + 3)) n) (sym j) a.parts)))

  pub path-own : (q z r : ℕ) → q ≡ end_of b (p + 3) → z ≡ end_of b p → ((xs : Parts) → Row b (f_parts xs rnil) q z → r ≡ parts_width xs)
      → (t : Term) → TermAt b t p → OwnWidth t (7 + r)
  path-own q z r i j f =
      on-path b p (λ (t : Term). OwnWidth t (7 + r)) e
      (λ u ps a.
      let w : Row b (f_parts ps rnil) q z = subst (λ (n : ℕ). Row b (f_parts ps rnil) n z) (sym i) (subst (λ (n : ℕ). Row b (f_parts ps rnil) (end_of b (p + 3)) n) (sym j) a.parts) in
      subst (λ (k : ℕ). OwnWidth (t_path p u ps) (7 + k)) (sym (f ps w)) (own-path p u ps))

-- ---- strings

module _ (b : List ℕ) (q z : ℕ) (xs : StrParts) where
  past-format : (f : Format) → Row b (f_format f (f_str_parts xs rnil)) q z → Row b (f_str_parts xs rnil) (past b q z 0xBA) z
  past-format f h = go (is_tag b q z 0xBA) refl
    where
      go : (t : Bool) → is_tag b q z 0xBA ≡ t → Row b (f_str_parts xs rnil) (cond t (end_of b q) q) z
      go true e =
          let y = tag-yes b q z 0xBA e in
          on-format b q z xs (λ (f : Format). Row b (f_str_parts xs rnil) (end_of b q) z) y.0 y.1 (λ g r. r) f h
      go false e = on-no-format b q z xs (λ (f : Format). Row b (f_str_parts xs rnil) q z) (tag-no b q z 0xBA e) (λ r. r) f h

module _ (b : List ℕ) (p z : ℕ) (e : get_or b p 0 ≡ 0xAF) (j : z ≡ end_of b p) where
  str-row : (f : Format) (xs : StrParts) → StrAt b p f xs → Row b (f_format f (f_str_parts xs rnil)) (p + 3) z
  str-row f xs a = subst (λ (n : ℕ). Row b (f_format f (f_str_parts xs rnil)) (p + 3) n) (sym j) a.parts

  pub str-fits : (t : Term) → TermAt b t p → (z ≤ length b) × (p + 3 < z → end_of b (p + 3) ≤ length b)
  str-fits =
      on-str b p (λ (t : Term). (z ≤ length b) × (p + 3 < z → end_of b (p + 3) ≤ length b)) e
      (λ f xs a. (omega (arith, j, a.fits), λ l. omega (arith, j, a.fits, row_next b (f_format f (f_str_parts xs rnil)) (p + 3) z (str-row f xs a) l)))

  pub str-parts : (q : ℕ) → q ≡ past b (p + 3) z 0xBA → (t : Term) → TermAt b t p → (xs : StrParts) × Row b (f_str_parts xs rnil) q z
  str-parts q i =
      on-str b p (λ (t : Term). (xs : StrParts) × Row b (f_str_parts xs rnil) q z) e
      (λ f xs a. (xs, subst (λ (n : ℕ). Row b (f_str_parts xs rnil) n z) (sym i) (past-format b (p + 3) z xs f (str-row f xs a))))

  pub str-own : (q r : ℕ) → q ≡ past b (p + 3) z 0xBA → ((xs : StrParts) → Row b (f_str_parts xs rnil) q z → r ≡ strings_width xs) → (t : Term) → TermAt b t p → OwnWidth t r
  str-own q r i g =
      on-str b p (λ (t : Term). OwnWidth t r) e
      (λ f xs a.
      let w : Row b (f_str_parts xs rnil) q z = subst (λ (n : ℕ). Row b (f_str_parts xs rnil) n z) (sym i) (past-format b (p + 3) z xs f (str-row f xs a)) in
      subst (λ (k : ℕ). OwnWidth (t_str p f xs) k) (sym (g xs w)) (own-str p f xs))

pub str-fit : (b : List ℕ) (p : ℕ) → get_or b p 0 ≡ 0xAF → (t : Term) → TermAt b t p → end_of b p ≤ length b
str-fit b p e = on-str b p (λ (t : Term). end_of b p ≤ length b) e (λ f xs a. a.fits)

past-low : (b : List ℕ) (q z k : ℕ) → q ≤ past b q z k
past-low b q z k = go (is_tag b q z k)
  where
    go : (t : Bool) → q ≤ cond t (end_of b q) q
    go true = omega arith
    go false = omega arith

pub str-room : (b : List ℕ) (p z q r : ℕ) → z ≡ end_of b p → q ≡ past b (p + 3) z 0xBA → r + q ≤ z + 5 → r + p ≤ end_of b p + 5
str-room b p z q r j i h = omega (arith, j, i, h, past-low b (p + 3) z 0xBA)

-- ---- operators

module _ (b : List ℕ) (p : ℕ) (e : get_or b p 0 ≡ 0xAD) where
  pub op_fits : (t : Term) → TermAt b t p → (end_of b p ≤ length b) × (end_of b (p + 3) < end_of b p) × (end_of b (end_of b (p + 3)) ≤ length b)
  op_fits t h = let s = operator-at b p e t h in (term_fits b t p h, s.1, s.2)

  module _ (q : ℕ) (i : q ≡ end_of b (p + 3)) where
    pub op-byte : get_or b q 0 ≡ 0xB9 → (t : Term) → TermAt b t p → (q + 4 ≤ length b) × (q + 7 ≤ end_of b p)
    op-byte g =
        on-binop b p (λ (t : Term). (q + 4 ≤ length b) × (q + 7 ≤ end_of b p)) e (subst (λ (n : ℕ). get_or b n 0 ≡ 0xB9) i g)
        (λ u v a. (omega (arith, i, a.mid, a.one), omega (arith, i, a.last)))

    pub op-own : (r : ℕ) → get_or b q 0 ≡ 0xB9 → r ≡ op_width (get_or b (q + 3) 0) → (t : Term) → TermAt b t p → OwnWidth t r
    op-own r g w =
        on-binop b p (λ (t : Term). OwnWidth t r) e (subst (λ (n : ℕ). get_or b n 0 ≡ 0xB9) i g)
        (λ u v a.
        subst (λ (k : ℕ). OwnWidth (t_bin_op p u (end_of b (p + 3)) (get_or b (end_of b (p + 3) + 3) 0 ∷ []) v) k) (sym (w ∙ ap (λ (n : ℕ). op_width (get_or b (n + 3) 0)) i))
        (own-binop p u (end_of b (p + 3)) (get_or b (end_of b (p + 3) + 3) 0) v a.is))

    pipe-tag : (get_or b q 0 ≡ 0xB9 → ⊥) → (t : Term) → TermAt b t p → get_or b (end_of b (p + 3)) 0 ≡ 0xB7
    pipe-tag n t h = go (operator-at b p e t h).0
      where
        go : (get_or b (end_of b (p + 3)) 0 ≡ 0xB7) ⊎ (get_or b (end_of b (p + 3)) 0 ≡ 0xB9) → get_or b (end_of b (p + 3)) 0 ≡ 0xB7
        go (inl g) = g
        go (inr g) = absurd (n (subst (λ (k : ℕ). get_or b k 0 ≡ 0xB9) (sym i) g))

    module _ (n : get_or b q 0 ≡ 0xB9 → ⊥) where
      pub pipe-own : end_of b q ≡ q + 3 → (t : Term) → TermAt b t p → OwnWidth t 8
      pipe-own g t h =
          on-pipe b p (λ (t : Term). OwnWidth t 8) e (pipe-tag n t h)
          (λ u x v a.
          on-no-pattern b (end_of b (p + 3) + 3) (end_of b (end_of b (p + 3))) (λ (x : OptPattern). OwnWidth (t_pipe p u (end_of b (p + 3)) x v) 8)
          (omega (arith, i, subst (λ (k : ℕ). end_of b k ≡ k + 3) i g)) (own-pipe p u (end_of b (p + 3)) no_pattern v) x a.pat) t h

      pub pipe-pattern : (end_of b q ≡ q + 3 → ⊥) → (t : Term) → TermAt b t p → (x : Pattern) × PatternAt b x (q + 3)
      pipe-pattern g t h =
          on-pipe b p (λ (t : Term). (x : Pattern) × PatternAt b x (q + 3)) e (pipe-tag n t h)
          (λ u x v a.
          on-some-pattern b (end_of b (p + 3) + 3) (end_of b (end_of b (p + 3))) (λ (x : OptPattern). (x : Pattern) × PatternAt b x (q + 3))
          (more (end_of b (p + 3)) (λ k. g (subst (λ (m : ℕ). end_of b m ≡ m + 3) (sym i) k)))
          (λ y w k. (y, subst (λ (m : ℕ). PatternAt b y (m + 3)) (sym i) w)) x a.pat) t h
        where
          more : (m : ℕ) → (end_of b m ≡ m + 3 → ⊥) → m + 3 < end_of b m
          more m k = omega arith

      pub piped-own : (r : ℕ) → (end_of b q ≡ q + 3 → ⊥) → ((x : Pattern) → PatternAt b x (q + 3) → r ≡ pat_width x) → (t : Term) → TermAt b t p → OwnWidth t (7 + r)
      piped-own r g f t h =
          on-pipe b p (λ (t : Term). OwnWidth t (7 + r)) e (pipe-tag n t h)
          (λ u x v a.
          on-some-pattern b (end_of b (p + 3) + 3) (end_of b (end_of b (p + 3))) (λ (x : OptPattern). OwnWidth (t_pipe p u (end_of b (p + 3)) x v) (7 + r))
          (more (end_of b (p + 3)) (λ k. g (subst (λ (m : ℕ). end_of b m ≡ m + 3) (sym i) k)))
          (λ y w k.
          subst (λ (m : ℕ). OwnWidth (t_pipe p u (end_of b (p + 3)) (a_pattern y) v) (7 + m)) (sym (f y (subst (λ (m : ℕ). PatternAt b y (m + 3)) (sym i) w)))
          (own-pipe p u (end_of b (p + 3)) (a_pattern y) v)) x a.pat) t h
        where
          more : (m : ℕ) → (end_of b m ≡ m + 3 → ⊥) → m + 3 < end_of b m
          more m k = omega arith

      -- the pattern ends where the operator does, and the right term is behind it
      pub piped-room : (end_of b q ≡ q + 3 → ⊥) → (t : Term) → TermAt b t p → end_of b (q + 3) + 3 ≤ end_of b p
      piped-room g t h =
          on-pipe b p (λ (t : Term). end_of b (q + 3) + 3 ≤ end_of b p) e (pipe-tag n t h)
          (λ u x v a.
          on-some-pattern b (end_of b (p + 3) + 3) (end_of b (end_of b (p + 3))) (λ (x : OptPattern). end_of b (q + 3) + 3 ≤ end_of b p)
          (more (end_of b (p + 3)) (λ k. g (subst (λ (m : ℕ). end_of b m ≡ m + 3) (sym i) k)))
          (λ y w k. omega (arith, a.last, k, ap (λ (m : ℕ). end_of b (m + 3)) i)) x a.pat) t h
        where
          more : (m : ℕ) → (end_of b m ≡ m + 3 → ⊥) → m + 3 < end_of b m
          more m k = omega arith

-- ---- folds

module _ (kind : ℕ) where
  pub fold-no : kind ≡ 3 → (w : ℕ) → 3 ≡ fold_width kind w
  unfolding fold_width
  fold-no e w = rw (eq-eqb kind 3 e)

  pub fold-twelve : (r w : ℕ) → kind ≡ 2 → r ≡ w → 12 + r ≡ fold_width kind w
  unfolding fold_width
  fold-twelve r w e f = rw (ne_eqb kind 3 (λ g. omega (arith, e, g)), eq-eqb kind 2 e, f)

  pub fold-ten : (r w : ℕ) → (kind ≡ 3 → ⊥) → (kind ≡ 2 → ⊥) → r ≡ w → 10 + r ≡ fold_width kind w
  unfolding fold_width
  fold-ten r w n m f = rw (ne_eqb kind 3 n, ne_eqb kind 2 m, f)

-- where the members of the Fold at p stand: x, q, i and z are as the code found them
pub record FoldPlaces (b : List ℕ) (p x q i z : ℕ) : Type 0 where
  pub fits : z ≤ length b
  pub name : end_of b (p + 3) ≤ length b
  pub source : end_of b x ≤ length b
  pub pat : end_of b q ≤ length b
  pub pattern : (y : Pattern) × PatternAt b y q
  pub args : (rs : Roses) × Row b rs i z
  pub low : p + 9 ≤ q
  pub high : i ≤ z

module _ (b : List ℕ) (p : ℕ) (e : get_or b p 0 ≡ 0xAC) (x q i z : ℕ) (ex : x ≡ end_of b (p + 3)) (eq : q ≡ end_of b x) (ei : i ≡ end_of b q) (ez : z ≡ end_of b p) where
  at-pattern : q ≡ end_of b (end_of b (p + 3))
  at-pattern = eq ∙ ap (λ (n : ℕ). end_of b n) ex

  at-init : i ≡ end_of b (end_of b (end_of b (p + 3)))
  at-init = ei ∙ ap (λ (n : ℕ). end_of b n) at-pattern

  fold-pattern : (u : Term) (y : Pattern) (ts : Terms) → FoldAt b p u y ts → PatternAt b y q
  fold-pattern u y ts a = subst (λ (n : ℕ). PatternAt b y n) (sym at-pattern) a.pat

  fold-args : (u : Term) (y : Pattern) (ts : Terms) → FoldAt b p u y ts → Row b (f_terms ts rnil) i z
  fold-args u y ts a = subst (λ (n : ℕ). Row b (f_terms ts rnil) n z) (sym at-init) (subst (λ (n : ℕ). Row b (f_terms ts rnil) (end_of b (end_of b (end_of b (p + 3)))) n) (sym ez) a.args)

  pub fold-places : (t : Term) → TermAt b t p → FoldPlaces b p x q i z
  fold-places =
      on-fold b p (λ (t : Term). FoldPlaces b p x q i z) e
      (λ u y ts a. record {
        fits = omega (arith, ez, a.fits);
        name = a.name;
        source = subst (λ (n : ℕ). end_of b n ≤ length b) (sym ex) (term_fits b u (end_of b (p + 3)) a.source);
        pat = pattern-fits b y q (fold-pattern u y ts a);
        pattern = (y, fold-pattern u y ts a);
        args = (f_terms ts rnil, fold-args u y ts a);
        low = omega (arith, ex, eq);
        high = row-le b (f_terms ts rnil) i z (fold-args u y ts a);
      })

  module _ (n : ℕ) (f : (rs : Roses) → Row b rs i z → (n ≡ many rs) × (i + 3 * n ≤ z)) where
    count : (u : Term) (y : Pattern) (ts : Terms) → FoldAt b p u y ts → n ≡ arity ts
    count u y ts a = (f (f_terms ts rnil) (fold-args u y ts a)).0 ∙ terms-many ts

    room : (t : Term) → TermAt b t p → i + 3 * n ≤ end_of b p
    room t h = let s = fold-places t h in omega (arith, ez, (f s.args.0 s.args.1).1)

    pub fold-is : (k : Option FoldKind) (v w : ℕ) → fold_number k ≡ fold_kind (text_of b (p + 3)) n → (2 ≤ n → v ≡ end_of b i) → (n < 2 → v ≡ i)
        → ((y : Pattern) → PatternAt b y q → w ≡ fold_width (fold_number k) (pat_width y)) → w + 2 * q ≤ 2 * end_of b q + 10 → (n < 2) ⊎ (2 ≤ n)
        → (t : Term) → TermAt b t p → FoldOf b p (record { x = x; q = q; i = i; u = v; a = n; kind = k; w = w })
    fold-is k v w ek ev ew g j c t h = record {
      source = ex;
      pat = eq;
      init = ei;
      kind = ek;
      is = λ u y ts a. (count u y ts a, g y (fold-pattern u y ts a));
      some = ev;
      none = ew;
      room = fits c;
      few = room t h;
    }
      where
        fits : (n < 2) ⊎ (2 ≤ n) → w + 2 * p ≤ 2 * end_of b p
        fits (inl l) =
            let o = kind-other (text_of b (p + 3)) n (λ m. omega (arith, m, l)) (λ m. omega (arith, m, l)) in
            let y = (fold-places t h).pattern in
            omega (arith, g y.0 y.1, fold-no (fold_number k) (ek ∙ sym o) (pat_width y.0))
        fits (inr l) = omega (arith, j, ei, l, room t h, (fold-places t h).low)
