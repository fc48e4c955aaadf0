-- From a byte to what stands there, below terms: patterns, parts of paths and strings, entries, bounds, operators. One law a constructor: where the byte
-- at a place is the constructor's tag, a claim about what stands there has to be shown of that constructor alone, and where its members stand is known, each
-- place as the code finds it. Assumes nothing.
use Rattle.std.specs.Prelude.{ℕ, ◌+◌, ◌≤◌, ◌<◌, ◌≡◌, refl, true, length, get_or}
use Rattle.std.proofs.Common.{arith, sym, ap₂, ◌∙◌}
use Rattle.std.proofs.Math.Path.{subst}
use mathlib.Core.List.{List}
use Rattle.tree.specs.Leaf.{shape, leaf_ok}
use Rattle.tree.specs.Rose.{Rose, Roses, leaf, node, rnil, rcons, Field, end_of, text_of, tag_of, place_of, At, Row, row-le, tagged, inside}
use Rattle.tree.specs.Tree.{Number, Mark, Format, Term, OptTerm, Pattern, OptPattern, Patterns, PatEntries, Parts, Part, Bound, StrParts, StrPart, Entries}
use Rattle.tree.specs.Tree.{t_id, t_recurse, t_arr, t_neg, t_label, t_break, t_if_then_else, t_var, t_call, t_def, t_num, t_try_catch, t_fold, t_pipe, t_bin_op, t_path, t_str, t_obj}
use Rattle.tree.specs.Tree.{no_mark, a_mark, no_format, a_format, no_term, a_term, p_var, p_arr, p_obj, no_pattern, a_pattern, ps_nil, ps_cons, pes_nil, pes_cons}
use Rattle.tree.specs.Tree.{parts_nil, parts_cons, part_index, part_range, without_bound, a_bound, s_nil, s_cons, s_text, s_char, s_term, es_nil, es_cons}
use Rattle.tree.specs.Form.{f_name, f_number, f_mark, f_format, f_term, f_opt_term, f_pattern, f_opt_pattern, f_patterns, f_pat_entries, f_parts, f_part, f_bound, f_str_parts, f_str_part, f_entries}
use Rattle.tree.proofs.Form.{term-place, pattern-place}
use Rattle.reads.specs.Bytes.{TermAt, PatternAt, name_at}

-- ---- a member at the head of a row

pub row_at : (b : List ℕ) (r : Rose) (rs : Roses) (p z : ℕ) → Row b (rcons r rs) p z → At b r
unfolding At
row_at b r rs p z h = h.1

pub row-place : (b : List ℕ) (r : Rose) (rs : Roses) (p z : ℕ) → Row b (rcons r rs) p z → place_of r ≡ p
unfolding At
row-place b r rs p z h = h.0

pub row-rest : (b : List ℕ) (r : Rose) (rs : Roses) (p z : ℕ) → Row b (rcons r rs) p z → Row b rs (end_of b p) z
unfolding At
row-rest b r rs p z h = h.2

pub row-end : (b : List ℕ) (p z : ℕ) → Row b rnil p z → p ≡ z
unfolding At
row-end b p z h = h

pub row_one : (b : List ℕ) (r : Rose) (p : ℕ) → At b r → place_of r ≡ p → Row b (rcons r rnil) p (end_of b p)
unfolding At
row_one b r p h e = (e, h, refl)

pub row_first : (b : List ℕ) (r : Rose) (rs : Roses) (p z : ℕ) → Row b (rcons r rs) p z → Row b (rcons r rnil) p (end_of b p)
row_first b r rs p z h = row_one b r p (row_at b r rs p z h) (row-place b r rs p z h)

-- a row with a member goes on: its first ends behind where it starts, and not behind the row
pub row-past : (b : List ℕ) (r : Rose) (rs : Roses) (p z : ℕ) → Row b (rcons r rs) p z → end_of b p ≤ z
row-past b r rs p z h = row-le b rs (end_of b p) z (row-rest b r rs p z h)

pub row_lt : (b : List ℕ) (r : Rose) (rs : Roses) (p z : ℕ) → Row b (rcons r rs) p z → p < z
row_lt b r rs p z h = omega (arith, row-past b r rs p z h)

pub row-tag : (b : List ℕ) (r : Rose) (rs : Roses) (p z : ℕ) → Row b (rcons r rs) p z → get_or b p 0 ≡ tag_of r
row-tag b r rs p z h = subst (λ (i : ℕ). get_or b i 0 ≡ tag_of r) (row-place b r rs p z h) (tagged b r (row_at b r rs p z h))

pub row_fits : (b : List ℕ) (r : Rose) (rs : Roses) (p z : ℕ) → Row b (rcons r rs) p z → end_of b p ≤ length b
row_fits b r rs p z h = subst (λ (i : ℕ). end_of b i ≤ length b) (row-place b r rs p z h) (inside b r (row_at b r rs p z h))

pub row_field : (b : List ℕ) (r : Rose) (rs : Roses) (p z : ℕ) → Row b (rcons r rs) p z → Field b (tag_of r) p
row_field b r rs p z h = record { tagged = row-tag b r rs p z h; fits = row_fits b r rs p z h }

pub row-term : (b : List ℕ) (t : Term) (rs : Roses) (p z : ℕ) → Row b (rcons (f_term t) rs) p z → TermAt b t p
row-term b t rs p z h = (row_at b (f_term t) rs p z h, sym (term-place t) ∙ row-place b (f_term t) rs p z h)

pub term-row : (b : List ℕ) (t : Term) (p : ℕ) → TermAt b t p → Row b (rcons (f_term t) rnil) p (end_of b p)
term-row b t p h = row_one b (f_term t) p h.0 (term-place t ∙ h.1)

pub row-pattern : (b : List ℕ) (x : Pattern) (rs : Roses) (p z : ℕ) → Row b (rcons (f_pattern x) rs) p z → PatternAt b x p
row-pattern b x rs p z h = (row_at b (f_pattern x) rs p z h, sym (pattern-place x) ∙ row-place b (f_pattern x) rs p z h)

pub pattern-row : (b : List ℕ) (x : Pattern) (p : ℕ) → PatternAt b x p → Row b (rcons (f_pattern x) rnil) p (end_of b p)
pattern-row b x p h = row_one b (f_pattern x) p h.0 (pattern-place x ∙ h.1)

-- a field with members, its place put in
pub row-node : (b : List ℕ) (k q p z : ℕ) (ms rs : Roses) → Row b (rcons (node k q ms) rs) p z → Row b ms (p + 3) (end_of b p)
unfolding At
row-node b k q p z ms rs h = subst (λ (i : ℕ). Row b ms (i + 3) (end_of b i)) h.0 h.1.1

pub row-leaf : (b : List ℕ) (k q p z : ℕ) (x : List ℕ) (rs : Roses) → Row b (rcons (leaf k q x) rs) p z → text_of b p ≡ x
unfolding At
row-leaf b k q p z x rs h = subst (λ (i : ℕ). text_of b i ≡ x) h.0 h.1.1

pub row_ok : (b : List ℕ) (k q p z : ℕ) (x : List ℕ) (rs : Roses) → Row b (rcons (leaf k q x) rs) p z → leaf_ok (shape k) x ≡ true
unfolding At
row_ok b k q p z x rs h = h.1.2

-- the one member of a row ends where the row does
pub row_last : (b : List ℕ) (r : Rose) (p z : ℕ) → Row b (rcons r rnil) p z → end_of b p ≡ z
row_last b r p z h = row-end b (end_of b p) z (row-rest b r rnil p z h)

-- ---- tags

pub term-tag : (t : Term) → (0xA0 ≤ tag_of (f_term t)) × (tag_of (f_term t) ≤ 0xB0)
unfolding f_term
term-tag (t_id p) = (omega arith, omega arith)
term-tag (t_recurse p) = (omega arith, omega arith)
term-tag (t_arr p o) = (omega arith, omega arith)
term-tag (t_neg p t) = (omega arith, omega arith)
term-tag (t_label p x t) = (omega arith, omega arith)
term-tag (t_break p x) = (omega arith, omega arith)
term-tag (t_if_then_else p q c t bs) = (omega arith, omega arith)
term-tag (t_var p x) = (omega arith, omega arith)
term-tag (t_call p f ts) = (omega arith, omega arith)
term-tag (t_def p ds t) = (omega arith, omega arith)
term-tag (t_num p x) = (omega arith, omega arith)
term-tag (t_try_catch p t o) = (omega arith, omega arith)
term-tag (t_fold p f t x ts) = (omega arith, omega arith)
term-tag (t_pipe p t q x u) = (omega arith, omega arith)
term-tag (t_bin_op p t q x u) = (omega arith, omega arith)
term-tag (t_path p t ps) = (omega arith, omega arith)
term-tag (t_str p f ps) = (omega arith, omega arith)
term-tag (t_obj p es) = (omega arith, omega arith)

-- the tag k stands not at the head of the row
unfoldable pub NoHead : ℕ → Roses → Type 0
NoHead k rnil = Unit {0}
NoHead k (rcons r rs) = tag_of r ≡ k → ⊥

pub no-head : (b : List ℕ) (k : ℕ) (rs : Roses) (p z : ℕ) → NoHead k rs → Row b rs p z → p < z → get_or b p 0 ≡ k → ⊥
unfolding NoHead
no-head b k rnil p z n h l e = omega (arith, row-end b p z h)
no-head b k (rcons r rs) p z n h l e = n (sym (row-tag b r rs p z h) ∙ e)

pub no-head-nil : (k : ℕ) → NoHead k rnil
unfolding NoHead
no-head-nil k = tt

pub no-head-mark : (k : ℕ) (m : Mark) → (0xC0 ≡ k → ⊥) → NoHead k (f_mark m rnil)
unfolding NoHead f_mark
no-head-mark k no_mark n = tt
no-head-mark k (a_mark p) n = n

pub no-head-bound : (k j : ℕ) (x : Bound) (rs : Roses) → (j ≡ k → ⊥) → NoHead k rs → NoHead k (f_bound j x rs)
unfolding NoHead f_term
no-head-bound k j without_bound rs n h = h
no-head-bound k j (a_bound q t) rs n h = n

pub no-head-strings : (k : ℕ) (xs : StrParts) → k < 0xBB → 0xB0 < k → NoHead k (f_str_parts xs rnil)
unfolding NoHead f_term
no-head-strings k s_nil l g = tt
no-head-strings k (s_cons (s_text x) xs) l g = λ e. omega (arith, e)
no-head-strings k (s_cons (s_char x) xs) l g = λ e. omega (arith, e)
no-head-strings k (s_cons (s_term t) xs) l g = λ e. omega (arith, e, (term-tag t).1)

pub term-tagged : (b : List ℕ) (t : Term) (p : ℕ) → TermAt b t p → get_or b p 0 ≡ tag_of (f_term t)
term-tagged b t p h = row-tag b (f_term t) rnil p (end_of b p) (term-row b t p h)

pub term_fits : (b : List ℕ) (t : Term) (p : ℕ) → TermAt b t p → end_of b p ≤ length b
term_fits b t p h = row_fits b (f_term t) rnil p (end_of b p) (term-row b t p h)

pub pattern-tagged : (b : List ℕ) (x : Pattern) (p : ℕ) → PatternAt b x p → get_or b p 0 ≡ tag_of (f_pattern x)
pattern-tagged b x p h = row-tag b (f_pattern x) rnil p (end_of b p) (pattern-row b x p h)

pub pattern-fits : (b : List ℕ) (x : Pattern) (p : ℕ) → PatternAt b x p → end_of b p ≤ length b
pattern-fits b x p h = row_fits b (f_pattern x) rnil p (end_of b p) (pattern-row b x p h)

-- ---- patterns

module _ (b : List ℕ) (q : ℕ) (P : Pattern → Type 0) where
  pub on-pat-var : get_or b q 0 ≡ 0x98
      → ((x : List ℕ) → Field b 0x98 q → text_of b q ≡ x → leaf_ok (shape 0x98) x ≡ true → P (p_var q x))
      → (x : Pattern) → PatternAt b x q → P x
  unfolding f_term
  on-pat-var e f (p_var p x) h =
      let r = pattern-row b (p_var p x) q h in
      subst (λ (i : ℕ). P (p_var i x)) (sym h.1) (f x (row_field b (leaf 0x98 p x) rnil q (end_of b q) r) (row-leaf b 0x98 p q (end_of b q) x rnil r) (row_ok b 0x98 p q (end_of b q) x rnil r))
  on-pat-var e f (p_arr p xs) h = absurd (omega (arith, e, pattern-tagged b (p_arr p xs) q h))
  on-pat-var e f (p_obj p xs) h = absurd (omega (arith, e, pattern-tagged b (p_obj p xs) q h))

  pub on-pat-array : get_or b q 0 ≡ 0x99
      → ((xs : Patterns) → Field b 0x99 q → Row b (f_patterns xs rnil) (q + 3) (end_of b q) → P (p_arr q xs))
      → (x : Pattern) → PatternAt b x q → P x
  unfolding f_term
  on-pat-array e f (p_var p x) h = absurd (omega (arith, e, pattern-tagged b (p_var p x) q h))
  on-pat-array e f (p_arr p xs) h =
      let r = pattern-row b (p_arr p xs) q h in
      subst (λ (i : ℕ). P (p_arr i xs)) (sym h.1) (f xs (row_field b (f_pattern (p_arr p xs)) rnil q (end_of b q) r) (row-node b 0x99 p q (end_of b q) (f_patterns xs rnil) rnil r))
  on-pat-array e f (p_obj p xs) h = absurd (omega (arith, e, pattern-tagged b (p_obj p xs) q h))

  pub on-pat-object : (get_or b q 0 ≡ 0x98 → ⊥) → (get_or b q 0 ≡ 0x99 → ⊥)
      → ((xs : PatEntries) → Field b 0x9A q → Row b (f_pat_entries xs rnil) (q + 3) (end_of b q) → P (p_obj q xs))
      → (x : Pattern) → PatternAt b x q → P x
  unfolding f_term
  on-pat-object n m f (p_var p x) h = absurd (n (pattern-tagged b (p_var p x) q h))
  on-pat-object n m f (p_arr p xs) h = absurd (m (pattern-tagged b (p_arr p xs) q h))
  on-pat-object n m f (p_obj p xs) h =
      let r = pattern-row b (p_obj p xs) q h in
      subst (λ (i : ℕ). P (p_obj i xs)) (sym h.1) (f xs (row_field b (f_pattern (p_obj p xs)) rnil q (end_of b q) r) (row-node b 0x9A p q (end_of b q) (f_pat_entries xs rnil) rnil r))

module _ (b : List ℕ) (p z : ℕ) (P : Patterns → Type 0) where
  pub on-patterns-cons : p < z
      → ((x : Pattern) (xs : Patterns) → PatternAt b x p → end_of b p ≤ z → Row b (f_patterns xs rnil) (end_of b p) z → P (ps_cons x xs))
      → (xs : Patterns) → Row b (f_patterns xs rnil) p z → P xs
  unfolding f_term
  on-patterns-cons l f ps_nil h = absurd (omega (arith, l, row-end b p z h))
  on-patterns-cons l f (ps_cons x xs) h =
      f x xs (row-pattern b x (f_patterns xs rnil) p z h) (row-past b (f_pattern x) (f_patterns xs rnil) p z h) (row-rest b (f_pattern x) (f_patterns xs rnil) p z h)

  pub on-patterns-nil : z ≤ p → P ps_nil → (xs : Patterns) → Row b (f_patterns xs rnil) p z → P xs
  unfolding f_term
  on-patterns-nil l f ps_nil h = f
  on-patterns-nil l f (ps_cons x xs) h = absurd (omega (arith, l, row_lt b (f_pattern x) (f_patterns xs rnil) p z h))

-- an entry of an object pattern: its key, and behind it its pattern
module _ (b : List ℕ) (p z : ℕ) (P : PatEntries → Type 0) where
  pub on-keyed-cons : p < z
      → ((t : Term) (x : Pattern) (xs : PatEntries) → Field b 0x9B p → TermAt b t (p + 3) → PatternAt b x (end_of b (p + 3)) → end_of b (end_of b (p + 3)) ≡ end_of b p
      → end_of b p ≤ z → Row b (f_pat_entries xs rnil) (end_of b p) z → P (pes_cons p t x xs))
      → (xs : PatEntries) → Row b (f_pat_entries xs rnil) p z → P xs
  unfolding f_term
  on-keyed-cons l f pes_nil h = absurd (omega (arith, l, row-end b p z h))
  on-keyed-cons l f (pes_cons q t x xs) h =
      let m = rcons (f_term t) (rcons (f_pattern x) rnil) in
      let w : Row b m (p + 3) (end_of b p) = row-node b 0x9B q p z m (f_pat_entries xs rnil) h in
      let v : Row b (rcons (f_pattern x) rnil) (end_of b (p + 3)) (end_of b p) = row-rest b (f_term t) (rcons (f_pattern x) rnil) (p + 3) (end_of b p) w in
      subst (λ (i : ℕ). P (pes_cons i t x xs)) (sym (row-place b (node 0x9B q m) (f_pat_entries xs rnil) p z h))
      (f t x xs (row_field b (node 0x9B q m) (f_pat_entries xs rnil) p z h) (row-term b t (rcons (f_pattern x) rnil) (p + 3) (end_of b p) w)
      (row-pattern b x rnil (end_of b (p + 3)) (end_of b p) v) (row_last b (f_pattern x) (end_of b (p + 3)) (end_of b p) v)
      (row-past b (node 0x9B q m) (f_pat_entries xs rnil) p z h) (row-rest b (node 0x9B q m) (f_pat_entries xs rnil) p z h))

  pub on-keyed-nil : z ≤ p → P pes_nil → (xs : PatEntries) → Row b (f_pat_entries xs rnil) p z → P xs
  unfolding f_term
  on-keyed-nil l f pes_nil h = f
  on-keyed-nil l f (pes_cons q t x xs) h = absurd (omega (arith, l, row_lt b (node 0x9B q (rcons (f_term t) (rcons (f_pattern x) rnil))) (f_pat_entries xs rnil) p z h))

-- ---- members that may be absent

module _ (b : List ℕ) (p z : ℕ) (P : OptTerm → Type 0) where
  pub on-opt-term : p < z → ((t : Term) → TermAt b t p → end_of b p ≡ z → P (a_term t)) → (o : OptTerm) → Row b (f_opt_term o rnil) p z → P o
  unfolding f_term
  on-opt-term l f no_term h = absurd (omega (arith, l, row-end b p z h))
  on-opt-term l f (a_term t) h = f t (row-term b t rnil p z h) (row_last b (f_term t) p z h)

  pub on-no-term : z ≤ p → P no_term → (o : OptTerm) → Row b (f_opt_term o rnil) p z → P o
  unfolding f_term
  on-no-term l f no_term h = f
  on-no-term l f (a_term t) h = absurd (omega (arith, l, row_lt b (f_term t) rnil p z h))

module _ (b : List ℕ) (p z : ℕ) (P : OptPattern → Type 0) where
  pub on-opt-pattern : p < z → ((x : Pattern) → PatternAt b x p → end_of b p ≡ z → P (a_pattern x)) → (o : OptPattern) → Row b (f_opt_pattern o rnil) p z → P o
  unfolding f_term
  on-opt-pattern l f no_pattern h = absurd (omega (arith, l, row-end b p z h))
  on-opt-pattern l f (a_pattern x) h = f x (row-pattern b x rnil p z h) (row_last b (f_pattern x) p z h)

  pub on-no-pattern : z ≤ p → P no_pattern → (o : OptPattern) → Row b (f_opt_pattern o rnil) p z → P o
  unfolding f_term
  on-no-pattern l f no_pattern h = f
  on-no-pattern l f (a_pattern x) h = absurd (omega (arith, l, row_lt b (f_pattern x) rnil p z h))

module _ (b : List ℕ) (p z : ℕ) (P : Mark → Type 0) where
  pub on-mark : p < z → (Field b 0xC0 p → end_of b p ≡ p + 3 → p + 3 ≡ z → P (a_mark p)) → (m : Mark) → Row b (f_mark m rnil) p z → P m
  unfolding f_mark
  on-mark l f no_mark h = absurd (omega (arith, l, row-end b p z h))
  on-mark l f (a_mark q) h =
      let e : p + 3 ≡ end_of b p = row-end b (p + 3) (end_of b p) (row-node b 0xC0 q p z rnil rnil h) in
      subst (λ (i : ℕ). P (a_mark i)) (sym (row-place b (node 0xC0 q rnil) rnil p z h))
      (f (row_field b (node 0xC0 q rnil) rnil p z h) (sym e) (e ∙ row_last b (node 0xC0 q rnil) p z h))

  pub on-no-mark : z ≤ p → P no_mark → (m : Mark) → Row b (f_mark m rnil) p z → P m
  unfolding f_mark
  on-no-mark l f no_mark h = f
  on-no-mark l f (a_mark q) h = absurd (omega (arith, l, row_lt b (node 0xC0 q rnil) rnil p z h))

-- from (C1) or upto (C2), k being its tag: it is there where its tag is, for no tag of it stands at the head of what follows
module _ (b : List ℕ) (k p z : ℕ) (rs : Roses) (P : Bound → Type 0) where
  pub on-bound : NoHead k rs → p < z → get_or b p 0 ≡ k
      → ((t : Term) → Field b k p → TermAt b t (p + 3) → end_of b (p + 3) ≡ end_of b p → Row b rs (end_of b p) z → P (a_bound p t))
      → (x : Bound) → Row b (f_bound k x rs) p z → P x
  unfolding f_term
  on-bound n l e f without_bound h = absurd (no-head b k rs p z n h l e)
  on-bound n l e f (a_bound q t) h =
      let m = rcons (f_term t) rnil in
      let w : Row b m (p + 3) (end_of b p) = row-node b k q p z m rs h in
      subst (λ (i : ℕ). P (a_bound i t)) (sym (row-place b (node k q m) rs p z h))
      (f t (row_field b (node k q m) rs p z h) (row-term b t rnil (p + 3) (end_of b p) w) (row_last b (f_term t) (p + 3) (end_of b p) w) (row-rest b (node k q m) rs p z h))

  pub on-no-bound : (p < z → get_or b p 0 ≡ k → ⊥) → (Row b rs p z → P without_bound) → (x : Bound) → Row b (f_bound k x rs) p z → P x
  unfolding f_term
  on-no-bound n f without_bound h = f h
  on-no-bound n f (a_bound q t) h =
      let m = rcons (f_term t) rnil in
      absurd (n (row_lt b (node k q m) rs p z h) (row-tag b (node k q m) rs p z h))

-- ---- parts of a path

module _ (b : List ℕ) (p z : ℕ) (P : Parts → Type 0) where
  pub on-parts-cons : p < z
      → ((x : Part) (xs : Parts) → Row b (rcons (f_part x) rnil) p (end_of b p) → end_of b p ≤ z → Row b (f_parts xs rnil) (end_of b p) z → P (parts_cons x xs))
      → (xs : Parts) → Row b (f_parts xs rnil) p z → P xs
  unfolding f_term
  on-parts-cons l f parts_nil h = absurd (omega (arith, l, row-end b p z h))
  on-parts-cons l f (parts_cons x xs) h =
      f x xs (row_first b (f_part x) (f_parts xs rnil) p z h) (row-past b (f_part x) (f_parts xs rnil) p z h) (row-rest b (f_part x) (f_parts xs rnil) p z h)

  pub on-parts-nil : z ≤ p → P parts_nil → (xs : Parts) → Row b (f_parts xs rnil) p z → P xs
  unfolding f_term
  on-parts-nil l f parts_nil h = f
  on-parts-nil l f (parts_cons x xs) h = absurd (omega (arith, l, row_lt b (f_part x) (f_parts xs rnil) p z h))

module _ (b : List ℕ) (q : ℕ) (P : Part → Type 0) where
  pub on-index : get_or b q 0 ≡ 0xBE
      → ((t : Term) (m : Mark) → Field b 0xBE q → TermAt b t (q + 3) → Row b (f_mark m rnil) (end_of b (q + 3)) (end_of b q) → P (part_index q t m))
      → (x : Part) → Row b (rcons (f_part x) rnil) q (end_of b q) → P x
  unfolding f_term
  on-index e f (part_index p t m) h =
      let ms = rcons (f_term t) (f_mark m rnil) in
      let w : Row b ms (q + 3) (end_of b q) = row-node b 0xBE p q (end_of b q) ms rnil h in
      subst (λ (i : ℕ). P (part_index i t m)) (sym (row-place b (node 0xBE p ms) rnil q (end_of b q) h))
      (f t m (row_field b (node 0xBE p ms) rnil q (end_of b q) h) (row-term b t (f_mark m rnil) (q + 3) (end_of b q) w) (row-rest b (f_term t) (f_mark m rnil) (q + 3) (end_of b q) w))
  on-index e f (part_range p x y m) h = absurd (omega (arith, e, row-tag b (f_part (part_range p x y m)) rnil q (end_of b q) h))

  pub on-range : (get_or b q 0 ≡ 0xBE → ⊥)
      → ((x y : Bound) (m : Mark) → Field b 0xBF q → Row b (f_bound 0xC1 x (f_bound 0xC2 y (f_mark m rnil))) (q + 3) (end_of b q) → P (part_range q x y m))
      → (x : Part) → Row b (rcons (f_part x) rnil) q (end_of b q) → P x
  unfolding f_term
  on-range n f (part_index p t m) h = absurd (n (row-tag b (f_part (part_index p t m)) rnil q (end_of b q) h))
  on-range n f (part_range p x y m) h =
      let ms = f_bound 0xC1 x (f_bound 0xC2 y (f_mark m rnil)) in
      subst (λ (i : ℕ). P (part_range i x y m)) (sym (row-place b (node 0xBF p ms) rnil q (end_of b q) h))
      (f x y m (row_field b (node 0xBF p ms) rnil q (end_of b q) h) (row-node b 0xBF p q (end_of b q) ms rnil h))

-- what follows a range's start, and its end, has no such tag at its head
pub no-from : (y : Bound) (m : Mark) → NoHead 0xC1 (f_bound 0xC2 y (f_mark m rnil))
no-from y m = no-head-bound 0xC1 0xC2 y (f_mark m rnil) (λ e. omega (arith, e)) (no-head-mark 0xC1 m (λ e. omega (arith, e)))

pub no-upto : (m : Mark) → NoHead 0xC2 (f_mark m rnil)
no-upto m = no-head-mark 0xC2 m (λ e. omega (arith, e))

-- ---- strings

module _ (b : List ℕ) (p z : ℕ) (P : StrParts → Type 0) where
  pub on-strings-cons : p < z
      → ((x : StrPart) (xs : StrParts) → Row b (rcons (f_str_part x) rnil) p (end_of b p) → end_of b p ≤ z → Row b (f_str_parts xs rnil) (end_of b p) z → P (s_cons x xs))
      → (xs : StrParts) → Row b (f_str_parts xs rnil) p z → P xs
  unfolding f_term
  on-strings-cons l f s_nil h = absurd (omega (arith, l, row-end b p z h))
  on-strings-cons l f (s_cons x xs) h =
      f x xs (row_first b (f_str_part x) (f_str_parts xs rnil) p z h) (row-past b (f_str_part x) (f_str_parts xs rnil) p z h) (row-rest b (f_str_part x) (f_str_parts xs rnil) p z h)

  pub on-strings-nil : z ≤ p → P s_nil → (xs : StrParts) → Row b (f_str_parts xs rnil) p z → P xs
  unfolding f_term
  on-strings-nil l f s_nil h = f
  on-strings-nil l f (s_cons x xs) h = absurd (omega (arith, l, row_lt b (f_str_part x) (f_str_parts xs rnil) p z h))

-- the character whose field is at q
abbrev pub number_at : List ℕ → ℕ → Number
number_at b q = record { place = q; bytes = text_of b q }

module _ (b : List ℕ) (q : ℕ) (P : StrPart → Type 0) where
  pub on-text : get_or b q 0 ≡ 0xBB → (Field b 0xBB q → P (s_text (name_at b q))) → (x : StrPart) → Row b (rcons (f_str_part x) rnil) q (end_of b q) → P x
  unfolding f_term
  on-text e f (s_text x) h =
      subst P (ap₂ (λ (i : ℕ) (y : List ℕ). s_text (record { place = i; text = y })) (sym (row-place b (f_name 0xBB x) rnil q (end_of b q) h)) (row-leaf b 0xBB x.place q (end_of b q) x.text rnil h))
      (f (row_field b (f_name 0xBB x) rnil q (end_of b q) h))
  on-text e f (s_char n) h = absurd (omega (arith, e, row-tag b (f_number 0xBC n) rnil q (end_of b q) h))
  on-text e f (s_term t) h = absurd (omega (arith, e, (term-tag t).1, row-tag b (f_term t) rnil q (end_of b q) h))

  pub on-char : get_or b q 0 ≡ 0xBC → (Field b 0xBC q → leaf_ok (shape 0xBC) (text_of b q) ≡ true → P (s_char (number_at b q))) → (x : StrPart) → Row b (rcons (f_str_part x) rnil) q (end_of b q) → P x
  unfolding f_term
  on-char e f (s_text x) h = absurd (omega (arith, e, row-tag b (f_name 0xBB x) rnil q (end_of b q) h))
  on-char e f (s_char n) h =
      let t = row-leaf b 0xBC n.place q (end_of b q) n.bytes rnil h in
      subst P (ap₂ (λ (i : ℕ) (y : List ℕ). s_char (record { place = i; bytes = y })) (sym (row-place b (f_number 0xBC n) rnil q (end_of b q) h)) t)
      (f (row_field b (f_number 0xBC n) rnil q (end_of b q) h) (subst (λ (y : List ℕ). leaf_ok (shape 0xBC) y ≡ true) (sym t) (row_ok b 0xBC n.place q (end_of b q) n.bytes rnil h)))
  on-char e f (s_term t) h = absurd (omega (arith, e, (term-tag t).1, row-tag b (f_term t) rnil q (end_of b q) h))

  pub on-str-term : (get_or b q 0 ≡ 0xBB → ⊥) → (get_or b q 0 ≡ 0xBC → ⊥) → ((t : Term) → TermAt b t q → P (s_term t)) → (x : StrPart) → Row b (rcons (f_str_part x) rnil) q (end_of b q) → P x
  unfolding f_term
  on-str-term n m f (s_text x) h = absurd (n (row-tag b (f_name 0xBB x) rnil q (end_of b q) h))
  on-str-term n m f (s_char y) h = absurd (m (row-tag b (f_number 0xBC y) rnil q (end_of b q) h))
  on-str-term n m f (s_term t) h = f t (row-term b t rnil q (end_of b q) h)

-- the format, before the parts of a string
module _ (b : List ℕ) (p z : ℕ) (xs : StrParts) (P : Format → Type 0) where
  pub on-format : p < z → get_or b p 0 ≡ 0xBA
      → (Field b 0xBA p → Row b (f_str_parts xs rnil) (end_of b p) z → P (a_format (name_at b p)))
      → (f : Format) → Row b (f_format f (f_str_parts xs rnil)) p z → P f
  unfolding f_format
  on-format l e f no_format h = absurd (no-head b 0xBA (f_str_parts xs rnil) p z (no-head-strings 0xBA xs (omega arith) (omega arith)) h l e)
  on-format l e f (a_format x) h =
      subst P (ap₂ (λ (i : ℕ) (y : List ℕ). a_format (record { place = i; text = y })) (sym (row-place b (f_name 0xBA x) (f_str_parts xs rnil) p z h)) (row-leaf b 0xBA x.place p z x.text (f_str_parts xs rnil) h))
      (f (row_field b (f_name 0xBA x) (f_str_parts xs rnil) p z h) (row-rest b (f_name 0xBA x) (f_str_parts xs rnil) p z h))

  pub on-no-format : (p < z → get_or b p 0 ≡ 0xBA → ⊥) → (Row b (f_str_parts xs rnil) p z → P no_format) → (f : Format) → Row b (f_format f (f_str_parts xs rnil)) p z → P f
  unfolding f_format
  on-no-format n f no_format h = f h
  on-no-format n f (a_format x) h = absurd (n (row_lt b (f_name 0xBA x) (f_str_parts xs rnil) p z h) (row-tag b (f_name 0xBA x) (f_str_parts xs rnil) p z h))

-- ---- entries of an object

module _ (b : List ℕ) (p z : ℕ) (P : Entries → Type 0) where
  pub on-entries-cons : p < z
      → ((t : Term) (o : OptTerm) (es : Entries) → Field b 0xBD p → TermAt b t (p + 3) → Row b (f_opt_term o rnil) (end_of b (p + 3)) (end_of b p)
      → end_of b p ≤ z → Row b (f_entries es rnil) (end_of b p) z → P (es_cons p t o es))
      → (es : Entries) → Row b (f_entries es rnil) p z → P es
  unfolding f_term
  on-entries-cons l f es_nil h = absurd (omega (arith, l, row-end b p z h))
  on-entries-cons l f (es_cons q t o es) h =
      let m = rcons (f_term t) (f_opt_term o rnil) in
      let w : Row b m (p + 3) (end_of b p) = row-node b 0xBD q p z m (f_entries es rnil) h in
      subst (λ (i : ℕ). P (es_cons i t o es)) (sym (row-place b (node 0xBD q m) (f_entries es rnil) p z h))
      (f t o es (row_field b (node 0xBD q m) (f_entries es rnil) p z h) (row-term b t (f_opt_term o rnil) (p + 3) (end_of b p) w) (row-rest b (f_term t) (f_opt_term o rnil) (p + 3) (end_of b p) w)
      (row-past b (node 0xBD q m) (f_entries es rnil) p z h) (row-rest b (node 0xBD q m) (f_entries es rnil) p z h))

  pub on-entries-nil : z ≤ p → P es_nil → (es : Entries) → Row b (f_entries es rnil) p z → P es
  unfolding f_term
  on-entries-nil l f es_nil h = f
  on-entries-nil l f (es_cons q t o es) h = absurd (omega (arith, l, row_lt b (node 0xBD q (rcons (f_term t) (f_opt_term o rnil))) (f_entries es rnil) p z h))

-- ---- operators: the operator field stands behind the left term

module _ (b : List ℕ) (p : ℕ) (P : Term → Type 0) where
  -- one of both, as its tag says
  pub on-operator : get_or b p 0 ≡ 0xAD
      → ((t : Term) (q : ℕ) (x : OptPattern) (u : Term) → TermAt b (t_pipe p t q x u) p → P (t_pipe p t q x u))
      → ((t : Term) (q : ℕ) (x : List ℕ) (u : Term) → TermAt b (t_bin_op p t q x u) p → P (t_bin_op p t q x u))
      → (t : Term) → TermAt b t p → P t
  unfolding f_term
  on-operator e f g (t_id r) h = absurd (omega (arith, e, term-tagged b (t_id r) p h))
  on-operator e f g (t_recurse r) h = absurd (omega (arith, e, term-tagged b (t_recurse r) p h))
  on-operator e f g (t_arr r o) h = absurd (omega (arith, e, term-tagged b (t_arr r o) p h))
  on-operator e f g (t_neg r t) h = absurd (omega (arith, e, term-tagged b (t_neg r t) p h))
  on-operator e f g (t_label r x t) h = absurd (omega (arith, e, term-tagged b (t_label r x t) p h))
  on-operator e f g (t_break r x) h = absurd (omega (arith, e, term-tagged b (t_break r x) p h))
  on-operator e f g (t_if_then_else r q c t bs) h = absurd (omega (arith, e, term-tagged b (t_if_then_else r q c t bs) p h))
  on-operator e f g (t_var r x) h = absurd (omega (arith, e, term-tagged b (t_var r x) p h))
  on-operator e f g (t_call r x ts) h = absurd (omega (arith, e, term-tagged b (t_call r x ts) p h))
  on-operator e f g (t_def r ds t) h = absurd (omega (arith, e, term-tagged b (t_def r ds t) p h))
  on-operator e f g (t_num r x) h = absurd (omega (arith, e, term-tagged b (t_num r x) p h))
  on-operator e f g (t_try_catch r t o) h = absurd (omega (arith, e, term-tagged b (t_try_catch r t o) p h))
  on-operator e f g (t_fold r y t x ts) h = absurd (omega (arith, e, term-tagged b (t_fold r y t x ts) p h))
  on-operator e f g (t_pipe r t q x u) h = subst (λ (i : ℕ). TermAt b (t_pipe i t q x u) p → P (t_pipe i t q x u)) (sym h.1) (f t q x u) h
  on-operator e f g (t_bin_op r t q x u) h = subst (λ (i : ℕ). TermAt b (t_bin_op i t q x u) p → P (t_bin_op i t q x u)) (sym h.1) (g t q x u) h
  on-operator e f g (t_path r t ps) h = absurd (omega (arith, e, term-tagged b (t_path r t ps) p h))
  on-operator e f g (t_str r x ps) h = absurd (omega (arith, e, term-tagged b (t_str r x ps) p h))
  on-operator e f g (t_obj r es) h = absurd (omega (arith, e, term-tagged b (t_obj r es) p h))

-- what stands in a BinOp whose operator field is at q
pub record OpAt (b : List ℕ) (p q : ℕ) (t : Term) (x : List ℕ) (u : Term) : Type 0 where
  pub left : TermAt b t (p + 3)
  pub field : Field b 0xB9 q
  pub text : text_of b q ≡ x
  pub ok : leaf_ok (shape 0xB9) x ≡ true
  pub right : TermAt b u (end_of b q)
  pub last : end_of b (end_of b q) ≡ end_of b p

pub record PipeAt (b : List ℕ) (p q : ℕ) (t : Term) (x : OptPattern) (u : Term) : Type 0 where
  pub left : TermAt b t (p + 3)
  pub field : Field b 0xB7 q
  pub pattern : Row b (f_opt_pattern x rnil) (q + 3) (end_of b q)
  pub right : TermAt b u (end_of b q)
  pub last : end_of b (end_of b q) ≡ end_of b p

pub binop-at : (b : List ℕ) (p q : ℕ) (t : Term) (x : List ℕ) (u : Term) → TermAt b (t_bin_op p t q x u) p → (end_of b (p + 3) ≡ q) × OpAt b p q t x u
unfolding f_term
binop-at b p q t x u h =
    let z = end_of b p in
    let rs = rcons (leaf 0xB9 q x) (rcons (f_term u) rnil) in
    let w : Row b (rcons (f_term t) rs) (p + 3) z = row-node b 0xAD p p z (rcons (f_term t) rs) rnil (term-row b (t_bin_op p t q x u) p h) in
    let v : Row b rs (end_of b (p + 3)) z = row-rest b (f_term t) rs (p + 3) z w in
    let e : q ≡ end_of b (p + 3) = row-place b (leaf 0xB9 q x) (rcons (f_term u) rnil) (end_of b (p + 3)) z v in
    let v' : Row b rs q z = subst (λ (i : ℕ). Row b rs i z) (sym e) v in
    let y : Row b (rcons (f_term u) rnil) (end_of b q) z = row-rest b (leaf 0xB9 q x) (rcons (f_term u) rnil) q z v' in (
      sym e,
      record {
        left = row-term b t rs (p + 3) z w;
        field = row_field b (leaf 0xB9 q x) (rcons (f_term u) rnil) q z v';
        text = row-leaf b 0xB9 q q z x (rcons (f_term u) rnil) v';
        ok = row_ok b 0xB9 q q z x (rcons (f_term u) rnil) v';
        right = row-term b u rnil (end_of b q) z y;
        last = row_last b (f_term u) (end_of b q) z y;
      },
    )

pub pipe-at : (b : List ℕ) (p q : ℕ) (t : Term) (x : OptPattern) (u : Term) → TermAt b (t_pipe p t q x u) p → (end_of b (p + 3) ≡ q) × PipeAt b p q t x u
unfolding f_term
pipe-at b p q t x u h =
    let z = end_of b p in
    let r = node 0xB7 q (f_opt_pattern x rnil) in
    let rs = rcons r (rcons (f_term u) rnil) in
    let w : Row b (rcons (f_term t) rs) (p + 3) z = row-node b 0xAD p p z (rcons (f_term t) rs) rnil (term-row b (t_pipe p t q x u) p h) in
    let v : Row b rs (end_of b (p + 3)) z = row-rest b (f_term t) rs (p + 3) z w in
    let e : q ≡ end_of b (p + 3) = row-place b r (rcons (f_term u) rnil) (end_of b (p + 3)) z v in
    let v' : Row b rs q z = subst (λ (i : ℕ). Row b rs i z) (sym e) v in
    let y : Row b (rcons (f_term u) rnil) (end_of b q) z = row-rest b r (rcons (f_term u) rnil) q z v' in (
      sym e,
      record {
        left = row-term b t rs (p + 3) z w;
        field = row_field b r (rcons (f_term u) rnil) q z v';
        pattern = row-node b 0xB7 q q z (f_opt_pattern x rnil) (rcons (f_term u) rnil) v';
        right = row-term b u rnil (end_of b q) z y;
        last = row_last b (f_term u) (end_of b q) z y;
      },
    )

module _ (b : List ℕ) (p q : ℕ) (P : Term → Type 0) where
  -- an operator other than Pipe
  pub on-binop : get_or b p 0 ≡ 0xAD → q ≡ end_of b (p + 3) → get_or b q 0 ≡ 0xB9
      → ((t : Term) (x : List ℕ) (u : Term) → OpAt b p q t x u → P (t_bin_op p t q x u))
      → (t : Term) → TermAt b t p → P t
  on-binop e i n f =
      on-operator b p P e
      (λ t q' x u h. absurd (omega (arith, n, subst (λ (j : ℕ). get_or b j 0 ≡ 0xB7) (sym (pipe-at b p q' t x u h).0 ∙ sym i) (pipe-at b p q' t x u h).1.field.tagged)))
      (λ t q' x u h.
      let a = binop-at b p q' t x u h in
      let j : q ≡ q' = i ∙ a.0 in
      subst (λ (k : ℕ). P (t_bin_op p t k x u)) j (f t x u (subst (λ (k : ℕ). OpAt b p k t x u) (sym j) a.1)))

  -- a Pipe
  pub on-pipe : get_or b p 0 ≡ 0xAD → q ≡ end_of b (p + 3) → (get_or b q 0 ≡ 0xB9 → ⊥)
      → ((t : Term) (x : OptPattern) (u : Term) → PipeAt b p q t x u → P (t_pipe p t q x u))
      → (t : Term) → TermAt b t p → P t
  on-pipe e i n f =
      on-operator b p P e
      (λ t q' x u h.
      let a = pipe-at b p q' t x u h in
      let j : q ≡ q' = i ∙ a.0 in
      subst (λ (k : ℕ). P (t_pipe p t k x u)) j (f t x u (subst (λ (k : ℕ). PipeAt b p k t x u) (sym j) a.1)))
      (λ t q' x u h. absurd (n (subst (λ (j : ℕ). get_or b j 0 ≡ 0xB9) (sym (binop-at b p q' t x u h).0 ∙ sym i) (binop-at b p q' t x u h).1.field.tagged)))
