-- The patterns in an array or object pattern, as the code passes them: one after the other, each behind its key if it has one. Assumes nothing.
use Rattle.std.specs.Prelude.{ℕ, ◌+◌, ◌≤◌, ◌<◌, ◌≡◌, refl, List, [], ◌∷◌, length, get_or}
use Rattle.std.proofs.Common.{arith, sym, subst}
use Rattle.tree.specs.Rose.{Roses, node, rnil, rcons, end_of, Row}
use Rattle.tree.specs.Tree.{Pattern, p_var, p_arr, p_obj, Patterns, ps_nil, ps_cons, PatEntries, pes_nil, pes_cons}
use Rattle.tree.specs.Form.{f_term, f_pattern, f_patterns, f_pat_entries}
use Rattle.reads.specs.Bytes.{PatternAt, sub_pattern}
use Rattle.reads.specs.Widths.{pat_width, pats_width, keyed_width}
use Rattle.reads.specs.Parts.{pattern-tagged, pattern-row, row-end, row-pattern, row-past, row-rest, row-node, row_last, row_fits}

unfoldable pub in_array : Patterns → List Pattern
in_array ps_nil = []
in_array (ps_cons x xs) = x ∷ in_array xs

unfoldable pub in_object : PatEntries → List Pattern
in_object pes_nil = []
in_object (pes_cons q t x xs) = x ∷ in_object xs

unfoldable pub subs_of : Pattern → List Pattern
subs_of (p_var p x) = []
subs_of (p_arr p xs) = in_array xs
subs_of (p_obj p xs) = in_object xs

unfoldable pub sum_width : List Pattern → ℕ
sum_width [] = 0
sum_width (x ∷ xs) = 2 + pat_width x + sum_width xs

-- the pattern x of the member at p of a pattern of the tag
pub record SubAt (b : List ℕ) (tag p : ℕ) (x : Pattern) : Type 0 where
  pub at : PatternAt b x (sub_pattern b tag p)
  pub low : p ≤ sub_pattern b tag p
  pub high : end_of b (sub_pattern b tag p) ≤ end_of b p
  pub fits : end_of b p ≤ length b
  pub key : (tag ≡ 0x99 → ⊥) → end_of b (p + 3) ≤ length b

-- such members one after the other from p up to z
unfoldable pub Subs : List ℕ → ℕ → List Pattern → ℕ → ℕ → Type 0
Subs b tag [] p z = p ≡ z
Subs b tag (x ∷ xs) p z = SubAt b tag p x × (end_of b p ≤ z) × Subs b tag xs (end_of b p) z

array-subs : (b : List ℕ) (xs : Patterns) (p z : ℕ) → Row b (f_patterns xs rnil) p z → (Subs b 0x99 (in_array xs) p z) × (pats_width xs ≡ sum_width (in_array xs))
unfolding in_array Subs sum_width f_pattern pat_width
array-subs b ps_nil p z h = (row-end b p z h, refl)
array-subs b (ps_cons x xs) p z h =
    let r = array-subs b xs (end_of b p) z (row-rest b (f_pattern x) (f_patterns xs rnil) p z h) in (
      (
        record {
          at = row-pattern b x (f_patterns xs rnil) p z h;
          low = omega arith;
          high = omega arith;
          fits = row_fits b (f_pattern x) (f_patterns xs rnil) p z h;
          key = λ n. absurd (n refl);
        },
        row-past b (f_pattern x) (f_patterns xs rnil) p z h,
        r.0,
      ),
      omega (arith, r.1),
    )

object-subs : (b : List ℕ) (xs : PatEntries) (p z : ℕ) → Row b (f_pat_entries xs rnil) p z → (Subs b 0x9A (in_object xs) p z) × (keyed_width xs ≡ sum_width (in_object xs))
unfolding in_object Subs sum_width f_pattern pat_width
object-subs b pes_nil p z h = (row-end b p z h, refl)
object-subs b (pes_cons q t x xs) p z h =
    let m = rcons (f_term t) (rcons (f_pattern x) rnil) in
    let rs = f_pat_entries xs rnil in
    let w : Row b m (p + 3) (end_of b p) = row-node b 0x9B q p z m rs h in
    let v : Row b (rcons (f_pattern x) rnil) (end_of b (p + 3)) (end_of b p) = row-rest b (f_term t) (rcons (f_pattern x) rnil) (p + 3) (end_of b p) w in
    let r = object-subs b xs (end_of b p) z (row-rest b (node 0x9B q m) rs p z h) in (
      (
        record {
          at = row-pattern b x rnil (end_of b (p + 3)) (end_of b p) v;
          low = omega arith;
          high = omega (arith, row_last b (f_pattern x) (end_of b (p + 3)) (end_of b p) v);
          fits = row_fits b (node 0x9B q m) rs p z h;
          key = λ n. row_fits b (f_term t) (rcons (f_pattern x) rnil) (p + 3) (end_of b p) w;
        },
        row-past b (node 0x9B q m) rs p z h,
        r.0,
      ),
      omega (arith, r.1),
    )

-- fields stand in the pattern at q, which is no variable
pub pattern-members : (b : List ℕ) (q : ℕ) → (get_or b q 0 ≡ 0x98 → ⊥) → (x : Pattern) → PatternAt b x q → (rs : Roses) × Row b rs (q + 3) (end_of b q)
unfolding f_pattern
pattern-members b q n (p_var p x) h = absurd (n (pattern-tagged b (p_var p x) q h))
pattern-members b q n (p_arr p xs) h = (f_patterns xs rnil, row-node b 0x99 p q (end_of b q) (f_patterns xs rnil) rnil (pattern-row b (p_arr p xs) q h))
pattern-members b q n (p_obj p xs) h = (f_pat_entries xs rnil, row-node b 0x9A p q (end_of b q) (f_pat_entries xs rnil) rnil (pattern-row b (p_obj p xs) q h))

-- the members of the pattern at q, which is no variable, and its width by theirs
pub subs-of : (b : List ℕ) (q : ℕ) → (get_or b q 0 ≡ 0x98 → ⊥) → (x : Pattern) → PatternAt b x q
    → Subs b (get_or b q 0) (subs_of x) (q + 3) (end_of b q) × (pat_width x ≡ 3 + sum_width (subs_of x))
unfolding subs_of f_pattern pat_width
subs-of b q n (p_var p x) h = absurd (n (pattern-tagged b (p_var p x) q h))
subs-of b q n (p_arr p xs) h =
    let r = array-subs b xs (q + 3) (end_of b q) (row-node b 0x99 p q (end_of b q) (f_patterns xs rnil) rnil (pattern-row b (p_arr p xs) q h)) in
    (subst (λ (k : ℕ). Subs b k (in_array xs) (q + 3) (end_of b q)) (sym (pattern-tagged b (p_arr p xs) q h)) r.0, omega (arith, r.1))
subs-of b q n (p_obj p xs) h =
    let r = object-subs b xs (q + 3) (end_of b q) (row-node b 0x9A p q (end_of b q) (f_pat_entries xs rnil) rnil (pattern-row b (p_obj p xs) q h)) in
    (subst (λ (k : ℕ). Subs b k (in_object xs) (q + 3) (end_of b q)) (sym (pattern-tagged b (p_obj p xs) q h)) r.0, omega (arith, r.1))

-- before the end there is one more, at the end there is none
pub subs-some : (b : List ℕ) (tag : ℕ) (xs : List Pattern) (p z : ℕ) → Subs b tag xs p z → p < z
    → (x : Pattern) × (ys : List Pattern) × (xs ≡ x ∷ ys) × SubAt b tag p x × (end_of b p ≤ z) × Subs b tag ys (end_of b p) z
unfolding Subs
subs-some b tag [] p z h l = absurd (omega (arith, h, l))
subs-some b tag (x ∷ xs) p z h l = (x, xs, refl, h.0, h.1, h.2)

pub subs-none : (b : List ℕ) (tag : ℕ) (xs : List Pattern) (p z : ℕ) → Subs b tag xs p z → z ≤ p → xs ≡ []
unfolding Subs
subs-none b tag [] p z h l = refl
subs-none b tag (x ∷ xs) p z h l = absurd (omega (arith, h.1, l))

pub subs-le : (b : List ℕ) (tag : ℕ) (xs : List Pattern) (p z : ℕ) → Subs b tag xs p z → p ≤ z
unfolding Subs
subs-le b tag [] p z h = omega (arith, h)
subs-le b tag (x ∷ xs) p z h = omega (arith, h.1)
