-- The bytes of a pattern, a path or a string pay for their width: two for each byte of the field, or a few more. And a string that is one text.
-- Assumes nothing.
use Rattle.std.specs.Prelude.{ℕ, ◌+◌, ◌*◌, ◌≤◌, ◌≡◌, refl, Bool, true, false, ◌&&◌, List, eqb, length, get_or}
use Rattle.std.proofs.Common.{arith, eqb-true}
use Rattle.tree.specs.Rose.{Roses, node, rnil, rcons, end_of, Row, row-le}
use Rattle.tree.specs.Tree.{Term, Pattern, p_var, p_arr, p_obj, Patterns, ps_nil, ps_cons, PatEntries, pes_nil, pes_cons, Bound, without_bound, a_bound, Part, part_index, part_range, Parts, parts_nil, parts_cons, Format, no_format, StrParts, s_nil, s_cons, StrPart, s_text, t_str}
use Rattle.tree.specs.Form.{f_term, f_pattern, f_patterns, f_pat_entries, f_mark, f_bound, f_part, f_parts}
use Rattle.reads.specs.Bytes.{TermAt, PatternAt, name_at, is_tag}
use Rattle.reads.specs.Widths.{pat_width, pats_width, keyed_width, bound_width, part_width, parts_width, is_plain}
use Rattle.reads.specs.Parts.{row-end, row-rest, row-pattern, row-node, row_last, pattern-row, on-no-format, on-strings-cons, on-strings-nil, on-text}
use Rattle.reads.specs.Shapes.{on-str, tag-yes}

-- ---- patterns

mutual
  unfolding f_pattern pat_width

  pub pat-room : (b : List ℕ) (x : Pattern) (q : ℕ) → PatternAt b x q → pat_width x + 2 * q + 2 ≤ 2 * end_of b q
  pat-room b (p_var p x) q h = omega arith
  pat-room b (p_arr p xs) q h = omega (arith, pats-room b xs (q + 3) (end_of b q) (row-node b 0x99 p q (end_of b q) (f_patterns xs rnil) rnil (pattern-row b (p_arr p xs) q h)))
  pat-room b (p_obj p xs) q h = omega (arith, keyed-room b xs (q + 3) (end_of b q) (row-node b 0x9A p q (end_of b q) (f_pat_entries xs rnil) rnil (pattern-row b (p_obj p xs) q h)))

  pub pats-room : (b : List ℕ) (xs : Patterns) (p z : ℕ) → Row b (f_patterns xs rnil) p z → pats_width xs + 2 * p ≤ 2 * z
  pats-room b ps_nil p z h = omega (arith, row-end b p z h)
  pats-room b (ps_cons x xs) p z h =
      omega (arith, pat-room b x p (row-pattern b x (f_patterns xs rnil) p z h), pats-room b xs (end_of b p) z (row-rest b (f_pattern x) (f_patterns xs rnil) p z h))

  pub keyed-room : (b : List ℕ) (xs : PatEntries) (p z : ℕ) → Row b (f_pat_entries xs rnil) p z → keyed_width xs + 2 * p ≤ 2 * z
  keyed-room b pes_nil p z h = omega (arith, row-end b p z h)
  keyed-room b (pes_cons q t x xs) p z h =
      let m = rcons (f_term t) (rcons (f_pattern x) rnil) in
      let rs = f_pat_entries xs rnil in
      let w : Row b m (p + 3) (end_of b p) = row-node b 0x9B q p z m rs h in
      let v : Row b (rcons (f_pattern x) rnil) (end_of b (p + 3)) (end_of b p) = row-rest b (f_term t) (rcons (f_pattern x) rnil) (p + 3) (end_of b p) w in
      omega (
        arith,
        pat-room b x (end_of b (p + 3)) (row-pattern b x rnil (end_of b (p + 3)) (end_of b p) v),
        row_last b (f_pattern x) (end_of b (p + 3)) (end_of b p) v,
        keyed-room b xs (end_of b p) z (row-rest b (node 0x9B q m) rs p z h),
      )

-- ---- paths

bound-room : (b : List ℕ) (k : ℕ) (x : Bound) (rs : Roses) (p z : ℕ) → Row b (f_bound k x rs) p z → (q : ℕ) × Row b rs q z × (bound_width x + 2 * p ≤ 2 * q + 1)
unfolding f_term
bound-room b k without_bound rs p z h = (p, h, omega arith)
bound-room b k (a_bound q t) rs p z h = (end_of b p, row-rest b (node k q (rcons (f_term t) rnil)) rs p z h, omega arith)

pub part_room : (b : List ℕ) (x : Part) (rs : Roses) (p z : ℕ) → Row b (rcons (f_part x) rs) p z → part_width x + 2 * p ≤ 2 * end_of b p
unfolding f_term
part_room b (part_index q t m) rs p z h = omega arith
part_room b (part_range q l u m) rs p z h =
    let ms = f_bound 0xC1 l (f_bound 0xC2 u (f_mark m rnil)) in
    let a = bound-room b 0xC1 l (f_bound 0xC2 u (f_mark m rnil)) (p + 3) (end_of b p) (row-node b 0xBF q p z ms rs h) in
    let c = bound-room b 0xC2 u (f_mark m rnil) a.0 (end_of b p) a.1 in
    omega (arith, a.2, c.2, row-le b (f_mark m rnil) c.0 (end_of b p) c.1)

pub parts-room : (b : List ℕ) (xs : Parts) (p z : ℕ) → Row b (f_parts xs rnil) p z → parts_width xs + 2 * p ≤ 2 * z
unfolding f_term parts_width
parts-room b parts_nil p z h = omega (arith, row-end b p z h)
parts-room b (parts_cons x xs) p z h =
    omega (arith, part_room b x (f_parts xs rnil) p z h, parts-room b xs (end_of b p) z (row-rest b (f_part x) (f_parts xs rnil) p z h))

-- ---- a string that is one text

and_both : (t u : Bool) → (t && u) ≡ true → (t ≡ true) × (u ≡ true)
and_both true u e = (refl, e)
and_both false true e = (e, refl)
and_both false false e = (e, e)

-- the Str at q is one text, without a format
pub on-plain : (b : List ℕ) (q : ℕ) (P : Term → Type 0) → get_or b q 0 ≡ 0xAF → is_plain b (q + 3) (end_of b q) ≡ true
    → (end_of b (q + 3) ≤ length b → end_of b (q + 3) ≡ end_of b q → P (t_str q no_format (s_cons (s_text (name_at b (q + 3))) s_nil)))
    → (t : Term) → TermAt b t q → P t
on-plain b q P e i f =
    let a = and_both (is_tag b (q + 3) (end_of b q) 0xBB) (eqb (end_of b (q + 3)) (end_of b q)) i in
    let t = tag-yes b (q + 3) (end_of b q) 0xBB a.0 in
    let z : end_of b (q + 3) ≡ end_of b q = eqb-true (end_of b (q + 3)) (end_of b q) a.1 in
    on-str b q P e
    (λ g xs s.
    on-no-format b (q + 3) (end_of b q) xs (λ (g : Format). P (t_str q g xs)) (λ l k. omega (arith, t.1, k))
    (λ r.
    on-strings-cons b (q + 3) (end_of b q) (λ (xs : StrParts). P (t_str q no_format xs)) t.0
    (λ x ys w l v.
    on-strings-nil b (end_of b (q + 3)) (end_of b q) (λ (ys : StrParts). P (t_str q no_format (s_cons x ys))) (omega (arith, z))
    (on-text b (q + 3) (λ (x : StrPart). P (t_str q no_format (s_cons x s_nil))) t.1 (λ k. f k.fits z) x w) ys v) xs r) g s.parts)
