-- From the byte at a place to what stands there: of a term of each tag, its constructor with its own place and name, and where its members stand, by the
-- places that the code computes. For each form a record of what is known of the members, and an eliminator `on-..` for any motive P. Rows of members
-- likewise: what the next one is, or that there is none. Assumes nothing.
use Rattle.std.specs.Prelude.{ℕ, zero, suc, ◌+◌, ◌-◌, ◌*◌, ◌≤◌, ◌<◌, ◌≡◌, refl, Bool, true, false, cond, ◌&&◌, ◌⊎◌, eqb, ltb, length, get_or, drop}
use Rattle.std.proofs.Common.{arith, sym, ap, ap₂, ◌∙◌, inl, inr, length-drop, length-take-le, get_or-take, get_or-drop, eqb-true, ltb-true, lt-ltb, eq-eqb, add-zero}
use Rattle.std.proofs.Math.Path.{subst}
use mathlib.Core.List.{List, [], ◌∷◌}
use Rattle.tree.specs.Rose.{Rose, Roses, leaf, node, rnil, rcons, end_of, text_of, At, Row, tag_of, row-le, tagged, inside}
use Rattle.tree.specs.Leaf.{shape, leaf_ok, is_operator, both}
use Rattle.tree.specs.Table.{shapes}
use Rattle.tree.proofs.Match.{not-both}
use Rattle.tree.specs.Tree.{Name, Mark, Format, Term, OptTerm, Terms, Branches, Defs, Def, Pattern, OptPattern, Patterns, PatEntries, Parts, Part, Bound, StrParts, StrPart, Entries, term_place}
use Rattle.tree.specs.Tree.{t_id, t_recurse, t_arr, t_neg, t_label, t_break, t_if_then_else, t_var, t_call, t_def, t_num, t_try_catch, t_fold, t_pipe, t_bin_op, t_path, t_str, t_obj}
use Rattle.tree.specs.Tree.{no_mark, a_mark, no_format, a_format, no_term, a_term, ts_nil, ts_cons, b_none, b_else, b_pair, ds_nil, ds_cons, def, p_var, p_arr, p_obj, no_pattern, a_pattern, ps_nil, ps_cons, pes_nil, pes_cons}
use Rattle.tree.specs.Tree.{parts_nil, parts_cons, part_index, part_range, without_bound, a_bound, s_nil, s_cons, s_text, s_char, s_term, es_nil, es_cons}
use Rattle.tree.specs.Form.{f_name, f_names, f_mark, f_format, f_term, f_opt_term, f_terms, f_branches, f_defs, f_def, f_pattern, f_opt_pattern, f_patterns, f_pat_entries, f_parts, f_part, f_bound, f_str_parts, f_str_part, f_entries}
use Rattle.tree.proofs.Form.{term-place, pattern-place}
use Rattle.rules.specs.Outs.{arity}
use Rattle.reads.specs.Bytes.{many, after, Fields, TermAt, PatternAt, DefAt, name_at, names_of, is_tag}

-- ---- heads of rows

pub term-head : (b : List ℕ) (u : Term) (rs : Roses) (q z : ℕ) → Row b (rcons (f_term u) rs) q z → TermAt b u q
unfolding At
term-head b u rs q z h = (h.1, sym (term-place u) ∙ h.0)

pub pattern-head : (b : List ℕ) (x : Pattern) (rs : Roses) (q z : ℕ) → Row b (rcons (f_pattern x) rs) q z → PatternAt b x q
unfolding At
pattern-head b x rs q z h = (h.1, sym (pattern-place x) ∙ h.0)

pub row-tail : (b : List ℕ) (r : Rose) (rs : Roses) (q z : ℕ) → Row b (rcons r rs) q z → Row b rs (end_of b q) z
unfolding At
row-tail b r rs q z h = h.2

pub row-end : (b : List ℕ) (q z : ℕ) → Row b rnil q z → q ≡ z
unfolding At
row-end b q z h = h

-- the first field of a row lies within the bytes, and within the row
pub head-fits : (b : List ℕ) (r : Rose) (rs : Roses) (q z : ℕ) → Row b (rcons r rs) q z → (end_of b q ≤ length b) × (end_of b q ≤ z)
unfolding At
head-fits b r rs q z h = (subst (λ (p : ℕ). end_of b p ≤ length b) h.0 (inside b r h.1), row-le b rs (end_of b q) z h.2)

head-tag : (b : List ℕ) (r : Rose) (rs : Roses) (q z : ℕ) → Row b (rcons r rs) q z → get_or b q 0 ≡ tag_of r
unfolding At
head-tag b r rs q z h = subst (λ (p : ℕ). get_or b p 0 ≡ tag_of r) h.0 (tagged b r h.1)

-- a name by its place
pub name-is : (b : List ℕ) (x : Name) (q : ℕ) → x.place ≡ q → text_of b x.place ≡ x.text → x ≡ name_at b q
name-is b x q e f = ap₂ (λ (p : ℕ) (t : List ℕ). record { place = p; text = t }) e (sym f ∙ ap (text_of b) e)

name-head : (b : List ℕ) (k : ℕ) (x : Name) (rs : Roses) (q z : ℕ) → Row b (rcons (f_name k x) rs) q z → x ≡ name_at b q
unfolding At
name-head b k x rs q z h = name-is b x q h.0 h.1.1

-- ---- terms: what is known of the members of the one at q

-- Id, Recurse
pub record BareAt (b : List ℕ) (q : ℕ) : Type 0 where
  pub fits : end_of b q ≤ length b
  pub last : end_of b q ≡ q + 3

-- Break, Var, Num; a pattern's variable
pub record LeafAt (b : List ℕ) (tag q : ℕ) : Type 0 where
  pub fits : end_of b q ≤ length b
  pub ok : leaf_ok (shape tag) (text_of b q) ≡ true

pub record ArrAt (b : List ℕ) (q : ℕ) (o : OptTerm) : Type 0 where
  pub fits : end_of b q ≤ length b
  pub body : Row b (f_opt_term o rnil) (q + 3) (end_of b q)

pub record NegAt (b : List ℕ) (q : ℕ) (u : Term) : Type 0 where
  pub fits : end_of b q ≤ length b
  pub body : TermAt b u (q + 3)
  pub last : end_of b (q + 3) ≡ end_of b q

pub record LabelAt (b : List ℕ) (q : ℕ) (u : Term) : Type 0 where
  pub fits : end_of b q ≤ length b
  pub name : end_of b (q + 3) ≤ length b
  pub body : TermAt b u (end_of b (q + 3))
  pub last : end_of b (end_of b (q + 3)) ≡ end_of b q

pub record IteAt (b : List ℕ) (q : ℕ) (c u : Term) (bs : Branches) : Type 0 where
  pub fits : end_of b q ≤ length b
  pub pairs : Row b (f_branches (b_pair (q + 3) c u bs)) (q + 3) (end_of b q)

pub record CallAt (b : List ℕ) (q : ℕ) (ts : Terms) : Type 0 where
  pub fits : end_of b q ≤ length b
  pub name : end_of b (q + 3) ≤ length b
  pub args : Row b (f_terms ts rnil) (end_of b (q + 3)) (end_of b q)

pub record UnderAt (b : List ℕ) (q : ℕ) (ds : Defs) (u : Term) : Type 0 where
  pub fits : end_of b q ≤ length b
  pub defs : Row b (f_defs ds (rcons (f_term u) rnil)) (q + 3) (end_of b q)

pub record TryAt (b : List ℕ) (q : ℕ) (u : Term) (o : OptTerm) : Type 0 where
  pub fits : end_of b q ≤ length b
  pub body : TermAt b u (q + 3)
  pub catch : Row b (f_opt_term o rnil) (end_of b (q + 3)) (end_of b q)

pub record FoldAt (b : List ℕ) (q : ℕ) (u : Term) (x : Pattern) (ts : Terms) : Type 0 where
  pub fits : end_of b q ≤ length b
  pub name : end_of b (q + 3) ≤ length b
  pub source : TermAt b u (end_of b (q + 3))
  pub pat : PatternAt b x (end_of b (end_of b (q + 3)))
  pub args : Row b (f_terms ts rnil) (end_of b (end_of b (end_of b (q + 3)))) (end_of b q)

-- o is the place of the operator
pub record PipeAt (b : List ℕ) (q o : ℕ) (u : Term) (x : OptPattern) (v : Term) : Type 0 where
  pub fits : end_of b q ≤ length b
  pub left : TermAt b u (q + 3)
  pub op : get_or b o 0 ≡ 0xB7
  pub mid : end_of b o ≤ length b
  pub pat : Row b (f_opt_pattern x rnil) (o + 3) (end_of b o)
  pub right : TermAt b v (end_of b o)
  pub last : end_of b (end_of b o) ≡ end_of b q

pub record BinAt (b : List ℕ) (q o : ℕ) (u v : Term) : Type 0 where
  pub fits : end_of b q ≤ length b
  pub left : TermAt b u (q + 3)
  pub op : get_or b o 0 ≡ 0xB9
  pub mid : end_of b o ≤ length b
  pub one : end_of b o ≡ o + 4
  pub is : is_operator (get_or b (o + 3) 0) ≡ true
  pub right : TermAt b v (o + 4)
  pub last : end_of b (o + 4) ≡ end_of b q

pub record PathAt (b : List ℕ) (q : ℕ) (u : Term) (ps : Parts) : Type 0 where
  pub fits : end_of b q ≤ length b
  pub body : TermAt b u (q + 3)
  pub parts : Row b (f_parts ps rnil) (end_of b (q + 3)) (end_of b q)

pub record StrAt (b : List ℕ) (q : ℕ) (f : Format) (ps : StrParts) : Type 0 where
  pub fits : end_of b q ≤ length b
  pub parts : Row b (f_format f (f_str_parts ps rnil)) (q + 3) (end_of b q)

pub record ObjAt (b : List ℕ) (q : ℕ) (es : Entries) : Type 0 where
  pub fits : end_of b q ≤ length b
  pub entries : Row b (f_entries es rnil) (q + 3) (end_of b q)

-- ---- the term that a tag stands for

abbrev pub tag : Term → ℕ
tag (t_id p) = 0xA0
tag (t_recurse p) = 0xA1
tag (t_arr p o) = 0xA2
tag (t_neg p t) = 0xA3
tag (t_label p x t) = 0xA4
tag (t_break p x) = 0xA5
tag (t_if_then_else p q c t bs) = 0xA6
tag (t_var p x) = 0xA7
tag (t_call p f ts) = 0xA8
tag (t_def p ds t) = 0xA9
tag (t_num p x) = 0xAA
tag (t_try_catch p t o) = 0xAB
tag (t_fold p f t x ts) = 0xAC
tag (t_pipe p t q x u) = 0xAD
tag (t_bin_op p t q x u) = 0xAD
tag (t_path p t ps) = 0xAE
tag (t_str p f ps) = 0xAF
tag (t_obj p es) = 0xB0

abbrev Pipes : List ℕ → ℕ → Term → Type 0
Pipes b q t = (u : Term) × (x : OptPattern) × (v : Term) × PipeAt b q (end_of b (q + 3)) u x v × (t ≡ t_pipe q u (end_of b (q + 3)) x v)

abbrev Bins : List ℕ → ℕ → Term → Type 0
Bins b q t = (u : Term) × (v : Term) × BinAt b q (end_of b (q + 3)) u v × (t ≡ t_bin_op q u (end_of b (q + 3)) (get_or b (end_of b (q + 3) + 3) 0 ∷ []) v)

abbrev Shape : List ℕ → ℕ → ℕ → Term → Type 0
Shape b q n t =
    cond (eqb n 0xA0) (BareAt b q × (t ≡ t_id q))
    (cond (eqb n 0xA1) (BareAt b q × (t ≡ t_recurse q))
    (cond (eqb n 0xA2) ((o : OptTerm) × ArrAt b q o × (t ≡ t_arr q o))
    (cond (eqb n 0xA3) ((u : Term) × NegAt b q u × (t ≡ t_neg q u))
    (cond (eqb n 0xA4) ((u : Term) × LabelAt b q u × (t ≡ t_label q (name_at b (q + 3)) u))
    (cond (eqb n 0xA5) (LeafAt b 0xA5 q × (t ≡ t_break q (text_of b q)))
    (cond (eqb n 0xA6) ((c : Term) × (u : Term) × (bs : Branches) × IteAt b q c u bs × (t ≡ t_if_then_else q (q + 3) c u bs))
    (cond (eqb n 0xA7) (LeafAt b 0xA7 q × (t ≡ t_var q (text_of b q)))
    (cond (eqb n 0xA8) ((ts : Terms) × CallAt b q ts × (t ≡ t_call q (name_at b (q + 3)) ts))
    (cond (eqb n 0xA9) ((ds : Defs) × (u : Term) × UnderAt b q ds u × (t ≡ t_def q ds u))
    (cond (eqb n 0xAA) (LeafAt b 0xAA q × (t ≡ t_num q (text_of b q)))
    (cond (eqb n 0xAB) ((u : Term) × (o : OptTerm) × TryAt b q u o × (t ≡ t_try_catch q u o))
    (cond (eqb n 0xAC) ((u : Term) × (x : Pattern) × (ts : Terms) × FoldAt b q u x ts × (t ≡ t_fold q (name_at b (q + 3)) u x ts))
    (cond (eqb n 0xAD) (Pipes b q t ⊎ Bins b q t)
    (cond (eqb n 0xAE) ((u : Term) × (ps : Parts) × PathAt b q u ps × (t ≡ t_path q u ps))
    (cond (eqb n 0xAF) ((f : Format) × (ps : StrParts) × StrAt b q f ps × (t ≡ t_str q f ps))
    (cond (eqb n 0xB0) ((es : Entries) × ObjAt b q es × (t ≡ t_obj q es))
    ⊥))))))))))))))))

-- a text of one byte
one_byte : (x : List ℕ) → length x ≡ 1 → x ≡ get_or x 0 0 ∷ []
one_byte [] e = absurd (omega (arith, e))
one_byte (k ∷ []) e = refl
one_byte (k ∷ l ∷ ls) e = absurd (omega (arith, e))

-- the text of a field within the bytes is as long as the field says
pub text-length : (b : List ℕ) (q : ℕ) → end_of b q ≤ length b → length (text_of b q) ≡ end_of b q - (q + 3)
text-length b q h = length-take-le (get_or b (q + 1) 0 + get_or b (q + 2) 0 * 256) (drop (q + 3) b) (omega (arith, h, length-drop (q + 3) b)) ∙ omega arith

-- its first byte, where it has one
pub text-first : (b : List ℕ) (q : ℕ) → q + 3 < end_of b q → get_or (text_of b q) 0 0 ≡ get_or b (q + 3) 0
text-first b q h = get_or-take (get_or b (q + 1) 0 + get_or b (q + 2) 0 * 256) (drop (q + 3) b) 0 0 (omega (arith, h)) ∙ get_or-drop (q + 3) b 0 0 ∙ ap (λ (k : ℕ). get_or b k 0) (add-zero (q + 3))

both_left : (x y : Bool) → both x y ≡ true → x ≡ true
both_left true y e = refl
both_left false y e = e

both_right : (x y : Bool) → both x y ≡ true → y ≡ true
both_right true y e = e
both_right false y e = not-both false e refl

binary : (b : List ℕ) (p o q : ℕ) (u : Term) (x : List ℕ) (v : Term) → end_of b p ≤ length b → TermAt b u (p + 3) → Row b (rcons (leaf 0xB9 o x) (rcons (f_term v) rnil)) o (end_of b p) → q ≡ o
    → o ≡ end_of b (p + 3) → Bins b p (t_bin_op p u q x v)
unfolding At leaf_ok shape shapes
binary b p o q u x v h l s e f =
    let ok : both (eqb (length x) 1) (is_operator (get_or x 0 0)) ≡ true = s.1.2 in
    let n : length x ≡ 1 = eqb-true (length x) 1 (both_left (eqb (length x) 1) (is_operator (get_or x 0 0)) ok) in
    let t : text_of b o ≡ x = s.1.1 in
    let i : end_of b o ≡ o + 4 = omega (arith, sym (text-length b o s.1.0.fits), ap length t, n) in
    let g : get_or x 0 0 ≡ get_or b (o + 3) 0 = ap (λ (y : List ℕ). get_or y 0 0) (sym t) ∙ text-first b o (omega (arith, i)) in
    let r : Row b (rcons (f_term v) rnil) (o + 4) (end_of b p) = subst (λ (k : ℕ). Row b (rcons (f_term v) rnil) k (end_of b p)) i s.2 in (
      u,
      v,
      subst (λ (k : ℕ). BinAt b p k u v) f
          (record {
            fits = h;
            left = l;
            op = s.1.0.tagged;
            mid = s.1.0.fits;
            one = i;
            is = subst (λ (k : ℕ). is_operator k ≡ true) g (both_right (eqb (length x) 1) (is_operator (get_or x 0 0)) ok);
            right = term-head b v rnil (o + 4) (end_of b p) r;
            last = r.2;
          }),
      ap₂ (λ (k : ℕ) (y : List ℕ). t_bin_op p u k y v) (e ∙ f) (one_byte x n ∙ ap (λ (k : ℕ). k ∷ []) (g ∙ ap (λ (k : ℕ). get_or b (k + 3) 0) f)),
    )

formed : (b : List ℕ) (t : Term) → At b (f_term t) → Shape b (term_place t) (tag t) t
unfolding At f_term
formed b (t_id p) h = (record { fits = h.0.fits; last = sym h.1 }, refl)
formed b (t_recurse p) h = (record { fits = h.0.fits; last = sym h.1 }, refl)
formed b (t_arr p o) h = (o, record { fits = h.0.fits; body = h.1 }, refl)
formed b (t_neg p u) h =
    let r : Row b (rcons (f_term u) rnil) (p + 3) (end_of b p) = h.1 in
    (u, record { fits = h.0.fits; body = term-head b u rnil (p + 3) (end_of b p) r; last = r.2 }, refl)
formed b (t_label p x u) h =
    let r : Row b (rcons (f_name 0x90 x) (rcons (f_term u) rnil)) (p + 3) (end_of b p) = h.1 in
    let f = head-fits b (f_name 0x90 x) (rcons (f_term u) rnil) (p + 3) (end_of b p) r in
    (u, record { fits = h.0.fits; name = f.0; body = term-head b u rnil (end_of b (p + 3)) (end_of b p) r.2; last = r.2.2 }, ap (λ (y : Name). t_label p y u) (name-head b 0x90 x (rcons (f_term u) rnil) (p + 3) (end_of b p) r))
formed b (t_break p x) h = (record { fits = h.0.fits; ok = subst (λ (y : List ℕ). leaf_ok (shape 0xA5) y ≡ true) (sym h.1) h.2 }, ap (λ (y : List ℕ). t_break p y) (sym h.1))
formed b (t_if_then_else p q c u bs) h =
    let e : q ≡ p + 3 = h.1.0 in
    (c, u, bs, record { fits = h.0.fits; pairs = subst (λ (k : ℕ). Row b (f_branches (b_pair k c u bs)) (p + 3) (end_of b p)) e h.1 }, ap (λ (k : ℕ). t_if_then_else p k c u bs) e)
formed b (t_var p x) h = (record { fits = h.0.fits; ok = subst (λ (y : List ℕ). leaf_ok (shape 0xA7) y ≡ true) (sym h.1) h.2 }, ap (λ (y : List ℕ). t_var p y) (sym h.1))
formed b (t_call p x ts) h =
    let r : Row b (rcons (f_name 0x90 x) (f_terms ts rnil)) (p + 3) (end_of b p) = h.1 in
    (ts, record { fits = h.0.fits; name = (head-fits b (f_name 0x90 x) (f_terms ts rnil) (p + 3) (end_of b p) r).0; args = r.2 }, ap (λ (y : Name). t_call p y ts) (name-head b 0x90 x (f_terms ts rnil) (p + 3) (end_of b p) r))
formed b (t_def p ds u) h = (ds, u, record { fits = h.0.fits; defs = h.1 }, refl)
formed b (t_num p x) h = (record { fits = h.0.fits; ok = subst (λ (y : List ℕ). leaf_ok (shape 0xAA) y ≡ true) (sym h.1) h.2 }, ap (λ (y : List ℕ). t_num p y) (sym h.1))
formed b (t_try_catch p u o) h =
    let r : Row b (rcons (f_term u) (f_opt_term o rnil)) (p + 3) (end_of b p) = h.1 in
    (u, o, record { fits = h.0.fits; body = term-head b u (f_opt_term o rnil) (p + 3) (end_of b p) r; catch = r.2 }, refl)
formed b (t_fold p f u x ts) h =
    let r : Row b (rcons (f_name 0x90 f) (rcons (f_term u) (rcons (f_pattern x) (f_terms ts rnil)))) (p + 3) (end_of b p) = h.1 in (
      u,
      x,
      ts,
      record {
        fits = h.0.fits;
        name = (head-fits b (f_name 0x90 f) (rcons (f_term u) (rcons (f_pattern x) (f_terms ts rnil))) (p + 3) (end_of b p) r).0;
        source = term-head b u (rcons (f_pattern x) (f_terms ts rnil)) (end_of b (p + 3)) (end_of b p) r.2;
        pat = pattern-head b x (f_terms ts rnil) (end_of b (end_of b (p + 3))) (end_of b p) r.2.2;
        args = r.2.2.2;
      },
      ap (λ (y : Name). t_fold p y u x ts) (name-head b 0x90 f (rcons (f_term u) (rcons (f_pattern x) (f_terms ts rnil))) (p + 3) (end_of b p) r),
    )
formed b (t_pipe p u q x v) h =
    let o = end_of b (p + 3) in
    let r : Row b (rcons (f_term u) (rcons (node 0xB7 q (f_opt_pattern x rnil)) (rcons (f_term v) rnil))) (p + 3) (end_of b p) = h.1 in
    let e : q ≡ o = r.2.0 in
    let s : Row b (rcons (node 0xB7 o (f_opt_pattern x rnil)) (rcons (f_term v) rnil)) o (end_of b p) = subst (λ (k : ℕ). Row b (rcons (node 0xB7 k (f_opt_pattern x rnil)) (rcons (f_term v) rnil)) o (end_of b p)) e r.2 in
    inl (
      u,
      x,
      v,
      record {
        fits = h.0.fits;
        left = term-head b u (rcons (node 0xB7 q (f_opt_pattern x rnil)) (rcons (f_term v) rnil)) (p + 3) (end_of b p) r;
        op = s.1.0.tagged;
        mid = s.1.0.fits;
        pat = s.1.1;
        right = term-head b v rnil (end_of b o) (end_of b p) s.2;
        last = s.2.2;
      },
      ap (λ (k : ℕ). t_pipe p u k x v) e,
    )
formed b (t_bin_op p u q x v) h =
    let o = end_of b (p + 3) in
    let r : Row b (rcons (f_term u) (rcons (leaf 0xB9 q x) (rcons (f_term v) rnil))) (p + 3) (end_of b p) = h.1 in
    let e : q ≡ o = r.2.0 in
    let s : Row b (rcons (leaf 0xB9 o x) (rcons (f_term v) rnil)) o (end_of b p) = subst (λ (k : ℕ). Row b (rcons (leaf 0xB9 k x) (rcons (f_term v) rnil)) o (end_of b p)) e r.2 in
    inr (binary b p o q u x v h.0.fits (term-head b u (rcons (leaf 0xB9 q x) (rcons (f_term v) rnil)) (p + 3) (end_of b p) r) s e refl)
formed b (t_path p u ps) h =
    let r : Row b (rcons (f_term u) (f_parts ps rnil)) (p + 3) (end_of b p) = h.1 in
    (u, ps, record { fits = h.0.fits; body = term-head b u (f_parts ps rnil) (p + 3) (end_of b p) r; parts = r.2 }, refl)
formed b (t_str p f ps) h = (f, ps, record { fits = h.0.fits; parts = h.1 }, refl)
formed b (t_obj p es) h = (es, record { fits = h.0.fits; entries = h.1 }, refl)

abbrev is_term : ℕ → Type 0
is_term k = (0xA0 ≤ k) × (k ≤ 0xB0)

tag-of : (t : Term) → (tag_of (f_term t) ≡ tag t) × is_term (tag t)
unfolding f_term
tag-of (t_id p) = (refl, (omega arith, omega arith))
tag-of (t_recurse p) = (refl, (omega arith, omega arith))
tag-of (t_arr p o) = (refl, (omega arith, omega arith))
tag-of (t_neg p t) = (refl, (omega arith, omega arith))
tag-of (t_label p x t) = (refl, (omega arith, omega arith))
tag-of (t_break p x) = (refl, (omega arith, omega arith))
tag-of (t_if_then_else p q c t bs) = (refl, (omega arith, omega arith))
tag-of (t_var p x) = (refl, (omega arith, omega arith))
tag-of (t_call p f ts) = (refl, (omega arith, omega arith))
tag-of (t_def p ds t) = (refl, (omega arith, omega arith))
tag-of (t_num p x) = (refl, (omega arith, omega arith))
tag-of (t_try_catch p t o) = (refl, (omega arith, omega arith))
tag-of (t_fold p f t x ts) = (refl, (omega arith, omega arith))
tag-of (t_pipe p t q x u) = (refl, (omega arith, omega arith))
tag-of (t_bin_op p t q x u) = (refl, (omega arith, omega arith))
tag-of (t_path p t ps) = (refl, (omega arith, omega arith))
tag-of (t_str p f ps) = (refl, (omega arith, omega arith))
tag-of (t_obj p es) = (refl, (omega arith, omega arith))

-- the field of a term lies within the bytes, and its tag is one of a term: no definition's, parameter's, pair's, ..
pub term_fits : (b : List ℕ) (t : Term) (q : ℕ) → TermAt b t q → end_of b q ≤ length b
term_fits b t q h = subst (λ (p : ℕ). end_of b p ≤ length b) (term-place t ∙ h.1) (inside b (f_term t) h.0)

term-tagged : (b : List ℕ) (t : Term) (q : ℕ) → TermAt b t q → get_or b q 0 ≡ tag t
term-tagged b t q h = subst (λ (p : ℕ). get_or b p 0 ≡ tag_of (f_term t)) (term-place t ∙ h.1) (tagged b (f_term t) h.0) ∙ (tag-of t).0

pub term-tag : (b : List ℕ) (t : Term) (q : ℕ) → TermAt b t q → (0xA0 ≤ get_or b q 0) × (get_or b q 0 ≤ 0xB0)
term-tag b t q h = (omega (arith, term-tagged b t q h, (tag-of t).1.0), omega (arith, term-tagged b t q h, (tag-of t).1.1))

shaped : (b : List ℕ) (t : Term) (q n : ℕ) → TermAt b t q → get_or b q 0 ≡ n → Shape b q n t
shaped b t q n h e = subst (λ (p : ℕ). Shape b p n t) h.1 (subst (λ (k : ℕ). Shape b (term_place t) k t) (sym (term-tagged b t q h) ∙ e) (formed b t h.0))

module _ (b : List ℕ) (q : ℕ) (P : Term → Type 0) where
  pub on-id : get_or b q 0 ≡ 0xA0 → (BareAt b q → P (t_id q)) → (t : Term) → TermAt b t q → P t
  on-id e f t h =
      let s = shaped b t q 0xA0 h e in
      subst P (sym s.1) (f s.0)

  pub on-recurse : get_or b q 0 ≡ 0xA1 → (BareAt b q → P (t_recurse q)) → (t : Term) → TermAt b t q → P t
  on-recurse e f t h =
      let s = shaped b t q 0xA1 h e in
      subst P (sym s.1) (f s.0)

  pub on-arr : get_or b q 0 ≡ 0xA2 → ((o : OptTerm) → ArrAt b q o → P (t_arr q o)) → (t : Term) → TermAt b t q → P t
  on-arr e f t h =
      let s = shaped b t q 0xA2 h e in
      subst P (sym s.2) (f s.0 s.1)

  pub on-neg : get_or b q 0 ≡ 0xA3 → ((u : Term) → NegAt b q u → P (t_neg q u)) → (t : Term) → TermAt b t q → P t
  on-neg e f t h =
      let s = shaped b t q 0xA3 h e in
      subst P (sym s.2) (f s.0 s.1)

  pub on-label : get_or b q 0 ≡ 0xA4 → ((u : Term) → LabelAt b q u → P (t_label q (name_at b (q + 3)) u)) → (t : Term) → TermAt b t q → P t
  on-label e f t h =
      let s = shaped b t q 0xA4 h e in
      subst P (sym s.2) (f s.0 s.1)

  pub on-break : get_or b q 0 ≡ 0xA5 → (LeafAt b 0xA5 q → P (t_break q (text_of b q))) → (t : Term) → TermAt b t q → P t
  on-break e f t h =
      let s = shaped b t q 0xA5 h e in
      subst P (sym s.1) (f s.0)

  pub on-ite : get_or b q 0 ≡ 0xA6 → ((c : Term) (u : Term) (bs : Branches) → IteAt b q c u bs → P (t_if_then_else q (q + 3) c u bs)) → (t : Term) → TermAt b t q → P t
  on-ite e f t h =
      let s = shaped b t q 0xA6 h e in
      subst P (sym s.4) (f s.0 s.1 s.2 s.3)

  pub on-var : get_or b q 0 ≡ 0xA7 → (LeafAt b 0xA7 q → P (t_var q (text_of b q))) → (t : Term) → TermAt b t q → P t
  on-var e f t h =
      let s = shaped b t q 0xA7 h e in
      subst P (sym s.1) (f s.0)

  pub on_call : get_or b q 0 ≡ 0xA8 → ((ts : Terms) → CallAt b q ts → P (t_call q (name_at b (q + 3)) ts)) → (t : Term) → TermAt b t q → P t
  on_call e f t h =
      let s = shaped b t q 0xA8 h e in
      subst P (sym s.2) (f s.0 s.1)

  pub on-def : get_or b q 0 ≡ 0xA9 → ((ds : Defs) (u : Term) → UnderAt b q ds u → P (t_def q ds u)) → (t : Term) → TermAt b t q → P t
  on-def e f t h =
      let s = shaped b t q 0xA9 h e in
      subst P (sym s.3) (f s.0 s.1 s.2)

  pub on-num : get_or b q 0 ≡ 0xAA → (LeafAt b 0xAA q → P (t_num q (text_of b q))) → (t : Term) → TermAt b t q → P t
  on-num e f t h =
      let s = shaped b t q 0xAA h e in
      subst P (sym s.1) (f s.0)

  pub on-try : get_or b q 0 ≡ 0xAB → ((u : Term) (o : OptTerm) → TryAt b q u o → P (t_try_catch q u o)) → (t : Term) → TermAt b t q → P t
  on-try e f t h =
      let s = shaped b t q 0xAB h e in
      subst P (sym s.3) (f s.0 s.1 s.2)

  pub on-fold : get_or b q 0 ≡ 0xAC → ((u : Term) (x : Pattern) (ts : Terms) → FoldAt b q u x ts → P (t_fold q (name_at b (q + 3)) u x ts)) → (t : Term) → TermAt b t q → P t
  on-fold e f t h =
      let s = shaped b t q 0xAC h e in
      subst P (sym s.4) (f s.0 s.1 s.2 s.3)

  pub on-path : get_or b q 0 ≡ 0xAE → ((u : Term) (ps : Parts) → PathAt b q u ps → P (t_path q u ps)) → (t : Term) → TermAt b t q → P t
  on-path e f t h =
      let s = shaped b t q 0xAE h e in
      subst P (sym s.3) (f s.0 s.1 s.2)

  pub on-str : get_or b q 0 ≡ 0xAF → ((f : Format) (ps : StrParts) → StrAt b q f ps → P (t_str q f ps)) → (t : Term) → TermAt b t q → P t
  on-str e g t h =
      let s = shaped b t q 0xAF h e in
      subst P (sym s.3) (g s.0 s.1 s.2)

  pub on-obj : get_or b q 0 ≡ 0xB0 → ((es : Entries) → ObjAt b q es → P (t_obj q es)) → (t : Term) → TermAt b t q → P t
  on-obj e f t h =
      let s = shaped b t q 0xB0 h e in
      subst P (sym s.2) (f s.0 s.1)

  -- AD: the operator's tag tells which
  pub on-pipe : get_or b q 0 ≡ 0xAD → get_or b (end_of b (q + 3)) 0 ≡ 0xB7
      → ((u : Term) (x : OptPattern) (v : Term) → PipeAt b q (end_of b (q + 3)) u x v → P (t_pipe q u (end_of b (q + 3)) x v)) → (t : Term) → TermAt b t q → P t
  on-pipe e k f t h = go (shaped b t q 0xAD h e)
    where
      go : Pipes b q t ⊎ Bins b q t → P t
      go (inl s) = subst P (sym s.4) (f s.0 s.1 s.2 s.3)
      go (inr s) = absurd (omega (arith, k, s.2.op))

  pub on-binop : get_or b q 0 ≡ 0xAD → get_or b (end_of b (q + 3)) 0 ≡ 0xB9
      → ((u v : Term) → BinAt b q (end_of b (q + 3)) u v → P (t_bin_op q u (end_of b (q + 3)) (get_or b (end_of b (q + 3) + 3) 0 ∷ []) v)) → (t : Term) → TermAt b t q → P t
  on-binop e k f t h = go (shaped b t q 0xAD h e)
    where
      go : Pipes b q t ⊎ Bins b q t → P t
      go (inl s) = absurd (omega (arith, k, s.3.op))
      go (inr s) = subst P (sym s.3) (f s.0 s.1 s.2)

-- the operator is one of the two, and lies within the bytes
pub operator-at : (b : List ℕ) (q : ℕ) → get_or b q 0 ≡ 0xAD → (t : Term) → TermAt b t q
    → ((get_or b (end_of b (q + 3)) 0 ≡ 0xB7) ⊎ (get_or b (end_of b (q + 3)) 0 ≡ 0xB9)) × (end_of b (q + 3) < end_of b q) × (end_of b (end_of b (q + 3)) ≤ length b)
operator-at b q e t h = go (shaped b t q 0xAD h e)
  where
    go : Pipes b q t ⊎ Bins b q t → ((get_or b (end_of b (q + 3)) 0 ≡ 0xB7) ⊎ (get_or b (end_of b (q + 3)) 0 ≡ 0xB9)) × (end_of b (q + 3) < end_of b q) × (end_of b (end_of b (q + 3)) ≤ length b)
    go (inl s) = (inl s.3.op, omega (arith, s.3.last), s.3.mid)
    go (inr s) = (inr s.2.op, omega (arith, s.2.last, s.2.one), s.2.mid)

-- ---- rows of terms, and a term that may be absent

module _ (b : List ℕ) (q z : ℕ) (P : Terms → Type 0) where
  pub on-terms-cons : q < z → ((t : Term) (ts : Terms) → TermAt b t q → Row b (f_terms ts rnil) (end_of b q) z → P (ts_cons t ts)) → (ts : Terms) → Row b (f_terms ts rnil) q z → P ts
  unfolding At f_term
  on-terms-cons l f ts_nil h = absurd (omega (arith, l, h))
  on-terms-cons l f (ts_cons t ts) h = f t ts (term-head b t (f_terms ts rnil) q z h) h.2

  pub on-terms-nil : z ≤ q → P ts_nil → (ts : Terms) → Row b (f_terms ts rnil) q z → P ts
  unfolding At f_term
  on-terms-nil l f ts_nil h = f
  on-terms-nil l f (ts_cons t ts) h = absurd (omega (arith, l, row-le b (f_terms ts rnil) (end_of b q) z h.2))

  -- by how many they are
  pub on-arity-cons : (n : ℕ) → ((t : Term) (ts : Terms) → TermAt b t q → Row b (f_terms ts rnil) (end_of b q) z → arity ts ≡ n → P (ts_cons t ts)) → (ts : Terms) → arity ts ≡ suc n → Row b (f_terms ts rnil) q z → P ts
  unfolding At f_term
  on-arity-cons n f ts_nil e h = absurd (omega (arith, e))
  on-arity-cons n f (ts_cons t ts) e h = f t ts (term-head b t (f_terms ts rnil) q z h) h.2 (omega (arith, e))

  pub on-arity-nil : (q ≡ z → P ts_nil) → (ts : Terms) → arity ts ≡ 0 → Row b (f_terms ts rnil) q z → P ts
  unfolding At f_term
  on-arity-nil f ts_nil e h = f h
  on-arity-nil f (ts_cons t ts) e h = absurd (omega (arith, e))

pub terms-many : (ts : Terms) → many (f_terms ts rnil) ≡ arity ts
unfolding f_term many
terms-many ts_nil = refl
terms-many (ts_cons t ts) = ap suc (terms-many ts)

module _ (b : List ℕ) (q z : ℕ) (P : OptTerm → Type 0) where
  pub on-some-term : q < z → ((t : Term) → TermAt b t q → end_of b q ≡ z → P (a_term t)) → (o : OptTerm) → Row b (f_opt_term o rnil) q z → P o
  unfolding At f_term
  on-some-term l f no_term h = absurd (omega (arith, l, h))
  on-some-term l f (a_term t) h = f t (term-head b t rnil q z h) h.2

  pub on-no-term : z ≤ q → (q ≡ z → P no_term) → (o : OptTerm) → Row b (f_opt_term o rnil) q z → P o
  unfolding At f_term
  on-no-term l f no_term h = f h
  on-no-term l f (a_term t) h = absurd (omega (arith, l, h.2))

-- ---- conditionals: a further pair, the else, or none

pub record PairAt (b : List ℕ) (q : ℕ) (c u : Term) : Type 0 where
  pub fits : end_of b q ≤ length b
  pub test : TermAt b c (q + 3)
  pub then : TermAt b u (end_of b (q + 3))
  pub last : end_of b (end_of b (q + 3)) ≡ end_of b q

pair-at : (b : List ℕ) (q p z : ℕ) (c u : Term) (rs : Roses) → Row b (rcons (node 0xB8 p (rcons (f_term c) (rcons (f_term u) rnil))) rs) q z → PairAt b q c u
unfolding At
pair-at b q p z c u rs h =
    let s : At b (node 0xB8 q (rcons (f_term c) (rcons (f_term u) rnil))) = subst (λ (k : ℕ). At b (node 0xB8 k (rcons (f_term c) (rcons (f_term u) rnil)))) h.0 h.1 in
    record { fits = s.0.fits; test = term-head b c (rcons (f_term u) rnil) (q + 3) (end_of b q) s.1; then = term-head b u rnil (end_of b (q + 3)) (end_of b q) s.1.2; last = s.1.2.2 }

module _ (b : List ℕ) (q z : ℕ) (P : Branches → Type 0) where
  pub on-pair : q < z → get_or b q 0 ≡ 0xB8 → ((c u : Term) (bs : Branches) → PairAt b q c u → Row b (f_branches bs) (end_of b q) z → P (b_pair q c u bs)) → (bs : Branches) → Row b (f_branches bs) q z → P bs
  unfolding At f_term
  on-pair l k f b_none h = absurd (omega (arith, l, h))
  on-pair l k f (b_else t) h = absurd (omega (arith, k, (term-tag b t q (term-head b t rnil q z h)).1))
  on-pair l k f (b_pair p c u bs) h = subst (λ (j : ℕ). P (b_pair j c u bs)) (sym h.0) (f c u bs (pair-at b q p z c u (f_branches bs) h) h.2)

  pub on-else : q < z → (get_or b q 0 ≡ 0xB8 → ⊥) → ((t : Term) → TermAt b t q → end_of b q ≡ z → P (b_else t)) → (bs : Branches) → Row b (f_branches bs) q z → P bs
  unfolding At f_term
  on-else l k f b_none h = absurd (omega (arith, l, h))
  on-else l k f (b_else t) h = f t (term-head b t rnil q z h) h.2
  on-else l k f (b_pair p c u bs) h = absurd (k (head-tag b (node 0xB8 p (rcons (f_term c) (rcons (f_term u) rnil))) (f_branches bs) q z h))

  pub on-no-else : z ≤ q → (q ≡ z → P b_none) → (bs : Branches) → Row b (f_branches bs) q z → P bs
  unfolding At f_term
  on-no-else l f b_none h = f h
  on-no-else l f (b_else t) h = absurd (omega (arith, l, h.2))
  on-no-else l f (b_pair p c u bs) h = absurd (omega (arith, l, row-le b (f_branches bs) (end_of b q) z h.2))

-- ---- definitions, and the term that follows them

def-head : (b : List ℕ) (d : Def) (rs : Roses) (q z : ℕ) → Row b (rcons (f_def d) rs) q z → DefAt b d q
unfolding At
def-head b d rs q z h = (h.0, h.1, refl)

def-tag : (d : Def) → tag_of (f_def d) ≡ 0x8C
unfolding f_term
def-tag (def p f xs t) = refl

module _ (b : List ℕ) (q z : ℕ) (P : Defs → Type 0) (t : Term) where
  pub on-def-cons : get_or b q 0 ≡ 0x8C → ((d : Def) (ds : Defs) → DefAt b d q → Row b (f_defs ds (rcons (f_term t) rnil)) (end_of b q) z → P (ds_cons d ds)) → (ds : Defs) → Row b (f_defs ds (rcons (f_term t) rnil)) q z → P ds
  unfolding At f_term
  on-def-cons k f ds_nil h = absurd (omega (arith, k, (term-tag b t q (term-head b t rnil q z h)).0))
  on-def-cons k f (ds_cons d ds) h = f d ds (def-head b d (f_defs ds (rcons (f_term t) rnil)) q z h) h.2

  pub on-def-nil : (get_or b q 0 ≡ 0x8C → ⊥) → (TermAt b t q → end_of b q ≡ z → P ds_nil) → (ds : Defs) → Row b (f_defs ds (rcons (f_term t) rnil)) q z → P ds
  unfolding At f_term
  on-def-nil k f ds_nil h = f (term-head b t rnil q z h) h.2
  on-def-nil k f (ds_cons d ds) h = absurd (k (head-tag b (f_def d) (f_defs ds (rcons (f_term t) rnil)) q z h ∙ def-tag d))

-- definitions of a module
module _ (b : List ℕ) (q z : ℕ) (P : Defs → Type 0) where
  pub on-all-cons : q < z → ((d : Def) (ds : Defs) → DefAt b d q → Row b (f_defs ds rnil) (end_of b q) z → P (ds_cons d ds)) → (ds : Defs) → Row b (f_defs ds rnil) q z → P ds
  unfolding At f_term
  on-all-cons l f ds_nil h = absurd (omega (arith, l, h))
  on-all-cons l f (ds_cons d ds) h = f d ds (def-head b d (f_defs ds rnil) q z h) h.2

  pub on-all-nil : z ≤ q → P ds_nil → (ds : Defs) → Row b (f_defs ds rnil) q z → P ds
  unfolding At f_term
  on-all-nil l f ds_nil h = f
  on-all-nil l f (ds_cons d ds) h = absurd (omega (arith, l, row-le b (f_defs ds rnil) (end_of b q) z h.2))

-- ---- a definition: its name, its parameters, its body

pub record DefIs (b : List ℕ) (q a : ℕ) (u : Term) : Type 0 where
  pub fits : end_of b q ≤ length b
  pub name : end_of b (q + 3) ≤ length b
  pub params : Fields b a (end_of b (q + 3))
  pub row : Row b (f_names 0x91 (names_of b a (end_of b (q + 3))) (rcons (f_term u) rnil)) (end_of b (q + 3)) (end_of b q)
  pub body : TermAt b u (after b a (end_of b (q + 3)))
  pub last : end_of b (after b a (end_of b (q + 3))) ≡ end_of b q

pub length-names : (b : List ℕ) (n q : ℕ) → length (names_of b n q) ≡ n
unfolding names_of
length-names b zero q = refl
length-names b (suc n) q = ap suc (length-names b n (end_of b q))

-- fields of names from q on, and what follows them
pub names-row : (b : List ℕ) (k : ℕ) (xs : List Name) (rs : Roses) (q z : ℕ) → Row b (f_names k xs rs) q z
    → (xs ≡ names_of b (length xs) q) × Fields b (length xs) q × Row b rs (after b (length xs) q) z
unfolding At f_names names_of Fields after
names-row b k [] rs q z h = (refl, tt, h)
names-row b k (x ∷ xs) rs q z h =
    let r : (xs ≡ names_of b (length xs) (end_of b q)) × Fields b (length xs) (end_of b q) × Row b rs (after b (length xs) (end_of b q)) z = names-row b k xs rs (end_of b q) z h.2 in
    (ap₂ (λ (y : Name) (ys : List Name). y ∷ ys) (name-head b k x (f_names k xs rs) q z h) r.0, ((head-fits b (f_name k x) (f_names k xs rs) q z h).0, r.1), r.2)

pub on-the-def : (b : List ℕ) (q : ℕ) (P : Def → Type 0) → ((a : ℕ) (u : Term) → DefIs b q a u → P (def q (name_at b (q + 3)) (names_of b a (end_of b (q + 3))) u)) → (d : Def) → DefAt b d q → P d
unfolding At f_term
on-the-def b q P f (def p x xs t) h =
    let g = f_names 0x91 xs (rcons (f_term t) rnil) in
    let s : At b (node 0x8C q (rcons (f_name 0x90 x) g)) = subst (λ (k : ℕ). At b (node 0x8C k (rcons (f_name 0x90 x) g))) h.0 h.1 in
    let r : Row b (rcons (f_name 0x90 x) g) (q + 3) (end_of b q) = s.1 in
    let n : (xs ≡ names_of b (length xs) (end_of b (q + 3))) × Fields b (length xs) (end_of b (q + 3)) × Row b (rcons (f_term t) rnil) (after b (length xs) (end_of b (q + 3))) (end_of b q) =
    names-row b 0x91 xs (rcons (f_term t) rnil) (end_of b (q + 3)) (end_of b q) r.2 in
    let c : P (def q (name_at b (q + 3)) (names_of b (length xs) (end_of b (q + 3))) t) =
    f (length xs) t
    (record {
      fits = s.0.fits;
      name = (head-fits b (f_name 0x90 x) g (q + 3) (end_of b q) r).0;
      params = n.1;
      row = subst (λ (ys : List Name). Row b (f_names 0x91 ys (rcons (f_term t) rnil)) (end_of b (q + 3)) (end_of b q)) n.0 r.2;
      body = term-head b t rnil (after b (length xs) (end_of b (q + 3))) (end_of b q) n.2;
      last = n.2.2;
    }) in
    let e : def p x xs t ≡ def q (name_at b (q + 3)) (names_of b (length xs) (end_of b (q + 3))) t =
    ap (λ (k : ℕ). def k x xs t) h.0 ∙ ap₂ (λ (y : Name) (ys : List Name). def q y ys t) (name-head b 0x90 x g (q + 3) (end_of b q) r) n.0 in
    subst P (sym e) c

-- ---- the test for a tag before an end

pub tag-yes : (b : List ℕ) (q z k : ℕ) → is_tag b q z k ≡ true → (q < z) × (get_or b q 0 ≡ k)
tag-yes b q z k e = (ltb-true q z (and_left (ltb q z) (eqb (get_or b q 0) k) e), eqb-true (get_or b q 0) k (and_right (ltb q z) (eqb (get_or b q 0) k) e))
  where
    and_left : (x y : Bool) → (x && y) ≡ true → x ≡ true
    and_left true y i = refl
    and_left false y i = i

    and_right : (x y : Bool) → (x && y) ≡ true → y ≡ true
    and_right true y i = i
    and_right false y i = not-both false i refl

pub tag-no : (b : List ℕ) (q z k : ℕ) → is_tag b q z k ≡ false → q < z → get_or b q 0 ≡ k → ⊥
tag-no b q z k e l i = not-both (is_tag b q z k) (simp (lt-ltb q z l, eq-eqb (get_or b q 0) k i)) e

-- ---- patterns

pub record PArrAt (b : List ℕ) (q : ℕ) (xs : Patterns) : Type 0 where
  pub fits : end_of b q ≤ length b
  pub items : Row b (f_patterns xs rnil) (q + 3) (end_of b q)

pub record PObjAt (b : List ℕ) (q : ℕ) (xs : PatEntries) : Type 0 where
  pub fits : end_of b q ≤ length b
  pub items : Row b (f_pat_entries xs rnil) (q + 3) (end_of b q)

pub pattern-fits : (b : List ℕ) (x : Pattern) (q : ℕ) → PatternAt b x q → end_of b q ≤ length b
pattern-fits b x q h = subst (λ (p : ℕ). end_of b p ≤ length b) (pattern-place x ∙ h.1) (inside b (f_pattern x) h.0)

abbrev ptag : Pattern → ℕ
ptag (p_var p x) = 0x98
ptag (p_arr p xs) = 0x99
ptag (p_obj p xs) = 0x9A

pattern-tagged : (b : List ℕ) (x : Pattern) (q : ℕ) → PatternAt b x q → get_or b q 0 ≡ ptag x
unfolding f_term
pattern-tagged b x q h = subst (λ (p : ℕ). get_or b p 0 ≡ tag_of (f_pattern x)) (pattern-place x ∙ h.1) (tagged b (f_pattern x) h.0) ∙ go x
  where
    go : (y : Pattern) → tag_of (f_pattern y) ≡ ptag y
    go (p_var p z) = refl
    go (p_arr p xs) = refl
    go (p_obj p xs) = refl

-- the tag that is left
pub pattern-tag : (b : List ℕ) (x : Pattern) (q : ℕ) → PatternAt b x q → (get_or b q 0 ≡ 0x98 → ⊥) → (get_or b q 0 ≡ 0x99 → ⊥) → get_or b q 0 ≡ 0x9A
pattern-tag b (p_var p y) q h n m = absurd (n (pattern-tagged b (p_var p y) q h))
pattern-tag b (p_arr p xs) q h n m = absurd (m (pattern-tagged b (p_arr p xs) q h))
pattern-tag b (p_obj p xs) q h n m = pattern-tagged b (p_obj p xs) q h

module _ (b : List ℕ) (q : ℕ) (P : Pattern → Type 0) where
  pub on-pvar : get_or b q 0 ≡ 0x98 → (LeafAt b 0x98 q → P (p_var q (text_of b q))) → (x : Pattern) → PatternAt b x q → P x
  unfolding At f_term
  on-pvar e f (p_var p x) h =
      let s : At b (leaf 0x98 q x) = subst (λ (k : ℕ). At b (leaf 0x98 k x)) h.1 h.0 in
      subst P (ap₂ (λ (k : ℕ) (y : List ℕ). p_var k y) (sym h.1) s.1) (f (record { fits = s.0.fits; ok = subst (λ (y : List ℕ). leaf_ok (shape 0x98) y ≡ true) (sym s.1) s.2 }))
  on-pvar e f (p_arr p xs) h = absurd (omega (arith, e, pattern-tagged b (p_arr p xs) q h))
  on-pvar e f (p_obj p xs) h = absurd (omega (arith, e, pattern-tagged b (p_obj p xs) q h))

  pub on-parr : get_or b q 0 ≡ 0x99 → ((xs : Patterns) → PArrAt b q xs → P (p_arr q xs)) → (x : Pattern) → PatternAt b x q → P x
  unfolding At f_term
  on-parr e f (p_var p x) h = absurd (omega (arith, e, pattern-tagged b (p_var p x) q h))
  on-parr e f (p_arr p xs) h =
      let s : At b (node 0x99 q (f_patterns xs rnil)) = subst (λ (k : ℕ). At b (node 0x99 k (f_patterns xs rnil))) h.1 h.0 in
      subst (λ (k : ℕ). P (p_arr k xs)) (sym h.1) (f xs (record { fits = s.0.fits; items = s.1 }))
  on-parr e f (p_obj p xs) h = absurd (omega (arith, e, pattern-tagged b (p_obj p xs) q h))

  pub on-pobj : get_or b q 0 ≡ 0x9A → ((xs : PatEntries) → PObjAt b q xs → P (p_obj q xs)) → (x : Pattern) → PatternAt b x q → P x
  unfolding At f_term
  on-pobj e f (p_var p x) h = absurd (omega (arith, e, pattern-tagged b (p_var p x) q h))
  on-pobj e f (p_arr p xs) h = absurd (omega (arith, e, pattern-tagged b (p_arr p xs) q h))
  on-pobj e f (p_obj p xs) h =
      let s : At b (node 0x9A q (f_pat_entries xs rnil)) = subst (λ (k : ℕ). At b (node 0x9A k (f_pat_entries xs rnil))) h.1 h.0 in
      subst (λ (k : ℕ). P (p_obj k xs)) (sym h.1) (f xs (record { fits = s.0.fits; items = s.1 }))

module _ (b : List ℕ) (q z : ℕ) (P : OptPattern → Type 0) where
  pub on-some-pattern : q < z → ((x : Pattern) → PatternAt b x q → end_of b q ≡ z → P (a_pattern x)) → (o : OptPattern) → Row b (f_opt_pattern o rnil) q z → P o
  unfolding At f_term
  on-some-pattern l f no_pattern h = absurd (omega (arith, l, h))
  on-some-pattern l f (a_pattern x) h = f x (pattern-head b x rnil q z h) h.2

  pub on-no-pattern : z ≤ q → P no_pattern → (o : OptPattern) → Row b (f_opt_pattern o rnil) q z → P o
  unfolding At f_term
  on-no-pattern l f no_pattern h = f
  on-no-pattern l f (a_pattern x) h = absurd (omega (arith, l, h.2))

module _ (b : List ℕ) (q z : ℕ) (P : Patterns → Type 0) where
  pub on-patterns-cons : q < z → ((x : Pattern) (xs : Patterns) → PatternAt b x q → Row b (f_patterns xs rnil) (end_of b q) z → P (ps_cons x xs)) → (xs : Patterns) → Row b (f_patterns xs rnil) q z → P xs
  unfolding At f_term
  on-patterns-cons l f ps_nil h = absurd (omega (arith, l, h))
  on-patterns-cons l f (ps_cons x xs) h = f x xs (pattern-head b x (f_patterns xs rnil) q z h) h.2

  pub on-patterns-nil : z ≤ q → P ps_nil → (xs : Patterns) → Row b (f_patterns xs rnil) q z → P xs
  unfolding At f_term
  on-patterns-nil l f ps_nil h = f
  on-patterns-nil l f (ps_cons x xs) h = absurd (omega (arith, l, row-le b (f_patterns xs rnil) (end_of b q) z h.2))

-- an entry of an object pattern
pub record PEntryAt (b : List ℕ) (q : ℕ) (t : Term) (x : Pattern) : Type 0 where
  pub fits : end_of b q ≤ length b
  pub key : TermAt b t (q + 3)
  pub pat : PatternAt b x (end_of b (q + 3))
  pub last : end_of b (end_of b (q + 3)) ≡ end_of b q

module _ (b : List ℕ) (q z : ℕ) (P : PatEntries → Type 0) where
  pub on-keyed-cons : q < z → ((t : Term) (x : Pattern) (xs : PatEntries) → PEntryAt b q t x → Row b (f_pat_entries xs rnil) (end_of b q) z → P (pes_cons q t x xs)) → (xs : PatEntries) → Row b (f_pat_entries xs rnil) q z → P xs
  unfolding At f_term
  on-keyed-cons l f pes_nil h = absurd (omega (arith, l, h))
  on-keyed-cons l f (pes_cons p t x xs) h =
      let s : At b (node 0x9B q (rcons (f_term t) (rcons (f_pattern x) rnil))) = subst (λ (k : ℕ). At b (node 0x9B k (rcons (f_term t) (rcons (f_pattern x) rnil)))) h.0 h.1 in
      subst (λ (k : ℕ). P (pes_cons k t x xs)) (sym h.0)
      (f t x xs
      (record { fits = s.0.fits; key = term-head b t (rcons (f_pattern x) rnil) (q + 3) (end_of b q) s.1; pat = pattern-head b x rnil (end_of b (q + 3)) (end_of b q) s.1.2; last = s.1.2.2 })
      h.2)

  pub on-keyed-nil : z ≤ q → P pes_nil → (xs : PatEntries) → Row b (f_pat_entries xs rnil) q z → P xs
  unfolding At f_term
  on-keyed-nil l f pes_nil h = f
  on-keyed-nil l f (pes_cons p t x xs) h = absurd (omega (arith, l, row-le b (f_pat_entries xs rnil) (end_of b q) z h.2))

-- ---- paths

-- a part, a part of a string at a place
abbrev pub PartAt : List ℕ → Part → ℕ → Type 0
PartAt b x q = Row b (rcons (f_part x) rnil) q (end_of b q)

abbrev pub StrPartAt : List ℕ → StrPart → ℕ → Type 0
StrPartAt b x q = Row b (rcons (f_str_part x) rnil) q (end_of b q)

module _ (b : List ℕ) (q z : ℕ) (P : Parts → Type 0) where
  pub on-parts-cons : q < z → ((x : Part) (xs : Parts) → PartAt b x q → end_of b q ≤ length b → Row b (f_parts xs rnil) (end_of b q) z → P (parts_cons x xs)) → (xs : Parts) → Row b (f_parts xs rnil) q z → P xs
  unfolding At f_term
  on-parts-cons l f parts_nil h = absurd (omega (arith, l, h))
  on-parts-cons l f (parts_cons x xs) h = f x xs (h.0, h.1, refl) (head-fits b (f_part x) (f_parts xs rnil) q z h).0 h.2

  pub on-parts-nil : z ≤ q → P parts_nil → (xs : Parts) → Row b (f_parts xs rnil) q z → P xs
  unfolding At f_term
  on-parts-nil l f parts_nil h = f
  on-parts-nil l f (parts_cons x xs) h = absurd (omega (arith, l, row-le b (f_parts xs rnil) (end_of b q) z h.2))

pub record IndexAt (b : List ℕ) (q : ℕ) (t : Term) (m : Mark) : Type 0 where
  pub fits : end_of b q ≤ length b
  pub body : TermAt b t (q + 3)
  pub mark : Row b (f_mark m rnil) (end_of b (q + 3)) (end_of b q)

pub record RangeAt (b : List ℕ) (q : ℕ) (l u : Bound) (m : Mark) : Type 0 where
  pub fits : end_of b q ≤ length b
  pub row : Row b (f_bound 0xC1 l (f_bound 0xC2 u (f_mark m rnil))) (q + 3) (end_of b q)

module _ (b : List ℕ) (q : ℕ) (P : Part → Type 0) where
  pub on-index : get_or b q 0 ≡ 0xBE → ((t : Term) (m : Mark) → IndexAt b q t m → P (part_index q t m)) → (x : Part) → PartAt b x q → P x
  unfolding At f_term
  on-index e f (part_index p t m) h =
      let s : At b (node 0xBE q (rcons (f_term t) (f_mark m rnil))) = subst (λ (k : ℕ). At b (node 0xBE k (rcons (f_term t) (f_mark m rnil)))) h.0 h.1 in
      subst (λ (k : ℕ). P (part_index k t m)) (sym h.0) (f t m (record { fits = s.0.fits; body = term-head b t (f_mark m rnil) (q + 3) (end_of b q) s.1; mark = s.1.2 }))
  on-index e f (part_range p l u m) h = absurd (omega (arith, e, head-tag b (f_part (part_range p l u m)) rnil q (end_of b q) h))

  pub on-range : (get_or b q 0 ≡ 0xBE → ⊥) → ((l u : Bound) (m : Mark) → RangeAt b q l u m → P (part_range q l u m)) → (x : Part) → PartAt b x q → P x
  unfolding At f_term
  on-range e f (part_index p t m) h = absurd (e (head-tag b (f_part (part_index p t m)) rnil q (end_of b q) h))
  on-range e f (part_range p l u m) h =
      let s : At b (node 0xBF q (f_bound 0xC1 l (f_bound 0xC2 u (f_mark m rnil)))) = subst (λ (k : ℕ). At b (node 0xBF k (f_bound 0xC1 l (f_bound 0xC2 u (f_mark m rnil))))) h.0 h.1 in
      subst (λ (k : ℕ). P (part_range k l u m)) (sym h.0) (f l u m (record { fits = s.0.fits; row = s.1 }))

pub record BoundAt (b : List ℕ) (q : ℕ) (t : Term) : Type 0 where
  pub fits : end_of b q ≤ length b
  pub body : TermAt b t (q + 3)
  pub last : end_of b (q + 3) ≡ end_of b q

-- the row does not start with the tag k
unfoldable pub NoHead : ℕ → Roses → Type 0
NoHead k rnil = Unit {0}
NoHead k (rcons r rs) = tag_of r ≡ k → ⊥

pub no-mark : (m : Mark) → NoHead 0xC1 (f_mark m rnil) × NoHead 0xC2 (f_mark m rnil)
unfolding NoHead f_mark
no-mark no_mark = (tt, tt)
no-mark (a_mark p) = (λ e. omega (arith, e), λ e. omega (arith, e))

pub no_bound : (u : Bound) (m : Mark) → NoHead 0xC1 (f_bound 0xC2 u (f_mark m rnil))
unfolding NoHead f_term
no_bound without_bound m = (no-mark m).0
no_bound (a_bound p t) m = λ e. omega (arith, e)

module _ (b : List ℕ) (q z k : ℕ) (rs : Roses) (P : Bound → Type 0) where
  pub on-bound : NoHead k rs → q < z → get_or b q 0 ≡ k → ((t : Term) → BoundAt b q t → Row b rs (end_of b q) z → P (a_bound q t)) → (x : Bound) → Row b (f_bound k x rs) q z → P x
  unfolding At f_term NoHead
  on-bound n l e f without_bound h = absurd (none rs n h)
    where
      none : (ss : Roses) → NoHead k ss → Row b ss q z → ⊥
      none rnil m g = omega (arith, l, g)
      none (rcons r ss) m g = m (sym (head-tag b r ss q z g) ∙ e)
  on-bound n l e f (a_bound p t) h =
      let s : At b (node k q (rcons (f_term t) rnil)) = subst (λ (j : ℕ). At b (node k j (rcons (f_term t) rnil))) h.0 h.1 in
      subst (λ (j : ℕ). P (a_bound j t)) (sym h.0) (f t (record { fits = s.0.fits; body = term-head b t rnil (q + 3) (end_of b q) s.1; last = s.1.2 }) h.2)

  pub on-no-bound : (q < z → get_or b q 0 ≡ k → ⊥) → (Row b rs q z → P without_bound) → (x : Bound) → Row b (f_bound k x rs) q z → P x
  unfolding At f_term
  on-no-bound n f without_bound h = f h
  on-no-bound n f (a_bound p t) h = absurd (n (omega (arith, row-le b rs (end_of b q) z h.2)) (head-tag b (node k p (rcons (f_term t) rnil)) rs q z h))

-- ---- strings

module _ (b : List ℕ) (q z : ℕ) (P : Format → Type 0) (xs : StrParts) where
  strings-tag : (ys : StrParts) → q < z → get_or b q 0 ≡ 0xBA → Row b (f_str_parts ys rnil) q z → ⊥
  unfolding At f_term
  strings-tag s_nil l e h = omega (arith, l, h)
  strings-tag (s_cons (s_text x) ys) l e h = omega (arith, e, head-tag b (f_name 0xBB x) (f_str_parts ys rnil) q z h)
  strings-tag (s_cons (s_char x) ys) l e h = omega (arith, e, head-tag b (f_str_part (s_char x)) (f_str_parts ys rnil) q z h)
  strings-tag (s_cons (s_term t) ys) l e h = omega (arith, e, (term-tag b t q (term-head b t (f_str_parts ys rnil) q z h)).1)

  pub on-format : q < z → get_or b q 0 ≡ 0xBA → (LeafAt b 0xBA q → Row b (f_str_parts xs rnil) (end_of b q) z → P (a_format (name_at b q))) → (f : Format) → Row b (f_format f (f_str_parts xs rnil)) q z → P f
  unfolding At f_term f_format
  on-format l e g no_format h = absurd (strings-tag xs l e h)
  on-format l e g (a_format x) h =
      let s : At b (leaf 0xBA q x.text) = subst (λ (k : ℕ). At b (leaf 0xBA k x.text)) h.0 h.1 in
      subst (λ (y : Name). P (a_format y)) (sym (name-head b 0xBA x (f_str_parts xs rnil) q z h))
      (g (record { fits = s.0.fits; ok = subst (λ (y : List ℕ). leaf_ok (shape 0xBA) y ≡ true) (sym s.1) s.2 }) h.2)

  pub on-no-format : (q < z → get_or b q 0 ≡ 0xBA → ⊥) → (Row b (f_str_parts xs rnil) q z → P no_format) → (f : Format) → Row b (f_format f (f_str_parts xs rnil)) q z → P f
  unfolding At f_term f_format
  on-no-format n g no_format h = g h
  on-no-format n g (a_format x) h = absurd (n (omega (arith, row-le b (f_str_parts xs rnil) (end_of b q) z h.2)) (head-tag b (f_name 0xBA x) (f_str_parts xs rnil) q z h))

module _ (b : List ℕ) (q z : ℕ) (P : StrParts → Type 0) where
  pub on-strings-cons : q < z → ((x : StrPart) (xs : StrParts) → StrPartAt b x q → end_of b q ≤ length b → Row b (f_str_parts xs rnil) (end_of b q) z → P (s_cons x xs)) → (xs : StrParts) → Row b (f_str_parts xs rnil) q z → P xs
  unfolding At f_term
  on-strings-cons l f s_nil h = absurd (omega (arith, l, h))
  on-strings-cons l f (s_cons x xs) h = f x xs (h.0, h.1, refl) (head-fits b (f_str_part x) (f_str_parts xs rnil) q z h).0 h.2

  pub on-strings-nil : z ≤ q → P s_nil → (xs : StrParts) → Row b (f_str_parts xs rnil) q z → P xs
  unfolding At f_term
  on-strings-nil l f s_nil h = f
  on-strings-nil l f (s_cons x xs) h = absurd (omega (arith, l, row-le b (f_str_parts xs rnil) (end_of b q) z h.2))

module _ (b : List ℕ) (q : ℕ) (P : StrPart → Type 0) where
  pub on-text-part : get_or b q 0 ≡ 0xBB → (LeafAt b 0xBB q → P (s_text (name_at b q))) → (x : StrPart) → StrPartAt b x q → P x
  unfolding At f_term
  on-text-part e f (s_text x) h =
      let s : At b (leaf 0xBB q x.text) = subst (λ (k : ℕ). At b (leaf 0xBB k x.text)) h.0 h.1 in
      subst (λ (y : Name). P (s_text y)) (sym (name-head b 0xBB x rnil q (end_of b q) h)) (f (record { fits = s.0.fits; ok = subst (λ (y : List ℕ). leaf_ok (shape 0xBB) y ≡ true) (sym s.1) s.2 }))
  on-text-part e f (s_char x) h = absurd (omega (arith, e, head-tag b (f_str_part (s_char x)) rnil q (end_of b q) h))
  on-text-part e f (s_term t) h = absurd (omega (arith, e, (term-tag b t q (term-head b t rnil q (end_of b q) h)).1))

  pub on-char-part : get_or b q 0 ≡ 0xBC → (LeafAt b 0xBC q → P (s_char (record { place = q; bytes = text_of b q }))) → (x : StrPart) → StrPartAt b x q → P x
  unfolding At f_term
  on-char-part e f (s_text x) h = absurd (omega (arith, e, head-tag b (f_str_part (s_text x)) rnil q (end_of b q) h))
  on-char-part e f (s_char x) h =
      let s : At b (leaf 0xBC q x.bytes) = subst (λ (k : ℕ). At b (leaf 0xBC k x.bytes)) h.0 h.1 in
      subst P (ap₂ (λ (k : ℕ) (y : List ℕ). s_char (record { place = k; bytes = y })) (sym h.0) s.1) (f (record { fits = s.0.fits; ok = subst (λ (y : List ℕ). leaf_ok (shape 0xBC) y ≡ true) (sym s.1) s.2 }))
  on-char-part e f (s_term t) h = absurd (omega (arith, e, (term-tag b t q (term-head b t rnil q (end_of b q) h)).1))

  pub on-term-part : (get_or b q 0 ≡ 0xBB → ⊥) → (get_or b q 0 ≡ 0xBC → ⊥) → ((t : Term) → TermAt b t q → P (s_term t)) → (x : StrPart) → StrPartAt b x q → P x
  unfolding At f_term
  on-term-part n m f (s_text x) h = absurd (n (head-tag b (f_str_part (s_text x)) rnil q (end_of b q) h))
  on-term-part n m f (s_char x) h = absurd (m (head-tag b (f_str_part (s_char x)) rnil q (end_of b q) h))
  on-term-part n m f (s_term t) h = f t (term-head b t rnil q (end_of b q) h)

-- ---- objects

pub record EntryAt (b : List ℕ) (q : ℕ) (t : Term) (v : OptTerm) : Type 0 where
  pub fits : end_of b q ≤ length b
  pub key : TermAt b t (q + 3)
  pub value : Row b (f_opt_term v rnil) (end_of b (q + 3)) (end_of b q)

module _ (b : List ℕ) (q z : ℕ) (P : Entries → Type 0) where
  pub on-entries-cons : q < z → ((t : Term) (v : OptTerm) (es : Entries) → EntryAt b q t v → Row b (f_entries es rnil) (end_of b q) z → P (es_cons q t v es)) → (es : Entries) → Row b (f_entries es rnil) q z → P es
  unfolding At f_term
  on-entries-cons l f es_nil h = absurd (omega (arith, l, h))
  on-entries-cons l f (es_cons p t v es) h =
      let s : At b (node 0xBD q (rcons (f_term t) (f_opt_term v rnil))) = subst (λ (k : ℕ). At b (node 0xBD k (rcons (f_term t) (f_opt_term v rnil)))) h.0 h.1 in
      subst (λ (k : ℕ). P (es_cons k t v es)) (sym h.0) (f t v es (record { fits = s.0.fits; key = term-head b t (f_opt_term v rnil) (q + 3) (end_of b q) s.1; value = s.1.2 }) h.2)

  pub on-entries-nil : z ≤ q → P es_nil → (es : Entries) → Row b (f_entries es rnil) q z → P es
  unfolding At f_term
  on-entries-nil l f es_nil h = f
  on-entries-nil l f (es_cons p t v es) h = absurd (omega (arith, l, row-le b (f_entries es rnil) (end_of b q) z h.2))

-- a mark (C0) stands there, or nothing
module _ (b : List ℕ) (q z : ℕ) (P : Mark → Type 0) where
  pub on-mark : q < z → (end_of b q ≡ z → P (a_mark q)) → (m : Mark) → Row b (f_mark m rnil) q z → P m
  unfolding At f_mark
  on-mark l f no_mark h = absurd (omega (arith, l, h))
  on-mark l f (a_mark p) h = subst (λ (k : ℕ). P (a_mark k)) (sym h.0) (f h.2)

  pub on-no-mark : z ≤ q → P no_mark → (m : Mark) → Row b (f_mark m rnil) q z → P m
  unfolding At f_mark
  on-no-mark l f no_mark h = f
  on-no-mark l f (a_mark p) h = absurd (omega (arith, l, h.2))
