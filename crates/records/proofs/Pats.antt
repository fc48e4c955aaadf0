-- The members of a pattern in a row, as the loop of put_pattern meets them. Assumes nothing.
use Prim.Native.Nat.{ℕ, suc, ◌+◌, ◌*◌, ◌^◌, ◌≤◌, ◌<◌}
use native.Mathlib.Omega.{arith}
use mathlib.Core.Path.{◌≡◌, refl, sym, ap, ap₂, subst, ◌∙◌}
use mathlib.Core.List.{List, [], ◌∷◌, ◌++◌}
use lib.ListN.{length, get_or, set, length-append}
use Rattle.fields.specs.Number.{number}
use Rattle.fields.specs.Room.{overlay, overlay-append, overlay-none, overlay-one}
use Rattle.tree.specs.Rose.{Roses, rnil, rcons, end_of, At, Row, inside}
use Rattle.tree.specs.Tree.{Pattern, p_var, p_arr, p_obj, Patterns, ps_nil, ps_cons, PatEntries, pes_nil, pes_cons}
use Rattle.tree.specs.Form.{f_pattern, f_patterns, f_pat_entries, f_term}
use Rattle.tree.proofs.Form.{pattern-place}
use Rattle.rules.specs.Listing.{pat_count, pat_bytes, pats_bytes}
use Rattle.reads.specs.Bytes.{PatternAt, sub_pattern, many}
use Rattle.reads.specs.Widths.{pat_width, pats_width, keyed_width}
use Rattle.cells.specs.Cells.{number_at}
use Rattle.cells.specs.Notes.{notes_in, notes_all, notes_keyed, pat_at, pats_at, keyed_at}
use Rattle.records.specs.Patterns.{PatIs}

-- ---- the members of either kind of pattern, as one list

unfoldable pub list_of : Patterns → List Pattern
list_of ps_nil = []
list_of (ps_cons x xs) = x ∷ list_of xs

unfoldable pub keyed_of : PatEntries → List Pattern
keyed_of pes_nil = []
keyed_of (pes_cons q t x xs) = x ∷ keyed_of xs

unfoldable pub notes_list : List Pattern → ℕ
notes_list [] = 0
notes_list (x ∷ xs) = notes_in x + notes_list xs

unfoldable pub width_list : List Pattern → ℕ
width_list [] = 0
width_list (x ∷ xs) = 2 + pat_width x + width_list xs

unfoldable pub bytes_list : List ℕ → List Pattern → ℕ → List ℕ
bytes_list s [] k = []
bytes_list s (x ∷ xs) k = number 2 (number_at s k) ++ (pat_bytes 2 (pat_at s x k) ++ bytes_list s xs (k + notes_in x))

-- they stand from p up to z, the pattern of each being where the code looks for it
unfoldable pub SubsAt : List ℕ → ℕ → List Pattern → ℕ → ℕ → Type 0
SubsAt b tag [] p z = p ≡ z
SubsAt b tag (x ∷ xs) p z =
    PatternAt b x (sub_pattern b tag p) × (end_of b p ≤ length b) × ((tag ≡ 0x99 → ⊥) → end_of b (p + 3) ≤ length b) × (p ≤ sub_pattern b tag p) × SubsAt b tag xs (end_of b p) z

array-subs : (b : List ℕ) (xs : Patterns) (p z : ℕ) → Row b (f_patterns xs rnil) p z → SubsAt b 0x99 (list_of xs) p z
unfolding f_term At SubsAt list_of
array-subs b ps_nil p z h = h
array-subs b (ps_cons x xs) p z h =
    ((h.1, sym (pattern-place x) ∙ h.0), subst (λ (k : ℕ). end_of b k ≤ length b) h.0 (inside b (f_pattern x) h.1), (λ n. absurd (n refl)), omega arith, array-subs b xs (end_of b p) z h.2)

object-subs : (b : List ℕ) (xs : PatEntries) (p z : ℕ) → Row b (f_pat_entries xs rnil) p z → SubsAt b 0x9A (keyed_of xs) p z
unfolding f_term At SubsAt keyed_of
object-subs b pes_nil p z h = h
object-subs b (pes_cons q t x xs) p z h =
    let e : q ≡ p = h.0 in
    let m : Row b (rcons (f_term t) (rcons (f_pattern x) rnil)) (p + 3) (end_of b p) = subst (λ (k : ℕ). Row b (rcons (f_term t) (rcons (f_pattern x) rnil)) (k + 3) (end_of b k)) e h.1.1 in
    ((m.2.1, sym (pattern-place x) ∙ m.2.0), subst (λ (k : ℕ). end_of b k ≤ length b) e h.1.0.fits, (λ n. subst (λ (k : ℕ). end_of b k ≤ length b) m.0 (inside b (f_term t) m.1)), omega arith, object-subs b xs (end_of b p) z h.2)

-- ---- and their notes, bytes and counts are those of the list

array-notes : (xs : Patterns) → notes_all xs ≡ notes_list (list_of xs)
unfolding notes_in notes_list list_of
array-notes ps_nil = refl
array-notes (ps_cons x xs) = ap (λ (n : ℕ). notes_in x + n) (array-notes xs)

object-notes : (xs : PatEntries) → notes_keyed xs ≡ notes_list (keyed_of xs)
unfolding notes_in notes_list keyed_of
object-notes pes_nil = refl
object-notes (pes_cons q t x xs) = ap (λ (n : ℕ). notes_in x + n) (object-notes xs)

array-width : (xs : Patterns) → pats_width xs ≡ width_list (list_of xs)
unfolding pat_width width_list list_of
array-width ps_nil = refl
array-width (ps_cons x xs) = ap (λ (n : ℕ). 2 + pat_width x + n) (array-width xs)

object-width : (xs : PatEntries) → keyed_width xs ≡ width_list (keyed_of xs)
unfolding pat_width width_list keyed_of
object-width pes_nil = refl
object-width (pes_cons q t x xs) = ap (λ (n : ℕ). 2 + pat_width x + n) (object-width xs)

array_count : (s : List ℕ) (xs : Patterns) (k : ℕ) → pat_count 2 (pats_at s xs k) ≡ length (list_of xs)
unfolding pat_at list_of
array_count s ps_nil k = refl
array_count s (ps_cons x xs) k = ap suc (array_count s xs (k + notes_in x))

object-count : (s : List ℕ) (xs : PatEntries) (k : ℕ) → pat_count 2 (keyed_at s xs k) ≡ length (keyed_of xs)
unfolding pat_at keyed_of
object-count s pes_nil k = refl
object-count s (pes_cons q t x xs) k = ap suc (object-count s xs (k + notes_in x))

array-bytes : (s : List ℕ) (xs : Patterns) (k : ℕ) → pats_bytes 2 (pats_at s xs k) ≡ bytes_list s (list_of xs) k
unfolding pat_at pat_bytes list_of bytes_list
array-bytes s ps_nil k = refl
array-bytes s (ps_cons x xs) k = ap (λ (l : List ℕ). number 2 (number_at s k) ++ (pat_bytes 2 (pat_at s x k) ++ l)) (array-bytes s xs (k + notes_in x))

object-bytes : (s : List ℕ) (xs : PatEntries) (k : ℕ) → pats_bytes 2 (keyed_at s xs k) ≡ bytes_list s (keyed_of xs) k
unfolding pat_at pat_bytes keyed_of bytes_list
object-bytes s pes_nil k = refl
object-bytes s (pes_cons q t x xs) k = ap (λ (l : List ℕ). number 2 (number_at s k) ++ (pat_bytes 2 (pat_at s x k) ++ l)) (object-bytes s xs (k + notes_in x))

array-many : (xs : Patterns) → many (f_patterns xs rnil) ≡ length (list_of xs)
unfolding f_term many list_of
array-many ps_nil = refl
array-many (ps_cons x xs) = ap suc (array-many xs)

object-many : (xs : PatEntries) → many (f_pat_entries xs rnil) ≡ length (keyed_of xs)
unfolding f_term many keyed_of
object-many pes_nil = refl
object-many (pes_cons q t x xs) = ap suc (object-many xs)

-- ---- how long a pattern is within a record

mutual
  unfolding pat_at pat_bytes pat_width number

  pub pat-width : (s : List ℕ) (x : Pattern) (k : ℕ) → length (pat_bytes 2 (pat_at s x k)) ≡ pat_width x
  pat-width s (p_var p x) k = refl
  pat-width s (p_arr p xs) k = omega (arith, pats-width s xs (suc k))
  pat-width s (p_obj p xs) k = omega (arith, keyed-width s xs (suc k))

  pats-width : (s : List ℕ) (xs : Patterns) (k : ℕ) → length (pats_bytes 2 (pats_at s xs k)) ≡ pats_width xs
  pats-width s ps_nil k = refl
  pats-width s (ps_cons x xs) k = omega (arith, length-append (pat_bytes 2 (pat_at s x k)) (pats_bytes 2 (pats_at s xs (k + notes_in x))), pat-width s x k, pats-width s xs (k + notes_in x))

  keyed-width : (s : List ℕ) (xs : PatEntries) (k : ℕ) → length (pats_bytes 2 (keyed_at s xs k)) ≡ keyed_width xs
  keyed-width s pes_nil k = refl
  keyed-width s (pes_cons q t x xs) k = omega (arith, length-append (pat_bytes 2 (pat_at s x k)) (pats_bytes 2 (keyed_at s xs (k + notes_in x))), pat-width s x k, keyed-width s xs (k + notes_in x))

pub notes-some : (x : Pattern) → 1 ≤ notes_in x
unfolding notes_in
notes-some (p_var p x) = omega arith
notes-some (p_arr p xs) = omega arith
notes-some (p_obj p xs) = omega arith

pub width_some : (x : Pattern) → 1 ≤ pat_width x
unfolding pat_width
width_some (p_var p x) = omega arith
width_some (p_arr p xs) = omega arith
width_some (p_obj p xs) = omega arith

-- ---- a pattern at q, by its tag

-- the members of a pattern that is no variable
pub record Members (b s : List ℕ) (y : Pattern) (q k : ℕ) : Type 0 where
  pub list : List Pattern
  pub at : SubsAt b (get_or b q 0) list (q + 3) (end_of b q)
  pub bytes : pat_bytes 2 (pat_at s y k) ≡ 2 ∷ (number 2 (length list) ++ bytes_list s list (suc k))
  pub notes : notes_in y ≡ suc (notes_list list)
  pub width : pat_width y ≡ 3 + width_list list
  pub roses : Roses
  pub row : Row b roses (q + 3) (end_of b q)
  pub count : many roses ≡ length list

pub members-of : (b s : List ℕ) (y : Pattern) (q k : ℕ) → PatternAt b y q → (get_or b q 0 ≡ 0x98 → ⊥) → Members b s y q k
unfolding f_term At pat_at pat_bytes notes_in pat_width
members-of b s (p_var p x) q k h n = absurd (n (subst (λ (i : ℕ). get_or b i 0 ≡ 0x98) h.1 h.0.0.tagged))
members-of b s (p_arr p xs) q k h n =
    let e : p ≡ q = h.1 in
    let r : Row b (f_patterns xs rnil) (q + 3) (end_of b q) = subst (λ (i : ℕ). Row b (f_patterns xs rnil) (i + 3) (end_of b i)) e h.0.1 in
    record {
      list = list_of xs;
      at = subst (λ (t : ℕ). SubsAt b t (list_of xs) (q + 3) (end_of b q)) (sym (subst (λ (i : ℕ). get_or b i 0 ≡ 0x99) e h.0.0.tagged)) (array-subs b xs (q + 3) (end_of b q) r);
      bytes = ap₂ (λ (c : ℕ) (l : List ℕ). 2 ∷ (number 2 c ++ l)) (array_count s xs (suc k)) (array-bytes s xs (suc k));
      notes = ap suc (array-notes xs);
      width = ap (λ (w : ℕ). 3 + w) (array-width xs);
      roses = f_patterns xs rnil;
      row = r;
      count = array-many xs;
    }
members-of b s (p_obj p xs) q k h n =
    let e : p ≡ q = h.1 in
    let r : Row b (f_pat_entries xs rnil) (q + 3) (end_of b q) = subst (λ (i : ℕ). Row b (f_pat_entries xs rnil) (i + 3) (end_of b i)) e h.0.1 in
    record {
      list = keyed_of xs;
      at = subst (λ (t : ℕ). SubsAt b t (keyed_of xs) (q + 3) (end_of b q)) (sym (subst (λ (i : ℕ). get_or b i 0 ≡ 0x9A) e h.0.0.tagged)) (object-subs b xs (q + 3) (end_of b q) r);
      bytes = ap₂ (λ (c : ℕ) (l : List ℕ). 2 ∷ (number 2 c ++ l)) (object-count s xs (suc k)) (object-bytes s xs (suc k));
      notes = ap suc (object-notes xs);
      width = ap (λ (w : ℕ). 3 + w) (object-width xs);
      roses = f_pat_entries xs rnil;
      row = r;
      count = object-many xs;
    }

-- a variable
pub var-put : (b s : List ℕ) (x : Pattern) (q k o : ℕ) (d d' : List ℕ) → PatternAt b x q → get_or b q 0 ≡ 0x98 → d' ≡ set d o 1 → PatIs s x k o d d' (o + 1) (k + 1)
unfolding f_term At pat_at pat_bytes notes_in
var-put b s (p_var p x) q k o d d' h e i = record { room = i ∙ sym (overlay-one d o 1); end = refl; row = refl }
var-put b s (p_arr p xs) q k o d d' h e i = let t : get_or b q 0 ≡ 0x99 = subst (λ (i : ℕ). get_or b i 0 ≡ 0x99) h.1 h.0.0.tagged in absurd (omega arith)
var-put b s (p_obj p xs) q k o d d' h e i = let t : get_or b q 0 ≡ 0x9A = subst (λ (i : ℕ). get_or b i 0 ≡ 0x9A) h.1 h.0.0.tagged in absurd (omega arith)

-- ---- the loop: whatever pattern stands at q, some of its members are left, and once they are put, it is

-- what is left is put
pub record RestIs (s : List ℕ) (xs : List Pattern) (j x : ℕ) (d d' : List ℕ) (e k' : ℕ) : Type 0 where
  pub room : d' ≡ overlay d x (bytes_list s xs j)
  pub end : e ≡ x + length (bytes_list s xs j)
  pub row : k' ≡ j + notes_list xs

pub record Remains (b s : List ℕ) (y : Pattern) (q k o : ℕ) (d₀ : List ℕ) (tag z p x j : ℕ) (d : List ℕ) : Type 0 where
  pub all : Members b s y q k
  pub rest : List Pattern
  pub at : SubsAt b tag rest p z
  pub goes : (d' : List ℕ) (e k' : ℕ) → RestIs s rest j x d d' e k' → RestIs s all.list (k + 1) (o + 3) d₀ d' e k'

pub record Going (b s : List ℕ) (q k o : ℕ) (d₀ : List ℕ) (tag z p x j : ℕ) (d : List ℕ) : Type 0 where
  pub goes : (y : Pattern) → PatternAt b y q → Remains b s y q k o d₀ tag z p x j d
  pub some : List Pattern
  pub stand : SubsAt b tag some p z
  pub rows : 4 * (j + notes_list some) ≤ length s
  pub wide : x + width_list some < 2 ^ 64
  pub within : z ≤ length b
  pub behind : q + 3 ≤ p
  pub same : length d ≡ length d₀

-- the head of a pattern of n members
pub head-put : (d d₁ d₂ : List ℕ) (o n : ℕ) → d₁ ≡ set d o 2 → d₂ ≡ overlay d₁ (o + 1) (number 2 n) → d₂ ≡ overlay d o (2 ∷ number 2 n)
head-put d d₁ d₂ o n h i = i ∙ rw (h, ← (overlay-one d o 2)) (overlay-append d o (2 ∷ []) (number 2 n))

-- p is where the next one stands
pub going-on : (b s : List ℕ) (q k o : ℕ) (d₀ : List ℕ) (tag z n p x j : ℕ) (d : List ℕ) → n ≡ p → Going b s q k o d₀ tag z n x j d → Going b s q k o d₀ tag z p x j d
going-on b s q k o d₀ tag z n p x j d e g = subst (λ (i : ℕ). Going b s q k o d₀ tag z i x j d) e g

pub begin : (b s : List ℕ) (q k o : ℕ) (d : List ℕ)
    → (y : Pattern) → PatternAt b y q → (get_or b q 0 ≡ 0x98 → ⊥) → 4 * (k + notes_in y) ≤ length s → o + pat_width y < 2 ^ 64 → end_of b q ≤ length b
    → Going b s q k o d (get_or b q 0) (end_of b q) (q + 3) (o + 3) (k + 1) d
begin b s q k o d y a n g w f =
    let m : Members b s y q k = members-of b s y q k a n in
    record {
      goes = λ u v. let t : Members b s u q k = members-of b s u q k v n in record { all = t; rest = t.list; at = t.at; goes = λ d' e k' p. p };
      some = m.list;
      stand = m.at;
      rows = omega (arith, m.notes);
      wide = omega (arith, m.width);
      within = f;
      behind = omega arith;
      same = refl;
    }

-- one more member: its key's number, and its pattern
some_left : (b : List ℕ) (tag : ℕ) (xs : List Pattern) (p z : ℕ) → SubsAt b tag xs p z → p < z → (x : Pattern) × (l : List Pattern) × (xs ≡ x ∷ l)
unfolding SubsAt
some_left b tag [] p z h g = absurd (omega arith)
some_left b tag (x ∷ l) p z h g = (x, l, refl)

none_left : (b : List ℕ) (tag : ℕ) (xs : List Pattern) (p z : ℕ) → SubsAt b tag xs p z → z ≤ p → xs ≡ []
unfolding SubsAt
none_left b tag [] p z h g = refl
none_left b tag (x ∷ l) p z h g = absurd (omega (arith, subs-le b tag l (end_of b p) z h.4))
  where
    subs-le : (b : List ℕ) (tag : ℕ) (xs : List Pattern) (p z : ℕ) → SubsAt b tag xs p z → p ≤ z
    subs-le b tag [] p z h = omega arith
    subs-le b tag (x ∷ l) p z h = omega (arith, subs-le b tag l (end_of b p) z h.4)

pub rest-none : (s : List ℕ) (j x : ℕ) (d : List ℕ) → RestIs s [] j x d d x j
unfolding bytes_list notes_list
rest-none s j x d = record { room = sym (overlay-none d x); end = omega arith; row = omega arith }

pub rest_more : (s : List ℕ) (y : Pattern) (l : List Pattern) (j x : ℕ) (d d₁ d₂ d' : List ℕ) (e₂ k₂ e k' : ℕ)
    → d₁ ≡ overlay d x (number 2 (number_at s j)) → PatIs s y j (x + 2) d₁ d₂ e₂ k₂ → RestIs s l k₂ e₂ d₂ d' e k' → RestIs s (y ∷ l) j x d d' e k'
unfolding bytes_list notes_list number
rest_more s y l j x d d₁ d₂ d' e₂ k₂ e k' h i r =
    record {
      room = r.room ∙ rw (i.room, h, i.end, i.row) (overlay-append (overlay d x a) (x + 2) b c ∙ overlay-append d x a (b ++ c));
      end = r.end ∙ rw (i.end, i.row) (omega (arith, length-append b c));
      row = omega (arith, r.row, i.row);
    }
  where
    a : List ℕ
    a = number 2 (number_at s j)

    b : List ℕ
    b = pat_bytes 2 (pat_at s y j)

    c : List ℕ
    c = bytes_list s l (j + notes_in y)

pub finish : (b s : List ℕ) (q k o r : ℕ) (d₋ d₁ d₀ : List ℕ) (tag p x j : ℕ) (d : List ℕ) → Going b s q k o d₀ tag (end_of b q) p x j d → end_of b q ≤ p
    → d₁ ≡ set d₋ o 2 → d₀ ≡ overlay d₁ (o + 1) (number 2 r) → ((rs : Roses) → Row b rs (q + 3) (end_of b q) → (r ≡ many rs) × (q + 3 + 3 * r ≤ end_of b q))
    → (y : Pattern) → PatternAt b y q → PatIs s y k o d₋ d x j
unfolding number
finish b s q k o r d₋ d₁ d₀ tag p x j d g h i l c y a =
    let v : Remains b s y q k o d₀ tag (end_of b q) p x j d = g.goes y a in
    let m : Members b s y q k = v.all in
    let t : RestIs s m.list (k + 1) (o + 3) d₀ d x j = v.goes d x j (subst (λ (w : List Pattern). RestIs s w j x d d x j) (sym (none_left b tag v.rest p (end_of b q) v.at h)) (rest-none s j x d)) in
    let e : r ≡ length m.list = (c m.roses m.row).0 ∙ m.count in
    let one : k + 1 ≡ suc k = omega arith in
    record {
      room = t.room ∙ rw (one, head-put d₋ d₁ d₀ o r i l, e, m.bytes) (overlay-append d₋ o (2 ∷ number 2 (length m.list)) (bytes_list s m.list (suc k)));
      end = t.end ∙ rw (one, m.bytes) (omega arith);
      row = omega (arith, t.row, m.notes);
    }

-- what stands at p, before z: a member, whose pattern the code finds
pub record Next (b s : List ℕ) (tag p x j : ℕ) : Type 0 where
  pub pattern : Pattern
  pub at : PatternAt b pattern (sub_pattern b tag p)
  pub fits : end_of b p ≤ length b
  pub key : (tag ≡ 0x99 → ⊥) → end_of b (p + 3) ≤ length b
  pub behind : p ≤ sub_pattern b tag p
  pub rows : 4 * (j + notes_in pattern) ≤ length s
  pub row : 4 * j + 4 ≤ length s
  pub wide : x + 2 + pat_width pattern < 2 ^ 64

pub next : (b s : List ℕ) (q k o : ℕ) (d₀ : List ℕ) (tag z p x j : ℕ) (d : List ℕ) → Going b s q k o d₀ tag z p x j d → p < z → Next b s tag p x j
unfolding SubsAt notes_list width_list
next b s q k o d₀ tag z p x j d g h = go g.some g.stand g.rows g.wide
  where
    go : (l : List Pattern) → SubsAt b tag l p z → 4 * (j + notes_list l) ≤ length s → x + width_list l < 2 ^ 64 → Next b s tag p x j
    go [] a r w = absurd (omega arith)
    go (y ∷ l) a r w = record { pattern = y; at = a.0; fits = a.1; key = a.2; behind = a.3; rows = omega arith; row = omega (arith, notes-some y); wide = omega arith }

pub again : (b s : List ℕ) (q k o : ℕ) (d₀ : List ℕ) (tag z p x j : ℕ) (d d₁ d₂ : List ℕ) (e k' : ℕ)
    → Going b s q k o d₀ tag z p x j d → p < z
    → d₁ ≡ overlay d x (number 2 (number_at s j)) → ((y : Pattern) → PatternAt b y (sub_pattern b tag p) → PatIs s y j (x + 2) d₁ d₂ e k')
    → length d₂ ≡ length d
    → Going b s q k o d₀ tag z (end_of b p) e k' d₂
unfolding SubsAt notes_list width_list
again b s q k o d₀ tag z p x j d d₁ d₂ e k' g h i f n =
    safe g.some g.stand g.rows g.wide
  where
    left : (y : Pattern) (m : Members b s y q k) (l : List Pattern) → SubsAt b tag l p z → ((d' : List ℕ) (e k' : ℕ) → RestIs s l j x d d' e k' → RestIs s m.list (k + 1) (o + 3) d₀ d' e k') → Remains b s y q k o d₀ tag z (end_of b p) e k' d₂
    left y m [] t u = absurd (omega arith)
    left y m (w ∷ l) t u = record { all = m; rest = l; at = t.4; goes = λ d' e₂ k₂ r. u d' e₂ k₂ (rest_more s w l j x d d₁ d₂ d' e k' e₂ k₂ i (f w t.0) r) }

    safe : (l : List Pattern) → SubsAt b tag l p z → 4 * (j + notes_list l) ≤ length s → x + width_list l < 2 ^ 64 → Going b s q k o d₀ tag z (end_of b p) e k' d₂
    safe [] a r w = absurd (omega arith)
    safe (y ∷ l) a r w =
        let t : PatIs s y j (x + 2) d₁ d₂ e k' = f y a.0 in
        record {
          goes = λ u v. left u (g.goes u v).all (g.goes u v).rest (g.goes u v).at (g.goes u v).goes;
          some = l;
          stand = a.4;
          rows = omega (arith, t.row);
          wide = omega (arith, t.end, pat-width s y j);
          within = g.within;
          behind = omega (arith, g.behind);
          same = n ∙ g.same;
        }
