-- What each return and each turn of the searches shows. Assumes nothing.
use Prim.Native.Nat.{ℕ, suc, ◌+◌, ◌-◌, ◌*◌, ◌/◌, ◌%◌, ◌≤◌, ◌<◌}
use native.Mathlib.Omega.{arith}
use native.Mathlib.Nat.{add-zero}
use mathlib.Core.Path.{◌≡◌, refl, sym, ap, subst, ◌∙◌}
use mathlib.Core.Bool.{Bool, true, false, cond}
use mathlib.Core.Logic.{inl, inr}
use mathlib.Core.List.{List, [], ◌∷◌, append-nil}
use borrow.Author.Tests.{ne_eqb, eq-eqb}
use lib.ListN.{length, get_or, take, drop}
use Rattle.tree.specs.Rose.{Roses, node, rnil, end_of, text_of, At, Row, inside}
use Rattle.tree.specs.Form.{f_imports}
use Rattle.rules.specs.Names.{Text, same}
use Rattle.rules.specs.Lists.{Member, Every}
use Rattle.reads.specs.Bytes.{len_of, word_of, head_of}
use Rattle.cells.specs.Cells.{View, Seen, word_at, key_at, place_at, link_at, key_of, Chain, bucket, in_view, bound}
use Rattle.finds.specs.Means.{matches, first_of, Finds}
use Rattle.finds.specs.Keys.{key-length, matches-head}
use Rattle.finds.specs.Firsts.{first-cons, first_rest, first-nil, bucket-first, Below, below-bound, below-bucket, below_more, member-bucket, every-member, chain-nil, chain-cons, chain-below}
use Rattle.finds.specs.Variables.{seen-order, sought-is}
use Rattle.finds.specs.Calls.{down_to}
use Rattle.finds.specs.Modules.{Importing, import-start, import-step, import-done}
use Rattle.finds.specs.declared.sought.Sought.{Sought}
use Rattle.finds.specs.Asks as asks
use Rattle.finds.specs.Asks.{Viewed, Search, Along, Seeks, Imports}

-- ---- what is looked for

pub search-of : (x : Sought) → Search x.name.now x.word x.key
search-of x = record { class = x.key % 4; arity = x.key / 262144; few = omega arith; short = x.short; word = x.by_word; is = x.by_key }

-- ---- one row

word-at : (s : List ℕ) (j : ℕ) → word_at s j ≡ get_or s (4 * j) 0
word-at s j = ap (λ (i : ℕ). get_or s i 0) (add-zero (4 * j))

module _ (b s : List ℕ) (x : Text) (w key j : ℕ) where
  pub no_word : (get_or s (4 * j) 0 ≡ w → ⊥) → false ≡ matches b s x w key j
  no_word h = rw (ne_eqb (word_at s j) w (λ e. h (sym (word-at s j) ∙ e)))

  pub no_key : get_or s (4 * j) 0 ≡ w → (k : ℕ) → k ≡ key_at s j → (k ≡ key → ⊥) → false ≡ matches b s x w key j
  no_key e k q h = rw (eq-eqb (word_at s j) w (word-at s j ∙ e), ne_eqb (key_at s j) key (λ u. h (q ∙ u)))

  module _ (search : Search x w key) (row : asks.Row b s j) (k : ℕ) (q : k ≡ key_at s j) (e : k ≡ key) where
    long : len_of b (place_at s j) ≡ length x
    long = key-length row.0 b s j row.1.0 x search.class search.arity search.few search.short (sym q ∙ (e ∙ search.is))

    pub row_within : (p : ℕ) → p ≡ place_at s j → p + 3 + length x ≤ length b
    row_within p u = omega (arith, row.1.0.name, long)

    pub same_name : (p : ℕ) → p ≡ place_at s j → get_or s (4 * j) 0 ≡ w → (r : Bool) → r ≡ same x (take (length x) (drop (p + 3) b)) → r ≡ matches b s x w key j
    same_name p u v r h =
        let t : take (length x) (drop (p + 3) b) ≡ text_of b (place_at s j) = cc (long) in
        rw (eq-eqb (word_at s j) w (word-at s j ∙ v), eq-eqb (key_at s j) key (sym q ∙ e)) (h ∙ ap (same x) t)

-- ---- along the links

pub record Going (b s : List ℕ) (x : Text) (w key j i : ℕ) : Type 0 where
  pub along : Along b s i
  pub goes : (js : List ℕ) → Chain s j js → (is : List ℕ) × Chain s i is × (first_of (matches b s x w key) js ≡ first_of (matches b s x w key) is)

module _ (b s : List ℕ) (x : Text) (w key j i : ℕ) where
  pub going_start : Along b s j → Going b s x w key j j
  going_start h = record { along = h; goes = λ js c. (js, c, refl) }

  pub going-row : Going b s x w key j i → (i ≡ 0 → ⊥) → asks.Row b s i
  going-row g n =
      let a = g.along in
      let c = chain-cons s i a.rows a.chain n in
      (subst (λ (l : List ℕ). Every (λ (i : ℕ). asks.Row b s i) l) c.are a.legible).0

  falling : Going b s x w key j i → (i ≡ 0 → ⊥) → (l : ℕ) → l ≡ link_at s i → (l < i) × Along b s l
  unfolding Below
  falling g n l e =
      let a = g.along in
      let c = chain-cons s i a.rows a.chain n in
      let next : Chain s l c.rest = subst (λ (z : ℕ). Chain s z c.rest) (sym e) c.next in
      let f : Below (suc i) (i ∷ c.rest) = subst (λ (z : List ℕ). Below (suc i) z) c.are a.falls in
      let w = chain-below s i l c.rest next f.1 (omega arith) in
      let ls : Every (λ (i : ℕ). asks.Row b s i) (i ∷ c.rest) = subst (λ (l : List ℕ). Every (λ (i : ℕ). asks.Row b s i) l) c.are a.legible in
      (w.0, record { rows = c.rest; chain = next; falls = w.1; legible = ls.1 })

  pub going_less : Going b s x w key j i → (i ≡ 0 → ⊥) → (l : ℕ) → l ≡ link_at s i → l < i
  going_less g n l e = (falling g n l e).0

  pub going_more : Going b s x w key j i → (i ≡ 0 → ⊥) → (r : Bool) → r ≡ matches b s x w key i → r ≡ false → (l : ℕ) → l ≡ link_at s i → Going b s x w key j l
  going_more g n r u v l e =
      record {
        along = (falling g n l e).1;
        goes = λ js c.
            let k = g.goes js c in
            let d = chain-cons s i k.0 k.1 n in
            (d.rest, subst (λ (z : ℕ). Chain s z d.rest) (sym e) d.next, k.2 ∙ (ap (first_of (matches b s x w key)) d.are ∙ first_rest (matches b s x w key) i d.rest (sym u ∙ v)));
      }

  pub going-found : Going b s x w key j i → (i ≡ 0 → ⊥) → (r : Bool) → r ≡ matches b s x w key i → r ≡ true → Seeks b s j x w key i
  going-found g n r u v js c =
      let k = g.goes js c in
      let d = chain-cons s i k.0 k.1 n in
      sym (k.2 ∙ (ap (first_of (matches b s x w key)) d.are ∙ first-cons (matches b s x w key) i d.rest (sym u ∙ v)))

  pub going_done : Going b s x w key j i → i ≡ 0 → Seeks b s j x w key 0
  going_done g e js c =
      let k = g.goes js c in
      sym (k.2 ∙ (ap (first_of (matches b s x w key)) (chain-nil s i k.0 k.1 e) ∙ first-nil (matches b s x w key)))

-- ---- the rows in view

below_in : (h : ℕ) (js : List ℕ) (j : ℕ) → Below h js → Member j js → j < h
unfolding Below
below_in h [] j w x'' = elim x'' [ ]
below_in h (i ∷ js) j w (inl e) = omega (arith, w.0)
below_in h (i ∷ js) j w (inr m) = omega (arith, w.0, below_in i js j w.1 m)

module _ (vw : View) (b s : List ℕ) (k : ℕ) (seen : Seen vw b s k) where
  view_falls : Below k (in_view vw s k)
  unfolding Below
  view_falls =
      let o = seen-order vw b s k seen in
      let e : vw.own + (k - vw.own) ≡ k = omega (arith, o) in
      let d : vw.first + (vw.past - vw.first) ≡ vw.past = omega (arith, o) in
      let u : Below (vw.first + (vw.past - vw.first)) (bound s vw.first (vw.past - vw.first)) =
      subst (λ (l : List ℕ). Below (vw.first + (vw.past - vw.first)) l) (append-nil (bound s vw.first (vw.past - vw.first)))
      (below-bound s vw.first (vw.past - vw.first) [] tt) in
      subst (λ (h : ℕ). Below h (in_view vw s k)) e
      (below-bound s vw.own (k - vw.own) (bound s vw.first (vw.past - vw.first))
      (below_more (vw.first + (vw.past - vw.first)) vw.own (bound s vw.first (vw.past - vw.first)) (omega (arith, o)) u))

  view-row : (j : ℕ) → Member j (in_view vw s k) → asks.Row b s j
  view-row j m = (vw.mask, (seen.good j m, omega (arith, below_in k (in_view vw s k) j view_falls m, seen.within)))

  -- a bucket's head leads along rows in view
  pub view-along : (h : ℕ) → 8 ≤ h → h ≤ 8 + vw.mask → Along b s (get_or s h 0)
  view-along h p q =
      let c = seen.linked h p q in
      let js : List ℕ = bucket s h (in_view vw s k) in
      record {
        rows = js;
        chain = c;
        falls = (chain-below s k (get_or s h 0) js c (below-bucket s h k (in_view vw s k) view_falls) (omega (arith, seen-order vw b s k seen))).1;
        legible = every-member (λ (i : ℕ). asks.Row b s i) js (λ j m. view-row j (member-bucket s h (in_view vw s k) j m));
      }

  -- the head's cell
  pub view-cell : (h : ℕ) → h ≤ 8 + get_or s 0 0 → h < length s
  view-cell h q = omega (arith, seen.base.mask, seen.base.heads, seen.within, seen-order vw b s k seen)

  -- all that matches is in the bucket
  pub view_first : (x : Text) (class a : ℕ) → class < 4 → length x < 65536 → (h r : ℕ) → h ≡ head_of (get_or s 0 0) (word_of x) (length x) → 8 ≤ h → h ≤ 8 + get_or s 0 0
      → Seeks b s (get_or s h 0) x (word_of x) (key_of class (length x) a) r → r ≡ first_of (matches b s x (word_of x) (key_of class (length x) a)) (in_view vw s k)
  view_first x class a c l h r e p q f =
      f (bucket s h (in_view vw s k)) (seen.linked h p (omega (arith, seen.base.mask)))
      ∙ bucket-first (matches b s x (word_of x) (key_of class (length x) a)) s h (in_view vw s k)
      (λ j m t. matches-head vw.mask b s j (seen.good j m) x class a c l t ∙ (ap (λ (n : ℕ). head_of n (word_of x) (length x)) (sym seen.base.mask) ∙ sym e))

  -- the cells before the rows
  pub view-low : 8 < length s
  view-low = omega (arith, seen.base.heads, seen.within, seen-order vw b s k seen)

-- of any view
pub viewed-along : (b s : List ℕ) → Viewed b s → (h : ℕ) → 8 ≤ h → h ≤ 8 + get_or s 0 0 → Along b s (get_or s h 0)
viewed-along b s v h p q = view-along v.0 b s v.1 v.2 h p (omega (arith, v.2.base.mask))

pub viewed-cell : (b s : List ℕ) → Viewed b s → (h : ℕ) → h ≤ 8 + get_or s 0 0 → h < length s
viewed-cell b s v h q = view-cell v.0 b s v.1 v.2 h q

pub viewed-low : (b s : List ℕ) → Viewed b s → 8 < length s
viewed-low b s v = view-low v.0 b s v.1 v.2

pub find-returns : (b s : List ℕ) (x : Text) (class : ℕ) → class < 2 → length x < 65536 → (w key h r : ℕ) → w ≡ word_of x → key ≡ key_of class (length x) 0
    → h ≡ head_of (get_or s 0 0) w (length x) → 8 ≤ h → h ≤ 8 + get_or s 0 0 → Seeks b s (get_or s h 0) x w key r → Finds b s x class r
find-returns b s x class c l w key h r ew ek eh p q f vw k seen =
    let g : Seeks b s (get_or s h 0) x (word_of x) (key_of class (length x) 0) r = subst (λ (u : ℕ). Seeks b s (get_or s h 0) x u (key_of class (length x) 0) r) ew (subst (λ (u : ℕ). Seeks b s (get_or s h 0) x w u r) ek f) in
    let e = view_first vw b s k seen x class 0 (omega arith) l h r (eh ∙ ap (λ (u : ℕ). head_of (get_or s 0 0) u (length x)) ew) p q g in
    rw e (sought-is vw b s k seen x class c l)

-- ---- the rows from lo on, the last first

pub record Downing (b s : List ℕ) (x : Text) (w key lo hi j : ℕ) : Type 0 where
  pub low : lo ≤ j
  pub high : j ≤ hi
  pub goes : first_of (matches b s x w key) (down_to lo (hi - lo)) ≡ first_of (matches b s x w key) (down_to lo (j - lo))

down-cons : (lo j : ℕ) → lo < j → down_to lo (j - lo) ≡ (j - 1) ∷ down_to lo (j - 1 - lo)
unfolding down_to
down-cons lo j h =
    let e : j - lo ≡ suc (j - 1 - lo) = omega arith in
    let i : lo + (j - 1 - lo) ≡ j - 1 = omega arith in
    subst (λ (n : ℕ). down_to lo n ≡ (j - 1) ∷ down_to lo (j - 1 - lo)) (sym e) (ap (λ (n : ℕ). n ∷ down_to lo (j - 1 - lo)) i)

module _ (b s : List ℕ) (x : Text) (w key lo hi j : ℕ) where
  pub down-start : lo ≤ hi → Downing b s x w key lo hi hi
  down-start h = record { low = h; high = omega arith; goes = refl }

  pub down-more : Downing b s x w key lo hi j → lo < j → (r : Bool) → r ≡ matches b s x w key (j - 1) → r ≡ false → Downing b s x w key lo hi (j - 1)
  down-more d h r u v =
      record {
        low = omega arith;
        high = omega (arith, d.high);
        goes = d.goes ∙ (ap (first_of (matches b s x w key)) (down-cons lo j h) ∙ first_rest (matches b s x w key) (j - 1) (down_to lo (j - 1 - lo)) (sym u ∙ v));
      }

  pub down-found : Downing b s x w key lo hi j → lo < j → (r : Bool) → r ≡ matches b s x w key (j - 1) → r ≡ true → j - 1 ≡ first_of (matches b s x w key) (down_to lo (hi - lo))
  down-found d h r u v =
      sym (d.goes ∙ (ap (first_of (matches b s x w key)) (down-cons lo j h) ∙ first-cons (matches b s x w key) (j - 1) (down_to lo (j - 1 - lo)) (sym u ∙ v)))

  pub down-done : Downing b s x w key lo hi j → j ≤ lo → 0 ≡ first_of (matches b s x w key) (down_to lo (hi - lo))
  unfolding down_to
  down-done d h =
      let e : j - lo ≡ 0 = omega arith in
      sym (d.goes ∙ (ap (λ (n : ℕ). first_of (matches b s x w key) (down_to lo n)) e ∙ first-nil (matches b s x w key)))

-- ---- imports

pub imports-fit : (b s : List ℕ) → Viewed b s → end_of b (get_or s 4 0) ≤ length b
imports-fit b s v = inside b (node 0x86 (get_or s 4 0) (f_imports v.0.top.uses.imports rnil)) v.2.base.imports

pub imports-row : (b s : List ℕ) → Viewed b s → (rs : Roses) × Row b rs (get_or s 4 0 + 3) (end_of b (get_or s 4 0))
unfolding At
imports-row b s v = (f_imports v.0.top.uses.imports rnil, v.2.base.imports.1)

pub record Passing (b s : List ℕ) (x : Text) (p z r : ℕ) : Type 0 where
  pub goes : (vw : View) (k : ℕ) → Seen vw b s k → Importing b x vw.top.uses.imports p z r
  pub pos : 0 < p
  pub high : z ≤ length b

module _ (b s : List ℕ) (x : Text) where
  pub passing-start : Viewed b s → (p z : ℕ) → p ≡ get_or s 4 0 + 3 → z ≡ end_of b (get_or s 4 0) → Passing b s x p z 0
  unfolding At
  passing-start v p z e f =
      record {
        goes = λ vw k seen. import-start b x vw.top.uses.imports p z
            (subst (λ (i : ℕ). Row b (f_imports vw.top.uses.imports rnil) i z) (sym e)
            (subst (λ (i : ℕ). Row b (f_imports vw.top.uses.imports rnil) (get_or s 4 0 + 3) i) (sym f) seen.base.imports.1));
        pos = omega arith;
        high = omega (arith, imports-fit b s v);
      }

  module _ (p z r : ℕ) (v : Viewed b s) (g : Passing b s x p z r) (h : p < z) where
    pub passing-fit : (end_of b (p + 8) ≤ length b) × (end_of b p ≤ length b) × (end_of b p ≤ z)
    passing-fit = let w = import-step b x v.0.top.uses.imports p z r g.pos h (g.goes v.0 v.1 v.2) in (w.0, w.1, w.2)

    pub passing-more : (p' r' : ℕ) (t : Bool) → p' ≡ end_of b p → t ≡ same x (text_of b (p + 8)) → r' ≡ cond t p r → Passing b s x p' z r'
    passing-more p' r' t e f q =
        record {
          goes = λ vw k seen.
              let w = import-step b x vw.top.uses.imports p z r g.pos h (g.goes vw k seen) in
              subst (λ (i : ℕ). Importing b x vw.top.uses.imports i z r') (sym e)
              (subst (λ (i : ℕ). Importing b x vw.top.uses.imports (end_of b p) z i) (sym (q ∙ ap (λ (u : Bool). cond u p r) f)) w.3);
          pos = omega arith;
          high = g.high;
        }

  pub passing-done : (p z r : ℕ) → Passing b s x p z r → z ≤ p → Imports b s x r
  passing-done p z r g h vw k seen = import-done b x vw.top.uses.imports p z r h (g.goes vw k seen)
