-- Paths: a range's bounds and a part's mark as the code finds them, and the loop over the parts. Assumes nothing.
use Prim.Native.Nat.{ℕ, suc, ◌+◌, ◌-◌, ◌*◌, ◌^◌, ◌≤◌, ◌<◌}
use native.Mathlib.Omega.{arith}
use mathlib.Core.Path.{◌≡◌, refl, sym, ap, ap₂, ◌∙◌}
use mathlib.Core.Bool.{Bool, true, false}
use mathlib.Core.List.{List, [], ◌∷◌, ◌++◌, append_assoc}
use mathlib.Core.Option.{Option}
use lib.Dec.{ltb}
use lib.ListN.{length, get_or, set, length-append}
use borrow.Author.Tests.{lt-ltb, le-ltb}
use Rattle.fields.specs.Number.{number}
use Rattle.fields.specs.Field.{field}
use Rattle.fields.specs.Room.{overlay, overlay-none}
use Rattle.puts.specs.Runs.{run-then, byte-then, then-byte}
use Rattle.tree.specs.Rose.{Roses, rnil, rcons, end_of, Row}
use Rattle.tree.specs.Tree.{Mark, no_mark, a_mark, Part, part_index, part_range, Bound, without_bound, a_bound, Parts, parts_nil, parts_cons}
use Rattle.tree.specs.Form.{f_term, f_mark, f_bound, f_part, f_parts}
use Rattle.rules.specs.Table.{Step, n_path}
use Rattle.rules.specs.Listing.{flag, opt_number, step_bytes, steps_bytes, node_bytes}
use Rattle.rules.specs.Outs.{is_optional}
use Rattle.reads.specs.Bytes.{is_tag, past}
use Rattle.reads.specs.Widths.{bound_width, part_width, parts_width}
use Rattle.reads.specs.Shapes.{head-fits, term_fits, tag-yes, tag-no, PartAt, on-parts-cons, on-parts-nil, on-index, on-range, NoHead, no-mark, no_bound, on-bound, on-no-bound}
use Rattle.reads.specs.Parts.{row-tag}
use Rattle.cells.specs.Cells.{number_at, last_at}
use Rattle.cells.specs.Notes.{bound_at, step_at, steps_at}
use Rattle.records.specs.Steps.{given, Puts, PartPut, PartsReady}

-- ---- what the code tells of a bound

-- the first of a row lies within the bytes
row_fits : (b : List ℕ) (rs : Roses) (p z : ℕ) → Row b rs p z → p < z → end_of b p ≤ length b
unfolding Row
row_fits b rnil p z h g = absurd (omega arith)
row_fits b (rcons r rs) p z h g = (head-fits b r rs p z h).0

pub record Told (b : List ℕ) (k : ℕ) (x : Bound) (rs : Roses) (q z : ℕ) : Type 0 where
  pub rest : Row b rs (past b q z k) z
  pub told : (a : ℕ) → given (ltb q (past b q z k)) a ≡ bound_at x a

tells : (b : List ℕ) (k : ℕ) (x : Bound) (rs : Roses) (q z : ℕ) → NoHead k rs → Row b (f_bound k x rs) q z → Told b k x rs q z
tells b k x rs q z n h = go (is_tag b q z k) refl
  where
    go : (t : Bool) → is_tag b q z k ≡ t → Told b k x rs q z
    go true e =
        on-bound b q z k rs (λ (y : Bound). Told b k y rs q z) n (tag-yes b q z k e).0 (tag-yes b q z k e).1
        (λ u g r. record { rest = rw e r; told = λ a. rw e (simp (lt-ltb q (end_of b q) (omega arith))) }) x h
    go false e =
        on-no-bound b q z k rs (λ (y : Bound). Told b k y rs q z) (tag-no b q z k e)
        (λ r. record { rest = rw e r; told = λ a. rw e (simp (le-ltb q q (omega arith))) }) x h

optional : (b : List ℕ) (m : Mark) (q z : ℕ) → Row b (f_mark m rnil) q z → ltb q z ≡ is_optional m
unfolding Row f_mark
optional b no_mark q z h = le-ltb q z (omega arith)
optional b (a_mark p) q z h = lt-ltb q z (omega (arith, h.2))

pub part-fits : (b : List ℕ) (x : Part) (q : ℕ) → PartAt b x q → end_of b q ≤ length b
part-fits b x q h = (head-fits b (f_part x) rnil q (end_of b q) h).0

pub given-short : (t : Bool) (a : ℕ) → length (opt_number 2 (given t a)) ≤ 3
unfolding opt_number number
given-short true a = omega arith
given-short false a = omega arith

-- ---- a range

pub record RangeSafe (b : List ℕ) (q : ℕ) : Type 0 where
  pub fits : end_of b q ≤ length b
  pub first : q + 3 < end_of b q → end_of b (q + 3) ≤ length b
  pub second : past b (q + 3) (end_of b q) 0xC1 < end_of b q → end_of b (past b (q + 3) (end_of b q) 0xC1) ≤ length b

not-index : (b : List ℕ) (q : ℕ) → get_or b q 0 ≡ 0xBF → get_or b q 0 ≡ 0xBE → ⊥
not-index b q e f = omega arith

pub range-safe : (b : List ℕ) (x : Part) (q : ℕ) → PartAt b x q → get_or b q 0 ≡ 0xBF → RangeSafe b q
range-safe b x q h e =
    on-range b q (λ (y : Part). RangeSafe b q) (not-index b q e)
    (λ l u m r.
    record {
      fits = r.fits;
      first = row_fits b (f_bound 0xC1 l (f_bound 0xC2 u (f_mark m rnil))) (q + 3) (end_of b q) r.row;
      second = row_fits b (f_bound 0xC2 u (f_mark m rnil)) (past b (q + 3) (end_of b q) 0xC1) (end_of b q) (tells b 0xC1 l (f_bound 0xC2 u (f_mark m rnil)) (q + 3) (end_of b q) (no_bound u m) r.row).rest;
    })
    x h

-- its bytes, one after the other
range-bytes : (i j : Option ℕ) (n o s t : ℕ) (d d₁ d₂ d₃ d₄ : List ℕ) → d₁ ≡ set d o 1 → Puts (opt_number 2 i) (o + 1) d₁ d₂ s → Puts (opt_number 2 j) s d₂ d₃ t → d₄ ≡ set d₃ t n
    → Puts (1 ∷ (opt_number 2 i ++ (opt_number 2 j ++ (n ∷ [])))) o d d₄ (t + 1)
range-bytes i j n o s t d d₁ d₂ d₃ d₄ e f g h =
    let x : List ℕ = opt_number 2 i in
    let y : List ℕ = opt_number 2 j in
    let f₂ : d₂ ≡ overlay d o (1 ∷ x) = byte-then d o 1 x d₁ d₂ e f.room in
    let f₃ : d₃ ≡ overlay d o ((1 ∷ x) ++ y) = run-then d o (1 ∷ x) y s d₂ d₃ (omega (arith, f.end)) f₂ g.room in
    let f₄ : d₄ ≡ overlay d o (((1 ∷ x) ++ y) ++ (n ∷ [])) = then-byte d o ((1 ∷ x) ++ y) n t d₃ d₄ (omega (arith, f.end, g.end, length-append x y)) f₃ h in
    record {
      room = f₄ ∙ ap (λ (l : List ℕ). overlay d o (1 ∷ l)) (append_assoc x y (n ∷ []));
      end = omega (arith, f.end, g.end, length-append x (y ++ (n ∷ [])), length-append y (n ∷ []));
    }

pub range-put : (b : List ℕ) (q a c o z u v s t n : ℕ) (d d₁ d₂ d₃ d₄ : List ℕ) → get_or b q 0 ≡ 0xBF → z ≡ end_of b q → u ≡ past b (q + 3) z 0xC1 → v ≡ past b u z 0xC2
    → d₁ ≡ set d o 1 → Puts (opt_number 2 (given (ltb (q + 3) u) a)) (o + 1) d₁ d₂ s → Puts (opt_number 2 (given (ltb u v) c)) s d₂ d₃ t → n ≡ flag (ltb v z) → d₄ ≡ set d₃ t n
    → PartPut b q a c o d d₄ (t + 1)
unfolding step_at step_bytes
range-put b q a c o z u v s t n d d₁ d₂ d₃ d₄ e ez eu ev i f g en h =
    on-range b q (λ (y : Part). Puts (step_bytes 2 (step_at y a c)) o d d₄ (t + 1)) (not-index b q e)
    (λ l w m r.
    let r₁ : Told b 0xC1 l (f_bound 0xC2 w (f_mark m rnil)) (q + 3) z = rw ez (tells b 0xC1 l (f_bound 0xC2 w (f_mark m rnil)) (q + 3) (end_of b q) (no_bound w m) r.row) in
    let r₂ : Told b 0xC2 w (f_mark m rnil) u z = tells b 0xC2 w (f_mark m rnil) u z (no-mark m).1 (rw eu r₁.rest) in
    let t₁ : given (ltb (q + 3) u) a ≡ bound_at l a = rw eu (r₁.told a) in
    let t₂ : given (ltb u v) c ≡ bound_at w c = rw ev (r₂.told c) in
    let t₃ : n ≡ flag (is_optional m) = en ∙ ap flag (optional b m v z (rw ev r₂.rest)) in
    range-bytes (bound_at l a) (bound_at w c) (flag (is_optional m)) o s t d d₁ d₂ d₃ d₄ i (rw t₁ at f) (rw t₂ at g) (rw t₃ at h))

-- ---- an index

pub part-tag : (b : List ℕ) (x : Part) (q : ℕ) → PartAt b x q → (get_or b q 0 ≡ 0xBF → ⊥) → get_or b q 0 ≡ 0xBE
unfolding f_term
part-tag b (part_index p t m) q h n = row-tag b (f_part (part_index p t m)) rnil q (end_of b q) h
part-tag b (part_range p l u m) q h n = absurd (n (row-tag b (f_part (part_range p l u m)) rnil q (end_of b q) h))

pub index-safe : (b : List ℕ) (x : Part) (q : ℕ) → PartAt b x q → (get_or b q 0 ≡ 0xBF → ⊥) → end_of b (q + 3) ≤ length b
index-safe b x q h n = on-index b q (λ (y : Part). end_of b (q + 3) ≤ length b) (part-tag b x q h n) (λ t m r. term_fits b t (q + 3) r.body) x h

pub index-put : (b : List ℕ) (q a c o u z n : ℕ) (d d₁ d₂ d₃ : List ℕ) → (get_or b q 0 ≡ 0xBF → ⊥) → u ≡ end_of b (q + 3) → z ≡ end_of b q
    → d₁ ≡ set d o 0 → d₂ ≡ overlay d₁ (o + 1) (number 2 a) → n ≡ flag (ltb u z) → d₃ ≡ set d₂ (o + 3) n → PartPut b q a c o d d₃ (o + 4)
unfolding step_at step_bytes number
index-put b q a c o u z n d d₁ d₂ d₃ e eu ez f g en h x p =
    on-index b q (λ (y : Part). Puts (step_bytes 2 (step_at y a c)) o d d₃ (o + 4)) (part-tag b x q p e)
    (λ t m r.
    let k : n ≡ flag (is_optional m) = en ∙ ap flag (optional b m u z (rw (eu, ez) r.mark)) in
    record { room = then-byte d o (0 ∷ number 2 a) (flag (is_optional m)) (o + 3) d₂ d₃ refl (byte-then d o 0 (number 2 a) d₁ d₂ f g) (rw k at h); end = refl })
    x p

-- ---- the parts of a path

opt-width : (x : Bound) (a : ℕ) → length (opt_number 2 (bound_at x a)) ≡ bound_width x
unfolding opt_number number
opt-width without_bound a = refl
opt-width (a_bound q t) a = refl

step-width : (x : Part) (a c : ℕ) → length (step_bytes 2 (step_at x a c)) ≡ part_width x
unfolding step_at step_bytes number
step-width (part_index q t m) a c = refl
step-width (part_range q l u m) a c =
    omega (arith, length-append (opt_number 2 (bound_at l a)) (opt_number 2 (bound_at u c) ++ (flag (is_optional m) ∷ [])), length-append (opt_number 2 (bound_at u c)) (flag (is_optional m) ∷ []), opt-width l a, opt-width u c)

pub steps-width : (s : List ℕ) (xs : Parts) (k : ℕ) → length (steps_bytes 2 (steps_at s xs k)) ≡ parts_width xs
unfolding steps_at steps_bytes parts_width
steps-width s parts_nil k = refl
steps-width s (parts_cons x xs) k =
    omega (arith, length-append (step_bytes 2 (step_at x (number_at s k) (last_at s k))) (steps_bytes 2 (steps_at s xs (suc k))), step-width x (number_at s k) (last_at s k), steps-width s xs (suc k))

part-wide : (x : Part) → part_width x ≤ 8
part-wide (part_index q t m) = omega arith
part-wide (part_range q without_bound without_bound m) = omega arith
part-wide (part_range q without_bound (a_bound p t) m) = omega arith
part-wide (part_range q (a_bound p t) without_bound m) = omega arith
part-wide (part_range q (a_bound p t) (a_bound r u) m) = omega arith

-- whatever parts stand from q on, some are left, and once they are put, all are
pub record Remains (b s : List ℕ) (xs : Parts) (z k o : ℕ) (d₀ : List ℕ) (p j x : ℕ) (d : List ℕ) : Type 0 where
  pub rest : Parts
  pub at : Row b (f_parts rest rnil) p z
  pub goes : (d' : List ℕ) → d' ≡ overlay d x (steps_bytes 2 (steps_at s rest j)) → d' ≡ overlay d₀ o (steps_bytes 2 (steps_at s xs k))

pub record Going (b s : List ℕ) (q z k o : ℕ) (d₀ : List ℕ) (p j x : ℕ) (d : List ℕ) : Type 0 where
  pub goes : (xs : Parts) → Row b (f_parts xs rnil) q z → Remains b s xs z k o d₀ p j x d
  pub some : Parts
  pub stand : Row b (f_parts some rnil) p z
  pub within : z ≤ length b
  pub rows : 4 * (j + length (steps_at s some j)) ≤ length s
  pub room : x + parts_width some + 8 < 2 ^ 64
  pub same : length d ≡ length d₀

pub begin : (b s : List ℕ) (q z k o : ℕ) (d : List ℕ) → PartsReady b s q z k o → Going b s q z k o d q k o d
begin b s q z k o d r =
    record {
      goes = λ xs h. record { rest = xs; at = h; goes = λ d' e. e };
      some = r.xs;
      stand = r.at;
      within = r.within;
      rows = r.rows;
      room = r.room;
      same = refl;
    }

-- what stands at p, before z
pub record Next (b s : List ℕ) (p j x : ℕ) : Type 0 where
  pub part : Part
  pub at : PartAt b part p
  pub fits : end_of b p ≤ length b
  pub row : 4 * j + 4 ≤ length s
  pub room : x + 8 < 2 ^ 64

pub next : (b s : List ℕ) (q z k o : ℕ) (d₀ : List ℕ) (p j x : ℕ) (d : List ℕ) → Going b s q z k o d₀ p j x d → p < z → Next b s p j x
unfolding steps_at
next b s q z k o d₀ p j x d g h =
    on-parts-cons b p z (λ (ys : Parts). 4 * (j + length (steps_at s ys j)) ≤ length s → Next b s p j x) h
    (λ y ys a f r t. record { part = y; at = a; fits = f; row = omega (arith, t); room = omega (arith, g.room) })
    g.some g.stand g.rows

pub again : (b s : List ℕ) (q z k o : ℕ) (d₀ : List ℕ) (p j x : ℕ) (d d₁ : List ℕ) (e : ℕ) → Going b s q z k o d₀ p j x d → p < z
    → PartPut b p (number_at s j) (last_at s j) x d d₁ e → length d₁ ≡ length d → Going b s q z k o d₀ (end_of b p) (j + 1) e d₁
unfolding steps_at steps_bytes parts_width
again b s q z k o d₀ p j x d d₁ e g h f n =
    let one : j + 1 ≡ suc j = omega arith in
    rw one
    (on-parts-cons b p z (λ (ys : Parts). 4 * (j + length (steps_at s ys j)) ≤ length s → x + parts_width ys + 8 < 2 ^ 64 → Going b s q z k o d₀ (end_of b p) (suc j) e d₁) h
    (λ y ys a w r t u.
    record {
      goes = λ xs v. left xs (g.goes xs v);
      some = ys;
      stand = r;
      within = g.within;
      rows = omega (arith, t);
      room = omega (arith, u, (f y a).end, step-width y (number_at s j) (last_at s j));
      same = n ∙ g.same;
    })
    g.some g.stand g.rows g.room)
  where
    left : (xs : Parts) → Remains b s xs z k o d₀ p j x d → Remains b s xs z k o d₀ (end_of b p) (suc j) e d₁
    left xs m =
        on-parts-cons b p z (λ (ys : Parts). ((d' : List ℕ) → d' ≡ overlay d x (steps_bytes 2 (steps_at s ys j)) → d' ≡ overlay d₀ o (steps_bytes 2 (steps_at s xs k))) → Remains b s xs z k o d₀ (end_of b p) (suc j) e d₁) h
        (λ y ys a w r t.
        record {
          rest = ys;
          at = r;
          goes = λ d' i. t d' (run-then d x (step_bytes 2 (step_at y (number_at s j) (last_at s j))) (steps_bytes 2 (steps_at s ys (suc j))) e d₁ d' (f y a).end (f y a).room i);
        })
        m.rest m.at m.goes

pub finish : (b s : List ℕ) (q z k o : ℕ) (d₀ : List ℕ) (p j x : ℕ) (d : List ℕ) → Going b s q z k o d₀ p j x d → z ≤ p → (xs : Parts) → Row b (f_parts xs rnil) q z → d ≡ overlay d₀ o (steps_bytes 2 (steps_at s xs k))
unfolding steps_at steps_bytes
finish b s q z k o d₀ p j x d g h xs v =
    let m : Remains b s xs z k o d₀ p j x d = g.goes xs v in
    on-parts-nil b p z (λ (ys : Parts). ((d' : List ℕ) → d' ≡ overlay d x (steps_bytes 2 (steps_at s ys j)) → d' ≡ overlay d₀ o (steps_bytes 2 (steps_at s xs k))) → d ≡ overlay d₀ o (steps_bytes 2 (steps_at s xs k))) h
    (λ t. t d (sym (overlay-none d x))) m.rest m.at m.goes

-- ---- the whole record

pub path-put : (ss : List Step) (a k i o w : ℕ) (d d₁ d₂ d₃ : List ℕ) → i ≡ k + length ss → w ≡ 7 + length (steps_bytes 2 ss)
    → d₁ ≡ overlay d o (0x6B ∷ (number 2 (w - 3) ++ number 2 a)) → d₂ ≡ overlay d₁ (o + 5) (number 2 (i - k)) → d₃ ≡ overlay d₂ (o + 7) (steps_bytes 2 ss)
    → d₃ ≡ overlay d o (node_bytes 2 (n_path a ss))
unfolding field number
path-put ss a k i o w d d₁ d₂ d₃ n m e f g =
    let h : List ℕ = 0x6B ∷ (number 2 (w - 3) ++ number 2 a) in
    let f₂ : d₂ ≡ overlay d o (h ++ number 2 (i - k)) = run-then d o h (number 2 (i - k)) (o + 5) d₁ d₂ refl e f in
    run-then d o (h ++ number 2 (i - k)) (steps_bytes 2 ss) (o + 7) d₂ d₃ refl f₂ g
    ∙ ap₂ (λ (x y : ℕ). overlay d o ((0x6B ∷ (number 2 x ++ number 2 a)) ++ (number 2 y ++ steps_bytes 2 ss))) (omega arith) (omega arith)
