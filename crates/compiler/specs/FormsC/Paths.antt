-- Paths: bounds, parts, rows of parts, and the path itself. Assumes nothing.
use Prim.Native.Nat.{ℕ, suc, ◌+◌, ◌*◌, ◌^◌, ◌≤◌, ◌<◌}
use Rattle.std.proofs.Common.{arith, sym, ap, ap₂, subst, ◌∙◌, length-append}
use Rattle.std.specs.Prelude.{◌≡◌, refl, Bool, true, false, cond, List, ◌∷◌, ◌++◌, length, get_or}
use Rattle.std.proofs.Math.Option.{Option}
use Rattle.fields.specs.Room.{overlay}
use Rattle.tree.specs.Rose.{Roses, end_of, rnil, rcons, At, Row, row-le}
use Rattle.tree.specs.Tree.{Term, Bound, without_bound, a_bound, Part, part_range, Parts, parts_cons, Mark, t_path}
use Rattle.tree.specs.Form.{f_parts, f_part, f_bound, f_mark}
use Rattle.rules.specs.Table.{Step, index, range, n_path}
use Rattle.rules.specs.Tails.{empty}
use Rattle.rules.specs.Rows.{Env}
use Rattle.rules.specs.Outs.{slot, size, is_optional}
use Rattle.rules.specs.Listing.{node_bytes, table_bytes}
use Rattle.rules.specs.Rules.{term, bound, part, parts}
use Rattle.reads.specs.Bytes.{is_tag, past}
use Rattle.reads.specs.Parts.{NoHead, on-bound, on-no-bound, no-from, no-upto, row_fits}
use Rattle.reads.specs.Widths.{bound_width, part_width, parts_width}
use Rattle.reads.specs.Lengths.{own-path}
use Rattle.records.specs.Steps.{PathReady}
use Rattle.reads.specs.Shapes.{PartAt, RangeAt, PathAt, on-index, on-range, on-parts-cons, on-parts-nil, on-path, tag-yes, tag-no}
use Rattle.puts.specs.declared.state.State.{State}
use Rattle.puts.specs.State.{num, off, late, start_of, spot_of, next_of, Put, with_off}
use Rattle.puts.specs.Rooms.{put-none, put_then, own-two, table-append, start-high, spot-within, placed-within}
use Rattle.cells.specs.Cells.{View, Seen, env_of, noted, number_at, last_at}
use Rattle.cells.specs.Notes.{bound_at, step_at, steps_at}
use Rattle.compiler.specs.Post.{Ready, Stands, Placed, Paid, Laid, Did, Parted, PartIs, BoundIs}
use Rattle.compiler.specs.Common.{off-num, off-ers, off-off, Made, made-node, did_of}
use Rattle.compiler.specs.Moves.{keeps, paid-less, paid-then, paid-wider, ready-part, ready-after, ready-start, laid_as}
use Rattle.compiler.specs.FormsC.Noting.{reserved, Noting, noting, note-room, note-few, ready-next, ready-noted, seen-then, paid-noted, number-kept, last-kept}

-- ---- a bound

-- some bound of the tag stands from q up to z
abbrev pub BoundHere : List ℕ → ℕ → ℕ → ℕ → Type 0
BoundHere b q z tag = (x : Bound) × (rs : Roses) × NoHead tag rs × Row b (f_bound tag x rs) q z

pub bound-ready : (b s : List ℕ) (k q z tag : ℕ) (st : State) → Ready b s k q z st → BoundHere b q z tag → is_tag b q z tag ≡ true → Ready b s k (q + 3) (end_of b (q + 3)) st × Stands b (q + 3)
bound-ready b s k q z tag st r g e =
    let y = tag-yes b q z tag e in
    on-bound b tag q z g.1 (λ _. Ready b s k (q + 3) (end_of b (q + 3)) st × Stands b (q + 3)) g.2 y.0 y.1
    (λ t f h l w. (ready-part b s k q (q + 3) z (end_of b (q + 3)) st r (omega arith) (omega arith) (omega (arith, l, row-le b g.1 (end_of b q) z w)), (t, h))) g.0 g.3

pub bound-is : (b : List ℕ) (q z tag : ℕ) (s s' : List ℕ) (k : ℕ) (st st' : State) (d d' : List ℕ) (r : ℕ) → BoundHere b q z tag → is_tag b q z tag ≡ true
    → Laid b (q + 3) s s' k st st' d d' 0 r → BoundIs b q z tag s s' k st st' d d'
unfolding term
bound-is b q z tag s s' k st st' d d' r g e a =
    let y = tag-yes b q z tag e in
    let l : end_of b (q + 3) ≡ end_of b q = on-bound b tag q z g.1 (λ _. end_of b (q + 3) ≡ end_of b q) g.2 y.0 y.1 (λ t f h l w. l) g.0 g.3 in
    record {
      is = λ vw v x rs n h.
          on-bound b tag q z rs (λ (x : Bound). let m = bound vw.top x (env_of vw b s k) (num st) in Put m.more m.errs st st' d d' × (bound_at x (num st) ≡ m.made)) n y.0 y.1
          (λ t f w i j. ((a.is vw v t w).0, refl)) x h;
      paid = subst (λ (p : ℕ). Paid q p k s s' st st') (sym (ap (λ (u : Bool). cond u (end_of b q) q) e)) (paid-wider q (q + 3 + 1) (end_of b (q + 3)) (end_of b q) k s s' st st' (omega arith) (omega (arith, l)) a.paid);
    }

pub bound-none : (b : List ℕ) (q z tag : ℕ) (s : List ℕ) (k : ℕ) (st : State) (d : List ℕ) → is_tag b q z tag ≡ false → BoundIs b q z tag s s k st st d d
unfolding term
bound-none b q z tag s k st d e =
    record {
      is = λ vw v x rs n h.
          on-no-bound b tag q z rs (λ (x : Bound). let m = bound vw.top x (env_of vw b s k) (num st) in Put m.more m.errs st st d d × (bound_at x (num st) ≡ m.made)) (tag-no b q z tag e)
          (λ w. (put-none st d, refl)) x h;
      paid = subst (λ (p : ℕ). Paid q p k s s st st) (sym (ap (λ (u : Bool). cond u (end_of b q) q) e))
          (record { kept = refl; same = refl; nums = omega arith; offs = omega arith; errs = omega arith });
    }

-- what follows a bound starts behind it, if it is there
pub bound-past : (b : List ℕ) (q z tag : ℕ) (x : Bound) (rs : Roses) → NoHead tag rs → Row b (f_bound tag x rs) q z → Row b rs (past b q z tag) z
bound-past b q z tag x rs n h = go (is_tag b q z tag) refl
  where
    go : (u : Bool) → is_tag b q z tag ≡ u → Row b rs (cond u (end_of b q) q) z
    go true e = let y = tag-yes b q z tag e in on-bound b tag q z rs (λ _. Row b rs (end_of b q) z) n y.0 y.1 (λ t f w i j. j) x h
    go false e = on-no-bound b tag q z rs (λ _. Row b rs q z) (tag-no b q z tag e) (λ w. w) x h

pub past-low : (b : List ℕ) (q z tag : ℕ) → q ≤ past b q z tag
past-low b q z tag = go (is_tag b q z tag)
  where
    go : (u : Bool) → q ≤ cond u (end_of b q) q
    go true = omega arith
    go false = omega arith

-- ---- a part

-- some part stands at q
abbrev pub PartHere : List ℕ → ℕ → Type 0
PartHere b q = (x : Part) × PartAt b x q

pub part-fits : (b : List ℕ) (q : ℕ) → PartHere b q → end_of b q ≤ length b
part-fits b q g = row_fits b (f_part g.0) rnil q (end_of b q) g.1

pub index-ready : (b s : List ℕ) (k q : ℕ) (st : State) → get_or b q 0 ≡ 0xBE → Ready b s k q (end_of b q) st → PartHere b q → Ready b s k (q + 3) (end_of b (q + 3)) st × Stands b (q + 3)
index-ready b s k q st e r g =
    on-index b q (λ _. Ready b s k (q + 3) (end_of b (q + 3)) st × Stands b (q + 3)) e
    (λ t m i. (ready-part b s k q (q + 3) (end_of b q) (end_of b (q + 3)) st r (omega arith) (omega arith) (row-le b (f_mark m rnil) (end_of b (q + 3)) (end_of b q) i.mark), (t, i.body))) g.0 g.1

pub index_is : (b : List ℕ) (q : ℕ) (s s₁ s₂ : List ℕ) (k a : ℕ) (st st₁ : State) (d d₁ : List ℕ) (r : ℕ) → get_or b q 0 ≡ 0xBE → Ready b s k q (end_of b q) st → PartHere b q → a ≡ num st
    → Laid b (q + 3) s s₁ k st st₁ d d₁ 0 r → s₂ ≡ noted s₁ k 6 a 0 → PartIs b q s s₂ k st st₁ d d₁
unfolding term step_at
index_is b q s s₁ s₂ k a st st₁ d d₁ r e y g a₀ m f =
    record {
      is = λ vw v. on-index b q (λ (x : Part). let o = part vw.top x (env_of vw b s k) (num st) in Put o.more o.errs st st₁ d d₁ × (step_at x (number_at s₂ k) (last_at s₂ k) ≡ o.made)) e
          (λ t u i. ((m.is vw v t i.body).0, ap (λ (j : ℕ). index j (is_optional u)) (n.number ∙ a₀)));
      seen = seen-then b s s₁ s₂ k (q + 3 + 1) (end_of b (q + 3)) 6 a 0 st st₁ m.paid n;
      wide = on-index b q (λ (x : Part). off st₁ + part_width x + 64 * q ≤ off st + 64 * end_of b q) e (λ t u i. omega (arith, m.paid.offs, row-le b (f_mark u rnil) (end_of b (q + 3)) (end_of b q) i.mark));
      paid = paid-wider q (q + 3 + 1) (end_of b (q + 3)) (end_of b q) k s s₂ st st₁ (omega arith) end (paid-noted b s s₁ s₂ k (q + 3 + 1) (end_of b (q + 3)) 6 a 0 st st₁ m.paid n);
    }
  where
    end : end_of b (q + 3) ≤ end_of b q
    end = on-index b q (λ _. end_of b (q + 3) ≤ end_of b q) e (λ t u i. row-le b (f_mark u rnil) (end_of b (q + 3)) (end_of b q) i.mark) g.0 g.1

    n : Noting b s₁ s₂ k 6 a 0
    n =
        noting b s₁ s₂ k 6 a 0 (omega (arith, note-room b s k q (end_of b q) st y (omega arith), m.paid.same))
        (omega (arith, a₀, note-few b s k q (end_of b q) st y (omega arith))) (omega arith) (omega arith) f

pub range-from : (b s : List ℕ) (k q : ℕ) (st : State) → (get_or b q 0 ≡ 0xBE → ⊥) → Ready b s k q (end_of b q) st → PartHere b q → Ready b s k (q + 3) (end_of b q) st × BoundHere b (q + 3) (end_of b q) 0xC1
range-from b s k q st e r g = (
  ready-part b s k q (q + 3) (end_of b q) (end_of b q) st r (omega arith) (omega arith) (omega arith),
  on-range b q (λ _. BoundHere b (q + 3) (end_of b q) 0xC1) e (λ l u m i. (l, f_bound 0xC2 u (f_mark m rnil), no-from u m, i.row)) g.0 g.1,
)

-- what follows the start, up to where the part ends
pub range-rest : (b : List ℕ) (q : ℕ) → (get_or b q 0 ≡ 0xBE → ⊥) → PartHere b q → (past b (q + 3) (end_of b q) 0xC1 ≤ end_of b q) × BoundHere b (past b (q + 3) (end_of b q) 0xC1) (end_of b q) 0xC2
range-rest b q e g =
    on-range b q (λ _. (past b (q + 3) (end_of b q) 0xC1 ≤ end_of b q) × BoundHere b (past b (q + 3) (end_of b q) 0xC1) (end_of b q) 0xC2) e
    (λ l u m i.
    let w = bound-past b (q + 3) (end_of b q) 0xC1 l (f_bound 0xC2 u (f_mark m rnil)) (no-from u m) i.row in
    (row-le b (f_bound 0xC2 u (f_mark m rnil)) (past b (q + 3) (end_of b q) 0xC1) (end_of b q) w, (u, f_mark m rnil, no-upto m, w)))
    g.0 g.1

module _ (b : List ℕ) (q : ℕ) (s s₁ s₂ : List ℕ) (k a z : ℕ) (st st₁ : State) (d d₁ : List ℕ) (e : get_or b q 0 ≡ 0xBE → ⊥) (y : Ready b s k q (end_of b q) st) (g : PartHere b q) (a₀ : a ≡ num st)
    (m : BoundIs b (q + 3) (end_of b q) 0xC1 s s₁ k st st₁ d d₁) (f : s₂ ≡ noted s₁ k 6 a z) where
  pub range-noted : Noting b s₁ s₂ k 6 a z
  range-noted =
      noting b s₁ s₂ k 6 a z (omega (arith, note-room b s k q (end_of b q) st y (omega arith), m.paid.same))
      (omega (arith, a₀, note-few b s k q (end_of b q) st y (omega arith))) (omega arith) (omega arith) f

  pub range-upto : Ready b s₂ (k + 1) (past b (q + 3) (end_of b q) 0xC1) (end_of b q) st₁ × BoundHere b (past b (q + 3) (end_of b q) 0xC1) (end_of b q) 0xC2
  range-upto =
      let w = range-rest b q e g in (
        ready-noted b s s₁ s₂ k q (q + 3) (past b (q + 3) (end_of b q) 0xC1) (end_of b q) 6 a z st st₁ y (omega arith) (past-low b (q + 3) (end_of b q) 0xC1) (past-low b (q + 3) (end_of b q) 0xC1)
            w.0 m.paid range-noted,
        w.1,
      )

  -- the end, and so the part
  pub range-done : (s₃ : List ℕ) (st₂ : State) (d₂ : List ℕ) → z ≡ num st₁ → BoundIs b (past b (q + 3) (end_of b q) 0xC1) (end_of b q) 0xC2 s₂ s₃ (k + 1) st₁ st₂ d₁ d₂ → PartIs b q s s₃ k st st₂ d d₂
  unfolding term step_at
  range-done s₃ st₂ d₂ z₀ l =
      record {
        is = λ vw v. on-range b q (λ (x : Part). let o = part vw.top x (env_of vw b s k) (num st) in Put o.more o.errs st st₂ d d₂ × (step_at x (number_at s₃ k) (last_at s₃ k) ≡ o.made)) e (is vw v);
        seen = λ vw v.
            let w = seen-then b s s₁ s₂ k (q + 3) (past b (q + 3) (end_of b q) 0xC1) 6 a z st st₁ m.paid range-noted vw v in
            let u = keeps b s₂ s₃ (k + 1) (past b (q + 3) (end_of b q) 0xC1) up st₁ st₂ l.paid vw w.0 in
            (u.0, u.1 ∙ w.1);
        wide = on-range b q (λ (x : Part). off st₂ + part_width x + 64 * q ≤ off st + 64 * end_of b q) e (λ x y mk i. omega (arith, m.paid.offs, l.paid.offs, end, few x, few y));
        paid =
            paid-then q (past b (q + 3) (end_of b q) 0xC1) (past b (q + 3) (end_of b q) 0xC1) (end_of b q) k s s₂ s₃ st st₁ st₂ (omega arith)
            (paid-wider q (q + 3) (past b (q + 3) (end_of b q) 0xC1) (past b (q + 3) (end_of b q) 0xC1) k s s₂ st st₁ (omega arith) (omega arith)
            (paid-noted b s s₁ s₂ k (q + 3) (past b (q + 3) (end_of b q) 0xC1) 6 a z st st₁ m.paid range-noted))
            (paid-wider (past b (q + 3) (end_of b q) 0xC1) (past b (q + 3) (end_of b q) 0xC1) up (end_of b q) k s₂ s₃ st₁ st₂ (omega arith) end
            (paid-less (past b (q + 3) (end_of b q) 0xC1) up k (k + 1) s₂ s₃ st₁ st₂ (omega arith) l.paid));
      }
    where
      up : ℕ
      up = past b (past b (q + 3) (end_of b q) 0xC1) (end_of b q) 0xC2

      end : up ≤ end_of b q
      end =
          let h = (range-rest b q e g).1 in
          row-le b h.1 up (end_of b q) (bound-past b (past b (q + 3) (end_of b q) 0xC1) (end_of b q) 0xC2 h.0 h.1 h.2 h.3)

      few : (x : Bound) → bound_width x ≤ 3
      few without_bound = omega arith
      few (a_bound i t) = omega arith

      is : (vw : View) → Seen vw b s k → (x x' : Bound) (mk : Mark) → RangeAt b q x x' mk
          → let o = part vw.top (part_range q x x' mk) (env_of vw b s k) (num st) in Put o.more o.errs st st₂ d d₂ × (step_at (part_range q x x' mk) (number_at s₃ k) (last_at s₃ k) ≡ o.made)
      is vw v x x' mk i =
          let rs = f_bound 0xC2 x' (f_mark mk rnil) in
          let E = env_of vw b s k in
          let A = bound vw.top x E (num st) in
          let B = bound vw.top x' E (num st + length A.more) in
          let p = m.is vw v x rs (no-from x' mk) i.row in
          let w = seen-then b s s₁ s₂ k (q + 3) (past b (q + 3) (end_of b q) 0xC1) 6 a z st st₁ m.paid range-noted vw v in
          let r = l.is vw w.0 x' (f_mark mk rnil) (no-upto mk) (bound-past b (q + 3) (end_of b q) 0xC1 x rs (no-from x' mk) i.row) in
          let r₁ : Put B.more B.errs st₁ st₂ d₁ d₂ × (bound_at x' (num st₁) ≡ B.made) =
          subst (λ (n : ℕ). let o = bound vw.top x' E n in Put o.more o.errs st₁ st₂ d₁ d₂ × (bound_at x' (num st₁) ≡ o.made)) p.0.nums
          (subst (λ (F : Env). let o = bound vw.top x' F (num st₁) in Put o.more o.errs st₁ st₂ d₁ d₂ × (bound_at x' (num st₁) ≡ o.made)) w.1 r) in
          let n₁ : number_at s₃ k ≡ num st = number-kept k s₂ s₃ l.paid.kept ∙ range-noted.number ∙ a₀ in
          let n₂ : last_at s₃ k ≡ num st₁ = last-kept k s₂ s₃ l.paid.kept ∙ range-noted.last ∙ z₀ in (
            put_then A.more B.more A.errs B.errs st st₁ st₂ d d₁ d₂ p.0 r₁.0,
            ap₂ (λ (i : Option ℕ) (j : Option ℕ). range i j (is_optional mk)) (ap (bound_at x) n₁ ∙ p.1) (ap (bound_at x') n₂ ∙ r₁.1),
          )

-- the same, z being where the part ends and x where its start does
pub range-from-at : (b s : List ℕ) (k q z : ℕ) (st : State) → z ≡ end_of b q → (get_or b q 0 ≡ 0xBE → ⊥) → Ready b s k q (end_of b q) st → PartHere b q → Ready b s k (q + 3) z st × BoundHere b (q + 3) z 0xC1
range-from-at b s k q z st z₀ e r g = subst (λ (z : ℕ). Ready b s k (q + 3) z st × BoundHere b (q + 3) z 0xC1) (sym z₀) (range-from b s k q st e r g)

-- a row that goes on has a field within the bytes
pub row_on : (b : List ℕ) (rs : Roses) (p z : ℕ) → Row b rs p z → p < z → end_of b p ≤ length b
unfolding At
row_on b rnil p z h l = absurd (omega (arith, l, h))
row_on b (rcons r rs) p z h l = row_fits b r rs p z h

pub range-past : (b : List ℕ) (q z : ℕ) → z ≡ end_of b q → (get_or b q 0 ≡ 0xBE → ⊥) → PartHere b q → (z ≤ length b) × (q + 3 < z → end_of b (q + 3) ≤ length b)
range-past b q z z₀ e g = (
  omega (arith, z₀, part-fits b q g),
  λ l. on-range b q (λ _. end_of b (q + 3) ≤ length b) e (λ x y m i. row_on b (f_bound 0xC1 x (f_bound 0xC2 y (f_mark m rnil))) (q + 3) (end_of b q) i.row (omega (arith, l, z₀))) g.0 g.1,
)

pub range-upto-at : (b : List ℕ) (q : ℕ) (s s₁ s₂ : List ℕ) (k a n z x : ℕ) (st st₁ : State) (d d₁ : List ℕ) → z ≡ end_of b q → x ≡ past b (q + 3) z 0xC1 → (get_or b q 0 ≡ 0xBE → ⊥) → Ready b s k q (end_of b q) st → PartHere b q
    → a ≡ num st → BoundIs b (q + 3) z 0xC1 s s₁ k st st₁ d d₁ → s₂ ≡ noted s₁ k 6 a n → Ready b s₂ (k + 1) x z st₁ × BoundHere b x z 0xC2 × (q + 3 ≤ x) × (x ≤ z)
range-upto-at b q s s₁ s₂ k a n z x st st₁ d d₁ z₀ x₀ e y g a₀ =
    subst (λ (z : ℕ). x ≡ past b (q + 3) z 0xC1 → BoundIs b (q + 3) z 0xC1 s s₁ k st st₁ d d₁ → s₂ ≡ noted s₁ k 6 a n → Ready b s₂ (k + 1) x z st₁ × BoundHere b x z 0xC2 × (q + 3 ≤ x) × (x ≤ z)) (sym z₀)
    (λ i m f.
    subst (λ (x : ℕ). Ready b s₂ (k + 1) x (end_of b q) st₁ × BoundHere b x (end_of b q) 0xC2 × (q + 3 ≤ x) × (x ≤ end_of b q)) (sym i)
    (let w = range-upto b q s s₁ s₂ k a n st st₁ d d₁ e y g a₀ m f in (w.0, w.1, past-low b (q + 3) (end_of b q) 0xC1, (range-rest b q e g).0))) x₀

pub range-done-at : (b : List ℕ) (q : ℕ) (s s₁ s₂ s₃ : List ℕ) (k a n z x : ℕ) (st st₁ st₂ : State) (d d₁ d₂ : List ℕ) → z ≡ end_of b q → x ≡ past b (q + 3) z 0xC1 → (get_or b q 0 ≡ 0xBE → ⊥) → Ready b s k q (end_of b q) st → PartHere b q
    → a ≡ num st → n ≡ num st₁ → BoundIs b (q + 3) z 0xC1 s s₁ k st st₁ d d₁ → s₂ ≡ noted s₁ k 6 a n → BoundIs b x z 0xC2 s₂ s₃ (k + 1) st₁ st₂ d₁ d₂ → PartIs b q s s₃ k st st₂ d d₂
range-done-at b q s s₁ s₂ s₃ k a n z x st st₁ st₂ d d₁ d₂ z₀ x₀ e y g a₀ n₀ =
    subst (λ (z : ℕ). x ≡ past b (q + 3) z 0xC1 → BoundIs b (q + 3) z 0xC1 s s₁ k st st₁ d d₁ → s₂ ≡ noted s₁ k 6 a n → BoundIs b x z 0xC2 s₂ s₃ (k + 1) st₁ st₂ d₁ d₂ → PartIs b q s s₃ k st st₂ d d₂) (sym z₀)
    (λ i m f l. range-done b q s s₁ s₂ k a n st st₁ d d₁ e y g a₀ m f s₃ st₂ d₂ n₀ (subst (λ (x : ℕ). BoundIs b x (end_of b q) 0xC2 s₂ s₃ (k + 1) st₁ st₂ d₁ d₂) i l)) x₀

-- ---- a row of parts

-- some parts stand from p up to z
abbrev pub PartsHere : List ℕ → ℕ → ℕ → Type 0
PartsHere b p z = (xs : Parts) × Row b (f_parts xs rnil) p z

pub parts-head : (b : List ℕ) (p z : ℕ) → p < z → PartsHere b p z → PartHere b p × PartsHere b (end_of b p) z
parts-head b p z l g = on-parts-cons b p z (λ _. PartHere b p × PartsHere b (end_of b p) z) l (λ x xs h i j. ((x, h), (xs, j))) g.0 g.1

pub parts-nil : (b : List ℕ) (p z : ℕ) (s : List ℕ) (k : ℕ) (st : State) (d : List ℕ) → z ≤ p → PartsHere b p z → Parted b p z s s k st st d d k
unfolding term steps_at parts_width
parts-nil b p z s k st d l g =
    let e : p ≤ z = row-le b (f_parts g.0 rnil) p z g.1 in
    record {
      is = λ vw v. on-parts-nil b p z (λ (xs : Parts). let m = parts vw.top xs (env_of vw b s k) (num st) in Put m.more m.errs st st d d × (steps_at s xs k ≡ m.made) × (k ≡ k + length m.made)) l (put-none st d, refl, omega arith);
      rows = omega (arith, e);
      wide = on-parts-nil b p z (λ (xs : Parts). off st + parts_width xs + 64 * p ≤ off st + 64 * z) l (omega (arith, e));
      paid = record { kept = refl; same = refl; nums = omega (arith, e); offs = omega (arith, e); errs = omega (arith, e) };
    }

pub parts-cons : (b : List ℕ) (p z : ℕ) (s s₁ s' : List ℕ) (k : ℕ) (st st₁ st' : State) (d d₁ d' : List ℕ) (r : ℕ) → p < z → PartIs b p s s₁ k st st₁ d d₁
    → Parted b (end_of b p) z s₁ s' (k + 1) st₁ st' d₁ d' r → Parted b p z s s' k st st' d d' r
unfolding term steps_at parts_width
parts-cons b p z s s₁ s' k st st₁ st' d d₁ d' r l a c =
    record {
      is = λ vw v. on-parts-cons b p z (λ (xs : Parts). let m = parts vw.top xs (env_of vw b s k) (num st) in Put m.more m.errs st st' d d' × (steps_at s' xs k ≡ m.made) × (r ≡ k + length m.made)) l (is vw v);
      rows = omega (arith, c.rows);
      wide = on-parts-cons b p z (λ (xs : Parts). off st' + parts_width xs + 64 * p ≤ off st + 64 * z) l (λ x xs h i j. omega (arith, a.wide x h, c.wide xs j));
      paid = paid-then p (end_of b p) (end_of b p) z k s s₁ s' st st₁ st' (omega arith) a.paid (paid-less (end_of b p) z k (k + 1) s₁ s' st₁ st' (omega arith) c.paid);
    }
  where
    is : (vw : View) → Seen vw b s k → (x : Part) (xs : Parts) → PartAt b x p → end_of b p ≤ length b → Row b (f_parts xs rnil) (end_of b p) z
        → let m = parts vw.top (parts_cons x xs) (env_of vw b s k) (num st) in Put m.more m.errs st st' d d' × (steps_at s' (parts_cons x xs) k ≡ m.made) × (r ≡ k + length m.made)
    is vw v x xs h i j =
        let E = env_of vw b s k in
        let A = part vw.top x E (num st) in
        let B = parts vw.top xs E (num st + length A.more) in
        let w = a.seen vw v in
        let q = a.is vw v x h in
        let t : Put B.more B.errs st₁ st' d₁ d' × (steps_at s' xs (k + 1) ≡ B.made) × (r ≡ k + 1 + length B.made) =
        subst (λ (n : ℕ). let m = parts vw.top xs E n in Put m.more m.errs st₁ st' d₁ d' × (steps_at s' xs (k + 1) ≡ m.made) × (r ≡ k + 1 + length m.made)) q.0.nums
        (subst (λ (F : Env). let m = parts vw.top xs F (num st₁) in Put m.more m.errs st₁ st' d₁ d' × (steps_at s' xs (k + 1) ≡ m.made) × (r ≡ k + 1 + length m.made)) w.1 (c.is vw w.0 xs j)) in
        let u : k + 1 ≡ suc k = omega arith in (
          put_then A.more B.more A.errs B.errs st st₁ st' d d₁ d' q.0 t.0,
          ap₂ (λ (y : Step) (ys : List Step). y ∷ ys)
              (ap₂ (λ (i : ℕ) (j : ℕ). step_at x i j) (number-kept k s₁ s' c.paid.kept) (last-kept k s₁ s' c.paid.kept) ∙ q.1)
              (ap (steps_at s' xs) (sym u) ∙ t.1),
          omega (arith, t.2),
        )

-- the loop over them: p is the next part's place, i its row
pub record Parting (b : List ℕ) (q z : ℕ) (s₀ : List ℕ) (k : ℕ) (st₀ : State) (d₀ : List ℕ) (p i : ℕ) (s : List ℕ) (st : State) (d : List ℕ) : Type 0 where
  pub goes : (s' : List ℕ) (st' : State) (d' : List ℕ) (r : ℕ) → Parted b p z s s' i st st' d d' r → Parted b q z s₀ s' k st₀ st' d₀ d' r
  pub low : q ≤ p
  pub ready : Ready b s i p z st
  pub here : PartsHere b p z
  pub same : length s ≡ length s₀
  pub room : length d ≡ length d₀

-- p is where the next one stands
pub parts-on : (b : List ℕ) (q z : ℕ) (s₀ : List ℕ) (k : ℕ) (st₀ : State) (d₀ : List ℕ) (n p i : ℕ) (s : List ℕ) (st : State) (d : List ℕ) → n ≡ p → Parting b q z s₀ k st₀ d₀ n i s st d → Parting b q z s₀ k st₀ d₀ p i s st d
parts-on b q z s₀ k st₀ d₀ n p i s st d e g = subst (λ (r : ℕ). Parting b q z s₀ k st₀ d₀ r i s st d) e g

pub parts-start : (b : List ℕ) (q z : ℕ) (s : List ℕ) (k : ℕ) (st : State) (d : List ℕ) → Ready b s k q z st → PartsHere b q z → Parting b q z s k st d q k s st d
parts-start b q z s k st d y g = record { goes = λ s' st' d' r f. f; low = omega arith; ready = y; here = g; same = refl; room = refl }

-- the part at p is ready
pub parts_next : (b : List ℕ) (q z : ℕ) (s₀ : List ℕ) (k : ℕ) (st₀ : State) (d₀ : List ℕ) (p i : ℕ) (s : List ℕ) (st : State) (d : List ℕ) → Parting b q z s₀ k st₀ d₀ p i s st d → p < z
    → Ready b s i p (end_of b p) st × PartHere b p × (end_of b p ≤ length b)
parts_next b q z s₀ k st₀ d₀ p i s st d v l =
    let h = parts-head b p z l v.here in
    (ready-part b s i p p z (end_of b p) st v.ready (omega arith) (omega arith) (row-le b (f_parts h.1.0 rnil) (end_of b p) z h.1.1), h.0, part-fits b p h.0)

pub parts_more : (b : List ℕ) (q z : ℕ) (s₀ : List ℕ) (k : ℕ) (st₀ : State) (d₀ : List ℕ) (p i : ℕ) (s : List ℕ) (st : State) (d s₁ : List ℕ) (st₁ : State) (d₁ : List ℕ) → Parting b q z s₀ k st₀ d₀ p i s st d → p < z
    → PartIs b p s s₁ i st st₁ d d₁ → Parting b q z s₀ k st₀ d₀ (end_of b p) (i + 1) s₁ st₁ d₁
parts_more b q z s₀ k st₀ d₀ p i s st d s₁ st₁ d₁ v l a =
    let h = parts-head b p z l v.here in
    record {
      goes = λ s' st' d' r c. v.goes s' st' d' r (parts-cons b p z s s₁ s' i st st₁ st' d d₁ d' r l a c);
      low = omega (arith, v.low);
      ready = ready-next b s s₁ i p p (end_of b p) z st st₁ v.ready (omega arith) (omega arith) (omega arith) (row-le b (f_parts h.1.0 rnil) (end_of b p) z h.1.1) a.paid a.seen;
      here = h.1;
      same = a.paid.same ∙ v.same;
      room = (a.is v.ready.view v.ready.seen h.0.0 h.0.1).0.size ∙ v.room;
    }

pub parts-done : (b : List ℕ) (q z : ℕ) (s₀ : List ℕ) (k : ℕ) (st₀ : State) (d₀ : List ℕ) (p i : ℕ) (s : List ℕ) (st : State) (d : List ℕ) → Parting b q z s₀ k st₀ d₀ p i s st d → z ≤ p → Parted b q z s₀ s k st₀ st d₀ d i
parts-done b q z s₀ k st₀ d₀ p i s st d v l = v.goes s st d i (parts-nil b p z s i st d l v.here)

-- the same, x being where the part ends
pub parts_again : (b : List ℕ) (q z : ℕ) (s₀ : List ℕ) (k : ℕ) (st₀ : State) (d₀ : List ℕ) (p i x : ℕ) (s : List ℕ) (st : State) (d s₁ : List ℕ) (st₁ : State) (d₁ : List ℕ) → Parting b q z s₀ k st₀ d₀ p i s st d → p < z
    → PartIs b p s s₁ i st st₁ d d₁ → x ≡ end_of b p → Parting b q z s₀ k st₀ d₀ x (i + 1) s₁ st₁ d₁
parts_again b q z s₀ k st₀ d₀ p i x s st d s₁ st₁ d₁ v l a x₀ =
    subst (λ (x : ℕ). Parting b q z s₀ k st₀ d₀ x (i + 1) s₁ st₁ d₁) (sym x₀) (parts_more b q z s₀ k st₀ d₀ p i s st d s₁ st₁ d₁ v l a)

-- ---- the path

pub path-shape : (b : List ℕ) (p : ℕ) → get_or b p 0 ≡ 0xAE → Stands b p → (u : Term) × (ps : Parts) × PathAt b p u ps
path-shape b p e g = on-path b p (λ _. (u : Term) × (ps : Parts) × PathAt b p u ps) e (λ u ps h. (u, ps, h)) g.0 g.1

pub path-ready : (b s : List ℕ) (k p o w : ℕ) (st st₁ : State) → get_or b p 0 ≡ 0xAE → Ready b s k (p + 1) (end_of b p) st → Stands b p → w ≤ 2097152 → st₁ ≡ with_off st (start_of o (off st) w)
    → Ready b s k (p + 3) (end_of b (p + 3)) st₁ × Stands b (p + 3)
path-ready b s k p o w st st₁ e y g h f =
    let a = path-shape b p e g in
    (ready-start b s k (p + 1) (p + 3) (end_of b p) (end_of b (p + 3)) o w st st₁ y (omega arith) (omega arith) (row-le b (f_parts a.1 rnil) (end_of b (p + 3)) (end_of b p) a.2.parts) h f, (a.0, a.2.body))

pub path-rest : (b s s₁ : List ℕ) (k p o w : ℕ) (st st₁ st₂ : State) (d d₁ : List ℕ) (r : ℕ) → get_or b p 0 ≡ 0xAE → Ready b s k (p + 1) (end_of b p) st → Stands b p → w ≤ 2097152 → st₁ ≡ with_off st (start_of o (off st) w)
    → Laid b (p + 3) s s₁ k st₁ st₂ d d₁ 0 r → Ready b s₁ k (end_of b (p + 3)) (end_of b p) st₂ × (end_of b p ≤ length b) × PartsHere b (end_of b (p + 3)) (end_of b p)
path-rest b s s₁ k p o w st st₁ st₂ d d₁ r e y g h f m =
    let a = path-shape b p e g in
    let l = row-le b (f_parts a.1 rnil) (end_of b (p + 3)) (end_of b p) a.2.parts in
    let v = ready-start b s k (p + 1) (p + 3) (end_of b p) (end_of b p) o w st st₁ y (omega arith) (omega arith) (omega arith) h f in
    (ready-after b s s₁ k (p + 3) (p + 3 + 1) (end_of b (p + 3)) (end_of b p) st₁ st₂ v (omega arith) (omega arith) l m.paid, a.2.fits, (a.1, a.2.parts))

-- its record's room: what is asked of where the own record is put
pub path-put : (b s s₁ s₂ : List ℕ) (k p o w x i : ℕ) (st st₁ st₂ st₃ : State) (d d₁ d₂ : List ℕ) (r : ℕ) → get_or b p 0 ≡ 0xAE → Ready b s k (p + 1) (end_of b p) st → Stands b p → Placed o st
    → st₁ ≡ with_off st (start_of o (off st) w) → Laid b (p + 3) s s₁ k st₁ st₂ d d₁ 0 r → Parted b (end_of b (p + 3)) (end_of b p) s₁ s₂ k st₂ st₃ d₁ d₂ i
    → ((xs : Parts) → Row b (f_parts xs rnil) (end_of b (p + 3)) (end_of b p) → w ≡ 7 + parts_width xs) → w ≤ 2097152 → x ≡ spot_of o (off st₃)
    → PathReady b s₂ (end_of b (p + 3)) (end_of b p) k i x w
path-put b s s₁ s₂ k p o w x i st st₁ st₂ st₃ d d₁ d₂ r e y g pl f m c wide few x₀ =
    let a = path-shape b p e g in
    let v = keeps b s s₁ k (p + 3 + 1) (end_of b (p + 3)) st₁ st₂ m.paid y.view y.seen in
    let q = c.is y.view v.0 a.1 a.2.parts in
    let t : off st ≤ 68719476736 = omega (arith, y.offs) in
    let u : off st₃ ≤ late = omega (arith, t, few, off-off st st₁ (start_of o (off st) w) f, start-high o (off st) w, m.paid.offs, c.paid.offs, a.2.fits, y.small) in
    record {
      xs = a.1;
      at = a.2.parts;
      within = a.2.fits;
      notes = q.2 ∙ ap (λ (ss : List Step). k + length ss) (sym q.1);
      rows = omega (arith, c.rows, y.spare, a.2.fits, c.paid.same, m.paid.same);
      wide = wide a.1 a.2.parts;
      room = omega (arith, few, x₀, spot-within o (off st₃) late (placed-within o (off st) pl (omega (arith, t))) u);
    }

pub path-did : (b : List ℕ) (p : ℕ) (s s₁ s₂ : List ℕ) (k o a w x i r : ℕ) (st st₁ st₂ st₃ st₄ : State) (d d₁ d₂ d₃ : List ℕ) → get_or b p 0 ≡ 0xAE → Ready b s k (p + 1) (end_of b p) st → Stands b p
    → ((xs : Parts) → Row b (f_parts xs rnil) (end_of b (p + 3)) (end_of b p) → w ≡ 7 + parts_width xs)
    → st₁ ≡ with_off st (start_of o (off st) w) → a ≡ num st₁
    → Laid b (p + 3) s s₁ k st₁ st₂ d d₁ 0 r
    → Parted b (end_of b (p + 3)) (end_of b p) s₁ s₂ k st₂ st₃ d₁ d₂ i
    → x ≡ spot_of o (off st₃) → st₄ ≡ with_off st₃ (next_of o (off st₃) w)
    → ((xs : Parts) → Row b (f_parts xs rnil) (end_of b (p + 3)) (end_of b p) → i ≡ k + length (steps_at s₂ xs k) → w ≡ 7 + parts_width xs → d₃ ≡ overlay d₂ x (node_bytes 2 (n_path a (steps_at s₂ xs k))))
    → (al : ℕ) → Did b p s s₂ k o st st₄ d d₃ al 0
unfolding term
path-did b p s s₁ s₂ k o a w x i r st st₁ st₂ st₃ st₄ d d₁ d₂ d₃ e y g wide f a₁ m c x₀ h j al =
    did_of b p s s₂ k o st st₄ d d₃ al 0 y g
    (λ vw v. on-path b p (λ t. Made b p (term vw.top t (env_of vw b s k) (num st) al) o st st₄ d d₃ 0) e (is vw v))
    (c.paid.kept ∙ m.paid.kept) (c.paid.same ∙ m.paid.same)
    (omega (arith, m.paid.nums, c.paid.nums, n₁, off-num st₃ st₄ (next_of o (off st₃) w) h))
    (omega (arith, m.paid.errs, c.paid.errs, off-ers st st₁ (start_of o (off st) w) f, off-ers st₃ st₄ (next_of o (off st₃) w) h))
  where
    n₁ : num st₁ ≡ num st
    n₁ = off-num st st₁ (start_of o (off st) w) f

    is : (vw : View) → Seen vw b s k → (u : Term) (ps : Parts) → PathAt b p u ps → Made b p (term vw.top (t_path p u ps) (env_of vw b s k) (num st) al) o st st₄ d d₃ 0
    is vw v u ps n =
        let E = env_of vw b s k in
        let A = term vw.top u E (suc (num st)) empty in
        let Y = parts vw.top ps E (num st + size A) in
        let P : Put (slot A) A.errs st₁ st₂ d d₁ = (laid_as b (p + 3) s s₁ k st₁ st₂ d d₁ 0 r vw E (num st) u m v refl n₁ n.body).0 in
        let w₁ = keeps b s s₁ k (p + 3 + 1) (end_of b (p + 3)) st₁ st₂ m.paid vw v in
        let Q : Put Y.more Y.errs st₂ st₃ d₁ d₂ × (steps_at s₂ ps k ≡ Y.made) × (i ≡ k + length Y.made) =
        subst (λ (c : ℕ). let q = parts vw.top ps E c in Put q.more q.errs st₂ st₃ d₁ d₂ × (steps_at s₂ ps k ≡ q.made) × (i ≡ k + length q.made)) (P.nums ∙ ap (λ (j : ℕ). j + size A) n₁)
        (subst (λ (F : Env). let q = parts vw.top ps F (num st₂) in Put q.more q.errs st₂ st₃ d₁ d₂ × (steps_at s₂ ps k ≡ q.made) × (i ≡ k + length q.made)) w₁.1 (c.is vw w₁.0 ps n.parts)) in
        let W : w ≡ 7 + parts_width ps = wide ps n.parts in
        let L : w ≡ length (node_bytes 2 (n_path (num st) Y.made)) = W ∙ own-path p u ps vw.top E (num st) al in
        let J : d₃ ≡ overlay d₂ x (node_bytes 2 (n_path (num st) Y.made)) =
        j ps n.parts (Q.2 ∙ ap (λ (ss : List Step). k + length ss) (sym Q.1)) W ∙ ap₂ (λ (c : ℕ) (ss : List Step). overlay d₂ x (node_bytes 2 (n_path c ss))) (a₁ ∙ n₁) Q.1 in
        made-node b p (n_path (num st) Y.made) (slot A ++ Y.more) (A.errs ++ Y.errs) empty o w st st₄ d d₃
        (own-two p (n_path (num st) Y.made) empty (slot A) Y.more A.errs Y.errs o w x st st₁ st₂ st₃ st₄ d d₁ d₂ d₃ L f P Q.0 x₀ h J)
        L
        (omega (arith, W, m.paid.offs, c.wide ps n.parts, P.offs, Q.0.offs, length-append (table_bytes 2 (slot A)) (table_bytes 2 Y.more), ap length (table-append (slot A) Y.more)))

-- ---- the same, q being where the parts start and z where they end

pub path-here : (b : List ℕ) (p q z : ℕ) → q ≡ end_of b (p + 3) → z ≡ end_of b p → get_or b p 0 ≡ 0xAE → Stands b p → (z ≤ length b) × PartsHere b q z
path-here b p q z q₀ z₀ e g =
    let a = path-shape b p e g in
    subst (λ (q : ℕ). (z ≤ length b) × PartsHere b q z) (sym q₀) (subst (λ (z : ℕ). (z ≤ length b) × PartsHere b (end_of b (p + 3)) z) (sym z₀) (a.2.fits, (a.1, a.2.parts)))

-- how far the places are
pub path-ends : (b : List ℕ) (p q z : ℕ) → q ≡ end_of b (p + 3) → z ≡ end_of b p → get_or b p 0 ≡ 0xAE → Stands b p → (end_of b (p + 3) ≤ length b) × (p + 6 ≤ q) × (q ≤ z) × (z ≤ length b)
path-ends b p q z q₀ z₀ e g =
    let a = path-shape b p e g in
    let h = row-le b (f_parts a.1 rnil) (end_of b (p + 3)) (end_of b p) a.2.parts in
    (omega (arith, h, a.2.fits), omega (arith, q₀), omega (arith, q₀, z₀, h), omega (arith, z₀, a.2.fits))

pub path-rest-at : (b s s₁ : List ℕ) (k p q z o w : ℕ) (st st₁ st₂ : State) (d d₁ : List ℕ) (r : ℕ) → q ≡ end_of b (p + 3) → z ≡ end_of b p → get_or b p 0 ≡ 0xAE → Ready b s k (p + 1) (end_of b p) st → Stands b p → w ≤ 2097152
    → st₁ ≡ with_off st (start_of o (off st) w) → Laid b (p + 3) s s₁ k st₁ st₂ d d₁ 0 r → Ready b s₁ k q z st₂ × PartsHere b q z
path-rest-at b s s₁ k p q z o w st st₁ st₂ d d₁ r q₀ z₀ e y g h f m =
    let a = path-rest b s s₁ k p o w st st₁ st₂ d d₁ r e y g h f m in
    subst (λ (q : ℕ). Ready b s₁ k q z st₂ × PartsHere b q z) (sym q₀) (subst (λ (z : ℕ). Ready b s₁ k (end_of b (p + 3)) z st₂ × PartsHere b (end_of b (p + 3)) z) (sym z₀) (a.0, a.2))

-- what width::parts_width promises
abbrev pub PartsWide : List ℕ → ℕ → ℕ → ℕ → Type 0
PartsWide b q z u = (xs : Parts) → Row b (f_parts xs rnil) q z → u ≡ parts_width xs

pub path-put-at : (b s s₁ s₂ : List ℕ) (k p q z o u x i : ℕ) (st st₁ st₂ st₃ : State) (d d₁ d₂ : List ℕ) (r : ℕ) → q ≡ end_of b (p + 3) → z ≡ end_of b p → get_or b p 0 ≡ 0xAE → Ready b s k (p + 1) (end_of b p) st → Stands b p → Placed o st
    → PartsWide b q z u → 7 + u ≤ 2097152
    → st₁ ≡ with_off st (start_of o (off st) (7 + u)) → Laid b (p + 3) s s₁ k st₁ st₂ d d₁ 0 r → Parted b q z s₁ s₂ k st₂ st₃ d₁ d₂ i → x ≡ spot_of o (off st₃)
    → PathReady b s₂ q z k i x (7 + u)
path-put-at b s s₁ s₂ k p q z o u x i st st₁ st₂ st₃ d d₁ d₂ r q₀ z₀ e y g pl wide few f m c x₀ =
    subst (λ (q : ℕ). PartsWide b q z u → Parted b q z s₁ s₂ k st₂ st₃ d₁ d₂ i → PathReady b s₂ q z k i x (7 + u)) (sym q₀)
    (subst (λ (z : ℕ). PartsWide b (end_of b (p + 3)) z u → Parted b (end_of b (p + 3)) z s₁ s₂ k st₂ st₃ d₁ d₂ i → PathReady b s₂ (end_of b (p + 3)) z k i x (7 + u)) (sym z₀)
    (λ w c. path-put b s s₁ s₂ k p o (7 + u) x i st st₁ st₂ st₃ d d₁ d₂ r e y g pl f m c (λ xs h. ap (λ (n : ℕ). 7 + n) (w xs h)) few x₀)) wide c

-- no addition wraps
pub path-rooms : (b s s₁ s₂ : List ℕ) (k p q z o u i : ℕ) (st st₁ st₂ st₃ : State) (d d₁ d₂ : List ℕ) (r : ℕ) → q ≡ end_of b (p + 3) → z ≡ end_of b p → get_or b p 0 ≡ 0xAE → Ready b s k (p + 1) (end_of b p) st → Stands b p
    → u + 2 * q ≤ 2 * z → st₁ ≡ with_off st (start_of o (off st) (7 + u)) → Laid b (p + 3) s s₁ k st₁ st₂ d d₁ 0 r → Parted b q z s₁ s₂ k st₂ st₃ d₁ d₂ i → off st₃ + (7 + u) < 2 ^ 64
path-rooms b s s₁ s₂ k p q z o u i st st₁ st₂ st₃ d d₁ d₂ r q₀ z₀ e y g few f m c =
    let h = path-ends b p q z q₀ z₀ e g in
    omega (arith, h.1, h.2, h.3, few, y.offs, y.small, (reserved o (7 + u) st st₁ f).1, m.paid.offs, c.paid.offs, q₀)

pub path-done : (b : List ℕ) (p : ℕ) (s s₁ s₂ : List ℕ) (k q z o a u x i r : ℕ) (st st₁ st₂ st₃ st₄ : State) (d d₁ d₂ d₃ : List ℕ) → q ≡ end_of b (p + 3) → z ≡ end_of b p → get_or b p 0 ≡ 0xAE → Ready b s k (p + 1) (end_of b p) st → Stands b p
    → PartsWide b q z u → st₁ ≡ with_off st (start_of o (off st) (7 + u)) → a ≡ num st₁
    → Laid b (p + 3) s s₁ k st₁ st₂ d d₁ 0 r → Parted b q z s₁ s₂ k st₂ st₃ d₁ d₂ i
    → x ≡ spot_of o (off st₃) → st₄ ≡ with_off st₃ (next_of o (off st₃) (7 + u))
    → ((xs : Parts) → Row b (f_parts xs rnil) q z → i ≡ k + length (steps_at s₂ xs k) → 7 + u ≡ 7 + parts_width xs → d₃ ≡ overlay d₂ x (node_bytes 2 (n_path a (steps_at s₂ xs k))))
    → (al : ℕ) → Did b p s s₂ k o st st₄ d d₃ al 0
path-done b p s s₁ s₂ k q z o a u x i r st st₁ st₂ st₃ st₄ d d₁ d₂ d₃ q₀ z₀ e y g wide f a₁ m c x₀ h j al =
    subst (λ (q : ℕ). PartsWide b q z u → Parted b q z s₁ s₂ k st₂ st₃ d₁ d₂ i
    → ((xs : Parts) → Row b (f_parts xs rnil) q z → i ≡ k + length (steps_at s₂ xs k) → 7 + u ≡ 7 + parts_width xs → d₃ ≡ overlay d₂ x (node_bytes 2 (n_path a (steps_at s₂ xs k)))) → Did b p s s₂ k o st st₄ d d₃ al 0) (sym q₀)
    (subst (λ (z : ℕ). PartsWide b (end_of b (p + 3)) z u → Parted b (end_of b (p + 3)) z s₁ s₂ k st₂ st₃ d₁ d₂ i
    → ((xs : Parts) → Row b (f_parts xs rnil) (end_of b (p + 3)) z → i ≡ k + length (steps_at s₂ xs k) → 7 + u ≡ 7 + parts_width xs → d₃ ≡ overlay d₂ x (node_bytes 2 (n_path a (steps_at s₂ xs k)))) → Did b p s s₂ k o st st₄ d d₃ al 0) (sym z₀)
    (λ w c j. path-did b p s s₁ s₂ k o a (7 + u) x i r st st₁ st₂ st₃ st₄ d d₁ d₂ d₃ e y g (λ xs h. ap (λ (n : ℕ). 7 + n) (w xs h)) f a₁ m c x₀ h j al)) wide c j
