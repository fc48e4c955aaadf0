-- A note in row k: what it keeps, that it is out of view, and what comes behind it; the state's numbers after a store. Assumes nothing.
use Rattle.std.specs.Prelude.{ℕ, suc, ◌+◌, ◌-◌, ◌*◌, ◌≤◌, ◌<◌, ◌≡◌, List, length, get_or, take, drop}
use Rattle.std.proofs.Common.{arith, sym, ap, ap₂, subst, ◌∙◌, length-take, length-drop, drop-cons}
use Rattle.tree.specs.Rose.{end_of, text_of}
use Rattle.puts.specs.declared.state.State.{State}
use Rattle.puts.specs.State.{num, off, ers, late, start_of, spot_of, with_num, with_off}
use Rattle.puts.specs.Rooms.{start-high, placed-within, spot-within}
use Rattle.cells.specs.Cells.{View, Seen, env_of, noted, cell, number_at, last_at, kind_at}
use Rattle.rows.specs.Kept.{below_at}
use Rattle.rows.specs.Fields.{length-noted, noted-last, noted-number, noted-kind}
use Rattle.rows.specs.Pushed.{seen-noted, kept-noted}
use Rattle.compiler.specs.Post.{Ready, Placed, Paid}
use Rattle.compiler.specs.Moves.{set-off, set_both, keeps}

pub record Noting (b s s' : List ℕ) (k kind a z : ℕ) : Type 0 where
  pub kept : take (4 * k) s' ≡ take (4 * k) s
  pub same : length s' ≡ length s
  pub number : number_at s' k ≡ a
  pub last : last_at s' k ≡ z
  pub kinds : kind_at s' k ≡ kind
  pub seen : (vw : View) → Seen vw b s k → Seen vw b s' (k + 1) × (env_of vw b s' (k + 1) ≡ env_of vw b s k)

pub noting : (b s s' : List ℕ) (k kind a z : ℕ) → 4 * k + 4 ≤ length s → a < 65536 → 6 ≤ kind → kind < 8 → s' ≡ noted s k kind a z → Noting b s s' k kind a z
noting b s s' k kind a z r h low high e =
    record {
      kept = ap (λ (l : List ℕ). take (4 * k) l) e ∙ kept-noted s k kind a z r;
      same = ap length e ∙ length-noted s k kind a z r;
      number = ap (λ (l : List ℕ). number_at l k) e ∙ noted-number s k kind a z r h;
      last = ap (λ (l : List ℕ). last_at l k) e ∙ noted-last s k kind a z r;
      kinds = ap (λ (l : List ℕ). kind_at l k) e ∙ noted-kind s k kind a z r high;
      seen = λ vw g. subst (λ (l : List ℕ). Seen vw b l (k + 1) × (env_of vw b l (k + 1) ≡ env_of vw b s k)) (sym e) (seen-noted vw b s k kind a z g r h low high);
    }

-- ---- what a callee that keeps the rows below k + 1 keeps of row k

module _ (k : ℕ) (s s' : List ℕ) (e : take (4 * (k + 1)) s' ≡ take (4 * (k + 1)) s) where
  cell-kept : (c : ℕ) → c < 4 → cell s' k c ≡ cell s k c
  cell-kept c h = below_at (4 * (k + 1)) s s' e (4 * k + c) (omega (arith, h))

  pub number-kept : number_at s' k ≡ number_at s k
  number-kept = rw (cell-kept 1 (omega arith))

  pub last-kept : last_at s' k ≡ last_at s k
  last-kept = cell-kept 3 (omega arith)

  pub kind-kept : kind_at s' k ≡ kind_at s k
  kind-kept = rw (cell-kept 2 (omega arith))

-- ---- room for a note of a field from q on, whose first number is one of those that there were

pub note-room : (b s : List ℕ) (k q z : ℕ) (st : State) → Ready b s k q z st → q + 3 ≤ z → 4 * k + 4 ≤ length s
note-room b s k q z st r h = omega (arith, r.spare, h, r.within)

pub note-few : (b s : List ℕ) (k q z : ℕ) (st : State) → Ready b s k q z st → q + 3 ≤ z → num st < 65536
note-few b s k q z st r h = omega (arith, r.nums, h)

-- what stands behind it, at y, is ready for the next row
pub ready-next : (b s s₁ : List ℕ) (k q x y z : ℕ) (st st₁ : State) → Ready b s k q z st → q ≤ x → x ≤ y → q + 3 ≤ y → y ≤ z → Paid x y k s s₁ st st₁
    → ((vw : View) → Seen vw b s k → Seen vw b s₁ (k + 1) × (env_of vw b s₁ (k + 1) ≡ env_of vw b s k)) → Ready b s₁ (k + 1) y z st₁
ready-next b s s₁ k q x y z st st₁ r h i j l p f =
    record {
      small = r.small;
      view = r.view;
      seen = (f r.view r.seen).0;
      order = l;
      within = r.within;
      spare = omega (arith, r.spare, j, l, r.within, p.same);
      nums = omega (arith, r.nums, h, i, l, p.nums);
      offs = omega (arith, r.offs, h, i, l, p.offs);
      errs = omega (arith, r.errs, h, i, l, p.errs);
    }

-- the rows below k, and what is seen at k + 1, after a callee and a note
pub seen-then : (b s s₁ s₂ : List ℕ) (k x y kind a z : ℕ) (st st₁ : State) → Paid x y k s s₁ st st₁ → Noting b s₁ s₂ k kind a z
    → (vw : View) → Seen vw b s k → Seen vw b s₂ (k + 1) × (env_of vw b s₂ (k + 1) ≡ env_of vw b s k)
seen-then b s s₁ s₂ k x y kind a z st st₁ p n vw g =
    let v = keeps b s s₁ k x y st st₁ p vw g in
    let w = n.seen vw v.0 in
    (w.0, w.1 ∙ v.1)

-- what a note costs: nothing
pub paid-noted : (b s s₁ s₂ : List ℕ) (k x y kind a z : ℕ) (st st₁ : State) → Paid x y k s s₁ st st₁ → Noting b s₁ s₂ k kind a z → Paid x y k s s₂ st st₁
paid-noted b s s₁ s₂ k x y kind a z st st₁ p n = record { kept = n.kept ∙ p.kept; same = n.same ∙ p.same; nums = p.nums; offs = p.offs; errs = p.errs }

pub ready-noted : (b s s₁ s₂ : List ℕ) (k q x y z kind a c : ℕ) (st st₁ : State) → Ready b s k q z st → q ≤ x → x ≤ y → q + 3 ≤ y → y ≤ z
    → Paid x y k s s₁ st st₁ → Noting b s₁ s₂ k kind a c → Ready b s₂ (k + 1) y z st₁
ready-noted b s s₁ s₂ k q x y z kind a c st st₁ r h i j l p n =
    ready-next b s s₂ k q x y z st st₁ r h i j l (paid-noted b s s₁ s₂ k x y kind a c st st₁ p n) (seen-then b s s₁ s₂ k x y kind a c st st₁ p n)

-- ---- numbers of the state after a store, and where an own record may stand, as far as additions ask

pub reserved : (o w : ℕ) (st st₁ : State) → st₁ ≡ with_off st (start_of o (off st) w) → (num st₁ ≡ num st) × (off st₁ ≤ off st + w) × (ers st₁ ≡ ers st)
reserved o w st st₁ e =
    let a = set-off st st₁ (start_of o (off st) w) e in
    (a.num, omega (arith, a.off, start-high o (off st) w), a.ers)

pub inserted : (w : ℕ) (st st₁ : State) → st₁ ≡ with_off (with_num st (num st + 1)) (off st + w) → (num st₁ ≡ num st + 1) × (off st₁ ≡ off st + w) × (ers st₁ ≡ ers st)
inserted w st st₁ e = let a = set_both st st₁ (num st + 1) (off st + w) e in (a.num, a.off, a.ers)

pub placed-low : (o : ℕ) (st : State) → Placed o st → off st ≤ late → o ≤ late
placed-low o st p h = placed-within o (off st) p h

-- where the own record stands
pub spot-low : (o x : ℕ) (st st₁ : State) → Placed o st → off st ≤ late → off st₁ ≤ late → x ≡ spot_of o (off st₁) → x ≤ late
spot-low o x st st₁ p h g e = omega (arith, e, spot-within o (off st₁) late (placed-within o (off st) p h) g)

-- ---- a text less its first byte, as a part of the bytes: that of the field at q, up to its end z

pub name-part : (b : List ℕ) (q z : ℕ) → z ≡ end_of b q → q + 4 ≤ z → z ≤ length b → take (z - (q + 4)) (drop (q + 4) b) ≡ drop 1 (text_of b q)
name-part b q z e h l =
    let f : get_or b (q + 1) 0 + get_or b (q + 2) 0 * 256 ≡ suc (z - (q + 4)) = omega (arith, e, h) in
    let g : q + 4 ≡ suc (q + 3) = omega arith in
    ap (λ (n : ℕ). take (z - (q + 4)) (drop n b)) g
    ∙ sym (ap₂ (λ (n : ℕ) (x : List ℕ). drop 1 (take n x)) f (drop-cons b (q + 3) 0 (omega (arith, h, l))))

-- no part of the bytes is longer than they are
pub part-long : (b : List ℕ) (n m : ℕ) → length (take n (drop m b)) ≤ length b
part-long b n m = omega (arith, length-take n (drop m b), length-drop m b)
