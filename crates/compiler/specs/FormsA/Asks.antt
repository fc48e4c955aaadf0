-- What the forms' callees ask for: room in the numbers, rows, and the rows that leave the view. Assumes nothing.
use Rattle.std.specs.Prelude.{ℕ, ◌+◌, ◌-◌, ◌*◌, ◌^◌, ◌≤◌, ◌<◌, ◌≡◌, refl, Bool, true, false, cond, ◌⊎◌, List, [], eqb, length, get_or, take, drop}
use Rattle.std.proofs.Common.{arith, sym, ap, subst, ◌∙◌, inl, inr}
use Rattle.fields.specs.Field.{field}
use Rattle.fields.specs.Room.{overlay}
use Rattle.tree.specs.Rose.{end_of, text_of, Row}
use Rattle.tree.specs.Tree.{Branches, b_pair}
use Rattle.tree.specs.Form.{f_branches}
use Rattle.reads.specs.Shapes.{on-label, on-ite, term_fits}
use Rattle.puts.specs.declared.state.State.{State}
use Rattle.std.specs.Prelude.{Option}
use Rattle.puts.specs.Dues.{spot-most, start-most}
use Rattle.puts.specs.State.{spot_at, start_at, next_at, at_of, num, off, late, start_of, spot_of, next_of, with_off, with_ers}
use Rattle.cells.specs.Cells.{View, Seen, Room, Opened, bound_as, noted, closed, kind_at, head_at}
use Rattle.cells.specs.Leaving.{length-closed}
use Rattle.cells.specs.Notes.{elses_of, pairs_at, pair_count}
use Rattle.rows.specs.Kept.{seen-kept, heads-below}
use Rattle.rows.specs.Pushed.{seen-bound, bind-ready}
use Rattle.rows.specs.Opened.{opened-bound, close-ready}
use Rattle.records.specs.Elses.{Elsed}
use Rattle.compiler.specs.declared.Run.{Run}
use Rattle.compiler.specs.Post.{Ready, Stands, Placed, Laid, OrEmpty, Paired, Else}
use Rattle.compiler.specs.Common.{Noting, off-off, start-le}
use Rattle.compiler.specs.Moves.{note-is}
use Rattle.compiler.specs.FormsA.Simple.{Labels}
use Rattle.compiler.specs.FormsA.Leaves.{part_length}
use Rattle.compiler.specs.FormsA.Ite.{elses-few, pairs-length, else-none}

-- ---- numbers

-- a term within the bytes
pub stands-fits : (b : List ℕ) (p : ℕ) → Stands b p → end_of b p ≤ length b
stands-fits b p g = term_fits b g.0 p g.1

placed-small : (o : ℕ) (st : State) → Placed o st → off st ≤ 2 ^ 40 → o ≤ late
placed-small o st (inl h) l = omega (arith, h, l)
placed-small o st (inr h) l = omega (arith, h)

-- before the members
pub reserve-fits : (b s : List ℕ) (k p z o w : ℕ) (st : State) → Ready b s k p z st → Placed o st → w ≤ 2097152 → o + w < 2 ^ 64
reserve-fits b s k p z o w st y g h = omega (arith, placed-small o st g (omega (arith, y.offs)), h)

pub alone-fits : (b s : List ℕ) (k p z o w : ℕ) (st : State) → Ready b s k p z st → Placed o st → w ≤ 2097152 → (o + w + w < 2 ^ 64) × (off st + w < 2 ^ 64)
alone-fits b s k p z o w st y g h = (omega (arith, placed-small o st g (omega (arith, y.offs)), h), omega (arith, y.offs, h))

-- where a record is put
pub spot-fits : (o x y w : ℕ) (st : State) → Placed o st → off st ≤ 2 ^ 40 → x ≡ spot_of o y → y ≤ 2 ^ 50 → w ≤ 2097152 → x + w < 2 ^ 64
unfolding spot_of
spot-fits o x y w st g l e h m = go (eqb o late) e
  where
    go : (t : Bool) → x ≡ cond t y o → x + w < 2 ^ 64
    go true i = omega (arith, i, h, m)
    go false i = omega (arith, i, placed-small o st g l, m)

-- ---- a label

room_for : (b s : List ℕ) (k p z : ℕ) (st : State) → Ready b s k p z st → p + 3 ≤ length b → 4 * k + 4 ≤ length s
room_for b s k p z st y h = omega (arith, y.spare, h)

pub label-asks : (b s : List ℕ) (k p : ℕ) (st : State) → get_or b p 0 ≡ 0xA4 → Ready b s k (p + 1) (end_of b p) st → Stands b p
    → Room s k × (end_of b (p + 3) ≤ length b) × (length b ≤ 32768) × (1 < 3) × (0 < 65536) × (get_or s 1 0 < 65536)
label-asks b s k p st e y g =
    on-label b p (λ _. Room s k × (end_of b (p + 3) ≤ length b) × (length b ≤ 32768) × (1 < 3) × (0 < 65536) × (get_or s 1 0 < 65536)) e
    (λ u n. bind-ready y.view b s k 1 (p + 3) 0 y.seen y.small (room_for b s k (p + 1) (end_of b p) st y (omega (arith, n.name))) n.name (omega arith) (omega arith)) g.0 g.1

pub label-rows : (b s s₁ : List ℕ) (k p : ℕ) (st : State) → get_or b p 0 ≡ 0xA4 → Ready b s k (p + 1) (end_of b p) st → Stands b p → s₁ ≡ bound_as (text_of b (p + 3)) s k 1 (p + 3) 0
    → Labels b s s₁ k (p + 3) × Opened s s₁ k (k + 1)
label-rows b s s₁ k p st e y g i =
    on-label b p (λ _. Labels b s s₁ k (p + 3) × Opened s s₁ k (k + 1)) e
    (λ u n.
    let r = room_for b s k (p + 1) (end_of b p) st y (omega (arith, n.name)) in
    subst (λ (t : List ℕ). Labels b s t k (p + 3) × Opened s t k (k + 1)) (sym i)
    (λ vw v. seen-bound vw b s k 1 (p + 3) 0 v y.small r n.name (omega arith) (omega arith), opened-bound y.view b s k 1 (p + 3) 0 y.seen y.small r n.name (omega arith) (omega arith)))
    g.0 g.1

-- rows that were opened from k up to i, where s₂ is left of them, may leave the view
pub close-asks : (b s s₁ s₂ : List ℕ) (k i p z : ℕ) (st : State) → Ready b s k p z st → ((vw : View) → Seen vw b s k → Seen vw b s₁ i) → k ≤ i → take (4 * i) s₂ ≡ take (4 * i) s₁ → length s₂ ≡ length s₁
    → (4 * i ≤ length s₂) × (2 ≤ length s₂) × (k ≤ i) × ((j : ℕ) → k ≤ j → j < i → kind_at s₂ j < 6 → (head_at s₂ j < length s₂) × (head_at s₂ j < 4 * k))
close-asks b s s₁ s₂ k i p z st y f h e l = close-ready y.view b s₂ k i (seen-kept y.view b s₁ s₂ i e l (f y.view y.seen)).0 y.seen.order.1 h

pub closed-length : (s₂ s₃ : List ℕ) (k i c : ℕ) → s₃ ≡ closed s₂ k i c → length s₃ ≡ length s₂
closed-length s₂ s₃ k i c e = ap length e ∙ length-closed s₂ k i c

-- ---- a pair's note

pub note-asks : (b s s₁ : List ℕ) (i p z a : ℕ) (st : State) → Ready b s i p z st → p < z → p + 3 ≤ length b → length s₁ ≡ length s → a ≡ num st → (4 * i + 4 ≤ length s₁) × (a < 65536) × (6 < 8)
note-asks b s s₁ i p z a st y l h e f = (omega (arith, y.spare, h, e), omega (arith, y.nums, l, f), omega arith)

pub noting : (b s s₁ s₂ : List ℕ) (i p z a c : ℕ) (st : State) → Ready b s i p z st → p < z → p + 3 ≤ length b → length s₁ ≡ length s → a ≡ num st → s₂ ≡ noted s₁ i 6 a c → Noting b s₁ s₂ i a c
noting b s s₁ s₂ i p z a c st y l h e f g =
    let w = note-asks b s s₁ i p z a st y l h e f in
    let n = note-is b s₁ s₂ i 6 a c g w.0 w.1 (omega arith) (omega arith) in
    record { seen = n.seen; kept = n.kept; same = n.same; number = n.number; last = n.last }

-- ---- a conditional's elses and its own record

pub elses-ask : (b s₁ s₂ : List ℕ) (k z al t : ℕ) (a : Run) (st₂ st₃ : State) (d₁ d₂ : List ℕ) → Ready b s₁ a.k a.q z st₂ → k ≤ a.k → Else b a.q z s₁ s₂ a.k st₂ st₃ d₁ d₂ al t
    → (k ≤ a.k) × (4 * a.k ≤ length s₂) × (num st₃ + (a.k - k) + 1 < 2 ^ 64) × (off st₃ + 9 * (a.k - k) < 2 ^ 64)
elses-ask b s₁ s₂ k z al t a st₂ st₃ d₁ d₂ y l m = (
  l,
  omega (arith, y.seen.within, m.same),
  omega (arith, y.nums, m.nums, y.order, y.seen.within, y.seen.small),
  omega (arith, y.offs, m.offs, y.order, y.seen.within, y.seen.small),
)

-- where the elses end
pub elsed-off : (s₂ : List ℕ) (k i n : ℕ) (st₃ st₄ : State) (d₂ d₃ : List ℕ) → Elsed (pairs_at s₂ k (i - k)) st₃ st₄ d₂ d₃ n → off st₄ ≤ off st₃ + 9 * (i - k)
elsed-off s₂ k i n st₃ st₄ d₂ d₃ z =
    let ps = pairs_at s₂ k (i - k) in
    let rs = elses_of 0 ps (num st₃) in
    omega (arith, ap off (z.state 0), (elses-few 0 ps (num st₃)).1, pairs-length s₂ k (i - k))

-- there is a pair
pub some_pair : (b s s₁ : List ℕ) (p k al : ℕ) (a : Run) (st₁ st₂ : State) (d d₁ : List ℕ) → get_or b p 0 ≡ 0xA6 → Stands b p → Paired b (p + 3) (end_of b p) s s₁ k st₁ st₂ d d₁ al a → k + 1 ≤ a.k
unfolding pair_count
some_pair b s s₁ p k al a st₁ st₂ d d₁ e g m = on-ite b p (λ _. k + 1 ≤ a.k) e (λ c u bs n. omega (arith, (m.at (b_pair (p + 3) c u bs) n.pairs).1)) g.0 g.1

-- behind the members
pub place-fits : (b s : List ℕ) (k p z o w : ℕ) (st st₁ st₂ : State) → Ready b s k p z st → st₁ ≡ with_off st (start_of o (off st) w) → w ≤ 2097152 → off st₂ ≤ off st₁ + 2 ^ 30
    → (off st₂ + w < 2 ^ 64) × (off st₂ ≤ 2 ^ 40)
place-fits b s k p z o w st st₁ st₂ y e h l =
    let g : off st₂ ≤ 2 ^ 40 = omega (arith, y.offs, off-off st st₁ (start_of o (off st) w) e, (start-le o (off st) w).1, h, l) in
    (omega (arith, g, h), g)

-- where the own record stands
pub own-fits : (b s : List ℕ) (k p z o w x : ℕ) (st st₁ st₂ : State) → Ready b s k p z st → Placed o st → st₁ ≡ with_off st (start_of o (off st) w) → w ≤ 2097152 → off st₂ ≤ off st₁ + 2 ^ 30 → x ≡ spot_of o (off st₂)
    → x + w < 2 ^ 64
own-fits b s k p z o w x st st₁ st₂ y g e h l i =
    spot-fits o x (off st₂) w st g (omega (arith, y.offs)) i (omega (arith, (place-fits b s k p z o w st st₁ st₂ y e h l).1)) h

-- the cells before the rows are there
pub cells-there : (b s : List ℕ) (k p z : ℕ) (st : State) → Ready b s k p z st → 9 ≤ length s
cells-there b s k p z st y = omega (arith, y.seen.within, heads-below y.view b s k y.seen)

-- a term without members
pub bare-fits : (b s : List ℕ) (k p z o : ℕ) (st : State) → Ready b s k p z st → Placed o st → (o + 3 < 2 ^ 63) × (off st + 3 < 2 ^ 63)
bare-fits b s k p z o st y g = (omega (arith, placed-small o st g (omega (arith, y.offs))), omega (arith, y.offs))

pub else-bare : (b : List ℕ) (q z : ℕ) (s : List ℕ) (k r : ℕ) (st st₁ : State) (d d₁ : List ℕ) (al : ℕ) → z ≤ q → off st < late → (bs : Branches) × Row b (f_branches bs) q z × (pair_count bs ≡ 0)
    → (r ≡ 0) × (st₁ ≡ with_off st (next_of late (start_of late (off st) 3) 3)) × (d₁ ≡ overlay d (spot_of late (start_of late (off st) 3)) (field 0x50 []))
    → Else b q z s s k st st₁ d d₁ al r
else-bare b q z s k r st st₁ d d₁ al l h g e = subst (λ (x : ℕ). Else b q z s s k st st₁ d d₁ al x) (sym e.0) (else-none b q z s k (spot_of late (start_of late (off st) 3)) st st₁ d d₁ al l h g refl e.1 e.2)

-- ---- a conditional's places as the code has them

pub ite-at : (b s : List ℕ) (k p z : ℕ) {st : State} → z ≡ end_of b p → Ready b s k (p + 3) (end_of b p) st × (end_of b p ≤ length b) × ((bs : Branches) × Row b (f_branches bs) (p + 3) (end_of b p))
    → Ready b s k (p + 3) z st × ((bs : Branches) × Row b (f_branches bs) (p + 3) z)
ite-at b s k p z {st} e w = subst (λ (x : ℕ). Ready b s k (p + 3) x st × ((bs : Branches) × Row b (f_branches bs) (p + 3) x)) (sym e) (w.0, w.2)

pub paired_at : (b : List ℕ) (p z : ℕ) (s s₁ : List ℕ) (k : ℕ) (st st₁ : State) (d d₁ : List ℕ) (al : ℕ) (a : Run) → z ≡ end_of b p → Paired b (p + 3) z s s₁ k st st₁ d d₁ al a → Paired b (p + 3) (end_of b p) s s₁ k st st₁ d d₁ al a
paired_at b p z s s₁ k st st₁ d d₁ al a e m = subst (λ (x : ℕ). Paired b (p + 3) x s s₁ k st st₁ d d₁ al a) e m

pub else-at : (b : List ℕ) (p q z : ℕ) (s s₁ : List ℕ) (k : ℕ) (st st₁ : State) (d d₁ : List ℕ) (al t : ℕ) → z ≡ end_of b p → Else b q z s s₁ k st st₁ d d₁ al t → Else b q (end_of b p) s s₁ k st st₁ d d₁ al t
else-at b p q z s s₁ k st st₁ d d₁ al t e m = subst (λ (x : ℕ). Else b q x s s₁ k st st₁ d d₁ al t) e m

-- where a conditional's own record stands
pub ite-place : (b s₁ s₂ : List ℕ) (k z al t : ℕ) (a : Run) (st₂ st₃ st₄ : State) (d₁ d₂ d₃ : List ℕ) (n : ℕ) → Ready b s₁ a.k a.q z st₂ → k ≤ a.k → Else b a.q z s₁ s₂ a.k st₂ st₃ d₁ d₂ al t → Elsed (pairs_at s₂ k (a.k - k)) st₃ st₄ d₂ d₃ n
    → (off st₄ + 9 < 2 ^ 64) × (off st₄ ≤ 2 ^ 41)
ite-place b s₁ s₂ k z al t a st₂ st₃ st₄ d₁ d₂ d₃ n y l m h =
    let i = elsed-off s₂ k a.k n st₃ st₄ d₂ d₃ h in
    let g : off st₄ ≤ 2 ^ 41 = omega (arith, y.offs, m.offs, y.order, y.within, y.small, y.seen.within, y.seen.small, i) in
    (omega (arith, g), g)

pub ite-own : (b s s₁ s₂ : List ℕ) (k p z z' al t : ℕ) (a : Run) (o x : ℕ) (st st₂ st₃ st₄ : State) (d₁ d₂ d₃ : List ℕ) (n : ℕ) → Ready b s k p z' st → Placed o st
    → Ready b s₁ a.k a.q z st₂ → k ≤ a.k → Else b a.q z s₁ s₂ a.k st₂ st₃ d₁ d₂ al t → Elsed (pairs_at s₂ k (a.k - k)) st₃ st₄ d₂ d₃ n
    → x ≡ spot_of o (off st₄) → k + 1 ≤ a.k
    → (4 * k + 4 ≤ length s₂) × (x + 9 < 2 ^ 64)
ite-own b s s₁ s₂ k p z z' al t a o x st st₂ st₃ st₄ d₁ d₂ d₃ n y₀ g y l m h i j =
    (omega (arith, y.seen.within, m.same, j), spot-fits o x (off st₄) 9 st g (omega (arith, y₀.offs)) i (omega (arith, (ite-place b s₁ s₂ k z al t a st₂ st₃ st₄ d₁ d₂ d₃ n y l m h).1)) (omega arith))

-- ---- the same, by what the members' contracts say

module _ (b s : List ℕ) (k p z o w : ℕ) (st st₁ : State) where
  pub place-laid : (st₂ : State) (q : ℕ) (s₁ s₂ : List ℕ) (i : ℕ) (d d₁ : List ℕ) (al r : ℕ) → Ready b s k p z st → st₁ ≡ with_off st (start_of o (off st) w) → w ≤ 2097152
      → Laid b q s₁ s₂ i st₁ st₂ d d₁ al r → end_of b q ≤ length b → off st₂ + w < 2 ^ 64
  place-laid st₂ q s₁ s₂ i d d₁ al r y e h m g = (place-fits b s k p z o w st st₁ st₂ y e h (omega (arith, m.paid.offs, g, y.small))).0

  pub own-laid : (x : ℕ) (st₂ : State) (q : ℕ) (s₁ s₂ : List ℕ) (i : ℕ) (d d₁ : List ℕ) (al r : ℕ) → Ready b s k p z st → Placed o st → st₁ ≡ with_off st (start_of o (off st) w) → w ≤ 2097152
      → Laid b q s₁ s₂ i st₁ st₂ d d₁ al r → end_of b q ≤ length b → x ≡ spot_of o (off st₂) → x + w < 2 ^ 64
  own-laid x st₂ q s₁ s₂ i d d₁ al r y j e h m g l = own-fits b s k p z o w x st st₁ st₂ y j e h (omega (arith, m.paid.offs, g, y.small)) l

  pub place-or : (st₂ : State) (q q' : ℕ) (s₁ s₂ : List ℕ) (i : ℕ) (d d₁ : List ℕ) → Ready b s k p z st → st₁ ≡ with_off st (start_of o (off st) w) → w ≤ 2097152
      → OrEmpty b q q' s₁ s₂ i st₁ st₂ d d₁ → q' ≤ length b → off st₂ + w < 2 ^ 64
  place-or st₂ q q' s₁ s₂ i d d₁ y e h m g = (place-fits b s k p z o w st st₁ st₂ y e h (omega (arith, m.offs, g, y.small))).0

  pub own-or : (x : ℕ) (st₂ : State) (q q' : ℕ) (s₁ s₂ : List ℕ) (i : ℕ) (d d₁ : List ℕ) → Ready b s k p z st → Placed o st → st₁ ≡ with_off st (start_of o (off st) w) → w ≤ 2097152
      → OrEmpty b q q' s₁ s₂ i st₁ st₂ d d₁ → q' ≤ length b → x ≡ spot_of o (off st₂) → x + w < 2 ^ 64
  own-or x st₂ q q' s₁ s₂ i d d₁ y j e h m g l = own-fits b s k p z o w x st st₁ st₂ y j e h (omega (arith, m.offs, g, y.small)) l

  pub place-both : (st₂ st₃ : State) (q : ℕ) (s₁ s₂ : List ℕ) (i : ℕ) (d d₁ : List ℕ) (al r q₁ q₂ : ℕ) (s₃ : List ℕ) (d₂ : List ℕ) → Ready b s k p z st → st₁ ≡ with_off st (start_of o (off st) w) → w ≤ 2097152
      → Laid b q s₁ s₂ i st₁ st₂ d d₁ al r → end_of b q ≤ length b → OrEmpty b q₁ q₂ s₂ s₃ i st₂ st₃ d₁ d₂ → q₂ ≤ length b → off st₃ + w < 2 ^ 64
  place-both st₂ st₃ q s₁ s₂ i d d₁ al r q₁ q₂ s₃ d₂ y e h m g n j = (place-fits b s k p z o w st st₁ st₃ y e h (omega (arith, m.paid.offs, g, n.offs, j, y.small))).0

  pub own-both : (x : ℕ) (st₂ st₃ : State) (q : ℕ) (s₁ s₂ : List ℕ) (i : ℕ) (d d₁ : List ℕ) (al r q₁ q₂ : ℕ) (s₃ : List ℕ) (d₂ : List ℕ) → Ready b s k p z st → Placed o st → st₁ ≡ with_off st (start_of o (off st) w) → w ≤ 2097152
      → Laid b q s₁ s₂ i st₁ st₂ d d₁ al r → end_of b q ≤ length b → OrEmpty b q₁ q₂ s₂ s₃ i st₂ st₃ d₁ d₂ → q₂ ≤ length b → x ≡ spot_of o (off st₃) → x + w < 2 ^ 64
  own-both x st₂ st₃ q s₁ s₂ i d d₁ al r q₁ q₂ s₃ d₂ y f e h m g n j l = own-fits b s k p z o w x st st₁ st₃ y f e h (omega (arith, m.paid.offs, g, n.offs, j, y.small)) l

-- ---- terms without members, by what is asked of them

spot-of : (o m w x : ℕ) → x ≡ spot_of o (start_of o m w) → (x ≤ m + w) ⊎ (x ≡ o)
unfolding spot_of
spot-of o m w x e = go (eqb o late) e
  where
    go : (t : Bool) → x ≡ cond t (start_of o m w) o → (x ≤ m + w) ⊎ (x ≡ o)
    go true i = inl (omega (arith, i, (start-le o m w).1))
    go false i = inr i

pub bare-spot : (o : Option ℕ) (x : ℕ) (st : State) → at_of o + 3 < 2 ^ 63 → off st + 3 < 2 ^ 63 → x ≡ spot_at o (start_at o (off st) 3) → x + 3 < 2 ^ 64
bare-spot o x st h l e = omega (arith, e, spot-most o (start_at o (off st) 3) (2 ^ 63) (omega (arith, h)) (omega (arith, l, start-most o (off st) 3)))

pub bare-is : (o : Option ℕ) (x tag : ℕ) (st st₁ : State) (d d₁ : List ℕ) → (x ≡ spot_at o (start_at o (off st) 3)) × (st₁ ≡ with_off st (next_at o (start_at o (off st) 3) 3)) → d₁ ≡ overlay d x (field tag [])
    → (◌≡◌ {A = ℕ} 0 0) × (st₁ ≡ with_off st (next_at o (start_at o (off st) 3) 3)) × (d₁ ≡ overlay d (spot_at o (start_at o (off st) 3)) (field tag []))
bare-is o x tag st st₁ d d₁ m e = (refl, m.1, e ∙ ap (λ (y : ℕ). overlay d y (field tag [])) m.0)

pub alone-small : (o w : ℕ) (st : State) → Placed o st → off st ≤ 2 ^ 36 → w ≤ 2097152 → (o + w + w < 2 ^ 64) × (off st + w < 2 ^ 64)
alone-small o w st g l h = (omega (arith, placed-small o st g (omega (arith, l)), h), omega (arith, l, h))

pub alone-spot : (o w x : ℕ) (st : State) → Placed o st → off st ≤ 2 ^ 36 → w ≤ 2097152 → x ≡ spot_of o (start_of o (off st) w) → x + w < 2 ^ 64
alone-spot o w x st g l h e = go (spot-of o (off st) w x e)
  where
    go : (x ≤ off st + w) ⊎ (x ≡ o) → x + w < 2 ^ 64
    go (inl i) = omega (arith, i, l, h)
    go (inr i) = omega (arith, i, placed-small o st g (omega (arith, l)), h)

pub text-fits : (b : List ℕ) (p z o x : ℕ) (st : State) → Placed o st → off st ≤ 2 ^ 36 → z ≡ end_of b p → end_of b p ≤ length b → length b ≤ 32768 → x ≡ spot_of o (start_of o (off st) (z - p))
    → x + 3 + length (take (z - (p + 3)) (drop (p + 3) b)) < 2 ^ 64
text-fits b p z o x st g l e h m i = omega (arith, alone-spot o (z - p) x st g l (omega (arith, e, h, m)) i, part_length b p z e h, e)

-- the state behind an error
pub error-state : (st st₁ : State) (x : ℕ) → st₁ ≡ with_ers st x → off st₁ ≡ off st
error-state st st₁ x e = ap off e

pub lost-fits : (b s : List ℕ) (k p z o x : ℕ) (st st₁ : State) → Ready b s k p z st → Placed o st → st₁ ≡ with_ers st x → (o + 3 < 2 ^ 63) × (off st₁ + 3 < 2 ^ 63)
lost-fits b s k p z o x st st₁ y g e =
    let w = error-state st st₁ x e in
    (omega (arith, placed-small o st g (omega (arith, y.offs))), omega (arith, w, y.offs))

pub note-laid : (b s s₁ : List ℕ) (i p z a q : ℕ) (st st₁ : State) (d d₁ : List ℕ) (al r : ℕ) → Ready b s i p z st → p < z → p + 3 ≤ length b → Laid b q s s₁ i st st₁ d d₁ al r → a ≡ num st → (4 * i + 4 ≤ length s₁) × (a < 65536) × (6 < 8)
note-laid b s s₁ i p z a q st st₁ d d₁ al r y l h m f = note-asks b s s₁ i p z a st y l h m.paid.same f
