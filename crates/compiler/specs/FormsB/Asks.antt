-- The laws of operators, patterns and folds in the form in which the code's calls ask for them: places as results of calls, each by an equation. Assumes nothing.
use Rattle.std.specs.Prelude.{ℕ, ◌+◌, ◌-◌, ◌*◌, ◌^◌, ◌≤◌, ◌<◌, ◌≡◌, refl, ◌⊎◌, List, [], ◌∷◌, ◌++◌, true, length, get_or}
use Rattle.std.proofs.Common.{arith, sym, ap, subst, ◌∙◌, inl, inr}
use Rattle.std.specs.Int.Bits.{bit_or}
use Rattle.fields.specs.Number.{number}
use Rattle.fields.specs.Field.{field}
use Rattle.fields.specs.Room.{overlay}
use Rattle.tree.specs.Rose.{end_of}
use Rattle.tree.specs.Leaf.{is_operator}
use Rattle.tree.specs.Tree.{Pattern, operator_of, operator}
use Rattle.rules.specs.Table.{n_id}
use Rattle.rules.specs.Rows.{push_vars}
use Rattle.rules.specs.Outs.{left_allows, right_allows, binary, vars, leaf}
use Rattle.rules.specs.Listing.{node_bytes}
use Rattle.reads.specs.declared.width.Fold.{Fold}
use Rattle.reads.specs.Bytes.{PatternAt}
use Rattle.reads.specs.Widths.{pat_width, op_width}
use Rattle.reads.specs.Folds.{FoldOf}
use Rattle.reads.specs.Parts.{pattern-fits}
use Rattle.puts.specs.declared.state.State.{State}
use Rattle.puts.specs.State.{num, off, ers, late, start_of, spot_of, next_of, Own, with_num, with_off, with_ers}
use Rattle.puts.specs.Rooms.{own_alone, start-high, spot-within, placed-within}
use Rattle.cells.specs.Cells.{View, Seen, env_of, closed, Opened, noted, kind_at, head_at, last_at}
use Rattle.cells.specs.Notes.{pat_at, lasts_of, places_in}
use Rattle.rows.specs.Kept.{heads-below}
use Rattle.rows.specs.Opened.{close-ready}
use Rattle.compiler.specs.declared.Updated.{Updated}
use Rattle.compiler.specs.Post.{Ready, Stands, Placed, Did, Laid, Patterned}
use Rattle.compiler.specs.Pieces as pieces
use Rattle.compiler.specs.Pieces.{Under, Noted, Projected, Updating}
use Rattle.compiler.specs.Moves.{set-off, set-ers, NoteIs, note-is}
use Rattle.compiler.specs.FormsB.Operators as ops
use Rattle.compiler.specs.FormsB.Patterns as pats
use Rattle.compiler.specs.FormsB.Patterns.{Spare}
use Rattle.compiler.specs.FormsB.Members as mems
use Rattle.compiler.specs.FormsB.Members.{ItemsGo, KeyedGo}
use Rattle.compiler.specs.FormsB.Piping as pip
use Rattle.compiler.specs.FormsB.Piping.{PipedAt}
use Rattle.compiler.specs.FormsB.Folds as folds
use Rattle.compiler.specs.FormsB.Whole as whole

-- ---- room

-- the own record is reserved
pub reserve-room : (b s : List ℕ) (k p z o w : ℕ) (st : State) → Ready b s k p z st → Placed o st → w ≤ 2097152 → o + w < 2 ^ 64
reserve-room b s k p z o w st y at h = let u = placed-within o (off st) at (omega (arith, y.offs)) in omega (arith, u, h)

pub rows-some : (b s : List ℕ) (k p z : ℕ) (st : State) → Ready b s k p z st → 9 ≤ length s
rows-some b s k p z st y = omega (arith, y.seen.within, heads-below y.view b s k y.seen)

-- it is put: what was reserved and what the members put are little
pub put-room : (b s : List ℕ) (k p z o w x y₀ : ℕ) (st st₁ st₂ : State) → Ready b s k p z st → Placed o st → w ≤ 2097152 → st₁ ≡ with_off st (start_of o (off st) w)
    → off st₂ ≤ off st₁ + 64 * y₀ → y₀ ≤ 65536 → (off st₂ + w < 2 ^ 63) × (x ≡ spot_of o (off st₂) → x + w < 2 ^ 63)
put-room b s k p z o w x y₀ st st₁ st₂ y at h f l m =
    let t = set-off st st₁ (start_of o (off st) w) f in
    let g : off st₂ + w ≤ 137438953472 = omega (arith, y.offs, t.off, start-high o (off st) w, l, m, h) in
    let u = spot-within o (off st₂) late (placed-within o (off st) at (omega (arith, y.offs))) (omega (arith, g)) in
    (omega (arith, g), λ e. omega (arith, e, u, h))

-- ---- BinOp, Pipe

pub not-nine : (b : List ℕ) (p q : ℕ) → q ≡ end_of b (p + 3) → (get_or b (end_of b (p + 3)) 0 ≡ 0xB7) ⊎ (get_or b (end_of b (p + 3)) 0 ≡ 0xB9) → (get_or b q 0 ≡ 0xB9 → ⊥) → get_or b q 0 ≡ 0xB7
not-nine b p q e (inl h) n = ap (λ (i : ℕ). get_or b i 0) e ∙ h
not-nine b p q e (inr h) n = absurd (n (ap (λ (i : ℕ). get_or b i 0) e ∙ h))

pub has_more : (b : List ℕ) (q r : ℕ) → r ≡ end_of b q → (r ≡ q + 3 → ⊥) → q + 3 < end_of b q
has_more b q r e n = omega (arith, e, n)

pub binop-read : (b : List ℕ) (p q : ℕ) → get_or b p 0 ≡ 0xAD → q ≡ end_of b (p + 3) → get_or b q 0 ≡ 0xB9 → Stands b p → (q + 4 ≤ length b) × (is_operator (get_or b (q + 3) 0) ≡ true)
binop-read b p q e i n g =
    ops.on-bin b p q (get_or b (q + 3) 0) (λ _. (q + 4 ≤ length b) × (is_operator (get_or b (q + 3) 0) ≡ true)) e i n refl (λ u v a. (omega (arith, a.one, a.mid), a.is)) g.0 g.1

module _ (b : List ℕ) (p q : ℕ) (s : List ℕ) (k o w : ℕ) (st st₁ : State) (e : get_or b p 0 ≡ 0xAD) (i : q ≡ end_of b (p + 3)) (n : get_or b q 0 ≡ 0xB9)
    (y : Ready b s k (p + 1) (end_of b p) st) (g : Stands b p) (h : w ≡ op_width (get_or b (q + 3) 0)) (f : st₁ ≡ with_off st (start_of o (off st) w)) where
  pub binop-put : (s₁ s₂ : List ℕ) (z rl rr al₁ al₂ : ℕ) (st₂ st₃ : State) (d d₁ d₂ : List ℕ) → Placed o st → Laid b (p + 3) s s₁ k st₁ st₂ d d₁ al₁ rl → Laid b (q + 4) s₁ s₂ k st₂ st₃ d₁ d₂ al₂ rr
      → (off st₃ + w < 2 ^ 63) × (z ≡ spot_of o (off st₃) → z + w < 2 ^ 63) × (w ≤ 8)
  binop-put s₁ s₂ z rl rr al₁ al₂ st₂ st₃ d d₁ d₂ at ml mr =
      let x = get_or b (q + 3) 0 in
      let last : end_of b (q + 4) ≡ end_of b p = ops.on-bin b p q x (λ _. end_of b (q + 4) ≡ end_of b p) e i n refl (λ u v m. m.last) g.0 g.1 in
      let l : w ≤ 8 = omega (arith, h, ops.op-small x) in
      let r = put-room b s k (p + 1) (end_of b p) o w z (end_of b p) st st₁ st₃ y at (omega (arith, l)) f (omega (arith, ml.paid.offs, mr.paid.offs, i, last)) (omega (arith, y.within, y.small)) in
      (r.0, r.1, l)

  pub binop-ret : (s₁ s₂ : List ℕ) (a c z rl rr al₁ al₂ : ℕ) (st₂ st₃ st₄ : State) (d d₁ d₂ d₃ : List ℕ) (al : ℕ) → a ≡ num st₁
      → al₁ ≡ left_allows (operator_of (get_or b (q + 3) 0)) al → Laid b (p + 3) s s₁ k st₁ st₂ d d₁ al₁ rl → c ≡ num st₂
      → al₂ ≡ right_allows (operator_of (get_or b (q + 3) 0)) al → Laid b (q + 4) s₁ s₂ k st₂ st₃ d₁ d₂ al₂ rr
      → z ≡ spot_of o (off st₃) → st₄ ≡ with_off st₃ (next_of o (off st₃) w) → d₃ ≡ overlay d₂ z (node_bytes 2 (binary (operator (get_or b (q + 3) 0 ∷ [])) a c))
      → Did b p s s₂ k o st st₄ d d₃ al (bit_or rl rr)
  binop-ret s₁ s₂ a c z rl rr al₁ al₂ st₂ st₃ st₄ d d₁ d₂ d₃ al a₁ el ml c₂ er mr zx f₄ pt =
      ops.binop-did b p q (get_or b (q + 3) 0) s k o w st st₁ e i n refl y g h f s₁ s₂ a c z rl rr st₂ st₃ st₄ d d₁ d₂ d₃ al a₁
      (subst (λ (v : ℕ). Laid b (p + 3) s s₁ k st₁ st₂ d d₁ v rl) el ml) c₂ (subst (λ (v : ℕ). Laid b (q + 4) s₁ s₂ k st₂ st₃ d₁ d₂ v rr) er mr) zx f₄ pt

pub pipe-put : (b : List ℕ) (p q : ℕ) (s : List ℕ) (k o : ℕ) (st st₁ : State) → get_or b p 0 ≡ 0xAD → q ≡ end_of b (p + 3) → get_or b q 0 ≡ 0xB7 → end_of b q ≡ q + 3
    → Ready b s k (p + 1) (end_of b p) st → Stands b p → st₁ ≡ with_off st (start_of o (off st) 8)
    → (s₁ s₂ : List ℕ) (z rl rr al₁ al₂ : ℕ) (st₂ st₃ : State) (d d₁ d₂ : List ℕ) → Placed o st → Laid b (p + 3) s s₁ k st₁ st₂ d d₁ al₁ rl → Laid b (q + 3) s₁ s₂ k st₂ st₃ d₁ d₂ al₂ rr
    → (off st₃ + 8 < 2 ^ 63) × (z ≡ spot_of o (off st₃) → z + 8 < 2 ^ 63)
pipe-put b p q s k o st st₁ e i n j y g f s₁ s₂ z rl rr al₁ al₂ st₂ st₃ d d₁ d₂ at ml mr =
    let last : end_of b (q + 3) ≡ end_of b p = ops.on-bare-pipe b p q (λ _. end_of b (q + 3) ≡ end_of b p) e i n j (λ u v m. subst (λ (h : ℕ). end_of b h ≡ end_of b p) j m.last) g.0 g.1 in
    put-room b s k (p + 1) (end_of b p) o 8 z (end_of b p) st st₁ st₃ y at (omega arith) f (omega (arith, ml.paid.offs, mr.paid.offs, i, last)) (omega (arith, y.within, y.small))

-- a Pipe with a pattern
pub piped-here : (b : List ℕ) (p q : ℕ) → get_or b p 0 ≡ 0xAD → q ≡ end_of b (p + 3) → get_or b q 0 ≡ 0xB7 → q + 3 < end_of b q → Stands b p → PipedAt b p q
piped-here b p q e i n j g =
    pip.on-pattern-pipe b p q (λ _. PipedAt b p q) e i n j
    (λ u x v a xa xl. record { left = (u, a.left); pat = (x, xa); end = xl; right = (v, a.right); last = a.last; fits = a.fits }) g.0 g.1

-- ---- the right of a Pipe

pub bound_of : (b : List ℕ) (q : ℕ) (s s' : List ℕ) (k r : ℕ)
    → ((x : Pattern) → PatternAt b x q → (r ≡ k + length (vars x)) × ((vw : View) → Seen vw b s k → Seen vw b s' r × (env_of vw b s' r ≡ push_vars (vars x) (env_of vw b s k)))) × Opened s s' k r × (3 * r + q ≤ 3 * k + end_of b q)
    → pip.Bound b q s s' k r
bound_of b q s s' k r h = record { is = λ x a. (h.0 x a).1; back = h.1; few = h.2 }

module _ (b : List ℕ) (q : ℕ) (s : List ℕ) (k : ℕ) (st : State) (y : Ready b s k (q + 3) (end_of b (end_of b q)) st) (x : (x : Pattern) × PatternAt b x (q + 3)) (z : end_of b (q + 3) ≡ end_of b q)
    (u : Stands b (end_of b q)) (s₁ : List ℕ) (i j : ℕ) (h : pip.Bound b (q + 3) s s₁ k i) (e : j ≡ end_of b q) where
  pub under-iterm : Ready b s₁ i j (end_of b j) st × Stands b j
  under-iterm = subst (λ (l : ℕ). Ready b s₁ i l (end_of b l) st × Stands b l) (sym e) (pip.under-ready b q s k st (end_of b (end_of b q)) y (omega arith) x z u s₁ i h)

  module _ (s₂ : List ℕ) (st₁ : State) (d d₁ : List ℕ) (al r : ℕ) (m : Laid b j s₁ s₂ i st st₁ d d₁ al r) where
    laid : Laid b (end_of b q) s₁ s₂ i st st₁ d d₁ al r
    laid = subst (λ (l : ℕ). Laid b l s₁ s₂ i st st₁ d d₁ al r) e m

    pub under-shut : (4 * i ≤ length s₂) × (2 ≤ length s₂) × (k ≤ i) × ((j : ℕ) → k ≤ j → j < i → kind_at s₂ j < 6 → (head_at s₂ j < length s₂) × (head_at s₂ j < 4 * k))
    under-shut = let a = pip.under-close b q s k st (end_of b (end_of b q)) y (omega arith) x z u s₁ s₂ st₁ d d₁ i al r h laid in close-ready y.view b s₂ k i a.0 a.1 a.2

    pub under-ret : (s₃ : List ℕ) (c : ℕ) → c ≡ get_or s 1 0 → s₃ ≡ closed s₂ k i c → Under b q s s₃ k st st₁ d d₁ al r
    under-ret s₃ c f g = pip.under-is b q s k st (end_of b (end_of b q)) y (omega arith) x z u s₁ s₂ s₃ st₁ d d₁ i c al r h f laid g

-- ---- patterns

pub pattern-note : (b s s₁ : List ℕ) (k q n z : ℕ) (x : Pattern) → PatternAt b x q → Spare b s k q → n < 65536 → s₁ ≡ noted s k 6 n z → NoteIs b s s₁ k 6 n z
pattern-note b s s₁ k q n z x a h l e = note-is b s s₁ k 6 n z e (pats.pattern-room b s k q x a h) l (omega arith) (omega arith)

-- ---- the loops

module _ (b : List ℕ) (q : ℕ) (s₀ : List ℕ) (k₀ : ℕ) (st₀ : State) (d₀ : List ℕ) (p i j : ℕ) (s : List ℕ) (st : State) (d : List ℕ) (o : ItemsGo b q s₀ k₀ st₀ d₀ p i j s st d) (z : ℕ) (e : z ≡ end_of b q) (l : p < z) where
  pub items-fits : end_of b p ≤ length b
  items-fits = let a = (mems.items-pattern b q s₀ k₀ st₀ d₀ p i j s st d o (omega (arith, l, e)) (off st) (with_off (with_num st (num st + 1)) (off st + 11)) refl refl).2 in pattern-fits b a.0 p a.1

  pub items-ask : (x : ℕ) (st₁ : State) → x ≡ off st → st₁ ≡ with_off (with_num st (num st + 1)) (off st + 11)
      → Ready b s j (p + 1) (end_of b p) st₁ × Spare b s j p × ((y : Pattern) × PatternAt b y p) × (num st < 65536)
  items-ask x st₁ f g = mems.items-pattern b q s₀ k₀ st₀ d₀ p i j s st d o (omega (arith, l, e)) x st₁ f g

  pub items-again : (s₁ : List ℕ) (st₁ st₂ : State) (d₁ d₂ : List ℕ) (x r n p' : ℕ) → n ≡ num st → x ≡ off st → st₁ ≡ with_off (with_num st (num st + 1)) (off st + 11) → d₁ ≡ overlay d x (field 0x53 (number 8 i))
      → Patterned b p s s₁ j n st₁ st₂ d₁ d₂ r → p' ≡ end_of b p → ItemsGo b q s₀ k₀ st₀ d₀ p' (i + 1) r s₁ st₂ d₂
  items-again s₁ st₁ st₂ d₁ d₂ x r n p' nn f g h m pe =
      subst (λ (v : ℕ). ItemsGo b q s₀ k₀ st₀ d₀ v (i + 1) r s₁ st₂ d₂) (sym pe)
      (mems.items_more b q s₀ k₀ st₀ d₀ p i j s st d o s₁ st₁ st₂ d₁ d₂ x r (omega (arith, l, e)) f g h (subst (λ (v : ℕ). Patterned b p s s₁ j v st₁ st₂ d₁ d₂ r) nn m))

module _ (b : List ℕ) (q : ℕ) (s₀ : List ℕ) (k₀ : ℕ) (st₀ : State) (d₀ : List ℕ) (p j : ℕ) (s : List ℕ) (st : State) (d : List ℕ) (o : KeyedGo b q s₀ k₀ st₀ d₀ p j s st d) (z : ℕ) (e : z ≡ end_of b q) (l : p < z) where
  keyed-here : mems.KeyedAt b p (end_of b q)
  keyed-here = mems.keyed-at b q s₀ k₀ st₀ d₀ p j s st d o (omega (arith, l, e))

  pub keyed-ask : Ready b s j (p + 3) (end_of b (p + 3)) st × Stands b (p + 3) × (num st < 65536)
  keyed-ask = mems.keyed-key b q s₀ k₀ st₀ d₀ p j s st d o (omega (arith, l, e))

  -- where the entry and its key end
  pub keyed-ends : (end_of b (p + 3) ≤ length b) × (end_of b p ≤ length b) × (end_of b (p + 3) + 3 ≤ end_of b p) × (end_of b p ≤ z)
  keyed-ends = let a = keyed-here in (omega (arith, a.last, a.past, o.fits), omega (arith, a.past, o.fits), omega (arith, a.last), omega (arith, a.past, e))

  module _ (s₁ : List ℕ) (st₁ : State) (d₁ : List ℕ) (w y : ℕ) (m : Laid b (p + 3) s s₁ j st st₁ d d₁ 0 w) (ye : y ≡ end_of b (p + 3)) where
    pub keyed-ask-pattern : Ready b s₁ j (y + 1) (end_of b y) st₁ × Spare b s₁ j y × ((x : Pattern) × PatternAt b x y) × (num st < 65536)
    keyed-ask-pattern =
        let a = mems.keyed-pattern b q s₀ k₀ st₀ d₀ p j s st d o (omega (arith, l, e)) s₁ st₁ d₁ 0 w m in
        let c = subst (λ (v : ℕ). Ready b s₁ j (v + 1) (end_of b v) st₁ × Spare b s₁ j v × ((x : Pattern) × PatternAt b x v)) (sym ye) a in
        (c.0, c.1, c.2, keyed-ask.2)

    pub keyed-again : (s₂ : List ℕ) (st₂ : State) (d₂ : List ℕ) (r n p' : ℕ) → n ≡ num st → Patterned b y s₁ s₂ j n st₁ st₂ d₁ d₂ r → p' ≡ end_of b p → KeyedGo b q s₀ k₀ st₀ d₀ p' r s₂ st₂ d₂
    keyed-again s₂ st₂ d₂ r n p' nn c pe =
        subst (λ (v : ℕ). KeyedGo b q s₀ k₀ st₀ d₀ v r s₂ st₂ d₂) (sym pe)
        (mems.keyed-more b q s₀ k₀ st₀ d₀ p j s st d o s₁ s₂ st₁ st₂ d₁ d₂ 0 w r (omega (arith, l, e)) refl m
        (subst (λ (v : ℕ). Patterned b v s₁ s₂ j (num st) st₁ st₂ d₁ d₂ r) ye (subst (λ (v : ℕ). Patterned b y s₁ s₂ j v st₁ st₂ d₁ d₂ r) nn c)))

-- ---- folds

id-long : 3 ≡ length (node_bytes 2 n_id)
unfolding field number
id-long = refl

pub bare-own : (p o : ℕ) (st st₁ : State) (d d₁ : List ℕ) → st₁ ≡ with_off st (next_of o (start_of o (off st) 3) 3) → d₁ ≡ overlay d (spot_of o (start_of o (off st) 3)) (field 0x50 []) → Own (leaf p n_id) o st st₁ d d₁
bare-own p o st st₁ d d₁ e f = own_alone p n_id o 3 (spot_of o (start_of o (off st) 3)) st st₁ d d₁ id-long refl e f

pub unnoted-of : (b s s' : List ℕ) (k i : ℕ)
    → ((x : Pattern) (q : ℕ) → 0 < q → PatternAt b x q → lasts_of s k (i - k) ≡ places_in x
    → ((vw : View) → Seen vw b s k → Seen vw b s' i × (env_of vw b s' i ≡ push_vars (vars x) (env_of vw b s k))) × (pat_at s' x k ≡ pat_at s x k)) × Opened s s' k i
    → folds.Unnoted b s s' k i
unnoted-of b s s' k i h = record { is = h.0; back = h.1 }

pub notes-ask : (b s : List ℕ) (k i : ℕ) → Noted b s k i → (j : ℕ) → k ≤ j → j < i → (6 ≤ kind_at s j) × ((last_at s j ≡ 0 → ⊥) → end_of b (last_at s j) ≤ length b)
notes-ask b s k i n j l h = let c = n.fits j l h in (omega (arith, c.0), c.1)

-- ---- the projection

module _ (b : List ℕ) (p x u a kind : ℕ) (s : List ℕ) (k : ℕ) (st : State) (y : Ready b s k (end_of b u) (end_of b p) st) (g : pieces.Folding b p x u a kind) (j : ℕ) (h : kind ≡ 2) (e : j ≡ end_of b u) where
  pub project-ask : Ready b s k j (end_of b j) st × Stands b j
  project-ask = subst (λ (l : ℕ). Ready b s k l (end_of b l) st × Stands b l) (sym e) (folds.project-ready b p x u a kind s k st y g h)

  pub project-ret : (s₁ : List ℕ) (st₁ : State) (d d₁ : List ℕ) (al r : ℕ) → Laid b j s s₁ k st st₁ d d₁ al r → Projected b p u a s s₁ k st st₁ d d₁ al r
  project-ret s₁ st₁ d d₁ al r m = folds.project-two b p x u a kind s k st y g s₁ st₁ d d₁ al r h (subst (λ (l : ℕ). Laid b l s s₁ k st st₁ d d₁ al r) e m)

-- ---- room for own records that hold a pattern

pub piped-place : (b : List ℕ) (p q : ℕ) (s : List ℕ) (k o w pw : ℕ) (st st₁ : State) → get_or b p 0 ≡ 0xAD → q ≡ end_of b (p + 3) → get_or b q 0 ≡ 0xB7 → q + 3 < end_of b q
    → Ready b s k (p + 1) (end_of b p) st → Stands b p → ((x : Pattern) → PatternAt b x (q + 3) → pw ≡ pat_width x) → pw + 2 * (q + 3) + 2 ≤ 2 * end_of b (q + 3) → w ≡ 7 + pw
    → st₁ ≡ with_off st (start_of o (off st) w)
    → (s₁ s₂ s₃ : List ℕ) (rl rr r al : ℕ) (st₂ st₃ st₄ : State) (d d₁ d₂ d₃ : List ℕ) → Laid b (p + 3) s s₁ k st₁ st₂ d d₁ 0 rl → Under b q s₁ s₂ k st₂ st₃ d₁ d₂ al rr → Patterned b (q + 3) s₂ s₃ k 0 st₃ st₄ d₂ d₃ r
    → Placed o st → off st₄ + w < 2 ^ 64
piped-place b p q s k o w pw st st₁ e i n j y g wd wl wi f s₁ s₂ s₃ rl rr r al st₂ st₃ st₄ d d₁ d₂ d₃ ml mr mp at =
    (pip.piped-put b p q s k o w pw st st₁ e i n j y g wd wl wi f s₁ s₂ s₃ (num st₁) (num st₂) rl rr r (spot_of o (off st₄)) al st₂ st₃ st₄ d d₁ d₂ d₃ refl ml refl mr mp at refl).1

pub fold-place : (b : List ℕ) (p : ℕ) (f : Fold) → get_or b p 0 ≡ 0xAC → Stands b p → FoldOf b p f → 2 ≤ f.a
    → (s : List ℕ) (k o : ℕ) (st st₁ : State) → Ready b s k (p + 1) (end_of b p) st → st₁ ≡ with_off st (start_of o (off st) f.w)
    → (s₁ : List ℕ) (st₂ : State) (d d₁ : List ℕ) (w₁ : ℕ) → Laid b f.x s s₁ k st₁ st₂ d d₁ 0 w₁ → (s₂ : List ℕ) (st₃ : State) (d₂ : List ℕ) (i : ℕ) → Patterned b f.q s₁ s₂ k 0 st₂ st₃ d₁ d₂ i
    → (s₃ : List ℕ) (st₄ : State) (d₃ : List ℕ) (w₃ : ℕ) → Laid b f.i s₂ s₃ i st₃ st₄ d₂ d₃ 0 w₃ → (s₄ : List ℕ) (st₅ : State) (d₄ : List ℕ) (al : ℕ) (u : Updated) → Updating b p f.u f.a s₃ s₄ k i st₄ st₅ d₃ d₄ al u
    → Placed o st → off st₅ + f.w < 2 ^ 64
fold-place b p f e g fo two s k o st st₁ y r₁ s₁ st₂ d d₁ w₁ m₁ s₂ st₃ d₂ i m₂ s₃ st₄ d₃ w₃ m₃ s₄ st₅ d₄ al u m₄ at =
    (whole.fold-put b p f e g fo two s k o st st₁ y r₁ s₁ st₂ d d₁ w₁ m₁ s₂ st₃ d₂ i m₂ s₃ st₄ d₃ w₃ m₃ s₄ st₅ d₄ al (spot_of o (off st₅)) (num st₁) (num st₃) (num st₄) u m₄ refl refl refl at refl).1

pub bare-ask : (b s : List ℕ) (k p z o : ℕ) (st st₁ : State) → Ready b s k p z st → Placed o st → st₁ ≡ with_ers st (ers st + 11) → (o + 3 < 2 ^ 63) × (off st₁ + 3 < 2 ^ 63)
bare-ask b s k p z o st st₁ y at e =
    let t = set-ers st st₁ (ers st + 11) e in
    let r = placed-within o (off st) at (omega (arith, y.offs)) in
    (omega (arith, r), omega (arith, t.off, y.offs))

-- a fold of too few arguments: its error, and Id
pub fold-lost : (b : List ℕ) (p : ℕ) (f : Fold) (s : List ℕ) (k o : ℕ) (st st₁ st₂ : State) (d d₁ d₂ : List ℕ) (home at len ex al r : ℕ)
    → get_or b p 0 ≡ 0xAC → Ready b s k (p + 1) (end_of b p) st → Stands b p → FoldOf b p f → f.a < 2
    → home ≡ get_or s 3 0 → at ≡ p + 6 → len ≡ f.x - p - 6 → ex ≡ ers st → st₁ ≡ with_ers st (ers st + 11)
    → d₁ ≡ overlay d ex (field 0x2B (number 2 home ++ (number 2 at ++ number 2 len) ++ number 2 f.a))
    → (r ≡ 0) × (st₂ ≡ with_off st₁ (next_of o (start_of o (off st₁) 3) 3)) × (d₂ ≡ overlay d₁ (spot_of o (start_of o (off st₁) 3)) (field 0x50 []))
    → Did b p s s k o st st₂ d d₂ al r
fold-lost b p f s k o st st₁ st₂ d d₁ d₂ home at len ex al r e y g fo few hm ha hl hx ht hd w =
    let t = set-ers st st₁ (ers st + 11) ht in
    subst (λ (v : ℕ). Did b p s s k o st st₂ d d₂ al v) (sym w.0)
    (whole.fold-none b p f s k o st st₁ st₂ d d₁ d₂ home at len ex al e y g fo few hm ha hl hx ht hd (bare-own p o st₁ st₂ d₁ d₂ w.1 w.2))
