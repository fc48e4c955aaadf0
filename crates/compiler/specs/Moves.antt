-- Steps that the forms have in common: the state after a store, what a callee keeps in view, how what was paid adds up, and from what a form has put to what
-- its contract promises. Assumes nothing.
use Rattle.std.specs.Prelude.{ℕ, suc, ◌+◌, ◌*◌, ◌≤◌, ◌<◌, ◌≡◌, List, length, take}
use Rattle.std.proofs.Common.{arith, sym, ap, subst, ◌∙◌}
use Rattle.tree.specs.Tree.{Term}
use Rattle.rules.specs.Rows.{Env}
use Rattle.rules.specs.Outs.{slot}
use Rattle.rules.specs.Rules.{term}
use Rattle.puts.specs.declared.state.State.{State}
use Rattle.puts.specs.State.{num, off, ers, late, start_of, Put, with_num, with_off, with_ers}
use Rattle.puts.specs.Rooms.{start-high}
use Rattle.reads.specs.Bytes.{TermAt}
use Rattle.cells.specs.Cells.{View, Seen, env_of, number_at, last_at, kind_at, noted}
use Rattle.rows.specs.Kept.{seen-kept, below_less, below_at, below-ext}
use Rattle.rows.specs.Fields.{length-noted, noted-below, noted-number, noted-last, noted-kind}
use Rattle.rows.specs.Pushed.{seen-noted}
use Rattle.compiler.specs.Post.{Ready, Paid, Laid}

-- ---- the state after a store

pub record Stored (st₁ : State) (n o e : ℕ) : Type 0 where
  pub num : num st₁ ≡ n
  pub off : off st₁ ≡ o
  pub ers : ers st₁ ≡ e

pub set-num : (st st₁ : State) (x : ℕ) → st₁ ≡ with_num st x → Stored st₁ x (off st) (ers st)
set-num st st₁ x e = record { num = ap num e; off = ap off e; ers = ap ers e }

pub set-off : (st st₁ : State) (x : ℕ) → st₁ ≡ with_off st x → Stored st₁ (num st) x (ers st)
set-off st st₁ x e = record { num = ap num e; off = ap off e; ers = ap ers e }

pub set-ers : (st st₁ : State) (x : ℕ) → st₁ ≡ with_ers st x → Stored st₁ (num st) (off st) x
set-ers st st₁ x e = record { num = ap num e; off = ap off e; ers = ap ers e }

pub set_both : (st st₁ : State) (x y : ℕ) → st₁ ≡ with_off (with_num st x) y → Stored st₁ x y (ers st)
set_both st st₁ x y e = record { num = ap num e; off = ap off e; ers = ap ers e }

-- ---- what is kept

abbrev pub Keeps : List ℕ → List ℕ → List ℕ → ℕ → Type 0
Keeps b s s' k = (vw : View) → Seen vw b s k → Seen vw b s' k × (env_of vw b s' k ≡ env_of vw b s k)

pub keeps : (b s s' : List ℕ) (k p z : ℕ) (st st' : State) → Paid p z k s s' st st' → Keeps b s s' k
keeps b s s' k p z st st' h vw g = seen-kept vw b s s' k h.kept h.same g

-- what a callee that keeps more rows keeps
pub kept_less : (k k' : ℕ) (s s' : List ℕ) → k ≤ k' → take (4 * k') s' ≡ take (4 * k') s → take (4 * k) s' ≡ take (4 * k) s
kept_less k k' s s' h e = below_less (4 * k) (4 * k') s s' (omega (arith, h)) e

pub paid-less : (p z k k' : ℕ) (s s' : List ℕ) (st st' : State) → k ≤ k' → Paid p z k' s s' st st' → Paid p z k s s' st st'
paid-less p z k k' s s' st st' h a = record { kept = kept_less k k' s s' h a.kept; same = a.same; nums = a.nums; offs = a.offs; errs = a.errs }

-- one after the other; the second starts not before the first ends
pub paid-then : (p y x z k : ℕ) (s s₁ s₂ : List ℕ) (st st₁ st₂ : State) → y ≤ x → Paid p y k s s₁ st st₁ → Paid x z k s₁ s₂ st₁ st₂ → Paid p z k s s₂ st st₂
paid-then p y x z k s s₁ s₂ st st₁ st₂ h a c =
    record {
      kept = c.kept ∙ a.kept;
      same = c.same ∙ a.same;
      nums = omega (arith, h, a.nums, c.nums);
      offs = omega (arith, h, a.offs, c.offs);
      errs = omega (arith, h, a.errs, c.errs);
    }

-- less was asked for
pub paid-wider : (p x z y k : ℕ) (s s' : List ℕ) (st st' : State) → p ≤ x → z ≤ y → Paid x z k s s' st st' → Paid p y k s s' st st'
paid-wider p x z y k s s' st st' h g a = record { kept = a.kept; same = a.same; nums = omega (arith, h, g, a.nums); offs = omega (arith, h, g, a.offs); errs = omega (arith, h, g, a.errs) }

-- ---- a member that is ready: what was used up to here was paid for

-- the next offset is one
pub ready-low : (b s : List ℕ) (k p z : ℕ) (st : State) → Ready b s k p z st → off st < late
ready-low b s k p z st r = omega (arith, r.offs)

-- part of a region
pub ready-part : (b s : List ℕ) (k p p' z z' : ℕ) (st : State) → Ready b s k p z st → p ≤ p' → p' ≤ z' → z' ≤ z → Ready b s k p' z' st
ready-part b s k p p' z z' st r h g l =
    record {
      small = r.small;
      view = r.view;
      seen = r.seen;
      order = g;
      within = omega (arith, l, r.within);
      spare = omega (arith, h, r.spare);
      nums = omega (arith, h, g, l, r.nums);
      offs = omega (arith, h, g, l, r.offs);
      errs = omega (arith, h, g, l, r.errs);
    }

-- behind what was compiled from x up to y
pub ready-after : (b s s' : List ℕ) (k p x y z : ℕ) (st st' : State) → Ready b s k p z st → p ≤ x → x ≤ y → y ≤ z → Paid x y k s s' st st' → Ready b s' k y z st'
ready-after b s s' k p x y z st st' r h g l a =
    let v = keeps b s s' k x y st st' a r.view r.seen in
    record {
      small = r.small;
      view = r.view;
      seen = v.0;
      order = l;
      within = r.within;
      spare = omega (arith, h, g, r.spare, a.same);
      nums = omega (arith, h, g, l, r.nums, a.nums);
      offs = omega (arith, h, g, l, r.offs, a.offs);
      errs = omega (arith, h, g, l, r.errs, a.errs);
    }

-- the own record is reserved, and the first member stands from p' up to z'
pub ready-start : (b s : List ℕ) (k p p' z z' o w : ℕ) (st st₁ : State) → Ready b s k p z st → p + 2 ≤ p' → p' ≤ z' → z' ≤ z → w ≤ 2097152 → st₁ ≡ with_off st (start_of o (off st) w)
    → Ready b s k p' z' st₁
ready-start b s k p p' z z' o w st st₁ r h g l m e =
    let a = set-off st st₁ (start_of o (off st) w) e in
    record {
      small = r.small;
      view = r.view;
      seen = r.seen;
      order = g;
      within = omega (arith, l, r.within);
      spare = omega (arith, h, r.spare);
      nums = omega (arith, h, g, l, r.nums, a.num);
      offs = omega (arith, h, g, l, m, r.offs, a.off, start-high o (off st) w);
      errs = omega (arith, h, g, l, r.errs, a.ers);
    }

-- ---- a member's records, in the rule's own words

pub laid_as : (b : List ℕ) (p : ℕ) (s s' : List ℕ) (k : ℕ) (st st' : State) (d d' : List ℕ) (al r : ℕ) (vw : View) (e : Env) (n : ℕ) (t : Term)
    → Laid b p s s' k st st' d d' al r → Seen vw b s k → env_of vw b s k ≡ e → num st ≡ n → TermAt b t p
    → let q = term vw.top t e (suc n) al in Put (slot q) q.errs st st' d d' × (r ≡ q.tail)
laid_as b p s s' k st st' d d' al r vw e n t a g i j h =
    subst (λ (m : ℕ). let q = term vw.top t e (suc m) al in Put (slot q) q.errs st st' d d' × (r ≡ q.tail)) j
    (subst (λ (f : Env). let q = term vw.top t f (suc (num st)) al in Put (slot q) q.errs st st' d d' × (r ≡ q.tail)) i (a.is vw g t h))

-- ---- notes

-- row k is a note of two numbers, out of view
pub record NoteIs (b s s₁ : List ℕ) (k kind a z : ℕ) : Type 0 where
  pub seen : (vw : View) → Seen vw b s k → Seen vw b s₁ (k + 1) × (env_of vw b s₁ (k + 1) ≡ env_of vw b s k)
  pub kept : take (4 * k) s₁ ≡ take (4 * k) s
  pub same : length s₁ ≡ length s
  pub number : number_at s₁ k ≡ a
  pub last : last_at s₁ k ≡ z
  pub kinds : kind_at s₁ k ≡ kind

pub note-is : (b s s₁ : List ℕ) (k kind a z : ℕ) → s₁ ≡ noted s k kind a z → 4 * k + 4 ≤ length s → a < 65536 → 6 ≤ kind → kind < 8 → NoteIs b s s₁ k kind a z
note-is b s s₁ k kind a z e r h low high =
    subst (λ (t : List ℕ). NoteIs b s t k kind a z) (sym e)
    (record {
      seen = λ vw g. seen-noted vw b s k kind a z g r h low high;
      kept = below-ext (4 * k) s (noted s k kind a z) (length-noted s k kind a z r) (λ i l m. noted-below s k kind a z r i l);
      same = length-noted s k kind a z r;
      number = noted-number s k kind a z r h;
      last = noted-last s k kind a z r;
      kinds = noted-kind s k kind a z r high;
    })

-- rows below k are read as they were
pub number-kept : (s s' : List ℕ) (k j : ℕ) → take (4 * k) s' ≡ take (4 * k) s → j < k → number_at s' j ≡ number_at s j
number-kept s s' k j e h = rw (below_at (4 * k) s s' e (4 * j + 1) (omega (arith, h)))

pub last-kept : (s s' : List ℕ) (k j : ℕ) → take (4 * k) s' ≡ take (4 * k) s → j < k → last_at s' j ≡ last_at s j
last-kept s s' k j e h = below_at (4 * k) s s' e (4 * j + 3) (omega (arith, h))

pub kind-kept : (s s' : List ℕ) (k j : ℕ) → take (4 * k) s' ≡ take (4 * k) s → j < k → kind_at s' j ≡ kind_at s j
kind-kept s s' k j e h = rw (below_at (4 * k) s s' e (4 * j + 2) (omega (arith, h)))
