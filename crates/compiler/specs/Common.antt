-- What every form's law uses: what stores leave of the state, how far an own record moves the next offset, and a form's promise from its parts.
-- Assumes nothing.
use Rattle.std.specs.Prelude.{ℕ, ◌+◌, ◌*◌, ◌≤◌, ◌<◌, ◌≡◌, refl, Bool, true, false, cond, List, [], ◌∷◌, ◌++◌, eqb, length, set, take}
use Rattle.std.proofs.Common.{arith, sym, ap, subst, ◌∙◌, length-set, eqb-true}
use Rattle.tree.specs.Rose.{end_of}
use Rattle.tree.specs.Tree.{Term}
use Rattle.fields.specs.Number.{number}
use Rattle.fields.specs.Field.{field}
use Rattle.fields.specs.Room.{overlay}
use Rattle.rules.specs.Table.{Rec, Node, Err}
use Rattle.rules.specs.Tails.{Tail}
use Rattle.rules.specs.Outs.{Out, node}
use Rattle.rules.specs.Listing.{node_bytes, rec_bytes, table_bytes}
use Rattle.rules.specs.Rules.{term}
use Rattle.reads.specs.Bytes.{TermAt}
use Rattle.reads.specs.Shapes.{term_fits}
use Rattle.puts.specs.declared.state.State.{State}
use Rattle.puts.specs.State.{num, off, ers, late, start_of, spot_of, next_of, Put, Own, with_num, with_off}
use Rattle.puts.specs.Rooms.{own-one}
use Rattle.cells.specs.Cells.{View, Seen, env_of, number_at, last_at}
use Rattle.compiler.specs.Post.{Ready, Stands, Paid, Did}

-- ---- stores into the state

module _ (st st₁ : State) (x : ℕ) where
  pub off-num : st₁ ≡ with_off st x → num st₁ ≡ num st
  off-num e = ap num e

  pub off-ers : st₁ ≡ with_off st x → ers st₁ ≡ ers st
  off-ers e = ap ers e

  pub off-off : st₁ ≡ with_off st x → off st₁ ≡ x
  off-off e = ap off e

  pub num-off : st₁ ≡ with_num st x → off st₁ ≡ off st
  num-off e = ap off e

  pub num-ers : st₁ ≡ with_num st x → ers st₁ ≡ ers st
  num-ers e = ap ers e

  pub num-num : st₁ ≡ with_num st x → num st₁ ≡ x
  num-num e = ap num e

-- a store into a list keeps the length
module _ (st st₁ : List ℕ) (x : ℕ) where
  pub off-len : st₁ ≡ set st 1 x → length st₁ ≡ length st
  off-len e = ap length e ∙ length-set st 1 x

  pub num-len : st₁ ≡ set st 0 x → length st₁ ≡ length st
  num-len e = ap length e ∙ length-set st 0 x

-- ---- where the next offset is, an own record of w bytes being due at o

pub start-le : (o m w : ℕ) → (m ≤ start_of o m w) × (start_of o m w ≤ m + w)
unfolding start_of
start-le o m w = go (eqb o m) refl
  where
    go : (t : Bool) → eqb o m ≡ t → (m ≤ cond t (o + w) m) × (cond t (o + w) m ≤ m + w)
    go true e = let i : o ≡ m = eqb-true o m e in (omega (arith, i), omega (arith, i))
    go false e = (omega arith, omega arith)

pub next_le : (o x w : ℕ) → (x ≤ next_of o x w) × (next_of o x w ≤ x + w)
unfolding next_of
next_le o x w = go (eqb o late)
  where
    go : (t : Bool) → (x ≤ cond t (x + w) x) × (cond t (x + w) x ≤ x + w)
    go true = (omega arith, omega arith)
    go false = (omega arith, omega arith)

-- it is reserved before the members or put behind them, not both
pub place-le : (o m w l : ℕ) → m < late → next_of o (start_of o m w + l) w ≤ m + w + l
unfolding start_of next_of
place-le o m w l h = go (eqb o m) (eqb o late) refl refl
  where
    go : (t u : Bool) → eqb o m ≡ t → eqb o late ≡ u → cond u (cond t (o + w) m + l + w) (cond t (o + w) m + l) ≤ m + w + l
    go true true e f = absurd (omega (arith, h, eqb-true o m e, eqb-true o late f))
    go true false e f = omega (arith, eqb-true o m e)
    go false true e f = omega arith
    go false false e f = omega arith

pub own-off : (q : Out) (o : ℕ) (st st' : State) (d d' : List ℕ) → off st < late → Own q o st st' d d' → off st' ≤ off st + length (rec_bytes 2 q.self) + length (table_bytes 2 q.more)
own-off q o st st' d d' h a = omega (arith, a.offs, place-le o (off st) (length (rec_bytes 2 q.self)) (length (table_bytes 2 q.more)) h)

-- ---- a form's promise from its parts

-- of one view and one term
pub record Made (b : List ℕ) (p : ℕ) (q : Out) (o : ℕ) (st st' : State) (d d' : List ℕ) (r : ℕ) : Type 0 where
  pub own : Own q o st st' d d'
  pub tail : r ≡ q.tail
  pub wide : length (rec_bytes 2 q.self) + length (table_bytes 2 q.more) + 64 * (p + 2) ≤ 64 * end_of b p

pub made-node : (b : List ℕ) (p : ℕ) (n : Node) (ms : List Rec) (es : List Err) (a : Tail) (o w : ℕ) (st st' : State) (d d' : List ℕ)
    → Own (node p n ms es a) o st st' d d' → w ≡ length (node_bytes 2 n) → w + length (table_bytes 2 ms) + 64 * (p + 2) ≤ 64 * end_of b p
    → Made b p (node p n ms es a) o st st' d d' a
made-node b p n ms es a o w st st' d d' i e h = record { own = i; tail = refl; wide = omega (arith, e, h) }

pub did_of : (b : List ℕ) (p : ℕ) (s s' : List ℕ) (k o : ℕ) (st st' : State) (d d' : List ℕ) (al r : ℕ)
    → Ready b s k (p + 1) (end_of b p) st → Stands b p
    → ((vw : View) → Seen vw b s k → (t : Term) → TermAt b t p → Made b p (term vw.top t (env_of vw b s k) (num st) al) o st st' d d' r)
    → take (4 * k) s' ≡ take (4 * k) s → length s' ≡ length s
    → num st' + 2 * (p + 2) ≤ num st + 2 * end_of b p
    → ers st' + 64 * (p + 2) ≤ ers st + 64 * end_of b p
    → Did b p s s' k o st st' d d' al r
did_of b p s s' k o st st' d d' al r y g f e l n x =
    let m = f y.view y.seen g.0 g.1 in
    record {
      is = λ vw h t i. ((f vw h t i).own, (f vw h t i).tail);
      wide = λ vw h t i. (f vw h t i).wide;
      paid =
          record {
            kept = e;
            same = l;
            nums = n;
            offs = omega (arith, m.wide, own-off (term y.view.top g.0 (env_of y.view b s k) (num st) al) o st st' d d' (omega (arith, y.offs, y.small, term_fits b g.0 p g.1)) m.own);
            errs = x;
          };
    }

-- What every form with members does: w bytes are reserved, what the members are and contain is put, and the own record goes to its place. `f` says, of every
-- view and term, that what was put is what the rules say
pub form-did : (b : List ℕ) (p : ℕ) (s s' : List ℕ) (k o w x : ℕ) (st st₁ st₂ st₃ : State) (d d₁ d₂ : List ℕ) (al r : ℕ) (n : Node)
    → Ready b s k (p + 1) (end_of b p) st → Stands b p
    → st₁ ≡ with_off st (start_of o (off st) w)
    → ((vw : View) → Seen vw b s k → (t : Term) → TermAt b t p → (ms : List Rec) × (es : List Err) × (term vw.top t (env_of vw b s k) (num st) al ≡ node p n ms es r) × Put ms es st₁ st₂ d d₁)
    → w ≡ length (node_bytes 2 n)
    → x ≡ spot_of o (off st₂) → st₃ ≡ with_off st₂ (next_of o (off st₂) w) → d₂ ≡ overlay d₁ x (node_bytes 2 n)
    → take (4 * k) s' ≡ take (4 * k) s → length s' ≡ length s
    → num st₂ + 2 * (p + 2) ≤ num st₁ + 2 * end_of b p
    → off st₂ + w + 64 * (p + 2) ≤ off st₁ + 64 * end_of b p
    → ers st₂ + 64 * (p + 2) ≤ ers st₁ + 64 * end_of b p
    → Did b p s s' k o st st₃ d d₂ al r
form-did b p s s' k o w x st st₁ st₂ st₃ d d₁ d₂ al r n y g e₁ f w₁ i e₃ j u l h₁ h₂ h₃ =
    did_of b p s s' k o st st₃ d d₂ al r y g made u l
    (omega (arith, h₁, off-num st st₁ (start_of o (off st) w) e₁, off-num st₂ st₃ (next_of o (off st₂) w) e₃))
    (omega (arith, h₃, off-ers st st₁ (start_of o (off st) w) e₁, off-ers st₂ st₃ (next_of o (off st₂) w) e₃))
  where
    made : (vw : View) → Seen vw b s k → (t : Term) → TermAt b t p → Made b p (term vw.top t (env_of vw b s k) (num st) al) o st st₃ d d₂ r
    made vw v t a =
        let m = f vw v t a in
        let c : Put m.0 m.1 st₁ st₂ d d₁ = m.3 in
        subst (λ (q : Out). Made b p q o st st₃ d d₂ r) (sym m.2)
        (made-node b p n m.0 m.1 r o w st st₃ d d₂ (own-one p n r m.0 m.1 o w x st st₁ st₂ st₃ d d₁ d₂ w₁ e₁ c i e₃ j) w₁ (omega (arith, h₂, c.offs)))

-- what is ready at p for a form is ready from q up to z within it, where i rows more are in view, room being reserved
pub ready_at : (b s s₁ : List ℕ) (k i p q z o w : ℕ) (st st₁ : State) → Ready b s k (p + 1) (end_of b p) st → st₁ ≡ with_off st (start_of o (off st) w) → w ≤ 1048576
    → p + 2 ≤ q → p + 1 + 3 * i ≤ q → q ≤ z → z ≤ end_of b p → length s₁ ≡ length s → ((vw : View) → Seen vw b s k → Seen vw b s₁ (k + i))
    → Ready b s₁ (k + i) q z st₁
ready_at b s s₁ k i p q z o w st st₁ y e h g₁ g₂ g₃ g₄ l f =
    record {
      small = y.small;
      view = y.view;
      seen = f y.view y.seen;
      order = g₃;
      within = omega (arith, g₄, y.within);
      spare = omega (arith, y.spare, l, g₂, g₃, g₄, y.within);
      nums = omega (arith, y.nums, off-num st st₁ (start_of o (off st) w) e, g₁, g₃, g₄);
      offs = omega (arith, y.offs, off-off st st₁ (start_of o (off st) w) e, (start-le o (off st) w).1, g₁, g₃, g₄, h);
      errs = omega (arith, y.errs, off-ers st st₁ (start_of o (off st) w) e, g₁, g₃, g₄);
    }

-- and what is ready from q up to z is ready behind what was compiled from q' up to x
pub ready-then : (b s s₁ : List ℕ) (k i q q' x z z' : ℕ) (st st₁ : State) → Ready b s k q z st → Paid q' x k s s₁ st st₁ → q ≤ q' → q' ≤ x → q + 3 * i ≤ x → x ≤ z' → z' ≤ z
    → ((vw : View) → Seen vw b s k → Seen vw b s₁ (k + i)) → Ready b s₁ (k + i) x z' st₁
ready-then b s s₁ k i q q' x z z' st st₁ y a h g₀ g₁ g₂ g₃ f =
    record {
      small = y.small;
      view = y.view;
      seen = f y.view y.seen;
      order = g₂;
      within = omega (arith, g₃, y.within);
      spare = omega (arith, y.spare, a.same, g₁, g₂, g₃, y.within);
      nums = omega (arith, y.nums, a.nums, h, g₀, g₂, g₃);
      offs = omega (arith, y.offs, a.offs, h, g₀, g₂, g₃);
      errs = omega (arith, y.errs, a.errs, h, g₀, g₂, g₃);
    }

-- ---- a note

-- row k keeps the numbers a and c: what is left of the rows, s₁ being those before
pub record Noting (b s₁ s₂ : List ℕ) (k a c : ℕ) : Type 0 where
  pub seen : (vw : View) → Seen vw b s₁ k → Seen vw b s₂ (k + 1) × (env_of vw b s₂ (k + 1) ≡ env_of vw b s₁ k)
  pub kept : take (4 * k) s₂ ≡ take (4 * k) s₁
  pub same : length s₂ ≡ length s₁
  pub number : number_at s₂ k ≡ a
  pub last : last_at s₂ k ≡ c

-- ---- how long records of one, two, three numbers are

pub bare-long : (k : ℕ) → 3 ≡ length (field k [])
unfolding field number
bare-long k = refl

pub one-long : (k a : ℕ) → 5 ≡ length (field k (number 2 a))
unfolding field number
one-long k a = refl

pub two-long : (k a b : ℕ) → 7 ≡ length (field k (number 2 a ++ number 2 b))
unfolding field number
two-long k a b = refl

pub three-long : (k a b c : ℕ) → 9 ≡ length (field k (number 2 a ++ (number 2 b ++ number 2 c)))
unfolding field number
three-long k a b c = refl

pub mid-long : (k a x b : ℕ) → 8 ≡ length (field k (number 2 a ++ (x ∷ number 2 b)))
unfolding field number
mid-long k a x b = refl
