-- The loop of `sums`: from the last summand back, each is put, and the sum of those behind it. Assumes nothing.
use Prim.Native.Nat.{ℕ, zero, suc, ◌+◌, ◌-◌, ◌*◌, ◌^◌, ◌≤◌, ◌<◌}
use native.Mathlib.Omega.{arith}
use mathlib.Core.Path.{◌≡◌, refl, sym, ap, ap₂, subst, ◌∙◌}
use mathlib.Core.List.{List, [], ◌∷◌, ◌++◌, append-nil}
use lib.ListN.{length, get_or, drop, length-append, length-drop}
use lib.Seq.{drop-cons}
use Rattle.fields.specs.Number.{number}
use Rattle.fields.specs.Field.{field}
use Rattle.fields.specs.Room.{overlay, overlay-none}
use Rattle.puts.specs.Runs.{run-then}
use Rattle.puts.specs.Rooms.{table-append}
use Rattle.std.specs.Prelude.{Option, Some, None}
use Rattle.puts.specs.declared.state.State.{State}
use Rattle.puts.specs.State.{num, off, spot_at, next_at, at_of, with_num, with_off}
use Rattle.rules.specs.Table.{Rec, Node, n_id, n_math}
use Rattle.rules.specs.Listing.{node_bytes, table_bytes}
use Rattle.cells.specs.Notes.{summed}
use Rattle.records.specs.Steps.{Puts}
use Rattle.records.specs.Sums.{SummandIs, Summands, sizes, SumReady, OwnReady, SumsPut, SumPutAt}

-- ---- a sum's records, one summand more

module _ (p : ℕ) (t : Node) (n : ℕ) where
  abbrev rest : List Node → List Rec
  rest ts = (summed p t n ts).more

  abbrev own : List Node → Node
  own ts = (summed p t n ts).self

  sum_more : (x : Node) (ts : List Node) → 0 < length ts → rest (x ∷ ts) ≡ rest ts ++ (record { place = p; node = x } ∷ record { place = p; node = own ts } ∷ [])
  unfolding summed
  sum_more x [] h = absurd (omega arith)
  sum_more x (y ∷ ys) h = refl

  pub sum-own : (x : Node) (ts : List Node) → 0 < length ts → own (x ∷ ts) ≡ n_math (n + length (rest ts)) 0 (suc (n + length (rest ts)))
  unfolding summed
  sum-own x [] h = absurd (omega arith)
  sum-own x (y ∷ ys) h = refl

  more_bytes : (x : Node) (ts : List Node) → 0 < length ts → table_bytes 2 (rest (x ∷ ts)) ≡ table_bytes 2 (rest ts) ++ (node_bytes 2 x ++ node_bytes 2 (own ts))
  more_bytes x ts h =
      ap (table_bytes 2) (sum_more x ts h) ∙ table-append (rest ts) (record { place = p; node = x } ∷ record { place = p; node = own ts } ∷ [])
      ∙ ap (λ (l : List ℕ). table_bytes 2 (rest ts) ++ (node_bytes 2 x ++ l)) (append-nil (node_bytes 2 (own ts)))

  more-count : (x : Node) (ts : List Node) → 0 < length ts → length (rest (x ∷ ts)) ≡ length (rest ts) + 2
  more-count x ts h = ap length (sum_more x ts h) ∙ length-append (rest ts) (record { place = p; node = x } ∷ record { place = p; node = own ts } ∷ [])

  eight : (x : Node) (ts : List Node) → 0 < length ts → length (node_bytes 2 (own (x ∷ ts))) ≡ 8
  unfolding field number
  eight x ts h = ap (λ (y : Node). length (node_bytes 2 y)) (sum-own x ts h)

  -- what a sum takes
  sum-size : (ts : List Node) → 0 < length ts → length (table_bytes 2 (rest ts)) + length (node_bytes 2 (own ts)) + 8 ≡ sizes ts
  unfolding summed sizes
  sum-size [] h = absurd (omega arith)
  sum-size (x ∷ []) h = omega arith
  sum-size (x ∷ y ∷ ys) h =
      omega (arith, ap length (more_bytes x (y ∷ ys) (omega arith)), length-append (table_bytes 2 (rest (y ∷ ys))) (node_bytes 2 x ++ node_bytes 2 (own (y ∷ ys))), length-append (node_bytes 2 x) (node_bytes 2 (own (y ∷ ys))), eight x (y ∷ ys) (omega arith), sum-size (y ∷ ys) (omega arith))

sizes-drop : (m : ℕ) (ts : List Node) → sizes (drop m ts) ≤ sizes ts
unfolding sizes
sizes-drop zero ts = omega arith
sizes-drop (suc m) [] = omega arith
sizes-drop (suc m) (x ∷ ts) = omega (arith, sizes-drop m ts)

pub summands-drop : (b s : List ℕ) (f k m : ℕ) (ts : List Node) → Summands b s f k ts → Summands b s f (k + m) (drop m ts)
unfolding Summands
summands-drop b s f k zero ts h = let e : k + 0 ≡ k = omega arith in rw e h
summands-drop b s f k (suc m) [] h = tt
summands-drop b s f k (suc m) (x ∷ ts) h = let e : k + suc m ≡ suc k + m = omega arith in rw e (summands-drop b s f (suc k) m ts h.1)

-- ---- one sum: of one summand that itself, of more the two numbers before n

pub one-sum : (p m : ℕ) (t : Node) (ts : List Node) (b s : List ℕ) (f j i o r : ℕ) (d d₁ : List ℕ) → j + 1 ≡ i → i ≡ j + length ts → Summands b s f j ts
    → ((x : Node) → SummandIs b s f j x → Puts (node_bytes 2 x) o d d₁ r) → Puts (node_bytes 2 (summed p t m ts).self) o d d₁ r
unfolding summed Summands
one-sum p m t [] b s f j i o r d d₁ g l h u = absurd (omega arith)
one-sum p m t (x ∷ []) b s f j i o r d d₁ g l h u = u x h.0
one-sum p m t (x ∷ y ∷ ys) b s f j i o r d d₁ g l h u = absurd (omega arith)

pub one-ready : (b s : List ℕ) (f j i o : ℕ) → OwnReady b s f j i o → j + 1 ≡ i → (4 * j + 4 ≤ length s) × ((t : Node) × SummandIs b s f j t × (o + 8 + length (node_bytes 2 t) < 2 ^ 64))
unfolding summed Summands
one-ready b s f j i o r g = (omega (arith, r.rows), go r.ts r.are r.notes r.room)
  where
    go : (ts : List Node) → Summands b s f j ts → i ≡ j + length ts → o + 8 + length (node_bytes 2 (summed 0 n_id 0 ts).self) < 2 ^ 64 → (t : Node) × SummandIs b s f j t × (o + 8 + length (node_bytes 2 t) < 2 ^ 64)
    go [] a l h = absurd (omega arith)
    go (x ∷ []) a l h = (x, a.0, h)
    go (x ∷ y ∷ ys) a l h = absurd (omega arith)

pub more-sum : (p m n : ℕ) (t : Node) (ts : List Node) (j i o : ℕ) (d d₁ : List ℕ) → j < i → (j + 1 ≡ i → ⊥) → i ≡ j + length ts → n ≡ m + length (summed p t m ts).more
    → d₁ ≡ overlay d o (field 0x65 (number 2 (n - 2) ++ (0 ∷ number 2 (n - 1)))) → Puts (node_bytes 2 (summed p t m ts).self) o d d₁ (o + 8)
unfolding field number
more-sum p m n t [] j i o d d₁ k g l e h = absurd (omega arith)
more-sum p m n t (x ∷ []) j i o d d₁ k g l e h = absurd (omega arith)
more-sum p m n t (x ∷ y ∷ ys) j i o d d₁ k g l e h =
    let c : length (rest p t m (x ∷ y ∷ ys)) ≡ length (rest p t m (y ∷ ys)) + 2 = more-count p t m x (y ∷ ys) (omega arith) in
    let a : n - 2 ≡ m + length (rest p t m (y ∷ ys)) = omega arith in
    let z : n - 1 ≡ suc (m + length (rest p t m (y ∷ ys))) = omega arith in
    rw (sum-own p t m x (y ∷ ys) (omega arith)) (record { room = rw (a, z) at h; end = refl })

-- ---- the loop

pub record Turning (b s : List ℕ) (f k i : ℕ) (st₀ : State) (d₀ : List ℕ) (j : ℕ) (st : State) (d : List ℕ) : Type 0 where
  pub goes : (ts : List Node) (p : ℕ) (t : Node) → Summands b s f k ts → i ≡ k + length ts → SumsPut p t (drop (j - k) ts) st₀ st d₀ d
  pub low : k ≤ j
  pub high : j < i
  pub nums : num st ≡ num st₀ + 2 * (i - 1 - j)
  pub same : length d ≡ length d₀

last_one : (ts : List Node) (m : ℕ) → length ts ≡ suc m → (x : Node) × (drop m ts ≡ x ∷ [])
last_one [] m h = absurd (omega arith)
last_one (x ∷ []) zero h = (x, refl)
last_one (x ∷ []) (suc m) h = absurd (omega arith)
last_one (x ∷ y ∷ ys) zero h = absurd (omega arith)
last_one (x ∷ y ∷ ys) (suc m) h = last_one (y ∷ ys) m (omega arith)

pub begin : (b s : List ℕ) (f k i : ℕ) (st : State) (d : List ℕ) → k < i → Turning b s f k i st d (i - 1) st d
unfolding summed
begin b s f k i st d g =
    record {
      goes = λ ts p t a l.
          let x = last_one ts (i - 1 - k) (omega arith) in
          let n : num st + 0 ≡ num st = omega arith in
          let o : off st + 0 ≡ off st = omega arith in
          record { state = rw (x.1, n, o); room = rw x.1 (sym (overlay-none d (off st))) };
      low = omega arith;
      high = omega arith;
      nums = omega arith;
      same = refl;
    }

-- what is left from row j on
module _ (b s : List ℕ) (f k i : ℕ) (st₀ : State) (d₀ : List ℕ) (j : ℕ) (st : State) (d : List ℕ) (w : Turning b s f k i st₀ d₀ j st d) (g : k < j) (ts : List Node) (a : Summands b s f k ts) (l : i ≡ k + length ts) where
  abbrev behind : List Node
  behind = drop (j - k) ts

  abbrev first : Node
  first = get_or ts (j - 1 - k) n_id

  pub split : drop (j - 1 - k) ts ≡ first ∷ behind
  split = let e : suc (j - 1 - k) ≡ j - k = omega arith in drop-cons ts (j - 1 - k) n_id (omega (arith, w.high)) ∙ rw e

  pub some-behind : 0 < length behind
  some-behind = omega (arith, length-drop (j - k) ts, w.high)

  pub count-behind : i ≡ j + length behind
  count-behind = omega (arith, length-drop (j - k) ts, w.high)

  are : Summands b s f (k + (j - 1 - k)) (first ∷ behind)
  are = subst (λ (xs : List Node). Summands b s f (k + (j - 1 - k)) xs) split (summands-drop b s f k (j - 1 - k) ts a)

  pub first-is : SummandIs b s f (j - 1) first
  unfolding Summands
  first-is = let e : k + (j - 1 - k) ≡ j - 1 = omega arith in subst (λ (m : ℕ). SummandIs b s f m first) e are.0

  pub behind-are : Summands b s f j behind
  behind-are = let e : k + (j - k) ≡ j = omega arith in subst (λ (m : ℕ). Summands b s f m behind) e (summands-drop b s f k (j - k) ts a)

  module _ (p : ℕ) (t : Node) where
    abbrev all : SumsPut p t behind st₀ st d₀ d
    all = w.goes ts p t a l

    pub num-now : num st ≡ num st₀ + length (rest p t (num st₀) behind)
    num-now = ap num all.state

    pub off-now : off st ≡ off st₀ + length (table_bytes 2 (rest p t (num st₀) behind))
    off-now = ap off all.state

  -- no offset wraps
  bound : off st + length (node_bytes 2 first) + length (node_bytes 2 (own 0 n_id (num st₀) behind)) + 16 ≤ off st₀ + sizes ts
  unfolding sizes
  bound = omega (arith, off-now 0 n_id, sum-size 0 n_id (num st₀) behind some-behind, sizes-drop (j - 1 - k) ts, ap sizes split)

own-length : (p n : ℕ) (t : Node) (ts : List Node) → 0 < length ts → length (node_bytes 2 (own p t n ts)) ≡ length (node_bytes 2 (own 0 n_id 0 ts))
unfolding summed field number
own-length p n t [] h = absurd (omega arith)
own-length p n t (x ∷ []) h = refl
own-length p n t (x ∷ y ∷ ys) h = refl

-- what the loop asks for
pub record Asks (b s : List ℕ) (f i j : ℕ) (st : State) : Type 0 where
  pub row : 4 * (j - 1) + 4 ≤ length s
  pub summand : Node
  pub is : SummandIs b s f (j - 1) summand
  pub room : off st + 8 + length (node_bytes 2 summand) < 2 ^ 64
  pub sum : OwnReady b s f j i (off st + length (node_bytes 2 summand))
  pub two : j + 1 < i → 2 ≤ num st
  pub more : num st + 2 < 2 ^ 64

pub asks : (b s : List ℕ) (f k i : ℕ) (st₀ : State) (d₀ : List ℕ) (j : ℕ) (st : State) (d : List ℕ) → Turning b s f k i st₀ d₀ j st d → k < j → SumReady b s f k i (off st₀) → num st₀ + 2 * (i - k) < 2 ^ 64
    → Asks b s f i j st
asks b s f k i st₀ d₀ j st d w g r n =
    record {
      row = omega (arith, w.high, r.rows);
      summand = first b s f k i st₀ d₀ j st d w g ts a l;
      is = first-is b s f k i st₀ d₀ j st d w g ts a l;
      room = omega (arith, bound b s f k i st₀ d₀ j st d w g ts a l, r.room);
      sum =
          record {
            ts = behind b s f k i st₀ d₀ j st d w g ts a l;
            are = behind-are b s f k i st₀ d₀ j st d w g ts a l;
            notes = count-behind b s f k i st₀ d₀ j st d w g ts a l;
            rows = r.rows;
            room = omega (arith, bound b s f k i st₀ d₀ j st d w g ts a l, own-length 0 (num st₀) n_id (behind b s f k i st₀ d₀ j st d w g ts a l) (some-behind b s f k i st₀ d₀ j st d w g ts a l), r.room);
          };
      two = λ h. omega (arith, w.nums);
      more = omega (arith, w.nums, w.high);
    }
  where
    ts : List Node
    ts = r.ts

    a : Summands b s f k ts
    a = r.are

    l : i ≡ k + length ts
    l = r.notes

pub turn : (b s : List ℕ) (f k i : ℕ) (st₀ : State) (d₀ : List ℕ) (j : ℕ) (st : State) (d d₁ d₂ : List ℕ) (st₁ : State) (x r : ℕ) → Turning b s f k i st₀ d₀ j st d → k < j
    → ((t : Node) → SummandIs b s f (j - 1) t → Puts (node_bytes 2 t) (off st) d d₁ x)
    → ((ts : List Node) (p m : ℕ) (t : Node) → Summands b s f j ts → i ≡ j + length ts → num st ≡ m + length (summed p t m ts).more → Puts (node_bytes 2 (summed p t m ts).self) x d₁ d₂ r)
    → st₁ ≡ with_num (with_off st r) (num st + 2) → length d₂ ≡ length d
    → Turning b s f k i st₀ d₀ (j - 1) st₁ d₂
turn b s f k i st₀ d₀ j st d d₁ d₂ st₁ x r w g u v e n =
    record {
      goes = λ ts p t a l. one ts p t a l;
      low = omega arith;
      high = omega (arith, w.high);
      nums = ap num e ∙ omega (arith, w.nums, w.high);
      same = n ∙ w.same;
    }
  where
    one : (ts : List Node) (p : ℕ) (t : Node) → Summands b s f k ts → i ≡ k + length ts → SumsPut p t (drop (j - 1 - k) ts) st₀ st₁ d₀ d₂
    one ts p t a l =
        let y : Node = first b s f k i st₀ d₀ j st d w g ts a l in
        let ys : List Node = behind b s f k i st₀ d₀ j st d w g ts a l in
        let c : 0 < length ys = some-behind b s f k i st₀ d₀ j st d w g ts a l in
        let m : num st ≡ num st₀ + length (rest p t (num st₀) ys) = num-now b s f k i st₀ d₀ j st d w g ts a l p t in
        let o : off st ≡ off st₀ + length (table_bytes 2 (rest p t (num st₀) ys)) = off-now b s f k i st₀ d₀ j st d w g ts a l p t in
        let p₁ : Puts (node_bytes 2 y) (off st) d d₁ x = u y (first-is b s f k i st₀ d₀ j st d w g ts a l) in
        let p₂ : Puts (node_bytes 2 (own p t (num st₀) ys)) x d₁ d₂ r = v ys p (num st₀) t (behind-are b s f k i st₀ d₀ j st d w g ts a l) (count-behind b s f k i st₀ d₀ j st d w g ts a l) m in
        let h : SumsPut p t ys st₀ st d₀ d = w.goes ts p t a l in
        rw (split b s f k i st₀ d₀ j st d w g ts a l)
        (record {
          state =
              e ∙ ap₂ (λ (α β : ℕ). with_off (with_num st α) β) (omega (arith, m, more-count p t (num st₀) y ys c)) (omega (arith, o, p₁.end, p₂.end, ap length (more_bytes p t (num st₀) y ys c), length-append (table_bytes 2 (rest p t (num st₀) ys)) (node_bytes 2 y ++ node_bytes 2 (own p t (num st₀) ys)), length-append (node_bytes 2 y) (node_bytes 2 (own p t (num st₀) ys))))
              ∙ ap (λ (z : State). with_off (with_num z (num st₀ + length (rest p t (num st₀) (y ∷ ys)))) (off st₀ + length (table_bytes 2 (rest p t (num st₀) (y ∷ ys))))) h.state;
          room =
              run-then d₀ (off st₀) (table_bytes 2 (rest p t (num st₀) ys)) (node_bytes 2 y ++ node_bytes 2 (own p t (num st₀) ys)) (off st) d d₂ o h.room
              (run-then d (off st) (node_bytes 2 y) (node_bytes 2 (own p t (num st₀) ys)) x d₁ d₂ p₁.end p₁.room p₂.room)
              ∙ ap (overlay d₀ (off st₀)) (sym (more_bytes p t (num st₀) y ys c));
        })

pub finish : (b s : List ℕ) (f k i : ℕ) (st₀ : State) (d₀ : List ℕ) (j : ℕ) (st : State) (d : List ℕ) → Turning b s f k i st₀ d₀ j st d → j ≤ k
    → (ts : List Node) (p : ℕ) (t : Node) → Summands b s f k ts → i ≡ k + length ts → SumsPut p t ts st₀ st d₀ d
finish b s f k i st₀ d₀ j st d w g ts p t a l =
    let z : j - k ≡ 0 = omega arith in
    subst (λ (m : ℕ). SumsPut p t (drop m ts) st₀ st d₀ d) z (w.goes ts p t a l)

-- ---- the sum with its own record, or what stands for none

pub whole_sum : (b s : List ℕ) (f k i : ℕ) (o : Option ℕ) (w spot n r : ℕ) (st st₁ st₂ : State) (d d₁ d₂ : List ℕ)
    → ((ts : List Node) (p : ℕ) (t : Node) → Summands b s f k ts → i ≡ k + length ts → SumsPut p t ts st st₁ d d₁)
    → n ≡ num st₁ → spot ≡ spot_at o (off st₁) → st₂ ≡ with_off st₁ (next_at o (off st₁) w)
    → ((ts : List Node) (p m : ℕ) (t : Node) → Summands b s f k ts → i ≡ k + length ts → n ≡ m + length (summed p t m ts).more → Puts (node_bytes 2 (summed p t m ts).self) spot d₁ d₂ r)
    → (ts : List Node) (p : ℕ) (t : Node) → Summands b s f k ts → i ≡ k + length ts → SumPutAt p t ts o w st st₂ d d₂
whole_sum b s f k i o w spot n r st st₁ st₂ d d₁ d₂ u en eo e v ts p t a l =
    let q : SumsPut p t ts st st₁ d d₁ = u ts p t a l in
    let m : n ≡ num st + length (rest p t (num st) ts) = en ∙ ap num q.state in
    let o₁ : off st₁ ≡ off st + length (table_bytes 2 (rest p t (num st) ts)) = ap off q.state in
    let z : Puts (node_bytes 2 (own p t (num st) ts)) spot d₁ d₂ r = v ts p (num st) t a l m in
    record {
      state = e ∙ ap₂ (λ (y : State) (x : ℕ). with_off y (next_at o x w)) q.state o₁;
      room = z.room ∙ ap₂ (λ (x : ℕ) (y : List ℕ). overlay y x (node_bytes 2 (own p t (num st) ts))) (eo ∙ ap (spot_at o) o₁) q.room;
    }

pub no-sum : (k i : ℕ) (o : Option ℕ) (w spot tag : ℕ) (st st₁ : State) (d d₁ : List ℕ) → i ≤ k → spot ≡ spot_at o (off st) → st₁ ≡ with_off st (next_at o (off st) w) → d₁ ≡ overlay d spot (field tag [])
    → (ts : List Node) (p : ℕ) (t : Node) → i ≡ k + length ts → node_bytes 2 t ≡ field tag [] → SumPutAt p t ts o w st st₁ d d₁
unfolding summed
no-sum k i o w spot tag st st₁ d d₁ h eo e g [] p t l u =
    let n : num st + 0 ≡ num st = omega arith in
    let m : off st + 0 ≡ off st = omega arith in
    record {
      state = e ∙ rw (n, m);
      room = g ∙ rw (m, overlay-none, u, eo);
    }
no-sum k i o w spot tag st st₁ d d₁ h eo e g (x ∷ ts) p t l u = absurd (omega arith)

pub spot-least : (o : Option ℕ) (x : ℕ) → spot_at o x ≤ at_of o + x
unfolding spot_at
spot-least (Some o) x = omega arith
spot-least None x = omega arith

pub less-room : (b s : List ℕ) (f k i x y : ℕ) → SumReady b s f k i x → y ≤ x → SumReady b s f k i y
less-room b s f k i x y r h = record { ts = r.ts; are = r.are; notes = r.notes; rows = r.rows; room = omega (arith, r.room) }

-- what `sum_or` asks for
pub record Whole (b s : List ℕ) (f k i : ℕ) (o : Option ℕ) (w : ℕ) (st st₁ : State) : Type 0 where
  pub place : off st₁ + w < 2 ^ 64
  pub sum : OwnReady b s f k i (spot_at o (off st₁))
  pub two : k + 1 < i → 2 ≤ num st₁

pub whole-asks : (b s : List ℕ) (f k i : ℕ) (o : Option ℕ) (w : ℕ) (st st₁ : State) (d d₁ : List ℕ) → k < i → SumReady b s f k i (at_of o + off st + w + 3)
    → ((ts : List Node) (p : ℕ) (t : Node) → Summands b s f k ts → i ≡ k + length ts → SumsPut p t ts st st₁ d d₁) → Whole b s f k i o w st st₁
whole-asks b s f k i o w st st₁ d d₁ g r u =
    record {
      place = omega (arith, size, o₁, r.room);
      sum = record { ts = ts; are = r.are; notes = r.notes; rows = r.rows; room = omega (arith, size, o₁, spot-least o (off st₁), own-length 0 (num st) n_id ts some, r.room) };
      two = λ a. omega (arith, n₁, long ts (omega (arith, r.notes)));
    }
  where
    ts : List Node
    ts = r.ts

    q : SumsPut 0 n_id ts st st₁ d d₁
    q = u ts 0 n_id r.are r.notes

    some : 0 < length ts
    some = omega (arith, r.notes)

    size : length (table_bytes 2 (rest 0 n_id (num st) ts)) + length (node_bytes 2 (own 0 n_id (num st) ts)) + 8 ≡ sizes ts
    size = sum-size 0 n_id (num st) ts some

    o₁ : off st₁ ≡ off st + length (table_bytes 2 (rest 0 n_id (num st) ts))
    o₁ = ap off q.state

    n₁ : num st₁ ≡ num st + length (rest 0 n_id (num st) ts)
    n₁ = ap num q.state

    long : (l : List Node) → 1 < length l → 2 ≤ length (rest 0 n_id (num st) l)
    long [] a = absurd (omega arith)
    long (x ∷ l) a = omega (arith, more-count 0 n_id (num st) x l (omega arith))
