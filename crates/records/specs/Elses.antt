-- Conditionals: the elses' records, from the last pair back, put together with the pairs and the last else into what the rules make of a conditional.
-- Assumes nothing.
use Prim.Native.Nat.{ℕ, suc, ◌+◌, ◌<◌}
use Rattle.std.proofs.Common.{arith, sym, subst, ◌∙◌, ne_eqb}
use Rattle.std.specs.Prelude.{◌≡◌, refl}
use Rattle.std.proofs.Math.Path.{ap, ap₂}
use mathlib.Core.List.{List, [], ◌∷◌, ◌++◌, append_assoc}
use Rattle.std.proofs.Math.ListN.{length, length-append}
use Rattle.std.specs.Int.Bits.{bit_or, or_zero_r}
use Rattle.rules.specs.Sets.{digit_or, same_digits}
use Rattle.fields.specs.Room.{overlay, overlay-append, overlay-out, length-overlay}
use Rattle.tree.specs.Tree.{Term, Branches, b_none, b_else, b_pair}
use Rattle.rules.specs.Table.{Rec, n_ite, Err}
use Rattle.rules.specs.Listing.{rec_bytes, table_bytes}
use Rattle.rules.specs.Tails.{Tail, empty, union}
use Rattle.rules.specs.Rows.{Env}
use Rattle.rules.specs.Filters.{Top}
use Rattle.rules.specs.Outs.{Out, slot, size, ite_out}
use Rattle.rules.specs.Rules.{term, branches}
use Rattle.puts.specs.declared.state.State.{State}
use Rattle.puts.specs.State.{num, off, ers, late, start_of, spot_of, next_of, members_at, members_end, Put, Own, with_num, with_off}
use Rattle.puts.specs.Rooms.{table-append}
use Rattle.cells.specs.Notes.{Pair, Pairs, pairs_of, else_of, elses_of}

-- ---- what `elses` leaves: the records of the pairs but the first, the state, and the number of the first pair's else

pub record Elsed (ps : List Pair) (st st' : State) (d d' : List ℕ) (r : ℕ) : Type 0 where
  pub number : (p : ℕ) → r ≡ num st + length (elses_of p ps (num st))
  pub state : (p : ℕ) → st' ≡ with_off (with_num st (num st + length (elses_of p ps (num st)) + 1)) (off st + length (table_bytes 2 (elses_of p ps (num st))))
  pub room : (p : ℕ) → d' ≡ overlay d (off st) (table_bytes 2 (elses_of p ps (num st)))

-- ---- the rule's conditional, flat: what the pairs contain, what the last else contains, its own record, the elses' records

pub record IteIs (p : ℕ) (x : Pair) (xs : List Pair) (ms : List Rec) (es : List Err) (s : Tail) (n : ℕ) (o q : Out) : Type 0 where
  pub more : q.more ≡ ms ++ (o.more ++ (o.self ∷ elses_of p (x ∷ xs) (n + length ms + length o.more)))
  pub self : q.self ≡ record { place = p; node = n_ite x.test x.then (n + length ms + length o.more + length (elses_of p (x ∷ xs) (n + length ms + length o.more))) }
  pub errs : q.errs ≡ es ++ o.errs
  pub tail : q.tail ≡ union s o.tail

union_assoc : (a b c : ℕ) → union a (union b c) ≡ union (union a b) c
union_assoc a b c = same_digits _ _ (λ l. omega (arith, digit_or a (bit_or b c) l, digit_or b c l, digit_or (bit_or a b) c l, digit_or a b l))

module _ (p : ℕ) (n : ℕ) (a b : Out) where
  -- one pair
  abbrev pair_of : Pair
  pair_of = record { test = n; then = n + size a }

  in_row : (x y z w : List Rec) → x ++ (y ++ (z ++ w)) ≡ (x ++ (y ++ z)) ++ w
  in_row x y z w = ap (λ (l : List Rec). x ++ l) (sym (append_assoc y z w)) ∙ sym (append_assoc x (y ++ z) w)

  errs-row : (x y z w : List Err) → x ++ (y ++ (z ++ w)) ≡ (x ++ (y ++ z)) ++ w
  errs-row x y z w = ap (λ (l : List Err). x ++ l) (sym (append_assoc y z w)) ∙ sym (append_assoc x (y ++ z) w)

  -- the last one: what follows it is the last else
  last-pair : (o : Out) → IteIs p pair_of [] (slot a ++ (slot b ++ [])) (a.errs ++ (b.errs ++ [])) (union b.tail empty) n o (ite_out p n a b o)
  unfolding ite_out elses_of
  last-pair o =
      record {
        more = in_row (slot a) (slot b) [] (o.more ++ (o.self ∷ []));
        self = ap (λ (k : ℕ). record { place = p; node = n_ite n (n + size a) k }) (omega (arith, length-append (slot a) (slot b ++ []), length-append (slot b) []));
        errs = errs-row a.errs b.errs [] o.errs;
        tail = ap (λ (s : Tail). union s o.tail) (sym (or_zero_r b.tail));
      }

  -- one before others
  next-pair : (y : Pair) (ys : List Pair) (ms : List Rec) (es : List Err) (s : Tail) (o q : Out) → IteIs p y ys ms es s (n + size a + size b) o q
      → IteIs p pair_of (y ∷ ys) (slot a ++ (slot b ++ ms)) (a.errs ++ (b.errs ++ es)) (union b.tail s) n o (ite_out p n a b q)
  unfolding ite_out elses_of
  next-pair y ys ms es s o q i =
      record {
        more =
            ap₂ (λ (l : List Rec) (r : Rec). slot a ++ (slot b ++ (l ++ (r ∷ [])))) i.more i.self
            ∙ ap (λ (l : List Rec). slot a ++ (slot b ++ l)) (append_assoc ms (o.more ++ (o.self ∷ rs k)) (own k ∷ []) ∙ ap (λ (l : List Rec). ms ++ l) (append_assoc o.more (o.self ∷ rs k) (own k ∷ [])))
            ∙ in_row (slot a) (slot b) ms (o.more ++ (o.self ∷ (rs k ++ (own k ∷ []))))
            ∙ ap (λ (m : ℕ). (slot a ++ (slot b ++ ms)) ++ (o.more ++ (o.self ∷ (rs m ++ (own m ∷ []))))) (sym same);
        self =
            ap (λ (m : ℕ). record { place = p; node = n_ite n (n + size a) m })
            (omega (arith, ap length i.more, length-append ms (o.more ++ (o.self ∷ rs k)), length-append o.more (o.self ∷ rs k), length-append (rs k) (own k ∷ [])) ∙ ap (λ (m : ℕ). m + length (rs m ++ (own m ∷ []))) (sym same));
        errs = ap (λ (l : List Err). a.errs ++ (b.errs ++ l)) i.errs ∙ errs-row a.errs b.errs es o.errs;
        tail = ap (λ (t : Tail). union b.tail t) i.tail ∙ union_assoc b.tail s o.tail;
      }
    where
      k : ℕ
      k = n + size a + size b + length ms + length o.more

      rs : ℕ → List Rec
      rs m = elses_of p (y ∷ ys) m

      own : ℕ → Rec
      own m = record { place = p; node = n_ite y.test y.then (m + length (rs m)) }

      same : n + length (slot a ++ (slot b ++ ms)) + length o.more ≡ k
      same = omega (arith, length-append (slot a) (slot b ++ ms), length-append (slot b) ms)

-- "Conditions and branches first, then what else holds, then else numbers from the last pair back."
abbrev pub last_else : Top → ℕ → Branches → Env → ℕ → Tail → Out
last_else c p bs e n r = branches c (else_of bs) p e n r

abbrev pub IteFlat : Top → ℕ → ℕ → Term → Term → Branches → Env → ℕ → Tail → Out → Type 0
IteFlat c p q t u bs e n r o =
    let a = term c t e (suc n) empty in
    let b = term c u e (suc (n + size a)) r in
    let ps = pairs_of c bs e (n + size a + size b) r in
    IteIs p (record { test = n; then = n + size a }) ps.made (slot a ++ (slot b ++ ps.more)) (a.errs ++ (b.errs ++ ps.errs)) (union b.tail ps.tail) n
    (last_else c p bs e (n + length (slot a ++ (slot b ++ ps.more))) r) o

-- no further pair
ends : (c : Top) (p : ℕ) (t u : Term) (bs : Branches) (e : Env) (n : ℕ) (r : Tail)
    → let a = term c t e (suc n) empty in
    let b = term c u e (suc (n + size a)) r in
    IteIs p (record { test = n; then = n + size a }) [] (slot a ++ (slot b ++ [])) (a.errs ++ (b.errs ++ [])) (union b.tail empty) n
    (branches c bs p e (n + length (slot a ++ (slot b ++ []))) r) (ite_out p n a b (branches c bs p e (n + size a + size b) r))
ends c p t u bs e n r =
    let a : Out = term c t e (suc n) empty in
    let b : Out = term c u e (suc (n + size a)) r in
    subst
    (λ (x : ℕ). IteIs p (record { test = n; then = n + size a }) [] (slot a ++ (slot b ++ [])) (a.errs ++ (b.errs ++ [])) (union b.tail empty) n (branches c bs p e x r) (ite_out p n a b (branches c bs p e (n + size a + size b) r)))
    (omega (arith, length-append (slot a) (slot b ++ []), length-append (slot b) []))
    (last-pair p n a b (branches c bs p e (n + size a + size b) r))

-- a further pair is a conditional itself
unfolded : (c : Top) (p q : ℕ) (t u : Term) (bs : Branches) (e : Env) (n : ℕ) (r : Tail)
    → let a = term c t e (suc n) empty in
    let b = term c u e (suc (n + size a)) r in
    IteFlat c p q t u bs e n r (ite_out p n a b (branches c bs p e (n + size a + size b) r))
    → IteFlat c p q t u bs e n r (branches c (b_pair q t u bs) p e n r)
unfolding term
unfolded c p q t u bs e n r i = i

pub ite-flat : (c : Top) (p q : ℕ) (t u : Term) (bs : Branches) (e : Env) (n : ℕ) (r : Tail)
    → let a = term c t e (suc n) empty in
    let b = term c u e (suc (n + size a)) r in
    IteFlat c p q t u bs e n r (ite_out p n a b (branches c bs p e (n + size a + size b) r))
unfolding pairs_of else_of
ite-flat c p q t u b_none e n r = ends c p t u b_none e n r
ite-flat c p q t u (b_else v) e n r = ends c p t u (b_else v) e n r
ite-flat c p q t u (b_pair k v w bs) e n r =
    let a : Out = term c t e (suc n) empty in
    let b : Out = term c u e (suc (n + size a)) r in
    let m : ℕ = n + size a + size b in
    let f : Out = term c v e (suc m) empty in
    let g : Out = term c w e (suc (m + size f)) r in
    let ps : Pairs = pairs_of c bs e (m + size f + size g) r in
    let ms : List Rec = slot f ++ (slot g ++ ps.more) in
    subst
    (λ (x : ℕ). IteIs p (record { test = n; then = n + size a }) (record { test = m; then = m + size f } ∷ ps.made) (slot a ++ (slot b ++ ms)) (a.errs ++ (b.errs ++ (f.errs ++ (g.errs ++ ps.errs)))) (union b.tail (union g.tail ps.tail)) n (last_else c p bs e x r) (ite_out p n a b (branches c (b_pair k v w bs) p e m r)))
    (omega (arith, length-append (slot a) (slot b ++ ms), length-append (slot b) ms))
    (next-pair p n a b (record { test = m; then = m + size f }) ps.made ms (f.errs ++ (g.errs ++ ps.errs)) (union g.tail ps.tail) (last_else c p bs e (m + length ms) r) (branches c (b_pair k v w bs) p e m r) (unfolded c p k v w bs e m r (ite-flat c p k v w bs e m r)))

-- ---- the last else, whose own record stands behind what it contains, and the elses after it, are put one after the other

late-start : (m w : ℕ) → m < late → start_of late m w ≡ m
unfolding start_of
late-start m w h = simp (ne_eqb late m (λ e. omega arith))

late-spot : (x : ℕ) → spot_of late x ≡ x
unfolding spot_of
late-spot x = refl

late-next : (x w : ℕ) → next_of late x w ≡ x + w
unfolding next_of
late-next x w = refl

-- a state after two of its numbers are stored
pub two-stored : (st : State) (x y : ℕ) → (num (with_off (with_num st x) y) ≡ x) × (off (with_off (with_num st x) y) ≡ y) × (ers (with_off (with_num st x) y) ≡ ers st)
two-stored st x y = (refl, refl, refl)

pub else-put : (q : Out) (ps : List Pair) (p : ℕ) (st st₁ st₂ : State) (d d₁ d₂ : List ℕ) (r : ℕ)
    → off st < late → Own q late st st₁ d d₁ → Elsed ps st₁ st₂ d₁ d₂ r
    → Put (q.more ++ (q.self ∷ elses_of p ps (num st₁))) q.errs st st₂ d d₂
else-put q ps p st st₁ st₂ d d₁ d₂ r h o z =
    record {
      nums = ap num (z.state p) ∙ omega (arith, o.nums, length-append q.more (q.self ∷ rs));
      offs = ap off (z.state p) ∙ omega (arith, end, length-append (rec_bytes 2 q.self) (table_bytes 2 rs), length-append (table_bytes 2 q.more) (rec_bytes 2 q.self ++ table_bytes 2 rs), ap length (table-append q.more (q.self ∷ rs)));
      errs = ap ers (z.state p) ∙ o.errs;
      size = ap length (z.room p) ∙ length-overlay d₁ (off st₁) (table_bytes 2 rs) ∙ o.size;
      table = λ g. z.room p ∙ rw (o.table g, start, late-spot, end) (put d) ∙ ap (overlay d (off st)) (sym (table-append q.more (q.self ∷ rs)));
      errors = λ g. z.room p ∙ overlay-out d₁ (off st₁) (table_bytes 2 rs) (omega (arith, end, o.size)) ∙ o.errors g (omega arith);
    }
  where
    rs : List Rec
    rs = elses_of p ps (num st₁)

    w : ℕ
    w = length (rec_bytes 2 q.self)

    start : members_at q late st ≡ off st
    start = late-start (off st) w h

    end : off st₁ ≡ off st + length (table_bytes 2 q.more) + w
    end = o.offs ∙ late-next (members_end q late st) w ∙ ap (λ (x : ℕ). x + length (table_bytes 2 q.more) + w) start

    put : (e : List ℕ) → overlay (overlay (overlay e (off st) (table_bytes 2 q.more)) (off st + length (table_bytes 2 q.more)) (rec_bytes 2 q.self)) (off st + length (table_bytes 2 q.more) + w) (table_bytes 2 rs) ≡ overlay e (off st) (table_bytes 2 q.more ++ (rec_bytes 2 q.self ++ table_bytes 2 rs))
    put e = overlay-append (overlay e (off st) (table_bytes 2 q.more)) (off st + length (table_bytes 2 q.more)) (rec_bytes 2 q.self) (table_bytes 2 rs) ∙ overlay-append e (off st) (table_bytes 2 q.more) (rec_bytes 2 q.self ++ table_bytes 2 rs)
