-- The rows that climbing finds are those of document 01: a row by its least precedence is the row of the operator, rows nest, and the operator whose row is
-- climbed is the nearest earlier one that holds the operators in it. Assumes nothing.
use mathlib.Core.Path.{◌≡◌, refl, sym, ap, ◌∙◌, fun_ext}
use mathlib.Core.Bool.{Bool, true, false, true≢false}
use mathlib.Core.List.{List}
use mathlib.Core.Logic.{◌⊎◌, inl, inr, ⊎_elim}
use Prim.Native.Nat.{ℕ, zero, suc, ◌+◌, ◌-◌, ◌≤◌, ◌<◌}
use native.Mathlib.Nat.{zero-add, add-zero, eq-or-lt_of_le, le_of_suc-le-suc}
use native.Mathlib.Omega.{arith}
use native.Mathlib.Decide.{dec_lt}
use lib.Dec.{ltb, leb, eqb}
use borrow.Author.Tests.{lt-ltb, le-ltb, le-leb, lt-leb, eq-eqb, ne_eqb, leb-true, leb-false}
use Rattle.fields.specs.Outcome.{pick}
use Rattle.climber.specs.Row.{count, precedence, side, tighter, longest, rightmost, nearest, leftmost}
use Rattle.climber.specs.Climb.{least, climbed, Formed, Starts}

-- ---- a longest row

known : (t : Bool) → (t ≡ true) ⊎ (t ≡ false)
known true = inl refl
known false = inr refl

module _ (test : ℕ → Bool) where
  goes : (n at : ℕ) → test at ≡ true → longest test (suc n) at ≡ longest test n (suc at)
  unfolding longest
  goes n at e = rw e

  stops : (n at : ℕ) → test at ≡ false → longest test (suc n) at ≡ at
  unfolding longest
  stops n at e = rw e

  ends : (at : ℕ) → longest test zero at ≡ at
  unfolding longest
  ends at = refl

  pub longest-low : (n at : ℕ) → at ≤ longest test n at
  longest-low zero at = omega (arith, ends at)
  longest-low (suc n) at = ⊎_elim (λ e. omega (arith, goes n at e, longest-low n (suc at))) (λ e. omega (arith, stops n at e)) (known (test at))

  pub longest-high : (n at : ℕ) → longest test n at ≤ at + n
  longest-high zero at = omega (arith, ends at)
  longest-high (suc n) at = ⊎_elim (λ e. omega (arith, goes n at e, longest-high n (suc at))) (λ e. omega (arith, stops n at e)) (known (test at))

  -- each operator in the row passes the test
  pub longest-in : (n at j : ℕ) → at ≤ j → j < longest test n at → test j ≡ true
  longest-in zero at j h k = absurd (omega (arith, ends at))
  longest-in (suc n) at j h k =
      ⊎_elim
      (λ e. ⊎_elim (λ (q : at ≡ j). rw (← q) e) (λ q. longest-in n (suc at) j q (omega (arith, goes n at e))) (eq-or-lt_of_le h))
      (λ e. absurd (omega (arith, stops n at e)))
      (known (test at))

  -- one that does not pass ends the row
  pub longest-stop : (n at j : ℕ) → at ≤ j → test j ≡ false → longest test n at ≤ j
  longest-stop zero at j h f = omega (arith, ends at)
  longest-stop (suc n) at j h f =
      ⊎_elim
      (λ e. ⊎_elim (λ (q : at ≡ j). let z : true ≡ false = sym e ∙ rw q f in absurd (true≢false z)) (λ q. omega (arith, goes n at e, longest-stop n (suc at) j q f)) (eq-or-lt_of_le h))
      (λ e. omega (arith, stops n at e))
      (known (test at))

  -- the row ends at its last place, or at an operator that does not pass
  pub longest-end : (n at : ℕ) → (longest test n at ≡ at + n) ⊎ (test (longest test n at) ≡ false)
  longest-end zero at = inl (omega (arith, ends at))
  longest-end (suc n) at =
      ⊎_elim
      (λ e. ⊎_elim (λ q. inl (omega (arith, goes n at e))) (λ (q : test (longest test n (suc at)) ≡ false). inr (rw (goes n at e) q)) (longest-end n (suc at)))
      (λ e. inr (rw (stops n at e) e))
      (known (test at))

  -- where each of the first k passes, the row is the row from there on
  pub longest-skip : (k n at : ℕ) → ((j : ℕ) → at ≤ j → j < at + k → test j ≡ true) → longest test (k + n) at ≡ longest test n (at + k)
  longest-skip zero n at f = rw (zero-add, add-zero)
  longest-skip (suc k) n at f =
      let a : suc k + n ≡ suc (k + n) = omega arith in
      let b : at + suc k ≡ suc at + k = omega arith in
      rw (a, b) (goes (k + n) at (f at (omega arith) (omega arith)) ∙ longest-skip k n (suc at) (λ j h l. f j (omega arith) (omega arith)))

-- two tests that agree give one row
pub longest-same : (p q : ℕ → Bool) (n at : ℕ) → ((j : ℕ) → p j ≡ q j) → longest p n at ≡ longest q n at
longest-same p q n at f = ap (λ (t : ℕ → Bool). longest t n at) (fun_ext f)

-- ---- the rows of a row of operators

module _ (row : List ℕ) where
  -- a row by its least precedence, its two ends
  pub climbed-low : (min at : ℕ) → at ≤ climbed row min at
  unfolding climbed
  climbed-low min at = longest-low _ _ _

  pub climbed-high : (min at : ℕ) → at ≤ count row → climbed row min at ≤ count row
  unfolding climbed
  climbed-high min at h = let k = longest-high (λ j. leb min (precedence row j)) (count row - at) at in omega arith

  pub climbed-in : (min at j : ℕ) → at ≤ j → j < climbed row min at → min ≤ precedence row j
  unfolding climbed
  climbed-in min at j h k = leb-true _ _ (longest-in (λ j. leb min (precedence row j)) (count row - at) at j h k)

  -- an operator that is less tight ends it, and so does the end
  pub climbed-stop : (min at j : ℕ) → at ≤ j → (j < count row → precedence row j < min) → at ≤ count row → climbed row min at ≤ j
  unfolding climbed
  climbed-stop min at j h k b =
      elim (dec_lt j (count row)) [
        | yes l ↦ longest-stop (λ j. leb min (precedence row j)) (count row - at) at j h (lt-leb _ _ (k l))
        | no l ↦ let u = longest-high (λ j. leb min (precedence row j)) (count row - at) at in omega arith
      ]

  pub climbed-end : (min at : ℕ) → at ≤ count row → climbed row min at < count row → precedence row (climbed row min at) < min
  unfolding climbed
  climbed-end min at b h =
      ⊎_elim (λ e. absurd (omega arith)) (λ e. leb-false _ _ e) (longest-end (λ j. leb min (precedence row j)) (count row - at) at)

  -- the row from `at` on is the row from k on, where those between are as tight
  pub climbed-skip : (min at k : ℕ) → at ≤ k → k ≤ count row → ((j : ℕ) → at ≤ j → j < k → min ≤ precedence row j) → climbed row min at ≡ climbed row min k
  unfolding climbed
  climbed-skip min at k h b f =
      let a : count row - at ≡ (k - at) + (count row - k) = omega arith in
      let e : at + (k - at) ≡ k = omega arith in
      rw a (longest-skip (λ j. leb min (precedence row j)) (k - at) (count row - k) at (λ j u v. le-leb _ _ (f j u (omega arith))) ∙ rw e)

-- ---- the row of an operator

equal : (a b s : ℕ) → a ≡ b → s ≤ 1 → eqb s 1 ≡ leb (a + (1 - s)) b
equal a b s e h =
    elim (dec_lt s 1) [
      | yes l ↦ ne_eqb s 1 (λ q. omega arith) ∙ sym (lt-leb (a + (1 - s)) b (omega arith))
      | no l ↦ eq-eqb s 1 (omega arith) ∙ sym (le-leb (a + (1 - s)) b (omega arith))
    ]

-- by numbers: precedences a and b, side s of the first
tight-least : (a b s : ℕ) → s ≤ 1 → pick (ltb a b) true (pick (eqb a b) (eqb s 1) false) ≡ leb (a + (1 - s)) b
tight-least a b s h =
    elim (dec_lt a b) [
      | yes l ↦ simp (lt-ltb a b l) (sym (le-leb (a + (1 - s)) b (omega arith)))
      | no l ↦ simp (le-ltb a b (omega arith)) (elim (dec_lt b a) [
        | yes m ↦ simp (ne_eqb a b (λ e. omega arith)) (sym (lt-leb (a + (1 - s)) b (omega arith)))
        | no m ↦ simp (eq-eqb a b (omega arith)) (equal a b s (omega arith) h)
      ])
    ]

module _ (row : List ℕ) (f : Formed row) where
  -- tighter, or equally tight if i is right-associative: at least as tight as the least precedence of i's row
  pub tighter-least : (i j : ℕ) → tighter row i j ≡ leb (least row i) (precedence row j)
  unfolding tighter least
  tighter-least i j = tight-least (precedence row i) (precedence row j) (side row i) (f.sides i)

  pub rightmost-climbed : (i : ℕ) → rightmost row i ≡ climbed row (least row i) (suc i)
  unfolding rightmost climbed
  rightmost-climbed i = longest-same _ _ (count row - suc i) (suc i) (tighter-least i)

  pub rightmost-low : (i : ℕ) → i < rightmost row i
  rightmost-low i = rw (rightmost-climbed i) (climbed-low row (least row i) (suc i))

  pub rightmost-high : (i : ℕ) → i < count row → rightmost row i ≤ count row
  rightmost-high i h = rw (rightmost-climbed i) (climbed-high row (least row i) (suc i) h)

  least-own : (i : ℕ) → precedence row i ≤ least row i
  unfolding least
  least-own i = omega arith

  -- an operator in the row of i is at least as tight as i
  pub row-tight : (i j : ℕ) → i < j → j < rightmost row i → precedence row i ≤ precedence row j
  row-tight i j h k =
      let l : j < climbed row (least row i) (suc i) = rw (rightmost-climbed i) at k in
      omega (arith, climbed-in row (least row i) (suc i) j h l, least-own i)

  -- rows nest: the row of an operator in the row of i ends with it or before
  pub row-nests : (i j : ℕ) → i < count row → i < j → j < rightmost row i → rightmost row j ≤ rightmost row i
  row-nests i j b h k =
      let e : rightmost row i ≡ climbed row (least row i) (suc i) = rightmost-climbed i in
      let l : j < climbed row (least row i) (suc i) = rw e at k in
      let u : rightmost row i ≤ count row = rightmost-high i b in
      rw (rightmost-climbed j)
      (climbed-stop row (least row j) (suc j) (rightmost row i) k
      (λ v. let w : climbed row (least row i) (suc i) < count row = rw e at v in
      let x : precedence row (rightmost row i) < least row i = rw e (climbed-end row (least row i) (suc i) b w) in
      omega (arith, climbed-in row (least row i) (suc i) j h l, least-own j))
      (omega arith))

-- ---- the left operand

module _ (row : List ℕ) where
  skip : (i j : ℕ) → rightmost row j ≤ i → nearest row i (suc j) ≡ nearest row i j
  unfolding nearest
  skip i j h = simp (le-ltb _ _ h)

  -- no earlier operator's row holds i
  pub none : (i k : ℕ) → ((j : ℕ) → j < k → rightmost row j ≤ i) → nearest row i k ≡ 0
  none i zero f = unfold nearest in refl
  none i (suc k) f = skip i k (f k (omega arith)) ∙ none i k (λ j h. f j (omega arith))

  -- the row of o holds i, and that of no operator between
  pub holds : (i o k : ℕ) → i < rightmost row o → o < k → ((j : ℕ) → o < j → j < k → rightmost row j ≤ i) → nearest row i k ≡ suc o
  holds i o zero h b f = absurd (omega arith)
  holds i o (suc k) h b f =
      ⊎_elim
      (λ (e : o ≡ k). rw (← e) (unfold nearest in simp (lt-ltb _ _ h)))
      (λ l. skip i k (f k l (omega arith)) ∙ holds i o k h l (λ j u v. f j u (omega arith)))
      (eq-or-lt_of_le (le_of_suc-le-suc b))

  -- at the head, every operator that stands in no row starts at the head
  pub starts-head : (end : ℕ) → Starts row 0 end
  unfolding leftmost
  starts-head end = λ i h k f. none i i (λ j l. f j (omega arith) l)

  -- in the row of o, every operator that stands in no row of those between starts after o
  pub starts-row : (o end : ℕ) → end ≡ rightmost row o → Starts row (suc o) end
  unfolding leftmost
  starts-row o end e = λ i h k f. holds i o i (rw e at k) h f
