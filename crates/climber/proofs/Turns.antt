-- The loop of `climb1`: what holds as it stands before operator i, what the call for i's row asks, and what a turn and the end give. Assumes nothing.
use mathlib.Core.Path.{◌≡◌, refl, sym, ap, ◌∙◌}
use mathlib.Core.Bool.{Bool, true, false, false≢true}
use mathlib.Core.List.{List, ◌++◌}
use mathlib.Core.Logic.{⊎_elim}
use Prim.Native.Nat.{ℕ, suc, ◌+◌, ◌-◌, ◌*◌, ◌≤◌, ◌<◌}
use native.Mathlib.Nat.{eq-or-lt_of_le}
use native.Mathlib.Numerals.{add-one}
use native.Mathlib.Omega.{arith}
use native.Mathlib.Decide.{dec_lt}
use lib.ListN.{length}
use lib.Dec.{ltb, leb}
use borrow.Author.Tests.{lt-ltb, ltb-true, leb-true, leb-false}
use Rattle.fields.specs.Number.{number}
use Rattle.fields.specs.Field.{field}
use Rattle.fields.specs.Outcome.{pick}
use Rattle.fields.specs.Room.{overlay, length-overlay}
use Rattle.climber.specs.Row.{count, precedence, rightmost, leftmost}
use Rattle.climber.specs.Climbing.{operator, operators}
use Rattle.climber.specs.Climb.{least, tight, climbed, Formed, Starts, Climbs}
use Rattle.climber.proofs.Rows.{climbed-low, climbed-stop, climbed-skip, rightmost-climbed, rightmost-low, rightmost-high, row-tight, row-nests, starts-row}
use Rattle.climber.proofs.Operators.{turn, start}

-- there is an operator i that is tight enough
pub tight-yes : (row : List ℕ) (i min : ℕ) → tight row i min ≡ true → (i < count row) × (min ≤ precedence row i)
unfolding tight
tight-yes row i min h = go (ltb i (count row)) refl h
  where
    go : (t : Bool) → ltb i (count row) ≡ t → pick t (leb min (precedence row i)) false ≡ true → (i < count row) × (min ≤ precedence row i)
    go true e l = (ltb-true _ _ e, leb-true _ _ l)
    go false e l = absurd (false≢true l)

pub tight-no : (row : List ℕ) (i min : ℕ) → tight row i min ≡ false → i < count row → precedence row i < min
unfolding tight
tight-no row i min h k = leb-false _ _ (simp (lt-ltb _ _ k) at h)

as-operator : (row : List ℕ) (i first next : ℕ) → leftmost row i ≡ first → next ≡ rightmost row i → field 0x0B (number 2 first ++ number 2 next) ≡ operator row i
unfolding operator
as-operator row i first next e k = rw (← e, k)

pub record Going (row : List ℕ) (from min : ℕ) (d₀ : List ℕ) (i : ℕ) (d : List ℕ) : Type 0 where
  pub low : from ≤ i
  pub high : i ≤ count row
  pub same : climbed row min i ≡ climbed row min from
  pub past : (j : ℕ) → from ≤ j → j < i → rightmost row j ≤ i
  pub puts : d ≡ overlay d₀ (4 + 7 * from) (operators row from (i - from))
  pub size : length d ≡ length d₀

pub begin : (row : List ℕ) (from min : ℕ) (d : List ℕ) → from ≤ count row → Going row from min d from d
begin row from min d h = record { low = omega arith; high = h; same = refl; past = λ j a b. absurd (omega arith); puts = start row from d; size = refl }

module _ (row : List ℕ) (f : Formed row) where
  -- what the call for the row of i asks
  pub asks : (i m : ℕ) → m ≡ least row i → Starts row (i + 1) (climbed row m (i + 1))
  asks i m e = rw (e, add-one) (starts-row row i (climbed row (least row i) (suc i)) (sym (rightmost-climbed row f i)))

  module _ (from min : ℕ) (d₀ : List ℕ) (i : ℕ) (d : List ℕ) (g : Going row from min d₀ i d) where
    -- the loop ends before i
    pub done : tight row i min ≡ false → Climbs row from min i d₀ d
    done h =
        let a : climbed row min i ≤ i = climbed-stop row min i i (omega arith) (tight-no row i min h) g.high in
        record { end = omega (arith, climbed-low row min i, g.same); puts = g.puts }

    module _ (t : tight row i min ≡ true) (m : ℕ) (em : m ≡ least row i) (next : ℕ) (d₁ : List ℕ) (c : Climbs row (i + 1) m next d d₁) where
      ends : next ≡ rightmost row i
      ends = c.end ∙ rw (em, add-one) (sym (rightmost-climbed row f i))

      pub passed : i < next
      passed = rw ends (rightmost-low row f i)

      pub within : next ≤ count row
      within = rw ends (rightmost-high row f i (tight-yes row i min t).0)

      between : (j : ℕ) → i ≤ j → j < next → min ≤ precedence row j
      between j h k =
          ⊎_elim
          (λ (e : i ≡ j). rw (← e) (tight-yes row i min t).1)
          (λ l. let r : j < rightmost row i = rw ends at k in omega (arith, row-tight row f i j l r, (tight-yes row i min t).1))
          (eq-or-lt_of_le h)

      settled : (j : ℕ) → from ≤ j → j < next → rightmost row j ≤ next
      settled j h k =
          elim (dec_lt j i) [
            | yes l ↦ let a : rightmost row j ≤ i = g.past j h l in omega (arith, passed)
            | no l ↦ ⊎_elim
                (λ (e : i ≡ j). rw (← e, ends) (omega arith))
                (λ m. let r : j < rightmost row i = rw ends at k in rw ends (row-nests row f i j (tight-yes row i min t).0 m r))
                (eq-or-lt_of_le (let u : i ≤ j = omega arith in u))
          ]

      -- i is put, behind its row
      pub again : Starts row from (climbed row min from) → (d₂ : List ℕ) → d₂ ≡ overlay d₁ (4 + 7 * i) (field 0x0B (number 2 from ++ number 2 next)) → length d₁ ≡ length d → Going row from min d₀ next d₂
      again s d₂ e l =
          let on : climbed row min i ≡ climbed row min next = climbed-skip row min i next (omega (arith, passed)) within between in
          let b : i < climbed row min from = omega (arith, passed, g.same, climbed-low row min next) in
          let left : leftmost row i ≡ from = s i g.low b g.past in
          let own : field 0x0B (number 2 from ++ number 2 next) ≡ operator row i = as-operator row i from next left ends in
          record {
            low = omega (arith, passed, g.low);
            high = within;
            same = sym on ∙ g.same;
            past = settled;
            puts = turn row from i next d₀ d d₁ d₂ g.low passed g.puts c.puts (e ∙ ap (λ (x : List ℕ). overlay d₁ (4 + 7 * i) x) own);
            size = ap length e ∙ length-overlay _ _ _ ∙ l ∙ g.size;
          }

  -- no operator behind i stands in its row
  pub alone : (at m : ℕ) (d : List ℕ) → at ≤ count row → tight row at m ≡ false → Climbs row at m at d d
  alone at m d h t = done at m d at d (begin row at m d h) t
