-- Filling a room and comparing it. Assumes nothing.
use mathlib.Core.Path.{◌≡◌, refl, sym, ap, ◌∙◌}
use mathlib.Core.Bool.{Bool, true, false, false≢true}
use mathlib.Core.List.{List}
use Prim.Native.Nat.{ℕ, ◌+◌, ◌-◌, ◌≤◌, ◌<◌}
use native.Mathlib.Omega.{arith}
use lib.Dec.{ltb}
use lib.ListN.{length, get_or, take, drop}
use lib.Seq.{take_all, length-take-le}
use borrow.Author.Tests.{lt-ltb, le-ltb}
use Rattle.std.proofs.lemmas.Bool.{ltb-true, ltb-false}
use Rattle.std.proofs.lemmas.List.{get_or-take, get_or-drop, length-drop, ext_get_or}
use Rattle.std.specs.Prelude.{◌&&◌}
use Rattle.replay.specs.Lent.{pattern_at, Patterned, Untouched, due_at, Left, Tells}

-- the pattern below i
abbrev pub Filled : List ℕ → ℕ → Type 0
Filled room i = (k : ℕ) → k < i → get_or room k 0 ≡ pattern_at k

pub fill-all : (room : List ℕ) (i : ℕ) → length room ≤ i → Filled room i → Patterned room
unfolding Patterned
fill-all room i h f k l = f k (omega arith)

pub due_in : (listing : List ℕ) (i : ℕ) → i < length listing → get_or listing i 0 ≡ due_at listing i
unfolding due_at
due_in listing i h = simp (lt-ltb _ _ h)

pub due-past : (listing : List ℕ) (i : ℕ) → length listing ≤ i → pattern_at i ≡ due_at listing i
unfolding due_at
due-past listing i h = simp (le-ltb _ _ h)

pub untrue : {P : Type 0} → false ≡ true → P
untrue e = absurd (false≢true e)

pub both : (a b : Bool) → (a && b) ≡ true → (a ≡ true) × (b ≡ true)
both true b h = (refl, h)
both false b h = untrue h

-- what does not hold is told by false
pub untold : {P : Type 0} → (P → ⊥) → Tells false P
untold n = (untrue, λ p. absurd (n p))

pub short : (room listing : List ℕ) → length room < length listing → Tells false (Left room listing)
short room listing h = untold (λ l. omega (arith, l.fits))

-- the pattern below i, from number `from` on
abbrev pub Running : List ℕ → ℕ → ℕ → Type 0
Running bytes from i = (k : ℕ) → k < i → get_or bytes k 0 ≡ pattern_at (from + k)

-- the listing and what is behind it make up the room
module _ (room listing : List ℕ) (n : ℕ) (e : n ≡ length listing) (f : n ≤ length room) where
  -- what is behind, as the code has it
  pub rest : take (length room - n) (drop n room) ≡ drop n room
  rest = take_all _ _ (omega (arith, length-drop n room))

  pub both-left : take n room ≡ listing → Untouched (drop n room) n → Left room listing
  both-left t u = record { fits = omega (arith, e, f); holds = λ i l. go i l (ltb i n) refl }
    where
      go : (i : ℕ) → i < length room → (b : Bool) → ltb i n ≡ b → get_or room i 0 ≡ due_at listing i
      go i l true h =
          let k : i < n = ltb-true _ _ h in
          sym (get_or-take n room i 0 k) ∙ ap (λ x. get_or x i 0) t ∙ due_in listing i (omega (arith, k, e))
      go i l false h =
          let k : n ≤ i = ltb-false _ _ h in
          ap (λ j. get_or room j 0) (omega (arith, k)) ∙ sym (get_or-drop n room (i - n) 0) ∙ u (i - n) (omega (arith, k, l, length-drop n room)) ∙ ap pattern_at (omega (arith, k)) ∙ due-past listing i (omega (arith, k, e))

  pub left-listing : Left room listing → take n room ≡ listing
  left-listing l = ext_get_or 0 _ _ (length-take-le n room f ∙ e) (λ i k. let h : i < n = omega (arith, k, length-take-le n room f) in get_or-take n room i 0 h ∙ l.holds i (omega (arith, h, f)) ∙ sym (due_in listing i (omega (arith, h, e))))

  pub left-behind : Left room listing → Untouched (drop n room) n
  left-behind l i k = get_or-drop n room i 0 ∙ l.holds (n + i) (omega (arith, k, length-drop n room, f)) ∙ sym (due-past listing (n + i) (omega (arith, e)))
