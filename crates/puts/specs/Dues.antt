-- Where an own record is due, as a number that tells the same. Assumes nothing.
use Rattle.std.specs.Prelude.{ℕ, ◌+◌, ◌≤◌, ◌<◌, ◌≡◌, ◌⊎◌, refl, List, Option, Some, None}
use Rattle.std.proofs.Common.{arith, sym, ap, ◌∙◌, inl, inr}
use Rattle.fields.specs.Room.{overlay}
use Rattle.puts.specs.declared.state.State.{State}
use Rattle.puts.specs.State.{off, with_off, late, start_of, spot_of, next_of, start_at, spot_at, next_at, at_of, Due}
use Rattle.puts.specs.Rooms.{start-high, spot-own, spot-late, next-own, next-late}

-- before the next offset, at it, or behind the members
pub due-placed : (o : Option ℕ) (st : State) → Due o st → (at_of o ≤ off st) ⊎ (at_of o ≡ late)
due-placed (Some o) st d = inl d
due-placed None st d = inr refl

pub due-on : (o : Option ℕ) (st st₁ : State) → Due o st → off st ≤ off st₁ → Due o st₁
due-on (Some o) st st₁ d l = omega (arith, d, l)
due-on None st st₁ d l = tt

pub due-least : (o : Option ℕ) (st : State) (b : ℕ) → Due o st → off st ≤ b → late ≤ b → at_of o ≤ b
due-least (Some o) st b d l h = omega (arith, d, l)
due-least None st b d l h = h

-- where the members start
pub started : (o : Option ℕ) (m w : ℕ) → m < late → start_at o m w ≡ start_of (at_of o) m w
unfolding start_at
started o m w l = refl

-- where the own record stands, and the next offset
pub spotted : (o : Option ℕ) (x : ℕ) (st : State) → Due o st → off st < late → spot_at o x ≡ spot_of (at_of o) x
unfolding spot_at
spotted (Some o) x st d l = sym (spot-own o x (omega (arith, d, l)))
spotted None x st d l = sym (spot-late x)

pub nexted : (o : Option ℕ) (x w : ℕ) (st : State) → Due o st → off st < late → next_at o x w ≡ next_of (at_of o) x w
unfolding next_at
nexted (Some o) x w st d l = sym (next-own o x w (omega (arith, d, l)))
nexted None x w st d l = sym (next-late x w)

-- no further than either
pub spot-most : (o : Option ℕ) (x b : ℕ) → at_of o ≤ b → x ≤ b → spot_at o x ≤ b
unfolding spot_at
spot-most (Some o) x b h k = h
spot-most None x b h k = k

pub start-most : (o : Option ℕ) (m w : ℕ) → start_at o m w ≤ m + w
unfolding start_at
start-most o m w = start-high (at_of o) m w

-- ---- what the state's methods give, by the number

pub reserve-of : (o : Option ℕ) (w : ℕ) (st st₁ : State) → off st < late → st₁ ≡ with_off st (start_at o (off st) w) → st₁ ≡ with_off st (start_of (at_of o) (off st) w)
reserve-of o w st st₁ l e = e ∙ ap (with_off st) (started o (off st) w l)

pub place-spot : (o : Option ℕ) (r x : ℕ) (st : State) → Due o st → off st < late → r ≡ spot_at o x → r ≡ spot_of (at_of o) x
place-spot o r x st d l e = e ∙ spotted o x st d l

pub place-next : (o : Option ℕ) (w : ℕ) (st s s₁ : State) → Due o st → off st < late → s₁ ≡ with_off s (next_at o (off s) w) → s₁ ≡ with_off s (next_of (at_of o) (off s) w)
place-next o w st s s₁ d l e = e ∙ ap (with_off s) (nexted o (off s) w st d l)

-- a record without members, behind what st was when it was due
pub alone-of : (o : Option ℕ) (r w : ℕ) (st s s₁ : State) → Due o st → off st < late → off s < late
    → (r ≡ spot_at o (start_at o (off s) w)) × (s₁ ≡ with_off s (next_at o (start_at o (off s) w) w))
    → (r ≡ spot_of (at_of o) (start_of (at_of o) (off s) w)) × (s₁ ≡ with_off s (next_of (at_of o) (start_of (at_of o) (off s) w) w))
alone-of o r w st s s₁ d l h e = (
  e.0 ∙ spotted o (start_at o (off s) w) st d l ∙ ap (spot_of (at_of o)) (started o (off s) w h),
  e.1 ∙ ap (with_off s) (nexted o (start_at o (off s) w) w st d l ∙ ap (λ (x : ℕ). next_of (at_of o) x w) (started o (off s) w h)),
)

pub bare-of : (o : Option ℕ) (r v w : ℕ) (x : List ℕ) (st s s₁ : State) (d d₁ : List ℕ) → Due o st → off st < late → off s < late
    → (r ≡ v) × (s₁ ≡ with_off s (next_at o (start_at o (off s) w) w)) × (d₁ ≡ overlay d (spot_at o (start_at o (off s) w)) x)
    → (r ≡ v) × (s₁ ≡ with_off s (next_of (at_of o) (start_of (at_of o) (off s) w) w)) × (d₁ ≡ overlay d (spot_of (at_of o) (start_of (at_of o) (off s) w)) x)
bare-of o r v w x st s s₁ d d₁ u l h e =
    let a = alone-of o (spot_at o (start_at o (off s) w)) w st s s₁ u l h (refl, e.1) in
    (e.0, a.1, e.2 ∙ ap (λ (y : ℕ). overlay d y x) a.0)
