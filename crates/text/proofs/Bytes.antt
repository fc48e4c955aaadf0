-- The bytes of a character, by the range that its number is in.
-- Assumes nothing.
use mathlib.Core.Path.{◌≡◌, refl, sym, ◌∙◌}
use mathlib.Core.Bool.{Bool, true, false, false≢true}
use mathlib.Core.Logic.{◌⊎◌, inl, inr, ⊎_elim}
use Prim.Native.Nat.{ℕ, ◌≤◌, ◌<◌}
use native.Mathlib.Omega.{arith}
use lib.Dec.{ltb}
use borrow.Author.Tests.{lt-ltb, le-ltb, ltb-true, ltb-false}
use Rattle.text.specs.Utf8.{scalars, is_scalar, encode, utf8, one, two, three, four}
use Rattle.text.proofs.Among.{inside, outside}

pub scalar-low : (c : ℕ) → c < 0xD800 → is_scalar c ≡ true
unfolding is_scalar scalars
scalar-low c h = sym (inside scalars 0 c (omega arith))

pub scalar-high : (c : ℕ) → 0xE000 ≤ c → c < 0x110000 → is_scalar c ≡ true
unfolding is_scalar scalars
scalar-high c h g = sym (inside scalars 1 c (omega arith))

pub side : (c k : ℕ) → (c < k) ⊎ (k ≤ c)
side c k = go (ltb c k) refl
  where
    go : (b : Bool) → ltb c k ≡ b → (c < k) ⊎ (k ≤ c)
    go true e = inl (ltb-true _ _ e)
    go false e = inr (ltb-false _ _ e)

not_scalar : (c : ℕ) → is_scalar c ≡ true → 0xD800 ≤ c → c < 0xE000 → ⊥
unfolding is_scalar scalars
not_scalar c e h g = false≢true (outside scalars c (omega arith) ∙ e)

not-past : (c : ℕ) → is_scalar c ≡ true → 0x110000 ≤ c → ⊥
unfolding is_scalar scalars
not-past c e h = false≢true (outside scalars c (omega arith) ∙ e)

-- "0 to D7FF and E000 to 10FFFF"
pub scalar-side : (c : ℕ) → is_scalar c ≡ true → (c < 0xD800) ⊎ ((0xE000 ≤ c) × (c < 0x110000))
scalar-side c e =
    ⊎_elim inl
    (λ h. ⊎_elim (λ g. absurd (not_scalar c e h g)) (λ g. ⊎_elim (λ k. inr (g, k)) (λ k. absurd (not-past c e k)) (side c 0x110000)) (side c 0xE000))
    (side c 0xD800)

pub utf8-one : (c : ℕ) → c < 0x80 → utf8 c ≡ one c
unfolding utf8 encode
utf8-one c h = rw (scalar-low c (omega arith), lt-ltb _ _ h)

pub utf8-two : (c : ℕ) → 0x80 ≤ c → c < 0x800 → utf8 c ≡ two c
unfolding utf8 encode
utf8-two c h g = rw (scalar-low c (omega arith), le-ltb _ _ h, lt-ltb _ _ g)

three-of : (c : ℕ) → is_scalar c ≡ true → 0x800 ≤ c → c < 0x10000 → utf8 c ≡ three c
unfolding utf8 encode
three-of c t h g =
    let a : 0x80 ≤ c = omega arith in
    rw (t, le-ltb _ _ a, le-ltb _ _ h, lt-ltb _ _ g)

pub utf8-three : (c : ℕ) → 0x800 ≤ c → c < 0xD800 → utf8 c ≡ three c
utf8-three c h g = three-of c (scalar-low c g) h (omega arith)

pub utf8-three-high : (c : ℕ) → 0xE000 ≤ c → c < 0x10000 → utf8 c ≡ three c
utf8-three-high c h g = three-of c (scalar-high c h (omega arith)) (omega arith) g

pub utf8-four : (c : ℕ) → 0x10000 ≤ c → c < 0x110000 → utf8 c ≡ four c
unfolding utf8 encode
utf8-four c h g =
    let a : 0x80 ≤ c = omega arith in
    let b : 0x800 ≤ c = omega arith in
    rw (scalar-high c (omega arith) g, le-ltb _ _ a, le-ltb _ _ b, le-ltb _ _ h)
