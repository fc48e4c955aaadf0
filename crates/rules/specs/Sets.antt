-- What the sets of Tails.antt mean, level by level. Assumes nothing.
use Rattle.std.specs.Prelude.{◌≡◌, refl, Bool, true, false, cond, not, ◌||◌, ◌≢◌, ℕ, zero, suc, ◌+◌, ◌-◌, ◌*◌, ◌/◌, ◌%◌, ◌^◌, ◌≤◌, ◌<◌, min, max, eqb, ltb}
use Rattle.std.proofs.Common.{sym, ap, ap₂, subst, ◌∙◌, true≢false, pow-suc, one-mul, arith, pow_pos, pow-add, shr-shr, ltb-true, ltb-false, eqb-true, lt-ltb, eq-eqb, ne_eqb}
use Rattle.std.proofs.lemmas.Bool.{false≢true}
use Rattle.std.proofs.Math.Nat.{div-eq_of_lt}
use Rattle.std.specs.Int.Bits.{bit_and, bit_or, bit_xor, differ, and_step, or_step, xor_step, and_zero_l, and_self, xor_add_and}
use Rattle.std.proofs.lemmas.Nat.{and_shr, or_shr, xor_shr, and_comm, shl-shr}
use Rattle.std.proofs.lemmas.Nat.Bits.{and_high}
use Rattle.std.proofs.Math.Pow.{pow-lt}
use Rattle.rules.specs.Tails.{empty, bit, union, has, without, subset}

-- the digit of level l
abbrev pub digit : ℕ → ℕ → ℕ
digit s l = s / 2 ^ l % 2

low : (a c : ℕ) → c < 2 → (a * 2 + c) % 2 ≡ c
low a c h = omega arith

pub digit-small : (s l : ℕ) → digit s l < 2
digit-small s l = omega arith

pub digit_or : (a b l : ℕ) → digit (bit_or a b) l ≡ max (digit a l) (digit b l)
digit_or a b l =
    ap (λ (z : ℕ). z % 2) (or_shr a b l ∙ or_step (a / 2 ^ l) (b / 2 ^ l)) ∙ low (bit_or (a / 2 ^ l / 2) (b / 2 ^ l / 2)) (max (digit a l) (digit b l)) (two (digit a l) (digit b l) (digit-small a l) (digit-small b l))
  where
    two : (x y : ℕ) → x < 2 → y < 2 → max x y < 2
    two x y p q = omega arith

pub digit_and : (a b l : ℕ) → digit (bit_and a b) l ≡ min (digit a l) (digit b l)
digit_and a b l =
    ap (λ (z : ℕ). z % 2) (and_shr a b l ∙ and_step (a / 2 ^ l) (b / 2 ^ l)) ∙ low (bit_and (a / 2 ^ l / 2) (b / 2 ^ l / 2)) (min (digit a l) (digit b l)) (two (digit a l) (digit b l) (digit-small a l) (digit-small b l))
  where
    two : (x y : ℕ) → x < 2 → y < 2 → min x y < 2
    two x y p q = omega arith

-- ---- a number is its digits

lt-pow : (n : ℕ) → n < 2 ^ n
lt-pow zero = omega arith
lt-pow (suc n) = omega (arith, lt-pow n, pow-suc 2 n)

digit-half : (a l : ℕ) → digit (a / 2) l ≡ digit a (suc l)
digit-half a l =
    let o : 1 + l ≡ suc l = omega arith in
    ap (λ (z : ℕ). z % 2) (shr-shr a 1 l) ∙ ap (λ (z : ℕ). a / 2 ^ z % 2) o

alike : (k a b : ℕ) → a < 2 ^ k → b < 2 ^ k → ((l : ℕ) → digit a l ≡ digit b l) → a ≡ b
alike zero a b p q f = omega arith
alike (suc k) a b p q f =
    let z : digit a 0 ≡ digit b 0 = f 0 in
    let h : a / 2 ≡ b / 2 = alike k (a / 2) (b / 2) (omega (arith, pow-suc 2 k)) (omega (arith, pow-suc 2 k)) (λ l. digit-half a l ∙ f (suc l) ∙ sym (digit-half b l)) in
    omega (arith, z, h)

pub same_digits : (a b : ℕ) → ((l : ℕ) → digit a l ≡ digit b l) → a ≡ b
same_digits a b f = alike (a + b) a b (omega (arith, lt-pow (a + b))) (omega (arith, lt-pow (a + b))) f

digit-xor : (a b l : ℕ) → digit (bit_xor a b) l ≡ differ (digit a l) (digit b l)
digit-xor a b l =
    ap (λ (z : ℕ). z % 2) (xor_shr a b l ∙ xor_step (a / 2 ^ l) (b / 2 ^ l)) ∙ low (bit_xor (a / 2 ^ l / 2) (b / 2 ^ l / 2)) (differ (digit a l) (digit b l)) (two (digit a l) (digit b l) (digit-small a l) (digit-small b l))
  where
    two : (x y : ℕ) → x < 2 → y < 2 → differ x y < 2
    two zero y p q = q
    two (suc zero) zero p q = p
    two (suc zero) (suc zero) p q = omega arith
    two (suc zero) (suc (suc y)) p q = absurd (omega arith)
    two (suc (suc x)) y p q = absurd (omega arith)

-- ---- one level

pub digit-own : (l : ℕ) → digit (2 ^ l) l ≡ 1
digit-own l = ap (λ (z : ℕ). z % 2) (ap (λ (z : ℕ). z / 2 ^ l) (sym (one-mul (2 ^ l))) ∙ shl-shr 1 l)

pub digit-other : (l k : ℕ) → k ≢ l → digit (2 ^ l) k ≡ 0
digit-other l k h = go (ltb k l) refl
  where
    below : (j : ℕ) → l ≡ suc j + k → digit (2 ^ l) k ≡ 0
    below j e =
        let p : 2 ^ l ≡ 2 ^ suc j * 2 ^ k = ap (λ (z : ℕ). 2 ^ z) e ∙ pow-add 2 (suc j) k in
        let q : 2 ^ l / 2 ^ k ≡ 2 ^ suc j = ap (λ (z : ℕ). z / 2 ^ k) p ∙ shl-shr (2 ^ suc j) k in
        ap (λ (z : ℕ). z % 2) q ∙ omega (arith, pow-suc 2 j)

    go : (b : Bool) → ltb k l ≡ b → digit (2 ^ l) k ≡ 0
    go true e = below (l - suc k) (omega (arith, ltb-true k l e))
    go false e = ap (λ (z : ℕ). z % 2) (div-eq_of_lt (pow-lt {i = l} {j = k} (omega (arith, ltb-false k l e, h))))

-- the bit of a level, by arithmetic
pub and-bit : (s l : ℕ) → bit_and s (2 ^ l) ≡ digit s l * 2 ^ l
and-bit s l =
    let p : 2 ^ suc l ≡ 2 ^ l * 2 = pow-suc 2 l in
    let o : 1 + l ≡ suc l = omega arith in
    let e : 2 ^ (1 + l) - 2 ^ l ≡ 2 ^ l = ap (λ (z : ℕ). 2 ^ z - 2 ^ l) o ∙ omega arith in
    sym (ap (bit_and s) e) ∙ and_high s 1 l

-- a set has a level where its digit is 1
pub has-digit : (s l : ℕ) → l < 64 → has l s ≡ eqb (digit s l) 1
unfolding has bit
has-digit s l h = rw (lt-ltb l 64 h, and-bit s l) (go (digit s l) (digit-small s l))
  where
    go : (x : ℕ) → x < 2 → not (eqb (x * 2 ^ l) 0) ≡ eqb x 1
    go zero p = let e : 0 * 2 ^ l ≡ 0 = omega arith in rw e
    go (suc zero) p = rw (ne_eqb (1 * 2 ^ l) 0 (λ e. omega (arith, pow_pos l)))
    go (suc (suc x)) p = absurd (omega arith)

-- ---- parts of a set

pub subset-digits : (s r : ℕ) → subset s r ≡ true → (l : ℕ) → digit s l ≤ digit r l
unfolding subset
subset-digits s r h l = omega (arith, ap (λ (z : ℕ). digit z l) (eqb-true (bit_and s r) s h), digit_and s r l)

pub digits-subset : (s r : ℕ) → ((l : ℕ) → digit s l ≤ digit r l) → subset s r ≡ true
unfolding subset
digits-subset s r f = eq-eqb (bit_and s r) s (same_digits (bit_and s r) s (λ l. omega (arith, f l, digit_and s r l)))

pub subset-empty : (r : ℕ) → subset empty r ≡ true
unfolding subset
subset-empty r = eq-eqb (bit_and 0 r) 0 (and_zero_l r)

pub subset-self : (r : ℕ) → subset r r ≡ true
unfolding subset
subset-self r = eq-eqb (bit_and r r) r (and_self r)

pub subset-trans : (s r u : ℕ) → subset s r ≡ true → subset r u ≡ true → subset s u ≡ true
subset-trans s r u h k = digits-subset s u (λ l. omega (arith, subset-digits s r h l, subset-digits r u k l))

pub subset-union : (s u r : ℕ) → subset s r ≡ true → subset u r ≡ true → subset (union s u) r ≡ true
subset-union s u r h k = digits-subset (union s u) r (λ l. omega (arith, subset-digits s r h l, subset-digits u r k l, digit_or s u l))

-- ---- what each operation does to a level below 64

-- the digit that decides
digit-has : (s l : ℕ) → l < 64 → has l s ≡ true → digit s l ≡ 1
digit-has s l h e = eqb-true (digit s l) 1 (sym (has-digit s l h) ∙ e)

pub has-empty : (l : ℕ) → has l empty ≡ false
unfolding has
has-empty l = ap (λ (z : ℕ). not (eqb z 0)) (and_zero_l (bit l))

pub has-union : (s u l : ℕ) → l < 64 → has l (union s u) ≡ (has l s || has l u)
has-union s u l h =
    has-digit (union s u) l h ∙ ap (λ (z : ℕ). eqb z 1) (digit_or s u l) ∙ go (digit s l) (digit u l) (digit-small s l) (digit-small u l) ∙ sym (ap₂ ◌||◌ (has-digit s l h) (has-digit u l h))
  where
    go : (x y : ℕ) → x < 2 → y < 2 → eqb (max x y) 1 ≡ (eqb x 1 || eqb y 1)
    go zero zero p q = refl
    go zero (suc zero) p q = refl
    go (suc zero) zero p q = refl
    go (suc zero) (suc zero) p q = refl
    go (suc (suc x)) y p q = absurd (omega arith)
    go zero (suc (suc y)) p q = absurd (omega arith)
    go (suc zero) (suc (suc y)) p q = absurd (omega arith)

-- a part of a set has no more than the set
pub has-subset : (s r l : ℕ) → l < 64 → subset s r ≡ true → has l s ≡ true → has l r ≡ true
has-subset s r l h k e = has-digit r l h ∙ eq-eqb (digit r l) 1 (omega (arith, digit-has s l h e, subset-digits s r k l, digit-small r l))

-- what a set has is a part of it
pub subset-bit : (l r : ℕ) → has l r ≡ true → subset (bit l) r ≡ true
unfolding has bit subset
subset-bit l r e = go (ltb l 64) e
  where
    own : (x : ℕ) → x < 2 → not (eqb (x * 2 ^ l) 0) ≡ true → x * 2 ^ l ≡ 2 ^ l
    own zero p h = absurd (false≢true (let z : 0 * 2 ^ l ≡ 0 = omega arith in sym (ap (λ (k : ℕ). not (eqb k 0)) z) ∙ h))
    own (suc zero) p h = one-mul (2 ^ l)
    own (suc (suc x)) p h = absurd (omega arith)

    go : (b : Bool) → not (eqb (bit_and r (cond b (2 ^ l) 0)) 0) ≡ true → eqb (bit_and (cond b (2 ^ l) 0) r) (cond b (2 ^ l) 0) ≡ true
    go true h =
        eq-eqb (bit_and (2 ^ l) r) (2 ^ l)
        (and_comm (2 ^ l) r ∙ and-bit r l ∙ own (digit r l) (digit-small r l) (subst (λ (z : ℕ). not (eqb z 0) ≡ true) (and-bit r l) h))
    go false h = eq-eqb (bit_and 0 r) 0 (and_zero_l r)

pub has-bit : (l : ℕ) → l < 64 → has l (bit l) ≡ true
unfolding bit
has-bit l h = has-digit (bit l) l h ∙ rw (lt-ltb l 64 h) (eq-eqb (digit (2 ^ l) l) 1 (digit-own l))

pub has_other : (l k : ℕ) → k < 64 → k ≢ l → has k (bit l) ≡ false
unfolding bit
has_other l k h d = has-digit (bit l) k h ∙ go (ltb l 64)
  where
    go : (b : Bool) → eqb (digit (cond b (2 ^ l) 0) k) 1 ≡ false
    go true = rw (digit-other l k d)
    go false = ne_eqb (digit 0 k) 1 (λ e. omega (arith, subset-digits 0 0 (subset-empty 0) k, e, div-eq_of_lt (pow_pos k)))

-- a set less a level: the digits of the others stay
less : (s m : ℕ) → subset m s ≡ true → s - m ≡ bit_xor s m
unfolding subset
less s m h =
    let e : bit_and m s ≡ m = eqb-true (bit_and m s) m h in
    omega (arith, xor_add_and s m, and_comm s m, e)

part_of : (s u : ℕ) → subset (bit_and s u) s ≡ true
part_of s u = digits-subset (bit_and s u) s (λ l. omega (arith, digit_and s u l))

without-digit : (s l k : ℕ) → digit (without l s) k ≡ differ (digit s k) (min (digit s k) (digit (bit l) k))
unfolding without
without-digit s l k =
    ap (λ (z : ℕ). digit z k) (less s (bit_and s (bit l)) (part_of s (bit l))) ∙ digit-xor s (bit_and s (bit l)) k ∙ ap (λ (z : ℕ). differ (digit s k) z) (digit_and s (bit l) k)

pub without-own : (s l : ℕ) → l < 64 → has l (without l s) ≡ false
unfolding bit
without-own s l h =
    has-digit (without l s) l h ∙ ap (λ (z : ℕ). eqb z 1) (without-digit s l l) ∙ rw (lt-ltb l 64 h, digit-own l) (go (digit s l) (digit-small s l))
  where
    go : (x : ℕ) → x < 2 → eqb (differ x (min x 1)) 1 ≡ false
    go zero p = refl
    go (suc zero) p = refl
    go (suc (suc x)) p = absurd (omega arith)

pub without_other : (s l k : ℕ) → k < 64 → k ≢ l → has k (without l s) ≡ has k s
without_other s l k h d =
    has-digit (without l s) k h ∙ ap (λ (z : ℕ). eqb z 1) (without-digit s l k ∙ go (digit s k) (digit (bit l) k) (absent (has-digit (bit l) k h) (has_other l k h d) (digit-small (bit l) k))) ∙ sym (has-digit s k h)
  where
    absent : {b : Bool} {x : ℕ} → b ≡ eqb x 1 → b ≡ false → x < 2 → x ≡ 0
    absent {x = x} p q r = zero_of x (sym p ∙ q) r
      where
        zero_of : (x : ℕ) → eqb x 1 ≡ false → x < 2 → x ≡ 0
        zero_of zero p r = refl
        zero_of (suc zero) p r = absurd (true≢false p)
        zero_of (suc (suc x)) p r = absurd (omega arith)

    go : (x y : ℕ) → y ≡ 0 → differ x (min x y) ≡ x
    go x y e = ap (differ x) (let z : min x y ≡ 0 = omega (arith, e) in z) ∙ nothing x
      where
        nothing : (x : ℕ) → differ x 0 ≡ x
        nothing zero = refl
        nothing (suc x) = refl
