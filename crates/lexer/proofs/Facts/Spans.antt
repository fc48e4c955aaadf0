-- Rows of tokens and of errors: joined, and what they say of each member. Assumes nothing.
use mathlib.Core.List.{List, [], ◌∷◌, ◌++◌}
use Prim.Native.Nat.{ℕ, ◌+◌, ◌≤◌}
use native.Mathlib.Omega.{arith}
use Rattle.lexer.specs.Token.{Token, Tokens, leaf, char, group, none, more, join, Error}
use Rattle.lexer.proofs.Facts.Shape.{behind, Lies, Row, Rising, Placed, is_leaf_tag, is_group, Of, first, later, Among, Before, Reported}

-- ---- rows of tokens

lies-low : (t : Token) (a b : ℕ) → Lies t a b → (a ≤ behind t a) × (behind t a ≤ b)
unfolding Lies
lies-low (leaf tag start size) a b l = omega arith
lies-low (char c) a b l = omega arith
lies-low (group tag start size ts) a b l = omega (arith, l.0, l.1, l.2)

pub row_low : (ts : Tokens) (a b : ℕ) → Row ts a b → a ≤ b
unfolding Lies
row_low none a b r = r
row_low (more t ts) a b r = omega (arith, lies-low t a b r.0)

-- between places further apart
pub lies-wide : (t : Token) (a b a' b' : ℕ) → a' ≤ a → b ≤ b' → Lies t a b → Lies t a' b'
unfolding Lies
lies-wide (leaf tag start size) a b a' b' h k l = omega arith
lies-wide (char c) a b a' b' h k l = omega arith
lies-wide (group tag start size ts) a b a' b' h k l = (omega (arith, l.0), l.1, omega (arith, l.2), l.3)

behind-wide : (t : Token) (a a' : ℕ) → a' ≤ a → behind t a' ≤ behind t a
behind-wide (leaf tag start size) a a' h = omega arith
behind-wide (char c) a a' h = h
behind-wide (group tag start size ts) a a' h = omega arith

pub row-wide : (ts : Tokens) (a b a' b' : ℕ) → a' ≤ a → b ≤ b' → Row ts a b → Row ts a' b'
unfolding Lies
row-wide none a b a' b' h k r = omega arith
row-wide (more t ts) a b a' b' h k r = (lies-wide t a b a' b' h k r.0, row-wide ts (behind t a) b (behind t a') b' (behind-wide t a a' h) k r.1)

pub row-join : (ts us : Tokens) (a b c : ℕ) → Row ts a b → Row us b c → Row (join ts us) a c
unfolding Lies join
row-join none us a b c r q = row-wide us b c a c r (omega arith) q
row-join (more t ts) us a b c r q =
    (lies-wide t a b a c (omega arith) (row_low us b c q) r.0, row-join ts us (behind t a) b c r.1 q)

-- ---- rows of errors

pub rising-low : (es : List Error) (a b : ℕ) → Rising es a b → a ≤ b
unfolding Rising
rising-low [] a b r = r
rising-low (e ∷ es) a b r = omega (arith, r.0, rising-low es e.place b r.1)

pub rising-wide : (es : List Error) (a b a' b' : ℕ) → a' ≤ a → b ≤ b' → Rising es a b → Rising es a' b'
unfolding Rising
rising-wide [] a b a' b' h k r = omega arith
rising-wide (e ∷ es) a b a' b' h k r = (omega (arith, r.0), rising-wide es e.place b e.place b' (omega arith) k r.1)

pub rising-join : (es fs : List Error) (a b c : ℕ) → Rising es a b → Rising fs b c → Rising (es ++ fs) a c
unfolding Rising
rising-join [] fs a b c r q = rising-wide fs b c a c r (omega arith) q
rising-join (e ∷ es) fs a b c r q = (r.0, rising-join es fs e.place b c r.1 q)

pub rising-one : (e : Error) (a b : ℕ) → a ≤ e.place → e.place ≤ b → Rising (e ∷ []) a b
unfolding Rising
rising-one e a b h k = (h, k)

pub rising_none : (a b : ℕ) → a ≤ b → Rising [] a b
unfolding Rising
rising_none a b h = h

-- ---- each member

-- a row inside a group that lies between two places
inner : (tag start size : ℕ) (us : Tokens) (a b : ℕ) → Lies (group tag start size us) a b → Row us a b
unfolding Lies
inner tag start size us a b l = row-wide us (start + 1) (start + size) a b (omega (arith, l.0)) l.2 l.3

pub among-lies : {t : Token} {ts : Tokens} (a b : ℕ) → Among t ts → Row ts a b → Lies t a b
unfolding Lies
among-lies a b Among.here r = r.0
among-lies {t} a b (Among.further {u} m) r = lies-wide t (behind u a) b a b (lies-low u a b r.0).0 (omega arith) (among-lies (behind u a) b m r.1)
among-lies a b (Among.inside {tag} {start} {size} {us} m) r = among-lies a b m (inner tag start size us a b r.0)

-- the members of a group lie within it
pub members-lie : {t : Token} {tag start size : ℕ} {us ts : Tokens} (a b : ℕ) → Among (group tag start size us) ts → Row ts a b → Among t us
    → Lies t (start + 1) (start + size)
unfolding Lies
members-lie a b g r m = among-lies _ _ m (among-lies a b g r).3

pub placed-lies : {t : Token} {start size : ℕ} (a b : ℕ) → Placed t start size → Lies t a b → (a ≤ start) × (1 ≤ size) × (start + size ≤ b)
unfolding Lies
placed-lies a b is_leaf_tag l = l
placed-lies a b is_group l = (l.0, l.1, l.2)

of-among : {t : Token} {ts : Tokens} → Of t ts → Among t ts
of-among first = Among.here
of-among (later m) = Among.further (of-among m)

pub before-among : {t u : Token} {ts : Tokens} → Before t u ts → Among t ts
before-among (Before.here m) = Among.here
before-among (Before.further m) = Among.further (before-among m)
before-among (Before.inside m) = Among.inside (before-among m)

-- of two tokens in a row the one starts where the other has ended, or later
pub before-ends : {t u : Token} {ts : Tokens} {start size start' size' : ℕ} (a b : ℕ) → Before t u ts → Row ts a b → Placed t start size → Placed u start' size'
    → start + size ≤ start'
unfolding Lies
before-ends a b (Before.here m) r is_leaf_tag q = (placed-lies _ b q (among-lies _ b (of-among m) r.1)).0
before-ends a b (Before.here m) r is_group q = (placed-lies _ b q (among-lies _ b (of-among m) r.1)).0
before-ends a b (Before.further {v} m) r p q = before-ends (behind v a) b m r.1 p q
before-ends a b (Before.inside {tag} {start} {size} {us} m) r p q = before-ends a b m (inner tag start size us a b r.0) p q

pub reported-in : {e : Error} {es : List Error} (a b : ℕ) → Reported e es → Rising es a b → (a ≤ e.place) × (e.place ≤ b)
unfolding Rising
reported-in {e} a b (Reported.here {es}) r = (r.0, rising-low es e.place b r.1)
reported-in a b (Reported.further {f} m) r = let i = reported-in f.place b m r.1 in (omega (arith, r.0, i.0), i.1)
