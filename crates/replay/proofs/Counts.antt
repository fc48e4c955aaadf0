-- What the counts say of the cases replayed. Assumes nothing.
use mathlib.Core.Path.{◌≡◌, ap, ◌∙◌}
use mathlib.Core.Bool.{Bool, true, false}
use mathlib.Core.List.{List}
use Prim.Native.Nat.{ℕ, ◌+◌, ◌-◌, ◌≤◌}
use native.Mathlib.Omega.{arith}
use lib.ListN.{length, take, drop, length-drop}
use denote.Ref.{Bor}
use Rattle.std.specs.Prelude.{Some}
use Rattle.std.proofs.Common.{subst, refl}
use Rattle.replay.specs.declared.Entry.{Entry}
use Rattle.replay.specs.declared.Entry.TheVariants.{Climb, Lex}
use Rattle.replay.specs.declared.Tally.{Tally}
use Rattle.replay.specs.declared.Tallies.{Tallies}
use Rattle.replay.specs.Case.{Whole}
use Rattle.replay.specs.Replay.{Holds}
use Rattle.replay.specs.Count.{Few, Faultless, OneMore, Counted, Turned, Held, none, more}
use Rattle.replay.proofs.Numbers.{drops}

-- what is left is the sample's end; before it stand whole cases, which hold where no mismatch is counted, and no count is above their bytes
abbrev pub Going : List ℕ → List ℕ → Tallies → Type 0
Going sample rest t =
    (length rest ≤ length sample) × (rest ≡ drop (length sample - length rest) sample) × Few t (length sample - length rest)
    × (Faultless t → Held sample (length sample - length rest))

pub begin : (s : List ℕ) (t : Tallies) → Few t 0 → Going s s t
begin s t f = let z : length s - length s ≡ 0 = omega arith in rw z (omega arith, refl, f, λ _. none)

pub again : (s rest : List ℕ) (behind : Bor (List ℕ)) (t t' : Tallies) → Going s rest t → Turned rest (Some behind) t t' → Going s behind.now t'
again s rest behind t t' g u =
    let (n, some, within, e, whole, holds) = u.holds in
    let at : ℕ = length s - length rest in
    let l : length behind.now ≡ length rest - n = ap length e ∙ length-drop n rest in
    let z : at + n ≡ length s - length behind.now = omega (arith, l) in
    let f = u.few at g.2 in
    let w : List ℕ → Type 0 = λ x. Whole (take n x) in
    let h : List ℕ → Type 0 = λ x. Holds (take n x) in
    rw (← z) (omega (arith, l), drops at n s rest behind.now g.1 e, omega arith, λ i. more at n (g.3 (u.kept i)) (subst w g.1 whole) (subst h g.1 (holds i)))

-- what one more says of the counts: each grows by one at most, and none that is no mismatch was one
one-more : (t t' : Tally) (held : Bool) → OneMore t t' held
    → ((n : ℕ) → t.mismatches ≤ n → t'.mismatches ≤ n + 1) × (t'.mismatches ≡ 0 → t.mismatches ≡ 0) × (t'.mismatches ≡ 0 → held ≡ true)
one-more t t' true o = let m = o.mismatches in (λ n h. omega arith, λ e. omega arith, λ _. refl)
one-more t t' false o = let m = o.mismatches in (λ n h. omega arith, λ e. omega arith, λ e. absurd (omega arith))

pub counted : (e : Entry) (t t' : Tallies) (held : Bool) → Counted e t t' held
    → ((n : ℕ) → Few t n → Few t' (n + 1)) × (Faultless t' → Faultless t) × (Faultless t' → held ≡ true)
counted Climb t t' held c =
    let o = one-more t.climb t'.climb held c.0 in
    let k = c.0.cases in
    (λ n f. rw c.1 (omega arith, o.0 n f.1, omega arith, omega arith), λ f. (o.1 f.0, rw c.1 at f.1), λ f. o.2 f.0)
counted Lex t t' held c =
    let o = one-more t.lex t'.lex held c.1 in
    let k = c.1.cases in
    (λ n f. rw c.0 (omega arith, omega arith, omega arith, o.0 n f.3), λ f. (rw c.0 at f.0, o.1 f.1), λ f. o.2 f.1)
