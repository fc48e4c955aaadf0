-- How large an answer gets: who packs it into a word relies on this. Assumes nothing.
use mathlib.Core.Path.{◌≡◌, refl}
use mathlib.Core.Bool.{Bool, true, false}
use mathlib.Core.List.{List, ◌++◌}
use Prim.Native.Nat.{ℕ, ◌≤◌}
use native.Mathlib.Omega.{arith}
use lib.ListN.{length}
use lib.Dec.{ltb, leb}
use borrow.Author.Tests.{ltb-false}
use Rattle.fields.specs.declared.Answer.{Answer}
use Rattle.fields.specs.Outcome.{listing, refusal, pick, answer, Answers}
use Rattle.climber.specs.Row.{count}
use Rattle.climber.specs.Climbing.{formed, operators, opening, climbing}
use Rattle.climber.proofs.Operators.{listing-length}

pub record Small (r : Answer) : Type 0 where
  pub length : r.length ≤ 7172
  pub place : r.place ≡ 0

listed : (bytes : List ℕ) (n : ℕ) → length bytes ≤ 7172 → Small (answer (listing 0 bytes) n)
unfolding answer
listed bytes n h = go (leb (length bytes) n)
  where
    go : (t : Bool) → Small (pick t (record { number = 0; length = length bytes; place = 0 }) (record { number = 7; length = 0; place = 0 }))
    go true = record { length = h; place = refl }
    go false = record { length = omega arith; place = refl }

refused : (k n : ℕ) → Small (answer (refusal k 0) n)
unfolding answer
refused k n = record { length = omega arith; place = refl }

outcome : (row : List ℕ) (n : ℕ) → Small (answer (climbing row) n)
unfolding climbing
outcome row n = long (ltb 32768 (length row))
  where
    few : (t : Bool) → ltb 1024 (count row) ≡ t → Small (answer (pick t (refusal 8 0) (listing 0 (opening ++ operators row 0 (count row)))) n)
    few true e = refused 8 n
    few false e = listed (opening ++ operators row 0 (count row)) n (omega (arith, ltb-false 1024 (count row) e, listing-length row))

    right : (t : Bool) → Small (answer (pick t (pick (ltb 1024 (count row)) (refusal 8 0) (listing 0 (opening ++ operators row 0 (count row)))) (refusal 3 0)) n)
    right true = few (ltb 1024 (count row)) refl
    right false = refused 3 n

    long : (t : Bool) → Small (answer (pick t (refusal 2 0) (pick (formed row) (pick (ltb 1024 (count row)) (refusal 8 0) (listing 0 (opening ++ operators row 0 (count row)))) (refusal 3 0))) n)
    long true = refused 2 n
    long false = right (formed row)

pub climb-small : (row d d' : List ℕ) (r : Answer) → Answers (climbing row) d d' r → Small r
climb-small row d d' r a = rw a.answers (outcome row (length d))
