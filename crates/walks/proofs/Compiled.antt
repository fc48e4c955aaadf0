-- From the contract of `compile` to the two walks: what an answer 0 says of the tree bytes and of the room. Assumes nothing.
use Rattle.std.specs.Prelude.{ℕ, ◌≡◌, refl, Bool, true, false, List, [], ◌∷◌, ◌++◌, length, take, drop, leb, ltb}
use Rattle.std.proofs.Common.{arith, sym, ap, ◌∙◌}
use Rattle.std.proofs.Math.Seq.{take-append_seam}
use Rattle.fields.specs.declared.Answer.{Answer}
use Rattle.fields.specs.Outcome.{Outcome, listing, refusal, pick, answer, content, Answers}
use Rattle.tree.specs.Tree.{Tree}
use Rattle.tree.proofs.Verdicts.{says-zero}
use Rattle.rules.specs.Table.{Err}
use Rattle.rules.specs.Modules.{compile}
use Rattle.rules.specs.Listing.{compiling, listed}
use Rattle.rules.specs.Entry.{Comes, refused, compiled, Compiles}
use Rattle.walks.specs.Compiled.{Given, Taken}

given-of : (o : Outcome) (d d' : List ℕ) (r : Answer) → Answers o d d' r → r.number ≡ 0 → ((n p : ℕ) → o ≡ refusal n p → n ≡ 0 → ⊥) → Given o d' r
unfolding answer content
given-of (refusal n p) d d' r a e f = absurd (f n p refl (sym (ap (λ (x : Answer). x.number) a.answers) ∙ e))
given-of (listing n bytes) d d' r a e f = go (leb (length bytes) (length d)) a.answers a.leaves
  where
    go : (t : Bool) → r ≡ pick t (record { number = n; length = length bytes; place = 0 }) (record { number = 7; length = 0; place = 0 })
        → d' ≡ pick t (bytes ++ drop (length bytes) d) d → Given (listing n bytes) d' r
    go true q l =
        record {
          bytes = bytes;
          is = ap (λ (x : ℕ). listing x bytes) (sym (ap (λ (x : Answer). x.number) q) ∙ e);
          room = ap (λ (x : Answer). take x.length d') q ∙ ap (take (length bytes)) l ∙ take-append_seam bytes (drop (length bytes) d);
        }
    go false q l = absurd (omega (arith, e, ap (λ (x : Answer). x.number) q))

-- a tree is refused with 6 only
only-six : (t : Tree) (n p : ℕ) → compiling t ≡ refusal n p → n ≡ 0 → ⊥
unfolding compiling listed
only-six t n p q e = go (ltb 4096 (length (compile t).table)) (compile t).errs q
  where
    at : Outcome → ℕ
    at (refusal k x) = k
    at (listing k x) = 6

    go : (y : Bool) (xs : List Err) → pick y (refusal 6 0) (listed (compile t) xs) ≡ refusal n p → ⊥
    go true xs w = omega (arith, e, ap at w)
    go false [] w = omega (arith, e, ap at w)
    go false (x ∷ xs) w = omega (arith, e, ap at w)

pub taken : (b d d' : List ℕ) (r : Answer) → Compiles b d d' r → r.number ≡ 0 → Taken b d' r
unfolding answer
taken b d d' r c e = go c.outcome c.comes c.answers
  where
    go : (o : Outcome) → Comes b o → Answers o d d' r → Taken b d' r
    go o (refused v s n) a = absurd (n (sym (ap (λ (x : Answer). x.number) a.answers) ∙ e))
    go o (compiled t s h) a =
        let g = given-of (compiling t) d d' r a e (only-six t) in
        record { tree = t; encodes = h; short = (says-zero b s).0; bytes = g.bytes; outcome = g.is; room = g.room }
