-- Conditionals and sums, which the rules make from the last one back, as the code makes them: first what all of them contain, then their own records. Assumes nothing.
use Rattle.std.specs.Prelude.{ℕ, suc, ◌+◌, ◌≡◌, List, [], ◌∷◌, ◌++◌, map, length}
use Rattle.std.proofs.Common.{arith, sym, ap, ap₂, ◌∙◌, append_assoc, append-nil, length-append}
use Rattle.rules.specs.Table.{Rec, Node, n_math, Err}
use Rattle.rules.specs.Outs.{Out, sum_out}
use Rattle.cells.specs.Notes.{sum_all, held, held_errs, Summed, summed}

-- ---- sums

-- every summand's own record is at p
unfoldable pub AllAt : ℕ → List Out → Type 0
AllAt p [] = Unit {0}
AllAt p (a ∷ as') = (a.self.place ≡ p) × AllAt p as'

abbrev pub nodes_of : List Out → List Node
nodes_of os = map (λ (o : Out). o.self.node) os

-- what is made of summands
pub record SumIs (p n : ℕ) (t : Node) (os : List Out) (q : Out) : Type 0 where
  pub more : q.more ≡ held os ++ (summed p t (n + length (held os)) (nodes_of os)).more
  pub self : q.self ≡ record { place = p; node = (summed p t (n + length (held os)) (nodes_of os)).self }
  pub errs : q.errs ≡ held_errs os

same-rec : (p : ℕ) (r : Rec) → r.place ≡ p → r ≡ record { place = p; node = r.node }
same-rec p r e = ap (λ (k : ℕ). record { place = k; node = r.node }) e

abbrev sum_of : ℕ → ℕ → Out → List Out → Out
sum_of p n a os = sum_out p n a (sum_all p (n + length a.more) os)

-- what stands before a summand's own record, and behind it, in one row
in_row : (x y z l : List Rec) → x ++ ((y ++ z) ++ l) ≡ (x ++ y) ++ (z ++ l)
in_row x y z l = ap (λ (k : List Rec). x ++ k) (append_assoc y z l) ∙ sym (append_assoc x y (z ++ l))

pub sum-flat : (p n : ℕ) (t : Node) (a : Out) (os : List Out) → AllAt p (a ∷ os) → SumIs p n t (a ∷ os) (sum_of p n a os)
unfolding AllAt sum_all sum_out held held_errs summed
sum-flat p n t a [] h = record { more = sym (append-nil a.more) ∙ sym (append-nil (a.more ++ [])); self = same-rec p a.self h.0; errs = sym (append-nil a.errs) }
sum-flat p n t a (x ∷ os) h = go (sum-flat p (n + length a.more) t x os h.1)
  where
    rest : List Rec
    rest = held (x ∷ os)

    sum : ℕ → Summed
    sum m = summed p t m (nodes_of (x ∷ os))

    o : Summed
    o = sum (n + length a.more + length rest)

    two : Summed → List Rec
    two u = record { place = p; node = a.self.node } ∷ record { place = p; node = u.self } ∷ []

    place : n + length (a.more ++ rest) ≡ n + length a.more + length rest
    place = omega (arith, length-append a.more rest)

    go : SumIs p (n + length a.more) t (x ∷ os) (sum_of p (n + length a.more) x os) → SumIs p n t (a ∷ x ∷ os) (sum_of p n a (x ∷ os))
    go i =
        record {
          more = ap₂ (λ (k : List Rec) (l : List Rec). a.more ++ (k ++ l)) i.more (ap₂ (λ (r : Rec) (u : Rec). r ∷ u ∷ []) (same-rec p a.self h.0) i.self) ∙ in_row a.more rest o.more (two o) ∙ sym (ap (λ (m : ℕ). (a.more ++ rest) ++ ((sum m).more ++ two (sum m))) place);
          self = ap (λ (k : ℕ). record { place = p; node = n_math k 0 (suc k) }) (omega (arith, ap length i.more, length-append rest o.more) ∙ sym (ap (λ (m : ℕ). m + length (sum m).more) place));
          errs = ap (λ (l : List Err). a.errs ++ l) i.errs;
        }
