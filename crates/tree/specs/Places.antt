-- The fields that stand one after the other, as `Places` goes over them. Assumes nothing.
use Rattle.std.specs.Prelude.{ℕ, ◌-◌, ◌≤◌, ◌<◌, ◌≡◌, List, length, Option, Some, None, MatchOption}
use Rattle.std.proofs.Common.{arith, ap, subst, sym, ◌∙◌}
use Rattle.std.specs.Iterator.{Count, at_most}
use Rattle.tree.specs.Rose.{Roses, rnil, rcons, end_of, Row, At}
use Rattle.tree.specs.declared.places.Places.{Places}

-- fields of b stand one after the other from p up to e
pub data Chain (b : List ℕ) (e : ℕ) : ℕ → Type 0 where
  over : {p : ℕ} → p ≡ e → Chain b e p
  field : {p : ℕ} → end_of b p ≤ e → Chain b e (end_of b p) → Chain b e p

-- such stand from the next one's place up to the end, within the bytes
abbrev pub Stand : Places → Type 0
Stand s = (s.end ≤ length s.tree.now) × Chain s.tree.now s.end s.at

-- a call gives the place that is next and goes to where its field ends, or is at the end
abbrev pub GivesField : Places → Option ℕ → Places → Type 0
GivesField s r t = (t.tree.now ≡ s.tree.now) × (t.end ≡ s.end) × MatchOption r ((s.end ≤ s.at) × (t.at ≡ s.at)) (λ p. (p ≡ s.at) × (p < s.end) × (t.at ≡ end_of s.tree.now p))

-- each takes a byte or more
abbrev pub fields_left : Places → Count
fields_left s = at_most (s.end - s.at)

-- ---- what follows of such fields

pub chain-le : (b : List ℕ) (e p : ℕ) → Chain b e p → p ≤ e
chain-le b e p (over h) = omega (arith, h)
chain-le b e p (field h r) = omega (arith, h)

-- a field that is left, and the rest
pub chain-fits : (b : List ℕ) (e p : ℕ) → Chain b e p → p < e → end_of b p ≤ e
chain-fits b e p (over h) l = absurd (omega arith)
chain-fits b e p (field h r) l = h

pub chain-rest : (b : List ℕ) (e p n : ℕ) → Chain b e p → p < e → n ≡ end_of b p → Chain b e n
chain-rest b e p n (over h) l q = absurd (omega arith)
chain-rest b e p n (field h r) l q = subst (Chain b e) (sym q) r

-- a row of fields is such
pub row-chain : (b : List ℕ) (rs : Roses) (p e : ℕ) → Row b rs p e → Chain b e p
unfolding At
row-chain b rnil p e h = over h
row-chain b (rcons r rs) p e h =
    let c = row-chain b rs (end_of b p) e h.2 in
    field (chain-le b e (end_of b p) c) c

-- ---- a loop over the fields of b up to z

-- what the iterator goes over
abbrev pub Over : List ℕ → ℕ → Places → Type 0
Over b z s = (s.tree.now ≡ b) × (s.end ≡ z)

-- an iterator t that is the one that `fields` made
module _ (b : List ℕ) (q z : ℕ) (s t : Places) (e : t ≡ s) (f : (s.tree.now ≡ b) × (s.at ≡ q) × (s.end ≡ z)) where
  pub begun : z ≤ length b → Chain b z q → Stand t × Over b z t × (q ≡ t.at)
  begun l h =
      let c : Chain s.tree.now s.end s.at =
      subst (λ (x : List ℕ). Chain x s.end s.at) (sym f.0) (subst (λ (i : ℕ). Chain b i s.at) (sym f.2) (subst (Chain b z) (sym f.1) h)) in
      subst (λ (i : Places). Stand i × Over b z i × (q ≡ i.at)) (sym e) ((omega (arith, f.2, l, ap length f.0), c), (f.0, f.2), sym f.1)

-- the call that gave p, from s to t
pub record Turn (b : List ℕ) (z p : ℕ) (s t : Places) : Type 0 where
  pub here : s.at ≡ p
  pub within : p < z
  pub next : t.at ≡ end_of b p
  pub fits : end_of b p ≤ z
  pub over : Over b z t

module _ {b : List ℕ} {z : ℕ} (s t : Places) (o : Over b z s) where
  pub turn : {p : ℕ} → GivesField s (Some p) t → Stand t → Turn b z p s t
  turn {p} g h =
      let e : t.at ≡ end_of b p = subst (λ (x : List ℕ). t.at ≡ end_of x p) o.0 g.2.2 in
      record {
        here = sym g.2.0;
        within = omega (arith, g.2.1, o.1);
        next = e;
        fits = omega (arith, e, g.1, o.1, chain-le t.tree.now t.end t.at h.1);
        over = (g.0 ∙ o.0, g.1 ∙ o.1);
      }

  -- no field is left
  pub turned : GivesField s None t → z ≤ s.at
  turned g = omega (arith, g.2.0, o.1)
