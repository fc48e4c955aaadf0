-- Operators, bounds, foldings, the path of a lone key, and errors: small records, each written out. Assumes nothing.
use Prim.Native.Nat.{ℕ, ◌+◌, ◌≤◌, ◌<◌}
use native.Mathlib.Omega.{arith}
use mathlib.Core.Path.{◌≡◌, refl, sym, ap, ◌∙◌}
use mathlib.Core.Bool.{Bool, true, false, cond}
use mathlib.Core.List.{List, [], ◌∷◌, ◌++◌}
use lib.Dec.{eqb, ltb}
use lib.ListN.{get_or, set}
use borrow.Author.Tests.{eqb-true, eqb-false, lt-ltb, le-ltb, eq-eqb, ne_eqb}
use Rattle.fields.specs.Number.{number}
use Rattle.fields.specs.Field.{field}
use Rattle.fields.specs.Room.{overlay, overlay-one, overlay-none}
use Rattle.puts.specs.declared.state.State.{State}
use Rattle.puts.specs.State.{ers, with_ers}
use Rattle.puts.specs.Runs.{run-then, byte-then, then-byte}
use Rattle.rules.specs.Table.{n_path, index}
use Rattle.rules.specs.Listing.{flag, node_bytes, fold_bytes, opt_number, step_bytes, steps_bytes}
use Rattle.finds.specs.Hits as Hit
use Rattle.records.specs.Operators.{op_tag}
use Rattle.records.specs.Patterns.{folding_of}
use Rattle.records.specs.Bounds.{bound_of}
use Rattle.records.specs.Steps.{given, Puts}
use Rattle.std.specs.Bool.{then_some}
use Rattle.std.specs.Int.{from_bool}
use Rattle.std.proofs.Math.Option.{none, some}
use Rattle.records.specs.Calls.{lost_errs, Failed}

-- ---- operators, by where their byte lies

pub op-zero : (x : ℕ) → x < 1 → 0x62 ≡ op_tag x
unfolding op_tag
op-zero x h = let e : x ≡ 0 = omega arith in rw e

pub op-logic : (x : ℕ) → 3 ≤ x → x ≤ 4 → 0x64 ≡ op_tag x
unfolding op_tag
op-logic x a b = go (eqb x 3) refl
  where
    go : (t : Bool) → eqb x 3 ≡ t → 0x64 ≡ op_tag x
    go true e = simp (ne_eqb x 1 (λ f. omega arith), ne_eqb x 2 (λ f. omega arith), e)
    go false e = simp (ne_eqb x 1 (λ f. omega arith), ne_eqb x 2 (λ f. omega arith), e, eq-eqb x 4 (omega (arith, eqb-false x 3 e)))

module _ (x : ℕ) (h : 8 ≤ x) where
  past-seven : op_tag x ≡ cond (ltb x 0x10) 0x62 (cond (ltb x 0x20) 0x65 (cond (ltb x 0x30) 0x66 0x62))
  unfolding op_tag
  past-seven = simp (ne_eqb x 1 (λ f. omega arith), ne_eqb x 2 (λ f. omega arith), ne_eqb x 3 (λ f. omega arith), ne_eqb x 4 (λ f. omega arith), ne_eqb x 5 (λ f. omega arith), ne_eqb x 6 (λ f. omega arith), ne_eqb x 7 (λ f. omega arith))

  pub op-none : x < 16 → 0x62 ≡ op_tag x
  op-none a = sym (past-seven ∙ simp (lt-ltb x 16 a))

  pub op-math : 16 ≤ x → x < 32 → 0x65 ≡ op_tag x
  op-math a b = sym (past-seven ∙ simp (le-ltb x 16 a, lt-ltb x 32 b))

  pub op-cmp : 32 ≤ x → x < 48 → 0x66 ≡ op_tag x
  op-cmp a b = let c : 16 ≤ x = omega arith in sym (past-seven ∙ simp (le-ltb x 16 c, le-ltb x 32 a, lt-ltb x 48 b))

  pub op-update : 48 ≤ x → 0x62 ≡ op_tag x
  op-update a = let c : 16 ≤ x = omega arith in let d : 32 ≤ x = omega arith in sym (past-seven ∙ simp (le-ltb x 16 c, le-ltb x 32 d, le-ltb x 48 a))

pub op-key : (x k : ℕ) → x ≡ k → op_tag k ≡ op_tag x
op-key x k e = ap op_tag (sym e)

-- ---- bounds

pub bound-on : (a o : ℕ) (d d₁ d₂ : List ℕ) → d₁ ≡ set d o 1 → d₂ ≡ overlay d₁ (o + 1) (number 2 a) → Puts (opt_number 2 (some a)) o d d₂ (o + 3)
unfolding opt_number number
bound-on a o d d₁ d₂ e f = record { room = byte-then d o 1 (number 2 a) d₁ d₂ e f; end = refl }

pub bound-off : (o : ℕ) (d d₁ : List ℕ) → d₁ ≡ set d o 0 → Puts (opt_number 2 none) o d d₁ (o + 1)
unfolding opt_number
bound-off o d d₁ e = record { room = e ∙ sym (overlay-one d o 0); end = refl }

-- a bound that is there where t says so
pub bound-given : (t : Bool) (a : ℕ) → bound_of (then_some t a) ≡ given t a
bound-given true a = refl
bound-given false a = refl

-- a truth as a byte
pub byte-flag : (t : Bool) → from_bool t ≡ flag t
byte-flag true = refl
byte-flag false = refl

-- ---- foldings

pub fold-two : (kind n o : ℕ) (d d₁ d₂ : List ℕ) → kind ≡ 2 → d₁ ≡ set d o kind → d₂ ≡ overlay d₁ (o + 1) (number 2 n) → d₂ ≡ overlay d o (fold_bytes 2 (folding_of kind n))
unfolding fold_bytes folding_of
fold-two kind n o d d₁ d₂ k e f = rw k (byte-then d o 2 (number 2 n) d₁ d₂ (rw k at e) f)

pub fold-one : (kind n o : ℕ) (d d₁ : List ℕ) → (kind ≡ 2 → ⊥) → kind < 3 → d₁ ≡ set d o kind → d₁ ≡ overlay d o (fold_bytes 2 (folding_of kind n))
unfolding fold_bytes folding_of
fold-one kind n o d d₁ h k e = e ∙ sym (overlay-one d o kind) ∙ ap (overlay d o) (go (eqb kind 0) refl)
  where
    go : (t : Bool) → eqb kind 0 ≡ t → kind ∷ [] ≡ fold_bytes 2 (folding_of kind n)
    go true t = let z : kind ≡ 0 = eqb-true kind 0 t in rw z
    go false t = let z : kind ≡ 1 = omega (arith, h, eqb-false kind 0 t) in rw z

-- ---- "key, Id, then a Path, not optional"

pub own-path : (a b o : ℕ) (d d₁ d₂ d₃ d₄ d₅ : List ℕ) → d₁ ≡ overlay d o (0x6B ∷ (number 2 8 ++ number 2 a)) → d₂ ≡ overlay d₁ (o + 5) (number 2 1) → d₃ ≡ set d₂ (o + 7) 0
    → d₄ ≡ overlay d₃ (o + 8) (number 2 b) → d₅ ≡ set d₄ (o + 10) 0 → d₅ ≡ overlay d o (node_bytes 2 (n_path a (index b false ∷ [])))
unfolding number field steps_bytes step_bytes
own-path a b o d d₁ d₂ d₃ d₄ d₅ e₁ e₂ e₃ e₄ e₅ =
    let l₁ : List ℕ = 0x6B ∷ (number 2 8 ++ number 2 a) in
    let f₂ : d₂ ≡ overlay d o (l₁ ++ number 2 1) = run-then d o l₁ (number 2 1) (o + 5) d₁ d₂ refl e₁ e₂ in
    let f₃ : d₃ ≡ overlay d o ((l₁ ++ number 2 1) ++ (0 ∷ [])) = then-byte d o (l₁ ++ number 2 1) 0 (o + 7) d₂ d₃ refl f₂ e₃ in
    let f₄ : d₄ ≡ overlay d o (((l₁ ++ number 2 1) ++ (0 ∷ [])) ++ number 2 b) = run-then d o ((l₁ ++ number 2 1) ++ (0 ∷ [])) (number 2 b) (o + 8) d₃ d₄ refl f₃ e₄ in
    then-byte d o (((l₁ ++ number 2 1) ++ (0 ∷ [])) ++ number 2 b) 0 (o + 10) d₄ d₅ refl f₄ e₅

-- ---- errors

pub no-filter : (s : List ℕ) (f : Hit.Found) (a e : ℕ) (st st₁ : State) (d d₁ : List ℕ) → f.kind ≡ 0 → e ≡ ers st → st₁ ≡ with_ers st (ers st + 11)
    → d₁ ≡ overlay d e (field 0x2B (number 2 (get_or s 3 0) ++ (number 2 f.at ++ number 2 f.len) ++ number 2 a)) → Failed s f a st st₁ d d₁
unfolding lost_errs field number
no-filter s f a e st st₁ d d₁ k g h i = record { state = simp k h; room = simp k (rw g at i) }

pub no-module : (s : List ℕ) (f : Hit.Found) (a e : ℕ) (st st₁ : State) (d d₁ : List ℕ) → f.kind ≡ 1 → e ≡ ers st → st₁ ≡ with_ers st (ers st + 9)
    → d₁ ≡ overlay d e (field 0x28 (number 2 (get_or s 3 0) ++ (number 2 f.at ++ number 2 f.len))) → Failed s f a st st₁ d d₁
unfolding lost_errs field number
no-module s f a e st st₁ d d₁ k g h i = record { state = simp k h; room = simp k (rw g at i) }

pub no-error : (s : List ℕ) (f : Hit.Found) (a : ℕ) (st : State) (d : List ℕ) → (f.kind ≡ 0 → ⊥) → (f.kind ≡ 1 → ⊥) → Failed s f a st st d d
unfolding lost_errs
no-error s f a st d h k =
    let z : ers st + 0 ≡ ers st = omega arith in
    record { state = simp (ne_eqb f.kind 0 h, ne_eqb f.kind 1 k) (rw z); room = simp (ne_eqb f.kind 0 h, ne_eqb f.kind 1 k) (sym (overlay-none d (ers st))) }
