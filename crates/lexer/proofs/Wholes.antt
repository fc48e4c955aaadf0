-- The whole source: editions, top tokens, and what follows them. Assumes nothing.
use mathlib.Core.Path.{◌≡◌, refl, subst, ◌∙◌}
use mathlib.Core.List.{List, ◌++◌}
use Prim.Native.Nat.{ℕ, suc, ◌+◌, ◌-◌, ◌*◌, ◌≤◌, ◌<◌}
use native.Mathlib.Omega.{arith}
use Rattle.std.specs.Prelude.{Result, Ok, Err}
use lib.ListN.{length, length-append}
use borrow.Author.Tests.{lt-ltb, le-ltb}
use Rattle.fields.specs.Number.{number}
use Rattle.fields.specs.Field.{field}
use Rattle.fields.specs.Room.{overlay-append}
use Rattle.lexer.specs.Token.{Expect}
use Rattle.lexer.specs.Read.{Read, read, deep}
use Rattle.lexer.specs.Listing.{edition}
use Rattle.lexer.specs.Space.{space}
use Rattle.lexer.specs.Lex.{tokens, rest, whole}
use Rattle.lexer.specs.Meets.{Within, Put, Opened, Erred, Is, Ready, Lexes}
use Rattle.lexer.specs.Due.{Begun, Rests, Holds, Listed}
use Rattle.lexer.specs.declared.put.Room.{Room}
use Rattle.lexer.specs.declared.scan.TooDeep.{TooDeep}
use Rattle.lexer.proofs.Facts.Blanks.{space-again}
use Rattle.lexer.proofs.Readings.{is-nothing, is-wrong, is-then, is_stop}

-- ---- what follows the top tokens

module _ (s : List ℕ) (p at : ℕ) (h : at ≡ space s p) (e : Room) where
  pub rest-wrong : (e' : Room) → at < length s → Erred Expect.any at e e' → Rests s p e e'
  unfolding rest
  rest-wrong e' l w = record {
    is = λ t. rw (← h) (simp (lt-ltb at (length s) l) (is-wrong Expect.any at t e e' w));
    few = w.few;
    err = w.put.same;
  }

  pub rest-none : length s ≤ at → Rests s p e e
  unfolding rest
  rest-none l = record {
    is = λ t. rw (← h) (simp (le-ltb at (length s) l) (is-nothing at t e));
    few = omega arith;
    err = refl;
  }

-- ---- the editions first

holds : (d bs : List ℕ) (a b : Room) → Opened d a → Put a bs b → b.next ≤ 1048576 → Holds d (edition ++ bs) b.bytes.now b.next
holds d bs a b o p l =
    let n : a.next ≡ 0 + length edition = omega (arith, o.next) in
    record { size = omega (arith, o.next, p.next, length-append edition bs); room = p.room ∙ rw (n, o.room) (overlay-append d 0 edition bs); few = l }

module _ (d x : List ℕ) (t e : Room) (a : Opened d t) (b : Opened x e) where
  listed-from : (q : Read) (t' e' : Room) (r : ℕ) → Is q t t' e e' (Ok r) → t'.next ≤ 1048576 → e'.next ≤ 1048576
      → Listed q d t'.bytes.now x e'.bytes.now (Ok (record { tokens = t'.next; errors = e'.next }))
  listed-from (deep p) t' e' r i m n = absurd i.says
  listed-from (read at ts es) t' e' r i m n = record { lists = record { tokens = holds d _ t t' a i.says.tokens m; errors = holds x _ e e' b i.says.errors n } }

listed-deep : (q : Read) (t t' e e' : Room) (d d' x x' : List ℕ) (z : TooDeep) → Is q t t' e e' (Err z) → Listed q d d' x x' (Err z)
listed-deep (deep p) t t' e e' d d' x x' z i = record { lists = i.says }
listed-deep (read at ts es) t t' e e' d d' x x' z i = absurd i.says

-- tokens are found behind leading space as they are from the start on
behind-lead : (k : ℕ) (s : List ℕ) (n from : ℕ) → from ≡ space s 0 → tokens (suc k) s n from ≡ tokens (suc k) s n 0
unfolding tokens
behind-lead k s n from e = rw (e, space-again s 0 (omega arith))

module _ (s : List ℕ) (from : ℕ) (h : Begun s from) (d x : List ℕ) (t t₁ e e₁ : Room) where
  top : (r : Result ℕ TooDeep) → Lexes (λ k. tokens k s 128 from) (3 * (length s - from) + 3) s 0 0 from t t₁ e e₁ r → Is (tokens (3 * length s + 4) s 128 0) t t₁ e e₁ r
  top r l =
      let u : 3 * length s + 4 ≡ suc (3 * length s + 3) = omega arith in
      rw u (subst (λ (q : Read). Is q t t₁ e e₁ r) (behind-lead (3 * length s + 3) s 128 from h.lead.is) (l.is (suc (3 * length s + 3)) (omega arith)))

  -- there is room enough, and there still is behind the top tokens
  pub begins : Opened d t → Opened x e → Ready s from t e
  unfolding edition field number
  begins a b = record { place = h.lead.high; tokens = omega (arith, h.few, a.next); errors = omega (arith, h.few, b.next) }

  pub goes_on : Opened x e → (p : ℕ) → Lexes (λ k. tokens k s 128 from) (3 * (length s - from) + 3) s 0 0 from t t₁ e e₁ (Ok p) → Within s p e₁.next
  unfolding edition field number
  goes_on b p l = record { place = l.paid.high; paid = omega (arith, h.few, b.next, l.paid.errors, l.paid.high) }

  -- nesting is refused
  pub whole-stops : (d' x' : List ℕ) (z : TooDeep) → Lexes (λ k. tokens k s 128 from) (3 * (length s - from) + 3) s 0 0 from t t₁ e e₁ (Err z) → Listed (whole s) d d' x x' (Err z)
  unfolding whole
  whole-stops d' x' z l = listed-deep _ t t₁ e e₁ d d' x x' z (is_stop _ _ t t₁ e e₁ z (top (Err z) l))

  -- the source is read to its end
  pub whole-reads : Opened d t → Opened x e → (p : ℕ) → Lexes (λ k. tokens k s 128 from) (3 * (length s - from) + 3) s 0 0 from t t₁ e e₁ (Ok p) → (e₂ : Room) → Rests s p e₁ e₂
      → (d' x' : List ℕ) → d' ≡ t₁.bytes.now → x' ≡ e₂.bytes.now → Listed (whole s) d d' x x' (Ok (record { tokens = t₁.next; errors = e₂.next }))
  unfolding whole edition field number
  whole-reads a b p l e₂ r d' x' i j =
      rw (i, j) (listed-from d x t e a b _ t₁ e₂ _ (is-then _ _ t t₁ t₁ e e₁ e₂ p _ (top (Ok p) l) (r.is t₁))
      (omega (arith, h.few, a.next, l.paid.tokens, l.paid.high)) (omega (arith, h.few, b.next, r.few, l.paid.errors, l.paid.high)))
