-- Scans: words, numbers and symbols end within the source, and so do their errors, in order. Assumes nothing.
use mathlib.Core.Path.{refl}
use mathlib.Core.Bool.{◌&&◌}
use mathlib.Core.List.{List, [], ◌∷◌}
use Prim.Native.Nat.{ℕ, ◌+◌, ◌≤◌, ◌<◌}
use native.Mathlib.Omega.{arith}
use lib.ListN.{length}
use lib.Dec.{eqb}
use Rattle.lexer.specs.Token.{Expect, missing}
use Rattle.lexer.specs.Scan.{byte, past, one_of, optional, Scan, scan, expected}
use Rattle.lexer.specs.Word.{digit, ident0, ident_end, ident1, mod_then_ident}
use Rattle.lexer.specs.Num.{digits1, fraction, exponent, num}
use Rattle.lexer.specs.Sym.{sym as symbol}
use Rattle.lexer.specs.Kind.{plain}
use Rattle.lexer.proofs.Facts.Cases.{either, both_right}
use Rattle.lexer.proofs.Facts.Onward.{Onward, stay, further, byte-is, byte-passes, past-on, ident0-on, ident_end-on, optional-on, symbol-on}
use Rattle.lexer.proofs.Facts.Shape.{Rising}
use Rattle.lexer.proofs.Facts.Spans.{rising-wide, rising-join, rising-one, rising_none}

-- a scan from a place on ends within the source, its errors between the two places
pub record Scanned (s : List ℕ) (at : ℕ) (q : Scan) : Type 0 where
  pub on : Onward s at q.at
  pub errors : Rising q.errors at q.at

scan-on : (s : List ℕ) (at b : ℕ) → Onward s at b → Scanned s at (scan b)
scan-on s at b o = record { on = o; errors = rising_none at b o.low }

-- from an earlier place on
earlier : (s : List ℕ) (a at : ℕ) (q : Scan) → a ≤ at → Scanned s at q → Scanned s a q
earlier s a at q h z = record {
  on = record { low = omega (arith, z.on.low); high = z.on.high };
  errors = rising-wide q.errors at q.at a q.at h (omega arith) z.errors;
}

expected-on : (x : Expect) (s : List ℕ) (from to : ℕ) → Onward s from to → Scanned s from (expected x from to)
unfolding expected
expected-on x s from to o = record {
  on = o;
  errors = either (λ es. Rising es from to) (eqb to from) _ _ (λ e. rising-one (missing x from) from to (omega arith) o.low) (λ e. rising_none from to o.low);
}

pub ident1-on : (s : List ℕ) (at : ℕ) → at ≤ length s → Scanned s at (ident1 s at)
unfolding ident1
ident1-on s at h = expected-on Expect.ident s at (ident_end s at) (ident_end-on s at h)

pub mod_then_ident-on : (s : List ℕ) (at : ℕ) → at ≤ length s → Scanned s at (mod_then_ident s at)
unfolding mod_then_ident
mod_then_ident-on s at h =
    let o = ident0-on s at h in
    let a = ident0 s at in
    either (Scanned s at) (eqb (byte s a) 0x3A && eqb (byte s (a + 1)) 0x3A) _ _
    (λ e. let sigil : List ℕ = 0x40 ∷ 0x24 ∷ [] in
    let h : a + 2 ≤ length s = omega (arith, byte-is s (a + 1) 0x3A (omega arith) (both_right (eqb (byte s a) 0x3A) _ e)) in
    let z = optional-on sigil s (a + 2) refl h in
    earlier s at (optional sigil s (a + 2)) _ (omega (arith, o.low, z.low)) (ident1-on s (optional sigil s (a + 2)) z.high))
    (λ e. scan-on s at a o)

pub digits1-on : (s : List ℕ) (at : ℕ) → at ≤ length s → Scanned s at (digits1 s at)
unfolding digits1
digits1-on s at h = expected-on Expect.digit s at (past digit s at) (past-on digit s at h)

pub fraction-on : (s : List ℕ) (at : ℕ) → at ≤ length s → Scanned s at (fraction s at)
unfolding fraction
fraction-on s at h =
    either (Scanned s at) (eqb (byte s at) 0x2E) _ _
    (λ e. earlier s at (at + 1) _ (omega arith) (digits1-on s (at + 1) (omega (arith, byte-is s at 0x2E (omega arith) e))))
    (λ e. scan-on s at at (stay s at h))

pub exponent-on : (s : List ℕ) (at : ℕ) → at ≤ length s → Scanned s at (exponent s at)
unfolding exponent
exponent-on s at h =
    either (Scanned s at) (one_of (0x65 ∷ 0x45 ∷ []) (byte s at)) _ _
    (λ e. let sign : List ℕ = 0x2B ∷ 0x2D ∷ [] in
    let z = optional-on sign s (at + 1) refl (omega (arith, byte-passes (one_of (0x65 ∷ 0x45 ∷ [])) s at refl e)) in
    earlier s at (optional sign s (at + 1)) _ (omega (arith, z.low)) (digits1-on s (optional sign s (at + 1)) z.high))
    (λ e. scan-on s at at (stay s at h))

pub num-on : (s : List ℕ) (at : ℕ) → at ≤ length s → Scanned s at (num s at)
unfolding num
num-on s at h =
    let o = past-on digit s at h in
    let f = earlier s at (past digit s at) _ o.low (fraction-on s (past digit s at) o.high) in
    let e = exponent-on s (fraction s (past digit s at)).at f.on.high in
    record { on = further s at _ _ f.on e.on; errors = rising-join _ _ at _ _ f.errors e.errors }

-- a Word, Var, Fmt, Num or Sym has at least one byte
pub plain-on : (tag : ℕ) (s : List ℕ) (at : ℕ) → at < length s → Scanned s (at + 1) (plain tag s at)
unfolding plain
plain-on tag s at h =
    let k : at + 1 ≤ length s = omega arith in
    either (Scanned s (at + 1)) (eqb tag 0x01) _ _ (λ e. mod_then_ident-on s (at + 1) k)
    (λ e. either (Scanned s (at + 1)) (eqb tag 0x04) _ _ (λ e. num-on s (at + 1) k)
    (λ e. either (Scanned s (at + 1)) (eqb tag 0x05) _ _ (λ e. scan-on s (at + 1) (symbol s at) (symbol-on s at h)) (λ e. ident1-on s (at + 1) k)))
