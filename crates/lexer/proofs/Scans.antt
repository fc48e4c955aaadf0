-- Scans and their errors: what each return of the scanning functions shows. Assumes nothing.
use mathlib.Core.Path.{◌≡◌, refl, sym, ◌∙◌}
use mathlib.Core.Bool.{Bool, true, false}
use mathlib.Core.List.{List, [], ◌∷◌}
use Prim.Native.Nat.{ℕ, zero, suc, ◌+◌, ◌*◌, ◌≤◌, ◌<◌}
use native.Mathlib.Omega.{arith}
use lib.ListN.{length}
use lib.Dec.{eqb}
use borrow.Author.Tests.{eq-eqb, ne_eqb}
use Rattle.lexer.specs.Token.{Expect}
use Rattle.lexer.specs.Scan.{byte, optional, Scan, scan, expected}
use Rattle.lexer.specs.Listing.{errors_bytes}
use Rattle.lexer.specs.Meets.{Byte, Reaches, Erred, Scans}
use Rattle.lexer.specs.declared.put.Room.{Room}
use Rattle.lexer.proofs.Puts.{put-none}

-- a byte of a class that 0 is not in is no 0
pub some : (p : ℕ → Bool) → p 0 ≡ false → (b : ℕ) → p b ≡ true → 0 < b
some p z zero h = absurd (let e : ◌≡◌ {A = ℕ} 0 1 = cc in omega arith)
some p z (suc b) h = omega arith

-- what a test of the byte read says of the byte there
pub hit : (s : List ℕ) (at b v : ℕ) → Byte s at b → b ≡ v → eqb (byte s at) v ≡ true
hit s at b v g h = eq-eqb (byte s at) v (sym g.is ∙ h)

pub miss : (s : List ℕ) (at b v : ℕ) → Byte s at b → (b ≡ v → ⊥) → eqb (byte s at) v ≡ false
miss s at b v g n = ne_eqb (byte s at) v (λ k. n (g.is ∙ k))

module _ (s : List ℕ) (at b one other : ℕ) (g : Byte s at b) where
  -- one optional byte
  pub first : b ≡ one → 0 < one → Reaches (optional (one ∷ other ∷ []) s at) s at (at + 1)
  unfolding optional
  first h z = simp (hit s at b one g h) (record { is = refl; low = omega arith; high = omega (arith, g.within) })

  pub second : (b ≡ one → ⊥) → b ≡ other → 0 < other → Reaches (optional (one ∷ other ∷ []) s at) s at (at + 1)
  unfolding optional
  second n h z = simp (miss s at b one g n, hit s at b other g h) (record { is = refl; low = omega arith; high = omega (arith, g.within) })

  pub neither : at ≤ length s → (b ≡ one → ⊥) → (b ≡ other → ⊥) → Reaches (optional (one ∷ other ∷ []) s at) s at at
  unfolding optional
  neither l n m = simp (miss s at b one g n, miss s at b other g m) (record { is = refl; low = omega arith; high = l })

module _ (s : List ℕ) (at : ℕ) (e : Room) where
  -- what is read with no error
  pub clean : (a r slack : ℕ) → Reaches a s at r → Scans (scan a) s at slack e e r
  unfolding errors_bytes
  clean a r slack h = record { is = h.is; put = put-none e; low = h.low; high = h.high; paid = omega (arith, h.low) }

  -- what was expected is there
  pub there : (w : Expect) (to r : ℕ) → r ≡ to → at < r → r ≤ length s → Scans (expected w at to) s at 10 e e r
  unfolding expected errors_bytes
  there w to r i l h = record { is = i; put = simp (ne_eqb to at (λ z. omega arith)) (put-none e); low = omega arith; high = h; paid = omega arith }

  -- or it is not
  pub missed : (w : Expect) (to r : ℕ) (e' : Room) → r ≡ to → to ≡ at → at ≤ length s → Erred w at e e' → Scans (expected w at to) s at 10 e e' r
  unfolding expected
  missed w to r e' i h l g = record {
    is = i;
    put = simp (eq-eqb to at h) g.put;
    low = omega arith;
    high = omega arith;
    paid = omega (arith, g.few);
  }

  -- a scan from a later place, whose caller has paid for the way
  pub from : (q : Scan) (at' slack slack' : ℕ) (e' : Room) (r : ℕ) → Scans q s at' slack e e' r → at ≤ at' → slack + 10 * at ≤ slack' + 10 * at' → Scans q s at slack' e e' r
  from q at' slack slack' e' r g h k = record { is = g.is; put = g.put; low = omega (arith, g.low); high = g.high; paid = omega (arith, g.paid) }
