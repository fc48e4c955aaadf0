-- What the cycle is made of: tokens that nest nothing, closers, text parts, quotes. Assumes nothing.
use mathlib.Core.Path.{◌≡◌, refl, sym, ◌∙◌}
use mathlib.Core.List.{List}
use Prim.Native.Nat.{ℕ, ◌+◌, ◌-◌, ◌*◌, ◌≤◌, ◌<◌}
use native.Mathlib.Omega.{arith}
use lib.ListN.{length}
use borrow.Author.Tests.{ne_eqb}
use Rattle.lexer.specs.Token.{one, leaf, closer}
use Rattle.lexer.specs.Scan.{past}
use Rattle.lexer.specs.Word.{ident1, mod_then_ident}
use Rattle.lexer.specs.Num.{num}
use Rattle.lexer.specs.Sym.{sym as symbol}
use Rattle.lexer.specs.Kind.{plain}
use Rattle.lexer.specs.Lex.{leaf_at, closing, close, text_byte, text, quote}
use Rattle.lexer.specs.Listing.{tokens_bytes}
use Rattle.lexer.specs.Meets.{Byte, Reaches, Put, Puts, Erred, Scans, Reads, Texts, Quotes}
use Rattle.lexer.specs.declared.put.Room.{Room}
use Rattle.lexer.proofs.Scans.{hit, miss, clean, from}
use Rattle.lexer.proofs.Readings.{is-nothing, is-wrong, is_found}

module _ (s : List ℕ) (tag at r : ℕ) (e e' : Room) where
  pub plain_word : tag ≡ 1 → Scans (mod_then_ident s (at + 1)) s (at + 1) 0 e e' r → Scans (plain tag s at) s (at + 1) 10 e e' r
  unfolding plain
  plain_word h q = rw h (from s (at + 1) e (mod_then_ident s (at + 1)) (at + 1) 0 10 e' r q (omega arith) (omega arith))

  pub plain-num : tag ≡ 4 → Scans (num s (at + 1)) s (at + 1) 0 e e' r → Scans (plain tag s at) s (at + 1) 10 e e' r
  unfolding plain
  plain-num h q = rw h (from s (at + 1) e (num s (at + 1)) (at + 1) 0 10 e' r q (omega arith) (omega arith))

  pub plain-sym : tag ≡ 5 → Reaches (symbol s at) s (at + 1) r → Scans (plain tag s at) s (at + 1) 10 e e r
  unfolding plain
  plain-sym h q = rw h (clean s (at + 1) e (symbol s at) r 10 q)

  pub plain-ident : (tag ≡ 1 → ⊥) → (tag ≡ 4 → ⊥) → (tag ≡ 5 → ⊥) → Scans (ident1 s (at + 1)) s (at + 1) 10 e e' r → Scans (plain tag s at) s (at + 1) 10 e e' r
  unfolding plain
  plain-ident a b c q = rw (ne_eqb tag 1 a, ne_eqb tag 4 b, ne_eqb tag 5 c) q

pub leaf-is : (s : List ℕ) (tag at r : ℕ) (t t' e e' : Room) → Scans (plain tag s at) s (at + 1) 10 e e' r
    → Puts 7 t (tokens_bytes 2 (one (leaf tag at (r - at)))) t' → Reads (leaf_at tag s at) s 1 0 at t t' e e' r
unfolding leaf_at
leaf-is s tag at r t t' e e' g w = record {
  is = record { says = record { is = g.is; tokens = rw (← g.is) w.put; errors = g.put } };
  paid = record { low = g.low; high = g.high; tokens = omega (arith, g.low, w.size); errors = omega (arith, g.paid) };
  out = w.put.same;
  err = g.put.same;
}

module _ (s : List ℕ) (at b : ℕ) (g : Byte s at b) (a : at ≤ length s) (e : Room) where
  module _ (w k : ℕ) (c : (k ≡ closing w) × (0 < k)) (t : Room) where
    pub closed : b ≡ k → (t' : Room) → Puts 7 t (tokens_bytes 2 (one (leaf 5 at 1))) t' → Reads (close w s at) s 0 10 at t t' e e (at + 1)
    unfolding close
    closed h t' p = rw (hit s at b (closing w) g (h ∙ c.0)) (record {
      is = is_found (leaf 5 at 1) (at + 1) t t' e p.put;
      paid = record { low = omega arith; high = omega (arith, g.within, c.1); tokens = omega (arith, p.size); errors = omega arith };
      out = p.put.same;
      err = refl;
    })

    pub unclosed : (b ≡ k → ⊥) → (e' : Room) → Erred (closer w) at e e' → Reads (close w s at) s 0 10 at t t e e' at
    unfolding close
    unclosed h e' p = rw (miss s at b (closing w) g (λ i. h (i ∙ sym c.0))) (record {
      is = is-wrong (closer w) at t e e' p;
      paid = record { low = omega arith; high = a; tokens = omega arith; errors = omega (arith, p.few) };
      out = refl;
      err = p.put.same;
    })

  pub quoted : b ≡ 0x22 → Quotes s at e e (at + 1)
  unfolding quote
  quoted h = record {
    is = λ t. rw (hit s at b 0x22 g h) (is-nothing (at + 1) t e);
    low = omega arith;
    high = omega (arith, g.within);
    errors = omega arith;
    err = refl;
  }

  pub unquoted : (b ≡ 0x22 → ⊥) → (e' : Room) → Erred (closer 0x22) at e e' → Quotes s at e e' at
  unfolding quote
  unquoted h e' p = record {
    is = λ t. rw (miss s at b 0x22 g h) (is-wrong (closer 0x22) at t e e' p);
    low = omega arith;
    high = a;
    errors = omega (arith, p.few);
    err = p.put.same;
  }

pub text-is : (s : List ℕ) (at r : ℕ) (t t' : Room) → Reaches (past text_byte s at) s at r → (t'.next + 10 * at ≤ t.next + 10 * r) × Put t (tokens_bytes 2 (text at r)) t' → Texts s at t t' r
text-is s at r t t' h p = record { is = h.is; put = p.1; low = h.low; high = h.high; tokens = p.0 }
