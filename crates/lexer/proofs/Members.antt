-- The returns and turns of the cycle: each says what one step of the definition says, whatever number bounds it. Assumes nothing.
use mathlib.Core.Path.{◌≡◌, refl, sym, ap, ◌∙◌}
use mathlib.Core.Bool.{cond}
use mathlib.Core.List.{List, []}
use Prim.Native.Nat.{ℕ, zero, suc, ◌+◌, ◌-◌, ◌*◌, ◌≤◌, ◌<◌}
use native.Mathlib.Omega.{arith}
use Rattle.std.specs.Prelude.{Result, Ok, Err, IfOk}
use lib.ListN.{length}
use lib.Dec.{eqb}
use borrow.Author.Tests.{eq-eqb, ne_eqb}
use Rattle.lexer.specs.Scan.{byte}
use Rattle.lexer.specs.Space.{space}
use Rattle.lexer.specs.Word.{letter, digit}
use Rattle.lexer.specs.Sym.{operator}
use Rattle.lexer.specs.Kind.{kind}
use Rattle.lexer.specs.Escape.{simple}
use Rattle.lexer.specs.Read.{Read, and_then}
use Rattle.lexer.specs.Lex.{leaf_at, close, text, quote, tokens, token, block, str, parts, escape}
use Rattle.lexer.specs.Listing.{errors_bytes}
use Rattle.lexer.specs.Meets.{Byte, Reaches, Is, Ready, Paid, Reads, Lexes, Texts, Quotes, Leaves, Encloses}
use Rattle.lexer.specs.declared.put.Room.{Room}
use Rattle.lexer.specs.declared.scan.TooDeep.{TooDeep}
use Rattle.lexer.proofs.Puts.{put-none}
use Rattle.lexer.proofs.Scans.{hit, miss}
use Rattle.lexer.proofs.Readings.{is-nothing, is-after, is-then, is_stop, is-enclose, is-enclose-stop}

-- a number that is above another is no zero
pub fuelled : (P : ℕ → Type 0) (m : ℕ) → ((j : ℕ) → m ≤ j → P (suc j)) → (k : ℕ) → m < k → P k
fuelled P m f zero h = absurd (omega arith)
fuelled P m f (suc k) h = f k (omega arith)

-- A loop over siblings: whatever f finds from p on, it finds from the start on.
pub record Going (f : ℕ → ℕ → Read) (c : ℕ) (s : List ℕ) (at p : ℕ) (t₀ t e₀ e : Room) : Type 0 where
  pub goes : (r : Result ℕ TooDeep) (t' e' : Room) → ((k : ℕ) → 3 * (length s - p) + c < k → Is (f k p) t t' e e' r)
      → (k : ℕ) → 3 * (length s - at) + c < k → Is (f k at) t₀ t' e₀ e' r
  pub paid : Paid s 0 0 at t₀ t e₀ e p
  pub ready : Ready s p t e
  pub out : t.bytes.ghost_name ≡ t₀.bytes.ghost_name
  pub err : e.bytes.ghost_name ≡ e₀.bytes.ghost_name

pub go : (f : ℕ → ℕ → Read) (c : ℕ) (s : List ℕ) (at : ℕ) (t e : Room) → Ready s at t e → Going f c s at at t t e e
go f c s at t e a = record {
  goes = λ r t' e' i. i;
  paid = record { low = omega arith; high = a.place; tokens = omega arith; errors = omega arith };
  ready = a;
  out = refl;
  err = refl;
}

-- tokens, in a turn of the loop: space to a, where a byte b of kind v stands
module _ (s : List ℕ) (n at p : ℕ) (t₀ t e₀ e : Room) (g : Going (λ k i. tokens k s n i) 3 s at p t₀ t e₀ e)
    (a b v : ℕ) (h : Reaches (space s p) s p a) (i : Byte s a b) (y : v ≡ kind b) where
  is-kind : (u : ℕ) → eqb v u ≡ eqb (kind (byte s (space s p))) u
  is-kind u = ap (λ (m : ℕ). eqb m u) (y ∙ ap kind (i.is ∙ ap (λ (m : ℕ). byte s m) h.is))

  pub tokens-end : v ≡ 0 → Lexes (λ k. tokens k s n at) (3 * (length s - at) + 3) s 0 0 at t₀ t e₀ e (Ok a)
  unfolding tokens
  tokens-end z = record {
    is = g.goes (Ok a) t e (fuelled (λ k. Is (tokens k s n p) t t e e (Ok a)) (3 * (length s - p) + 3)
        (λ j l. rw (sym (is-kind 0) ∙ eq-eqb v 0 z, ← h.is) (is-nothing a t e)));
    paid = record { low = omega (arith, g.paid.low, h.low); high = h.high; tokens = omega (arith, g.paid.tokens, h.low); errors = omega (arith, g.paid.errors, h.low) };
    out = g.out;
    err = g.err;
  }

  module _ (t₁ e₁ : Room) (z : v ≡ 0 → ⊥) where
    pub tokens-more : (q : ℕ) → Lexes (λ k. token k s n a) (3 * (length s - a) + 2) s 1 0 a t t₁ e e₁ (Ok q) → Going (λ k i. tokens k s n i) 3 s at q t₀ t₁ e₀ e₁
    unfolding tokens
    tokens-more q w = record {
      goes = λ r t' e' f. g.goes r t' e' (fuelled (λ k. Is (tokens k s n p) t t' e e' r) (3 * (length s - p) + 3)
          (λ j l. rw (sym (is-kind 0) ∙ ne_eqb v 0 z, ← h.is)
          (is-then (token j s n a) (λ i. tokens j s n i) t t₁ t' e e₁ e' q r (w.is j (omega (arith, h.low, h.high))) (f j (omega (arith, h.low, w.paid.low, w.paid.high))))));
      paid = record { low = omega (arith, g.paid.low, h.low, w.paid.low); high = w.paid.high; tokens = omega (arith, g.paid.tokens, h.low, w.paid.tokens); errors = omega (arith, g.paid.errors, h.low, w.paid.errors) };
      ready = record { place = w.paid.high; tokens = omega (arith, g.ready.tokens, h.low, w.paid.tokens); errors = omega (arith, g.ready.errors, h.low, w.paid.errors) };
      out = w.out ∙ g.out;
      err = w.err ∙ g.err;
    }

    pub tokens-deep : (x : TooDeep) → Lexes (λ k. token k s n a) (3 * (length s - a) + 2) s 1 0 a t t₁ e e₁ (Err x) → Lexes (λ k. tokens k s n at) (3 * (length s - at) + 3) s 0 0 at t₀ t₁ e₀ e₁ (Err x)
    unfolding tokens
    tokens-deep x w = record {
      is = g.goes (Err x) t₁ e₁ (fuelled (λ k. Is (tokens k s n p) t t₁ e e₁ (Err x)) (3 * (length s - p) + 3)
          (λ j l. rw (sym (is-kind 0) ∙ ne_eqb v 0 z, ← h.is)
          (is_stop (token j s n a) (λ i. tokens j s n i) t t₁ e e₁ x (w.is j (omega (arith, h.low, h.high))))));
      paid = tt;
      out = w.out ∙ g.out;
      err = w.err ∙ g.err;
    }

-- one token, of a kind
module _ (s : List ℕ) (n at v : ℕ) (t t' e e' : Room) (y : v ≡ kind (byte s at)) where
  token-by : (r : Result ℕ TooDeep) → ((j : ℕ) → 3 * (length s - at) + 2 ≤ j → Is (token (suc j) s n at) t t' e e' r) → (k : ℕ) → 3 * (length s - at) + 2 < k → Is (token k s n at) t t' e e' r
  token-by r f = fuelled (λ k. Is (token k s n at) t t' e e' r) (3 * (length s - at) + 2) f

  pub token-str : (r : Result ℕ TooDeep) → v ≡ 6 → Lexes (λ k. str k s n at) (3 * (length s - at) + 1) s 1 0 at t t' e e' r → Lexes (λ k. token k s n at) (3 * (length s - at) + 2) s 1 0 at t t' e e' r
  unfolding token
  token-str r h w = record { is = token-by r (λ j l. rw (sym y ∙ h) (w.is j (omega arith))); paid = w.paid; out = w.out; err = w.err }

  pub token_block : (r : Result ℕ TooDeep) → v ≡ 7 → Lexes (λ k. block k s n at) (3 * (length s - at) + 1) s 1 0 at t t' e e' r → Lexes (λ k. token k s n at) (3 * (length s - at) + 2) s 1 0 at t t' e e' r
  unfolding token
  token_block r h w = record { is = token-by r (λ j l. rw (sym y ∙ h) (w.is j (omega arith))); paid = w.paid; out = w.out; err = w.err }

  pub token-leaf : (r : ℕ) → (v ≡ 6 → ⊥) → (v ≡ 7 → ⊥) → Reads (leaf_at v s at) s 1 0 at t t' e e' r → Lexes (λ k. token k s n at) (3 * (length s - at) + 2) s 1 0 at t t' e e' (Ok r)
  unfolding token
  token-leaf r h k w = record { is = token-by (Ok r) (λ j l. rw (← y, ne_eqb v 6 h, ne_eqb v 7 k) w.is); paid = w.paid; out = w.out; err = w.err }

-- an escape
module _ (s : List ℕ) (n at b : ℕ) (t t' e e' : Room) (g : Byte s at b) where
  escape-by : (r : Result ℕ TooDeep) → ((j : ℕ) → 3 * (length s - at) + 2 ≤ j → Is (escape (suc j) s n at) t t' e e' r) → (k : ℕ) → 3 * (length s - at) + 2 < k → Is (escape k s n at) t t' e e' r
  escape-by r f = fuelled (λ k. Is (escape k s n at) t t' e e' r) (3 * (length s - at) + 2) f

  later : (r : Result ℕ TooDeep) → IfOk r (λ p. Paid s 1 0 at t t' e e' p) → IfOk r (λ p. Paid s 0 10 at t t' e e' p)
  later (Ok p) w = record { low = omega (arith, w.low); high = w.high; tokens = w.tokens; errors = omega (arith, w.errors) }
  later (Err x) w = w

  pub escape-block : (r : Result ℕ TooDeep) → b ≡ 0x28 → Lexes (λ k. block k s n at) (3 * (length s - at) + 1) s 1 0 at t t' e e' r → Lexes (λ k. escape k s n at) (3 * (length s - at) + 2) s 0 10 at t t' e e' r
  unfolding escape
  escape-block r h w = record { is = escape-by r (λ j l. rw (hit s at b 0x28 g h) (w.is j (omega arith))); paid = later r w.paid; out = w.out; err = w.err }

  pub escape-simple : (r : ℕ) → (b ≡ 0x28 → ⊥) → Reads (simple s at) s 0 10 at t t' e e' r → Lexes (λ k. escape k s n at) (3 * (length s - at) + 2) s 0 10 at t t' e e' (Ok r)
  unfolding escape
  escape-simple r h w = record { is = escape-by (Ok r) (λ j l. rw (miss s at b 0x28 g h) w.is); paid = w.paid; out = w.out; err = w.err }

-- a block
module _ (s : List ℕ) (n at : ℕ) (t e : Room) where
  pub block-deep : n ≡ 0 → Lexes (λ k. block k s n at) (3 * (length s - at) + 1) s 1 0 at t t e e (Err (record { place = at }))
  unfolding block
  block-deep z = record {
    is = fuelled (λ k. Is (block k s n at) t t e e (Err (record { place = at }))) (3 * (length s - at) + 1) (λ j m. rw z (record { says = refl }));
    paid = tt;
    out = refl;
    err = refl;
  }

  module _ (l : at < length s) (z : n ≡ 0 → ⊥) (o : ℕ) (u : Room) (v : Leaves t o u) (t₁ e₁ : Room) where
    pub block-stop : (x : TooDeep) → Lexes (λ k. tokens k s (n - 1) (at + 1)) (3 * (length s - (at + 1)) + 3) s 0 0 (at + 1) u t₁ e e₁ (Err x)
        → Lexes (λ k. block k s n at) (3 * (length s - at) + 1) s 1 0 at t t₁ e e₁ (Err x)
    unfolding block
    block-stop x w = record {
      is = fuelled (λ k. Is (block k s n at) t t₁ e e₁ (Err x)) (3 * (length s - at) + 1)
          (λ j m. rw (ne_eqb n 0 z)
          (is-enclose-stop 0x07 at (and_then (tokens j s (n - 1) (at + 1)) (λ b. close (byte s at) s (space s b))) t u t₁ e e₁ x
          (is_stop (tokens j s (n - 1) (at + 1)) (λ b. close (byte s at) s (space s b)) u t₁ e e₁ x (w.is j (omega arith)))));
      paid = tt;
      out = w.out ∙ v.same;
      err = w.err;
    }

    pub block-done : (p i b r : ℕ) (t₂ t₃ e₂ : Room) → Lexes (λ k. tokens k s (n - 1) (at + 1)) (3 * (length s - (at + 1)) + 3) s 0 0 (at + 1) u t₁ e e₁ (Ok p)
        → Reaches (space s p) s p i → Byte s at b → Reads (close b s i) s 0 10 i t₁ t₂ e₁ e₂ r → Encloses 0x07 o at (r - at) t₂ t₃
        → Lexes (λ k. block k s n at) (3 * (length s - at) + 1) s 1 0 at t t₃ e e₂ (Ok r)
    unfolding block
    block-done p i b r t₂ t₃ e₂ w h g c x = record {
      is = fuelled (λ k. Is (block k s n at) t t₃ e e₂ (Ok r)) (3 * (length s - at) + 1)
          (λ j m. rw (ne_eqb n 0 z)
          (is-enclose 0x07 at (and_then (tokens j s (n - 1) (at + 1)) (λ b. close (byte s at) s (space s b))) t u t₂ t₃ e e₂ o r v
          (is-then (tokens j s (n - 1) (at + 1)) (λ b. close (byte s at) s (space s b)) u t₁ t₂ e e₁ e₂ p (Ok r) (w.is j (omega arith))
          (rw (← h.is, ← g.is) c.is))
          x));
      paid = record {
        low = omega (arith, w.paid.low, h.low, c.paid.low);
        high = c.paid.high;
        tokens = omega (arith, v.next, w.paid.tokens, h.low, c.paid.tokens, x.next);
        errors = omega (arith, w.paid.errors, h.low, c.paid.errors);
      };
      out = x.same ∙ c.out ∙ w.out ∙ v.same;
      err = c.err ∙ w.err;
    }

-- a string
module _ (s : List ℕ) (n at : ℕ) (t e : Room) where
  pub str-deep : n ≡ 0 → Lexes (λ k. str k s n at) (3 * (length s - at) + 1) s 1 0 at t t e e (Err (record { place = at }))
  unfolding str
  str-deep z = record {
    is = fuelled (λ k. Is (str k s n at) t t e e (Err (record { place = at }))) (3 * (length s - at) + 1) (λ j m. rw z (record { says = refl }));
    paid = tt;
    out = refl;
    err = refl;
  }

  -- in a turn of the loop: a text part to q, where a byte b stands
  module _ (l : at < length s) (z : n ≡ 0 → ⊥) (o : ℕ) (u : Room) (y : Leaves t o u) (p : ℕ) (t₁ e₁ : Room) (g : Going (λ k i. parts k s (n - 1) i) 1 s (at + 1) p u t₁ e e₁)
      (q : ℕ) (t₂ : Room) (w : Texts s p t₁ t₂ q) (b : ℕ) (i : Byte s q b) where
    -- the text part, and then u
    part : (u : ℕ → Read) (t' e' : Room) (r : Result ℕ TooDeep) → ((j : ℕ) → 3 * (length s - p) + 1 ≤ j → Is (u j) t₂ t' e₁ e' r)
        → ((j : ℕ) → cond (eqb (byte s q) 0x5C) (and_then (escape j s (n - 1) (q + 1)) (λ c. parts j s (n - 1) c)) (quote s q) ≡ u j)
        → (k : ℕ) → 3 * (length s - p) + 1 < k → Is (parts k s (n - 1) p) t₁ t' e₁ e' r
    unfolding parts errors_bytes
    part u t' e' r f y = fuelled (λ k. Is (parts k s (n - 1) p) t₁ t' e₁ e' r) (3 * (length s - p) + 1)
        (λ j m. rw (← w.is) (is-after (text p q) [] _ t₁ t₂ t' e₁ e₁ e' r w.put (put-none e₁) (rw (y j) (f j m))))

    module _ (h : b ≡ 0x5C) (t₃ e₃ : Room) where
      turn : (u : Result ℕ TooDeep) (t' e' : Room) → ((j : ℕ) → 3 * (length s - p) + 1 ≤ j → Is (and_then (escape j s (n - 1) (q + 1)) (λ c. parts j s (n - 1) c)) t₂ t' e₁ e' u)
          → (k : ℕ) → 3 * (length s - p) + 1 < k → Is (parts k s (n - 1) p) t₁ t' e₁ e' u
      turn u t' e' f = part (λ j. and_then (escape j s (n - 1) (q + 1)) (λ c. parts j s (n - 1) c)) t' e' u f (λ j. rw (hit s q b 0x5C i h))

      pub str-more : (r : ℕ) → Lexes (λ k. escape k s (n - 1) (q + 1)) (3 * (length s - (q + 1)) + 2) s 0 10 (q + 1) t₂ t₃ e₁ e₃ (Ok r)
          → Going (λ k i. parts k s (n - 1) i) 1 s (at + 1) r u t₃ e e₃
      str-more r v = record {
        goes = λ u t' e' f. g.goes u t' e' (turn u t' e'
            (λ j c. is-then (escape j s (n - 1) (q + 1)) (λ c. parts j s (n - 1) c) t₂ t₃ t' e₁ e₃ e' r u (v.is j (omega (arith, w.low, w.high)))
            (f j (omega (arith, w.low, w.high, v.paid.low, v.paid.high)))));
        paid = record {
          low = omega (arith, g.paid.low, w.low, v.paid.low);
          high = v.paid.high;
          tokens = omega (arith, g.paid.tokens, w.tokens, v.paid.tokens);
          errors = omega (arith, g.paid.errors, w.low, v.paid.errors);
        };
        ready = record {
          place = v.paid.high;
          tokens = omega (arith, g.ready.tokens, w.tokens, v.paid.tokens);
          errors = omega (arith, g.ready.errors, w.low, v.paid.errors);
        };
        out = v.out ∙ w.put.same ∙ g.out;
        err = v.err ∙ g.err;
      }

      pub str-stop : (x : TooDeep) → Lexes (λ k. escape k s (n - 1) (q + 1)) (3 * (length s - (q + 1)) + 2) s 0 10 (q + 1) t₂ t₃ e₁ e₃ (Err x)
          → Lexes (λ k. str k s n at) (3 * (length s - at) + 1) s 1 0 at t t₃ e e₃ (Err x)
      unfolding str
      str-stop x v = record {
        is = fuelled (λ k. Is (str k s n at) t t₃ e e₃ (Err x)) (3 * (length s - at) + 1)
            (λ j m. rw (ne_eqb n 0 z)
            (is-enclose-stop 0x06 at (parts j s (n - 1) (at + 1)) t u t₃ e e₃ x
            (g.goes (Err x) t₃ e₃ (turn (Err x) t₃ e₃
            (λ k c. is_stop (escape k s (n - 1) (q + 1)) (λ c. parts k s (n - 1) c) t₂ t₃ e₁ e₃ x (v.is k (omega (arith, w.low, i.within, h)))))
            j (omega arith))));
        paid = tt;
        out = v.out ∙ w.put.same ∙ g.out ∙ y.same;
        err = v.err ∙ g.err;
      }

    pub str-done : (b ≡ 0x5C → ⊥) → (r : ℕ) (e₃ t₃ : Room) → Quotes s q e₁ e₃ r → Encloses 0x06 o at (r - at) t₂ t₃ → Lexes (λ k. str k s n at) (3 * (length s - at) + 1) s 1 0 at t t₃ e e₃ (Ok r)
    unfolding str
    str-done h r e₃ t₃ v x = record {
      is = fuelled (λ k. Is (str k s n at) t t₃ e e₃ (Ok r)) (3 * (length s - at) + 1)
          (λ j m. rw (ne_eqb n 0 z)
          (is-enclose 0x06 at (parts j s (n - 1) (at + 1)) t u t₂ t₃ e e₃ o r y
          (g.goes (Ok r) t₂ e₃ (part (λ k. quote s q) t₂ e₃ (Ok r) (λ k c. v.is t₂) (λ k. rw (miss s q b 0x5C i h))) j (omega arith))
          x));
      paid = record {
        low = omega (arith, g.paid.low, w.low, v.low);
        high = v.high;
        tokens = omega (arith, y.next, g.paid.tokens, w.tokens, v.low, x.next);
        errors = omega (arith, g.paid.errors, w.low, v.errors);
      };
      out = x.same ∙ w.put.same ∙ g.out ∙ y.same;
      err = v.err ∙ g.err;
    }

-- a byte that starts a token is no 0
pub kind-some : (b : ℕ) → (kind b ≡ 0 → ⊥) → 0 < b
unfolding kind letter digit operator
kind-some zero n = absurd (n refl)
kind-some (suc b) n = omega arith
