-- What is read, put together: the laws that the returns of the reading functions cite. Assumes nothing.
use mathlib.Core.Path.{◌≡◌, refl, sym, ap, ◌∙◌}
use mathlib.Core.List.{List, [], ◌++◌, append-nil}
use Prim.Native.Nat.{ℕ, ◌+◌, ◌-◌}
use native.Mathlib.Omega.{arith}
use Rattle.std.specs.Prelude.{Result, Ok, Err}
use lib.ListN.{length, length-append}
use Rattle.fields.specs.Number.{number}
use Rattle.fields.specs.Field.{field}
use Rattle.fields.specs.Room.{overlay, overlay-append, overlay-before}
use Rattle.lexer.specs.Token.{Token, Tokens, one, Expect, Error}
use Rattle.lexer.specs.Read.{Read, read, deep, nothing, found, wrong, after, and_then, enclose}
use Rattle.lexer.specs.Listing.{pair, tokens_bytes, errors_bytes}
use Rattle.lexer.specs.Meets.{Put, Erred, Is, Leaves, Encloses}
use Rattle.lexer.specs.declared.put.Room.{Room}
use Rattle.lexer.specs.declared.scan.TooDeep.{TooDeep}
use Rattle.lexer.proofs.Puts.{put-none, put_then}
use Rattle.lexer.proofs.Appends.{errors-append, tokens_append}

-- nothing was found
pub is-nothing : (at : ℕ) (t e : Room) → Is (nothing at) t t e e (Ok at)
unfolding tokens_bytes errors_bytes
is-nothing at t e = record { says = record { is = refl; tokens = put-none t; errors = put-none e } }

-- something else was expected
pub is-wrong : (w : Expect) (at : ℕ) (t e e' : Room) → Erred w at e e' → Is (wrong w at) t t e e' (Ok at)
unfolding tokens_bytes
is-wrong w at t e e' p = record { says = record { is = refl; tokens = put-none t; errors = p.put } }

-- one token was found
pub is_found : (x : Token) (at : ℕ) (t t' e : Room) → Put t (tokens_bytes 2 (one x)) t' → Is (found x at) t t' e e (Ok at)
unfolding errors_bytes
is_found x at t t' e p = record { says = record { is = refl; tokens = p; errors = put-none e } }

-- these, and then q
pub is-after : (ts : Tokens) (es : List Error) (q : Read) (t t₁ t₂ e e₁ e₂ : Room) (r : Result ℕ TooDeep) → Put t (tokens_bytes 2 ts) t₁ → Put e (errors_bytes 2 es) e₁
    → Is q t₁ t₂ e₁ e₂ r → Is (after ts es q) t t₂ e e₂ r
unfolding after
is-after ts es (deep p) t t₁ t₂ e e₁ e₂ (Ok r) a b i = absurd i.says
is-after ts es (deep p) t t₁ t₂ e e₁ e₂ (Err f) a b i = record { says = i.says }
is-after ts es (read at us fs) t t₁ t₂ e e₁ e₂ (Err f) a b i = absurd i.says
is-after ts es (read at us fs) t t₁ t₂ e e₁ e₂ (Ok r) a b i = record {
  says = record {
    is = i.says.is;
    tokens = rw (tokens_append 2 ts us) (put_then t t₁ t₂ _ _ a i.says.tokens);
    errors = rw (errors-append 2 es fs) (put_then e e₁ e₂ _ _ b i.says.errors);
  };
}

-- q, and from where it stands f
pub is-then : (q : Read) (f : ℕ → Read) (t t₁ t₂ e e₁ e₂ : Room) (p : ℕ) (r : Result ℕ TooDeep) → Is q t t₁ e e₁ (Ok p) → Is (f p) t₁ t₂ e₁ e₂ r → Is (and_then q f) t t₂ e e₂ r
unfolding and_then
is-then (deep z) f t t₁ t₂ e e₁ e₂ p r i j = absurd i.says
is-then (read at ts es) f t t₁ t₂ e e₁ e₂ p r i j = rw (← i.says.is) (is-after ts es (f p) t t₁ t₂ e e₁ e₂ r i.says.tokens i.says.errors j)

-- q nests too deep, and that is all
pub is_stop : (q : Read) (f : ℕ → Read) (t t₁ e e₁ : Room) (z : TooDeep) → Is q t t₁ e e₁ (Err z) → Is (and_then q f) t t₁ e e₁ (Err z)
unfolding and_then
is_stop (deep p) f t t₁ e e₁ z i = record { says = i.says }
is_stop (read at ts es) f t t₁ e e₁ z i = absurd i.says

-- nesting is refused inside a group
pub is-enclose-stop : (tag start : ℕ) (q : Read) (u t t₁ e e₁ : Room) (z : TooDeep) → Is q t t₁ e e₁ (Err z) → Is (enclose tag start q) u t₁ e e₁ (Err z)
unfolding enclose
is-enclose-stop tag start (deep p) u t t₁ e e₁ z i = record { says = i.says }
is-enclose-stop tag start (read at ts es) u t t₁ e e₁ z i = absurd i.says

length-pair : (tag a b : ℕ) → length (pair 2 tag a b) ≡ 7
unfolding pair field number
length-pair tag a b = refl

length-end : length (field 0x09 []) ≡ 3
unfolding field number
length-end = refl

-- a group: its members were put seven bytes on, then its end behind them and its record before them
pub is-enclose : (tag start : ℕ) (q : Read) (t u t₁ t₂ e e₁ : Room) (o r : ℕ) → Leaves t o u → Is q u t₁ e e₁ (Ok r) → Encloses tag o start (r - start) t₁ t₂
    → Is (enclose tag start q) t t₂ e e₁ (Ok r)
unfolding enclose tokens_bytes
is-enclose tag start (deep z) t u t₁ t₂ e e₁ o r v i g = absurd i.says
is-enclose tag start (read at ts es) t u t₁ t₂ e e₁ o r v i g =
    let f = i.says in
    let n : u.next ≡ o + 7 = omega (arith, v.next, v.at) in
    let d = t.bytes.now in
    let m = tokens_bytes 2 ts in
    let c = pair 2 tag start (at - start) in
    let k : pair 2 tag start (r - start) ≡ c = ap (λ (n : ℕ). pair 2 tag start (n - start)) f.is in
    let l : o + 7 ≡ o + length c = ap (λ (n : ℕ). o + n) (sym (length-pair tag start (at - start))) in
    let a : overlay t₁.bytes.now t₁.next (field 0x09 []) ≡ overlay d (o + 7) (m ++ field 0x09 []) = rw (f.tokens.next, f.tokens.room, n, v.room) (overlay-append d (o + 7) m (field 0x09 [])) in
    let b : t₂.bytes.now ≡ overlay d o (c ++ (m ++ field 0x09 [])) = g.room ∙ rw (k, a, l) (overlay-before d o c (m ++ field 0x09 [])) in
    record {
      says = record {
        is = f.is;
        tokens = rw append-nil (record {
          same = g.same ∙ f.tokens.same ∙ v.same;
          next = omega (arith, g.next, f.tokens.next, v.next, length-append c (m ++ field 0x09 []), length-append m (field 0x09 []), length-pair tag start (at - start), length-end);
          room = rw (← v.at) b;
        });
        errors = f.errors;
      };
    }
