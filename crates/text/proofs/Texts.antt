-- Valid text is characters one after the other.
-- Assumes nothing.
use mathlib.Core.Path.{◌≡◌, refl, sym}
use mathlib.Core.Bool.{true}
use mathlib.Core.List.{List, [], ◌∷◌, ◌++◌}
use Prim.Native.Nat.{ℕ, zero, suc, ◌<◌}
use native.Mathlib.Omega.{arith}
use lib.ListN.{length, drop, take-append-drop}
use lib.Seq.{drop_at}
use Rattle.text.specs.Utf8.{seq_len, scalar, is_scalar, utf8}
use Rattle.text.specs.Valid.{Valid, none, more, text_of, all_scalar, Characters}
use Rattle.text.proofs.Rows.{and_left, and_right}
use Rattle.text.proofs.Encoded.{Back, back}
use Rattle.text.proofs.Decoded.{Whole, whole}

pub valid-text : {s : List ℕ} → Valid s → Characters s
unfolding scalar
valid-text none = record { chars = []; all = refl; are = refl }
valid-text (more s n e v) =
    let w : Whole s (suc n) = whole s n e in
    let r : Characters (drop (suc n) s) = valid-text v in
    record { chars = scalar s ∷ r.chars; all = rw (e, w.value) r.all; are = rw (e, w.bytes, ← r.are) (sym (take-append-drop (suc n) s)) }

one_more : (s t : List ℕ) (n : ℕ) → length s ≡ n → 0 < n → seq_len (s ++ t) ≡ n → Valid t → Valid (s ++ t)
one_more s t zero l h e v = absurd (omega arith)
one_more s t (suc n) l h e v = more (s ++ t) n e (rw (drop_at s t (suc n) l) v)

text-of : (cs : List ℕ) → all_scalar cs ≡ true → Valid (text_of cs)
text-of [] e = none
text-of (c ∷ cs) e =
    let b : Back c (utf8 c) (text_of cs) = back c (text_of cs) (and_left (is_scalar c) _ e) in
    one_more (utf8 c) (text_of cs) _ refl b.some b.len (text-of cs (and_right (is_scalar c) _ e))

pub text-valid : (s : List ℕ) → Characters s → Valid s
text-valid s c = rw c.are (text-of c.chars c.all)
