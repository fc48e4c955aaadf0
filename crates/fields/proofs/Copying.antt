-- A run of bytes that is copied into a room, byte by byte, at once, or as far as there is room. Assumes nothing.
use mathlib.Core.Path.{◌≡◌, refl, sym, ap, ◌∙◌}
use mathlib.Core.List.{List, [], ◌∷◌}
use Prim.Native.Nat.{ℕ, ◌+◌, ◌≤◌, ◌<◌}
use native.Mathlib.Numerals.{add-one}
use native.Mathlib.Omega.{arith}
use borrow.Rule.Slice.PartMut.{put_mid}
use lib.ListN.{length, take, drop, get_or, set, take-append-drop}
use lib.Seq.{sets-eq, take-suc, take_all, length-take-le}
use Rattle.std.proofs.lemmas.Slice.{put_mid-paste}
use Rattle.fields.specs.Room.{overlay, overlay-none, overlay-one, overlay-append, overlay-out, length-overlay}

module _ (d s : List ℕ) (at : ℕ) where
  -- after i bytes the room holds the first i of them
  pub none : d ≡ overlay d at (take 0 s)
  none = sym (overlay-none d at)

  pub more : (l : List ℕ) (i : ℕ) → i < length s → l ≡ overlay d at (take i s) → set l (at + i) (get_or s i 0) ≡ overlay d at (take (i + 1) s)
  more l i h e =
      let k : at + length (take i s) ≡ at + i = ap (λ (n : ℕ). at + n) (length-take-le i s (omega arith)) in
      rw (e, add-one, take-suc s i 0 h, ← overlay-append d at (take i s) (get_or s i 0 ∷ []), k, overlay-one)

  pub all : (l : List ℕ) (i : ℕ) → length s ≤ i → l ≡ overlay d at (take i s) → l ≡ overlay d at s
  all l i h e = e ∙ rw (take_all i s h)

  -- k bytes are written over, by as many
  pub whole : (bs : List ℕ) (k : ℕ) → bs ≡ s → k ≡ length s → at + length s ≤ length d → put_mid at k d bs ≡ overlay d at s
  unfolding overlay
  whole bs k e f h = put_mid-paste at k d bs s k e refl f ∙ rw (f, take_all (length s) s (omega arith)) (sym (sets-eq s d at h))

  -- as far as there is room is as good as all
  pub front : (n : ℕ) → at + n ≡ length d → n ≤ length s → overlay d at (take n s) ≡ overlay d at s
  front n h k =
      let l : length (take n s) ≡ n = length-take-le n s k in
      let o : length (overlay d at (take n s)) ≤ at + length (take n s) = omega (arith, length-overlay d at (take n s)) in
      sym (ap (λ (x : List ℕ). overlay d at x) (sym (take-append-drop n s)) ∙ sym (overlay-append d at (take n s) (drop n s)) ∙ overlay-out _ _ (drop n s) o)
