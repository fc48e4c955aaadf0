-- What a recorded case is compared with, and what the comparison shows of the entry's definition. Assumes nothing.
use mathlib.Core.Path.{◌≡◌, refl, sym, ap, ◌∙◌}
use mathlib.Core.Bool.{Bool, true, false, false≢true}
use mathlib.Core.List.{List, [], ◌∷◌, ◌++◌}
use Prim.Native.Nat.{ℕ, ◌+◌, ◌-◌, ◌≤◌, ◌<◌}
use native.Mathlib.Omega.{arith}
use lib.ListN.{length, take, drop, get_or, length-append, length-drop, get_or-append}
use lib.Seq.{get_or-append-add, get_or-drop, ext_get_or}
use lib.Dec.{leb, ltb, eqb}
use borrow.Author.Tests.{ltb-true, ltb-false, eqb-true, eq-eqb}
use Rattle.std.specs.Prelude.{◌&&◌}
use Rattle.fields.specs.declared.Answer.{Answer}
use Rattle.fields.specs.Outcome.{Outcome, listing, refusal, pick, answer, content, Answers}
use Rattle.fields.specs.Promises.{one_answer}
use Rattle.replay.specs.declared.Case.{Case}
use Rattle.replay.specs.Case.{record_of, listing_of, CaseFirst}
use Rattle.replay.specs.Lent.{pattern_at, Patterned, due_at, Left, Tells}
use Rattle.replay.specs.Replay.{outcome, HoldsAs, Holds}
use Rattle.replay.proofs.Rooms.{due_in, due-past, untold, both}

-- What the comparison shows. Where a call that keeps the entry's promise gives and leaves what is recorded, the recorded case is what the entry's
-- definition gives, in any room of that length.
none_left : (l : List ℕ) → length l ≡ 0 → l ≡ []
none_left [] h = refl
none_left (x ∷ l) h = absurd (omega arith)

all_left : (bytes rest room l : List ℕ) → length l ≡ length bytes → room ≡ bytes ++ rest → Left room l → l ≡ bytes
all_left bytes rest room l k e f =
    ext_get_or 0 l bytes k (λ i h.
    due_in l i h ∙ sym (f.holds i (omega (arith, f.fits)))
    ∙ ap (λ (x : List ℕ). get_or x i 0) e ∙ get_or-append bytes rest 0 i (omega arith))

pub shows : (o : Outcome) (d d' l : List ℕ) (a : Answer) → Answers o d d' a → length l ≡ a.length → Left d' l → HoldsAs o (length d) a l
unfolding answer content
shows (refusal n at) d d' l a h w f e q =
    let z : l ≡ [] = none_left l (w ∙ ap (λ (x : Answer). x.length) h.answers) in
    record { answers = h.answers; leaves = rw z }
shows (listing n bytes) d d' l a h w f e q = go (leb (length bytes) (length d)) (ap (λ (k : ℕ). leb (length bytes) k) q) h.answers h.leaves
  where
    go : (t : Bool) → leb (length bytes) (length e) ≡ t
        → a ≡ pick t (record { number = n; length = length bytes; place = 0 }) (record { number = 7; length = 0; place = 0 })
        → d' ≡ pick t (bytes ++ drop (length bytes) d) d
        → Answers (listing n bytes) e (l ++ drop (length l) e) a
    go true t u v =
        let z : l ≡ bytes = all_left bytes _ d' l (w ∙ ap (λ (x : Answer). x.length) u) v f in
        record { answers = simp t u; leaves = simp t (rw z) }
    go false t u v =
        let z : l ≡ [] = none_left l (w ∙ ap (λ (x : Answer). x.length) u) in
        record { answers = simp t u; leaves = simp t (rw z) }

due : (l d : List ℕ) (i : ℕ) → get_or d i 0 ≡ pattern_at i → get_or (l ++ drop (length l) d) i 0 ≡ due_at l i
due l d i p = go (ltb i (length l)) refl
  where
    go : (t : Bool) → ltb i (length l) ≡ t → get_or (l ++ drop (length l) d) i 0 ≡ due_at l i
    go true t = let h : i < length l = ltb-true _ _ t in get_or-append l _ 0 i h ∙ due_in l i h
    go false t =
        let h : length l ≤ i = ltb-false _ _ t in
        let e : length l + (i - length l) ≡ i = omega arith in
        ap (λ (k : ℕ). get_or (l ++ drop (length l) d) k 0) (sym e) ∙ get_or-append-add l _ (i - length l) 0 ∙ get_or-drop (length l) d (i - length l) 0
        ∙ ap (λ (k : ℕ). get_or d k 0) e ∙ p ∙ due-past l i h

-- And where the recorded case is what the definition gives, every such call gives and leaves what is recorded.
pub shown : (o : Outcome) (d d' l : List ℕ) (a b : Answer) → Answers o d d' a → Patterned d → length d' ≡ length d → HoldsAs o (length d) b l → (a ≡ b) × Left d' l
unfolding Patterned
shown o d d' l a b h p s f =
    let one = one_answer o d _ _ _ _ h (f d refl) in (
      one.0,
      record {
        fits = omega (arith, ap length one.1, length-append l (drop (length l) d));
        holds = λ i k. ap (λ (x : List ℕ). get_or x i 0) one.1 ∙ due l d i (p i (omega arith));
      },
    )

-- are two answers the same?
abbrev pub test : Answer → Answer → Bool
test a b = eqb a.number b.number && (eqb a.length b.length && eqb a.place b.place)

same : (a b : Answer) → test a b ≡ true → a ≡ b
same a b h =
    let n = eqb-true _ _ (both _ _ h).0 in
    let l = eqb-true _ _ (both _ _ (both _ _ h).1).0 in
    let p = eqb-true _ _ (both _ _ (both _ _ h).1).1 in
    λ i. record { number = n i; length = l i; place = p i }

other : (a b : Answer) → test a b ≡ false → a ≡ b → ⊥
other a b h e =
    let n = eq-eqb _ _ (ap (λ (x : Answer). x.number) e) in
    let l = eq-eqb _ _ (ap (λ (x : Answer). x.length) e) in
    let p = eq-eqb _ _ (ap (λ (x : Answer). x.place) e) in
    false≢true (sym h ∙ rw (n, l, p) refl)

-- The two ways in which a case is compared.
module _ (o : Outcome) (d d' l : List ℕ) (n : ℕ) (a b : Answer) (h : Answers o d d' a) (p : Patterned d) (s : length d' ≡ length d) (e : length d ≡ n) where
  pub told : (r : Bool) → length l ≡ b.length → test a b ≡ true → Tells r (Left d' l) → Tells r (HoldsAs o n b l)
  told r w q t =
      let z = same a b q in
      (λ i. rw (← e, ← z) (shows o d d' l a h (w ∙ ap (λ (x : Answer). x.length) (sym z)) (t.0 i)), λ f. t.1 (shown o d d' l a b h p s (rw e f)).1)

  pub told_other : test a b ≡ false → Tells false (HoldsAs o n b l)
  told_other q = untold (λ f. other a b q (shown o d d' l a b h p s (rw e f)).0)

-- a whole case has as long a listing as its answer says
pub as-long : (s rest : List ℕ) (c : Case) → CaseFirst s c rest → length c.listing.now ≡ c.answer.length
unfolding listing_of
as-long s rest c f = rw f.parts.listing (omega (arith, length-drop 13 (record_of (take f.size s)), f.whole.lists, ap (λ (x : Answer). x.length) f.parts.answer))

-- and holds if its parts do
pub as-parts : (s rest : List ℕ) (c : Case) (n : ℕ) (f : CaseFirst s c rest) → n ≡ c.entry → HoldsAs (outcome n c.input.now) c.lent c.answer c.listing.now → Holds (take f.size s)
unfolding Holds
as-parts s rest c n f e h = rw (← f.parts.entry, ← f.parts.input, ← f.parts.lent, ← f.parts.answer, ← f.parts.listing, ← e) h
