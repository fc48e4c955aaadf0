-- What every entry promises by `Answers`, in a reader's words: one answer, nothing changed by a refusal, nothing past the length by a listing.
use Rattle.std.specs.Prelude.{◌≡◌, refl, Bool, true, false, List, ◌++◌, ℕ, ◌≤◌, ◌<◌, length, drop, leb, Result}
use Rattle.std.proofs.Common.{sym, ◌∙◌, le-leb}
use Rattle.std.proofs.Math.Seq.{drop-append_seam}
use Rattle.std.proofs.lemmas.Bool.{lt-leb}
use Rattle.fields.specs.declared.Answer.{Answer}
use Rattle.fields.specs.declared.Listing.{Listing}
use Rattle.fields.specs.declared.Refusal.{Refusal}
use Rattle.fields.specs.Refusals.{answer_of, answer_of-one}
use Rattle.fields.specs.Room.{overlay, overlay-front}
use Rattle.fields.specs.Outcome.{Outcome, listing, refusal, pick, answer, content, Answers}

-- "Any two answers it permits are shown equal": the answer and the room's content alike
pub one_answer : (o : Outcome) (d d₁ d₂ : List ℕ) (r₁ r₂ : Answer) → Answers o d d₁ r₁ → Answers o d d₂ r₂ → (r₁ ≡ r₂) × (d₁ ≡ d₂)
one_answer o d d₁ d₂ r₁ r₂ a b = (a.answers ∙ sym b.answers, a.leaves ∙ sym b.leaves)

-- the same of results
pub one_result : (o : Outcome) (d d₁ d₂ : List ℕ) (r₁ r₂ : Result Listing Refusal) → Answers o d d₁ (answer_of r₁) → Answers o d d₂ (answer_of r₂) → (r₁ ≡ r₂) × (d₁ ≡ d₂)
one_result o d d₁ d₂ r₁ r₂ a b = (answer_of-one r₁ r₂ (a.answers ∙ sym b.answers), a.leaves ∙ sym b.leaves)

-- "A refusal changes no lent byte, a listing none past its reported length": what stands past the length is what stood there, and a refusal's length is 0
pub rest-kept : (o : Outcome) (d d' : List ℕ) (r : Answer) → Answers o d d' r → drop r.length d' ≡ drop r.length d
unfolding answer content
rest-kept (refusal n at) d d' r a = rw a.leaves
rest-kept (listing n bytes) d d' r a = go (leb (length bytes) (length d)) a.answers a.leaves
  where
    go : (t : Bool) → r ≡ pick t (record { number = n; length = length bytes; place = 0 }) (record { number = 7; length = 0; place = 0 })
        → d' ≡ pick t (bytes ++ drop (length bytes) d) d → drop r.length d' ≡ drop r.length d
    go true e l = rw (l, e) (drop-append_seam bytes (drop (length bytes) d))
    go false e l = rw l

-- what an entry has to show at each kind of return
pub refused : (n at : ℕ) (d : List ℕ) → Answers (refusal n at) d d (record { number = n; length = 0; place = at })
unfolding answer content
refused n at d = record { answers = refl; leaves = refl }

pub short : (n : ℕ) (bytes d : List ℕ) → length d < length bytes → Answers (listing n bytes) d d (record { number = 7; length = 0; place = 0 })
unfolding answer content
short n bytes d h = record { answers = simp (lt-leb _ _ h); leaves = simp (lt-leb _ _ h) }

pub listed : (n k : ℕ) (bytes d d' : List ℕ) → k ≡ length bytes → length bytes ≤ length d → d' ≡ overlay d 0 bytes → Answers (listing n bytes) d d' (record { number = n; length = k; place = 0 })
unfolding answer content
listed n k bytes d d' e h l = record { answers = rw e (simp (le-leb _ _ h)); leaves = simp (le-leb _ _ h) (l ∙ overlay-front d bytes h) }
