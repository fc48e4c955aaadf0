-- The check of tree bytes can say one thing only, and its limits are those of the walk that counts open fields. Assumes nothing.
use Rattle.std.specs.Prelude.{ℕ, ◌≤◌, ◌≡◌, refl, List, [], length, Result, Ok, Err, IfErr}
use Rattle.std.proofs.Math.Nat.{max-zero}
use Rattle.std.proofs.Common.{arith, sym, ap, ◌∙◌}
use Rattle.fields.specs.declared.Answer.{Answer}
use Rattle.fields.specs.declared.Listing.{Listing}
use Rattle.fields.specs.declared.Refusal.{Refusal}
use Rattle.fields.specs.declared.Refusal.TheVariants.{TooLong, NotWellFormed, TooDeep, DefinitionsTooDeep, TooManyTerms, NoRoom, TooManyOperators}
use Rattle.fields.specs.Refusals.{number_of, place_of, answer_of-one}
use Rattle.tree.specs.Rose.{rnil, rcons}
use Rattle.tree.specs.Tree.{Tree}
use Rattle.tree.specs.Form.{At, f_tree}
use Rattle.tree.proofs.Obeyed.{obeys-tree}
use Rattle.tree.specs.Nest.{nest, nests, Shallow}
use Rattle.tree.proofs.Nest.{shallow-of, of-shallow}
use Rattle.tree.specs.Verdict.{Encodes, nesting, defining, Says, number_said, fine, long, wrong, deep, nested}

-- ---- by the walk

nests-one : (o : ℕ) (t : Tree) → nests o (rcons (f_tree t) rnil) ≡ nest o (f_tree t)
unfolding nest
nests-one o t = max-zero (nest o (f_tree t))

pub walk_of : (b : List ℕ) (o n : ℕ) (t : Tree) → At b t → nest o (f_tree t) ≤ n → Shallow b o n [] 0
unfolding At
walk_of b o n t h m = let q = nests-one o t in shallow-of b o n (rcons (f_tree t) rnil) h (obeys-tree t).1 (omega arith)

pub of-walk : (b : List ℕ) (o n : ℕ) (t : Tree) → At b t → Shallow b o n [] 0 → nest o (f_tree t) ≤ n
unfolding At
of-walk b o n t h s = let q = nests-one o t in omega (arith, of-shallow b o n (rcons (f_tree t) rnil) h (obeys-tree t).1 s)

-- two trees of the same bytes nest alike
alike : (b : List ℕ) (o n : ℕ) (t u : Tree) → At b t → At b u → nest o (f_tree t) ≤ n → nest o (f_tree u) ≤ n
alike b o n t u h k m = of-walk b o n u k (walk_of b o n t h m)

pub says-one : (b : List ℕ) (r s : ℕ) → Says b r → Says b s → r ≡ s
says-one b r s (fine l t h m n) (fine l' u k m' n') = refl
says-one b r s (fine l t h m n) (long l') = absurd (omega arith)
says-one b r s (fine l t h m n) (wrong l' f) = absurd (f t h)
says-one b r s (fine l t h m n) (deep l' u k m') = absurd (omega (arith, alike b 0 512 t u h.at k.at m))
says-one b r s (fine l t h m n) (nested l' u k m' n') = absurd (omega (arith, alike b 0x8C 64 t u h.at k.at n))
says-one b r s (long l) (fine l' u k m' n') = absurd (omega arith)
says-one b r s (long l) (long l') = refl
says-one b r s (long l) (wrong l' f) = absurd (omega arith)
says-one b r s (long l) (deep l' u k m') = absurd (omega arith)
says-one b r s (long l) (nested l' u k m' n') = absurd (omega arith)
says-one b r s (wrong l f) (fine l' u k m' n') = absurd (f u k)
says-one b r s (wrong l f) (long l') = absurd (omega arith)
says-one b r s (wrong l f) (wrong l' g) = refl
says-one b r s (wrong l f) (deep l' u k m') = absurd (f u k)
says-one b r s (wrong l f) (nested l' u k m' n') = absurd (f u k)
says-one b r s (deep l t h m) (fine l' u k m' n') = absurd (omega (arith, alike b 0 512 u t k.at h.at m'))
says-one b r s (deep l t h m) (long l') = absurd (omega arith)
says-one b r s (deep l t h m) (wrong l' f) = absurd (f t h)
says-one b r s (deep l t h m) (deep l' u k m') = refl
says-one b r s (deep l t h m) (nested l' u k m' n') = absurd (omega (arith, alike b 0 512 u t k.at h.at m'))
says-one b r s (nested l t h m n) (fine l' u k m' n') = absurd (omega (arith, alike b 0x8C 64 u t k.at h.at n'))
says-one b r s (nested l t h m n) (long l') = absurd (omega arith)
says-one b r s (nested l t h m n) (wrong l' f) = absurd (f t h)
says-one b r s (nested l t h m n) (deep l' u k m') = absurd (omega (arith, alike b 0 512 t u h.at k.at m))
says-one b r s (nested l t h m n) (nested l' u k m' n') = refl

-- a refusal is told by its number and its place
some : (e : Refusal) → 2 ≤ number_of e
some TooLong = omega arith
some (NotWellFormed at) = omega arith
some (TooDeep at) = omega arith
some DefinitionsTooDeep = omega arith
some TooManyTerms = omega arith
some NoRoom = omega arith
some TooManyOperators = omega arith

refusing : Result Listing Refusal → Result (Unit {0}) Refusal
refusing (Ok x) = Ok tt
refusing (Err e) = Err e

answer_at : ℕ → ℕ → Answer
answer_at n p = record { number = n; length = 0; place = p }

told : (e f : Refusal) → number_of e ≡ number_of f → place_of e ≡ place_of f → ◌≡◌ {A = Result (Unit {0}) Refusal} (Err e) (Err f)
unfolding answer_at refusing
told e f n p = ap refusing (answer_of-one (Err e) (Err f) (ap (λ k. answer_at k (place_of e)) n ∙ ap (answer_at (number_of f)) p))

-- what a call of `verdict` may give of some bytes is one result, its place too
pub gives-one : (b : List ℕ) (r s : Result (Unit {0}) Refusal) → Says b (number_said r) → IfErr r (λ e. place_of e ≡ 0) → Says b (number_said s) → IfErr s (λ e. place_of e ≡ 0) → r ≡ s
gives-one b (Ok x) (Ok y) h p k q = refl
gives-one b (Ok x) (Err f) h p k q = absurd (omega (arith, says-one b 0 (number_of f) h k, some f))
gives-one b (Err e) (Ok y) h p k q = absurd (omega (arith, says-one b (number_of e) 0 h k, some e))
gives-one b (Err e) (Err f) h p k q = told e f (says-one b (number_of e) (number_of f) h k) (p ∙ sym q)

-- what an acceptance says
accepted : (b : List ℕ) (r : ℕ) → Says b r → r ≡ 0 → (length b ≤ 32768) × ((t : Tree) × Encodes b t × (nesting t ≤ 512) × (defining t ≤ 64))
accepted b r (fine l t h m n) e = (l, (t, h, m, n))
accepted b r (long l) e = absurd (omega arith)
accepted b r (wrong l f) e = absurd (omega arith)
accepted b r (deep l t h m) e = absurd (omega arith)
accepted b r (nested l t h m n) e = absurd (omega arith)

pub says-zero : (b : List ℕ) → Says b 0 → (length b ≤ 32768) × ((t : Tree) × Encodes b t × (nesting t ≤ 512) × (defining t ≤ 64))
says-zero b s = accepted b 0 s refl
