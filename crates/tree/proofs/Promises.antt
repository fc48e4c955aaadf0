-- What `tree` promises: the theorems that a reader signs for. Each is proved below this page, and cited here. Assumes nothing.
use Rattle.std.specs.Prelude.{ℕ, ◌≤◌, ◌≡◌, List, length, Result, IfErr}
use Rattle.tree.specs.Tree.{Tree}
use Rattle.fields.specs.declared.Refusal.{Refusal}
use Rattle.fields.specs.Refusals.{place_of}
use Rattle.tree.specs.Verdict.{Encodes, nesting, defining, Says, number_said, fine}
use Rattle.tree.proofs.Verdicts.{says-zero, says-one, gives-one}
use Rattle.tree.proofs.Unique.{unique}
use Rattle.tree.specs.Encoded.{Bytes}
use Rattle.tree.proofs.Encoded.{same_bytes}

-- "The team fixes tree tags in docs/, one encoding per tree": bytes hold one tree at most, and a tree has one row of bytes at most.
pub one-tree : (b : List ℕ) (t u : Tree) → Encodes b t → Encodes b u → t ≡ u
one-tree b t u h k = unique b t u h.at k.at

pub one-encoding : (b c : List ℕ) → Bytes b → Bytes c → (t : Tree) → Encodes b t → Encodes c t → b ≡ c
one-encoding b c x y t h k = same_bytes b c x y t h.at k.at

-- "2: input over 32,768 bytes; 3: .. tree .. not well formed; 4: nesting .. over 512 in a tree; 5: definitions nested over 64, compiled or not". What is
-- accepted is a tree within these bounds.
pub accepted : (b : List ℕ) → Says b 0 → (length b ≤ 32768) × ((t : Tree) × Encodes b t × (nesting t ≤ 512) × (defining t ≤ 64))
accepted b s = says-zero b s

-- And what is such a tree is accepted: "Nothing else refuses."
pub accepts : (b : List ℕ) (t : Tree) (r : ℕ) → length b ≤ 32768 → Encodes b t → nesting t ≤ 512 → defining t ≤ 64 → Says b r → r ≡ 0
accepts b t r l h m n s = says-one b r 0 s (fine l t h m n)

-- "Any two answers it permits are shown equal".
pub one-verdict : (b : List ℕ) (r s : ℕ) → Says b r → Says b s → r ≡ s
one-verdict b r s x y = says-one b r s x y

-- the same of what a call gives, the place of a refusal too
pub one-result : (b : List ℕ) (r s : Result (Unit {0}) Refusal) → Says b (number_said r) → IfErr r (λ e. place_of e ≡ 0) → Says b (number_said s) → IfErr s (λ e. place_of e ≡ 0) → r ≡ s
one-result b r s h p k q = gives-one b r s h p k q
