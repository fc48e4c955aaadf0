-- An outcome that is a listing of terms: its tree is accepted. Assumes nothing.
use Rattle.std.specs.Prelude.{ℕ, ◌≡◌, refl, Bool, true, false, List, [], ◌∷◌, length, ltb}
use Rattle.std.proofs.Common.{arith, sym, ap, ◌∙◌, ltb-false}
use Rattle.fields.specs.Outcome.{Outcome, listing, refusal, pick}
use Rattle.tree.specs.Tree.{Tree}
use Rattle.tree.specs.Form.{At, f_tree}
use Rattle.tree.specs.Encoded.{Bytes, encode}
use Rattle.tree.proofs.Encoded.{encoded}
use Rattle.rules.specs.Table.{Err}
use Rattle.rules.specs.Modules.{compile}
use Rattle.rules.proofs.Count.{table-count}
use Rattle.rules.specs.Listing.{listed, compiling}
use Rattle.walks.specs.Weights.{weigh}
use Rattle.walks.proofs.Weights.{weigh-bytes}
use Rattle.walks.specs.Accepted.{Accepted}

-- the bytes of a tree are as many as its fields have
pub tree-length : (b : List ℕ) (t : Tree) → Bytes b → At b t → weigh (f_tree t) ≡ length b
unfolding encode
tree-length b t s h = weigh-bytes (f_tree t) ∙ ap length (sym (encoded b s t h))

abbrev bytes_in : Outcome → List ℕ
bytes_in (listing n bytes) = bytes
bytes_in (refusal n p) = []

abbrev number_in : Outcome → ℕ
number_in (listing n bytes) = n
number_in (refusal n p) = n

pub accepted : (t : Tree) (bytes : List ℕ) → compiling t ≡ listing 0 bytes → Accepted t bytes
unfolding compiling listed
accepted t bytes q = go (ltb 4096 (length (compile t).table)) refl (compile t).errs refl q
  where
    go : (b : Bool) → ltb 4096 (length (compile t).table) ≡ b → (es : List Err) → (compile t).errs ≡ es → pick b (refusal 6 0) (listed (compile t) es) ≡ listing 0 bytes
        → Accepted t bytes
    go true w es f h = absurd (omega (arith, ap number_in h))
    go false w [] f h =
        record { few = omega (arith, table-count t, ltb-false 4096 (length (compile t).table) w); fine = f; same = sym (ap bytes_in h) }
    go false w (x ∷ xs) f h = absurd (omega (arith, ap number_in h))
