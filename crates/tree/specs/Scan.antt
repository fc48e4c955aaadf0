-- Well formed, said of each field by itself. Assumes nothing.
use Rattle.std.specs.Prelude.{ℕ, ◌+◌, ◌≤◌, ◌<◌, ◌≡◌, List, Bool, true, false, length, get_or}
use Rattle.tree.specs.Rose.{end_of, text_of}
use Rattle.tree.specs.Leaf.{class, shape, is_leaf_tag, leaf_ok}
use Rattle.tree.specs.Grammar.{Items, content, after, ends}

-- the headers from p on fill p to e and are those that the items g allow
pub data Local (b : List ℕ) (e : ℕ) : Items → ℕ → Type 0 where
  done : {g : Items} {p : ℕ} → p ≡ e → ends g ≡ true → Local b e g p
  step : {g : Items} {p : ℕ} → p < e → end_of b p ≤ e → Local b e (after g (class (get_or b p 0))) (end_of b p) → Local b e g p

-- the content of the field at p, which is a leaf or not
abbrev pub Inner : Bool → List ℕ → ℕ → Type 0
Inner true b p = leaf_ok (shape (get_or b p 0)) (text_of b p) ≡ true
Inner false b p = Local b (end_of b p) (content (get_or b p 0)) (p + 3)

-- the next header
abbrev pub next_of : Bool → List ℕ → ℕ → ℕ
next_of true b p = end_of b p
next_of false b p = p + 3

-- each header from p on is right
pub data All (b : List ℕ) : ℕ → Type 0 where
  over : {p : ℕ} → p ≡ length b → All b p
  here : {p : ℕ} → p < length b → end_of b p ≤ length b → Inner (is_leaf_tag (get_or b p 0)) b p → All b (next_of (is_leaf_tag (get_or b p 0)) b p) → All b p
