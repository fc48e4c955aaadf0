-- What a lookup in the code says, against what the name means. Assumes nothing.
use Rattle.std.specs.Prelude.{ℕ, ◌+◌, ◌*◌, ◌≤◌, ◌<◌, ◌≡◌, ◌⊎◌, Bool, cond, ◌&&◌, List, [], ◌∷◌, eqb, length, get_or}
use Rattle.std.proofs.Math.Option.{Option, none, some}
use Rattle.tree.specs.Rose.{end_of, text_of}
use Rattle.rules.specs.Names.{Text, same}
use Rattle.rules.specs.Table.{Undefined, u_mod, u_var, u_label, u_filter, Err}
use Rattle.rules.specs.Rows.{Env, find_label}
use Rattle.rules.specs.Filters.{variable, Found, nothing, argument, local, of_module, of_native, meant}
use Rattle.finds.specs.Hits as Hit
use Rattle.reads.specs.Bytes.{names_of, Fields}
use Rattle.cells.specs.Cells.{View, Seen, env_of, outer, word_at, key_at, arity_at, number_at, kind_at, place_at, before_at, filter_at}

-- row j has the word, the key and the name
abbrev pub matches : List ℕ → List ℕ → Text → ℕ → ℕ → ℕ → Bool
matches b s x w key j = eqb (word_at s j) w && eqb (key_at s j) key && same x (text_of b (place_at s j))

-- the first of the rows that does, or 0
unfoldable pub first_of : (ℕ → Bool) → List ℕ → ℕ
first_of f [] = 0
first_of f (j ∷ js) = cond (f j) j (first_of f js)

-- row j can be read
pub record Readable (b s : List ℕ) (j : ℕ) : Type 0 where
  pub within : 4 * j + 4 ≤ length s
  pub name : end_of b (place_at s j) ≤ length b
  pub params : Fields b (arity_at s j) (end_of b (place_at s j))

-- a variable (class 0) or a label (1)
unfoldable pub sought : View → ℕ → Text → Env → Option ℕ
sought vw class x e = cond (eqb class 0) (variable vw.top x e) (find_label x e)

unfoldable pub HitIs : Option ℕ → List ℕ → List ℕ → ℕ → Type 0
HitIs none b s r = r ≡ 0
HitIs (some i) b s r = (0 < r) × Readable b s r × (get_or s 1 0 ≡ before_at s r + i + 1)

abbrev pub Finds : List ℕ → List ℕ → Text → ℕ → ℕ → Type 0
Finds b s x class r = (vw : View) (k : ℕ) → Seen vw b s k → HitIs (sought vw class x (env_of vw b s k)) b s r

abbrev pub undefined_kind : Undefined → ℕ
undefined_kind u_mod = 1
undefined_kind u_var = 2
undefined_kind u_label = 2
undefined_kind (u_filter a) = 0

-- what a call with a arguments means, m being the bindings that are no locals
unfoldable pub FoundIs : Found → Err → List ℕ → List ℕ → ℕ → ℕ → Hit.Found → Type 0
FoundIs nothing x b s m a r = (r.kind ≡ undefined_kind x.what) × (r.at ≡ x.place) × (r.len ≡ x.length)
FoundIs (argument i) x b s m a r = (r.kind ≡ 2) × Readable b s r.j × (get_or s 1 0 ≡ before_at s r.j + i + 1) × (a ≡ 0)
FoundIs (local d) x b s m a r =
    (((r.kind ≡ 3) × (kind_at s r.j ≡ 3)) ⊎ ((r.kind ≡ 4) × (kind_at s r.j ≡ 4))) × Readable b s r.j × (filter_at b s m r.j ≡ d) × (arity_at s r.j ≡ a)
    × (m ≤ before_at s r.j) × (before_at s r.j ≤ get_or s 1 0)
FoundIs (of_module d) x b s m a r =
    (r.kind ≡ 5) × (kind_at s r.j ≡ 4) × Readable b s r.j × (filter_at b s m r.j ≡ d) × (arity_at s r.j ≡ a) × (before_at s r.j ≡ m) × (m ≤ get_or s 1 0)
FoundIs (of_native i ps) x b s m a r =
    (r.kind ≡ 6) × Readable b s r.j × (number_at s r.j ≡ i) × (names_of b (arity_at s r.j) (end_of b (place_at s r.j)) ≡ ps) × (arity_at s r.j ≡ a)

abbrev pub Means : List ℕ → List ℕ → Text → ℕ → ℕ → Hit.Found → Type 0
Means b s x at a r =
    (vw : View) (k : ℕ) → Seen vw b s k → let m = meant vw.top x at a (env_of vw b s k) in FoundIs m.found m.missing b s (outer vw) a r
