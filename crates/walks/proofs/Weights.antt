-- A field weighs as much as its bytes are, and what the lists of a tree come to in them. Assumes nothing.
use Rattle.std.specs.Prelude.{ℕ, ◌+◌, ◌*◌, ◌≤◌, ◌≡◌, refl, Bool, true, false, cond, List, [], ◌∷◌, length, ltb}
use Rattle.std.proofs.Common.{arith, ap, sym, ◌∙◌, length-append}
use Rattle.fields.specs.Field.{length-field}
use Rattle.text.specs.Utf8.{utf8, encode, is_scalar}
use Rattle.tree.specs.Rose.{Rose, Roses, leaf, node, rnil, rcons}
use Rattle.tree.specs.Encoded.{bytes_of, bytes_in}
use Rattle.tree.specs.Tree.{Name, Defs, ds_nil, ds_cons, Format, no_format, a_format, Bound, without_bound, a_bound}
use Rattle.tree.specs.Form.{f_names, f_term, f_defs, f_format, f_bound}
use Rattle.walks.specs.Weights.{weigh, weighs}

mutual
  unfolding bytes_of

  pub weigh-bytes : (r : Rose) → weigh r ≡ length (bytes_of r)
  weigh-bytes (leaf k p x) = sym (length-field k x)
  weigh-bytes (node k p rs) = ap (λ (n : ℕ). 3 + n) (weighs-bytes rs) ∙ sym (length-field k (bytes_in rs))

  weighs-bytes : (rs : Roses) → weighs rs ≡ length (bytes_in rs)
  weighs-bytes rnil = refl
  weighs-bytes (rcons r rs) = omega (arith, weigh-bytes r, weighs-bytes rs, length-append (bytes_of r) (bytes_in rs))

-- a field has three bytes or more
pub weigh-three : (r : Rose) → 3 ≤ weigh r
weigh-three (leaf k p x) = omega arith
weigh-three (node k p rs) = omega arith

-- ---- rows, and what follows in them

pub names-weigh : (k : ℕ) (xs : List Name) (rs : Roses) → 3 * length xs + weighs rs ≤ weighs (f_names k xs rs)
unfolding f_names
names-weigh k [] rs = omega arith
names-weigh k (x ∷ xs) rs = omega (arith, names-weigh k xs rs)

pub defs-weigh : (ds : Defs) (rs : Roses) → weighs rs ≤ weighs (f_defs ds rs)
unfolding f_term
defs-weigh ds_nil rs = omega arith
defs-weigh (ds_cons d ds) rs = omega (arith, defs-weigh ds rs)

pub format-weigh : (f : Format) (rs : Roses) → weighs rs ≤ weighs (f_format f rs)
unfolding f_format
format-weigh no_format rs = omega arith
format-weigh (a_format x) rs = omega arith

pub bound-weigh : (k : ℕ) (b : Bound) (rs : Roses) → weighs rs ≤ weighs (f_bound k b rs)
unfolding f_term
bound-weigh k without_bound rs = omega arith
bound-weigh k (a_bound q t) rs = omega arith

-- ---- characters

pick-length : (b : Bool) (xs ys : List ℕ) → length xs ≤ 4 → length ys ≤ 4 → length (cond b xs ys) ≤ 4
pick-length true xs ys h k = h
pick-length false xs ys h k = k

-- a character has four bytes at most
pub utf8-length : (c : ℕ) → length (utf8 c) ≤ 4
unfolding utf8 encode
utf8-length c =
    pick-length (is_scalar c) _ [] (pick-length (ltb c 0x80) _ _ (omega arith) (pick-length (ltb c 0x800) _ _ (omega arith) (pick-length (ltb c 0x10000) _ _ (omega arith) (omega arith)))) (omega arith)
