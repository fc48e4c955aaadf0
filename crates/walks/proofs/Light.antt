-- What a record may weigh, and the parts of the rules one by one: an index lies in view, a list has no more members than its fields in the tree, a pattern or a
-- path no more bytes than its fields allow. Assumes nothing.
use Rattle.std.specs.Prelude.{ℕ, suc, ◌+◌, ◌*◌, ◌≤◌, ◌<◌, ◌≡◌, refl, Bool, true, false, cond, ◌&&◌, List, [], ◌∷◌, ◌++◌, length, eqb}
use Rattle.std.proofs.Common.{arith, subst, length-append}
use Rattle.std.proofs.Math.Option.{Option, none, some, map}
use Rattle.fields.specs.Number.{number, length-number}
use Rattle.tree.specs.Tree.{Name, Number, Native, Terms, ts_nil, ts_cons, Pattern, p_var, p_arr, p_obj, OptPattern, no_pattern, a_pattern, Patterns, ps_nil, ps_cons, PatEntries, pes_nil, pes_cons, Parts, parts_nil, parts_cons, Part, part_index, part_range, Bound, without_bound, a_bound}
use Rattle.tree.specs.Rose.{rnil}
use Rattle.tree.specs.Form.{f_term, f_terms, f_pattern, f_opt_pattern, f_patterns, f_pat_entries, f_parts, f_part, f_bound, f_mark}
use Rattle.rules.specs.Names.{Text, same, is_var, Parted, plain, parted, parting}
use Rattle.rules.specs.Table.{Pat, Pats, Step}
use Rattle.rules.specs.Tails.{empty}
use Rattle.rules.specs.Rows.{Filter, var, label, arg, filter, Env, count, find_var, find_label, push_vars, param, params}
use Rattle.rules.specs.Filters.{Top, or_else, last_that, imported_var, global_var, variable, Found, nothing, argument, local, of_module, of_native, later, fits, find, in_module, included, native_of, found_within, found_else, filter_named, import_named, import_meant, part_meant, meant}
use Rattle.rules.specs.Outs.{size, Made, vars, vars_all, vars_keyed, vars_of, arity, is_optional}
use Rattle.rules.specs.Rules.{term, pattern, elements, keyed, opt_pattern, parts, part, bound}
use Rattle.rules.specs.Lists.{either}
use Rattle.rules.specs.Listing.{flag, pat_bytes, pats_bytes, opt_pat_bytes, opt_number, step_bytes, steps_bytes, pat_count}
use Rattle.walks.specs.Weights.{weigh, weighs}
use Rattle.walks.proofs.Weights.{weigh-three}

-- ---- indices

abbrev pub Below : ℕ → Option ℕ → Type 0
Below k none = Unit {0}
Below k (some i) = i < k

below_suc : (k : ℕ) (o : Option ℕ) → Below k o → Below (suc k) (map suc o)
below_suc k none h = tt
below_suc k (some i) h = omega arith

below-cond : (b : Bool) (k : ℕ) (o o' : Option ℕ) → Below k o → Below k o' → Below k (cond b o o')
below-cond true k o o' h h' = h
below-cond false k o o' h h' = h'

below_more : (k j : ℕ) (o : Option ℕ) → k ≤ j → Below k o → Below j o
below_more k j none b h = tt
below_more k j (some i) b h = omega arith

below-else : (k : ℕ) (o o' : Option ℕ) → Below k o → Below k o' → Below k (or_else o o')
below-else k none o' h h' = h'
below-else k (some i) o' h h' = h

below-add : (k j : ℕ) (o : Option ℕ) → Below k o → Below (j + k) (map (λ i. j + i) o)
below-add k j none h = tt
below-add k j (some i) h = omega arith

var-below : (x : Text) (e : Env) → Below (count e) (find_var x e)
var-below x [] = tt
var-below x (var y ∷ e) = below-cond (same x y.text) (suc (count e)) (some 0) _ (omega arith) (below_suc (count e) (find_var x e) (var-below x e))
var-below x (label y ∷ e) = below_suc (count e) (find_var x e) (var-below x e)
var-below x (arg y ∷ e) = below_suc (count e) (find_var x e) (var-below x e)
var-below x (filter d ∷ e) = var-below x e

pub label-below : (x : Text) (e : Env) → Below (count e) (find_label x e)
label-below x [] = tt
label-below x (var y ∷ e) = below_suc (count e) (find_label x e) (label-below x e)
label-below x (label y ∷ e) = below-cond (same x y.text) (suc (count e)) (some 0) _ (omega arith) (below_suc (count e) (find_label x e) (label-below x e))
label-below x (arg y ∷ e) = below_suc (count e) (find_label x e) (label-below x e)
label-below x (filter d ∷ e) = label-below x e

last-below : {A : Type 0} (f : A → Bool) (xs : List A) → Below (length xs) (last_that f xs)
last-below f [] = tt
last-below f (x ∷ xs) =
    below-else (suc (length xs)) (last_that f xs) _ (below_more (length xs) (suc (length xs)) (last_that f xs) (omega arith) (last-below f xs))
    (below-cond (f x) (suc (length xs)) (some (length xs)) none (omega arith) tt)

-- the imported variables and globals past all locals
abbrev pub outer_count : Top → ℕ
outer_count c = length c.imported + length c.globals

pub variable-below : (c : Top) (x : Text) (e : Env) → Below (count e + outer_count c) (variable c x e)
unfolding variable
variable-below c x e =
    let k : ℕ = count e in
    let i : ℕ = length c.imported in
    let g : ℕ = length c.globals in
    below-else (k + (i + g)) (find_var x e) _ (below_more k (k + (i + g)) (find_var x e) (omega arith) (var-below x e))
    (below-else (k + (i + g)) (map (λ j. k + j) (imported_var c x)) _
    (below_more (k + i) (k + (i + g)) (map (λ j. k + j) (imported_var c x)) (omega arith) (below-add i k (imported_var c x) (last-below _ c.imported)))
    (imported-past k i g (global_var c x) (last-below _ c.globals)))
  where
    imported-past : (k i g : ℕ) (o : Option ℕ) → Below g o → Below (k + (i + g)) (map (λ j. k + (i + j)) o)
    imported-past k i g none h = tt
    imported-past k i g (some j) h = omega arith

-- ---- what a call finds: an argument by an index in view, a native by its number

abbrev pub FoundBelow : ℕ → ℕ → Found → Type 0
FoundBelow k n nothing = Unit {0}
FoundBelow k n (argument i) = i < k
FoundBelow k n (local d) = Unit {0}
FoundBelow k n (of_module d) = Unit {0}
FoundBelow k n (of_native i ps) = i < n

found-later : (k n : ℕ) (f : Found) → FoundBelow k n f → FoundBelow (suc k) n (later f)
found-later k n nothing h = tt
found-later k n (argument i) h = omega arith
found-later k n (local d) h = tt
found-later k n (of_module d) h = tt
found-later k n (of_native i ps) h = h

found-find : (n : ℕ) (f : Text) (a : ℕ) (e : Env) → FoundBelow (count e) n (find f a e)
found-find n f a [] = tt
found-find n f a (var y ∷ e) = found-later (count e) n (find f a e) (found-find n f a e)
found-find n f a (label y ∷ e) = found-later (count e) n (find f a e) (found-find n f a e)
found-find n f a (arg y ∷ e) =
    let first : 0 < suc (count e) = omega arith in
    either (FoundBelow (suc (count e)) n) (same f y.text && eqb a 0) (argument 0) (later (find f a e)) (λ _. first)
    (found-later (count e) n (find f a e) (found-find n f a e))
found-find n f a (filter d ∷ e) = either (FoundBelow (count e) n) (fits f a d) (local d) (find f a e) (λ _. tt) (found-find n f a e)

found-native : (k : ℕ) (f : Text) (a i : ℕ) (vs : List Native) → FoundBelow k (i + length vs) (native_of f a i vs)
found-native k f a i [] = tt
found-native k f a i (v ∷ vs) =
    let z : suc i + length vs ≡ i + suc (length vs) = omega arith in
    let first : i < i + suc (length vs) = omega arith in
    either (FoundBelow k (i + suc (length vs))) (same f v.name.text && eqb a (length v.params)) (of_native i v.params) (native_of f a (suc i) vs)
    (λ _. first)
    (subst (λ (j : ℕ). FoundBelow k j (native_of f a (suc i) vs)) z (found-native k f a (suc i) vs))

found_in : (k n : ℕ) (o : Option Filter) (f : Found) → FoundBelow k n f → FoundBelow k n (found_within o f)
found_in k n none f h = h
found_in k n (some d) f h = tt

found-else : (k n : ℕ) (f g : Found) → FoundBelow k n f → FoundBelow k n g → FoundBelow k n (found_else f g)
found-else k n nothing g h w = w
found-else k n (argument i) g h w = h
found-else k n (local d) g h w = tt
found-else k n (of_module d) g h w = tt
found-else k n (of_native i ps) g h w = h

found-import : (c : Top) (m f : Text) (q a k n : ℕ) (i : Option Number) → FoundBelow k n (import_meant c m f q a i).found
unfolding import_meant
found-import c m f q a k n none = tt
found-import c m f q a k n (some i) = found_in k n (in_module c f a i) nothing tt

found_part : (c : Top) (x : Text) (q a : ℕ) (e : Env) (y : Parted) → FoundBelow (count e) (length c.natives) (part_meant c x q a e y).found
unfolding part_meant filter_named
found_part c x q a e plain =
    let n : ℕ = length c.natives in
    let z : 0 + n ≡ n = omega arith in
    found-else (count e) n (find x a e) _ (found-find n x a e)
    (found_in (count e) n (included c x a c.uses.includes) (native_of x a 0 c.natives)
    (subst (λ (j : ℕ). FoundBelow (count e) j (native_of x a 0 c.natives)) z (found-native (count e) x a 0 c.natives)))
found_part c x q a e (parted m f) = found-import c m f q a (count e) (length c.natives) (import_named m c.uses.imports)

pub meant-below : (c : Top) (x : Text) (q a : ℕ) (e : Env) → FoundBelow (count e) (length c.natives) (meant c x q a e).found
unfolding meant
meant-below c x q a e = found_part c x q a e (parting x)

-- ---- what is pushed

pub push-count : (xs : List Name) (e : Env) → count (push_vars xs e) ≡ length xs + count e
push-count [] e = omega arith
push-count (x ∷ xs) e = omega (arith, push-count xs (var x ∷ e))

param-count : (b : Bool) (x : Name) (e : Env) → count (cond b (var x) (arg x) ∷ e) ≡ suc (count e)
param-count true x e = refl
param-count false x e = refl

pub params-count : (xs : List Name) (e : Env) → count (params xs e) ≡ length xs + count e
params-count [] e = omega arith
params-count (x ∷ xs) e = omega (arith, params-count xs (param x e), param-count (is_var x.text) x e)

-- ---- the bytes of patterns and paths, by their fields

mutual
  unfolding term pat_bytes f_term

  pub pattern-bytes : (c : Top) (x : Pattern) (p : ℕ) (e : Env) (n : ℕ) → 3 * length (pat_bytes 2 (pattern c x p e n).made) + 6 ≤ 5 * weigh (f_pattern x)
  pattern-bytes c (p_var q x) p e n = omega arith
  pattern-bytes c (p_arr q xs) p e n =
      let ys : Pats = (elements c xs 0 p e n).made in
      omega (arith, elements-bytes c xs 0 p e n, length-append (number 2 (pat_count 2 ys)) (pats_bytes 2 ys), length-number 2 (pat_count 2 ys))
  pattern-bytes c (p_obj q xs) p e n =
      let ys : Pats = (keyed c xs p e n).made in
      omega (arith, keyed-bytes c xs p e n, length-append (number 2 (pat_count 2 ys)) (pats_bytes 2 ys), length-number 2 (pat_count 2 ys))

  elements-bytes : (c : Top) (xs : Patterns) (i p : ℕ) (e : Env) (n : ℕ) → 3 * length (pats_bytes 2 (elements c xs i p e n).made) ≤ 5 * weighs (f_patterns xs rnil)
  elements-bytes c ps_nil i p e n = omega arith
  elements-bytes c (ps_cons x xs) i p e n =
      let a : Made Pat = pattern c x p e (suc n) in
      let o : Made Pats = elements c xs (suc i) p e (suc n + length a.more) in
      omega (
        arith,
        pattern-bytes c x p e (suc n),
        elements-bytes c xs (suc i) p e (suc n + length a.more),
        length-number 2 n,
        length-append (number 2 n) (pat_bytes 2 a.made ++ pats_bytes 2 o.made),
        length-append (pat_bytes 2 a.made) (pats_bytes 2 o.made),
      )

  keyed-bytes : (c : Top) (xs : PatEntries) (p : ℕ) (e : Env) (n : ℕ) → 3 * length (pats_bytes 2 (keyed c xs p e n).made) ≤ 5 * weighs (f_pat_entries xs rnil)
  keyed-bytes c pes_nil p e n = omega arith
  keyed-bytes c (pes_cons q t x xs) p e n =
      let k : ℕ = n + size (term c t e (suc n) empty) in
      let a : Made Pat = pattern c x p e k in
      let o : Made Pats = keyed c xs p e (k + length a.more) in
      omega (
        arith,
        pattern-bytes c x p e k,
        keyed-bytes c xs p e (k + length a.more),
        length-number 2 n,
        length-append (number 2 n) (pat_bytes 2 a.made ++ pats_bytes 2 o.made),
        length-append (pat_bytes 2 a.made) (pats_bytes 2 o.made),
      )

-- the variables of a pattern, each in a field of its own
mutual
  unfolding f_term

  pub vars-weigh : (x : Pattern) → 3 * length (vars x) ≤ weigh (f_pattern x)
  vars-weigh (p_var q x) = omega arith
  vars-weigh (p_arr q xs) = omega (arith, vars-all-weigh xs)
  vars-weigh (p_obj q xs) = omega (arith, vars-keyed-weigh xs)

  vars-all-weigh : (xs : Patterns) → 3 * length (vars_all xs) ≤ weighs (f_patterns xs rnil)
  vars-all-weigh ps_nil = omega arith
  vars-all-weigh (ps_cons x xs) = omega (arith, vars-weigh x, vars-all-weigh xs, length-append (vars x) (vars_all xs))

  vars-keyed-weigh : (xs : PatEntries) → 3 * length (vars_keyed xs) ≤ weighs (f_pat_entries xs rnil)
  vars-keyed-weigh pes_nil = omega arith
  vars-keyed-weigh (pes_cons q t x xs) = omega (arith, vars-weigh x, vars-keyed-weigh xs, length-append (vars x) (vars_keyed xs))

pub opt-vars-weigh : (x : OptPattern) → 3 * length (vars_of x) ≤ weighs (f_opt_pattern x rnil)
unfolding f_term
opt-vars-weigh no_pattern = omega arith
opt-vars-weigh (a_pattern x) = omega (arith, vars-weigh x)

pub opt-pattern-bytes : (c : Top) (x : OptPattern) (p : ℕ) (e : Env) (n : ℕ) → 3 * length (opt_pat_bytes 2 (opt_pattern c x p e n).made) ≤ 3 + 5 * weighs (f_opt_pattern x rnil)
unfolding term opt_pat_bytes f_term
opt-pattern-bytes c no_pattern p e n = omega arith
opt-pattern-bytes c (a_pattern x) p e n = omega (arith, pattern-bytes c x p e n)

bound-bytes : (c : Top) (k : ℕ) (x : Bound) (e : Env) (n : ℕ) (rs : _) → 3 * length (opt_number 2 (bound c x e n).made) + 4 * weighs rs ≤ 3 + 4 * weighs (f_bound k x rs)
unfolding term opt_number f_term
bound-bytes c k without_bound e n rs = omega arith
bound-bytes c k (a_bound q t) e n rs = omega (arith, length-number 2 n, weigh-three (f_term t))

part_bytes : (c : Top) (x : Part) (e : Env) (n : ℕ) → 3 * length (step_bytes 2 (part c x e n).made) ≤ 4 * weigh (f_part x)
unfolding term step_bytes f_term
part_bytes c (part_index q t m) e n = omega (arith, length-number 2 n, weigh-three (f_term t), length-append (number 2 n) (flag (is_optional m) ∷ []))
part_bytes c (part_range q l u m) e n =
    let i : Option ℕ = (bound c l e n).made in
    let k : ℕ = n + length (bound c l e n).more in
    let j : Option ℕ = (bound c u e k).made in
    omega (
      arith,
      bound-bytes c 0xC1 l e n (f_bound 0xC2 u (f_mark m rnil)),
      bound-bytes c 0xC2 u e k (f_mark m rnil),
      length-append (opt_number 2 i) (opt_number 2 j ++ (flag (is_optional m) ∷ [])),
      length-append (opt_number 2 j) (flag (is_optional m) ∷ []),
    )

pub parts-bytes : (c : Top) (xs : Parts) (e : Env) (n : ℕ) → 3 * length (steps_bytes 2 (parts c xs e n).made) ≤ 4 * weighs (f_parts xs rnil)
unfolding term steps_bytes f_term
parts-bytes c parts_nil e n = omega arith
parts-bytes c (parts_cons x xs) e n =
    let a : Made Step = part c x e n in
    let o : Made (List Step) = parts c xs e (n + length a.more) in
    omega (arith, part_bytes c x e n, parts-bytes c xs e (n + length a.more), length-append (step_bytes 2 a.made) (steps_bytes 2 o.made))

-- the arguments of a call, each in a field of its own
pub arity-weigh : (ts : Terms) → 3 * arity ts ≤ weighs (f_terms ts rnil)
unfolding f_term
arity-weigh ts_nil = omega arith
arity-weigh (ts_cons t ts) = omega (arith, arity-weigh ts, weigh-three (f_term t))
