-- What is bound where a term stands: rows of bindings, the last pushed first. Assumes nothing.
use Rattle.std.specs.Prelude.{ℕ, zero, suc, cond, List, [], ◌∷◌}
use Rattle.std.proofs.Math.Option.{Option, none, some, map}
use Rattle.tree.specs.Tree.{Name}
use Rattle.rules.specs.Names.{Text, same, is_var}
use Rattle.rules.specs.Tails.{Fun, parent, sibling}

-- a definition: name, parameters, number; the count of bindings and the level where it was defined; how it is seen
pub record Filter : Type 0 where
  pub name : Name
  pub params : List Name
  pub number : ℕ
  pub count : ℕ
  pub level : ℕ
  pub fun : Fun

pub data Row : Type 0 where
  var label arg : Name → Row
  filter : Filter → Row

abbrev pub Env : Type 0
Env = List Row

-- "each of these three kinds counts, a definition none"
abbrev pub count : Env → ℕ
count [] = zero
count (var x ∷ e) = suc (count e)
count (label x ∷ e) = suc (count e)
count (arg x ∷ e) = suc (count e)
count (filter d ∷ e) = count e

-- "Index of a variable, label or filter argument: bindings pushed after the match. Only the same kind matches". "innermost local"
abbrev pub find_var : Text → Env → Option ℕ
find_var x [] = none
find_var x (var y ∷ e) = cond (same x y.text) (some 0) (map suc (find_var x e))
find_var x (label y ∷ e) = map suc (find_var x e)
find_var x (arg y ∷ e) = map suc (find_var x e)
find_var x (filter d ∷ e) = find_var x e

-- "A break takes the innermost label of its name, else Label error."
abbrev pub find_label : Text → Env → Option ℕ
find_label x [] = none
find_label x (var y ∷ e) = map suc (find_label x e)
find_label x (label y ∷ e) = cond (same x y.text) (some 0) (map suc (find_label x e))
find_label x (arg y ∷ e) = map suc (find_label x e)
find_label x (filter d ∷ e) = find_label x e

-- the definitions that enclose this place: the parents in view
abbrev pub above : Fun → ℕ → ℕ
above parent l = suc l
above (sibling s) l = l

abbrev pub level : Env → ℕ
level [] = zero
level (var x ∷ e) = level e
level (label x ∷ e) = level e
level (arg x ∷ e) = level e
level (filter d ∷ e) = above d.fun (level e)

-- "Pattern variables go left to right, repeats included"
abbrev pub push_vars : List Name → Env → Env
push_vars [] e = e
push_vars (x ∷ xs) e = push_vars xs (var x ∷ e)

-- "Parameters push in order ..": "A name starting `$` is a variable only."
abbrev pub param : Name → Env → Env
param x e = cond (is_var x.text) (var x) (arg x) ∷ e

abbrev pub params : List Name → Env → Env
params [] e = e
params (x ∷ xs) e = params xs (param x e)

-- ".. then the filter itself, recorded at the count before its parameters."
abbrev pub filter_of : Name → List Name → ℕ → Env → Fun → Filter
filter_of f ps n e k = record { name = f; params = ps; number = n; count = count e; level = level e; fun = k }

-- what a definition's body sees, and what follows the definition
abbrev pub inside : Name → List Name → ℕ → Env → Env
inside f ps n e = filter (filter_of f ps n e parent) ∷ params ps e

-- the definitions among the rows
abbrev pub filters : Env → List Filter
filters [] = []
filters (var x ∷ e) = filters e
filters (label x ∷ e) = filters e
filters (arg x ∷ e) = filters e
filters (filter d ∷ e) = d ∷ filters e
