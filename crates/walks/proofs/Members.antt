-- The members of each form of term, and of what the compiler supplies: both walks have the same, and stand in matching states in each. Assumes nothing.
use Rattle.std.specs.Prelude.{ℕ, ◌≡◌, length}
use Rattle.std.proofs.Common.{arith, ◌∙◌}
use Rattle.std.proofs.Math.Option.{Option, none, some}
use mathlib.Core.List.{List, []}
use Rattle.std.proofs.Math.ListN.{get_elem?}
use Rattle.tree.specs.Tree.{Name, Tree, Terms, ts_nil, ts_cons, Operator, o_comma, o_alt, o_or, o_and, o_assign, o_update, o_update_alt, o_math, o_update_math, o_cmp, o_none}
use Rattle.rules.specs.Table.{Err}
use Rattle.rules.specs.Tails.{Tail}
use Rattle.rules.specs.Rows.{Filter, Env, count}
use Rattle.rules.specs.Filters.{Top, Found}
use Rattle.rules.specs.Outs.{binds, var_out, call_out, binary, arity}
use Rattle.rules.specs.Rules.{args}
use Rattle.rules.specs.Slices.{Table, Slice}
use Rattle.walks.specs.Moves.{Role, Member, ranked}
use Rattle.walks.specs.TreeWalk as ByName
use Rattle.walks.specs.TreeWalk.{View, Leaf, Seen, arguments, operands}
use Rattle.walks.specs.TableWalk as ByNumber
use Rattle.walks.specs.TableWalk.{Cells, here, at_each}
use Rattle.walks.specs.Together.{nodes_of, entries_of}
use Rattle.walks.proofs.Holds.{has-error, node_at, Holds}
use Rattle.walks.proofs.Agree.{Agree, Same, s_nothing, s_argument, s_local, s_module, s_native}
use Rattle.walks.proofs.Match.{leaf_node, Match}
use Rattle.walks.proofs.Each.{numbers-bound, args-arity, Each, as_member, each-ranked, both-args}

module _ (whole : Tree) (T : Table) (D : List (List Filter)) where
  -- the members that the table walk has
  abbrev pub Has : List (Member ByName.State) → ℕ → Cells → Type 0
  Has ss n l = Each whole T D ss (ByNumber.members (nodes_of T) (here n l))

  -- a record without members
  pub leaf-members : (n : ℕ) (l : Cells) (a : Leaf) → get_elem? (nodes_of T) n ≡ some (leaf_node a) → Has [] n l
  leaf-members n l Leaf.identity q = rw q tt
  leaf-members n l Leaf.to_string q = rw q tt
  leaf-members n l (Leaf.number i) q = rw q tt
  leaf-members n l (Leaf.text x) q = rw q tt
  leaf-members n l Leaf.empty_obj q = rw q tt

  pub var-members : (n m p : ℕ) (x : Err) (l : Cells) (o : Option ℕ) → Holds T n m (var_out p x o) → Has [] n l
  unfolding var_out
  var-members n m p x l none h = absurd (has-error [] x h.fine)
  var-members n m p x l (some i) h = rw (node_at T n _ h.self) tt

  -- ---- calls

  no_arguments : (ts : Terms) (v : View) → arity ts ≡ 0 → Each whole T D (ranked Role.argument 0 (arguments ts v)) []
  no_arguments ts_nil v q = tt
  no_arguments (ts_cons t ts) v q = absurd (omega arith)

  -- the arguments, by the numbers that the record has
  arguments-each : (ts : Terms) (ps : List Name) (m : ℕ) (c : Top) (e : Env) (v : View) (l : Cells) → arity ts ≡ length ps
      → Slice T m (args c ts e m).more → (args c ts e m).errs ≡ [] → Agree whole T D c e v l
      → Each whole T D (ranked Role.argument 0 (arguments ts v)) (ranked Role.argument 0 (at_each (ByNumber.arg_numbers (binds ps (args c ts e m).made)) l))
  arguments-each ts ps m c e v l z s f g =
      let ns : List ℕ = (args c ts e m).made in
      rw (numbers-bound ps ns (args-arity c ts e m ∙ z)) (each-ranked whole T D Role.argument 0 (arguments ts v) (at_each ns l) (both-args whole T D ts m c e v l s f g))

  pub call-members : (ts : Terms) (n m p : ℕ) (x : Err) (r : Tail) (c : Top) (e : Env) (v : View) (l : Cells) {F : Found} {S : Seen} → Same whole T D (entries_of v) (arity ts) (count e) l F S
      → Holds T n m (call_out p (count e) r (args c ts e m) x F) → Agree whole T D c e v l → Has (ranked Role.argument 0 (arguments ts v)) n l
  unfolding call_out
  call-members ts n m p x r c e v l s_nothing h g = absurd (has-error (args c ts e m).errs x h.fine)
  call-members ts n m p x r c e v l (s_argument r' z y q h' g') h g = rw (node_at T n _ h.self) (no_arguments ts v z)
  call-members ts n m p x r c e v l (s_local d r' z b h' g') h g = rw (node_at T n _ h.self) (arguments-each ts d.params m c e v l z h.more h.fine g)
  call-members ts n m p x r c e v l (s_module d r' z h' g') h g = rw (node_at T n _ h.self) (arguments-each ts d.params m c e v l z h.more h.fine g)
  call-members ts n m p x r c e v l (s_native {ps = ps} z) h g = rw (node_at T n _ h.self) (arguments-each ts ps m c e v l z h.more h.fine g)

  -- ---- operators

  pub operator-members : (o : Operator) (n a b : ℕ) (l : Cells) (s u : ByName.State) → get_elem? (nodes_of T) n ≡ some (binary o a b)
      → Match whole T D s (here a l) → Match whole T D u (here b l) → Has (operands o s u) n l
  operator-members o_comma n a b l s u q h k = rw q (as_member whole T D Role.left 0 s (here a l) h, (as_member whole T D Role.right 0 u (here b l) k, tt))
  operator-members o_alt n a b l s u q h k = rw q (as_member whole T D Role.left 0 s (here a l) h, (as_member whole T D Role.right 0 u (here b l) k, tt))
  operator-members o_or n a b l s u q h k = rw q (as_member whole T D Role.left 0 s (here a l) h, (as_member whole T D Role.right 0 u (here b l) k, tt))
  operator-members o_and n a b l s u q h k = rw q (as_member whole T D Role.left 0 s (here a l) h, (as_member whole T D Role.right 0 u (here b l) k, tt))
  operator-members o_assign n a b l s u q h k = rw q (as_member whole T D Role.left 0 s (here a l) h, (as_member whole T D Role.right 0 u (here b l) k, tt))
  operator-members o_update n a b l s u q h k = rw q (as_member whole T D Role.left 0 s (here a l) h, (as_member whole T D Role.right 0 u (here b l) k, tt))
  operator-members o_update_alt n a b l s u q h k = rw q (as_member whole T D Role.left 0 s (here a l) h, (as_member whole T D Role.right 0 u (here b l) k, tt))
  operator-members (o_math i) n a b l s u q h k = rw q (as_member whole T D Role.left 0 s (here a l) h, (as_member whole T D Role.right 0 u (here b l) k, tt))
  operator-members (o_update_math i) n a b l s u q h k = rw q (as_member whole T D Role.left 0 s (here a l) h, (as_member whole T D Role.right 0 u (here b l) k, tt))
  operator-members (o_cmp i) n a b l s u q h k = rw q (as_member whole T D Role.left 0 s (here a l) h, (as_member whole T D Role.right 0 u (here b l) k, tt))
  operator-members o_none n a b l s u q h k = rw q tt
