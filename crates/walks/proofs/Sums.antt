-- The members of what the compiler supplies for strings and objects: sums of parts and entries, a part piped into the format, a key and a value, and the Path by
-- which a lone key reads itself. Assumes nothing.
use Prim.Native.Nat.{ℕ, suc, ◌+◌}
use native.Mathlib.Omega.{arith}
use Rattle.std.specs.Prelude.{◌≡◌}
use Rattle.std.proofs.Math.Path.{subst}
use Rattle.std.proofs.Math.Bool.{false}
use Rattle.std.proofs.Math.Option.{Option, none, some}
use mathlib.Core.List.{List, [], ◌∷◌, ◌++◌}
use Rattle.std.proofs.Math.ListN.{length, get_elem?}
use Rattle.tree.specs.Tree.{Tree, Term, OptTerm, no_term, a_term, StrParts, s_cons, StrPart, Entries, es_cons, Format}
use Rattle.rules.specs.Names.{Text}
use Rattle.rules.specs.Table.{Rec, n_id, n_str, n_math, n_path, n_pipe, n_obj_single, index}
use Rattle.rules.specs.Tails.{empty}
use Rattle.rules.specs.Rows.{Filter, Env}
use Rattle.rules.specs.Filters.{Top}
use Rattle.rules.specs.Outs.{Out, slot, size, leaf, sum_out, lone_out, var_name}
use Rattle.rules.specs.Rules as Rules
use Rattle.rules.specs.Rules.{term, strings, string}
use Rattle.rules.specs.Slices.{Table, Slice, slice-left, slice-right}
use Rattle.walks.specs.Moves.{Role}
use Rattle.walks.specs.TreeWalk as ByName
use Rattle.walks.specs.TreeWalk.{View, Spot, Leaf, stand, part_at, parts_at, entries_at, format_at, lone_members, entry_members, spot_members}
use Rattle.walks.specs.TableWalk.{Cells, here}
use Rattle.walks.specs.Together.{nodes_of}
use Rattle.walks.proofs.Holds.{nil-left, nil-right, node_at, Holds, Peeled, peel, only}
use Rattle.walks.proofs.Agree.{Agree}
use Rattle.walks.proofs.Match.{HeldShown, HeldParts, HeldSingle, HeldEntries, HeldReading, entry_out, Match, stands, at_part, at-parts, at-entries, at-format}
use Rattle.walks.proofs.Each.{as_member}
use Rattle.walks.proofs.Members.{Has}

-- a sum stands in the table: so do its sides
module _ (T : Table) (m : ℕ) (a o : Out) where
  abbrev left_at : ℕ
  left_at = m + length a.more + length o.more

  record Summed (n : ℕ) : Type 0 where
    left : Holds T left_at m a
    right : Holds T (suc left_at) (m + length a.more) o
    node : get_elem? (nodes_of T) n ≡ some (n_math left_at 0 (suc left_at))

  summed : (p n : ℕ) → Holds T n m (sum_out p m a (some o)) → Summed n
  unfolding sum_out
  summed p n h =
      let two : List Rec = a.self ∷ o.self ∷ [] in
      let k : ℕ = m + length a.more in
      let s : Slice T k (o.more ++ two) = slice-right T m a.more (o.more ++ two) h.more in
      let s₂ : Slice T left_at two = slice-right T k o.more two s in
      record {
        left = record { self = s₂.0; more = slice-left T m a.more (o.more ++ two) h.more; fine = nil-left a.errs o.errs h.fine };
        right = record { self = s₂.1.0; more = slice-left T k o.more two s; fine = nil-right a.errs o.errs h.fine };
        node = node_at T n (record { place = p; node = n_math left_at 0 (suc left_at) }) h.self;
      }

module _ (whole : Tree) (T : Table) (D : List (List Filter)) where
  -- ---- strings

  pub shown-members : (p n : ℕ) (f : Format) (t : Term) (c : Top) (e : Env) (v : View) (l : Cells) → HeldShown T c e p f t n → Agree whole T D c e v l
      → Has whole T D (spot_members (Spot.shown p f t) v) n l
  shown-members p n f t c e v l h g =
      let m : ℕ = h.part in
      let φ : ℕ = h.shared in
      rw (node_at T n (record { place = p; node = n_pipe m none φ }) h.self) (
        as_member whole T D Role.left 0 (stand t v) (here m l) (stands whole T D t m (suc m) c e empty v l h.member g),
        (as_member whole T D Role.right 0 (format_at p f v) (here φ l) (at-format whole T D f p φ c e v l h.format g), tt),
      )

  pub parts-members : (p n : ℕ) (f : Format) (x y : StrPart) (ss : StrParts) (c : Top) (e : Env) (v : View) (l : Cells) → HeldParts T c e p f x (s_cons y ss) n
      → Agree whole T D c e v l → Has whole T D (spot_members (Spot.parts p f x (s_cons y ss)) v) n l
  unfolding term
  parts-members p n f x y ss c e v l h g =
      let m : ℕ = h.next in
      let φ : ℕ = h.shared in
      let a : Out = string c x p φ e m in
      let k : ℕ = m + length a.more in
      let b : Out = string c y p φ e k in
      let o : Out = sum_out p k b (strings c ss p φ e (k + length b.more)) in
      let w : Summed T m a o n = summed T m a o p n h.holds in
      let i : ℕ = left_at T m a o in
      rw w.node (
        as_member whole T D Role.left 0 (part_at p f x v) (here i l) (at_part whole T D x p φ i m f c e v l w.left h.format g),
        (as_member whole T D Role.right 0 (parts_at p f (s_cons y ss) v) (here (suc i) l) (at-parts whole T D (s_cons y ss) p φ (suc i) k f c e v l w.right h.format g), tt),
      )

  -- ---- objects

  pub entries-members : (p n : ℕ) (t : Term) (o : OptTerm) (q' : ℕ) (t' : Term) (o' : OptTerm) (es : Entries) (c : Top) (e : Env) (v : View) (l : Cells)
      → HeldEntries T c e p t o (es_cons q' t' o' es) n → Agree whole T D c e v l → Has whole T D (spot_members (Spot.entries p t o (es_cons q' t' o' es)) v) n l
  unfolding term
  entries-members p n t o q' t' o' es c e v l h g =
      let m : ℕ = h.next in
      let a : Out = entry_out T c e p t o m in
      let k : ℕ = m + length a.more in
      let b : Out = entry_out T c e p t' o' k in
      let u : Out = sum_out p k b (Rules.entries c es p e (k + length b.more)) in
      let w : Summed T m a u n = summed T m a u p n h.holds in
      let i : ℕ = left_at T m a u in
      let first : Match whole T D (ByName.here (Spot.single p t o) v) (here i l) = record { top = c; env = e; held = record { next = m; holds = w.left }; agree = g } in
      rw w.node (
        as_member whole T D Role.left 0 (ByName.here (Spot.single p t o) v) (here i l) first,
        (
          as_member whole T D Role.right 0 (entries_at p (es_cons q' t' o' es) v) (here (suc i) l)
              (at-entries whole T D (es_cons q' t' o' es) p (suc i) k c e v l w.right g),
          tt,
        ),
      )

  lone-members : (p n m : ℕ) (t : Term) (x : Option Text) (c : Top) (e : Env) (v : View) (l : Cells)
      → Holds T n m (lone_out p m (term c t e (suc m) empty) (term c t e (suc (suc m)) empty) x) → Agree whole T D c e v l
      → Has whole T D (lone_members p t x v) n l
  unfolding lone_out
  lone-members p n m t (some x) c e v l h g =
      let a : Out = leaf p (n_str x) in
      let b : Out = term c t e (suc (suc m)) empty in
      let z : suc m ≡ m + size a = omega arith in
      let s : Peeled T m a (slot b) b.errs = peel T m a (slot b) b.errs h.more h.fine in
      let s₂ : Holds T (suc m) (suc (suc m)) b = only T (suc m) b h.more.1 s.fine in
      let value : Match whole T D (stand t v) (here (m + size a) l) =
      subst (λ (k : ℕ). Match whole T D (stand t v) (here k l)) z (stands whole T D t (suc m) (suc (suc m)) c e empty v l s₂ g) in
      let key : Match whole T D (ByName.here (Spot.leaf p (Leaf.text x)) v) (here m l) = record { top = c; env = e; held = h.more.0; agree = g } in
      rw (node_at T n (record { place = p; node = n_obj_single m (m + size a) }) h.self) (
        as_member whole T D Role.name 0 (ByName.here (Spot.leaf p (Leaf.text x)) v) (here m l) key,
        (as_member whole T D Role.value 0 (stand t v) (here (m + size a) l) value, tt),
      )
  lone-members p n m t none c e v l h g =
      let a : Out = term c t e (suc m) empty in
      let k : ℕ = m + size a in
      let rs : List Rec = record { place = p; node = n_id } ∷ record { place = p; node = n_path k (index m false ∷ []) } ∷ [] in
      let s : Slice T m (slot a) = slice-left T m (slot a) rs h.more in
      let s₂ : Slice T k rs = slice-right T m (slot a) rs h.more in
      let held : Holds T m (suc m) a = only T m a s h.fine in
      let value : Match whole T D (ByName.here (Spot.reading p t) v) (here (suc k) l) =
      record { top = c; env = e; held = record { origin = k; key = m; self = s₂.1.0; identity = s₂.0; member = held }; agree = g } in
      rw (node_at T n (record { place = p; node = n_obj_single m (suc k) }) h.self) (
        as_member whole T D Role.name 0 (stand t v) (here m l) (stands whole T D t m (suc m) c e empty v l held g),
        (as_member whole T D Role.value 0 (ByName.here (Spot.reading p t) v) (here (suc k) l) value, tt),
      )

  pub single-members : (p n : ℕ) (t : Term) (o : OptTerm) (c : Top) (e : Env) (v : View) (l : Cells) → HeldSingle T c e p t o n → Agree whole T D c e v l
      → Has whole T D (entry_members p t o v) n l
  unfolding term
  single-members p n t no_term c e v l h g = lone-members p n h.next t (var_name t) c e v l h.holds g
  single-members p n t (a_term u) c e v l h g =
      let m : ℕ = h.next in
      let a : Out = term c t e (suc m) empty in
      let k : ℕ = m + size a in
      let b : Out = term c u e (suc k) empty in
      let s : Peeled T m a (slot b) b.errs = peel T m a (slot b) b.errs h.holds.more h.holds.fine in
      rw (node_at T n (record { place = p; node = n_obj_single m k }) h.holds.self) (
        as_member whole T D Role.name 0 (stand t v) (here m l) (stands whole T D t m (suc m) c e empty v l s.first g),
        (as_member whole T D Role.value 0 (stand u v) (here k l) (stands whole T D u k (suc k) c e empty v l (only T k b s.rest s.fine) g), tt),
      )

  pub reading-members : (p n : ℕ) (t : Term) (c : Top) (e : Env) (v : View) (l : Cells) → HeldReading T c e p t n → Agree whole T D c e v l
      → Has whole T D (spot_members (Spot.reading p t) v) n l
  reading-members p n t c e v l h g =
      let k : ℕ = h.origin in
      let i : ℕ = h.key in
      let identity : Match whole T D (ByName.here (Spot.leaf p Leaf.identity) v) (here k l) = record { top = c; env = e; held = h.identity; agree = g } in
      rw (node_at T n (record { place = p; node = n_path k (index i false ∷ []) }) h.self) (
        as_member whole T D Role.subject 0 (ByName.here (Spot.leaf p Leaf.identity) v) (here k l) identity,
        (as_member whole T D Role.index 0 (stand t v) (here i l) (stands whole T D t i (suc i) c e empty v l h.member g), tt),
      )
