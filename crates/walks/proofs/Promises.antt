-- What a reader signs for: the third demand. "For any program accepted without errors: a reader that walks the tree by names and a reader that walks the table by
-- indices and skip counts make the same moves as often as they like and always stand at matching places with matching binding lists, and every variable or break
-- picks the same binding." The walks are defined in TreeWalk and TableWalk, what it is to stand together in Together, each under document 01's sentences.
use Rattle.std.specs.Prelude.{ℕ, zero, suc, ◌≤◌, ◌≡◌, refl, List, [], length, take}
use Rattle.std.proofs.Common.{arith, sym, ap, subst, ◌∙◌}
use Rattle.std.proofs.Math.Option.{Option, none, some}
use Rattle.std.proofs.Math.ListN.{get_elem?}
use Rattle.fields.specs.declared.Answer.{Answer}
use Rattle.fields.specs.Outcome.{listing}
use Rattle.tree.specs.Tree.{Term, Tree}
use Rattle.tree.specs.Form.{At, f_tree}
use Rattle.tree.specs.Verdict.{Encodes}
use Rattle.tree.specs.Encoded.{Bytes}
use Rattle.rules.specs.Tails.{Tail}
use Rattle.rules.specs.Rows.{Env}
use Rattle.rules.specs.Filters.{Top}
use Rattle.rules.specs.Rules.{term}
use Rattle.rules.specs.Modules.{compile}
use Rattle.rules.specs.Count.{inserted}
use Rattle.rules.specs.Listing.{term_listing, compiling}
use Rattle.rules.specs.Entry.{Compiles}
use Rattle.rules.specs.Slices.{Table}
use Rattle.walks.specs.Moves.{Move}
use Rattle.walks.specs.TreeWalk as ByName
use Rattle.walks.specs.TreeWalk.{View, Spot}
use Rattle.walks.specs.TableWalk as ByNumber
use Rattle.walks.specs.TableWalk.{Cells}
use Rattle.walks.specs.Together.{nodes_of, all_imported, all_globals, Alike, al_end, al_entry, al_filter, SamePick, Stand, Together, entries_of, cells_of, by_name, by_number}
use Rattle.walks.proofs.Match.{Match}
use Rattle.walks.proofs.Each.{Moved}
use Rattle.walks.proofs.Whole.{definitions, walks-match, walks-together}
use Rattle.walks.specs.Reader.{Listed, read_listing}
use Rattle.walks.proofs.ReadBack.{read_back}
use Rattle.walks.specs.Weights.{weigh}
use Rattle.walks.proofs.Fitting.{fits}
use Rattle.walks.specs.Accepted.{Accepted}
use Rattle.walks.proofs.Accepted.{tree-length, accepted}
use Rattle.walks.specs.Compiled.{Taken}
use Rattle.walks.proofs.Compiled.{taken}
use Rattle.walks.specs.Promises.{made, by_listing}

-- ---- the walks

-- After any moves, as many as you like and through recursive calls, the two walks stand together: `Stand` says that the places match, that the record is of the
-- field's form, that the lists match entry by entry, that what a name picks matches what the index picks and has that index among the walk's own entries, and that
-- every name means something. A move is there for both or for neither
pub together : (t : Tree) → (compile t).errs ≡ [] → (ms : List Move) → Together t (compile t).table (by_name t ms) (by_number t ms)
together t q ms = walks-together t q ms

pub same-moves : (t : Tree) → (compile t).errs ≡ [] → (ms : List Move) → made (by_name t ms) ≡ made (by_number t ms)
same-moves t q ms = go (by_name t ms) (by_number t ms) (together t q ms)
  where
    go : (s : Option ByName.State) (b : Option ByNumber.State) → Together t (compile t).table s b → made s ≡ made b
    go none none h = refl
    go none (some b) h = absurd h
    go (some s) none h = absurd h
    go (some s) (some b) h = refl

-- "always stand at matching places with matching binding lists, and every variable or break picks the same binding": a break or a variable picks an entry by its
-- name in the tree, which matches the entry that its index has in the table; so does a call of an argument
pub stand : (t : Tree) → (compile t).errs ≡ [] → (ms : List Move) (s : ByName.State) (b : ByNumber.State) → by_name t ms ≡ some s → by_number t ms ≡ some b
    → Stand t (compile t).table s b
stand t q ms s b x y =
    subst (λ (o : Option ByNumber.State). Together t (compile t).table (some s) o) y
    (subst (λ (o : Option ByName.State). Together t (compile t).table o (by_number t ms)) x (together t q ms))

-- "A term field matches the number that the rules give it.": where the walk by names stands at a term field, the record of the other walk's number is the one that
-- the rules insert for this term, in view of some rows
pub given : (t : Tree) → (compile t).errs ≡ [] → (ms : List Move) (u : Term) (v : View) (b : ByNumber.State) → by_name t ms ≡ some (ByName.here (Spot.at u) v)
    → by_number t ms ≡ some b → (c : Top) × (e : Env) × (n : ℕ) × (r : Tail) × (get_elem? (compile t).table b.at ≡ some (term c u e n r).self)
given t q ms u v b x y =
    let T : Table = (compile t).table in
    let s : ByName.State = ByName.here (Spot.at u) v in
    let h : Match t T (definitions t) s b =
    subst (λ (o : Option ByNumber.State). Moved t T (definitions t) (some s) o) y
    (subst (λ (o : Option ByName.State). Moved t T (definitions t) o (by_number t ms)) x (walks-match t q ms)) in
    (h.top, h.env, h.held.next, h.held.allowed, h.held.holds.self)

-- "matching binding lists": as many entries in both, and each matches the one of its index
pub entry-by-entry : (t : Tree) (T : Table) {v : View} {l : Cells} → Alike t T v l → (i : ℕ) → SamePick t T (get_elem? (entries_of v) i) (get_elem? (cells_of l) i)
entry-by-entry t T al_end i = tt
entry-by-entry t T (al_entry h g) zero = h
entry-by-entry t T (al_entry h g) (suc i) = entry-by-entry t T g i
entry-by-entry t T (al_filter g) i = entry-by-entry t T g i

-- what is listed is read back, for every tree of the length that is accepted
pub listing-read : (t : Tree) → weigh (f_tree t) ≤ 32768 → inserted t ≤ 4096
    → read_listing (term_listing 2 (compile t).main (compile t).table) ≡ record { main = (compile t).main; nodes = nodes_of (compile t).table }
listing-read t w i = let f = fits t w i in read_back (compile t).main (compile t).table f.1 f.0

-- For the bytes b of any tree whose outcome is a listing of terms, "accepted without errors": the walk in the bytes of this listing and the walk in the tree stand
-- together after any moves
pub together-in-bytes : (b : List ℕ) (t : Tree) → Bytes b → At b t → length b ≤ 32768 → (bytes : List ℕ) → compiling t ≡ listing 0 bytes → (ms : List Move)
    → Together t (compile t).table (by_name t ms) (by_listing bytes (length (all_imported t)) (length (all_globals t)) ms)
together-in-bytes b t s h l bytes q ms =
    let a : Accepted t bytes = accepted t bytes q in
    let w : weigh (f_tree t) ≤ 32768 = omega (arith, tree-length b t s h) in
    let read : read_listing bytes ≡ record { main = (compile t).main; nodes = nodes_of (compile t).table } = ap read_listing a.same ∙ listing-read t w a.few in
    let walk : Listed → Option ByNumber.State = λ o. ByNumber.walk o.nodes ms (some (ByNumber.start o.main (length (all_imported t)) (length (all_globals t)))) in
    subst (λ (o : Listed). Together t (compile t).table (by_name t ms) (walk o)) (sym read) (together t a.fine ms)

-- ---- the corollary: `compile`'s contract (crate compiler) is `Compiles`, bytes in and bytes out

-- Whatever bytes b and room d are lent: if the answer is 0, then b are the bytes of a tree, and the walk in the listing that stands in the room and the walk in
-- the tree stand together after any moves
pub together-compiled : (b d d' : List ℕ) (r : Answer) → Bytes b → Compiles b d d' r → r.number ≡ 0
    → (t : Tree) × Encodes b t × ((ms : List Move) → Together t (compile t).table (by_name t ms) (by_listing (take r.length d') (length (all_imported t)) (length (all_globals t)) ms))
together-compiled b d d' r s c e =
    let w : Taken b d' r = taken b d d' r c e in
    let t : Tree = w.tree in (
      t,
      w.encodes,
      λ ms.
          subst (λ (x : List ℕ). Together t (compile t).table (by_name t ms) (by_listing x (length (all_imported t)) (length (all_globals t)) ms)) (sym w.room)
          (together-in-bytes b t s w.encodes.at w.short w.bytes w.outcome ms),
    )
