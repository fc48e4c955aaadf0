-- Objects: entries, rows of entries, and their sum. Assumes nothing.
use Rattle.std.specs.Prelude.{ℕ, suc, ◌+◌, ◌-◌, ◌*◌, ◌^◌, ◌≤◌, ◌<◌, ◌≡◌, refl, true, false, List, [], ◌∷◌, ◌++◌, map, length, get_or, drop}
use Rattle.std.proofs.Common.{arith, sym, ap, ap₂, subst, ◌∙◌, append-nil, length-append, length-drop}
use Rattle.std.proofs.Math.Option.{Option, none, some}
use Rattle.std.proofs.lemmas.List.{length-map}
use Rattle.fields.specs.Number.{number}
use Rattle.fields.specs.Field.{field, length-field}
use Rattle.fields.specs.Room.{overlay}
use Rattle.tree.specs.Rose.{end_of, text_of, rnil, At, Row, row-le}
use Rattle.tree.specs.Leaf.{shape, leaf_ok}
use Rattle.tree.specs.Table.{shapes}
use Rattle.tree.proofs.Match.{not-both}
use Rattle.tree.specs.Tree.{text_place, Term, OptTerm, no_term, a_term, Entries, es_nil, es_cons, t_obj, t_var}
use Rattle.tree.specs.Tree.{t_id, t_recurse, t_arr, t_neg, t_label, t_break, t_if_then_else, t_call, t_def, t_num, t_try_catch, t_fold, t_pipe, t_bin_op, t_path, t_str}
use Rattle.tree.specs.Form.{f_term, f_opt_term, f_entries}
use Rattle.rules.specs.Table.{Rec, Node, n_id, n_str, n_path, n_obj_single, n_obj_empty, index, Err, u_var}
use Rattle.rules.specs.Names.{Text}
use Rattle.rules.specs.Tails.{empty}
use Rattle.rules.specs.Filters.{Top, error_at, variable}
use Rattle.rules.specs.Rows.{Env}
use Rattle.rules.specs.Outs.{Out, slot, size, var_out, var_name, lone_out, sum_out, sum_or}
use Rattle.rules.specs.Listing.{node_bytes, rec_bytes, table_bytes, step_bytes, steps_bytes}
use Rattle.rules.specs.Rules.{term, entry, entries}
use Rattle.reads.specs.Bytes.{TermAt}
use Rattle.reads.specs.Widths.{entries_width}
use Rattle.reads.specs.Lengths.{own-obj, one-length, two-length}
use Rattle.reads.specs.Parts.{term-tagged}
use Rattle.reads.specs.Shapes.{EntryAt, ObjAt, LeafAt, on-obj, on-var, on-entries-cons, on-entries-nil, on-some-term, on-no-term, text-length}
use Rattle.puts.specs.declared.state.State.{State}
use Rattle.puts.specs.State.{num, off, start_of, Put, with_num, with_off}
use Rattle.puts.specs.Rooms.{put-none, put_then, put_one, table-append, start-high, placed-within}
use Rattle.cells.specs.Cells.{View, Seen, env_of, noted, number_at, last_at}
use Rattle.cells.specs.Notes.{entries_of, held, held_errs, entry_nodes, summed}
use Rattle.cells.specs.Flat.{nodes_of}
use Rattle.records.specs.Sums.{sizes, EntryNotes, Summands, entry-summands, SumReady, SumPut}
use Rattle.compiler.specs.Post.{Ready, Stands, Placed, Laid, Did, Entered}
use Rattle.compiler.specs.Pieces.{EntryIs, LoneIs}
use Rattle.compiler.specs.Common.{off-num, off-ers, off-off, Made, did_of, bare-long}
use Rattle.compiler.specs.Moves.{set_both, keeps, kept_less, paid-less, paid-then, paid-wider, ready-part, ready-start, laid_as}
use Rattle.compiler.specs.FormsC.Noting.{Noting, noting, note-room, note-few, ready-next, ready-noted, seen-then, paid-noted, number-kept, last-kept, kind-kept}
use Rattle.compiler.specs.FormsC.Sums.{entry_out, entries-flat, summed-size, summed-count, sum-state, sum-own}

-- ---- an entry with a value

-- some entry stands at q
abbrev pub EntryHere : List ℕ → ℕ → Type 0
EntryHere b q = (t : Term) × (v : OptTerm) × EntryAt b q t v

-- where its key ends
pub entry-mid : (b : List ℕ) (q : ℕ) → EntryHere b q → end_of b (q + 3) ≤ end_of b q
entry-mid b q g = row-le b (f_opt_term g.1 rnil) (end_of b (q + 3)) (end_of b q) g.2.value

pub entry_key : (b s : List ℕ) (k q : ℕ) (st : State) → Ready b s k q (end_of b q) st → EntryHere b q → Ready b s k (q + 3) (end_of b (q + 3)) st × Stands b (q + 3)
entry_key b s k q st y g = (ready-part b s k q (q + 3) (end_of b q) (end_of b (q + 3)) st y (omega arith) (omega arith) (entry-mid b q g), (g.0, g.2.key))

pub entry-noted : (b s s₁ s₂ : List ℕ) (k q a z : ℕ) (st st₁ : State) (d d₁ : List ℕ) (r : ℕ) → Ready b s k q (end_of b q) st → EntryHere b q → a ≡ num st → Laid b (q + 3) s s₁ k st st₁ d d₁ 0 r → s₂ ≡ noted s₁ k 6 a z
    → Noting b s₁ s₂ k 6 a z
entry-noted b s s₁ s₂ k q a z st st₁ d d₁ r y g a₀ m f =
    noting b s₁ s₂ k 6 a z (omega (arith, note-room b s k q (end_of b q) st y (omega arith), m.paid.same))
    (omega (arith, a₀, note-few b s k q (end_of b q) st y (omega arith))) (omega arith) (omega arith) f

pub entry_value : (b s s₁ s₂ : List ℕ) (k q a z : ℕ) (st st₁ : State) (d d₁ : List ℕ) (r : ℕ) → Ready b s k q (end_of b q) st → EntryHere b q → end_of b (q + 3) < end_of b q → Laid b (q + 3) s s₁ k st st₁ d d₁ 0 r → Noting b s₁ s₂ k 6 a z
    → Ready b s₂ (k + 1) (end_of b (q + 3)) (end_of b (end_of b (q + 3))) st₁ × Stands b (end_of b (q + 3))
entry_value b s s₁ s₂ k q a z st st₁ d d₁ r y g l m n =
    let v = ready-noted b s s₁ s₂ k q (q + 3 + 1) (end_of b (q + 3)) (end_of b q) 6 a z st st₁ y (omega arith) (omega arith) (omega arith) (omega (arith, l)) m.paid n in
    on-some-term b (end_of b (q + 3)) (end_of b q) (λ _. Ready b s₂ (k + 1) (end_of b (q + 3)) (end_of b (end_of b (q + 3))) st₁ × Stands b (end_of b (q + 3))) l
    (λ t h i. (ready-part b s₂ (k + 1) (end_of b (q + 3)) (end_of b (q + 3)) (end_of b q) (end_of b (end_of b (q + 3))) st₁ v (omega arith) (omega arith) (omega (arith, i)), (t, h))) g.1 g.2.value

pub pair_is : (b : List ℕ) (q : ℕ) (s s₁ s₂ s₃ : List ℕ) (k a z : ℕ) (st st₁ st₂ : State) (d d₁ d₂ : List ℕ) (r r₁ : ℕ) → end_of b (q + 3) < end_of b q → EntryHere b q → a ≡ num st → z ≡ num st₁
    → Laid b (q + 3) s s₁ k st st₁ d d₁ 0 r → Noting b s₁ s₂ k 6 a z → Laid b (end_of b (q + 3)) s₂ s₃ (k + 1) st₁ st₂ d₁ d₂ 0 r₁ → EntryIs b q s s₃ k st st₂ d d₂
unfolding term
pair_is b q s s₁ s₂ s₃ k a z st st₁ st₂ d d₁ d₂ r r₁ l g a₀ z₀ m n c =
    record {
      is = λ vw v t o p h. on-some-term b (end_of b (q + 3)) (end_of b q)
          (λ (o : OptTerm). let x = entry_out vw.top t o p (env_of vw b s k) (num st) in Put x.more x.errs st st₂ d d₂ × (n_obj_single (number_at s₃ k) (last_at s₃ k) ≡ x.self.node)) l (is vw v t p h.key) o h.value;
      kind = kind-kept k s₂ s₃ c.paid.kept ∙ n.kinds;
      seen = λ vw v.
          let w = seen-then b s s₁ s₂ k (q + 3 + 1) (end_of b (q + 3)) 6 a z st st₁ m.paid n vw v in
          let u = keeps b s₂ s₃ (k + 1) (end_of b (q + 3) + 1) (end_of b (end_of b (q + 3))) st₁ st₂ c.paid vw w.0 in
          (u.0, u.1 ∙ w.1);
      paid =
          paid-wider (q + 1) (q + 3 + 1) (end_of b (end_of b (q + 3))) (end_of b q) k s s₃ st st₂ (omega arith) (omega (arith, end))
          (paid-then (q + 3 + 1) (end_of b (q + 3)) (end_of b (q + 3) + 1) (end_of b (end_of b (q + 3))) k s s₂ s₃ st st₁ st₂ (omega arith)
          (paid-noted b s s₁ s₂ k (q + 3 + 1) (end_of b (q + 3)) 6 a z st st₁ m.paid n)
          (paid-less (end_of b (q + 3) + 1) (end_of b (end_of b (q + 3))) k (k + 1) s₂ s₃ st₁ st₂ (omega arith) c.paid));
    }
  where
    end : end_of b (end_of b (q + 3)) ≡ end_of b q
    end = on-some-term b (end_of b (q + 3)) (end_of b q) (λ _. end_of b (end_of b (q + 3)) ≡ end_of b q) l (λ t h i. i) g.1 g.2.value

    is : (vw : View) → Seen vw b s k → (t : Term) (p : ℕ) → TermAt b t (q + 3) → (u : Term) → TermAt b u (end_of b (q + 3)) → end_of b (end_of b (q + 3)) ≡ end_of b q
        → let x = entry_out vw.top t (a_term u) p (env_of vw b s k) (num st) in Put x.more x.errs st st₂ d d₂ × (n_obj_single (number_at s₃ k) (last_at s₃ k) ≡ x.self.node)
    is vw v t p h u i j =
        let E = env_of vw b s k in
        let A = term vw.top t E (suc (num st)) empty in
        let B = term vw.top u E (suc (num st + size A)) empty in
        let w = seen-then b s s₁ s₂ k (q + 3 + 1) (end_of b (q + 3)) 6 a z st st₁ m.paid n vw v in
        let P = (m.is vw v t h).0 in
        let Q : Put (slot B) B.errs st₁ st₂ d₁ d₂ = (laid_as b (end_of b (q + 3)) s₂ s₃ (k + 1) st₁ st₂ d₁ d₂ 0 r₁ vw E (num st + size A) u c w.0 w.1 P.nums i).0 in (
          put_then (slot A) (slot B) A.errs B.errs st st₁ st₂ d d₁ d₂ P Q,
          ap₂ (λ (x : ℕ) (y : ℕ). n_obj_single x y) (number-kept k s₂ s₃ c.paid.kept ∙ n.number ∙ a₀) (last-kept k s₂ s₃ c.paid.kept ∙ n.last ∙ z₀ ∙ P.nums),
        )

-- the same, v being where the value starts
pub entry-value-at : (b s s₁ s₂ : List ℕ) (k q a z v : ℕ) (st st₁ : State) (d d₁ : List ℕ) (r : ℕ) → v ≡ end_of b (q + 3) → v < end_of b q → Ready b s k q (end_of b q) st → EntryHere b q → a ≡ num st
    → Laid b (q + 3) s s₁ k st st₁ d d₁ 0 r → s₂ ≡ noted s₁ k 6 a z → Ready b s₂ (k + 1) v (end_of b v) st₁ × Stands b v
entry-value-at b s s₁ s₂ k q a z v st st₁ d d₁ r v₀ l y g a₀ m f =
    subst (λ (v : ℕ). Ready b s₂ (k + 1) v (end_of b v) st₁ × Stands b v) (sym v₀)
    (entry_value b s s₁ s₂ k q a z st st₁ d d₁ r y g (omega (arith, l, v₀)) m (entry-noted b s s₁ s₂ k q a z st st₁ d d₁ r y g a₀ m f))

pub pair-done : (b : List ℕ) (q : ℕ) (s s₁ s₂ s₃ : List ℕ) (k a z v : ℕ) (st st₁ st₂ : State) (d d₁ d₂ : List ℕ) (r r₁ : ℕ) → v ≡ end_of b (q + 3) → v < end_of b q → Ready b s k q (end_of b q) st → EntryHere b q → a ≡ num st → z ≡ num st₁
    → Laid b (q + 3) s s₁ k st st₁ d d₁ 0 r → s₂ ≡ noted s₁ k 6 a z → Laid b v s₂ s₃ (k + 1) st₁ st₂ d₁ d₂ 0 r₁ → EntryIs b q s s₃ k st st₂ d d₂
pair-done b q s s₁ s₂ s₃ k a z v st st₁ st₂ d d₁ d₂ r r₁ v₀ l y g a₀ z₀ m f c =
    pair_is b q s s₁ s₂ s₃ k a z st st₁ st₂ d d₁ d₂ r r₁ (omega (arith, l, v₀)) g a₀ z₀ m (entry-noted b s s₁ s₂ k q a z st st₁ d d₁ r y g a₀ m f) (subst (λ (v : ℕ). Laid b v s₂ s₃ (k + 1) st₁ st₂ d₁ d₂ 0 r₁) v₀ c)

-- ---- a key that stands alone

pub entry-alone : (b : List ℕ) (q : ℕ) → end_of b q ≤ end_of b (q + 3) → EntryHere b q → end_of b (q + 3) ≡ end_of b q
entry-alone b q l g = on-no-term b (end_of b (q + 3)) (end_of b q) (λ _. end_of b (q + 3) ≡ end_of b q) l (λ e. e) g.1 g.2.value

pub lone-entry : (b : List ℕ) (q : ℕ) (s s' : List ℕ) (k : ℕ) (st st' : State) (d d' : List ℕ) → end_of b q ≤ end_of b (q + 3) → EntryHere b q → LoneIs b (q + 3) s s' k st st' d d' → EntryIs b q s s' k st st' d d'
unfolding term
lone-entry b q s s' k st st' d d' l g a =
    record {
      is = λ vw v t o p h. on-no-term b (end_of b (q + 3)) (end_of b q)
          (λ (o : OptTerm). let x = entry_out vw.top t o p (env_of vw b s k) (num st) in Put x.more x.errs st st' d d' × (n_obj_single (number_at s' k) (last_at s' k) ≡ x.self.node)) l (λ e. a.is vw v t p h.key) o h.value;
      kind = a.kind;
      seen = a.seen;
      paid = paid-wider (q + 1) (q + 3) (end_of b (q + 3)) (end_of b q) k s s' st st' (omega arith) (omega (arith, entry-alone b q l g)) a.paid;
    }

-- a key that is no variable
pub no_name : (b : List ℕ) (p : ℕ) (P : Option Text → Type 0) → (get_or b p 0 ≡ 0xA7 → ⊥) → P none → (t : Term) → TermAt b t p → P (var_name t)
unfolding f_term
no_name b p P n f (t_id i) h = f
no_name b p P n f (t_recurse i) h = f
no_name b p P n f (t_arr i o) h = f
no_name b p P n f (t_neg i t) h = f
no_name b p P n f (t_label i x t) h = f
no_name b p P n f (t_break i x) h = f
no_name b p P n f (t_if_then_else i q c t bs) h = f
no_name b p P n f (t_var i x) h = absurd (n (term-tagged b (t_var i x) p h))
no_name b p P n f (t_call i x ts) h = f
no_name b p P n f (t_def i ds t) h = f
no_name b p P n f (t_num i x) h = f
no_name b p P n f (t_try_catch i t o) h = f
no_name b p P n f (t_fold i x t y ts) h = f
no_name b p P n f (t_pipe i t q x u) h = f
no_name b p P n f (t_bin_op i t q x u) h = f
no_name b p P n f (t_path i t ps) h = f
no_name b p P n f (t_str i x ps) h = f
no_name b p P n f (t_obj i es) h = f

pub key-noted : (b s s₁ s₂ : List ℕ) (k p a z : ℕ) (st : State) → Ready b s k p (end_of b p) st → a ≡ num st → length s₁ ≡ length s → s₂ ≡ noted s₁ k 6 a z → Noting b s₁ s₂ k 6 a z
key-noted b s s₁ s₂ k p a z st y a₀ l f =
    noting b s₁ s₂ k 6 a z (omega (arith, note-room b s k p (end_of b p) st y (omega arith), l)) (omega (arith, a₀, note-few b s k p (end_of b p) st y (omega arith))) (omega arith) (omega arith) f

own-path-long : (c a : ℕ) → 11 ≡ length (node_bytes 2 (n_path c (index a false ∷ [])))
unfolding field number steps_bytes step_bytes
own-path-long c a = refl

-- "other lone keys read themselves from Id: key, Id, then a Path, not optional"
pub key-is : (b : List ℕ) (p : ℕ) (s s₁ s₂ : List ℕ) (k a c x y : ℕ) (st st₁ st₂ st₃ : State) (d d₁ d₂ d₃ : List ℕ) (r : ℕ) → (get_or b p 0 ≡ 0xA7 → ⊥) → Ready b s k p (end_of b p) st → a ≡ num st
    → Laid b p s s₁ k st st₁ d d₁ 0 r → c ≡ num st₁
    → x ≡ off st₁ → st₂ ≡ with_off (with_num st₁ (num st₁ + 1)) (off st₁ + 3) → d₂ ≡ overlay d₁ x (field 0x50 [])
    → y ≡ off st₂ → st₃ ≡ with_off (with_num st₂ (num st₂ + 1)) (off st₂ + 11) → d₃ ≡ overlay d₂ y (node_bytes 2 (n_path c (index a false ∷ [])))
    → s₂ ≡ noted s₁ k 6 a (c + 1) → LoneIs b p s s₂ k st st₃ d d₃
unfolding lone_out
key-is b p s s₁ s₂ k a c x y st st₁ st₂ st₃ d d₁ d₂ d₃ r e rd a₀ m c₀ x₀ f i y₀ f₂ j note =
    record {
      is = λ vw v t at h.
          let E = env_of vw b s k in
          no_name b p (λ (X : Option Text). let o = lone_out at (num st) (term vw.top t E (suc (num st)) empty) (term vw.top t E (suc (suc (num st))) empty) X in Put o.more o.errs st st₃ d d₃ × (n_obj_single (number_at s₂ k) (last_at s₂ k) ≡ o.self.node)) e
          (is vw v t at h) t h;
      kind = n.kinds;
      seen = seen-then b s s₁ s₂ k (p + 1) (end_of b p) 6 a (c + 1) st st₁ m.paid n;
      paid =
          record {
            kept = n.kept ∙ m.paid.kept;
            same = n.same ∙ m.paid.same;
            nums = omega (arith, m.paid.nums, (id 0).nums, (own 0).nums);
            offs = omega (arith, m.paid.offs, (id 0).offs, (own 0).offs, id-long, own-long);
            errs = omega (arith, m.paid.errs, (id 0).errs, (own 0).errs);
          };
    }
  where
    n : Noting b s₁ s₂ k 6 a (c + 1)
    n = key-noted b s s₁ s₂ k p a (c + 1) st rd a₀ m.paid.same note

    id : (at : ℕ) → Put (record { place = at; node = n_id } ∷ []) [] st₁ st₂ d₁ d₂
    id at = put_one (record { place = at; node = n_id }) 3 x st₁ st₂ d₁ d₂ (bare-long 0x50) x₀ f i

    own : (at : ℕ) → Put (record { place = at; node = n_path c (index a false ∷ []) } ∷ []) [] st₂ st₃ d₂ d₃
    own at = put_one (record { place = at; node = n_path c (index a false ∷ []) }) 11 y st₂ st₃ d₂ d₃ (own-path-long c a) y₀ f₂ j

    id-long : length (table_bytes 2 (record { place = 0; node = n_id } ∷ [])) ≡ 3
    id-long = length-append (field 0x50 []) [] ∙ ap (λ (m : ℕ). m + 0) (sym (bare-long 0x50))

    own-long : length (table_bytes 2 (record { place = 0; node = n_path c (index a false ∷ []) } ∷ [])) ≡ 11
    own-long = length-append (node_bytes 2 (n_path c (index a false ∷ []))) [] ∙ ap (λ (m : ℕ). m + 0) (sym (own-path-long c a))

    is : (vw : View) → Seen vw b s k → (t : Term) (at : ℕ) → TermAt b t p
        → let o = lone_out at (num st) (term vw.top t (env_of vw b s k) (suc (num st)) empty) (term vw.top t (env_of vw b s k) (suc (suc (num st))) empty) none in Put o.more o.errs st st₃ d d₃ × (n_obj_single (number_at s₂ k) (last_at s₂ k) ≡ o.self.node)
    is vw v t at h =
        let E = env_of vw b s k in
        let A = term vw.top t E (suc (num st)) empty in
        let P = (m.is vw v t h).0 in
        let C : c ≡ num st + size A = c₀ ∙ P.nums in
        let I : Rec = record { place = at; node = n_id } in
        let Q : Put (I ∷ record { place = at; node = n_path (num st + size A) (index (num st) false ∷ []) } ∷ []) [] st₁ st₃ d₁ d₃ =
        put_then (I ∷ []) (record { place = at; node = n_path (num st + size A) (index (num st) false ∷ []) } ∷ []) [] [] st₁ st₂ st₃ d₁ d₂ d₃ (id at)
        (subst (λ (u : ℕ). Put (record { place = at; node = n_path u (index (num st) false ∷ []) } ∷ []) [] st₂ st₃ d₂ d₃) C
        (subst (λ (u : ℕ). Put (record { place = at; node = n_path c (index u false ∷ []) } ∷ []) [] st₂ st₃ d₂ d₃) a₀ (own at))) in (
          subst (λ (es : List Err). Put (slot A ++ (I ∷ record { place = at; node = n_path (num st + size A) (index (num st) false ∷ []) } ∷ [])) es st st₃ d d₃) (append-nil A.errs)
              (put_then (slot A) (I ∷ record { place = at; node = n_path (num st + size A) (index (num st) false ∷ []) } ∷ []) A.errs [] st st₁ st₃ d d₁ d₃ P Q),
          ap₂ (λ (u : ℕ) (w : ℕ). n_obj_single u w) (n.number ∙ a₀) (n.last ∙ omega (arith, C)),
        )

-- no addition wraps
pub key-rooms : (b s s₁ : List ℕ) (k p : ℕ) (st st₁ : State) (d d₁ : List ℕ) (r : ℕ) → Ready b s k p (end_of b p) st → Laid b p s s₁ k st st₁ d d₁ 0 r → (num st₁ ≤ 65536) × (off st₁ ≤ 2 ^ 36)
key-rooms b s s₁ k p st st₁ d d₁ r y m = (omega (arith, y.nums, m.paid.nums), omega (arith, y.offs, m.paid.offs))

pub key-rooms-next : (b s s₁ : List ℕ) (k p : ℕ) (st st₁ st₂ : State) (d d₁ : List ℕ) (r : ℕ) → Ready b s k p (end_of b p) st → Laid b p s s₁ k st st₁ d d₁ 0 r → st₂ ≡ with_off (with_num st₁ (num st₁ + 1)) (off st₁ + 3)
    → (num st₂ ≤ 65537) × (off st₂ ≤ 2 ^ 36 + 3)
key-rooms-next b s s₁ k p st st₁ st₂ d d₁ r y m f =
    let a = key-rooms b s s₁ k p st st₁ d d₁ r y m in
    let i = set_both st₁ st₂ (num st₁ + 1) (off st₁ + 3) f in
    (omega (arith, i.num, a.0), omega (arith, i.off, a.1))

-- a variable has a name, and its record is short
var-some : (x : List ℕ) → leaf_ok (shape 0xA7) x ≡ true → 1 ≤ length x
unfolding leaf_ok shape shapes
var-some [] e = absurd (not-both false e refl)
var-some (x ∷ xs) e = omega arith

pub var-long : (b : List ℕ) (p : ℕ) → get_or b p 0 ≡ 0xA7 → Stands b p → (p + 4 ≤ end_of b p) × (end_of b p ≤ length b)
var-long b p e g = on-var b p (λ _. (p + 4 ≤ end_of b p) × (end_of b p ≤ length b)) e (λ l. (omega (arith, var-some (text_of b p) l.ok, text-length b p l.fits), l.fits)) g.0 g.1

var-few : (p : ℕ) (x : Err) (o : Option ℕ) → length (table_bytes 2 (slot (var_out p x o))) ≤ 5
unfolding var_out
var-few p x none = omega (arith, length-append (field 0x50 []) [], bare-long 0x50)
var-few p x (some i) = omega (arith, length-append (field 0x59 (number 2 i)) [], one-length 0x59 i)

var-at : (b : List ℕ) (p : ℕ) → get_or b p 0 ≡ 0xA7 → LeafAt b 0xA7 p → TermAt b (t_var p (text_of b p)) p
unfolding At f_term
var-at b p e i = ((record { tagged = e; fits = i.fits }, refl, i.ok), refl)

-- the key is put first, which has no bytes of its own: those of the entry's field pay for its number
pub var-ready : (b s : List ℕ) (k q p z w : ℕ) (st st₁ : State) → q + 3 ≤ p → get_or b p 0 ≡ 0xA7 → Ready b s k q (end_of b p) st → Stands b p → z ≡ end_of b p → w ≡ z - p - 1
    → st₁ ≡ with_off (with_num st (num st + 1)) (off st + w) → Ready b s k p (end_of b p) st₁
var-ready b s k q p z w st st₁ l e y g z₀ w₀ f =
    let a = set_both st st₁ (num st + 1) (off st + w) f in
    let h = var-long b p e g in
    record {
      small = y.small;
      view = y.view;
      seen = y.seen;
      order = omega arith;
      within = y.within;
      spare = omega (arith, y.spare, l);
      nums = omega (arith, y.nums, l, a.num);
      offs = omega (arith, y.offs, l, a.off, w₀, z₀, h, y.small);
      errs = omega (arith, y.errs, l, a.ers);
    }

-- "Entry `$x` alone has key `x`"
pub var-is : (b : List ℕ) (p : ℕ) (s s₁ s₂ : List ℕ) (k q a z w x : ℕ) (u : List ℕ) (st st₁ st₂ : State) (d d₁ d₂ : List ℕ) (r : ℕ) → q + 3 ≤ p → get_or b p 0 ≡ 0xA7 → Ready b s k q (end_of b p) st → Stands b p → a ≡ num st
    → z ≡ end_of b p → w ≡ z - p - 1 → x ≡ off st → st₁ ≡ with_off (with_num st (num st + 1)) (off st + w) → u ≡ drop 1 (text_of b p) → d₁ ≡ overlay d x (field 0x55 u)
    → Laid b p s s₁ k st₁ st₂ d₁ d₂ 0 r → s₂ ≡ noted s₁ k 6 a (a + 1) → LoneIs b p s s₂ k st st₂ d d₂
unfolding term lone_out
var-is b p s s₁ s₂ k q a z w x u st st₁ st₂ d d₁ d₂ r l e y g a₀ z₀ w₀ x₀ f u₀ j m note =
    record {
      is = λ vw v t at. on-var b p
          (λ (t : Term). let o = lone_out at (num st) (term vw.top t (env_of vw b s k) (suc (num st)) empty) (term vw.top t (env_of vw b s k) (suc (suc (num st))) empty) (var_name t) in Put o.more o.errs st st₂ d d₂ × (n_obj_single (number_at s₂ k) (last_at s₂ k) ≡ o.self.node)) e
          (λ i. (put_then (record { place = at; node = n_str (drop 1 (text_of b p)) } ∷ []) (slot (var_at vw)) [] (var_at vw).errs st st₁ st₂ d d₁ d₂ (key at) (var vw v i), ap₂ (λ (u : ℕ) (w : ℕ). n_obj_single u w) (n.number ∙ a₀) (n.last ∙ omega (arith, a₀)))) t;
      kind = n.kinds;
      seen = seen-then b s s₁ s₂ k (p + 1) (end_of b p) 6 a (a + 1) st₁ st₂ m.paid n;
      paid =
          record {
            kept = n.kept ∙ m.paid.kept;
            same = n.same ∙ m.paid.same;
            nums = omega (arith, m.paid.nums, (key 0).nums);
            offs = omega (arith, (key 0).offs, key-long, h, w₀, z₀, on-var b p (λ (t : Term). off st₂ ≤ off st₁ + 5) e (λ i. omega (arith, (var y.view y.seen i).offs, var-few p (error_at y.view.top u_var (text_place p) (text_of b p)) (variable y.view.top (text_of b p) (env_of y.view b s k)))) g.0 g.1);
            errs = omega (arith, m.paid.errs, (key 0).errs);
          };
    }
  where
    h : (p + 4 ≤ end_of b p) × (end_of b p ≤ length b)
    h = var-long b p e g

    n : Noting b s₁ s₂ k 6 a (a + 1)
    n =
        noting b s₁ s₂ k 6 a (a + 1) (omega (arith, note-room b s k q (end_of b p) st y (omega (arith, l)), m.paid.same)) (omega (arith, a₀, note-few b s k q (end_of b p) st y (omega (arith, l))))
        (omega arith) (omega arith) note

    long : w ≡ length (field 0x55 (drop 1 (text_of b p)))
    long = omega (arith, w₀, z₀, h, length-field 0x55 (drop 1 (text_of b p)), length-drop 1 (text_of b p), text-length b p h.1)

    key : (at : ℕ) → Put (record { place = at; node = n_str (drop 1 (text_of b p)) } ∷ []) [] st st₁ d d₁
    key at = put_one (record { place = at; node = n_str (drop 1 (text_of b p)) }) w x st st₁ d d₁ long x₀ f (j ∙ ap (λ (v : List ℕ). overlay d x (field 0x55 v)) u₀)

    key-long : length (table_bytes 2 (record { place = 0; node = n_str (drop 1 (text_of b p)) } ∷ [])) ≡ w
    key-long = length-append (field 0x55 (drop 1 (text_of b p))) [] ∙ omega (arith, long)

    var_at : View → Out
    var_at vw = term vw.top (t_var p (text_of b p)) (env_of vw b s k) (suc (suc (num st))) empty

    var : (vw : View) → Seen vw b s k → LeafAt b 0xA7 p → Put (slot (var_at vw)) (var_at vw).errs st₁ st₂ d₁ d₂
    var vw v i = (laid_as b p s s₁ k st₁ st₂ d₁ d₂ 0 r vw (env_of vw b s k) (suc (num st)) (t_var p (text_of b p)) m v refl ((key 0).nums ∙ omega arith) (var-at b p e i)).0

-- ---- a row of entries

-- some entries stand from p up to z
abbrev pub EntriesHere : List ℕ → ℕ → ℕ → Type 0
EntriesHere b p z = (es : Entries) × Row b (f_entries es rnil) p z

pub entries-head : (b : List ℕ) (p z : ℕ) → p < z → EntriesHere b p z → EntryHere b p × EntriesHere b (end_of b p) z
entries-head b p z l g = on-entries-cons b p z (λ _. EntryHere b p × EntriesHere b (end_of b p) z) l (λ t v es h j. ((t, v, h), (es, j))) g.0 g.1

-- of what the entries contain, and of their notes
abbrev EnteredAs : List ℕ → List ℕ → ℕ → List ℕ → State → State → List ℕ → List ℕ → ℕ → View → Entries → ℕ → Type 0
EnteredAs b s k s' st st' d d' r vw es p =
    let os = entries_of vw.top es p (env_of vw b s k) (num st) in
    Put (held os) (held_errs os) st st' d d' × (entry_nodes s' es k ≡ map (λ (o : Out). o.self.node) os) × (r ≡ k + length os)

pub entries-nil : (b : List ℕ) (p z : ℕ) (s : List ℕ) (k : ℕ) (st : State) (d : List ℕ) → z ≤ p → EntriesHere b p z → Entered b p z s s k st st d d k
unfolding entries_of held held_errs entry_nodes EntryNotes
entries-nil b p z s k st d l g =
    let e : p ≤ z = row-le b (f_entries g.0 rnil) p z g.1 in
    record {
      is = λ vw v es o. on-entries-nil b p z (λ (es : Entries). EnteredAs b s k s st st d d k vw es o) l (put-none st d, refl, omega arith) es;
      notes = on-entries-nil b p z (λ (es : Entries). EntryNotes s es k) l tt;
      rows = omega (arith, e);
      paid = record { kept = refl; same = refl; nums = omega (arith, e); offs = omega (arith, e); errs = omega (arith, e) };
    }

pub entries-cons : (b : List ℕ) (p z : ℕ) (s s₁ s' : List ℕ) (k : ℕ) (st st₁ st' : State) (d d₁ d' : List ℕ) (r : ℕ) → p < z → EntryIs b p s s₁ k st st₁ d d₁
    → Entered b (end_of b p) z s₁ s' (k + 1) st₁ st' d₁ d' r → Entered b p z s s' k st st' d d' r
unfolding entries_of held held_errs entry_nodes EntryNotes
entries-cons b p z s s₁ s' k st st₁ st' d d₁ d' r l m c =
    record {
      is = λ vw v es o. on-entries-cons b p z (λ (es : Entries). EnteredAs b s k s' st st' d d' r vw es o) l (is vw v o) es;
      notes = on-entries-cons b p z (λ (es : Entries). EntryNotes s' es k) l
          (λ t v es h j. (kind-kept k s₁ s' c.paid.kept ∙ m.kind, subst (λ (u : ℕ). EntryNotes s' es u) next (c.notes es j)));
      rows = omega (arith, c.rows);
      paid = record {
        kept = kept_less k (k + 1) s₁ s' (omega arith) c.paid.kept ∙ m.paid.kept;
        same = c.paid.same ∙ m.paid.same;
        nums = omega (arith, m.paid.nums, c.paid.nums);
        offs = omega (arith, m.paid.offs, c.paid.offs);
        errs = omega (arith, m.paid.errs, c.paid.errs);
      };
    }
  where
    next : k + 1 ≡ suc k
    next = omega arith

    is : (vw : View) → Seen vw b s k → (o : ℕ) (t : Term) (x : OptTerm) (es : Entries) → EntryAt b p t x → Row b (f_entries es rnil) (end_of b p) z → EnteredAs b s k s' st st' d d' r vw (es_cons p t x es) o
    is vw v o t x es h j =
        let E = env_of vw b s k in
        let A = entry_out vw.top t x o E (num st) in
        let B = entries_of vw.top es o E (num st + length A.more) in
        let w = m.seen vw v in
        let q = m.is vw v t x o h in
        let u : Put (held B) (held_errs B) st₁ st' d₁ d' × (entry_nodes s' es (k + 1) ≡ map (λ (o : Out). o.self.node) B) × (r ≡ k + 1 + length B) =
        subst (λ (n : ℕ). let os = entries_of vw.top es o E n in Put (held os) (held_errs os) st₁ st' d₁ d' × (entry_nodes s' es (k + 1) ≡ map (λ (o : Out). o.self.node) os) × (r ≡ k + 1 + length os)) q.0.nums
        (subst (λ (F : Env). let os = entries_of vw.top es o F (num st₁) in Put (held os) (held_errs os) st₁ st' d₁ d' × (entry_nodes s' es (k + 1) ≡ map (λ (o : Out). o.self.node) os) × (r ≡ k + 1 + length os)) w.1 (c.is vw w.0 es o j)) in (
          put_then A.more (held B) A.errs (held_errs B) st st₁ st' d d₁ d' q.0 u.0,
          ap₂ (λ (y : Node) (ys : List Node). y ∷ ys)
              (ap₂ (λ (i : ℕ) (j : ℕ). n_obj_single i j) (number-kept k s₁ s' c.paid.kept) (last-kept k s₁ s' c.paid.kept) ∙ q.1)
              (ap (entry_nodes s' es) (sym next) ∙ u.1),
          omega (arith, u.2),
        )

-- the loop over them: p is the next entry's place, i its row
pub record Entering (b : List ℕ) (q z : ℕ) (s₀ : List ℕ) (k : ℕ) (st₀ : State) (d₀ : List ℕ) (p i : ℕ) (s : List ℕ) (st : State) (d : List ℕ) : Type 0 where
  pub goes : (s' : List ℕ) (st' : State) (d' : List ℕ) (r : ℕ) → Entered b p z s s' i st st' d d' r → Entered b q z s₀ s' k st₀ st' d₀ d' r
  pub low : q ≤ p
  pub ready : Ready b s i p z st
  pub here : EntriesHere b p z
  pub same : length s ≡ length s₀
  pub room : length d ≡ length d₀

-- p is where the next one stands
pub entries-on : (b : List ℕ) (q z : ℕ) (s₀ : List ℕ) (k : ℕ) (st₀ : State) (d₀ : List ℕ) (n p i : ℕ) (s : List ℕ) (st : State) (d : List ℕ) → n ≡ p → Entering b q z s₀ k st₀ d₀ n i s st d → Entering b q z s₀ k st₀ d₀ p i s st d
entries-on b q z s₀ k st₀ d₀ n p i s st d e g = subst (λ (r : ℕ). Entering b q z s₀ k st₀ d₀ r i s st d) e g

pub entries-start : (b : List ℕ) (q z : ℕ) (s : List ℕ) (k : ℕ) (st : State) (d : List ℕ) → Ready b s k q z st → EntriesHere b q z → Entering b q z s k st d q k s st d
entries-start b q z s k st d y g = record { goes = λ s' st' d' r f. f; low = omega arith; ready = y; here = g; same = refl; room = refl }

-- the entry at p is ready
pub entries_next : (b : List ℕ) (q z : ℕ) (s₀ : List ℕ) (k : ℕ) (st₀ : State) (d₀ : List ℕ) (p i : ℕ) (s : List ℕ) (st : State) (d : List ℕ) → Entering b q z s₀ k st₀ d₀ p i s st d → p < z
    → Ready b s i p (end_of b p) st × EntryHere b p
entries_next b q z s₀ k st₀ d₀ p i s st d v l =
    let h = entries-head b p z l v.here in
    (ready-part b s i p p z (end_of b p) st v.ready (omega arith) (omega arith) (row-le b (f_entries h.1.0 rnil) (end_of b p) z h.1.1), h.0)

pub entries-more : (b : List ℕ) (q z : ℕ) (s₀ : List ℕ) (k : ℕ) (st₀ : State) (d₀ : List ℕ) (p i : ℕ) (s : List ℕ) (st : State) (d s₁ : List ℕ) (st₁ : State) (d₁ : List ℕ) → Entering b q z s₀ k st₀ d₀ p i s st d → p < z
    → EntryIs b p s s₁ i st st₁ d d₁ → Entering b q z s₀ k st₀ d₀ (end_of b p) (i + 1) s₁ st₁ d₁
entries-more b q z s₀ k st₀ d₀ p i s st d s₁ st₁ d₁ v l m =
    let h = entries-head b p z l v.here in
    record {
      goes = λ s' st' d' r c. v.goes s' st' d' r (entries-cons b p z s s₁ s' i st st₁ st' d d₁ d' r l m c);
      low = omega (arith, v.low);
      ready = ready-next b s s₁ i p (p + 1) (end_of b p) z st st₁ v.ready (omega arith) (omega arith) (omega arith) (row-le b (f_entries h.1.0 rnil) (end_of b p) z h.1.1) m.paid m.seen;
      here = h.1;
      same = m.paid.same ∙ v.same;
      room = (m.is v.ready.view v.ready.seen h.0.0 h.0.1 0 h.0.2).0.size ∙ v.room;
    }

-- the same, x being where the entry ends
pub entries-again : (b : List ℕ) (q z : ℕ) (s₀ : List ℕ) (k : ℕ) (st₀ : State) (d₀ : List ℕ) (p i x : ℕ) (s : List ℕ) (st : State) (d s₁ : List ℕ) (st₁ : State) (d₁ : List ℕ) → Entering b q z s₀ k st₀ d₀ p i s st d → p < z
    → EntryIs b p s s₁ i st st₁ d d₁ → x ≡ end_of b p → Entering b q z s₀ k st₀ d₀ x (i + 1) s₁ st₁ d₁
entries-again b q z s₀ k st₀ d₀ p i x s st d s₁ st₁ d₁ v l m x₀ =
    subst (λ (x : ℕ). Entering b q z s₀ k st₀ d₀ x (i + 1) s₁ st₁ d₁) (sym x₀) (entries-more b q z s₀ k st₀ d₀ p i s st d s₁ st₁ d₁ v l m)

pub entries-done : (b : List ℕ) (q z : ℕ) (s₀ : List ℕ) (k : ℕ) (st₀ : State) (d₀ : List ℕ) (p i : ℕ) (s : List ℕ) (st : State) (d : List ℕ) → Entering b q z s₀ k st₀ d₀ p i s st d → z ≤ p → Entered b q z s₀ s k st₀ st d₀ d i
entries-done b q z s₀ k st₀ d₀ p i s st d v l = v.goes s st d i (entries-nil b p z s i st d l v.here)

-- ---- the object

pub obj-shape : (b : List ℕ) (p : ℕ) → get_or b p 0 ≡ 0xB0 → Stands b p → (es : Entries) × ObjAt b p es
obj-shape b p e g = on-obj b p (λ _. (es : Entries) × ObjAt b p es) e (λ es h. (es, h)) g.0 g.1

pub obj-here : (b : List ℕ) (p : ℕ) → get_or b p 0 ≡ 0xB0 → Stands b p → (end_of b p ≤ length b) × EntriesHere b (p + 3) (end_of b p)
obj-here b p e g = let a = obj-shape b p e g in (a.1.fits, (a.0, a.1.entries))

-- how wide its own record is
abbrev pub ObjWide : List ℕ → ℕ → ℕ → Type 0
ObjWide b p w = (es : Entries) → Row b (f_entries es rnil) (p + 3) (end_of b p) → w ≡ entries_width es

-- it returns no calls
obj-tail : (es : Entries) (c : Top) (p : ℕ) (e : Env) (n : ℕ) → empty ≡ (sum_or p n_obj_empty (entries c es p e n)).tail
unfolding term lone_out sum_out
obj-tail es_nil c p e n = refl
obj-tail (es_cons q t v es) c p e n = sum-tail (entry_out c t v p e n) (entries c es p e (n + length (entry_out c t v p e n).more)) (entry-tail v (var_name t) (term c t e (suc n) empty) (term c t e (suc (suc n)) empty))
  where
    sum-tail : (a : Out) (o : Option Out) → empty ≡ a.tail → empty ≡ (sum_out p n a o).tail
    sum-tail a none i = i
    sum-tail a (some o) i = refl

    entry-tail : (v : OptTerm) (x : Option Text) (k l : Out) → empty ≡ (entry c v p e n x k l).tail
    entry-tail no_term none k l = refl
    entry-tail no_term (some x) k l = refl
    entry-tail (a_term t) x k l = refl

-- fifteen bytes an entry
entries-size : (s : List ℕ) (es : Entries) (k : ℕ) → sizes (entry_nodes s es k) ≡ 15 * length (entry_nodes s es k)
unfolding sizes entry_nodes
entries-size s es_nil k = refl
entries-size s (es_cons q t v es) k = omega (arith, entries-size s es (suc k), two-length 0x58 (number_at s k) (last_at s k))

module _ (b : List ℕ) (p : ℕ) (s s₁ : List ℕ) (k o i w F : ℕ) (st st₁ st₂ : State) (d d₁ : List ℕ) (e : get_or b p 0 ≡ 0xB0) (y : Ready b s k (p + 1) (end_of b p) st) (g : Stands b p)
    (few : w ≤ 1048576) (f : st₁ ≡ with_off st (start_of o (off st) w)) (c : Entered b (p + 3) (end_of b p) s s₁ k st₁ st₂ d d₁ i) where
  notes-are : (es : Entries) → Row b (f_entries es rnil) (p + 3) (end_of b p) → i ≡ k + length (entry_nodes s₁ es k)
  notes-are es h =
      let m = c.is y.view y.seen es p h in
      m.2 ∙ ap (λ (j : ℕ). k + j) (sym (ap length m.1 ∙ length-map (entries_of y.view.top es p (env_of y.view b s k) (num st₁)) (λ (o : Out). o.self.node)))

  pub obj-summands : Placed o st → (k ≤ i) × SumReady b s₁ F k i (o + off st₂ + w + 3) × (num st₂ + 2 * (i - k) < 2 ^ 64)
  obj-summands pl =
      let h = obj-here b p e g in
      let n = notes-are h.1.0 h.1.1 in
      let t : off st ≤ 68719476736 = omega (arith, y.offs) in (
        omega (arith, n),
        record {
          ts = entry_nodes s₁ h.1.0 k;
          are = entry-summands b s₁ h.1.0 F k (c.notes h.1.0 h.1.1);
          notes = n;
          rows = omega (arith, c.rows, y.spare, h.0, c.paid.same);
          room = omega (arith, t, few, h.0, y.small, c.paid.offs, c.rows, n, entries-size s₁ h.1.0 k, off-off st st₁ (start_of o (off st) w) f, start-high o (off st) w, placed-within o (off st) pl (omega (arith, t)));
        },
        omega (arith, y.nums, y.small, h.0, off-num st st₁ (start_of o (off st) w) f, c.paid.nums, c.rows),
      )

  pub obj-did : (wide : ObjWide b p w) (st₃ : State) (d₂ : List ℕ)
      → ((ts : List Node) (at : ℕ) (t : Node) → Summands b s₁ F k ts → i ≡ k + length ts → node_bytes 2 t ≡ field 0x57 [] → SumPut at t ts o w st₂ st₃ d₁ d₂)
      → (al : ℕ) → Did b p s s₁ k o st st₃ d d₂ al 0
  unfolding term
  obj-did wide st₃ d₂ sum al =
      let h = obj-here b p e g in
      let u = put h.1.0 h.1.1 in
      let n = notes-are h.1.0 h.1.1 in
      let a = sum-state p n_obj_empty (entry_nodes s₁ h.1.0 k) o w st₂ st₃ d₁ d₂ u in
      did_of b p s s₁ k o st st₃ d d₂ al 0 y g
      (λ vw v. on-obj b p (λ t. Made b p (term vw.top t (env_of vw b s k) (num st) al) o st st₃ d d₂ 0) e (is vw v))
      c.paid.kept c.paid.same
      (omega (arith, n, a.0, summed-count p n_obj_empty (num st₂) (entry_nodes s₁ h.1.0 k), c.paid.nums, n₁))
      (omega (arith, a.1, c.paid.errs, off-ers st st₁ (start_of o (off st) w) f))
    where
      n₁ : num st₁ ≡ num st
      n₁ = off-num st st₁ (start_of o (off st) w) f

      put : (es : Entries) → Row b (f_entries es rnil) (p + 3) (end_of b p) → SumPut p n_obj_empty (entry_nodes s₁ es k) o w st₂ st₃ d₁ d₂
      put es h = sum (entry_nodes s₁ es k) p n_obj_empty (entry-summands b s₁ es F k (c.notes es h)) (notes-are es h) refl

      is : (vw : View) → Seen vw b s k → (es : Entries) → ObjAt b p es → Made b p (term vw.top (t_obj p es) (env_of vw b s k) (num st) al) o st st₃ d d₂ 0
      is vw v es n =
          let E = env_of vw b s k in
          let R = n.entries in
          let os = entries_of vw.top es p E (num st) in
          let O = sum_or p n_obj_empty (entries vw.top es p E (num st)) in
          let ns = entry_nodes s₁ es k in
          let S : Put (held os) (held_errs os) st₁ st₂ d d₁ × (ns ≡ nodes_of os) × (i ≡ k + length os) =
          subst (λ (j : ℕ). let us = entries_of vw.top es p E j in Put (held us) (held_errs us) st₁ st₂ d d₁ × (ns ≡ nodes_of us) × (i ≡ k + length us)) n₁ (c.is vw v es p R) in
          let U = put es R in
          let L = entries-flat vw.top es p E (num st) in
          let M : num st + length (held os) ≡ num st₂ = omega (arith, S.0.nums, n₁) in
          let rs = (summed p n_obj_empty (num st₂) ns).more in
          let X : O.more ≡ held os ++ rs = L.more ∙ ap₂ (λ (j : ℕ) (us : List Node). held os ++ (summed p n_obj_empty j us).more) M (sym S.1) in
          let Y : O.self.node ≡ (summed p n_obj_empty (num st₂) ns).self = ap (λ (r : Rec). r.node) L.self ∙ ap₂ (λ (j : ℕ) (us : List Node). (summed p n_obj_empty j us).self) M (sym S.1) in
          let W : w ≡ length (rec_bytes 2 O.self) = wide es R ∙ own-obj p es vw.top E (num st) al in
          let Z : Put (held os) O.errs st₁ st₂ d d₁ = subst (λ (xs : List Err). Put (held os) xs st₁ st₂ d d₁) (sym L.errs) S.0 in
          record {
            own = sum-own O (held os) p n_obj_empty ns o w st st₁ st₂ st₃ d d₁ d₂ W f Z U X Y;
            tail = obj-tail es vw.top p E (num st);
            wide =
                omega (
                  arith,
                  S.0.offs,
                  c.paid.offs,
                  notes-are es R,
                  entries-size s₁ es k,
                  summed-size p n_obj_empty (num st₂) ns,
                  bare-long 0x57,
                  ap (λ (m : Node). length (node_bytes 2 m)) Y,
                  ap (λ (us : List Rec). length (table_bytes 2 us)) X,
                  ap length (table-append (held os) rs),
                  length-append (table_bytes 2 (held os)) (table_bytes 2 rs),
                );
          }

-- ---- the same, z being where the entries end

pub obj-here-at : (b : List ℕ) (p z : ℕ) → z ≡ end_of b p → get_or b p 0 ≡ 0xB0 → Stands b p → (z ≤ length b) × EntriesHere b (p + 3) z
obj-here-at b p z z₀ e g = subst (λ (z : ℕ). (z ≤ length b) × EntriesHere b (p + 3) z) (sym z₀) (obj-here b p e g)

pub obj-ready : (b s : List ℕ) (k p z o w : ℕ) (st st₁ : State) → z ≡ end_of b p → get_or b p 0 ≡ 0xB0 → Ready b s k (p + 1) (end_of b p) st → Stands b p → w ≤ 8 → st₁ ≡ with_off st (start_of o (off st) w)
    → Ready b s k (p + 3) z st₁ × EntriesHere b (p + 3) z
obj-ready b s k p z o w st st₁ z₀ e y g few f =
    subst (λ (z : ℕ). Ready b s k (p + 3) z st₁ × EntriesHere b (p + 3) z) (sym z₀)
    (ready-start b s k (p + 1) (p + 3) (end_of b p) (end_of b p) o w st st₁ y (omega arith) (omega arith) (omega arith) (omega (arith, few)) f, (obj-here b p e g).1)

module _ (b : List ℕ) (p z : ℕ) (s s₁ : List ℕ) (k o i w F : ℕ) (st st₁ st₂ : State) (d d₁ : List ℕ) (z₀ : z ≡ end_of b p) (e : get_or b p 0 ≡ 0xB0) (y : Ready b s k (p + 1) (end_of b p) st) (g : Stands b p)
    (few : w ≤ 8) (f : st₁ ≡ with_off st (start_of o (off st) w)) (c : Entered b (p + 3) z s s₁ k st₁ st₂ d d₁ i) where
  pub obj-summed : Placed o st → (k ≤ i) × SumReady b s₁ F k i (o + off st₂ + w + 3) × (num st₂ + 2 * (i - k) < 2 ^ 64)
  obj-summed pl =
      obj-summands b p s s₁ k o i w F st st₁ st₂ d d₁ e y g (omega (arith, few)) f (subst (λ (z : ℕ). Entered b (p + 3) z s s₁ k st₁ st₂ d d₁ i) z₀ c) pl

  pub obj-done : ((es : Entries) → Row b (f_entries es rnil) (p + 3) z → w ≡ entries_width es) → (st₃ : State) (d₂ : List ℕ)
      → ((ts : List Node) (at : ℕ) (t : Node) → Summands b s₁ F k ts → i ≡ k + length ts → node_bytes 2 t ≡ field 0x57 [] → SumPut at t ts o w st₂ st₃ d₁ d₂)
      → (al : ℕ) → Did b p s s₁ k o st st₃ d d₂ al 0
  obj-done wide st₃ d₂ sum al =
      obj-did b p s s₁ k o i w F st st₁ st₂ d d₁ e y g (omega (arith, few)) f (subst (λ (z : ℕ). Entered b (p + 3) z s s₁ k st₁ st₂ d d₁ i) z₀ c)
      (subst (λ (z : ℕ). (es : Entries) → Row b (f_entries es rnil) (p + 3) z → w ≡ entries_width es) z₀ wide) st₃ d₂ sum al
