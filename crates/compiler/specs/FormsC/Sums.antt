-- Sums of a string's parts and of an object's entries: what the rules make of them, in the order in which it is put, and how much that is. Assumes nothing.
use Rattle.std.specs.Prelude.{ℕ, suc, ◌+◌, ◌*◌, ◌≤◌, ◌≡◌, List, [], ◌∷◌, ◌++◌}
use Rattle.std.proofs.Common.{arith, sym, ap₂, ◌∙◌, append-nil, length-append}
use Rattle.std.proofs.Math.Path.{refl, ap, subst}
use Rattle.std.proofs.Math.Option.{Option, none, some}
use Rattle.std.proofs.Math.ListN.{length}
use Rattle.fields.specs.Room.{overlay, overlay-none, overlay-out, length-overlay}
use Rattle.tree.specs.Tree.{Term, OptTerm, no_term, a_term, StrParts, s_nil, s_cons, StrPart, s_text, s_char, s_term, Entries, es_nil, es_cons}
use Rattle.rules.specs.Table.{Rec, Node, n_str, n_obj_empty, Err}
use Rattle.rules.specs.Names.{Text}
use Rattle.rules.specs.Tails.{empty}
use Rattle.rules.specs.Rows.{Env}
use Rattle.rules.specs.Filters.{Top}
use Rattle.rules.specs.Outs.{Out, sum_out, sum_or, var_name, lone_out}
use Rattle.rules.specs.Listing.{node_bytes, rec_bytes, table_bytes}
use Rattle.rules.specs.Rules.{term, string, strings, entry, entries}
use Rattle.reads.specs.Lengths.{mid-length}
use Rattle.puts.specs.declared.state.State.{State}
use Rattle.puts.specs.State.{num, off, ers, start_of, spot_of, next_of, Put, Own, with_num, with_off}
use Rattle.puts.specs.Rooms.{put_then, own-node, table-append}
use Rattle.cells.specs.Notes.{sum_all, held, held_errs, strings_of, entries_of, string_node, summed}
use Rattle.cells.specs.Flat.{AllAt, SumIs, sum-flat}
use Rattle.records.specs.Sums.{sizes, SumPut}

-- ---- the summands

module _ (c : Top) where
  pub string-node : (x : StrPart) (p f : ℕ) (e : Env) (n : ℕ) → (string c x p f e n).self.node ≡ string_node x f n
  unfolding term string_node
  string-node (s_text x) p f e n = refl
  string-node (s_char x) p f e n = refl
  string-node (s_term t) p f e n = refl

  string-place : (x : StrPart) (p f : ℕ) (e : Env) (n : ℕ) → (string c x p f e n).self.place ≡ p
  unfolding term
  string-place (s_text x) p f e n = refl
  string-place (s_char x) p f e n = refl
  string-place (s_term t) p f e n = refl

  strings-at : (xs : StrParts) (p f : ℕ) (e : Env) (n : ℕ) → AllAt p (strings_of c xs p f e n)
  unfolding AllAt strings_of
  strings-at s_nil p f e n = tt
  strings-at (s_cons x xs) p f e n = (string-place x p f e n, strings-at xs p f e (n + length (string c x p f e n).more))

  strings-sum : (xs : StrParts) (p f : ℕ) (e : Env) (n : ℕ) → strings c xs p f e n ≡ sum_all p n (strings_of c xs p f e n)
  unfolding term sum_all strings_of
  strings-sum s_nil p f e n = refl
  strings-sum (s_cons x xs) p f e n =
      let a = string c x p f e n in ap (λ (o : Option Out). some (sum_out p n a o)) (strings-sum xs p f e (n + length a.more))

  -- "none gives empty Str"
  pub strings-flat : (xs : StrParts) (p f : ℕ) (e : Env) (n : ℕ) → SumIs p n (n_str []) (strings_of c xs p f e n) (sum_or p (n_str []) (strings c xs p f e n))
  unfolding term strings_of held held_errs summed
  strings-flat s_nil p f e n = record { more = refl; self = refl; errs = refl }
  strings-flat (s_cons x xs) p f e n =
      let a = string c x p f e n in
      let os = strings_of c xs p f e (n + length a.more) in
      subst (λ (o : Option Out). SumIs p n (n_str []) (a ∷ os) (sum_out p n a o)) (sym (strings-sum xs p f e (n + length a.more)))
      (sum-flat p n (n_str []) a os (strings-at (s_cons x xs) p f e n))

  lone-place : (p n : ℕ) (a v : Out) (x : Option Text) → (lone_out p n a v x).self.place ≡ p
  unfolding lone_out
  lone-place p n a v none = refl
  lone-place p n a v (some x) = refl

  entry_place : (v : OptTerm) (p : ℕ) (e : Env) (n : ℕ) (x : Option Text) (k l : Out) → (entry c v p e n x k l).self.place ≡ p
  unfolding term
  entry_place no_term p e n x k l = lone-place p n k l x
  entry_place (a_term t) p e n x k l = refl

  -- an entry, as the rules have it
  abbrev pub entry_out : Term → OptTerm → ℕ → Env → ℕ → Out
  entry_out t v p e n = entry c v p e n (var_name t) (term c t e (suc n) empty) (term c t e (suc (suc n)) empty)

  entries_at : (es : Entries) (p : ℕ) (e : Env) (n : ℕ) → AllAt p (entries_of c es p e n)
  unfolding AllAt entries_of
  entries_at es_nil p e n = tt
  entries_at (es_cons q t v es) p e n =
      (entry_place v p e n (var_name t) (term c t e (suc n) empty) (term c t e (suc (suc n)) empty), entries_at es p e (n + length (entry_out t v p e n).more))

  entries-sum : (es : Entries) (p : ℕ) (e : Env) (n : ℕ) → entries c es p e n ≡ sum_all p n (entries_of c es p e n)
  unfolding term sum_all entries_of
  entries-sum es_nil p e n = refl
  entries-sum (es_cons q t v es) p e n =
      let a = entry_out t v p e n in ap (λ (o : Option Out). some (sum_out p n a o)) (entries-sum es p e (n + length a.more))

  -- "none gives .. ObjEmpty"
  pub entries-flat : (es : Entries) (p : ℕ) (e : Env) (n : ℕ) → SumIs p n n_obj_empty (entries_of c es p e n) (sum_or p n_obj_empty (entries c es p e n))
  unfolding term entries_of held held_errs summed
  entries-flat es_nil p e n = record { more = refl; self = refl; errs = refl }
  entries-flat (es_cons q t v es) p e n =
      let a = entry_out t v p e n in
      let os = entries_of c es p e (n + length a.more) in
      subst (λ (o : Option Out). SumIs p n n_obj_empty (a ∷ os) (sum_out p n a o)) (sym (entries-sum es p e (n + length a.more)))
      (sum-flat p n n_obj_empty a os (entries_at (es_cons q t v es) p e n))

-- ---- how much a sum is

pub summed-size : (p : ℕ) (t : Node) (n : ℕ) (ts : List Node) → length (node_bytes 2 (summed p t n ts).self) + length (table_bytes 2 (summed p t n ts).more) ≤ length (node_bytes 2 t) + sizes ts
unfolding summed sizes
summed-size p t n [] = omega arith
summed-size p t n (x ∷ []) = omega arith
summed-size p t n (x ∷ y ∷ ys) =
    let o = summed p t n (y ∷ ys) in
    let k = n + length o.more in
    let two : List Rec = record { place = p; node = x } ∷ record { place = p; node = o.self } ∷ [] in
    let l : length (table_bytes 2 two) ≡ length (node_bytes 2 x) + length (node_bytes 2 o.self) =
    omega (arith, length-append (node_bytes 2 x) (node_bytes 2 o.self ++ []), length-append (node_bytes 2 o.self) []) in
    omega (arith, summed-size p t n (y ∷ ys), mid-length 0x65 k 0 (suc k), l, ap length (table-append o.more two), length-append (table_bytes 2 o.more) (table_bytes 2 two))

pub summed-count : (p : ℕ) (t : Node) (n : ℕ) (ts : List Node) → length (summed p t n ts).more ≤ 2 * length ts
unfolding summed
summed-count p t n [] = omega arith
summed-count p t n (x ∷ []) = omega arith
summed-count p t n (x ∷ y ∷ ys) =
    let o = summed p t n (y ∷ ys) in
    omega (arith, summed-count p t n (y ∷ ys), length-append o.more (record { place = p; node = x } ∷ record { place = p; node = o.self } ∷ []))

-- ---- how a sum is put

pub put-rows : (rs : List Rec) (st st₁ : State) (d d₁ : List ℕ) → st₁ ≡ with_off (with_num st (num st + length rs)) (off st + length (table_bytes 2 rs)) → d₁ ≡ overlay d (off st) (table_bytes 2 rs)
    → Put rs [] st st₁ d d₁
put-rows rs st st₁ d d₁ e j =
    record {
      nums = ap num e;
      offs = ap off e;
      errs = ap ers e ∙ omega arith;
      size = ap length j ∙ length-overlay d (off st) (table_bytes 2 rs);
      table = λ h. j;
      errors = λ h. j ∙ overlay-out d (off st) (table_bytes 2 rs) h ∙ sym (overlay-none d (ers st));
    }

-- the numbers that it takes, and no errors
pub sum-state : (p : ℕ) (t : Node) (ns : List Node) (o w : ℕ) (st st₁ : State) (d d₁ : List ℕ) → SumPut p t ns o w st st₁ d d₁
    → (num st₁ ≡ num st + length (summed p t (num st) ns).more) × (ers st₁ ≡ ers st)
sum-state p t ns o w st st₁ d d₁ s = (ap num s.state, ap ers s.state)

-- the own record was reserved, what it contains was put, then the sum
pub sum-own : (q : Out) (ms : List Rec) (p : ℕ) (t : Node) (ns : List Node) (o w : ℕ) (st st₁ st₂ st₃ : State) (d d₁ d₂ : List ℕ)
    → w ≡ length (rec_bytes 2 q.self) → st₁ ≡ with_off st (start_of o (off st) w)
    → Put ms q.errs st₁ st₂ d d₁ → SumPut p t ns o w st₂ st₃ d₁ d₂
    → q.more ≡ ms ++ (summed p t (num st₂) ns).more → q.self.node ≡ (summed p t (num st₂) ns).self
    → Own q o st st₃ d d₂
sum-own q ms p t ns o w st st₁ st₂ st₃ d d₁ d₂ g e m s h i =
    own-node q o w (spot_of o (off mid)) st st₁ mid st₃ d din d₂ g e all refl
    (s.state ∙ ap (λ (x : ℕ). with_off mid (next_of o x w)) (sym end))
    (s.room ∙ ap₂ (λ (x : ℕ) (n : Node). overlay din (spot_of o x) (node_bytes 2 n)) (sym end) (sym i))
  where
    rs : List Rec
    rs = (summed p t (num st₂) ns).more

    mid : State
    mid = with_off (with_num st₂ (num st₂ + length rs)) (off st₂ + length (table_bytes 2 rs))

    din : List ℕ
    din = overlay d₁ (off st₂) (table_bytes 2 rs)

    put : Put rs [] st₂ mid d₁ din
    put = put-rows rs st₂ mid d₁ din refl refl

    end : off mid ≡ off st₂ + length (table_bytes 2 rs)
    end = put.offs

    all : Put q.more q.errs st₁ mid d din
    all =
        subst (λ (x : List Rec). Put x q.errs st₁ mid d din) (sym h)
        (subst (λ (x : List Err). Put (ms ++ rs) x st₁ mid d din) (append-nil q.errs) (put_then ms rs q.errs [] st₁ st₂ mid d d₁ din m put))
