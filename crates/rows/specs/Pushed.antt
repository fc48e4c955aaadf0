-- What is in view after a push: a variable, label or filter argument; a definition; a note. Assumes nothing.
use Rattle.std.specs.Prelude.{ℕ, zero, suc, ◌+◌, ◌-◌, ◌*◌, ◌≤◌, ◌<◌, ◌≡◌, refl, Bool, true, false, cond, List, [], ◌∷◌, ◌++◌, eqb, ltb, length, get_or, set, take, drop}
use Rattle.std.proofs.Common.{arith, sym, ap, ap₂, ◌∙◌, length-set, length-take, length-drop, get_or-set_same, get_or-set_other, ne_eqb, le-ltb}
use Rattle.tree.specs.Rose.{end_of, text_of}
use Rattle.tree.specs.Tree.{Name}
use Rattle.rules.specs.Tails.{Fun, parent, sibling}
use Rattle.rules.specs.Rows.{Row, var, label, arg, filter, Filter, Env, count, level, filter_of}
use Rattle.reads.specs.Bytes.{name_at, names_of, Fields, word_of, head_of}
use Rattle.cells.specs.Cells.{arity_at, number_at, kind_at, level_at, before_at, place_at, last_at, filter_at, class_of, pushed, bound_as, noted, View, outer, row_at, rows_of, env_of, in_view, bucket, Chain, Good, Seen, Room, Pushing}
use Rattle.cells.specs.Packing.{second, third}
use Rattle.rows.specs.Same.{Between, order-of, env-same, view-between, bucket-between}
use Rattle.rows.specs.Kept.{heads-below, below-ext}
use Rattle.rows.specs.Grown.{Grown, env-grown, seen-note, seen-row}
use Rattle.rows.specs.Fields.{head-low, head-high, head_for, length-pushed, pushed-below, pushed-above, pushed-head, pushed-0, pushed-1, pushed-2, pushed-3, RowIs, row_is, length-noted, noted-below, noted-kind}

-- ---- there is room

chain-small : (s : List ℕ) (lo k j : ℕ) (js : List ℕ) → 0 < k → Between lo k js → Chain s j js → j < k
unfolding Chain
chain-small s lo k j [] h b c = omega arith
chain-small s lo k j (i ∷ is) h b c = omega (arith, b.0.1, c.0)

-- the head of a bucket is a row below k, or none
pub link-small : (vw : View) (b s : List ℕ) (k h : ℕ) → Seen vw b s k → 8 ≤ h → h ≤ 8 + vw.mask → get_or s h 0 < k
link-small vw b s k h g p q =
    let o = order-of vw b s k g in
    chain-small s vw.first k (get_or s h 0) (bucket s h (in_view vw s k)) (omega (arith, heads-below vw b s k g))
    (bucket-between s h vw.first k (in_view vw s k) (view-between vw s k o.first o.past (omega (arith, o.own, o.locals)))) (g.linked h p q)

pub room-ready : (vw : View) (b s : List ℕ) (k : ℕ) → Seen vw b s k → 4 * k + 4 ≤ length s → Room s k
room-ready vw b s k g r =
    let m : get_or s 0 0 ≡ vw.mask = g.base.mask in
    record {
      row = r;
      few = omega (arith, g.small);
      heads = omega (arith, heads-below vw b s k g);
      links = λ h p q. let l = link-small vw b s k h g p (omega arith) in omega (arith, g.small);
    }

-- the counts fit their fields
count_small : (b s : List ℕ) (m lo n : ℕ) → count (rows_of b s m lo n) ≤ n
unfolding rows_of row_at
count_small b s m lo zero = omega arith
count_small b s m lo (suc n) = go (eqb (kind_at s (lo + n)) 0) (eqb (kind_at s (lo + n)) 1) (eqb (kind_at s (lo + n)) 2) (ltb (kind_at s (lo + n)) 5) (count_small b s m lo n)
  where
    x : Name
    x = name_at b (place_at s (lo + n))

    go : (t₀ t₁ t₂ t₃ : Bool) → count (rows_of b s m lo n) ≤ n
        → count (cond t₀ (var x ∷ []) (cond t₁ (label x ∷ []) (cond t₂ (arg x ∷ []) (cond t₃ (filter (filter_at b s m (lo + n)) ∷ []) []))) ++ rows_of b s m lo n) ≤ suc n
    go true t₁ t₂ t₃ h = omega arith
    go false true t₂ t₃ h = omega arith
    go false false true t₃ h = omega arith
    go false false false true h = omega arith
    go false false false false h = omega arith

level-small : (b s : List ℕ) (m lo n : ℕ) → level (rows_of b s m lo n) ≤ n
unfolding rows_of row_at
level-small b s m lo zero = omega arith
level-small b s m lo (suc n) = go (eqb (kind_at s (lo + n)) 0) (eqb (kind_at s (lo + n)) 1) (eqb (kind_at s (lo + n)) 2) (ltb (kind_at s (lo + n)) 5) (eqb (kind_at s (lo + n)) 3) (level-small b s m lo n)
  where
    x : Name
    x = name_at b (place_at s (lo + n))

    row : Bool → Filter
    row t =
        record {
          name = name_at b (place_at s (lo + n));
          params = names_of b (arity_at s (lo + n)) (end_of b (place_at s (lo + n)));
          number = number_at s (lo + n);
          count = before_at s (lo + n) - m;
          level = level_at s (lo + n);
          fun = cond t parent (sibling (last_at s (lo + n)));
        }

    go : (t₀ t₁ t₂ t₃ t₄ : Bool) → level (rows_of b s m lo n) ≤ n
        → level (cond t₀ (var x ∷ []) (cond t₁ (label x ∷ []) (cond t₂ (arg x ∷ []) (cond t₃ (filter (row t₄) ∷ []) []))) ++ rows_of b s m lo n) ≤ suc n
    go true t₁ t₂ t₃ t₄ h = omega arith
    go false true t₂ t₃ t₄ h = omega arith
    go false false true t₃ t₄ h = omega arith
    go false false false true true h = omega arith
    go false false false true false h = omega arith
    go false false false false t₄ h = omega arith

-- bindings and definitions in view
pub counts-small : (vw : View) (b s : List ℕ) (k : ℕ) → Seen vw b s k → 4 * k + 4 ≤ length s → (get_or s 1 0 < 65536) × (get_or s 2 0 < 16384)
counts-small vw b s k g r = (
  omega (arith, g.view, g.base.light, g.small, count_small b s (outer vw) vw.locals (k - vw.locals)),
  omega (arith, g.above, g.small, level-small b s (outer vw) vw.locals (k - vw.locals)),
)

-- ---- a row that is no note

-- what a push asks for
pub record Pushable (vw : View) (b s : List ℕ) (k kind q a n : ℕ) : Type 0 where
  pub seen : Seen vw b s k
  pub small : length b ≤ 32768
  pub room : 4 * k + 4 ≤ length s
  pub name : end_of b q ≤ length b
  pub params : Fields b a (end_of b q)
  pub kinds : kind < 5
  pub plain : kind < 3 → a ≡ 0
  pub arity : a < 65536
  pub number : n < 65536

-- all cells but the two counts are those of t
abbrev pub Counted : List ℕ → List ℕ → Type 0
Counted t s' = (i : ℕ) → (i ≡ 1 → ⊥) → (i ≡ 2 → ⊥) → get_or s' i 0 ≡ get_or t i 0

text-small : (b : List ℕ) (q : ℕ) → length b ≤ 32768 → length (text_of b q) < 65536
text-small b q h = omega (arith, length-take (get_or b (q + 1) 0 + get_or b (q + 2) 0 * 256) (drop (q + 3) b), length-drop (q + 3) b)

module _ (vw : View) (b s s' : List ℕ) (k kind q a n c lv tail : ℕ) (p : Pushable vw b s k kind q a n) (same : length s' ≡ length s)
    (like : Counted (pushed (text_of b q) s k kind q a n c lv tail) s') where
  abbrev h : ℕ
  h = head_for (text_of b q) s

  heads : 9 + get_or s 0 0 ≤ 4 * k
  heads = omega (arith, heads-below vw b s k p.seen, p.seen.base.mask)

  h-low : 8 ≤ h
  h-low = head-low (get_or s 0 0) (word_of (text_of b q)) (length (text_of b q))

  h-high : h ≤ 8 + get_or s 0 0
  h-high = head-high (get_or s 0 0) (word_of (text_of b q)) (length (text_of b q))

  below : (i : ℕ) → i < 4 * k → (i ≡ 1 → ⊥) → (i ≡ 2 → ⊥) → (i ≡ h → ⊥) → get_or s' i 0 ≡ get_or s i 0
  below i w e₁ e₂ e = like i e₁ e₂ ∙ pushed-below (text_of b q) s k kind q a n c lv tail p.room heads i w e

  at : (x v : ℕ) → 4 * k ≤ x → get_or (pushed (text_of b q) s k kind q a n c lv tail) x 0 ≡ v → get_or s' x 0 ≡ v
  at x v w e = let f = heads in like x (λ z. omega arith) (λ z. omega arith) ∙ e

  pub row_pushed : RowIs (text_of b q) s' k (get_or s h 0) h kind q a n c lv tail
  row_pushed =
      let f = heads in
      let g = h-high in
      let e = p.seen.base.mask in
      let l = link-small vw b s k h p.seen h-low (omega arith) in
      row_is (text_of b q) s' k (get_or s h 0) h kind q a n c lv tail
      (at (4 * k + 0) (word_of (text_of b q)) (omega arith) (pushed-0 (text_of b q) s k kind q a n c lv tail p.room f))
      (at (4 * k + 1) (second (class_of kind) (length (text_of b q)) a n lv) (omega arith) (pushed-1 (text_of b q) s k kind q a n c lv tail p.room f))
      (at (4 * k + 2) (third (get_or s h 0) h q kind c) (omega arith) (pushed-2 (text_of b q) s k kind q a n c lv tail p.room f))
      (at (4 * k + 3) tail (omega arith) (pushed-3 (text_of b q) s k kind q a n c lv tail p.room f))
      (text-small b q p.small) p.arity p.number (omega (arith, p.kinds)) (omega (arith, p.seen.small, p.room)) (omega (arith, p.seen.small, p.room)) (omega (arith, p.name, p.small))

  grown-pushed : Grown vw b s s' k
  grown-pushed =
      let o = order-of vw b s k p.seen in
      let f = heads in
      let e = p.seen.base.mask in
      let l = h-low in
      let g = h-high in
      record {
        seen = p.seen;
        rows = λ i u w. let d = p.seen.base.heads in below i w (λ z. omega arith) (λ z. omega arith) (λ z. omega arith);
        fixed = record {
          mask = below 0 (omega arith) (λ z. omega arith) (λ z. omega arith) (λ z. omega arith);
          home = below 3 (omega arith) (λ z. omega arith) (λ z. omega arith) (λ z. omega arith);
          imports = below 4 (omega arith) (λ z. omega arith) (λ z. omega arith) (λ z. omega arith);
          includes = below 5 (omega arith) (λ z. omega arith) (λ z. omega arith) (λ z. omega arith);
          modules = below 6 (omega arith) (λ z. omega arith) (λ z. omega arith) (λ z. omega arith);
        };
        same = same;
        room = p.room;
      }

  good-pushed : Good vw.mask b s' k
  good-pushed =
      let r = row_pushed in
      record {
        name = rw r.place p.name;
        params = rw (r.arity, r.place) p.params;
        word = rw r.place r.word;
        key = rw (r.kinds, r.place, r.arity) r.key;
        head = rw (r.place, r.word) (r.head ∙ ap (λ (m : ℕ). head_of m (word_of (text_of b q)) (length (text_of b q))) p.seen.base.mask);
        plain = rw (r.kinds, r.arity) p.plain;
      }

  env-kept : env_of vw b s' k ≡ env_of vw b s k
  env-kept = let o = order-of vw b s k p.seen in env-same vw b s s' k o grown-pushed.rows k o.locals (omega arith)

  -- a binding has all those before it; a definition those before its parameters
  pub seen-pushed : (kind < 3 → c ≡ outer vw + count (env_of vw b s k)) → (3 ≤ kind → (outer vw ≤ c) × (c ≤ outer vw + count (env_of vw b s k)))
      → get_or s' 1 0 ≡ outer vw + count (env_of vw b s' (k + 1)) → get_or s' 2 0 ≡ level (env_of vw b s' (k + 1)) → Seen vw b s' (k + 1)
  seen-pushed low high c₁ c₂ =
      let r = row_pushed in
      let m : vw.mask ≡ get_or s 0 0 = sym p.seen.base.mask in
      seen-row vw b s s' k grown-pushed (omega (arith, r.kinds, p.kinds)) good-pushed
      (record {
        kinds = rw r.kinds (λ e. omega (arith, p.kinds));
        counts = rw (r.kinds, r.before, env-kept) low;
        defined = rw (r.kinds, r.before, env-kept) (λ u w. high u);
      })
      (r.link ∙ ap (λ (x : ℕ). get_or s x 0) (sym r.head))
      (ap (λ (x : ℕ). get_or s' x 0) r.head ∙ (let l = h-low in like h (λ z. omega arith) (λ z. omega arith)) ∙ pushed-head (text_of b q) s k kind q a n c lv tail p.room heads)
      (λ x u w f. let g = heads in below x (omega arith) (λ z. omega arith) (λ z. omega arith) (λ z. f (z ∙ sym r.head)))
      c₁ c₂

-- ---- a variable, label or filter argument

-- the binding of a row of the kind
abbrev pub binding : ℕ → Name → Row
binding kind x = cond (eqb kind 0) (var x) (cond (eqb kind 1) (label x) (arg x))

three : (P : ℕ → Type 0) → P 0 → P 1 → P 2 → (k : ℕ) → k < 3 → P k
three P a b c zero h = a
three P a b c (suc zero) h = b
three P a b c (suc (suc zero)) h = c
three P a b c (suc (suc (suc k))) h = absurd (omega arith)

pick-binding : (kind : ℕ) (x : Name) (d : Filter) → kind < 3
    → cond (eqb kind 0) (var x ∷ []) (cond (eqb kind 1) (label x ∷ []) (cond (eqb kind 2) (arg x ∷ []) (cond (ltb kind 5) (filter d ∷ []) []))) ≡ binding kind x ∷ []
pick-binding kind x d u =
    three
    (λ (y : ℕ). cond (eqb y 0) (var x ∷ []) (cond (eqb y 1) (label x ∷ []) (cond (eqb y 2) (arg x ∷ []) (cond (ltb y 5) (filter d ∷ []) []))) ≡ binding y x ∷ [])
    refl refl refl kind u

row-binding : (b s : List ℕ) (m k kind q : ℕ) → kind < 3 → kind_at s k ≡ kind → place_at s k ≡ q → row_at b s m k ≡ binding kind (name_at b q) ∷ []
unfolding row_at
row-binding b s m k kind q u e f = rw (e, f) (pick-binding kind (name_at b q) _ u)

count-binding : (kind : ℕ) (x : Name) (e : Env) → kind < 3 → count (binding kind x ∷ e) ≡ suc (count e)
count-binding kind x e u = three (λ (y : ℕ). count (binding y x ∷ e) ≡ suc (count e)) refl refl refl kind u

level-binding : (kind : ℕ) (x : Name) (e : Env) → kind < 3 → level (binding kind x ∷ e) ≡ level e
level-binding kind x e u = three (λ (y : ℕ). level (binding y x ∷ e) ≡ level e) refl refl refl kind u

pub seen-bound : (vw : View) (b s : List ℕ) (k kind q n : ℕ) → Seen vw b s k → length b ≤ 32768 → 4 * k + 4 ≤ length s → end_of b q ≤ length b → kind < 3 → n < 65536
    → Seen vw b (bound_as (text_of b q) s k kind q n) (k + 1) × (env_of vw b (bound_as (text_of b q) s k kind q n) (k + 1) ≡ binding kind (name_at b q) ∷ env_of vw b s k)
unfolding bound_as Fields
seen-bound vw b s k kind q n g small room name low num =
    let c : ℕ = get_or s 1 0 in
    let t : List ℕ = pushed (text_of b q) s k kind q 0 n c 0 0 in
    let s' : List ℕ = set t 1 (c + 1) in
    let p : Pushable vw b s k kind q 0 n = record { seen = g; small = small; room = room; name = name; params = tt; kinds = omega arith; plain = λ _. refl; arity = omega arith; number = num } in
    let same : length s' ≡ length s = length-set t 1 (c + 1) ∙ length-pushed (text_of b q) s k kind q 0 n c 0 0 in
    let like : Counted t s' = λ i e₁ e₂. get_or-set_other t 1 i (c + 1) 0 e₁ in
    let r = row_pushed vw b s s' k kind q 0 n c 0 0 p same like in
    let e : env_of vw b s' (k + 1) ≡ binding kind (name_at b q) ∷ env_of vw b s k =
    env-grown vw b s s' k (grown-pushed vw b s s' k kind q 0 n c 0 0 p same like) ∙ ap (λ (x : Env). x ++ env_of vw b s k) (row-binding b s' (outer vw) k kind q low r.kinds r.place) in
    let hs = heads-below vw b s k g in
    let c₁ : get_or s' 1 0 ≡ c + 1 = get_or-set_same t 1 (c + 1) 0 (omega (arith, length-pushed (text_of b q) s k kind q 0 n c 0 0)) in
    let two : (2 ≡ head_for (text_of b q) s → ⊥) = λ z. omega (arith, head-low (get_or s 0 0) (word_of (text_of b q)) (length (text_of b q))) in
    let c₂ : get_or s' 2 0 ≡ get_or s 2 0 =
    get_or-set_other t 1 2 (c + 1) 0 (λ z. omega arith) ∙ pushed-below (text_of b q) s k kind q 0 n c 0 0 room (omega (arith, g.base.mask)) 2 (omega arith) two in (
      seen-pushed vw b s s' k kind q 0 n c 0 0 p same like (λ _. g.view) (λ u. absurd (omega arith))
          (c₁ ∙ omega (arith, g.view, count-binding kind (name_at b q) (env_of vw b s k) low) ∙ ap (λ x. outer vw + count x) (sym e))
          (c₂ ∙ g.above ∙ sym (level-binding kind (name_at b q) (env_of vw b s k) low) ∙ ap (λ x. level x) (sym e)),
      e,
    )

-- the row has its number, and the rows around it are as they were
pub record Beside (s s' : List ℕ) (first k n : ℕ) : Type 0 where
  pub number : number_at s' k ≡ n
  pub below : (i : ℕ) → 4 * first ≤ i → i < 4 * k → get_or s' i 0 ≡ get_or s i 0
  pub above : (i : ℕ) → 4 * k + 4 ≤ i → get_or s' i 0 ≡ get_or s i 0

pub beside-bound : (vw : View) (b s : List ℕ) (k kind q n : ℕ) → Seen vw b s k → length b ≤ 32768 → 4 * k + 4 ≤ length s → end_of b q ≤ length b → kind < 3 → n < 65536
    → Beside s (bound_as (text_of b q) s k kind q n) vw.first k n
unfolding bound_as Fields
beside-bound vw b s k kind q n g small room name low num =
    let c : ℕ = get_or s 1 0 in
    let t : List ℕ = pushed (text_of b q) s k kind q 0 n c 0 0 in
    let s' : List ℕ = set t 1 (c + 1) in
    let p : Pushable vw b s k kind q 0 n = record { seen = g; small = small; room = room; name = name; params = tt; kinds = omega arith; plain = λ _. refl; arity = omega arith; number = num } in
    let same : length s' ≡ length s = length-set t 1 (c + 1) ∙ length-pushed (text_of b q) s k kind q 0 n c 0 0 in
    let like : Counted t s' = λ i e₁ e₂. get_or-set_other t 1 i (c + 1) 0 e₁ in
    let hs = heads-below vw b s k g in
    let m = g.base.mask in
    record {
      number = (row_pushed vw b s s' k kind q 0 n c 0 0 p same like).number;
      below = (grown-pushed vw b s s' k kind q 0 n c 0 0 p same like).rows;
      above = λ i u. get_or-set_other t 1 i (c + 1) 0 (λ z. omega arith) ∙ pushed-above (text_of b q) s k kind q 0 n c 0 0 room (omega arith) i u;
    }

-- ---- a definition

-- the row of a definition, with c bindings before its parameters
abbrev pub defined_at : List ℕ → ℕ → ℕ → ℕ → ℕ → ℕ → Fun → Filter
defined_at b q a n c lv f = record { name = name_at b q; params = names_of b a (end_of b q); number = n; count = c; level = lv; fun = f }

row-parent : (b s : List ℕ) (m k q a n c lv tail next h : ℕ) → RowIs (text_of b q) s k next h 3 q a n c lv tail → row_at b s m k ≡ filter (defined_at b q a n (c - m) lv parent) ∷ []
unfolding row_at
row-parent b s m k q a n c lv tail next h r = rw (r.kinds, r.place, r.arity, r.number, r.before, r.levels)

row-sibling : (b s : List ℕ) (m k q a n c lv tail next h : ℕ) → RowIs (text_of b q) s k next h 4 q a n c lv tail → row_at b s m k ≡ filter (defined_at b q a n (c - m) lv (sibling tail)) ∷ []
unfolding row_at
row-sibling b s m k q a n c lv tail next h r = rw (r.kinds, r.place, r.arity, r.number, r.before, r.levels, r.last)

-- the definition is seen from what follows it, with the set that its body returns
pub seen-sibling : (vw : View) (b s : List ℕ) (k q a n c lv tail : ℕ) → Seen vw b s k → length b ≤ 32768 → 4 * k + 4 ≤ length s → end_of b q ≤ length b → Fields b a (end_of b q)
    → a < 65536 → n < 65536 → c ≡ get_or s 1 0 → lv ≡ get_or s 2 0
    → Seen vw b (pushed (text_of b q) s k 4 q a n c lv tail) (k + 1)
    × (env_of vw b (pushed (text_of b q) s k 4 q a n c lv tail) (k + 1) ≡ filter (filter_of (name_at b q) (names_of b a (end_of b q)) n (env_of vw b s k) (sibling tail)) ∷ env_of vw b s k)
seen-sibling vw b s k q a n c lv tail g small room name params ha hn ec el =
    let s' : List ℕ = pushed (text_of b q) s k 4 q a n c lv tail in
    let p : Pushable vw b s k 4 q a n = record { seen = g; small = small; room = room; name = name; params = params; kinds = omega arith; plain = λ z. absurd (omega arith); arity = ha; number = hn } in
    let same : length s' ≡ length s = length-pushed (text_of b q) s k 4 q a n c lv tail in
    let like : Counted s' s' = λ i e₁ e₂. refl in
    let r = row_pushed vw b s s' k 4 q a n c lv tail p same like in
    let cs : c - outer vw ≡ count (env_of vw b s k) = omega (arith, g.view) in
    let ls : lv ≡ level (env_of vw b s k) = el ∙ g.above in
    let e : env_of vw b s' (k + 1) ≡ filter (filter_of (name_at b q) (names_of b a (end_of b q)) n (env_of vw b s k) (sibling tail)) ∷ env_of vw b s k =
    env-grown vw b s s' k (grown-pushed vw b s s' k 4 q a n c lv tail p same like)
    ∙ ap (λ (x : Env). x ++ env_of vw b s k) (row-sibling b s' (outer vw) k q a n c lv tail (get_or s (head_for (text_of b q) s) 0) (head_for (text_of b q) s) r)
    ∙ ap₂ (λ (x : ℕ) (y : ℕ). filter (defined_at b q a n x y (sibling tail)) ∷ env_of vw b s k) cs ls in
    let hs = heads-below vw b s k g in
    let hl = head-low (get_or s 0 0) (word_of (text_of b q)) (length (text_of b q)) in
    let m = g.base.mask in
    let c₁ : get_or s' 1 0 ≡ get_or s 1 0 = pushed-below (text_of b q) s k 4 q a n c lv tail room (omega arith) 1 (omega arith) (λ z. omega arith) in
    let c₂ : get_or s' 2 0 ≡ get_or s 2 0 = pushed-below (text_of b q) s k 4 q a n c lv tail room (omega arith) 2 (omega arith) (λ z. omega arith) in (
      seen-pushed vw b s s' k 4 q a n c lv tail p same like (λ u. absurd (omega arith)) (λ _. (omega (arith, g.view), omega (arith, g.view)))
          (c₁ ∙ g.view ∙ ap (λ x. outer vw + count x) (sym e)) (c₂ ∙ g.above ∙ ap (λ x. level x) (sym e)),
      e,
    )

-- the definition is seen from its own body; its parameters are in view already, e being what was before them
pub seen-parent : (vw : View) (b s : List ℕ) (k q a n c lv : ℕ) (e : Env) → Seen vw b s k → length b ≤ 32768 → 4 * k + 4 ≤ length s → end_of b q ≤ length b → Fields b a (end_of b q)
    → a < 65536 → n < 65536 → c ≡ outer vw + count e → lv ≡ level e → count e ≤ count (env_of vw b s k) → level (env_of vw b s k) ≡ level e
    → Seen vw b (set (pushed (text_of b q) s k 3 q a n c lv 0) 2 (lv + 1)) (k + 1)
    × (env_of vw b (set (pushed (text_of b q) s k 3 q a n c lv 0) 2 (lv + 1)) (k + 1) ≡ filter (filter_of (name_at b q) (names_of b a (end_of b q)) n e parent) ∷ env_of vw b s k)
seen-parent vw b s k q a n c lv e₀ g small room name params ha hn ec el more same-level =
    let t : List ℕ = pushed (text_of b q) s k 3 q a n c lv 0 in
    let s' : List ℕ = set t 2 (lv + 1) in
    let p : Pushable vw b s k 3 q a n = record { seen = g; small = small; room = room; name = name; params = params; kinds = omega arith; plain = λ z. absurd (omega arith); arity = ha; number = hn } in
    let same : length s' ≡ length s = length-set t 2 (lv + 1) ∙ length-pushed (text_of b q) s k 3 q a n c lv 0 in
    let like : Counted t s' = λ i e₁ e₂. get_or-set_other t 2 i (lv + 1) 0 e₂ in
    let r = row_pushed vw b s s' k 3 q a n c lv 0 p same like in
    let cs : c - outer vw ≡ count e₀ = omega arith in
    let e : env_of vw b s' (k + 1) ≡ filter (filter_of (name_at b q) (names_of b a (end_of b q)) n e₀ parent) ∷ env_of vw b s k =
    env-grown vw b s s' k (grown-pushed vw b s s' k 3 q a n c lv 0 p same like)
    ∙ ap (λ (x : Env). x ++ env_of vw b s k) (row-parent b s' (outer vw) k q a n c lv 0 (get_or s (head_for (text_of b q) s) 0) (head_for (text_of b q) s) r)
    ∙ ap₂ (λ (x : ℕ) (y : ℕ). filter (defined_at b q a n x y parent) ∷ env_of vw b s k) cs el in
    let hs = heads-below vw b s k g in
    let hl = head-low (get_or s 0 0) (word_of (text_of b q)) (length (text_of b q)) in
    let m = g.base.mask in
    let c₁ : get_or s' 1 0 ≡ get_or s 1 0 =
    get_or-set_other t 2 1 (lv + 1) 0 (λ z. omega arith) ∙ pushed-below (text_of b q) s k 3 q a n c lv 0 room (omega arith) 1 (omega arith) (λ z. omega arith) in
    let c₂ : get_or s' 2 0 ≡ lv + 1 = get_or-set_same t 2 (lv + 1) 0 (omega (arith, length-pushed (text_of b q) s k 3 q a n c lv 0)) in
    let l₂ : lv + 1 ≡ suc (level (env_of vw b s k)) = omega arith in (
      seen-pushed vw b s s' k 3 q a n c lv 0 p same like (λ u. absurd (omega arith)) (λ _. (omega arith, omega arith))
          (c₁ ∙ g.view ∙ ap (λ x. outer vw + count x) (sym e)) (c₂ ∙ l₂ ∙ ap (λ x. level x) (sym e)),
      e,
    )

-- ---- a note

pub kept-noted : (s : List ℕ) (k kind a z : ℕ) → 4 * k + 4 ≤ length s → take (4 * k) (noted s k kind a z) ≡ take (4 * k) s
kept-noted s k kind a z r = below-ext (4 * k) s (noted s k kind a z) (length-noted s k kind a z r) (λ i p q. noted-below s k kind a z r i p)

row-note : (b s : List ℕ) (m k kind : ℕ) → kind_at s k ≡ kind → 6 ≤ kind → row_at b s m k ≡ []
unfolding row_at
row-note b s m k kind e u =
    rw e (simp (ne_eqb kind 0 (λ z. omega arith), ne_eqb kind 1 (λ z. omega arith), ne_eqb kind 2 (λ z. omega arith), le-ltb kind 5 (omega arith)))

pub seen-noted : (vw : View) (b s : List ℕ) (k kind a z : ℕ) → Seen vw b s k → 4 * k + 4 ≤ length s → a < 65536 → 6 ≤ kind → kind < 8
    → Seen vw b (noted s k kind a z) (k + 1) × (env_of vw b (noted s k kind a z) (k + 1) ≡ env_of vw b s k)
seen-noted vw b s k kind a z g r ha low high =
    let s' : List ℕ = noted s k kind a z in
    let f = noted-below s k kind a z r in
    let hs = heads-below vw b s k g in
    let kd : kind_at s' k ≡ kind = noted-kind s k kind a z r high in
    let w : Grown vw b s s' k =
    record {
      seen = g;
      rows = λ i u v. f i v;
      fixed = record { mask = f 0 (omega arith); home = f 3 (omega arith); imports = f 4 (omega arith); includes = f 5 (omega arith); modules = f 6 (omega arith) };
      same = length-noted s k kind a z r;
      room = r;
    } in
    let e : env_of vw b s' (k + 1) ≡ env_of vw b s k = env-grown vw b s s' k w ∙ ap (λ (x : Env). x ++ env_of vw b s k) (row-note b s' (outer vw) k kind kd low) in
    (seen-note vw b s s' k w (omega arith) (f 1 (omega arith)) (f 2 (omega arith)) (λ h u v. f h (omega arith)) e, e)

-- ---- what `bind` and `push` ask for

pub bind-ready : (vw : View) (b s : List ℕ) (k kind q n : ℕ) → Seen vw b s k → length b ≤ 32768 → 4 * k + 4 ≤ length s → end_of b q ≤ length b → kind < 3 → n < 65536
    → Room s k × (end_of b q ≤ length b) × (length b ≤ 32768) × (kind < 3) × (n < 65536) × (get_or s 1 0 < 65536)
bind-ready vw b s k kind q n g small room name low num = (room-ready vw b s k g room, name, small, low, num, (counts-small vw b s k g room).0)

pub push-ready : (vw : View) (b s : List ℕ) (k kind q a n c lv : ℕ) → Seen vw b s k → length b ≤ 32768 → 4 * k + 4 ≤ length s → end_of b q ≤ length b → kind < 6 → a < 65536 → n < 65536
    → c ≤ get_or s 1 0 → lv ≤ get_or s 2 0
    → Room s k × (end_of b q ≤ length b) × (length b ≤ 32768) × (kind < 6) × (a < 65536) × (n < 65536) × (c < 65536) × (lv < 16384)
push-ready vw b s k kind q a n c lv g small room name low ha num hc hl =
    let w = counts-small vw b s k g room in (room-ready vw b s k g room, name, small, low, ha, num, omega (arith, w.0), omega (arith, w.1))

-- parameters take three bytes each
pub fields-few : (b : List ℕ) (a q : ℕ) → Fields b a q → q ≤ length b → q + 3 * a ≤ length b
unfolding Fields
fields-few b zero q f h = omega arith
fields-few b (suc a) q f h = let w = fields-few b a (end_of b q) f.1 f.0 in omega arith

-- what stands further on needs no more rows
pub pushing-later : (b s : List ℕ) (k q q' : ℕ) → Pushing b s k q → q ≤ q' → Pushing b s k q'
pushing-later b s k q q' g h = record { small = g.small; view = g.view; seen = g.seen; spare = omega (arith, g.spare) }

-- ---- a note that stays one

pub seen-stays : (vw : View) (b s : List ℕ) (k : ℕ) → Seen vw b s k → 4 * k + 4 ≤ length s → 6 ≤ kind_at s k → Seen vw b s (k + 1) × (env_of vw b s (k + 1) ≡ env_of vw b s k)
seen-stays vw b s k g r low =
    let w : Grown vw b s s k = record { seen = g; rows = λ i u v. refl; fixed = record { mask = refl; home = refl; imports = refl; includes = refl; modules = refl }; same = refl; room = r } in
    let e : env_of vw b s (k + 1) ≡ env_of vw b s k = env-grown vw b s s k w ∙ ap (λ (x : Env). x ++ env_of vw b s k) (row-note b s (outer vw) k (kind_at s k) refl low) in
    (seen-note vw b s s k w low refl refl (λ h u v. refl) e, e)
