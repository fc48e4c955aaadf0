-- What each return of the functions that say what a call means shows. Assumes nothing.
use Prim.Native.Nat.{ℕ, zero, suc, ◌+◌, ◌-◌, ◌*◌, ◌/◌, ◌≤◌, ◌<◌}
use native.Mathlib.Omega.{arith}
use mathlib.Core.Path.{◌≡◌, refl, sym, ap, subst, ◌∙◌}
use mathlib.Core.Logic.{◌⊎◌, inl, inr}
use mathlib.Core.Bool.{Bool, cond}
use mathlib.Core.Option.{Option, none, some, some-ne-none}
use mathlib.Core.List.{List, []}
use borrow.Author.Tests.{ne_eqb, eq-eqb}
use lib.ListN.{length, get_or, take, drop, length-drop}
use lib.Seq.{drop-length, length-take-le, take_all}
use Rattle.fields.specs.Number.{value}
use Rattle.tree.specs.Rose.{node, rnil, end_of, At, Row, inside}
use Rattle.tree.specs.Tree.{Number}
use Rattle.tree.specs.Form.{f_numbers}
use Rattle.rules.specs.Names.{Text}
use Rattle.rules.specs.Table.{Err, u_filter}
use Rattle.rules.specs.Rows.{Filter, filters}
use Rattle.rules.specs.Lists.{Member}
use Rattle.rules.specs.Filters.{Top, home_of, Found, nothing, argument, local, of_module, of_native, find, native_of, definition, included, import_named, found_within, found_else, filter_named, import_meant, part_meant, meant, error_at}
use Rattle.reads.specs.Bytes.{pair_at, word_of, head_of, colons_of}
use Rattle.cells.specs.Cells.{View, Seen, outer, env_of, key_of, kind_at, low_of, high_of, Kept, rows_of}
use Rattle.finds.specs.Hits as Hit
use Rattle.finds.specs.Hits.{row_of, lost_of}
use Rattle.finds.specs.Means.{matches, first_of, FoundIs, Means}
use Rattle.finds.specs.Keys.{matches-fits, fits_row}
use Rattle.finds.specs.Firsts.{first-same}
use Rattle.finds.specs.Variables.{seen-order}
use Rattle.finds.specs.Calls.{down_to, ModIs, module-find, LocalIs, NativeIs, Sees, sees}
use Rattle.finds.specs.Modules.{unset, NumberAt, numbers-end, numbers-at, includes-below, uses-includes, uses-imports, included-more, included-found, ImportIs, import-below, parting-plain, parting-parted}
use Rattle.finds.specs.Asks as asks
use Rattle.finds.specs.Asks.{Viewed, Search, Seeks, Defined, Includes, Imports, MeansMod, MeansPlain, outside_of}
use Rattle.finds.proofs.Seeks.{view_first}

-- ---- the definitions of a module

in-down : (lo n j : ℕ) → Member j (down_to lo n) → (lo ≤ j) × (j < lo + n)
unfolding down_to
in-down lo zero j m = absurd m
in-down lo (suc n) j (inl e) = (omega arith, omega arith)
in-down lo (suc n) j (inr m) = let w = in-down lo n j m in (w.0, omega (arith, w.1))

module _ (vw : View) (b s : List ℕ) (k : ℕ) (seen : Seen vw b s k) (i : ℕ) (h : i < home_of vw.top) where
  -- the module's cell
  abbrev place : ℕ
  place = get_or s (get_or s 6 0 + i) 0

  kept : Kept vw b s (get_or s (get_or s 6 0 + i) 0) (get_or vw.top.earlier i [])
  kept = seen.base.modules i (get_or vw.top.earlier i []) h refl

  kept_row : (j : ℕ) → low_of place ≤ j → j < high_of place → asks.Row b s j
  kept_row j p q = (vw.mask, ((kept.good j p q).0, omega (arith, kept.below, seen-order vw b s k seen, seen.within)))

  kept-cell : get_or s 6 0 + i < length s
  kept-cell = omega (arith, seen.base.cells, seen-order vw b s k seen, seen.within)

  kept-find : (x : Text) (w key r : ℕ) → Search x w key → r ≡ first_of (matches b s x w key) (down_to (low_of place) (high_of place - low_of place)) → (a : ℕ) → key ≡ key_of 2 (length x) a
      → ModIs (definition x a (get_or vw.top.earlier i [])) b s (outer vw) a r
  kept-find x w key r search e a q =
      let lo : ℕ = low_of place in
      let n : ℕ = high_of place - low_of place in
      let d : lo + n ≡ high_of place = omega (arith, kept.order) in
      let pos : 0 < lo = omega (arith, kept.above, seen-order vw b s k seen) in
      let u : ModIs (definition x a (filters (rows_of b s (outer vw) lo n))) b s (outer vw) a (first_of (fits_row b s x 2 a) (down_to lo n)) =
      module-find vw.mask (outer vw) b s x a lo n pos
      (λ j l g.
      let c = kept.good j l (omega (arith, d)) in
      ((c.0, (kept_row j l (omega (arith, d))).1.1), c.1, c.2)) in
      let f : first_of (matches b s x (word_of x) (key_of 2 (length x) a)) (down_to lo n) ≡ first_of (fits_row b s x 2 a) (down_to lo n) =
      first-same (matches b s x (word_of x) (key_of 2 (length x) a)) (fits_row b s x 2 a) (down_to lo n)
      (λ j m. let o = in-down lo n j m in matches-fits vw.mask b s j (kept.good j o.0 (omega (arith, d, o.1))).0 x 2 a (omega arith) search.short) in
      let g : r ≡ first_of (fits_row b s x 2 a) (down_to lo n) = e ∙ (ap (λ (z : ℕ). first_of (matches b s x z key) (down_to lo n)) search.word ∙ (ap (λ (z : ℕ). first_of (matches b s x (word_of x) z) (down_to lo n)) q ∙ f)) in
      subst (λ (z : ℕ). ModIs (definition x a (get_or vw.top.earlier i [])) b s (outer vw) a z) (sym g)
      (subst (λ (ds : List Filter). ModIs (definition x a ds) b s (outer vw) a (first_of (fits_row b s x 2 a) (down_to lo n))) kept.are u)

abbrev pub Known : List ℕ → List ℕ → ℕ → Type 0
Known b s i = (vw : View) × (k : ℕ) × Seen vw b s k × (i < home_of vw.top)

module _ (b s : List ℕ) (i : ℕ) (v : Known b s i) where
  pub known-cell : get_or s 6 0 + i < length s
  known-cell = kept-cell v.0 b s v.1 v.2 i v.3

  pub known-pos : 0 < low_of (get_or s (get_or s 6 0 + i) 0)
  known-pos = omega (arith, (kept v.0 b s v.1 v.2 i v.3).above, seen-order v.0 b s v.1 v.2)

  pub known-order : low_of (get_or s (get_or s 6 0 + i) 0) ≤ high_of (get_or s (get_or s 6 0 + i) 0)
  known-order = (kept v.0 b s v.1 v.2 i v.3).order

  pub known-row : (j : ℕ) → low_of (get_or s (get_or s 6 0 + i) 0) ≤ j → j < high_of (get_or s (get_or s 6 0 + i) 0) → asks.Row b s j
  known-row j p q = kept_row v.0 b s v.1 v.2 i v.3 j p q

pub defined-returns : (b s : List ℕ) (i : ℕ) (x : Text) (w key r : ℕ) → Search x w key
    → r ≡ first_of (matches b s x w key) (down_to (low_of (get_or s (get_or s 6 0 + i) 0)) (high_of (get_or s (get_or s 6 0 + i) 0) - low_of (get_or s (get_or s 6 0 + i) 0))) → Defined b s i x key r
defined-returns b s i x w key r search e vw k seen h a q = kept-find vw b s k seen i h x w key r search e a q

-- ---- includes

mod-none : (o : Option Filter) (b s : List ℕ) (m a r : ℕ) → ModIs o b s m a r → r ≡ 0 → o ≡ none
unfolding ModIs
mod-none none b s m a r h e = refl
mod-none (some d) b s m a r h e = absurd (omega (arith, h.0))

mod-some : (o : Option Filter) (b s : List ℕ) (m a r : ℕ) → ModIs o b s m a r → (r ≡ 0 → ⊥) → o ≡ none → ⊥
unfolding ModIs
mod-some none b s m a r h n e = n h
mod-some (some d) b s m a r h n e = some-ne-none d e

pub includes-fit : (b s : List ℕ) → Viewed b s → end_of b (get_or s 5 0) ≤ length b
includes-fit b s v = inside b (node 0x87 (get_or s 5 0) (f_numbers v.0.top.uses.includes rnil)) v.2.base.includes

-- the first i numbers are left, p is behind them
pub record Left (ns : List Number) (q p : ℕ) : Type 0 where
  pub i : ℕ
  pub at : p ≡ q + 3 + 5 * i
  pub few : i ≤ length ns

pub record Taking (b s : List ℕ) (x : Text) (key p : ℕ) : Type 0 where
  pub spot : (vw : View) (k : ℕ) → Seen vw b s k → Left vw.top.uses.includes (get_or s 5 0) p
  pub none : (vw : View) (k : ℕ) → Seen vw b s k → (a : ℕ) → key ≡ key_of 2 (length x) a → (i : ℕ) → p ≡ get_or s 5 0 + 3 + 5 * i
      → included vw.top x a (drop i vw.top.uses.includes) ≡ none

includes-row : (vw : View) (b s : List ℕ) (k : ℕ) → Seen vw b s k → Row b (f_numbers vw.top.uses.includes rnil) (get_or s 5 0 + 3) (end_of b (get_or s 5 0))
unfolding At
includes-row vw b s k seen = seen.base.includes.1

module _ (b s : List ℕ) (x : Text) (key : ℕ) where
  pub taking-start : (p : ℕ) → p ≡ end_of b (get_or s 5 0) → Taking b s x key p
  taking-start p e =
      record {
        spot = λ vw k seen. record {
          i = length vw.top.uses.includes;
          at = e ∙ numbers-end b vw.top.uses.includes (get_or s 5 0 + 3) (end_of b (get_or s 5 0)) (includes-row vw b s k seen);
          few = omega arith;
        };
        none = λ vw k seen a q i u.
            let z = numbers-end b vw.top.uses.includes (get_or s 5 0 + 3) (end_of b (get_or s 5 0)) (includes-row vw b s k seen) in
            let j : i ≡ length vw.top.uses.includes = omega (arith, z, e, u) in
            ap (λ (l : List Number). included vw.top x a l) (ap (λ (n : ℕ). drop n vw.top.uses.includes) j ∙ drop-length vw.top.uses.includes);
      }

  module _ (p : ℕ) (t : Taking b s x key p) (h : get_or s 5 0 + 3 < p) where
    -- the number before p, in a view
    module _ (vw : View) (k : ℕ) (seen : Seen vw b s k) where
      before : NumberAt b (p - 5) (get_or vw.top.uses.includes ((t.spot vw k seen).i - 1) unset)
      before =
          let l = t.spot vw k seen in
          let e : get_or s 5 0 + 3 + 5 * (l.i - 1) ≡ p - 5 = omega (arith, l.at) in
          subst (λ (q : ℕ). NumberAt b q (get_or vw.top.uses.includes (l.i - 1) unset)) e
          (numbers-at b vw.top.uses.includes (get_or s 5 0 + 3) (end_of b (get_or s 5 0)) (l.i - 1) (includes-row vw b s k seen) (omega (arith, l.at, l.few)))

      before-home : (n : ℕ) → n ≡ pair_at b (p - 5 + 3) → n < home_of vw.top
      before-home n e =
          let l = t.spot vw k seen in
          let w = includes-below (home_of vw.top) vw.top.uses.includes (l.i - 1) (uses-includes (home_of vw.top) vw.top.uses seen.base.uses) (omega (arith, l.at, l.few)) in
          omega (arith, before.is)

      -- what the includes from it on give
      before-is : (n : ℕ) → n ≡ pair_at b (p - 5 + 3) → (a : ℕ) → key ≡ key_of 2 (length x) a
          → included vw.top x a (drop ((t.spot vw k seen).i - 1) vw.top.uses.includes) ≡ definition x a (get_or vw.top.earlier n [])
      before-is n e a q =
          let l = t.spot vw k seen in
          let f : suc (l.i - 1) ≡ l.i = omega (arith, l.at) in
          let z : included vw.top x a (drop (suc (l.i - 1)) vw.top.uses.includes) ≡ none =
          ap (λ (i : ℕ). included vw.top x a (drop i vw.top.uses.includes)) f ∙ t.none vw k seen a q l.i l.at in
          included-more vw.top x a vw.top.uses.includes (l.i - 1) (omega (arith, l.at, l.few)) z
          ∙ ap (λ (i : ℕ). definition x a (get_or vw.top.earlier i [])) (sym (e ∙ before.is))

    pub taking-low : Viewed b s → (5 ≤ p) × (p - 5 + 5 ≤ length b)
    taking-low v = let l = t.spot v.0 v.1 v.2 in (omega (arith, l.at), (before v.0 v.1 v.2).fits)

    pub taking-known : Viewed b s → (n : ℕ) → n ≡ pair_at b (p - 5 + 3) → Known b s n
    taking-known v n e = (v.0, v.1, v.2, before-home v.0 v.1 v.2 n e)

    module _ (n r : ℕ) (e : n ≡ pair_at b (p - 5 + 3)) (d : Defined b s n x key r) where
      pub taking-found : (r ≡ 0 → ⊥) → Includes b s x key r
      taking-found f vw k seen a q =
          let m = d vw k seen (before-home vw k seen n e) a q in
          let u = included-found vw.top x a vw.top.uses.includes ((t.spot vw k seen).i - 1) (definition x a (get_or vw.top.earlier n [])) (before-is vw k seen n e a q)
          (mod-some (definition x a (get_or vw.top.earlier n [])) b s (outer vw) a r m f) in
          subst (λ (o : Option Filter). ModIs o b s (outer vw) a r) (sym u) m

      pub taking-more : r ≡ 0 → Taking b s x key (p - 5)
      taking-more f =
          record {
            spot = λ vw k seen. let l = t.spot vw k seen in record { i = l.i - 1; at = omega (arith, l.at); few = omega (arith, l.few) };
            none = λ vw k seen a q i u.
                let l = t.spot vw k seen in
                let j : i ≡ l.i - 1 = omega (arith, l.at, u) in
                let m = d vw k seen (before-home vw k seen n e) a q in
                ap (λ (i : ℕ). included vw.top x a (drop i vw.top.uses.includes)) j
                ∙ (before-is vw k seen n e a q ∙ mod-none (definition x a (get_or vw.top.earlier n [])) b s (outer vw) a r m f);
          }

  pub taking-done : (p : ℕ) → Taking b s x key p → p ≤ get_or s 5 0 + 3 → Includes b s x key 0
  unfolding ModIs
  taking-done p t h vw k seen a q =
      let l = t.spot vw k seen in
      let z : l.i ≡ 0 = omega (arith, l.at) in
      let u = t.none vw k seen a q 0 (omega (arith, l.at)) in
      subst (λ (o : Option Filter). ModIs o b s (outer vw) a 0) (sym u) refl

-- the same where i numbers are left
module _ (b s : List ℕ) (x : Text) (key : ℕ) where
  pub counted-start : Viewed b s → (z : ℕ) → z ≡ end_of b (get_or s 5 0) → Taking b s x key (get_or s 5 0 + 3 + 5 * ((z - get_or s 5 0 - 3) / 5))
  counted-start v z e =
      let t = taking-start b s x key z e in
      let l = t.spot v.0 v.1 v.2 in
      let f : z ≡ get_or s 5 0 + 3 + 5 * ((z - get_or s 5 0 - 3) / 5) = omega (arith, l.at) in
      subst (λ (p : ℕ). Taking b s x key p) f t

  module _ (i : ℕ) (t : Taking b s x key (get_or s 5 0 + 3 + 5 * i)) (h : 0 < i) where
    back : get_or s 5 0 + 3 + 5 * i - 5 ≡ get_or s 5 0 + 3 + 5 * (i - 1)
    back = omega arith

    low : get_or s 5 0 + 3 < get_or s 5 0 + 3 + 5 * i
    low = omega arith

    at_back : (n : ℕ) → n ≡ pair_at b (get_or s 5 0 + 3 + 5 * (i - 1) + 3) → n ≡ pair_at b (get_or s 5 0 + 3 + 5 * i - 5 + 3)
    at_back n e = e ∙ ap (λ (z : ℕ). pair_at b (z + 3)) (sym back)

    pub counted-low : Viewed b s → get_or s 5 0 + 3 + 5 * (i - 1) + 5 ≤ length b
    counted-low v = omega (arith, (taking-low b s x key (get_or s 5 0 + 3 + 5 * i) t low v).1)

    pub counted-known : Viewed b s → (n : ℕ) → n ≡ pair_at b (get_or s 5 0 + 3 + 5 * (i - 1) + 3) → Known b s n
    counted-known v n e = taking-known b s x key (get_or s 5 0 + 3 + 5 * i) t low v n (at_back n e)

    module _ (n r : ℕ) (e : n ≡ pair_at b (get_or s 5 0 + 3 + 5 * (i - 1) + 3)) (d : Defined b s n x key r) where
      pub counted-found : (r ≡ 0 → ⊥) → Includes b s x key r
      counted-found f = taking-found b s x key (get_or s 5 0 + 3 + 5 * i) t low n r (at_back n e) d f

      pub counted-more : r ≡ 0 → Taking b s x key (get_or s 5 0 + 3 + 5 * (i - 1))
      counted-more f = subst (λ (p : ℕ). Taking b s x key p) back (taking-more b s x key (get_or s 5 0 + 3 + 5 * i) t low n r (at_back n e) d f)

  pub counted-done : (i : ℕ) → Taking b s x key (get_or s 5 0 + 3 + 5 * i) → i ≤ 0 → Includes b s x key 0
  counted-done i t h = taking-done b s x key (get_or s 5 0 + 3 + 5 * i) t (omega arith)

-- ---- names with `::`

import-known : (o : Option Number) (b : List ℕ) (m r : ℕ) → ((n : Number) → o ≡ some n → value n.bytes < m) → ImportIs o b r → (r ≡ 0 → ⊥) → (r + 8 ≤ length b) × (pair_at b (r + 6) < m)
unfolding ImportIs
import-known none b m r f h n = absurd (n h)
import-known (some k) b m r f h n = (h.1, omega (arith, h.2, f k refl))

six : (r : ℕ) → r + 3 + 3 ≡ r + 6
six r = omega arith

module _ (b s : List ℕ) (x : Text) (r : ℕ) (i : Imports b s x r) (n : r ≡ 0 → ⊥) where
  import-home : (vw : View) (k : ℕ) (seen : Seen vw b s k) → (r + 8 ≤ length b) × (pair_at b (r + 6) < home_of vw.top)
  import-home vw k seen =
      import-known (import_named x vw.top.uses.imports) b (home_of vw.top) r
      (λ m e. import-below (home_of vw.top) x vw.top.uses.imports m (uses-imports (home_of vw.top) vw.top.uses seen.base.uses) e) (i vw k seen) n

  pub import-low : Viewed b s → r + 8 ≤ length b
  import-low v = (import-home v.0 v.1 v.2).0

  import-number : (vw : View) (k : ℕ) → Seen vw b s k → (m : ℕ) → m ≡ pair_at b (r + 3 + 3) → m < home_of vw.top
  import-number vw k seen m e =
      let f : pair_at b (r + 3 + 3) ≡ pair_at b (r + 6) = ap (pair_at b) (six r) in
      omega (arith, e, f, (import-home vw k seen).1)

  pub import-is : Viewed b s → (m : ℕ) → m ≡ pair_at b (r + 3 + 3) → Known b s m
  import-is v m e = (v.0, v.1, v.2, import-number v.0 v.1 v.2 m e)

seen-outer : (vw : View) (b s : List ℕ) (k : ℕ) → Seen vw b s k → outer vw ≤ get_or s 1 0
seen-outer vw b s k seen = omega (arith, seen.view)

found-row : (d : Filter) (e : Err) (b s : List ℕ) (m a r : ℕ) → ModIs (some d) b s m a r → m ≤ get_or s 1 0 → FoundIs (of_module d) e b s m a (row_of 5 r)
unfolding ModIs FoundIs
found-row d e b s m a r h l = (refl, h.1, h.2, h.3, h.4, h.5, l)

module _ (b s : List ℕ) (x : Text) (c at a : ℕ) where
  mod-lost : (o : Option Number) (t : Top) (p m : ℕ) → c ≤ length x → ImportIs o b p → p ≡ 0
      → let w = import_meant t (take c x) (drop (c + 2) x) at a o in FoundIs w.found w.missing b s m a (lost_of 1 at c)
  unfolding ImportIs import_meant FoundIs
  mod-lost none t p m l h e = (refl, refl, sym (length-take-le c x l))
  mod-lost (some n) t p m l h e = absurd (omega (arith, h.0))

  pub call-mod-lost : (p : ℕ) → c ≤ length x → Imports b s (take c x) p → p ≡ 0 → MeansMod b s x c at a (lost_of 1 at c)
  call-mod-lost p l i e vw k seen = mod-lost (import_named (take c x) vw.top.uses.imports) vw.top p (outer vw) l (i vw k seen) e

  module _ (p n key r : ℕ) (y : Text) (long : c ≤ length x) (i : Imports b s (take c x) p) (some-p : p ≡ 0 → ⊥) (en : n ≡ pair_at b (p + 3 + 3)) (ey : y ≡ drop (c + 2) x)
      (ek : key ≡ key_of 2 (length y) a) (d : Defined b s n y key r) where
    mod-none-in : (o : Option Number) (t : Top) (m : ℕ) → ImportIs o b p → ModIs (definition (drop (c + 2) x) a (get_or t.earlier n [])) b s m a r → r ≡ 0
        → let w = import_meant t (take c x) (drop (c + 2) x) at a o in FoundIs w.found w.missing b s m a (lost_of 0 (at + (c + 2)) (length y))
    unfolding ImportIs import_meant FoundIs
    mod-none-in none t m h w e = absurd (some-p h)
    mod-none-in (some k) t m h w e =
        let v : n ≡ value k.bytes = en ∙ (ap (pair_at b) (six p) ∙ h.2) in
        let z : definition (drop (c + 2) x) a (get_or t.earlier n []) ≡ none = mod-none (definition (drop (c + 2) x) a (get_or t.earlier n [])) b s m a r w e in
        let z' : definition (drop (c + 2) x) a (get_or t.earlier (value k.bytes) []) ≡ none = subst (λ (i : ℕ). definition (drop (c + 2) x) a (get_or t.earlier i []) ≡ none) v z in
        rw z' (refl, omega (arith, length-take-le c x long), ap length ey)

    mod-some-in : (o : Option Number) (t : Top) (m : ℕ) → m ≤ get_or s 1 0 → ImportIs o b p → (f : Option Filter) → definition (drop (c + 2) x) a (get_or t.earlier n []) ≡ f → ModIs f b s m a r → (r ≡ 0 → ⊥)
        → let w = import_meant t (take c x) (drop (c + 2) x) at a o in FoundIs w.found w.missing b s m a (row_of 5 r)
    unfolding ImportIs import_meant ModIs
    mod-some-in none t m l h f q w e = absurd (some-p h)
    mod-some-in (some k) t m l h none q w e = absurd (e w)
    mod-some-in (some k) t m l h (some g) q w e =
        let v : n ≡ value k.bytes = en ∙ (ap (pair_at b) (six p) ∙ h.2) in
        let z : definition (drop (c + 2) x) a (get_or t.earlier (value k.bytes) []) ≡ some g = subst (λ (i : ℕ). definition (drop (c + 2) x) a (get_or t.earlier i []) ≡ some g) v q in
        rw z (found-row g (error_at t (u_filter a) (at + length (take c x) + 2) (drop (c + 2) x)) b s m a r w l)

    in-module : (vw : View) (k : ℕ) → Seen vw b s k → ModIs (definition (drop (c + 2) x) a (get_or vw.top.earlier n [])) b s (outer vw) a r
    in-module vw k seen =
        subst (λ (z : Text). ModIs (definition z a (get_or vw.top.earlier n [])) b s (outer vw) a r) ey
        (d vw k seen (import-number b s (take c x) p i some-p vw k seen n en) a ek)

    pub call-mod-none : r ≡ 0 → MeansMod b s x c at a (lost_of 0 (at + (c + 2)) (length y))
    call-mod-none e vw k seen = mod-none-in (import_named (take c x) vw.top.uses.imports) vw.top (outer vw) (i vw k seen) (in-module vw k seen) e

    pub call-mod-some : (r ≡ 0 → ⊥) → MeansMod b s x c at a (row_of 5 r)
    call-mod-some e vw k seen =
        mod-some-in (import_named (take c x) vw.top.uses.imports) vw.top (outer vw) (seen-outer vw b s k seen) (i vw k seen)
        (definition (drop (c + 2) x) a (get_or vw.top.earlier n [])) refl (in-module vw k seen) e

-- ---- names without it

outside-is : (o : Option Filter) (v : Found) (e : Err) (b s : List ℕ) (m a r : ℕ) (f : Hit.Found) → ModIs o b s m a r → m ≤ get_or s 1 0 → FoundIs v e b s m a f
    → FoundIs (found_within o v) e b s m a (outside_of r f)
unfolding ModIs outside_of
outside-is none v e b s m a r f h l w = subst (λ (t : Bool). FoundIs v e b s m a (cond t f (row_of 5 r))) (sym (eq-eqb r 0 h)) w
outside-is (some d) v e b s m a r f h l w =
    subst (λ (t : Bool). FoundIs (of_module d) e b s m a (cond t f (row_of 5 r))) (sym (ne_eqb r 0 (λ q. omega (arith, h.0)))) (found-row d e b s m a r h l)

module _ (b s : List ℕ) (m a c r : ℕ) where
  sees-none : (o v : Found) → Sees o v b s m a c r → r ≡ 0 → (o ≡ nothing) × (v ≡ nothing)
  unfolding Sees LocalIs NativeIs
  sees-none nothing nothing h e = (refl, refl)
  sees-none nothing (argument i) h e = absurd h
  sees-none nothing (local d) h e = absurd h
  sees-none nothing (of_module d) h e = absurd h
  sees-none nothing (of_native i ps) h e = absurd (omega (arith, h.0))
  sees-none (argument i) v h e = absurd (omega (arith, h.0))
  sees-none (local d) v h e = absurd (omega (arith, h.0))
  sees-none (of_module d) v h e = absurd h
  sees-none (of_native i ps) v h e = absurd h

  sees-within : (o v : Found) → Sees o v b s m a c r → (r ≡ 0 → ⊥) → 4 * r + 4 ≤ length s
  unfolding Sees LocalIs NativeIs
  sees-within nothing nothing h e = absurd (e h)
  sees-within nothing (argument i) h e = absurd h
  sees-within nothing (local d) h e = absurd h
  sees-within nothing (of_module d) h e = absurd h
  sees-within nothing (of_native i ps) h e = h.2.within
  sees-within (argument i) v h e = h.2.within
  sees-within (local d) v h e = h.2.within
  sees-within (of_module d) v h e = absurd h
  sees-within (of_native i ps) v h e = absurd h

  sees-argument : (o v w : Found) (x : Err) → c ≡ get_or s 1 0 → Sees o v b s m a c r → kind_at s r ≡ 2 → (r ≡ 0 → ⊥) → FoundIs (found_else o w) x b s m a (row_of 2 r)
  unfolding Sees LocalIs NativeIs FoundIs
  sees-argument nothing nothing w x q h k e = absurd (e h)
  sees-argument nothing (argument i) w x q h k e = absurd h
  sees-argument nothing (local d) w x q h k e = absurd h
  sees-argument nothing (of_module d) w x q h k e = absurd h
  sees-argument nothing (of_native i ps) w x q h k e = absurd (omega (arith, h.1))
  sees-argument (argument i) v w x q h k e = (refl, h.2, omega (arith, h.3), h.4)
  sees-argument (local d) v w x q h k e = absurd (either h.1)
    where
      either : (kind_at s r ≡ 3) ⊎ (kind_at s r ≡ 4) → ⊥
      either (inl u) = omega arith
      either (inr u) = omega arith
  sees-argument (of_module d) v w x q h k e = absurd h
  sees-argument (of_native i ps) v w x q h k e = absurd h

  sees-parent : (o v w : Found) (x : Err) → c ≡ get_or s 1 0 → Sees o v b s m a c r → kind_at s r ≡ 3 → (r ≡ 0 → ⊥) → FoundIs (found_else o w) x b s m a (row_of 3 r)
  unfolding Sees LocalIs NativeIs FoundIs
  sees-parent nothing nothing w x q h k e = absurd (e h)
  sees-parent nothing (argument i) w x q h k e = absurd h
  sees-parent nothing (local d) w x q h k e = absurd h
  sees-parent nothing (of_module d) w x q h k e = absurd h
  sees-parent nothing (of_native i ps) w x q h k e = absurd (omega (arith, h.1))
  sees-parent (argument i) v w x q h k e = absurd (omega (arith, h.1))
  sees-parent (local d) v w x q h k e = (inl (refl, k), h.2, h.3, h.4, h.5, omega (arith, h.6))
  sees-parent (of_module d) v w x q h k e = absurd h
  sees-parent (of_native i ps) v w x q h k e = absurd h

  sees-sibling : (o v w : Found) (x : Err) → c ≡ get_or s 1 0 → Sees o v b s m a c r → kind_at s r ≡ 4 → (r ≡ 0 → ⊥) → FoundIs (found_else o w) x b s m a (row_of 4 r)
  unfolding Sees LocalIs NativeIs FoundIs
  sees-sibling nothing nothing w x q h k e = absurd (e h)
  sees-sibling nothing (argument i) w x q h k e = absurd h
  sees-sibling nothing (local d) w x q h k e = absurd h
  sees-sibling nothing (of_module d) w x q h k e = absurd h
  sees-sibling nothing (of_native i ps) w x q h k e = absurd (omega (arith, h.1))
  sees-sibling (argument i) v w x q h k e = absurd (omega (arith, h.1))
  sees-sibling (local d) v w x q h k e = (inr (refl, k), h.2, h.3, h.4, h.5, omega (arith, h.6))
  sees-sibling (of_module d) v w x q h k e = absurd h
  sees-sibling (of_native i ps) v w x q h k e = absurd h

  -- a row that is none of these is a native's
  sees-native : (o v : Found) (i : Option Filter) (x : Err) (j : ℕ) → Sees o v b s m a c r → (kind_at s r ≡ 2 → ⊥) → (kind_at s r ≡ 3 → ⊥) → (kind_at s r ≡ 4 → ⊥) → (r ≡ 0 → ⊥)
      → ModIs i b s m a j → m ≤ get_or s 1 0 → FoundIs (found_else o (found_within i v)) x b s m a (outside_of j (row_of 6 r))
  unfolding Sees LocalIs NativeIs FoundIs
  sees-native nothing nothing i x j h k2 k3 k4 e w l = absurd (e h)
  sees-native nothing (argument n) i x j h k2 k3 k4 e w l = absurd h
  sees-native nothing (local d) i x j h k2 k3 k4 e w l = absurd h
  sees-native nothing (of_module d) i x j h k2 k3 k4 e w l = absurd h
  sees-native nothing (of_native n ps) i x j h k2 k3 k4 e w l = outside-is i (of_native n ps) x b s m a j (row_of 6 r) w l (refl, h.2, h.3, h.4, h.5)
  sees-native (argument n) v i x j h k2 k3 k4 e w l = absurd (k2 h.1)
  sees-native (local d) v i x j h k2 k3 k4 e w l = absurd (either h.1)
    where
      either : (kind_at s r ≡ 3) ⊎ (kind_at s r ≡ 4) → ⊥
      either (inl u) = k3 u
      either (inr u) = k4 u
  sees-native (of_module d) v i x j h k2 k3 k4 e w l = absurd h
  sees-native (of_native n ps) v i x j h k2 k3 k4 e w l = absurd h

module _ (b s : List ℕ) (x : Text) (at a : ℕ) (short : length x < 65536) (w key h r : ℕ) (ew : w ≡ word_of x) (ek : key ≡ key_of 2 (length x) a) (eh : h ≡ head_of (get_or s 0 0) w (length x))
    (p : 8 ≤ h) (q : h ≤ 8 + get_or s 0 0) (f : Seeks b s (get_or s h 0) x w key r) where
  local-sees : (vw : View) (k : ℕ) → Seen vw b s k → Sees (find x a (env_of vw b s k)) (native_of x a 0 vw.top.natives) b s (outer vw) a (get_or s 1 0) r
  local-sees vw k seen =
      let g : Seeks b s (get_or s h 0) x (word_of x) (key_of 2 (length x) a) r = subst (λ (u : ℕ). Seeks b s (get_or s h 0) x u (key_of 2 (length x) a) r) ew (subst (λ (u : ℕ). Seeks b s (get_or s h 0) x w u r) ek f) in
      let e = view_first vw b s k seen x 2 a (omega arith) short h r (eh ∙ ap (λ (u : ℕ). head_of (get_or s 0 0) u (length x)) ew) p q g in
      subst (λ (z : ℕ). Sees (find x a (env_of vw b s k)) (native_of x a 0 vw.top.natives) b s (outer vw) a (get_or s 1 0) z) (sym e) (sees vw b s k seen x a short)

  pub local-within : Viewed b s → (r ≡ 0 → ⊥) → 4 * r + 4 ≤ length s
  local-within v n =
      sees-within b s (outer v.0) a (get_or s 1 0) r (find x a (env_of v.0 b s v.1)) (native_of x a 0 v.0.top.natives) (local-sees v.0 v.1 v.2) n

  pub local-lost : r ≡ 0 → (j l : ℕ) → l ≡ length x → Includes b s x key j → (o : Hit.Found) → o ≡ outside_of j (lost_of 0 at l) → MeansPlain b s x at a o
  unfolding filter_named FoundIs
  local-lost e j l el i o eo vw k seen =
      let t = vw.top in
      let env = env_of vw b s k in
      let z = sees-none b s (outer vw) a (get_or s 1 0) r (find x a env) (native_of x a 0 t.natives) (local-sees vw k seen) e in
      subst (λ (u : Hit.Found). FoundIs (filter_named t x a env) (error_at t (u_filter a) at x) b s (outer vw) a u) (sym eo)
      (rw (z.0, z.1)
      (outside-is (included t x a t.uses.includes) nothing (error_at t (u_filter a) at x) b s (outer vw) a j (lost_of 0 at l) (i vw k seen a ek) (seen-outer vw b s k seen) (refl, refl, el)))

  module _ (n : r ≡ 0 → ⊥) (kind : ℕ) (eq : kind ≡ kind_at s r) where
    pub local-argument : kind ≡ 2 → (o : Hit.Found) → o ≡ row_of 2 r → MeansPlain b s x at a o
    unfolding filter_named
    local-argument e o eo vw k seen =
        let t = vw.top in
        subst (λ (u : Hit.Found). FoundIs (filter_named t x a (env_of vw b s k)) (error_at t (u_filter a) at x) b s (outer vw) a u) (sym eo)
        (sees-argument b s (outer vw) a (get_or s 1 0) r (find x a (env_of vw b s k)) (native_of x a 0 t.natives) (found_within (included t x a t.uses.includes) (native_of x a 0 t.natives))
        (error_at t (u_filter a) at x) refl (local-sees vw k seen) (sym eq ∙ e) n)

    pub local-parent : kind ≡ 3 → (o : Hit.Found) → o ≡ row_of 3 r → MeansPlain b s x at a o
    unfolding filter_named
    local-parent e o eo vw k seen =
        let t = vw.top in
        subst (λ (u : Hit.Found). FoundIs (filter_named t x a (env_of vw b s k)) (error_at t (u_filter a) at x) b s (outer vw) a u) (sym eo)
        (sees-parent b s (outer vw) a (get_or s 1 0) r (find x a (env_of vw b s k)) (native_of x a 0 t.natives) (found_within (included t x a t.uses.includes) (native_of x a 0 t.natives))
        (error_at t (u_filter a) at x) refl (local-sees vw k seen) (sym eq ∙ e) n)

    pub local-sibling : kind ≡ 4 → (o : Hit.Found) → o ≡ row_of 4 r → MeansPlain b s x at a o
    unfolding filter_named
    local-sibling e o eo vw k seen =
        let t = vw.top in
        subst (λ (u : Hit.Found). FoundIs (filter_named t x a (env_of vw b s k)) (error_at t (u_filter a) at x) b s (outer vw) a u) (sym eo)
        (sees-sibling b s (outer vw) a (get_or s 1 0) r (find x a (env_of vw b s k)) (native_of x a 0 t.natives) (found_within (included t x a t.uses.includes) (native_of x a 0 t.natives))
        (error_at t (u_filter a) at x) refl (local-sees vw k seen) (sym eq ∙ e) n)

    pub local-native : (kind ≡ 2 → ⊥) → (kind ≡ 3 → ⊥) → (kind ≡ 4 → ⊥) → (j : ℕ) → Includes b s x key j → (f o : Hit.Found) → f ≡ row_of 6 r → o ≡ outside_of j f → MeansPlain b s x at a o
    unfolding filter_named
    local-native k2 k3 k4 j i f o ef eo vw k seen =
        let t = vw.top in
        subst (λ (u : Hit.Found). FoundIs (filter_named t x a (env_of vw b s k)) (error_at t (u_filter a) at x) b s (outer vw) a u) (sym (eo ∙ ap (outside_of j) ef))
        (sees-native b s (outer vw) a (get_or s 1 0) r (find x a (env_of vw b s k)) (native_of x a 0 t.natives) (included t x a t.uses.includes) (error_at t (u_filter a) at x) j
        (local-sees vw k seen) (λ u. k2 (eq ∙ u)) (λ u. k3 (eq ∙ u)) (λ u. k4 (eq ∙ u)) n (i vw k seen a ek) (seen-outer vw b s k seen))

-- ---- both

pub call-parted : (b s : List ℕ) (x : Text) (c at a : ℕ) (r : Hit.Found) → c ≡ colons_of x → c < length x → MeansMod b s x c at a r → Means b s x at a r
unfolding meant part_meant
call-parted b s x c at a r e l f vw k seen =
    let d : colons_of x < length x = omega (arith, e) in
    let g = subst (λ (i : ℕ). MeansMod b s x i at a r) e f in
    rw (parting-parted x d).0 (g vw k seen)

pub call-plain : (b s : List ℕ) (x : Text) (c at a : ℕ) (r : Hit.Found) → c ≡ colons_of x → length x ≤ c → MeansPlain b s x at a r → Means b s x at a r
unfolding meant part_meant
call-plain b s x c at a r e l f vw k seen =
    let d : length x ≤ colons_of x = omega (arith, e) in
    rw (parting-plain x d) (f vw k seen)

-- ---- the part of a name behind its `::`

module _ (b s : List ℕ) (x : Text) (c at a : ℕ) (ec : c ≡ colons_of x) (lt : c < length x) where
  abbrev pub rest : Text
  rest = take (length x - (c + 2)) (drop (c + 2) x)

  pub rest-fits : c + 2 ≤ length x
  rest-fits =
      let d : colons_of x < length x = omega (arith, ec) in
      omega (arith, ec, (parting-parted x d).1)

  rest-is : rest ≡ drop (c + 2) x
  rest-is = take_all (length x - (c + 2)) (drop (c + 2) x) (omega (arith, length-drop (c + 2) x))

  pub rest-length : length rest ≡ length x - (c + 2)
  rest-length = ap length rest-is ∙ length-drop (c + 2) x

  pub mod-returns : (p : ℕ) → Imports b s (take c x) p → p ≡ 0 → (o : Hit.Found) → o ≡ lost_of 1 at c → MeansMod b s x c at a o
  mod-returns p i e o eo = subst (λ (u : Hit.Found). MeansMod b s x c at a u) (sym eo) (call-mod-lost b s x c at a p (omega arith) i e)

  module _ (p n key r : ℕ) (i : Imports b s (take c x) p) (some-p : p ≡ 0 → ⊥) (en : n ≡ pair_at b (p + 3 + 3)) (ek : key ≡ key_of 2 (length rest) a) (d : Defined b s n rest key r) where
    pub mod-returns-none : r ≡ 0 → (o : Hit.Found) → o ≡ lost_of 0 (at + (c + 2)) (length rest) → MeansMod b s x c at a o
    mod-returns-none e o eo =
        subst (λ (u : Hit.Found). MeansMod b s x c at a u) (sym eo)
        (call-mod-none b s x c at a p n key r rest (omega arith) i some-p en rest-is ek d e)

    pub mod-returns-some : (r ≡ 0 → ⊥) → (o : Hit.Found) → o ≡ row_of 5 r → MeansMod b s x c at a o
    mod-returns-some e o eo =
        subst (λ (u : Hit.Found). MeansMod b s x c at a u) (sym eo)
        (call-mod-some b s x c at a p n key r rest (omega arith) i some-p en rest-is ek d e)
