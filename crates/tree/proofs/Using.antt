-- Module numbers: where they stand, and the two loops over them. Assumes nothing.
use Prim.Native.Nat.{ℕ, suc, ◌+◌, ◌*◌, ◌≤◌, ◌<◌}
use native.Mathlib.Numerals.{add-one}
use native.Mathlib.Omega.{arith}
use mathlib.Core.Path.{◌≡◌, refl, sym, ap, subst, ◌∙◌}
use mathlib.Core.List.{List, [], ◌∷◌}
use mathlib.Core.Logic.{◌⊎◌, inl, inr}
use mathlib.Core.Bool.{Bool, true, false}
use lib.Dec.{ltb}
use lib.ListN.{length, get_or, take, drop, length-drop}
use lib.Seq.{drop-cons, length-take-le}
use borrow.Author.Tests.{eqb-true, lt-ltb, le-ltb}
use Rattle.fields.specs.Number.{value}
use Rattle.tree.specs.Table.{shapes}
use Rattle.tree.specs.Leaf.{shape, leaf_ok}
use Rattle.tree.specs.Rose.{Rose, Roses, node, rnil, rcons, end_of, text_of, tag_of, place_of, Row, row-le, tagged}
use Rattle.tree.specs.Rose as rose
use Rattle.tree.specs.Tree.{Number, Globals, Import, Uses, Module, Main, Tree, no_globals, a_globals}
use Rattle.tree.specs.Form.{At, f_name, f_number, f_numbers, f_natives, f_term, f_import, f_imports, f_uses, f_globals, f_module, f_modules, f_main, f_tree}
use Rattle.tree.specs.Numbers.{imported, included, below, uses_below, numbered_from, numbered, two_at, Held, none, more, Using, From}
use Rattle.tree.specs.Places.{Chain}
use Rattle.tree.specs.Places as Places
use Rattle.tree.proofs.Leaves.{both_yes, both-no}

-- ---- where the numbers stand

-- a field that is first in a row stands where the row starts
moved : (b : List ℕ) (k q p : ℕ) (rs : Roses) → q ≡ p → rose.At b (node k q rs) → (end_of b p ≤ length b) × Row b rs (p + 3) (end_of b p)
unfolding rose.At
moved b k q p rs e h = (subst (λ (j : ℕ). end_of b j ≤ length b) e h.0.fits, subst (λ (j : ℕ). Row b rs (j + 3) (end_of b j)) e h.1)

two-text : (b : List ℕ) (q : ℕ) → q + 5 ≤ length b → take 2 (drop (q + 3) b) ≡ get_or b (q + 3) 0 ∷ get_or b (q + 3 + 1) 0 ∷ []
two-text b q h =
    let e : q + 3 + 1 ≡ suc (q + 3) = omega arith in
    rw e (ap (take 2) (drop-cons b (q + 3) 0 (omega arith) ∙ ap (◌∷◌ (get_or b (q + 3) 0)) (drop-cons b (suc (q + 3)) 0 (omega arith))))

two-long : (x : List ℕ) → leaf_ok (shape 0x8D) x ≡ true → length x ≡ 2
unfolding leaf_ok shape shapes
two-long x h = eqb-true (length x) 2 h

number-leaf : (b : List ℕ) (n : Number) (q : ℕ) → n.place ≡ q → rose.At b (f_number 0x8D n) → (end_of b q ≡ q + 5) × (end_of b q ≤ length b) × (value n.bytes ≡ two_at b (q + 3))
unfolding rose.At value
number-leaf b n q e h =
    let f : end_of b q ≤ length b = subst (λ (j : ℕ). end_of b j ≤ length b) e h.0.fits in
    let x : text_of b q ≡ n.bytes = ap (text_of b) (sym e) ∙ h.1 in
    let l : length (text_of b q) ≡ get_or b (q + 1) 0 + get_or b (q + 2) 0 * 256 = length-take-le (get_or b (q + 1) 0 + get_or b (q + 2) 0 * 256) (drop (q + 3) b) (simp length-drop (omega arith)) in
    let z : length (text_of b q) ≡ 2 = ap length x ∙ two-long n.bytes h.2 in
    let m : get_or b (q + 1) 0 + get_or b (q + 2) 0 * 256 ≡ 2 = sym l ∙ z in
    let s : (v w : ℕ) → v + 256 * (w + 256 * 0) ≡ v + w * 256 = λ v w. omega arith in
    let t : text_of b q ≡ get_or b (q + 3) 0 ∷ get_or b (q + 3 + 1) 0 ∷ [] = ap (λ (j : ℕ). take j (drop (q + 3) b)) m ∙ two-text b q (omega arith) in
    (omega arith, f, ap value (sym x ∙ t) ∙ s (get_or b (q + 3) 0) (get_or b (q + 3 + 1) 0))

includes-held : (b : List ℕ) (ns : List Number) (p e : ℕ) → Row b (f_numbers ns rnil) p e → Held b 3 e (included ns) p
unfolding rose.At f_numbers included
includes-held b [] p e h = none h
includes-held b (n ∷ ns) p e h =
    let w = number-leaf b n p h.0 h.1 in
    let m : end_of b p ≤ e = row-le b (f_numbers ns rnil) (end_of b p) e h.2 in
    let r : p + 3 + 2 ≤ end_of b p = omega (arith, w.0) in
    more r m w.2 (includes-held b ns (end_of b p) e h.2)

imports-held : (b : List ℕ) (is : List Import) (p e : ℕ) → Row b (f_imports is rnil) p e → Held b 6 e (imported is) p
unfolding rose.At f_imports f_import imported
imports-held b [] p e h = none h
imports-held b (i ∷ is) p e h =
    let r = moved b 0x8A i.place p (rcons (f_number 0x8D i.number) (rcons (f_name 0x90 i.name) rnil)) h.0 h.1 in
    let w = number-leaf b i.number (p + 3) r.1.0 r.1.1 in
    let l : end_of b (p + 3) ≤ end_of b p = row-le b (rcons (f_name 0x90 i.name) rnil) (end_of b (p + 3)) (end_of b p) r.1.2 in
    let m : end_of b p ≤ e = row-le b (f_imports is rnil) (end_of b p) e h.2 in
    let s : p + 3 + 3 ≡ p + 6 = omega arith in
    let n : p + 6 + 2 ≤ end_of b p = omega (arith, w.0) in
    more n m (w.2 ∙ ap (two_at b) s) (imports-held b is (end_of b p) e h.2)

-- ---- a module or main

record Stands (b : List ℕ) (p : ℕ) (u : Uses) : Type 0 where
  pub imports : Held b 6 (end_of b (p + 3)) (imported u.imports) (p + 6)
  pub includes : Held b 3 (end_of b (end_of b (p + 3))) (included u.includes) (end_of b (p + 3) + 3)
  pub first : end_of b (p + 3) ≤ length b
  pub second : end_of b (end_of b (p + 3)) ≤ length b

stands : (b : List ℕ) (p : ℕ) (u : Uses) → Using b p u → Stands b p u
unfolding rose.At f_uses
stands b p u h =
    let r = h.row in
    let i = moved b 0x86 u.imports_at (p + 3) (f_imports u.imports rnil) r.0 r.1 in
    let n = moved b 0x87 u.includes_at (end_of b (p + 3)) (f_numbers u.includes rnil) r.2.0 r.2.1 in
    let s : p + 3 + 3 ≡ p + 6 = omega arith in
    record {
      imports = subst (λ (j : ℕ). Held b 6 (end_of b (p + 3)) (imported u.imports) j) s (imports-held b u.imports (p + 3 + 3) (end_of b (p + 3)) i.1);
      includes = includes-held b u.includes (end_of b (p + 3) + 3) (end_of b (end_of b (p + 3))) n.1;
      first = i.0;
      second = n.0;
    }

-- q is where its includes start, f where its first import does
module _ (b : List ℕ) (p q f : ℕ) (i : q ≡ end_of b (p + 3)) (k : f ≡ p + 6) (u : Uses) (h : Using b p u) where
  import-numbers : Held b 6 q (imported u.imports) f
  import-numbers = let s = stands b p u h in subst (Held b 6 q (imported u.imports)) (sym k) (subst (λ (j : ℕ). Held b 6 j (imported u.imports) (p + 6)) (sym i) s.imports)

  pub imports-at : (q ≤ length b) × ((vs : List ℕ) × Held b 6 q vs f)
  imports-at = let s = stands b p u h in (subst (λ (j : ℕ). j ≤ length b) (sym i) s.first, (imported u.imports, import-numbers))

  pub includes-fit : end_of b q ≤ length b
  includes-fit = let s = stands b p u h in subst (λ (j : ℕ). end_of b j ≤ length b) (sym i) s.second

  pub not-below : (m : ℕ) → ((vs : List ℕ) → Held b 6 q vs f → false ≡ below m vs) → false ≡ uses_below m u
  unfolding uses_below
  not-below m g = both-no (below m (imported u.imports)) (below m (included u.includes)) (sym (g (imported u.imports) import-numbers))

  -- e is where its includes end, g where the first of them starts
  module _ (e g : ℕ) (l : e ≡ end_of b q) (n : g ≡ q + 3) where
    include-numbers : Held b 3 e (included u.includes) g
    include-numbers =
        let s = stands b p u h in
        let w : end_of b (end_of b (p + 3)) ≡ e = ap (end_of b) (sym i) ∙ sym l in
        let y : Held b 3 e (included u.includes) (q + 3) = subst (λ (j : ℕ). Held b 3 e (included u.includes) (j + 3)) (sym i) (subst (λ (j : ℕ). Held b 3 j (included u.includes) (end_of b (p + 3) + 3)) w s.includes) in
        subst (Held b 3 e (included u.includes)) (sym n) y

    pub includes-at : (e ≤ length b) × ((vs : List ℕ) × Held b 3 e vs g)
    includes-at = (subst (λ (j : ℕ). j ≤ length b) (sym l) includes-fit, (included u.includes, include-numbers))

    pub both_below : (m : ℕ) (r : Bool) → ((vs : List ℕ) → Held b 6 q vs f → true ≡ below m vs) → ((vs : List ℕ) → Held b 3 e vs g → r ≡ below m vs) → r ≡ uses_below m u
    unfolding uses_below
    both_below m r x y = y (included u.includes) include-numbers ∙ both_yes (below m (imported u.imports)) (below m (included u.includes)) (sym (x (imported u.imports) import-numbers))

-- ---- the loop over numbers

-- the field at q, of a row that is not over, and the rest
pub record First (b : List ℕ) (d e : ℕ) (vs : List ℕ) (q : ℕ) : Type 0 where
  pub rest : List ℕ
  pub is : vs ≡ two_at b (q + d) ∷ rest
  pub room : q + d + 2 ≤ end_of b q
  pub fits : end_of b q ≤ e
  pub held : Held b d e rest (end_of b q)

pub first_of : (b : List ℕ) (d e : ℕ) (vs : List ℕ) (q : ℕ) → q < e → Held b d e vs q → First b d e vs q
first_of b d e us q h (none z) = absurd (omega arith)
first_of b d e us q h (more {v} {vs} x y w r) = record { rest = vs; is = ap (λ (j : ℕ). j ∷ vs) w; room = x; fits = y; held = r }

over : (b : List ℕ) (d e : ℕ) (vs : List ℕ) (q : ℕ) → e ≤ q → Held b d e vs q → vs ≡ []
over b d e vs q h (none z) = refl
over b d e vs q h (more x y w r) = absurd (omega arith)

-- the numbers from q on are all below m exactly if those from p on are
abbrev pub Counting : List ℕ → ℕ → ℕ → ℕ → ℕ → ℕ → Type 0
Counting b d e m p q = (vs : List ℕ) → Held b d e vs p → (ws : List ℕ) × Held b d e ws q × (below m ws ≡ below m vs)

pub counting-start : (b : List ℕ) (d e m p : ℕ) → Counting b d e m p p
counting-start b d e m p = λ vs h. (vs, h, refl)

module _ (b : List ℕ) (d e m p q : ℕ) (c : Counting b d e m p q) where
  pub counting-next : (n v : ℕ) → q < e → v ≡ two_at b (q + d) → v < m → n ≡ end_of b q → Counting b d e m p n
  unfolding below
  counting-next n v h w l k = λ vs x.
      let y = c vs x in
      let f = first_of b d e y.0 q h y.1 in
      let i : ltb (two_at b (q + d)) m ≡ true = ap (λ (j : ℕ). ltb j m) (sym w) ∙ lt-ltb v m l in
      (f.rest, subst (Held b d e f.rest) (sym k) f.held, both_yes (ltb (two_at b (q + d)) m) (below m f.rest) i ∙ ap (below m) (sym f.is) ∙ y.2)

  pub counting-wrong : (v : ℕ) → q < e → v ≡ two_at b (q + d) → m ≤ v → (vs : List ℕ) → Held b d e vs p → false ≡ below m vs
  unfolding below
  counting-wrong v h w l vs x =
      let y = c vs x in
      let f = first_of b d e y.0 q h y.1 in
      let i : ltb (two_at b (q + d)) m ≡ false = ap (λ (j : ℕ). ltb j m) (sym w) ∙ le-ltb v m l in
      both-no (ltb (two_at b (q + d)) m) (below m f.rest) i ∙ ap (below m) (sym f.is) ∙ y.2

  pub counting-end : e ≤ q → (vs : List ℕ) → Held b d e vs p → true ≡ below m vs
  unfolding below
  counting-end h vs x = let y = c vs x in ap (below m) (sym (over b d e y.0 q h y.1)) ∙ y.2

-- the bytes of the number at q are there
pub room_at : (b : List ℕ) (d e q : ℕ) → q < e → ((vs : List ℕ) × Held b d e vs q) → (q + d + 2 ≤ end_of b q) × (end_of b q ≤ e)
room_at b d e q h x = let f = first_of b d e x.0 q h x.1 in (f.room, f.fits)

pub rest_at : (b : List ℕ) (d e q n : ℕ) → q < e → ((vs : List ℕ) × Held b d e vs q) → n ≡ end_of b q → (vs : List ℕ) × Held b d e vs n
rest_at b d e q n h x k = let f = first_of b d e x.0 q h x.1 in (f.rest, subst (Held b d e f.rest) (sym k) f.held)

-- both of what is left from q on
abbrev pub Still : List ℕ → ℕ → ℕ → ℕ → ℕ → ℕ → Type 0
Still b d e m p q = Counting b d e m p q × ((vs : List ℕ) × Held b d e vs q)

-- fields that hold numbers stand one after the other
held-chain : (b : List ℕ) (d e : ℕ) (vs : List ℕ) (q : ℕ) → Held b d e vs q → Chain b e q
held-chain b d e vs q (none h) = Places.over h
held-chain b d e us q (more {v} {vs} x y w r) = Places.field y (held-chain b d e vs (end_of b q) r)

pub chained : (b : List ℕ) (d e q : ℕ) → ((vs : List ℕ) × Held b d e vs q) → Chain b e q
chained b d e q x = held-chain b d e x.0 q x.1

-- ---- after natives and globals

-- where the tree's second member starts
pub record Opened (b : List ℕ) (t : Tree) : Type 0 where
  pub first : end_of b 3 ≤ length b
  pub row : Row b (f_globals t.globals (f_modules t.modules (rcons (f_main t.main) rnil))) (end_of b 3) (length b)

pub opened : (b : List ℕ) (t : Tree) → At b t → Opened b t
unfolding At rose.At f_tree
opened b t h =
    let row = rcons (node 0x81 t.natives_at (f_natives t.natives rnil)) (f_globals t.globals (f_modules t.modules (rcons (f_main t.main) rnil))) in
    let r : Row b row 3 (end_of b 0) = (moved b 0x80 t.place 0 row h.0 h.1).1 in
    let w : Row b row 3 (length b) = subst (Row b row 3) h.2 r in
    record { first = (moved b 0x81 t.natives_at 3 (f_natives t.natives rnil) w.0 w.1).0; row = w.2 }

-- the tag of a field that is first in a row
tag_at : (b : List ℕ) (r : Rose) (p k : ℕ) → place_of r ≡ p → rose.At b r → tag_of r ≡ k → get_or b p 0 ≡ k
tag_at b r p k e h q = ap (λ (j : ℕ). get_or b j 0) (sym e) ∙ tagged b r h ∙ q

-- a row of modules and main is not empty, and does not start with globals
some : (b : List ℕ) (ms : List Module) (m : Main) (p : ℕ) → From b ms m p → (end_of b p ≤ length b) × ((get_or b p 0 ≡ 0x82) → ⊥)
unfolding rose.At f_modules f_module f_main
some b [] m p h = (omega (arith, h.2), λ k. omega (arith, k, tag_at b (f_main m) p 0x84 h.0 h.1 refl))
some b (x ∷ xs) m p h =
    (row-le b (f_modules xs (rcons (f_main m) rnil)) (end_of b p) (length b) h.2, λ k. omega (arith, k, tag_at b (f_module x) p 0x83 h.0 h.1 refl))

module _ (b : List ℕ) (ms : List Module) (m : Main) (q : ℕ) where
  second-in : (g : Globals) → Row b (f_globals g (f_modules ms (rcons (f_main m) rnil))) q (length b) → end_of b q ≤ length b
  unfolding rose.At f_globals
  second-in no_globals h = (some b ms m q h).0
  second-in (a_globals p xs) h = row-le b (f_modules ms (rcons (f_main m) rnil)) (end_of b q) (length b) h.2

  with_in : (g : Globals) → Row b (f_globals g (f_modules ms (rcons (f_main m) rnil))) q (length b) → get_or b q 0 ≡ 0x82 → From b ms m (end_of b q)
  unfolding rose.At f_globals
  with_in no_globals h k = absurd ((some b ms m q h).1 k)
  with_in (a_globals p xs) h k = h.2

  without_in : (g : Globals) → Row b (f_globals g (f_modules ms (rcons (f_main m) rnil))) q (length b) → (get_or b q 0 ≡ 0x82 → ⊥) → From b ms m q
  unfolding rose.At f_globals
  without_in no_globals h k = h
  without_in (a_globals p xs) h k = absurd (k (ap (λ (j : ℕ). get_or b j 0) (sym h.0) ∙ h.1.0.tagged))

module _ (b : List ℕ) (t : Tree) (h : At b t) where
  at_second : (q : ℕ) → q ≡ end_of b 3 → Row b (f_globals t.globals (f_modules t.modules (rcons (f_main t.main) rnil))) q (length b)
  at_second q e = subst (λ (j : ℕ). Row b (f_globals t.globals (f_modules t.modules (rcons (f_main t.main) rnil))) j (length b)) (sym e) (opened b t h).row

  pub first_fits : end_of b 3 ≤ length b
  first_fits = (opened b t h).first

  pub second_fits : (q : ℕ) → q ≡ end_of b 3 → end_of b q ≤ length b
  second_fits q e = second-in b t.modules t.main q t.globals (at_second q e)

  pub with-globals : (q : ℕ) → q ≡ end_of b 3 → get_or b q 0 ≡ 0x82 → (r : ℕ) → r ≡ end_of b q → From b t.modules t.main r
  with-globals q e k r d = subst (From b t.modules t.main) (sym d) (with_in b t.modules t.main q t.globals (at_second q e) k)

  pub no-globals : (q : ℕ) → q ≡ end_of b 3 → (get_or b q 0 ≡ 0x82 → ⊥) → From b t.modules t.main q
  no-globals q e k = without_in b t.modules t.main q t.globals (at_second q e) k

-- ---- the loop over modules and main

-- what is left: modules from number m on and main, whose numbers are right exactly if all are; or nothing, and all were right
abbrev pub Left : List ℕ → Tree → ℕ → ℕ → Type 0
Left b t p m = ((ms : List Module) × From b ms t.main p × (numbered_from m ms t.main ≡ numbered t)) ⊎ ((p ≡ length b) × (true ≡ numbered t))

pub left-start : (b : List ℕ) (t : Tree) (p : ℕ) → From b t.modules t.main p → Left b t p 0
unfolding numbered
left-start b t p h = inl (t.modules, h, refl)

pub left-moved : (b : List ℕ) (t : Tree) {p q m n : ℕ} → p ≡ q → m ≡ n → Left b t p m → Left b t q n
left-moved b t {p} {q} {m} {n} e k h = subst (Left b t q) k (subst (λ (i : ℕ). Left b t i m) e h)

-- the module or main at p
pub record Next (b : List ℕ) (t : Tree) (p m : ℕ) : Type 0 where
  pub uses : Uses
  pub has : Using b p uses
  pub yes : true ≡ uses_below m uses → Left b t (end_of b p) (m + 1)
  pub no : false ≡ uses_below m uses → false ≡ numbered t

using-of : (b : List ℕ) (k q p : ℕ) (u : Uses) (ys : Roses) → q ≡ p → rose.At b (node k q (f_uses u ys)) → Using b p u
using-of b k q p u ys e h = let w = moved b k q p (f_uses u ys) e h in record { rest = ys; row = w.1; fits = w.0 }

next_row : (b : List ℕ) (t : Tree) (p m : ℕ) (ms : List Module) → From b ms t.main p → numbered_from m ms t.main ≡ numbered t → Next b t p m
unfolding rose.At f_modules f_module f_main numbered_from
next_row b t p m [] h e = record {
  uses = t.main.uses;
  has = using-of b 0x84 t.main.place p t.main.uses (rcons (f_term t.main.body) rnil) h.0 h.1;
  yes = λ y. inr (h.2, y ∙ e);
  no = λ n. n ∙ e;
}
next_row b t p m (x ∷ xs) h e = record {
  uses = x.uses;
  has = using-of b 0x83 x.place p x.uses _ h.0 h.1;
  yes = λ y. inl (xs, h.2, ap (λ (j : ℕ). numbered_from j xs t.main) (add-one m) ∙ both_yes (uses_below m x.uses) (numbered_from (suc m) xs t.main) (sym y) ∙ e);
  no = λ n. both-no (uses_below m x.uses) (numbered_from (suc m) xs t.main) (sym n) ∙ e;
}

pub next_of : (b : List ℕ) (t : Tree) (p m : ℕ) → Left b t p m → p < length b → Next b t p m
next_of b t p m (inl x) h = next_row b t p m x.0 x.1 x.2
next_of b t p m (inr x) h = absurd (omega (arith, x.0))

pub left_end : (b : List ℕ) (t : Tree) (p m : ℕ) → Left b t p m → length b ≤ p → true ≡ numbered t
left_end b t p m (inl x) h = absurd (omega (arith, (some b x.0 t.main p x.1).0))
left_end b t p m (inr x) h = x.1

module _ (b : List ℕ) (t : Tree) (p m : ℕ) (l : Left b t p m) (h : p < length b) where
  pub left-next : (n : ℕ) → n ≡ end_of b p → ((u : Uses) → Using b p u → true ≡ uses_below m u) → Left b t n (m + 1)
  left-next n e f = let x = next_of b t p m l h in subst (λ (j : ℕ). Left b t j (m + 1)) (sym e) (x.yes (f x.uses x.has))

  pub left-wrong : ((u : Uses) → Using b p u → false ≡ uses_below m u) → false ≡ numbered t
  left-wrong f = let x = next_of b t p m l h in x.no (f x.uses x.has)
