-- Names past the locals that other modules define: includes, imports, and names with `::`. Assumes nothing.
use Rattle.std.specs.Prelude.{ℕ, zero, suc, ◌+◌, ◌*◌, ◌≤◌, ◌<◌, ◌≡◌, refl, Bool, true, false, cond, ◌&&◌, List, [], ◌∷◌, ◌++◌, T, eqb, ltb, length, get_or, take, drop}
use Rattle.std.proofs.Common.{arith, sym, ap, subst, ◌∙◌, append_assoc, eqb-true, ltb-true, take-append-drop, drop-cons, get_or-take, get_or-drop}
use Rattle.std.proofs.Math.Option.{Option, none, some, none-ne-some, some-injective}
use Rattle.fields.specs.Number.{value}
use Rattle.tree.specs.Leaf.{both, shape, leaf_ok}
use Rattle.tree.specs.Table.{shapes}
use Rattle.tree.specs.Rose.{Roses, node, rnil, rcons, end_of, text_of, Row}
use Rattle.tree.specs.Tree.{Number, Import, Uses}
use Rattle.tree.specs.Form.{f_name, f_number, f_numbers, f_import, f_imports}
use Rattle.tree.specs.Numbers as numbers
use Rattle.rules.specs.Names.{Text, same, plain, parted, longer, parting}
use Rattle.rules.specs.Rows.{Filter}
use Rattle.rules.specs.Filters.{Top, or_else, in_module, included, import_named}
use Rattle.reads.specs.Bytes.{pair_at, colons_of, len_of}
use Rattle.reads.specs.Parts.{row-rest, row_fits, row-leaf, row_ok, row-node, row-past, row_lt, row-end}
use Rattle.finds.specs.Keys.{text-length, true-T, and_right}

-- ---- numbers as fields of five bytes

pub unset : Number
unset = record { place = 0; bytes = [] }

value-two : (l : List ℕ) → length l ≡ 2 → value l ≡ get_or l 0 0 + get_or l 1 0 * 256
unfolding value
value-two [] e = absurd (omega arith)
value-two (a ∷ []) e = absurd (omega arith)
value-two (a ∷ c ∷ []) e = omega arith
value-two (a ∷ c ∷ d ∷ l) e = absurd (omega arith)

two-long : (x : List ℕ) → leaf_ok (shape 0x8D) x ≡ true → length x ≡ 2
unfolding leaf_ok shape shapes
two-long x h = eqb-true (length x) 2 h

pub record NumberAt (b : List ℕ) (p : ℕ) (n : Number) : Type 0 where
  pub ends : end_of b p ≡ p + 5
  pub is : pair_at b (p + 3) ≡ value n.bytes
  pub fits : p + 5 ≤ length b

pub number-field : (b : List ℕ) (n : Number) (rs : Roses) (p z : ℕ) → Row b (rcons (f_number 0x8D n) rs) p z → NumberAt b p n
number-field b n rs p z h =
    let f : end_of b p ≤ length b = row_fits b (f_number 0x8D n) rs p z h in
    let t : text_of b p ≡ n.bytes = row-leaf b 0x8D n.place p z n.bytes rs h in
    let l : length n.bytes ≡ 2 = two-long n.bytes (row_ok b 0x8D n.place p z n.bytes rs h) in
    let k : len_of b p ≡ 2 = sym (text-length b p f) ∙ (ap length t ∙ l) in
    let u : get_or (text_of b p) 0 0 ≡ get_or b (p + 3) 0 =
    get_or-take (len_of b p) (drop (p + 3) b) 0 0 (omega arith) ∙ (get_or-drop (p + 3) b 0 0 ∙ ap (λ (i : ℕ). get_or b i 0) (nat (p + 3))) in
    let v : get_or (text_of b p) 1 0 ≡ get_or b (p + 3 + 1) 0 = get_or-take (len_of b p) (drop (p + 3) b) 1 0 (omega arith) ∙ get_or-drop (p + 3) b 1 0 in
    let w : value n.bytes ≡ get_or n.bytes 0 0 + get_or n.bytes 1 0 * 256 = value-two n.bytes l in
    let u' : get_or n.bytes 0 0 ≡ get_or b (p + 3) 0 = ap (λ (y : List ℕ). get_or y 0 0) (sym t) ∙ u in
    let v' : get_or n.bytes 1 0 ≡ get_or b (p + 3 + 1) 0 = ap (λ (y : List ℕ). get_or y 1 0) (sym t) ∙ v in
    record { ends = omega arith; is = omega arith; fits = omega arith }
  where
    nat : (i : ℕ) → i + 0 ≡ i
    nat i = omega arith

-- ---- includes

pub numbers-end : (b : List ℕ) (ns : List Number) (p z : ℕ) → Row b (f_numbers ns rnil) p z → z ≡ p + 5 * length ns
unfolding f_numbers
numbers-end b [] p z h = omega (arith, row-end b p z h)
numbers-end b (n ∷ ns) p z h =
    let e = number-field b n (f_numbers ns rnil) p z h in
    let i = numbers-end b ns (end_of b p) z (row-rest b (f_number 0x8D n) (f_numbers ns rnil) p z h) in
    omega (arith, e.ends)

pub numbers-at : (b : List ℕ) (ns : List Number) (p z i : ℕ) → Row b (f_numbers ns rnil) p z → i < length ns → NumberAt b (p + 5 * i) (get_or ns i unset)
unfolding f_numbers
numbers-at b [] p z i h l = absurd (omega arith)
numbers-at b (n ∷ ns) p z zero h l =
    let e : p ≡ p + 5 * 0 = omega arith in
    subst (λ (q : ℕ). NumberAt b q n) e (number-field b n (f_numbers ns rnil) p z h)
numbers-at b (n ∷ ns) p z (suc i) h l =
    let e = number-field b n (f_numbers ns rnil) p z h in
    let q : end_of b p + 5 * i ≡ p + 5 * suc i = omega (arith, e.ends) in
    subst (λ (q : ℕ). NumberAt b q (get_or ns i unset)) q (numbers-at b ns (end_of b p) z i (row-rest b (f_number 0x8D n) (f_numbers ns rnil) p z h) (omega arith))

both_left : (a c : Bool) → both a c ≡ true → a ≡ true
both_left true c h = refl
both_left false c h = h

both_right : (a c : Bool) → both a c ≡ true → c ≡ true
both_right true c h = h
both_right false c h = absurd (true-T false h)

pub includes-below : (m : ℕ) (ns : List Number) (i : ℕ) → numbers.below m (numbers.included ns) ≡ true → i < length ns → value (get_or ns i unset).bytes < m
unfolding numbers.included numbers.below
includes-below m [] i h l = absurd (omega arith)
includes-below m (n ∷ ns) zero h l = ltb-true (value n.bytes) m (both_left (ltb (value n.bytes) m) (numbers.below m (numbers.included ns)) h)
includes-below m (n ∷ ns) (suc i) h l = includes-below m ns i (both_right (ltb (value n.bytes) m) (numbers.below m (numbers.included ns)) h) (omega arith)

pub uses-includes : (m : ℕ) (u : Uses) → numbers.uses_below m u ≡ true → numbers.below m (numbers.included u.includes) ≡ true
unfolding numbers.uses_below
uses-includes m u h = both_right (numbers.below m (numbers.imported u.imports)) (numbers.below m (numbers.included u.includes)) h

pub uses-imports : (m : ℕ) (u : Uses) → numbers.uses_below m u ≡ true → numbers.below m (numbers.imported u.imports) ≡ true
unfolding numbers.uses_below
uses-imports m u h = both_left (numbers.below m (numbers.imported u.imports)) (numbers.below m (numbers.included u.includes)) h

else-none : {A : Type 0} (o : Option A) → or_else o none ≡ o
else-none none = refl
else-none (some a) = refl

else-assoc : {A : Type 0} (a b c : Option A) → or_else (or_else a b) c ≡ or_else a (or_else b c)
else-assoc none b c = refl
else-assoc (some x) b c = refl

module _ (c : Top) (f : Text) (a : ℕ) where
  included-append : (xs ys : List Number) → included c f a (xs ++ ys) ≡ or_else (included c f a ys) (included c f a xs)
  included-append [] ys = sym (else-none (included c f a ys))
  included-append (x ∷ xs) ys = rw (included-append xs ys) (else-assoc (included c f a ys) (included c f a xs) (in_module c f a x))

  -- where the numbers from i on give nothing, number i - 1 is asked
  pub included-more : (ns : List Number) (i : ℕ) → i < length ns → included c f a (drop (suc i) ns) ≡ none → included c f a (drop i ns) ≡ in_module c f a (get_or ns i unset)
  included-more ns i l e = rw (drop-cons ns i unset l, e)

  pub included-found : (ns : List Number) (i : ℕ) (o : Option Filter) → included c f a (drop i ns) ≡ o → (o ≡ none → ⊥) → included c f a ns ≡ o
  included-found ns i none e h = absurd (h refl)
  included-found ns i (some d) e h =
      ap (included c f a) (sym (take-append-drop i ns)) ∙ (included-append (take i ns) (drop i ns) ∙ rw e)

-- ---- imports

pub record ImportAt (b : List ℕ) (p : ℕ) (i : Import) : Type 0 where
  pub name : end_of b (p + 8) ≤ length b
  pub text : text_of b (p + 8) ≡ i.name.text
  pub is : pair_at b (p + 6) ≡ value i.number.bytes
  pub fits : end_of b p ≤ length b
  pub low : p + 8 ≤ end_of b p

pub import-field : (b : List ℕ) (i : Import) (rs : Roses) (p z : ℕ) → Row b (rcons (f_import i) rs) p z → ImportAt b p i
unfolding f_import
import-field b i rs p z h =
    let m = row-node b 0x8A i.place p z (rcons (f_number 0x8D i.number) (rcons (f_name 0x90 i.name) rnil)) rs h in
    let n = number-field b i.number (rcons (f_name 0x90 i.name) rnil) (p + 3) (end_of b p) m in
    let e : end_of b (p + 3) ≡ p + 8 = omega (arith, n.ends) in
    let q : p + 3 + 3 ≡ p + 6 = omega arith in
    let r : Row b (rcons (f_name 0x90 i.name) rnil) (p + 8) (end_of b p) =
    subst (λ (j : ℕ). Row b (rcons (f_name 0x90 i.name) rnil) j (end_of b p)) e (row-rest b (f_number 0x8D i.number) (rcons (f_name 0x90 i.name) rnil) (p + 3) (end_of b p) m) in
    record {
      name = row_fits b (f_name 0x90 i.name) rnil (p + 8) (end_of b p) r;
      text = row-leaf b 0x90 i.name.place (p + 8) (end_of b p) i.name.text rnil r;
      is = subst (λ (j : ℕ). pair_at b j ≡ value i.number.bytes) q n.is;
      fits = row_fits b (node 0x8A i.place (rcons (f_number 0x8D i.number) (rcons (f_name 0x90 i.name) rnil))) rs p z h;
      low = omega (arith, row-past b (f_name 0x90 i.name) rnil (p + 8) (end_of b p) r);
    }

-- the import at r, if there is one
unfoldable pub ImportIs : Option Number → List ℕ → ℕ → Type 0
ImportIs none b r = r ≡ 0
ImportIs (some n) b r = (0 < r) × (r + 8 ≤ length b) × (pair_at b (r + 6) ≡ value n.bytes)

-- the imports up to p are looked through, those from there up to z are not
pub record Importing (b : List ℕ) (x : Text) (is : List Import) (p z r : ℕ) : Type 0 where
  pub done : List Import
  pub rest : List Import
  pub are : is ≡ done ++ rest
  pub at : Row b (f_imports rest rnil) p z
  pub found : ImportIs (import_named x done) b r

import-append : (x : Text) (is js : List Import) → import_named x (is ++ js) ≡ or_else (import_named x js) (import_named x is)
import-append x [] js = sym (else-none (import_named x js))
import-append x (i ∷ is) js =
    rw (import-append x is js) (else-assoc (import_named x js) (import_named x is) (cond (same x i.name.text) (some i.number) none))

pub import-start : (b : List ℕ) (x : Text) (is : List Import) (p z : ℕ) → Row b (f_imports is rnil) p z → Importing b x is p z 0
unfolding ImportIs
import-start b x is p z h = record { done = []; rest = is; are = refl; at = h; found = refl }

import-choice : (t : Bool) (b : List ℕ) (i : Import) (o : Option Number) (p r : ℕ) → 0 < p → ImportAt b p i → ImportIs o b r
    → ImportIs (or_else (cond t (some i.number) none) o) b (cond t p r)
unfolding ImportIs
import-choice true b i o p r l h k = (l, omega (arith, h.low, h.fits), h.is)
import-choice false b i o p r l h k = k

pub import-step : (b : List ℕ) (x : Text) (is : List Import) (p z r : ℕ) → 0 < p → p < z → Importing b x is p z r
    → (end_of b (p + 8) ≤ length b) × (end_of b p ≤ length b) × (end_of b p ≤ z) × Importing b x is (end_of b p) z (cond (same x (text_of b (p + 8))) p r)
unfolding f_imports
import-step b x is p z r l q h = go h.rest h.are h.at
  where
    go : (rest : List Import) → is ≡ h.done ++ rest → Row b (f_imports rest rnil) p z
        → (end_of b (p + 8) ≤ length b) × (end_of b p ≤ length b) × (end_of b p ≤ z) × Importing b x is (end_of b p) z (cond (same x (text_of b (p + 8))) p r)
    go [] e w = absurd (omega (arith, row-end b p z w))
    go (i ∷ rest) e w =
        let f = import-field b i (f_imports rest rnil) p z w in
        let u : same x (text_of b (p + 8)) ≡ same x i.name.text = ap (same x) f.text in
        let v : import_named x (h.done ++ (i ∷ [])) ≡ or_else (cond (same x i.name.text) (some i.number) none) (import_named x h.done) = import-append x h.done (i ∷ []) in (
          f.name,
          f.fits,
          row-past b (f_import i) (f_imports rest rnil) p z w,
          record {
            done = h.done ++ (i ∷ []);
            rest = rest;
            are = e ∙ sym (append_assoc h.done (i ∷ []) rest);
            at = row-rest b (f_import i) (f_imports rest rnil) p z w;
            found = subst (λ (o : Option Number). ImportIs o b (cond (same x (text_of b (p + 8))) p r)) (sym v)
                (subst (λ (t : Bool). ImportIs (or_else (cond (same x i.name.text) (some i.number) none) (import_named x h.done)) b (cond t p r)) (sym u)
                (import-choice (same x i.name.text) b i (import_named x h.done) p r l f h.found));
          },
        )

append-nil : (is : List Import) → is ++ [] ≡ is
append-nil [] = refl
append-nil (i ∷ is) = ap (λ (l : List Import). i ∷ l) (append-nil is)

pub import-done : (b : List ℕ) (x : Text) (is : List Import) (p z r : ℕ) → z ≤ p → Importing b x is p z r → ImportIs (import_named x is) b r
unfolding f_imports
import-done b x is p z r q h = go h.rest h.are h.at
  where
    go : (rest : List Import) → is ≡ h.done ++ rest → Row b (f_imports rest rnil) p z → ImportIs (import_named x is) b r
    go [] e w = subst (λ (l : List Import). ImportIs (import_named x l) b r) (sym (e ∙ append-nil h.done)) h.found
    go (i ∷ rest) e w = absurd (omega (arith, row_lt b (f_import i) (f_imports rest rnil) p z w))

import-below-one : (t : Bool) (m : ℕ) (i : Import) (n : Number) (o : Option Number) → value i.number.bytes < m → (o ≡ some n → value n.bytes < m)
    → or_else o (cond t (some i.number) none) ≡ some n → value n.bytes < m
import-below-one t m i n (some k) l f e = f e
import-below-one true m i n none l f e = subst (λ (k : Number). value k.bytes < m) (some-injective i.number n e) l
import-below-one false m i n none l f e = absurd (none-ne-some n e)

pub import-below : (m : ℕ) (x : Text) (is : List Import) (n : Number) → numbers.below m (numbers.imported is) ≡ true → import_named x is ≡ some n → value n.bytes < m
unfolding numbers.imported numbers.below
import-below m x [] n h e = absurd (none-ne-some n e)
import-below m x (i ∷ is) n h e =
    import-below-one (same x i.name.text) m i n (import_named x is)
    (ltb-true (value i.number.bytes) m (both_left (ltb (value i.number.bytes) m) (numbers.below m (numbers.imported is)) h))
    (λ q. import-below m x is n (both_right (ltb (value i.number.bytes) m) (numbers.below m (numbers.imported is)) h) q) e

-- ---- names with `::`

-- "With `::` (first occurrence)"
pub parting-plain : (x : Text) → length x ≤ colons_of x → parting x ≡ plain
unfolding colons_of
parting-plain [] h = refl
parting-plain (c ∷ s) h = go (eqb c 0x3A && eqb (get_or s 0 0) 0x3A) h (λ q. parting-plain s q)
  where
    go : (t : Bool) → suc (length s) ≤ cond t 0 (suc (colons_of s)) → (length s ≤ colons_of s → parting s ≡ plain) → cond t (parted [] (drop 1 s)) (longer c (parting s)) ≡ plain
    go true q f = absurd (omega arith)
    go false q f = ap (longer c) (f (omega arith))

pub parting-parted : (x : Text) → colons_of x < length x → (parting x ≡ parted (take (colons_of x) x) (drop (colons_of x + 2) x)) × (colons_of x + 2 ≤ length x)
unfolding colons_of
parting-parted [] h = absurd (omega arith)
parting-parted (c ∷ s) h = go (eqb c 0x3A && eqb (get_or s 0 0) 0x3A) refl h (λ q. parting-parted s q)
  where
    second : (s : Text) → T (eqb (get_or s 0 0) 0x3A) → 1 ≤ length s
    second [] e = absurd e
    second (d ∷ s) e = omega arith

    go : (t : Bool) → (eqb c 0x3A && eqb (get_or s 0 0) 0x3A) ≡ t → cond t 0 (suc (colons_of s)) < suc (length s)
        → (colons_of s < length s → (parting s ≡ parted (take (colons_of s) s) (drop (colons_of s + 2) s)) × (colons_of s + 2 ≤ length s))
        → (cond t (parted [] (drop 1 s)) (longer c (parting s)) ≡ parted (take (cond t 0 (suc (colons_of s))) (c ∷ s)) (drop (cond t 0 (suc (colons_of s)) + 2) (c ∷ s)))
        × (cond t 0 (suc (colons_of s)) + 2 ≤ suc (length s))
    go true e q f =
        (refl, omega (arith, second s (and_right (eqb c 0x3A) (eqb (get_or s 0 0) 0x3A) (true-T (eqb c 0x3A && eqb (get_or s 0 0) 0x3A) e))))
    go false e q f =
        let w = f (omega arith) in
        let n : suc (colons_of s) + 2 ≡ suc (colons_of s + 2) = omega arith in
        let d : drop (suc (colons_of s) + 2) (c ∷ s) ≡ drop (colons_of s + 2) s = ap (λ (i : ℕ). drop i (c ∷ s)) n in
        (ap (longer c) w.0 ∙ ap (parted (c ∷ take (colons_of s) s)) (sym d), omega (arith, w.1))
