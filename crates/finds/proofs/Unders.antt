-- What the functions of under.rt show: terms with definitions in front. Assumes nothing.
use Prim.Native.Nat.{ℕ, ◌+◌, ◌-◌, ◌≤◌, ◌<◌}
use native.Mathlib.Omega.{arith}
use mathlib.Core.Path.{◌≡◌, refl, sym, ap, subst, ◌∙◌}
use mathlib.Core.Bool.{Bool, true, false, ◌&&◌, ◌||◌}
use mathlib.Core.List.{List}
use borrow.Author.Tests.{lt-ltb, le-ltb}
use lib.Dec.{eqb, eqb→eq}
use lib.ListN.{length, get_or}
use Rattle.tree.specs.Rose.{rnil, rcons, end_of, text_of, At, Row}
use Rattle.tree.specs.Tree.{Name, Term, Defs, ds_nil, ds_cons, Def, term_place, t_id, t_recurse, t_arr, t_neg, t_label, t_break, t_if_then_else, t_var, t_call, t_def, t_num, t_try_catch, t_fold, t_pipe, t_bin_op, t_path, t_str, t_obj}
use Rattle.tree.specs.Form.{f_term, f_defs, f_def, f_names}
use Rattle.rules.specs.Names.{Text, same}
use Rattle.reads.specs.Bytes.{TermAt, DefAt, names_of, colons_of}
use Rattle.reads.specs.Shapes.{UnderAt, DefIs, on-def, on-def-cons, on-def-nil, on-the-def, term_fits, row-tail, term-head, row-end}
use Rattle.finds.specs.Keys.{T-ext, eq-T, true-T}
use Rattle.finds.specs.Under.{body_of, def_fits, declared_by, defined_by, own_call}
use Rattle.finds.specs.Wide.{Defines, Owns}

-- ---- where the term behind definitions stands

pub defs-place : (b : List ℕ) (u : Term) (ds : Defs) (q z : ℕ) → Row b (f_defs ds (rcons (f_term u) rnil)) q z → (q ≤ term_place u) × (end_of b (term_place u) ≡ z)
unfolding f_term
defs-place b u ds_nil q z h =
    let e = (term-head b u rnil q z h).1 in
    (omega (arith, e), ap (end_of b) e ∙ row-end b (end_of b q) z (row-tail b (f_term u) rnil q z h))
defs-place b u (ds_cons d ds) q z h =
    let w = defs-place b u ds (end_of b q) z (row-tail b (f_def d) (f_defs ds (rcons (f_term u) rnil)) q z h) in
    (omega (arith, w.0), w.1)

-- a term that starts with the tag of definitions
pub record Opened (b : List ℕ) (q : ℕ) (u : Term) : Type 0 where
  pub defs : Defs
  pub body : Term
  pub at : UnderAt b q defs body
  pub is : u ≡ t_def q defs body

pub opened : (b : List ℕ) (q : ℕ) (u : Term) → get_or b q 0 ≡ 0xA9 → TermAt b u q → Opened b q u
opened b q u e h = on-def b q (λ (u : Term). Opened b q u) e (λ ds w k. record { defs = ds; body = w; at = k; is = refl }) u h

-- where the body stands
pub behind : (b : List ℕ) (q r : ℕ) (u : Term) (o : Opened b q u) → TermAt b o.body r → (q < r) × (end_of b r ≡ end_of b q)
behind b q r u o h =
    let w = defs-place b o.body o.defs (q + 3) (end_of b q) o.at.defs in
    (omega (arith, w.0, h.1), ap (end_of b) (sym h.1) ∙ w.1)

abbrev is_def : Term → Bool
is_def (t_id p) = false
is_def (t_recurse p) = false
is_def (t_arr p o) = false
is_def (t_neg p t) = false
is_def (t_label p y t) = false
is_def (t_break p y) = false
is_def (t_if_then_else p q t u bs) = false
is_def (t_var p y) = false
is_def (t_call p f ts) = false
is_def (t_def p ds t) = true
is_def (t_num p y) = false
is_def (t_try_catch p t o) = false
is_def (t_fold p f t y ts) = false
is_def (t_pipe p t q y u) = false
is_def (t_bin_op p t q y u) = false
is_def (t_path p t ps) = false
is_def (t_str p f ss) = false
is_def (t_obj p es) = false

body-plain : (t : Term) → is_def (body_of t) ≡ false
unfolding body_of
body-plain (t_id p) = refl
body-plain (t_recurse p) = refl
body-plain (t_arr p o) = refl
body-plain (t_neg p t) = refl
body-plain (t_label p y t) = refl
body-plain (t_break p y) = refl
body-plain (t_if_then_else p q t u bs) = refl
body-plain (t_var p y) = refl
body-plain (t_call p f ts) = refl
body-plain (t_def p ds t) = body-plain t
body-plain (t_num p y) = refl
body-plain (t_try_catch p t o) = refl
body-plain (t_fold p f t y ts) = refl
body-plain (t_pipe p t q y u) = refl
body-plain (t_bin_op p t q y u) = refl
body-plain (t_path p t ps) = refl
body-plain (t_str p f ss) = refl
body-plain (t_obj p es) = refl

plain_body : (t : Term) → is_def t ≡ false → body_of t ≡ t
unfolding body_of
plain_body (t_id p) h = refl
plain_body (t_recurse p) h = refl
plain_body (t_arr p o) h = refl
plain_body (t_neg p t) h = refl
plain_body (t_label p y t) h = refl
plain_body (t_break p y) h = refl
plain_body (t_if_then_else p q t u bs) h = refl
plain_body (t_var p y) h = refl
plain_body (t_call p f ts) h = refl
plain_body (t_def p ds t) h = absurd (true-T false (sym h))
plain_body (t_num p y) h = refl
plain_body (t_try_catch p t o) h = refl
plain_body (t_fold p f t y ts) h = refl
plain_body (t_pipe p t q y u) h = refl
plain_body (t_bin_op p t q y u) h = refl
plain_body (t_path p t ps) h = refl
plain_body (t_str p f ss) h = refl
plain_body (t_obj p es) h = refl

plain-defines : (t : Term) (x : Text) (a : ℕ) → is_def t ≡ false → defined_by t x a ≡ false
unfolding defined_by
plain-defines (t_id p) x a h = refl
plain-defines (t_recurse p) x a h = refl
plain-defines (t_arr p o) x a h = refl
plain-defines (t_neg p t) x a h = refl
plain-defines (t_label p y t) x a h = refl
plain-defines (t_break p y) x a h = refl
plain-defines (t_if_then_else p q t u bs) x a h = refl
plain-defines (t_var p y) x a h = refl
plain-defines (t_call p f ts) x a h = refl
plain-defines (t_def p ds t) x a h = absurd (true-T false (sym h))
plain-defines (t_num p y) x a h = refl
plain-defines (t_try_catch p t o) x a h = refl
plain-defines (t_fold p f t y ts) x a h = refl
plain-defines (t_pipe p t q y u) x a h = refl
plain-defines (t_bin_op p t q y u) x a h = refl
plain-defines (t_path p t ps) x a h = refl
plain-defines (t_str p f ss) x a h = refl
plain-defines (t_obj p es) x a h = refl

tagged-def : (b : List ℕ) (q p : ℕ) (ds : Defs) (u : Term) → TermAt b (t_def p ds u) q → get_or b q 0 ≡ 0xA9
unfolding f_term At
tagged-def b q p ds u h = subst (λ (i : ℕ). get_or b i 0 ≡ 0xA9) h.1 h.0.0.tagged

other_tag : (b : List ℕ) (q : ℕ) (t : Term) → TermAt b t q → (get_or b q 0 ≡ 0xA9 → ⊥) → is_def t ≡ false
other_tag b q (t_id p) h n = refl
other_tag b q (t_recurse p) h n = refl
other_tag b q (t_arr p o) h n = refl
other_tag b q (t_neg p t) h n = refl
other_tag b q (t_label p y t) h n = refl
other_tag b q (t_break p y) h n = refl
other_tag b q (t_if_then_else p r t u bs) h n = refl
other_tag b q (t_var p y) h n = refl
other_tag b q (t_call p f ts) h n = refl
other_tag b q (t_def p ds t) h n = absurd (n (tagged-def b q p ds t h))
other_tag b q (t_num p y) h n = refl
other_tag b q (t_try_catch p t o) h n = refl
other_tag b q (t_fold p f t y ts) h n = refl
other_tag b q (t_pipe p t r y u) h n = refl
other_tag b q (t_bin_op p t r y u) h n = refl
other_tag b q (t_path p t ps) h n = refl
other_tag b q (t_str p f ss) h n = refl
other_tag b q (t_obj p es) h n = refl

pub body-tag : (b : List ℕ) (q : ℕ) (t : Term) → TermAt b (body_of t) q → get_or b q 0 ≡ 0xA9 → ⊥
body-tag b q t h e = on-def b q (λ (u : Term). is_def u ≡ false → ⊥) e (λ ds w k f. true-T false (sym f)) (body_of t) h (body-plain t)

-- ---- the body

pub record Bodying (b : List ℕ) (p q : ℕ) : Type 0 where
  pub goes : (t : Term) → TermAt b t p → (u : Term) × TermAt b u q × (body_of t ≡ body_of u)
  pub low : p ≤ q
  pub high : end_of b q ≤ end_of b p

module _ (b : List ℕ) (p : ℕ) where
  pub bodying-start : Bodying b p p
  bodying-start = record { goes = λ t h. (t, h, refl); low = omega arith; high = omega arith }

  module _ (q : ℕ) (g : Bodying b p q) (some : (t : Term) × TermAt b t p) where
    here : (u : Term) × TermAt b u q
    here = let w = g.goes some.0 some.1 in (w.0, w.1)

    pub bodying-fits : end_of b q ≤ length b
    bodying-fits = let w = g.goes some.0 some.1 in term_fits b w.0 q w.1

    pub bodying-opens : get_or b q 0 ≡ 0xA9 → (ds : Defs) × (t : Term) × (z : ℕ) × Row b (f_defs ds (rcons (f_term t) rnil)) (q + 3) z × (z ≤ length b)
    bodying-opens e =
        let w = g.goes some.0 some.1 in
        let o = opened b q w.0 e w.1 in
        (o.defs, o.body, end_of b q, o.at.defs, bodying-fits)

    module _ (e : get_or b q 0 ≡ 0xA9) (r : ℕ) (f : (ds : Defs) (t : Term) (z : ℕ) → Row b (f_defs ds (rcons (f_term t) rnil)) (q + 3) z → TermAt b t r) where
      past-it : (q < r) × (end_of b r ≡ end_of b q)
      past-it =
          let w = g.goes some.0 some.1 in
          let o = opened b q w.0 e w.1 in
          behind b q r w.0 o (f o.defs o.body (end_of b q) o.at.defs)

      pub bodying-less : length b - r < length b - q
      bodying-less = omega (arith, past-it.0, bodying-fits)

      pub bodying-more : Bodying b p r
      unfolding body_of
      bodying-more =
          record {
            goes = λ t h.
                let w = g.goes t h in
                let o = opened b q w.0 e w.1 in
                (o.body, f o.defs o.body (end_of b q) o.at.defs, w.2 ∙ ap body_of o.is);
            low = omega (arith, g.low, past-it.0);
            high = omega (arith, g.high, past-it.1);
          }

  pub bodying-done : (q : ℕ) → Bodying b p q → (get_or b q 0 ≡ 0xA9 → ⊥) → ((t : Term) → TermAt b t p → TermAt b (body_of t) q) × (p ≤ q) × (end_of b q ≤ end_of b p)
  bodying-done q g n = (
    λ t h.
        let w = g.goes t h in
        subst (λ (u : Term). TermAt b u q) (sym (w.2 ∙ plain_body w.0 (other_tag b q w.0 w.1 n))) w.1,
    g.low,
    g.high,
  )

-- ---- one definition

turn : (n a : ℕ) → eqb n a ≡ eqb a n
turn n a = T-ext (eqb n a) (eqb a n) (λ h. eq-T a n (sym (eqb→eq n a h))) (λ h. eq-T n a (sym (eqb→eq a n h)))

pub record DefHere (b : List ℕ) (p : ℕ) : Type 0 where
  pub count : ℕ
  pub body : Term
  pub is : DefIs b p count body

pub def-here : (b : List ℕ) (p : ℕ) (d : Def) → DefAt b d p → DefHere b p
def-here b p d h = on-the-def b p (λ (d : Def). DefHere b p) (λ a u k. record { count = a; body = u; is = k }) d h

module _ (b : List ℕ) (p : ℕ) (x : Text) (a : ℕ) where
  pub def-fits : (t : Bool) → t ≡ same x (text_of b (p + 3)) → t ≡ true → (n : ℕ)
      → ((xs : List Name) (t : Term) (z : ℕ) → Row b (f_names 0x91 xs (rcons (f_term t) rnil)) (end_of b (p + 3)) z → n ≡ length xs)
      → (d : Def) → DefAt b d p → eqb n a ≡ def_fits d x a
  unfolding def_fits
  def-fits t e f n g d h =
      on-the-def b p (λ (d : Def). eqb n a ≡ def_fits d x a)
      (λ k u i.
      let l : n ≡ length (names_of b k (end_of b (p + 3))) = g (names_of b k (end_of b (p + 3))) u (end_of b p) i.row in
      turn n a ∙ (ap (eqb a) l ∙ ap (λ (v : Bool). v && eqb a (length (names_of b k (end_of b (p + 3))))) (sym f ∙ e))) d h

  pub def-other : (t : Bool) → t ≡ same x (text_of b (p + 3)) → t ≡ false → (d : Def) → DefAt b d p → false ≡ def_fits d x a
  unfolding def_fits
  def-other t e f d h =
      on-the-def b p (λ (d : Def). false ≡ def_fits d x a)
      (λ k u i. ap (λ (v : Bool). v && eqb a (length (names_of b k (end_of b (p + 3))))) (sym f ∙ e)) d h

-- where the parameters start at e
pub params_at : (b : List ℕ) (p : ℕ) (d : Def) → DefAt b d p → (e : ℕ) → e ≡ end_of b (p + 3)
    → (xs : List Name) × (t : Term) × (z : ℕ) × Row b (f_names 0x91 xs (rcons (f_term t) rnil)) e z × (z ≤ length b)
params_at b p d h e q =
    let k = def-here b p d h in
    (names_of b k.count (end_of b (p + 3)), k.body, end_of b p, subst (λ (i : ℕ). Row b (f_names 0x91 (names_of b k.count (end_of b (p + 3))) (rcons (f_term k.body) rnil)) i (end_of b p)) (sym q) k.is.row, k.is.fits)

pub def-fits-at : (b : List ℕ) (p : ℕ) (x : Text) (a : ℕ) (t : Bool) → t ≡ same x (text_of b (p + 3)) → t ≡ true → (e : ℕ) → e ≡ end_of b (p + 3) → (n : ℕ)
    → ((xs : List Name) (t : Term) (z : ℕ) → Row b (f_names 0x91 xs (rcons (f_term t) rnil)) e z → n ≡ length xs)
    → (d : Def) → DefAt b d p → eqb n a ≡ def_fits d x a
def-fits-at b p x a t u v e q n g d h =
    def-fits b p x a t u v n (λ xs t z k. g xs t z (subst (λ (i : ℕ). Row b (f_names 0x91 xs (rcons (f_term t) rnil)) i z) (sym q) k)) d h

-- ---- definitions one after the other

pub record DefNext (b : List ℕ) (p z : ℕ) (t : Term) (ds : Defs) : Type 0 where
  pub one : Def
  pub rest : Defs
  pub at : DefAt b one p
  pub next : Row b (f_defs rest (rcons (f_term t) rnil)) (end_of b p) z
  pub are : ds ≡ ds_cons one rest

pub def-next : (b : List ℕ) (p z : ℕ) (t : Term) (ds : Defs) → get_or b p 0 ≡ 0x8C → Row b (f_defs ds (rcons (f_term t) rnil)) p z → DefNext b p z t ds
def-next b p z t ds e h = on-def-cons b p z (λ (ds : Defs). DefNext b p z t ds) t e (λ d es k r. record { one = d; rest = es; at = k; next = r; are = refl }) ds h

abbrev pub DefsAt : List ℕ → ℕ → Type 0
DefsAt b q = (ds : Defs) × (t : Term) × (z : ℕ) × Row b (f_defs ds (rcons (f_term t) rnil)) q z × (z ≤ length b)

pub record Declaring (b : List ℕ) (q : ℕ) (x : Text) (a p : ℕ) : Type 0 where
  pub goes : (ds : Defs) (t : Term) (z : ℕ) → Row b (f_defs ds (rcons (f_term t) rnil)) q z
      → (es : Defs) × Row b (f_defs es (rcons (f_term t) rnil)) p z × (declared_by ds x a ≡ declared_by es x a)

or-true : (t u : Bool) → t ≡ true → true ≡ (t || u)
or-true t u e = ap (λ (v : Bool). v || u) (sym e)

or-rest : (t u : Bool) → t ≡ false → (t || u) ≡ u
or-rest t u e = ap (λ (v : Bool). v || u) e

module _ (b : List ℕ) (q : ℕ) (x : Text) (a : ℕ) where
  pub declaring-start : Declaring b q x a q
  declaring-start = record { goes = λ ds t z h. (ds, h, refl) }

  module _ (p : ℕ) (g : Declaring b q x a p) (some : DefsAt b q) where
    pub declaring-within : p < some.2
    declaring-within =
        let w = g.goes some.0 some.1 some.2 some.3 in
        let k = defs-place b some.1 w.0 p some.2 w.1 in
        omega (arith, k.0, k.1)

    module _ (e : get_or b p 0 ≡ 0x8C) where
      pub declaring-one : (d : Def) × DefAt b d p
      declaring-one =
          let w = g.goes some.0 some.1 some.2 some.3 in
          let n = def-next b p some.2 some.1 w.0 e w.1 in
          (n.one, n.at)

      module _ (r : Bool) (f : (d : Def) → DefAt b d p → r ≡ def_fits d x a) where
        pub declaring-found : r ≡ true → (ds : Defs) (t : Term) (z : ℕ) → Row b (f_defs ds (rcons (f_term t) rnil)) q z → true ≡ declared_by ds x a
        unfolding declared_by
        declaring-found u ds t z h =
            let w = g.goes ds t z h in
            let n = def-next b p z t w.0 e w.1 in
            or-true (def_fits n.one x a) (declared_by n.rest x a) (sym (f n.one n.at) ∙ u) ∙ (ap (λ (es : Defs). declared_by es x a) (sym n.are) ∙ sym w.2)

        pub declaring-more : r ≡ false → (p' : ℕ) → p' ≡ end_of b p → Declaring b q x a p'
        unfolding declared_by
        declaring-more u p' l =
            record {
              goes = λ ds t z h.
                  let w = g.goes ds t z h in
                  let n = def-next b p z t w.0 e w.1 in (
                    n.rest,
                    subst (λ (i : ℕ). Row b (f_defs n.rest (rcons (f_term t) rnil)) i z) (sym l) n.next,
                    w.2 ∙ (ap (λ (es : Defs). declared_by es x a) n.are ∙ or-rest (def_fits n.one x a) (declared_by n.rest x a) (sym (f n.one n.at) ∙ u)),
                  );
            }

    pub declaring-done : (get_or b p 0 ≡ 0x8C → ⊥) → (ds : Defs) (t : Term) (z : ℕ) → Row b (f_defs ds (rcons (f_term t) rnil)) q z → false ≡ declared_by ds x a
    unfolding declared_by
    declaring-done n ds t z h =
        let w = g.goes ds t z h in
        on-def-nil b p z (λ (es : Defs). declared_by ds x a ≡ declared_by es x a → false ≡ declared_by ds x a) t n (λ k e q. sym q) w.0 w.1 w.2

-- ---- terms with definitions one in the other

pub record Defining (b : List ℕ) (p : ℕ) (x : Text) (a q : ℕ) : Type 0 where
  pub goes : (t : Term) → TermAt b t p → (u : Term) × TermAt b u q × (defined_by t x a ≡ defined_by u x a)

module _ (b : List ℕ) (p : ℕ) (x : Text) (a : ℕ) where
  pub defining-start : Defining b p x a p
  defining-start = record { goes = λ t h. (t, h, refl) }

  module _ (q : ℕ) (g : Defining b p x a q) (some : (t : Term) × TermAt b t p) where
    pub defining-fits : end_of b q ≤ length b
    defining-fits = let w = g.goes some.0 some.1 in term_fits b w.0 q w.1

    module _ (e : get_or b q 0 ≡ 0xA9) where
      pub defining-opens : (ds : Defs) × (t : Term) × Row b (f_defs ds (rcons (f_term t) rnil)) (q + 3) (end_of b q) × (end_of b q ≤ length b)
      defining-opens =
          let w = g.goes some.0 some.1 in
          let o = opened b q w.0 e w.1 in
          (o.defs, o.body, o.at.defs, defining-fits)

      module _ (s : ℕ) (i : s ≡ end_of b q) (r : Bool) (v : (ds : Defs) (t : Term) → Row b (f_defs ds (rcons (f_term t) rnil)) (q + 3) s → r ≡ declared_by ds x a) where
        f : (ds : Defs) (t : Term) → Row b (f_defs ds (rcons (f_term t) rnil)) (q + 3) (end_of b q) → r ≡ declared_by ds x a
        f = subst (λ (z : ℕ). (ds : Defs) (t : Term) → Row b (f_defs ds (rcons (f_term t) rnil)) (q + 3) z → r ≡ declared_by ds x a) i v

        pub defining-found : r ≡ true → Defines b p x a true
        unfolding defined_by
        defining-found u t h =
            let w = g.goes t h in
            let o = opened b q w.0 e w.1 in
            or-true (declared_by o.defs x a) (defined_by o.body x a) (sym (f o.defs o.body o.at.defs) ∙ u) ∙ (ap (λ (v : Term). defined_by v x a) (sym o.is) ∙ sym w.2)

        module _ (n : ℕ) (k : (ds : Defs) (t : Term) (z : ℕ) → Row b (f_defs ds (rcons (f_term t) rnil)) (q + 3) z → TermAt b t n) where
          pub defining-less : length b - n < length b - q
          defining-less =
              let w = g.goes some.0 some.1 in
              let o = opened b q w.0 e w.1 in
              omega (arith, (behind b q n w.0 o (k o.defs o.body (end_of b q) o.at.defs)).0, defining-fits)

          pub defining-more : r ≡ false → Defining b p x a n
          unfolding defined_by
          defining-more u =
              record {
                goes = λ t h.
                    let w = g.goes t h in
                    let o = opened b q w.0 e w.1 in (
                      o.body,
                      k o.defs o.body (end_of b q) o.at.defs,
                      w.2 ∙ (ap (λ (v : Term). defined_by v x a) o.is ∙ or-rest (declared_by o.defs x a) (defined_by o.body x a) (sym (f o.defs o.body o.at.defs) ∙ u)),
                    );
              }

    pub defining-done : (get_or b q 0 ≡ 0xA9 → ⊥) → Defines b p x a false
    defining-done n t h = let w = g.goes t h in sym (w.2 ∙ plain-defines w.0 x a (other_tag b q w.0 w.1 n))

  pub owns-parted : (c : ℕ) → c ≡ colons_of x → c < length x → Owns b p x a false
  unfolding own_call
  owns-parted c e l t h = rw (lt-ltb (colons_of x) (length x) (omega (arith, e)))

  pub owns-plain : (c : ℕ) → c ≡ colons_of x → length x ≤ c → (r : Bool) → Defines b p x a r → Owns b p x a r
  unfolding own_call
  owns-plain c e l r f t h = rw (le-ltb (colons_of x) (length x) (omega (arith, e))) (f t h)
