-- Forms without members: Id, Recurse, Num, Var, Break. Assumes nothing.
use Rattle.std.specs.Prelude.{ℕ, ◌+◌, ◌-◌, ◌*◌, ◌^◌, ◌≤◌, ◌<◌, ◌≡◌, refl, Bool, true, false, cond, ◌&&◌, List, [], ◌++◌, leb, ltb, eqb, length, get_or, take, drop}
use Rattle.std.proofs.Common.{arith, add-zero, sym, ap, ap₂, subst, ◌∙◌, inl, inr, ltb-true, ltb-false, le-leb}
use Rattle.std.proofs.Math.Option.{Option, none, some}
use Rattle.std.proofs.lemmas.Bool.{lt-leb}
use Rattle.reads.specs.Texts.{text-slice}
use Rattle.fields.specs.Number.{number}
use Rattle.fields.specs.Field.{field}
use Rattle.fields.specs.Room.{overlay}
use Rattle.tree.specs.Rose.{end_of, text_of}
use Rattle.tree.specs.Tree.{Term}
use Rattle.rules.specs.Names.{Text}
use Rattle.rules.specs.Table.{Err, Node, n_id, n_recurse, n_int, n_num, n_var, u_var, u_label, Undefined}
use Rattle.rules.specs.Rows.{Env, find_label}
use Rattle.rules.specs.Filters.{variable, error_at}
use Rattle.rules.specs.Outs.{Out, leaf, fail, var_out, numeral, are_digits, decimal}
use Rattle.rules.specs.Listing.{node_bytes, rec_bytes, table_bytes, err_bytes}
use Rattle.rules.specs.Rules.{term}
use Rattle.reads.specs.Bytes.{TermAt}
use Rattle.reads.specs.Widths.{int_of}
use Rattle.reads.specs.Shapes.{on-id, on-recurse, on-break, on-var, on-num, text-length}
use Rattle.puts.specs.declared.state.State.{State}
use Rattle.puts.specs.State.{num, off, ers, late, start_of, spot_of, next_of, Own, with_off, with_ers}
use Rattle.puts.specs.Rooms.{own_alone, own-fail, put-error}
use Rattle.cells.specs.Cells.{View, Seen, env_of, before_at}
use Rattle.finds.specs.Means.{sought, HitIs, Finds}
use Rattle.compiler.specs.Post.{Did, NameIs}
use Rattle.compiler.specs.Common.{off-num, off-ers, off-off, place-le, bare-long, one-long, three-long}

-- a leaf of w bytes
pub leaf-did : (b : List ℕ) (p : ℕ) (s : List ℕ) (k o w x : ℕ) (st st₁ : State) (d d₁ : List ℕ) (al : ℕ) (n : Node) → off st < late
    → ((vw : View) → Seen vw b s k → (t : Term) → TermAt b t p → term vw.top t (env_of vw b s k) (num st) al ≡ leaf p n)
    → w ≡ length (node_bytes 2 n) → w + 64 * (p + 2) ≤ 64 * end_of b p
    → x ≡ spot_of o (start_of o (off st) w) → st₁ ≡ with_off st (next_of o (start_of o (off st) w) w) → d₁ ≡ overlay d x (node_bytes 2 n)
    → Did b p s s k o st st₁ d d₁ al 0
leaf-did b p s k o w x st st₁ d d₁ al n h f w₁ g i e j =
    record {
      is = λ vw v u a. subst (λ (q : Out). Own q o st st₁ d d₁ × (0 ≡ q.tail)) (sym (f vw v u a)) (own_alone p n o w x st st₁ d d₁ w₁ i e j, refl);
      wide = λ vw v u a. subst (λ (q : Out). length (rec_bytes 2 q.self) + length (table_bytes 2 q.more) + 64 * (p + 2) ≤ 64 * end_of b p) (sym (f vw v u a)) (omega (arith, w₁, g));
      paid =
          record {
            kept = refl;
            same = refl;
            nums = omega (arith, off-num st st₁ (next_of o (start_of o (off st) w) w) e);
            offs = omega (arith, off-off st st₁ (next_of o (start_of o (off st) w) w) e, g, subst (λ (m : ℕ). next_of o m w ≤ off st + w + 0) (add-zero (start_of o (off st) w)) (place-le o (off st) w 0 h));
            errs = omega (arith, off-ers st st₁ (next_of o (start_of o (off st) w) w) e);
          };
    }

-- what fails, with an error of v bytes
pub fail-did : (b : List ℕ) (p : ℕ) (s : List ℕ) (k o v y x : ℕ) (st st₁ st₂ : State) (d d₁ d₂ : List ℕ) (al : ℕ) → off st < late
    → ((vw : View) → Seen vw b s k → (t : Term) → TermAt b t p → (u : Err) × (term vw.top t (env_of vw b s k) (num st) al ≡ fail p u [] []) × (v ≡ length (err_bytes 2 u)) × (d₁ ≡ overlay d y (err_bytes 2 u)))
    → v ≤ 64
    → y ≡ ers st → st₁ ≡ with_ers st (ers st + v)
    → x ≡ spot_of o (start_of o (off st₁) 3) → st₂ ≡ with_off st₁ (next_of o (start_of o (off st₁) 3) 3) → d₂ ≡ overlay d₁ x (field 0x50 [])
    → Did b p s s k o st st₂ d d₂ al 0
fail-did b p s k o v y x st st₁ st₂ d d₁ d₂ al h f v₁ i e j g l =
    record {
      is = λ vw w u a.
          let m = f vw w u a in
          subst (λ (q : Out). Own q o st st₂ d d₂ × (0 ≡ q.tail)) (sym m.1) (
            own-fail p m.0 o st st₁ st₂ d d₁ d₂ (put-error m.0 v y st st₁ d d₁ m.2 i e m.3)
                (own_alone p n_id o 3 x st₁ st₂ d₁ d₂ (bare-long 0x50) j g l),
            refl,
          );
      wide = λ vw w u a. subst (λ (q : Out). length (rec_bytes 2 q.self) + length (table_bytes 2 q.more) + 64 * (p + 2) ≤ 64 * end_of b p) (sym (f vw w u a).1) (omega (arith, bare-long 0x50));
      paid =
          record {
            kept = refl;
            same = refl;
            nums = omega (arith, off-num st₁ st₂ (next_of o (start_of o (off st₁) 3) 3) g, ap num e);
            offs = omega (arith, off-off st₁ st₂ (next_of o (start_of o (off st₁) 3) 3) g, ap off e, subst (λ (m : ℕ). next_of o m 3 ≤ off st₁ + 3 + 0) (add-zero (start_of o (off st₁) 3)) (place-le o (off st₁) 3 0 (omega (arith, h, ap off e))));
            errs = omega (arith, off-ers st₁ st₂ (next_of o (start_of o (off st₁) 3) 3) g, ap ers e, v₁);
          };
    }

-- ---- Id, Recurse: what `bare` leaves

pub id-did : (b : List ℕ) (p : ℕ) (s : List ℕ) (k o x : ℕ) (st st₁ : State) (d d₁ : List ℕ) (al : ℕ) → get_or b p 0 ≡ 0xA0 → off st < late
    → x ≡ spot_of o (start_of o (off st) 3) → st₁ ≡ with_off st (next_of o (start_of o (off st) 3) 3) → d₁ ≡ overlay d x (field 0x50 [])
    → Did b p s s k o st st₁ d d₁ al 0
unfolding term
id-did b p s k o x st st₁ d d₁ al e h =
    leaf-did b p s k o 3 x st st₁ d d₁ al n_id h (λ vw v. on-id b p (λ u. term vw.top u (env_of vw b s k) (num st) al ≡ leaf p n_id) e (λ _. refl)) (bare-long 0x50) (omega arith)

pub recurse-did : (b : List ℕ) (p : ℕ) (s : List ℕ) (k o x : ℕ) (st st₁ : State) (d d₁ : List ℕ) (al : ℕ) → get_or b p 0 ≡ 0xA1 → off st < late
    → x ≡ spot_of o (start_of o (off st) 3) → st₁ ≡ with_off st (next_of o (start_of o (off st) 3) 3) → d₁ ≡ overlay d x (field 0x51 [])
    → Did b p s s k o st st₁ d d₁ al 0
unfolding term
recurse-did b p s k o x st st₁ d d₁ al e h =
    leaf-did b p s k o 3 x st st₁ d d₁ al n_recurse h (λ vw v. on-recurse b p (λ u. term vw.top u (env_of vw b s k) (num st) al ≡ leaf p n_recurse) e (λ _. refl)) (bare-long 0x51) (omega arith)

-- ---- Num: "one or more decimal digits alone, at most 2^63-1, give Int; all else Num with its text."

numeral-int : (x : Text) → int_of x < 2 ^ 63 → numeral x ≡ n_int (int_of x)
unfolding numeral int_of
numeral-int x h = go (leb 1 (length x)) (are_digits x) (decimal 0 x) h
  where
    go : (t u : Bool) (n : ℕ) → cond (t && u && ltb n (2 ^ 63)) n (2 ^ 63) < 2 ^ 63
        → cond (t && u && leb n (2 ^ 63 - 1)) (n_int n) (n_num x) ≡ n_int (cond (t && u && ltb n (2 ^ 63)) n (2 ^ 63))
    go true true n g = end (ltb n (2 ^ 63)) refl g
      where
        end : (v : Bool) → ltb n (2 ^ 63) ≡ v → cond v n (2 ^ 63) < 2 ^ 63 → cond (leb n (2 ^ 63 - 1)) (n_int n) (n_num x) ≡ n_int (cond v n (2 ^ 63))
        end true e q = simp (le-leb n (2 ^ 63 - 1) (omega (arith, ltb-true n (2 ^ 63) e)))
        end false e q = absurd (omega (arith, q))
    go true false n g = absurd (omega (arith, g))
    go false u n g = absurd (omega (arith, g))

numeral-num : (x : Text) → 2 ^ 63 ≤ int_of x → numeral x ≡ n_num x
unfolding numeral int_of
numeral-num x h = go (leb 1 (length x)) (are_digits x) (decimal 0 x) h
  where
    go : (t u : Bool) (n : ℕ) → 2 ^ 63 ≤ cond (t && u && ltb n (2 ^ 63)) n (2 ^ 63) → cond (t && u && leb n (2 ^ 63 - 1)) (n_int n) (n_num x) ≡ n_num x
    go true true n g = end (ltb n (2 ^ 63)) refl g
      where
        end : (v : Bool) → ltb n (2 ^ 63) ≡ v → 2 ^ 63 ≤ cond v n (2 ^ 63) → cond (leb n (2 ^ 63 - 1)) (n_int n) (n_num x) ≡ n_num x
        end true e q = absurd (omega (arith, q, ltb-true n (2 ^ 63) e))
        end false e q = simp (lt-leb n (2 ^ 63 - 1) (omega (arith, ltb-false n (2 ^ 63) e)))
    go true false n g = refl
    go false u n g = refl

int-long : (v : ℕ) → 11 ≡ length (field 0x53 (number 8 v))
unfolding field number
int-long v = refl

text-long : (k : ℕ) (x : List ℕ) → length (field k x) ≡ 3 + length x
unfolding field number
text-long k x = omega arith

pub int-did : (b : List ℕ) (p : ℕ) (s : List ℕ) (k o x v : ℕ) (st st₁ : State) (d d₁ : List ℕ) (al : ℕ) → get_or b p 0 ≡ 0xAA → off st < late
    → v ≡ int_of (text_of b p) → v < 2 ^ 63
    → x ≡ spot_of o (start_of o (off st) 11) → st₁ ≡ with_off st (next_of o (start_of o (off st) 11) 11) → d₁ ≡ overlay d x (field 0x53 (number 8 v))
    → Did b p s s k o st st₁ d d₁ al 0
unfolding term
int-did b p s k o x v st st₁ d d₁ al e h i j =
    leaf-did b p s k o 11 x st st₁ d d₁ al (n_int v) h
    (λ vw u. on-num b p (λ q. term vw.top q (env_of vw b s k) (num st) al ≡ leaf p (n_int v)) e (λ _. ap (leaf p) (numeral-int (text_of b p) (omega (arith, i, j)) ∙ ap n_int (sym i))))
    (int-long v) (omega arith)

pub num-did : (b : List ℕ) (p : ℕ) (s : List ℕ) (k o x v : ℕ) (st st₁ : State) (d d₁ : List ℕ) (al : ℕ) → get_or b p 0 ≡ 0xAA → off st < late
    → v ≡ int_of (text_of b p) → 2 ^ 63 ≤ v → end_of b p ≤ length b
    → x ≡ spot_of o (start_of o (off st) (end_of b p - p)) → st₁ ≡ with_off st (next_of o (start_of o (off st) (end_of b p - p)) (end_of b p - p)) → d₁ ≡ overlay d x (field 0x54 (text_of b p))
    → Did b p s s k o st st₁ d d₁ al 0
unfolding term
num-did b p s k o x v st st₁ d d₁ al e h i j l =
    leaf-did b p s k o (end_of b p - p) x st st₁ d d₁ al (n_num (text_of b p)) h
    (λ vw u. on-num b p (λ q. term vw.top q (env_of vw b s k) (num st) al ≡ leaf p (n_num (text_of b p))) e (λ _. ap (leaf p) (numeral-num (text_of b p) (omega (arith, i, j)))))
    (omega (arith, text-length b p l, text-long 0x54 (text_of b p))) (omega arith)

-- ---- Var, Break

-- what a name that is not found makes, and one that is
named_none : (m : Option ℕ) (b s : List ℕ) (r : ℕ) (p : ℕ) (x : Err) → HitIs m b s r → r ≡ 0 → var_out p x m ≡ fail p x [] []
unfolding HitIs var_out
named_none none b s r p x h e = refl
named_none (some i) b s r p x h e = absurd (omega (arith, h.0, e))

named_some : (m : Option ℕ) (b s : List ℕ) (r : ℕ) (p : ℕ) (x : Err) → HitIs m b s r → (r ≡ 0 → ⊥) → var_out p x m ≡ leaf p (n_var (get_or s 1 0 - before_at s r - 1))
unfolding HitIs var_out
named_some none b s r p x h e = absurd (e h)
named_some (some i) b s r p x h e = ap (λ (j : ℕ). leaf p (n_var j)) (omega (arith, h.2))

-- the term of each, by its class
pub named-term : (b : List ℕ) (p class err : ℕ) → NameIs class err (get_or b p 0) → (vw : View) (e : Env) (n al : ℕ) (t : Term) → TermAt b t p
    → (u : Undefined) × (term vw.top t e n al ≡ var_out p (error_at vw.top u (p + 3) (text_of b p)) (sought vw class (text_of b p) e))
    × (err_bytes 2 (error_at vw.top u (p + 3) (text_of b p)) ≡ field err (number 2 (error_at vw.top u (p + 3) (text_of b p)).home ++ (number 2 (p + 3) ++ number 2 (length (text_of b p)))))
unfolding term sought
named-term b p class err (inl h) vw e n al t a = (
  u_var,
  on-var b p (λ q. term vw.top q e n al ≡ var_out p (error_at vw.top u_var (p + 3) (text_of b p)) (cond (eqb class 0) (variable vw.top (text_of b p) e) (find_label (text_of b p) e))) h.2 (λ _. rw h.0) t a,
  ap (λ (k : ℕ). field k (number 2 (error_at vw.top u_var (p + 3) (text_of b p)).home ++ (number 2 (p + 3) ++ number 2 (length (text_of b p))))) (sym h.1),
)
named-term b p class err (inr h) vw e n al t a = (
  u_label,
  on-break b p (λ q. term vw.top q e n al ≡ var_out p (error_at vw.top u_label (p + 3) (text_of b p)) (cond (eqb class 0) (variable vw.top (text_of b p) e) (find_label (text_of b p) e))) h.2 (λ _. rw h.0) t a,
  ap (λ (k : ℕ). field k (number 2 (error_at vw.top u_label (p + 3) (text_of b p)).home ++ (number 2 (p + 3) ++ number 2 (length (text_of b p))))) (sym h.1),
)

pub var-did : (b : List ℕ) (p : ℕ) (s : List ℕ) (k o x r i class err : ℕ) (st st₁ : State) (d d₁ : List ℕ) (al : ℕ) → NameIs class err (get_or b p 0) → off st < late
    → Finds b s (text_of b p) class r → (r ≡ 0 → ⊥) → i ≡ get_or s 1 0 - before_at s r - 1
    → x ≡ spot_of o (start_of o (off st) 5) → st₁ ≡ with_off st (next_of o (start_of o (off st) 5) 5) → d₁ ≡ overlay d x (field 0x59 (number 2 i))
    → Did b p s s k o st st₁ d d₁ al 0
var-did b p s k o x r i class err st st₁ d d₁ al c h f n q =
    leaf-did b p s k o 5 x st st₁ d d₁ al (n_var i) h
    (λ vw v u a.
    let m = named-term b p class err c vw (env_of vw b s k) (num st) al u a in
    m.1 ∙ named_some (sought vw class (text_of b p) (env_of vw b s k)) b s r p (error_at vw.top m.0 (p + 3) (text_of b p)) (f vw k v) n ∙ ap (λ (j : ℕ). leaf p (n_var j)) (sym q))
    (one-long 0x59 i) (omega arith)

pub lost-did : (b : List ℕ) (p : ℕ) (s : List ℕ) (k o y x r class err : ℕ) (st st₁ st₂ : State) (d d₁ d₂ : List ℕ) (al : ℕ) → NameIs class err (get_or b p 0) → off st < late
    → end_of b p ≤ length b
    → Finds b s (text_of b p) class r → r ≡ 0
    → y ≡ ers st → st₁ ≡ with_ers st (ers st + 9) → d₁ ≡ overlay d y (field err (number 2 (get_or s 3 0) ++ (number 2 (p + 3) ++ number 2 (end_of b p - p - 3))))
    → x ≡ spot_of o (start_of o (off st₁) 3) → st₂ ≡ with_off st₁ (next_of o (start_of o (off st₁) 3) 3) → d₂ ≡ overlay d₁ x (field 0x50 [])
    → Did b p s s k o st st₂ d d₂ al 0
lost-did b p s k o y x r class err st st₁ st₂ d d₁ d₂ al c h fits f n i e j =
    fail-did b p s k o 9 y x st st₁ st₂ d d₁ d₂ al h
    (λ vw v u a.
    let m = named-term b p class err c vw (env_of vw b s k) (num st) al u a in
    let z = error_at vw.top m.0 (p + 3) (text_of b p) in
    let g : err_bytes 2 z ≡ field err (number 2 (get_or s 3 0) ++ (number 2 (p + 3) ++ number 2 (end_of b p - p - 3))) =
    m.2 ∙ ap₂ (λ (q : ℕ) (w : ℕ). field err (number 2 q ++ (number 2 (p + 3) ++ number 2 w))) (sym v.base.home) (text-length b p fits ∙ omega arith) in (
      z,
      m.1 ∙ named_none (sought vw class (text_of b p) (env_of vw b s k)) b s r p z (f vw k v) n,
      three-long err (get_or s 3 0) (p + 3) (end_of b p - p - 3) ∙ ap length (sym g),
      j ∙ ap (overlay d y) (sym g),
    ))
    (omega arith) i e

pub id-bare : (b : List ℕ) (p : ℕ) (s : List ℕ) (k o r : ℕ) (st st₁ : State) (d d₁ : List ℕ) (al : ℕ) → get_or b p 0 ≡ 0xA0 → off st < late
    → (r ≡ 0) × (st₁ ≡ with_off st (next_of o (start_of o (off st) 3) 3)) × (d₁ ≡ overlay d (spot_of o (start_of o (off st) 3)) (field 0x50 []))
    → Did b p s s k o st st₁ d d₁ al r
id-bare b p s k o r st st₁ d d₁ al e h m = subst (λ (x : ℕ). Did b p s s k o st st₁ d d₁ al x) (sym m.0) (id-did b p s k o (spot_of o (start_of o (off st) 3)) st st₁ d d₁ al e h refl m.1 m.2)

pub recurse-bare : (b : List ℕ) (p : ℕ) (s : List ℕ) (k o r : ℕ) (st st₁ : State) (d d₁ : List ℕ) (al : ℕ) → get_or b p 0 ≡ 0xA1 → off st < late
    → (r ≡ 0) × (st₁ ≡ with_off st (next_of o (start_of o (off st) 3) 3)) × (d₁ ≡ overlay d (spot_of o (start_of o (off st) 3)) (field 0x51 []))
    → Did b p s s k o st st₁ d d₁ al r
recurse-bare b p s k o r st st₁ d d₁ al e h m = subst (λ (x : ℕ). Did b p s s k o st st₁ d d₁ al x) (sym m.0) (recurse-did b p s k o (spot_of o (start_of o (off st) 3)) st st₁ d d₁ al e h refl m.1 m.2)

-- ---- as the code has them: the text is a part of the bytes

pub part_length : (b : List ℕ) (q z : ℕ) → z ≡ end_of b q → end_of b q ≤ length b → length (take (z - (q + 3)) (drop (q + 3) b)) ≡ z - (q + 3)
part_length b q z e h = ap length (text-slice b q z e) ∙ text-length b q h ∙ ap (λ (x : ℕ). x - (q + 3)) (sym e)

pub int-code : (b : List ℕ) (p : ℕ) (s : List ℕ) (k o x v z : ℕ) (st st₁ : State) (d d₁ : List ℕ) (al : ℕ) → get_or b p 0 ≡ 0xAA → off st < late → z ≡ end_of b p
    → v ≡ int_of (take (z - (p + 3)) (drop (p + 3) b)) → v < 2 ^ 63
    → (x ≡ spot_of o (start_of o (off st) 11)) × (st₁ ≡ with_off st (next_of o (start_of o (off st) 11) 11)) → d₁ ≡ overlay d x (field 0x53 (number 8 v))
    → Did b p s s k o st st₁ d d₁ al 0
int-code b p s k o x v z st st₁ d d₁ al e h i j l m n = int-did b p s k o x v st st₁ d d₁ al e h (j ∙ ap int_of (text-slice b p z i)) l m.0 m.1 n

pub num-code : (b : List ℕ) (p : ℕ) (s : List ℕ) (k o x v z : ℕ) (st st₁ : State) (d d₁ : List ℕ) (al : ℕ) → get_or b p 0 ≡ 0xAA → off st < late → z ≡ end_of b p
    → v ≡ int_of (take (z - (p + 3)) (drop (p + 3) b)) → 2 ^ 63 ≤ v → end_of b p ≤ length b
    → (x ≡ spot_of o (start_of o (off st) (z - p))) × (st₁ ≡ with_off st (next_of o (start_of o (off st) (z - p)) (z - p))) → d₁ ≡ overlay d x (field 0x54 (take (z - (p + 3)) (drop (p + 3) b)))
    → Did b p s s k o st st₁ d d₁ al 0
num-code b p s k o x v z st st₁ d d₁ al e h i j l g m n =
    num-did b p s k o x v st st₁ d d₁ al e h (j ∙ ap int_of (text-slice b p z i)) l g
    (m.0 ∙ ap (λ (w : ℕ). spot_of o (start_of o (off st) (w - p))) i) (m.1 ∙ ap (λ (w : ℕ). with_off st (next_of o (start_of o (off st) (w - p)) (w - p))) i)
    (n ∙ ap (λ (y : List ℕ). overlay d x (field 0x54 y)) (text-slice b p z i))

pub var-code : (b : List ℕ) (p : ℕ) (s : List ℕ) (k o x r i class err z : ℕ) (st st₁ : State) (d d₁ : List ℕ) (al : ℕ) → NameIs class err (get_or b p 0) → off st < late → z ≡ end_of b p
    → Finds b s (take (z - (p + 3)) (drop (p + 3) b)) class r → (r ≡ 0 → ⊥) → i ≡ get_or s 1 0 - before_at s r - 1
    → (x ≡ spot_of o (start_of o (off st) 5)) × (st₁ ≡ with_off st (next_of o (start_of o (off st) 5) 5)) → d₁ ≡ overlay d x (field 0x59 (number 2 i))
    → Did b p s s k o st st₁ d d₁ al 0
var-code b p s k o x r i class err z st st₁ d d₁ al c h e f n q m j =
    var-did b p s k o x r i class err st st₁ d d₁ al c h (subst (λ (y : List ℕ). Finds b s y class r) (text-slice b p z e) f) n q m.0 m.1 j

pub lost-code : (b : List ℕ) (p : ℕ) (s : List ℕ) (k o y r v class err z : ℕ) (st st₁ st₂ : State) (d d₁ d₂ : List ℕ) (al : ℕ) → NameIs class err (get_or b p 0) → off st < late → z ≡ end_of b p → end_of b p ≤ length b
    → Finds b s (take (z - (p + 3)) (drop (p + 3) b)) class r → r ≡ 0
    → (y ≡ ers st) × (st₁ ≡ with_ers st (ers st + 9)) → d₁ ≡ overlay d y (field err (number 2 (get_or s 3 0) ++ (number 2 (p + 3) ++ number 2 (z - p - 3))))
    → (v ≡ 0) × (st₂ ≡ with_off st₁ (next_of o (start_of o (off st₁) 3) 3)) × (d₂ ≡ overlay d₁ (spot_of o (start_of o (off st₁) 3)) (field 0x50 []))
    → Did b p s s k o st st₂ d d₂ al v
lost-code b p s k o y r v class err z st st₁ st₂ d d₁ d₂ al c h e fits f n i j m =
    subst (λ (w : ℕ). Did b p s s k o st st₂ d d₂ al w) (sym m.0)
    (lost-did b p s k o y (spot_of o (start_of o (off st₁) 3)) r class err st st₁ st₂ d d₁ d₂ al c h fits (subst (λ (w : List ℕ). Finds b s w class r) (text-slice b p z e) f) n i.0 i.1
    (j ∙ ap (λ (w : ℕ). overlay d y (field err (number 2 (get_or s 3 0) ++ (number 2 (p + 3) ++ number 2 (w - p - 3))))) e) refl m.1 m.2)

-- a row that was found can be read
found-row : (m : Option ℕ) (b s : List ℕ) (r : ℕ) → HitIs m b s r → (r ≡ 0 → ⊥) → (4 * r + 4 ≤ length s) × (before_at s r < get_or s 1 0)
unfolding HitIs
found-row none b s r h n = absurd (n h)
found-row (some i) b s r h n = (h.1.within, omega (arith, h.2))

pub named-index : (b s x : List ℕ) (class r : ℕ) (vw : View) (k : ℕ) → Seen vw b s k → Finds b s x class r → (r ≡ 0 → ⊥) → (4 * r + 4 ≤ length s) × (before_at s r < get_or s 1 0)
named-index b s x class r vw k v f n = found-row (sought vw class x (env_of vw b s k)) b s r (f vw k v) n

pub class-small : (class err tag : ℕ) → NameIs class err tag → class < 2
class-small class err tag (inl h) = omega (arith, h.0)
class-small class err tag (inr h) = omega (arith, h.0)
