-- How what is put is put together: one after the other, and a term's own record with what it contains. None of it knows the language. Assumes nothing.
use Rattle.std.specs.Prelude.{ℕ, ◌+◌, ◌≤◌, ◌<◌, ◌≡◌, refl, Bool, true, false, cond, ◌⊎◌, List, [], ◌∷◌, ◌++◌, eqb, length, get_or, set}
use Rattle.std.proofs.Common.{arith, sym, ap, ap₂, subst, ◌∙◌, inl, inr, append_assoc, append-nil, length-set, length-append, get_or-set_other, eq-eqb, ne_eqb, eqb-true}
use Rattle.std.proofs.lemmas.Bool.{eqb-false}
use Rattle.fields.specs.Field.{field, length-field}
use Rattle.fields.specs.Room.{overlay, overlay-none, overlay-append, overlay-before, overlay-out, length-overlay}
use Rattle.rules.specs.Table.{Rec, Err, Node, n_id, n_recurse, n_to_string, n_int, n_num, n_str, n_arr, n_obj_empty, n_obj_single, n_var, n_call_def, n_native, n_label, n_neg, n_pipe, n_comma, n_assign, n_update, n_update_math, n_update_alt, n_logic, n_math, n_cmp, n_alt, n_try_catch, n_ite, n_fold, n_path}
use Rattle.rules.specs.Tails.{Tail}
use Rattle.rules.specs.Outs.{Out, slot, node, leaf, fail}
use Rattle.rules.specs.Listing.{node_bytes, rec_bytes, table_bytes, err_bytes, errs_bytes}
use Rattle.puts.specs.declared.state.State.{State}
use Rattle.puts.specs.State.{num, off, ers, with_num, with_off, with_ers, late, start_of, spot_of, next_of, members_at, members_end, Put, Own}
use Rattle.puts.specs.Runs.{run-then}

pub table-append : (a b : List Rec) → table_bytes 2 (a ++ b) ≡ table_bytes 2 a ++ table_bytes 2 b
table-append [] b = refl
table-append (r ∷ a) b = rw (table-append a b, append_assoc)

pub errs-append : (a b : List Err) → errs_bytes 2 (a ++ b) ≡ errs_bytes 2 a ++ errs_bytes 2 b
errs-append [] b = refl
errs-append (x ∷ a) b = rw (errs-append a b, append_assoc)

pub put-none : (st : State) (d : List ℕ) → Put [] [] st st d d
put-none st d =
    record {
      nums = omega arith;
      offs = omega arith;
      errs = omega arith;
      size = refl;
      table = λ h. sym (overlay-none d (off st));
      errors = λ h. sym (overlay-none d (ers st));
    }

pub put_then : (a b : List Rec) (e f : List Err) (st st₁ st₂ : State) (d d₁ d₂ : List ℕ) → Put a e st st₁ d d₁ → Put b f st₁ st₂ d₁ d₂ → Put (a ++ b) (e ++ f) st st₂ d d₂
put_then a b e f st st₁ st₂ d d₁ d₂ p q =
    record {
      nums = omega (arith, p.nums, q.nums, length-append a b);
      offs = rw (table-append a b) (omega (arith, p.offs, q.offs, length-append (table_bytes 2 a) (table_bytes 2 b)));
      errs = rw (errs-append e f) (omega (arith, p.errs, q.errs, length-append (errs_bytes 2 e) (errs_bytes 2 f)));
      size = q.size ∙ p.size;
      table = λ h. both (off st₁) (off st) (table_bytes 2 a) (table_bytes 2 b) (table_bytes 2 (a ++ b)) p.offs (table-append a b) (p.table h) (q.table (omega (arith, h, p.errs, p.size)));
      errors = λ h. both (ers st₁) (ers st) (errs_bytes 2 e) (errs_bytes 2 f) (errs_bytes 2 (e ++ f)) p.errs (errs-append e f) (p.errors h) (q.errors (omega (arith, h, p.offs, p.size)));
    }
  where
    both : (m o : ℕ) (x y z : List ℕ) → m ≡ o + length x → z ≡ x ++ y → d₁ ≡ overlay d o x → d₂ ≡ overlay d₁ m y → d₂ ≡ overlay d o z
    both m o x y z g h i j = j ∙ rw (g, i, h) (overlay-append d o x y)

-- ---- the three places of an own record

start-behind : (o m w n : ℕ) → n ≤ m → n ≤ o → n ≤ start_of o m w
unfolding start_of
start-behind o m w n h k = go (eqb o m)
  where
    go : (t : Bool) → n ≤ cond t (o + w) m
    go true = omega arith
    go false = h

spot-behind : (o x n : ℕ) → n ≤ x → n ≤ o → n ≤ spot_of o x
unfolding spot_of
spot-behind o x n h k = go (eqb o late)
  where
    go : (t : Bool) → n ≤ cond t x o
    go true = h
    go false = k

-- what is reserved is reserved from the next offset on
pub start-low : (o m w : ℕ) → m ≤ start_of o m w
unfolding start_of
start-low o m w = go (eqb o m) refl
  where
    go : (t : Bool) → eqb o m ≡ t → m ≤ cond t (o + w) m
    go true e = omega (arith, eqb-true o m e)
    go false e = omega arith

pub start-high : (o m w : ℕ) → start_of o m w ≤ m + w
unfolding start_of
start-high o m w = go (eqb o m) refl
  where
    go : (t : Bool) → eqb o m ≡ t → cond t (o + w) m ≤ m + w
    go true e = omega (arith, eqb-true o m e)
    go false e = omega arith

pub next_low : (o x w : ℕ) → x ≤ next_of o x w
unfolding next_of
next_low o x w = go (eqb o late)
  where
    go : (t : Bool) → x ≤ cond t (x + w) x
    go true = omega arith
    go false = omega arith

pub next-high : (o x w : ℕ) → next_of o x w ≤ x + w
unfolding next_of
next-high o x w = go (eqb o late)
  where
    go : (t : Bool) → cond t (x + w) x ≤ x + w
    go true = omega arith
    go false = omega arith

-- the own record stands where neither o nor the next offset is past b
pub spot-within : (o x b : ℕ) → o ≤ b → x ≤ b → spot_of o x ≤ b
unfolding spot_of
spot-within o x b h k = go (eqb o late)
  where
    go : (t : Bool) → cond t x o ≤ b
    go true = k
    go false = h

pub placed-within : (o m : ℕ) → (o ≤ m) ⊎ (o ≡ late) → m ≤ late → o ≤ late
placed-within o m (inl h) k = omega (arith, h, k)
placed-within o m (inr h) k = omega (arith, h)

pub start-own : (o w : ℕ) → start_of o o w ≡ o + w
unfolding start_of
start-own o w = simp (eq-eqb o o refl)

pub start-other : (o m w : ℕ) → (o ≡ m → ⊥) → start_of o m w ≡ m
unfolding start_of
start-other o m w h = simp (ne_eqb o m h)

-- what is reserved lies behind o
start-past : (o m w : ℕ) → o ≤ m → 0 < w → o < start_of o m w
unfolding start_of
start-past o m w h k = go (eqb o m) refl
  where
    go : (t : Bool) → eqb o m ≡ t → o < cond t (o + w) m
    go true e = omega (arith, k)
    go false e = omega (arith, h, eqb-false o m e)

pub spot-own : (o x : ℕ) → o < late → spot_of o x ≡ o
unfolding spot_of
spot-own o x h = simp (ne_eqb o late (λ e. omega arith))

pub next-own : (o x w : ℕ) → o < late → next_of o x w ≡ x
unfolding next_of
next-own o x w h = simp (ne_eqb o late (λ e. omega arith))

pub spot-late : (x : ℕ) → spot_of late x ≡ x
unfolding spot_of
spot-late x = refl

pub next-late : (x w : ℕ) → next_of late x w ≡ x + w
unfolding next_of
next-late x w = refl

-- every record has bytes
pub rec-some : (r : Rec) → 3 ≤ length (rec_bytes 2 r)
rec-some r = go r.node
  where
    field-some : (tag : ℕ) (x : List ℕ) → 3 ≤ length (field tag x)
    field-some tag x = omega (arith, length-field tag x)

    go : (n : Node) → 3 ≤ length (node_bytes 2 n)
    go n_id = field-some _ _
    go n_recurse = field-some _ _
    go n_to_string = field-some _ _
    go (n_int i) = field-some _ _
    go (n_num x) = field-some _ _
    go (n_str x) = field-some _ _
    go (n_arr a) = field-some _ _
    go n_obj_empty = field-some _ _
    go (n_obj_single a b) = field-some _ _
    go (n_var i) = field-some _ _
    go (n_call_def n l s k) = field-some _ _
    go (n_native i l) = field-some _ _
    go (n_label a) = field-some _ _
    go (n_neg a) = field-some _ _
    go (n_pipe a x b) = field-some _ _
    go (n_comma a b) = field-some _ _
    go (n_assign a b) = field-some _ _
    go (n_update a b) = field-some _ _
    go (n_update_math a k b) = field-some _ _
    go (n_update_alt a b) = field-some _ _
    go (n_logic a o b) = field-some _ _
    go (n_math a k b) = field-some _ _
    go (n_cmp a k b) = field-some _ _
    go (n_alt a b) = field-some _ _
    go (n_try_catch a b) = field-some _ _
    go (n_ite a b c) = field-some _ _
    go (n_fold a x b c f) = field-some _ _
    go (n_path a l) = field-some _ _

-- a term's own record is put where it belongs, once its members are
pub own_of : (q : Out) (o w : ℕ) (st st₁ st₂ st₃ : State) (d d₁ d₂ : List ℕ)
    → w ≡ length (rec_bytes 2 q.self)
    → num st₁ ≡ num st → off st₁ ≡ start_of o (off st) w → ers st₁ ≡ ers st
    → Put q.more q.errs st₁ st₂ d d₁
    → num st₃ ≡ num st₂ → off st₃ ≡ next_of o (off st₂) w → ers st₃ ≡ ers st₂
    → d₂ ≡ overlay d₁ (spot_of o (off st₂)) (rec_bytes 2 q.self)
    → Own q o st st₃ d d₂
own_of q o w st st₁ st₂ st₃ d d₁ d₂ g n₁ o₁ e₁ p n₃ o₃ e₃ i =
    record {
      nums = omega (arith, n₁, n₃, p.nums);
      offs = o₃ ∙ ap₂ (λ x y. next_of o x y) end g;
      errs = omega (arith, e₁, e₃, p.errs);
      size = ap length i ∙ length-overlay d₁ (spot_of o (off st₂)) (rec_bytes 2 q.self) ∙ p.size;
      table = λ h. i ∙ ap₂ (λ x y. overlay x (spot_of o y) (rec_bytes 2 q.self)) (p.table (omega (arith, e₁, h)) ∙ ap (λ x. overlay d x (table_bytes 2 q.more)) start) end;
      errors = λ h k.
          i
          ∙ overlay-out d₁ (spot_of o (off st₂)) (rec_bytes 2 q.self) (omega (arith, p.size, spot-behind o (off st₂) (length d) (omega (arith, p.offs, o₁, start-behind o (off st) w (length d) h k)) k))
          ∙ p.errors (omega (arith, o₁, start-behind o (off st) w (length d) h k))
          ∙ ap (λ x. overlay d x (errs_bytes 2 q.errs)) e₁;
    }
  where
    start : off st₁ ≡ members_at q o st
    start = o₁ ∙ ap (start_of o (off st)) g

    end : off st₂ ≡ members_end q o st
    end = p.offs ∙ ap (λ x. x + length (table_bytes 2 q.more)) start

-- with its number reserved, and at the next offset, it is put with what it contains behind it
pub slot_of : (q : Out) (st st₁ st₂ : State) (d d₁ : List ℕ)
    → off st < late → num st₁ ≡ num st + 1 → off st₁ ≡ off st → ers st₁ ≡ ers st
    → Own q (off st) st₁ st₂ d d₁ → Put (slot q) q.errs st st₂ d d₁
slot_of q st st₁ st₂ d d₁ l n₁ o₁ e₁ p =
    record {
      nums = omega (arith, n₁, p.nums);
      offs = p.offs ∙ next-own (off st) (members_end q (off st) st₁) (length (rec_bytes 2 q.self)) l ∙ omega (arith, start, length-append (rec_bytes 2 q.self) (table_bytes 2 q.more));
      errs = omega (arith, e₁, p.errs);
      size = p.size;
      table = λ h.
          p.table (omega (arith, e₁, h))
          ∙ ap₂ (λ x y. overlay (overlay d x (table_bytes 2 q.more)) y (rec_bytes 2 q.self)) start (spot-own (off st) (members_end q (off st) st₁) l)
          ∙ overlay-before d (off st) (rec_bytes 2 q.self) (table_bytes 2 q.more);
      errors = λ h. p.errors (omega (arith, o₁, h)) h ∙ ap (λ x. overlay d x (errs_bytes 2 q.errs)) e₁;
    }
  where
    start : members_at q (off st) st₁ ≡ off st + length (rec_bytes 2 q.self)
    start = ap (λ x. start_of (off st) x (length (rec_bytes 2 q.self))) o₁ ∙ start-own (off st) (length (rec_bytes 2 q.self))

-- a term whose own number and record come behind what it contains
pub late_of : (q : Out) (st st₁ st₂ : State) (d d₁ : List ℕ)
    → off st < late → Own q late st st₁ d d₁
    → num st₂ ≡ num st₁ + 1 → off st₂ ≡ off st₁ → ers st₂ ≡ ers st₁
    → Put (q.more ++ (q.self ∷ [])) q.errs st st₂ d d₁
late_of q st st₁ st₂ d d₁ l p n₂ o₂ e₂ =
    record {
      nums = omega (arith, n₂, p.nums, length-append q.more (q.self ∷ []));
      offs = o₂ ∙ end ∙ omega (arith, length-append (table_bytes 2 q.more) (rec_bytes 2 q.self), ap length bytes);
      errs = e₂ ∙ p.errs;
      size = p.size;
      table = λ h.
          p.table h
          ∙ ap₂ (λ x y. overlay (overlay d x (table_bytes 2 q.more)) y (rec_bytes 2 q.self)) start (spot-late (members_end q late st) ∙ ap (λ x. x + length (table_bytes 2 q.more)) start)
          ∙ overlay-append d (off st) (table_bytes 2 q.more) (rec_bytes 2 q.self)
          ∙ ap (overlay d (off st)) (sym bytes);
      errors = λ h. p.errors h (omega (arith, h, l));
    }
  where
    start : members_at q late st ≡ off st
    start = start-other late (off st) (length (rec_bytes 2 q.self)) (λ e. omega (arith, l, e))

    end : off st₁ ≡ off st + length (table_bytes 2 q.more) + length (rec_bytes 2 q.self)
    end = p.offs ∙ next-late (members_end q late st) (length (rec_bytes 2 q.self)) ∙ ap (λ x. x + length (table_bytes 2 q.more) + length (rec_bytes 2 q.self)) start

    bytes : table_bytes 2 (q.more ++ (q.self ∷ [])) ≡ table_bytes 2 q.more ++ rec_bytes 2 q.self
    bytes = table-append q.more (q.self ∷ []) ∙ ap (λ x. table_bytes 2 q.more ++ x) (append-nil (rec_bytes 2 q.self))

-- ---- the same, as the contracts of the state's functions give it: each stores into the state

module _ (st : State) where
  -- a store of the next offset
  pub off-off : (st₁ : State) (x : ℕ) → st₁ ≡ with_off st x → off st₁ ≡ x
  off-off st₁ x e = ap off e

  -- a store of the next number
  pub num-num : (st₁ : State) (x : ℕ) → st₁ ≡ with_num st x → num st₁ ≡ x
  num-num st₁ x e = ap num e

  -- a store of the errors' offset
  pub ers-ers : (st₁ : State) (x : ℕ) → st₁ ≡ with_ers st x → ers st₁ ≡ x
  ers-ers st₁ x e = ap ers e

-- a store into a list keeps the others, and the length
pub kept : (i j : ℕ) (st st₁ : List ℕ) (x : ℕ) → (j ≡ i → ⊥) → st₁ ≡ set st i x → get_or st₁ j 0 ≡ get_or st j 0
kept i j st st₁ x h e = ap (λ l. get_or l j 0) e ∙ get_or-set_other st i j x 0 h

pub long : (i : ℕ) (st st₁ : List ℕ) (x : ℕ) → st₁ ≡ set st i x → length st₁ ≡ length st
long i st st₁ x e = ap length e ∙ length-set st i x

-- a record with the next number
pub put_one : (r : Rec) (w x : ℕ) (st st₁ : State) (d d₁ : List ℕ)
    → w ≡ length (rec_bytes 2 r)
    → x ≡ off st → st₁ ≡ with_off (with_num st (num st + 1)) (off st + w)
    → d₁ ≡ overlay d x (rec_bytes 2 r)
    → Put (r ∷ []) [] st st₁ d d₁
put_one r w x st st₁ d d₁ g i e j =
    record {
      nums = ap num e;
      offs = ap off e ∙ omega (arith, g, ap length bytes);
      errs = ap ers e ∙ omega arith;
      size = ap length j ∙ length-overlay d x (rec_bytes 2 r);
      table = λ h. j ∙ ap₂ (λ y b. overlay d y b) i (sym bytes);
      errors = λ h. j ∙ overlay-out d x (rec_bytes 2 r) (omega (arith, h, i)) ∙ sym (overlay-none d (ers st));
    }
  where
    bytes : rec_bytes 2 r ++ [] ≡ rec_bytes 2 r
    bytes = append-nil (rec_bytes 2 r)

-- an error
pub put-error : (x : Err) (w y : ℕ) (st st₁ : State) (d d₁ : List ℕ)
    → w ≡ length (err_bytes 2 x)
    → y ≡ ers st → st₁ ≡ with_ers st (ers st + w)
    → d₁ ≡ overlay d y (err_bytes 2 x)
    → Put [] (x ∷ []) st st₁ d d₁
put-error x w y st st₁ d d₁ g i e j =
    record {
      nums = ap num e ∙ omega arith;
      offs = ap off e ∙ omega arith;
      errs = ap ers e ∙ omega (arith, g, ap length bytes);
      size = ap length j ∙ length-overlay d y (err_bytes 2 x);
      table = λ h. j ∙ overlay-out d y (err_bytes 2 x) (omega (arith, h, i)) ∙ sym (overlay-none d (off st));
      errors = λ h. j ∙ ap₂ (λ z b. overlay d z b) i (sym bytes);
    }
  where
    bytes : err_bytes 2 x ++ [] ≡ err_bytes 2 x
    bytes = append-nil (err_bytes 2 x)

-- records alone behind what was put, and errors alone
pub put-more : (a b : List Rec) (e : List Err) (st st₁ st₂ : State) (d d₁ d₂ : List ℕ) → Put a e st st₁ d d₁ → Put b [] st₁ st₂ d₁ d₂ → Put (a ++ b) e st st₂ d d₂
put-more a b e st st₁ st₂ d d₁ d₂ p q = subst (λ (f : List Err). Put (a ++ b) f st st₂ d d₂) (append-nil e) (put_then a b e [] st st₁ st₂ d d₁ d₂ p q)

pub put-errs : (a : List Rec) (e f : List Err) (st st₁ st₂ : State) (d d₁ d₂ : List ℕ) → Put a e st st₁ d d₁ → Put [] f st₁ st₂ d₁ d₂ → Put a (e ++ f) st st₂ d d₂
put-errs a e f st st₁ st₂ d d₁ d₂ p q = subst (λ (b : List Rec). Put b (e ++ f) st st₂ d d₂) (append-nil a) (put_then a [] e f st st₁ st₂ d d₁ d₂ p q)

-- its own number is reserved, and its own record stands at the next offset
pub slot-own : (q : Out) (st st₁ st₂ : State) (d d₁ : List ℕ)
    → off st < late → st₁ ≡ with_num st (num st + 1)
    → Own q (off st) st₁ st₂ d d₁ → Put (slot q) q.errs st st₂ d d₁
slot-own q st st₁ st₂ d d₁ l e p =
    slot_of q st st₁ st₂ d d₁ l (ap num e) (ap off e) (ap ers e) p

-- its own record stands behind what it contains, and has the next number then
pub slot-late : (q : Out) (st st₁ st₂ : State) (d d₁ : List ℕ)
    → off st < late
    → Own q late st st₁ d d₁ → st₂ ≡ with_num st₁ (num st₁ + 1)
    → Put (q.more ++ (q.self ∷ [])) q.errs st st₂ d d₁
slot-late q st st₁ st₂ d d₁ l p e =
    late_of q st st₁ st₂ d d₁ l p (ap num e) (ap off e) (ap ers e)

-- room is reserved, the members are put, and the own record is put in its place
pub own-node : (q : Out) (o w x : ℕ) (st st₁ st₂ st₃ : State) (d d₁ d₂ : List ℕ)
    → w ≡ length (rec_bytes 2 q.self)
    → st₁ ≡ with_off st (start_of o (off st) w)
    → Put q.more q.errs st₁ st₂ d d₁
    → x ≡ spot_of o (off st₂) → st₃ ≡ with_off st₂ (next_of o (off st₂) w)
    → d₂ ≡ overlay d₁ x (rec_bytes 2 q.self)
    → Own q o st st₃ d d₂
own-node q o w x st st₁ st₂ st₃ d d₁ d₂ g e p i f j =
    own_of q o w st st₁ st₂ st₃ d d₁ d₂ g
    (ap num e) (ap off e) (ap ers e)
    p
    (ap num f) (ap off f) (ap ers f)
    (j ∙ ap (λ y. overlay d₁ y (rec_bytes 2 q.self)) i)

pub own-one : (p : ℕ) (n : Node) (s : Tail) (a : List Rec) (e : List Err) (o w x : ℕ) (st st₁ st₂ st₃ : State) (d d₁ d₂ : List ℕ)
    → w ≡ length (node_bytes 2 n)
    → st₁ ≡ with_off st (start_of o (off st) w)
    → Put a e st₁ st₂ d d₁
    → x ≡ spot_of o (off st₂) → st₃ ≡ with_off st₂ (next_of o (off st₂) w)
    → d₂ ≡ overlay d₁ x (node_bytes 2 n)
    → Own (node p n a e s) o st st₃ d d₂
own-one p n s a e o w x st st₁ st₂ st₃ d d₁ d₂ g h k i f j = own-node (node p n a e s) o w x st st₁ st₂ st₃ d d₁ d₂ g h k i f j

pub own-two : (p : ℕ) (n : Node) (s : Tail) (a b : List Rec) (e f : List Err) (o w x : ℕ) (st st₁ st₂ st₃ st₄ : State) (d d₁ d₂ d₃ : List ℕ)
    → w ≡ length (node_bytes 2 n)
    → st₁ ≡ with_off st (start_of o (off st) w)
    → Put a e st₁ st₂ d d₁ → Put b f st₂ st₃ d₁ d₂
    → x ≡ spot_of o (off st₃) → st₄ ≡ with_off st₃ (next_of o (off st₃) w)
    → d₃ ≡ overlay d₂ x (node_bytes 2 n)
    → Own (node p n (a ++ b) (e ++ f) s) o st st₄ d d₃
own-two p n s a b e f o w x st st₁ st₂ st₃ st₄ d d₁ d₂ d₃ g h k l i m j =
    own-node (node p n (a ++ b) (e ++ f) s) o w x st st₁ st₃ st₄ d d₂ d₃ g h (put_then a b e f st₁ st₂ st₃ d d₁ d₂ k l) i m j

pub own-three : (p : ℕ) (n : Node) (s : Tail) (a b c : List Rec) (e f g : List Err) (o w x : ℕ) (st st₁ st₂ st₃ st₄ st₅ : State) (d d₁ d₂ d₃ d₄ : List ℕ)
    → w ≡ length (node_bytes 2 n)
    → st₁ ≡ with_off st (start_of o (off st) w)
    → Put a e st₁ st₂ d d₁ → Put b f st₂ st₃ d₁ d₂ → Put c g st₃ st₄ d₂ d₃
    → x ≡ spot_of o (off st₄) → st₅ ≡ with_off st₄ (next_of o (off st₄) w)
    → d₄ ≡ overlay d₃ x (node_bytes 2 n)
    → Own (node p n (a ++ (b ++ c)) (e ++ (f ++ g)) s) o st st₅ d d₄
own-three p n s a b c e f g o w x st st₁ st₂ st₃ st₄ st₅ d d₁ d₂ d₃ d₄ u h k l r i m j =
    own-node (node p n (a ++ (b ++ c)) (e ++ (f ++ g)) s) o w x st st₁ st₄ st₅ d d₃ d₄ u h
    (put_then a (b ++ c) e (f ++ g) st₁ st₂ st₄ d d₁ d₃ k (put_then b c f g st₂ st₃ st₄ d₁ d₂ d₃ l r)) i m j

-- a term without members
pub own_alone : (p : ℕ) (n : Node) (o w x : ℕ) (st st₁ : State) (d d₁ : List ℕ)
    → w ≡ length (node_bytes 2 n)
    → x ≡ spot_of o (start_of o (off st) w) → st₁ ≡ with_off st (next_of o (start_of o (off st) w) w)
    → d₁ ≡ overlay d x (node_bytes 2 n)
    → Own (leaf p n) o st st₁ d d₁
own_alone p n o w x st st₁ d d₁ g i f j =
    let st₀ = with_off st (start_of o (off st) w) in
    own-node (leaf p n) o w x st st₀ st₀ st₁ d d d₁ g refl (put-none st₀ d)
    i f j

-- errors that are put before a term
pub own-after : (q : Out) (es : List Err) (o : ℕ) (st st₁ st₂ : State) (d d₁ d₂ : List ℕ)
    → Put [] es st st₁ d d₁ → Own q o st₁ st₂ d₁ d₂
    → Own (record { self = q.self; more = q.more; errs = es ++ q.errs; tail = q.tail }) o st st₂ d d₂
own-after q es o st st₁ st₂ d d₁ d₂ p a =
    record {
      nums = omega (arith, p.nums, a.nums);
      offs = a.offs ∙ ap (λ x. next_of o (x + length (table_bytes 2 q.more)) (length (rec_bytes 2 q.self))) start;
      errs = rw (errs-append es q.errs) (omega (arith, p.errs, a.errs, length-append (errs_bytes 2 es) (errs_bytes 2 q.errs)));
      size = a.size ∙ p.size;
      table = λ h.
          a.table (omega (arith, h, p.errs, p.size))
          ∙ ap₂ (λ x y. overlay (overlay y x (table_bytes 2 q.more)) (spot_of o (x + length (table_bytes 2 q.more))) (rec_bytes 2 q.self)) start (p.table h ∙ overlay-none d (off st));
      errors = λ h k.
          run-then d (ers st) (errs_bytes 2 es) (errs_bytes 2 q.errs) (ers st₁) d₁ d₂ p.errs (p.errors h) (a.errors (omega (arith, h, p.offs, p.size)) (omega (arith, k, p.size)))
          ∙ ap (overlay d (ers st)) (sym (errs-append es q.errs));
    }
  where
    start : members_at q o st₁ ≡ members_at q o st
    start = ap (λ x. start_of o x (length (rec_bytes 2 q.self))) (p.offs ∙ omega arith)

-- what fails: its error, then Id in its number
pub own-fail : (p : ℕ) (x : Err) (o : ℕ) (st st₁ st₂ : State) (d d₁ d₂ : List ℕ)
    → Put [] (x ∷ []) st st₁ d d₁ → Own (leaf p n_id) o st₁ st₂ d₁ d₂
    → Own (fail p x [] []) o st st₂ d d₂
own-fail p x o st st₁ st₂ d d₁ d₂ e a = own-after (leaf p n_id) (x ∷ []) o st st₁ st₂ d d₁ d₂ e a

-- ---- definitions, and the term behind them, whose own record has its room before them or behind all

pub own-of-def : (a : Out) (ms : List Rec) (es : List Err) (o w : ℕ) (st st₁ st₂ st₃ : State) (d d₁ d₂ : List ℕ)
    → (o ≤ off st) ⊎ (o ≡ late) → off st₂ < late
    → w ≡ length (rec_bytes 2 a.self)
    → st₁ ≡ with_off st (start_of o (off st) w)
    → Put ms es st₁ st₂ d d₁ → Own a o st₂ st₃ d₁ d₂
    → Own (record { self = a.self; more = ms ++ a.more; errs = es ++ a.errs; tail = a.tail }) o st st₃ d d₂
own-of-def a ms es o w st st₁ st₂ st₃ d d₁ d₂ at l g e p q =
    record {
      nums = omega (arith, p.nums, q.nums, n₁, length-append ms a.more);
      offs = q.offs ∙ ap (λ x. next_of o x (length (rec_bytes 2 a.self))) end;
      errs = rw (errs-append es a.errs) (omega (arith, p.errs, q.errs, e₁, length-append (errs_bytes 2 es) (errs_bytes 2 a.errs)));
      size = q.size ∙ p.size;
      table = λ h.
          q.table (omega (arith, h, p.errs, e₁, p.size))
          ∙ ap₂ (λ x y. overlay x (spot_of o y) (rec_bytes 2 a.self)) (both h) end;
      errors = λ h k.
          let b : length d ≤ off st₁ = omega (arith, o₁, start-behind o (off st) w (length d) h k) in
          run-then d (ers st) (errs_bytes 2 es) (errs_bytes 2 a.errs) (ers st₂) d₁ d₂ (p.errs ∙ ap (λ x. x + length (errs_bytes 2 es)) e₁)
          (p.errors b ∙ ap (λ x. overlay d x (errs_bytes 2 es)) e₁)
          (q.errors (omega (arith, b, p.offs, p.size)) (omega (arith, k, p.size)))
          ∙ ap (overlay d (ers st)) (sym (errs-append es a.errs));
    }
  where
    n₁ : num st₁ ≡ num st
    n₁ = ap num e

    o₁ : off st₁ ≡ start_of o (off st) w
    o₁ = ap off e

    e₁ : ers st₁ ≡ ers st
    e₁ = ap ers e

    -- no member of the term itself stands where its own record does
    apart : (o ≤ off st) ⊎ (o ≡ late) → o ≡ off st₂ → ⊥
    apart (inl h) k = omega (arith, k, p.offs, o₁, start-past o (off st) w h (omega (arith, g, rec-some a.self)))
    apart (inr h) k = omega (arith, k, h, l)

    start : members_at a o st₂ ≡ off st₂
    start = start-other o (off st₂) (length (rec_bytes 2 a.self)) (apart at)

    first : off st₁ ≡ start_of o (off st) (length (rec_bytes 2 a.self))
    first = o₁ ∙ ap (start_of o (off st)) g

    end : members_end a o st₂ ≡ start_of o (off st) (length (rec_bytes 2 a.self)) + length (table_bytes 2 (ms ++ a.more))
    end =
        ap (λ x. x + length (table_bytes 2 a.more)) (start ∙ p.offs ∙ ap (λ x. x + length (table_bytes 2 ms)) first)
        ∙ omega (arith, ap length (table-append ms a.more), length-append (table_bytes 2 ms) (table_bytes 2 a.more))

    both : length d ≤ ers st → overlay d₁ (members_at a o st₂) (table_bytes 2 a.more) ≡ overlay d (start_of o (off st) (length (rec_bytes 2 a.self))) (table_bytes 2 (ms ++ a.more))
    both h =
        run-then d (off st₁) (table_bytes 2 ms) (table_bytes 2 a.more) (off st₂) d₁ _ p.offs (p.table (omega (arith, h, e₁))) (ap (λ x. overlay d₁ x (table_bytes 2 a.more)) start)
        ∙ ap₂ (λ x y. overlay d x y) first (sym (table-append ms a.more))
