-- Calls: the loop over the arguments, the records of natives and definitions, and what a call's name means against what is put. Assumes nothing.
use Prim.Native.Nat.{ℕ, zero, suc, ◌+◌, ◌-◌, ◌*◌, ◌≤◌, ◌<◌}
use native.Mathlib.Omega.{arith}
use mathlib.Core.Path.{◌≡◌, refl, sym, ap, ap₂, subst, ◌∙◌}
use mathlib.Core.Logic.{◌⊎◌, inl, inr}
use mathlib.Core.Bool.{Bool, true, false, not}
use mathlib.Core.List.{List, [], ◌∷◌, ◌++◌, append_assoc}
use lib.ListN.{length, get_or, set, length-append}
use Rattle.fields.specs.Number.{number}
use Rattle.fields.specs.Field.{field}
use Rattle.fields.specs.Room.{overlay, overlay-none}
use Rattle.puts.specs.Runs.{run-then, byte-then, then-byte}
use Rattle.tree.specs.Rose.{end_of, text_of}
use Rattle.rules.specs.Names.{is_var}
use Rattle.rules.specs.Table.{Arg, Kind, Err, n_native, n_call_def}
use Rattle.rules.specs.Listing.{flag, arg_kind, arg_list, node_bytes, rec_bytes}
use Rattle.rules.specs.Tails.{parent, sibling, returned, bit, subset, local_call, module_kind}
use Rattle.rules.specs.Returns.{Lone}
use Rattle.rules.specs.Rows.{Filter}
use Rattle.rules.specs.Filters.{Found, nothing, argument, local, of_module, of_native}
use Rattle.rules.specs.Outs.{Made, binds, call_out}
use Rattle.reads.specs.Bytes.{names_of, Fields}
use Rattle.cells.specs.Cells.{number_at, kind_at, arity_at, place_at, before_at, level_at, last_at, filter_at}
use Rattle.cells.specs.Notes.{numbers_of}
use Rattle.finds.specs.Hits as Hit
use Rattle.finds.specs.Means.{Readable, FoundIs}
use Rattle.records.specs.Calls.{args_at, def_bytes, ArgsReady, jump_of, JumpReady, Callable, CallReady, CallPut}

-- ---- the arguments

arg-kind : (t : Bool) → arg_kind 2 t ≡ flag (not t)
arg-kind true = refl
arg-kind false = refl

-- the bytes of n arguments from row k on, whose parameters stand from p on
abbrev arg_bytes : List ℕ → List ℕ → ℕ → ℕ → ℕ → List ℕ
arg_bytes b s n p k = arg_list 2 (binds (names_of b n p) (numbers_of s k n))

args_count : (b s : List ℕ) (n p k : ℕ) → length (binds (names_of b n p) (numbers_of s k n)) ≡ n
unfolding names_of numbers_of
args_count b s zero p k = refl
args_count b s (suc n) p k = ap suc (args_count b s n (end_of b p) (suc k))

args-long : (l : List Arg) → length (arg_list 2 l) ≡ 3 * length l
unfolding arg_list number
args-long [] = refl
args-long (a ∷ l) = omega (arith, args-long l)

pub record Going (b s : List ℕ) (j k a o : ℕ) (d₀ : List ℕ) (p i x : ℕ) (d : List ℕ) : Type 0 where
  pub goes : (d' : List ℕ) → d' ≡ overlay d x (arg_bytes b s (a - i) p (k + i)) → d' ≡ overlay d₀ (o + 2) (arg_list 2 (args_at b s j k a))
  pub params : Fields b (a - i) p
  pub few : i ≤ a
  pub at : x ≡ o + 2 + 3 * i
  pub same : length d ≡ length d₀

pub begin : (b s : List ℕ) (j k a o p : ℕ) (d : List ℕ) → Fields b a (end_of b (place_at s j)) → p ≡ end_of b (place_at s j) → Going b s j k a o d p 0 (o + 2) d
begin b s j k a o p d f e =
    let z : a - 0 ≡ a = omega arith in
    let y : k + 0 ≡ k = omega arith in
    record { goes = λ d' g. rw (z, y, e) at g; params = rw (z, e) f; few = omega arith; at = omega arith; same = refl }

-- the next parameter lies within the bytes
next : (b : List ℕ) (a i p : ℕ) → i < a → Fields b (a - i) p → Fields b (suc (a - (i + 1))) p
next b a i p h f = let e : a - i ≡ suc (a - (i + 1)) = omega arith in rw e at f

pub next_fits : (b s : List ℕ) (j k a o : ℕ) (d₀ : List ℕ) (p i x : ℕ) (d : List ℕ) → Going b s j k a o d₀ p i x d → i < a → end_of b p ≤ length b
unfolding Fields
next_fits b s j k a o d₀ p i x d g h = (next b a i p h g.params).0

pub again : (b s : List ℕ) (j k a o : ℕ) (d₀ : List ℕ) (p i x y n : ℕ) (v : Bool) (d d₁ d₂ : List ℕ) → Going b s j k a o d₀ p i x d → i < a
    → v ≡ is_var (text_of b p) → y ≡ flag (not v) → d₁ ≡ set d x y → n ≡ number_at s (k + i) → d₂ ≡ overlay d₁ (x + 1) (number 2 n) → length d₂ ≡ length d
    → Going b s j k a o d₀ (end_of b p) (i + 1) (x + 3) d₂
unfolding Fields names_of numbers_of arg_list number
again b s j k a o d₀ p i x y n v d d₁ d₂ g h ev ey e en f l =
    record {
      goes = λ d' t. g.goes d' (run-then d x (y ∷ number 2 n) left (x + 3) d₂ d' refl (byte-then d x y (number 2 n) d₁ d₂ e f) (rw one at t) ∙ ap (overlay d x) (sym all));
      params = (next b a i p h g.params).1;
      few = omega arith;
      at = omega (arith, g.at);
      same = l ∙ g.same;
    }
  where
    m : a - i ≡ suc (a - (i + 1))
    m = omega arith

    one : k + (i + 1) ≡ suc (k + i)
    one = omega arith

    left : List ℕ
    left = arg_bytes b s (a - (i + 1)) (end_of b p) (suc (k + i))

    arg_is : y ≡ arg_kind 2 (is_var (text_of b p))
    arg_is = ey ∙ ap (λ (t : Bool). flag (not t)) ev ∙ sym (arg-kind (is_var (text_of b p)))

    all : arg_bytes b s (a - i) p (k + i) ≡ (y ∷ number 2 n) ++ left
    all = ap (λ (c : ℕ). arg_bytes b s c p (k + i)) m ∙ ap₂ (λ (u w : ℕ). (u ∷ number 2 w) ++ left) (sym arg_is) (sym en)

pub finish : (b s : List ℕ) (j k a o : ℕ) (d₋ d₀ : List ℕ) (p i x : ℕ) (d : List ℕ) → Going b s j k a o d₀ p i x d → a ≤ i → d₀ ≡ overlay d₋ o (number 2 a)
    → d ≡ overlay d₋ o (number 2 a ++ arg_list 2 (args_at b s j k a))
unfolding names_of numbers_of arg_list number
finish b s j k a o d₋ d₀ p i x d g h e =
    let z : a - i ≡ 0 = omega arith in
    run-then d₋ o (number 2 a) (arg_list 2 (args_at b s j k a)) (o + 2) d₀ d refl e (g.goes d (rw z (sym (overlay-none d x))))

-- ---- natives and definitions

pub native-put : (b s : List ℕ) (j k a n o : ℕ) (d d₁ d₂ : List ℕ) → n ≡ number_at s j → d₁ ≡ overlay d o (0x5B ∷ (number 2 (4 + 3 * a) ++ number 2 n)) → d₂ ≡ overlay d₁ (o + 5) (number 2 a ++ arg_list 2 (args_at b s j k a))
    → d₂ ≡ overlay d o (node_bytes 2 (n_native (number_at s j) (args_at b s j k a)))
unfolding field number
native-put b s j k a n o d d₁ d₂ en e f =
    let l : List Arg = args_at b s j k a in
    let c : length l ≡ a = args_count b s a (end_of b (place_at s j)) k in
    let q : 4 + 3 * a ≡ length (number 2 n ++ (number 2 (length l) ++ arg_list 2 l)) = omega (arith, c, args-long l) in
    run-then d o (0x5B ∷ (number 2 (4 + 3 * a) ++ number 2 n)) (number 2 a ++ arg_list 2 l) (o + 5) d₁ d₂ refl e f
    ∙ ap₂ (λ (u w : ℕ). overlay d o ((0x5B ∷ (number 2 u ++ number 2 n)) ++ (number 2 w ++ arg_list 2 l))) q (sym c)
    ∙ ap (λ (u : ℕ). overlay d o (field 0x5B (number 2 u ++ (number 2 (length l) ++ arg_list 2 l)))) en

pub def-put : (b s : List ℕ) (j k a n m x o : ℕ) (d d₁ d₂ d₃ d₄ : List ℕ) → n ≡ number_at s j → m ≡ get_or s 1 0 - before_at s j
    → d₁ ≡ overlay d o (0x5A ∷ (number 2 (7 + 3 * a) ++ number 2 n)) → d₂ ≡ overlay d₁ (o + 5) (number 2 a ++ arg_list 2 (args_at b s j k a))
    → d₃ ≡ overlay d₂ (o + 7 + 3 * a) (number 2 m) → d₄ ≡ set d₃ (o + 9 + 3 * a) x
    → d₄ ≡ overlay d o (def_bytes (number_at s j) (args_at b s j k a) (get_or s 1 0 - before_at s j) x)
unfolding field number
def-put b s j k a n m x o d d₁ d₂ d₃ d₄ en em e f g h =
    let l : List Arg = args_at b s j k a in
    let y : List ℕ = arg_list 2 l in
    let c : length l ≡ a = args_count b s a (end_of b (place_at s j)) k in
    let t : List ℕ = 0x5A ∷ (number 2 (7 + 3 * a) ++ number 2 n) in
    let q : 7 + 3 * a ≡ length (number 2 n ++ (number 2 (length l) ++ (y ++ (number 2 m ++ (x ∷ []))))) = omega (arith, c, args-long l, length-append y (number 2 m ++ (x ∷ []))) in
    let f₂ : d₂ ≡ overlay d o (t ++ (number 2 a ++ y)) = run-then d o t (number 2 a ++ y) (o + 5) d₁ d₂ refl e f in
    let f₃ : d₃ ≡ overlay d o ((t ++ (number 2 a ++ y)) ++ number 2 m) = run-then d o (t ++ (number 2 a ++ y)) (number 2 m) (o + 7 + 3 * a) d₂ d₃ (omega (arith, c, args-long l)) f₂ g in
    let f₄ : d₄ ≡ overlay d o (((t ++ (number 2 a ++ y)) ++ number 2 m) ++ (x ∷ [])) = then-byte d o ((t ++ (number 2 a ++ y)) ++ number 2 m) x (o + 9 + 3 * a) d₃ d₄ (omega (arith, c, args-long l, length-append y (number 2 m))) f₃ h in
    f₄
    ∙ ap (λ (u : List ℕ). overlay d o (t ++ (number 2 a ++ u))) (append_assoc y (number 2 m) (x ∷ []))
    ∙ ap₂ (λ (u w : ℕ). overlay d o ((0x5A ∷ (number 2 u ++ number 2 n)) ++ (number 2 w ++ (y ++ (number 2 m ++ (x ∷ [])))))) q (sym c)
    ∙ ap₂ (λ (u w : ℕ). overlay d o (field 0x5A (number 2 u ++ (number 2 (length l) ++ (y ++ (number 2 w ++ (x ∷ []))))))) en em

-- ---- a call, by what its name means

-- the kinds of a local definition
local-kind : (s : List ℕ) (f : Hit.Found) → ((f.kind ≡ 3) × (kind_at s f.j ≡ 3)) ⊎ ((f.kind ≡ 4) × (kind_at s f.j ≡ 4)) → (3 ≤ f.kind) × (f.kind ≤ 4)
local-kind s f (inl e) = (omega (arith, e.0), omega (arith, e.0))
local-kind s f (inr e) = (omega (arith, e.0), omega (arith, e.0))

module _ (b s : List ℕ) (f : Hit.Found) (k a o : ℕ) where
  pub call-lost : (d d₁ : List ℕ) (al : ℕ) → f.kind < 2 → d₁ ≡ overlay d o (field 0x50 []) → CallPut b s f k a o d d₁ al 0
  unfolding FoundIs Callable call_out
  call-lost d d₁ al h e = record { is = go }
    where
      go : (u : Found) (x : Err) (m c p : ℕ) (g : Made (List ℕ)) → FoundIs u x b s m a f → Callable u s m f → get_or s 1 0 ≡ m + c → g.made ≡ numbers_of s k a
          → (d₁ ≡ overlay d o (rec_bytes 2 (call_out p c al g x u).self)) × (0 ≡ (call_out p c al g x u).tail)
      go nothing x m c p g i w t v = (e, refl)
      go (argument n) x m c p g i w t v = absurd (omega (arith, i.0))
      go (local q) x m c p g i w t v = absurd (omega (arith, (local-kind s f i.0).0))
      go (of_module q) x m c p g i w t v = absurd (omega (arith, i.0))
      go (of_native n ps) x m c p g i w t v = absurd (omega (arith, i.0))

  pub call-argument : (n : ℕ) (d d₁ : List ℕ) (al : ℕ) → f.kind ≡ 2 → n ≡ get_or s 1 0 - before_at s f.j - 1 → d₁ ≡ overlay d o (field 0x59 (number 2 n)) → CallPut b s f k a o d d₁ al 0
  unfolding FoundIs Callable call_out
  call-argument n d d₁ al h en e = record { is = go }
    where
      go : (u : Found) (x : Err) (m c p : ℕ) (g : Made (List ℕ)) → FoundIs u x b s m a f → Callable u s m f → get_or s 1 0 ≡ m + c → g.made ≡ numbers_of s k a
          → (d₁ ≡ overlay d o (rec_bytes 2 (call_out p c al g x u).self)) × (0 ≡ (call_out p c al g x u).tail)
      go nothing x m c p g i w t v = absurd (omega arith)
      go (argument y) x m c p g i w t v = let z : n ≡ y = omega (arith, i.2) in (e ∙ ap (λ (q : ℕ). overlay d o (field 0x59 (number 2 q))) z, refl)
      go (local q) x m c p g i w t v = absurd (omega (arith, (local-kind s f i.0).0))
      go (of_module q) x m c p g i w t v = absurd (omega (arith, i.0))
      go (of_native y ps) x m c p g i w t v = absurd (omega (arith, i.0))

  pub call-native : (d d₁ : List ℕ) (al : ℕ) → f.kind ≡ 6 → d₁ ≡ overlay d o (node_bytes 2 (n_native (number_at s f.j) (args_at b s f.j k a))) → CallPut b s f k a o d d₁ al 0
  unfolding FoundIs Callable call_out
  call-native d d₁ al h e = record { is = go }
    where
      go : (u : Found) (x : Err) (m c p : ℕ) (g : Made (List ℕ)) → FoundIs u x b s m a f → Callable u s m f → get_or s 1 0 ≡ m + c → g.made ≡ numbers_of s k a
          → (d₁ ≡ overlay d o (rec_bytes 2 (call_out p c al g x u).self)) × (0 ≡ (call_out p c al g x u).tail)
      go nothing x m c p g i w t v = absurd (omega arith)
      go (argument y) x m c p g i w t v = absurd (omega (arith, i.0))
      go (local q) x m c p g i w t v = absurd (omega (arith, (local-kind s f i.0).1))
      go (of_module q) x m c p g i w t v = absurd (omega (arith, i.0))
      go (of_native y ps) x m c p g i w t v =
          let z : binds (names_of b a (end_of b (place_at s f.j))) (numbers_of s k a) ≡ binds ps g.made = ap₂ binds (ap (λ (q : ℕ). names_of b q (end_of b (place_at s f.j))) (sym i.4) ∙ i.3) (sym v) in
          (e ∙ ap₂ (λ (q : ℕ) (l : List Arg). overlay d o (node_bytes 2 (n_native q l))) i.2 z, refl)

  -- the definition's record, however it is called
  args_are : (g : Made (List ℕ)) → arity_at s f.j ≡ a → g.made ≡ numbers_of s k a → args_at b s f.j k a ≡ binds (names_of b (arity_at s f.j) (end_of b (place_at s f.j))) g.made
  args_are g e v = ap₂ binds (ap (λ (q : ℕ). names_of b q (end_of b (place_at s f.j))) (sym e)) (sym v)

  pub call-jump : (d d₁ : List ℕ) (al r : ℕ) → (f.kind < 2 → ⊥) → (f.kind ≡ 2 → ⊥) → (f.kind ≡ 6 → ⊥)
      → d₁ ≡ overlay d o (node_bytes 2 (n_call_def (number_at s f.j) (args_at b s f.j k a) (get_or s 1 0 - before_at s f.j) (jump_of f.kind (level_at s f.j) (last_at s f.j) al).kind))
      → r ≡ (jump_of f.kind (level_at s f.j) (last_at s f.j) al).tail → CallPut b s f k a o d d₁ al r
  unfolding FoundIs Callable call_out jump_of
  call-jump d d₁ al r h₁ h₂ h₃ e er = record { is = go }
    where
      put_is : (n : ℕ) {l l' : List Arg} → l ≡ l' → {q q' : ℕ} → q ≡ q' → (y : Kind) → overlay d o (node_bytes 2 (n_call_def n l q y)) ≡ overlay d o (node_bytes 2 (n_call_def n l' q' y))
      put_is n g i y = ap₂ (λ (l : List Arg) (q : ℕ). overlay d o (node_bytes 2 (n_call_def n l q y))) g i

      go : (u : Found) (x : Err) (m c p : ℕ) (g : Made (List ℕ)) → FoundIs u x b s m a f → Callable u s m f → get_or s 1 0 ≡ m + c → g.made ≡ numbers_of s k a
          → (d₁ ≡ overlay d o (rec_bytes 2 (call_out p c al g x u).self)) × (r ≡ (call_out p c al g x u).tail)
      go nothing x m c p g i w t v = absurd (h₁ w)
      go (argument y) x m c p g i w t v = absurd (h₂ i.0)
      go (local q) x m c p g i w t v = subst (λ (z : Filter). (d₁ ≡ overlay d o (rec_bytes 2 (call_out p c al g x (local z)).self)) × (r ≡ (call_out p c al g x (local z)).tail)) i.2 (own i.0)
        where
          n : get_or s 1 0 - before_at s f.j ≡ c - (before_at s f.j - m)
          n = omega (arith, w, t)

          own : ((f.kind ≡ 3) × (kind_at s f.j ≡ 3)) ⊎ ((f.kind ≡ 4) × (kind_at s f.j ≡ 4))
              → (d₁ ≡ overlay d o (rec_bytes 2 (call_out p c al g x (local (filter_at b s m f.j))).self)) × (r ≡ (call_out p c al g x (local (filter_at b s m f.j))).tail)
          own (inl y) = (e ∙ rw (y.0, y.1) (put_is (number_at s f.j) (args_are g i.3 v) n (local_call (level_at s f.j) parent al).kind), er ∙ rw (y.0, y.1))
          own (inr y) = (e ∙ rw (y.0, y.1) (put_is (number_at s f.j) (args_are g i.3 v) n (local_call (level_at s f.j) (sibling (last_at s f.j)) al).kind), er ∙ rw (y.0, y.1))
      go (of_module q) x m c p g i w t v = subst (λ (z : Filter). (d₁ ≡ overlay d o (rec_bytes 2 (call_out p c al g x (of_module z)).self)) × (r ≡ (call_out p c al g x (of_module z)).tail)) i.3 (e ∙ rw (i.0, i.1) (put_is (number_at s f.j) (args_are g i.4 v) (omega (arith, w.0, t)) (module_kind (level_at s f.j) (sibling (last_at s f.j)))), er ∙ rw i.0)
      go (of_native y ps) x m c p g i w t v = absurd (h₃ i.0)

  -- ---- what makes them safe

  pub index-ready : CallReady b s f k a o → f.kind ≡ 2 → (4 * f.j + 4 ≤ length s) × (before_at s f.j < get_or s 1 0)
  unfolding FoundIs Callable
  index-ready r h = go r.found r.is r.can
    where
      go : (u : Found) → FoundIs u r.err b s r.outer a f → Callable u s r.outer f → (4 * f.j + 4 ≤ length s) × (before_at s f.j < get_or s 1 0)
      go nothing i w = absurd (omega arith)
      go (argument y) i w = (i.1.within, omega (arith, i.2))
      go (local q) i w = absurd (omega (arith, (local-kind s f i.0).0))
      go (of_module q) i w = absurd (omega (arith, i.0))
      go (of_native y ps) i w = absurd (omega (arith, i.0))

  args-ready : (w : ℕ) → w ≤ 10 → CallReady b s f k a o → Readable b s f.j → arity_at s f.j ≡ a → ArgsReady b s f.j k a o w
  args-ready w l r q e = record { within = q.within; name = q.name; params = subst (λ (n : ℕ). Fields b n (end_of b (place_at s f.j))) e q.params; rows = r.rows; room = omega (arith, r.room) }

  pub native-ready : CallReady b s f k a o → f.kind ≡ 6 → ArgsReady b s f.j k a o 7
  unfolding FoundIs Callable
  native-ready r h = go r.found r.is r.can
    where
      go : (u : Found) → FoundIs u r.err b s r.outer a f → Callable u s r.outer f → ArgsReady b s f.j k a o 7
      go nothing i w = absurd (omega arith)
      go (argument y) i w = absurd (omega (arith, i.0))
      go (local q) i w = absurd (omega (arith, (local-kind s f i.0).1))
      go (of_module q) i w = absurd (omega (arith, i.0))
      go (of_native y ps) i w = args-ready 7 (omega arith) r i.1 i.4

  lone-set : (m : ℕ) (d : Filter) → filter_at b s m f.j ≡ d → kind_at s f.j ≡ 4 → Lone d → subset (last_at s f.j) (bit (level_at s f.j)) ≡ true
  lone-set m d e q l =
      let g : sibling (last_at s f.j) ≡ d.fun = sym (rw q) ∙ ap (λ (z : Filter). z.fun) e in
      let n : last_at s f.j ≡ l.set = ap returned (g ∙ l.seen) in
      rw (n, ap (λ (z : Filter). z.level) e) l.own

  pub jump-ready : CallReady b s f k a o → (f.kind < 2 → ⊥) → (f.kind ≡ 2 → ⊥) → (f.kind ≡ 6 → ⊥)
      → ArgsReady b s f.j k a o 10 × (before_at s f.j ≤ get_or s 1 0) × JumpReady s f.kind f.j
  unfolding FoundIs Callable
  jump-ready r h₁ h₂ h₃ = go r.found r.is r.can
    where
      go : (u : Found) → FoundIs u r.err b s r.outer a f → Callable u s r.outer f → ArgsReady b s f.j k a o 10 × (before_at s f.j ≤ get_or s 1 0) × JumpReady s f.kind f.j
      go nothing i w = absurd (h₁ w)
      go (argument y) i w = absurd (h₂ i.0)
      go (local q) i w = (args-ready 10 (omega arith) r i.1 i.3, i.5, record { within = i.1.within; lone = λ n₃ n₄. absurd (omega (arith, n₃, n₄, (local-kind s f i.0).0, (local-kind s f i.0).1)) })
      go (of_module q) i w = (args-ready 10 (omega arith) r i.2 i.4, omega (arith, i.5, i.6), record { within = i.2.within; lone = λ n₃ n₄. lone-set r.outer q i.3 i.1 w.1 })
      go (of_native y ps) i w = absurd (h₃ i.0)
