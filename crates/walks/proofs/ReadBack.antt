-- What is listed is read back: the bytes of a listing determine main's number and the records, where each number fits its bytes and each content its length.
-- Assumes nothing.
use Rattle.std.specs.Prelude.{ℕ, zero, suc, ◌+◌, ◌≤◌, ◌<◌, ◌^◌, ◌≡◌, refl, Bool, true, false, List, [], ◌∷◌, ◌++◌, length, take, drop, eqb}
use Rattle.std.proofs.Common.{arith, ap, ap₂, sym, ◌∙◌, append_assoc, append-nil, length-append}
use Rattle.std.proofs.Math.Option.{Option, none, some}
use Rattle.std.proofs.Math.Seq.{take-append_seam, drop-append_seam}
use Rattle.fields.specs.Number.{number, length-number, value-number}
use Rattle.fields.specs.Field.{field, length-field}
use Rattle.rules.specs.Table.{Kind, inline, throw, catch_one, catch_all, kind_number, Arg, Pat, pat_var, pat_idx, Pats, pats_nil, pats_cons, Folding, reduce, foreach, Step, index, range, Node, n_id, n_recurse, n_to_string, n_int, n_num, n_str, n_arr, n_obj_empty, n_obj_single, n_var, n_call_def, n_native, n_label, n_neg, n_pipe, n_comma, n_assign, n_update, n_update_math, n_update_alt, n_logic, n_math, n_cmp, n_alt, n_try_catch, n_ite, n_fold, n_path}
use Rattle.rules.specs.Lists.{Every}
use Rattle.rules.specs.Listing.{flag, arg_kind, arg_list, pat_count, pat_bytes, pats_bytes, opt_pat_bytes, fold_bytes, opt_number, step_bytes, steps_bytes, node_bytes, table_bytes, term_listing}
use Rattle.rules.specs.Slices.{Table}
use Rattle.walks.specs.Together.{nodes_of}
use Rattle.walks.specs.Reader.{with_byte, with_number, read_args, read_pat, read_pats, read_opt_pat, read_folding, read_opt_number, read_step, read_steps, kind_of, pair, between, read_call, read_native, read_pipe, read_ite, read_fold, read_path, read_node, with_field, read_nodes, Listed, read_listing}

-- ---- what fits

-- two bytes hold it
abbrev pub Small : ℕ → Type 0
Small n = n < 65536

abbrev pub SmallOpt : Option ℕ → Type 0
SmallOpt none = Unit {0}
SmallOpt (some n) = Small n

abbrev pub SmallArgs : List Arg → Type 0
SmallArgs as' = Every (λ a. Small a.num) as'

abbrev mutual
  pub SmallPat : Pat → Type 0
  SmallPat pat_var = Unit {0}
  SmallPat (pat_idx xs) = Small (pat_count 2 xs) × SmallPats xs

  pub SmallPats : Pats → Type 0
  SmallPats pats_nil = Unit {0}
  SmallPats (pats_cons k x xs) = Small k × SmallPat x × SmallPats xs

abbrev pub SmallOptPat : Option Pat → Type 0
SmallOptPat none = Unit {0}
SmallOptPat (some x) = SmallPat x

abbrev pub SmallStep : Step → Type 0
SmallStep (index n o) = Small n
SmallStep (range i j o) = SmallOpt i × SmallOpt j

abbrev pub SmallFolding : Folding → Type 0
SmallFolding reduce = Unit {0}
SmallFolding (foreach n) = SmallOpt n

-- each number of a record fits its bytes: "Int in eight bytes"
abbrev pub SmallNode : Node → Type 0
SmallNode n_id = Unit {0}
SmallNode n_recurse = Unit {0}
SmallNode n_to_string = Unit {0}
SmallNode (n_int i) = i < 256 ^ 8
SmallNode (n_num x) = Unit {0}
SmallNode (n_str x) = Unit {0}
SmallNode (n_arr a) = Small a
SmallNode n_obj_empty = Unit {0}
SmallNode (n_obj_single a b) = Small a × Small b
SmallNode (n_var i) = Small i
SmallNode (n_call_def n as' s k) = Small n × Small (length as') × SmallArgs as' × Small s
SmallNode (n_native i as') = Small i × Small (length as') × SmallArgs as'
SmallNode (n_label a) = Small a
SmallNode (n_neg a) = Small a
SmallNode (n_pipe a x b) = Small a × SmallOptPat x × Small b
SmallNode (n_comma a b) = Small a × Small b
SmallNode (n_assign a b) = Small a × Small b
SmallNode (n_update a b) = Small a × Small b
SmallNode (n_update_math a k b) = Small a × Small b
SmallNode (n_update_alt a b) = Small a × Small b
SmallNode (n_logic a o b) = Small a × Small b
SmallNode (n_math a k b) = Small a × Small b
SmallNode (n_cmp a k b) = Small a × Small b
SmallNode (n_alt a b) = Small a × Small b
SmallNode (n_try_catch a b) = Small a × Small b
SmallNode (n_ite a b c) = Small a × Small b × Small c
SmallNode (n_fold a x b c f) = Small a × SmallPat x × Small b × Small c × SmallFolding f
SmallNode (n_path a ss) = Small a × Small (length ss) × Every SmallStep ss

-- and its content has a length of two bytes: the field's tag and length are three more
pub record Fits (x : Node) : Type 0 where
  pub numbers : SmallNode x
  pub room : length (node_bytes 2 x) < 65539

-- ---- each part of a record

with-number : {A : Type 0} (n : ℕ) (bs : List ℕ) (f : ℕ → List ℕ → A) → Small n → with_number (number 2 n ++ bs) f ≡ f n bs
unfolding with_number number
with-number n bs f h = ap (λ (k : ℕ). f k bs) (value-number 2 n h)

with-last : {A : Type 0} (n : ℕ) (f : ℕ → List ℕ → A) → Small n → with_number (number 2 n) f ≡ f n []
unfolding with_number number
with-last n f h = ap (λ (k : ℕ). f k []) (value-number 2 n h)

flag-back : (b : Bool) → eqb (flag b) 1 ≡ b
flag-back true = refl
flag-back false = refl

kind-back : (k : Kind) → kind_of (kind_number k) ≡ k
kind-back inline = refl
kind-back throw = refl
kind-back catch_one = refl
kind-back catch_all = refl

arg-back : (b : Bool) → eqb (arg_kind 2 b) 0 ≡ b
arg-back true = refl
arg-back false = refl

args-back : {A : Type 0} (as' : List Arg) (bs : List ℕ) (f : List Arg → List ℕ → A) → SmallArgs as' → read_args (length as') (arg_list 2 as' ++ bs) f ≡ f as' bs
unfolding read_args arg_list
args-back [] bs f h = refl
args-back (a ∷ as') bs f h =
    let next : ℕ → List ℕ → _ = λ n ds. read_args (length as') ds (λ xs es. f (record { isv = eqb (arg_kind 2 a.isv) 0; num = n } ∷ xs) es) in
    ap (λ (l : List ℕ). with_number l next) (append_assoc (number 2 a.num) (arg_list 2 as') bs)
    ∙ with-number a.num (arg_list 2 as' ++ bs) next h.0
    ∙ args-back as' bs (λ xs es. f (record { isv = eqb (arg_kind 2 a.isv) 0; num = a.num } ∷ xs) es) h.1
    ∙ ap (λ (b : Bool). f (record { isv = b; num = a.num } ∷ as') bs) (arg-back a.isv)

-- how deep a pattern is read
abbrev mutual
  pat_size : Pat → ℕ
  pat_size pat_var = 1
  pat_size (pat_idx xs) = suc (pats_size xs)

  pats_size : Pats → ℕ
  pats_size pats_nil = 0
  pats_size (pats_cons k x xs) = suc (pat_size x + pats_size xs)

mutual
  unfolding pat_bytes

  pat-size : (x : Pat) → pat_size x ≤ length (pat_bytes 2 x)
  pat-size pat_var = omega arith
  pat-size (pat_idx xs) = omega (arith, pats-size xs, length-append (number 2 (pat_count 2 xs)) (pats_bytes 2 xs))

  pats-size : (xs : Pats) → pats_size xs ≤ length (pats_bytes 2 xs)
  pats-size pats_nil = omega arith
  pats-size (pats_cons k x xs) =
      omega (
        arith,
        pat-size x,
        pats-size xs,
        length-number 2 k,
        length-append (number 2 k) (pat_bytes 2 x ++ pats_bytes 2 xs),
        length-append (pat_bytes 2 x) (pats_bytes 2 xs),
      )

mutual
  unfolding read_pat pat_bytes

  pat-back : {A : Type 0} (x : Pat) (k : ℕ) (bs : List ℕ) (f : Pat → List ℕ → A) → pat_size x ≤ k → SmallPat x → read_pat k (pat_bytes 2 x ++ bs) f ≡ f x bs
  pat-back pat_var zero bs f h s = absurd (omega arith)
  pat-back pat_var (suc k) bs f h s = refl
  pat-back (pat_idx xs) zero bs f h s = absurd (omega arith)
  pat-back (pat_idx xs) (suc k) bs f h s =
      let next : ℕ → List ℕ → _ = λ n ds. read_pats k n ds (λ ys es. f (pat_idx ys) es) in
      ap (λ (l : List ℕ). with_number l next) (append_assoc (number 2 (pat_count 2 xs)) (pats_bytes 2 xs) bs)
      ∙ with-number (pat_count 2 xs) (pats_bytes 2 xs ++ bs) next s.0
      ∙ pats-back xs k bs (λ ys es. f (pat_idx ys) es) (omega arith) s.1

  pats-back : {A : Type 0} (xs : Pats) (k : ℕ) (bs : List ℕ) (f : Pats → List ℕ → A) → pats_size xs ≤ k → SmallPats xs
      → read_pats k (pat_count 2 xs) (pats_bytes 2 xs ++ bs) f ≡ f xs bs
  pats-back pats_nil zero bs f h s = refl
  pats-back pats_nil (suc k) bs f h s = refl
  pats-back (pats_cons i x xs) zero bs f h s = absurd (omega arith)
  pats-back (pats_cons i x xs) (suc k) bs f h s =
      let rest : Pat → List ℕ → _ = λ y ds. read_pats k (pat_count 2 xs) ds (λ ys es. f (pats_cons i y ys) es) in
      let next : ℕ → List ℕ → _ = λ n cs. read_pat k cs (λ y ds. read_pats k (pat_count 2 xs) ds (λ ys es. f (pats_cons n y ys) es)) in
      ap (λ (l : List ℕ). with_number l next)
      (append_assoc (number 2 i) (pat_bytes 2 x ++ pats_bytes 2 xs) bs ∙ ap (◌++◌ (number 2 i)) (append_assoc (pat_bytes 2 x) (pats_bytes 2 xs) bs))
      ∙ with-number i (pat_bytes 2 x ++ (pats_bytes 2 xs ++ bs)) next s.0
      ∙ pat-back x k (pats_bytes 2 xs ++ bs) rest (omega arith) s.1
      ∙ pats-back xs k bs (λ ys es. f (pats_cons i x ys) es) (omega arith) s.2

opt-pat-back : {A : Type 0} (x : Option Pat) (bs : List ℕ) (f : Option Pat → List ℕ → A) → SmallOptPat x → read_opt_pat (opt_pat_bytes 2 x ++ bs) f ≡ f x bs
unfolding read_opt_pat opt_pat_bytes pat_bytes
opt-pat-back none bs f h = refl
opt-pat-back (some pat_var) bs f h = pat-back pat_var (suc (length bs)) bs (λ x ds. f (some x) ds) (omega arith) h
opt-pat-back (some (pat_idx xs)) bs f h =
    pat-back (pat_idx xs) (length (pat_bytes 2 (pat_idx xs) ++ bs)) bs (λ x ds. f (some x) ds)
    (omega (arith, pat-size (pat_idx xs), length-append (pat_bytes 2 (pat_idx xs)) bs)) h

folding-back : (f : Folding) → SmallFolding f → read_folding (fold_bytes 2 f) ≡ f
unfolding read_folding fold_bytes
folding-back reduce h = refl
folding-back (foreach none) h = refl
folding-back (foreach (some n)) h = with-last n (λ k ds. foreach (some k)) h

opt-number-back : {A : Type 0} (n : Option ℕ) (bs : List ℕ) (f : Option ℕ → List ℕ → A) → SmallOpt n → read_opt_number (opt_number 2 n ++ bs) f ≡ f n bs
unfolding read_opt_number opt_number
opt-number-back none bs f h = refl
opt-number-back (some n) bs f h = with-number n bs (λ k ds. f (some k) ds) h

step_back : {A : Type 0} (s : Step) (bs : List ℕ) (f : Step → List ℕ → A) → SmallStep s → read_step (step_bytes 2 s ++ bs) f ≡ f s bs
unfolding read_step step_bytes
step_back (index n o) bs f h =
    let next : ℕ → List ℕ → _ = λ k ds. with_byte ds (λ b es. f (index k (eqb b 1)) es) in
    ap (λ (l : List ℕ). with_number l next) (append_assoc (number 2 n) (flag o ∷ []) bs)
    ∙ with-number n (flag o ∷ bs) next h
    ∙ ap (λ (b : Bool). f (index n b) bs) (flag-back o)
step_back (range i j o) bs f h =
    let last : Option ℕ → Option ℕ → List ℕ → _ = λ a b es. with_byte es (λ c gs. f (range a b (eqb c 1)) gs) in
    let next : Option ℕ → List ℕ → _ = λ a ds. read_opt_number ds (λ b es. last a b es) in
    ap (λ (l : List ℕ). read_opt_number l next)
    (append_assoc (opt_number 2 i) (opt_number 2 j ++ (flag o ∷ [])) bs ∙ ap (◌++◌ (opt_number 2 i)) (append_assoc (opt_number 2 j) (flag o ∷ []) bs))
    ∙ opt-number-back i (opt_number 2 j ++ (flag o ∷ bs)) next h.0
    ∙ opt-number-back j (flag o ∷ bs) (last i) h.1
    ∙ ap (λ (b : Bool). f (range i j b) bs) (flag-back o)

steps_back : {A : Type 0} (ss : List Step) (bs : List ℕ) (f : List Step → List ℕ → A) → Every SmallStep ss → read_steps (length ss) (steps_bytes 2 ss ++ bs) f ≡ f ss bs
unfolding read_steps steps_bytes
steps_back [] bs f h = refl
steps_back (s ∷ ss) bs f h =
    let next : Step → List ℕ → _ = λ x cs. read_steps (length ss) cs (λ xs ds. f (x ∷ xs) ds) in
    ap (λ (l : List ℕ). read_step l next) (append_assoc (step_bytes 2 s) (steps_bytes 2 ss) bs)
    ∙ step_back s (steps_bytes 2 ss ++ bs) next h.0
    ∙ steps_back ss bs (λ xs ds. f (s ∷ xs) ds) h.1

-- ---- each record

pair-back : (a b : ℕ) (f : ℕ → ℕ → Node) → Small a → Small b → pair f (number 2 a ++ number 2 b) ≡ f a b
pair-back a b f h k = with-number a (number 2 b) (λ i cs. with_number cs (λ j ds. f i j)) h ∙ with-last b (λ j ds. f a j) k

between-back : (a k b : ℕ) (f : ℕ → ℕ → ℕ → Node) → Small a → Small b → between f (number 2 a ++ (k ∷ number 2 b)) ≡ f a k b
between-back a k b f h h' =
    with-number a (k ∷ number 2 b) (λ i cs. with_byte cs (λ o ds. with_number ds (λ j es. f i o j))) h ∙ with-last b (λ j es. f a k j) h'

call_back : (n : ℕ) (as' : List Arg) (s : ℕ) (k : Kind) → Small n → Small (length as') → SmallArgs as' → Small s
    → read_call (number 2 n ++ (number 2 (length as') ++ (arg_list 2 as' ++ (number 2 s ++ (kind_number k ∷ []))))) ≡ n_call_def n as' s k
call_back n as' s k hn hl ha hs =
    let end : ℕ → List Arg → List ℕ → Node = λ i xs es. with_number es (λ j gs. with_byte gs (λ how hs. n_call_def i xs j (kind_of how))) in
    with-number n (number 2 (length as') ++ (arg_list 2 as' ++ (number 2 s ++ (kind_number k ∷ [])))) (λ i cs. with_number cs (λ c ds. read_args c ds (end i))) hn
    ∙ with-number (length as') (arg_list 2 as' ++ (number 2 s ++ (kind_number k ∷ []))) (λ c ds. read_args c ds (end n)) hl
    ∙ args-back as' (number 2 s ++ (kind_number k ∷ [])) (end n) ha
    ∙ with-number s (kind_number k ∷ []) (λ j gs. with_byte gs (λ how hs. n_call_def n as' j (kind_of how))) hs
    ∙ ap (n_call_def n as' s) (kind-back k)

native-back : (i : ℕ) (as' : List Arg) → Small i → Small (length as') → SmallArgs as'
    → read_native (number 2 i ++ (number 2 (length as') ++ arg_list 2 as')) ≡ n_native i as'
native-back i as' hi hl ha =
    with-number i (number 2 (length as') ++ arg_list 2 as') (λ n cs. with_number cs (λ k ds. read_args k ds (λ xs es. n_native n xs))) hi
    ∙ with-number (length as') (arg_list 2 as') (λ k ds. read_args k ds (λ xs es. n_native i xs)) hl
    ∙ ap (λ (l : List ℕ). read_args (length as') l (λ xs es. n_native i xs)) (sym (append-nil (arg_list 2 as')))
    ∙ args-back as' [] (λ xs es. n_native i xs) ha

pipe-back : (a : ℕ) (x : Option Pat) (b : ℕ) → Small a → SmallOptPat x → Small b → read_pipe (number 2 a ++ (opt_pat_bytes 2 x ++ number 2 b)) ≡ n_pipe a x b
pipe-back a x b ha hx hb =
    with-number a (opt_pat_bytes 2 x ++ number 2 b) (λ i cs. read_opt_pat cs (λ y ds. with_number ds (λ j es. n_pipe i y j))) ha
    ∙ opt-pat-back x (number 2 b) (λ y ds. with_number ds (λ j es. n_pipe a y j)) hx
    ∙ with-last b (λ j es. n_pipe a x j) hb

ite-back : (a b c : ℕ) → Small a → Small b → Small c → read_ite (number 2 a ++ (number 2 b ++ number 2 c)) ≡ n_ite a b c
ite-back a b c ha hb hc =
    with-number a (number 2 b ++ number 2 c) (λ i cs. with_number cs (λ j ds. with_number ds (λ k es. n_ite i j k))) ha
    ∙ with-number b (number 2 c) (λ j ds. with_number ds (λ k es. n_ite a j k)) hb
    ∙ with-last c (λ k es. n_ite a b k) hc

fold-back : (a : ℕ) (x : Pat) (b c : ℕ) (f : Folding) → Small a → SmallPat x → Small b → Small c → SmallFolding f
    → read_fold (number 2 a ++ (pat_bytes 2 x ++ ((number 2 b ++ number 2 c) ++ fold_bytes 2 f))) ≡ n_fold a x b c f
fold-back a x b c f ha hx hb hc hf =
    let rest : List ℕ = (number 2 b ++ number 2 c) ++ fold_bytes 2 f in
    let end : ℕ → Pat → List ℕ → Node = λ i y ds. with_number ds (λ j es. with_number es (λ k gs. n_fold i y j k (read_folding gs))) in
    with-number a (pat_bytes 2 x ++ rest) (λ i cs. read_pat (length cs) cs (end i)) ha
    ∙ pat-back x (length (pat_bytes 2 x ++ rest)) rest (end a) (omega (arith, pat-size x, length-append (pat_bytes 2 x) rest)) hx
    ∙ ap (end a x) (append_assoc (number 2 b) (number 2 c) (fold_bytes 2 f))
    ∙ with-number b (number 2 c ++ fold_bytes 2 f) (λ j es. with_number es (λ k gs. n_fold a x j k (read_folding gs))) hb
    ∙ with-number c (fold_bytes 2 f) (λ k gs. n_fold a x b k (read_folding gs)) hc
    ∙ ap (n_fold a x b c) (folding-back f hf)

path-back : (a : ℕ) (ss : List Step) → Small a → Small (length ss) → Every SmallStep ss
    → read_path (number 2 a ++ (number 2 (length ss) ++ steps_bytes 2 ss)) ≡ n_path a ss
path-back a ss ha hl hs =
    with-number a (number 2 (length ss) ++ steps_bytes 2 ss) (λ i cs. with_number cs (λ k ds. read_steps k ds (λ xs es. n_path i xs))) ha
    ∙ with-number (length ss) (steps_bytes 2 ss) (λ k ds. read_steps k ds (λ xs es. n_path a xs)) hl
    ∙ ap (λ (l : List ℕ). read_steps (length ss) l (λ xs es. n_path a xs)) (sym (append-nil (steps_bytes 2 ss)))
    ∙ steps_back ss [] (λ xs es. n_path a xs) hs

-- the field of a record, and that it is read back
record Coded (x : Node) : Type 0 where
  tag : ℕ
  content : List ℕ
  bytes : node_bytes 2 x ≡ field tag content
  reads : SmallNode x → read_node tag content ≡ x

coded : (x : Node) → Coded x
coded n_id = record { tag = 0x50; content = []; bytes = refl; reads = λ h. refl }
coded n_recurse = record { tag = 0x51; content = []; bytes = refl; reads = λ h. refl }
coded n_to_string = record { tag = 0x52; content = []; bytes = refl; reads = λ h. refl }
coded (n_int i) = record { tag = 0x53; content = number 8 i; bytes = refl; reads = λ h. ap n_int (value-number 8 i h) }
coded (n_num x) = record { tag = 0x54; content = x; bytes = refl; reads = λ h. refl }
coded (n_str x) = record { tag = 0x55; content = x; bytes = refl; reads = λ h. refl }
coded (n_arr a) = record { tag = 0x56; content = number 2 a; bytes = refl; reads = λ h. with-last a (λ k cs. n_arr k) h }
coded n_obj_empty = record { tag = 0x57; content = []; bytes = refl; reads = λ h. refl }
coded (n_obj_single a b) = record { tag = 0x58; content = number 2 a ++ number 2 b; bytes = refl; reads = λ h. pair-back a b n_obj_single h.0 h.1 }
coded (n_var i) = record { tag = 0x59; content = number 2 i; bytes = refl; reads = λ h. with-last i (λ k cs. n_var k) h }
coded (n_call_def n as' s k) = record { tag = 0x5A; content = number 2 n ++ (number 2 (length as') ++ (arg_list 2 as' ++ (number 2 s ++ (kind_number k ∷ [])))); bytes = refl; reads = λ h. call_back n as' s k h.0 h.1 h.2 h.3 }
coded (n_native i as') = record { tag = 0x5B; content = number 2 i ++ (number 2 (length as') ++ arg_list 2 as'); bytes = refl; reads = λ h. native-back i as' h.0 h.1 h.2 }
coded (n_label a) = record { tag = 0x5C; content = number 2 a; bytes = refl; reads = λ h. with-last a (λ k cs. n_label k) h }
coded (n_neg a) = record { tag = 0x5D; content = number 2 a; bytes = refl; reads = λ h. with-last a (λ k cs. n_neg k) h }
coded (n_pipe a x b) = record { tag = 0x5E; content = number 2 a ++ (opt_pat_bytes 2 x ++ number 2 b); bytes = refl; reads = λ h. pipe-back a x b h.0 h.1 h.2 }
coded (n_comma a b) = record { tag = 0x5F; content = number 2 a ++ number 2 b; bytes = refl; reads = λ h. pair-back a b n_comma h.0 h.1 }
coded (n_assign a b) = record { tag = 0x60; content = number 2 a ++ number 2 b; bytes = refl; reads = λ h. pair-back a b n_assign h.0 h.1 }
coded (n_update a b) = record { tag = 0x61; content = number 2 a ++ number 2 b; bytes = refl; reads = λ h. pair-back a b n_update h.0 h.1 }
coded (n_update_math a k b) = record { tag = 0x62; content = number 2 a ++ (k ∷ number 2 b); bytes = refl; reads = λ h. between-back a k b n_update_math h.0 h.1 }
coded (n_update_alt a b) = record { tag = 0x63; content = number 2 a ++ number 2 b; bytes = refl; reads = λ h. pair-back a b n_update_alt h.0 h.1 }
coded (n_logic a o b) = record { tag = 0x64; content = number 2 a ++ (flag o ∷ number 2 b); bytes = refl; reads = λ h. between-back a (flag o) b (λ i k j. n_logic i (eqb k 1) j) h.0 h.1 ∙ ap (λ (w : Bool). n_logic a w b) (flag-back o) }
coded (n_math a k b) = record { tag = 0x65; content = number 2 a ++ (k ∷ number 2 b); bytes = refl; reads = λ h. between-back a k b n_math h.0 h.1 }
coded (n_cmp a k b) = record { tag = 0x66; content = number 2 a ++ (k ∷ number 2 b); bytes = refl; reads = λ h. between-back a k b n_cmp h.0 h.1 }
coded (n_alt a b) = record { tag = 0x67; content = number 2 a ++ number 2 b; bytes = refl; reads = λ h. pair-back a b n_alt h.0 h.1 }
coded (n_try_catch a b) = record { tag = 0x68; content = number 2 a ++ number 2 b; bytes = refl; reads = λ h. pair-back a b n_try_catch h.0 h.1 }
coded (n_ite a b c) = record { tag = 0x69; content = number 2 a ++ (number 2 b ++ number 2 c); bytes = refl; reads = λ h. ite-back a b c h.0 h.1 h.2 }
coded (n_fold a x b c f) = record { tag = 0x6A; content = number 2 a ++ (pat_bytes 2 x ++ ((number 2 b ++ number 2 c) ++ fold_bytes 2 f)); bytes = refl; reads = λ h. fold-back a x b c f h.0 h.1 h.2 h.3 h.4 }
coded (n_path a ss) = record { tag = 0x6B; content = number 2 a ++ (number 2 (length ss) ++ steps_bytes 2 ss); bytes = refl; reads = λ h. path-back a ss h.0 h.1 h.2 }

-- ---- fields

field_back : {A : Type 0} (tag : ℕ) (content rest : List ℕ) (f : ℕ → List ℕ → List ℕ → A) → Small (length content)
    → with_field (field tag content ++ rest) f ≡ f tag content rest
unfolding with_field field
field_back tag content rest f h =
    let next : ℕ → List ℕ → _ = λ n ds. f tag (take n ds) (drop n ds) in
    ap (λ (l : List ℕ). with_number l next) (append_assoc (number 2 (length content)) content rest)
    ∙ with-number (length content) (content ++ rest) next h
    ∙ ap₂ (f tag) (take-append_seam content rest) (drop-append_seam content rest)

nodes-step : (k tag : ℕ) (content rest : List ℕ) → Small (length content) → read_nodes (suc k) (field tag content ++ rest) ≡ read_node tag content ∷ read_nodes k rest
unfolding read_nodes field
nodes-step k tag content rest h = field_back tag content rest (λ t cs ds. read_node t cs ∷ read_nodes k ds) h

-- the content of a record that fits
content-small : (x : Node) (w : Coded x) → Fits x → Small (length w.content)
content-small x w h = omega (arith, h.room, ap length w.bytes, length-field w.tag w.content)

nodes-back : (T : Table) (k : ℕ) → length T ≤ k → Every (λ r. Fits r.node) T → read_nodes k (table_bytes 2 T) ≡ nodes_of T
unfolding read_nodes
nodes-back [] zero b h = refl
nodes-back [] (suc k) b h = refl
nodes-back (r ∷ T) zero b h = absurd (omega arith)
nodes-back (r ∷ T) (suc k) b h =
    let w : Coded r.node = coded r.node in
    ap (λ (l : List ℕ). read_nodes (suc k) (l ++ table_bytes 2 T)) w.bytes
    ∙ nodes-step k w.tag w.content (table_bytes 2 T) (content-small r.node w h.0)
    ∙ ap₂ ◌∷◌ (w.reads h.0.numbers) (nodes-back T k (omega arith) h.1)

-- a record has three bytes or more
table-length : (T : Table) → length T ≤ length (table_bytes 2 T)
table-length [] = omega arith
table-length (r ∷ T) =
    let w : Coded r.node = coded r.node in
    omega (arith, table-length T, length-append (node_bytes 2 r.node) (table_bytes 2 T), ap length w.bytes, length-field w.tag w.content)

-- a listing is read back
pub read_back : (m : ℕ) (T : Table) → Small m → Every (λ r. Fits r.node) T → read_listing (term_listing 2 m T) ≡ record { main = m; nodes = nodes_of T }
unfolding read_listing term_listing
read_back m T hm h =
    let ends : List ℕ → List ℕ → Listed = λ ds es. with_number es (λ k gs. record { main = k; nodes = read_nodes (length ds) ds }) in
    let small : Small (length (1 ∷ number 2 m)) = omega (arith, length-number 2 m) in
    field_back 0x00 (1 ∷ number 2 m) (table_bytes 2 T) (λ tag cs ds. with_byte cs (λ edition es. ends ds es)) small
    ∙ with-last m (λ k gs. record { main = k; nodes = read_nodes (length (table_bytes 2 T)) (table_bytes 2 T) }) hm
    ∙ ap (λ (ns : List Node). record { main = m; nodes = ns }) (nodes-back T (length (table_bytes 2 T)) (table-length T) h)

-- so the bytes determine main's number and the records
pub one_table : (m n : ℕ) (T U : Table) → Small m → Small n → Every (λ r. Fits r.node) T → Every (λ r. Fits r.node) U
    → term_listing 2 m T ≡ term_listing 2 n U → (m ≡ n) × (nodes_of T ≡ nodes_of U)
one_table m n T U hm hn h k q =
    let e : ◌≡◌ {A = Listed} (record { main = m; nodes = nodes_of T }) (record { main = n; nodes = nodes_of U }) = sym (read_back m T hm h) ∙ ap read_listing q ∙ read_back n U hn k in
    (ap (λ (x : Listed). x.main) e, ap (λ (x : Listed). x.nodes) e)
