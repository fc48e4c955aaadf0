-- A reader of the listing of terms, as document 01's section Fields has it: from bytes back to main's number and the records. It says nothing of bytes that are
-- no listing. Each part of a record is read from the front of the bytes and hands on what lies behind it. Assumes nothing.
use Rattle.std.specs.Prelude.{ℕ, zero, suc, cond, List, [], ◌∷◌, length, take, drop, eqb}
use Rattle.std.proofs.Math.Option.{Option, none, some}
use Rattle.fields.specs.Number.{value}
use Rattle.rules.specs.Table.{Kind, inline, throw, catch_one, catch_all, Arg, Pat, pat_var, pat_idx, Pats, pats_nil, pats_cons, Folding, reduce, foreach, Step, index, range, Node, n_id, n_recurse, n_to_string, n_int, n_num, n_str, n_arr, n_obj_empty, n_obj_single, n_var, n_call_def, n_native, n_label, n_neg, n_pipe, n_comma, n_assign, n_update, n_update_math, n_update_alt, n_logic, n_math, n_cmp, n_alt, n_try_catch, n_ite, n_fold, n_path}

abbrev pub with_byte : {A : Type 0} → List ℕ → (ℕ → List ℕ → A) → A
with_byte [] f = f 0 []
with_byte (b ∷ bs) f = f b bs

-- "numbers in two bytes unless said"
unfoldable pub with_number : {A : Type 0} → List ℕ → (ℕ → List ℕ → A) → A
with_number bs f = f (value (take 2 bs)) (drop 2 bs)

-- "Argument lists: count, then 0 (variable) or 1 (filter) and number.": k of them
unfoldable pub read_args : {A : Type 0} → ℕ → List ℕ → (List Arg → List ℕ → A) → A
read_args zero bs f = f [] bs
read_args (suc k) bs f = with_byte bs (λ b cs. with_number cs (λ n ds. read_args k ds (λ as' es. f (record { isv = eqb b 0; num = n } ∷ as') es)))

-- "Pattern: 0 none, 1 variable, 2 with count, then key and pattern.": as deep as the first number says, which is more than the bytes are
unfoldable mutual
  pub read_pat : {A : Type 0} → ℕ → List ℕ → (Pat → List ℕ → A) → A
  read_pat zero bs f = f pat_var bs
  read_pat (suc k) bs f = with_byte bs (λ b cs. cond (eqb b 1) (f pat_var cs) (with_number cs (λ n ds. read_pats k n ds (λ xs es. f (pat_idx xs) es))))

  pub read_pats : {A : Type 0} → ℕ → ℕ → List ℕ → (Pats → List ℕ → A) → A
  read_pats zero n bs f = f pats_nil bs
  read_pats (suc k) zero bs f = f pats_nil bs
  read_pats (suc k) (suc n) bs f = with_number bs (λ i cs. read_pat k cs (λ x ds. read_pats k n ds (λ xs es. f (pats_cons i x xs) es)))

unfoldable pub read_opt_pat : {A : Type 0} → List ℕ → (Option Pat → List ℕ → A) → A
read_opt_pat bs f = with_byte bs (λ b cs. cond (eqb b 0) (f none cs) (read_pat (length bs) bs (λ x ds. f (some x) ds)))

-- "Fold: 0 reduce, 1 foreach, 2 foreach and number."
unfoldable pub read_folding : List ℕ → Folding
read_folding bs = with_byte bs (λ b cs. cond (eqb b 0) reduce (cond (eqb b 1) (foreach none) (with_number cs (λ n ds. foreach (some n)))))

-- "Path: count, then for each part index (0, number) or range (1, two optional numbers, each after a 0/1 byte), then 1 if optional, else 0."
unfoldable pub read_opt_number : {A : Type 0} → List ℕ → (Option ℕ → List ℕ → A) → A
read_opt_number bs f = with_byte bs (λ b cs. cond (eqb b 0) (f none cs) (with_number cs (λ n ds. f (some n) ds)))

unfoldable pub read_step : {A : Type 0} → List ℕ → (Step → List ℕ → A) → A
read_step bs f =
    with_byte bs
    (λ b cs. cond (eqb b 0)
    (with_number cs (λ n ds. with_byte ds (λ o es. f (index n (eqb o 1)) es)))
    (read_opt_number cs (λ i ds. read_opt_number ds (λ j es. with_byte es (λ o gs. f (range i j (eqb o 1)) gs)))))

unfoldable pub read_steps : {A : Type 0} → ℕ → List ℕ → (List Step → List ℕ → A) → A
read_steps zero bs f = f [] bs
read_steps (suc k) bs f = read_step bs (λ s cs. read_steps k cs (λ ss ds. f (s ∷ ss) ds))

-- "Inline 0, Throw 1, CatchOne 2, CatchAll 3"
abbrev pub kind_of : ℕ → Kind
kind_of k = cond (eqb k 0) inline (cond (eqb k 1) throw (cond (eqb k 2) catch_one catch_all))

-- ---- records by their content

abbrev pub one : (ℕ → Node) → List ℕ → Node
one f bs = with_number bs (λ a cs. f a)

abbrev pub pair : (ℕ → ℕ → Node) → List ℕ → Node
pair f bs = with_number bs (λ a cs. with_number cs (λ b ds. f a b))

-- a byte between two numbers
abbrev pub between : (ℕ → ℕ → ℕ → Node) → List ℕ → Node
between f bs = with_number bs (λ a cs. with_byte cs (λ k ds. with_number ds (λ b es. f a k b)))

abbrev pub read_call : List ℕ → Node
read_call bs =
    with_number bs (λ n cs. with_number cs (λ k ds. read_args k ds (λ as' es. with_number es (λ s gs. with_byte gs (λ how hs. n_call_def n as' s (kind_of how))))))

abbrev pub read_native : List ℕ → Node
read_native bs = with_number bs (λ i cs. with_number cs (λ k ds. read_args k ds (λ as' es. n_native i as')))

abbrev pub read_pipe : List ℕ → Node
read_pipe bs = with_number bs (λ a cs. read_opt_pat cs (λ x ds. with_number ds (λ b es. n_pipe a x b)))

abbrev pub read_ite : List ℕ → Node
read_ite bs = with_number bs (λ a cs. with_number cs (λ b ds. with_number ds (λ c es. n_ite a b c)))

abbrev pub read_fold : List ℕ → Node
read_fold bs = with_number bs (λ a cs. read_pat (length cs) cs (λ x ds. with_number ds (λ b es. with_number es (λ c gs. n_fold a x b c (read_folding gs)))))

abbrev pub read_path : List ℕ → Node
read_path bs = with_number bs (λ a cs. with_number cs (λ k ds. read_steps k ds (λ ss es. n_path a ss)))

-- "Terms have tags 50 to 6B in the order of `Term`, members in Rust order, Int in eight bytes, .. whole text as the content."
abbrev pub read_node : ℕ → List ℕ → Node
read_node tag bs =
    cond (eqb tag 0x50) n_id
    (cond (eqb tag 0x51) n_recurse
    (cond (eqb tag 0x52) n_to_string
    (cond (eqb tag 0x53) (n_int (value bs))
    (cond (eqb tag 0x54) (n_num bs)
    (cond (eqb tag 0x55) (n_str bs)
    (cond (eqb tag 0x56) (one n_arr bs)
    (cond (eqb tag 0x57) n_obj_empty
    (cond (eqb tag 0x58) (pair n_obj_single bs)
    (cond (eqb tag 0x59) (one n_var bs)
    (cond (eqb tag 0x5A) (read_call bs)
    (cond (eqb tag 0x5B) (read_native bs)
    (cond (eqb tag 0x5C) (one n_label bs)
    (cond (eqb tag 0x5D) (one n_neg bs)
    (cond (eqb tag 0x5E) (read_pipe bs)
    (cond (eqb tag 0x5F) (pair n_comma bs)
    (cond (eqb tag 0x60) (pair n_assign bs)
    (cond (eqb tag 0x61) (pair n_update bs)
    (cond (eqb tag 0x62) (between n_update_math bs)
    (cond (eqb tag 0x63) (pair n_update_alt bs)
    (cond (eqb tag 0x64) (between (λ a o b. n_logic a (eqb o 1) b) bs)
    (cond (eqb tag 0x65) (between n_math bs)
    (cond (eqb tag 0x66) (between n_cmp bs)
    (cond (eqb tag 0x67) (pair n_alt bs)
    (cond (eqb tag 0x68) (pair n_try_catch bs)
    (cond (eqb tag 0x69) (read_ite bs)
    (cond (eqb tag 0x6A) (read_fold bs)
    (cond (eqb tag 0x6B) (read_path bs)
    n_id)))))))))))))))))))))))))))

-- ---- fields

-- "One-byte tag, two-byte length": the content of the first field, by its tag, and what lies behind it
unfoldable pub with_field : {A : Type 0} → List ℕ → (ℕ → List ℕ → List ℕ → A) → A
with_field bs f = with_byte bs (λ tag cs. with_number cs (λ n ds. f tag (take n ds) (drop n ds)))

-- k records
unfoldable pub read_nodes : ℕ → List ℕ → List Node
read_nodes zero bs = []
read_nodes (suc k) [] = []
read_nodes (suc k) (b ∷ bs) = with_field (b ∷ bs) (λ tag cs ds. read_node tag cs ∷ read_nodes k ds)

-- a listing of terms: main's number, and the records in the order of their numbers
pub record Listed : Type 0 where
  pub main : ℕ
  pub nodes : List Node

-- "Listings open with field 00: edition 1, and for terms the main number."
unfoldable pub read_listing : List ℕ → Listed
read_listing bs =
    with_field bs (λ tag cs ds. with_byte cs (λ edition es. with_number es (λ m gs. record { main = m; nodes = read_nodes (length ds) ds })))
