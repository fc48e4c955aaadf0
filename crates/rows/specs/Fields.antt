-- The cells of a row that was pushed, and what they say. Assumes nothing.
use Rattle.std.specs.Prelude.{ℕ, suc, ◌+◌, ◌*◌, ◌/◌, ◌%◌, ◌≤◌, ◌<◌, ◌≡◌, refl, List, [], ◌∷◌, Bool, true, false, cond, ltb, length, get_or, set}
use Rattle.std.proofs.Common.{arith, ◌∙◌, ltb-true}
use Rattle.std.specs.Int.Bits.{bit_xor}
use Rattle.std.proofs.lemmas.Nat.{and_le_r}
use Rattle.std.proofs.Math.ListN.{length-set}
use Rattle.std.proofs.Math.Seq.{get_or-set_same, get_or-set_other, length-sets}
use Rattle.std.proofs.lemmas.List.Edits.{sets}
use Rattle.reads.specs.Bytes.{word_of, head_of}
use Rattle.cells.specs.Cells.{cell, word_at, key_of, key_at, arity_at, number_at, kind_at, level_at, link_at, head_at, place_at, before_at, last_at, class_of, cells, pushed, noted}
use Rattle.cells.specs.Packing.{second, third, key-packed, arity-packed, number-packed, kind-packed, level-packed, link-packed, head-packed, place-packed, before-packed, note-number, note-kind}

-- ---- heads

pub head-low : (m w l : ℕ) → 8 ≤ head_of m w l
unfolding head_of
head-low m w l = omega arith

pub head-high : (m w l : ℕ) → head_of m w l ≤ 8 + m
unfolding head_of
head-high m w l = omega (arith, and_le_r (bit_xor (w % 4294967296 * 2654435761) (w / 4294967296 * 2246822519) / 137438953472 + l) m)

-- the head of the name x
abbrev pub head_for : List ℕ → List ℕ → ℕ
head_for x s = head_of (get_or s 0 0) (word_of x) (length x)

pub class-small : (kind : ℕ) → class_of kind < 4
class-small kind = go (ltb kind 2) refl
  where
    go : (t : Bool) → ltb kind 2 ≡ t → cond t kind 2 < 4
    go true e = omega (arith, ltb-true kind 2 e)
    go false e = omega arith

-- ---- four cells in a row

module _ (s : List ℕ) (o v₀ v₁ v₂ v₃ : ℕ) (r : o + 4 ≤ length s) where
  four-0 : get_or (sets s o (v₀ ∷ v₁ ∷ v₂ ∷ v₃ ∷ [])) o 0 ≡ v₀
  four-0 =
      get_or-set_other (set (set (set s o v₀) (suc o) v₁) (suc (suc o)) v₂) (suc (suc (suc o))) o v₃ 0 (λ e. omega arith)
      ∙ get_or-set_other (set (set s o v₀) (suc o) v₁) (suc (suc o)) o v₂ 0 (λ e. omega arith)
      ∙ get_or-set_other (set s o v₀) (suc o) o v₁ 0 (λ e. omega arith)
      ∙ get_or-set_same s o v₀ 0 (omega arith)

  four-1 : get_or (sets s o (v₀ ∷ v₁ ∷ v₂ ∷ v₃ ∷ [])) (suc o) 0 ≡ v₁
  four-1 =
      get_or-set_other (set (set (set s o v₀) (suc o) v₁) (suc (suc o)) v₂) (suc (suc (suc o))) (suc o) v₃ 0 (λ e. omega arith)
      ∙ get_or-set_other (set (set s o v₀) (suc o) v₁) (suc (suc o)) (suc o) v₂ 0 (λ e. omega arith)
      ∙ get_or-set_same (set s o v₀) (suc o) v₁ 0 (simp length-set (omega arith))

  four-2 : get_or (sets s o (v₀ ∷ v₁ ∷ v₂ ∷ v₃ ∷ [])) (suc (suc o)) 0 ≡ v₂
  four-2 =
      get_or-set_other (set (set (set s o v₀) (suc o) v₁) (suc (suc o)) v₂) (suc (suc (suc o))) (suc (suc o)) v₃ 0 (λ e. omega arith)
      ∙ get_or-set_same (set (set s o v₀) (suc o) v₁) (suc (suc o)) v₂ 0 (simp length-set (omega arith))

  four-3 : get_or (sets s o (v₀ ∷ v₁ ∷ v₂ ∷ v₃ ∷ [])) (suc (suc (suc o))) 0 ≡ v₃
  four-3 = get_or-set_same (set (set (set s o v₀) (suc o) v₁) (suc (suc o)) v₂) (suc (suc (suc o))) v₃ 0 (simp length-set (omega arith))

  four_below : (i : ℕ) → i < o → get_or (sets s o (v₀ ∷ v₁ ∷ v₂ ∷ v₃ ∷ [])) i 0 ≡ get_or s i 0
  four_below i h =
      get_or-set_other (set (set (set s o v₀) (suc o) v₁) (suc (suc o)) v₂) (suc (suc (suc o))) i v₃ 0 (λ e. omega arith)
      ∙ get_or-set_other (set (set s o v₀) (suc o) v₁) (suc (suc o)) i v₂ 0 (λ e. omega arith)
      ∙ get_or-set_other (set s o v₀) (suc o) i v₁ 0 (λ e. omega arith)
      ∙ get_or-set_other s o i v₀ 0 (λ e. omega arith)

  four-above : (i : ℕ) → o + 4 ≤ i → get_or (sets s o (v₀ ∷ v₁ ∷ v₂ ∷ v₃ ∷ [])) i 0 ≡ get_or s i 0
  four-above i h =
      get_or-set_other (set (set (set s o v₀) (suc o) v₁) (suc (suc o)) v₂) (suc (suc (suc o))) i v₃ 0 (λ e. omega arith)
      ∙ get_or-set_other (set (set s o v₀) (suc o) v₁) (suc (suc o)) i v₂ 0 (λ e. omega arith)
      ∙ get_or-set_other (set s o v₀) (suc o) i v₁ 0 (λ e. omega arith)
      ∙ get_or-set_other s o i v₀ 0 (λ e. omega arith)

-- ---- a row that was pushed

pub length-pushed : (x s : List ℕ) (k kind q a n c lv tail : ℕ) → length (pushed x s k kind q a n c lv tail) ≡ length s
unfolding pushed
length-pushed x s k kind q a n c lv tail =
    length-set (sets s (4 * k) (cells (word_of x) (length x) (head_for x s) (get_or s (head_for x s) 0) kind q a n c lv tail)) (head_for x s) k
    ∙ length-sets s (4 * k) (cells (word_of x) (length x) (head_for x s) (get_or s (head_for x s) 0) kind q a n c lv tail)

module _ (x s : List ℕ) (k kind q a n c lv tail : ℕ) (room : 4 * k + 4 ≤ length s) (heads : 9 + get_or s 0 0 ≤ 4 * k) where
  head-below : head_for x s < 4 * k
  head-below = omega (arith, head-high (get_or s 0 0) (word_of x) (length x))

  pub pushed-below : (i : ℕ) → i < 4 * k → (i ≡ head_for x s → ⊥) → get_or (pushed x s k kind q a n c lv tail) i 0 ≡ get_or s i 0
  unfolding pushed
  pushed-below i h f =
      get_or-set_other (sets s (4 * k) (cells (word_of x) (length x) (head_for x s) (get_or s (head_for x s) 0) kind q a n c lv tail)) (head_for x s) i k 0 f
      ∙ four_below s (4 * k) (word_of x) (second (class_of kind) (length x) a n lv) (third (get_or s (head_for x s) 0) (head_for x s) q kind c) tail room i h

  pub pushed-head : get_or (pushed x s k kind q a n c lv tail) (head_for x s) 0 ≡ k
  unfolding pushed
  pushed-head =
      get_or-set_same (sets s (4 * k) (cells (word_of x) (length x) (head_for x s) (get_or s (head_for x s) 0) kind q a n c lv tail)) (head_for x s) k 0
      (simp length-set (omega (arith, head-below)))

  above-head : (i : ℕ) → 4 * k ≤ i → get_or (pushed x s k kind q a n c lv tail) i 0
      ≡ get_or (sets s (4 * k) (cells (word_of x) (length x) (head_for x s) (get_or s (head_for x s) 0) kind q a n c lv tail)) i 0
  unfolding pushed
  above-head i h =
      get_or-set_other (sets s (4 * k) (cells (word_of x) (length x) (head_for x s) (get_or s (head_for x s) 0) kind q a n c lv tail)) (head_for x s) i k 0
      (λ e. omega (arith, head-below))

  pub pushed-0 : cell (pushed x s k kind q a n c lv tail) k 0 ≡ word_of x
  pushed-0 =
      let e : 4 * k + 0 ≡ 4 * k = omega arith in
      above-head (4 * k + 0) (omega arith)
      ∙ rw e (four-0 s (4 * k) (word_of x) (second (class_of kind) (length x) a n lv) (third (get_or s (head_for x s) 0) (head_for x s) q kind c) tail room)

  pub pushed-1 : cell (pushed x s k kind q a n c lv tail) k 1 ≡ second (class_of kind) (length x) a n lv
  pushed-1 =
      let e : 4 * k + 1 ≡ suc (4 * k) = omega arith in
      above-head (4 * k + 1) (omega arith)
      ∙ rw e (four-1 s (4 * k) (word_of x) (second (class_of kind) (length x) a n lv) (third (get_or s (head_for x s) 0) (head_for x s) q kind c) tail room)

  pub pushed-2 : cell (pushed x s k kind q a n c lv tail) k 2 ≡ third (get_or s (head_for x s) 0) (head_for x s) q kind c
  pushed-2 =
      let e : 4 * k + 2 ≡ suc (suc (4 * k)) = omega arith in
      above-head (4 * k + 2) (omega arith)
      ∙ rw e (four-2 s (4 * k) (word_of x) (second (class_of kind) (length x) a n lv) (third (get_or s (head_for x s) 0) (head_for x s) q kind c) tail room)

  pub pushed-3 : cell (pushed x s k kind q a n c lv tail) k 3 ≡ tail
  pushed-3 =
      let e : 4 * k + 3 ≡ suc (suc (suc (4 * k))) = omega arith in
      above-head (4 * k + 3) (omega arith)
      ∙ rw e (four-3 s (4 * k) (word_of x) (second (class_of kind) (length x) a n lv) (third (get_or s (head_for x s) 0) (head_for x s) q kind c) tail room)

  -- the rows above are as they were
  pub pushed-above : (i : ℕ) → 4 * k + 4 ≤ i → get_or (pushed x s k kind q a n c lv tail) i 0 ≡ get_or s i 0
  pushed-above i h =
      above-head i (omega arith)
      ∙ four-above s (4 * k) (word_of x) (second (class_of kind) (length x) a n lv) (third (get_or s (head_for x s) 0) (head_for x s) q kind c) tail room i h

-- what row k says
pub record RowIs (x s : List ℕ) (k next h kind q a n c lv tail : ℕ) : Type 0 where
  pub word : word_at s k ≡ word_of x
  pub key : key_at s k ≡ key_of (class_of kind) (length x) a
  pub arity : arity_at s k ≡ a
  pub number : number_at s k ≡ n
  pub kinds : kind_at s k ≡ kind
  pub levels : level_at s k ≡ lv
  pub link : link_at s k ≡ next
  pub head : head_at s k ≡ h
  pub place : place_at s k ≡ q
  pub before : before_at s k ≡ c
  pub last : last_at s k ≡ tail

pub row_is : (x s : List ℕ) (k next h kind q a n c lv tail : ℕ)
    → cell s k 0 ≡ word_of x → cell s k 1 ≡ second (class_of kind) (length x) a n lv → cell s k 2 ≡ third next h q kind c → cell s k 3 ≡ tail
    → length x < 65536 → a < 65536 → n < 65536 → kind < 8 → next < 16384 → h < 65536 → q < 32768 → RowIs x s k next h kind q a n c lv tail
row_is x s k next h kind q a n c lv tail e₀ e₁ e₂ e₃ hl ha hn hk hx hh hq =
    let w = class-small kind in
    record {
      word = e₀;
      key = rw e₁ (key-packed (class_of kind) (length x) a n lv w hl ha hn);
      arity = rw e₁ (arity-packed (class_of kind) (length x) a n lv w hl ha hn);
      number = rw e₁ (number-packed (class_of kind) (length x) a n lv w hl ha hn);
      kinds = rw e₂ (kind-packed next h q kind c hx hh hq hk);
      levels = rw e₁ (level-packed (class_of kind) (length x) a n lv w hl ha hn);
      link = rw e₂ (link-packed next h q kind c hx hh hq hk);
      head = rw e₂ (head-packed next h q kind c hx hh hq hk);
      place = rw e₂ (place-packed next h q kind c hx hh hq hk);
      before = rw e₂ (before-packed next h q kind c hx hh hq hk);
      last = e₃;
    }

-- ---- a note

module _ (s : List ℕ) (k kind a z : ℕ) (room : 4 * k + 4 ≤ length s) where
  pub length-noted : length (noted s k kind a z) ≡ length s
  unfolding noted
  length-noted =
      length-set (set (set s (4 * k + 1) (3 + a * 17179869184)) (4 * k + 2) (kind * 35184372088832)) (4 * k + 3) z
      ∙ length-set (set s (4 * k + 1) (3 + a * 17179869184)) (4 * k + 2) (kind * 35184372088832)
      ∙ length-set s (4 * k + 1) (3 + a * 17179869184)

  pub noted-below : (i : ℕ) → i < 4 * k → get_or (noted s k kind a z) i 0 ≡ get_or s i 0
  unfolding noted
  noted-below i h =
      get_or-set_other (set (set s (4 * k + 1) (3 + a * 17179869184)) (4 * k + 2) (kind * 35184372088832)) (4 * k + 3) i z 0 (λ e. omega arith)
      ∙ get_or-set_other (set s (4 * k + 1) (3 + a * 17179869184)) (4 * k + 2) i (kind * 35184372088832) 0 (λ e. omega arith)
      ∙ get_or-set_other s (4 * k + 1) i (3 + a * 17179869184) 0 (λ e. omega arith)

  noted-1 : cell (noted s k kind a z) k 1 ≡ 3 + a * 17179869184
  unfolding noted
  noted-1 =
      get_or-set_other (set (set s (4 * k + 1) (3 + a * 17179869184)) (4 * k + 2) (kind * 35184372088832)) (4 * k + 3) (4 * k + 1) z 0 (λ e. omega arith)
      ∙ get_or-set_other (set s (4 * k + 1) (3 + a * 17179869184)) (4 * k + 2) (4 * k + 1) (kind * 35184372088832) 0 (λ e. omega arith)
      ∙ get_or-set_same s (4 * k + 1) (3 + a * 17179869184) 0 (omega arith)

  noted-2 : cell (noted s k kind a z) k 2 ≡ kind * 35184372088832
  unfolding noted
  noted-2 =
      get_or-set_other (set (set s (4 * k + 1) (3 + a * 17179869184)) (4 * k + 2) (kind * 35184372088832)) (4 * k + 3) (4 * k + 2) z 0 (λ e. omega arith)
      ∙ get_or-set_same (set s (4 * k + 1) (3 + a * 17179869184)) (4 * k + 2) (kind * 35184372088832) 0 (simp length-set (omega arith))

  pub noted-last : last_at (noted s k kind a z) k ≡ z
  unfolding noted
  noted-last = get_or-set_same (set (set s (4 * k + 1) (3 + a * 17179869184)) (4 * k + 2) (kind * 35184372088832)) (4 * k + 3) z 0 (simp length-set (omega arith))

  pub noted-number : a < 65536 → number_at (noted s k kind a z) k ≡ a
  noted-number p = rw noted-1 (note-number a p)

  pub noted-kind : kind < 8 → kind_at (noted s k kind a z) k ≡ kind
  noted-kind q = rw noted-2 (note-kind kind q)
