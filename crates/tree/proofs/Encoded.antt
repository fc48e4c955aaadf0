-- Bytes that hold a tree are its encoding, so two that hold the same tree are equal. Assumes nothing.
use Prim.Native.Nat.{ℕ, suc, ◌+◌, ◌-◌, ◌*◌, ◌/◌, ◌%◌, ◌≤◌, ◌<◌}
use Rattle.std.proofs.Math.Nat.{add-mul-mod_self_right, div-eq_of_lt-le}
use Rattle.std.proofs.Common.{mod-eq_of_lt, subst, ◌∙◌, drop-cons, drop-drop, take-add}
use native.Mathlib.Omega.{arith}
use Rattle.std.specs.Prelude.{◌≡◌}
use Rattle.std.proofs.Math.Path.{sym, ap, ap₂}
use mathlib.Core.List.{List, [], ◌∷◌, ◌++◌, append-nil}
use Rattle.std.proofs.Math.ListN.{length, get_or, take, drop, length-drop}
use Rattle.std.proofs.Math.Seq.{length-take-le, take-length}
use Rattle.fields.specs.Number.{number, number-two}
use Rattle.fields.specs.Field.{field}
use Rattle.tree.specs.Rose.{Rose, Roses, leaf, node, rnil, rcons, end_of, text_of, place_of, Row, row-le}
use Rattle.tree.specs.Rose as rose
use Rattle.tree.specs.Tree.{Tree}
use Rattle.tree.specs.Form.{At, f_tree}
use Rattle.tree.specs.Encoded.{bytes_of, bytes_in, encode, Bytes}

-- n bytes from p on, and those that follow them
run-split : (b : List ℕ) (p m q : ℕ) → p ≤ m → m ≤ q → take (q - p) (drop p b) ≡ take (m - p) (drop p b) ++ take (q - m) (drop m b)
run-split b p m q h k =
    let e : q - p ≡ (m - p) + (q - m) = omega arith in
    let d : p + (m - p) ≡ m = omega arith in
    rw (e, take-add (m - p) (q - m) (drop p b), drop-drop (m - p) p b, d)

two_bytes : (lo hi n : ℕ) → lo < 256 → hi < 256 → n ≡ lo + hi * 256 → number 2 n ≡ lo ∷ hi ∷ []
two_bytes lo hi n a z e =
    let l : n % 256 ≡ lo = ap (λ (j : ℕ). j % 256) e ∙ add-mul-mod_self_right lo hi 256 ∙ mod-eq_of_lt a in
    let d : n / 256 ≡ hi = div-eq_of_lt-le 256 (omega arith) (omega arith) in
    let h : n / 256 % 256 ≡ hi = ap (λ (j : ℕ). j % 256) d ∙ mod-eq_of_lt z in
    number-two n ∙ ap₂ (λ (x y : ℕ). x ∷ y ∷ []) l h

module _ (b : List ℕ) (small : Bytes b) where
  three : (p : ℕ) → p + 3 ≤ length b → drop p b ≡ get_or b p 0 ∷ get_or b (p + 1) 0 ∷ get_or b (p + 2) 0 ∷ drop (p + 3) b
  three p h =
      let e : p + 1 ≡ suc p = omega arith in
      let d : p + 2 ≡ suc (suc p) = omega arith in
      let c : p + 3 ≡ suc (suc (suc p)) = omega arith in
      rw (e, d, c) (drop-cons b p 0 (omega arith) ∙ ap (◌∷◌ (get_or b p 0)) (drop-cons b (suc p) 0 (omega arith) ∙ ap (◌∷◌ (get_or b (suc p) 0)) (drop-cons b (suc (suc p)) 0 (omega arith))))

  -- the bytes of the field at p
  field-run : (p : ℕ) → end_of b p ≤ length b → take (end_of b p - p) (drop p b) ≡ field (get_or b p 0) (text_of b p)
  unfolding field
  field-run p h =
      let n = get_or b (p + 1) 0 + get_or b (p + 2) 0 * 256 in
      let e : end_of b p - p ≡ suc (suc (suc n)) = omega arith in
      let l : length (text_of b p) ≡ n = length-take-le n (drop (p + 3) b) (simp length-drop (omega arith)) in
      let z : number 2 (length (text_of b p)) ≡ get_or b (p + 1) 0 ∷ get_or b (p + 2) 0 ∷ [] = two_bytes (get_or b (p + 1) 0) (get_or b (p + 2) 0) (length (text_of b p)) (small (p + 1)) (small (p + 2)) l in
      let d : drop p b ≡ get_or b p 0 ∷ get_or b (p + 1) 0 ∷ get_or b (p + 2) 0 ∷ drop (p + 3) b = three p (omega arith) in
      ap₂ take e d ∙ ap (λ (l : List ℕ). get_or b p 0 ∷ l ++ text_of b p) (sym z)

  mutual
    unfolding rose.At bytes_of

    row-run : (rs : Roses) (p q : ℕ) → Row b rs p q → q ≤ length b → take (q - p) (drop p b) ≡ bytes_in rs
    row-run rnil p q h k = let e : q - p ≡ 0 = omega arith in rw e
    row-run (rcons r rs) p q h k =
        let m : end_of b p ≤ q = row-le b rs (end_of b p) q h.2 in
        run-split b p (end_of b p) q (omega arith) m ∙ ap₂ ◌++◌ (one-run r p h.0 h.1) (row-run rs (end_of b p) q h.2 k)

    one-run : (r : Rose) (p : ℕ) → place_of r ≡ p → rose.At b r → take (end_of b p - p) (drop p b) ≡ bytes_of r
    one-run (leaf k p' x) p e h =
        let m : end_of b p ≤ length b = subst (λ (j : ℕ). end_of b j ≤ length b) e h.0.fits in
        field-run p m ∙ ap₂ field (ap (λ (j : ℕ). get_or b j 0) (sym e) ∙ h.0.tagged) (ap (text_of b) (sym e) ∙ h.1)
    one-run (node k p' rs) p e h =
        let m : end_of b p ≤ length b = subst (λ (j : ℕ). end_of b j ≤ length b) e h.0.fits in
        let s : Row b rs (p + 3) (end_of b p) = subst (λ (j : ℕ). Row b rs (j + 3) (end_of b j)) e h.1 in
        let n : end_of b p - (p + 3) ≡ get_or b (p + 1) 0 + get_or b (p + 2) 0 * 256 = omega arith in
        field-run p m ∙ ap₂ field (ap (λ (j : ℕ). get_or b j 0) (sym e) ∙ h.0.tagged) (ap (λ (j : ℕ). take j (drop (p + 3) b)) (sym n) ∙ row-run rs (p + 3) (end_of b p) s m)

  -- bytes that hold a tree are its encoding
  pub encoded : (t : Tree) → At b t → b ≡ encode t
  unfolding At encode bytes_of
  encoded t h =
      let z : length b ≡ length b - 0 = omega arith in
      sym (take-length b) ∙ ap (λ (n : ℕ). take n b) z ∙ row-run (rcons (f_tree t) rnil) 0 (length b) h (omega arith) ∙ append-nil (bytes_of (f_tree t))

-- so two that hold the same tree are equal
pub same_bytes : (b c : List ℕ) → Bytes b → Bytes c → (t : Tree) → At b t → At c t → b ≡ c
same_bytes b c x y t h k = encoded b x t h ∙ sym (encoded c y t k)
