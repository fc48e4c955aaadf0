-- The text of a field, as the code takes it: the bytes from behind its head up to where it ends. Assumes nothing.
use Rattle.std.specs.Prelude.{ℕ, ◌+◌, ◌-◌, ◌≤◌, ◌≡◌, List, length, take, drop}
use Rattle.std.proofs.Common.{arith, ap, length-drop, length-take-le}
use Rattle.tree.specs.Rose.{end_of, text_of}
use Rattle.reads.specs.Bytes.{len_of}

pub length-text : (b : List ℕ) (p : ℕ) → end_of b p ≤ length b → length (text_of b p) ≡ len_of b p
length-text b p h = length-take-le (len_of b p) (drop (p + 3) b) (simp length-drop (omega arith))

pub text-slice : (b : List ℕ) (p z : ℕ) → z ≡ end_of b p → take (z - (p + 3)) (drop (p + 3) b) ≡ text_of b p
text-slice b p z e =
    let h : z - (p + 3) ≡ len_of b p = omega (arith, e) in
    ap (λ (n : ℕ). take n (drop (p + 3) b)) h
