-- Several numbers in one cell, and each of them read back. Assumes nothing.
use Rattle.std.specs.Prelude.{ℕ, ◌+◌, ◌*◌, ◌/◌, ◌%◌, ◌<◌, ◌≡◌}
use Rattle.std.proofs.Common.{arith}
use Rattle.cells.specs.Cells.{key_of}

-- a row's second cell: its key, number and level
abbrev pub second : ℕ → ℕ → ℕ → ℕ → ℕ → ℕ
second class l a n lv = key_of class l a + n * 17179869184 + lv * 1125899906842624

module _ (class l a n lv : ℕ) (hc : class < 4) (hl : l < 65536) (ha : a < 65536) (hn : n < 65536) where
  pub key-packed : second class l a n lv % 17179869184 ≡ key_of class l a
  key-packed = omega arith

  pub arity-packed : second class l a n lv % 17179869184 / 262144 ≡ a
  arity-packed = omega arith

  pub number-packed : second class l a n lv / 17179869184 % 65536 ≡ n
  number-packed = omega arith

  pub level-packed : second class l a n lv / 1125899906842624 ≡ lv
  level-packed = omega arith

-- its third: the next row of its bucket, its head, its place, its kind, and the bindings before it
abbrev pub third : ℕ → ℕ → ℕ → ℕ → ℕ → ℕ
third next h q kind c = next + h * 16384 + q * 1073741824 + kind * 35184372088832 + c * 281474976710656

module _ (next h q kind c : ℕ) (hx : next < 16384) (hh : h < 65536) (hq : q < 32768) (hk : kind < 8) where
  pub link-packed : third next h q kind c % 16384 ≡ next
  link-packed = omega arith

  pub head-packed : third next h q kind c / 16384 % 65536 ≡ h
  head-packed = omega arith

  pub place-packed : third next h q kind c / 1073741824 % 32768 ≡ q
  place-packed = omega arith

  pub kind-packed : third next h q kind c / 35184372088832 % 8 ≡ kind
  kind-packed = omega arith

  pub before-packed : third next h q kind c / 281474976710656 ≡ c
  before-packed = omega arith

-- a note's second cell holds its first number, its third its kind
pub note-number : (a : ℕ) → a < 65536 → (3 + a * 17179869184) / 17179869184 % 65536 ≡ a
note-number a h = omega arith

pub note-kind : (kind : ℕ) → kind < 8 → kind * 35184372088832 / 35184372088832 % 8 ≡ kind
note-kind kind h = omega arith
