-- Tail sets and call kinds. Document 01: "A set holds enclosing definitions only, one bit per level". The level of a definition is the count of those that
-- enclose it; "definitions nested over 64" are refused (5), so one number of 64 bits holds a set. Assumes nothing.
use Rattle.std.specs.Prelude.{ℕ, ◌-◌, ◌^◌, Bool, cond, not, eqb, ltb}
use Rattle.std.specs.Int.Bits.{bit_and, bit_or}
use Rattle.rules.specs.Table.{Kind, inline, throw, catch_one, catch_all}

abbrev pub Tail : Type 0
Tail = ℕ

abbrev pub empty : Tail
empty = 0

-- the set that holds one level
unfoldable pub bit : ℕ → Tail
bit l = cond (ltb l 64) (2 ^ l) 0

abbrev pub union : Tail → Tail → Tail
union s u = bit_or s u

unfoldable pub has : ℕ → Tail → Bool
has l s = not (eqb (bit_and s (bit l)) 0)

unfoldable pub without : ℕ → Tail → Tail
without l s = s - bit_and s (bit l)

unfoldable pub subset : Tail → Tail → Bool
subset s r = eqb (bit_and s r) s

-- a definition is seen from its own body as a parent, and from what follows it as a sibling, with the set that its body returns
pub data Fun : Type 0 where
  parent : Fun
  sibling : Tail → Fun

abbrev pub returned : Fun → Tail
returned parent = empty
returned (sibling s) = s

-- how a call is made, and what it returns
pub record Call : Type 0 where
  pub kind : Kind
  pub tail : Tail

-- A call of a definition of level l from a place that allows r. "Parent: Throw if allowed, returning itself, else CatchAll returning nothing. Sibling: its
-- set less itself; if allowed, CatchOne when it held itself, else Inline, returning that set; otherwise CatchAll, returning nothing."
unfoldable pub local_call : ℕ → Fun → Tail → Call
local_call l parent r = cond (has l r) (record { kind = throw; tail = bit l }) (record { kind = catch_all; tail = empty })
local_call l (sibling s) r =
    cond (subset (without l s) r)
    (record { kind = cond (has l s) catch_one inline; tail = without l s })
    (record { kind = catch_all; tail = empty })

-- "Module calls return nothing: CatchOne if self-returning, else Inline."
unfoldable pub module_kind : ℕ → Fun → Kind
module_kind l k = cond (has l (returned k)) catch_one inline
