-- `same` meets its contract. Assumes nothing.
use Prim.Native.Nat.{ℕ, ◌+◌, ◌-◌}
use mathlib.Core.Path.{◌≡◌, ap, ◌∙◌}
use native.Mathlib.Omega.{arith}
use lib.ListN.{length, take, drop}
use Rattle.rules.specs.Names.{same}
use Rattle.reads.proofs.Texts.{pointwise-same}
use Rattle.reads.proofs.bytes.same.Goals as goal

pub returns : goal.returns
returns c =
    let a = c.args in
    let e : a.p + length a.x.now - a.p ≡ length a.x.now = omega arith in
    c.eq.ensures ∙ pointwise-same a.x.now _ ∙ ap (λ (n : ℕ). same a.x.now (take n (drop a.p a.b.now))) e
