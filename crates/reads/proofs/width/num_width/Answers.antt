-- `num_width` meets its contract. Assumes nothing.
use Rattle.reads.specs.Texts.{text-slice}
use native.Mathlib.Omega.{arith}
use mathlib.Core.Path.{refl, ap, ◌∙◌}
use Prim.Native.Nat.{ℕ, ◌-◌}
use Rattle.reads.proofs.Owns.{num-int, num-text}
use Rattle.reads.proofs.width.num_width.Goals as goal

pub returns-in-Some : goal.returns-in-Some
returns-in-Some c = let e = c.in-Some.ensures in let b = c.args.b.now in let s = c.requires in (num-int _ _ _ (text-slice b c.args.p _ c.end_of-z.ensures) e.1 (omega (arith, e.0, e.1)), omega (arith, c.end_of-z.ensures))

pub returns-in-None : goal.returns-in-None
returns-in-None c = (ap (λ (n : ℕ). n - c.args.p) c.end_of-z.ensures ∙ num-text c.args.b.now _ c.args.p _ c.requires (text-slice c.args.b.now c.args.p _ c.end_of-z.ensures) refl (omega (arith, c.in-None.ensures)), omega (arith, c.end_of-z.ensures))
