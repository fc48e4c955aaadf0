-- `space::goes_on` meets its contract. Assumes nothing.
use mathlib.Core.Path.{ap, refl, ◌∙◌}
use mathlib.Core.List.{List}
use Prim.Native.Nat.{ℕ, ◌-◌}
use native.Mathlib.Omega.{arith}
use Rattle.std.proofs.Common.{Bor}
use Rattle.lexer.proofs.Lines.{stripped, goes-on-is}
use Rattle.lexer.proofs.space.goes_on.Goals as goal

pub returns : goal.returns
returns c =
    let a = c.args in
    let k = stripped a.s.now a.at (a.end - a.at) _ c.strip_suffix.result (omega arith) refl c.strip_suffix.ensures.cases in
    goes-on-is _ _ (a.end - a.at) _ _ (omega arith) (ap (λ (x : Bor (List ℕ)). x.now) c.unwrap_or.ensures ∙ k) c.slashes.ensures
