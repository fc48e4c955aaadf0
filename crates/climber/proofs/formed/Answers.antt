-- `climber::formed` meets its contract: every second byte of whole twos is a side, or a byte is left over. Assumes nothing.
use mathlib.Core.Path.{sym, ap, ◌∙◌}
use native.Mathlib.Omega.{arith}
use Rattle.std.proofs.Common.{rules, tests, length, ◌≡◌, ◌*◌, ◌/◌, ℕ, List}
use Rattle.std.specs.List.{list_all}
use Rattle.std.proofs.lemmas.Iterator.{YieldsList-from_slice}
use Rattle.std.proofs.lemmas.Iterator.Search.{all_from_yields_List}
use Rattle.climber.proofs.Operators.{formed-odd, formed-twos, is_side}
use Rattle.climber.proofs.formed.Goals as goal

pub returns-then-is_empty : goal.returns-then-is_empty
returns-then-is_empty c =
    let none : length c.as_chunks.result.1.now ≡ 0 = search (rules, tests) in
    let even : length c.args.bytes.now ≡ 2 * (length c.args.bytes.now / 2) = omega (arith, c.as_chunks.ensures.back_len) in
    all_from_yields_List is_side _ _ _ c.all.ensures.ran (YieldsList-from_slice c.as_chunks.result.0.now cc) (λ x b q k. search (rules, tests))
    ∙ ap (λ (os : List (List ℕ)). list_all is_side os) c.as_chunks.ensures.front ∙ formed-twos _ _ even

pub returns-else-is_empty : goal.returns-else-is_empty
returns-else-is_empty c =
    let some : length c.as_chunks.result.1.now ≡ 0 → ⊥ = search (rules, tests) in
    c.if-is_empty.false ∙ sym (formed-odd _ (λ e. some (c.as_chunks.ensures.back_len ∙ e)))
