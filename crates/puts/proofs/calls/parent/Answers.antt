-- `calls::parent` meets its contract. Assumes nothing.
use mathlib.Core.Path.{◌∙◌}
use Rattle.puts.proofs.Masks.{catches, throws}
use Rattle.puts.proofs.calls.parent.Goals as goal

pub returns-then-allowed-own-eq0 : goal.returns-then-allowed-own-eq0
returns-then-allowed-own-eq0 c =
    let x = catches _ _ _ c.bit-own.ensures c.if-allowed-own-eq0.true in
    (c.new_catch_all.ensures ∙ x.0, x.1)

pub returns : goal.returns
returns c =
    let x = throws _ _ _ c.bit-own.ensures c.if-allowed-own-eq0.false in
    (c.new_throw.ensures ∙ x.0, x.1)
