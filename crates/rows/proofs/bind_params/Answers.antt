-- `rows::bind_params`: one parameter a turn. Assumes nothing.
use Rattle.rows.proofs.Params.{passing-start, passing-name, passing-ready, passing-more, passing-done}
use Rattle.rows.proofs.bind_params.Goals as goal

pub loop-i-init : goal.loop-i-init
loop-i-init c = passing-start _ _ _ _ _ c.requires.1

pub param_kind-requires : goal.param_kind-requires
param_kind-requires c = passing-name _ _ _ _ _ _ _ _ c.loop-i.invariant c.loop-i-test.true

pub bind-requires : goal.bind-requires
bind-requires c = passing-ready _ _ _ _ _ _ _ _ _ c.requires.0 c.requires.2 c.loop-i.invariant c.loop-i-test.true c.param_kind.ensures

pub end_of-p-requires : goal.end_of-p-requires
end_of-p-requires c = passing-name _ _ _ _ _ _ _ _ c.loop-i.invariant c.loop-i-test.true

pub loop-i-preserved : goal.loop-i-preserved
loop-i-preserved c = passing-more _ _ _ _ _ _ _ _ _ _ _ c.requires.0 c.requires.2 c.loop-i.invariant c.loop-i-test.true c.param_kind.ensures c.bind.ensures c.end_of-p.ensures

pub returns : goal.returns
returns c = passing-done _ _ _ _ _ _ _ _ c.loop-i.invariant c.loop-i-test.false
