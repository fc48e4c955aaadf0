-- `rows::enter`: parameters, then the definition itself. Assumes nothing.
use mathlib.Core.Path.{refl}
use native.Mathlib.Omega.{arith}
use Rattle.rows.proofs.Params.{enter-params, enter-push, enter-done, enter-level}
use Rattle.rows.proofs.enter.Goals as goal

pub bind_params-requires : goal.bind_params-requires
bind_params-requires c = let p = c.requires in enter-params _ _ _ _ _ _ p.0 p.1 p.2 p.3 c.end_of.ensures

pub push-requires : goal.push-requires
push-requires c = let p = c.requires in enter-push _ _ _ _ _ _ _ _ _ _ p.0 p.1 p.2 p.3 p.4 c.end_of.ensures refl refl c.bind_params.ensures

pub overflow_add-rows : goal.overflow_add-rows
overflow_add-rows c = let p = c.requires in omega (arith, enter-level _ _ _ _ _ p.0 p.3)

pub returns : goal.returns
returns c = let p = c.requires in enter-done _ _ _ _ _ _ _ _ _ _ _ p.0 p.1 p.2 p.3 p.4 c.end_of.ensures refl refl c.bind_params.ensures c.push.ensures
