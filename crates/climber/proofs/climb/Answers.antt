-- `climber::climb` meets its contract: a refusal for each test, or the opening and then all operators. Assumes nothing.
use native.Mathlib.Omega.{arith}
use Rattle.climber.proofs.Rows.{starts-head}
use Rattle.climber.proofs.Whole.{refused, no_room, done}
use Rattle.climber.proofs.climb.Goals as goal

pub returns-in_err-row : goal.returns-in_err-row
returns-in_err-row c = refused _ _ _ _ c.in_err-row.ensures c.from_residual.ensures

pub returns-then-length-out : goal.returns-then-length-out
returns-then-length-out c = let row = c.in_ok-row.ensures in rw (← row.0) (no_room _ _ row.1 (omega arith))

pub climb1-requires : goal.climb1-requires
climb1-requires c = (omega arith, omega (arith, c.put.auto.out), starts-head _ _)

pub returns : goal.returns
returns c =
    let row = c.in_ok-row.ensures in
    rw (← row.0, c.count.ensures) (done _ _ row.1 (omega arith) _ _ _ c.put.ensures.1 c.climb1.ensures)
