-- `replay::split_number` meets its contract: four bytes are a number. Assumes nothing.
use Rattle.std.proofs.Common.{arith, ◌∙◌, ◌≤◌, length}
use Rattle.replay.proofs.Numbers.{four-first}
use Rattle.replay.proofs.split_number.Goals as goal

pub returns : goal.returns
returns c =
    let s = c.in_ok-number.ensures.cases in
    let h : 4 ≤ length c.args.bytes.now = omega (arith, s.2) in
    (h, c.from_le_bytes.ensures ∙ rw s.0 (four-first c.args.bytes.now h), s.1)
