-- `calls::bit` meets its contract. Assumes nothing.
use Rattle.puts.proofs.Masks.{shl-bit, high_bit}
use Rattle.puts.proofs.calls.bit.Goals as goal

pub returns-then-l-lt64 : goal.returns-then-l-lt64
returns-then-l-lt64 c = shl-bit _ c.if-l-lt64.true

pub returns : goal.returns
returns c = high_bit _ c.if-l-lt64.false
