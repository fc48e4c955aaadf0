-- `fields::number` meets its contract: what is above two bytes changes neither of them. Assumes nothing.
use Rattle.std.proofs.Common.{◌≡◌, ◌/◌, ◌%◌, refl, ◌∙◌, arith}
use Rattle.fields.specs.Number.{number}
use Rattle.fields.proofs.number.Goals as goal

pub returns : goal.returns
unfolding number
returns c =
    let n = c.args.n in
    let low : n % 65536 % 256 ≡ n % 256 = omega arith in
    let high : n % 65536 / 256 % 256 ≡ n / 256 % 256 = omega arith in
    c.to_le_bytes.ensures ∙ rw (low, high) refl
