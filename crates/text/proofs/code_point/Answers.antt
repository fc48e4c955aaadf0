-- `text::code_point` meets its contract: a row of Table 3-6 for each number of bytes.
-- Assumes nothing.
use Rattle.std.proofs.Common.{◌≡◌, length, arith}
use Rattle.text.specs.Utf8.{bits}
use Rattle.text.proofs.Chars.{bits-four}
use Rattle.text.proofs.code_point.Goals as goal

pub returns-in-empty : goal.returns-in-empty
unfolding bits
returns-in-empty c = let e : length c.args.bytes.now ≡ 0 = omega arith in rw e

pub returns-in-len1 : goal.returns-in-len1
unfolding bits
returns-in-len1 c = let e : length c.args.bytes.now ≡ 1 = omega arith in rw e c.from.ensures

pub returns-in-len2 : goal.returns-in-len2
unfolding bits
returns-in-len2 c = let e : length c.args.bytes.now ≡ 2 = omega arith in rw e (cc)

pub returns-in-len3 : goal.returns-in-len3
unfolding bits
returns-in-len3 c = let e : length c.args.bytes.now ≡ 3 = omega arith in rw e (cc)

pub returns-in-len4-up : goal.returns-in-len4-up
returns-in-len4-up c =
    bits-four _ _ _ _ _ _ c.in-len4-up.len_at_least c.from-in-len4-up.ensures c.from-in-len4-up-2.ensures c.from-in-len4-up-3.ensures c.from-in-len4-up-4.ensures
