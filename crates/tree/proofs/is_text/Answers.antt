-- `tree::is_text`: what is left is UTF-8 exactly if the whole is, while only ASCII was passed. Assumes nothing.
use borrow.Author.Rules.{rules}
use Rattle.std.proofs.Common.{tests, ◌∙◌, ◌<◌, get_or}
use Rattle.tree.proofs.Leaves.{text-next, text-rest, text-done}
use Rattle.tree.proofs.is_text.Goals as goal

pub returns-then-not-is_ascii : goal.returns-then-not-is_ascii
returns-then-not-is_ascii c = c.is_utf8-then-not-is_ascii.ensures ∙ text-rest c.args.x.now c.loop-i.i c.loop-i.invariant

pub loop-i-preserved : goal.loop-i-preserved
loop-i-preserved c =
    let k : get_or c.args.x.now c.loop-i.i 0 < 128 = search (rules, tests) in
    text-next c.args.x.now c.loop-i.i c.loop-i-test.true k c.loop-i.invariant

pub returns : goal.returns
returns c = text-done c.args.x.now c.loop-i.i c.loop-i-test.false c.loop-i.invariant
