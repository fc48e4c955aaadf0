-- `tree::modules`: after natives, and after globals where they stand. Assumes nothing.
use native.Mathlib.Omega.{arith}
use mathlib.Core.Path.{sym, ◌∙◌}
use Rattle.tree.proofs.Using.{first_fits, second_fits, with-globals, no-globals}
use Rattle.tree.proofs.modules.Goals as goal

pub end_of-p-requires : goal.end_of-p-requires
end_of-p-requires c = omega (arith, first_fits _ _ c.requires.1)

pub byte-requires : goal.byte-requires
byte-requires c = omega (arith, second_fits c.args.b.now _ c.requires.1 _ c.end_of-p.ensures)

pub end_of-requires : goal.end_of-requires
end_of-requires c = omega (arith, second_fits c.args.b.now _ c.requires.1 _ c.end_of-p.ensures)

pub returns-then-byte : goal.returns-then-byte
returns-then-byte c = λ t h. with-globals _ t h _ c.end_of-p.ensures (sym c.byte.ensures ∙ c.if-byte.true) _ c.end_of.ensures

pub returns : goal.returns
returns c = λ t h. no-globals _ t h _ c.end_of-p.ensures (λ e. c.if-byte.false (c.byte.ensures ∙ e))
