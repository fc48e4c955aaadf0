-- `finds::under::is_def` meets its contract: the name, then the count of parameters. Assumes nothing.
use Rattle.finds.proofs.Unders.{def-here, params_at, def-fits-at, def-other}
use native.Mathlib.Omega.{arith}
use Rattle.finds.proofs.under.is_def.Goals as goal

pub overflow_add-p : goal.overflow_add-p
overflow_add-p c = let a = c.args in let w = def-here a.b.now a.p c.requires.0 c.requires.1 in omega (arith, w.is.name)

pub is_text-requires : goal.is_text-requires
is_text-requires c = let a = c.args in let w = def-here a.b.now a.p c.requires.0 c.requires.1 in w.is.name

pub overflow_add-p-then-is_text : goal.overflow_add-p-then-is_text
overflow_add-p-then-is_text c = let a = c.args in let w = def-here a.b.now a.p c.requires.0 c.requires.1 in omega (arith, w.is.name)

pub end_of-requires : goal.end_of-requires
end_of-requires c = let a = c.args in let w = def-here a.b.now a.p c.requires.0 c.requires.1 in w.is.name

pub params-requires : goal.params-requires
params-requires c = let a = c.args in params_at a.b.now a.p c.requires.0 c.requires.1 c.end_of.result c.end_of.ensures

pub returns-then-is_text : goal.returns-then-is_text
returns-then-is_text c = let a = c.args in def-fits-at a.b.now a.p a.x.now a.a c.is_text.result c.is_text.ensures c.if-is_text.true c.end_of.result c.end_of.ensures c.params.result.a (λ xs t z h. (c.params.ensures xs t z h).0)

pub returns-else-is_text : goal.returns-else-is_text
returns-else-is_text c = let a = c.args in rw c.if-is_text.false (def-other a.b.now a.p a.x.now a.a c.is_text.result c.is_text.ensures c.if-is_text.false)
