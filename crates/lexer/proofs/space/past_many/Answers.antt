-- `space::past_many` meets its contract: a block of the class is passed whole. Assumes nothing.
use mathlib.Core.Path.{sym, ◌∙◌}
use Rattle.lexer.proofs.Past.{onward, tail-is, tail-going}
use native.Mathlib.Omega.{arith}
use Rattle.lexer.proofs.space.past_many.Goals as goal

pub loop-block-preserved : goal.loop-block-preserved
loop-block-preserved g c =
    let l = c.loop-block.invariant in
    let e = c.in-Some.ensures.cases in
    record {
      short = omega (arith, l.short, e.2);
      is = tail-is _ _ _ _ l.short e.2 l.is e.1;
      going = λ p t. tail-going p _ _ _ _ _ _ l.short e.2 l.is e.0 (l.going p t) (sym (c.all_of.ensures p t) ∙ c.if-not-all_of.false);
    }

pub returns : goal.returns
returns g c = λ p t. onward p _ _ _ _ (c.loop-block.invariant.going p t) (c.past.ensures p t)
