-- `climber::Row::new` meets its contract: each test is one of the definition's. Assumes nothing.
use Rattle.std.proofs.Common.{arith, refl, sym, ◌∙◌}
use Rattle.climber.proofs.Operators.{formed-sides}
use Rattle.climber.proofs.Whole.{long, wrong, many, right}
use Rattle.climber.proofs.Row.new.Goals as goal

pub returns-then-bytes-gt-MOST_BYTES : goal.returns-then-bytes-gt-MOST_BYTES
returns-then-bytes-gt-MOST_BYTES c = long _ c.if-bytes-gt-MOST_BYTES.true

pub returns-then-not-formed : goal.returns-then-not-formed
returns-then-not-formed c = wrong _ c.if-bytes-gt-MOST_BYTES.false (sym c.formed.ensures ∙ c.if-not-formed.true)

pub returns-then-bytes-gt-MOST_OPERATORS : goal.returns-then-bytes-gt-MOST_OPERATORS
returns-then-bytes-gt-MOST_OPERATORS c =
    many _ c.if-bytes-gt-MOST_BYTES.false (sym c.formed.ensures ∙ c.if-not-formed.false) c.if-bytes-gt-MOST_OPERATORS.true

pub invariant_of-result-clause-formed : goal.invariant_of-result-clause-formed
invariant_of-result-clause-formed c = formed-sides _ (sym c.formed.ensures ∙ c.if-not-formed.false)

pub invariant_of-result-clause-few : goal.invariant_of-result-clause-few
invariant_of-result-clause-few c = omega (arith, (formed-sides _ (sym c.formed.ensures ∙ c.if-not-formed.false)).even)

pub returns : goal.returns
returns c = (refl, right _ c.if-bytes-gt-MOST_BYTES.false (sym c.formed.ensures ∙ c.if-not-formed.false) c.if-bytes-gt-MOST_OPERATORS.false)
