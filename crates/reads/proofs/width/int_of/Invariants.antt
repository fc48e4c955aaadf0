use Rattle.reads.proofs.Ints.{Reading}
use Rattle.reads.proofs.width.int_of.Given as goal

abbrev pub invariant-loop-digit : goal.invariant-loop-digit
invariant-loop-digit l = Reading l.x l.v l.digit-index
