use Rattle.records.proofs.Calling.{Going}
use Rattle.records.proofs.put_args.Given as goal

abbrev pub invariant-loop-i : goal.invariant-loop-i
invariant-loop-i l = Going l.tree l.rows l.j l.k l.a l.o l.initial.out l.p l.i l.x l.out
