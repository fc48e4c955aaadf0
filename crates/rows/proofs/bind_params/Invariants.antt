use Rattle.rows.proofs.Params.{Passing}
use Rattle.rows.proofs.bind_params.Given as goal

abbrev pub invariant-loop-i : goal.invariant-loop-i
invariant-loop-i l = Passing l.tree l.initial.rows l.k l.q l.a l.rows l.i l.p
