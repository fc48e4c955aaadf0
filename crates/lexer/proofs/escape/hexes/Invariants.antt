use Rattle.lexer.proofs.Hexes.{Digits}
use Rattle.lexer.proofs.escape.hexes.Given as goal

abbrev pub invariant-loop-i : goal.invariant-loop-i
invariant-loop-i l = Digits l.s l.at l.code l.i
