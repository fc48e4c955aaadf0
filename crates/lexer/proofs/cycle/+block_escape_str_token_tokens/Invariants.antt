use Prim.Native.Nat.{◌-◌}
use lib.ListN.{length}
use Rattle.lexer.specs.Lex as lex
use Rattle.lexer.proofs.Members as members
use Prim.Native.Nat.{◌+◌, ◌-◌, ◌*◌}
use Rattle.lexer.proofs.cycle.+block_escape_str_token_tokens.Given as goal

abbrev pub decreases-block : goal.decreases-block
decreases-block l = 3 * (length l.s.now - l.at) + l.n + 1

abbrev pub decreases-escape : goal.decreases-escape
decreases-escape l = 3 * (length l.s.now - l.at) + l.n + 2

abbrev pub decreases-str : goal.decreases-str
decreases-str l = 3 * (length l.s.now - l.at) + l.n + 1

abbrev pub decreases-token : goal.decreases-token
decreases-token l = 3 * (length l.s.now - l.at) + l.n + 2

abbrev pub decreases-tokens : goal.decreases-tokens
decreases-tokens l = 3 * (length l.s.now - l.from) + l.n + 3

abbrev pub invariant-str-loop-err : goal.invariant-str-loop-err
invariant-str-loop-err l = members.Going (λ k i. lex.parts k l.s (l.n - 1) i) 1 l.s (l.at + 1) l.p l.initial.out l.out l.initial.err l.err

abbrev pub decreases-str-loop-err : goal.decreases-str-loop-err
decreases-str-loop-err l = length l.s - l.p

abbrev pub invariant-tokens-loop-tag : goal.invariant-tokens-loop-tag
invariant-tokens-loop-tag l = members.Going (λ k i. lex.tokens k l.s l.n i) 3 l.s l.from l.p l.initial.out l.out l.initial.err l.err

abbrev pub decreases-tokens-loop-tag : goal.decreases-tokens-loop-tag
decreases-tokens-loop-tag l = length l.s - l.p
