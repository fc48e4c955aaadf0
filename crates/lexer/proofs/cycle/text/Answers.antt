-- `cycle::text` meets its contract: the bytes up to a `\` or a quote. Assumes nothing.
use native.Mathlib.Omega.{arith}
use Rattle.lexer.specs.Lex.{text_byte}
use Rattle.lexer.proofs.Pieces.{text-is}
use Rattle.lexer.proofs.cycle.text.Goals as goal

pub put_text-requires : goal.put_text-requires
put_text-requires c =
    let w = c.past-end.ensures text_byte (λ b r q. q) in
    (omega (arith, c.requires.paid, c.requires.place), w.low)

pub returns : goal.returns
returns c = text-is _ _ _ _ _ (c.past-end.ensures text_byte (λ b r q. q)) c.put_text.ensures
