-- `Source::whole` meets its contract: the editions, the top tokens, and what follows them. Assumes nothing.
use native.Mathlib.Omega.{arith}
use Rattle.std.proofs.lemmas.Result.{err_from_is_err_and}
use Rattle.lexer.proofs.Wholes.{begins, goes_on, whole-stops, whole-reads}
use Rattle.lexer.proofs.Source.whole.Goals as goal

pub tokens-requires : goal.tokens-requires
tokens-requires c = begins _ _ c.args.self.begun _ _ _ c.new-tokens.result _ c.new-errors.result c.new-tokens.ensures.opened c.new-errors.ensures.opened

pub rest-requires : goal.rest-requires
rest-requires c = goes_on _ _ c.args.self.begun c.args.out.now _ _ _ _ _ c.new-errors.ensures.opened _ c.in_ok-at.ensures

pub returns-in_err-at : goal.returns-in_err-at
returns-in_err-at c =
    let p = err_from_is_err_and c.from_residual.result c.from_residual.ensures.1 in
    rw (p.1, p.2) (whole-stops _ _ c.args.self.begun c.args.out.now c.args.err.now _ _ _ _ _ _ _ c.in_err-at.ensures)

pub returns : goal.returns
returns c = whole-reads _ _ c.args.self.begun _ _ _ _ _ _ c.new-tokens.ensures.opened c.new-errors.ensures.opened _ c.in_ok-at.ensures _ c.rest.ensures _ _ (grind arith) (grind arith)
