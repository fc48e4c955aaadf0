-- `Source::through` meets its contract: nesting is refused, or there are errors, or there are tokens. Assumes nothing.
use Rattle.std.proofs.lemmas.Result.{err_from_is_err_and}
use Rattle.lexer.proofs.Entries.{told-deep, due-errors, due-tokens, errors-hold, tokens-hold, scratched}
use Rattle.lexer.proofs.Source.through.Goals as goal

pub returns-in_err-sizes : goal.returns-in_err-sizes
returns-in_err-sizes c =
    let p = err_from_is_err_and c.from_residual.result c.from_residual.ensures.1 in
    rw (p.1, p.2) (told-deep _ _ _ _ _ _ _ c.args.self.begun.few c.in_err-sizes.ensures)

pub list_errors-requires : goal.list_errors-requires
list_errors-requires c =
    let w = c.in_ok-sizes.ensures in
    let h = errors-hold _ _ _ _ _ _ w in
    (due-errors _ _ _ _ _ _ w c.if-sizes-gt4.true, h.size, h.few)

pub list_tokens-requires : goal.list_tokens-requires
list_tokens-requires c =
    let w = c.in_ok-sizes.ensures in
    let h = tokens-hold _ _ _ _ _ _ w in
    (due-tokens _ _ _ _ _ _ w c.if-sizes-gt4.false, h.size, h.few, λ l. scratched _ _ _ _ h l)
