use mathlib.Core.Path.{refl, ap, ◌∙◌}
use native.Mathlib.Omega.{arith}
use borrow.Author.Rules.{rules}
use Rattle.std.proofs.lemmas.Result.{err_from_is_err_and}
use Rattle.lexer.specs.Kind.{kind}
use Rattle.lexer.specs.Meets.{tag_of}
use Rattle.lexer.specs.declared.token.Tag.TheVariants.{Str, Block}
use Rattle.lexer.proofs.Tags.{same-tag, some-tag}
use Rattle.lexer.proofs.Members as members
use Rattle.lexer.proofs.cycle.+block_escape_str_token_tokens.Goals as goal

pub block-returns-then-n-eq0 : goal.block-returns-then-n-eq0
block-returns-then-n-eq0 t c = members.block-deep _ _ _ c.args.out.now c.args.err.now c.if-n-eq0.true

pub block-returns-in_err-p : goal.block-returns-in_err-p
block-returns-in_err-p t c =
    let p = err_from_is_err_and c.from_residual.result c.from_residual.ensures.1 in
    rw (p.1, p.2) (members.block-stop _ _ _ _ _ c.requires.1 c.if-n-eq0.false _ _ c.leave-left.ensures _ _ _ c.in_err-p.ensures)

pub block-returns : goal.block-returns
block-returns t c = members.block-done _ _ _ _ _ c.requires.1 c.if-n-eq0.false _ _ c.leave-left.ensures _ _ _ _ _ _ _ _ _ c.in_ok-p.ensures c.skip.ensures c.byte_at.ensures c.close-end.ensures c.enclose.ensures

pub escape-returns-then-byte_at-eq40 : goal.escape-returns-then-byte_at-eq40
escape-returns-then-byte_at-eq40 t c = members.escape-block _ _ _ _ _ _ _ _ c.byte_at.ensures _ c.if-byte_at-eq40.true c.block.ensures

pub escape-returns : goal.escape-returns
escape-returns t c = members.escape-simple _ _ _ _ _ _ _ _ c.byte_at.ensures _ c.if-byte_at-eq40.false c.simple.ensures

pub str-returns-then-n-eq0 : goal.str-returns-then-n-eq0
str-returns-then-n-eq0 t c = members.str-deep _ _ _ c.args.out.now c.args.err.now c.if-n-eq0.true

pub str-loop-err-init : goal.str-loop-err-init
str-loop-err-init t c = members.go _ _ _ _ _ _ (search rules)

pub str-returns-then-byte_at-ne92 : goal.str-returns-then-byte_at-ne92
str-returns-then-byte_at-ne92 t c = members.str-done _ _ _ _ _ c.requires.1 c.if-n-eq0.false _ _ c.leave-left.ensures _ _ _ c.loop-err.invariant _ _ c.text-q.ensures _ c.byte_at.ensures c.if-byte_at-ne92.true _ _ _ c.quote-end.ensures c.enclose.ensures

pub str-returns-in_err-p : goal.str-returns-in_err-p
str-returns-in_err-p t c =
    let p = err_from_is_err_and c.from_residual.result c.from_residual.ensures.1 in
    rw (p.1, p.2) (members.str-stop _ _ _ _ _ c.requires.1 c.if-n-eq0.false _ _ c.leave-left.ensures _ _ _ c.loop-err.invariant _ _ c.text-q.ensures _ c.byte_at.ensures c.if-byte_at-ne92.false _ _ _ c.in_err-p.ensures)

pub str-loop-err-preserved : goal.str-loop-err-preserved
str-loop-err-preserved t c = members.str-more _ _ _ _ _ c.requires.1 c.if-n-eq0.false _ _ c.leave-left.ensures _ _ _ c.loop-err.invariant _ _ c.text-q.ensures _ c.byte_at.ensures c.if-byte_at-ne92.false _ _ _ c.in_ok-p.ensures

pub token-returns-in-Str : goal.token-returns-in-Str
token-returns-in-Str t c = members.token-str _ _ _ _ _ _ _ _ c.requires.2 _ (ap tag_of c.in-Str.is) c.str.ensures

pub token-returns-in-Block : goal.token-returns-in-Block
token-returns-in-Block t c = members.token_block _ _ _ _ _ _ _ _ c.requires.2 _ (ap tag_of c.in-Block.is) c.block.ensures

pub token-returns-in_default : goal.token-returns-in_default
token-returns-in_default t c =
    let d = c.in_default in
    members.token-leaf _ _ _ _ _ _ _ _ c.requires.2 _ (λ e. d.not-Str (same-tag _ Str e)) (λ e. d.not-Block (same-tag _ Block e)) c.leaf.ensures

pub tokens-loop-tag-init : goal.tokens-loop-tag-init
tokens-loop-tag-init t c = members.go _ _ _ _ _ _ c.requires

pub tokens-returns-in_default : goal.tokens-returns-in_default
tokens-returns-in_default t c = members.tokens-end _ _ _ _ _ _ _ _ c.loop-tag.invariant _ _ 0 c.skip-at.ensures c.byte_at.ensures c.in_default.ensures refl

pub tokens-token-requires : goal.tokens-token-requires
tokens-token-requires t c =
    let b = c.byte_at.ensures in
    let k = c.in-Some.ensures in
    (search rules, (search rules, omega (arith, b.within, members.kind-some _ (λ z. some-tag _ (k ∙ z))), k ∙ ap kind b.is))

pub tokens-returns-in_err-p : goal.tokens-returns-in_err-p
tokens-returns-in_err-p t c =
    let p = err_from_is_err_and c.from_residual.result c.from_residual.ensures.1 in
    rw (p.1, p.2) (members.tokens-deep _ _ _ _ _ _ _ _ c.loop-tag.invariant _ _ _ c.skip-at.ensures c.byte_at.ensures c.in-Some.ensures _ _ (some-tag _) _ c.in_err-p.ensures)

pub tokens-loop-tag-preserved : goal.tokens-loop-tag-preserved
tokens-loop-tag-preserved t c = members.tokens-more _ _ _ _ _ _ _ _ c.loop-tag.invariant _ _ _ c.skip-at.ensures c.byte_at.ensures c.in-Some.ensures _ _ (some-tag _) _ c.in_ok-p.ensures
