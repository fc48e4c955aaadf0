-- `space::skip` meets its contract: nothing is skipped, or one space, or what `space` skips. Assumes nothing.
use mathlib.Core.Path.{sym, ◌∙◌}
use Rattle.lexer.proofs.Spacing.{begin, one-space, halt}
use borrow.Author.Rules.{rules}
use Rattle.lexer.proofs.space.skip.Goals as goal

pub returns-then-bare : goal.returns-then-bare
returns-then-bare c = halt _ _ _ _ (begin _ _ (search rules)) c.byte_at-b.ensures (sym c.bare.ensures ∙ c.if-bare.true)

pub returns-then-bare-2 : goal.returns-then-bare-2
returns-then-bare-2 c =
    halt _ _ _ _
    (one-space _ _ _ _ (begin _ _ (search rules)) c.byte_at-b.ensures c.if-b-eq32.true)
    c.byte_at.ensures
    (sym c.bare-then-b-eq32.ensures ∙ c.if-bare-2.true)
