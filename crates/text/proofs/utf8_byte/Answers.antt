-- `text::utf8_byte` meets its contract: a character's bytes are those that std writes, and other numbers have none.
-- Assumes nothing.
use Rattle.std.proofs.Common.{◌∙◌, ap, ℕ, arith}
use Rattle.std.proofs.lemmas.Grind.{common_steps}
use Rattle.std.specs.Option.{unwrap_or}
use Rattle.text.proofs.Library.{by-char, encode-same, no-bytes}
use Rattle.text.proofs.utf8_byte.Goals as goal

pub returns : goal.returns
returns c =
    let a = c.args in
    by-char a.c _ _ _ c.from_u32.ensures.value c.and_then.ensures
    (λ n e. rw (no-bytes a.c n) (c.unwrap_or.ensures ∙ ap (λ o. unwrap_or {T = ℕ} o 0) e))
    (λ y e. grind (arith, common_steps, encode-same))
