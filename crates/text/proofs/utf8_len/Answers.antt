-- `text::utf8_len` meets its contract: a character's bytes are those that std writes, and other numbers have none.
-- Assumes nothing.
use Rattle.std.proofs.Common.{◌∙◌, ap, sym, length}
use Rattle.text.proofs.Library.{by-char, encode-same, no-bytes}
use Rattle.text.proofs.utf8_len.Goals as goal

pub returns : goal.returns
returns c =
    let a = c.args in
    by-char a.c _ _ _ c.from_u32.ensures.value c.map_or.ensures
    (λ n e. e ∙ sym (ap length (no-bytes a.c n)))
    (λ y e. e.1.1.1.0 ∙ ap length (encode-same a.c y))
