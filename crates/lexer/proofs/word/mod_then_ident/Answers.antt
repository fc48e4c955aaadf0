-- `word::mod_then_ident` meets its contract: with `::`, with one `:`, and without. Assumes nothing.
use Rattle.lexer.proofs.Words.{mod-there, mod-half, mod-none}
use Rattle.lexer.proofs.word.mod_then_ident.Goals.{else-byte_at-eq58-via-then-byte_at-eq58+else-byte_at-eq58-2, else-byte_at-eq58-via-else-byte_at-eq58}
use Rattle.lexer.proofs.word.mod_then_ident.Goals as goal

pub returns-then-byte_at-eq58-2 : goal.returns-then-byte_at-eq58-2
returns-then-byte_at-eq58-2 c = mod-there _ _ _ _ c.ident0-a.ensures _ _ _ _ _ c.byte_at.ensures c.if-byte_at-eq58.true c.byte_at-then-byte_at-eq58.ensures c.if-byte_at-eq58-2.true c.optional.ensures c.ident1.ensures

pub returns : goal.returns
returns c = elim c.else-byte_at-eq58.branch [
  | else-byte_at-eq58-via-then-byte_at-eq58+else-byte_at-eq58-2 w ↦ mod-half _ _ _ _ c.ident0-a.ensures _ _ c.byte_at.ensures w.if-byte_at-eq58.true w.byte_at-then-byte_at-eq58.ensures w.if-byte_at-eq58-2.false
  | else-byte_at-eq58-via-else-byte_at-eq58 w ↦ mod-none _ _ _ _ c.ident0-a.ensures _ c.byte_at.ensures w.if-byte_at-eq58.false
]
