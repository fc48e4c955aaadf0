-- `records::put_string` meets its contract: by the tag a text, a character, or a term put into the format. Assumes nothing.
use Rattle.reads.specs.Texts.{text-slice}
use Rattle.puts.specs.Runs.{utf8-few}
use native.Mathlib.Omega.{arith}
use Rattle.records.proofs.Strings.{string-fits, text-put, char-fits, char-put, term-put, text-size, text-long}
use Rattle.records.proofs.put_string.Goals as goal

pub bounds-tree-q : goal.bounds-tree-q
bounds-tree-q c = omega (arith, string-fits _ c.requires.0 _ c.requires.1)

pub end_of-z-requires : goal.end_of-z-requires
end_of-z-requires c = string-fits _ c.requires.0 _ c.requires.1

pub slice_bounds-put_text-end : goal.slice_bounds-put_text-end
slice_bounds-put_text-end c = rw c.end_of-z.ensures (string-fits _ c.requires.0 _ c.requires.1)

pub put_text-requires : goal.put_text-requires
put_text-requires c = omega (arith, text-size _ _ c.args.f c.args.a c.requires.0 c.requires.1 c.if-tag.true, c.requires.2, text-long c.args.tree.now _ _ c.end_of-z.ensures (string-fits _ c.requires.0 _ c.requires.1))

pub overflow_add-result : goal.overflow_add-result
overflow_add-result c = omega (arith, text-size _ _ c.args.f c.args.a c.requires.0 c.requires.1 c.if-tag.true, c.requires.2, c.end_of-z.ensures)

pub returns-then-tag : goal.returns-then-tag
returns-then-tag c = text-put _ _ _ _ _ _ _ _ _ c.if-tag.true c.end_of-z.ensures (text-slice c.args.tree.now _ _ c.end_of-z.ensures) c.put_text.ensures

pub char_at-c-requires : goal.char_at-c-requires
char_at-c-requires c = char-fits _ c.requires.0 _ c.requires.1 c.if-tag-2.true

pub overflow_add-result-then-tag-2-2 : goal.overflow_add-result-then-tag-2-2
overflow_add-result-then-tag-2-2 c = omega (arith, c.utf8_len.ensures, utf8-few c.char_at-c.result, c.requires.2)

pub returns-then-tag-2 : goal.returns-then-tag-2
returns-then-tag-2 c = char-put _ _ _ _ _ _ _ _ _ c.if-tag-2.true c.char_at-c.ensures c.utf8_len.ensures c.put_char.ensures

pub returns : goal.returns
returns c = term-put _ _ _ _ _ _ _ c.if-tag.false c.if-tag-2.false c.put_mid.ensures
