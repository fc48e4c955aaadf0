-- `finds::is_row` meets its contract: the word is compared first, then the key, then the name. Assumes nothing.
use Rattle.finds.proofs.Seeks.{search-of, no_word, no_key, row_within, same_name}
use Rattle.finds.proofs.is_row.Goals as goal

pub returns-then-rows-j : goal.returns-then-rows-j
returns-then-rows-j c = let a = c.args in no_word a.tree.now a.rows.now a.x.now.name.now a.x.now.word a.x.now.key a.j c.if-rows-j.true

pub returns-then-key_at-x : goal.returns-then-key_at-x
returns-then-key_at-x c = let a = c.args in no_key a.tree.now a.rows.now a.x.now.name.now a.x.now.word a.x.now.key a.j c.if-rows-j.false c.key_at.result c.key_at.ensures c.if-key_at-x.true

pub same-requires : goal.same-requires
same-requires c = let a = c.args in row_within a.tree.now a.rows.now a.x.now.name.now a.x.now.word a.x.now.key a.j (search-of a.x.now) c.requires c.key_at.result c.key_at.ensures c.if-key_at-x.false c.place.result c.place.ensures

pub returns : goal.returns
returns c = let a = c.args in same_name a.tree.now a.rows.now a.x.now.name.now a.x.now.word a.x.now.key a.j (search-of a.x.now) c.requires c.key_at.result c.key_at.ensures c.if-key_at-x.false c.place.result c.place.ensures c.if-rows-j.false c.same.result c.same.ensures
