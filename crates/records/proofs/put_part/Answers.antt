-- `records::put_part` meets its contract: by the tag a range or an index, which a mark may follow. Assumes nothing.
use native.Mathlib.Omega.{arith}
use Rattle.records.proofs.Paths.{part-fits, index-safe, index-put}
use Rattle.records.proofs.Small.{byte-flag}
use mathlib.Core.Path.{◌∙◌}
use Rattle.records.proofs.put_part.Goals as goal

pub bounds-tree-q : goal.bounds-tree-q
bounds-tree-q c = omega (arith, part-fits _ c.requires.0.0 _ c.requires.0.1)

pub put_range-requires : goal.put_range-requires
put_range-requires c = (c.requires.0, c.if-tree-q.true, c.requires.1)

pub overflow_add-q : goal.overflow_add-q
overflow_add-q c = omega (arith, part-fits _ c.requires.0.0 _ c.requires.0.1)

pub end_of-requires : goal.end_of-requires
end_of-requires c = index-safe _ c.requires.0.0 _ c.requires.0.1 c.if-tree-q.false

pub end_of-requires-2 : goal.end_of-requires-2
end_of-requires-2 c = part-fits _ c.requires.0.0 _ c.requires.0.1

pub returns : goal.returns
returns c = index-put _ _ _ _ _ _ _ _ _ _ _ _ c.if-tree-q.false c.end_of.ensures c.end_of-2.ensures c.put1.ensures c.put_number.ensures (c.from.ensures ∙ byte-flag _) c.put1-2.ensures
