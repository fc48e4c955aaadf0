-- `path_width` meets its contract. Assumes nothing.
use native.Mathlib.Omega.{arith}
use Rattle.reads.proofs.Owns.{path-fits, path-parts, path-own}
use Rattle.reads.proofs.width.path_width.Goals as goal

pub overflow_add-p : goal.overflow_add-p
overflow_add-p c = let a = c.args in let b = a.b.now in let s = c.requires in let f = path-fits b _ s.1 s.0.0 s.0.1 in omega (arith, f.1)

pub end_of-requires : goal.end_of-requires
end_of-requires c = let a = c.args in let b = a.b.now in let s = c.requires in let f = path-fits b _ s.1 s.0.0 s.0.1 in f.1

pub end_of-requires-2 : goal.end_of-requires-2
end_of-requires-2 c = let a = c.args in let b = a.b.now in let s = c.requires in let f = path-fits b _ s.1 s.0.0 s.0.1 in f.0

pub parts_width-requires : goal.parts_width-requires
parts_width-requires c = let a = c.args in let b = a.b.now in let s = c.requires in let f = path-fits b _ s.1 s.0.0 s.0.1 in (omega (arith, f.0, c.end_of-2.ensures), path-parts b _ s.1 _ _ c.end_of.ensures c.end_of-2.ensures s.0.0 s.0.1)

pub overflow_add-result : goal.overflow_add-result
overflow_add-result c = let a = c.args in let b = a.b.now in let s = c.requires in let f = path-fits b _ s.1 s.0.0 s.0.1 in omega (arith, f.0, c.parts_width.ensures.1, c.end_of-2.ensures, c.end_of.ensures)

pub returns : goal.returns
returns c = let a = c.args in let b = a.b.now in let s = c.requires in let f = path-fits b _ s.1 s.0.0 s.0.1 in (path-own b _ s.1 _ _ _ c.end_of.ensures c.end_of-2.ensures c.parts_width.ensures.0, omega (arith, f.0, c.parts_width.ensures.1, c.end_of-2.ensures, c.end_of.ensures))
