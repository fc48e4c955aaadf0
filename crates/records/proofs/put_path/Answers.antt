-- `records::put_path` meets its contract: head, count and parts stand one behind the other. Assumes nothing.
use native.Mathlib.Omega.{arith}
use Rattle.cells.specs.Notes.{steps_at}
use mathlib.Core.Path.{sym, ap, ◌∙◌}
use Prim.Native.Nat.{ℕ, ◌+◌}
use Rattle.records.proofs.Paths.{path-put, steps-width}
use Rattle.records.proofs.put_path.Goals as goal

pub put_parts-requires : goal.put_parts-requires
put_parts-requires c = let r = c.requires in record { xs = r.xs; at = r.at; within = r.within; rows = omega (arith, r.notes, r.rows); room = omega (arith, r.wide, r.room) }

pub returns : goal.returns
returns c = λ xs h n e. path-put (steps_at _ xs _) _ _ _ _ _ _ _ _ _ n (e ∙ ap (λ (m : ℕ). 7 + m) (sym (steps-width _ xs _))) c.put_head.ensures c.put_number.ensures (c.put_parts.ensures xs h)
