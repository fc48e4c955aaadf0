-- `put::put_int` meets its contract. Assumes nothing.
use mathlib.Core.Path.{refl}
use mathlib.Core.List.{[], ◌∷◌}
use Prim.Native.Nat.{◌+◌}
use Rattle.fields.specs.Number.{number}
use Rattle.fields.specs.Field.{field}
use Rattle.puts.specs.Runs.{run-then}
use Rattle.puts.proofs.Wide.{eight}
use Rattle.puts.proofs.put.put_int.Goals as goal

pub returns : goal.returns
unfolding field number
returns c =
    let a = c.args in
    run-then a.out.now a.o (0x53 ∷ 8 ∷ 0 ∷ []) (number 8 a.x) (a.o + 3) _ _ refl c.put_bytes.ensures (rw (c.to_le_bytes.ensures, eight a.x) at c.put_bytes-2.ensures)
