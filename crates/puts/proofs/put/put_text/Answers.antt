-- `put::put_text` meets its contract. Assumes nothing.
use mathlib.Core.Path.{refl}
use mathlib.Core.List.{◌∷◌}
use Prim.Native.Nat.{◌+◌}
use lib.ListN.{length}
use Rattle.fields.specs.Number.{number}
use Rattle.fields.specs.Field.{field}
use Rattle.puts.specs.Runs.{run-then, byte-then}
use Rattle.puts.proofs.put.put_text.Goals as goal

pub returns : goal.returns
unfolding field number
returns c =
    let a = c.args in
    run-then a.out.now a.o (a.tag ∷ number 2 (length a.x.now)) a.x.now (a.o + 3) _ _ refl
    (byte-then a.out.now a.o a.tag (number 2 (length a.x.now)) _ _ c.put1.ensures c.put_number.ensures)
    c.put.ensures.1
