-- A string that is one text: its own record is reserved, ToString put, then the text.
use native.Mathlib.Omega.{arith}
use Rattle.puts.specs.Dues.{due-placed, reserve-of, place-spot, place-next}
use mathlib.Core.Path.{refl, sym, ap}
use lib.ListN.{length}
use Rattle.reads.specs.Texts.{text-slice}
use Rattle.reads.specs.Shapes.{text-length}
use Rattle.compiler.specs.FormsC.Noting.{reserved, inserted, placed-low, spot-low}
use Rattle.compiler.specs.FormsC.Quoted.{plain-is}
use Rattle.compiler.proofs.plain.Goals as goal

pub reserve-requires : goal.reserve-requires
reserve-requires c =
    let b = c.args.tree.now in
    let st = c.args.st.now in
    omega (arith, placed-low _ st (due-placed c.args.o st c.requires.5) (omega (arith, c.requires.4)), c.requires.1, c.requires.2)

pub insert-requires : goal.insert-requires
insert-requires c =
    let b = c.args.tree.now in
    let st = c.args.st.now in
    let a = reserved _ _ st _ (reserve-of c.args.o _ st _ (omega (arith, c.requires.4)) c.reserve.ensures) in
    (omega (arith, a.0, c.requires.3), omega (arith, a.1, c.requires.1, c.requires.2, c.requires.4))

pub put_bare-requires : goal.put_bare-requires
put_bare-requires c =
    let b = c.args.tree.now in
    let st = c.args.st.now in
    let a = reserved _ _ st _ (reserve-of c.args.o _ st _ (omega (arith, c.requires.4)) c.reserve.ensures) in
    omega (arith, c.insert.ensures.0, a.1, c.requires.1, c.requires.2, c.requires.4)

pub place-requires : goal.place-requires
place-requires c =
    let b = c.args.tree.now in
    let st = c.args.st.now in
    let a = reserved _ _ st _ (reserve-of c.args.o _ st _ (omega (arith, c.requires.4)) c.reserve.ensures) in
    let i = inserted _ c.reserve.new.self _ c.insert.ensures.1 in
    omega (arith, i.1, a.1, c.requires.1, c.requires.2, c.requires.4)

pub put_text-requires : goal.put_text-requires
put_text-requires c =
    let b = c.args.tree.now in
    let st = c.args.st.now in
    let a = reserved _ _ st _ (reserve-of c.args.o _ st _ (omega (arith, c.requires.4)) c.reserve.ensures) in
    let i = inserted _ c.reserve.new.self _ c.insert.ensures.1 in
    let x = spot-low _ _ st c.insert.new.self (due-placed c.args.o st c.requires.5) (omega (arith, c.requires.4)) (omega (arith, i.1, a.1, c.requires.1, c.requires.2, c.requires.4)) (place-spot c.args.o _ _ st c.requires.5 (omega (arith, c.requires.4)) c.place.ensures.0) in
    omega (arith, x, c.requires.1, c.requires.2, ap length (text-slice b c.args.q c.args.z (sym c.requires.0)), text-length b c.args.q (omega (arith, c.requires.0, c.requires.1)))

pub returns : goal.returns
returns c =
    let b = c.args.tree.now in
    let st = c.args.st.now in
    (plain-is b _ _ _ _ _ _ _ _ _ _ _ _ _ _ c.requires.0 c.requires.1 refl (reserve-of c.args.o _ st _ (omega (arith, c.requires.4)) c.reserve.ensures) c.insert.ensures.0 c.insert.ensures.1 c.put_bare.ensures (place-spot c.args.o _ _ st c.requires.5 (omega (arith, c.requires.4)) c.place.ensures.0) (place-next c.args.o _ st _ _ c.requires.5 (omega (arith, c.requires.4)) c.place.ensures.1) (text-slice b c.args.q c.args.z (sym c.requires.0)) c.put_text.ensures, refl)
