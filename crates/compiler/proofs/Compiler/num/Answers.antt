use Rattle.compiler.specs.FormsA.Leaves as leaves
use Rattle.compiler.specs.FormsA.Asks as asks
use native.Mathlib.Omega.{arith}
use Rattle.puts.specs.Dues.{due-placed, alone-of}
use mathlib.Core.Path.{refl}
use Rattle.compiler.proofs.Compiler.num.Goals as goal

pub end_of-z-requires : goal.end_of-z-requires
end_of-z-requires c =
    let f = asks.stands-fits _ _ c.requires.0 in
    f

pub slice_bounds-int_of-end : goal.slice_bounds-int_of-end
slice_bounds-int_of-end c =
    let f = asks.stands-fits _ _ c.requires.0 in
    omega (arith, f, c.end_of-z.ensures)

pub alone-requires : goal.alone-requires
alone-requires c =
    let f = asks.stands-fits _ _ c.requires.0 in
    asks.alone-small _ _ c.args.self.now.st (due-placed c.args.o c.args.self.now.st c.requires.1) c.requires.4 (omega arith)

pub put_int-requires : goal.put_int-requires
put_int-requires c =
    let f = asks.stands-fits _ _ c.requires.0 in
    asks.alone-spot _ _ _ c.args.self.now.st (due-placed c.args.o c.args.self.now.st c.requires.1) c.requires.4 (omega arith) (alone-of c.args.o _ _ c.args.self.now.st _ _ c.requires.1 (omega (arith, c.requires.4)) (omega (arith, c.requires.4)) c.alone.ensures).0

pub returns-in-Some-clause-is : goal.returns-in-Some-clause-is
returns-in-Some-clause-is c =
    let i = c.in-Some.ensures in
    λ k al. leaves.int-code _ _ _ _ _ _ _ _ _ _ _ _ al c.requires.2 (omega (arith, c.requires.4)) c.end_of-z.ensures i.1 (omega (arith, i.0, i.1)) (alone-of c.args.o _ _ c.args.self.now.st _ _ c.requires.1 (omega (arith, c.requires.4)) (omega (arith, c.requires.4)) c.alone.ensures) c.put_int.ensures

pub alone-requires-2 : goal.alone-requires-2
alone-requires-2 c =
    let f = asks.stands-fits _ _ c.requires.0 in
    asks.alone-small _ _ c.args.self.now.st (due-placed c.args.o c.args.self.now.st c.requires.1) c.requires.4 (omega (arith, f, c.end_of-z.ensures, c.requires.3))

pub slice_bounds-put_text-end : goal.slice_bounds-put_text-end
slice_bounds-put_text-end c =
    let f = asks.stands-fits _ _ c.requires.0 in
    omega (arith, f, c.end_of-z.ensures)

pub slice_bounds-put_text-end-2 : goal.slice_bounds-put_text-end-2
slice_bounds-put_text-end-2 c =
    let f = asks.stands-fits _ _ c.requires.0 in
    omega (arith, f, c.end_of-z.ensures)

pub put_text-requires : goal.put_text-requires
put_text-requires c =
    let f = asks.stands-fits _ _ c.requires.0 in
    asks.text-fits c.args.tree.now c.args.p _ _ _ c.args.self.now.st (due-placed c.args.o c.args.self.now.st c.requires.1) c.requires.4 c.end_of-z.ensures f c.requires.3 (alone-of c.args.o _ _ c.args.self.now.st _ _ c.requires.1 (omega (arith, c.requires.4)) (omega (arith, c.requires.4)) c.alone-2.ensures).0

pub returns-clause-is : goal.returns-clause-is
returns-clause-is c =
    let f = asks.stands-fits _ _ c.requires.0 in
    λ k al. leaves.num-code _ _ _ _ _ _ _ _ _ _ _ _ al c.requires.2 (omega (arith, c.requires.4)) c.end_of-z.ensures refl (omega (arith, c.in_default.ensures)) f (alone-of c.args.o _ _ c.args.self.now.st _ _ c.requires.1 (omega (arith, c.requires.4)) (omega (arith, c.requires.4)) c.alone-2.ensures) c.put_text.ensures
