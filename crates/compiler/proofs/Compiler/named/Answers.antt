use Rattle.compiler.specs.FormsA.Leaves as leaves
use Rattle.compiler.specs.FormsA.Asks as asks
use mathlib.Core.Path.{refl}
use Rattle.finds.specs.Gives.{gives-some, gives-none}
use native.Mathlib.Omega.{arith}
use Rattle.puts.specs.Dues.{due-placed, alone-of, bare-of}
use Rattle.compiler.specs.Moves.{ready-low}
use Rattle.compiler.proofs.Compiler.named.Goals as goal

pub find-requires : goal.find-requires
find-requires c =
    let y = c.requires.0.1 in
    let f = asks.stands-fits _ _ c.requires.1 in
    ((y.view, c.requires.0.0, y.seen), omega (arith, leaves.part_length c.args.tree.now c.args.p c.end_of-z.result c.end_of-z.ensures f, y.small, f), leaves.class-small _ _ _ c.requires.3)

pub bare-requires : goal.bare-requires
bare-requires c =
    let y = c.requires.0.1 in
    let f = asks.stands-fits _ _ c.requires.1 in
    asks.lost-fits _ _ _ _ _ _ _ _ _ y (due-placed c.args.o c.args.self.now.st c.requires.2) c.insert_error.ensures.1

pub returns-in_default-clause-is : goal.returns-in_default-clause-is
returns-in_default-clause-is c =
    let y = c.requires.0.1 in
    let f = asks.stands-fits _ _ c.requires.1 in
    λ k al. leaves.lost-code _ _ _ _ _ _ _ _ _ _ _ _ _ _ _ _ _ al c.requires.3 (omega (arith, y.offs)) c.end_of-z.ensures f (gives-none _ _ c.find.ensures c.in_default.is) refl c.insert_error.ensures c.put_error.ensures (bare-of c.args.o _ _ _ _ c.args.self.now.st _ _ _ _ c.requires.2 (ready-low _ _ _ _ _ _ c.requires.0.1) (omega (arith, y.offs, asks.error-state c.args.self.now.st _ _ c.insert_error.ensures.1)) c.bare.ensures)

pub alone-requires : goal.alone-requires
alone-requires c =
    let y = c.requires.0.1 in
    let f = asks.stands-fits _ _ c.requires.1 in
    asks.alone-fits _ _ _ _ _ _ _ _ y (due-placed c.args.o c.args.self.now.st c.requires.2) (omega arith)

pub index-requires : goal.index-requires
index-requires c =
    let y = c.requires.0.1 in
    let f = asks.stands-fits _ _ c.requires.1 in
    let g = gives-some _ _ _ c.find.ensures c.in-Some.is in
    leaves.named-index _ _ _ _ _ y.view c.requires.0.0 y.seen g.0 g.1

pub put_one-requires : goal.put_one-requires
put_one-requires c =
    let y = c.requires.0.1 in
    let f = asks.stands-fits _ _ c.requires.1 in
    asks.alone-spot _ _ _ c.args.self.now.st (due-placed c.args.o c.args.self.now.st c.requires.2) (omega (arith, y.offs)) (omega arith) (alone-of c.args.o _ _ c.args.self.now.st _ _ c.requires.2 (ready-low _ _ _ _ _ _ c.requires.0.1) (ready-low _ _ _ _ _ _ c.requires.0.1) c.alone.ensures).0

pub returns-clause-is : goal.returns-clause-is
returns-clause-is c =
    let y = c.requires.0.1 in
    let f = asks.stands-fits _ _ c.requires.1 in
    let g = gives-some _ _ _ c.find.ensures c.in-Some.is in
    λ k al. leaves.var-code _ _ _ _ _ _ _ _ _ _ _ _ _ _ _ al c.requires.3 (omega (arith, y.offs)) c.end_of-z.ensures g.0 g.1 c.index.ensures (alone-of c.args.o _ _ c.args.self.now.st _ _ c.requires.2 (ready-low _ _ _ _ _ _ c.requires.0.1) (ready-low _ _ _ _ _ _ c.requires.0.1) c.alone.ensures) c.put_one.ensures
