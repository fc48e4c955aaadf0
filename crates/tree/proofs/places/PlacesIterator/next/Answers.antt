-- `next` of `Places` meets its contract. Assumes nothing.
use native.Mathlib.Omega.{arith}
use Rattle.tree.specs.Places.{chain-fits, chain-rest}
use Rattle.tree.proofs.places.PlacesIterator.next.Goals as goal

pub end_of-self-requires : goal.end_of-self-requires
end_of-self-requires c = omega (arith, c.requires.0, chain-fits _ _ _ c.requires.1 c.if-p-self.true)

pub returns-then-p-self-clause-goes : goal.returns-then-p-self-clause-goes
returns-then-p-self-clause-goes c =
    let h = chain-rest _ _ _ _ c.requires.1 c.if-p-self.true c.end_of-self.ensures in
    record { on = λ _. ((c.requires.0, h), tt, omega (arith, c.end_of-self.ensures, c.if-p-self.true)); keeps = (c.requires.0, h); rests = λ _. tt }
